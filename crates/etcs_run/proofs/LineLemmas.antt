-- The end of the first line of a text.
use Rattle.std.proofs.Common.{◌≡◌, ◌<◌, ◌≤◌, ◌+◌, ◌-◌, ◌==◌, ◌++◌, ℕ, zero, suc, Bool, true, false, List, [], ◌∷◌, length, take, drop, slice_index, refl, sym, ap, ◌∙◌, arith, length-take, subst}
use Rattle.std.proofs.lemmas.List.{drop-take, drop-drop}
use Rattle.std.proofs.Math.Seq.{take-length}
use Rattle.memchr.specs.Find.{NoneBefore}
use Rattle.etcs_run.specs.TextLines.{HasLine, IsLine, split_lines, onto_first}

false_unless_true : (b : Bool) → (b ≡ true → ⊥) → b ≡ false
false_unless_true true not_true = absurd (not_true refl)
false_unless_true false not_true = refl

is_ten : (x : ℕ) → (x == 10) ≡ true → x ≡ 10
is_ten x h = grind arith

-- there is a `\n` at this place, in the words of the search for it
abbrev IsTen : List ℕ → ℕ → Type 0
IsTen xs k = (slice_index xs k == 10) ≡ true

-- the bytes before the first `\n` are a line
pub IsLine-take : (xs : List ℕ) (n : ℕ) → n ≤ length xs
    → ((k : ℕ) → 0 ≤ k → k < n → IsTen xs k → ⊥) → IsLine (take n xs)
IsLine-take xs zero within none = tt
IsLine-take [] (suc n) within none = tt
IsLine-take (x ∷ xs) (suc n) within none = (
  false_unless_true (x == 10) (none 0 (omega arith) (omega arith)),
  IsLine-take xs n (omega arith) (λ k low high. none (suc k) (omega arith) (omega arith)),
)

-- a `\n` cuts the held bytes in two
pub split_at : (xs : List ℕ) (i : ℕ) → i < length xs → IsTen xs i
    → xs ≡ take i xs ++ 10 ∷ drop (i + 1) xs
split_at [] i within ten = absurd (omega arith)
split_at (x ∷ xs) zero within ten = ap (λ y. y ∷ xs) (is_ten x ten)
split_at (x ∷ xs) (suc i) within ten =
    let next : suc i + 1 ≡ suc (i + 1) = omega arith in
    rw next (ap (λ ys. x ∷ ys) (split_at xs i (omega arith) ten))

-- the bytes held of a block, from `from` up to `to`
abbrev window : List ℕ → ℕ → ℕ → List ℕ
window xs from to = take (to - from) (drop from xs)

-- the held bytes after a place among them
pub window-after : (xs : List ℕ) (from to i : ℕ) → i < to - from
    → window xs (from + (i + 1)) to ≡ drop (i + 1) (window xs from to)
window-after xs from to i within =
    let left = to - (from + (i + 1)) in
    let e : to - from ≡ (i + 1) + left = omega arith in
    sym (ap (λ n. drop (i + 1) (take n (drop from xs))) e ∙ drop-take (i + 1) left (drop from xs)
    ∙ ap (take left) (drop-drop (i + 1) from xs))

-- the first `\n` among the held bytes cuts them into a line and the rest
pub found : (xs d : List ℕ) (from to i : ℕ) → d ≡ xs
    → NoneBefore (λ k. IsTen (window d from to) k) 0 (length (window d from to)) i
    → IsTen (window d from to) i
    → IsLine (take i (window xs from to))
    × (window xs from to ≡ take i (window xs from to) ++ 10 ∷ window xs (from + (i + 1)) to)
found xs d from to i same first ten =
    let First : List ℕ → Type 0 =
    λ d. NoneBefore (λ k. IsTen (window d from to) k) 0 (length (window d from to)) i in
    let Ten : List ℕ → Type 0 = λ d. IsTen (window d from to) i in
    let first : First xs = subst First same first in
    let ten : Ten xs = subst Ten same ten in
    let within : i < length (window xs from to) = first.high in
    let room : i < to - from = omega (arith, length-take (to - from) (drop from xs)) in (
      IsLine-take _ i (omega arith) first.before,
      split_at _ i within ten
          ∙ ap (λ r. take i (window xs from to) ++ 10 ∷ r) (sym (window-after xs from to i room)),
    )

-- held bytes without a `\n` all belong to one line
pub not_found : (xs d : List ℕ) → d ≡ xs
    → ((k : ℕ) → 0 ≤ k → k < length d → IsTen d k → ⊥) → IsLine xs
not_found xs d same none =
    let None : List ℕ → Type 0 = λ d. (k : ℕ) → 0 ≤ k → k < length d → IsTen d k → ⊥ in
    let none : None xs = subst None same none in
    subst IsLine (take-length xs) (IsLine-take xs (length xs) (omega arith) none)

-- a line grows by bytes without a `\n`
pub IsLine-append : (a b : List ℕ) → IsLine a → IsLine b → IsLine (a ++ b)
IsLine-append [] b before after = after
IsLine-append (x ∷ a) b before after = (before.0, IsLine-append a b before.1 after)

-- a line that ends at a `\n` comes first
pub split_lines-line : (a s : List ℕ) → IsLine a → split_lines (a ++ 10 ∷ s) ≡ a ∷ split_lines s
unfolding split_lines
split_lines-line [] s plain = refl
split_lines-line (x ∷ a) s plain = rw (plain.0, split_lines-line a s plain.1) refl

-- a last line that has no `\n` is the only one
pub split_lines-last : (x : ℕ) (a : List ℕ) → IsLine (x ∷ a) → split_lines (x ∷ a) ≡ (x ∷ a) ∷ split_lines []
unfolding split_lines
split_lines-last x [] plain = rw plain.0 refl
split_lines-last x (y ∷ a) plain = rw plain.0 (ap (onto_first x) (split_lines-last y a plain.1))

-- bytes without a `\n` have no complete line
no_line_end : (front rest : List ℕ) → IsLine (front ++ 10 ∷ rest) → ⊥
no_line_end [] rest plain = cc plain.0
no_line_end (x ∷ front) rest plain = no_line_end front rest plain.1

pub no_line_in : {start held : List ℕ} → HasLine start → held ≡ start → IsLine held → ⊥
no_line_in has same plain = no_line_end has.0 has.1 (subst IsLine (same ∙ has.2) plain)

-- an input without a byte has no line
pub no_first : {line : List ℕ} {lines : List (List ℕ)} → split_lines [] ≡ line ∷ lines → ⊥
unfolding split_lines
no_first is = cc is
