-- The search for the end of a line, block by block.
use Rattle.std.proofs.Common.{◌≡◌, ◌++◌, ◌==◌, ◌↔◌, ℕ, Bool, true, false, not, List, [], ◌∷◌, length, Option, Some, None, Ok, IfSome, refl, sym, ap, ◌∙◌, append_assoc, arith}
use Rattle.std.proofs.lemmas.List.{append-nil}
use Rattle.std.proofs.lemmas.Bool.Decides.{nat_tests}
use Rattle.std.specs.Io.KnownBytes.{Consumes, IsAtEnd}
use Rattle.etcs_run.specs.TextLines.{IsLine, split_lines}
use Rattle.etcs_run.specs.LineReading.{GivesLine, Grows, MovesLine, Reads, held_bytes}
use Rattle.etcs_run.specs.declared.text_lines.TextLines.{TextLines}
use Rattle.etcs_run.proofs.LineLemmas.{IsLine-append, split_lines-last, split_lines-line, no_first}
use Rattle.etcs_run.proofs.StreamLemmas.{Consumes-then}

-- The state while a line is searched. These bytes were read, none if the end was reached before. The
-- bytes held at the start and these bytes are the line so far and the held bytes.
pub record Filling (remaining_old remaining_new : Option (List ℕ)) (had_ended : Bool)
    (start line held : List ℕ) : Type 0 where
  pub bytes : List ℕ
  pub quiet : had_ended ≡ true → bytes ≡ []
  pub consumed : Consumes remaining_old remaining_new bytes
  pub whole : start ++ bytes ≡ line ++ held
  pub plain : IsLine line

-- all held bytes were moved to the line
pub Filling-moved : {a b : Option (List ℕ)} {had_ended : Bool} {start line held now : List ℕ}
    → Filling a b had_ended start line held → now ≡ line ++ held → IsLine held
    → Filling a b had_ended start now []
Filling-moved {line} {held} {now} filling grown plain = record {
  bytes = filling.bytes;
  quiet = filling.quiet;
  consumed = filling.consumed;
  whole = filling.whole ∙ sym grown ∙ sym (append-nil now);
  plain = rw grown (IsLine-append line held filling.plain plain);
}

-- more bytes were read
pub Filling-filled : {a b c : Option (List ℕ)} {had_ended : Bool} {start line more : List ℕ}
    → Filling a b had_ended start line [] → (had_ended ≡ true → more ≡ []) → Consumes b c more
    → Filling a c had_ended start line more
Filling-filled {a} {b} {c} {start} {line} {more} filling none read = record {
  bytes = filling.bytes ++ more;
  quiet = λ ended. rw (filling.quiet ended, none ended) refl;
  consumed = Consumes-then a b c filling.bytes more filling.consumed read;
  whole = sym (append_assoc start filling.bytes more)
      ∙ ap (λ r. r ++ more) (filling.whole ∙ append-nil line);
  plain = filling.plain;
}

-- a `\n` was held, so the line is complete
pub Filling-cut : {a b : Option (List ℕ)} {had_ended : Bool} {start line held now rest : List ℕ}
    {ended : Bool} (front : List ℕ) → Filling a b had_ended start line held → now ≡ line ++ front
    → IsLine front → held ≡ front ++ 10 ∷ rest
    → Reads a b had_ended start now rest ended (Ok true)
Filling-cut {start} {line} {now} {rest} front filling grown plain cut = record {
  bytes = filling.bytes;
  quiet = filling.quiet;
  consumed = filling.consumed;
  gives = λ t may.
      let whole : start ++ filling.bytes ≡ now ++ 10 ∷ rest =
      filling.whole ∙ ap (λ r. line ++ r) cut ∙ sym (append_assoc line front (10 ∷ rest))
      ∙ ap (λ r. r ++ 10 ∷ rest) (sym grown) in
      let plain_now : IsLine now = rw grown (IsLine-append line front filling.plain plain) in
      ap (λ r. split_lines (r ++ t)) whole ∙ ap split_lines (append_assoc now (10 ∷ rest) t)
      ∙ split_lines-line now (rest ++ t) plain_now;
}

is_long : (x : ℕ) (line : List ℕ) → not (length (x ∷ line) == 0) ≡ true
is_long x line = grind (arith, nat_tests)

-- at the end of the input the bytes left are the last line, if there are any
last_gives : (line bytes : List ℕ) (ended found : Bool) → found ≡ not (length line == 0)
    → bytes ≡ line → IsLine line → ended ≡ true → GivesLine (Ok found) bytes line [] ended
last_gives [] bytes ended found is same plain end = rw is (end, same, refl)
last_gives (x ∷ line) bytes ended found is same plain end = rw (is ∙ is_long x line) (λ t may.
    let nothing : t ≡ [] = may end in
    rw (nothing, same, append-nil) (split_lines-last x line plain))

-- the end was reached, and nothing is held
pub Filling-end : {a b : Option (List ℕ)} {had_ended : Bool} {start line held : List ℕ}
    {ended found : Bool} → Filling a b had_ended start line held → held ≡ [] → ended ≡ true
    → found ≡ not (length line == 0) → Reads a b had_ended start line held ended (Ok found)
Filling-end {line} {ended} {found} filling none end is =
    let whole = filling.whole ∙ ap (λ r. line ++ r) none ∙ append-nil line in record {
      bytes = filling.bytes;
      quiet = filling.quiet;
      consumed = filling.consumed;
      gives = rw none (last_gives line _ ended found is whole filling.plain end);
    }

-- the bytes that were moved if there was no `\n`
pub moved_on : {b : Bool} {old new : TextLines} → b ≡ false → MovesLine b old new
    → Grows old new (held_bytes old) × (held_bytes new ≡ [])
moved_on {b = true} is moved = cc
moved_on {b = false} is moved = moved

-- the bytes that were moved if there was one
pub moved_cut : {b : Bool} {old new : TextLines} → b ≡ true → MovesLine b old new
    → (front : List ℕ) × Grows old new front × (held_bytes old ≡ front ++ 10 ∷ held_bytes new)
moved_cut {b = true} is moved = moved
moved_cut {b = false} is moved = cc

pub nil_from_none : (xs : List ℕ) → length xs ≡ 0 → xs ≡ []
nil_from_none [] none = refl
nil_from_none (x ∷ xs) none = absurd (omega arith)

-- if there is no line, the line is empty
pub empty_unless_found : (line : List ℕ) (empty : Bool) → empty ≡ (length line == 0)
    → not empty ≡ false → line ≡ []
empty_unless_found [] empty is none = refl
empty_unless_found (x ∷ line) empty is none =
    let found : not empty ≡ true = ap not is ∙ is_long x line in cc

-- if the remaining bytes are known, there is no line if and only if no byte is held or remains
pub found_exactly : (remaining after : Option (List ℕ)) {had_ended ended : Bool} {held line now : List ℕ}
    (found : Bool) → Reads remaining after had_ended held line now ended (Ok found)
    → (ended ≡ true → IsAtEnd after) → IfSome remaining (λ left. (found ≡ false) ↔ (held ++ left ≡ []))
found_exactly None after found reads met = tt
found_exactly (Some left) None found reads met = absurd reads.consumed
found_exactly (Some left) (Some rest) {held} false reads met = (
  λ none. ap (λ s. held ++ s) reads.consumed ∙ sym (append_assoc held reads.bytes rest)
      ∙ ap (λ s. s ++ rest) reads.gives.1 ∙ met reads.gives.0,
  λ nothing. refl,
)
found_exactly (Some left) (Some rest) {held} true reads met = (
  λ none. cc none,
  λ nothing.
      let all : (held ++ reads.bytes) ++ rest ≡ [] =
      append_assoc held reads.bytes rest ∙ ap (λ s. held ++ s) (sym reads.consumed) ∙ nothing in
      absurd (no_first (sym (ap split_lines all) ∙ reads.gives rest met)),
)
