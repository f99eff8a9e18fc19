-- Items one after the other, as a loop goes over them.
use Rattle.std.proofs.Common.{◌≡◌, ℕ, suc, ◌+◌, ◌-◌, ◌<◌, Bool, List, [], ◌∷◌, ◌++◌, length, get_or, take, drop, Result, Ok, Err, refl, sym, ap, subst, ◌∙◌, append_assoc, arith}
use Rattle.std.specs.List.{flat_map}
use Rattle.std.proofs.lemmas.List.{append-nil, take_more, drop_more, take-append-drop}
use Rattle.std.proofs.lemmas.Grind.{flat_map-append}
use Rattle.etcs_bits.specs.declared.layout.fault.Fault.{Fault}
use Rattle.etcs_bits.specs.declared.layout.fault.DecodeError.{DecodeError}
use Rattle.etcs_bits.specs.declared.layout.fault.DecodeError.TheVariants as errors
use Rattle.etcs_bits.specs.layout.Rows.{Row, Place, AreAllowed, join, width}
use Rattle.etcs_bits.specs.layout.Fields.{Fields, times}
use Rattle.etcs_bits.specs.layout.Reading.{◌>>=◌, read_rows}
use Rattle.etcs_bits.specs.layout.Results.{Fails}
use Rattle.etcs_bits.proofs.StandLemmas.{join-append}
use Rattle.etcs_bits.specs.lemmas.RowLemmas.{allowed_first, allowed_second}
use Rattle.etcs_bits.proofs.WidthLemmas.{width_both}

-- ---- the items up to one, that one, and those after it

-- the item at a place of the list, with what a loop knows of it
pub record IsItem {X : Type 0} (xs : List X) (i : ℕ) (x : X) : Type 0 where
  pub inside : i < length xs
  pub is : x ≡ get_or xs i x

item_split : {X A : Type 0} (f : X → List A) (xs : List X) (i : ℕ) (x : X) → IsItem xs i x
    → flat_map f xs ≡ flat_map f (take i xs) ++ (f x ++ flat_map f (drop (i + 1) xs))
item_split f xs i x item =
    let rest = drop_more xs i x item.inside in
    ap (flat_map f) (sym (take-append-drop i xs)) ∙ flat_map-append f (take i xs) (drop i xs)
    ∙ ap (λ ys. flat_map f (take i xs) ++ flat_map f ys) rest ∙ rw (← item.is) refl

item_more : {X A : Type 0} (f : X → List A) (xs : List X) (i : ℕ) (x : X) → IsItem xs i x
    → flat_map f (take (i + 1) xs) ≡ flat_map f (take i xs) ++ f x
item_more f xs i x item =
    ap (flat_map f) (take_more xs i x item.inside)
    ∙ flat_map-append f (take i xs) (get_or xs i x ∷ [])
    ∙ rw (← item.is) (ap (λ ys. flat_map f (take i xs) ++ ys) (append-nil (f x)))

pub item_allowed : {X : Type 0} (rows : X → List Row) (xs : List X) (i : ℕ) (x : X)
    → IsItem xs i x → AreAllowed (flat_map rows xs) → AreAllowed (rows x)
item_allowed rows xs i x item h =
    let split = subst AreAllowed (item_split rows xs i x item) h in
    let tail = flat_map rows (drop (i + 1) xs) in
    allowed_first (rows x) tail
    (allowed_second (flat_map rows (take i xs)) (rows x ++ tail) split)

pub item_width : {X : Type 0} (rows : X → List Row) (xs : List X) (i : ℕ) (x : X)
    → IsItem xs i x → width (flat_map rows (take (i + 1) xs))
    ≡ width (flat_map rows (take i xs)) + width (rows x)
item_width rows xs i x item =
    ap width (item_more rows xs i x item) ∙ width_both (flat_map rows (take i xs)) (rows x)

-- ---- writing

pub item_put : {X : Type 0} (rows : X → List Row) (xs : List X) (i : ℕ) (x : X)
    (old mid new : List Bool) → IsItem xs i x
    → mid ≡ old ++ join (flat_map rows (take i xs)) → new ≡ mid ++ join (rows x)
    → new ≡ old ++ join (flat_map rows (take (i + 1) xs))
item_put rows xs i x old mid new item before here =
    let front = flat_map rows (take i xs) in
    here ∙ ap (λ bits. bits ++ join (rows x)) before
    ∙ append_assoc old (join front) (join (rows x))
    ∙ ap (λ bits. old ++ bits)
    (sym (join-append front (rows x)) ∙ ap join (sym (item_more rows xs i x item)))

-- ---- reading

-- what was read before, and what is still to be read
abbrev pub with_front : List Row → Result (List Row × Place) Fault → Result (List Row × Place) Fault
with_front front read = read >>= λ x. Ok (front ++ x.0, x.1)

regroup : (front rows : List Row) (read : Result (List Row × Place) Fault)
    → with_front front (read >>= λ x. Ok (rows ++ x.0, x.1)) ≡ with_front (front ++ rows) read
regroup front rows (Ok x) = ap (λ (rs : List Row). Ok (rs, x.1)) (sym (append_assoc front rows x.0))
regroup front rows (Err f) = refl

-- one more item was read
pub goes_on : {X : Type 0} (rows : X → List Row) (fields : Fields) (xs : List X) (x : X)
    (count i : ℕ) (p q : Place) (total : Result (List Row × Place) Fault)
    → i < count → read_rows fields p ≡ Ok (rows x, q)
    → with_front (flat_map rows xs) (read_rows (times (count - i) fields) p) ≡ total
    → with_front (flat_map rows (xs ++ x ∷ [])) (read_rows (times (count - (i + 1)) fields) q) ≡ total
goes_on rows fields xs x count i p q total lt h so_far =
    let k : count - i ≡ suc (count - (i + 1)) = omega arith in
    let rest = read_rows (times (count - (i + 1)) fields) q in
    let front : flat_map rows (xs ++ x ∷ []) ≡ flat_map rows xs ++ rows x =
    flat_map-append rows xs (x ∷ [])
    ∙ ap (λ ys. flat_map rows xs ++ ys) (append-nil (rows x)) in
    let one : with_front (flat_map rows xs) (read_rows (times (count - i) fields) p)
    ≡ with_front (flat_map rows xs ++ rows x) rest =
    rw (k, h) (regroup (flat_map rows xs) (rows x) rest) in
    rw front (sym one ∙ so_far)

-- the next item has a fault
pub ends : (e : DecodeError) (front : List Row) (fields : Fields) (count i : ℕ) (p : Place)
    (total : Result (List Row × Place) Fault) → i < count → Fails e (read_rows fields p)
    → with_front front (read_rows (times (count - i) fields) p) ≡ total → Fails e total
ends errors.Memory front fields count i p total lt h so_far = tt
ends (errors.Fault f) front fields count i p total lt h so_far =
    let k : count - i ≡ suc (count - (i + 1)) = omega arith in
    let one : with_front front (read_rows (times (count - i) fields) p) ≡ Err f = rw (k, h) refl in
    sym so_far ∙ one
