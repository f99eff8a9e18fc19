-- Bits that stand at a place, and rows that are spelled there.
use Rattle.std.proofs.Common.{◌≡◌, ℕ, ◌+◌, ◌^◌, ◌<◌, ◌≤◌, Bool, List, [], ◌∷◌, ◌++◌, length, take, drop, refl, sym, ap, subst, ◌∙◌, append_assoc, arith}
use Rattle.std.proofs.lemmas.List.{length-append, length-take, length-drop, take_at, drop_at, drop-drop, take-append-drop, drop-take, take-take}
use Rattle.etcs_bits.specs.bits.Number.{num, num_of_bits}
use Rattle.etcs_bits.specs.layout.Rows.{Row, Place, Stands, AreAllowed, join, width}
use Rattle.etcs_bits.specs.layout.Reading.{forward}
use Rattle.etcs_bits.proofs.NumberLemmas.{length-num, num_of_bits-small, num-num_of_bits}

pub join-append : (xs ys : List Row) → join (xs ++ ys) ≡ join xs ++ join ys
join-append [] ys = refl
join-append (r ∷ xs) ys = ap (λ (bits : List Bool). num r.variable.width r.number ++ bits) (join-append xs ys) ∙ sym (append_assoc (num r.variable.width r.number) (join xs) (join ys))

pub length-join : (rows : List Row) → length (join rows) ≡ width rows
length-join [] = refl
length-join (r ∷ rows) = omega (arith, length-append (num r.variable.width r.number) (join rows), length-num r.variable.width r.number, length-join rows)

pub allowed-append : (xs ys : List Row) → AreAllowed xs → AreAllowed ys → AreAllowed (xs ++ ys)
allowed-append [] ys a b = b
allowed-append (r ∷ xs) ys a b = (a.0, allowed-append xs ys a.1 b)

-- ---- places

abbrev pub place_in : List Bool → ℕ → Place
place_in bits at = record { bits = bits; at = at }

pub same_position : (p q : Place) → p.bits ≡ q.bits → p.at ≡ q.at → p ≡ q
same_position p q e f = ap (λ (bits : List Bool). place_in bits p.at) e ∙ ap (λ (at : ℕ). place_in q.bits at) f

pub stands_nothing : (p : Place) → Stands [] p p
stands_nothing p = record { same = refl; here = refl; past = omega arith }

pub stands_then : (a b : List Bool) (p q r : Place) → Stands a p q → Stands b q r → Stands (a ++ b) p r
stands_then a b p q r s t =
    let second = rw s.same at t.here in
    record {
      same = t.same ∙ s.same;
      here = s.here ∙ ap (λ (bits : List Bool). a ++ bits) second ∙ sym (append_assoc a b (drop r.at p.bits));
      past = omega (arith, s.past, t.past, length-append a b);
    }

-- what is left after bits that stand somewhere
left_after : (a rest : List Bool) (p : Place) → drop p.at p.bits ≡ a ++ rest → drop (p.at + length a) p.bits ≡ rest
left_after a rest p e = sym (drop-drop (length a) p.at p.bits) ∙ ap (drop (length a)) e ∙ drop_at a rest (length a) refl

-- if bits stand one after the other, each part stands
pub stands_parts : (a b : List Bool) (p r : Place) → Stands (a ++ b) p r → Stands a p (forward p (length a)) × Stands b (forward p (length a)) r
stands_parts a b p r s =
    let whole : drop p.at p.bits ≡ a ++ (b ++ drop r.at p.bits) = s.here ∙ append_assoc a b (drop r.at p.bits) in
    let rest = left_after a (b ++ drop r.at p.bits) p whole in (
      record { same = refl; here = whole ∙ ap (λ (bits : List Bool). a ++ bits) (sym rest); past = refl },
      record { same = s.same; here = rest; past = omega (arith, s.past, length-append a b) },
    )

-- ---- one field

-- bits that stand at a place within the list end within it
pub stands_within : (a : List Bool) (p q : Place) → p.at ≤ length p.bits → Stands a p q → q.at ≤ length p.bits
stands_within a p q within s =
    omega (arith, within, s.past, ap length s.here, length-append a (drop q.at p.bits), length-drop p.at p.bits, length-drop q.at p.bits)

-- the next w bits spell a number
pub number_stands : (w : ℕ) (p : Place) → p.at + w ≤ length p.bits → Stands (num w (num_of_bits (take w (drop p.at p.bits)))) p (forward p w)
number_stands w p fits =
    let len : length (take w (drop p.at p.bits)) ≡ w = omega (arith, length-take w (drop p.at p.bits), length-drop p.at p.bits) in
    let spelled : num w (num_of_bits (take w (drop p.at p.bits))) ≡ take w (drop p.at p.bits) = subst (λ (k : ℕ). num k (num_of_bits (take w (drop p.at p.bits))) ≡ take w (drop p.at p.bits)) len (num-num_of_bits (take w (drop p.at p.bits))) in
    record {
      same = refl;
      here = sym (take-append-drop w (drop p.at p.bits)) ∙ rw (drop-drop w p.at p.bits, spelled) refl;
      past = rw length-num refl;
    }

-- only the number whose bits stand at a place is taken there
pub standing_number : (w n : ℕ) (p q : Place) → n < 2 ^ w → Stands (num w n) p q → num_of_bits (take w (drop p.at p.bits)) ≡ n
standing_number w n p q small s =
    ap (λ (bits : List Bool). num_of_bits (take w bits)) s.here ∙ ap num_of_bits (take_at (num w n) (drop q.at p.bits) w (length-num w n)) ∙ num_of_bits-small w n small

-- bits that end before a place also stand in each list with the same front up to that place
pub stands_moved : (a : List Bool) (p q : Place) (bits : List Bool) (n : ℕ) → Stands a p q → q.at ≤ n → take n bits ≡ take n p.bits → Stands a (place_in bits p.at) (place_in bits q.at)
stands_moved a p q bits n s le same =
    let k = p.at + length a in
    let front : take k bits ≡ take k p.bits = sym (take-take k n bits (omega (arith, s.past))) ∙ ap (take k) same ∙ take-take k n p.bits (omega (arith, s.past)) in
    let there : take (length a) (drop p.at bits) ≡ a =
    sym (drop-take p.at (length a) bits) ∙ ap (drop p.at) front ∙ drop-take p.at (length a) p.bits ∙ ap (take (length a)) s.here ∙ take_at a (drop q.at p.bits) (length a) refl in
    record {
      same = refl;
      here = sym (take-append-drop (length a) (drop p.at bits)) ∙ rw (there, drop-drop (length a) p.at bits, ← s.past) refl;
      past = s.past;
    }
