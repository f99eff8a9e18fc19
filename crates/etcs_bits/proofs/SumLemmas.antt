-- Reading a number, and then the record that follows it.
use Rattle.std.proofs.Common.{◌≡◌, ℕ, true, false, List, ◌∷◌, ◌++◌, Result, Ok, Err, refl, ap}
use Rattle.etcs_bits.specs.declared.layout.fault.Fault.{Fault}
use Rattle.etcs_bits.specs.declared.layout.fault.DecodeError.{DecodeError}
use Rattle.etcs_bits.specs.declared.layout.fault.DecodeError.TheVariants as errors
use Rattle.etcs_bits.specs.layout.Rows.{Variable, Row, row, alone, Place}
use Rattle.etcs_bits.specs.layout.Fields.{Fields, field}
use Rattle.etcs_bits.specs.layout.Reading.{◌>>=◌, taken, read_field, read_rows}
use Rattle.etcs_bits.specs.layout.Results.{Gives, Fails}
use Rattle.etcs_bits.specs.layout.Choice.{Choice, numbered_rows, read_chosen}
use Rattle.etcs_bits.proofs.BindLemmas.{bind_ok, ok_is}

-- a number that was taken, in whose place no packets end
pub number_read : (x : Variable) (n : ℕ) (p q : Place) → x.closes ≡ false → x.allows n ≡ true
    → taken x.width p ≡ Ok (n, q) → read_field x p ≡ Ok (n, q)
number_read x n p q stays allowed read = rw (stays, read, allowed) refl

-- the number k, and the rows that follow it
pub rest_read : (x : Variable) (next : ℕ → Fields) (n k : ℕ) (p q to : Place) (rows : List Row)
    → read_field x p ≡ Ok (n, q) → n ≡ k → read_rows (next k) q ≡ Ok (rows, to)
    → read_rows (field x next) p ≡ Ok (row x k ∷ rows, to)
rest_read x next n k p q to rows number is read =
    let here : read_rows (next n) q ≡ Ok (rows, to) = rw is read in
    rw (number, here) (ap (λ (m : ℕ). Ok (row x m ∷ rows, to)) is)

-- the number that the record says, and the rows that follow it
pub chosen_read : {X : Type 0} (x : Variable) (c : Choice X) (next : ℕ → Fields) (n : ℕ) (p q to : Place)
    (more : ℕ × List Row) → read_field x p ≡ Ok (n, q) → next n ≡ c.next n → read_chosen c n q ≡ Ok (more, to)
    → read_rows (field x next) p ≡ Ok (row x more.0 ∷ more.1, to)
chosen_read x c next n p q to more number same read =
    let a = bind_ok (read_rows (c.next n) q) (λ z. Ok ((n, z.0), z.1)) (more, to) read in
    let parts = ok_is ((n, a.0.0), a.0.1) (more, to) a.2 in
    rw (number, same, a.1) (ap (λ (z : (ℕ × List Row) × Place). Ok (row x z.0.0 ∷ z.0.1, z.1)) parts)

abbrev with_number : ℕ → Result (List Row × Place) Fault → Result ((ℕ × List Row) × Place) Fault
with_number n read = read >>= λ z. Ok ((n, z.0), z.1)

abbrev with_row : Row → Result (List Row × Place) Fault → Result (List Row × Place) Fault
with_row r read = read >>= λ z. Ok (r ∷ z.0, z.1)

-- where reading what follows fails, so does reading both
fails_too : (x : Variable) (n : ℕ) (read : Result (List Row × Place) Fault) (e : DecodeError)
    → Fails e (with_number n read) → Fails e (with_row (row x n) read)
fails_too x n read errors.Memory fails = tt
fails_too x n (Ok z) (errors.Fault f) fails = absurd cc
fails_too x n (Err g) (errors.Fault f) fails = fails_with g f fails
  where
    fails_with : (g f : Fault) → with_number n (Err g) ≡ Err f → with_row (row x n) (Err g) ≡ Err f
    fails_with g f e = cc

pub chosen_gives : {A X : Type 0} (view : A → X) (x : Variable) (c : Choice X) (n : ℕ) (p q to : Place)
    (r : Result A DecodeError) → read_field x p ≡ Ok (n, q)
    → Gives (λ a. numbered_rows c (view a)) r (read_chosen c n q) to
    → Gives (λ a. alone x (c.number (view a)) ++ c.rows (view a)) r (read_rows (field x c.next) p) to
unfolding alone
chosen_gives view x c n p q to (Ok a) number read =
    chosen_read x c c.next n p q to (numbered_rows c (view a)) number refl read
chosen_gives view x c n p q to (Err e) number read =
    let both : read_rows (field x c.next) p ≡ with_row (row x n) (read_rows (c.next n) q) = rw number refl in
    rw both (fails_too x n (read_rows (c.next n) q) e read)
