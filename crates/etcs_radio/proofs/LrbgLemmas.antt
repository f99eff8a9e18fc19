-- NID_LRBG: how it is written and read.
use Rattle.std.proofs.Common.{◌≡◌, ℕ, ◌+◌, ◌*◌, ◌/◌, ◌%◌, ◌≤◌, List, [], ◌∷◌, Bool, ◌++◌, length, Result, Ok, Err, OnOk, OnErr, refl, sym, ap, ap₂, ◌∙◌, arith}
use Rattle.std.proofs.lemmas.List.{append-nil, take_all}
use Rattle.etcs_bits.specs.declared.variables.identity.Identity.{Identity}
use Rattle.etcs_bits.specs.bits.Number.{num}
use Rattle.etcs_bits.specs.layout.Rows.{row, Place, join}
use Rattle.etcs_bits.specs.layout.Results.{Puts}
use Rattle.etcs_bits.specs.layout.Reading.{taken, read_rows}
use Rattle.etcs_bits.specs.variables.Variables.{plain, free}
use Rattle.etcs_bits.proofs.ReadingLemmas.{taken_ok, taken_again}
use Rattle.etcs_bits.proofs.StandLemmas.{stands_nothing}
use Rattle.etcs_bits.proofs.SumLemmas.{number_read}
use Rattle.etcs_radio.specs.Lrbg.{lrbg_rows, lrbg_fields}

-- no bits are appended after the number
one_row : (n m : ℕ) → num 24 n ++ (num 0 m ++ []) ≡ num 24 n
unfolding num
one_row n m = append-nil (num 24 n)

pub put_lrbg : {X E : Type 0} (r : Result X E) (i : Identity) (n : ℕ) (old new : List Bool)
    → n ≡ i.country * 16384 + i.group → OnOk r (new ≡ old ++ num 24 n) → OnErr r (new ≡ old)
    → Puts (join (lrbg_rows i)) r old new
put_lrbg (Ok x) i n old new is ok err =
    ok ∙ ap (λ (m : ℕ). old ++ num 24 m) is
    ∙ ap (λ (bits : List Bool). old ++ bits) (sym (one_row (i.country * 16384 + i.group) (i.group / 16384)))
put_lrbg (Err e) i n old new is ok err = rw err (take_all (length old) old (omega arith))

-- no bits are read after the number
nothing_read : (q : Place) → q.at ≤ length q.bits → taken 0 q ≡ Ok (0, q)
unfolding num
nothing_read q within = taken_again 0 0 q q (omega arith) within (stands_nothing q)

pub lrbg_read : (n c g : ℕ) (p q : Place) → taken 24 p ≡ Ok (n, q) → c ≡ n / 16384 → g ≡ n % 16384
    → read_rows lrbg_fields p ≡ Ok (lrbg_rows (record { country = c; group = g }), q)
lrbg_read n c g p q read country group =
    let took = taken_ok 24 p (n, q) read in
    let within : q.at ≤ length q.bits = omega (arith, took.within, ap length took.stands.same) in
    let first = number_read (plain 24) n p q refl refl read in
    let second = number_read (free 0) 0 q q refl refl (nothing_read q within) in
    let both : n ≡ c * 16384 + g = omega (arith, country, group) in
    let over : 0 ≡ g / 16384 = omega (arith, group) in
    rw (first, second) (ap₂ (λ (a b : ℕ). Ok (row (plain 24) a ∷ (row (free 0) b ∷ []), q)) both over)
