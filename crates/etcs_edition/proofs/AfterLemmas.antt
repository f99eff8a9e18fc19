-- Going through a table ends where reading its fields ends, or with the same fault.
use Rattle.std.proofs.Common.{◌≡◌, ℕ, zero, suc, ◌+◌, ◌-◌, ◌^◌, ◌<◌, ◌==◌, Bool, true, false, cond, ltb, eqb, ◌∷◌, ◌++◌, length, Result, Ok, Err, refl, sym, ap, ◌∙◌, arith}
use Rattle.std.specs.Prelude.{◌&&◌, nat_le}
use Rattle.std.proofs.lemmas.Bool.{ltb-true, ltb-false, le-ltb}
use Rattle.etcs_bits.specs.declared.layout.fault.Fault.{Fault}
use Rattle.etcs_bits.specs.declared.layout.fault.FaultKind.TheVariants.{Length}
use Rattle.etcs_bits.specs.layout.Rows.{Variable, Place, row}
use Rattle.etcs_bits.specs.layout.Fields.{Fields, nothing, field, ◌▹◌, sized, one, option, times, counted, l_packet}
use Rattle.etcs_bits.specs.layout.Reading.{◌>>=◌, forward, taken, read_rows}
use Rattle.etcs_bits.specs.layout.Combined.{qualifier, n_iter}
use Rattle.etcs_bits.specs.variables.Variables.{plain, free}
use Rattle.etcs_bits.proofs.ReadingLemmas.{taken_ok, closed_again, closed_lacks}
use Rattle.etcs_edition.specs.Tables.{bits, if_one, n_times}
use Rattle.etcs_edition.specs.Faults.{number_here, after}

-- where reading ended, without what it gave
abbrev pub landing : {A : Type 0} → Result (A × Place) Fault → Result Place Fault
landing (Ok x) = Ok x.1
landing (Err f) = Err f

pub record Like (table fields : Fields) : Type 0 where
  pub same : (p : Place) → after table p ≡ landing (read_rows fields p)

then_lands : {A B : Type 0} (r : Result (A × Place) Fault) (s : Result Place Fault)
    (g : A × Place → Result (B × Place) Fault) (h : Place → Result Place Fault) → s ≡ landing r
    → ((x : A × Place) → h x.1 ≡ landing (g x)) → (s >>= h) ≡ landing (r >>= g)
then_lands (Ok x) s g h is each = rw is (each x)
then_lands (Err f) s g h is each = rw is refl

only_built : {A B : Type 0} (r : Result (A × Place) Fault) (k : A × Place → B)
    → landing (r >>= λ x. Ok (k x, x.1)) ≡ landing r
only_built (Ok x) k = refl
only_built (Err f) k = refl

-- ---- a variable

pub like_nothing : Like nothing nothing
like_nothing = record { same = λ p. refl }

module _ (y : Variable) (test : ℕ → Bool) (f g : ℕ → Fields)
    (same : (n : ℕ) → n < 2 ^ y.width → test n ≡ y.allows n)
    (next : (n : ℕ) → n < 2 ^ y.width → y.allows n ≡ true → Like (f n) (g n)) where
  abbrev x : Variable
  x = record { width = y.width; allows = test; refusal = y.refusal; closes = y.closes }

  fits_here : (p : Place) → ltb (length p.bits) (p.at + y.width) ≡ false
      → taken y.width p ≡ Ok (number_here y.width p, forward p y.width)
  fits_here p fits = rw fits refl

  is_small : (p : Place) → ltb (length p.bits) (p.at + y.width) ≡ false → number_here y.width p < 2 ^ y.width
  is_small p fits =
      (taken_ok y.width p (number_here y.width p, forward p y.width) (fits_here p fits)).small

  lands_by : (p : Place) (ok : Bool) → ltb (length p.bits) (p.at + y.width) ≡ false
      → y.allows (number_here y.width p) ≡ ok → after (field x f) p ≡ landing (read_rows (field y g) p)
  lands_by p true fits allowed =
      let n = number_here y.width p in
      let small = is_small p fits in
      let closed = closed_again y.closes y.width p (n, forward p y.width) (fits_here p fits) in
      rw (closed, fits, same n small, allowed)
      ((next n small allowed).same (forward p y.width)
      ∙ sym (only_built (read_rows (g n) (forward p y.width)) (λ more. row y n ∷ more.0)))
  lands_by p false fits allowed =
      let n = number_here y.width p in
      let closed = closed_again y.closes y.width p (n, forward p y.width) (fits_here p fits) in
      rw (closed, fits, same n (is_small p fits), allowed) refl

  lands : (p : Place) (few : Bool) → ltb (length p.bits) (p.at + y.width) ≡ few
      → after (field x f) p ≡ landing (read_rows (field y g) p)
  lands p true few =
      rw (closed_lacks y.closes y.width p (ltb-true _ _ few), few) refl
  lands p false fits = lands_by p (y.allows (number_here y.width p)) fits refl

  pub like_field : Like (field x f) (field y g)
  like_field = record { same = λ p. lands p (ltb (length p.bits) (p.at + y.width)) refl }

pub like_one : (y : Variable) (test : ℕ → Bool) → ((n : ℕ) → n < 2 ^ y.width → test n ≡ y.allows n)
    → Like (one (record { width = y.width; allows = test; refusal = y.refusal; closes = y.closes })) (one y)
like_one y test same = like_field y test (λ _. nothing) (λ _. nothing) same (λ _ _ _. like_nothing)

pub like_bits : (w : ℕ) → (nat_le 1 w && nat_le w 32) ≡ true → Like (bits w) (one (plain w))
like_bits w is = like_one (plain w) (λ _. true) (λ _ _. sym is)

pub like_free : (w : ℕ) → Like (bits w) (one (free w))
like_free w = like_one (free w) (λ _. true) (λ _ _. refl)

-- ---- tables that are made of others

pub like_both : {a b c d : Fields} → Like a c → Like b d → Like (a ▹ b) (c ▹ d)
like_both {a = a} {b = b} {c = c} {d = d} x y = record {
  same = λ p.
      then_lands (read_rows c p) (after a p)
      (λ first. read_rows d first.1 >>= λ second. Ok (first.0 ++ second.0, second.1)) (after b) (x.same p)
      (λ first. y.same first.1 ∙ sym (only_built (read_rows d first.1) (λ second. first.0 ++ second.0)));
}

pub like_if : (b : Bool) {a₁ a₂ c₁ c₂ : Fields} → Like a₁ c₁ → Like a₂ c₂ → Like (cond b a₁ a₂) (cond b c₁ c₂)
like_if true first second = first
like_if false first second = second

pub like_option : {a b : Fields} → Like a b → Like (if_one a) (option qualifier b)
like_option {a = a} {b = b} x =
    like_field qualifier (λ _. true) (λ n. cond (n == 1) a nothing) (λ n. cond (n == 1) b nothing) (λ _ _. refl)
    (λ n _ _. like_if (n == 1) x like_nothing)

like_times : {a b : Fields} → Like a b → (n : ℕ) → Like (times n a) (times n b)
like_times x zero = like_nothing
like_times x (suc n) = like_both x (like_times x n)

pub like_counted : {a b : Fields} → Like a b → Like (n_times a) (counted n_iter b)
like_counted {a = a} {b = b} x =
    like_field n_iter (λ _. true) (λ n. times n a) (λ n. times n b) (λ _ _. refl) (λ n _ _. like_times x n)

-- ---- L_PACKET and a body

test_lands : {A : Type 0} (t : Bool) (x : A × Place) (f : Fault)
    → cond t (Ok x.1) (Err f) ≡ landing (cond t (Ok x) (Err f))
test_lands true x f = refl
test_lands false x f = refl

abbrev wrong : Place → Place → Fault
wrong p q = record { at = p.at; end = q.at; why = Length }

sized_lands : (k : ℕ) (a b : Fields) → Like a b → (p : Place) (few : Bool) → ltb (length p.bits) (p.at + 13) ≡ few
    → after (sized k a) p ≡ landing (read_rows (sized k b) p)
sized_lands k a b like p true few = rw few refl
sized_lands k a b like p false few =
    let n = number_here 13 p in
    rw few
    (then_lands (read_rows b (forward p 13)) (after a (forward p 13))
    (λ more. cond (eqb n (k + (more.1.at - p.at))) (Ok (row l_packet n ∷ more.0, more.1)) (Err (wrong p more.1)))
    (λ q. cond (eqb n (k + (q.at - p.at))) (Ok q) (Err (wrong p q))) (like.same (forward p 13))
    (λ more. test_lands (eqb n (k + (more.1.at - p.at))) (row l_packet n ∷ more.0, more.1) (wrong p more.1)))

pub like_sized : (k : ℕ) {a b : Fields} → Like a b → Like (sized k a) (sized k b)
like_sized k {a = a} {b = b} x = record { same = λ p. sized_lands k a b x p (ltb (length p.bits) (p.at + 13)) refl }

-- ---- no bits at the end

none_more : (w : ℕ) (p : Place) (few : Bool) → ltb (length p.bits) (p.at + w) ≡ few
    → after (bits w) p ≡ after (bits w ▹ bits 0) p
none_more w p true few = rw few refl
none_more w p false few =
    let still : ltb (length p.bits) (p.at + w + 0) ≡ false =
    le-ltb (length p.bits) (p.at + w + 0) (omega (arith, ltb-false _ _ few)) in
    let same : p.at + w ≡ p.at + w + 0 = omega arith in
    rw (few, still) (ap (λ (at : ℕ). Ok (record { bits = p.bits; at = at })) same)

pub like_with_none : (w : ℕ) {a : Fields} → Like (bits w ▹ bits 0) a → Like (bits w) a
like_with_none w x = record { same = λ p. none_more w p (ltb (length p.bits) (p.at + w)) refl ∙ x.same p }
