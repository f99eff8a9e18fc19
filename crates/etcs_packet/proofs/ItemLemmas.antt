-- What reading a list gives: the records that follow one another up to its end, or the fault after
-- them.
use Rattle.std.proofs.Common.{◌≡◌, ℕ, zero, suc, ◌+◌, ◌<◌, ◌≤◌, Bool, true, false, cond, List, [], ◌∷◌, map, length, Result, Ok, Err, refl, sym, ap, subst, ◌∙◌, arith, inl, inr, ◌⊎◌}
use Rattle.etcs_bits.specs.declared.layout.fault.Fault.{Fault}
use Rattle.etcs_bits.specs.layout.Rows.{Row, Place, IsSpelled}
use Rattle.etcs_bits.specs.layout.Fields.{Fields, AreRowsOf}
use Rattle.etcs_bits.specs.layout.Fault.{IsFault}
use Rattle.etcs_bits.specs.layout.Reading.{◌>>=◌, read_rows}
use Rattle.etcs_bits.proofs.BindLemmas.{bind_ok, bind_err, ok_is}
use Rattle.etcs_bits.proofs.StandLemmas.{length-join}
use Rattle.etcs_bits.proofs.ReadingLemmas.{read_is_spelled, spelled_is_read, read_is_fault}
use Rattle.etcs_bits.proofs.FaultLemmas.{fault_is_given}
use Rattle.etcs_packet.specs.declared.stop.Stop.{Stop}
use Rattle.etcs_packet.specs.Lists.{IsHeaded, ends, Follow, IsListFault}
use Rattle.etcs_packet.specs.Reading.{at_most, read_list}
use Rattle.etcs_packet.proofs.EndLemmas.{headed_wide, next_within}

-- a list with one record more at its front
abbrev with_first : {X : Type 0} → X → Result (List X × Place) Fault → Result (List X × Place) Fault
with_first x read = read >>= λ more. Ok (x ∷ more.0, more.1)

-- the record here, and at most `n` after it
abbrev then_most : {X : Type 0}
    → ℕ → Stop → Fields → (List Row → X) → Place → Result (List X × Place) Fault
then_most n stop fields of p =
    read_rows fields p >>= λ first. with_first (of first.0) (at_most n stop fields of first.1)

at_most_none : {X : Type 0} (stop : Stop) (fields : Fields) (of : List Row → X) (p : Place)
    → at_most 0 stop fields of p ≡ Ok ([], p)
unfolding at_most
at_most_none stop fields of p = refl

at_most_more : {X : Type 0} (n : ℕ) (stop : Stop) (fields : Fields) (of : List Row → X) (p : Place)
    → at_most (suc n) stop fields of p ≡ cond (ends stop p) (Ok ([], p)) (then_most n stop fields of p)
unfolding at_most
at_most_more n stop fields of p = refl

all_items : {X : Type 0} (stop : Stop) (fields : Fields) (of : List Row → X) (p : Place)
    → read_list stop fields of p ≡ at_most (suc (length p.bits)) stop fields of p
unfolding read_list
all_items stop fields of p = refl

-- Fewer than `n` bits are left, so `n` records do not fit.
abbrev IsEnough : ℕ → Place → Type 0
IsEnough n p = length p.bits < p.at + n

next_enough : (fields : Fields) (rows : List Row) (n : ℕ) (p q : Place) → IsHeaded fields
    → AreRowsOf fields rows → IsSpelled rows p q → IsEnough (suc n) p → IsEnough n q
next_enough fields rows n p q head w s enough =
    omega (arith, headed_wide fields rows head w, length-join rows, s.stands.past, ap length s.stands.same, enough)

-- ---- what stands is read

stands_read : {X : Type 0} (of : List Row → X) (xs : List (List Row)) (n : ℕ) (stop : Stop)
    (fields : Fields) (p q : Place) → IsHeaded fields → p.at ≤ length p.bits → IsEnough n p
    → Follow stop fields xs p q → ends stop q ≡ true
    → at_most n stop fields of p ≡ Ok (map of xs, q)
stands_read of xs zero stop fields p q head within enough follow over =
    absurd (omega (arith, within, enough))
stands_read of [] (suc n) stop fields p q head within enough there over =
    let here : ends stop p ≡ true = ap (ends stop) (sym there) ∙ over in
    at_most_more n stop fields of p ∙ rw (here, there) refl
stands_read of (rows ∷ xs) (suc n) stop fields p q head within enough (goes, (m, w, spelled, rest)) over =
    let first = spelled_is_read fields rows p m within w spelled in
    let others = stands_read of xs n stop fields m q head (next_within rows p m within spelled)
    (next_enough fields rows n p m head w spelled enough) rest over in
    at_most_more n stop fields of p ∙ rw (goes, first, others) refl

pub follow_is_read : {X : Type 0} (of : List Row → X) (xs : List (List Row)) (stop : Stop)
    (fields : Fields) (p q : Place) → IsHeaded fields → p.at ≤ length p.bits
    → Follow stop fields xs p q → ends stop q ≡ true
    → read_list stop fields of p ≡ Ok (map of xs, q)
follow_is_read of xs stop fields p q head within follow over =
    all_items stop fields of p
    ∙ stands_read of xs (suc (length p.bits)) stop fields p q head within (omega arith) follow over

-- ---- a fault of the list is read

items_fault_is_read : {X : Type 0} (of : List Row → X) (xs : List (List Row)) (n : ℕ) (stop : Stop)
    (fields : Fields) (p q : Place) (f : Fault) → IsHeaded fields → p.at ≤ length p.bits
    → IsEnough n p → Follow stop fields xs p q → ends stop q ≡ false → IsFault fields q f
    → at_most n stop fields of p ≡ Err f
items_fault_is_read of xs zero stop fields p q f head within enough follow goes_on t =
    absurd (omega (arith, within, enough))
items_fault_is_read of [] (suc n) stop fields p q f head within enough there goes_on t =
    let here : ends stop p ≡ false = ap (ends stop) (sym there) ∙ goes_on in
    let fails = fault_is_given fields p f within (subst (λ (z : Place). IsFault fields z f) there t) in
    at_most_more n stop fields of p ∙ rw (here, fails) refl
items_fault_is_read of (rows ∷ xs) (suc n) stop fields p q f head within enough (goes, (m, w, spelled, rest)) goes_on t =
    let first = spelled_is_read fields rows p m within w spelled in
    let others = items_fault_is_read of xs n stop fields m q f head (next_within rows p m within spelled)
    (next_enough fields rows n p m head w spelled enough) rest goes_on t in
    at_most_more n stop fields of p ∙ rw (goes, first, others) refl

pub list_fault_is_read : {X : Type 0} (of : List Row → X) (stop : Stop) (fields : Fields) (p : Place)
    (f : Fault) → IsHeaded fields → p.at ≤ length p.bits → IsListFault stop fields p f
    → read_list stop fields of p ≡ Err f
list_fault_is_read of stop fields p f head within t =
    all_items stop fields of p
    ∙ items_fault_is_read of t.whole (suc (length p.bits)) stop fields p t.reached f head within (omega arith) t.follow t.goes_on t.is_fault

-- ---- what is read stands, and a fault that is read is a fault of the list

chosen : {A : Type 0} (b : Bool) (x y z : A) → cond b x y ≡ z
    → ((b ≡ true) × (x ≡ z)) ⊎ ((b ≡ false) × (y ≡ z))
chosen true x y z e = inl (refl, e)
chosen false x y z e = inr (refl, e)

not_after : {X : Type 0} (read : Result (List X × Place) Fault) (x : X) (f : Fault)
    → with_first x read ≡ Err f → read ≡ Err f
not_after (Ok y) x f h = absurd cc
not_after (Err c) x f h = cc

-- Lists of rows follow one another up to the end of the list, and these are their records.
pub record AreRead {X : Type 0} (of : List Row → X) (stop : Stop) (fields : Fields) (xs : List X) (p q : Place) : Type 0 where
  pub whole : List (List Row)
  pub are : map of whole ≡ xs
  pub follow : Follow stop fields whole p q
  pub over : ends stop q ≡ true

read_stands : {X : Type 0} (of : List Row → X) (n : ℕ) (stop : Stop) (fields : Fields) (p : Place)
    (x : List X × Place) → IsHeaded fields → p.at ≤ length p.bits → IsEnough n p
    → at_most n stop fields of p ≡ Ok x → AreRead of stop fields x.0 p x.1
read_stands of zero stop fields p x head within enough e = absurd (omega (arith, within, enough))
read_stands of (suc n) stop fields p x head within enough e =
    elim (chosen (ends stop p) (Ok ([], p)) (then_most n stop fields of p) (Ok x) (sym (at_most_more n stop fields of p) ∙ e)) [
      | inl t ↦
          let none : AreRead of stop fields [] p p = record { whole = []; are = refl; follow = refl; over = t.0 } in
          subst (λ y. AreRead of stop fields y.0 p y.1) (ok_is ([], p) x t.1) none
      | inr t ↦
          let a = bind_ok (read_rows fields p) (λ first. with_first (of first.0) (at_most n stop fields of first.1)) x t.1 in
          let b = bind_ok (at_most n stop fields of a.0.1) (λ more. Ok (of a.0.0 ∷ more.0, more.1)) x a.2 in
          let first = read_is_spelled fields p a.0 within a.1 in
          let rest = read_stands of n stop fields a.0.1 b.0 head (next_within a.0.0 p a.0.1 within first.spelled) (next_enough fields a.0.0 n p a.0.1 head first.whole first.spelled enough) b.1 in
          let made : AreRead of stop fields (of a.0.0 ∷ b.0.0) p b.0.1 = record {
            whole = a.0.0 ∷ rest.whole;
            are = ap (λ xs. of a.0.0 ∷ xs) rest.are;
            follow = (t.0, (a.0.1, first.whole, first.spelled, rest.follow));
            over = rest.over;
          } in
          subst (λ y. AreRead of stop fields y.0 p y.1) (ok_is (of a.0.0 ∷ b.0.0, b.0.1) x b.2) made
    ]

pub read_follows : {X : Type 0} (of : List Row → X) (stop : Stop) (fields : Fields) (p : Place)
    (x : List X × Place) → IsHeaded fields → p.at ≤ length p.bits
    → read_list stop fields of p ≡ Ok x → AreRead of stop fields x.0 p x.1
read_follows of stop fields p x head within e =
    read_stands of (suc (length p.bits)) stop fields p x head within (omega arith) (sym (all_items stop fields of p) ∙ e)

read_is_items_fault : {X : Type 0} (of : List Row → X) (n : ℕ) (stop : Stop) (fields : Fields) (p : Place)
    (f : Fault) → p.at ≤ length p.bits → at_most n stop fields of p ≡ Err f
    → IsListFault stop fields p f
read_is_items_fault of zero stop fields p f within e = absurd (let none = sym (at_most_none stop fields of p) ∙ e in cc)
read_is_items_fault of (suc n) stop fields p f within e =
    elim (chosen (ends stop p) (Ok ([], p)) (then_most n stop fields of p) (Err f) (sym (at_most_more n stop fields of p) ∙ e)) [
      | inl t ↦ absurd (let h = t.1 in cc)
      | inr t ↦
          elim (bind_err (read_rows fields p) (λ first. with_first (of first.0) (at_most n stop fields of first.1)) f t.1) [
            | inl h ↦ record { whole = []; reached = p; follow = refl; goes_on = t.0; is_fault = read_is_fault fields p f within h }
            | inr a ↦
                let first = read_is_spelled fields p a.0 within a.1 in
                let rest = read_is_items_fault of n stop fields a.0.1 f (next_within a.0.0 p a.0.1 within first.spelled) (not_after (at_most n stop fields of a.0.1) (of a.0.0) f a.2) in
                record {
                  whole = a.0.0 ∷ rest.whole;
                  reached = rest.reached;
                  follow = (t.0, (a.0.1, first.whole, first.spelled, rest.follow));
                  goes_on = rest.goes_on;
                  is_fault = rest.is_fault;
                }
          ]
    ]

pub read_is_list_fault : {X : Type 0} (of : List Row → X) (stop : Stop) (fields : Fields) (p : Place)
    (f : Fault) → p.at ≤ length p.bits → read_list stop fields of p ≡ Err f
    → IsListFault stop fields p f
read_is_list_fault of stop fields p f within e =
    read_is_items_fault of (suc (length p.bits)) stop fields p f within (sym (all_items stop fields of p) ∙ e)
