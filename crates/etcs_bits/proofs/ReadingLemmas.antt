-- What is read is spelled there, and what is spelled there is read.
use Rattle.std.proofs.Common.{◌≡◌, ℕ, ◌+◌, ◌-◌, ◌^◌, ◌<◌, ◌≤◌, Bool, true, false, cond, ltb, eqb, List, [], ◌∷◌, ◌++◌, length, take, drop, Result, Ok, Err, refl, sym, ap, subst, ◌∙◌, arith, inl, inr}
use Rattle.std.proofs.lemmas.Bool.{ltb-false, ltb-true, le-ltb, lt-ltb, eqb-true, eqb-false, eq-eqb}
use Rattle.std.proofs.lemmas.List.{length-take, length-drop}
use Rattle.etcs_bits.specs.declared.layout.fault.Fault.{Fault}
use Rattle.etcs_bits.specs.declared.layout.fault.FaultKind.TheVariants.{Length}
use Rattle.etcs_bits.specs.bits.Number.{num, num_of_bits}
use Rattle.etcs_bits.specs.layout.Rows.{Variable, Row, Place, Stands, IsSpelled, join, width}
use Rattle.etcs_bits.specs.layout.Fields.{Fields, nothing, field, ◌▹◌, sized, l_packet, AreRowsOf, due, differs}
use Rattle.etcs_bits.specs.layout.Fault.{short, lack, refused, IsDueFault, IsFault}
use Rattle.etcs_bits.specs.layout.Reading.{◌>>=◌, forward, taken, taken_or_closed, read_field, read_rows}
use Rattle.etcs_bits.proofs.NumberLemmas.{length-num, num_of_bits-lt}
use Rattle.etcs_bits.proofs.BindLemmas.{bind_ok, bind_err, pass_ok, pass_err, stop_ok, stop_err, ok_is, err_is, after_stop}
use Rattle.etcs_bits.proofs.StandLemmas.{join-append, length-join, allowed-append, same_position, stands_nothing, stands_then, stands_parts, stands_within, number_stands, standing_number}
use Rattle.etcs_bits.specs.lemmas.RowLemmas.{allowed_first, allowed_second}

-- ---- one field

-- a number that was taken stands there
pub record Took (w : ℕ) (p : Place) (n : ℕ) (q : Place) : Type 0 where
  pub small : n < 2 ^ w
  pub stands : Stands (num w n) p q
  pub within : q.at ≤ length p.bits

pub taken_ok : (w : ℕ) (p : Place) (x : ℕ × Place) → taken w p ≡ Ok x → Took w p x.0 x.1
taken_ok w p x e =
    let g = stop_ok (ltb (length p.bits) (p.at + w)) (short p) (num_of_bits (take w (drop p.at p.bits)), forward p w) x e in
    let fits : p.at + w ≤ length p.bits = ltb-false _ _ g.0 in
    let len : length (take w (drop p.at p.bits)) ≡ w = omega (arith, length-take w (drop p.at p.bits), length-drop p.at p.bits) in
    let made : Took w p (num_of_bits (take w (drop p.at p.bits))) (forward p w) = record {
      small = subst (λ (k : ℕ). num_of_bits (take w (drop p.at p.bits)) < 2 ^ k) len (num_of_bits-lt (take w (drop p.at p.bits)));
      stands = number_stands w p fits;
      within = fits;
    } in
    subst (λ (y : ℕ × Place). Took w p y.0 y.1) g.1 made

pub taken_again : (w n : ℕ) (p q : Place) → n < 2 ^ w → p.at ≤ length p.bits → Stands (num w n) p q → taken w p ≡ Ok (n, q)
taken_again w n p q small within s =
    let past : q.at ≡ p.at + w = s.past ∙ ap (λ (k : ℕ). p.at + k) (length-num w n) in
    let fits : p.at + w ≤ length p.bits = omega (arith, past, stands_within (num w n) p q within s) in
    let there : forward p w ≡ q = same_position (forward p w) q (sym s.same) (sym past) in
    rw (le-ltb (length p.bits) (p.at + w) fits, standing_number w n p q small s, there) refl

closed_ok : (b : Bool) (w : ℕ) (p : Place) (y : ℕ × Place) → taken_or_closed b w p ≡ Ok y → taken w p ≡ Ok y
closed_ok true w p y e = (after_stop (ltb (length p.bits) (p.at + w)) (lack true p) (taken w p) y e).1
closed_ok false w p y e = e

pub closed_again : (b : Bool) (w : ℕ) (p : Place) (y : ℕ × Place) → taken w p ≡ Ok y → taken_or_closed b w p ≡ Ok y
closed_again true w p y e = rw ((stop_ok (ltb (length p.bits) (p.at + w)) (short p) (num_of_bits (take w (drop p.at p.bits)), forward p w) y e).0) (rw ((stop_ok (ltb (length p.bits) (p.at + w)) (short p) (num_of_bits (take w (drop p.at p.bits)), forward p w) y e).0) at e)
closed_again false w p y e = e

pub closed_err : (b : Bool) (w : ℕ) (p : Place) (f : Fault) → taken_or_closed b w p ≡ Err f → (length p.bits < p.at + w) × (f ≡ lack b p)
closed_err true w p f e = closed_stop (ltb (length p.bits) (p.at + w)) refl e
  where
    closed_stop : (c : Bool) → ltb (length p.bits) (p.at + w) ≡ c → cond c (Err (lack true p)) (taken w p) ≡ Err f → (length p.bits < p.at + w) × (f ≡ lack true p)
    closed_stop true is h = (ltb-true _ _ is, sym (err_is (lack true p) f h))
    closed_stop false is h = absurd (let k = rw is at h in cc)
closed_err false w p f e =
    let g = stop_err (ltb (length p.bits) (p.at + w)) (short p) f (num_of_bits (take w (drop p.at p.bits)), forward p w) e in
    (ltb-true _ _ g.0, sym g.1)

pub closed_lacks : (b : Bool) (w : ℕ) (p : Place) → length p.bits < p.at + w → taken_or_closed b w p ≡ Err (lack b p)
closed_lacks true w p lt = rw (lt-ltb (length p.bits) (p.at + w) lt) refl
closed_lacks false w p lt = rw (lt-ltb (length p.bits) (p.at + w) lt) refl

pub record TookField (x : Variable) (p : Place) (n : ℕ) (q : Place) : Type 0 where
  pub took : Took x.width p n q
  pub allowed : x.allows n ≡ true

pub field_ok : (x : Variable) (p : Place) (y : ℕ × Place) → read_field x p ≡ Ok y → TookField x p y.0 y.1
field_ok x p y e =
    let b = bind_ok (taken_or_closed x.closes x.width p) (λ n. cond (x.allows n.0) (Ok n) (Err (refused x p))) y e in
    let g = pass_ok (x.allows b.0.0) (refused x p) b.0 y b.2 in
    let made : TookField x p b.0.0 b.0.1 = record { took = taken_ok x.width p b.0 (closed_ok x.closes x.width p b.0 b.1); allowed = g.0 } in
    subst (λ (z : ℕ × Place). TookField x p z.0 z.1) g.1 made

pub field_again : (x : Variable) (n : ℕ) (p q : Place) → n < 2 ^ x.width → x.allows n ≡ true → p.at ≤ length p.bits → Stands (num x.width n) p q → read_field x p ≡ Ok (n, q)
field_again x n p q small allowed within s = rw (closed_again x.closes x.width p (n, q) (taken_again x.width n p q small within s), allowed) refl

-- ---- rows

abbrev length_row : ℕ → Row
length_row l = record { variable = l_packet; number = l }

abbrev length_fault : ℕ → ℕ → Fault
length_fault at past = record { at = at; end = past; why = Length }

abbrev wrong : Place → Place → Fault
wrong p q = length_fault p.at q.at

-- a step that only builds cannot fail
not_after : {A B : Type 0} (r : Result A Fault) (f : A → B) (d : Fault) → (r >>= λ x. Ok (f x)) ≡ Err d → r ≡ Err d
not_after (Ok x) f d e = absurd cc
not_after (Err c) f d e = cc

pub record IsRead (fields : Fields) (from : Place) (rows : List Row) (to : Place) : Type 0 where
  pub whole : AreRowsOf fields rows
  pub spelled : IsSpelled rows from to
  pub within : to.at ≤ length from.bits

-- What is read is spelled there.
pub read_is_spelled : (fields : Fields) (p : Place) (x : List Row × Place) → p.at ≤ length p.bits → read_rows fields p ≡ Ok x → IsRead fields p x.0 x.1
read_is_spelled nothing p x within e =
    let made : IsRead nothing p [] p = record { whole = refl; spelled = record { allowed = tt; stands = stands_nothing p }; within = within } in
    subst (λ (y : List Row × Place). IsRead nothing p y.0 y.1) (ok_is ([], p) x e) made
read_is_spelled (field v next) p x within e =
    let a = bind_ok (read_field v p) (λ n. read_rows (next n.0) n.1 >>= λ more. Ok (record { variable = v; number = n.0 } ∷ more.0, more.1)) x e in
    let b = bind_ok (read_rows (next a.0.0) a.0.1) (λ more. Ok (record { variable = v; number = a.0.0 } ∷ more.0, more.1)) x a.2 in
    let first = field_ok v p a.0 a.1 in
    let inside : a.0.1.at ≤ length a.0.1.bits = rw first.took.stands.same first.took.within in
    let second = read_is_spelled (next a.0.0) a.0.1 b.0 inside b.1 in
    let made : IsRead (field v next) p (record { variable = v; number = a.0.0 } ∷ b.0.0) b.0.1 = record {
      whole = (a.0.0, b.0.0, refl, second.whole);
      spelled = record {
        allowed = ((first.took.small, first.allowed), second.spelled.allowed);
        stands = stands_then (num v.width a.0.0) (join b.0.0) p a.0.1 b.0.1 first.took.stands second.spelled.stands;
      };
      within = rw first.took.stands.same at second.within;
    } in
    subst (λ (y : List Row × Place). IsRead (field v next) p y.0 y.1) (ok_is (record { variable = v; number = a.0.0 } ∷ b.0.0, b.0.1) x b.2) made
read_is_spelled (l ▹ r) p x within e =
    let a = bind_ok (read_rows l p) (λ first. read_rows r first.1 >>= λ second. Ok (first.0 ++ second.0, second.1)) x e in
    let b = bind_ok (read_rows r a.0.1) (λ second. Ok (a.0.0 ++ second.0, second.1)) x a.2 in
    let first = read_is_spelled l p a.0 within a.1 in
    let inside : a.0.1.at ≤ length a.0.1.bits = rw first.spelled.stands.same first.within in
    let second = read_is_spelled r a.0.1 b.0 inside b.1 in
    let made : IsRead (l ▹ r) p (a.0.0 ++ b.0.0) b.0.1 = record {
      whole = (a.0.0, b.0.0, refl, first.whole, second.whole);
      spelled = record {
        allowed = allowed-append a.0.0 b.0.0 first.spelled.allowed second.spelled.allowed;
        stands = rw join-append (stands_then (join a.0.0) (join b.0.0) p a.0.1 b.0.1 first.spelled.stands second.spelled.stands);
      };
      within = rw first.spelled.stands.same at second.within;
    } in
    subst (λ (y : List Row × Place). IsRead (l ▹ r) p y.0 y.1) (ok_is (a.0.0 ++ b.0.0, b.0.1) x b.2) made
read_is_spelled (sized before body) p x within e =
    let a = bind_ok (read_field l_packet p) (λ l. read_rows body l.1 >>= λ more. cond (eqb l.0 (before + (more.1.at - p.at))) (Ok (length_row l.0 ∷ more.0, more.1)) (Err (wrong p more.1))) x e in
    let b = bind_ok (read_rows body a.0.1) (λ more. cond (eqb a.0.0 (before + (more.1.at - p.at))) (Ok (length_row a.0.0 ∷ more.0, more.1)) (Err (wrong p more.1))) x a.2 in
    let g = pass_ok (eqb a.0.0 (before + (b.0.1.at - p.at))) (wrong p b.0.1) (length_row a.0.0 ∷ b.0.0, b.0.1) x b.2 in
    let first = field_ok l_packet p a.0 a.1 in
    let inside : a.0.1.at ≤ length a.0.1.bits = rw first.took.stands.same first.took.within in
    let second = read_is_spelled body a.0.1 b.0 inside b.1 in
    let sum : a.0.0 ≡ before + (13 + width b.0.0) = omega (arith, eqb-true _ _ g.0, first.took.stands.past, second.spelled.stands.past, length-num 13 a.0.0, length-join b.0.0) in
    let made : IsRead (sized before body) p (length_row a.0.0 ∷ b.0.0) b.0.1 = record {
      whole = (b.0.0, ap (λ (l : ℕ). length_row l ∷ b.0.0) sum, second.whole);
      spelled = record {
        allowed = ((first.took.small, first.allowed), second.spelled.allowed);
        stands = stands_then (num 13 a.0.0) (join b.0.0) p a.0.1 b.0.1 first.took.stands second.spelled.stands;
      };
      within = rw first.took.stands.same at second.within;
    } in
    subst (λ (y : List Row × Place). IsRead (sized before body) p y.0 y.1) g.1 made

-- What is spelled there is read.
pub spelled_is_read : (fields : Fields) (rows : List Row) (p q : Place) → p.at ≤ length p.bits → AreRowsOf fields rows → IsSpelled rows p q → read_rows fields p ≡ Ok (rows, q)
spelled_is_read nothing rows p q within w spelled =
    let none = subst (λ (rs : List Row). IsSpelled rs p q) w spelled in
    let there : p ≡ q = same_position p q (sym none.stands.same) (omega (arith, none.stands.past)) in
    cc
spelled_is_read (field v next) rows p q within (n, more, e, w) spelled =
    let here = subst (λ (rs : List Row). IsSpelled rs p q) e spelled in
    let parts = stands_parts (num v.width n) (join more) p q here.stands in
    let middle = forward p (length (num v.width n)) in
    let first = field_again v n p middle here.allowed.0.0 here.allowed.0.1 within parts.0 in
    let inside : middle.at ≤ length middle.bits = stands_within (num v.width n) p middle within parts.0 in
    let second = spelled_is_read (next n) more middle q inside w (record { allowed = here.allowed.1; stands = parts.1 }) in
    rw (first, second, e) refl
spelled_is_read (l ▹ r) rows p q within (one, two, e, w, v) spelled =
    let here = subst (λ (rs : List Row). IsSpelled rs p q) e spelled in
    let joined = subst (λ (bits : List Bool). Stands bits p q) (join-append one two) here.stands in
    let parts = stands_parts (join one) (join two) p q joined in
    let middle = forward p (length (join one)) in
    let inside : middle.at ≤ length middle.bits = stands_within (join one) p middle within parts.0 in
    let first = spelled_is_read l one p middle within w (record { allowed = allowed_first one two here.allowed; stands = parts.0 }) in
    let second = spelled_is_read r two middle q inside v (record { allowed = allowed_second one two here.allowed; stands = parts.1 }) in
    rw (first, second, e) refl
spelled_is_read (sized before body) rows p q within (more, e, w) spelled =
    let l = before + width rows in
    let here = subst (λ (rs : List Row). IsSpelled rs p q) e spelled in
    let parts = stands_parts (num 13 l) (join more) p q here.stands in
    let middle = forward p (length (num 13 l)) in
    let first = field_again l_packet l p middle here.allowed.0.0 here.allowed.0.1 within parts.0 in
    let inside : middle.at ≤ length middle.bits = stands_within (num 13 l) p middle within parts.0 in
    let second = spelled_is_read body more middle q inside w (record { allowed = here.allowed.1; stands = parts.1 }) in
    let sum : l ≡ before + (q.at - p.at) = omega (arith, spelled.stands.past, length-join rows) in
    let test : eqb l (before + (q.at - p.at)) ≡ true = eq-eqb _ _ sum in
    rw (first, second, test) (ap (λ (rs : List Row). Ok (rs, q)) (sym e))

-- ---- faults

pub field_err : (x : Variable) (p : Place) (f : Fault) → p.at ≤ length p.bits → read_field x p ≡ Err f → IsDueFault (due x) p f
field_err x p f within e =
    elim (bind_err (taken_or_closed x.closes x.width p) (λ n. cond (x.allows n.0) (Ok n) (Err (refused x p))) f e) [
      | inl t ↦ inl (closed_err x.closes x.width p f t)
      | inr t ↦
          let g = pass_err (x.allows t.0.0) (refused x p) f t.0 t.2 in
          let took = taken_ok x.width p t.0 (closed_ok x.closes x.width p t.0 t.1) in
          inr (t.0.0, t.0.1, took.stands, took.small, g.0, sym g.1)
    ]

-- A fault of reading is the fault of an open list.
pub read_is_fault : (fields : Fields) (p : Place) (f : Fault) → p.at ≤ length p.bits → read_rows fields p ≡ Err f → IsFault fields p f
read_is_fault nothing p f within e = absurd cc
read_is_fault (field v next) p f within e =
    elim (bind_err (read_field v p) (λ n. read_rows (next n.0) n.1 >>= λ more. Ok (record { variable = v; number = n.0 } ∷ more.0, more.1)) f e) [
      | inl t ↦ record { rows = []; next = due v; reached = p; is_open = inl (refl, refl); spelled = record { allowed = tt; stands = stands_nothing p }; due_fault = field_err v p f within t }
      | inr a ↦
          let first = field_ok v p a.0 a.1 in
          let inside : a.0.1.at ≤ length a.0.1.bits = rw first.took.stands.same first.took.within in
          let found = read_is_fault (next a.0.0) a.0.1 f inside (not_after (read_rows (next a.0.0) a.0.1) (λ more. (record { variable = v; number = a.0.0 } ∷ more.0, more.1)) f a.2) in
          record {
            rows = record { variable = v; number = a.0.0 } ∷ found.rows;
            next = found.next;
            reached = found.reached;
            is_open = inr (a.0.0, found.rows, refl, found.is_open);
            spelled = record { allowed = ((first.took.small, first.allowed), found.spelled.allowed); stands = stands_then (num v.width a.0.0) (join found.rows) p a.0.1 found.reached first.took.stands found.spelled.stands };
            due_fault = found.due_fault;
          }
    ]
read_is_fault (l ▹ r) p f within e =
    elim (bind_err (read_rows l p) (λ first. read_rows r first.1 >>= λ second. Ok (first.0 ++ second.0, second.1)) f e) [
      | inl t ↦
          let found = read_is_fault l p f within t in
          record { rows = found.rows; next = found.next; reached = found.reached; is_open = inl found.is_open; spelled = found.spelled; due_fault = found.due_fault }
      | inr a ↦
          let first = read_is_spelled l p a.0 within a.1 in
          let inside : a.0.1.at ≤ length a.0.1.bits = rw first.spelled.stands.same first.within in
          let found = read_is_fault r a.0.1 f inside (not_after (read_rows r a.0.1) (λ second. (a.0.0 ++ second.0, second.1)) f a.2) in
          record {
            rows = a.0.0 ++ found.rows;
            next = found.next;
            reached = found.reached;
            is_open = inr (a.0.0, found.rows, refl, first.whole, found.is_open);
            spelled = record {
              allowed = allowed-append a.0.0 found.rows first.spelled.allowed found.spelled.allowed;
              stands = rw join-append (stands_then (join a.0.0) (join found.rows) p a.0.1 found.reached first.spelled.stands found.spelled.stands);
            };
            due_fault = found.due_fault;
          }
    ]
read_is_fault (sized before body) p f within e =
    elim (bind_err (read_field l_packet p) (λ l. read_rows body l.1 >>= λ more. cond (eqb l.0 (before + (more.1.at - p.at))) (Ok (length_row l.0 ∷ more.0, more.1)) (Err (wrong p more.1))) f e) [
      | inl t ↦ record { rows = []; next = due l_packet; reached = p; is_open = inl (refl, refl); spelled = record { allowed = tt; stands = stands_nothing p }; due_fault = field_err l_packet p f within t }
      | inr a ↦
          let first = field_ok l_packet p a.0 a.1 in
          let inside : a.0.1.at ≤ length a.0.1.bits = rw first.took.stands.same first.took.within in
          elim (bind_err (read_rows body a.0.1) (λ more. cond (eqb a.0.0 (before + (more.1.at - p.at))) (Ok (length_row a.0.0 ∷ more.0, more.1)) (Err (wrong p more.1))) f a.2) [
            | inl t ↦
                let found = read_is_fault body a.0.1 f inside t in
                record {
                  rows = length_row a.0.0 ∷ found.rows;
                  next = found.next;
                  reached = found.reached;
                  is_open = inr (a.0.0, found.rows, refl, inl found.is_open);
                  spelled = record { allowed = ((first.took.small, first.allowed), found.spelled.allowed); stands = stands_then (num 13 a.0.0) (join found.rows) p a.0.1 found.reached first.took.stands found.spelled.stands };
                  due_fault = found.due_fault;
                }
            | inr b ↦
                let g = pass_err (eqb a.0.0 (before + (b.0.1.at - p.at))) (wrong p b.0.1) f (length_row a.0.0 ∷ b.0.0, b.0.1) b.2 in
                let second = read_is_spelled body a.0.1 b.0 inside b.1 in
                let places : b.0.1.at ≡ p.at + (13 + width b.0.0) = omega (arith, first.took.stands.past, second.spelled.stands.past, length-num 13 a.0.0, length-join b.0.0) in
                let sums : before + (b.0.1.at - p.at) ≡ before + (13 + width b.0.0) = omega (arith, places) in
                record {
                  rows = length_row a.0.0 ∷ b.0.0;
                  next = differs (13 + width b.0.0);
                  reached = b.0.1;
                  is_open = inr (a.0.0, b.0.0, refl, inr (second.whole, λ same. eqb-false _ _ g.0 (same ∙ sym sums), refl));
                  spelled = record { allowed = ((first.took.small, first.allowed), second.spelled.allowed); stands = stands_then (num 13 a.0.0) (join b.0.0) p a.0.1 b.0.1 first.took.stands second.spelled.stands };
                  due_fault = sym g.1 ∙ ap (λ (k : ℕ). length_fault k b.0.1.at) (omega (arith, places));
                }
          ]
    ]
