-- The fault of an open list is the one that reading gives, and then no record stands there.
use Rattle.std.proofs.Common.{◌≡◌, ℕ, ◌+◌, ◌-◌, ◌≤◌, Bool, true, false, eqb, List, ◌++◌, length, take, Result, Ok, Err, refl, sym, ap, subst, ◌∙◌, arith, inl, inr}
use Rattle.std.proofs.lemmas.Bool.{ne_eqb}
use Rattle.std.proofs.lemmas.List.{drop_at, append_cancel_left}
use Rattle.etcs_bits.specs.declared.layout.fault.Fault.{Fault}
use Rattle.etcs_bits.specs.declared.layout.fault.FaultKind.TheVariants.{Short}
use Rattle.etcs_bits.specs.bits.Number.{num}
use Rattle.etcs_bits.specs.layout.Rows.{Variable, Row, Place, Stands, IsSpelled, AreAllowed, join, width}
use Rattle.etcs_bits.specs.layout.Fields.{Fields, nothing, field, ◌▹◌, sized, l_packet, AreRowsOf, Due, due, differs, IsOpen}
use Rattle.etcs_bits.specs.layout.Fault.{lack, IsDueFault, IsFault}
use Rattle.etcs_bits.specs.layout.Reading.{forward, read_field, read_rows}
use Rattle.etcs_bits.proofs.NumberLemmas.{length-num}
use Rattle.etcs_bits.proofs.BindLemmas.{ok_is, err_is}
use Rattle.etcs_bits.proofs.StandLemmas.{place_in, join-append, length-join, same_position, stands_parts, stands_within, stands_moved}
use Rattle.etcs_bits.specs.lemmas.RowLemmas.{allowed_first, allowed_second}
use Rattle.etcs_bits.proofs.ReadingLemmas.{taken_again, closed_again, closed_lacks, field_again, spelled_is_read}

abbrev given : List Row → Place → Result (List Row × Place) Fault
given rows p = Ok (rows, p)

abbrev failing : Fault → Result (List Row × Place) Fault
failing f = Err f

abbrev short_of : ℕ → ℕ → Fault
short_of at len = record { at = at; end = len; why = Short }

pub field_fault_is_given : (x : Variable) (p : Place) (f : Fault) → p.at ≤ length p.bits → IsDueFault (due x) p f → read_field x p ≡ Err f
field_fault_is_given x p f within (inl (lt, e)) = rw (closed_lacks x.closes x.width p lt, e) refl
field_fault_is_given x p f within (inr (n, after, stands, small, spare, e)) = rw (closed_again x.closes x.width p (n, after) (taken_again x.width n p after small within stands), spare, e) refl

open_fault_is_given : (fields : Fields) (rows : List Row) (d : Due) (p q : Place) (f : Fault) → p.at ≤ length p.bits → IsOpen fields rows d → IsSpelled rows p q → IsDueFault d q f → read_rows fields p ≡ Err f
open_fault_is_given nothing rows d p q f within o spelled due_fault = absurd o
open_fault_is_given (field v next) rows d p q f within (inl (none, is_due)) spelled due_fault =
    let here = subst (λ (rs : List Row). IsSpelled rs p q) none spelled in
    let there : q ≡ p = same_position q p here.stands.same (omega (arith, here.stands.past)) in
    let due_fault_here : IsDueFault (due v) p f = subst (λ (z : Place). IsDueFault (due v) z f) there (subst (λ (z : Due). IsDueFault z q f) is_due due_fault) in
    rw (field_fault_is_given v p f within due_fault_here) refl
open_fault_is_given (field v next) rows d p q f within (inr (n, more, e, o)) spelled due_fault =
    let here = subst (λ (rs : List Row). IsSpelled rs p q) e spelled in
    let parts = stands_parts (num v.width n) (join more) p q here.stands in
    let middle = forward p (length (num v.width n)) in
    let inside : middle.at ≤ length middle.bits = stands_within (num v.width n) p middle within parts.0 in
    rw (field_again v n p middle here.allowed.0.0 here.allowed.0.1 within parts.0, open_fault_is_given (next n) more d middle q f inside o (record { allowed = here.allowed.1; stands = parts.1 }) due_fault) refl
open_fault_is_given (l ▹ r) rows d p q f within (inl o) spelled due_fault = rw (open_fault_is_given l rows d p q f within o spelled due_fault) refl
open_fault_is_given (l ▹ r) rows d p q f within (inr (one, two, e, w, o)) spelled due_fault =
    let here = subst (λ (rs : List Row). IsSpelled rs p q) e spelled in
    let joined = subst (λ (bits : List Bool). Stands bits p q) (join-append one two) here.stands in
    let parts = stands_parts (join one) (join two) p q joined in
    let middle = forward p (length (join one)) in
    let inside : middle.at ≤ length middle.bits = stands_within (join one) p middle within parts.0 in
    let first = spelled_is_read l one p middle within w (record { allowed = allowed_first one two here.allowed; stands = parts.0 }) in
    rw (first, open_fault_is_given r two d middle q f inside o (record { allowed = allowed_second one two here.allowed; stands = parts.1 }) due_fault) refl
open_fault_is_given (sized before body) rows d p q f within (inl (none, is_due)) spelled due_fault =
    let here = subst (λ (rs : List Row). IsSpelled rs p q) none spelled in
    let there : q ≡ p = same_position q p here.stands.same (omega (arith, here.stands.past)) in
    let due_fault_here : IsDueFault (due l_packet) p f = subst (λ (z : Place). IsDueFault (due l_packet) z f) there (subst (λ (z : Due). IsDueFault z q f) is_due due_fault) in
    rw (field_fault_is_given l_packet p f within due_fault_here) refl
open_fault_is_given (sized before body) rows d p q f within (inr (l, more, e, inl o)) spelled due_fault =
    let here = subst (λ (rs : List Row). IsSpelled rs p q) e spelled in
    let parts = stands_parts (num 13 l) (join more) p q here.stands in
    let middle = forward p (length (num 13 l)) in
    let inside : middle.at ≤ length middle.bits = stands_within (num 13 l) p middle within parts.0 in
    rw (field_again l_packet l p middle here.allowed.0.0 here.allowed.0.1 within parts.0, open_fault_is_given body more d middle q f inside o (record { allowed = here.allowed.1; stands = parts.1 }) due_fault) refl
open_fault_is_given (sized before body) rows d p q f within (inr (l, more, e, inr (w, wrong, is_due))) spelled due_fault =
    let here = subst (λ (rs : List Row). IsSpelled rs p q) e spelled in
    let parts = stands_parts (num 13 l) (join more) p q here.stands in
    let middle = forward p (length (num 13 l)) in
    let inside : middle.at ≤ length middle.bits = stands_within (num 13 l) p middle within parts.0 in
    let second = spelled_is_read body more middle q inside w (record { allowed = here.allowed.1; stands = parts.1 }) in
    let past : q.at ≡ p.at + width rows = spelled.stands.past ∙ ap (λ (k : ℕ). p.at + k) (length-join rows) in
    let sums : before + (q.at - p.at) ≡ before + width rows = omega (arith, past) in
    let test : eqb l (before + (q.at - p.at)) ≡ false = ne_eqb _ _ (λ same. wrong (same ∙ sums)) in
    let due_fault_here : IsDueFault (differs (width rows)) q f = subst (λ (z : Due). IsDueFault z q f) is_due due_fault in
    let back : q.at - width rows ≡ p.at = omega (arith, past) in
    rw (field_again l_packet l p middle here.allowed.0.0 here.allowed.0.1 within parts.0, second, test, due_fault_here, back) refl

-- The fault of an open list is the one that reading gives: no two lists have different faults.
pub fault_is_given : (fields : Fields) (p : Place) (f : Fault) → p.at ≤ length p.bits → IsFault fields p f → read_rows fields p ≡ Err f
fault_is_given fields p f within t = open_fault_is_given fields t.rows t.next p t.reached f within t.is_open t.spelled t.due_fault

lack_end : (b : Bool) (p : Place) → p.at ≤ length p.bits → p.at ≤ (lack b p).end
lack_end true p within = omega arith
lack_end false p within = within

lack_moved : (b : Bool) (p : Place) (bits : List Bool) → length p.bits ≡ length bits → lack b p ≡ lack b (place_in bits p.at)
lack_moved true p bits e = refl
lack_moved false p bits e = ap (λ (k : ℕ). short_of p.at k) e

-- A fault stays, whatever follows its end.
pub fault_stays : (fields : Fields) (p : Place) (f : Fault) (bits : List Bool) → p.at ≤ length p.bits → length bits ≡ length p.bits → take f.end bits ≡ take f.end p.bits → IsFault fields p f → IsFault fields (place_in bits p.at) f
fault_stays fields p f bits within len same t = go t.next t.is_open t.due_fault
  where
    inside : t.reached.at ≤ length p.bits
    inside = stands_within (join t.rows) p t.reached within t.spelled.stands

    lengths : length t.reached.bits ≡ length bits
    lengths = ap length t.spelled.stands.same ∙ sym len

    moved : (d : Due) → IsOpen fields t.rows d → t.reached.at ≤ f.end → IsDueFault d (place_in bits t.reached.at) f → IsFault fields (place_in bits p.at) f
    moved d o le due_fault = record {
      rows = t.rows;
      next = d;
      reached = place_in bits t.reached.at;
      is_open = o;
      spelled = record { allowed = t.spelled.allowed; stands = stands_moved (join t.rows) p t.reached bits f.end t.spelled.stands le same };
      due_fault = due_fault;
    }

    go : (d : Due) → IsOpen fields t.rows d → IsDueFault d t.reached f → IsFault fields (place_in bits p.at) f
    go (due x) o (inl (lt, e)) =
        let end_is : f.end ≡ (lack x.closes t.reached).end = ap (λ (g : Fault). g.end) e in
        moved (due x) o (omega (arith, end_is, lack_end x.closes t.reached (omega (arith, inside, lengths, len)))) (inl (rw (← lengths) lt, e ∙ lack_moved x.closes t.reached bits lengths))
    go (due x) o (inr (n, after, stands, small, spare, e)) =
        let end_is : f.end ≡ t.reached.at + x.width = ap (λ (g : Fault). g.end) e in
        let past : after.at ≡ t.reached.at + x.width = stands.past ∙ ap (λ (k : ℕ). t.reached.at + k) (length-num x.width n) in
        let front : take f.end bits ≡ take f.end t.reached.bits = same ∙ ap (take f.end) (sym t.spelled.stands.same) in
        let there = stands_moved (num x.width n) t.reached after bits f.end stands (omega (arith, end_is, past)) front in
        moved (due x) o (omega (arith, end_is)) (inr (n, place_in bits after.at, there, small, spare, e))
    go (differs back) o e = moved (differs back) o (let end_is : f.end ≡ t.reached.at = ap (λ (g : Fault). g.end) e in omega (arith, end_is)) e

-- If a place has a fault, no record of the fields stands there, in any list of the same length with
-- the same front.
pub none_stands : (fields : Fields) (p : Place) (f : Fault) (bits : List Bool) (rows : List Row) (q : Place) → p.at ≤ length p.bits → length bits ≡ length p.bits → take f.end bits ≡ take f.end p.bits
    → IsFault fields p f → AreRowsOf fields rows → IsSpelled rows (place_in bits p.at) q → ⊥
none_stands fields p f bits rows q within len same t w spelled =
    let inside : p.at ≤ length bits = omega (arith, within, len) in
    let fails = fault_is_given fields (place_in bits p.at) f inside (fault_stays fields p f bits within len same t) in
    let reads = spelled_is_read fields rows (place_in bits p.at) q inside w spelled in
    cc

-- Two lists of rows that stand at one place are equal, and end at one place.
pub one_reading : (fields : Fields) (xs ys : List Row) (p q r : Place) → p.at ≤ length p.bits → AreRowsOf fields xs → AreRowsOf fields ys → IsSpelled xs p q → IsSpelled ys p r → (xs ≡ ys) × (q ≡ r)
one_reading fields xs ys p q r within v w first second =
    let a = spelled_is_read fields xs p q within v first in
    let b = spelled_is_read fields ys p r within w second in
    let same : given xs q ≡ given ys r = sym a ∙ b in
    let pairs = ok_is (xs, q) (ys, r) same in
    (ap (λ (x : List Row × Place). x.0) pairs, ap (λ (x : List Row × Place). x.1) pairs)

-- A place has at most one fault.
pub same_fault : (fields : Fields) (p : Place) (f g : Fault) → p.at ≤ length p.bits → IsFault fields p f → IsFault fields p g → f ≡ g
same_fault fields p f g within t u =
    let a = fault_is_given fields p f within t in
    let b = fault_is_given fields p g within u in
    err_is f g (let same : failing f ≡ failing g = sym a ∙ b in same)

-- Two lists of rows that are spelled at the front of one list of bits are equal.
pub spelled_at_front : (rows : List Row) (x : List Bool) → AreAllowed rows → IsSpelled rows (place_in (join rows ++ x) 0) (place_in (join rows ++ x) (length (join rows)))
spelled_at_front rows x allowed = record { allowed = allowed; stands = record { same = refl; here = ap (λ (bits : List Bool). join rows ++ bits) (sym (drop_at (join rows) x (length (join rows)) refl)); past = omega arith } }

pub no_front : (fields : Fields) (xs ys : List Row) (x y : List Bool) → AreRowsOf fields xs → AreRowsOf fields ys → AreAllowed xs → AreAllowed ys → join xs ++ x ≡ join ys ++ y → (xs ≡ ys) × (x ≡ y)
no_front fields xs ys x y v w a b e =
    let first = spelled_at_front xs x a in
    let second = subst (λ (bits : List Bool). IsSpelled ys (place_in bits 0) (place_in bits (length (join ys)))) (sym e) (spelled_at_front ys y b) in
    let same = one_reading fields xs ys (place_in (join xs ++ x) 0) (place_in (join xs ++ x) (length (join xs))) (place_in (join xs ++ x) (length (join ys))) (omega arith) v w first second in
    (same.0, append_cancel_left (join ys) x y (ap (λ (rs : List Row). join rs ++ x) (sym same.0) ∙ e))
