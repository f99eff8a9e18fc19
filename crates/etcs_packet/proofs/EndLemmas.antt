-- Eight bits decide whether a list ends. A record that begins with NID_PACKET has as many.
use Rattle.std.proofs.Common.{◌≡◌, ℕ, ◌+◌, ◌-◌, ◌<◌, ◌≤◌, Bool, true, false, ltb, List, [], length, take, drop, refl, sym, ap, subst, ◌∙◌, arith, inl, inr, ◌⊎◌}
use Rattle.std.proofs.lemmas.Bool.{lt-ltb, ltb-true, ltb-false}
use Rattle.std.proofs.lemmas.List.{take-take, drop-take}
use Rattle.etcs_bits.specs.declared.layout.fault.Fault.{Fault}
use Rattle.etcs_bits.specs.layout.Rows.{Variable, Row, Place, IsSpelled, join, width}
use Rattle.etcs_bits.specs.layout.Fields.{Fields, nothing, field, ◌▹◌, sized, AreRowsOf, Due, due, differs, IsOpen}
use Rattle.etcs_bits.specs.layout.Fault.{lack, IsDueFault, IsFault}
use Rattle.etcs_bits.proofs.StandLemmas.{place_in, length-join, stands_nothing, stands_within}
use Rattle.etcs_packet.specs.declared.stop.Stop.{Stop}
use Rattle.etcs_packet.specs.declared.stop.Stop.TheVariants as stops
use Rattle.etcs_packet.specs.Lists.{IsHeaded, ends}

-- Two inputs have the same length and the same first `n` bits. A list ends at a place in both or in
-- neither, if these bits hold the eight that count, or if both have fewer there.
pub settled : (stop : Stop) (p : Place) (bits : List Bool) (n : ℕ)
    → length bits ≡ length p.bits → take n bits ≡ take n p.bits
    → (p.at + 8 ≤ n) ⊎ (length p.bits < p.at + 8) → ends stop (place_in bits p.at) ≡ ends stop p
settled stop p bits n len same (inl le) =
    let front : take (p.at + 8) bits ≡ take (p.at + 8) p.bits =
    sym (take-take (p.at + 8) n bits le) ∙ ap (take (p.at + 8)) same
    ∙ take-take (p.at + 8) n p.bits le in
    let eight : take 8 (drop p.at bits) ≡ take 8 (drop p.at p.bits) =
    sym (drop-take p.at 8 bits) ∙ ap (drop p.at) front ∙ drop-take p.at 8 p.bits in
    rw (len, eight) refl
settled stop p bits n len same (inr lt) = rw (len, lt-ltb (length p.bits) (p.at + 8) lt) refl

-- where a list goes on, NID_PACKET has room, unless a telegram has too few bits for it
pub has_room : (stop : Stop) (p : Place) → (stop ≡ stops.Telegram → length p.bits < p.at + 8 → ⊥)
    → ends stop p ≡ false → p.at + 8 ≤ length p.bits
has_room stop p enough goes = by_size stop (ltb (length p.bits) (p.at + 8)) refl enough goes
  where
    by_size : (s : Stop) (b : Bool) → ltb (length p.bits) (p.at + 8) ≡ b
        → (s ≡ stops.Telegram → length p.bits < p.at + 8 → ⊥) → ends s p ≡ false
        → p.at + 8 ≤ length p.bits
    by_size stops.Telegram true few enough goes =
        absurd (enough refl (ltb-true (length p.bits) (p.at + 8) few))
    by_size stops.Message true few enough goes = let ended = rw few at goes in absurd cc
    by_size _ false many enough goes = ltb-false (length p.bits) (p.at + 8) many

-- ---- a fault after NID_PACKET's eight bits

lack_past : (closes : Bool) (p : Place) → p.at ≤ length p.bits → p.at ≤ (lack closes p).end
lack_past true p within = omega arith
lack_past false p within = within

due_fault_past : (d : Due) (e : Place) (f : Fault) → e.at ≤ length e.bits → IsDueFault d e f → e.at ≤ f.end
due_fault_past (due x) e f within (inl (lt, is)) =
    subst (λ (g : Fault). e.at ≤ g.end) (sym is) (lack_past x.closes e within)
due_fault_past (due x) e f within (inr (n, after, stands, small, spare, is)) =
    omega (arith, ap (λ (g : Fault). g.end) is)
due_fault_past (differs back) e f within is = omega (arith, ap (λ (g : Fault). g.end) is)

-- The eight bits here are among those that decide the fault, or fewer than eight are left.
abbrev pub IsPast : Place → Fault → Type 0
IsPast p f = (p.at ≤ f.end) × ((p.at + 8 ≤ f.end) ⊎ (length p.bits < p.at + 8))

first_past : (x : Variable) (p e : Place) (f : Fault) → x.width ≡ 8 → e.at ≡ p.at
    → length e.bits ≡ length p.bits → e.at ≤ length e.bits → IsDueFault (due x) e f → IsPast p f
first_past x p e f eight at len within (inl (lt, is)) =
    let past = due_fault_past (due x) e f within (inl (lt, is)) in
    (omega (arith, past, at), inr (omega (arith, lt, at, len, eight)))
first_past x p e f eight at len within (inr (n, after, stands, small, spare, is)) =
    let end = ap (λ (g : Fault). g.end) is in
    (omega (arith, end, at), inl (omega (arith, end, at, eight)))

open_past : (x : Variable) (next : ℕ → Fields) (rows : List Row) (d : Due) (p e : Place) (f : Fault)
    → x.width ≡ 8 → p.at ≤ length p.bits → IsOpen (field x next) rows d
    → IsSpelled rows p e → IsDueFault d e f → IsPast p f
open_past x next rows d p e f eight within (inl (empty, is)) spelled due_fault =
    let len = ap length spelled.stands.same in
    let inside = stands_within (join rows) p e within spelled.stands in
    let at : e.at ≡ p.at = omega (arith, spelled.stands.past, length-join rows, ap width empty) in
    first_past x p e f eight at len (omega (arith, inside, len))
    (subst (λ (g : Due). IsDueFault g e f) is due_fault)
open_past x next rows d p e f eight within (inr (n, more, is, o)) spelled due_fault =
    let len = ap length spelled.stands.same in
    let inside = stands_within (join rows) p e within spelled.stands in
    let past = due_fault_past d e f (omega (arith, inside, len)) due_fault in
    let far : p.at + 8 ≤ f.end =
    omega (arith, spelled.stands.past, length-join rows, ap width is, past, eight) in
    (omega (arith, far), inl far)

pub fault_past : (fields : Fields) (p : Place) (f : Fault) → IsHeaded fields
    → p.at ≤ length p.bits → IsFault fields p f → IsPast p f
fault_past (field x next) p f head within t =
    open_past x next t.rows t.next p t.reached f head.0 within t.is_open t.spelled t.due_fault
fault_past nothing p f head within t = absurd head
fault_past (a ▹ b) p f head within t = absurd head
fault_past (sized before body) p f head within t = absurd head

-- too few bits for NID_PACKET are a NoEnd fault
pub no_end_here : (fields : Fields) (p : Place) → IsHeaded fields → length p.bits < p.at + 8
    → IsFault fields p (lack true p)
no_end_here (field x next) p head few = record {
  rows = [];
  next = due x;
  reached = p;
  is_open = inl (refl, refl);
  spelled = record { allowed = tt; stands = stands_nothing p };
  due_fault = inl (omega (arith, few, head.0), ap (λ closes. lack closes p) (sym head.1));
}
no_end_here nothing p head few = absurd head
no_end_here (a ▹ b) p head few = absurd head
no_end_here (sized before body) p head few = absurd head

-- ---- a record that begins with NID_PACKET has eight bits

pub headed_wide : (fields : Fields) (rows : List Row) → IsHeaded fields → AreRowsOf fields rows
    → 8 ≤ width rows
headed_wide (field x next) rows head (n, more, is, w) = omega (arith, ap width is, head.0)
headed_wide nothing rows head w = absurd head
headed_wide (a ▹ b) rows head w = absurd head
headed_wide (sized before body) rows head w = absurd head

pub next_within : (rows : List Row) (p q : Place) → p.at ≤ length p.bits → IsSpelled rows p q
    → q.at ≤ length q.bits
next_within rows p q within s =
    omega (arith, stands_within (join rows) p q within s.stands, ap length s.stands.same)

-- fewer bits are left after a record
pub less_left : (fields : Fields) (rows : List Row) (p q : Place) → IsHeaded fields
    → p.at ≤ length p.bits → AreRowsOf fields rows → IsSpelled rows p q
    → length q.bits - q.at < length p.bits - p.at
less_left fields rows p q head within w s =
    omega (arith, within, headed_wide fields rows head w, length-join rows, s.stands.past, stands_within (join rows) p q within s.stands, ap length s.stands.same)
