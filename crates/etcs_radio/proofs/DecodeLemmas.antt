-- From what the code reads to what bytes mean.
use Rattle.std.proofs.Common.{◌≡◌, ℕ, ◌+◌, ◌*◌, ◌≤◌, min, ltb, true, false, Bool, List, length, take, drop, Result, Ok, Err, refl, sym, ap, subst, ◌∙◌, ◌==◌, inl, arith}
use Rattle.std.specs.Prelude.{IfOk}
use Rattle.std.proofs.lemmas.List.{take_all, length-take, length-take-le, take-take}
use Rattle.std.proofs.lemmas.Bool.{le-ltb, ltb-true, ltb-false, ne_eqb}
use Rattle.etcs_bits.specs.declared.layout.fault.Fault.{Fault}
use Rattle.etcs_bits.specs.declared.layout.fault.DecodeError.{DecodeError}
use Rattle.etcs_bits.specs.declared.layout.fault.DecodeError.TheVariants as errors
use Rattle.etcs_bits.specs.declared.layout.fault.FaultKind.TheVariants.{Length, MessageKind}
use Rattle.etcs_bits.specs.bits.Number.{num_of_bits, bits_of_bytes}
use Rattle.etcs_bits.specs.layout.Rows.{Row, Place}
use Rattle.etcs_bits.specs.layout.Fields.{Fields, one, ◌▹◌}
use Rattle.etcs_bits.specs.layout.Reading.{◌>>=◌, forward, taken, read_rows}
use Rattle.etcs_bits.specs.layout.Results.{Fails, Means, IfFault, IfMemory}
use Rattle.etcs_bits.specs.layout.Fault.{IsFault}
use Rattle.etcs_bits.specs.variables.Variables.{only}
use Rattle.etcs_bits.proofs.NumberLemmas.{length-bits_of_bytes}
use Rattle.etcs_bits.proofs.BindLemmas.{err_is}
use Rattle.etcs_bits.proofs.LayoutLemmas.{is_spelled}
use Rattle.etcs_bits.proofs.ReadingLemmas.{spelled_is_read, taken_ok}
use Rattle.etcs_bits.proofs.ViewLemmas.{in_few_bytes}
use Rattle.etcs_profile.proofs.GrowthLemmas.{memory_follows}
use Rattle.etcs_packet.specs.Whole.{start}
use Rattle.etcs_packet.proofs.WholeLemmas.{head_stands}
use Rattle.etcs_radio.specs.declared.message.Message.{Message}
use Rattle.etcs_radio.specs.Head.{Head, head, head_numbered, nid_message, movement_head, position_head}
use Rattle.etcs_radio.specs.Meaning.{read_message_packets, read_message}
use Rattle.etcs_radio.specs.Message.{beginning, IsMessage, IsMessageFault, IsNoMessage, MessageGrows, PacketsGrow}
use Rattle.etcs_radio.proofs.MessageLemmas.{then_packets, meant, means_message, fault_meant, meant_fault}
use Rattle.etcs_radio.proofs.NoMessageLemmas.{fault_none}

-- ---- more bytes than L_MESSAGE can count

-- the next w bits, if there are as many
taken_there : (w : ℕ) (p : Place) → p.at + w ≤ length p.bits
    → taken w p ≡ Ok (num_of_bits (take w (drop p.at p.bits)), forward p w)
taken_there w p fits = rw (le-ltb (length p.bits) (p.at + w) fits) refl

-- L_MESSAGE is no number that does not fit in its ten bits
length_refused : (n : ℕ) (rest : Fields) (q : Place) → 1024 ≤ n → q.at + 10 ≤ length q.bits
    → read_rows (one (only 10 n Length) ▹ rest) q ≡ Err (record { at = q.at; end = q.at + 10; why = Length })
length_refused n rest q many fits =
    let j = num_of_bits (take 10 (drop q.at q.bits)) in
    let read = taken_there 10 q fits in
    let small = (taken_ok 10 q (j, forward q 10) read).small in
    let other : (j == n) ≡ false = ne_eqb j n (λ e. absurd (omega (arith, small, e, many))) in
    rw (read, other) refl

-- the rest of a table of fields, after NID_MESSAGE
abbrev after : ℕ → ℕ → Fields
after n k = (head_numbered n).next k

after_refused : (n k : ℕ) (q : Place) → 1024 ≤ n → q.at + 10 ≤ length q.bits
    → read_rows (after n k) q ≡ Err (record { at = q.at; end = q.at + 10; why = Length })
after_refused n k q many fits = by_kind (k == 3) refl
  where
    by_kind : (b : Bool) → (k == 3) ≡ b → read_rows (after n k) q ≡ Err (record { at = q.at; end = q.at + 10; why = Length })
    by_kind true is = rw is (length_refused n movement_head.fields q many fits)
    by_kind false is = rw is (length_refused n position_head.fields q many fits)

-- the fault of a head, by its NID_MESSAGE
abbrev long_fault : Bool → Fault
long_fault true = record { at = 8; end = 18; why = Length }
long_fault false = record { at = 0; end = 8; why = MessageKind }

long_by : (n k : ℕ) (b : Bool) (p : Place) → 1024 ≤ n → p.at ≡ 0 → 18 ≤ length p.bits
    → taken 8 p ≡ Ok (k, forward p 8) → nid_message.allows k ≡ b
    → read_rows (head n).fields p ≡ Err (long_fault b)
long_by n k true p many at fits read is =
    let refused = after_refused n k (forward p 8) many (omega (arith, fits, at)) in
    let place : record { at = p.at + 8; end = p.at + 8 + 10; why = Length } ≡ long_fault true = rw at refl in
    rw (read, is, refused) (ap Err place)
long_by n k false p many at fits read is = rw (read, is, at) refl

long_head : (n : ℕ) (bits : List Bool) → 1024 ≤ n → 18 ≤ length bits
    → read_rows (head n).fields (start bits) ≡ Err (long_fault (nid_message.allows (num_of_bits (take 8 bits))))
long_head n bits many fits =
    long_by n (num_of_bits (take 8 bits)) (nid_message.allows (num_of_bits (take 8 bits))) (start bits) many refl fits
    (taken_there 8 (start bits) (omega (arith, fits))) refl

-- the first 1,024 bytes have the same head as all
pub same_head : (bytes : List ℕ) (few : ℕ) (bits : List Bool) → few ≡ min (length bytes) 1024
    → bits ≡ take (8 * few) (bits_of_bytes bytes)
    → read_rows (head (length bytes)).fields (start bits) ≡ read_rows (head (length bytes)).fields (beginning bytes)
same_head bytes few bits least is = by_size (ltb 1024 (length bytes)) refl
  where
    by_size : (b : Bool) → ltb 1024 (length bytes) ≡ b
        → read_rows (head (length bytes)).fields (start bits) ≡ read_rows (head (length bytes)).fields (beginning bytes)
    by_size true more =
        let many : 1024 ≤ length bytes = omega (arith, ltb-true 1024 (length bytes) more) in
        let all = bits_of_bytes bytes in
        let count = length-bits_of_bytes bytes in
        let fits : 18 ≤ length bits = omega (arith, ap length is, length-take (8 * few) all, count, least, many) in
        let front : take 8 bits ≡ take 8 all = ap (take 8) is ∙ take-take 8 (8 * few) all (omega (arith, least, many)) in
        long_head (length bytes) bits many fits
        ∙ ap (λ (xs : List Bool). Err (long_fault (nid_message.allows (num_of_bits xs)))) front
        ∙ sym (long_head (length bytes) all many (omega (arith, count, many)))
    by_size false not_more =
        let least_too : length bytes ≤ 1024 = ltb-false 1024 (length bytes) not_more in
        let whole = take_all (8 * few) (bits_of_bytes bytes) (omega (arith, length-bits_of_bytes bytes, least, least_too)) in
        ap (λ (xs : List Bool). read_rows (head (length bytes)).fields (start xs)) (is ∙ whole)

-- ---- what the calls return

-- the bytes that are read, as a place
pub record AreSeen (bytes : List ℕ) (p : Place) : Type 0 where
  pub few : ℕ
  pub bits : List Bool
  pub least : few ≡ min (length bytes) 1024
  pub are : bits ≡ take (8 * few) (bits_of_bytes bytes)
  pub here : p ≡ start bits

seen_head : (bytes : List ℕ) (p : Place) → AreSeen bytes p
    → read_rows (head (length bytes)).fields p ≡ read_rows (head (length bytes)).fields (beginning bytes)
seen_head bytes p s =
    ap (λ (q : Place). read_rows (head (length bytes)).fields q) s.here ∙ same_head bytes s.few s.bits s.least s.are

pub head_fails : (e : DecodeError) (bytes : List ℕ) (p : Place) → AreSeen bytes p
    → Fails e (read_rows (head (length bytes)).fields p) → Fails e (read_message bytes)
head_fails errors.Memory bytes p s fails = tt
head_fails (errors.Fault f) bytes p s fails =
    meant bytes ∙ ap (λ (r : Result (List Row × Place) Fault). r >>= then_packets (length bytes)) (sym (seen_head bytes p s) ∙ fails)

head_is : (bytes : List ℕ) (p q : Place) (h : Head) → AreSeen bytes p
    → read_rows (head (length bytes)).fields p ≡ Ok ((head (length bytes)).rows h, q)
    → read_message bytes ≡ read_message_packets h q
head_is bytes p q h s read =
    meant bytes ∙ ap (λ (r : Result (List Row × Place) Fault). r >>= then_packets (length bytes)) (sym (seen_head bytes p s) ∙ read)
    ∙ ap (λ (k : Head). read_message_packets k q) ((head (length bytes)).laid.is_record h)

pub message_means : (r : Result Message DecodeError) (bytes : List ℕ) (p q : Place) (h : Head) → AreSeen bytes p
    → read_rows (head (length bytes)).fields p ≡ Ok ((head (length bytes)).rows h, q)
    → Means (λ m. m) r (read_message_packets h q) → Means (λ m. m) r (read_message bytes)
message_means r bytes p q h s read means =
    subst (λ (x : Result Message Fault). Means (λ m. m) r x) (sym (head_is bytes p q h s read)) means

-- after a head that was read only the packets allocate
pub if_grows : (r : Result Message DecodeError) (bytes : List ℕ) (p q : Place) (h : Head) → AreSeen bytes p
    → read_rows (head (length bytes)).fields p ≡ Ok ((head (length bytes)).rows h, q)
    → IfMemory r (PacketsGrow h q) → IfMemory r (MessageGrows bytes)
if_grows r bytes p q h s read =
    let first = is_spelled (head (length bytes)).fields ((head (length bytes)).rows h) (beginning bytes) q (omega arith) (sym (seen_head bytes p s) ∙ read) in
    memory_follows r (λ (grows : PacketsGrow h q). record { h = h; middle = q; first = first; packets = grows })

pub ok_of : (r : Result Message DecodeError) (bytes : List ℕ) → Means (λ m. m) r (read_message bytes)
    → IfOk r (λ m. IsMessage m bytes)
ok_of (Ok m) bytes means = means_message m bytes means
ok_of (Err e) bytes means = tt

pub fault_of : (r : Result Message DecodeError) (bytes : List ℕ) → Means (λ m. m) r (read_message bytes)
    → IfFault r (λ f. IsMessageFault bytes f)
fault_of (Ok m) bytes means = tt
fault_of (Err errors.Memory) bytes means = tt
fault_of (Err (errors.Fault f)) bytes means = meant_fault bytes f means

pub none_of : (r : Result Message DecodeError) (bytes : List ℕ) → Means (λ m. m) r (read_message bytes)
    → IfFault r (λ f. IsNoMessage bytes f)
none_of (Ok m) bytes means = tt
none_of (Err errors.Memory) bytes means = tt
none_of (Err (errors.Fault f)) bytes means = fault_none bytes f (meant_fault bytes f means)

-- if the packets grow, the head has no fault
pub no_head_fault : (bytes : List ℕ) (f : Fault) → MessageGrows bytes → IsFault (head (length bytes)).fields (beginning bytes) f → ⊥
no_head_fault bytes f x fault =
    head_stands (head (length bytes)).fields (head (length bytes)).rows x.h (beginning bytes) x.middle f (omega arith) (head (length bytes)).laid.are_rows x.first fault

-- the head's fault is the one that is returned
pub head_fault_returned : (r : Result Message DecodeError) (bytes : List ℕ) (f : Fault) → Means (λ m. m) r (read_message bytes)
    → IfMemory r (MessageGrows bytes) → IsFault (head (length bytes)).fields (beginning bytes) f → r ≡ Err (errors.Fault f)
head_fault_returned (Ok m) bytes f means grows fault = let fails = sym means ∙ fault_meant bytes f (inl fault) in absurd cc
head_fault_returned (Err errors.Memory) bytes f means grows fault = absurd (no_head_fault bytes f grows fault)
head_fault_returned (Err (errors.Fault g)) bytes f means grows fault =
    ap (λ (d : Fault). Err (errors.Fault d)) (err_is g f (sym means ∙ fault_meant bytes f (inl fault)))

-- ---- the first bytes of a message

-- the head of more bytes than L_MESSAGE can count
long_first : (bytes : List ℕ) → 1024 ≤ length bytes
    → read_rows (head (length bytes)).fields (beginning bytes) ≡ Err (long_fault (nid_message.allows (num_of_bits (take 8 (bits_of_bytes bytes)))))
long_first bytes many =
    long_head (length bytes) (bits_of_bytes bytes) many (omega (arith, length-bits_of_bytes bytes, many))

long_means : (bytes : List ℕ) → 1024 ≤ length bytes
    → read_message bytes ≡ Err (long_fault (nid_message.allows (num_of_bits (take 8 (bits_of_bytes bytes)))))
long_means bytes many =
    meant bytes ∙ ap (λ (r : Result (List Row × Place) Fault). r >>= then_packets (length bytes)) (long_first bytes many)

-- The first 1,024 bytes of some bytes: all of them, or as many as no message has.
pub data FrontOf (all front : List ℕ) : Type 0 where
  is_all : front ≡ all → FrontOf all front
  is_long : 1024 ≤ length all → 1024 ≤ length front
      → take 8 (bits_of_bytes front) ≡ take 8 (bits_of_bytes all) → FrontOf all front

pub front_of : (all : List ℕ) (n : ℕ) → n ≡ min (length all) 1024 → FrontOf all (take n all)
front_of all n least = by_size (ltb 1024 (length all)) refl
  where
    by_size : (b : Bool) → ltb 1024 (length all) ≡ b → FrontOf all (take n all)
    by_size true more =
        let many : 1024 ≤ length all = omega (arith, ltb-true 1024 (length all) more) in
        let n_is : n ≡ 1024 = omega (arith, least, many) in
        let len : length (take n all) ≡ n = length-take-le n all (omega (arith, many, n_is)) in
        is_long many (omega (arith, len, n_is)) (in_few_bytes all 8 n (omega (arith, n_is)))
    by_size false not_more =
        is_all (take_all n all (omega (arith, least, ltb-false 1024 (length all) not_more)))

-- such a front means what all bytes mean
pub front_means : (all front : List ℕ) → FrontOf all front → read_message front ≡ read_message all
front_means all front (is_all is) = ap read_message is
front_means all front (is_long many more same) =
    long_means front more
    ∙ ap (λ (xs : List Bool). Err (long_fault (nid_message.allows (num_of_bits xs)))) same
    ∙ sym (long_means all many)

-- if the packets of such a front grow, they are those of all bytes
pub front_grows : (all front : List ℕ) → FrontOf all front → MessageGrows front → MessageGrows all
front_grows all front (is_all is) grows = subst MessageGrows is grows
front_grows all front (is_long many more same) grows =
    let h = head (length front) in
    let reads = spelled_is_read h.fields (h.rows grows.h) (beginning front) grows.middle (omega arith) (h.laid.are_rows grows.h) grows.first in
    let both = sym reads ∙ long_first front more in
    absurd cc
