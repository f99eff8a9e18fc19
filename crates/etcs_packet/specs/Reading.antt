-- Reading lists of packets, and heads with their lists, as functions of the bits.
use Rattle.std.specs.Prelude.{ℕ, zero, suc, Bool, if◌then◌else◌, List, [], ◌∷◌, length, Result, Ok}
use Rattle.etcs_bits.specs.declared.layout.fault.Fault.{Fault}
use Rattle.etcs_bits.specs.layout.Rows.{Row, Place}
use Rattle.etcs_bits.specs.layout.Fields.{Fields}
use Rattle.etcs_bits.specs.layout.Reading.{◌>>=◌, read_rows}
use Rattle.etcs_packet.specs.declared.stop.Stop.{Stop}
use Rattle.etcs_packet.specs.Lists.{ends}
use Rattle.etcs_packet.specs.Whole.{start}

-- ---- a list
-- Pinned by the law a_list_is_read.
-- Pinned by the law a_list_fault_is_read.

-- at most `n` records of a list
unfoldable pub at_most : {X : Type 0}
    → ℕ → Stop → Fields → (List Row → X) → Place → Result (List X × Place) Fault
at_most zero stop fields record_of p = Ok ([], p)
at_most (suc n) stop fields record_of p =
    if ends stop p then Ok ([], p)
    else (read_rows fields p >>= λ first. at_most n stop fields record_of first.1
    >>= λ more. Ok (record_of first.0 ∷ more.0, more.1))

-- What reading a list gives: its records and the place where it ends, or the first fault. A record
-- has eight bits or more, so the count never runs out.
unfoldable pub read_list : {X : Type 0}
    → Stop → Fields → (List Row → X) → Place → Result (List X × Place) Fault
read_list stop fields record_of p = at_most (suc (length p.bits)) stop fields record_of p

-- ---- a head and its list
-- Pinned by the law a_whole_is_read.
-- Pinned by the law a_whole_fault_is_read.

-- What reading a head and its list gives: the head, the list and the place where the list ends, or
-- the first fault.
unfoldable pub read_whole : {H X : Type 0} → Stop → Fields → (List Row → H) → Fields → (List Row → X)
    → Place → Result ((H × List X) × Place) Fault
read_whole stop head head_of item item_of p = do
  first ← read_rows head p
  more ← read_list stop item item_of first.1
  Ok ((head_of first.0, more.0), more.1)

-- ---- bits that begin with a head and its list
-- Pinned by the law bits_are_read_as_they_begin.

-- what bits mean: the head and the list that they begin with, or their first fault
unfoldable pub read_first_whole : {H X : Type 0} → Stop → Fields → (List Row → H) → Fields → (List Row → X)
    → List Bool → Result (H × List X) Fault
read_first_whole stop head head_of item item_of bits =
    read_whole stop head head_of item item_of (start bits) >>= λ read. Ok read.0
