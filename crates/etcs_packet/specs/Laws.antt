-- What the laws of lists say of the fields of a packet.
use Rattle.std.specs.Prelude.{◌≡◌, false}
use Rattle.etcs_bits.specs.layout.Fields.{Fields, field}

-- No record of the fields begins with eight ones, the NID_PACKET of the end mark.
abbrev pub HasNoMark : Fields → Type 0
HasNoMark (field x next) = x.allows 255 ≡ false
HasNoMark fields = ⊥
