-- Packets that are kept as bits.
use Rattle.std.proofs.Common.{◌≡◌, ℕ, List, Bool, sym, ap, ap₂, ◌∙◌}
use Rattle.etcs_bits.specs.declared.variables.direction.Dir.{Dir}
use Rattle.etcs_profile.specs.declared.raw.RawPacket.{RawPacket}
use Rattle.etcs_profile.specs.Raw.{raw_again}
use Rattle.etcs_profile.specs.FoundRaw.{make_raw}

-- raw packets with the same number, direction and body are the same
pub raw_parts : (v w : RawPacket) → v.number ≡ w.number → v.dir ≡ w.dir → v.body ≡ w.body → v ≡ w
raw_parts v w p q r =
    sym (raw_again v)
    ∙ ap (λ (n : ℕ). make_raw n (v.dir, v.body)) p
    ∙ ap₂ (λ (d : Dir) (b : List Bool). make_raw w.number (d, b)) q r
    ∙ raw_again w
