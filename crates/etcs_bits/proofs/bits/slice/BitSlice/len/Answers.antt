use Rattle.std.proofs.Common.{◌∙◌, sym, ap, length}
use Rattle.etcs_bits.proofs.ViewLemmas.{length-part}
use Rattle.etcs_bits.proofs.bits.slice.BitSlice.len.Goals as goal

pub returns : goal.returns
returns c =
    let s = c.self.inside in
    sym (length-part s.bytes.now s.from s.to c.self.invariant.1) ∙ ap length c.self.view_is
