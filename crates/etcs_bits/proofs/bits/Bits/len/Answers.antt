use Rattle.std.proofs.Common.{◌∙◌, sym, ap, length}
use Rattle.etcs_bits.proofs.ViewLemmas.{length-view}
use Rattle.etcs_bits.proofs.bits.Bits.len.Goals as goal

pub returns : goal.returns
returns c = sym (length-view c.self.inside.bytes.items c.self.inside.len c.self.invariant.within) ∙ ap length c.self.view_is
