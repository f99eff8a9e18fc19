use Rattle.etcs_bits.specs.layout.Format.{behind_length}
use Rattle.etcs_bits.proofs.LayoutLemmas.{laid_out}
use Rattle.etcs_bits.proofs.laws.bodies_are_laid_out.Goals as goal

-- proved as for any layout: a call at `Body` would need a bound on its record's size in memory
pub returns : goal.returns
returns g c = laid_out (behind_length g.row.BEFORE g.T.Layout.format)
