use Rattle.std.proofs.Common.{refl}
use Rattle.etcs_table.proofs.columns.heading_fault.Goals as goal

-- the checks are those of the definition
pub returns : goal.returns
returns c =
    rw (c.first_fault.ensures, c.has_twice.ensures, c.group.ensures, c.has_twice-2.ensures, c.telegram.ensures, c.has_twice-3.ensures, c.aspect.ensures, c.has_twice-4.ensures, c.balise.ensures) refl
