use Rattle.etcs_table.proofs.aspects.first_entry_fault.Goals as goal

pub returns : goal.returns
returns c = rw (← c.some_have_aspect.ensures, ← c.some_are_numbered.ensures) c.first_lacking.ensures
