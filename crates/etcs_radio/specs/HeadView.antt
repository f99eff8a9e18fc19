-- The head of a message, as contracts see it, from the fields that the code reads.
use Rattle.std.proofs.Common.{inl, inr}
use Rattle.etcs_radio.specs.declared.head.Fields.{Fields}
use Rattle.etcs_radio.specs.declared.head.Fields.TheVariants.{OfMovement, OfPosition}
use Rattle.etcs_radio.specs.Head.{Head}

abbrev pub head_value : Fields → Head
head_value (OfMovement h) = inl h
head_value (OfPosition h) = inr h
