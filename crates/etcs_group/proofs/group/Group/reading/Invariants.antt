use Rattle.std.proofs.Common.{◌≡◌, ◌++◌, drop}
use Rattle.etcs_group.specs.Missed.{is_missed}
use Rattle.etcs_group.specs.Places.{pointed}
use Rattle.etcs_group.proofs.ReadingLemmas.{kept_from}
use Rattle.etcs_group.proofs.group.Group.reading.Given as goal

-- what is read so far and what is kept of the rest is all that is kept
abbrev pub invariant-telegrams : goal.invariant-telegrams
invariant-telegrams l = record {
  same : l.telegrams ≡ l.self;
  all : pointed l.read.items ++ kept_from l.place (is_missed l.missed.0) (drop l.place l.telegrams) ≡ kept_from 0 (is_missed l.missed.0) l.self;
}
