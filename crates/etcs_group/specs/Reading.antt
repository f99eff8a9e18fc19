-- What a train reads of a group (SUBSET-026, 3.4.2): the telegrams that it does not miss, in the order
-- in which it passes the balises.
use Rattle.std.specs.Prelude.{ℕ, Bool, not, List, map, reverse, filter}
use Rattle.std.specs.List.{enumerate_from}
use Rattle.etcs_profile.specs.declared.run.Run.{Run}
use Rattle.etcs_profile.specs.declared.run.Run.TheVariants as runs
use Rattle.etcs_group.specs.Group.{Telegrams}

-- a list by rising place, in the order in which the places are passed
abbrev pub in_passing_order : {X : Type 0} → Run → List X → List X
in_passing_order runs.Nominal xs = xs
in_passing_order runs.Reverse xs = reverse xs

-- the reading of a group: the telegrams whose places are not missed
abbrev pub group_reading : Run → (ℕ → Bool) → Telegrams → Telegrams
group_reading run missed group =
    in_passing_order run (map (λ e. e.1) (filter (λ e. not (missed e.0)) (enumerate_from 0 group)))
