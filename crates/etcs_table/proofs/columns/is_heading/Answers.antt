use Rattle.std.proofs.Common.{◌≡◌, ◌∙◌, ℕ, List, ap, nat_lt, sym, true}
use Rattle.etcs_table.specs.Heading.{occurrences}
use Rattle.etcs_table.proofs.columns.is_heading.Goals as goal

-- the row has the heading of groups, so the heading of telegrams decides
pub returns-then-has : goal.returns-then-has
returns-then-has c =
    let first : nat_lt 0 (occurrences c.args.words.now.group c.args.cells.now) ≡ true = rw c.group.ensures at (sym c.has.ensures ∙ c.if-has.true) in
    rw first (c.has-then-has.ensures ∙ ap (λ (word : List ℕ). nat_lt 0 (occurrences word c.args.cells.now)) c.telegram.ensures)
