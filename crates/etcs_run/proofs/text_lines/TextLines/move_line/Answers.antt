use Rattle.std.proofs.Common.{arith, ap, rules, take, drop, ◌-◌, ℕ, List}
use Rattle.std.proofs.lemmas.Grind.{common_steps}
use Rattle.etcs_run.proofs.LineLemmas.{found, not_found}
use Rattle.etcs_run.proofs.text_lines.TextLines.move_line.Goals as goal

-- the line grew by the bytes before the first `\n`
pub returns-in_ok-extend_from_slice-in-Some-clause-moves : goal.returns-in_ok-extend_from_slice-in-Some-clause-moves
returns-in_ok-extend_from_slice-in-Some-clause-moves c =
    let lines = c.args.self.now in
    let first = c.in-Some.ensures in
    let cut = found lines.block.items _ lines.from lines.to c.in-Some.end c.deref.ensures.value
    first.0 first.1 in
    (_, record { line = grind (arith, common_steps); plain = cut.0 }, cut.1)

-- it grew by all held bytes, which have no `\n`
pub returns-in_ok-extend_from_slice-in-None-clause-moves : goal.returns-in_ok-extend_from_slice-in-None-clause-moves
returns-in_ok-extend_from_slice-in-None-clause-moves c =
    let lines = c.args.self.now in
    let held : List ℕ → List ℕ = λ xs. take (lines.to - lines.from) (drop lines.from xs) in
    let block = c.deref.ensures.value in
    let plain = not_found (held lines.block.items) _ (ap held block) c.in-None.ensures in
    (record { line = grind (arith, common_steps); plain = plain }, search rules)
