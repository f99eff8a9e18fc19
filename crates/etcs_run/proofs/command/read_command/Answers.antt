use Rattle.std.proofs.Common.{ap, map, ◌≡◌, ◌∙◌, ℕ, List, true, Bor, inl, inr}
use Rattle.clap.specs.Words.{app_of, is_simple, is_simple_and_free}
use Rattle.etcs_run.proofs.CommandLemmas.{command_line_is_simple, command_line_is_simple_and_free, is_command, no_command}
use Rattle.etcs_run.proofs.command.read_command.Goals as goal

-- if `clap` returns `Ok`, the words have no fault
pub returns-in-Ok : goal.returns-in-Ok
returns-in-Ok c =
    let app = app_of c.in_ok-grammar.grammar in
    let is = c.in_ok-grammar.ensures in
    let words = map (λ (w : Bor (List ℕ)). w.now) c.args.words.now in
    let free : is_simple_and_free app ≡ true =
    ap is_simple_and_free is ∙ command_line_is_simple_and_free in
    let simple : is_simple app ≡ true = ap is_simple is ∙ command_line_is_simple in
    let found = (c.in-Ok.ensures.matches simple).1 in
    is_command app words is (c.in-Ok.ensures.kinds free) found c.entered_command.ensures

-- an error other than lack of memory is a fault of the words
pub returns : goal.returns
returns c =
    let app = app_of c.in_ok-grammar.grammar in
    let is = c.in_ok-grammar.ensures in
    let words = map (λ (w : Bor (List ℕ)). w.now) c.args.words.now in
    let free : is_simple_and_free app ≡ true =
    ap is_simple_and_free is ∙ command_line_is_simple_and_free in
    elim (c.in-Err.ensures.kinds free) [
      | inl memory ↦ absurd (c.in_default.not-OutOfMemory (c.kind.ensures ∙ memory))
      | inr among ↦ no_command app words _ is among
    ]
