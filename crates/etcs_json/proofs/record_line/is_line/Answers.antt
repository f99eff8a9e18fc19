use Rattle.std.proofs.Common.{◌≡◌, ◌∙◌, ◌++◌, ◌-◌, List, ℕ, ap, ap₂, arith, drop, length, length-append, sym}
use Rattle.std.specs.Prelude.{codes}
use Rattle.std.proofs.lemmas.Bool.{both_ways, false≢true}
use Rattle.std.proofs.lemmas.List.{append_cancel_right, drop_at, take-append-drop}
use Rattle.std.proofs.lemmas.Slice.Eq.{bytes_eq-Decides}
use Rattle.etcs_json.proofs.record_line.is_line.Goals as goal

-- what follows the line is the end
ends : (text line : List ℕ) → text ≡ line ++ codes "\n" → drop (length text - 1) text ≡ codes "\n"
ends text line is = ap (drop (length text - 1)) is ∙ drop_at line (codes "\n") _ (omega (arith, ap length is, length-append line (codes "\n")))

-- the bytes before the end are the line's
pub returns-in-Some : goal.returns-in-Some
returns-in-Some c =
    let found = c.in-Some.ensures.cases in
    let text = c.in-Some.text.now in
    let line = c.args.line.now in
    let whole : c.args.written.now ≡ text ++ codes "\n" =
    sym (take-append-drop (length c.args.written.now - 1) c.args.written.now) ∙ ap₂ ◌++◌ (sym found.1) ((bytes_eq-Decides _ _).0 found.0) in
    let same = bytes_eq-Decides text line in (
      λ is. whole ∙ ap (λ l. l ++ codes "\n") (same.0 (sym c.eq.ensures ∙ is)),
      λ is. c.eq.ensures ∙ same.1 (append_cancel_right text line (codes "\n") (sym whole ∙ is)),
    )

-- no line ends otherwise
pub returns-in-None : goal.returns-in-None
returns-in-None c = (
  λ same. absurd (false≢true same),
  λ is. absurd (both_ways _ c.in-None.ensures.cases ((bytes_eq-Decides _ _).1 (ends c.args.written.now c.args.line.now is))),
)
