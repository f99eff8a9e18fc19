-- What was written for a line.
use Rattle.std.proofs.Common.{◌≡◌, ◌==◌, ◌+◌, ◌++◌, ℕ, true, false, List, [], ◌∷◌, length, take, drop, Option, Result, Ok, Err, subst, sym, ap, ◌∙◌, append_assoc, refl, arith}
use Rattle.std.proofs.lemmas.Bool.{eqb-true}
use Rattle.std.proofs.lemmas.List.{nil_from_length, take_all, take-append-drop}
use Rattle.etcs_run.specs.TextLineMeaning.{Meaning}
use Rattle.etcs_run.specs.Output.{Output, after_line, answered, answers}
use Rattle.etcs_run.specs.Ran.{AnswersNextLine, AnswersLine, IsAnswerSoFar, WritesAnswer, WritesBytes}
use Rattle.etcs_run.specs.TextLines.{trimmed}
use Rattle.etcs_run.specs.declared.error.RunError.{RunError}
use Rattle.etcs_run.specs.declared.control_flow.ControlFlow.{ControlFlow}
use Rattle.etcs_run.specs.declared.control_flow.ControlFlow.TheVariants.{Next}
use Rattle.etcs_run.proofs.StreamLemmas.{Appends-none}

-- The text to be written is a beginning of the answer. So is the part of it that was written.
pub put_failed : {old new : Option (List ℕ)} {bytes : List ℕ} {after : Output → Output}
    {result : Result (Unit {0}) RunError} (e : RunError) → WritesBytes old new bytes result
    → ((rest : Output) → (more : List ℕ) × ((after rest).0 ≡ bytes ++ more))
    → AnswersLine old new after (Err e)
put_failed {bytes} e written begins = record {
  text = take written.count bytes;
  appended = written.appended;
  says = λ rest.
      let whole = begins rest in (
        drop written.count bytes ++ whole.0,
        whole.1 ∙ ap (λ x. x ++ whole.0) (sym (take-append-drop written.count bytes))
            ∙ append_assoc (take written.count bytes) (drop written.count bytes) whole.0,
      );
}

-- the text of a line is a beginning of the answer to the line
pub begins_answered : (n : ℕ) {meaning : Result (List ℕ) (List ℕ)} {bytes : List ℕ}
    → meaning ≡ Ok bytes → (rest : Output)
    → (more : List ℕ) × ((answered n meaning rest).0 ≡ bytes ++ more)
begins_answered n is rest = (rest.0, rw is refl)

-- an answer before the outputs that a function gives
pub WritesAnswer-at : {X Y : Type 0} {old new : Option (List ℕ)} {now later : X → Output} {result : Result ControlFlow RunError}
    (f : Y → X) → WritesAnswer old new now later result
    → WritesAnswer old new (λ y. now (f y)) (λ y. later (f y)) result
WritesAnswer-at f answer = record { text = answer.text; appended = answer.appended; says = λ y. answer.says (f y) }

-- an answer of the same text
pub WritesAnswer-as : {X : Type 0} {old new : Option (List ℕ)} {now other later : X → Output} {result : Result ControlFlow RunError}
    → ((x : X) → other x ≡ now x) → WritesAnswer old new now later result → WritesAnswer old new other later result
WritesAnswer-as {later} {result} same answer = record {
  text = answer.text;
  appended = answer.appended;
  says = λ x.
      let P : Output → Type 0 = λ o. IsAnswerSoFar result answer.text o (later x) in
      subst P (sym (same x)) (answer.says x);
}

-- the answer of a command that carries nothing from line to line
pub next_answer_of : {old new : Option (List ℕ)} (meaning : Meaning) (number : ℕ) (line : List ℕ) (result : Result ControlFlow RunError)
    → AnswersLine old new (after_line meaning number (trimmed line)) result
    → AnswersNextLine old new (answers meaning) (answers meaning) number line result
unfolding answers
next_answer_of meaning number line result line_answer = WritesAnswer-at (answers meaning (number + 1)) line_answer

-- ---- the answer to a line by its meaning

after_some : (meaning : Meaning) (number : ℕ) (line : List ℕ) → (length line == 0) ≡ false → (rest : Output)
    → after_line meaning number line rest ≡ answered number (meaning line) rest
after_some meaning number [] some rest = absurd cc
after_some meaning number (byte ∷ line) some rest = refl

-- a line that is not empty without its `\r`
pub line_answered : {old new : Option (List ℕ)} (meaning : Meaning) (number : ℕ) (line short : List ℕ) (result : Result ControlFlow RunError)
    → short ≡ trimmed line → (length short == 0) ≡ false → AnswersLine old new (answered number (meaning short)) result
    → AnswersNextLine old new (answers meaning) (answers meaning) number line result
line_answered {old} {new} meaning number line short result is some line_answer =
    let P : List ℕ → Type 0 = λ s. AnswersLine old new (after_line meaning number s) result in
    next_answer_of meaning number line result (subst P is (WritesAnswer-as (after_some meaning number short some) line_answer))

-- an empty line
pub line_skipped : {c : Option (List ℕ)} (meaning : Meaning) (number : ℕ) (line short : List ℕ) → short ≡ trimmed line
    → (length short == 0) ≡ true → AnswersNextLine c c (answers meaning) (answers meaning) number line (Ok Next)
line_skipped meaning number line short is empty =
    let none : trimmed line ≡ [] = sym is ∙ nil_from_length short (eqb-true _ _ empty) in
    next_answer_of meaning number line (Ok Next) (record { text = []; appended = Appends-none _; says = λ rest. rw none refl })

-- the text of a line was written
pub put_done : {old new : Option (List ℕ)} {bytes : List ℕ} {u : Unit {0}} (n : ℕ) {meaning : Result (List ℕ) (List ℕ)}
    → WritesBytes old new bytes (Ok u) → meaning ≡ Ok bytes → AnswersLine old new (answered n meaning) (Ok Next)
put_done {bytes} n written means = record {
  text = take written.count bytes;
  appended = written.appended;
  says = λ rest.
      let whole : take written.count bytes ≡ bytes = take_all written.count bytes (omega (arith, written.whole)) in
      rw (means, whole) refl;
}

-- memory ran out before anything was written
pub answer_failed : {c : Option (List ℕ)} {after : Output → Output} (e : RunError) → AnswersLine c c after (Err e)
answer_failed {after} e = record { text = []; appended = Appends-none _; says = λ rest. ((after rest).0, refl) }
