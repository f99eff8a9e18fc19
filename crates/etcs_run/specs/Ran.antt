-- What a run promises, in four cases:
-- - It returned a status: the text written and the status are the output of every input that begins with what
--   was read. Reaching the end of the input counts as reading it.
-- - It returned no status: the text written is a beginning of the output of each such input.
-- - The whole input is known: the text written and the status are the output of that input.
-- - The reader's bytes or the writer's contents are not known: nothing is promised for such a reader, and
--   only the status for such a writer.
use Rattle.std.specs.Prelude.{◌≡◌, ◌≤◌, ◌+◌, ◌++◌, ◌⊎◌, ℕ, Bool, true, List, [], ◌∷◌, take, length, Option, Result, Ok, Err, IfSome, OnOk}
use Rattle.std.specs.Io.KnownBytes.{Appends, Consumes, IsAtEnd}
use Rattle.etcs_run.specs.Counted.{CountsFlush, CountsNone, CountsOne, flush_count, wrapped, is_flushed}
use Rattle.etcs_run.specs.Output.{Output, prepend}
use Rattle.etcs_run.specs.declared.counted.Counted.{Counted}
use Rattle.etcs_run.specs.declared.error.RunError.{RunError}
use Rattle.etcs_run.specs.declared.error.RunError.TheVariants.{Device}
use Rattle.etcs_run.specs.declared.status.Status.{Status}
use Rattle.etcs_run.specs.declared.control_flow.ControlFlow.{ControlFlow}
use Rattle.etcs_run.specs.declared.control_flow.ControlFlow.TheVariants.{Next, Stop}

-- `rest` may follow what was read: anything before the end was reached, and nothing after it
abbrev pub MayFollow : Bool → List ℕ → Type 0
MayFollow ended rest = ended ≡ true → rest ≡ []

-- with a status, the text is the whole output; without one, it is a beginning of the output
abbrev pub IsOutputSoFar : Result Status RunError → List ℕ → Output → Type 0
IsOutputSoFar (Ok status) text output = output ≡ (text, status)
IsOutputSoFar (Err _) text output = (more : List ℕ) × (output.0 ≡ text ++ more)

-- These bytes were read, perhaps up to the end of the input, and this text was written. The text is
-- the output, or a beginning of it, for each input that begins with these bytes. If the end was
-- reached, the only such input is these bytes. An end can be reached only if no byte remains.
pub record Ran (remaining_old remaining_new contents_old contents_new : Option (List ℕ))
    (output : List ℕ → Output) (result : Result Status RunError) : Type 0 where
  pub bytes : List ℕ
  pub consumed : Consumes remaining_old remaining_new bytes
  pub ended : Bool
  pub met : ended ≡ true → IsAtEnd remaining_new
  pub text : List ℕ
  pub appended : Appends contents_old contents_new text
  pub says : (rest : List ℕ) → MayFollow ended rest → IsOutputSoFar result text (output (bytes ++ rest))

-- the run, from its reader to its writer
abbrev pub Runs : {R W : Type 0} → (R → Option (List ℕ)) → (W → Option (List ℕ)) → Counted R
    → Counted R → Counted W → Counted W → (List ℕ → Output) → Result Status RunError → Type 0
Runs remaining contents reader_old reader_new writer_old writer_new output result =
    Ran (remaining (wrapped reader_old)) (remaining (wrapped reader_new))
    (contents (wrapped writer_old)) (contents (wrapped writer_new)) output result

-- a text was written: this output, or a beginning of it
pub record Writes (old new : Option (List ℕ)) (output : Output) (result : Result Status RunError)
    : Type 0 where
  pub text : List ℕ
  pub appended : Appends old new text
  pub says : IsOutputSoFar result text output

-- the run on a known input: the text written is the output of that input, or a beginning of it
abbrev pub Answers : {R W : Type 0} → (R → Option (List ℕ)) → (W → Option (List ℕ)) → Counted R
    → Counted W → Counted W → (List ℕ → Output) → Result Status RunError → Type 0
Answers remaining contents reader writer_old writer_new output result =
    IfSome (remaining (wrapped reader)) (λ input.
    Writes (contents (wrapped writer_old)) (contents (wrapped writer_new)) (output input) result)

-- a status is returned only after everything written was flushed, by the only flush of the run
abbrev pub EndsFlushed : {X W : Type 0} → Result X RunError → Counted W → Counted W → Type 0
EndsFlushed result old new =
    OnOk result (is_flushed new ≡ true) × CountsFlush (flush_count old) (flush_count new) result

-- a failed device is counted once, at the reader or at the writer, and nothing else is counted
abbrev pub CountsOneDevice : {R W X : Type 0} → Result X RunError → Counted R → Counted R
    → Counted W → Counted W → Type 0
CountsOneDevice (Err Device) reader_old reader_new writer_old writer_new =
    (CountsOne reader_old reader_new × CountsNone writer_old writer_new)
    ⊎ (CountsNone reader_old reader_new × CountsOne writer_old writer_new)
CountsOneDevice result reader_old reader_new writer_old writer_new =
    CountsNone reader_old reader_new × CountsNone writer_old writer_new

-- the first `count` of these bytes were written, and with Ok all of them
pub record WritesBytes (old new : Option (List ℕ)) (bytes : List ℕ)
    (result : Result (Unit {0}) RunError) : Type 0 where
  pub count : ℕ
  pub within : count ≤ length bytes
  pub appended : Appends old new (take count bytes)
  pub whole : OnOk result (count ≡ length bytes)

-- What is written from here on: this text and then what is written later, this text and the end, or more
-- than this text.
abbrev pub IsAnswerSoFar : Result ControlFlow RunError → List ℕ → Output → Output → Type 0
IsAnswerSoFar (Ok Next) text now later = now ≡ prepend text later
IsAnswerSoFar (Ok (Stop status)) text now later = now ≡ (text, status)
IsAnswerSoFar (Err _) text now later = (more : List ℕ) × (now.0 ≡ text ++ more)

-- this text was written, and it is the answer, or a beginning of it, whatever the rest is
pub record WritesAnswer {X : Type 0} (old new : Option (List ℕ)) (now later : X → Output)
    (result : Result ControlFlow RunError) : Type 0 where
  pub text : List ℕ
  pub appended : Appends old new text
  pub says : (rest : X) → IsAnswerSoFar result text (now rest) (later rest)

-- the answer to a line, before any output
abbrev pub AnswersLine : Option (List ℕ) → Option (List ℕ)
    → (Output → Output) → Result ControlFlow RunError → Type 0
AnswersLine old new after result = WritesAnswer old new after (λ rest. rest) result

-- the answer to a line, before the answers to any lines
abbrev pub AnswersNextLine : Option (List ℕ) → Option (List ℕ) → (ℕ → List (List ℕ) → Output)
    → (ℕ → List (List ℕ) → Output) → ℕ → List ℕ → Result ControlFlow RunError → Type 0
AnswersNextLine old new before after number line result =
    WritesAnswer old new (λ lines. before number (line ∷ lines)) (after (number + 1)) result
