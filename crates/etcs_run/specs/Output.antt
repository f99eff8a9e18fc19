-- What a run writes, and the status with which it ends. Lines are answered in order, up to the
-- first that is refused. The answer to that line is its refusal, which ends the run. Lines count
-- from 1. An empty line is skipped, but counted.
use Rattle.std.specs.Prelude.{◌+◌, ◌++◌, ℕ, List, [], ◌∷◌, Result, Ok, Err}
use Rattle.etcs_document.specs.Refusal.{refusal_words}
use Rattle.etcs_document.specs.declared.refusal.Refusal.{Refusal}
use Rattle.etcs_run.specs.TextLines.{split_lines, trimmed}
use Rattle.etcs_run.specs.TextLineMeaning.{Meaning, line_refusal}
use Rattle.etcs_run.specs.declared.status.Status.{Status}
use Rattle.etcs_run.specs.declared.status.Status.TheVariants.{Done, Refused}

-- a text and a status
abbrev pub Output : Type 0
Output = List ℕ × Status

-- a refusal, which ends the run
abbrev pub refusal_output : Refusal → Output
refusal_output why = (refusal_words why, Refused)

-- a text, and then an output
abbrev pub prepend : List ℕ → Output → Output
prepend text rest = (text ++ rest.0, rest.1)

-- the text that a line means, and then the rest; or the line's refusal, and nothing after it
abbrev pub answered : ℕ → Result (List ℕ) (List ℕ) → Output → Output
answered number (Ok text) rest = prepend text rest
answered number (Err words) rest = (line_refusal number words, Refused)

-- a line, and then the rest; an empty line is skipped
abbrev pub after_line : Meaning → ℕ → List ℕ → Output → Output
after_line meaning number [] rest = rest
after_line meaning number (byte ∷ line) rest = answered number (meaning (byte ∷ line)) rest

-- the answers to the lines, the first of which has this number
unfoldable pub answers : Meaning → ℕ → List (List ℕ) → Output
answers meaning number [] = ([], Done)
answers meaning number (line ∷ lines) =
    after_line meaning number (trimmed line) (answers meaning (number + 1) lines)

-- what is written for an input that is answered line by line
abbrev pub line_by_line : (ℕ → List (List ℕ) → Output) → List ℕ → Output
line_by_line answers input = answers 1 (split_lines input)

-- what is written for an input whose lines are answered one by one
abbrev pub each_text_line : Meaning → List ℕ → Output
each_text_line meaning = line_by_line (answers meaning)
