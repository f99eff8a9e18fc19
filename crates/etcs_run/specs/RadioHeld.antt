-- The state that the decoding of a stream carries from line to line, and what it writes for some bytes.
use Rattle.std.specs.Prelude.{◌+◌, ℕ, List, length, Option, Result}
use Rattle.etcs_run.specs.Output.{Output}
use Rattle.etcs_run.specs.RadioStream.{Continuation}
use Rattle.etcs_run.specs.Ran.{WritesAnswer}
use Rattle.etcs_run.specs.declared.error.RunError.{RunError}
use Rattle.etcs_run.specs.declared.radio_decoding.RadioDecoding.{RadioDecoding}
use Rattle.etcs_run.specs.declared.control_flow.ControlFlow.{ControlFlow}

-- the number of messages that were written, which is the number of the next one
abbrev pub messages_written : RadioDecoding → ℕ
messages_written d = d.number

-- the bytes that are held of the next message
abbrev pub kept_bytes : RadioDecoding → List ℕ
kept_bytes d = d.splitter

-- a lower bound of the bytes read so far
abbrev pub least_read : RadioDecoding → ℕ
least_read d = messages_written d + length (kept_bytes d)

-- what is written for some bytes, before any later output
abbrev pub Feeds : Option (List ℕ) → Option (List ℕ) → (Continuation → Output) → ℕ → List ℕ
    → Result ControlFlow RunError → Type 0
Feeds old new output number held result = WritesAnswer old new output (λ rest. rest number held) result
