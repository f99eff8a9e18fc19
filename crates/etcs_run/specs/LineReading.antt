-- Reading line by line. The reader gives blocks of bytes, which are cut anywhere. Bytes are held until their
-- line is complete. After the end of the input was reached nothing more is read, because a reader such as a
-- terminal may give more bytes after an end.
use Rattle.std.specs.Prelude.{◌≡◌, ◌++◌, ◌-◌, ℕ, Bool, true, false, List, [], ◌∷◌, take, drop, Option, Result, Ok, Err}
use Rattle.std.specs.Io.KnownBytes.{Consumes, IsAtEnd}
use Rattle.etcs_run.specs.Counted.{CountsNone, CountsOne, wrapped}
use Rattle.etcs_run.specs.Ran.{MayFollow}
use Rattle.etcs_run.specs.TextLines.{IsLine, split_lines}
use Rattle.etcs_run.specs.declared.counted.Counted.{Counted}
use Rattle.etcs_run.specs.declared.error.RunError.{RunError}
use Rattle.etcs_run.specs.declared.error.RunError.TheVariants.{Memory, Device}
use Rattle.etcs_run.specs.declared.text_lines.TextLines.{TextLines}

-- the bytes that were read and belong to no line yet
abbrev pub held_bytes : TextLines → List ℕ
held_bytes lines = take (lines.to - lines.from) (drop lines.from lines.block.items)

-- the last line
abbrev pub last_line : TextLines → List ℕ
last_line lines = lines.line.items

-- whether the end of the input was reached
abbrev pub has_ended : TextLines → Bool
has_ended lines = lines.has_ended

-- if the end was reached and the reader's bytes are known, none of them remains
abbrev pub IsEndMet : {R : Type 0} → (R → Option (List ℕ)) → Bool → Counted R → Type 0
IsEndMet remaining ended reader = ended ≡ true → IsAtEnd (remaining (wrapped reader))

-- a device that failed is counted once, and nothing else is counted
abbrev pub CountsDevice : {X T : Type 0} → Result X RunError → Counted T → Counted T → Type 0
CountsDevice (Ok _) old new = CountsNone old new
CountsDevice (Err Memory) old new = CountsNone old new
CountsDevice (Err Device) old new = CountsOne old new

-- the line has grown by these bytes, which contain no `\n`
pub record Grows (old new : TextLines) (front : List ℕ) : Type 0 where
  pub line : last_line new ≡ last_line old ++ front
  pub plain : IsLine front

-- the line has grown by the held bytes before a `\n`, or by all of them if there is none
abbrev pub MovesLine : Bool → TextLines → TextLines → Type 0
MovesLine true old new =
    (front : List ℕ) × Grows old new front × (held_bytes old ≡ front ++ 10 ∷ held_bytes new)
MovesLine false old new = Grows old new (held_bytes old) × (held_bytes new ≡ [])

-- The line is the first one of the bytes held and read, whatever follows them. Or there is no
-- line: the end was reached, and no byte remains.
abbrev pub GivesLine : Result Bool RunError → List ℕ → List ℕ → List ℕ → Bool → Type 0
GivesLine (Err _) bytes line held ended = Unit {0}
GivesLine (Ok true) bytes line held ended =
    (rest : List ℕ) → MayFollow ended rest
    → split_lines (bytes ++ rest) ≡ line ∷ split_lines (held ++ rest)
GivesLine (Ok false) bytes line held ended = (ended ≡ true) × (bytes ≡ []) × (held ≡ [])

-- These bytes were read, none if the end was reached before. Together with the bytes held before, they
-- give a line.
pub record Reads (remaining_old remaining_new : Option (List ℕ)) (had_ended : Bool)
    (held line now : List ℕ) (ended : Bool) (result : Result Bool RunError) : Type 0 where
  pub bytes : List ℕ
  pub quiet : had_ended ≡ true → bytes ≡ []
  pub consumed : Consumes remaining_old remaining_new bytes
  pub gives : GivesLine result (held ++ bytes) line now ended
