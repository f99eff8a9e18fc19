-- The lines of a text. A line ends at a `\n`, which is not part of it, or at the end of the text.
-- After a last `\n` there is no further line.
use Rattle.std.specs.Prelude.{◌≡◌, ◌==◌, ◌++◌, ℕ, false, List, [], ◌∷◌, if◌then◌else◌}
use Rattle.std.specs.Io.BufRead.{strip_last}

-- the lines, with the byte at the front of the first one
abbrev pub onto_first : ℕ → List (List ℕ) → List (List ℕ)
onto_first byte [] = (byte ∷ []) ∷ []
onto_first byte (line ∷ lines) = (byte ∷ line) ∷ lines

-- the lines, in order
unfoldable pub split_lines : List ℕ → List (List ℕ)
split_lines [] = []
split_lines (byte ∷ text) = if byte == 10 then [] ∷ split_lines text else onto_first byte (split_lines text)

-- a line without a `\r` at its end; only one is removed
abbrev pub trimmed : List ℕ → List ℕ
trimmed line = strip_last 13 line

-- the line has no `\n`
abbrev pub IsLine : List ℕ → Type 0
IsLine [] = Unit {0}
IsLine (byte ∷ line) = ((byte == 10) ≡ false) × IsLine line

-- a `\n` ends a line among the bytes
abbrev pub HasLine : List ℕ → Type 0
HasLine bytes = (line : List ℕ) × (rest : List ℕ) × (bytes ≡ line ++ 10 ∷ rest)
