-- Line ends: a carriage return (13), a line feed (10), or both.
use Rattle.std.specs.Prelude.{ℕ, ◌==◌, ◌||◌, Bool, false, List, [], ◌∷◌, if◌then◌else◌}

-- the text without the line feed at its start, if one is there
abbrev pub without_line_feed : List ℕ → List ℕ
without_line_feed [] = []
without_line_feed (c ∷ rest) = if c == 10 then rest else c ∷ rest

-- whether a text begins with a line end
abbrev pub begins_with_line_end : List ℕ → Bool
begins_with_line_end [] = false
begins_with_line_end (c ∷ rest) = c == 13 || c == 10

-- the text after the line end at its start
abbrev pub after_line_end : List ℕ → List ℕ
after_line_end [] = []
after_line_end (c ∷ rest) = if c == 13 then without_line_feed rest else rest
