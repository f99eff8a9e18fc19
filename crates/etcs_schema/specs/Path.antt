-- The text of a path to a value. Its form is this project's.
use Rattle.std.specs.Prelude.{◌++◌, ℕ, List, [], ◌∷◌, codes, decimal}
use Rattle.etcs_schema.specs.Fault.{Step, key, list_item}

-- a slash, and then the key or the index
abbrev pub step_words : Step → List ℕ
step_words (key name) = codes "/" ++ name
step_words (list_item i) = codes "/" ++ decimal i

abbrev pub steps_words : List Step → List ℕ
steps_words [] = []
steps_words (step ∷ steps) = step_words step ++ steps_words steps

-- the path to the fault; a single slash is the whole value
abbrev pub path_words : List Step → List ℕ
path_words [] = codes "/"
path_words (step ∷ steps) = steps_words (step ∷ steps)
