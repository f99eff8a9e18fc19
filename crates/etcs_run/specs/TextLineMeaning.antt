-- What a line of the input means to a command: the text that is written for it, or the reason why it
-- is refused, in words.
use Rattle.std.specs.Prelude.{◌≡◌, ◌++◌, ℕ, List, codes, decimal, Result, Ok, Err}
use Rattle.etcs_document.specs.Refusal.{line_words}
use Rattle.etcs_run.specs.declared.text_line_meaning.Unwritten.{Unwritten}
use Rattle.etcs_run.specs.declared.text_line_meaning.Unwritten.TheVariants.{Memory, Refused}

-- the text of each line, or the words of the reason to refuse it
abbrev pub Meaning : Type 0
Meaning = List ℕ → Result (List ℕ) (List ℕ)

-- the refusal of the line with this number, for a reason in these words
unfoldable pub line_refusal : ℕ → List ℕ → List ℕ
line_refusal number words =
    codes "refused: line " ++ (decimal number ++ (codes ": " ++ (words ++ codes "\n")))

-- What a call returned, seen through `view`, is what the line means, unless memory ran out. The words of a
-- refusal's reason are the words of the meaning.
abbrev pub Gives : {X Y : Type 0} → (X → Y) → Result X Unwritten → Result Y (List ℕ) → Type 0
Gives view (Ok x) meaning = meaning ≡ Ok (view x)
Gives view (Err Memory) meaning = Unit {0}
Gives view (Err (Refused why)) meaning = meaning ≡ Err (line_words why)
