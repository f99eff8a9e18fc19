-- What is written for a table that was judged, and what the words of a command line give.
use Rattle.std.proofs.Common.{◌≡◌, ◌<◌, ◌≤◌, ℕ, List, [], ◌∷◌, length, map, Result, Some, None, refl, sym, ap, arith, Bor}
use Rattle.etcs_table.specs.Heading.{Words, usual_words}
use Rattle.etcs_table_check.specs.Verdict.{TableVerdict, verdict_of_table}
use Rattle.etcs_table_check.specs.declared.error.TableRefusal.{TableRefusal}
use Rattle.etcs_table_run.specs.TableOutput.{answered, headings_of, table_output}

-- the answer to a verdict, or to a refusal
pub is_answered : (words : Words) (bytes : List ℕ) {verdict : Result TableVerdict TableRefusal} → verdict_of_table words bytes ≡ verdict
    → answered verdict ≡ table_output words bytes
unfolding table_output
is_answered words bytes is = sym (ap answered is)

-- no word after the program's name
pub no_more_words : (words : List (Bor (List ℕ))) → length words ≤ 1 → headings_of (map (λ (w : Bor (List ℕ)). w.now) words) ≡ Some usual_words
no_more_words [] few = refl
no_more_words (name ∷ []) few = refl
no_more_words (name ∷ other ∷ words) few = absurd (omega (arith, few))

pub more_words : (words : List (Bor (List ℕ))) → 1 < length words → headings_of (map (λ (w : Bor (List ℕ)). w.now) words) ≡ None
more_words [] more = absurd (omega (arith, more))
more_words (name ∷ []) more = absurd (omega (arith, more))
more_words (name ∷ other ∷ words) more = refl
