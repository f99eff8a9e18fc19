-- The words of a path, step by step.
use Rattle.std.proofs.Common.{◌≡◌, ◌∙◌, ℕ, List, [], ◌∷◌, ◌++◌, ◌+◌, ◌<◌, length, map, take, get_or, ap, sym, append_assoc}
use Rattle.std.proofs.lemmas.List.{append-nil, take_more}
use Rattle.etcs_schema.specs.Fault.{step_view}
use Rattle.etcs_schema.specs.Path.{step_words, steps_words}
use Rattle.etcs_schema.specs.declared.error.Step.{Step}

steps_push : (path : List Step) (step : Step) → steps_words (map step_view (path ++ step ∷ [])) ≡ steps_words (map step_view path) ++ step_words (step_view step)
steps_push [] step = append-nil (step_words (step_view step))
steps_push (s ∷ path) step =
    ap (λ words. step_words (step_view s) ++ words) (steps_push path step) ∙ sym (append_assoc (step_words (step_view s)) (steps_words (map step_view path)) (step_words (step_view step)))

-- one step more
pub steps_more : (path : List Step) (i : ℕ) (d : Step) → i < length path
    → steps_words (map step_view (take i path)) ++ step_words (step_view (get_or path i d)) ≡ steps_words (map step_view (take (i + 1) path))
steps_more path i d lt = sym (rw (take_more path i d lt) (steps_push (take i path) (get_or path i d)))
