use Rattle.std.proofs.Common.{◌≡◌, ◌∙◌, ◌-◌, ◌++◌, ◌≤◌, ℕ, Bool, true, false, List, [], ◌∷◌, ap, arith, cond, length, length-take-le, sym, take, take-take}
use Rattle.etcs_digits.specs.JsonLineWriter.{drop_comma}
use Rattle.etcs_digits.proofs.JsonLineWriterLemmas.{printed}
use Rattle.etcs_digits.proofs.json_line_writer.JsonLineWriter.into_line.Goals as goal

cut : (a : Bool) (len : ℕ) (s : List ℕ) → len ≤ length s → take (len - cond a 1 0) s ≡ drop_comma a (take len s)
cut true len s within = rw (length-take-le len s within) (sym (take-take (len - 1) len s (omega arith)))
cut false len s within = let same : len - 0 ≡ len = omega arith in ap (λ n. take n s) same

-- the text without the comma at its end is printed
pub returns : goal.returns
returns c = λ ts is.
    c.in_ok-push.ensures.items
    ∙ ap (λ s. s ++ 10 ∷ [])
    (c.truncate.ensures.items ∙ (λ i. take (c.end_of.ensures i) c.self.inside.bytes.items) ∙ cut c.self.inside.after_value c.self.inside.len c.self.inside.bytes.items c.self.invariant
    ∙ ap (λ l. drop_comma l.after_value l.text) (c.self.view_is ∙ is) ∙ printed [] false ts)
