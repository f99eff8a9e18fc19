use Rattle.etcs_document.proofs.DocumentTokenLemmas.{balises_taken}
use Rattle.etcs_document.proofs.TakenLemmas.{kept_items}
use Rattle.etcs_document.proofs.TokenLemmas.{ok_part, ok_some}
use Rattle.etcs_document.proofs.token_groups.balises.Goals as goal

-- a group was made, so the balises are one to eight
pub returns : goal.returns
returns c = ok_some _ _ c.new.result c.ok-2.result c.new.ensures.ok c.new.ensures.made.0 c.ok-2.ensures.value (λ group same fits.
    let none = ok_part _ _ c.with_capacity.result _ c.with_capacity.ensures.items c.in_ok-telegrams.ensures.value in
    rw same (balises_taken _ _ c.items.new.sink.items _ (kept_items _ _ _ _ none c.in_ok-items.ensures) fits.0 fits.1))
