use Rattle.std.proofs.Common.{◌≡◌, ◌∷◌, [], rules, ap, sym, ◌∙◌}
use Rattle.json.specs.Json.{read_key}
use Rattle.etcs_document.proofs.DocumentTokenLemmas.{aspects_member, only_member}
use Rattle.etcs_document.proofs.TakenLemmas.{kept_items}
use Rattle.etcs_document.proofs.TokenLemmas.{gives_ok, ok_some}
use Rattle.etcs_document.proofs.token_groups.group_member.Goals as goal

-- the balises of the one aspect
pub returns-then-pass_key : goal.returns-then-pass_key
returns-then-pass_key c = ok_some _ _ c.as_only_aspect.result c.ok.result (gives_ok _ _ c.as_only_aspect.ensures) (λ made. made) c.ok.ensures.value (λ aspects given made.
    let is : aspects ≡ c.in_ok-group.group ∷ [] = cc given in
    only_member _ _ c.pass_key.new.self _ aspects _ (c.pass_key.ensures.yes (search rules)) c.in_ok-group.ensures is)

-- the first key is not the next one
pub returns-then-pass_key-2 : goal.returns-then-pass_key-2
returns-then-pass_key-2 c =
    let named = ap read_key (sym (c.pass_key.ensures.no (search rules))) ∙ c.pass_key-2.ensures.yes (search rules) in
    ok_some _ _ c.new.result c.ok-then-pass_key-2.result c.new.ensures.ok c.new.ensures.made.0 c.ok-then-pass_key-2.ensures.value (λ aspects is made.
    aspects_member _ _ c.pass_key-2.new.self _ aspects _ named (kept_items _ _ _ _ c.new-aspects.ensures.items c.in_ok-items.ensures) is made)
