use Rattle.std.proofs.Common.{◌≡◌, ◌&&◌, not, ltb, eqb, false, take}
use Rattle.std.specs.List.{list_any}
use Rattle.etcs_group.proofs.refusal.is_miscounted.Given as goal

-- none so far
abbrev pub invariant-earlier : goal.invariant-earlier
invariant-earlier l =
    list_any (λ r. ltb r.now.header.counter 254 && not (eqb r.now.header.counter l.own)) (take l.earlier-index (take l.place l.read)) ≡ false
