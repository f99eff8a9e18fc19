use Rattle.std.proofs.Common.{refl, sym, ◌∙◌}
use Rattle.etcs_profile.proofs.WayLemmas.{way_first, way_further}
use Rattle.etcs_profile.proofs.elements.Elements.reach.Goals as goal

pub returns-then-is_end : goal.returns-then-is_end
returns-then-is_end g c =
    let way = way_first g.T.Element.distance_of g.T.Element.marked c.self.inside.first c.self.inside.further (sym c.is_end.ensures ∙ c.if-is_end.true) in
    rw (← c.self.view_is, way, c.factor-factor.ensures, c.from-first.ensures, c.distance.ensures.number) refl

pub returns-in-Some : goal.returns-in-Some
returns-in-Some g c =
    let way = way_further g.T.Element.distance_of g.T.Element.marked c.self.inside.first c.self.inside.further (sym c.is_end.ensures ∙ c.if-is_end.false) in
    let rest = sym c.way_to_end.ensures.way ∙ c.in-Some.is in
    let behind = rw (c.further.ensures.elements, ← c.self.view_is) at rest in
    rw (← c.self.view_is, way, behind, c.factor-factor.ensures, c.from-first.ensures, c.distance.ensures.number) refl

pub returns-in-None : goal.returns-in-None
returns-in-None g c =
    let way = way_further g.T.Element.distance_of g.T.Element.marked c.self.inside.first c.self.inside.further (sym c.is_end.ensures ∙ c.if-is_end.false) in
    let rest = sym c.way_to_end.ensures.way ∙ c.in-None.is in
    let behind = rw (c.further.ensures.elements, ← c.self.view_is) at rest in
    rw (← c.self.view_is, way, behind) refl
