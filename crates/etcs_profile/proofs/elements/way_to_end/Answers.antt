use Rattle.std.proofs.Common.{◌≡◌, ◌+◌, [], drop, Some, refl, sym, ap, ◌∙◌, arith}
use Rattle.std.proofs.lemmas.List.{drop_all}
use Rattle.etcs_profile.specs.Reach.{way_to_mark}
use Rattle.etcs_profile.proofs.WayLemmas.{way_goes_on, way_ends}
use Rattle.etcs_profile.proofs.elements.way_to_end.Goals as goal

pub returns-then-is_end-clause-way : goal.returns-then-is_end-clause-way
returns-then-is_end-clause-way g c =
    let ends = way_ends g.T.Element.distance_of g.T.Element.marked c.args.elements.now c.elements.element-index c.element-item.result c.elements.sum
    (record { inside = c.elements-test.true; is = c.element-item.is }) (sym c.is_end.ensures ∙ c.if-is_end.true) in
    sym (c.elements.invariant.so_far ∙ ends ∙ ap (λ n. Some (c.elements.sum + n)) (sym (c.from-sum.ensures ∙ c.distance.ensures.number)))

pub elements-preserved : goal.elements-preserved
elements-preserved g c =
    let goes = way_goes_on g.T.Element.distance_of g.T.Element.marked c.args.elements.now c.elements.element-index c.element-item.result c.elements.sum
    (record { inside = c.elements-test.true; is = c.element-item.is }) (sym c.is_end.ensures ∙ c.if-is_end.false) in
    record {
      small = omega (arith, c.elements.invariant.small, c.from-sum.ensures, c.distance.ensures.small);
      so_far = c.elements.invariant.so_far ∙ rw (c.from-sum.ensures, c.distance.ensures.number) goes;
    }

pub returns-clause-way : goal.returns-clause-way
unfolding way_to_mark
returns-clause-way g c =
    let past : drop c.elements.element-index c.args.elements.now ≡ [] =
    drop_all c.elements.element-index c.args.elements.now (omega (arith, c.elements-test.false)) in
    sym (c.elements.invariant.so_far ∙ rw past refl)
