use Rattle.std.proofs.Common.{◌≡◌, ◌≤◌, ◌*◌, drop}
use Rattle.etcs_profile.specs.Reach.{add_distance, way_to_mark}
use Rattle.etcs_profile.proofs.elements.way_to_end.Given as goal

abbrev pub invariant-elements : goal.invariant-elements
invariant-elements g l = record {
  small : l.sum ≤ l.element-index * 32767;
  so_far : way_to_mark g.T.Element.distance_of g.T.Element.marked l.elements
      ≡ add_distance l.sum (way_to_mark g.T.Element.distance_of g.T.Element.marked (drop l.element-index l.elements));
}
