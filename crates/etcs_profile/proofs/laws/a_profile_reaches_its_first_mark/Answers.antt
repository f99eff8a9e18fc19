use Rattle.std.proofs.Common.{◌∷◌, ap, sym, ◌∙◌}
use Rattle.etcs_profile.specs.declared.reach.Reach.TheVariants.{Ends}
use Rattle.etcs_profile.specs.Reach.{scaled_reach, way_to_mark}
use Rattle.etcs_profile.proofs.WayLemmas.{way_is, way_of, no_way, no_way_is, reach_ends, reach_open}
use Rattle.etcs_profile.proofs.laws.a_profile_reaches_its_first_mark.Goals as goal

-- the way to the first mark, in the unit of the scale
pub returns : goal.returns
returns g c =
    let distance = g.T.Element.distance_of in
    let marked = g.T.Element.marked in
    record {
      ends = λ e n. (
        λ is.
            let w = reach_ends e.scale (way_to_mark distance marked (e.first ∷ e.further)) n is in
            (w.0, way_is distance marked (e.first ∷ e.further) w.0 w.1, w.2),
        λ w. ap (scaled_reach e.scale) (way_of distance marked (e.first ∷ e.further) w.0 w.1) ∙ ap Ends (sym w.2),
      );
      unmarked = λ e. (
        λ is. no_way_is distance marked (e.first ∷ e.further) (reach_open e.scale (way_to_mark distance marked (e.first ∷ e.further)) is),
        λ off. ap (scaled_reach e.scale) (no_way distance marked (e.first ∷ e.further) off),
      );
    }
