use Rattle.std.proofs.Common.{◌∙◌, arith}
use Rattle.etcs_group.specs.Mixture.{shown_aspect}
use Rattle.etcs_group.proofs.MixtureLemmas.{none-from_test, one_more_missed, one_more_shown}
use Rattle.etcs_group.proofs.controlled.Controlled.missed.Goals as goal
use Rattle.etcs_group.proofs.controlled.Controlled.missed.Goals.{then-is_none, else-is_none}

-- The bit of this place is set if the place shows nothing.
pub places-preserved : goal.places-preserved
places-preserved c =
    let lt = c.places-test.true in
    let few = c.places.invariant.few in
    record {
      end = c.places.invariant.end;
      few = c.places.invariant.few;
      within = omega arith;
      bits = λ p. elim c.if-is_none.branch [
        | then-is_none w ↦ let none = none-from_test c.args.mixture.now.shown c.places.place c.is_none.result c.is_none.ensures ∙ w.if-is_none.true in rw w.bits-is (one_more_missed (shown_aspect c.args.mixture.now.shown) c.places.place c.places.bits (omega arith) none c.places.invariant.bits p)
        | else-is_none w ↦ let some = none-from_test c.args.mixture.now.shown c.places.place c.is_none.result c.is_none.ensures ∙ w.if-is_none.false in rw w.bits-is (one_more_shown (shown_aspect c.args.mixture.now.shown) c.places.place c.places.bits some c.places.invariant.bits p)
      ];
    }
