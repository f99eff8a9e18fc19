use Rattle.std.proofs.Common.{◌<◌, ◌≤◌, ◌&&◌, eqb, length, sym, ap, ◌∙◌, arith}
use Rattle.std.proofs.lemmas.Bool.{eq-eqb, ne_eqb, and_left}
use Rattle.etcs_profile.specs.Track.{holds}
use Rattle.etcs_group.proofs.PlaceLemmas.{some_at}
use Rattle.etcs_check.specs.Duplicates.{same_packet}
use Rattle.etcs_check.proofs.CompareLemmas.{agree_here, differ_here, same_at_end}
use Rattle.etcs_check.proofs.duplicates.same_lists.Goals as goal
use Rattle.etcs_check.proofs.duplicates.same_lists.Goals.{then-packets-test+else-j-those, else-packets-test}

pub returns-then-not-same_at : goal.returns-then-not-same_at
returns-then-not-same_at c =
    let x = some_at c.args.these.now c.packets.i c.packets-test.true in
    let y = some_at c.args.those.now c.packets.j c.if-j-those.true in
    sym (sym c.packets.invariant.left ∙ differ_here same_packet (holds c.args.run) c.args.these.now c.args.those.now c.packets.i c.packets.j x.0 y.0 x.1 y.1 (c.packets.invariant.a_holds x.0 x.1) (c.packets.invariant.b_holds y.0 y.1)
    (sym (c.if-not-same_at.ensures x.0 y.0 x.1 y.1)))

pub returns-then-i-these : goal.returns-then-i-these
returns-then-i-these c =
    let ended : c.packets.i < length c.args.these.now → length c.args.those.now ≤ c.packets.j = λ lt. let e = c.if-i-these.true in absurd (omega arith) in
    let all = same_at_end same_packet (holds c.args.run) c.args.these.now c.args.those.now c.packets.i c.packets.j c.packets.invariant.a_within c.packets.invariant.b_within c.packets.invariant.a_holds c.packets.invariant.b_holds ended in
    sym (sym c.packets.invariant.left ∙ all ∙ ap (λ b. b && eqb c.packets.j (length c.args.those.now)) (eq-eqb _ _ c.if-i-these.true))

pub returns-else-i-these : goal.returns-else-i-these
returns-else-i-these c =
    let ended : c.packets.i < length c.args.these.now → length c.args.those.now ≤ c.packets.j = λ lt. elim c.packets-test.branch [ then-packets-test+else-j-those w ↦ w.if-j-those.false | else-packets-test w ↦ let g = w.packets-test.false in absurd (omega arith) ] in
    let all = same_at_end same_packet (holds c.args.run) c.args.these.now c.args.those.now c.packets.i c.packets.j c.packets.invariant.a_within c.packets.invariant.b_within c.packets.invariant.a_holds c.packets.invariant.b_holds ended in
    ne_eqb _ _ c.if-i-these.false ∙ sym (sym c.packets.invariant.left ∙ all ∙ and_left _ _ (ne_eqb _ _ c.if-i-these.false))

pub packets-preserved : goal.packets-preserved
packets-preserved c =
    let x = some_at c.args.these.now c.packets.i c.packets-test.true in
    let y = some_at c.args.those.now c.packets.j c.if-j-those.true in
    let step = agree_here same_packet (holds c.args.run) c.args.these.now c.args.those.now c.packets.i c.packets.j x.0 y.0 x.1 y.1 (c.packets.invariant.a_holds x.0 x.1) (c.packets.invariant.b_holds y.0 y.1) (sym (c.if-not-same_at.ensures x.0 y.0 x.1 y.1)) in
    record {
      left = rw (← c.next_held-i-in-packets.ensures.same, ← c.next_held-j-in-packets.ensures.same) (sym step ∙ c.packets.invariant.left);
      a_within = c.next_held-i-in-packets.ensures.within;
      b_within = c.next_held-j-in-packets.ensures.within;
      a_holds = c.next_held-i-in-packets.ensures.holds;
      b_holds = c.next_held-j-in-packets.ensures.holds;
    }
