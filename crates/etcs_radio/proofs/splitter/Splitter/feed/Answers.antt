-- Bytes are taken up to the third, and then up to the length in the first three.
use Rattle.std.proofs.Common.{◌≡◌, ◌+◌, ◌<◌, ◌≤◌, ◌++◌, length, max, refl, ap, ◌∙◌, subst, take}
use Rattle.etcs_radio.specs.Stream.{message_length}
use Rattle.etcs_radio.specs.Splitter.{IsTaken}
use Rattle.etcs_radio.proofs.SplitterLemmas.{Steps, steps_taken, steps_held, steps_may, none_changed, none_taken}
use Rattle.etcs_radio.proofs.splitter.Splitter.feed.Goals as goal

steps : (c : goal.After-state_with) → Steps c.self.inside.bytes.items c.args.piece.now c.fill-head.result c.fill-rest.result c.fill-rest.new.bytes.items
steps c =
    let shown = c.as_slice.ensures.value in
    record {
      may = c.self.invariant;
      first = c.fill-head.ensures.value;
      three = c.fill-head.new.bytes.items;
      three_is = c.fill-head.ensures.items;
      wanted = c.wanted-wanted.result;
      few = subst (λ xs. length xs < 3 → c.wanted-wanted.result ≡ 3) shown c.wanted-wanted.ensures.few;
      whole = subst (λ xs. 3 ≤ length xs → c.wanted-wanted.result ≡ max 3 (message_length xs)) shown c.wanted-wanted.ensures.whole;
      others = _;
      others_are = refl;
      then_is = c.fill-rest.ensures.value;
      after_is = c.fill-rest.ensures.items;
    }

pub invariant_of-self : goal.invariant_of-self
invariant_of-self c = steps_may _ _ _ _ _ (steps c)

pub returns-clause-used : goal.returns-clause-used
returns-clause-used c =
    subst (λ held. IsTaken held c.args.piece.now (c.fill-head.result + c.fill-rest.result)) c.self.view_is (steps_taken _ _ _ _ _ (steps c))

pub returns-clause-held : goal.returns-clause-held
returns-clause-held c =
    steps_held _ _ _ _ _ (steps c)
    ∙ ap (λ held. held ++ take (c.fill-head.result + c.fill-rest.result) c.args.piece.now) c.self.view_is

pub returns-clause-unchanged : goal.returns-clause-unchanged
returns-clause-unchanged c =
    λ over.
    returns-clause-held c
    ∙ none_changed c.args.self.now c.args.piece.now (c.fill-head.result + c.fill-rest.result) (returns-clause-used c) over

pub returns-clause-unused : goal.returns-clause-unused
returns-clause-unused c =
    λ over. none_taken c.args.self.now c.args.piece.now (c.fill-head.result + c.fill-rest.result) (returns-clause-used c) over
