use Rattle.std.proofs.Common.{◌≡◌, ◌++◌, [], ◌∷◌, Bor, reverse, sym, ap, ◌∙◌}
use Rattle.std.proofs.lemmas.List.{map-append}
use Rattle.etcs_telegram.specs.Record.{Telegram}
use Rattle.etcs_group.specs.Controlled.{balise_count}
use Rattle.etcs_group.specs.Mixture.{shown_aspect}
use Rattle.etcs_group.specs.Places.{pointed}
use Rattle.etcs_group.proofs.MixtureLemmas.{mixed_from, mixed-from, mixed-some, one_more_read, no_more_read, all_read}
use Rattle.etcs_group.proofs.PointedLemmas.{reverse-pointed}
use Rattle.etcs_group.proofs.StepLemmas.{on_err}
use Rattle.etcs_group.proofs.controlled.Controlled.mixed.Goals as goal
use Rattle.etcs_group.proofs.controlled.Controlled.mixed.Goals.{in-Some+in_ok-push, in_default}

-- The telegram that is to be pushed is shown.
pub returns-in_err-push-clause-memory : goal.returns-in_err-push-clause-memory
returns-in_err-push-clause-memory c =
    on_err _ _ (mixed-some c.args.self.now (shown_aspect c.args.mixture.now.shown) c.places.invariant.controlled c.requires c.args.mixture.now.run c.places.place c.in-Some.telegram.now c.in-Some.ensures)

-- One more place is read, or shows nothing.
pub places-preserved : goal.places-preserved
places-preserved c = record {
  controlled = c.places.invariant.controlled;
  end = c.places.invariant.end;
  few = c.places.invariant.few;
  all = elim c.match-shown_telegram.branch [
    | in-Some+in_ok-push w ↦
        let items : pointed w.push.new.self.items ≡ pointed c.places.read.items ++ (w.in-Some.telegram.now ∷ []) = ap pointed w.in_ok-push.ensures.items ∙ map-append (λ (x : Bor Telegram). x.now) c.places.read.items (w.in-Some.telegram ∷ []) in
        rw (w.read-is, items) (one_more_read c.args.self.now (shown_aspect c.args.mixture.now.shown) c.places.place c.count-place-end.result c.places-test.true (pointed c.places.read.items) _ w.in-Some.telegram.now w.in-Some.ensures c.places.invariant.all)
    | in_default w ↦
        rw w.read-is (no_more_read c.args.self.now (shown_aspect c.args.mixture.now.shown) c.places.place c.count-place-end.result c.places-test.true (pointed c.places.read.items) _ w.in_default.ensures c.places.invariant.all)
  ];
}

-- What is shown is passed in its own order.
pub returns-in-Nominal-clause-ok : goal.returns-in-Nominal-clause-ok
returns-in-Nominal-clause-ok c =
    let all = all_read c.args.self.now (shown_aspect c.args.mixture.now.shown) c.places.place c.count-place-end.result (pointed c.places.read.items) _ c.places-test.false c.places.invariant.all in
    let is = all ∙ ap (mixed_from c.args.self.now (shown_aspect c.args.mixture.now.shown) 0) c.places.invariant.end ∙ sym (mixed-from c.args.self.now (shown_aspect c.args.mixture.now.shown) 0 (balise_count c.args.self.now)) in
    rw c.in-Nominal.is is

-- What is shown is reversed.
pub returns-in-Reverse-clause-ok : goal.returns-in-Reverse-clause-ok
returns-in-Reverse-clause-ok c =
    let all = all_read c.args.self.now (shown_aspect c.args.mixture.now.shown) c.places.place c.count-place-end.result (pointed c.places.read.items) _ c.places-test.false c.places.invariant.all in
    let is = all ∙ ap (mixed_from c.args.self.now (shown_aspect c.args.mixture.now.shown) 0) c.places.invariant.end ∙ sym (mixed-from c.args.self.now (shown_aspect c.args.mixture.now.shown) 0 (balise_count c.args.self.now)) in
    rw (c.in-Reverse.is, c.reverse.ensures.items) (reverse-pointed c.places.read.items ∙ ap reverse is)
