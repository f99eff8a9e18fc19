use Rattle.std.proofs.Common.{◌≡◌, ◌∙◌, ◌+◌, ◌==◌, List, ap, drop, length, refl, subst, sym, true, arith, Ok}
use Rattle.std.proofs.lemmas.Bool.{eqb-true}
use Rattle.std.specs.List.{list_all}
use denote.Ref.{Bor}
use Rattle.etcs_table.proofs.LoopLemmas.{ended, rest, values}
use Rattle.etcs_table.specs.Entries.{Entry}
use Rattle.etcs_table.specs.Pointed.{pointed, pointed_lists}
use Rattle.etcs_table_check.proofs.CountLemmas.{all-more, aspects-controlled, as-many, has_count, ok-value}
use Rattle.etcs_table_check.proofs.ReadLemmas.{none-yet, read-ended, read-fails, read-more}
use Rattle.etcs_table_check.proofs.ShapeLemmas.{and-true}
use Rattle.etcs_table_check.specs.Line.{aspect_telegrams, read_each, telegram_of}
use Rattle.etcs_table_check.specs.Shape.{has_size, size}
use Rattle.etcs_table_check.specs.Refusals.{FailsAs}
use Rattle.etcs_table_check.proofs.line.read_group.Goals as goal

-- the balises of the aspect are read
pub aspects-preserved : goal.aspects-preserved
aspects-preserved c =
    let lists = c.aspects-lists.result.now in
    let i = c.aspects.balises-index in
    let b = c.balises-item.result in
    let is = ap (λ (s : List (Bor Entry)). aspect_telegrams (pointed s)) (sym c.deref.ensures.value) ∙ c.in-Ok.ensures in
    let begun = rest values lists i b c.aspects-test.true c.balises-item.is in
    let n = size (pointed_lists lists) in
    let o = and-true (has_size n (values b)) (list_all (has_size n) (drop (i + 1) (pointed_lists lists))) (subst (λ ls. list_all (has_size n) ls ≡ true) begun c.aspects.invariant.sized) in
    let many : has_count n c.in-Ok.aspect ≡ true = ap (λ k. k == n) (as-many telegram_of (values b) c.in-Ok.aspect is) ∙ o.0 in
    record {
      read = rw c.in_ok-push-in-Ok.ensures.items (read-more aspect_telegrams (pointed_lists lists) c.aspects.aspects.items i _ (values b) _ begun is c.aspects.invariant.read);
      sized = o.1;
      made = rw c.in_ok-push-in-Ok.ensures.items (all-more (has_count n) c.aspects.aspects.items c.in-Ok.aspect c.aspects.invariant.made many);
    }

pub aspects-init : goal.aspects-init
aspects-init c =
    let same = c.aspects-lists.ensures in
    record {
      read = rw c.new-aspects.ensures.items (none-yet _);
      sized = subst (λ ls. list_all (has_size (size ls)) ls ≡ true) (sym same) c.requires.sized;
      made = rw c.new-aspects.ensures.items refl;
    }

-- the aspect has one to eight balises
pub read_aspect-requires : goal.read_aspect-requires
read_aspect-requires c =
    let lists = c.aspects-lists.result.now in
    let i = c.aspects.balises-index in
    let b = c.balises-item.result in
    let begun = rest values lists i b c.aspects-test.true c.balises-item.is in
    let n = size (pointed_lists lists) in
    let o = and-true (has_size n (values b)) (list_all (has_size n) (drop (i + 1) (pointed_lists lists))) (subst (λ ls. list_all (has_size n) ls ≡ true) begun c.aspects.invariant.sized) in
    let long = eqb-true (length (values b)) n o.0 in
    let kept : n ≡ size c.args.group.now.aspects = ap size c.aspects-lists.ensures in
    let same = ap (λ (s : List (Bor Entry)). length (pointed s)) c.deref.ensures.value in
    record { some = omega (arith, long, kept, same, c.requires.above); few = omega (arith, long, kept, same, c.requires.few) }

-- a balise is refused
pub returns-in-Err : goal.returns-in-Err
returns-in-Err c =
    let lists = c.aspects-lists.result.now in
    let i = c.aspects.balises-index in
    let b = c.balises-item.result in
    let fails = subst (λ (s : List (Bor Entry)). FailsAs c.in-Err.error (aspect_telegrams (pointed s))) c.deref.ensures.value c.in-Err.ensures in
    subst (λ (ls : List (List Entry)). FailsAs c.in-Err.error (read_each aspect_telegrams ls)) c.aspects-lists.ensures
    (read-fails aspect_telegrams (pointed_lists lists) c.aspects.aspects.items i _ (values b) c.in-Err.error (rest values lists i b c.aspects-test.true c.balises-item.is) fails c.aspects.invariant.read)

-- all are read, so there are as many aspects of the same size
pub unwrap-requires : goal.unwrap-requires
unwrap-requires c =
    let lists = c.aspects-lists.result.now in
    let i = c.aspects.balises-index in
    let read = read-ended aspect_telegrams (pointed_lists lists) c.aspects.aspects.items i _ (ended values lists i c.aspects-test.false) c.aspects.invariant.read in
    let n = as-many aspect_telegrams (pointed_lists lists) c.aspects.aspects.items read in
    let kept = ap size c.aspects-lists.ensures in
    let long = ap length c.aspects-lists.ensures in
    c.new.ensures.made.1 (aspects-controlled (size (pointed_lists lists)) c.aspects.aspects.items c.aspects.invariant.made (omega (arith, n, long, c.requires.some)) (omega (arith, kept, c.requires.above)))

pub returns : goal.returns
returns c =
    let lists = c.aspects-lists.result.now in
    let i = c.aspects.balises-index in
    ap (read_each aspect_telegrams) (sym c.aspects-lists.ensures)
    ∙ read-ended aspect_telegrams (pointed_lists lists) c.aspects.aspects.items i _ (ended values lists i c.aspects-test.false) c.aspects.invariant.read
    ∙ ap Ok (sym (ok-value (λ a. a ≡ c.aspects.aspects.items) c.new.result c.unwrap.result c.unwrap.ensures c.new.ensures.ok))
