use Rattle.std.proofs.Common.{◌≡◌, ◌-◌, ◌<◌, rules, length, refl, ap, arith}
use Rattle.etcs_document.proofs.DocumentTokenLemmas.{first_shorter}
use Rattle.etcs_document.proofs.StreamingLemmas.{all_taken, none_taken, one_taken}
use Rattle.etcs_document.proofs.TokenLemmas.{ok_part}
use Rattle.etcs_document.proofs.token_groups.items.Goals as goal

pub items-init : goal.items-init
items-init g c = none_taken g.T.FromTokens.is_value g.K.Sink.takes _ _ _

pub items-smaller : goal.items-smaller
items-smaller g c =
    omega (arith, ap length (c.items-test.ensures.no (search rules)), first_shorter g.T.FromTokens.is_value _ _ _ _ c.in_ok-item.ensures)

-- one more was read, and passed to the sink
pub items-preserved : goal.items-preserved
items-preserved g c =
    let same = c.items-test.ensures.no (search rules) in
    let taken = ok_part _ _ c.take.result _ c.take.ensures.taken c.in_ok-ok.ensures.value in
    one_taken g.T.FromTokens.is_value g.K.Sink.takes _ _ _ _ _ _ _ c.items.invariant _ (rw same at c.in_ok-item.ensures) taken

pub returns : goal.returns
returns g c =
    let inner : c.in_ok-inner.inner ≡ c.args.depth - 1 = omega (arith, c.in_ok-inner.ensures.depth) in
    let deep : 0 < c.args.depth = omega (arith, c.in_ok-inner.ensures.depth) in
    all_taken g.T.FromTokens.is_value g.K.Sink.takes c.args.depth _ _ _ c.pass_open.new.self _ _ deep (c.in_ok-inner.ensures.list refl) (rw inner at c.items.invariant) (c.items-test.ensures.list refl (search rules))
