use Rattle.etcs_bits.specs.bits.Number.{num}
use Rattle.etcs_bits.specs.layout.Rows.{alone, join}
use Rattle.etcs_bits.proofs.PutLemmas.{puts_bits}
use Rattle.etcs_bits.proofs.layout.option.OptionLayout.put.Goals as goal

pub returns-in_ok-push_num-in-Some : goal.returns-in_ok-push_num-in-Some
unfolding alone
returns-in_ok-push_num-in-Some g c =
    rw c.in-Some.is (puts_bits (num 1 1) (join (g.T.Layout.format.rows c.in-Some.record)) c.put.result _ _ _ c.in_ok-push_num-in-Some.ensures.ok c.put.ensures)
