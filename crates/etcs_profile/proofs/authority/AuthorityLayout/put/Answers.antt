use Rattle.etcs_bits.specs.bits.Number.{num}
use Rattle.etcs_bits.specs.layout.Rows.{alone}
use Rattle.etcs_bits.proofs.PutLemmas.{puts_bits}
use Rattle.etcs_profile.proofs.authority.AuthorityLayout.put.Goals as goal

pub returns-in_ok-push_num-in-Level1 : goal.returns-in_ok-push_num-in-Level1
unfolding alone num
returns-in_ok-push_num-in-Level1 c =
    rw (← c.self.view_is, c.in-Level1.is)
    (puts_bits _ _ c.put.result c.args.out.now c.push_num.new.self c.put.new.out c.in_ok-push_num-in-Level1.ensures.ok c.put.ensures)

pub returns-in_ok-push_num-in-Level2 : goal.returns-in_ok-push_num-in-Level2
unfolding alone num
returns-in_ok-push_num-in-Level2 c =
    rw (← c.self.view_is, c.in-Level2.is)
    (puts_bits _ _ c.put-in-Level2.result c.args.out.now c.push_num-in-Level2.new.self c.put-in-Level2.new.out c.in_ok-push_num-in-Level2.ensures.ok c.put-in-Level2.ensures)
