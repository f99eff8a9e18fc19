use Rattle.etcs_radio.proofs.ReportLemmas.{put_one, put_two}
use Rattle.etcs_radio.proofs.report.ReportLayout.put.Goals as goal

pub returns-in_ok-push_num-in-None : goal.returns-in_ok-push_num-in-None
returns-in_ok-push_num-in-None c =
    put_one c.args.self.now c.with_one.result c.put.result c.args.out.now c.push_num.new.self c.put.new.out c.in-None.is c.with_one.ensures c.in_ok-push_num-in-None.ensures.ok c.put.ensures

pub returns-in_ok-push_num-in-Some : goal.returns-in_ok-push_num-in-Some
returns-in_ok-push_num-in-Some c =
    put_two c.args.self.now c.in-Some.previous c.with_two.result c.put-in-Some.result c.args.out.now c.push_num-in-Some.new.self c.put-in-Some.new.out c.in-Some.is c.with_two.ensures c.in_ok-push_num-in-Some.ensures.ok c.put-in-Some.ensures
