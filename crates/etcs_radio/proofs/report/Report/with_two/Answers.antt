use Rattle.etcs_radio.proofs.ReportLemmas.{two_width}
use Rattle.etcs_radio.proofs.report.Report.with_two.Goals as goal

-- no report is too long
pub unwrap-requires : goal.unwrap-requires
unwrap-requires c =
    c.new-3.ensures.fit.1 ((tt, (tt, (tt, (tt, (tt, (tt, (tt, (tt, (tt, (tt, (tt, (tt, tt)))))))))))), two_width (c.args.self.now.scale, (c.new-2.result, (c.new.result, c.situation.result))))
