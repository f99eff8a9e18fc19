use Rattle.etcs_radio.proofs.ReportLemmas.{one_width}
use Rattle.etcs_radio.proofs.report.Report.with_one.Goals as goal

-- no report is too long
pub unwrap-requires : goal.unwrap-requires
unwrap-requires c =
    c.new-2.ensures.fit.1 ((tt, (tt, (tt, (tt, (tt, (tt, (tt, (tt, (tt, (tt, (tt, tt))))))))))), one_width (c.args.self.now.scale, (c.new.result, c.situation.result)))
