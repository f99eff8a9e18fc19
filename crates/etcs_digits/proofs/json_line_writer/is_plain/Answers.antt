use Rattle.std.proofs.Common.{rules, true}
use Rattle.json.proofs.Printed.Plain.{escape_on_plain}
use Rattle.etcs_digits.proofs.json_line_writer.is_plain.Goals as goal

pub returns : goal.returns
returns c = escape_on_plain true c.args.text.now (search rules)
