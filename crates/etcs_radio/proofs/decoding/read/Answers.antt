use Rattle.std.proofs.lemmas.Result.{err_from_is_err_and}
use Rattle.etcs_bits.proofs.GrowthLemmas.{never_grows}
use Rattle.etcs_radio.specs.HeadView.{head_value}
use Rattle.etcs_radio.specs.Message.{MessageGrows}
use Rattle.etcs_radio.proofs.DecodeLemmas.{AreSeen, head_fails, if_grows, message_means}
use Rattle.etcs_radio.proofs.decoding.read.Goals as goal
use Rattle.etcs_radio.proofs.decoding.read.Goals.{After-scan_head}

seen : (c : After-scan_head) → AreSeen c.args.bytes.now c.over-cur.result
seen c = record {
  few = c.min-few.result;
  bits = c.of_bytes.result;
  least = c.min-few.ensures;
  are = c.of_bytes.ensures.bits;
  here = c.over-cur.ensures;
}

-- the fault of the head is the fault of the bytes
pub returns-in_err-fields-clause-exact : goal.returns-in_err-fields-clause-exact
returns-in_err-fields-clause-exact c =
    let failed = err_from_is_err_and c.from_residual.result c.from_residual.ensures.1 in
    rw (failed.1, failed.2) (head_fails c.in_err-fields.field-0.0 c.args.bytes.now c.over-cur.result (seen (goal.at.returns-in_err-fields-clause-exact c).After-scan_head) c.in_err-fields.ensures.gives)

-- the head takes no memory
pub returns-in_err-fields-clause-memory : goal.returns-in_err-fields-clause-memory
returns-in_err-fields-clause-memory c =
    let failed = err_from_is_err_and c.from_residual.result c.from_residual.ensures.1 in
    rw (failed.1, failed.2) (never_grows c.in_err-fields.field-0.0 (MessageGrows c.args.bytes.now) c.in_err-fields.ensures.memory)

-- the message of the head and the packets after it
pub returns-clause-exact : goal.returns-clause-exact
returns-clause-exact c =
    message_means c.message.result c.args.bytes.now c.over-cur.result c.scan_head.new.cur (head_value c.in_ok-fields.fields) (seen (goal.at.returns-clause-exact c).After-scan_head) c.in_ok-fields.ensures.gives c.message.ensures.means

pub returns-clause-memory : goal.returns-clause-memory
returns-clause-memory c =
    if_grows c.message.result c.args.bytes.now c.over-cur.result c.scan_head.new.cur (head_value c.in_ok-fields.fields) (seen (goal.at.returns-clause-memory c).After-scan_head) c.in_ok-fields.ensures.gives c.message.ensures.memory
