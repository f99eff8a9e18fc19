use Rattle.std.proofs.Common.{◌∙◌, ◌+◌, [], Ok, ap, arith, drop, length, rules, sym}
use Rattle.std.proofs.lemmas.List.{take_rest}
use Rattle.std.proofs.lemmas.Result.{err_from_is_err_and}
use Rattle.etcs_document.specs.declared.refusal.Refusal.TheVariants.{Message}
use Rattle.etcs_document.specs.declared.refusal.StreamFault.TheVariants.{BelowThree}
use Rattle.etcs_radio.specs.Meaning.{read_message}
use Rattle.etcs_run.specs.Output.{Output, refusal_output}
use Rattle.etcs_run.specs.RadioStream.{bytes_output, message_json, message_output}
use Rattle.etcs_run.proofs.RadioLemmas.{Feeding-message, Feeds-cut, Feeds-more, Feeds-stopped, left_failed, left_more, left_ready, takes_few, takes_of, takes_so_many, takes_three, answer_of_beginning, answer_of_output}
use Rattle.etcs_run.proofs.radio_decoding.RadioDecoding.feed.Goals as goal

-- all bytes were fed, and the splitter waits for more
pub returns-in-More-clause-feeds : goal.returns-in-More-clause-feeds
returns-in-More-clause-feeds g c =
    let call = takes_of c.args.bytes.now c.messages.at (take_rest c.args.bytes.now c.messages.at) c.feed-fed.ensures.used c.feed-fed.ensures.held in
    let waits = sym c.feed-fed.ensures.state ∙ c.in-More.is in
    Feeds-more c.messages.self.number c.feed-fed.new.self c.messages.invariant.feeding
    (left_more call c.messages.self.number waits)

-- no message begins with what is held, and the refusal was cut off
pub returns-in_err-status-in-Failed-clause-feeds : goal.returns-in_err-status-in-Failed-clause-feeds
returns-in_err-status-in-Failed-clause-feeds g c =
    let call = takes_of c.args.bytes.now c.messages.at (take_rest c.args.bytes.now c.messages.at) c.feed-fed.ensures.used c.feed-fed.ensures.held in
    let n = c.messages.self.number in
    let failed = sym c.feed-fed.ensures.state ∙ c.in-Failed.is in
    let refused : Output = refusal_output (Message n BelowThree) in
    let passed_on = err_from_is_err_and c.from_residual.result c.from_residual.ensures.1 in
    let line_answer = answer_of_beginning passed_on.0 c.in_err-status-in-Failed.ensures.writes in
    rw passed_on.1 (Feeds-cut c.messages.invariant.feeding (λ _. refused) (λ _. refused) (left_failed call n failed)
    passed_on.0 line_answer n c.feed-fed.new.self)

-- the refusal was written
pub returns-in-Failed-clause-feeds : goal.returns-in-Failed-clause-feeds
returns-in-Failed-clause-feeds g c =
    let call = takes_of c.args.bytes.now c.messages.at (take_rest c.args.bytes.now c.messages.at) c.feed-fed.ensures.used c.feed-fed.ensures.held in
    let n = c.messages.self.number in
    let failed = sym c.feed-fed.ensures.state ∙ c.in-Failed.is in
    let refused : Output = refusal_output (Message n BelowThree) in
    let line_answer = answer_of_output c.in_ok-status-in-Failed.ensures.writes in
    Feeds-stopped c.messages.invariant.feeding (λ _. refused) (λ _. refused) (left_failed call n failed) line_answer n
    c.feed-fed.new.self

-- a message has at least three bytes, and they cover its cost
pub answer_message-requires-clause-numbered : goal.answer_message-requires-clause-numbered
answer_message-requires-clause-numbered g c =
    let call = takes_of c.args.bytes.now c.messages.at (take_rest c.args.bytes.now c.messages.at) c.feed-fed.ensures.used c.feed-fed.ensures.held in
    let ready = sym c.feed-fed.ensures.state ∙ c.in-Ready.is in
    omega (arith, c.requires.numbered, c.messages.invariant.paid, c.messages.invariant.within, takes_few call, takes_so_many call, takes_three call ready)

-- the message was not answered completely
pub returns-in_err-status-in-Ready-clause-feeds : goal.returns-in_err-status-in-Ready-clause-feeds
returns-in_err-status-in-Ready-clause-feeds g c =
    let call = takes_of c.args.bytes.now c.messages.at (take_rest c.args.bytes.now c.messages.at) c.feed-fed.ensures.used c.feed-fed.ensures.held in
    let ready = sym c.feed-fed.ensures.state ∙ c.in-Ready.is in
    let n = c.messages.self.number in
    let later = bytes_output (n + 1) [] (drop (c.messages.at + c.feed-fed.result.used) c.args.bytes.now) in
    let after = message_output n (message_json (read_message c.feed-fed.new.self)) in
    let residual = c.from_residual-in_err-status-in-Ready in
    let passed_on = err_from_is_err_and residual.result residual.ensures.1 in
    rw passed_on.1 (Feeds-cut c.messages.invariant.feeding later after (left_ready call n ready) passed_on.0
    c.in_err-status-in-Ready.ensures.answers_line _ _)

-- the run stops at the message
pub returns-in-Stop-clause-feeds : goal.returns-in-Stop-clause-feeds
returns-in-Stop-clause-feeds g c =
    let call = takes_of c.args.bytes.now c.messages.at (take_rest c.args.bytes.now c.messages.at) c.feed-fed.ensures.used c.feed-fed.ensures.held in
    let ready = sym c.feed-fed.ensures.state ∙ c.in-Ready.is in
    let n = c.messages.self.number in
    let later = bytes_output (n + 1) [] (drop (c.messages.at + c.feed-fed.result.used) c.args.bytes.now) in
    let after = message_output n (message_json (read_message c.feed-fed.new.self)) in
    let line_answer = rw c.in-Stop.is at c.in_ok-status-in-Ready.ensures.answers_line in
    Feeds-stopped c.messages.invariant.feeding later after (left_ready call n ready) line_answer _ _

pub returns-in-Stop-clause-bounded : goal.returns-in-Stop-clause-bounded
returns-in-Stop-clause-bounded g c =
    let call = takes_of c.args.bytes.now c.messages.at (take_rest c.args.bytes.now c.messages.at) c.feed-fed.ensures.used c.feed-fed.ensures.held in
    omega (arith, c.messages.invariant.paid, c.messages.invariant.within, takes_few call, takes_so_many call, c.in_ok-status-in-Ready.ensures.bounded)

-- a message has left the splitter
pub messages-smaller : goal.messages-smaller
messages-smaller g c =
    let call = takes_of c.args.bytes.now c.messages.at (take_rest c.args.bytes.now c.messages.at) c.feed-fed.ensures.used c.feed-fed.ensures.held in
    let ready = sym c.feed-fed.ensures.state ∙ c.in-Ready.is in
    let cleared = c.in_ok-status-in-Ready.ensures.cleared (ap Ok c.in_default.is) in
    omega (arith, c.messages.invariant.paid, c.messages.invariant.within, takes_few call, takes_so_many call, takes_three call ready, ap length cleared)

-- its line was written, and the bytes after it remain
pub messages-preserved : goal.messages-preserved
messages-preserved g c =
    let call = takes_of c.args.bytes.now c.messages.at (take_rest c.args.bytes.now c.messages.at) c.feed-fed.ensures.used c.feed-fed.ensures.held in
    let ready = sym c.feed-fed.ensures.state ∙ c.in-Ready.is in
    let n = c.messages.self.number in
    let later = bytes_output (n + 1) [] (drop (c.messages.at + c.feed-fed.result.used) c.args.bytes.now) in
    let after = message_output n (message_json (read_message c.feed-fed.new.self)) in
    let cleared = c.in_ok-status-in-Ready.ensures.cleared (ap Ok c.in_default.is) in
    let next = c.in_ok-status-in-Ready.ensures.next (ap Ok c.in_default.is) in
    let line_answer = rw c.in_default.is at c.in_ok-status-in-Ready.ensures.answers_line in
    record {
      feeding = rw (next, cleared) (Feeding-message c.messages.invariant.feeding later after (left_ready call n ready) line_answer);
      within = omega (arith, c.messages.invariant.within, takes_few call);
      writes = search rules;
      unflushed = search rules;
      paid = omega (arith, c.messages.invariant.paid, c.messages.invariant.within, takes_few call, takes_so_many call, takes_three call ready, next, ap length cleared);
    }
