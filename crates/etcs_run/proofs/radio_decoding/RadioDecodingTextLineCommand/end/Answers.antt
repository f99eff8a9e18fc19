use Rattle.std.proofs.Common.{◌≢◌, ◌∙◌, [], Ok, ap, length, refl, sym}
use Rattle.std.proofs.lemmas.List.{nil_from_length}
use Rattle.etcs_run.specs.RadioHeld.{kept_bytes, messages_written}
use Rattle.etcs_run.proofs.RadioLemmas.{ends_cut_off, ends_done, ends_silent, ends_told}
use Rattle.etcs_run.proofs.radio_decoding.RadioDecodingTextLineCommand.end.Goals as goal

-- nothing is held
pub returns-then-held-eq0-clause-writes : goal.returns-then-held-eq0-clause-writes
returns-then-held-eq0-clause-writes g c number =
    let none = nil_from_length (kept_bytes c.args.self.now) (sym c.held.ensures.value ∙ c.if-held-eq0.true) in
    ends_done (messages_written c.args.self.now) (kept_bytes c.args.self.now) number none

-- a message has begun
pub returns-clause-writes : goal.returns-clause-writes
returns-clause-writes g c number =
    let some : kept_bytes c.args.self.now ≢ [] =
    λ none. c.if-held-eq0.false (c.held.ensures.value ∙ ap length none) in
    ends_cut_off (messages_written c.args.self.now) (kept_bytes c.args.self.now) number some c.refuse.ensures.writes

-- nothing is written if nothing is held, and nothing fails
pub returns-then-held-eq0-clause-silent : goal.returns-then-held-eq0-clause-silent
returns-then-held-eq0-clause-silent g c number silent =
    let none = nil_from_length (kept_bytes c.args.self.now) (sym c.held.ensures.value ∙ c.if-held-eq0.true) in
    (ap Ok (sym (ends_silent (messages_written c.args.self.now) (kept_bytes c.args.self.now) number none)), refl)

-- a message that has begun is always reported
pub returns-clause-silent : goal.returns-clause-silent
returns-clause-silent g c number silent =
    let some : kept_bytes c.args.self.now ≢ [] =
    λ none. c.if-held-eq0.false (c.held.ensures.value ∙ ap length none) in
    absurd (ends_told (messages_written c.args.self.now) (kept_bytes c.args.self.now) number some silent)
