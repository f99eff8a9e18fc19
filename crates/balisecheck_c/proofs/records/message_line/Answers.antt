use Rattle.std.proofs.Common.{◌≡◌, Err, refl, ap}
use Rattle.etcs_radio.specs.declared.error.RadioTextError.{RadioTextError}
use Rattle.etcs_radio.specs.declared.error.RadioTextError.TheVariants as radio
use Rattle.balisecheck_c.specs.Records.{message_reason}
use Rattle.balisecheck_c.specs.declared.records.Unread.TheVariants.{Memory}
use Rattle.balisecheck_c.proofs.records.message_line.Goals as goal

-- only a lack of memory is reported as one
is_memory : (why : RadioTextError) → message_reason why ≡ Memory → why ≡ radio.Memory
is_memory radio.Memory lacks = refl
is_memory radio.NotHex lacks = cc
is_memory (radio.Fault f) lacks = cc

pub returns-in-Err-clause-memory : goal.returns-in-Err-clause-memory
returns-in-Err-clause-memory c f is lacks =
    let reason : message_reason c.in-Err.why ≡ Memory = cc in
    c.in-Err.ensures.packets (ap Err (is_memory c.in-Err.why reason))
