-- Where reading a part of a packet ran out of memory, the packet grows.
use Rattle.std.proofs.Common.{◌≡◌, Bool, true, false, Result, Ok, Err}
use Rattle.etcs_bits.specs.declared.layout.fault.DecodeError.{DecodeError}
use Rattle.etcs_bits.specs.declared.layout.fault.DecodeError.TheVariants as errors
use Rattle.etcs_bits.specs.layout.Rows.{Place}
use Rattle.etcs_bits.specs.layout.Results.{IfMemory}
use Rattle.etcs_profile.specs.Growth.{grows_if}

-- what follows from a reason to ask for memory
pub memory_follows : {X P Q : Type 0} (r : Result X DecodeError) → (P → Q) → IfMemory r P → IfMemory r Q
memory_follows (Ok x) follows reason = tt
memory_follows (Err errors.Memory) follows reason = follows reason
memory_follows (Err (errors.Fault f)) follows reason = tt

-- where there is a reason anyway
pub if_memory : {X P : Type 0} (r : Result X DecodeError) → P → IfMemory r P
if_memory (Ok x) reason = tt
if_memory (Err errors.Memory) reason = reason
if_memory (Err (errors.Fault f)) reason = tt

-- what a test chooses
pub grows_then : (test : Bool) (Grows Other : Place → Type 0) (p : Place)
    → test ≡ true → Grows p → grows_if test Grows Other p
grows_then true Grows Other p is grows = grows
grows_then false Grows Other p is grows = absurd cc

pub grows_else : (test : Bool) (Grows Other : Place → Type 0) (p : Place)
    → test ≡ false → Other p → grows_if test Grows Other p
grows_else true Grows Other p is grows = absurd cc
grows_else false Grows Other p is grows = grows
