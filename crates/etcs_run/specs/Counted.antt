-- A reader or writer whose failed calls and flushes are counted: its counts and its budget, and what each
-- call does to them. A read counts as failed if the budget does not suffice for it. A write counts as failed
-- if it takes none of the bytes that it was given.
use Rattle.std.specs.Prelude.{◌≡◌, ◌<◌, ◌+◌, ◌-◌, ◌^◌, ℕ, Bool, min, Result, MatchResult}
use Rattle.etcs_run.specs.declared.counted.Counted.{Counted}

-- the number of failed calls
abbrev pub failure_count : {T : Type 0} → Counted T → ℕ
failure_count counted = counted.failures

-- the remaining budget, in bytes of the buffers that are passed to reads
abbrev pub read_budget : {T : Type 0} → Counted T → ℕ
read_budget counted = counted.budget

-- the number of flushes that succeeded
abbrev pub flush_count : {T : Type 0} → Counted T → ℕ
flush_count counted = counted.flushes

-- whether everything written has been flushed
abbrev pub is_flushed : {T : Type 0} → Counted T → Bool
is_flushed counted = counted.is_flushed

-- the reader or writer that is counted
abbrev pub wrapped : {T : Type 0} → Counted T → T
wrapped counted = counted.inner

-- one more failure can still be counted
abbrev pub CanCount : {T : Type 0} → Counted T → Type 0
CanCount counted = failure_count counted < 2 ^ 64 - 1

-- no call has failed in between
abbrev pub CountsNone : {T : Type 0} → Counted T → Counted T → Type 0
CountsNone old new = failure_count new ≡ failure_count old

-- one call has failed in between
abbrev pub CountsOne : {T : Type 0} → Counted T → Counted T → Type 0
CountsOne old new = failure_count new ≡ failure_count old + 1

-- a failed call adds one, up to the type's greatest value, and no other call adds any
abbrev pub CountsFailure : {X E : Type 0} → ℕ → ℕ → Result X E → Type 0
CountsFailure old new result =
    MatchResult result (λ _. new ≡ old) (λ _. new ≡ min (old + 1) (2 ^ 64 - 1))

-- a flush that succeeds adds one, up to the type's greatest value, and a failed one adds none
abbrev pub CountsFlush : {X E : Type 0} → ℕ → ℕ → Result X E → Type 0
CountsFlush old new result =
    MatchResult result (λ _. new ≡ min (old + 1) (2 ^ 64 - 1)) (λ _. new ≡ old)

-- nothing has been flushed in between
abbrev pub FlushesNone : {T : Type 0} → Counted T → Counted T → Type 0
FlushesNone old new = flush_count new ≡ flush_count old
