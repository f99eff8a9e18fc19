-- What a call returns for an output, which is a text and a status: the text at the front of the buffer, the
-- length of the text, and the exit status of the program. A text that does not fit is left out. If memory
-- runs out there is no text. A call for the length has no buffer, so its answer cannot depend on one.
use Rattle.std.specs.Prelude.{◌≡◌, ◌<◌, ◌≤◌, ◌++◌, ◌⊎◌, ℕ, List, length, drop}
use Rattle.etcs_run.specs.Output.{Output}
use Rattle.etcs_run.specs.declared.status.Status.{Status}
use Rattle.etcs_run.specs.declared.status.Status.TheVariants.{Done, Findings, Refused}

-- the exit status of the program
abbrev pub exit_status : Status → ℕ
exit_status Done = 0
exit_status Findings = 1
exit_status Refused = 2

-- the statuses of a call that returns no text, because memory ran out, or because the buffer is too small
abbrev pub memory_status : ℕ
memory_status = 3

abbrev pub capacity_status : ℕ
capacity_status = 4

-- Memory ran out. There is no text, and the buffer is unchanged.
pub record IsOutOfMemory (old new : List ℕ) (count result : ℕ) : Type 0 where
  pub status : result ≡ memory_status
  pub empty : count ≡ 0
  pub kept : new ≡ old

-- The length of the text was returned. If the text fits, it is at the front of the buffer, and what was
-- behind it is unchanged. Otherwise the buffer is unchanged.
pub record IsPut (output : Output) (old new : List ℕ) (count result : ℕ) : Type 0 where
  pub counted : count ≡ length output.0
  pub fits : length output.0 ≤ length old
      → (result ≡ exit_status output.1) × (new ≡ output.0 ++ drop (length output.0) old)
  pub too_small : length old < length output.0 → (result ≡ capacity_status) × (new ≡ old)

-- the output was put into the buffer, unless memory ran out
abbrev pub IsAnswer : Output → List ℕ → List ℕ → ℕ → ℕ → Type 0
IsAnswer output old new count result = IsOutOfMemory old new count result ⊎ IsPut output old new count result

-- the length of the text was returned, with the exit status of the program
pub record IsCounted (output : Output) (count result : ℕ) : Type 0 where
  pub counted : count ≡ length output.0
  pub status : result ≡ exit_status output.1

-- the length of the output's text was returned, unless memory ran out
abbrev pub IsLength : Output → ℕ → ℕ → Type 0
IsLength output count result = ((result ≡ memory_status) × (count ≡ 0)) ⊎ IsCounted output count result
