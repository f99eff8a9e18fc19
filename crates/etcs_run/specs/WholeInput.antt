-- Reading an input to its end.
use Rattle.std.specs.Prelude.{◌≡◌, ◌++◌, ℕ, Bool, true, false, List, Option, Result, Ok, Err}
use Rattle.std.specs.Io.KnownBytes.{Consumes, IsAtEnd}
use Rattle.etcs_run.specs.declared.error.RunError.{RunError}

-- the bytes that were read are appended to the bytes before; there are none if the end was met
abbrev pub IsAppended : Result Bool RunError → List ℕ → List ℕ → List ℕ → Option (List ℕ) → Type 0
IsAppended (Ok true) before bytes after remaining = after ≡ before ++ bytes
IsAppended (Ok false) before bytes after remaining = (after ≡ before ++ bytes) × IsAtEnd remaining
IsAppended (Err _) before bytes after remaining = Unit {0}

-- These bytes were read and appended to the bytes before, or the end was met.
pub record ReadsMore (remaining_old remaining_new : Option (List ℕ)) (before after : List ℕ)
    (result : Result Bool RunError) : Type 0 where
  pub bytes : List ℕ
  pub consumed : Consumes remaining_old remaining_new bytes
  pub appended : IsAppended result before bytes after remaining_new

-- what was returned is the whole input: none of it remains
abbrev pub IsAllInput : {X : Type 0} → (X → List ℕ) → Result X RunError → List ℕ → Option (List ℕ) → Type 0
IsAllInput items (Ok input) bytes remaining = (items input ≡ bytes) × IsAtEnd remaining
IsAllInput items (Err _) bytes remaining = Unit {0}

-- These bytes were read. Without an error they are the whole input.
pub record ReadsAllInput {X : Type 0} (items : X → List ℕ) (remaining_old remaining_new : Option (List ℕ))
    (result : Result X RunError) : Type 0 where
  pub bytes : List ℕ
  pub consumed : Consumes remaining_old remaining_new bytes
  pub whole : IsAllInput items result bytes remaining_new
