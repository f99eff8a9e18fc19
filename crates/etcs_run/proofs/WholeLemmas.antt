-- Reading an input to its end, and what is then written for it.
use Rattle.std.proofs.Common.{◌≡◌, ◌∙◌, ◌++◌, ℕ, true, false, List, [], Option, Result, Ok, Err, IfErr, OnErr, OnOk, refl, sym, ap, subst, arith}
use Rattle.std.proofs.lemmas.List.{append-nil}
use Rattle.std.specs.Io.KnownBytes.{Consumes}
use Rattle.etcs_run.specs.Counted.{CountsNone}
use Rattle.etcs_run.specs.LineReading.{CountsDevice}
use Rattle.etcs_run.specs.Output.{Output}
use Rattle.etcs_run.specs.Ran.{IsOutputSoFar, Ran, Writes}
use Rattle.etcs_run.specs.WholeInput.{ReadsMore, ReadsAllInput}
use Rattle.etcs_run.specs.declared.counted.Counted.{Counted}
use Rattle.etcs_run.specs.declared.error.RunError.{RunError}
use Rattle.etcs_run.specs.declared.error.RunError.TheVariants.{Memory, Device}
use Rattle.etcs_run.specs.declared.status.Status.{Status}
use Rattle.etcs_run.proofs.StreamLemmas.{Appends-none, Consumes-then}

-- a read failed, or the input did not fit in memory
pub Whole-failed : {X : Type 0} {items : X → List ℕ} {r0 r r1 : Option (List ℕ)} {input now : List ℕ}
    {e : RunError} (x : RunError) → Consumes r0 r input → ReadsMore r r1 input now (Err e)
    → ReadsAllInput items r0 r1 (Err x)
Whole-failed {r0} {r} {r1} {input} x first more = record {
  bytes = input ++ more.bytes;
  consumed = Consumes-then r0 r r1 input more.bytes first more.consumed;
  whole = tt;
}

-- the run stopped before anything was written
pub Ran-unwritten : {X : Type 0} {items : X → List ℕ} {r0 r1 c : Option (List ℕ)} {output : List ℕ → Output}
    {input : Result X RunError} (e : RunError) → ReadsAllInput items r0 r1 input → Ran r0 r1 c c output (Err e)
Ran-unwritten {c} {output} e read = record {
  bytes = read.bytes;
  consumed = read.consumed;
  ended = false;
  met = λ h. cc;
  text = [];
  appended = Appends-none c;
  says = λ rest may. ((output (read.bytes ++ rest)).0, refl);
}

-- the whole input was read, and its output was written, or a beginning of it
pub Ran-whole : {X : Type 0} {items : X → List ℕ} {r0 r1 c c1 : Option (List ℕ)} {output : List ℕ → Output}
    {input : X} {given : Output} {result : Result Status RunError} → ReadsAllInput items r0 r1 (Ok input)
    → given ≡ output (items input) → Writes c c1 given result → Ran r0 r1 c c1 output result
Ran-whole {output} {result} read is writes = record {
  bytes = read.bytes;
  consumed = read.consumed;
  ended = true;
  met = λ h. read.whole.1;
  text = writes.text;
  appended = writes.appended;
  says = λ rest may.
      let same : output (read.bytes ++ rest) ≡ output read.bytes =
      ap (λ s. output (read.bytes ++ s)) (may refl) ∙ ap output (append-nil read.bytes) in
      let P : Output → Type 0 = IsOutputSoFar result writes.text in
      subst P (is ∙ ap output read.whole.0 ∙ sym same) writes.says;
}

-- what holds anyway holds of an Ok
pub on_ok_anyway : {X E P : Type 0} (result : Result X E) → P → OnOk result P
on_ok_anyway (Ok x) holds = holds
on_ok_anyway (Err e) holds = tt

-- if only a device can fail, and no failure was counted, nothing has failed
pub not_failed : {X T : Type 0} (P : Type 0) (result : Result X RunError) (old new : Counted T)
    → IfErr result (λ e. e ≡ Device) → CountsDevice result old new → OnErr result (CountsNone old new → P)
not_failed P (Ok x) old new device counts = tt
not_failed P (Err Memory) old new device counts = cc device
not_failed P (Err Device) old new device counts = λ none. absurd (omega (arith, none, counts))
