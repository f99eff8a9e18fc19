-- What contracts say of reading and writing a record.
use Rattle.std.specs.Prelude.{◌≡◌, ◌++◌, List, Bool, length, take, Result, Ok, Err}
use Rattle.etcs_bits.specs.declared.layout.fault.Fault.{Fault}
use Rattle.etcs_bits.specs.declared.layout.fault.DecodeError.{DecodeError}
use Rattle.etcs_bits.specs.declared.layout.fault.DecodeError.TheVariants as errors
use Rattle.etcs_bits.specs.layout.Rows.{Place}

-- the error is that memory ran out, or the fault that reading gives
abbrev pub Fails : {Y : Type 0} → DecodeError → Result Y Fault → Type 0
Fails errors.Memory read = Unit {0}
Fails (errors.Fault f) read = read ≡ Err f

-- The value that a function returns, seen by `view`, and the place after it are what reading gives,
-- unless memory ran out.
abbrev pub Gives : {X Y : Type 0}
    → (X → Y) → Result X DecodeError → Result (Y × Place) Fault → Place → Type 0
Gives view (Ok x) read after = read ≡ Ok (view x, after)
Gives view (Err e) read after = Fails e read

-- The value that a function returns, seen by `view`, is what the bits mean, unless memory ran out.
abbrev pub Means : {X Y : Type 0} → (X → Y) → Result X DecodeError → Result Y Fault → Type 0
Means view (Ok x) meaning = meaning ≡ Ok (view x)
Means view (Err e) meaning = Fails e meaning

-- a fact of the fault, if the error is a fault
abbrev pub OfFault : DecodeError → (Fault → Type 0) → Type 0
OfFault errors.Memory P = Unit {0}
OfFault (errors.Fault f) P = P f

-- a fact of the fault, if the call returned one
abbrev pub IfFault : {X : Type 0} → Result X DecodeError → (Fault → Type 0) → Type 0
IfFault (Ok x) P = Unit {0}
IfFault (Err e) P = OfFault e P

-- What has to hold if the call answers that memory ran out.
abbrev pub OfMemory : DecodeError → Type 0 → Type 0
OfMemory errors.Memory P = P
OfMemory (errors.Fault f) P = Unit {0}

abbrev pub IfMemory : {X : Type 0} → Result X DecodeError → Type 0 → Type 0
IfMemory (Ok x) P = Unit {0}
IfMemory (Err e) P = OfMemory e P

-- the bits are appended; if memory ran out, perhaps only a part of them
abbrev pub Puts : {X E : Type 0} → List Bool → Result X E → List Bool → List Bool → Type 0
Puts bits (Ok x) old new = new ≡ old ++ bits
Puts bits (Err e) old new = take (length old) new ≡ old
