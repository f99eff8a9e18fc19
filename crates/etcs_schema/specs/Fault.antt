-- The fault of a value that is not the form of a record, and its path.
use Rattle.std.specs.Prelude.{◌≡◌, ℕ, List, [], ◌∷◌, map, Option, Some, None, Result, Ok, Err, IfSome, IsErrAnd}
use Rattle.etcs_schema.specs.declared.error.Step.{Step as CodeStep}
use Rattle.etcs_schema.specs.declared.error.Step.TheVariants as code
use Rattle.etcs_schema.specs.declared.error.FormError.{FormError}
use Rattle.etcs_schema.specs.declared.error.FormError.TheVariants as errors

-- the kind of fault
pub data Reason : Type 0 where
  Missing : Reason
  Unknown : Reason
  Kind : Reason
  Range : Reason

-- one step of the path to a value: a key of an object, or an index in a list
pub data Step : Type 0 where
  key : List ℕ → Step
  list_item : ℕ → Step

-- the kind of fault, and its path from the whole value inwards
pub record Fault : Type 0 where
  pub reason : Reason
  pub path : List Step

abbrev pub fault : Reason → List Step → Fault
fault reason path = record { reason = reason; path = path }

-- the value itself is at fault
abbrev pub here : Reason → Fault
here reason = fault reason []

-- the value at this step is at fault
abbrev pub at_once : Reason → Step → Fault
at_once reason step = fault reason (step ∷ [])

-- the same fault with this step in front of its path, as the enclosing value reports it
abbrev pub prefixed : Step → Fault → Fault
prefixed step f = fault f.reason (step ∷ f.path)

abbrev pub prefixed_result : {A : Type 0} → Step → Result A Fault → Result A Fault
prefixed_result step (Ok x) = Ok x
prefixed_result step (Err f) = Err (prefixed step f)

-- ---- the fault of an error

abbrev pub step_view : CodeStep → Step
step_view (code.Key name) = key name.now
step_view (code.Place i) = list_item i

abbrev pub error_fault : FormError → Option Fault
error_fault errors.Memory = None
error_fault (errors.Missing path) = Some (fault Missing (map step_view path.items))
error_fault (errors.Unknown path) = Some (fault Unknown (map step_view path.items))
error_fault (errors.Kind path) = Some (fault Kind (map step_view path.items))
error_fault (errors.Range path) = Some (fault Range (map step_view path.items))

-- the error is this fault, unless memory ran out
abbrev pub IsFault : FormError → Fault → Type 0
IsFault e f = IfSome (error_fault e) (λ g. g ≡ f)

-- reading ends in this error, unless memory ran out
abbrev pub ReturnsError : {Y : Type 0} → FormError → Result Y Fault → Type 0
ReturnsError e read = IfSome (error_fault e) (λ f. read ≡ Err f)

-- What a call returned, seen through `view`, is what reading gives, unless memory ran out.
abbrev pub Returns : {X Y : Type 0} → (X → Y) → Result X FormError → Result Y Fault → Type 0
Returns view (Ok x) read = read ≡ Ok (view x)
Returns view (Err e) read = ReturnsError e read

-- what must hold if the error is that memory ran out
abbrev pub OfMemory : FormError → Type 0 → Type 0
OfMemory errors.Memory P = P
OfMemory (errors.Missing path) P = Unit {0}
OfMemory (errors.Unknown path) P = Unit {0}
OfMemory (errors.Kind path) P = Unit {0}
OfMemory (errors.Range path) P = Unit {0}

-- what must hold if the call reports that memory ran out
abbrev pub IfMemory : {X : Type 0} → Result X FormError → Type 0 → Type 0
IfMemory (Ok x) P = Unit {0}
IfMemory (Err e) P = OfMemory e P

-- the first fault is the second one with this step in front of its path
abbrev pub IsPrefixedFault : Step → Fault → Option Fault → Type 0
IsPrefixedFault step f None = ⊥
IsPrefixedFault step f (Some g) = f ≡ prefixed step g

-- the outer error is the inner one with this step in front of its path, unless memory ran out
abbrev pub IsPrefixedError : Step → FormError → FormError → Type 0
IsPrefixedError step inner outer =
    IfSome (error_fault outer) (λ f. IsPrefixedFault step f (error_fault inner))

-- what a call returned, as the enclosing value reports it: the same value, or its fault with this step in
-- front
abbrev pub IsPrefixedResult : {X : Type 0} → Step → Result X FormError → Result X FormError → Type 0
IsPrefixedResult step (Ok x) outer = outer ≡ Ok x
IsPrefixedResult step (Err inner) outer = IsErrAnd outer (λ e. IsPrefixedError step inner e)
