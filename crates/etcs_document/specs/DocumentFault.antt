-- The faults of bytes that are not the document of a railway line. Groups, aspects, balises
-- and messages count from 0.
use Rattle.std.specs.Prelude.{◌≡◌, ℕ, Option, Some, None, Result, Ok, Err, IsSomeAnd}
use Rattle.etcs_schema.specs.Fault.{Fault, error_fault}
use Rattle.etcs_schema.specs.declared.error.FormError.{FormError}
use Rattle.etcs_schema.specs.declared.error.FormError.TheVariants as forms
use Rattle.etcs_document.specs.declared.line_error.LineError.{LineError}
use Rattle.etcs_document.specs.declared.line_error.LineError.TheVariants as errors
use Rattle.etcs_radio.specs.declared.error.RadioTextError.{RadioTextError}
use Rattle.etcs_radio.specs.declared.error.RadioTextError.TheVariants as radio
use Rattle.etcs_telegram.specs.declared.error.TextError.{TextError}
use Rattle.etcs_telegram.specs.declared.error.TextError.TheVariants as texts

-- the fault of the bytes
pub data DocumentFault : Type 0 where
  -- they are not JSON
  no_json : DocumentFault
  -- the value does not have the form of a line
  bad_form : Fault → DocumentFault
  -- this group has no balise, or more than eight
  bad_count : ℕ → DocumentFault
  -- this group has an empty list of aspects, or aspects with different numbers of balises
  bad_aspects : ℕ → DocumentFault
  -- the text of this balise, in this group, and in this aspect if it has aspects, is not a telegram
  bad_telegram : ℕ → Option ℕ → ℕ → TextError → DocumentFault
  -- the text of this message is not a message
  bad_message : ℕ → RadioTextError → DocumentFault

-- ---- the fault of an error

-- reading gives the fault that the error names; lack of memory names none, and is contained in no other
-- error
abbrev pub Fails : {Y : Type 0} → LineError → Result Y DocumentFault → Type 0
Fails errors.Memory reading = Unit {0}
Fails errors.NotJson reading = reading ≡ Err no_json
Fails (errors.Form e) reading = IsSomeAnd (error_fault e) (λ f. reading ≡ Err (bad_form f))
Fails (errors.Count g) reading = reading ≡ Err (bad_count g)
Fails (errors.Aspects g) reading = reading ≡ Err (bad_aspects g)
Fails (errors.Telegram g b texts.Memory) reading = ⊥
Fails (errors.Telegram g b e) reading = reading ≡ Err (bad_telegram g None b e)
Fails (errors.AspectTelegram g a b texts.Memory) reading = ⊥
Fails (errors.AspectTelegram g a b e) reading = reading ≡ Err (bad_telegram g (Some a) b e)
Fails (errors.Message m radio.Memory) reading = ⊥
Fails (errors.Message m e) reading = reading ≡ Err (bad_message m e)

-- the error of a document whose form has this error
abbrev pub IsOfForm : FormError → LineError → Type 0
IsOfForm forms.Memory e = e ≡ errors.Memory
IsOfForm form e = e ≡ errors.Form form

-- What a call returned, seen through `view`, is what reading gives, unless memory ran out.
abbrev pub Gives : {X Y : Type 0} → (X → Y) → Result X LineError → Result Y DocumentFault → Type 0
Gives view (Ok x) reading = reading ≡ Ok (view x)
Gives view (Err e) reading = Fails e reading
