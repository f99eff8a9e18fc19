-- Items that are read one after the other and passed to a sink: a list that keeps them, or a checker of lines.
use Rattle.std.specs.Prelude.{◌≡◌, List, [], ◌∷◌, Result, Ok, Err}
use Rattle.etcs_document.specs.DocumentFault.{DocumentFault, Fails}
use Rattle.etcs_document.specs.declared.line_error.LineError.{LineError}

-- A sink takes these items one after the other, and its state changes from the first to the second.
abbrev pub TakesEach : {S X : Type 0} → (S → X → S → Type 0) → S → List X → S → Type 0
TakesEach Takes was [] is = was ≡ is
TakesEach {S = S} Takes was (x ∷ xs) is = (next : S) × Takes was x next × TakesEach Takes next xs is

-- Some items are read, and a sink takes them.
pub record AreTaken {S X : Type 0} (AreRead : List X → Type 0) (Takes : S → X → S → Type 0)
    (was is : S) : Type 0 where
  pub items : List X
  pub read : AreRead items
  pub takes : TakesEach Takes was items is

-- A call passed what reading gives to a sink, or returned the fault that reading gives, unless memory ran out.
abbrev pub ReadsEach : {S X U : Type 0} → (S → X → S → Type 0) → Result U LineError
    → Result (List X) DocumentFault → S → S → Type 0
ReadsEach Takes (Ok u) reading was is = AreTaken (λ xs. reading ≡ Ok xs) Takes was is
ReadsEach Takes (Err e) reading was is = Fails e reading
