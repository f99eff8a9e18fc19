-- What `encode` writes by the edition is what the program writes.
use Rattle.std.proofs.Common.{◌≡◌, ℕ, ◌⊎◌, Bool, true, false, List, ◌++◌, Option, Some, None, Result, Ok, Err, refl, sym, ap, ◌∙◌, subst, inl, inr}
use Rattle.std.specs.Option.{ok_or}
use Rattle.std.specs.Prelude.{codes, if◌then◌else◌}
use Rattle.std.specs.Str.{is_utf8}
use Rattle.std.specs.List.{AllByRecursion}
use Rattle.serde_json.specs.Data.{Data}
use Rattle.serde_json.specs.Read.{read as read_json}
use Rattle.etcs_document.specs.Document.{json_value}
use Rattle.etcs_document.specs.DocumentFault.{DocumentFault, no_json}
use Rattle.etcs_document.specs.Refusal.{line_words}
use Rattle.etcs_document.specs.declared.refusal.LineFault.TheVariants.{Json}
use Rattle.etcs_run.specs.FormLines.{encoded, or_fault, or_no_json, parsed_value, ◌then◌}
use Rattle.etcs_schema.specs.Codec.{Codec}
use Rattle.etcs_schema.specs.Fault.{Fault}
use Rattle.etcs_edition.specs.Wire.{Field, IsWritable}
use Rattle.etcs_edition.specs.EncodedLines.{IsEncodedLine}
use Rattle.etcs_edition.specs.Keys.{Reader}
use Rattle.etcs_edition.proofs.KeyLemmas.{Alike, Are, Both}

-- ---- what is read

abbrev pub found : {A : Type 0} → A → Result A Fault
found x = Ok x

abbrev refused : {A : Type 0} → Fault → Result A Fault
refused f = Err f

same_refused : {A : Type 0} (f g : Fault) → refused {A = A} f ≡ refused g → f ≡ g
same_refused f g is = cc

same_found : {A : Type 0} (x y : A) → found x ≡ found y → x ≡ y
same_found x y is = cc

-- fields that are read are those of the record that the codec reads, and can be written
abbrev Read : {X : Type 0} → (X → List Field) → Result (List Field) Fault → X → Type 0
Read f r x = (r ≡ Ok (f x)) × AllByRecursion IsWritable (f x)

pub record_read : {X : Type 0} (f : X → List Field) (r : Result (List Field) Fault) (s : Result X Fault) (x : X)
    → Both (Are f) r s → s ≡ Ok x → Read f r x
record_read f (Ok fs) (Ok y) x both is =
    let fields = both.0 ∙ ap f (same_found y x is) in
    (ap found fields, subst (AllByRecursion IsWritable) fields both.1)
record_read f (Err e) (Err h) x both is = absurd cc
record_read f (Ok fs) (Err h) x both is = absurd both
record_read f (Err e) (Ok y) x both is = absurd both

pub read_record : {X : Type 0} (f : X → List Field) (r : Result (List Field) Fault) (s : Result X Fault) (fs : List Field)
    → Both (Are f) r s → r ≡ Ok fs → (y : X) × (s ≡ Ok y) × (fs ≡ f y)
read_record f (Ok gs) (Ok y) fs both is = (y, refl, sym (same_found gs fs is) ∙ both.0)
read_record f (Err e) (Err h) fs both is = absurd cc
read_record f (Ok gs) (Err h) fs both is = absurd both
read_record f (Err e) (Ok y) fs both is = absurd both

pub fault_read : {X : Type 0} (f : X → List Field) (r : Result (List Field) Fault) (s : Result X Fault) (e : Fault)
    → Both (Are f) r s → s ≡ Err e → r ≡ Err e
fault_read f (Err g) (Err h) e both is = ap refused (both ∙ same_refused h e is)
fault_read f (Ok fs) (Ok y) e both is = absurd cc
fault_read f (Ok fs) (Err h) e both is = absurd both
fault_read f (Err g) (Ok y) e both is = absurd both

pub read_fault : {X : Type 0} (f : X → List Field) (r : Result (List Field) Fault) (s : Result X Fault) (e : Fault)
    → Both (Are f) r s → r ≡ Err e → s ≡ Err e
read_fault f (Err g) (Err h) e both is = ap refused (sym both ∙ same_refused g e is)
read_fault f (Ok fs) (Ok y) e both is = absurd cc
read_fault f (Ok fs) (Err h) e both is = absurd both
read_fault f (Err g) (Ok y) e both is = absurd both

-- ---- the JSON value of a line

abbrev value_of : Bool → Option Data → Result Data DocumentFault
value_of b o = if b then ok_or o no_json else Err no_json

abbrev parsed_of : Bool → Option Data → Result Data (List ℕ)
parsed_of b o = if b then or_no_json o else Err (line_words Json)

parsed_by : (b : Bool) (o : Option Data) (d : Data) → value_of b o ≡ Ok d → parsed_of b o ≡ Ok d
parsed_by true (Some e) d is = ap Ok (same_value e d is)
  where
    same_value : (x y : Data) → value_of true (Some x) ≡ Ok y → x ≡ y
    same_value x y is = cc
parsed_by true None d is = absurd cc
parsed_by false o d is = absurd cc

parsed : (line : List ℕ) (d : Data) → json_value line ≡ Ok d → parsed_value line ≡ Ok d
unfolding json_value parsed_value
parsed line d is = parsed_by (is_utf8 line) (read_json line) d is

unparsed_by : (b : Bool) (o : Option Data) → value_of b o ≡ Err no_json → parsed_of b o ≡ Err (line_words Json)
unparsed_by true (Some e) is = absurd cc
unparsed_by true None is = refl
unparsed_by false o is = refl

unparsed : (line : List ℕ) → json_value line ≡ Err no_json → parsed_value line ≡ Err (line_words Json)
unfolding json_value parsed_value
unparsed line is = unparsed_by (is_utf8 line) (read_json line) is

-- a value, or none
value_by : (b : Bool) (o : Option Data) → ((d : Data) × (value_of b o ≡ Ok d)) ⊎ (value_of b o ≡ Err no_json)
value_by true (Some d) = inl (d, refl)
value_by true None = inr refl
value_by false o = inr refl

value : (line : List ℕ) → ((d : Data) × (json_value line ≡ Ok d)) ⊎ (json_value line ≡ Err no_json)
unfolding json_value
value line = value_by (is_utf8 line) (read_json line)

-- ---- a line of either command

module _ {X : Type 0} (codec : Codec X) (text_line : X → Result (List ℕ) (List ℕ)) (read : Reader) (f : X → List Field)
    (IsWritten : X → List ℕ → Type 0) (IsBig : X → Type 0) (same : Alike (Are f) read codec.of)
    (written : (d : Data) (x y : X) (digits : List ℕ) → codec.of d ≡ Ok y → f x ≡ f y → AllByRecursion IsWritable (f y)
    → IsWritten x digits → text_line y ≡ Ok (digits ++ codes "\n"))
    (big : (x y : X) → f x ≡ f y → IsBig x → text_line y ≡ Err (codes "too big"))
    (ends : (d : Data) (y : X) → codec.of d ≡ Ok y → AllByRecursion IsWritable (f y)
    → ((digits : List ℕ) × IsWritten y digits) ⊎ IsBig y) where
  abbrev IsLine : List ℕ → Result (List ℕ) (List ℕ) → Type 0
  IsLine = IsEncodedLine read f IsWritten IsBig

  ends_by : (line : List ℕ) (d : Data) (y : X) → json_value line ≡ Ok d → codec.of d ≡ Ok y
      → ((digits : List ℕ) × IsWritten y digits) ⊎ IsBig y → IsLine line (text_line y)
  ends_by line d y there is (inl w) =
      let x = record_read f (read d) (codec.of d) y (same d) is in
      rw (written d y y w.0 is refl x.1 w.1) (d, there, y, x.0, w.0, w.1, refl)
  ends_by line d y there is (inr too_big) =
      let x = record_read f (read d) (codec.of d) y (same d) is in
      rw (big y y refl too_big) (inr (d, there, inr (y, x.0, too_big, refl)))

  record_by : (line : List ℕ) (d : Data) (s : Result X Fault) → json_value line ≡ Ok d → codec.of d ≡ s
      → IsLine line (or_fault s then text_line)
  record_by line d (Ok y) there is =
      ends_by line d y there is (ends d y is (record_read f (read d) (codec.of d) y (same d) is).1)
  record_by line d (Err e) there is =
      inr (d, there, inl (e, fault_read f (read d) (codec.of d) e (same d) is, refl))

  line_by : (line : List ℕ) → ((d : Data) × (json_value line ≡ Ok d)) ⊎ (json_value line ≡ Err no_json)
      → IsLine line (encoded codec text_line line)
  unfolding encoded line_words
  line_by line (inl v) = rw (parsed line v.0 v.1) (record_by line v.0 (codec.of v.0) v.1 refl)
  line_by line (inr none) = rw (unparsed line none) (inl (none, refl))

  pub is_encoded : (line : List ℕ) → IsLine line (encoded codec text_line line)
  is_encoded line = line_by line (value line)

  pub encoded_is : (line : List ℕ) (r : Result (List ℕ) (List ℕ)) → IsLine line r → r ≡ encoded codec text_line line
  unfolding encoded line_words
  encoded_is line (Ok text) (d, there, x, is, digits, w, text_is) =
      let y = read_record f (read d) (codec.of d) (f x) (same d) is in
      let all = (record_read f (read d) (codec.of d) y.0 (same d) y.1).1 in
      rw (parsed line d there, y.1) (ap Ok text_is ∙ sym (written d x y.0 digits y.1 y.2 all w))
  encoded_is line (Err words) (inl (none, is)) = rw (unparsed line none) (ap Err is)
  encoded_is line (Err words) (inr (d, there, inl (e, fault, is))) =
      rw (parsed line d there, read_fault f (read d) (codec.of d) e (same d) fault) (ap Err is)
  encoded_is line (Err words) (inr (d, there, inr (x, read_as, too_big, is))) =
      let y = read_record f (read d) (codec.of d) (f x) (same d) read_as in
      rw (parsed line d there, y.1) (ap Err is ∙ sym (big x y.0 y.2 too_big))
