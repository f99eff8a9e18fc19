-- The layout of a record as one value, and how layouts are made of others (SUBSET-026, 7.4). One
-- expression describes a record, and reads as its table in the standard.
use Rattle.std.specs.Prelude.{◌≡◌, ℕ, ◌+◌, ◌-◌, ◌==◌, ◌⊎◌, Bool, true, false, List, [], ◌∷◌, ◌++◌, length, Option, drop, refl}
use Rattle.std.proofs.Common.{ap, ◌∙◌}
use Rattle.etcs_bits.specs.declared.layout.fault.FaultKind.{FaultKind}
use Rattle.etcs_bits.specs.bits.Number.{worth, num_of_bits}
use Rattle.etcs_bits.specs.layout.Rows.{Variable, Row, row, AreAllowed, alone}
use Rattle.etcs_bits.specs.layout.Found.{row_number, either_value, pair_value, option_value, counted_values, body_value, kept_value}
use Rattle.etcs_bits.specs.layout.Fields.{Fields, nothing, one, field, ◌▹◌, sized, option, counted}
use Rattle.etcs_bits.specs.variables.Variables.{plain, free, only, ranged}
use Rattle.etcs_bits.specs.variables.VariableValues.{flag_value}
use Rattle.etcs_bits.specs.layout.Values.{HasValues}
use Rattle.etcs_bits.specs.layout.Laid.{IsLayout}
use Rattle.etcs_bits.specs.layout.Struct.{Struct}
use Rattle.etcs_bits.specs.layout.Choice.{Choice, either_allows, either_next, either_number, either_rows}
use Rattle.etcs_bits.specs.layout.Combined.{qualifier, n_iter, pair_rows, option_rows, counted_rows, body_rows, l_kept}
use Rattle.etcs_bits.specs.lemmas.ChoiceLemmas.{is_itself, last_value, others_value, either_is_number, either_are_rows, either_is_value, either_has_value, chosen_laid}
use Rattle.etcs_bits.specs.lemmas.VariableLemmas.{flags_have_values}
use Rattle.etcs_bits.specs.lemmas.CombinedLemmas.{pair_laid, option_laid, counted_laid, body_laid, kept_laid}
use Rattle.etcs_bits.specs.lemmas.LaidLemmas.{alone_laid, empty_laid, only_laid, named_laid, parted_laid}

-- the table of fields, the rows of a record, the record of rows, and the proof that these agree
pub record Format (X : Type 0) : Type 0 where
  pub fields : Fields
  pub rows : X → List Row
  pub of : List Row → X
  pub laid : IsLayout fields rows of

-- ---- one variable

-- a variable, seen as its number
abbrev pub variable : Variable → Format ℕ
variable x = record { fields = one x; rows = alone x; of = row_number 0; laid = alone_laid x }

-- a number of w bits without a spare one
abbrev pub number : ℕ → Format ℕ
number w = variable (plain w)

-- a number of w bits, up to `last` or at least `from`; the numbers between are spare. Where `from` needs
-- more than w bits, all numbers above `last` are spare.
abbrev pub ranges : ℕ → ℕ → ℕ → Format ℕ
ranges w last from = variable (ranged w last from)

-- a variable whose numbers have names
abbrev pub names : {X : Type 0} (x : Variable) (w : ℕ) (number : X → ℕ) (of : ℕ → X)
    → HasValues x w number of → Format X
names x w number of values = record {
  fields = one x;
  rows = λ v. alone x (number v);
  of = λ r. of (row_number 0 r);
  laid = named_laid values;
}

-- a flag of one bit: 1 is true
abbrev pub flag : Format Bool
flag = names (plain 1) 1 worth flag_value flags_have_values

-- the number k of w bits, the only one that is read: it carries no information
abbrev pub fixed : ℕ → ℕ → FaultKind → Format (Unit {0})
fixed w k why = record {
  fields = one (only w k why);
  rows = λ _. alone (only w k why) k;
  of = λ _. tt;
  laid = only_laid w k why tt (λ _. refl);
}

-- nothing, which carries no information either
abbrev pub empty : Format (Unit {0})
empty = record { fields = nothing; rows = λ _. []; of = λ _. tt; laid = empty_laid }

-- ---- records made of others

infixr 5 ◌then◌
-- a record, and another one after it
abbrev pub ◌then◌ : {A B : Type 0} → Format A → Format B → Format (A × B)
a then b = record {
  fields = a.fields ▹ b.fields;
  rows = pair_rows a.rows b.rows;
  of = pair_value a.fields a.of b.of;
  laid = pair_laid a.laid b.laid;
}

-- a qualifier of one bit, such as Q_OVERLAP, and the record if the qualifier is 1
abbrev pub if_there : {A : Type 0} → Format A → Format (Option A)
if_there a = record {
  fields = option qualifier a.fields;
  rows = option_rows a.rows;
  of = option_value a.of;
  laid = option_laid a.laid;
}

-- N_ITER, and that many records
abbrev pub several : {A : Type 0} → Format A → Format (List A)
several a = record {
  fields = counted n_iter a.fields;
  rows = counted_rows a.rows;
  of = counted_values a.fields a.of;
  laid = counted_laid a.laid;
}

-- L_PACKET and the record; L_PACKET counts the `before` bits ahead of it, its own and the record's
abbrev pub behind_length : {A : Type 0} → ℕ → Format A → Format A
behind_length before a = record {
  fields = sized before a.fields;
  rows = body_rows before a.rows;
  of = body_value a.of;
  laid = body_laid before a.laid;
}

-- L_PACKET, and bits that are kept as they are; L_PACKET counts the `before` bits ahead of it too
abbrev pub kept_bits : ℕ → Format (List Bool)
kept_bits before = record {
  fields = field (l_kept before) (λ l. one (free (l - (before + 13))));
  rows =
      λ bits. row (l_kept before) (before + 13 + length bits)
      ∷ row (free (length bits)) (num_of_bits bits) ∷ [];
  of = kept_value before;
  laid = kept_laid before;
}

-- ---- sums

-- only the number k, and this record
abbrev pub last : {A : Type 0} → ℕ → Format A → Choice A
last k a = record {
  allows = λ n. n == k;
  next = λ _. a.fields;
  number = λ _. k;
  rows = a.rows;
  of = λ _ rows. a.of rows;
  is_number = λ _. is_itself k;
  are_rows = a.laid.are_rows;
  is_value = a.laid.is_record;
  has_value = last_value a.laid k;
}

-- the number k and this record, or another number, which is not k, and that number's record
abbrev pub either : {A B : Type 0} (k : ℕ) → Format A → (c : Choice B) → c.allows k ≡ false → Choice (A ⊎ B)
either k a c fresh = record {
  allows = either_allows k c.allows;
  next = either_next k a.fields c.next;
  number = either_number k c.number;
  rows = either_rows a.rows c.rows;
  of = either_value k a.of c.of;
  is_number = either_is_number k c fresh;
  are_rows = either_are_rows k a.laid c fresh;
  is_value = either_is_value k a.laid c fresh;
  has_value = either_has_value k a.laid c;
}

-- every number that passes the test, and this record. A value has its number and the parts of the
-- record, and is made of these.
abbrev pub others : {X A : Type 0} (test : ℕ → Bool)
    (a : Format A) (number : X → ℕ) (parts : X → A) (make : ℕ → A → X)
    → ((x : X) → test (number x) ≡ true) → ((x : X) → make (number x) (parts x) ≡ x)
    → ((n : ℕ) (p : A) → test n ≡ true → AreAllowed (a.rows p)
    → (number (make n p) ≡ n) × (parts (make n p) ≡ p)) → Choice X
others test a number parts make is_number again back = record {
  allows = test;
  next = λ _. a.fields;
  number = number;
  rows = λ x. a.rows (parts x);
  of = λ n rows. make n (a.of rows);
  is_number = is_number;
  are_rows = λ x. a.laid.are_rows (parts x);
  is_value = λ x. ap (make (number x)) (a.laid.is_record (parts x)) ∙ again x;
  has_value = others_value number parts make a.laid back;
}

-- a variable with the numbers of a choice, and the record that its number decides
abbrev pub chosen : {X : Type 0} (x : Variable) (c : Choice X)
    → ((n : ℕ) → x.allows n ≡ c.allows n) → Format X
chosen x c same = record {
  fields = field x c.next;
  rows = λ v. alone x (c.number v) ++ c.rows v;
  of = λ rows. c.of (row_number 0 rows) (drop 1 rows);
  laid = chosen_laid x c same;
}

-- ---- another type

-- The layout of `a` for another type, such as a struct instead of pairs. `make` and `parts` turn each
-- type into the other, and are inverse.
abbrev pub named : {X Y : Type 0} → Format X → (make : X → Y) (parts : Y → X)
    → ((x : X) → parts (make x) ≡ x) → ((y : Y) → make (parts y) ≡ y) → Format Y
named a make parts back again = record {
  fields = a.fields;
  rows = λ y. a.rows (parts y);
  of = λ r. make (a.of r);
  laid = parted_laid make parts back again a.laid;
}

-- the layout of a struct by that of its parts
abbrev pub struct : {P S : Type 0} → Struct P S → Format P → Format S
struct s a = named a s.make s.parts s.back s.again

infixr 5 ◌before◌
-- a record that carries no information, such as a fixed number, and the one after it
abbrev pub ◌before◌ : {A : Type 0} → Format (Unit {0}) → Format A → Format A
a before b = named (a then b) (λ p. p.1) (λ p. (tt, p)) (λ _. refl) (λ _. refl)
