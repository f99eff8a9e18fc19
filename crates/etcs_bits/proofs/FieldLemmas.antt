-- One field: what is read of it is spelled there, and what is spelled there is read.
use Rattle.std.specs.Prelude.{◌↔◌}
use Rattle.std.proofs.Common.{◌≡◌, ◌≤◌, ℕ, Bool, List, length, Result, Ok, Err, refl, sym, subst}
use Rattle.std.proofs.lemmas.List.{append-nil}
use Rattle.etcs_bits.specs.declared.layout.fault.Fault.{Fault}
use Rattle.etcs_bits.specs.bits.Number.{num}
use Rattle.etcs_bits.specs.layout.Rows.{Variable, Place, Stands, IsSpelled, alone}
use Rattle.etcs_bits.specs.layout.Fields.{due}
use Rattle.etcs_bits.specs.layout.Fault.{IsDueFault}
use Rattle.etcs_bits.specs.layout.Reading.{◌>>=◌, taken, read_field}
use Rattle.etcs_bits.specs.variables.Variables.{free}
use Rattle.etcs_bits.proofs.ReadingLemmas.{field_ok, field_again, field_err}
use Rattle.etcs_bits.proofs.FaultLemmas.{field_fault_is_given}

-- a number is read exactly if it is spelled there
pub field_is_read : (x : Variable) (p q : Place) (n : ℕ) → p.at ≤ length p.bits
    → IsSpelled (alone x n) p q ↔ (read_field x p ≡ Ok (n, q))
unfolding alone
field_is_read x p q n within =
    let Here : List Bool → Type 0 = λ bits. Stands bits p q in (
      λ spelled. field_again x n p q spelled.allowed.0.0 spelled.allowed.0.1 within
          (subst Here (append-nil (num x.width n)) spelled.stands),
      λ read.
          let field = field_ok x p (n, q) read in
          record {
            allowed = ((field.took.small, field.allowed), tt);
            stands = subst Here (sym (append-nil (num x.width n))) field.took.stands;
          },
    )

-- a fault is read exactly if the field has it
pub field_fault_is_read : (x : Variable) (p : Place) (f : Fault) → p.at ≤ length p.bits
    → IsDueFault (due x) p f ↔ (read_field x p ≡ Err f)
field_fault_is_read x p f within = (field_fault_is_given x p f within, field_err x p f within)

-- a last step that changes nothing
same_after : {A : Type 0} (r : Result A Fault) → r ≡ (r >>= λ x. Ok x)
same_after (Ok x) = refl
same_after (Err f) = refl

-- bits are taken as the number of a variable that allows every number
pub taken_is_free : (w : ℕ) (p : Place) → taken w p ≡ read_field (free w) p
taken_is_free w p = same_after (taken w p)
