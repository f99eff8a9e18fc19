-- What holds at a place if a reader gives the rows there.
use Rattle.std.specs.Prelude.{◌↔◌}
use Rattle.std.proofs.Common.{◌≡◌, ◌≤◌, List, length, Ok, Err, sym, ap, ◌∙◌}
use Rattle.etcs_bits.specs.declared.layout.fault.Fault.{Fault}
use Rattle.etcs_bits.specs.declared.layout.fault.DecodeError.{DecodeError}
use Rattle.etcs_bits.specs.declared.layout.fault.DecodeError.TheVariants as errors
use Rattle.etcs_bits.specs.layout.Rows.{Row, Place, AreAllowed, IsSpelled}
use Rattle.etcs_bits.specs.layout.Fields.{Fields, AreRowsOf}
use Rattle.etcs_bits.specs.layout.Fault.{IsFault, NoneBegins}
use Rattle.etcs_bits.specs.layout.Reading.{read_rows}
use Rattle.etcs_bits.specs.layout.Results.{Fails, OfFault}
use Rattle.etcs_bits.proofs.ReadingLemmas.{read_is_spelled, spelled_is_read, read_is_fault}
use Rattle.etcs_bits.specs.Laws.{HasLayoutLaws}
use Rattle.etcs_bits.specs.layout.Format.{Format}
use Rattle.etcs_bits.proofs.FaultLemmas.{fault_is_given, none_stands, one_reading, no_front, same_fault}

pub is_spelled : (fields : Fields) (rows : List Row) (p q : Place) → p.at ≤ length p.bits → read_rows fields p ≡ Ok (rows, q) → IsSpelled rows p q
is_spelled fields rows p q within e = (read_is_spelled fields p (rows, q) within e).spelled

pub is_fault : (e : DecodeError) (fields : Fields) (p : Place) → p.at ≤ length p.bits → Fails e (read_rows fields p) → OfFault e (λ f. IsFault fields p f)
is_fault errors.Memory fields p within fails = tt
is_fault (errors.Fault f) fields p within fails = read_is_fault fields p f within fails

pub none_begins : {X : Type 0} (rows : X → List Row) (e : DecodeError) (fields : Fields) (p : Place) → p.at ≤ length p.bits → ((x : X) → AreRowsOf fields (rows x)) → Fails e (read_rows fields p) → OfFault e (λ f. NoneBegins rows p f)
none_begins rows errors.Memory fields p within are_rows fails = tt
none_begins rows (errors.Fault f) fields p within are_rows fails =
    λ bits len front x to spelled. none_stands fields p f bits (rows x) to within len front (read_is_fault fields p f within fails) (are_rows x) spelled

-- records with equal rows are equal
pub same_record : {X : Type 0} (x : Format X) (v w : X) → x.rows v ≡ x.rows w → v ≡ w
same_record x v w e = sym (x.laid.is_record v) ∙ ap x.of e ∙ x.laid.is_record w

-- the laws hold for each layout
pub laid_out : {X : Type 0} (x : Format X) → HasLayoutLaws x
laid_out x = record {
  -- both lists of rows are what reading gives there
  one_record = λ p q r v w within first second.
      let same = one_reading x.fields (x.rows v) (x.rows w) p q r within (x.laid.are_rows v) (x.laid.are_rows w) first second in
      (same_record x v w same.0, same.1);
  -- both stand at the front of one list of bits
  no_front = λ v w after_v after_w a b e.
      let same = no_front x.fields (x.rows v) (x.rows w) after_v after_w (x.laid.are_rows v) (x.laid.are_rows w) a b e in
      (same_record x v w same.0, same.1);
  -- the fault stays in the other input, and reading gives one answer there
  fault_or_record = λ p f within t bits len front v to spelled.
      none_stands x.fields p f bits (x.rows v) to within len front t (x.laid.are_rows v) spelled;
  -- each fault is what reading gives
  one_fault = λ p f h within t u. same_fault x.fields p f h within t u;
}

-- a whole list of allowed rows is that of the record that it makes
pub rows_again : {X : Type 0} (x : Format X) (r : List Row) → AreRowsOf x.fields r → AreAllowed r → x.rows (x.of r) ≡ r
rows_again x r whole allowed =
    let v = x.laid.has_record r whole allowed in
    ap x.rows (ap x.of (sym v.1) ∙ x.laid.is_record v.0) ∙ v.1

-- a record is spelled at a place exactly if reading gives it there
pub read_as_spelled : {X : Type 0} (x : Format X) (p q : Place) (v : X) → p.at ≤ length p.bits
    → IsSpelled (x.rows v) p q ↔ ((r : List Row) × (read_rows x.fields p ≡ Ok (r, q)) × (x.of r ≡ v))
read_as_spelled x p q v within = (
  λ spelled. (x.rows v, spelled_is_read x.fields (x.rows v) p q within (x.laid.are_rows v) spelled, x.laid.is_record v),
  λ (r, read, is).
      let here = read_is_spelled x.fields p (r, q) within read in
      rw (sym (rows_again x r here.whole here.spelled.allowed) ∙ ap x.rows is) at here.spelled,
)

-- the rows that are read are the rows of the record that they make
pub read_rows_again : {X : Type 0} (x : Format X) (p q : Place) (r : List Row) → p.at ≤ length p.bits
    → read_rows x.fields p ≡ Ok (r, q) → x.rows (x.of r) ≡ r
read_rows_again x p q r within read =
    let here = read_is_spelled x.fields p (r, q) within read in
    rows_again x r here.whole here.spelled.allowed

-- a place has a fault exactly if reading gives that fault there
pub fault_is_read : {X : Type 0} (x : Format X) (p : Place) (f : Fault) → p.at ≤ length p.bits
    → IsFault x.fields p f ↔ (read_rows x.fields p ≡ Err f)
fault_is_read x p f within = (fault_is_given x.fields p f within, read_is_fault x.fields p f within)
