use Rattle.std.proofs.Common.{◌≡◌, ◌∙◌, sym}
use Rattle.etcs_table.proofs.FaultLemmas.{is_number}
use Rattle.etcs_table.proofs.telegram_row.read_row.Goals as goal

-- the row has no fault
pub number_of-requires-clause-decimal : goal.number_of-requires-clause-decimal
number_of-requires-clause-decimal c =
    let same : c.as_slice-in-None.result.now ≡ c.as_slice-4.result.now = c.as_slice-in-None.ensures ∙ sym c.as_slice-4.ensures in
    rw same (is_number c.args.number c.as_slice.result.now c.as_slice-2.result.now c.as_slice-3.result.now c.as_slice-4.result.now c.is_wide.result (sym c.in-None.ensures)).0

pub number_of-requires-clause-short : goal.number_of-requires-clause-short
number_of-requires-clause-short c =
    let same : c.as_slice-in-None.result.now ≡ c.as_slice-4.result.now = c.as_slice-in-None.ensures ∙ sym c.as_slice-4.ensures in
    rw same (is_number c.args.number c.as_slice.result.now c.as_slice-2.result.now c.as_slice-3.result.now c.as_slice-4.result.now c.is_wide.result (sym c.in-None.ensures)).1
