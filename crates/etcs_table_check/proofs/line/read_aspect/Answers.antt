use Rattle.std.proofs.Common.{◌≡◌, ◌∙◌, ap, Ok, sym, arith}
use Rattle.etcs_table.proofs.LoopLemmas.{ended, rest, value}
use Rattle.etcs_table.specs.Pointed.{pointed}
use Rattle.etcs_table_check.proofs.CountLemmas.{as-many, ok-value}
use Rattle.etcs_table_check.proofs.ReadLemmas.{read-ended, read-fails, read-more}
use Rattle.etcs_table_check.specs.Line.{telegram_of}
use Rattle.etcs_table_check.proofs.line.read_aspect.Goals as goal

-- the digits of the row are a telegram
pub balises-preserved : goal.balises-preserved
balises-preserved c =
    let rows = c.args.balises.now in
    let i = c.balises.row-index in
    let e = c.row-item.result in
    rw c.in_ok-push-in-Ok.ensures.items (read-more telegram_of (pointed rows) c.balises.telegrams.items i _ e.now _ (rest value rows i e c.balises-test.true c.row-item.is) c.in-Ok.ensures c.balises.invariant)

-- the row is refused
pub returns-in-Err : goal.returns-in-Err
returns-in-Err c =
    let rows = c.args.balises.now in
    let i = c.balises.row-index in
    let e = c.row-item.result in
    read-fails telegram_of (pointed rows) c.balises.telegrams.items i _ e.now c.in-Err.error (rest value rows i e c.balises-test.true c.row-item.is) c.in-Err.ensures c.balises.invariant

-- all are read, so there are as many telegrams as balises
pub unwrap-requires : goal.unwrap-requires
unwrap-requires c =
    let rows = c.args.balises.now in
    let i = c.balises.row-index in
    let read = read-ended telegram_of (pointed rows) c.balises.telegrams.items i _ (ended value rows i c.balises-test.false) c.balises.invariant in
    let n = as-many telegram_of (pointed rows) c.balises.telegrams.items read in
    c.new.ensures.made.1 (omega (arith, n, c.requires.some), omega (arith, n, c.requires.few))

pub returns : goal.returns
returns c =
    let rows = c.args.balises.now in
    let i = c.balises.row-index in
    read-ended telegram_of (pointed rows) c.balises.telegrams.items i _ (ended value rows i c.balises-test.false) c.balises.invariant
    ∙ ap Ok (sym (ok-value (λ g. g ≡ c.balises.telegrams.items) c.new.result c.unwrap.result c.unwrap.ensures c.new.ensures.ok))
