use Rattle.etcs_radio.proofs.LrbgLemmas.{lrbg_read}
use Rattle.etcs_radio.proofs.lrbg.LrbgLayout.scan.Goals as goal

-- the number is NID_C and NID_BG
pub returns-clause-gives : goal.returns-clause-gives
returns-clause-gives c =
    let country = rw c.unwrap-country.ensures at c.new.ensures.some in
    let group = rw c.unwrap-group.ensures at c.new-2.ensures.some in
    lrbg_read c.in_ok-number.number c.unwrap-country.result c.unwrap-group.result c.args.cur.now c.take.new.self c.in_ok-number.ensures.exact country group
