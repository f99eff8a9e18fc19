use Rattle.std.proofs.Common.{◌≡◌, ◌+◌, ◌*◌, ap, arith}
use Rattle.etcs_bits.specs.declared.variables.identity.Identity.{Identity}
use Rattle.etcs_radio.proofs.LrbgLemmas.{put_lrbg}
use Rattle.etcs_radio.proofs.lrbg.LrbgLayout.put.Goals as goal

-- the number has all the bits
pub returns : goal.returns
returns c =
    let i = c.args.self.now in
    let country = ap (λ (i : Identity). i.country) c.self.view_is in
    let group = ap (λ (i : Identity). i.group) c.self.view_is in
    let n : c.from-country.result * 16384 + c.from-group.result ≡ i.country * 16384 + i.group = omega (arith, country, group, c.from-country.ensures, c.number.ensures.number, c.from-group.ensures, c.number-2.ensures.number) in
    put_lrbg c.push_num.result i _ c.args.out.now c.push_num.new.self n c.push_num.ensures.ok c.push_num.ensures.err
