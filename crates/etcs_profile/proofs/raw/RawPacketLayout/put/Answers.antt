use Rattle.std.proofs.Common.{◌≡◌, ◌++◌, ap, ◌∙◌}
use Rattle.etcs_bits.specs.bits.Number.{num}
use Rattle.etcs_bits.specs.layout.Format.{kept_bits}
use Rattle.etcs_bits.specs.layout.Rows.{alone, join}
use Rattle.etcs_bits.specs.variables.VariableFormats.{q_dir}
use Rattle.etcs_bits.proofs.PutLemmas.{puts_bits, puts_then}
use Rattle.etcs_profile.specs.Raw.{raw_rest}
use Rattle.etcs_profile.proofs.raw.RawPacketLayout.put.Goals as goal

pub returns : goal.returns
unfolding alone
returns c =
    let r = c.args.self.now in
    let old = c.args.out.now in
    let end = c.put_kept.new.out in
    let number : c.push_num.new.self ≡ old ++ num 8 r.number = c.in_ok-push_num.ensures.ok ∙ ap (λ n. old ++ num 8 n) c.from.ensures in
    let rest = puts_then (q_dir.rows r.dir) ((kept_bits 10).rows r.body) c.put_kept.result c.push_num.new.self c.put.new.out end c.in_ok-put.ensures c.put_kept.ensures in
    puts_bits (num 8 r.number) (join (raw_rest.rows (r.dir, r.body))) c.put_kept.result old c.push_num.new.self end number rest
