use Rattle.std.proofs.Common.{◌≡◌, ◌*◌, ◌∙◌, ap, sym, length, rules}
use Rattle.hex.proofs.HexLemmas.{decode_sized-twice}
use Rattle.etcs_digits.proofs.DigitLemmas.{bytes_written, whole_digits}
use Rattle.etcs_telegram.proofs.text.read_digits.Goals as goal

pub returns-clause-digits : goal.returns-clause-digits
returns-clause-digits g c = λ ok.
    let room : length c.args.bytes.now ≡ g.row.N = search rules in
    let twice = c.requires ∙ ap (λ n. 2 * n) (sym room) in
    sym (decode_sized-twice c.args.text.now (length c.args.bytes.now) twice)
    ∙ bytes_written _ c.decode.result _ c.decode.ensures ok

pub returns-clause-others : goal.returns-clause-others
returns-clause-others g c = λ failed hexadecimal.
    let room : length c.args.bytes.now ≡ g.row.N = search rules in
    let twice = c.requires ∙ ap (λ n. 2 * n) (sym room) in
    let is = (whole_digits c.args.text.now (length c.args.bytes.now) c.decode.result c.decode.new.out twice c.decode.ensures).1 hexadecimal in
    cc (is, failed)
