use Rattle.std.proofs.Common.{◌≡◌, ◌*◌, ◌/◌, ℕ, List, min, take, length, eq-eqb, Ok, refl, sym, ap, ◌∙◌, arith}
use Rattle.std.proofs.lemmas.List.{take_all}
use Rattle.hex.specs.Hex.{decode_of}
use Rattle.etcs_digits.proofs.DigitLemmas.{whole_digits}
use Rattle.etcs_radio.proofs.DigitLemmas.{front_decoded, front_read}
use Rattle.etcs_radio.proofs.text.read_front.Goals as goal
use Rattle.etcs_radio.proofs.text.read_front.Goals.{After-decode}

-- the first digits are decoded to the first bytes
front : (c : After-decode) (bytes : List ℕ) → decode_of c.args.text.now ≡ Ok bytes → c.decode.new.out ≡ take (min (length c.args.text.now / 2) 1024) bytes
front c bytes read =
    (front_read c.args.text.now _ (length c.args.front.now) c.decode.result c.decode.new.out bytes c.decode.ensures read (omega (arith, c.requires)) refl).1
    ∙ ap (λ n. take n bytes) c.requires

pub returns-then-text-len-clause-front : goal.returns-then-text-len-clause-front
returns-then-text-len-clause-front c = front (goal.at.returns-then-text-len-clause-front c).After-decode

pub returns-else-text-len-clause-front : goal.returns-else-text-len-clause-front
returns-else-text-len-clause-front c = front (goal.at.returns-else-text-len-clause-front c).After-decode

pub returns-else-decode-clause-front : goal.returns-else-decode-clause-front
returns-else-decode-clause-front c = front (goal.at.returns-else-decode-clause-front c).After-decode

-- all digits are decoded
pub returns-then-text-len-clause-digits : goal.returns-then-text-len-clause-digits
returns-then-text-len-clause-digits c =
    let text = c.args.text.now in
    let n = length c.args.front.now in
    let all : take (2 * n) text ≡ text = take_all (2 * n) text (omega (arith, c.if-text-len.true)) in
    (λ _. (whole_digits text n c.decode.result c.decode.new.out (omega (arith, c.if-text-len.true)) (rw all at c.decode.ensures)).0 c.if-decode.true, λ _. eq-eqb _ _ c.if-text-len.true)

-- the front of a hexadecimal text is decoded
pub returns-else-decode-clause-digits : goal.returns-else-decode-clause-digits
returns-else-decode-clause-digits c = (
  λ is. absurd cc,
  λ digits.
      let is = front_decoded c.args.text.now _ (length c.args.front.now) c.decode.result c.decode.new.out c.decode.ensures (omega (arith, c.requires)) refl digits in
      let same = sym is ∙ c.if-decode.false in
      absurd cc,
)
