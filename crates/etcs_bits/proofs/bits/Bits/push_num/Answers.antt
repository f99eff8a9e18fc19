use Rattle.std.proofs.Common.{◌≡◌, ◌+◌, ◌%◌, ◌^◌, ◌<◌, ◌∙◌, sym, ap, length, arith}
use Rattle.etcs_bits.proofs.ViewLemmas.{length-view}
use Rattle.etcs_bits.proofs.bits.Bits.push_num.Goals as goal

-- the sum of the lengths fits
pub returns-in_default-clause-room : goal.returns-in_default-clause-room
returns-in_default-clause-room c = λ given.
    let l : c.self.inside.len ≡ length c.args.self.now = sym (length-view c.self.inside.bytes.items c.self.inside.len c.self.invariant.within) ∙ ap length c.self.view_is in
    let fits : c.self.inside.len + c.args.width < 2 ^ 64 = omega (arith, l, given.2) in
    absurd (rw c.in_default.is at c.checked_add.ensures fits)

-- the last byte has room
pub returns-in_err-append-clause-room : goal.returns-in_err-append-clause-room
returns-in_err-append-clause-room c = λ given.
    let l : c.self.inside.len ≡ length c.args.self.now = sym (length-view c.self.inside.bytes.items c.self.inside.len c.self.invariant.within) ∙ ap length c.self.view_is in
    let some : 0 < c.self.inside.len % 8 = rw l given.0 in
    let within : c.self.inside.len % 8 + c.args.width < 9 = rw l (omega (arith, given.1)) in
    absurd (omega (arith, c.in_err-append.ensures.memory some, within))
