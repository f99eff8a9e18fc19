use Rattle.std.proofs.Common.{◌≡◌, ◌+◌, ◌/◌, ◌%◌, ◌^◌, ◌≤◌, length, Ok, sym, ap, subst, ◌∙◌, arith}
use Rattle.etcs_bits.specs.layout.Rows.{Place}
use Rattle.etcs_bits.specs.layout.Reading.{forward, taken}
use Rattle.etcs_bits.proofs.TakenLemmas.{taken_within}
use Rattle.etcs_bits.proofs.bits.cursor.Cursor.take_two.Goals as goal

pub returns-clause-first : goal.returns-clause-first
returns-clause-first c =
    let a = c.args.first in
    let p : Place = record { bits = c.self.inside.bits; at = c.self.inside.at } in
    let fits : p.at + (a + c.args.second) ≤ length p.bits = omega (arith, c.len.ensures, c.self.invariant) in
    let read : taken a p ≡ Ok (c.field_in.result, forward p a) =
    ap (λ at. taken a (record { bits = p.bits; at = at })) (omega arith)
    ∙ taken_within p (a + c.args.second) 0 a c.args.second c.num_far-n.result (omega arith) fits c.num_far-n.ensures.value
    ∙ ap (λ at. Ok (c.num_far-n.result / 2 ^ c.args.second % 2 ^ a, record { bits = p.bits; at = at + a })) (omega arith)
    ∙ ap (λ n. Ok (n, forward p a)) (sym c.field_in.ensures) in
    subst (λ (q : Place). taken a q ≡ Ok (c.field_in.result, forward q a)) c.self.view_is read

pub returns-clause-second : goal.returns-clause-second
returns-clause-second c =
    let a = c.args.first in
    let b = c.args.second in
    let p : Place = record { bits = c.self.inside.bits; at = c.self.inside.at } in
    let fits : p.at + (a + b) ≤ length p.bits = omega (arith, c.len.ensures, c.self.invariant) in
    let end : Place = record { bits = p.bits; at = p.at + (a + b) } in
    let read : taken b (forward p a) ≡ Ok (c.field_in-2.result, end) =
    taken_within p (a + b) a b 0 c.num_far-n.result (omega arith) fits c.num_far-n.ensures.value
    ∙ ap (λ n. Ok (n, record { bits = p.bits; at = p.at + a + b })) (sym c.field_in-2.ensures)
    ∙ ap (λ at. Ok (c.field_in-2.result, record { bits = p.bits; at = at })) (omega arith) in
    subst (λ (q : Place). taken b (forward q a) ≡ Ok (c.field_in-2.result, end)) c.self.view_is read
