use Rattle.std.proofs.Common.{◌≡◌, ◌+◌, ◌/◌, ◌%◌, ◌^◌, ◌≤◌, length, Ok, sym, ap, subst, ◌∙◌, arith}
use Rattle.etcs_bits.specs.layout.Rows.{Place}
use Rattle.etcs_bits.specs.layout.Reading.{forward, taken}
use Rattle.etcs_bits.proofs.TakenLemmas.{taken_within}
use Rattle.etcs_bits.proofs.bits.cursor.Cursor.take_three.Goals as goal

pub returns-clause-first : goal.returns-clause-first
returns-clause-first c =
    let a = c.args.first in
    let p : Place = record { bits = c.self.inside.bits; at = c.self.inside.at } in
    let fits : p.at + (a + c.args.second + c.args.third) ≤ length p.bits = omega (arith, c.len.ensures, c.self.invariant) in
    let read : taken a p ≡ Ok (c.field_in.result, forward p a) =
    ap (λ at. taken a (record { bits = p.bits; at = at })) (omega arith)
    ∙ taken_within p (a + c.args.second + c.args.third) 0 a (c.args.second + c.args.third) c.num_far-n.result (omega arith) fits c.num_far-n.ensures.value
    ∙ ap (λ at. Ok (c.num_far-n.result / 2 ^ (c.args.second + c.args.third) % 2 ^ a, record { bits = p.bits; at = at + a })) (omega arith)
    ∙ ap (λ n. Ok (n, forward p a)) (sym c.field_in.ensures) in
    subst (λ (q : Place). taken a q ≡ Ok (c.field_in.result, forward q a)) c.self.view_is read

pub returns-clause-second : goal.returns-clause-second
returns-clause-second c =
    let a = c.args.first in
    let b = c.args.second in
    let p : Place = record { bits = c.self.inside.bits; at = c.self.inside.at } in
    let fits : p.at + (a + b + c.args.third) ≤ length p.bits = omega (arith, c.len.ensures, c.self.invariant) in
    let read : taken b (forward p a) ≡ Ok (c.field_in-2.result, forward (forward p a) b) =
    taken_within p (a + b + c.args.third) a b c.args.third c.num_far-n.result (omega arith) fits c.num_far-n.ensures.value
    ∙ ap (λ n. Ok (n, forward (forward p a) b)) (sym c.field_in-2.ensures) in
    subst (λ (q : Place). taken b (forward q a) ≡ Ok (c.field_in-2.result, forward (forward q a) b)) c.self.view_is read

pub returns-clause-third : goal.returns-clause-third
returns-clause-third c =
    let a = c.args.first in
    let b = c.args.second in
    let d = c.args.third in
    let p : Place = record { bits = c.self.inside.bits; at = c.self.inside.at } in
    let fits : p.at + (a + b + d) ≤ length p.bits = omega (arith, c.len.ensures, c.self.invariant) in
    let end : Place = record { bits = p.bits; at = p.at + (a + b + d) } in
    let read : taken d (forward (forward p a) b) ≡ Ok (c.field_in-3.result, end) =
    ap (λ at. taken d (record { bits = p.bits; at = at })) (omega arith)
    ∙ taken_within p (a + b + d) (a + b) d 0 c.num_far-n.result (omega arith) fits c.num_far-n.ensures.value
    ∙ ap (λ n. Ok (n, record { bits = p.bits; at = p.at + (a + b) + d })) (sym c.field_in-3.ensures)
    ∙ ap (λ at. Ok (c.field_in-3.result, record { bits = p.bits; at = at })) (omega arith) in
    subst (λ (q : Place). taken d (forward (forward q a) b) ≡ Ok (c.field_in-3.result, end)) c.self.view_is read
