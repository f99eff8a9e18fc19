use Rattle.std.proofs.Common.{◌≡◌, ◌≤◌, ◌∙◌, ◌++◌, ◌-◌, refl, sym, ap, subst, length, ℕ, arith, replicate, true}
use Rattle.etcs_telegram.specs.Record.{Telegram}
use Rattle.etcs_telegram.specs.Sizes.{user_bits}
use Rattle.etcs_telegram.specs.Telegram.{IsEncoding, front_bits, used_bits}
use Rattle.etcs_telegram.proofs.TelegramLemmas.{made, front_width, is_encoding, written_front}
use Rattle.etcs_telegram.proofs.encoding.write.Goals as goal

-- the header, the packets and the end mark are written, and they leave room
pub fill-requires : goal.fill-requires
fill-requires c =
    let t = made c.telegram.inside.size c.telegram.inside.header c.telegram.inside.packets.items in
    let fits = subst (λ (t : Telegram). used_bits t ≤ user_bits t.size) (sym c.telegram.view_is) c.requires in
    let packets = rw c.as_slice.ensures.value at c.in_ok-write_packets.ensures.ok in
    let front : c.push_num.new.self ≡ front_bits t = written_front t _ _ _ _ c.new-bits.ensures c.in_ok-write.ensures.ok packets c.in_ok-push_num.ensures.ok in
    omega (arith, ap length front, front_width t, fits, c.user_bits.ensures)

-- ones fill the bits up to the size
pub returns : goal.returns
returns c =
    let t = made c.telegram.inside.size c.telegram.inside.header c.telegram.inside.packets.items in
    let fits = subst (λ (t : Telegram). used_bits t ≤ user_bits t.size) (sym c.telegram.view_is) c.requires in
    let packets = rw c.as_slice.ensures.value at c.in_ok-write_packets.ensures.ok in
    let allowed = rw c.as_slice.ensures.value at c.in_ok-write_packets.ensures.allowed in
    let front : c.push_num.new.self ≡ front_bits t = written_front t _ _ _ _ c.new-bits.ensures c.in_ok-write.ensures.ok packets c.in_ok-push_num.ensures.ok in
    let filled = ap (λ (n : ℕ). c.push_num.new.self ++ replicate (n - length c.push_num.new.self) true) c.user_bits.ensures in
    subst (λ (t : Telegram). IsEncoding t c.fill.new.bits) c.telegram.view_is
    (is_encoding t c.push_num.new.self c.fill.new.bits fits (c.if-prove.ensures.allowed.0 refl) allowed front (c.in_ok-fill.ensures ∙ filled))
