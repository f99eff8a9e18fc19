use Rattle.std.proofs.Common.{◌≡◌, ◌⊎◌, ℕ, true, refl, inl, inr}
use Rattle.etcs_bits.proofs.SumLemmas.{number_read, chosen_gives}
use Rattle.etcs_radio.specs.Head.{nid_message, head_numbered}
use Rattle.etcs_radio.specs.HeadView.{head_value}
use Rattle.etcs_radio.proofs.head.scan_head.Goals as goal

allowed : (n : ℕ) → ((n ≡ 3 → ⊥) × (n ≡ 136)) ⊎ (n ≡ 3) → (head_numbered 0).allows n ≡ true
allowed n (inl other) = rw other.1 refl
allowed n (inr is) = rw is refl

-- the number is 3 or 136, and what follows it is read
pub returns-clause-gives : goal.returns-clause-gives
returns-clause-gives c =
    let n = c.in_ok-number.number in
    let number = number_read nid_message n c.args.cur.now c.take.new.self refl (allowed n c.else-number-ne3.either) c.in_ok-number.ensures.exact in
    chosen_gives head_value nid_message (head_numbered c.args.count) n c.args.cur.now c.take.new.self c.scan_rest.new.cur c.scan_rest.result number c.scan_rest.ensures.gives
