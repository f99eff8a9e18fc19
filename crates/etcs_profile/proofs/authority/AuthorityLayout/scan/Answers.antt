use Rattle.std.proofs.Common.{◌≡◌, ◌⊎◌, ℕ, true, refl, inl, inr}
use Rattle.etcs_bits.proofs.SumLemmas.{number_read, chosen_gives}
use Rattle.etcs_profile.specs.Authority.{authority_variable, authority_numbered, authority_parts}
use Rattle.etcs_profile.specs.Track.{known_grows}
use Rattle.etcs_profile.proofs.GrowthLemmas.{memory_follows}
use Rattle.etcs_profile.proofs.authority.AuthorityLayout.scan.Goals as goal

allowed : (n : ℕ) → ((n ≡ 12 → ⊥) × (n ≡ 15)) ⊎ (n ≡ 12) → authority_numbered.allows n ≡ true
allowed n (inl other) = rw other.1 refl
allowed n (inr is) = rw is refl

-- the number is 12 or 15, and what follows it is read
pub returns-clause-gives : goal.returns-clause-gives
returns-clause-gives c =
    let n = c.in_ok-number.number in
    let number = number_read authority_variable n c.args.cur.now c.take.new.self refl (allowed n c.else-number-ne12.either) c.in_ok-number.ensures.exact in
    chosen_gives authority_parts authority_variable authority_numbered n c.args.cur.now c.take.new.self c.scan_rest.new.cur c.scan_rest.result number c.scan_rest.ensures.gives

-- what follows the number grows
pub returns-clause-memory : goal.returns-clause-memory
returns-clause-memory c =
    let n = c.in_ok-number.number in
    let number = number_read authority_variable n c.args.cur.now c.take.new.self refl (allowed n c.else-number-ne12.either) c.in_ok-number.ensures.exact in
    memory_follows c.scan_rest.result (λ (grows : known_grows n c.take.new.self). (n, c.take.new.self, number, grows)) c.scan_rest.ensures.memory
