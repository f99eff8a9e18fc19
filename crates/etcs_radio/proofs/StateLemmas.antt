-- In which state a splitter is.
use Rattle.std.proofs.Common.{◌≡◌, ◌≢◌, ◌<◌, ◌≤◌, ◌==◌, ◌&&◌, ℕ, Bool, true, false, List, [], length, refl, sym, ap, ◌∙◌, arith, if◌then◌else◌}
use Rattle.std.specs.Prelude.{nat_le, nat_lt}
use Rattle.std.proofs.lemmas.Bool.{cond-true, cond-false, and_from, and_parts, le-leb, leb-true, eq-eqb, eqb-true, lt-ltb, ltb-true, false_from_ne_true, true_from_ne_false}
use Rattle.etcs_radio.specs.declared.splitter.State.TheVariants.{More, Ready, Failed}
use Rattle.etcs_radio.specs.Stream.{message_length, AreOneMessageLong, AreBroken}
use Rattle.etcs_radio.specs.Splitter.{splitter_state}

-- the tests that decide it
abbrev is_whole : List ℕ → Bool
is_whole bytes = nat_le 3 (length bytes) && (length bytes == message_length bytes)

abbrev is_broken : List ℕ → Bool
is_broken bytes = (length bytes == 3) && nat_lt (message_length bytes) 3

whole_if : (bytes : List ℕ) → is_whole bytes ≡ true → AreOneMessageLong bytes
whole_if bytes test =
    let parts = and_parts _ _ test in
    record {
      three = leb-true 3 (length bytes) parts.0;
      count = eqb-true (length bytes) (message_length bytes) parts.1;
    }

broken_if : (bytes : List ℕ) → is_broken bytes ≡ true → AreBroken bytes
broken_if bytes test =
    let parts = and_parts _ _ test in
    record {
      three = eqb-true (length bytes) 3 parts.0;
      small = ltb-true (message_length bytes) 3 parts.1;
    }

not_both : (bytes : List ℕ) → AreBroken bytes → AreOneMessageLong bytes → ⊥
not_both bytes broken whole = omega (arith, broken.three, broken.small, whole.count)

pub state-ready : (bytes : List ℕ) → AreOneMessageLong bytes → splitter_state bytes ≡ Ready
unfolding splitter_state
state-ready bytes whole =
    cond-true (is_whole bytes) Ready _
    (and_from _ _ (le-leb 3 (length bytes) whole.three) (eq-eqb (length bytes) (message_length bytes) whole.count))

pub state-failed : (bytes : List ℕ) → AreBroken bytes → splitter_state bytes ≡ Failed
unfolding splitter_state
state-failed bytes broken =
    cond-false (is_whole bytes) Ready _ (false_from_ne_true (is_whole bytes) (λ test. not_both bytes broken (whole_if bytes test)))
    ∙ cond-true (is_broken bytes) Failed More
    (and_from _ _ (eq-eqb (length bytes) 3 broken.three) (lt-ltb (message_length bytes) 3 broken.small))

pub state-more : (bytes : List ℕ) → (AreOneMessageLong bytes → ⊥) → (AreBroken bytes → ⊥) → splitter_state bytes ≡ More
unfolding splitter_state
state-more bytes no_whole no_broken =
    cond-false (is_whole bytes) Ready _ (false_from_ne_true (is_whole bytes) (λ test. no_whole (whole_if bytes test)))
    ∙ cond-false (is_broken bytes) Failed More (false_from_ne_true (is_broken bytes) (λ test. no_broken (broken_if bytes test)))

-- fewer than three bytes are no message yet
pub state-short : (bytes : List ℕ) → length bytes < 3 → splitter_state bytes ≡ More
state-short bytes short =
    state-more bytes (λ whole. omega (arith, whole.three)) (λ broken. omega (arith, broken.three))

-- L_MESSAGE counts more bytes
pub state-below : (bytes : List ℕ) → 3 ≤ message_length bytes → length bytes < message_length bytes → splitter_state bytes ≡ More
state-below bytes large below =
    state-more bytes (λ whole. omega (arith, whole.count)) (λ broken. omega (arith, broken.small))

pub state-none : (bytes : List ℕ) → bytes ≡ [] → splitter_state bytes ≡ More
state-none bytes none = ap splitter_state none ∙ state-short [] (omega arith)

-- the answers of `state_with`, by the numbers that its tests compare

pub state-ready_by : (bytes : List ℕ) → 3 ≤ length bytes → length bytes ≡ message_length bytes → splitter_state bytes ≡ Ready
state-ready_by bytes three count = state-ready bytes (record { three = three; count = count })

pub state-failed_by : (bytes : List ℕ) → length bytes ≡ 3 → message_length bytes < 3 → splitter_state bytes ≡ Failed
state-failed_by bytes three small = state-failed bytes (record { three = three; small = small })

pub state-large_by : (bytes : List ℕ) → length bytes ≢ message_length bytes → 3 ≤ message_length bytes → splitter_state bytes ≡ More
state-large_by bytes other large =
    state-more bytes (λ whole. other whole.count) (λ broken. omega (arith, broken.small))

pub state-other_by : (bytes : List ℕ) → length bytes ≢ message_length bytes → length bytes ≢ 3 → splitter_state bytes ≡ More
state-other_by bytes other no_head =
    state-more bytes (λ whole. other whole.count) (λ broken. no_head broken.three)

pub ruleset states = (state-short, state-ready_by, state-failed_by, state-large_by, state-other_by)

pub ready_is_not_more : Ready ≢ More
ready_is_not_more e = grind arith

pub failed_is_not_more : Failed ≢ More
failed_is_not_more e = grind arith

not_ready : (broken : Bool) → (if broken then Failed else More) ≡ Ready → ⊥
not_ready true e = grind arith
not_ready false e = grind arith

not_failed : (whole broken : Bool) → (if whole then Ready else (if broken then Failed else More)) ≡ Failed → broken ≡ true
not_failed true broken e = grind arith
not_failed false true e = refl
not_failed false false e = grind arith

pub ready-whole : (bytes : List ℕ) → splitter_state bytes ≡ Ready → AreOneMessageLong bytes
unfolding splitter_state
ready-whole bytes ready =
    whole_if bytes
    (true_from_ne_false (is_whole bytes)
    (λ not_so. not_ready (is_broken bytes) (sym (cond-false (is_whole bytes) Ready _ not_so) ∙ ready)))

pub failed-broken : (bytes : List ℕ) → splitter_state bytes ≡ Failed → AreBroken bytes
unfolding splitter_state
failed-broken bytes failed = broken_if bytes (not_failed (is_whole bytes) (is_broken bytes) failed)
