-- Each table is like the fields of its record.
use Rattle.std.proofs.Common.{◌≡◌, ℕ, zero, suc, ◌+◌, ◌<◌, ◌==◌, Bool, true, false, cond, refl, sym, arith}
use Rattle.std.specs.Prelude.{◌||◌, ◌&&◌, ◌-◌, nat_le}
use Rattle.etcs_bits.specs.declared.layout.fault.FaultKind.TheVariants.{Version, Loop, Downlink, Length}
use Rattle.etcs_bits.specs.layout.Fields.{Fields, nothing, field, one, sized, ◌▹◌}
use Rattle.etcs_bits.specs.layout.Combined.{l_kept}
use Rattle.etcs_bits.specs.layout.Format.{kept_bits}
use Rattle.etcs_bits.specs.variables.Variables.{plain, free, ranged, only, version_variable, version_number, duplicate_variable, dup_number, scale_variable, scale_number, dir_variable, dir_number}
use Rattle.etcs_bits.specs.variables.VariableValues.{version_value, dup_value, scale_value, dir_value}
use Rattle.etcs_bits.specs.variables.Level.{level_variable, level_numbered, m_level}
use Rattle.etcs_bits.specs.variables.Train3.{train3_variable, train3_number, train3_value}
use Rattle.etcs_profile.specs.Elements.{elements}
use Rattle.etcs_profile.specs.PacketNumbers.{nid_track}
use Rattle.etcs_profile.specs.Terms.{terms}
use Rattle.etcs_profile.specs.Transition.{level_order, level_orders}
use Rattle.etcs_profile.specs.Track.{link, gradient_element, speed_element, track_packet, track_numbered}
use Rattle.etcs_bits.specs.layout.Format.{Format}
use Rattle.etcs_telegram.specs.Header.{header}
use Rattle.etcs_radio.specs.Head.{head, head_numbered, nid_message}
use Rattle.etcs_radio.specs.Integrity.{q_length, length_variable, length_numbered}
use Rattle.etcs_radio.specs.Lrbg.{lrbg_fields}
use Rattle.etcs_radio.specs.Report.{situation}
use Rattle.etcs_radio.specs.TrainPacket.{train_packet, train_numbered}
use Rattle.etcs_edition.specs.Tables.{tested, whole, track_next, train_next, message_next, bits, bits_if, bits_up_to, release_speed, level_table, kept_table, header_table, to_train, profile_table, link_table, terms_table, gradient_table, speed_table, orders_table, track_table, situation_table, train_table, message_table}
use Rattle.etcs_edition.proofs.AfterLemmas.{Like, like_nothing, like_field, like_one, like_bits, like_free, like_both, like_if, like_option, like_counted, like_sized, like_with_none}
use Rattle.etcs_edition.proofs.VariableLemmas.{none_above, only_last}

-- ---- variables

either_is : (n : ℕ) (b : Bool) → (n == 32) ≡ b → (n == 32 || (n == 33)) ≡ (n == version_number (version_value n))
either_is n true is = rw is (sym is)
either_is n false is = rw is refl

like_version : Like (one (tested 7 (λ n. n == 32 || (n == 33)) Version)) (one version_variable)
like_version = like_one version_variable (λ n. n == 32 || (n == 33)) (λ n _. either_is n (n == 32) refl)

like_scale : Like (bits_up_to 2 2) (one scale_variable)
like_scale = like_one scale_variable (λ n. nat_le n 2) two
  where
    two : (n : ℕ) → n < 4 → nat_le n 2 ≡ (n == scale_number (scale_value n))
    two zero few = refl
    two (suc zero) few = refl
    two (suc (suc zero)) few = refl
    two (suc (suc (suc zero))) few = refl
    two (suc (suc (suc (suc n)))) few = absurd (omega (arith, few))

like_dup : Like (bits_up_to 2 2) (one duplicate_variable)
like_dup = like_one duplicate_variable (λ n. nat_le n 2) two
  where
    two : (n : ℕ) → n < 4 → nat_le n 2 ≡ (n == dup_number (dup_value n))
    two zero few = refl
    two (suc zero) few = refl
    two (suc (suc zero)) few = refl
    two (suc (suc (suc zero))) few = refl
    two (suc (suc (suc (suc n)))) few = absurd (omega (arith, few))

like_dir : Like (bits_up_to 2 2) (one dir_variable)
like_dir = like_one dir_variable (λ n. nat_le n 2) two
  where
    two : (n : ℕ) → n < 4 → nat_le n 2 ≡ (n == dir_number (dir_value n))
    two zero few = refl
    two (suc zero) few = refl
    two (suc (suc zero)) few = refl
    two (suc (suc (suc zero))) few = refl
    two (suc (suc (suc (suc n)))) few = absurd (omega (arith, few))

like_train3 : Like (bits_up_to 2 2) (one train3_variable)
like_train3 = like_one train3_variable (λ n. nat_le n 2) two
  where
    two : (n : ℕ) → n < 4 → nat_le n 2 ≡ (n == train3_number (train3_value n))
    two zero few = refl
    two (suc zero) few = refl
    two (suc (suc zero)) few = refl
    two (suc (suc (suc zero))) few = refl
    two (suc (suc (suc (suc n)))) few = absurd (omega (arith, few))

like_zero_to_two : Like (bits_up_to 2 2) (one (ranged 2 2 4))
like_zero_to_two =
    like_one (ranged 2 2 4) (λ n. nat_le n 2) (λ n few. sym (none_above (nat_le n 2) n 4 few))

like_speed : Like (bits_up_to 7 120) (one (ranged 7 120 128))
like_speed =
    like_one (ranged 7 120 128) (λ n. nat_le n 120) (λ n few. sym (none_above (nat_le n 120) n 128 few))

like_static_speed : Like (bits_if 7 (λ n. nat_le n 120 || (n == 127))) (one (ranged 7 120 127))
like_static_speed =
    like_one (ranged 7 120 127) (λ n. nat_le n 120 || (n == 127))
    (λ n few. sym (only_last (nat_le n 120) n 127 few))

like_release_speed : Like release_speed (one (ranged 7 120 126))
like_release_speed = like_one (ranged 7 120 126) (λ n. nat_le n 120 || nat_le 126 n) (λ _ _. refl)

like_level : Like level_table m_level.fields
like_level =
    like_field level_variable (λ n. nat_le n 4) (λ n. cond (n == 1) (bits 8) nothing) level_numbered.next same next
  where
    same : (n : ℕ) → n < 8 → nat_le n 4 ≡ level_numbered.allows n
    same zero few = refl
    same (suc zero) few = refl
    same (suc (suc zero)) few = refl
    same (suc (suc (suc zero))) few = refl
    same (suc (suc (suc (suc zero)))) few = refl
    same (suc (suc (suc (suc (suc zero))))) few = refl
    same (suc (suc (suc (suc (suc (suc zero)))))) few = refl
    same (suc (suc (suc (suc (suc (suc (suc zero))))))) few = refl
    same (suc (suc (suc (suc (suc (suc (suc (suc n)))))))) few = absurd (omega (arith, few))

    by_tests : (zeroth first second third : Bool) → (zeroth ≡ true → first ≡ false)
        → Like (cond first (bits 8) nothing)
        (cond zeroth nothing (cond first (one (plain 8)) (cond second nothing (cond third nothing nothing))))
    by_tests true first second third apart = rw (apart refl) like_nothing
    by_tests false true second third apart = like_bits 8 refl
    by_tests false false true third apart = like_nothing
    by_tests false false false true apart = like_nothing
    by_tests false false false false apart = like_nothing

    next : (n : ℕ) → n < 8 → level_numbered.allows n ≡ true
        → Like (cond (n == 1) (bits 8) nothing) (level_numbered.next n)
    next n few is = by_tests (n == 0) (n == 1) (n == 2) (n == 3) (λ zeroth. grind (arith, zeroth))

like_kept : (before : ℕ) → Like (kept_table before) (kept_bits before).fields
like_kept before =
    like_field (l_kept before) (l_kept before).allows (λ l. bits (l - (before + 13)))
    (λ l. one (free (l - (before + 13)))) (λ _ _. refl) (λ l _ _. like_free (l - (before + 13)))

-- ---- telegrams

pub like_header : Like header_table header.fields
like_header =
    like_both (like_one (only 1 1 Downlink) (λ n. n == 1) (λ _ _. refl)) (
    like_both like_version (
    like_both (like_one (only 1 0 Loop) (λ n. n == 0) (λ _ _. refl)) (
    like_both (like_bits 3 refl) (
    like_both (like_bits 3 refl) (
    like_both like_dup (
    like_both (like_bits 8 refl) (
    like_both (like_both (like_bits 10 refl) (like_bits 14 refl)) (
    like_bits 1 refl))))))))

-- ---- packets from track to train

like_to_train : {a b : Fields} → Like a b → Like (to_train a) (one dir_variable ▹ sized 10 b)
like_to_train x = like_both like_dir (like_sized 10 x)

like_profile : {X : Type 0} (element : Format X) {a : Fields} → Like a element.fields
    → Like (profile_table a) (elements element).fields
like_profile element x = like_both like_scale (like_both x (like_counted x))

like_link : Like link_table link.fields
like_link =
    like_both (like_bits 15 refl) (
    like_both (like_option (like_bits 10 refl)) (
    like_both (like_bits 14 refl) (
    like_both (like_bits 1 refl) (
    like_both like_zero_to_two (
    like_bits 6 refl)))))

like_two : (v w : ℕ) → (nat_le 1 v && nat_le v 32) ≡ true → (nat_le 1 w && nat_le w 32) ≡ true
    → Like (bits v ▹ bits w) (one (plain v) ▹ one (plain w))
like_two v w first second = like_both (like_bits v first) (like_bits w second)

like_terms : Like terms_table terms.fields
like_terms =
    like_both like_speed (
    like_both (like_bits 10 refl) (
    like_both (like_counted (like_both (like_bits 15 refl) (like_option (like_two 10 15 refl refl)))) (
    like_both (like_bits 15 refl) (
    like_both (like_option (like_two 10 15 refl refl)) (
    like_both (like_option (like_two 10 15 refl refl)) (
    like_both (like_option (like_both (like_bits 15 refl) like_release_speed)) (
    like_option (
    like_both (like_bits 15 refl) (
    like_both (like_bits 10 refl) (
    like_both (like_bits 15 refl) like_release_speed))))))))))

like_gradient : Like gradient_table gradient_element.fields
like_gradient = like_both (like_bits 15 refl) (like_both (like_bits 1 refl) (like_bits 8 refl))

like_speed_element : Like speed_table speed_element.fields
like_speed_element =
    like_both (like_bits 15 refl) (
    like_both like_static_speed (
    like_both (like_bits 1 refl) (
    like_counted (like_both like_zero_to_two (like_both (like_bits 4 refl) like_speed)))))

like_order : Like (level_table ▹ bits 15) level_order.fields
like_order = like_both like_level (like_bits 15 refl)

like_orders : Like orders_table level_orders.fields
like_orders =
    like_both like_scale (like_both (like_bits 15 refl) (like_both like_order (like_counted like_order)))

pub like_track : Like track_table track_packet.fields
like_track =
    like_field nid_track nid_track.allows track_next track_numbered.next (λ _ _. refl) (λ n _ _.
    like_if (n == 0) (like_bits 6 refl) (
    like_if (n == 5) (like_to_train (like_profile link like_link)) (
    like_if (n == 12) (like_to_train (like_both like_scale (like_both like_speed like_terms))) (
    like_if (n == 15) (like_to_train (like_both like_scale like_terms)) (
    like_if (n == 21) (like_to_train (like_profile gradient_element like_gradient)) (
    like_if (n == 27) (like_to_train (like_profile speed_element like_speed_element)) (
    like_if (n == 41) (like_to_train like_orders) (
    like_both like_dir (like_kept 10)))))))))

-- ---- packets from train to track

like_lrbg : Like (bits 24) lrbg_fields
like_lrbg = like_with_none 24 (like_both (like_bits 24 refl) (like_free 0))

like_integrity : Like (field (whole 2) (λ n. cond (n == 1 || (n == 2)) (bits 15) nothing)) q_length.fields
like_integrity =
    like_field length_variable (λ _. true) (λ n. cond (n == 1 || (n == 2)) (bits 15) nothing) length_numbered.next same
    (λ n _ _. by_tests (n == 0) (n == 1) (n == 2) (λ zeroth. grind (arith, zeroth)) (λ zeroth. grind (arith, zeroth)))
  where
    same : (n : ℕ) → n < 4 → true ≡ length_numbered.allows n
    same zero few = refl
    same (suc zero) few = refl
    same (suc (suc zero)) few = refl
    same (suc (suc (suc zero))) few = refl
    same (suc (suc (suc (suc n)))) few = absurd (omega (arith, few))

    by_tests : (zeroth first second : Bool) → (zeroth ≡ true → first ≡ false) → (zeroth ≡ true → second ≡ false)
        → Like (cond (first || second) (bits 15) nothing)
        (cond zeroth nothing (cond first (one (plain 15)) (cond second (one (plain 15)) nothing)))
    by_tests true first second one two = rw (one refl, two refl) like_nothing
    by_tests false true second one two = like_bits 15 refl
    by_tests false false true one two = like_bits 15 refl
    by_tests false false false one two = like_nothing

like_situation : Like situation_table situation.fields
like_situation =
    like_both (like_bits 15 refl) (
    like_both like_train3 (
    like_both like_train3 (
    like_both (like_bits 15 refl) (
    like_both (like_bits 15 refl) (
    like_both like_integrity (
    like_both (like_bits 7 refl) (
    like_both like_train3 (
    like_both (like_bits 4 refl) like_level))))))))

pub like_train : Like train_table train_packet.fields
like_train =
    like_field nid_track nid_track.allows train_next train_numbered.next (λ _ _. refl) (λ n _ _.
    like_if (n == 0) (like_sized 8 (like_both like_scale (like_both like_lrbg like_situation))) (
    like_if (n == 1) (like_sized 8 (like_both like_scale (like_both like_lrbg (like_both like_lrbg like_situation)))) (
    like_kept 8)))

-- ---- the head of a message

or_is_if : (a b : Bool) → (a || b) ≡ cond a true b
or_is_if true b = refl
or_is_if false b = refl

like_length : (count : ℕ) → Like (one (tested 10 (λ l. l == count) Length)) (one (only 10 count Length))
like_length count = like_one (only 10 count Length) (λ l. l == count) (λ _ _. refl)

head_next : (count : ℕ) (b : Bool)
    → Like (message_next count b)
    (cond b (one (only 10 count Length) ▹ (one (plain 32) ▹ (one (plain 1) ▹ lrbg_fields)))
    (one (only 10 count Length) ▹ (one (plain 32) ▹ one (plain 24))))
head_next count true =
    like_both (like_length count) (like_both (like_bits 32 refl) (like_both (like_bits 1 refl) like_lrbg))
head_next count false = like_both (like_length count) (like_both (like_bits 32 refl) (like_bits 24 refl))

pub like_head : (count : ℕ) → Like (message_table count) (head count).fields
like_head count =
    like_field nid_message (λ n. n == 3 || (n == 136)) (λ n. message_next count (n == 3)) (head_numbered count).next
    (λ n _. or_is_if (n == 3) (n == 136)) (λ n _ _. head_next count (n == 3))
