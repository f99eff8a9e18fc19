-- The packets, telegrams and messages that are read by the edition are those that the codecs read.
use Rattle.std.proofs.Common.{◌≡◌, ℕ, ◌+◌, ◌<◌, ◌==◌, Bool, true, false, List, [], ◌∷◌, length, Result, Ok, Err, refl, sym, ap, ap₂, ◌∙◌, subst, inr, arith, lit<}
use Rattle.std.specs.Prelude.{nat_le, nat_lt, codes, if◌then◌else◌}
use Rattle.std.specs.List.{AllByRecursion}
use Rattle.std.proofs.lemmas.Bool.{and_from, and_parts}
use Rattle.std.proofs.lemmas.Bool.Decides.{nat_tests}
use Rattle.serde_json.specs.Data.{Data}
use Rattle.etcs_bits.specs.declared.variables.direction.Dir.{Dir}
use Rattle.etcs_bits.specs.variables.Variables.{ranged}
use Rattle.etcs_profile.specs.PacketNumbers.{is_kept, is_kept_number, nid_raw}
use Rattle.etcs_profile.specs.FoundRaw.{make_raw}
use Rattle.etcs_profile.specs.Raw.{other_of, raw_back}
use Rattle.etcs_profile.specs.Track.{NumberedTrackPacket, make_track_packet}
use Rattle.etcs_profile.specs.declared.track.TrackPacket.TheVariants as packets
use Rattle.etcs_profile.specs.declared.raw.RawPacket.{RawPacket}
use Rattle.etcs_json.specs.Authority as authorities
use Rattle.etcs_json.specs.Cover as covers
use Rattle.etcs_json.specs.Raw as raws
use Rattle.etcs_json.specs.TrackPackets as tracks
use Rattle.etcs_json.specs.Transition as transitions
use Rattle.etcs_schema.specs.Choices.{tag_member}
use Rattle.etcs_schema.specs.Codec.{key as key_codec, object, ◌then◌ as ◌and◌}
use Rattle.etcs_schema.specs.CountedBody.{counted_body}
use Rattle.etcs_schema.specs.Fault.{Fault}
use Rattle.etcs_schema.specs.Reading.{◌>>=◌, allowed_number, only_keys}
use Rattle.etcs_schema.specs.Variables.{direction, is_allowed}
use Rattle.etcs_edition.specs.Wire.{Field, allowed_if, IsWritable, any_number, up_to}
use Rattle.etcs_edition.specs.Variables.{dir_field}
use Rattle.etcs_edition.specs.Kept.{is_kept_to_train}
use Rattle.etcs_edition.specs.TrackPackets.{gradient_element_fields, link_fields, orders_fields, profile_fields, speed_element_fields, track_packet_fields}
use Rattle.etcs_edition.specs.Keys as keys
use Rattle.etcs_edition.specs.Keys.{Reader, after_number, is_writable, number_of, kept_body, key, ◌then◌}
use Rattle.etcs_edition.proofs.KeptLemmas.{kept_to_train}
use Rattle.etcs_edition.proofs.KeyLemmas.{Alike, Are, Both, both_bind, Keyed, both_made, keyed_then, writable_one}
use Rattle.etcs_edition.proofs.KeyPartLemmas.{HasNumber, Tagged, both_after, either_alike, kept_fields, keyed_body, numbered_alike, tag_alike}
use Rattle.etcs_edition.proofs.KeyVariableLemmas.{keyed_any, keyed_dir}
use Rattle.etcs_edition.proofs.KeyFormLemmas.{body_fields, keyed_gradient, keyed_linking, keyed_speed_profile, keyed_transition, keyed_with_main, keyed_without_main, main_fields, no_main_fields}
use Rattle.etcs_edition.proofs.TrackLemmas.{bits_size}

-- a number, and what was read after it
abbrev pub numbered : {X : Type 0} → ℕ → X → Result (ℕ × X) Fault
numbered n x = Ok (n, x)

-- ---- a packet from track to train that is kept as bits

kept_by : (n bits : ℕ) → (n == 0) ≡ false → (n == 5) ≡ false → (n == 12) ≡ false → (n == 15) ≡ false → (n == 21) ≡ false
    → (n == 27) ≡ false → (n == 41) ≡ false → is_writable (up_to 8 254 n) ≡ true → 23 + bits < 8192
    → is_kept_to_train n bits ≡ true
kept_by n bits a b c d e f g fits few = grind (arith, nat_tests, a, b, c, d, e, f, g, fits, few)

-- a number up to 254
pub number_any : (n : ℕ) → is_writable (up_to 8 254 n) ≡ true → up_to 8 254 n ≡ any_number 8 n
number_any n fits =
    ap (λ (ok : Bool). allowed_if 8 n ok) (and_parts (nat_lt n 256) (nat_le n 254) fits).1

abbrev rest_fields : Dir × List Bool → List Field
rest_fields p = dir_field p.0 ∷ kept_fields 23 p.1

-- the fields of a packet that is made of its parts
raw_made : (n : ℕ) (dir : Dir) (body : List Bool) → is_kept n (length body) ≡ true
    → any_number 8 n ∷ rest_fields (dir, body) ≡ track_packet_fields (packets.Raw (make_raw n (dir, body)))
raw_made n dir body kept =
    ap (λ (r : RawPacket). track_packet_fields (packets.Raw r)) (sym (raw_back n dir body kept (is_kept n (length body)) refl))

raw_are : (n : ℕ) → is_writable (up_to 8 254 n) ≡ true
    → ((bits : ℕ) → 23 + bits < 8192 → is_kept_to_train n bits ≡ true) → (fs : List Field) (p : Dir × List Bool)
    → Are rest_fields fs p → Are (λ r. track_packet_fields (packets.Raw r)) (up_to 8 254 n ∷ fs) (make_raw n p)
raw_are n fits kept fs p are =
    let all = subst (AllByRecursion IsWritable) are.0 are.1 in
    let few : 23 + length p.1 < 8192 = omega (arith, all.1.0.0, bits_size p.1) in
    let is = sym (kept_to_train n (length p.1)) ∙ kept (length p.1) few in (
      ap₂ (λ (f : Field) (gs : List Field). f ∷ gs) (number_any n fits) are.0 ∙ raw_made n p.0 p.1 is,
      (writable_one (up_to 8 254 n) fits, are.1),
    )

raw_both : (n : ℕ) → is_writable (up_to 8 254 n) ≡ true
    → ((bits : ℕ) → 23 + bits < 8192 → is_kept_to_train n bits ≡ true) → (r : Result (List Field) Fault)
    → (s : Result (Dir × List Bool) Fault) → Both (Are rest_fields) r s
    → Both (Are (λ r. track_packet_fields (packets.Raw r))) (r >>= λ later. Ok (up_to 8 254 n ∷ later))
    ((s >>= λ y. numbered n y) >>= λ p. Ok (make_raw p.0 p.1))
raw_both n fits kept (Ok fs) (Ok p) both = raw_are n fits kept fs p both
raw_both n fits kept (Err e) (Err h) both = both
raw_both n fits kept (Ok fs) (Err h) both = absurd both
raw_both n fits kept (Err e) (Ok p) both = absurd both

keyed_rest : Keyed (key (codes "q_dir") (up_to 2 2) then kept_body 23) (key_codec (codes "q_dir") direction and counted_body 10)
    rest_fields
keyed_rest = keyed_then keyed_dir (keyed_body 10)

raw_alike : (n : ℕ) (d : Data) → is_writable (up_to 8 254 n) ≡ true
    → ((bits : ℕ) → 23 + bits < 8192 → is_kept_to_train n bits ≡ true) → HasNumber (codes "nid_packet") n d
    → Both (Are (λ r. track_packet_fields (packets.Raw r)))
    (after_number (codes "nid_packet") (up_to 8 254 n) (key (codes "q_dir") (up_to 2 2) then kept_body 23) d)
    ((object raws.raw_packet).of d)
unfolding raws.raw_packet
raw_alike n d fits kept there =
    let few = (and_parts (nat_lt n 256) (nat_le n 254) fits).0 in
    let other = other_of n 0 (sym (kept_to_train n 0) ∙ kept 0 (lit< tt)) in
    let read = there (is_allowed nid_raw) (and_from (nat_lt n 256) (is_kept_number n) few other) in
    rw read
    (both_after (Are (λ r. track_packet_fields (packets.Raw r))) (only_keys raws.raw_packet.members.keys d) _ _
    (raw_both n fits kept _ _ (keyed_rest.alike d)))

-- ---- a packet from track to train

abbrev track_fields : NumberedTrackPacket → List Field
track_fields s = track_packet_fields (make_track_packet s)

keyed_cover : Keyed (key (codes "nid_vbcmk") (any_number 6)) covers.cover.members (λ m. any_number 6 m ∷ [])
unfolding covers.cover
keyed_cover = keyed_any (codes "nid_vbcmk") 6 refl

module _ (n : ℕ) (d : Data) (fits : is_writable (up_to 8 254 n) ≡ true) (there : HasNumber (codes "nid_packet") n d) where
  abbrev nid : List ℕ
  nid = codes "nid_packet"

  pub track_after : Both (Are track_fields) (after_number nid (up_to 8 254 n) (keys.track_members n) d) (tracks.track_numbered.of n d)
  track_after =
      either_alike track_fields (n == 0) nid (up_to 8 254 n) _ _ d _ _
      (λ is. numbered_alike nid n 0 (up_to 8 254) _ covers.cover (λ m. any_number 6 m ∷ []) _ is fits (λ _. refl) keyed_cover d there)
      (λ a. either_alike (λ s. track_fields (inr s)) (n == 5) nid (up_to 8 254 n) _ _ d _ _
      (λ is. numbered_alike nid n 5 (up_to 8 254) _ tracks.linking (body_fields (profile_fields link_fields)) _ is fits (λ _. refl) keyed_linking d there)
      (λ b. either_alike (λ s. track_fields (inr (inr s))) (n == 12) nid (up_to 8 254 n) _ _ d _ _
      (λ is. numbered_alike nid n 12 (up_to 8 254) _ authorities.with_main (body_fields main_fields) _ is fits (λ _. refl) keyed_with_main d there)
      (λ c. either_alike (λ s. track_fields (inr (inr (inr s)))) (n == 15) nid (up_to 8 254 n) _ _ d _ _
      (λ is. numbered_alike nid n 15 (up_to 8 254) _ authorities.without_main (body_fields no_main_fields) _ is fits (λ _. refl) keyed_without_main d there)
      (λ e. either_alike (λ s. track_fields (inr (inr (inr (inr s))))) (n == 21) nid (up_to 8 254 n) _ _ d _ _
      (λ is. numbered_alike nid n 21 (up_to 8 254) _ tracks.gradient (body_fields (profile_fields gradient_element_fields)) _ is fits (λ _. refl) keyed_gradient d there)
      (λ f. either_alike (λ s. track_fields (inr (inr (inr (inr (inr s)))))) (n == 27) nid (up_to 8 254 n) _ _ d _ _
      (λ is. numbered_alike nid n 27 (up_to 8 254) _ tracks.speed_profile (body_fields (profile_fields speed_element_fields)) _ is fits (λ _. refl) keyed_speed_profile d there)
      (λ g. either_alike (λ s. track_fields (inr (inr (inr (inr (inr (inr s))))))) (n == 41) nid (up_to 8 254 n) _ _ d _ _
      (λ is. numbered_alike nid n 41 (up_to 8 254) _ transitions.transition (body_fields orders_fields) _ is fits (λ _. refl) keyed_transition d there)
      (λ h. raw_alike n d fits (λ bits few. kept_by n bits a b c e f g h fits few) there)))))))

pub nid_numbers : (n : ℕ) → is_writable (up_to 8 254 n) ≡ is_allowed (ranged 8 254 256) n
nid_numbers n = grind (arith, nat_tests)

pub read_track_packet : Alike (Are track_packet_fields) keys.track_packet tracks.track_packet.of
read_track_packet d =
    let allowed = is_allowed (ranged 8 254 256) in
    both_made track_packet_fields make_track_packet (keys.track_packet d)
    (tag_member (allowed_number allowed) (codes "nid_packet") d >>= λ n. tracks.track_numbered.of n d)
    (both_bind (Tagged (codes "nid_packet") (up_to 8 254) d) (Are track_fields)
    (tag_member (number_of (up_to 8 254)) (codes "nid_packet") d) (tag_member (allowed_number allowed) (codes "nid_packet") d)
    (λ n. after_number (codes "nid_packet") (up_to 8 254 n) (keys.track_members n) d) (λ n. tracks.track_numbered.of n d)
    (tag_alike (codes "nid_packet") (up_to 8 254) allowed nid_numbers d)
    (λ n k both. rw (sym both.0) (track_after n d both.1.0 both.1.1)))
