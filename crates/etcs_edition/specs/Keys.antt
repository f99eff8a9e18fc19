-- How `encode` reads the JSON form of a telegram or a radio message. The value of a key is the number of a variable
-- (SUBSET-026, 7.5.1). What is read are the fields of the record in the order of its table, or the first fault of the
-- value. The keys and the order of faults are this project's.
use Rattle.std.specs.Prelude.{ℕ, ◌+◌, ◌-◌, ◌^◌, ◌==◌, ◌||◌, ◌&&◌, nat_le, nat_lt, Bool, true, if◌then◌else◌, codes, List, [], ◌∷◌, ◌++◌, Result, Ok, Err}
use Rattle.std.specs.List.{flat_map, list_any}
use Rattle.serde_json.specs.Data.{Data}
use Rattle.etcs_schema.specs.BodyText.{decoded_body}
use Rattle.etcs_schema.specs.Choices.{tag_member}
use Rattle.etcs_schema.specs.Codec.{first_and_others}
use Rattle.etcs_schema.specs.Fault.{Fault, Range, at_once, here, key as at_key}
use Rattle.etcs_schema.specs.Lists.{unbounded_list}
use Rattle.etcs_schema.specs.Reading.{◌>>=◌, absent_member, allowed_number, bounded_list, only_keys, optional_member, required_member}
use Rattle.etcs_edition.specs.Wire.{Field, any_number, allowed_if, up_to, bit_count, qualified, iterated, raw_fields}
use Rattle.etcs_edition.specs.Variables.{release_speed_field, static_speed_field}
use Rattle.etcs_edition.specs.Message.{has_number}

-- ---- one value

-- the fields that are read of a value, or its first fault
abbrev pub Reader : Type 0
Reader = Data → Result (List Field) Fault

-- whether a field can be written: its bits can hold the number, and the standard allows the number
abbrev pub is_writable : Field → Bool
is_writable f = nat_lt f.number (2 ^ f.width) && f.allowed

-- a number that a variable can have
abbrev pub number_of : (ℕ → Field) → Data → Result ℕ Fault
number_of variable = allowed_number (λ n. is_writable (variable n))

-- a variable
abbrev pub one : (ℕ → Field) → Reader
one variable d = number_of variable d >>= λ n. Ok (variable n ∷ [])

-- ---- members of an object

-- the keys of some members, and what is read of them, one after the other
pub record Members : Type 0 where
  pub keys : List (List ℕ)
  pub read : Reader

-- members, and then more members
infixr 5 ◌then◌
abbrev pub ◌then◌ : Members → Members → Members
a then b = record {
  keys = a.keys ++ b.keys;
  read = λ d. a.read d >>= λ first. b.read d >>= λ later. Ok (first ++ later);
}

-- a variable at its key
abbrev pub key : List ℕ → (ℕ → Field) → Members
key name variable = record { keys = name ∷ []; read = required_member (one variable) name }

-- fields without a key, and then members
abbrev pub unstated : List Field → Members → Members
unstated fields m = record { keys = m.keys; read = λ d. m.read d >>= λ later. Ok (fields ++ later) }

-- a qualifier, which is 1 if the key of its part is there
abbrev pub optional : List ℕ → Reader → Members
optional name part = record {
  keys = name ∷ [];
  read = λ d. optional_member part name d >>= λ found. Ok (qualified (λ fields. fields) found);
}

-- N_ITER and that many elements
abbrev pub elements : List ℕ → Reader → Members
elements name element = record {
  keys = name ∷ [];
  read = λ d. required_member (bounded_list element 0 31) name d >>= λ xs. Ok (iterated (λ fields. fields) xs);
}

-- an element, and then N_ITER and that many further elements
abbrev pub first_and_further : List ℕ → Reader → Members
first_and_further name element = record {
  keys = name ∷ [];
  read = λ d. required_member (first_and_others element 32) name d
      >>= λ xs. Ok (xs.0 ++ iterated (λ fields. fields) xs.1);
}

-- a variable, and a second one after some of its numbers; after the others the second key has to be absent
abbrev pub with_next : List ℕ → (ℕ → Field) → (ℕ → Bool) → List ℕ → (ℕ → Field) → Members
with_next name variable has next_name next = record {
  keys = name ∷ next_name ∷ [];
  read = λ d. required_member (number_of variable) name d
      >>= λ n. (if has n then required_member (one next) next_name d
      else (absent_member next_name d >>= λ _. Ok []))
      >>= λ later. Ok (variable n ∷ later);
}

-- L_PACKET, and the members that it counts, with the bits before them
abbrev pub sized : ℕ → Members → Members
sized before m = record {
  keys = m.keys;
  read = λ d. m.read d >>= λ body. if is_writable (any_number 13 (before + bit_count body))
      then Ok (any_number 13 (before + bit_count body) ∷ body) else Err (here Range);
}

-- L_PACKET, and a body in hexadecimal digits that has as many bits as L_PACKET counts
abbrev pub kept_body : ℕ → Members
kept_body before = record {
  keys = codes "l_packet" ∷ codes "body" ∷ [];
  read = λ d. required_member (number_of (λ l. allowed_if 13 l (nat_le before l))) (codes "l_packet") d
      >>= λ l. required_member (decoded_body (l - before)) (codes "body") d
      >>= λ body. Ok (any_number 13 l ∷ raw_fields body);
}

-- packets, which have to meet a condition
abbrev pub packets : Reader → (List (List Field) → Bool) → Members
packets packet holds = record {
  keys = codes "packets" ∷ [];
  read = λ d. required_member (unbounded_list packet) (codes "packets") d
      >>= λ all. if holds all then Ok (flat_map (λ fields. fields) all)
      else Err (at_once Range (at_key (codes "packets")));
}

-- ---- objects

-- an object with these members and no others
abbrev pub object : Members → Reader
object m d = only_keys m.keys d >>= λ _. m.read d

-- the members of an object after its number
abbrev pub after_number : List ℕ → Field → Members → Reader
after_number name number m d = only_keys (name ∷ m.keys) d >>= λ _. m.read d >>= λ later. Ok (number ∷ later)

-- an object whose number is read first, and decides which other members it has
abbrev pub by_number : List ℕ → (ℕ → Field) → (ℕ → Members) → Reader
by_number name variable members d =
    tag_member (number_of variable) name d >>= λ n. after_number name (variable n) (members n) d

-- ---- variables that several objects have

-- Q_DIR, L_PACKET and the body
abbrev pub to_train : Members → Members
to_train body = key (codes "q_dir") (up_to 2 2) then sized 23 body

-- Q_SCALE
abbrev pub q_scale : Members
q_scale = key (codes "q_scale") (up_to 2 2)

-- M_LEVELTR or M_LEVEL, and NID_NTC after 1
abbrev pub level : List ℕ → Members
level name = with_next name (up_to 3 4) (λ n. n == 1) (codes "nid_ntc") (any_number 8)

-- NID_C and NID_BG
abbrev pub identity : List ℕ → List ℕ → Members
identity country group = key country (any_number 10) then key group (any_number 14)

-- ---- the parts of packets

-- an element of packet 5: the next balise group
abbrev pub link : Reader
link = object (
    key (codes "d_link") (any_number 15)
    then optional (codes "nid_c") (one (any_number 10))
    then key (codes "nid_bg") (any_number 14)
    then key (codes "q_linkorientation") (any_number 1)
    then key (codes "q_linkreaction") (up_to 2 2)
    then key (codes "q_locacc") (any_number 6))

-- the timer of a section
abbrev pub section_timer : Reader
section_timer = object (
    key (codes "t_sectiontimer") (any_number 10) then key (codes "d_sectiontimerstoploc") (any_number 15))

-- a section before the end section
abbrev pub section : Reader
section = object (
    key (codes "l_section") (any_number 15) then optional (codes "section_timer") section_timer)

-- the timer of the end section
abbrev pub end_timer : Reader
end_timer = object (
    key (codes "t_endtimer") (any_number 10) then key (codes "d_endtimerstartloc") (any_number 15))

-- V_RELEASEDP or V_RELEASEOL
abbrev pub release_speed : List ℕ → Members
release_speed name = key name release_speed_field

-- the danger point
abbrev pub danger_point : Reader
danger_point = object (key (codes "d_dp") (any_number 15) then release_speed (codes "v_releasedp"))

-- the overlap
abbrev pub overlap : Reader
overlap = object (
    key (codes "d_startol") (any_number 15)
    then key (codes "t_ol") (any_number 10)
    then key (codes "d_ol") (any_number 15)
    then release_speed (codes "v_releaseol"))

-- what packets 12 and 15 share
abbrev pub terms : Members
terms =
    key (codes "end_speed") (up_to 7 120)
    then key (codes "end_timeout") (any_number 10)
    then elements (codes "sections") section
    then key (codes "l_endsection") (any_number 15)
    then optional (codes "section_timer") section_timer
    then optional (codes "end_timer") end_timer
    then optional (codes "danger_point") danger_point
    then optional (codes "overlap") overlap

-- an element of packet 21: a gradient up to the next element
abbrev pub gradient_element : Reader
gradient_element = object (
    key (codes "d_gradient") (any_number 15)
    then key (codes "q_gdir") (any_number 1)
    then key (codes "g_a") (any_number 8))

-- another speed for a category of trains
abbrev pub difference : Reader
difference = object (
    key (codes "q_diff") (up_to 2 2) then key (codes "nc") (any_number 4) then key (codes "v_diff") (up_to 7 120))

-- an element of packet 27: a speed up to the next element
abbrev pub speed_element : Reader
speed_element = object (
    key (codes "d_static") (any_number 15)
    then key (codes "v_static") static_speed_field
    then key (codes "q_front") (any_number 1)
    then elements (codes "differences") difference)

-- an order of packet 41: a level, and where the driver acknowledges it
abbrev pub level_order : Reader
level_order = object (level (codes "m_leveltr") then key (codes "l_ackleveltr") (any_number 15))

-- ---- packets

-- what a packet from track to train has after its number
abbrev pub track_members : ℕ → Members
track_members n =
    if n == 0 then key (codes "nid_vbcmk") (any_number 6)
    else (if n == 5 then to_train (q_scale then first_and_further (codes "links") link)
    else (if n == 12 then to_train (q_scale then key (codes "v_main") (up_to 7 120) then terms)
    else (if n == 15 then to_train (q_scale then terms)
    else (if n == 21 then to_train (q_scale then first_and_further (codes "elements") gradient_element)
    else (if n == 27 then to_train (q_scale then first_and_further (codes "elements") speed_element)
    else (if n == 41 then to_train (
    q_scale
    then key (codes "d_leveltr") (any_number 15)
    then first_and_further (codes "transitions") level_order)
    else (key (codes "q_dir") (up_to 2 2) then kept_body 23)))))))

-- a packet from track to train; 255 is the end mark, and the number of no packet
abbrev pub track_packet : Reader
track_packet = by_number (codes "nid_packet") (up_to 8 254) track_members

-- what packets 0 and 1 from train to track share
abbrev pub situation : Members
situation =
    key (codes "d_lrbg") (any_number 15)
    then key (codes "q_dirlrbg") (up_to 2 2)
    then key (codes "q_dlrbg") (up_to 2 2)
    then key (codes "l_doubtover") (any_number 15)
    then key (codes "l_doubtunder") (any_number 15)
    then with_next (codes "q_length") (any_number 2) (λ n. n == 1 || (n == 2)) (codes "l_trainint") (any_number 15)
    then key (codes "v_train") (any_number 7)
    then key (codes "q_dirtrain") (up_to 2 2)
    then key (codes "m_mode") (any_number 4)
    then level (codes "m_level")

-- what a packet from train to track has after its number
abbrev pub train_members : ℕ → Members
train_members n =
    if n == 0 then sized 21 (q_scale then identity (codes "nid_c") (codes "nid_bg") then situation)
    else (if n == 1 then sized 21 (
    q_scale
    then identity (codes "nid_c") (codes "nid_bg")
    then identity (codes "prv_nid_c") (codes "prv_nid_bg")
    then situation)
    else kept_body 21)

-- a packet from train to track; 255 is the end mark, and the number of no packet
abbrev pub train_packet : Reader
train_packet = by_number (codes "nid_packet") (up_to 8 254) train_members

-- ---- telegrams and messages

-- the header, with Q_UPDOWN and Q_MEDIA, which have no keys
abbrev pub header : Members
header =
    unstated (any_number 1 1 ∷ []) (key (codes "m_version") (λ n. allowed_if 7 n (n == 32 || (n == 33)))
    then unstated (any_number 1 0 ∷ []) (
    key (codes "n_pig") (any_number 3)
    then key (codes "n_total") (any_number 3)
    then key (codes "m_dup") (up_to 2 2)
    then key (codes "m_mcount") (any_number 8)
    then identity (codes "nid_c") (codes "nid_bg")
    then key (codes "q_link") (any_number 1)))

-- a telegram: first its number of user bits, as a field that is no variable of the standard
abbrev pub telegram : Reader
telegram = object (
    key (codes "user_bits") (λ n. allowed_if 10 n (n == 210 || (n == 830)))
    then header
    then packets track_packet (λ _. true))

-- what a message has after its number: a packet 15 is among the packets of message 3, and a packet 0 or 1 among
-- those of message 136; L_MESSAGE has no key
abbrev pub message_members : ℕ → Members
message_members n =
    if n == 3 then (
    key (codes "t_train") (any_number 32)
    then key (codes "m_ack") (any_number 1)
    then key (codes "nid_c") (any_number 10)
    then key (codes "nid_bg") (any_number 14)
    then packets track_packet (list_any (has_number 15)))
    else (
    key (codes "t_train") (any_number 32)
    then key (codes "nid_engine") (any_number 24)
    then packets train_packet (list_any (λ p. has_number 0 p || has_number 1 p)))

-- message 3 or 136
abbrev pub message : Reader
message = by_number (codes "nid_message") (λ n. allowed_if 8 n (n == 3 || (n == 136))) message_members
