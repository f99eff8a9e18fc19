-- The tables of variables, as whoever looks for the first fault of bits goes through them: which variable comes
-- next, how many bits it has, and which of its numbers are allowed (SUBSET-026, 7.4 and 7.5). The variables are
-- those of `Telegram`, `TrackPackets`, `TrainPackets` and `Message`, in the same order.
use Rattle.std.specs.Prelude.{ℕ, ◌+◌, ◌-◌, ◌==◌, ◌||◌, nat_le, Bool, true, false, if◌then◌else◌}
use Rattle.etcs_bits.specs.declared.layout.fault.FaultKind.{FaultKind}
use Rattle.etcs_bits.specs.declared.layout.fault.FaultKind.TheVariants as kinds
use Rattle.etcs_bits.specs.layout.Rows.{Variable}
use Rattle.etcs_bits.specs.layout.Fields.{Fields, nothing, field, ◌▹◌, sized, one, option, counted}
use Rattle.etcs_bits.specs.layout.Combined.{l_kept}
use Rattle.etcs_profile.specs.PacketNumbers.{nid_track}

-- ---- variables

-- a variable of w bits; a number that does not pass the test has this fault
abbrev pub tested : ℕ → (ℕ → Bool) → FaultKind → Variable
tested w test why = record { width = w; allows = test; refusal = why; closes = false }

-- a variable of w bits; any number is allowed
abbrev pub whole : ℕ → Variable
whole w = tested w (λ _. true) kinds.Spare

-- w bits; any number is allowed
abbrev pub bits : ℕ → Fields
bits w = one (whole w)

-- w bits; a number that does not pass the test is spare
abbrev pub bits_if : ℕ → (ℕ → Bool) → Fields
bits_if w test = one (tested w test kinds.Spare)

-- w bits; numbers above the last one are spare
abbrev pub bits_up_to : ℕ → ℕ → Fields
bits_up_to w last = bits_if w (λ n. nat_le n last)

-- a qualifier of one bit, and the variables that are there if it is 1
abbrev pub if_one : Fields → Fields
if_one fields = option (whole 1) fields

-- N_ITER, 5 bits, and the variables that many times
abbrev pub n_times : Fields → Fields
n_times fields = counted (whole 5) fields

-- V_RELEASEDP and V_RELEASEOL
abbrev pub release_speed : Fields
release_speed = bits_if 7 (λ n. nat_le n 120 || nat_le 126 n)

-- M_LEVELTR or M_LEVEL, and NID_NTC after 1
abbrev pub level_table : Fields
level_table = field (tested 3 (λ n. nat_le n 4) kinds.Spare) (λ n. if n == 1 then bits 8 else nothing)

-- L_PACKET, which counts the bits before it too, and that many other bits
abbrev pub kept_table : ℕ → Fields
kept_table before = field (l_kept before) (λ l. bits (l - (before + 13)))

-- ---- the header of a telegram

abbrev pub header_table : Fields
header_table =
    one (tested 1 (λ n. n == 1) kinds.Downlink)  -- Q_UPDOWN
    ▹ one (tested 7 (λ n. n == 32 || (n == 33)) kinds.Version)  -- M_VERSION
    ▹ one (tested 1 (λ n. n == 0) kinds.Loop)  -- Q_MEDIA
    ▹ bits 3  -- N_PIG
    ▹ bits 3  -- N_TOTAL
    ▹ bits_up_to 2 2  -- M_DUP
    ▹ bits 8  -- M_MCOUNT
    ▹ (bits 10 ▹ bits 14)  -- NID_C, NID_BG
    ▹ bits 1  -- Q_LINK

-- ---- packets from track to train

-- Q_DIR, L_PACKET and the body; L_PACKET counts all bits of the packet
abbrev pub to_train : Fields → Fields
to_train body = bits_up_to 2 2 ▹ sized 10 body

-- Q_SCALE, an element, N_ITER, elements
abbrev pub profile_table : Fields → Fields
profile_table element = bits_up_to 2 2 ▹ element ▹ n_times element

-- packet 5: D_LINK, Q_NEWCOUNTRY with NID_C, NID_BG, Q_LINKORIENTATION, Q_LINKREACTION, Q_LOCACC
abbrev pub link_table : Fields
link_table = bits 15 ▹ if_one (bits 10) ▹ bits 14 ▹ bits 1 ▹ bits_up_to 2 2 ▹ bits 6

-- packets 12 and 15: V_LOA, T_LOA, N_ITER with the sections, L_ENDSECTION, and four parts with a qualifier each
abbrev pub terms_table : Fields
terms_table =
    bits_up_to 7 120
    ▹ bits 10
    ▹ n_times (bits 15 ▹ if_one (bits 10 ▹ bits 15))  -- L_SECTION, T_SECTIONTIMER, D_SECTIONTIMERSTOPLOC
    ▹ bits 15
    ▹ if_one (bits 10 ▹ bits 15)  -- T_SECTIONTIMER, D_SECTIONTIMERSTOPLOC
    ▹ if_one (bits 10 ▹ bits 15)  -- T_ENDTIMER, D_ENDTIMERSTARTLOC
    ▹ if_one (bits 15 ▹ release_speed)  -- D_DP, V_RELEASEDP
    ▹ if_one (bits 15 ▹ bits 10 ▹ bits 15 ▹ release_speed)  -- D_STARTOL, T_OL, D_OL, V_RELEASEOL

-- packet 21: D_GRADIENT, Q_GDIR, G_A
abbrev pub gradient_table : Fields
gradient_table = bits 15 ▹ bits 1 ▹ bits 8

-- packet 27: D_STATIC, V_STATIC, Q_FRONT, N_ITER with Q_DIFF, NC_CDDIFF or NC_DIFF, V_DIFF
abbrev pub speed_table : Fields
speed_table =
    bits 15 ▹ bits_if 7 (λ n. nat_le n 120 || (n == 127)) ▹ bits 1
    ▹ n_times (bits_up_to 2 2 ▹ bits 4 ▹ bits_up_to 7 120)

-- packet 41: Q_SCALE, D_LEVELTR, an order, N_ITER, orders; an order has a level and L_ACKLEVELTR
abbrev pub orders_table : Fields
orders_table = bits_up_to 2 2 ▹ bits 15 ▹ (level_table ▹ bits 15) ▹ n_times (level_table ▹ bits 15)

-- what follows the number of a packet
abbrev pub track_next : ℕ → Fields
track_next n =
    if n == 0 then bits 6  -- NID_VBCMK
    else (if n == 5 then to_train (profile_table link_table)
    else (if n == 12 then to_train (bits_up_to 2 2 ▹ bits_up_to 7 120 ▹ terms_table)  -- Q_SCALE, V_MAIN
    else (if n == 15 then to_train (bits_up_to 2 2 ▹ terms_table)  -- Q_SCALE
    else (if n == 21 then to_train (profile_table gradient_table)
    else (if n == 27 then to_train (profile_table speed_table)
    else (if n == 41 then to_train orders_table
    else (bits_up_to 2 2 ▹ kept_table 10)))))))

-- a packet: NID_PACKET, and what follows
abbrev pub track_table : Fields
track_table = field nid_track track_next

-- ---- packets from train to track

-- packets 0 and 1: D_LRBG, Q_DIRLRBG, Q_DLRBG, L_DOUBTOVER, L_DOUBTUNDER, Q_LENGTH with L_TRAININT after 1 and 2,
-- V_TRAIN, Q_DIRTRAIN, M_MODE, a level
abbrev pub situation_table : Fields
situation_table =
    bits 15 ▹ bits_up_to 2 2 ▹ bits_up_to 2 2 ▹ bits 15 ▹ bits 15
    ▹ field (whole 2) (λ n. if n == 1 || (n == 2) then bits 15 else nothing)
    ▹ bits 7 ▹ bits_up_to 2 2 ▹ bits 4 ▹ level_table

-- what follows the number of a packet
abbrev pub train_next : ℕ → Fields
train_next n =
    if n == 0 then sized 8 (bits_up_to 2 2 ▹ bits 24 ▹ situation_table)  -- Q_SCALE, NID_LRBG
    else (if n == 1 then sized 8 (bits_up_to 2 2 ▹ bits 24 ▹ bits 24 ▹ situation_table)  -- and NID_PRVLRBG
    else kept_table 8)

-- a packet: NID_PACKET, and what follows
abbrev pub train_table : Fields
train_table = field nid_track train_next

-- ---- the head of a message of so many bytes

-- L_MESSAGE, T_TRAIN; in message 3 M_ACK and NID_LRBG, in message 136 NID_ENGINE
abbrev pub message_next : ℕ → Bool → Fields
message_next count is_3 =
    one (tested 10 (λ l. l == count) kinds.Length)
    ▹ bits 32
    ▹ (if is_3 then bits 1 ▹ bits 24 else bits 24)

-- NID_MESSAGE, and what follows
abbrev pub message_table : ℕ → Fields
message_table count =
    field (tested 8 (λ n. n == 3 || (n == 136)) kinds.MessageKind) (λ n. message_next count (n == 3))
