-- What packets have in common: their number, Q_DIR (most packets from track to train), and Q_SCALE before
-- distances (SUBSET-026, 7.4).
use Rattle.std.specs.Prelude.{◌≡◌, ◌++◌, ◌<◌, ◌≤◌, ◌==◌, not, ℕ, true, List, codes, refl}
use Rattle.etcs_schema.specs.Prelude.{◌∙◌, ap, sym, arith, and_from, le-leb, lt-ltb, true≢false, body_rows, pair_rows, Row, alone, q_dir, q_scale, only, ranged}
use Rattle.etcs_bits.specs.declared.layout.fault.FaultKind.TheVariants.{Spare}
use Rattle.etcs_schema.specs.Choices.{NumberedMembers, with_number}
use Rattle.etcs_schema.specs.Codec.{Object, MemberCodec, closed, key, sized, unstated, whole, ◌then◌}
use Rattle.etcs_schema.specs.Variables.{direction, is_allowed, scale}

-- packet k; its bits have these rows after NID_PACKET
abbrev pub Packet : ℕ → {X : Type 0} → (X → List Row) → Type 0
Packet k rows = NumberedMembers (codes "nid_packet") k rows

-- Q_DIR, and then the packet's other members; the bits have L_PACKET in between
abbrev pub headed : {X : Type 0} {rows : X → List Row} → MemberCodec rows
    → MemberCodec (pair_rows q_dir.rows (body_rows 10 rows))
headed rest = key (codes "q_dir") direction then sized 10 rest

-- Q_SCALE, and then the members with distances
abbrev pub scaled : {X : Type 0} {rows : X → List Row}
    → MemberCodec rows → MemberCodec (pair_rows q_scale.rows rows)
scaled rest = key (codes "q_scale") scale then rest

-- the number, and what follows it
abbrev pub numbered : {k : ℕ} {X : Type 0} {rows : X → List Row} → Packet k rows
    → MemberCodec (λ x. alone (only 8 k Spare) k ++ rows x)
numbered {k = k} p = unstated (only 8 k Spare) k (with_number p).members

-- a packet by itself
abbrev pub packet : {k : ℕ} {X : Type 0} {rows : X → List Row} → Packet k rows → Object X
packet p = whole (closed (numbered p) p.readable)

-- NID_PACKET of a packet in a list: any number but 255, the end mark
pub nid_range : (n : ℕ) → n < 256 → not (n == 255) ≡ true → is_allowed (ranged 8 254 256) n ≡ true
nid_range n small is =
    let other : n ≡ 255 → ⊥ = λ end. true≢false (sym is ∙ ap (λ k. not (k == 255)) end) in
    let le : n ≤ 254 = omega (arith, other) in
    and_from _ _ (lt-ltb n 256 small) (rw (le-leb n 254 le) refl)
