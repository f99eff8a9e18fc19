-- The numbers in the rows of a packet decide the packet, and the parts of a telegram the telegram.
use Rattle.std.proofs.Common.{◌≡◌, ℕ, ◌+◌, true, false, eqb, List, [], ◌∷◌, ◌++◌, map, refl, sym, ap, ap₂, subst, ◌∙◌}
use Rattle.std.specs.Bool.{Decides, beq}
use Rattle.std.specs.Cmp.{booleans_Decides}
use Rattle.std.specs.Cmp.Lexicographic.{pointwise}
use Rattle.std.proofs.lemmas.Bool.{both_ways, eqb-true, eq-eqb, and_parts, and_from}
use Rattle.std.proofs.lemmas.Bool.Decides.{Decides-and, Decides-eqb}
use Rattle.std.proofs.lemmas.List.{map-append, append_assoc}
use Rattle.std.proofs.lemmas.Slice.Eq.{slice_eq-Decides}
use Rattle.etcs_bits.specs.declared.variables.duplicate.Dup.{Dup}
use Rattle.etcs_bits.specs.declared.variables.identity.Identity.{Identity}
use Rattle.etcs_bits.specs.declared.variables.version.Version.{Version}
use Rattle.etcs_bits.specs.variables.Variables.{dup_number, version_number}
use Rattle.etcs_bits.specs.variables.VariableValues.{dup_value, version_value}
use Rattle.etcs_bits.specs.lemmas.VariableLemmas.{dup_names, version_names}
use Rattle.etcs_bits.specs.layout.Rows.{Row, row, width}
use Rattle.etcs_bits.specs.layout.Fields.{Fields, nothing, field, ◌▹◌, sized, l_packet, AreRowsOf}
use Rattle.etcs_profile.specs.Track.{track_packet}
use Rattle.etcs_profile.specs.declared.track.TrackPacket.{TrackPacket}
use Rattle.etcs_telegram.specs.Record.{Telegram}
use Rattle.etcs_telegram.specs.declared.header.Header.{Header}
use Rattle.etcs_telegram.specs.declared.size.Size.{Size}
use Rattle.etcs_telegram.specs.declared.size.Size.TheVariants as sizes
use Rattle.etcs_check.specs.Duplicates.{packet_numbers, same_packet, same_identity, same_size, same_header, same_telegram}
use Rattle.etcs_check.specs.Laws.{PacketsAreTheirNumbers, TelegramsAreTheirParts}

numbers : List Row → List ℕ
numbers rows = map (λ r. r.number) rows

-- complete lists of one table's rows, with other numbers after them, are equal if the numbers are equal
rows_decided : (fields : Fields) (xs ys : List Row) (us vs : List ℕ) → AreRowsOf fields xs → AreRowsOf fields ys → numbers xs ++ us ≡ numbers ys ++ vs → (xs ≡ ys) × (us ≡ vs)
unfolding numbers
rows_decided nothing xs ys us vs p q e = (p ∙ sym q, rw (p, q) at e)
rows_decided (field x next) xs ys us vs p q e =
    let h : p.0 ∷ (numbers p.1 ++ us) ≡ q.0 ∷ (numbers q.1 ++ vs) = rw (p.2, q.2) at e in
    let n : p.0 ≡ q.0 = cc in
    let more : numbers p.1 ++ us ≡ numbers q.1 ++ vs = cc in
    let r = rows_decided (next q.0) p.1 q.1 us vs (subst (λ k. AreRowsOf (next k) p.1) n p.3) q.3 more in
    (p.2 ∙ ap₂ (λ k more. row x k ∷ more) n r.0 ∙ sym q.2, r.1)
rows_decided (a ▹ b) xs ys us vs p q e =
    let h : numbers p.0 ++ (numbers p.1 ++ us) ≡ numbers q.0 ++ (numbers q.1 ++ vs) = sym (both p.0 p.1 us) ∙ (rw (p.2, q.2) at e) ∙ both q.0 q.1 vs in
    let first = rows_decided a p.0 q.0 (numbers p.1 ++ us) (numbers q.1 ++ vs) p.3 q.3 h in
    let second = rows_decided b p.1 q.1 us vs p.4 q.4 first.1 in
    (p.2 ∙ ap₂ ◌++◌ first.0 second.0 ∙ sym q.2, second.1)
  where
    both : (f s : List Row) (ws : List ℕ) → numbers (f ++ s) ++ ws ≡ numbers f ++ (numbers s ++ ws)
    both f s ws = ap (λ l. l ++ ws) (map-append (λ (r : Row). r.number) f s) ∙ append_assoc (numbers f) (numbers s) ws
rows_decided (sized before body) xs ys us vs p q e =
    let h : (before + width xs) ∷ (numbers p.0 ++ us) ≡ (before + width ys) ∷ (numbers q.0 ++ vs) = sym (headed xs p.0 us p.1) ∙ e ∙ headed ys q.0 vs q.1 in
    let n : before + width xs ≡ before + width ys = cc in
    let more : numbers p.0 ++ us ≡ numbers q.0 ++ vs = cc in
    let r = rows_decided body p.0 q.0 us vs p.2 q.2 more in
    (p.1 ∙ ap₂ (λ k more. row l_packet k ∷ more) n r.0 ∙ sym q.1, r.1)
  where
    headed : (rows more : List Row) (ws : List ℕ) → rows ≡ row l_packet (before + width rows) ∷ more → numbers rows ++ ws ≡ (before + width rows) ∷ (numbers more ++ ws)
    headed rows more ws is = ap (λ l. numbers l ++ ws) is

-- packets with equal numbers are equal
packet_decided : (p q : TrackPacket) → packet_numbers p ≡ packet_numbers q → p ≡ q
unfolding numbers
packet_decided p q e =
    let h : numbers (track_packet.rows p) ++ [] ≡ numbers (track_packet.rows q) ++ [] = ap (λ l. l ++ []) e in
    let rows = rows_decided track_packet.fields (track_packet.rows p) (track_packet.rows q) [] [] (track_packet.laid.are_rows p) (track_packet.laid.are_rows q) h in
    sym (track_packet.laid.is_record p) ∙ ap track_packet.of rows.0 ∙ track_packet.laid.is_record q

-- two packets are equal if and only if their numbers are
pub Decides-same_packet : (p q : TrackPacket) → Decides (same_packet p q) (p ≡ q)
Decides-same_packet p q =
    let d = slice_eq-Decides Decides-eqb (packet_numbers p) (packet_numbers q) (same_packet p q) refl in
    (λ h. packet_decided p q (d.0 h), λ e. d.1 (ap packet_numbers e))

-- two lists of packets are equal if and only if the numbers of their packets are
pub Decides-same_packets : (xs ys : List TrackPacket) → Decides (pointwise same_packet xs ys) (xs ≡ ys)
Decides-same_packets xs ys = slice_eq-Decides Decides-same_packet xs ys (pointwise same_packet xs ys) refl

pub packets_are_their_numbers : PacketsAreTheirNumbers
packets_are_their_numbers p q = Decides-same_packet p q

-- ---- identities, versions and marks

pub identity_same : (x y : Identity) → x.country ≡ y.country → x.group ≡ y.group → x ≡ y
identity_same x y e f = λ i. record { country = e i; group = f i }

pub Decides-same_identity : (x y : Identity) → Decides (same_identity x y) (x ≡ y)
Decides-same_identity x y =
    let parts : Decides (same_identity x y) ((x.country ≡ y.country) × (x.group ≡ y.group)) = Decides-and (eqb x.country y.country) (eqb x.group y.group) (Decides-eqb _ _) (Decides-eqb _ _) in
    (λ h. let p = parts.0 h in identity_same x y p.0 p.1, λ e. parts.1 (ap (λ (z : Identity). z.country) e, ap (λ (z : Identity). z.group) e))

-- two values are equal if and only if their numbers are
Decides-number : {X : Type 0} (number : X → ℕ) (of : ℕ → X) → ((x : X) → of (number x) ≡ x) → (x y : X) → Decides (eqb (number x) (number y)) (x ≡ y)
Decides-number number of again x y = (λ h. sym (again x) ∙ ap of (eqb-true _ _ h) ∙ again y, λ e. eq-eqb _ _ (ap number e))

pub Decides-version : (v w : Version) → Decides (eqb (version_number v) (version_number w)) (v ≡ w)
Decides-version = Decides-number version_number version_value (λ v. (version_names v).0)

pub Decides-same_mark : (m n : Dup) → Decides (eqb (dup_number m) (dup_number n)) (m ≡ n)
Decides-same_mark = Decides-number dup_number dup_value (λ m. (dup_names m).0)

-- ---- telegrams

size_says : (s r : Size) → same_size s r ≡ true → s ≡ r
size_says sizes.Short sizes.Short h = refl
size_says sizes.Long sizes.Long h = refl
size_says s r h = absurd (both_ways false refl h)

size_self : (s : Size) → same_size s s ≡ true
size_self sizes.Short = refl
size_self sizes.Long = refl

-- two headers have equal fields
abbrev HasSameFields : Header → Header → Type 0
HasSameFields g h = (g.version ≡ h.version) × ((g.position ≡ h.position) × ((g.total ≡ h.total) × ((g.dup ≡ h.dup) × ((g.counter ≡ h.counter) × ((g.identity ≡ h.identity) × (g.linked ≡ h.linked))))))

Decides-same_header : (g h : Header) → Decides (same_header g h) (g ≡ h)
Decides-same_header g h =
    let parts : Decides (same_header g h) (HasSameFields g h) =
    Decides-and (eqb (version_number g.version) (version_number h.version)) _ (Decides-version g.version h.version)
    (Decides-and (eqb g.position h.position) _ (Decides-eqb g.position h.position)
    (Decides-and (eqb g.total h.total) _ (Decides-eqb g.total h.total)
    (Decides-and (eqb (dup_number g.dup) (dup_number h.dup)) _ (Decides-same_mark g.dup h.dup)
    (Decides-and (eqb g.counter h.counter) _ (Decides-eqb g.counter h.counter)
    (Decides-and (same_identity g.identity h.identity) (beq g.linked h.linked) (Decides-same_identity g.identity h.identity) (booleans_Decides g.linked h.linked)))))) in (
      λ s. let p = parts.0 s in λ i. record { version = p.0 i; position = p.1.0 i; total = p.1.1.0 i; dup = p.1.1.1.0 i; counter = p.1.1.1.1.0 i; identity = p.1.1.1.1.1.0 i; linked = p.1.1.1.1.1.1 i },
      λ e. parts.1 (subst (HasSameFields g) e (refl, (refl, (refl, (refl, (refl, (refl, refl))))))),
    )

pub Decides-same_telegram : (t u : Telegram) → Decides (same_telegram t u) (t ≡ u)
Decides-same_telegram t u = (
  λ h.
      let a = and_parts (same_size t.size u.size) _ h in
      let b = and_parts (same_header t.header u.header) (pointwise same_packet t.packets u.packets) a.1 in
      let s = size_says t.size u.size a.0 in
      let g = (Decides-same_header t.header u.header).0 b.0 in
      let p = (Decides-same_packets t.packets u.packets).0 b.1 in
      λ i. record { size = s i; header = g i; packets = p i },
  λ e. subst (λ x. same_telegram t x ≡ true) e (and_from (same_size t.size t.size) _ (size_self t.size)
      (and_from (same_header t.header t.header) (pointwise same_packet t.packets t.packets) ((Decides-same_header t.header t.header).1 refl) ((Decides-same_packets t.packets t.packets).1 refl))),
)

pub telegrams_are_their_parts : TelegramsAreTheirParts
telegrams_are_their_parts t u = Decides-same_telegram t u
