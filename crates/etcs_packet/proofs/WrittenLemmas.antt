-- Which bits end a list, and that a list that was written stands.
use Rattle.std.proofs.Common.{◌≡◌, ℕ, ◌+◌, ◌^◌, ◌<◌, ◌≤◌, Bool, true, false, eqb, ltb, List, [], ◌∷◌, ◌++◌, length, take, drop, refl, sym, ap, subst, ◌∙◌, append_assoc, arith, inl, inr, ◌⊎◌}
use Rattle.std.specs.List.{flat_map}
use Rattle.std.proofs.lemmas.Bool.{lt-ltb, le-ltb, ne_eqb, ltb-true, ltb-false, eqb-true}
use Rattle.std.proofs.lemmas.List.{length-append, length-drop, take_at, drop_at, drop-drop}
use Rattle.etcs_bits.specs.bits.Number.{num, num_of_bits}
use Rattle.etcs_bits.specs.layout.Rows.{Row, Place, Stands, IsSpelled, AreAllowed, join}
use Rattle.etcs_bits.specs.layout.Fields.{Fields, nothing, field, ◌▹◌, sized, AreRowsOf}
use Rattle.etcs_bits.proofs.NumberLemmas.{length-num, num_of_bits-small}
use Rattle.etcs_bits.proofs.StandLemmas.{place_in, same_position, join-append, allowed-append, stands_nothing, stands_then, stands_within, number_stands, standing_number, stands_parts}
use Rattle.etcs_bits.specs.lemmas.RowLemmas.{allowed_first, allowed_second}
use Rattle.etcs_packet.specs.declared.stop.Stop.{Stop}
use Rattle.etcs_packet.specs.declared.stop.Stop.TheVariants as stops
use Rattle.etcs_packet.specs.Lists.{IsHeaded, ends_short, ends, Stand}
use Rattle.etcs_packet.specs.Whole.{start, HeadAndListStand, BeginsWith, AreSpelled}
use Rattle.etcs_packet.specs.Laws.{HasNoMark}
use Rattle.etcs_packet.proofs.EndLemmas.{next_within}

-- ---- the end of a list

-- The bits from a place to the end of the input decide alone whether a list ends there.
pub ends_by_rest : (stop : Stop) (p : Place) (rest : List Bool) → drop p.at p.bits ≡ rest
    → length p.bits ≡ p.at + length rest → ends stop p ≡ ends stop (start rest)
ends_by_rest stop p rest is len = go (ltb (length rest) 8) refl
  where
    go : (b : Bool) → ltb (length rest) 8 ≡ b → ends stop p ≡ ends stop (start rest)
    go true few =
        let here = lt-ltb (length p.bits) (p.at + 8) (omega (arith, len, ltb-true _ _ few)) in
        let there = lt-ltb (length rest) (0 + 8) (omega (arith, ltb-true _ _ few)) in
        rw (here, there) refl
    go false many =
        let here = le-ltb (length p.bits) (p.at + 8) (omega (arith, len, ltb-false _ _ many)) in
        let there = le-ltb (length rest) (0 + 8) (omega (arith, ltb-false _ _ many)) in
        rw (here, there, is) refl

pub mark_ends : (stop : Stop) (fill : List Bool) → ends stop (start (num 8 255 ++ fill)) ≡ true
mark_ends stop fill =
    let bits = num 8 255 ++ fill in
    let long : 8 ≤ length bits = omega (arith, length-append (num 8 255) fill, length-num 8 255) in
    let front : take 8 bits ≡ num 8 255 = take_at (num 8 255) fill 8 (length-num 8 255) in
    let many = le-ltb (length bits) (0 + 8) (omega (arith, long)) in
    rw (many, front, num_of_bits-small 8 255 (omega arith)) refl

pub few_end : (fill : List Bool) → length fill < 8 → ends stops.Message (start fill) ≡ true
few_end fill few = rw (lt-ltb (length fill) (0 + 8) (omega (arith, few))) refl

pub few_go_on : (fill : List Bool) → length fill < 8 → ends stops.Telegram (start fill) ≡ false
few_go_on fill few = rw (lt-ltb (length fill) (0 + 8) (omega (arith, few))) refl

pub ends_behind : (stop : Stop) (front rest : List Bool)
    → ends stop (place_in (front ++ rest) (length front)) ≡ ends stop (start rest)
ends_behind stop front rest =
    ends_by_rest stop (place_in (front ++ rest) (length front)) rest (drop_at front rest (length front) refl) (length-append front rest)

-- a list ends nowhere else
pub ends_only : (stop : Stop) (rest : List Bool) → ends stop (start rest) ≡ true
    → ((stop ≡ stops.Message) × (length rest < 8))
    ⊎ ((fill : List Bool) × (rest ≡ num 8 255 ++ fill))
ends_only stop rest over = go (ltb (length rest) (0 + 8)) refl
  where
    short : (s : Stop) → ends_short s ≡ true → s ≡ stops.Message
    short stops.Telegram e = absurd cc
    short stops.Message e = refl

    go : (b : Bool) → ltb (length rest) (0 + 8) ≡ b
        → ((stop ≡ stops.Message) × (length rest < 8))
        ⊎ ((fill : List Bool) × (rest ≡ num 8 255 ++ fill))
    go true few =
        let said : ends_short stop ≡ true = rw few at over in
        inl (short stop said, omega (arith, ltb-true _ _ few))
    go false many =
        let said : eqb (num_of_bits (take 8 rest)) 255 ≡ true = rw many at over in
        let number : num_of_bits (take 8 rest) ≡ 255 = eqb-true _ _ said in
        let here = (number_stands 8 (start rest) (omega (arith, ltb-false _ _ many))).here in
        inr (drop (0 + 8) rest, here ∙ ap (λ (n : ℕ). num 8 n ++ drop (0 + 8) rest) number)

-- ---- a list that stands is its spellings

pub record Ended {X : Type 0} (rows : X → List Row) (stop : Stop) (xs : List X) (p q : Place) : Type 0 where
  pub spelled : IsSpelled (flat_map rows xs) p q
  pub over : ends stop q ≡ true

pub stand_spelled : {X : Type 0} (rows : X → List Row) (xs : List X) (stop : Stop) (p q : Place)
    → Stand stop rows xs p q → Ended rows stop xs p q
stand_spelled rows [] stop p q (over, there) =
    let here : Ended rows stop [] p p = record { spelled = record { allowed = tt; stands = stands_nothing p }; over = over } in
    subst (λ (z : Place). Ended rows stop [] p z) (sym there) here
stand_spelled rows (x ∷ xs) stop p q (goes, (m, spelled, rest)) =
    let more = stand_spelled rows xs stop m q rest in
    record {
      spelled = record {
        allowed = allowed-append (rows x) (flat_map rows xs) spelled.allowed more.spelled.allowed;
        stands = rw join-append (stands_then (join (rows x)) (join (flat_map rows xs)) p m q spelled.stands more.spelled.stands);
      };
      over = more.over;
    }

pub whole_spelled : {H X : Type 0} (head : H → List Row) (rows : X → List Row) (h : H) (xs : List X)
    (stop : Stop) (bits : List Bool) → BeginsWith stop head rows h xs bits
    → AreSpelled stop head rows h xs bits
whole_spelled head rows h xs stop bits b =
    let w = b.whole in
    let listed = stand_spelled rows xs stop w.middle b.end w.items in
    let first = w.first.stands in
    let list = listed.spelled.stands in
    let same : b.end.bits ≡ bits = list.same ∙ first.same in
    let rest = drop b.end.at bits in
    let within = next_within (flat_map rows xs) w.middle b.end (next_within (head h) (start bits) w.middle (omega arith) w.first) listed.spelled in
    let behind : drop w.middle.at bits ≡ join (flat_map rows xs) ++ rest = rw first.same at list.here in
    let len : length b.end.bits ≡ b.end.at + length rest = omega (arith, within, ap length same, length-drop b.end.at bits) in
    record {
      rest = rest;
      first = w.first.allowed;
      items = listed.spelled.allowed;
      over = sym (ends_by_rest stop b.end rest (ap (drop b.end.at) same) len) ∙ listed.over;
      are = first.here ∙ ap (λ (more : List Bool). join (head h) ++ more) behind;
    }

-- ---- a list that was written

-- the bits `a` stand here, and after them the bits `rest` are left
record Next (a rest : List Bool) (p : Place) : Type 0 where
  stands : Stands a p (place_in p.bits (p.at + length a))
  after : drop (p.at + length a) p.bits ≡ rest

is_next : (a rest : List Bool) (p : Place) → drop p.at p.bits ≡ a ++ rest → Next a rest p
is_next a rest p e =
    let after : drop (p.at + length a) p.bits ≡ rest = sym (drop-drop (length a) p.at p.bits) ∙ ap (drop (length a)) e ∙ drop_at a rest (length a) refl in
    record { stands = record { same = refl; here = e ∙ ap (λ (bits : List Bool). a ++ bits) (sym after); past = refl }; after = after }

-- a list does not end where a record stands that does not begin with the end mark
not_end : (fields : Fields) (rows : List Row) (stop : Stop) (p q : Place) → IsHeaded fields
    → HasNoMark fields → p.at ≤ length p.bits → AreRowsOf fields rows → IsSpelled rows p q
    → ends stop p ≡ false
not_end (field x next) rows stop p q head mark within (n, more, is, w) spelled =
    let first = rw is at spelled in
    let past = place_in p.bits (p.at + length (num 8 n)) in
    let eight : Stands (num 8 n) p past = subst (λ (k : ℕ). Stands (num k n) p (place_in p.bits (p.at + length (num k n)))) head.0 (stands_parts (num x.width n) (join more) p q first.stands).0 in
    let small : n < 2 ^ 8 = subst (λ (k : ℕ). n < 2 ^ k) head.0 first.allowed.0.0 in
    let fits : p.at + 8 ≤ length p.bits = omega (arith, stands_within (num 8 n) p past within eight, length-num 8 n) in
    let other : n ≡ 255 → ⊥ = λ h. absurd (let a = first.allowed.0.1 in let b = ap x.allows h in cc (a, b, mark)) in
    rw (le-ltb (length p.bits) (p.at + 8) fits, standing_number 8 n p past small eight, ne_eqb n 255 other) refl
not_end nothing rows stop p q head mark within w spelled = absurd head
not_end (a ▹ b) rows stop p q head mark within w spelled = absurd head
not_end (sized before body) rows stop p q head mark within w spelled = absurd head

-- a list that stands, and ends `n` bits further on
record Listed {X : Type 0} (rows : X → List Row) (stop : Stop) (xs : List X) (p : Place) (n : ℕ) : Type 0 where
  end : Place
  same : end.bits ≡ p.bits
  past : end.at ≡ p.at + n
  stand : Stand stop rows xs p end

list_written : {X : Type 0} (rows : X → List Row) (xs : List X) (stop : Stop) (fields : Fields)
    (rest : List Bool) (p : Place) → IsHeaded fields → HasNoMark fields
    → ((x : X) → AreRowsOf fields (rows x)) → AreAllowed (flat_map rows xs)
    → ends stop (start rest) ≡ true → p.at ≤ length p.bits
    → drop p.at p.bits ≡ join (flat_map rows xs) ++ rest
    → Listed rows stop xs p (length (join (flat_map rows xs)))
list_written rows [] stop fields rest p head mark are_rows allowed over within e =
    let len : length p.bits ≡ p.at + length rest = omega (arith, within, ap length e, length-drop p.at p.bits) in
    record { end = p; same = refl; past = omega arith; stand = (ends_by_rest stop p rest e len ∙ over, refl) }
list_written rows (x ∷ xs) stop fields rest p head mark are_rows allowed over within e =
    let one = join (rows x) in
    let others = join (flat_map rows xs) in
    let both : join (flat_map rows (x ∷ xs)) ≡ one ++ others = join-append (rows x) (flat_map rows xs) in
    let next = is_next one (others ++ rest) p (e ∙ ap (λ (bits : List Bool). bits ++ rest) both ∙ append_assoc one others rest) in
    let m = place_in p.bits (p.at + length one) in
    let spelled : IsSpelled (rows x) p m = record { allowed = allowed_first (rows x) (flat_map rows xs) allowed; stands = next.stands } in
    let more = list_written rows xs stop fields rest m head mark are_rows (allowed_second (rows x) (flat_map rows xs) allowed) over (stands_within one p m within next.stands) next.after in
    record {
      end = more.end;
      same = more.same;
      past = omega (arith, more.past, ap length both, length-append one others);
      stand = (not_end fields (rows x) stop p m head mark within (are_rows x) spelled, (m, spelled, more.stand));
    }

pub written_stands : {X : Type 0} (rows : X → List Row) (xs : List X) (stop : Stop) (fields : Fields)
    (front rest bits : List Bool) → IsHeaded fields → HasNoMark fields
    → ((x : X) → AreRowsOf fields (rows x)) → AreAllowed (flat_map rows xs)
    → ends stop (start rest) ≡ true → bits ≡ front ++ (join (flat_map rows xs) ++ rest)
    → Stand stop rows xs (place_in bits (length front)) (place_in bits (length front + length (join (flat_map rows xs))))
written_stands rows xs stop fields front rest bits head mark are_rows allowed over is =
    let list = join (flat_map rows xs) in
    let p = place_in bits (length front) in
    let within : length front ≤ length bits = omega (arith, ap length is, length-append front (list ++ rest)) in
    let e : drop (length front) bits ≡ list ++ rest = ap (drop (length front)) is ∙ drop_at front (list ++ rest) (length front) refl in
    let listed = list_written rows xs stop fields rest p head mark are_rows allowed over within e in
    subst (λ (q : Place). Stand stop rows xs p q) (same_position listed.end (place_in bits (length front + length list)) listed.same listed.past) listed.stand

-- ---- a whole that was written

pub whole_written : {H X : Type 0} (head : H → List Row) (rows : X → List Row) (h : H) (xs : List X)
    (stop : Stop) (item : Fields) (rest bits : List Bool) → IsHeaded item → HasNoMark item
    → ((x : X) → AreRowsOf item (rows x)) → AreAllowed (head h) → AreAllowed (flat_map rows xs)
    → ends stop (start rest) ≡ true → bits ≡ join (head h) ++ (join (flat_map rows xs) ++ rest)
    → HeadAndListStand stop head rows h xs (start bits) (place_in bits (length (join (head h)) + length (join (flat_map rows xs))))
whole_written head rows h xs stop item rest bits headed mark are_rows first allowed over is =
    let one = join (head h) in
    let next = is_next one (join (flat_map rows xs) ++ rest) (start bits) is in
    let behind = same_position (place_in bits (0 + length one)) (place_in bits (length one)) refl (omega arith) in
    record {
      middle = place_in bits (length one);
      first = record { allowed = first; stands = subst (λ (q : Place). Stands one (start bits) q) behind next.stands };
      items = written_stands rows xs stop item one rest bits headed mark are_rows allowed over is;
    }

-- bits that are spelled begin with the head and the list
pub whole_written_begins : {H X : Type 0} (head : H → List Row) (rows : X → List Row) (h : H) (xs : List X)
    (stop : Stop) (item : Fields) (bits : List Bool) → IsHeaded item → HasNoMark item
    → ((x : X) → AreRowsOf item (rows x)) → AreSpelled stop head rows h xs bits
    → BeginsWith stop head rows h xs bits
whole_written_begins head rows h xs stop item bits headed mark are_rows s = record {
  end = place_in bits (length (join (head h)) + length (join (flat_map rows xs)));
  whole = whole_written head rows h xs stop item s.rest bits headed mark are_rows s.first s.items s.over s.are;
}
