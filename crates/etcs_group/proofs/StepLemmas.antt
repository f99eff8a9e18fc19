-- Steps of the calls that read a group and put a message together.
use Rattle.std.proofs.Common.{◌≡◌, ◌≢◌, ℕ, zero, suc, ◌+◌, ◌-◌, ◌<◌, Bool, true, false, not, cond, ◌&&◌, ◌||◌, eqb, ltb, List, [], ◌∷◌, ◌++◌, take, drop, filter, Result, Ok, Err, OnErr, refl, sym, ap, ◌∙◌, arith}
use Rattle.std.specs.List.{list_any, flat_map, enumerate_from}
use Rattle.std.proofs.lemmas.Option.{none-some, same_Some, slice_get_within, get_or_from_slice_get}
use Rattle.std.proofs.lemmas.List.{drop_more, append_assoc}
use Rattle.std.proofs.lemmas.Bool.{lt-ltb, ne_eqb}
use Rattle.etcs_profile.specs.declared.run.Run.{Run}
use Rattle.etcs_profile.specs.declared.track.TrackPacket.{TrackPacket}
use Rattle.etcs_telegram.specs.Record.{Telegram}
use Rattle.etcs_group.specs.Places.{At, element_passes}
use Rattle.etcs_group.specs.Assembly.{are_in_order, names, is_misplaced, is_miscounted}
use Rattle.etcs_group.specs.Packets.{held_packets, given_packets}
use Rattle.etcs_group.proofs.PlaceLemmas.{element_passes-at}
use Rattle.etcs_group.proofs.RefusalLemmas.{misplaces, miscounts}

-- a fact that holds anyway holds of an error
pub on_err : {A E : Type 0} (r : Result A E) (P : Type 0) → P → OnErr r P
on_err (Ok x) P p = tt
on_err (Err e) P p = p

-- ---- refusals

-- a telegram whose position is not above its total is misplaced if and only if it does not come after
-- the one before
pub misplaced-is : (run : Run) (s : List Telegram) (i : ℕ) (t u : Telegram) → 0 < i → At s (i - 1) t → At s i u → ltb u.header.total u.header.position ≡ false → not (are_in_order run t u) ≡ is_misplaced run s i
misplaced-is run s i t u there a b inside = sym (
    element_passes-at s i (misplaces run s i) u b
    ∙ ap (λ x. x || (ltb 0 i && element_passes s (i - 1) (λ t. not (are_in_order run t u)))) inside
    ∙ ap (λ x. x && element_passes s (i - 1) (λ t. not (are_in_order run t u))) (lt-ltb 0 i there)
    ∙ element_passes-at s (i - 1) (λ t. not (are_in_order run t u)) t a
    )

pub miscounted-is : (s : List Telegram) (i : ℕ) (t : Telegram) (counter : ℕ) (answer : Bool) → At s i t → t.header.counter ≡ counter → counter < 254 → list_any (λ u. ltb u.header.counter 254 && not (eqb u.header.counter counter)) (take i s) ≡ answer → is_miscounted s i ≡ answer
miscounted-is s i t counter answer at same small h =
    let other : counter ≢ 254 = omega arith in
    let e : eqb counter 254 ≡ false = ne_eqb counter 254 other in
    let f : ltb counter 254 ≡ true = lt-ltb counter 254 small in
    element_passes-at s i (miscounts (take i s)) t at ∙ rw (same, e, f) h

-- ---- packets

-- the packets of ts, which are the part of s from place i on
abbrev pub packets_from : Run → List Telegram → ℕ → List Telegram → List TrackPacket
packets_from run s i ts = flat_map (λ (e : ℕ × Telegram). given_packets run s e.0 e.1) (enumerate_from i ts)

packets_step : (run : Run) (s : List Telegram) (i : ℕ) (t : Telegram) → At s i t → packets_from run s i (drop i s) ≡ given_packets run s i t ++ packets_from run s (i + 1) (drop (i + 1) s)
packets_step run s i t at =
    let lt = slice_get_within s i t at in
    let e = get_or_from_slice_get s i t t at in
    ap (packets_from run s i) (drop_more s i t lt ∙ ap (λ x. x ∷ drop (i + 1) s) e)

-- one more telegram that adds its packets, and one that is silent
pub packets_more : (run : Run) (s : List Telegram) (i : ℕ) (t : Telegram) (xs ys all : List TrackPacket) → At s i t → xs ++ packets_from run s i (drop i s) ≡ all → list_any (λ u. names t u.header.position) (take i s) ≡ false → ys ≡ xs ++ held_packets run t → ys ++ packets_from run s (i + 1) (drop (i + 1) s) ≡ all
packets_more run s i t xs ys all at h quiet e =
    let rest = packets_from run s (i + 1) (drop (i + 1) s) in
    let step : packets_from run s i (drop i s) ≡ held_packets run t ++ rest = packets_step run s i t at ∙ ap (λ b. cond b [] (held_packets run t) ++ rest) quiet in
    ap (λ l. l ++ rest) e ∙ append_assoc xs (held_packets run t) rest ∙ ap (λ l. xs ++ l) (sym step) ∙ h

pub packets_same : (run : Run) (s : List Telegram) (i : ℕ) (t : Telegram) (xs all : List TrackPacket) → At s i t → xs ++ packets_from run s i (drop i s) ≡ all → list_any (λ u. names t u.header.position) (take i s) ≡ true → xs ++ packets_from run s (i + 1) (drop (i + 1) s) ≡ all
packets_same run s i t xs all at h silent =
    let rest = packets_from run s (i + 1) (drop (i + 1) s) in
    let step : packets_from run s i (drop i s) ≡ rest = packets_step run s i t at ∙ ap (λ b. cond b [] (held_packets run t) ++ rest) silent in
    ap (λ l. xs ++ l) (sym step) ∙ h

-- ---- if there is something to return, the call may allocate

pub filter-some : {X : Type 0} (test : X → Bool) (xs : List X) (i : ℕ) (x : X) → At xs i x → test x ≡ true → filter test xs ≢ []
filter-some test [] i x at e = absurd (none-some x at)
filter-some {X} test (y ∷ ys) zero x at e =
    let here : test y ≡ true = ap test (same_Some y x at) ∙ e in
    λ none. let some : y ∷ filter test ys ≡ [] = sym (ap (λ b. cond b (y ∷ filter test ys) (filter test ys)) here) ∙ none in cc
filter-some {X} test (y ∷ ys) (suc i) x at e = go (test y) (filter-some test ys i x at e)
  where
    go : (b : Bool) → filter test ys ≢ [] → cond b (y ∷ filter test ys) (filter test ys) ≢ []
    go true some = λ none. cc
    go false some = some

nil_left : {X : Type 0} (xs ys : List X) → xs ++ ys ≡ [] → xs ≡ []
nil_left [] ys e = refl
nil_left (x ∷ xs) ys e = absurd cc

nil_right : {X : Type 0} (xs ys : List X) → xs ++ ys ≡ [] → ys ≡ []
nil_right [] ys e = e
nil_right (x ∷ xs) ys e = absurd cc

-- a telegram that is not silent and has packets
pub packets_some : (run : Run) (s : List Telegram) (i : ℕ) (t : Telegram) (xs all : List TrackPacket) → At s i t → xs ++ packets_from run s i (drop i s) ≡ all → list_any (λ u. names t u.header.position) (take i s) ≡ false → held_packets run t ≢ [] → all ≢ []
packets_some run s i t xs all at h quiet some none =
    let rest = packets_from run s (i + 1) (drop (i + 1) s) in
    let step : packets_from run s i (drop i s) ≡ held_packets run t ++ rest = packets_step run s i t at ∙ ap (λ b. cond b [] (held_packets run t) ++ rest) quiet in
    some (nil_left (held_packets run t) rest (nil_right xs (held_packets run t ++ rest) (ap (λ l. xs ++ l) (sym step) ∙ h ∙ none)))
