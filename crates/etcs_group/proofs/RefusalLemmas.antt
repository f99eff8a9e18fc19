-- A list is accepted if and only if there is no reason to refuse it.
use Rattle.std.proofs.Common.{◌≡◌, ◌≢◌, ℕ, zero, suc, ◌+◌, ◌-◌, ◌<◌, ◌≤◌, Bool, true, false, not, ◌&&◌, ◌||◌, eqb, ltb, cond, List, [], ◌∷◌, length, take, Option, Some, None, refl, sym, ap, subst, ◌∙◌, arith, option_map}
use Rattle.std.specs.Cmp.{booleans_Decides}
use Rattle.std.specs.Option.{option_map_or, option_or}
use Rattle.std.specs.List.{list_any}
use Rattle.std.proofs.lemmas.Option.{none-some, slice_get_within}
use Rattle.std.proofs.lemmas.Bool.{and_parts, or_parts, and_from, or_from, and_left, and_right, not-false, not_from_true, not_from_false, eqb-true, eq-eqb, eqb-false, ne_eqb, ltb-true, ltb-false, lt-ltb, le-ltb, both_ways, cases_Bool, cases_order, cases_lt}
use mathlib.Core.Logic.{inl, inr}
use Rattle.etcs_bits.specs.declared.variables.identity.Identity.{Identity}
use Rattle.etcs_bits.specs.declared.variables.version.Version.{Version}
use Rattle.etcs_bits.specs.declared.variables.version.Version.TheVariants as versions
use Rattle.etcs_bits.specs.variables.Variables.{version_number}
use Rattle.etcs_profile.specs.declared.run.Run.{Run}
use Rattle.etcs_profile.specs.declared.run.Run.TheVariants as runs
use Rattle.etcs_telegram.specs.Record.{Telegram}
use Rattle.etcs_group.specs.declared.refused.Refused.{Refused}
use Rattle.etcs_group.specs.declared.refused.Refused.TheVariants as reasons
use Rattle.etcs_group.specs.Places.{At, element_passes, least}
use Rattle.etcs_group.specs.Group.{AreAlike, HasOneCounter}
use Rattle.etcs_group.specs.Assembly.{IsAccepted, are_in_order, agree, header_disagrees, is_misplaced, is_absent, position_count, is_miscounted, first_refusal}
use Rattle.etcs_group.specs.Laws.{AcceptedOrRefused}
use Rattle.etcs_group.proofs.PlaceLemmas.{element_passes-at, element_passes-none, some_at, one_at, at_list_any, list_any-none, At-take, at_take, least-none, least-none_says}

-- ---- tests of two places

pub pair-at : (s : List Telegram) (i j : ℕ) (test : Telegram → Telegram → Bool) (t u : Telegram) → At s i t → At s j u → element_passes s i (λ t. element_passes s j (test t)) ≡ test t u
pair-at s i j test t u a b = element_passes-at s i (λ t. element_passes s j (test t)) t a ∙ element_passes-at s j (test t) u b

pair-none : (s : List Telegram) (i j : ℕ) (test : Telegram → Telegram → Bool) → ((t u : Telegram) → At s i t → At s j u → test t u ≡ false) → element_passes s i (λ t. element_passes s j (test t)) ≡ false
pair-none s i j test h = element_passes-none s i (λ t. element_passes s j (test t)) (λ t a. element_passes-none s j (test t) (λ u b. h t u a b))

-- ---- telegrams that agree

version_same : (v w : Version) → version_number v ≡ version_number w → v ≡ w
version_same versions.V2_0 versions.V2_0 e = refl
version_same versions.V2_0 versions.V2_1 e = absurd (omega arith)
version_same versions.V2_1 versions.V2_0 e = absurd (omega arith)
version_same versions.V2_1 versions.V2_1 e = refl

identity_same : (x y : Identity) → x.country ≡ y.country → x.group ≡ y.group → x ≡ y
identity_same x y e f = ap (λ c. record { country = c; group = x.group }) e ∙ ap (λ g. record { country = y.country; group = g }) f

pub agree-true : (t u : Telegram) → AreAlike t u → t.header.total ≡ u.header.total → agree t.header u.header ≡ true
agree-true t u h e =
    and_from _ _ (eq-eqb _ _ (ap version_number h.version))
    (and_from _ _ (eq-eqb _ _ (ap (λ (x : Identity). x.country) h.identity))
    (and_from _ _ (eq-eqb _ _ (ap (λ (x : Identity). x.group) h.identity))
    (and_from _ _ (eq-eqb _ _ e) ((booleans_Decides t.header.linked u.header.linked).1 h.linked))))

pub agree-says : (t u : Telegram) → agree t.header u.header ≡ true → AreAlike t u × (t.header.total ≡ u.header.total)
agree-says t u h =
    let a = and_parts (eqb (version_number t.header.version) (version_number u.header.version)) _ h in
    let b = and_parts (eqb t.header.identity.country u.header.identity.country) _ a.1 in
    let c = and_parts (eqb t.header.identity.group u.header.identity.group) _ b.1 in
    let d = and_parts (eqb t.header.total u.header.total) _ c.1 in (
      record {
        version = version_same _ _ (eqb-true _ _ a.0);
        identity = identity_same _ _ (eqb-true _ _ b.0) (eqb-true _ _ c.0);
        linked = (booleans_Decides t.header.linked u.header.linked).0 d.1;
      },
      eqb-true _ _ d.0,
    )

alike-sym : (t u : Telegram) → AreAlike t u → AreAlike u t
alike-sym t u h = record { version = sym h.version; identity = sym h.identity; linked = sym h.linked }

pub alike-trans : (t u v : Telegram) → AreAlike t u → AreAlike u v → AreAlike t v
alike-trans t u v h k = record {
  version = h.version ∙ k.version;
  identity = h.identity ∙ k.identity;
  linked = h.linked ∙ k.linked;
}

-- two that are like a third
pub alike-both : (t u v : Telegram) → AreAlike t v → AreAlike u v → AreAlike t u
alike-both t u v h k = alike-trans t v u h (alike-sym u v k)

after-trans : (run : Run) (t u v : Telegram) → are_in_order run t u ≡ true → are_in_order run u v ≡ true → are_in_order run t v ≡ true
after-trans runs.Nominal t u v h k = let a = ltb-true _ _ h in let b = ltb-true _ _ k in lt-ltb _ _ (omega arith)
after-trans runs.Reverse t u v h k = let a = ltb-true _ _ h in let b = ltb-true _ _ k in lt-ltb _ _ (omega arith)

-- ---- if each place is as required, there is no refusal

pub disagrees-none : (s : List Telegram) → ((i j : ℕ) (t u : Telegram) → At s i t → At s j u → AreAlike t u) → ((i j : ℕ) (t u : Telegram) → At s i t → At s j u → t.header.total ≡ u.header.total) → (i : ℕ) → header_disagrees s i ≡ false
disagrees-none s h k i = pair-none s 0 i (λ first t. not (agree first.header t.header)) (λ t u a b. not_from_true _ (agree-true t u (h 0 i t u a b) (k 0 i t u a b)))

-- whether a telegram at place i is misplaced
abbrev pub misplaces : Run → List Telegram → ℕ → Telegram → Bool
misplaces run s i u =
    ltb u.header.total u.header.position || (ltb 0 i && element_passes s (i - 1) (λ t. not (are_in_order run t u)))

pub misplaced-none : (run : Run) (s : List Telegram) → ((i : ℕ) (t : Telegram) → At s i t → t.header.position ≤ t.header.total) → ((i j : ℕ) (t u : Telegram) → i < j → At s i t → At s j u → are_in_order run t u ≡ true) → (i : ℕ) → is_misplaced run s i ≡ false
misplaced-none run s h k i = element_passes-none s i (misplaces run s i) (λ u at. or_from _ _ (le-ltb _ _ (h i u at)) (elim (cases_lt 0 i) [
  | inl lt ↦ and_right (ltb 0 i) _ (element_passes-none s (i - 1) (λ t. not (are_in_order run t u)) (λ t e. not_from_true _ (k (i - 1) i t u (omega arith) e at)))
  | inr ge ↦ and_left _ _ (le-ltb _ _ ge)
]))

-- whether the counter disagrees with the counters before it
abbrev pub miscounts : List Telegram → Telegram → Bool
miscounts earlier t =
    eqb t.header.counter 254 || (ltb t.header.counter 254
    && list_any (λ u. ltb u.header.counter 254 && not (eqb u.header.counter t.header.counter)) earlier)

miscounts-none : (earlier : List Telegram) (t : Telegram) → t.header.counter ≢ 254 → ((i : ℕ) (u : Telegram) → At earlier i u → u.header.counter < 254 → t.header.counter < 254 → u.header.counter ≡ t.header.counter) → miscounts earlier t ≡ false
miscounts-none earlier t h k = or_from _ _ (ne_eqb _ _ h) (elim (cases_lt t.header.counter 254) [
  | inl lt ↦ and_right (ltb t.header.counter 254) _ (list_any-none _ earlier (λ i u e. elim (cases_lt u.header.counter 254) [
    | inl lt' ↦ and_right (ltb u.header.counter 254) _ (not_from_true _ (eq-eqb _ _ (k i u e lt' lt)))
    | inr ge ↦ and_left _ _ (le-ltb _ _ ge)
  ]))
  | inr ge ↦ and_left _ _ (le-ltb _ _ ge)
])

pub miscounted-none : (s : List Telegram) → HasOneCounter s → (i : ℕ) → is_miscounted s i ≡ false
miscounted-none s one i = element_passes-none s i (miscounts (take i s)) (λ t e. miscounts-none (take i s) t (one.agrees i t e) (λ j u f a b. one.equal j i u t (At-take i s j u f).1 e a b))

-- the first of the reasons other than Nothing
abbrev pub reason_in : Run → List Telegram → Option Refused
reason_in run s =
    option_or (option_map reasons.Disagree (least (length s) (header_disagrees s)))
    (option_or (option_map reasons.Order (least (length s) (is_misplaced run s)))
    (option_or (option_map reasons.Absent (least (position_count s) (is_absent s)))
    (option_map reasons.Counter (least (length s) (is_miscounted s)))))

-- the refusal of a list that is not empty
pub refusal-some : (run : Run) (s : List Telegram) → 0 < length s → first_refusal run s ≡ reason_in run s
refusal-some run s h =
    let some : length s ≢ 0 = omega arith in
    ap (λ b. cond b (Some reasons.Nothing) (reason_in run s)) (ne_eqb (length s) 0 some)

pub refusal-nothing : (run : Run) (s : List Telegram) → s ≡ [] → first_refusal run s ≡ Some reasons.Nothing
refusal-nothing run s h = ap (first_refusal run) h

option_or-last : (o : Option Refused) → option_or o None ≡ o
option_or-last None = refl
option_or-last (Some r) = refl

-- only a position can be absent
pub refusal-absent : (run : Run) (s : List Telegram) → 0 < length s → ((i : ℕ) → header_disagrees s i ≡ false) → ((i : ℕ) → is_misplaced run s i ≡ false) → ((i : ℕ) → is_miscounted s i ≡ false) → first_refusal run s ≡ option_map reasons.Absent (least (position_count s) (is_absent s))
refusal-absent run s long a b c =
    let e = least-none (length s) (header_disagrees s) (λ k _. a k) in
    let f = least-none (length s) (is_misplaced run s) (λ k _. b k) in
    let g = least-none (length s) (is_miscounted s) (λ k _. c k) in
    refusal-some run s long ∙ rw (e, f, g) (option_or-last (option_map reasons.Absent (least (position_count s) (is_absent s))))

pub positions-at : (s : List Telegram) (t : Telegram) → At s 0 t → position_count s ≡ t.header.total + 1
positions-at s t at = ap (λ o. option_map_or (λ (t : Telegram). t.header.total + 1) o 0) at

-- ---- accepted is not refused

pub refusal-from_accepted : (run : Run) (s : List Telegram) → IsAccepted run s → first_refusal run s ≡ None
refusal-from_accepted run s h =
    let long = h.some in
    let first = some_at s 0 long in
    let e = refusal-absent run s long (disagrees-none s h.alike h.one_total) (misplaced-none run s h.in_total h.in_order) (miscounted-none s h.one_counter) in
    let f : least (position_count s) (is_absent s) ≡ None = least-none (position_count s) (is_absent s) (λ p lt.
    let n = positions-at s first.0 first.1 in
    h.whole 0 p first.0 first.1 (omega arith)) in
    e ∙ ap (option_map reasons.Absent) f

option_or-none : (o p : Option Refused) → option_or o p ≡ None → (o ≡ None) × (p ≡ None)
option_or-none None p h = (refl, h)
option_or-none (Some x) p h = absurd (none-some x (sym h))

pub map-none : (f : ℕ → Refused) (o : Option ℕ) → option_map f o ≡ None → o ≡ None
map-none f None h = refl
map-none f (Some x) h = absurd (none-some (f x) (sym h))

-- each place comes after the one before it, and so after all before it
in_order-from_steps : (run : Run) (s : List Telegram) → ((i : ℕ) (t u : Telegram) → At s i t → At s (suc i) u → are_in_order run t u ≡ true) → (i j : ℕ) (t u : Telegram) → i < j → At s i t → At s j u → are_in_order run t u ≡ true
in_order-from_steps run s h i zero t u lt e f = absurd (omega arith)
in_order-from_steps run s h i (suc j) t u lt e f = elim (cases_order i j) [
  | inl same ↦ h i t u e (subst (λ (n : ℕ). At s (suc n) u) (sym same) f)
  | inr o ↦ elim o [
    | inl less ↦ let within : suc j < length s = slice_get_within s (suc j) u f in
        let m = some_at s j (omega arith) in
        after-trans run t m.0 u (in_order-from_steps run s h i j t m.0 less e m.1) (h j m.0 u m.1 f)
    | inr more ↦ absurd (omega arith)
  ]
]

miscounts-says : (earlier : List Telegram) (t : Telegram) → miscounts earlier t ≡ false → (t.header.counter ≢ 254) × ((i : ℕ) (u : Telegram) → At earlier i u → u.header.counter < 254 → t.header.counter < 254 → u.header.counter ≡ t.header.counter)
miscounts-says earlier t h =
    let a = or_parts (eqb t.header.counter 254) _ h in (
      eqb-false _ _ a.0,
      λ i u e lt lt'. elim (cases_Bool (eqb u.header.counter t.header.counter)) [
        | inl same ↦ eqb-true _ _ same
        | inr other ↦ absurd (both_ways _ a.1 (and_from _ _ (lt-ltb _ _ lt') (at_list_any (λ u. ltb u.header.counter 254 && not (eqb u.header.counter t.header.counter)) earlier i u e (and_from _ _ (lt-ltb _ _ lt) (not_from_false _ other)))))
      ],
    )

misplaces-says : (run : Run) (s : List Telegram) (i : ℕ) (t u : Telegram) → At s i t → misplaces run s (suc i) u ≡ false → are_in_order run t u ≡ true
misplaces-says run s i t u at h =
    let before : suc i - 1 ≡ i = omega arith in
    let there : ltb 0 (suc i) ≡ true = lt-ltb 0 (suc i) (omega arith) in
    let at' : At s (suc i - 1) t = subst (λ n. At s n t) (sym before) at in
    let two = (or_parts (ltb u.header.total u.header.position) _ h).1 in
    not-false _ (sym (element_passes-at s (suc i - 1) (λ t. not (are_in_order run t u)) t at')
    ∙ sym (ap (λ b. b && element_passes s (suc i - 1) (λ t. not (are_in_order run t u))) there) ∙ two)

pub accepted_from-refusal : (run : Run) (s : List Telegram) → first_refusal run s ≡ None → IsAccepted run s
accepted_from-refusal run [] h = absurd (none-some _ (sym h))
accepted_from-refusal run (x ∷ xs) h =
    let s : List Telegram = x ∷ xs in
    let long : 0 < length s = omega arith in
    let a = option_or-none (option_map reasons.Disagree (least (length s) (header_disagrees s))) _ (sym (refusal-some run s long) ∙ h) in
    let b = option_or-none (option_map reasons.Order (least (length s) (is_misplaced run s))) _ a.1 in
    let c = option_or-none (option_map reasons.Absent (least (position_count s) (is_absent s))) (option_map reasons.Counter (least (length s) (is_miscounted s))) b.1 in
    let same = least-none_says (length s) (header_disagrees s) (map-none reasons.Disagree _ a.0) in
    let placed = least-none_says (length s) (is_misplaced run s) (map-none reasons.Order _ b.0) in
    let there = least-none_says (position_count s) (is_absent s) (map-none reasons.Absent _ c.0) in
    let counted = least-none_says (length s) (is_miscounted s) (map-none reasons.Counter _ c.1) in
    let like : (i : ℕ) (t : Telegram) → At s i t → AreAlike x t × (x.header.total ≡ t.header.total) =
    λ i t e. agree-says x t (not-false _ (sym (pair-at s 0 i (λ first t. not (agree first.header t.header)) x t refl e) ∙ same i (slice_get_within s i t e))) in
    let ordered : (i : ℕ) (t : Telegram) → At s i t → misplaces run s i t ≡ false =
    λ i t e. sym (element_passes-at s i (misplaces run s i) t e) ∙ placed i (slice_get_within s i t e) in
    let fits : (i : ℕ) (t : Telegram) → At s i t → miscounts (take i s) t ≡ false =
    λ i t e. sym (element_passes-at s i (miscounts (take i s)) t e) ∙ counted i (slice_get_within s i t e) in
    let earlier : (i j : ℕ) (t u : Telegram) → i < j → At s i t → At s j u → t.header.counter < 254 → u.header.counter < 254 → t.header.counter ≡ u.header.counter =
    λ i j t u lt e f m n. (miscounts-says (take j s) u (fits j u f)).1 i t (at_take j s i t lt e) m n in
    record {
      some = long;
      alike = λ i j t u e f. alike-trans t x u (alike-sym x t (like i t e).0) (like j u f).0;
      one_total = λ i j t u e f. sym (like i t e).1 ∙ (like j u f).1;
      in_total = λ i t e. ltb-false _ _ (or_parts (ltb t.header.total t.header.position) _ (ordered i t e)).0;
      in_order = in_order-from_steps run s (λ i t u e f. misplaces-says run s i t u e (ordered (suc i) u f));
      whole = λ i p t e le. let n = (like i t e).1 in there p (omega arith);
      one_counter = record {
        agrees = λ i t e. (miscounts-says (take i s) t (fits i t e)).0;
        equal = λ i j t u e f m n. elim (cases_order i j) [
          | inl one ↦ ap (λ (z : Telegram). z.header.counter) (one_at s j t u (subst (λ k. At s k t) one e) f)
          | inr o ↦ elim o [
            | inl lt ↦ earlier i j t u lt e f m n
            | inr gt ↦ sym (earlier j i u t gt f e n m)
          ]
        ];
      };
    }

pub accepted_or_refused : AcceptedOrRefused
accepted_or_refused run read = (refusal-from_accepted run read, accepted_from-refusal run read)
