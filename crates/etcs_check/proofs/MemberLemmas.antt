-- Members of joined, filtered and numbered lists, of lists of findings, and of the message of a group.
use Rattle.std.proofs.Common.{◌≡◌, ℕ, zero, suc, ◌+◌, ◌-◌, Bool, true, false, cond, List, [], ◌∷◌, ◌++◌, length, reverse, Some, refl, sym, ap, subst, ◌∙◌, arith}
use Rattle.std.specs.List.{flat_map, enumerate_from, filter}
use Rattle.std.proofs.lemmas.Option.{none-some, same_Some}
use Rattle.std.proofs.lemmas.List.{reverse-reverse}
use mathlib.Core.Logic.{◌⊎◌, inl, inr}
use Rattle.etcs_group.specs.Places.{At}
use Rattle.etcs_profile.specs.Track.{holds}
use Rattle.etcs_group.specs.Reading.{in_passing_order}
use Rattle.etcs_group.specs.Packets.{held_packets, is_silent, balise_packets, group_message}
use Rattle.etcs_profile.specs.declared.run.Run.{Run}
use Rattle.etcs_profile.specs.declared.run.Run.TheVariants as runs
use Rattle.etcs_profile.specs.declared.track.TrackPacket.{TrackPacket}
use Rattle.etcs_telegram.specs.Record.{Telegram}
use Rattle.etcs_group.proofs.PlaceLemmas.{At-reverse}
use Rattle.etcs_check.specs.Findings.{all_rules, new_finding, for_each}
use Rattle.etcs_check.specs.declared.finding.Finding.{Finding}
use Rattle.etcs_check.specs.Order.{rule_number}
use Rattle.etcs_check.specs.declared.finding.Rule.{Rule}
use Rattle.etcs_check.specs.declared.finding.Rule.TheVariants as rules
use Rattle.etcs_check.specs.declared.finding.Spot.{Spot}

pub At-append_left : {X : Type 0} (xs ys : List X) (i : ℕ) (x : X) → At xs i x → At (xs ++ ys) i x
At-append_left [] ys i x h = absurd (none-some x h)
At-append_left (y ∷ xs) ys zero x h = h
At-append_left (y ∷ xs) ys (suc i) x h = At-append_left xs ys i x h

pub At-append_cases : {X : Type 0} (xs ys : List X) (i : ℕ) (x : X) → At (xs ++ ys) i x → At xs i x ⊎ ((j : ℕ) × At ys j x × (i ≡ length xs + j))
At-append_cases [] ys i x h = inr (i, h, omega arith)
At-append_cases (y ∷ xs) ys zero x h = inl h
At-append_cases (y ∷ xs) ys (suc i) x h =
    elim (At-append_cases xs ys i x h) [ inl p ↦ inl p | inr q ↦ let e = q.2 in inr (q.0, q.1, omega arith) ]

pub At-append_right : {X : Type 0} (xs ys : List X) (j : ℕ) (x : X) → At ys j x → (i : ℕ) × At (xs ++ ys) i x
At-append_right [] ys j x h = (j, h)
At-append_right (y ∷ xs) ys j x h = let r = At-append_right xs ys j x h in (suc r.0, r.1)

pub flat_map-at : {X A : Type 0} (f : X → List A) (xs : List X) (i : ℕ) (a : A) → At (flat_map f xs) i a → (j : ℕ) × (x : X) × (k : ℕ) × At xs j x × At (f x) k a
flat_map-at f [] i a h = absurd (none-some a h)
flat_map-at f (x ∷ xs) i a h = elim (At-append_cases (f x) (flat_map f xs) i a h) [
  | inl p ↦ (0, x, i, refl, p)
  | inr q ↦ let r = flat_map-at f xs q.0 a q.1 in (suc r.0, r.1, r.2, r.3, r.4)
]

pub at-flat_map : {X A : Type 0} (f : X → List A) (xs : List X) (j : ℕ) (x : X) (k : ℕ) (a : A) → At xs j x → At (f x) k a → (i : ℕ) × At (flat_map f xs) i a
at-flat_map f [] j x k a h g = absurd (none-some x h)
at-flat_map f (y ∷ xs) zero x k a h g = (k, At-append_left (f y) (flat_map f xs) k a (subst (λ z. At (f z) k a) (sym (same_Some y x h)) g))
at-flat_map f (y ∷ xs) (suc j) x k a h g = let r = at-flat_map f xs j x k a h g in At-append_right (f y) (flat_map f xs) r.0 a r.1

pub filter-at : {X : Type 0} (p : X → Bool) (xs : List X) (i : ℕ) (x : X) → At (filter p xs) i x → (j : ℕ) × At xs j x × (p x ≡ true)
filter-at p [] i x h = absurd (none-some x h)
filter-at p (y ∷ ys) i x h = go (λ i h. filter-at p ys i x h) (p y) refl i h
  where
    go : ((i : ℕ) → At (filter p ys) i x → (j : ℕ) × At ys j x × (p x ≡ true)) → (b : Bool) → p y ≡ b → (i : ℕ) → At (cond b (y ∷ filter p ys) (filter p ys)) i x → (j : ℕ) × At (y ∷ ys) j x × (p x ≡ true)
    go ih true e zero h = (0, h, ap p (sym (same_Some y x h)) ∙ e)
    go ih true e (suc i) h = let r = ih i h in (suc r.0, r.1, r.2)
    go ih false e i h = let r = ih i h in (suc r.0, r.1, r.2)

pub at-filter : {X : Type 0} (p : X → Bool) (xs : List X) (j : ℕ) (x : X) → At xs j x → p x ≡ true → (i : ℕ) × At (filter p xs) i x
at-filter p [] j x h e = absurd (none-some x h)
at-filter p (y ∷ ys) zero x h e = let e' : p y ≡ true = ap p (same_Some y x h) ∙ e in (0, rw e' h)
at-filter p (y ∷ ys) (suc j) x h e = go (at-filter p ys j x h e) (p y)
  where
    go : (i : ℕ) × At (filter p ys) i x → (b : Bool) → (i : ℕ) × At (cond b (y ∷ filter p ys) (filter p ys)) i x
    go r true = (suc r.0, r.1)
    go r false = r

pub enumerate-at : {X : Type 0} (n : ℕ) (xs : List X) (j : ℕ) (e : ℕ × X) → At (enumerate_from n xs) j e → (e.0 ≡ n + j) × At xs j e.1
enumerate-at {X} n [] j e h = absurd (none-some e h)
enumerate-at {X} n (x ∷ xs) zero e h = let s = same_Some (n, x) e h in let z : n ≡ n + 0 = omega arith in (ap (λ (q : ℕ × X). q.0) (sym s) ∙ z, ap (λ (q : ℕ × X). Some q.1) s)
enumerate-at {X} n (x ∷ xs) (suc j) e h = let r = enumerate-at (n + 1) xs j e h in let q = r.0 in (omega arith, r.1)

pub at-enumerate : {X : Type 0} (n : ℕ) (xs : List X) (j : ℕ) (x : X) → At xs j x → At (enumerate_from n xs) j (n + j, x)
at-enumerate n [] j x h = absurd (none-some x h)
at-enumerate n (y ∷ xs) zero x h = let z : n ≡ n + 0 = omega arith in ap (λ y. Some (n, y)) (same_Some y x h) ∙ ap (λ m. Some (m, x)) z
at-enumerate n (y ∷ xs) (suc j) x h = let z : (n + 1) + j ≡ n + suc j = omega arith in at-enumerate (n + 1) xs j x h ∙ ap (λ m. Some (m, x)) z

pub in_passing_order-at : {X : Type 0} (run : Run) (xs : List X) (i : ℕ) (x : X) → At (in_passing_order run xs) i x → (j : ℕ) × At xs j x
in_passing_order-at runs.Nominal xs i x h = (i, h)
in_passing_order-at runs.Reverse xs i x h = let r = At-reverse xs i x h in (r.0, r.1)

pub at-in_passing_order : {X : Type 0} (run : Run) (xs : List X) (i : ℕ) (x : X) → At xs i x → (j : ℕ) × At (in_passing_order run xs) j x
at-in_passing_order runs.Nominal xs i x h = (i, h)
at-in_passing_order runs.Reverse xs i x h = let h' : At (reverse (reverse xs)) i x = rw reverse-reverse h in let r = At-reverse (reverse xs) i x h' in (r.0, r.1)

-- ---- findings

-- a finding is somewhere in a list
abbrev pub IsListed : Finding → List Finding → Type 0
IsListed f found = (i : ℕ) × At found i f

pub none_at : (found : List Finding) → ((k : ℕ) (f : Finding) → At found k f → ⊥) → found ≡ []
none_at [] h = refl
none_at (f ∷ found) h = absurd (h 0 f refl)

pub each-at : {X : Type 0} (g : ℕ → X → List Finding) (xs : List X) (i : ℕ) (f : Finding) → At (for_each xs g) i f → (b : ℕ) × (x : X) × (k : ℕ) × At xs b x × At (g b x) k f
each-at {X} g xs i f h =
    let r = flat_map-at (λ (e : ℕ × X). g e.0 e.1) (enumerate_from 0 xs) i f h in
    let e = enumerate-at 0 xs r.0 r.1 r.3 in
    let z : r.1.0 ≡ r.0 = (let q = e.0 in omega arith) in
    (r.1.0, r.1.1, r.2, subst (λ b. At xs b r.1.1) (sym z) e.1, r.4)

pub each-listed : {X : Type 0} (g : ℕ → X → List Finding) (xs : List X) (b : ℕ) (x : X) (f : Finding) → At xs b x → IsListed f (g b x) → IsListed f (for_each xs g)
each-listed {X} g xs b x f at h =
    let z : b ≡ 0 + b = omega arith in
    at-flat_map (λ (e : ℕ × X). g e.0 e.1) (enumerate_from 0 xs) b (0 + b, x) h.0 f (at-enumerate 0 xs b x at) (subst (λ m. At (g m x) h.0 f) z h.1)

-- each rule has its place in the list
pub rule_place : (r : Rule) → (k : ℕ) × At all_rules k r
rule_place rules.PositionWrong = (0, refl)
rule_place r = (rule_number r - 1, refl)

pub rules-listed : (g : Rule → List Finding) (r : Rule) (f : Finding) → IsListed f (g r) → IsListed f (flat_map g all_rules)
rules-listed g r f h = let p = rule_place r in at-flat_map g all_rules p.0 r h.0 f p.1 h.1

-- a finding is made of its parts
pub made_of : (f : Finding) (spot : Spot) → f.site ≡ spot.site → f.aspect ≡ spot.aspect → new_finding f.rule spot f.dir f.balise f.packet ≡ f
made_of f spot e g = ap (λ z. new_finding f.rule (record { site = z; aspect = spot.aspect }) f.dir f.balise f.packet) (sym e)
    ∙ ap (λ z. new_finding f.rule (record { site = f.site; aspect = z }) f.dir f.balise f.packet) (sym g)

-- ---- the message of a group

-- a packet of the message is in a balise that is not silent, and holds
pub said-site : (run : Run) (group : List Telegram) (i : ℕ) (p : TrackPacket) → At (group_message run group) i p → (b : ℕ) × (t : Telegram) × (k : ℕ) × At group b t × At t.packets k p × (is_silent run t.header.dup (length group) b ≡ false) × (holds run p ≡ true)
said-site run group i p h =
    let r = flat_map-at (λ (e : ℕ × Telegram). balise_packets run (length group) e.0 e.1) (in_passing_order run (enumerate_from 0 group)) i p h in
    let q = in_passing_order-at run (enumerate_from 0 group) r.0 r.1 r.3 in
    let e = enumerate-at 0 group q.0 r.1 q.1 in
    let s = spoken r.1.1 (is_silent run r.1.1.header.dup (length group) r.1.0) (is_silent run r.1.1.header.dup (length group) r.1.0) refl r.2 r.4 in
    let z : r.1.0 ≡ q.0 = (let f = e.0 in omega arith) in
    (q.0, r.1.1, s.0, e.1, s.1, ap (is_silent run r.1.1.header.dup (length group)) (sym z) ∙ s.3, s.2)
  where
    spoken : (t : Telegram) (q : Bool) (m : Bool) → q ≡ m → (k : ℕ) → At (cond m [] (held_packets run t)) k p → (j : ℕ) × At t.packets j p × (holds run p ≡ true) × (q ≡ false)
    spoken t q true e k h = absurd (none-some p h)
    spoken t q false e k h = let r = filter-at (holds run) t.packets k p h in (r.0, r.1, r.2, e)

pub site-said : (run : Run) (group : List Telegram) (b : ℕ) (t : Telegram) (k : ℕ) (p : TrackPacket) → At group b t → At t.packets k p → is_silent run t.header.dup (length group) b ≡ false → holds run p ≡ true → (i : ℕ) × At (group_message run group) i p
site-said run group b t k p at at' quiet for_run =
    let e = at-enumerate 0 group b t at in
    let o = at-in_passing_order run (enumerate_from 0 group) b (0 + b, t) e in
    let f = at-filter (holds run) t.packets k p at' for_run in
    let z : 0 + b ≡ b = omega arith in
    let s : balise_packets run (length group) (0 + b) t ≡ held_packets run t = rw (z, quiet) refl in
    at-flat_map (λ (e : ℕ × Telegram). balise_packets run (length group) e.0 e.1) (in_passing_order run (enumerate_from 0 group)) o.0 (0 + b, t) f.0 p o.1 (subst (λ l. At l f.0 p) (sym s) f.1)
