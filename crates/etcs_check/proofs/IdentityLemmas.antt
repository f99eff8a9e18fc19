-- One more bit in a table, one more group that was seen, and what the bits show.
use Rattle.std.proofs.Common.{◌≡◌, ◌≢◌, ℕ, zero, suc, ◌+◌, ◌*◌, ◌/◌, ◌%◌, ◌^◌, ◌<◌, ◌≤◌, Bool, true, false, ◌&&◌, ◌||◌, eqb, List, [], ◌∷◌, ◌++◌, length, get_or, map, set, vec_items, replicate, take, Option, Some, None, bit_or, refl, sym, ap, ap₂, subst, ◌∙◌, arith}
use Rattle.std.specs.Global.{Vec}
use Rattle.std.specs.Int.{w64}
use Rattle.std.specs.Option.{option_map_or}
use Rattle.std.proofs.Math.Bool.{or_comm, or-false}
use Rattle.std.proofs.Math.Seq.{map-set_same}
use Rattle.std.proofs.lemmas.Nat.{div-add-mod', mod_below, div_below}
use Rattle.std.proofs.lemmas.Nat.Bits.{bit_at_set_same, bit_at_set_other, bit_at-zero}
use Rattle.std.proofs.lemmas.Bool.{both_ways, cases_eq, cases_lt, ne_eqb, eq-eqb, eqb-true, or_parts, false_from_ne_true}
use Rattle.std.proofs.lemmas.List.{get_or_past, get_or-set_same, get_or-set_other, get_or-replicate, get_or-map, length-map, length-replicate, map-set, take_all}
use Rattle.std.proofs.lemmas.Bool.Decides.{Decides-eqb, same_from_decides}
use Rattle.std.proofs.lemmas.List.Folds.{list_any-append, list_any_more}
use Rattle.std.proofs.lemmas.Option.{none-some, slice_get_within, get_or_from_slice_get, same_Some}
use mathlib.Core.Logic.{inl, inr}
use Rattle.etcs_bits.specs.declared.variables.identity.Identity.{Identity}
use Rattle.etcs_telegram.specs.Record.{Telegram}
use Rattle.etcs_group.specs.Group.{Aspects}
use Rattle.etcs_group.specs.Places.{At}
use Rattle.etcs_group.proofs.PlaceLemmas.{At-take, at_list_any, list_any-none}
use Rattle.etcs_check.specs.Duplicates.{same_identity}
use Rattle.etcs_check.specs.Aspects.{have_one_identity, is_used}
use Rattle.etcs_check.specs.Line.{group_findings, line_group_findings, group_list}
use Rattle.etcs_check.specs.LineChecker.{HasKept}
use Rattle.etcs_check.specs.declared.finding.Rule.TheVariants as rules
use Rattle.etcs_check.specs.declared.finding.Site.TheVariants as sites
use Rattle.etcs_check.proofs.CellLemmas.{group_silent}
use Rattle.etcs_check.proofs.FindingLemmas.{for_each-says}
use Rattle.etcs_check.specs.Identities.{number_of_identity, identity_number, HasIdentity, HaveIdentities, has_bit, is_kept, is_marked, has_identity_number, HasNoRepeat, HasRepeat}
use Rattle.etcs_check.specs.Soundness.{aspect_identity, group_identity}
use Rattle.etcs_check.proofs.NoteLemmas.{each_stands}
use Rattle.etcs_check.proofs.NumberLemmas.{identity_same, Decides-same_identity}

-- ---- identities and their numbers

pub number-is : (g : List (List Telegram)) (i : Identity) → group_identity g ≡ Some i → identity_number g ≡ number_of_identity i
number-is g i e = ap (λ o. option_map_or number_of_identity o 0) e

number_small : (g : List (List Telegram)) → HasIdentity g → identity_number g < 16777216
number_small g own =
    let is = number-is g own.0 own.1 in
    let country = own.2 in
    let group = own.3 in
    omega arith

same_number : (i j : Identity) → i.group < 16384 → j.group < 16384 → number_of_identity i ≡ number_of_identity j → i ≡ j
same_number i j a b e = identity_same i j (omega arith) (omega arith)

one_number : (g h : List (List Telegram)) → HasIdentity g → HasIdentity h → have_one_identity g h ≡ eqb (identity_number g) (identity_number h)
one_number g h a b =
    ap₂ (λ o p. option_map_or (λ i. option_map_or (same_identity i) p false) o false) a.1 b.1
    ∙ test ∙ sym (ap₂ eqb (number-is g a.0 a.1) (number-is h b.0 b.1))
  where
    test : same_identity a.0 b.0 ≡ eqb (number_of_identity a.0) (number_of_identity b.0)
    test = same_from_decides _ _ (Decides-same_identity a.0 b.0) (λ h. same_number a.0 b.0 a.3 b.3 (eqb-true _ _ h), λ e. eq-eqb _ _ (ap number_of_identity e))

-- an earlier group has the identity if and only if one has its number
pub used-among : (earlier : List (List (List Telegram))) (g : List (List Telegram)) → HaveIdentities earlier → HasIdentity g → is_used earlier g ≡ has_identity_number earlier (identity_number g)
used-among [] g all own = refl
used-among (h ∷ hs) g all own = ap₂ ◌||◌ (one_number h g (all 0 h refl) own) (used-among hs g (λ k x at. all (suc k) x at) own)

pub numbered_before : (groups : List (List (List Telegram))) (i : ℕ) → ((k : ℕ) (h : List (List Telegram)) → k < i → At groups k h → HasIdentity h) → HaveIdentities (take i groups)
numbered_before groups i before k h at = let t = At-take i groups k h at in before k h t.0 t.1

-- one more mark in parts of b places each: in part q / b, and in no other part
part_marked : (was now : ℕ → ℕ → Bool) (b q : ℕ) → 0 < b → ((r : ℕ) → r < b → now (q / b) r ≡ (eqb (q % b) r || was (q / b) r)) → ((i r : ℕ) → i ≢ q / b → now i r ≡ was i r)
    → (p : ℕ) → now (p / b) (p % b) ≡ (eqb q p || was (p / b) (p % b))
part_marked was now b q some own others p = elim (cases_eq (p / b) (q / b)) [
  | inl same ↦
      let whole : q % b ≡ p % b → q ≡ p = λ r. sym (div-add-mod' q b) ∙ ap₂ (λ x y. x * b + y) (sym same) r ∙ div-add-mod' p b in
      let rest : eqb (q % b) (p % b) ≡ eqb q p = same_from_decides _ _ (λ h. whole (eqb-true _ _ h), λ e. eq-eqb _ _ (ap (λ x. x % b) e)) (Decides-eqb q p) in
      ap (λ i. now i (p % b)) same ∙ own (p % b) (mod_below p b some) ∙ ap₂ ◌||◌ rest (ap (λ i. was i (p % b)) (sym same))
  | inr other ↦ others (p / b) (p % b) other ∙ ap (λ e. e || was (p / b) (p % b)) (sym (ne_eqb q p (λ e. other (ap (λ x. x / b) (sym e)))))
]

-- a word with bit k set
abbrev with_bit : ℕ → ℕ → ℕ
with_bit word k = bit_or word (1 * 2 ^ k % 2 ^ 64)

bit_marked : (word k r : ℕ) → k < 64 → has_bit (with_bit word k) r ≡ (eqb k r || has_bit word r)
bit_marked word k r lt = elim (cases_eq k r) [
  | inl e ↦ subst (λ r. has_bit (with_bit word k) r ≡ (eqb k r || has_bit word r)) e (ap (λ v. eqb v 1) (bit_at_set_same w64 word k lt) ∙ sym (ap (λ b. b || has_bit word k) (eq-eqb k k refl)))
  | inr ne ↦ ap (λ v. eqb v 1) (bit_at_set_other w64 word k lt r (λ e. ne (sym e))) ∙ sym (ap (λ b. b || has_bit word r) (ne_eqb k r ne))
]

pub marked_after : (table : List ℕ) (q : ℕ) → q < 64 * length table → (p : ℕ) → is_marked (set table (q / 64) (with_bit (get_or table (q / 64) 0) (q % 64))) p ≡ (eqb q p || is_marked table p)
marked_after table q lt =
    let word : q / 64 < length table = div_below q 64 (length table) (omega arith) (omega arith) in
    let set_word = with_bit (get_or table (q / 64) 0) (q % 64) in
    part_marked (λ i r. has_bit (get_or table i 0) r) (λ i r. has_bit (get_or (set table (q / 64) set_word) i 0) r) 64 q (omega arith)
    (λ r _. ap (λ v. has_bit v r) (get_or-set_same table (q / 64) set_word 0 word) ∙ bit_marked (get_or table (q / 64) 0) (q % 64) r (mod_below q 64 (omega arith)))
    (λ i r ne. ap (λ v. has_bit v r) (get_or-set_other table (q / 64) i set_word 0 ne))

pub unmarked : (n p : ℕ) → p < 64 * n → is_marked (replicate n 0) p ≡ false
unmarked n p lt =
    let word : p / 64 < n = div_below p 64 n (omega arith) (omega arith) in
    ap (λ v. has_bit v (p % 64)) (get_or-replicate n (p / 64) 0 0 word) ∙ ap (λ v. eqb v 1) (bit_at-zero (p % 64))

-- ---- one more group

-- Of the n identities from base on, only the identities of these groups are marked.
abbrev pub HasSeen : ℕ → ℕ → List ℕ → List Aspects → Type 0
HasSeen base n table groups = (p : ℕ) → p < n → is_marked table p ≡ has_identity_number groups (base + p)

pub among_more : (groups : List (List (List Telegram))) (i : ℕ) (g : List (List Telegram)) (x : ℕ) → At groups i g → has_identity_number (take (i + 1) groups) x ≡ (has_identity_number (take i groups) x || eqb (identity_number g) x)
among_more groups i g x at =
    list_any_more (λ h. eqb (identity_number h) x) groups i g (slice_get_within groups i g at)
    ∙ ap (λ h. has_identity_number (take i groups) x || eqb (identity_number h) x) (get_or_from_slice_get groups i g g at)

eqb_moved : (base q p : ℕ) → eqb q p ≡ eqb (base + q) (base + p)
eqb_moved base q p = same_from_decides _ _ (Decides-eqb q p) (λ h. let e = eqb-true (base + q) (base + p) h in omega arith, λ e. eq-eqb _ _ (ap (λ x. base + x) e))

-- its identity is of this part, and was marked
pub seen_marked : (base n : ℕ) (table new : List ℕ) (groups : List (List (List Telegram))) (i : ℕ) (g : List (List Telegram)) (q : ℕ) → At groups i g → identity_number g ≡ base + q
    → ((p : ℕ) → is_marked new p ≡ (eqb q p || is_marked table p)) → HasSeen base n table (take i groups) → HasSeen base n new (take (i + 1) groups)
seen_marked base n table new groups i g q at is marked seen p lt =
    marked p ∙ ap (λ b. eqb q p || b) (seen p lt) ∙ or_comm (eqb q p) (has_identity_number (take i groups) (base + p))
    ∙ ap (λ b. has_identity_number (take i groups) (base + p) || b) (eqb_moved base q p ∙ ap (λ x. eqb x (base + p)) (sym is))
    ∙ sym (among_more groups i g (base + p) at)

-- its identity is of another part
pub seen_other : (base n : ℕ) (table : List ℕ) (groups : List (List (List Telegram))) (i : ℕ) (g : List (List Telegram)) → At groups i g
    → ((p : ℕ) → p < n → identity_number g ≢ base + p) → HasSeen base n table (take i groups) → HasSeen base n table (take (i + 1) groups)
seen_other base n table groups i g at other seen p lt =
    seen p lt ∙ sym (among_more groups i g (base + p) at ∙ ap (λ b. has_identity_number (take i groups) (base + p) || b) (ne_eqb _ _ (other p lt)) ∙ or-false _)

-- the bit of its identity shows whether it was used
pub used_mark : (base n : ℕ) (table : List ℕ) (groups : List (List (List Telegram))) (g : List (List Telegram)) (q : ℕ) → identity_number g ≡ base + q → q < n → HasSeen base n table groups → is_used groups g ≡ has_identity_number groups (identity_number g) → is_used groups g ≡ is_marked table q
used_mark base n table groups g q is lt seen numbered = numbered ∙ sym (seen q lt ∙ ap (has_identity_number groups) (sym is))

-- if its identity is one of the n from base on, no earlier group has it
abbrev pub IsFresh : ℕ → ℕ → List (List (List Telegram)) → ℕ → List (List Telegram) → Type 0
IsFresh base n groups k g = base ≤ identity_number g → identity_number g < base + n → is_used (take k groups) g ≡ false

-- one more part
pub no_repeat_more : (m n next : ℕ) (groups : List (List (List Telegram))) → next ≡ m + n → HasNoRepeat 0 m groups → HasNoRepeat m n groups → HasNoRepeat 0 next groups
no_repeat_more m n next groups e low high i g at lo hi = elim (cases_lt (identity_number g) m) [
  | inl lt ↦ low i g at lo (omega arith)
  | inr ge ↦ high i g at (omega arith) (omega arith)
]

-- ---- the identities that are kept

zeros_more : (xs : List ℕ) (k i : ℕ) → get_or (xs ++ replicate k 0) i 0 ≡ get_or xs i 0
zeros_more [] k i = elim (cases_lt i k) [
  | inl lt ↦ get_or-replicate k i 0 0 lt
  | inr ge ↦ get_or_past (replicate k 0) i 0 (rw length-replicate ge)
]
zeros_more (x ∷ xs) k zero = refl
zeros_more (x ∷ xs) k (suc i) = zeros_more xs k i

-- a page that grows marks nothing
pub marked_grown : (old new : List ℕ) (n k : ℕ) → length old ≤ n → new ≡ take n old ++ replicate k 0 → (p : ℕ) → is_marked new p ≡ is_marked old p
marked_grown old new n k le is p =
    ap (λ t. is_marked t p) (is ∙ ap (λ t. t ++ replicate k 0) (take_all n old le)) ∙ ap (λ v. has_bit v (p % 64)) (zeros_more old k (p / 64))

-- whether place r of page i is marked
abbrev in_page : List (Vec ℕ) → ℕ → ℕ → Bool
in_page pages i r = is_marked (get_or (map vec_items pages) i []) r

-- a page with the same words
pub kept_same : (start pages : List (Vec ℕ)) (was is : Vec ℕ) (i : ℕ) → get_or pages i was ≡ was → is.items ≡ was.items → ((n : ℕ) → is_kept pages n ≡ is_kept start n) → (n : ℕ) → is_kept (set pages i is) n ≡ is_kept start n
kept_same start pages was is i at same so_far n = ap (λ words. is_marked (get_or words (n / 16384) []) (n % 16384)) (map-set_same vec_items pages i is was (same ∙ ap vec_items (sym at))) ∙ so_far n

-- a number that is kept already
pub kept_again : (was : ℕ → Bool) (q : ℕ) → was q ≡ true → (n : ℕ) → was n ≡ (eqb q n || was n)
kept_again was q is n = elim (cases_eq q n) [
  | inl e ↦ subst (λ n. was n ≡ (eqb q n || was n)) e (is ∙ sym (ap (λ b. b || was q) (eq-eqb q q refl)))
  | inr ne ↦ sym (ap (λ b. b || was n) (ne_eqb q n ne))
]

-- one more mark in its page
pub kept_marked : (pages : List (Vec ℕ)) (was is : Vec ℕ) (q : ℕ) → q / 16384 < length pages → get_or pages (q / 16384) was ≡ was → ((p : ℕ) → is_marked is.items p ≡ (eqb (q % 16384) p || is_marked was.items p))
    → (n : ℕ) → is_kept (set pages (q / 16384) is) n ≡ (eqb q n || is_kept pages n)
kept_marked pages was is q lt at marked n =
    let words = map vec_items pages in
    ap (λ words. is_marked (get_or words (n / 16384) []) (n % 16384)) (map-set vec_items pages (q / 16384) is)
    ∙ part_marked (in_page pages) (λ i r. is_marked (get_or (set words (q / 16384) is.items) i []) r) 16384 q (omega arith)
    (λ r _. ap (λ t. is_marked t r) (get_or-set_same words (q / 16384) is.items [] (rw length-map lt)) ∙ marked r ∙ ap (λ t. eqb (q % 16384) r || is_marked t r) (ap vec_items (sym at) ∙ sym (get_or-map vec_items pages (q / 16384) was [] lt)))
    (λ i r ne. ap (λ t. is_marked t r) (get_or-set_other words (q / 16384) i is.items [] ne)) n

-- one more group of a list, whose identity is kept now
pub kept_more : (groups : List (List (List Telegram))) (i : ℕ) (g : List (List Telegram)) (was is : ℕ → Bool) → At groups i g → ((n : ℕ) → is n ≡ (eqb (identity_number g) n || was n)) → HasKept was (take i groups) → HasKept is (take (i + 1) groups)
kept_more groups i g was is at now before n =
    let own = eqb (identity_number g) n in
    now n ∙ ap (λ b. own || b) (before n) ∙ or_comm own (has_identity_number (take i groups) n) ∙ sym (among_more groups i g n at)

-- one more group at the end
pub kept_and : (groups : List (List (List Telegram))) (g : List (List Telegram)) (was is : ℕ → Bool) → ((n : ℕ) → is n ≡ (eqb (identity_number g) n || was n)) → HasKept was groups → HasKept is (groups ++ g ∷ [])
kept_and groups g was is now before n =
    let own = eqb (identity_number g) n in
    now n ∙ ap (λ b. own || b) (before n) ∙ or_comm own (has_identity_number groups n) ∙ ap (λ b. has_identity_number groups n || b) (sym (or-false own)) ∙ sym (list_any-append (λ h. eqb (identity_number h) n) groups (g ∷ []))

-- whether the identity of one more group was used decides its finding
pub used_told : (groups : List (List (List Telegram))) (i : ℕ) (g : List (List Telegram)) (again : Bool) (is_kept : ℕ → Bool) → At groups i g → HasIdentity g → HaveIdentities (take i groups)
    → (again ≡ false → HasNoRepeat 0 16777216 groups) → (again ≡ true → HasKept is_kept (take i groups)) → (again && is_kept (identity_number g)) ≡ is_used (take i groups) g
used_told groups i g true is_kept at own before none kept = kept refl (identity_number g) ∙ sym (used-among (take i groups) g before own)
used_told groups i g false is_kept at own before none kept = sym (none refl i g at (omega arith) (number_small g own))

-- a repeat is a finding
pub repeat_stands : (groups : List (List (List Telegram))) → HasRepeat groups → group_list groups ≢ []
repeat_stands groups r h =
    let none = group_silent (sites.Group r.0) (is_used (take r.0 groups) r.1) r.1 (for_each-says groups (line_group_findings groups) h r.0 r.1 r.2) in
    both_ways _ (or_parts _ _ (none rules.IdentityUsed None None None None)).0 r.3

-- if the call allocated, there is a finding: of a repeat, or about this group
pub next_stands : (groups : List (List (List Telegram))) (i : ℕ) (g : List (List Telegram)) (again : Bool) → At groups i g → HasIdentity g → (again ≡ true → HasRepeat groups) → (again ≡ false → HasNoRepeat 0 16777216 groups)
    → (again ≡ false → group_findings (sites.Group i) false g ≢ []) → group_list groups ≢ []
next_stands groups i g true at own repeat none some = repeat_stands groups (repeat refl)
next_stands groups i g false at own repeat none some =
    let new : is_used (take i groups) g ≡ false = none refl i g at (omega arith) (number_small g own) in
    each_stands (line_group_findings groups) groups i g at (subst (λ u. group_findings (sites.Group i) u g ≢ []) (sym new) (some refl))

-- ---- identities that were used

same_identity_of : Option Identity → Option Identity → Bool
same_identity_of o p = option_map_or (λ i. option_map_or (same_identity i) p false) o false

identities-say : (o p : Option Identity) → same_identity_of o p ≡ true → o ≡ p
unfolding same_identity_of
identities-say (Some i) (Some j) h = ap Some ((Decides-same_identity i j).0 h)
identities-say o p h = absurd (both_ways _ refl h)

identities-are : (i : Identity) (o p : Option Identity) → o ≡ Some i → o ≡ p → same_identity_of o p ≡ true
unfolding same_identity_of
identities-are i o p is e = rw (← e, is) ((Decides-same_identity i i).1 refl)

pub identity-at : (group : List Telegram) (t : Telegram) → At group 0 t → aspect_identity group ≡ Some t.header.identity
identity-at [] t at = absurd (none-some t at)
identity-at (u ∷ ts) t at = ap (λ (x : Telegram). Some x.header.identity) (same_Some u t at)

pub unused-says : (earlier : List (List (List Telegram))) (g : List (List Telegram)) (i : Identity) → group_identity g ≡ Some i → is_used earlier g ≡ false → (k : ℕ) (h : List (List Telegram)) → At earlier k h → group_identity h ≢ group_identity g
unfolding same_identity_of
unused-says earlier g i is new k h at same =
    both_ways _ new (at_list_any (λ h. same_identity_of (group_identity h) (group_identity g)) earlier k h at (identities-are i (group_identity h) (group_identity g) (same ∙ is) same))

pub unused-is : (earlier : List (List (List Telegram))) (g : List (List Telegram)) → ((k : ℕ) (h : List (List Telegram)) → At earlier k h → group_identity h ≢ group_identity g) → is_used earlier g ≡ false
unfolding same_identity_of
unused-is earlier g distinct =
    list_any-none (λ h. same_identity_of (group_identity h) (group_identity g)) earlier (λ k h at. false_from_ne_true _ (λ same. distinct k h at (identities-say (group_identity h) (group_identity g) same)))
