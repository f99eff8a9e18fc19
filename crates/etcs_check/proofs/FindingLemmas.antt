-- A list of findings is empty if and only if none of its facts holds. Equal findings give equal lists.
use Rattle.std.proofs.Common.{◌≡◌, ℕ, zero, suc, ◌+◌, Bool, false, List, [], ◌∷◌, ◌++◌, refl, sym, ap, ap₂, subst, ◌∙◌, arith}
use Rattle.std.specs.List.{flat_map, enumerate_from}
use Rattle.std.proofs.lemmas.Option.{none-some, same_Some}
use Rattle.etcs_group.specs.Places.{At}
use Rattle.etcs_check.specs.Findings.{noted, numbered_findings, for_each, all_rules}
use Rattle.etcs_check.specs.declared.finding.Rule.{Rule}
use Rattle.etcs_check.specs.declared.finding.Finding.{Finding}
use Rattle.etcs_check.proofs.MemberLemmas.{rule_place, at-enumerate, enumerate-at}

pub append_parts : {X : Type 0} (xs ys : List X) → xs ++ ys ≡ [] → (xs ≡ []) × (ys ≡ [])
append_parts [] ys h = (refl, h)
append_parts (x ∷ xs) ys h = cc

pub append_empty : {X : Type 0} (xs ys : List X) → xs ≡ [] → ys ≡ [] → xs ++ ys ≡ []
append_empty xs ys e f = rw (e, f) refl

pub noted-empty : (fact : Bool) (finding : Finding) → fact ≡ false → noted fact finding ≡ []
noted-empty fact finding h = ap (λ b. noted b finding) h

pub flat_map-says : {X : Type 0} (f : X → List Finding) (xs : List X) → flat_map f xs ≡ [] → (k : ℕ) (x : X) → At xs k x → f x ≡ []
flat_map-says f [] h k x at = absurd (none-some x at)
flat_map-says f (y ∷ ys) h zero x at = ap f (sym (same_Some y x at)) ∙ (append_parts (f y) (flat_map f ys) h).0
flat_map-says f (y ∷ ys) h (suc k) x at = flat_map-says f ys (append_parts (f y) (flat_map f ys) h).1 k x at

pub for_each-says : {X : Type 0} (xs : List X) (f : ℕ → X → List Finding) → for_each xs f ≡ [] → (k : ℕ) (x : X) → At xs k x → f k x ≡ []
for_each-says {X} xs f h k x at =
    let z : k ≡ 0 + k = omega arith in
    ap (λ m. f m x) z ∙ flat_map-says (λ (e : ℕ × X). f e.0 e.1) (enumerate_from 0 xs) h k (0 + k, x) (at-enumerate 0 xs k x at)

-- the findings of equal functions are the same
flat_map-same : {X : Type 0} (f g : X → List Finding) (xs : List X) → ((k : ℕ) (x : X) → At xs k x → f x ≡ g x) → flat_map f xs ≡ flat_map g xs
flat_map-same f g [] h = refl
flat_map-same f g (x ∷ xs) h = ap₂ ◌++◌ (h 0 x refl) (flat_map-same f g xs (λ k y at. h (suc k) y at))

pub for_each-same : {X : Type 0} (f g : ℕ → X → List Finding) (xs : List X) → ((k : ℕ) (x : X) → At xs k x → f k x ≡ g k x) → for_each xs f ≡ for_each xs g
for_each-same {X} f g xs h = flat_map-same (λ (e : ℕ × X). f e.0 e.1) (λ (e : ℕ × X). g e.0 e.1) (enumerate_from 0 xs) (λ k e at.
    let r = enumerate-at 0 xs k e at in
    let z : k ≡ e.0 = (let q = r.0 in omega arith) in
    h e.0 e.1 (subst (λ b. At xs b e.1) z r.1))

nothing : {X : Type 0} (n : ℕ) (xs : List X) → numbered_findings (λ (k : ℕ) (x : X). []) n xs ≡ []
nothing n [] = refl
nothing n (x ∷ xs) = nothing (n + 1) xs

pub for_each-empty : {X : Type 0} (xs : List X) (f : ℕ → X → List Finding) → ((k : ℕ) (x : X) → At xs k x → f k x ≡ []) → for_each xs f ≡ []
for_each-empty xs f h = for_each-same f (λ k x. []) xs h ∙ nothing 0 xs

pub rules-say : (f : Rule → List Finding) → flat_map f all_rules ≡ [] → (r : Rule) → f r ≡ []
rules-say f h r = let p = rule_place r in flat_map-says f all_rules h p.0 r p.1
