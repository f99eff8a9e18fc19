use Rattle.std.proofs.Common.{◌≡◌, ℕ, ◌+◌, ◌-◌, ◌<◌, ◌≤◌, length, take, refl, sym, ap, ◌∙◌, arith}
use Rattle.std.proofs.lemmas.Option.{slice_get_within}
use Rattle.etcs_check.specs.Identities.{HasIdentity, identity_number, is_marked}
use Rattle.etcs_check.proofs.IdentityLemmas.{seen_marked, seen_other, used_mark, used-among, numbered_before, unmarked, IsFresh}
use Rattle.etcs_check.proofs.NoteLemmas.{index_at, each_more}
use Rattle.etcs_check.proofs.identities.repeats_in.Goals as goal
use Rattle.etcs_check.proofs.identities.repeats_in.Goals.{then-base-identity+then-identity-base+else-mark, else-base-identity, else-base-identity-via-then-base-identity+else-identity-base, else-base-identity-via-else-base-identity}

pub returns-then-mark-clause-found : goal.returns-then-mark-clause-found
returns-then-mark-clause-found c = λ _.
    let at = index_at c.args.groups.now c.groups.i _ c.aspects.result.now c.groups-test.true (c.aspects.ensures.value ∙ c.index-groups-i.is) in
    let among = used-among (take c.groups.i c.args.groups.now) c.aspects.result.now (numbered_before c.args.groups.now c.groups.i c.groups.invariant.numbered) c.identity_number-identity.ensures.numbered in
    let is : c.identity_number-identity.result ≡ identity_number c.aspects.result.now = c.identity_number-identity.ensures.value in
    let lo = c.if-base-identity.true in
    let hi = c.if-identity-base.true in
    (c.groups.i, c.aspects.result.now, at, used_mark c.args.base 2097152 c.groups.table (take c.groups.i c.args.groups.now) c.aspects.result.now (c.identity_number-identity.result - c.args.base) (omega arith) (omega arith) c.groups.invariant.seen among ∙ sym c.if-mark.ensures.before)

pub groups-init : goal.groups-init
groups-init c = record {
  long = refl;
  seen = λ p lt. unmarked 32768 p (omega arith);
  fresh = λ k g lt. absurd (omega arith);
  numbered = λ k g lt. absurd (omega arith);
}

pub groups-preserved : goal.groups-preserved
groups-preserved c =
    let at = index_at c.args.groups.now c.groups.i _ c.aspects.result.now c.groups-test.true (c.aspects.ensures.value ∙ c.index-groups-i.is) in
    let among = used-among (take c.groups.i c.args.groups.now) c.aspects.result.now (numbered_before c.args.groups.now c.groups.i c.groups.invariant.numbered) c.identity_number-identity.ensures.numbered in
    let is : c.identity_number-identity.result ≡ identity_number c.aspects.result.now = c.identity_number-identity.ensures.value in
    elim c.if-base-identity.branch [
      | then-base-identity+then-identity-base+else-mark w ↦
          let lo = w.if-base-identity.true in
          let hi = w.if-identity-base.true in
          let q : ℕ = c.identity_number-identity.result - c.args.base in
          let at_q : identity_number c.aspects.result.now ≡ c.args.base + q = omega arith in
          record {
            long = ap length w.table-is ∙ w.mark.auto.table ∙ c.groups.invariant.long;
            seen = seen_marked c.args.base 2097152 c.groups.table c.if-base-identity.table c.args.groups.now c.groups.i c.aspects.result.now q at at_q (λ p. ap (λ t. is_marked t p) w.table-is ∙ w.mark.ensures.after p) c.groups.invariant.seen;
            fresh = each_more (IsFresh c.args.base 2097152 c.args.groups.now) c.args.groups.now c.groups.i c.aspects.result.now at c.groups.invariant.fresh (λ _ _. used_mark c.args.base 2097152 c.groups.table (take c.groups.i c.args.groups.now) c.aspects.result.now q at_q (omega arith) c.groups.invariant.seen among ∙ sym w.mark.ensures.before ∙ w.if-mark.false);
            numbered = each_more (λ _. HasIdentity) c.args.groups.now c.groups.i c.aspects.result.now at c.groups.invariant.numbered c.identity_number-identity.ensures.numbered;
          }
      | else-base-identity w ↦
          let out : (c.args.base ≤ identity_number c.aspects.result.now) → (identity_number c.aspects.result.now < c.args.base + 2097152) → ⊥ = λ lo hi. elim w.else-base-identity.branch [
            | else-base-identity-via-then-base-identity+else-identity-base w' ↦ let h = w'.if-identity-base.false in omega arith
            | else-base-identity-via-else-base-identity w' ↦ let h = w'.if-base-identity.false in omega arith
          ] in
          record {
            long = ap length w.table-is ∙ c.groups.invariant.long;
            seen = λ p lt. ap (λ t. is_marked t p) w.table-is ∙ seen_other c.args.base 2097152 c.groups.table c.args.groups.now c.groups.i c.aspects.result.now at (λ p lt e. out (omega arith) (omega arith)) c.groups.invariant.seen p lt;
            fresh = each_more (IsFresh c.args.base 2097152 c.args.groups.now) c.args.groups.now c.groups.i c.aspects.result.now at c.groups.invariant.fresh (λ lo hi. absurd (out lo hi));
            numbered = each_more (λ _. HasIdentity) c.args.groups.now c.groups.i c.aspects.result.now at c.groups.invariant.numbered c.identity_number-identity.ensures.numbered;
          }
    ]

pub returns-clause-none : goal.returns-clause-none
returns-clause-none c = λ _ i g at lo hi.
    let lt = slice_get_within c.args.groups.now i g at in
    let all = c.groups-test.false in
    c.groups.invariant.fresh i g (omega arith) at lo hi

pub returns-clause-numbered : goal.returns-clause-numbered
returns-clause-numbered c = λ _ i g at.
    let lt = slice_get_within c.args.groups.now i g at in
    let all = c.groups-test.false in
    c.groups.invariant.numbered i g (omega arith) at
