-- What a splitter takes of a piece in two parts, and of a stream.
use Rattle.std.proofs.Common.{◌≡◌, ◌≢◌, ℕ, ◌+◌, ◌-◌, ◌<◌, ◌≤◌, List, [], ◌++◌, length, take, refl, sym, ap, ◌∙◌, subst, arith, append_assoc, length-append, ⊎_elim}
use Rattle.std.proofs.lemmas.Bool.{cases_lt}
use Rattle.std.proofs.lemmas.List.{length-take-le, take-append-le, take_all, take_at}
use Rattle.std.proofs.Math.Seq.{take-append-add}
use Rattle.etcs_radio.specs.declared.splitter.State.TheVariants.{More, Ready}
use Rattle.etcs_radio.specs.Stream.{AreOneMessageLong, AreRest}
use Rattle.etcs_radio.specs.Splitter.{splitter_state, IsTaken}
use Rattle.etcs_radio.proofs.StreamLemmas.{message_length-take}
use Rattle.etcs_radio.proofs.StateLemmas.{state-ready, state-short, state-below, ready-whole, ready_is_not_more}
use Rattle.etcs_radio.proofs.SplitterLemmas.{taken_none, none_changed}

-- ---- a piece in two parts

module _ (held one other : List ℕ) (m n : ℕ) (before : IsTaken held one m) (after : IsTaken (held ++ take m one) other n) where
  -- the second part is looked at only if the first was taken to its end
  to_the_end : 0 < n → m ≡ length one
  to_the_end some =
      ⊎_elim
      (λ (part : m < length one).
      absurd (before.waits_no_more part (ap splitter_state (sym (taken_none (held ++ take m one) other)) ∙ after.waits_before 0 some)))
      (λ (all : length one ≤ m). omega (arith, before.within))
      (cases_lt m (length one))

  in_one : (k : ℕ) → k ≤ m → held ++ take k (one ++ other) ≡ held ++ take k one
  in_one k part = ap (λ xs. held ++ xs) (take-append-le k one other (omega (arith, before.within)))

  in_other : m ≡ length one → (k : ℕ) → held ++ take (m + k) (one ++ other) ≡ (held ++ take m one) ++ take k other
  in_other all k =
      ap (λ c. held ++ take (c + k) (one ++ other)) all
      ∙ ap (λ xs. held ++ xs) (take-append-add one other k)
      ∙ sym (append_assoc held one (take k other))
      ∙ ap (λ xs. (held ++ xs) ++ take k other) (sym (take_all m one (omega (arith, all))))

  pub parts_join : held ++ take (m + n) (one ++ other) ≡ (held ++ take m one) ++ take n other
  parts_join =
      ⊎_elim (λ (some : 0 < n). in_other (to_the_end some) n)
      (λ (none : n ≤ 0).
      let n_is : n ≡ 0 = omega arith in
      ap (λ k. held ++ take k (one ++ other)) (let e : m + n ≡ m = omega arith in e)
      ∙ in_one m (omega arith)
      ∙ sym (ap (λ k. (held ++ take m one) ++ take k other) n_is ∙ taken_none (held ++ take m one) other))
      (cases_lt 0 n)

  pub parts_taken : IsTaken held (one ++ other) (m + n)
  parts_taken = record {
    within = omega (arith, length-append one other, before.within, after.within);
    waits_before = λ k less.
        ⊎_elim (λ (first : k < m). ap splitter_state (in_one k (omega arith)) ∙ before.waits_before k first)
        (λ (second : m ≤ k).
        let all = to_the_end (omega arith) in
        let there : m + (k - m) ≡ k = omega arith in
        subst (λ j. splitter_state (held ++ take j (one ++ other)) ≡ More) there
        (ap splitter_state (in_other all (k - m)) ∙ after.waits_before (k - m) (omega arith)))
        (cases_lt k m);
    waits_no_more = λ left more.
        ⊎_elim
        (λ (some : n < length other). after.waits_no_more some (ap splitter_state (sym parts_join) ∙ more))
        (λ (none : length other ≤ n).
        let part : m < length one = omega (arith, length-append one other, after.within) in
        let over = before.waits_no_more part in
        over (ap splitter_state (sym (none_changed (held ++ take m one) other n after over)) ∙ ap splitter_state (sym parts_join) ∙ more))
        (cases_lt n (length other));
  }

-- ---- a stream

-- the first message of a stream is taken, and no byte more
pub message_taken : (message more : List ℕ) → AreOneMessageLong message → IsTaken [] (message ++ more) (length message)
message_taken message more whole = record {
  within = omega (arith, length-append message more);
  waits_before = λ n before.
      let front = take-append-le n message more (omega arith) in
      let count = length-take-le n message (omega arith) in
      ap splitter_state front
      ∙ ⊎_elim (λ (short : n < 3). state-short (take n message) (omega (arith, count)))
      (λ (three : 3 ≤ n).
      let says = message_length-take n message (omega (arith, count)) in
      let all = whole.count in
      state-below (take n message) (omega (arith, says, all)) (omega (arith, count, says, all)))
      (cases_lt n 3);
  waits_no_more = λ _ waits.
      ready_is_not_more (sym (ap splitter_state (take_at message more (length message) refl) ∙ state-ready message whole) ∙ waits);
}

-- no front of a rest is a message
pub rest_never_ready : (rest : List ℕ) (n : ℕ) → AreRest rest → n ≤ length rest → splitter_state (take n rest) ≢ Ready
rest_never_ready rest n cut_off within ready =
    let whole = ready-whole (take n rest) ready in
    let count = length-take-le n rest within in
    let says = message_length-take n rest whole.three in
    let three = whole.three in
    let all = whole.count in
    ⊎_elim (λ below. omega (arith, below, count, says, all)) (λ small. omega (arith, small, says, all, three))
    (cut_off (omega (arith, count, three)))
