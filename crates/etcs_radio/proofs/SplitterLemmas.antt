-- What a splitter takes.
use Rattle.std.proofs.Common.{◌≡◌, ◌≢◌, ℕ, ◌+◌, ◌-◌, ◌<◌, ◌≤◌, min, max, List, ◌++◌, length, take, drop, sym, ap, ap₂, ◌∙◌, subst, arith, append_assoc, length-append, ⊎_elim}
use Rattle.std.proofs.lemmas.Bool.{cases_lt}
use Rattle.std.proofs.lemmas.List.{append-nil, length-drop, length-take-le, take_rest}
use Rattle.std.proofs.Math.Seq.{take-add}
use Rattle.etcs_radio.specs.declared.splitter.State.TheVariants.{More}
use Rattle.etcs_radio.specs.Stream.{message_length}
use Rattle.etcs_radio.specs.Splitter.{splitter_state, IsTaken, MayBeHeld}
use Rattle.etcs_radio.proofs.StreamLemmas.{message_length-append}
use Rattle.etcs_radio.proofs.StateLemmas.{state-ready, state-failed, state-short, state-below, ready_is_not_more, failed_is_not_more}

pub taken_none : (held piece : List ℕ) → held ++ take 0 piece ≡ held
taken_none held piece = append-nil held

-- what is ready or has failed takes nothing
pub none_taken : (held piece : List ℕ) (used : ℕ) → IsTaken held piece used → splitter_state held ≢ More → used ≡ 0
none_taken held piece used taken over =
    ⊎_elim (λ (some : 0 < used). absurd (over (ap splitter_state (sym (taken_none held piece)) ∙ taken.waits_before 0 some)))
    (λ (none : used ≤ 0). omega arith)
    (cases_lt 0 used)

pub none_changed : (held piece : List ℕ) (used : ℕ) → IsTaken held piece used → splitter_state held ≢ More → held ++ take used piece ≡ held
none_changed held piece used taken over =
    ap (λ n. held ++ take n piece) (none_taken held piece used taken over) ∙ taken_none held piece

-- the first part of a piece, and then more of it
pub taken_on : (held piece : List ℕ) (m n : ℕ) → held ++ take (m + n) piece ≡ (held ++ take m piece) ++ take n (drop m piece)
taken_on held piece m n =
    ap (λ part. held ++ part) (take-add m n piece) ∙ sym (append_assoc held (take m piece) (take n (drop m piece)))

pub length-taken : (held piece : List ℕ) (n : ℕ) → n ≤ length piece → length (held ++ take n piece) ≡ length held + n
length-taken held piece n within = length-append held (take n piece) ∙ ap (λ k. length held + k) (length-take-le n piece within)

-- The steps of `feed`, as its code makes them: `head` bytes up to the third, and then `rest` bytes of the others, up to the
-- length in the first three.
pub record Steps (held piece : List ℕ) (head rest : ℕ) (after : List ℕ) : Type 0 where
  pub may : MayBeHeld held
  pub first : head ≡ min (3 - length held) (length piece)
  pub three : List ℕ
  pub three_is : three ≡ held ++ take head piece
  pub wanted : ℕ
  pub few : length three < 3 → wanted ≡ 3
  pub whole : 3 ≤ length three → wanted ≡ max 3 (message_length three)
  pub others : List ℕ
  pub others_are : others ≡ take (length piece - head) (drop head piece)
  pub then_is : rest ≡ min (wanted - length three) (length others)
  pub after_is : after ≡ three ++ take rest others

module _ (held piece : List ℕ) (head rest : ℕ) (after : List ℕ) (s : Steps held piece head rest after) where
  others_dropped : s.others ≡ drop head piece
  others_dropped = s.others_are ∙ take_rest piece head

  three_has : length s.three ≡ length held + head
  three_has = ap length s.three_is ∙ length-taken held piece head (omega (arith, s.first))

  rest_is : rest ≡ min (s.wanted - length s.three) (length piece - head)
  rest_is = omega (arith, s.then_is, ap length others_dropped, length-drop head piece)

  within : head + rest ≤ length piece
  within = omega (arith, s.first, rest_is)

  -- before three bytes are held
  early : (n : ℕ) → n < head → splitter_state (held ++ take n piece) ≡ More
  early n before =
      let has = length-taken held piece n (omega (arith, s.first)) in
      state-short (held ++ take n piece) (omega (arith, s.first, has))

  reached : 0 < rest → 3 ≤ length s.three
  reached some =
      ⊎_elim (λ (short : length s.three < 3). let third = s.few short in absurd (omega (arith, third, s.first, three_has, rest_is)))
      (λ (enough : 3 ≤ length s.three). enough)
      (cases_lt (length s.three) 3)

  has : (n : ℕ) → n ≤ rest → length (held ++ take (head + n) piece) ≡ length s.three + n
  has n part = length-taken held piece (head + n) (omega (arith, within)) ∙ omega (arith, three_has)

  same : (n : ℕ) → 3 ≤ length s.three → message_length (held ++ take (head + n) piece) ≡ message_length s.three
  same n enough =
      ap message_length (taken_on held piece head n ∙ ap (λ xs. xs ++ take n (drop head piece)) (sym s.three_is))
      ∙ message_length-append s.three (take n (drop head piece)) enough

  three_may : MayBeHeld s.three
  three_may =
      ⊎_elim (λ (short : length held < 3). omega (arith, s.first, three_has))
      (λ (enough : 3 ≤ length held).
      let none : head ≡ 0 = omega (arith, s.first) in
      subst MayBeHeld (sym (s.three_is ∙ ap (λ n. held ++ take n piece) none ∙ taken_none held piece)) s.may)
      (cases_lt (length held) 3)

  -- as long as L_MESSAGE counts more bytes
  late : (n : ℕ) → n < rest → splitter_state (held ++ take (head + n) piece) ≡ More
  late n before =
      let enough = reached (omega arith) in
      let until = s.whole enough in
      let count = has n (omega arith) in
      let length_is = same n enough in
      state-below (held ++ take (head + n) piece) (omega (arith, length_is, until, rest_is, enough)) (omega (arith, count, length_is, until, rest_is, enough))

  at_end : head + rest < length piece → splitter_state (held ++ take (head + rest) piece) ≢ More
  at_end left more =
      let enough : 3 ≤ length s.three = omega (arith, s.first, three_has) in
      let until = s.whole enough in
      let count = has rest (omega arith) in
      let length_is = same rest enough in
      let all : rest ≡ s.wanted - length s.three = omega (arith, rest_is) in
      ⊎_elim
      (λ (small : message_length s.three < 3).
      failed_is_not_more
      (sym (state-failed (held ++ take (head + rest) piece)
      (record {
        three = omega (arith, count, until, all, three_may);
        small = omega (arith, length_is);
      })) ∙ more))
      (λ (large : 3 ≤ message_length s.three).
      ready_is_not_more
      (sym (state-ready (held ++ take (head + rest) piece)
      (record {
        three = omega (arith, count, enough);
        count = omega (arith, count, length_is, until, all, three_may);
      })) ∙ more))
      (cases_lt (message_length s.three) 3)

  pub steps_taken : IsTaken held piece (head + rest)
  steps_taken = record {
    within = within;
    waits_before = λ n before.
        ⊎_elim (λ (in_first : n < head). early n in_first)
        (λ (in_rest : head ≤ n).
        let there : head + (n - head) ≡ n = omega arith in
        subst (λ k. splitter_state (held ++ take k piece) ≡ More) there (late (n - head) (omega arith)))
        (cases_lt n head);
    waits_no_more = at_end;
  }

  pub steps_held : after ≡ held ++ take (head + rest) piece
  steps_held =
      s.after_is
      ∙ ap₂ (λ xs ys. xs ++ take rest ys) s.three_is others_dropped
      ∙ sym (taken_on held piece head rest)

  pub steps_may : MayBeHeld after
  steps_may =
      let count = has rest (omega arith) in
      subst MayBeHeld (sym steps_held)
      (⊎_elim (λ (short : length s.three < 3). let third = s.few short in omega (arith, count, third, rest_is))
      (λ (enough : 3 ≤ length s.three).
      let until = s.whole enough in
      omega (arith, count, until, rest_is, three_may, same rest enough))
      (cases_lt (length s.three) 3))
