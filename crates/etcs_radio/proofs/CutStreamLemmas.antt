-- What comes out of a splitter that is fed a whole stream: its messages.
use Rattle.std.proofs.Common.{◌≡◌, ◌≢◌, ℕ, zero, suc, ◌<◌, ◌≤◌, List, [], ◌∷◌, ◌++◌, length, get_or, take, refl, sym, ap, ◌∙◌, subst, arith, append_assoc, length-append, ⊎_elim, inl, inr}
use Rattle.std.specs.Prelude.{All}
use Rattle.std.specs.List.{concat}
use Rattle.std.proofs.lemmas.Bool.{cases_lt}
use Rattle.std.proofs.lemmas.List.{append-nil, take_at}
use Rattle.etcs_radio.specs.declared.splitter.State.TheVariants.{More, Failed}
use Rattle.etcs_radio.specs.Stream.{message_length, AreOneMessageLong, AreRest, AreMessages}
use Rattle.etcs_radio.specs.Splitter.{splitter_state, MayBeHeld}
use Rattle.etcs_radio.specs.Cutting.{Cut, IsCut, cut_stream, no_message, after_message}
use Rattle.etcs_radio.proofs.StreamLemmas.{message_length-append, cut_once}
use Rattle.etcs_radio.proofs.StateLemmas.{state-ready, state-failed, ready-whole, failed-broken, ready_is_not_more, failed_is_not_more}
use Rattle.etcs_radio.proofs.CuttingLemmas.{state_is, nothing_waits, cut-none, cut-more, cut-ready, cut-failed, one_more}

-- a splitter that waits holds fewer bytes than L_MESSAGE counts
below : (held : List ℕ) → MayBeHeld held → splitter_state held ≡ More → 3 ≤ length held → length held < message_length held
below held may more three =
    ⊎_elim
    (λ (small : message_length held < 3).
    absurd (failed_is_not_more (sym (state-failed held (record { three = omega (arith, may); small = small })) ∙ more)))
    (λ (large : 3 ≤ message_length held).
    ⊎_elim (λ (less : length held < message_length held). less)
    (λ (enough : message_length held ≤ length held).
    absurd (ready_is_not_more (sym (state-ready held (record { three = three; count = omega (arith, may) })) ∙ more)))
    (cases_lt (length held) (message_length held)))
    (cases_lt (message_length held) 3)

-- one byte more may be held
one_more_held : (held : List ℕ) (byte : ℕ) → MayBeHeld held → splitter_state held ≡ More → MayBeHeld (held ++ (byte ∷ []))
one_more_held held byte may more =
    let count = length-append held (byte ∷ []) in
    ⊎_elim (λ (short : length held < 3). omega (arith, count))
    (λ (three : 3 ≤ length held).
    let says = message_length-append held (byte ∷ []) three in
    let less = below held may more three in
    omega (arith, count, says, less))
    (cases_lt (length held) 3)

rest_of_waiting : (held : List ℕ) → MayBeHeld held → splitter_state held ≡ More → AreRest held
rest_of_waiting held may more = λ three. inl (below held may more three)

all_with : (message : List ℕ) (messages : List (List ℕ)) → AreOneMessageLong message → All AreOneMessageLong messages → (k : ℕ) (d : List ℕ) → k < length (message ∷ messages) → AreOneMessageLong (get_or (message ∷ messages) k d)
all_with message messages whole others_are zero d within = whole
all_with message messages whole others_are (suc k) d within = others_are k d (omega arith)

cut_waiting : (held : List ℕ) → MayBeHeld held → splitter_state held ≡ More → IsCut (no_message held) held
cut_waiting held may more = record {
  left = [];
  stream = record {
    join = sym (append-nil held);
    whole = λ k x within. absurd (omega arith);
    cut_off = subst AreRest (sym (append-nil held)) (rest_of_waiting held may more);
  };
  may_be_held = may;
  not_ready = λ ready. ready_is_not_more (sym ready ∙ more);
  none_left = λ _. refl;
}

cut_broken : (held bytes : List ℕ) → MayBeHeld held → splitter_state held ≡ Failed → IsCut (no_message held) (held ++ bytes)
cut_broken held bytes may failed =
    let broken = failed-broken held failed in
    let says = message_length-append held bytes (omega (arith, broken.three)) in
    record {
      left = bytes;
      stream = record {
        join = refl;
        whole = λ k x within. absurd (omega arith);
        cut_off = λ _. inr (omega (arith, says, broken.small));
      };
      may_be_held = may;
      not_ready = λ ready. let both = sym ready ∙ failed in grind arith;
      none_left = λ other. absurd (other failed);
    }

cut_after : (message bytes : List ℕ) (cut : Cut) → AreOneMessageLong message → IsCut cut bytes → IsCut (after_message message cut) (message ++ bytes)
cut_after message bytes cut whole is = record {
  left = is.left;
  stream = record {
    join = ap (λ xs. message ++ xs) is.stream.join ∙ sym (append_assoc message (concat cut.messages) (cut.held ++ is.left));
    whole = all_with message cut.messages whole is.stream.whole;
    cut_off = is.stream.cut_off;
  };
  may_be_held = is.may_be_held;
  not_ready = is.not_ready;
  none_left = is.none_left;
}

pub cut_is : (held bytes : List ℕ) → MayBeHeld held → IsCut (cut_stream held bytes) (held ++ bytes)
cut_is held [] may =
    ⊎_elim
    (λ more.
    subst (λ cut. IsCut cut (held ++ [])) (sym (cut-none held more))
    (subst (IsCut (no_message held)) (sym (append-nil held)) (cut_waiting held may more)))
    (λ rest.
    ⊎_elim
    (λ ready.
    subst (λ cut. IsCut cut (held ++ [])) (sym (cut-ready held [] ready))
    (cut_after held [] (cut_stream [] []) (ready-whole held ready)
    (subst (λ cut. IsCut cut []) (sym (cut-none [] nothing_waits)) (cut_waiting [] (omega arith) nothing_waits))))
    (λ failed. subst (λ cut. IsCut cut (held ++ [])) (sym (cut-failed held [] failed)) (cut_broken held [] may failed))
    rest)
    (state_is (splitter_state held))
cut_is held (byte ∷ bytes) may =
    ⊎_elim
    (λ more.
    subst (λ cut. IsCut cut (held ++ (byte ∷ bytes))) (sym (cut-more held byte bytes more))
    (subst (IsCut (cut_stream (held ++ (byte ∷ [])) bytes)) (one_more held byte bytes)
    (cut_is (held ++ (byte ∷ [])) bytes (one_more_held held byte may more))))
    (λ rest.
    ⊎_elim
    (λ ready.
    subst (λ cut. IsCut cut (held ++ (byte ∷ bytes))) (sym (cut-ready held (byte ∷ bytes) ready))
    (cut_after held (byte ∷ bytes) (cut_stream [] (byte ∷ bytes)) (ready-whole held ready)
    (subst (λ cut. IsCut cut (byte ∷ bytes)) (sym (cut-more [] byte bytes nothing_waits))
    (cut_is (byte ∷ []) bytes (omega arith)))))
    (λ failed. subst (λ cut. IsCut cut (held ++ (byte ∷ bytes))) (sym (cut-failed held (byte ∷ bytes) failed)) (cut_broken held (byte ∷ bytes) may failed))
    rest)
    (state_is (splitter_state held))

pub stream_is : (bytes : List ℕ) → IsCut (cut_stream [] bytes) bytes
stream_is bytes = cut_is [] bytes (omega arith)

-- the messages and the rest of a stream, as it is cut
module _ (messages : List (List ℕ)) (rest bytes : List ℕ) (stream : AreMessages messages rest bytes) where
  abbrev held : List ℕ
  held = (cut_stream [] bytes).held

  is : IsCut (cut_stream [] bytes) bytes
  is = stream_is bytes

  one_way : ((cut_stream [] bytes).messages ≡ messages) × (held ++ is.left ≡ rest)
  one_way = cut_once (cut_stream [] bytes).messages messages (held ++ is.left) rest bytes is.stream stream

  pub messages_come_out : (cut_stream [] bytes).messages ≡ messages
  messages_come_out = one_way.0

  all_is_held : splitter_state held ≢ Failed → held ≡ rest
  all_is_held other = sym (append-nil held) ∙ sym (ap (λ xs. held ++ xs) (is.none_left other)) ∙ one_way.1

  -- the bytes at which a splitter failed are at the front of the rest
  failed_small : splitter_state held ≡ Failed → (3 ≤ length rest) × (message_length rest < 3)
  failed_small failed =
      let broken = failed-broken held failed in
      let count = length-append held is.left in
      let says = message_length-append held is.left (omega (arith, broken.three)) in (
        subst (λ xs. 3 ≤ length xs) one_way.1 (omega (arith, count, broken.three)),
        subst (λ xs. message_length xs < 3) one_way.1 (omega (arith, says, broken.small)),
      )

  pub cut_off_is_held : (3 ≤ length rest → length rest < message_length rest) → held ≡ rest
  cut_off_is_held below_length =
      all_is_held
      (λ failed.
      let small = failed_small failed in
      let less = below_length small.0 in
      omega (arith, small.1, less, small.0))

  pub broken_is_failed : 3 ≤ length rest → message_length rest < 3 → splitter_state held ≡ Failed
  broken_is_failed three small =
      ⊎_elim
      (λ more.
      let all = all_is_held (λ failed. failed_is_not_more (sym failed ∙ more)) in
      let less = below held is.may_be_held more (subst (λ xs. 3 ≤ length xs) (sym all) three) in
      let few : message_length held < 3 = subst (λ xs. message_length xs < 3) (sym all) small in
      absurd (omega (arith, less, few, subst (λ xs. 3 ≤ length xs) (sym all) three)))
      (λ rest_of. ⊎_elim (λ ready. absurd (is.not_ready ready)) (λ failed. failed) rest_of)
      (state_is (splitter_state held))

  pub broken_is_held : 3 ≤ length rest → message_length rest < 3 → held ≡ take 3 rest
  broken_is_held three small =
      let broken = failed-broken held (broken_is_failed three small) in
      sym (take_at held is.left 3 broken.three) ∙ ap (take 3) one_way.1
