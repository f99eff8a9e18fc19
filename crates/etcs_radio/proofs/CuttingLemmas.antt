-- What comes out of a splitter, call by call and piece by piece.
use Rattle.std.proofs.Common.{◌≡◌, ◌≢◌, ℕ, zero, suc, List, [], ◌∷◌, ◌++◌, take, drop, refl, sym, ap, ◌∙◌, arith, append_assoc, ⊎_elim, inl, inr}
use Rattle.std.specs.Prelude.{◌⊎◌}
use Rattle.std.specs.List.{concat}
use Rattle.std.proofs.lemmas.List.{append-nil}
use Rattle.etcs_radio.specs.declared.splitter.State.{State}
use Rattle.etcs_radio.specs.declared.splitter.State.TheVariants.{More, Ready, Failed}
use Rattle.etcs_radio.specs.Splitter.{splitter_state, IsTaken}
use Rattle.etcs_radio.specs.Cutting.{Cut, cut_stream, cut_pieces, no_message, after_message, one_then, continue_cut}
use Rattle.etcs_radio.proofs.StateLemmas.{state-none}

-- ---- by the state

-- what the state is
pub state_is : (s : State) → (s ≡ More) ⊎ ((s ≡ Ready) ⊎ (s ≡ Failed))
state_is More = inl refl
state_is Ready = inr (inl refl)
state_is Failed = inr (inr refl)

go-more : (held : List ℕ) (then : List ℕ → Cut) → splitter_state held ≡ More → continue_cut (splitter_state held) held then ≡ then held
go-more held then e = ap (λ s. continue_cut s held then) e

go-ready : (held : List ℕ) (then : List ℕ → Cut) → splitter_state held ≡ Ready → continue_cut (splitter_state held) held then ≡ after_message held (then [])
go-ready held then e = ap (λ s. continue_cut s held then) e

go-failed : (held : List ℕ) (then : List ℕ → Cut) → splitter_state held ≡ Failed → continue_cut (splitter_state held) held then ≡ no_message held
go-failed held then e = ap (λ s. continue_cut s held then) e

pub nothing_waits : splitter_state [] ≡ More
nothing_waits = state-none [] refl

-- ---- one call of `feed`

-- what comes out of a splitter that is ready
pub cut-ready : (held piece : List ℕ) → splitter_state held ≡ Ready → cut_stream held piece ≡ after_message held (cut_stream [] piece)
unfolding cut_stream
cut-ready held [] e = go-ready held no_message e ∙ ap (after_message held) (sym (go-more [] no_message nothing_waits))
cut-ready held (byte ∷ piece) e =
    let then = λ (before : List ℕ). cut_stream (before ++ (byte ∷ [])) piece in
    go-ready held then e ∙ ap (after_message held) (sym (go-more [] then nothing_waits))

-- of one that has failed
pub cut-failed : (held piece : List ℕ) → splitter_state held ≡ Failed → cut_stream held piece ≡ no_message held
unfolding cut_stream
cut-failed held [] e = go-failed held no_message e
cut-failed held (byte ∷ piece) e = go-failed held (λ (before : List ℕ). cut_stream (before ++ (byte ∷ [])) piece) e

-- of one that waits
pub cut-none : (held : List ℕ) → splitter_state held ≡ More → cut_stream held [] ≡ no_message held
unfolding cut_stream
cut-none held e = go-more held no_message e

pub cut-more : (held : List ℕ) (byte : ℕ) (piece : List ℕ) → splitter_state held ≡ More → cut_stream held (byte ∷ piece) ≡ cut_stream (held ++ (byte ∷ [])) piece
unfolding cut_stream
cut-more held byte piece e = go-more held (λ (before : List ℕ). cut_stream (before ++ (byte ∷ [])) piece) e

pub one_more : (held : List ℕ) (byte : ℕ) (bytes : List ℕ) → (held ++ (byte ∷ [])) ++ bytes ≡ held ++ (byte ∷ bytes)
one_more held byte bytes = append_assoc held (byte ∷ []) bytes

-- the first byte of what is taken
begins : (held : List ℕ) (byte : ℕ) (piece : List ℕ) (n : ℕ) → IsTaken held (byte ∷ piece) (suc n) → splitter_state held ≡ More
begins held byte piece n taken = ap splitter_state (sym (append-nil held)) ∙ taken.waits_before 0 (omega arith)

-- the bytes of what is taken after the first
taken_after : (held : List ℕ) (byte : ℕ) (piece : List ℕ) (n : ℕ) → IsTaken held (byte ∷ piece) (suc n) → IsTaken (held ++ (byte ∷ [])) piece n
taken_after held byte piece n taken = record {
  within = let within = taken.within in omega arith;
  waits_before = λ k before. ap splitter_state (one_more held byte (take k piece)) ∙ taken.waits_before (suc k) (omega arith);
  waits_no_more = λ left more.
      taken.waits_no_more (omega arith) (ap splitter_state (sym (one_more held byte (take n piece))) ∙ more);
}

pub call-ready : (held piece : List ℕ) (n : ℕ) → IsTaken held piece n → splitter_state (held ++ take n piece) ≡ Ready → cut_stream held piece ≡ after_message (held ++ take n piece) (cut_stream [] (drop n piece))
call-ready held piece zero taken ready =
    let same = append-nil held in
    cut-ready held piece (ap splitter_state (sym same) ∙ ready)
    ∙ ap (λ xs. after_message xs (cut_stream [] piece)) (sym same)
call-ready held [] (suc n) taken ready = absurd (let within = taken.within in omega arith)
call-ready held (byte ∷ piece) (suc n) taken ready =
    let join = one_more held byte (take n piece) in
    cut-more held byte piece (begins held byte piece n taken)
    ∙ call-ready (held ++ (byte ∷ [])) piece n (taken_after held byte piece n taken) (ap splitter_state join ∙ ready)
    ∙ ap (λ xs. after_message xs (cut_stream [] (drop n piece))) join

pub call-others : (held piece : List ℕ) (n : ℕ) → IsTaken held piece n → splitter_state (held ++ take n piece) ≢ Ready → cut_stream held piece ≡ no_message (held ++ take n piece)
call-others held [] zero taken other =
    let same = append-nil held in
    ⊎_elim (λ more. cut-none held more)
    (λ rest.
    ⊎_elim (λ ready. absurd (other (ap splitter_state same ∙ ready))) (λ failed. cut-failed held [] failed) rest)
    (state_is (splitter_state held))
    ∙ ap no_message (sym same)
call-others held (byte ∷ piece) zero taken other =
    let same = append-nil held in
    ⊎_elim (λ more. absurd (taken.waits_no_more (omega arith) (ap splitter_state same ∙ more)))
    (λ rest.
    ⊎_elim (λ ready. absurd (other (ap splitter_state same ∙ ready))) (λ failed. cut-failed held (byte ∷ piece) failed) rest)
    (state_is (splitter_state held))
    ∙ ap no_message (sym same)
call-others held [] (suc n) taken other = absurd (let within = taken.within in omega arith)
call-others held (byte ∷ piece) (suc n) taken other =
    let join = one_more held byte (take n piece) in
    cut-more held byte piece (begins held byte piece n taken)
    ∙ call-others (held ++ (byte ∷ [])) piece n (taken_after held byte piece n taken) (λ ready. other (ap splitter_state (sym join) ∙ ready))
    ∙ ap no_message join

-- ---- pieces

pub pieces : (held one other : List ℕ) → cut_stream held (one ++ other) ≡ one_then (cut_stream held one) (cut_stream (cut_stream held one).held other)
pieces held [] other =
    ⊎_elim
    (λ more. ap (λ cut. one_then cut (cut_stream cut.held other)) (sym (cut-none held more)))
    (λ rest.
    ⊎_elim
    (λ ready.
    cut-ready held other ready
    ∙ ap (λ cut. one_then cut (cut_stream cut.held other))
    (sym (cut-ready held [] ready ∙ ap (after_message held) (cut-none [] nothing_waits))))
    (λ failed.
    cut-failed held other failed
    ∙ sym (ap (one_then (no_message held)) (cut-failed held other failed))
    ∙ ap (λ cut. one_then cut (cut_stream cut.held other)) (sym (cut-failed held [] failed)))
    rest)
    (state_is (splitter_state held))
pieces held (byte ∷ one) other =
    ⊎_elim
    (λ more.
    cut-more held byte (one ++ other) more
    ∙ pieces (held ++ (byte ∷ [])) one other
    ∙ ap (λ cut. one_then cut (cut_stream cut.held other)) (sym (cut-more held byte one more)))
    (λ rest.
    ⊎_elim
    (λ ready.
    let start = cut-more [] byte one nothing_waits in
    cut-ready held (byte ∷ (one ++ other)) ready
    ∙ ap (after_message held)
    (cut-more [] byte (one ++ other) nothing_waits
    ∙ pieces (byte ∷ []) one other
    ∙ ap (λ cut. one_then cut (cut_stream cut.held other)) (sym start))
    ∙ ap (λ cut. one_then cut (cut_stream cut.held other)) (sym (cut-ready held (byte ∷ one) ready)))
    (λ failed.
    cut-failed held (byte ∷ (one ++ other)) failed
    ∙ sym (ap (one_then (no_message held)) (cut-failed held other failed))
    ∙ ap (λ cut. one_then cut (cut_stream cut.held other)) (sym (cut-failed held (byte ∷ one) failed)))
    rest)
    (state_is (splitter_state held))

-- ---- any pieces

pub all_pieces : (before : List ℕ) (pieces_in : List (List ℕ)) → cut_pieces before pieces_in ≡ cut_stream before (concat pieces_in)
unfolding cut_pieces
all_pieces before [] = refl
all_pieces before (piece ∷ others_in) =
    ap (one_then (cut_stream before piece)) (all_pieces (cut_stream before piece).held others_in)
    ∙ sym (pieces before piece (concat others_in))
