-- How the bytes of a stream of radio messages are answered, message by message. `all` is what must be
-- written for all bytes of a line, and `left` for the remaining bytes.
use Rattle.std.proofs.Common.{◌≡◌, ◌≢◌, ◌≤◌, ◌+◌, ◌-◌, ◌++◌, ℕ, Bool, true, false, if◌then◌else◌, List, [], ◌∷◌, length, Option, Result, Ok, Err, refl, sym, ap, ◌∙◌, append_assoc, take, drop, arith, length-append, length-drop, length-take, drop-drop, subst, OnOk, ◌⊎◌, inl, inr}
use Rattle.std.specs.Io.BufRead.{ends_with_byte}
use Rattle.std.specs.Io.KnownBytes.{Appends}
use Rattle.hex.proofs.HexLemmas.{decode_of-ok}
use Rattle.hex.specs.Hex.{decode_of}
use Rattle.hex.specs.declared.error.FromHexError.{FromHexError}
use Rattle.hex.specs.declared.error.FromHexError.TheVariants.{OutOfMemory}
use Rattle.etcs_bits.specs.declared.layout.fault.Fault.{Fault}
use Rattle.etcs_radio.specs.Cutting.{Cut, after_message, cut_stream, no_message}
use Rattle.etcs_radio.specs.Meaning.{read_message}
use Rattle.etcs_radio.specs.Splitter.{IsTaken, splitter_state}
use Rattle.etcs_radio.specs.declared.splitter.State.TheVariants.{Failed, More, Ready}
use Rattle.etcs_radio.proofs.CuttingLemmas.{call-others, call-ready}
use Rattle.etcs_radio.proofs.StateLemmas.{ready-whole, ready_is_not_more}
use Rattle.etcs_document.specs.Refusal.{line_words, refusal_words}
use Rattle.etcs_document.specs.declared.refusal.LineFault.TheVariants.{Text}
use Rattle.etcs_document.specs.declared.refusal.Refusal.TheVariants.{Message}
use Rattle.etcs_document.specs.declared.refusal.StreamFault.TheVariants.{BelowThree, CutOff}
use Rattle.etcs_telegram.specs.declared.error.TextError.TheVariants.{NotHex}
use Rattle.etcs_run.specs.Output.{Output, answered, prepend, refusal_output}
use Rattle.etcs_run.specs.RadioHeld.{Feeds}
use Rattle.etcs_run.specs.RadioStream.{Continuation, bytes_output, message_json, stream_answers, message_output, cut_output}
use Rattle.etcs_run.specs.Ran.{AnswersNextLine, AnswersLine, Writes}
use Rattle.etcs_run.specs.TextLines.{trimmed}
use Rattle.etcs_run.specs.declared.error.RunError.{RunError}
use Rattle.etcs_run.specs.declared.status.Status.{Status}
use Rattle.etcs_run.specs.declared.status.Status.TheVariants.{Done}
use Rattle.etcs_run.specs.declared.control_flow.ControlFlow.{ControlFlow}
use Rattle.etcs_run.specs.declared.control_flow.ControlFlow.TheVariants.{Next, Stop}
use Rattle.etcs_run.proofs.AnswerLemmas.{WritesAnswer-as, WritesAnswer-at}
use Rattle.etcs_run.proofs.StreamLemmas.{Appends-none, Appends-then}

-- ---- what remains to be written after one call of the splitter

-- a message came out
pub fed_ready : (n : ℕ) (held piece whole rest : List ℕ)
    → cut_stream held piece ≡ after_message whole (cut_stream [] rest) → (continuation : Continuation)
    → bytes_output n held piece continuation ≡ message_output n (message_json (read_message whole)) (bytes_output (n + 1) [] rest continuation)
fed_ready n held piece whole rest is continuation = ap (λ (cut : Cut). cut_output n cut continuation) is

-- the splitter waits for more bytes
pub fed_more : (n : ℕ) (held piece after : List ℕ) → cut_stream held piece ≡ no_message after
    → splitter_state after ≡ More → (continuation : Continuation) → bytes_output n held piece continuation ≡ continuation n after
fed_more n held piece after is waits continuation = ap (λ (cut : Cut). cut_output n cut continuation) is ∙ rw waits refl

ready_is_not_failed : Ready ≢ Failed
ready_is_not_failed e = grind arith

-- no message begins with the bytes that are held
pub fed_failed : (n : ℕ) (held piece after : List ℕ) → cut_stream held piece ≡ no_message after
    → splitter_state after ≡ Failed → (continuation : Continuation) → bytes_output n held piece continuation ≡ refusal_output (Message n BelowThree)
fed_failed n held piece after is failed continuation =
    ap (λ (cut : Cut). cut_output n cut continuation) is ∙ rw failed refl

-- One call of the splitter: it takes some of the remaining bytes, and appends them to the held bytes.
pub record Takes (held bytes now : List ℕ) (at used : ℕ) : Type 0 where
  pub taken : IsTaken held (drop at bytes) used
  pub grown : now ≡ held ++ take used (drop at bytes)

-- one call of the splitter, for the piece of all remaining bytes
pub takes_of : {held now piece : List ℕ} {used : ℕ} (bytes : List ℕ) (at : ℕ) → piece ≡ drop at bytes
    → IsTaken held piece used → now ≡ held ++ take used piece → Takes held bytes now at used
takes_of {held} {now} {piece} {used} bytes at is taken grown =
    let Taken : List ℕ → Type 0 = λ xs. IsTaken held xs used in record {
      taken = subst Taken is taken;
      grown = grown ∙ ap (λ xs. held ++ take used xs) is;
    }

module _ {held bytes now : List ℕ} {at used : ℕ} (call : Takes held bytes now at used) where
  -- it takes at most the remaining bytes, and holds as many more
  pub takes_few : used ≤ length bytes - at
  takes_few = omega (arith, call.taken.within, length-drop at bytes)

  pub takes_so_many : length now ≡ length held + used
  takes_so_many = omega (
    arith,
    ap length call.grown,
    length-append held (take used (drop at bytes)),
    length-take used (drop at bytes),
    length-drop at bytes,
    call.taken.within,
  )

  -- a complete message has at least three bytes
  pub takes_three : splitter_state now ≡ Ready → 3 ≤ length now
  takes_three ready = (ready-whole now ready).three

  none_came : splitter_state now ≢ Ready → cut_stream held (drop at bytes) ≡ no_message now
  none_came other =
      call-others held (drop at bytes) used call.taken (λ ready. other (ap splitter_state call.grown ∙ ready))
      ∙ ap no_message (sym call.grown)

  one_came : splitter_state now ≡ Ready
      → cut_stream held (drop at bytes) ≡ after_message now (cut_stream [] (drop (at + used) bytes))
  one_came ready =
      call-ready held (drop at bytes) used call.taken (ap splitter_state (sym call.grown) ∙ ready)
      ∙ ap (λ whole. after_message whole (cut_stream [] (drop used (drop at bytes)))) (sym call.grown)
      ∙ ap (λ rest. after_message now (cut_stream [] rest)) (drop-drop used at bytes)

  -- what remains to be written after the call: all of it later, the refusal, or the message and the bytes
  -- after it
  pub left_more : (n : ℕ) → splitter_state now ≡ More → (continuation : Continuation)
      → bytes_output n held (drop at bytes) continuation ≡ continuation n now
  left_more n waits =
      fed_more n held (drop at bytes) now (none_came (λ ready. ready_is_not_more (sym ready ∙ waits))) waits

  pub left_failed : (n : ℕ) → splitter_state now ≡ Failed → (continuation : Continuation)
      → bytes_output n held (drop at bytes) continuation ≡ refusal_output (Message n BelowThree)
  left_failed n failed =
      fed_failed n held (drop at bytes) now (none_came (λ ready. ready_is_not_failed (sym ready ∙ failed))) failed

  pub left_ready : (n : ℕ) → splitter_state now ≡ Ready → (continuation : Continuation)
      → bytes_output n held (drop at bytes) continuation
      ≡ message_output n (message_json (read_message now)) (bytes_output (n + 1) [] (drop (at + used) bytes) continuation)
  left_ready n ready = fed_ready n held (drop at bytes) now (drop (at + used) bytes) (one_came ready)

-- ---- what was written so far

-- this text was written, and the rest is left
pub record Feeding (old new : Option (List ℕ)) (all left : Continuation → Output) : Type 0 where
  pub text : List ℕ
  pub appended : Appends old new text
  pub says : (continuation : Continuation) → all continuation ≡ prepend text (left continuation)

-- nothing is written yet
pub Feeding-start : {c : Option (List ℕ)} (all : Continuation → Output) → Feeding c c all all
Feeding-start {c} all = record { text = []; appended = Appends-none c; says = λ continuation. refl }

module _ {c0 c c1 : Option (List ℕ)} {all left : Continuation → Output} (feeding : Feeding c0 c all left) where
  -- a message was answered, and the rest is left
  pub Feeding-message : (later : Continuation → Output) (after : Output → Output)
      → ((continuation : Continuation) → left continuation ≡ after (later continuation)) → AnswersLine c c1 after (Ok Next)
      → Feeding c0 c1 all later
  Feeding-message later after is line_answer = record {
    text = feeding.text ++ line_answer.text;
    appended = Appends-then c0 c c1 _ _ feeding.appended line_answer.appended;
    says = λ continuation.
        feeding.says continuation ∙ ap (prepend feeding.text) (is continuation ∙ line_answer.says (later continuation))
        ∙ ap (λ s. (s, (later continuation).1)) (sym (append_assoc feeding.text line_answer.text (later continuation).0));
  }

  -- the run stops at a message
  pub Feeds-stopped : (later : Continuation → Output) (after : Output → Output)
      → ((continuation : Continuation) → left continuation ≡ after (later continuation)) → {status : Status}
      → AnswersLine c c1 after (Ok (Stop status)) → (n : ℕ) (held : List ℕ)
      → Feeds c0 c1 all n held (Ok (Stop status))
  Feeds-stopped later after is line_answer n held = record {
    text = feeding.text ++ line_answer.text;
    appended = Appends-then c0 c c1 _ _ feeding.appended line_answer.appended;
    says = λ continuation. feeding.says continuation ∙ ap (prepend feeding.text) (is continuation ∙ line_answer.says (later continuation));
  }

  -- a write failed, or memory ran out
  pub Feeds-cut : (later : Continuation → Output) (after : Output → Output)
      → ((continuation : Continuation) → left continuation ≡ after (later continuation)) → {e : RunError} (x : RunError)
      → AnswersLine c c1 after (Err e) → (n : ℕ) (held : List ℕ) → Feeds c0 c1 all n held (Err x)
  Feeds-cut later after is x line_answer n held = record {
    text = feeding.text ++ line_answer.text;
    appended = Appends-then c0 c c1 _ _ feeding.appended line_answer.appended;
    says = λ continuation.
        let cut = line_answer.says (later continuation) in (
          cut.0,
          ap (λ o. o.0) (feeding.says continuation ∙ ap (prepend feeding.text) (is continuation))
              ∙ ap (λ s. feeding.text ++ s) cut.1
              ∙ sym (append_assoc feeding.text line_answer.text cut.0),
        );
  }

-- all bytes were fed
pub Feeds-more : {c0 c : Option (List ℕ)} {all left : Continuation → Output} (n : ℕ) (held : List ℕ)
    → Feeding c0 c all left → ((continuation : Continuation) → left continuation ≡ continuation n held)
    → Feeds c0 c all n held (Ok Next)
Feeds-more n held feeding is = record {
  text = feeding.text;
  appended = feeding.appended;
  says = λ continuation. feeding.says continuation ∙ ap (prepend feeding.text) (is continuation);
}

-- ---- refusals

-- the complete output ends the run, whatever would follow
pub answer_of_output : {c c1 : Option (List ℕ)} {output : Output} {status : Status}
    → Writes c c1 output (Ok status) → AnswersLine c c1 (λ _. output) (Ok (Stop status))
answer_of_output writes = record { text = writes.text; appended = writes.appended; says = λ rest. writes.says }

-- a beginning of the output
pub answer_of_beginning : {c c1 : Option (List ℕ)} {output : Output} {e : RunError} (x : RunError)
    → Writes c c1 output (Err e) → AnswersLine c c1 (λ _. output) (Err x)
answer_of_beginning x writes = record { text = writes.text; appended = writes.appended; says = λ rest. writes.says }

-- ---- lines

-- the bytes of a line were fed
pub line_fed : {c c1 : Option (List ℕ)} (n : ℕ) (held : List ℕ) (later : ℕ) (kept : List ℕ)
    (number : ℕ) (line bytes : List ℕ) (result : Result ControlFlow RunError)
    → decode_of (trimmed line) ≡ Ok bytes → Feeds c c1 (bytes_output n held bytes) later kept result
    → AnswersNextLine c c1 (stream_answers n held) (stream_answers later kept) number line result
unfolding stream_answers
line_fed n held later kept number line bytes result is feeds =
    WritesAnswer-as (λ lines. rw is refl) (WritesAnswer-at (λ lines m h. stream_answers m h (number + 1) lines) feeds)

-- a text was not read, and memory did not run out
pub not_read : {text other : List ℕ} {why : FromHexError} → other ≡ text → why ≢ OutOfMemory
    → (why ≡ OutOfMemory) ⊎ (decode_of other ≡ Err why) → decode_of text ≡ Err why
not_read same some (inl memory) = absurd (some memory)
not_read same some (inr is) = ap decode_of (sym same) ∙ is

-- a line that is not hexadecimal text was refused
pub line_refused : {c c1 : Option (List ℕ)} (n : ℕ) (held : List ℕ) (later : ℕ) (kept : List ℕ)
    (number : ℕ) (line : List ℕ) (why : FromHexError) (result : Result ControlFlow RunError)
    → decode_of (trimmed line) ≡ Err why
    → AnswersLine c c1 (answered number (Err (line_words (Text NotHex)))) result
    → AnswersNextLine c c1 (stream_answers n held) (stream_answers later kept) number line result
unfolding stream_answers
line_refused n held later kept number line why result is line_answer =
    WritesAnswer-as (λ lines. rw is refl) (WritesAnswer-at (stream_answers later kept (number + 1)) line_answer)

-- ---- counting

-- cutting off the end does not make a line longer
cut_shorter : (cut : Bool) (line : List ℕ)
    → length (if cut then take (length line - 1) line else line) ≤ length line
cut_shorter true line = omega (arith, length-take (length line - 1) line)
cut_shorter false line = omega arith

trimmed_shorter : (line : List ℕ) → length (trimmed line) ≤ length line
trimmed_shorter line = cut_shorter (ends_with_byte 13 line) line

-- a line has at least as many bytes of text as bytes that it spells
pub bytes_spelled : (line bytes : List ℕ) → decode_of (trimmed line) ≡ Ok bytes
    → length bytes ≤ length line
bytes_spelled line bytes is =
    let twice = (decode_of-ok (trimmed line) bytes is).2 in
    omega (arith, twice, trimmed_shorter line)

-- a cost that is covered by fewer bytes is covered by more
pub pays_more : (a b m n : ℕ) (result : Result ControlFlow RunError) → OnOk result (a ≤ b + m) → m ≤ n
    → OnOk result (a ≤ b + n)
pays_more a b m n (Ok line_answer) bounded few = omega (arith, bounded, few)
pays_more a b m n (Err e) bounded few = tt

-- ---- the end of the input

-- nothing is held
pub ends_done : {c : Option (List ℕ)} (n : ℕ) (held : List ℕ) (number : ℕ) → held ≡ []
    → Writes c c (stream_answers n held number []) (Ok Done)
unfolding stream_answers
ends_done {c} n held number none = record { text = []; appended = Appends-none c; says = rw none refl }

-- a message has begun
pub ends_cut_off : {c c1 : Option (List ℕ)} (n : ℕ) (held : List ℕ) (number : ℕ)
    {result : Result Status RunError} → held ≢ [] → Writes c c1 (refusal_output (Message n CutOff)) result
    → Writes c c1 (stream_answers n held number []) result
unfolding stream_answers
ends_cut_off n [] number some writes = absurd (some refl)
ends_cut_off n (byte ∷ held) number some writes = writes

-- nothing is held, so nothing is refused
pub ends_silent : (n : ℕ) (held : List ℕ) (number : ℕ) → held ≡ []
    → (stream_answers n held number []).1 ≡ Done
unfolding stream_answers
ends_silent n held number none = rw none refl

-- the refusal of a message that has begun is a text
pub ends_told : (n : ℕ) (held : List ℕ) (number : ℕ) → held ≢ []
    → (stream_answers n held number []).0 ≡ [] → ⊥
unfolding stream_answers refusal_words
ends_told n [] number some none = some refl
ends_told n (byte ∷ held) number some none = cc none

-- the line of a message is a beginning of the answer to the message
pub begins_told : (n : ℕ) {meaning : Result (List ℕ) Fault} {line : List ℕ} → meaning ≡ Ok line
    → (rest : Output) → (more : List ℕ) × ((message_output n meaning rest).0 ≡ line ++ more)
begins_told n is rest = (rest.0, rw is refl)
