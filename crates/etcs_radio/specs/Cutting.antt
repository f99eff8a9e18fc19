-- A stream that is fed to a splitter. Whenever the splitter is ready, its message is taken out, and
-- it is cleared. The result does not depend on the pieces: it is the only division of the bytes into
-- messages and a rest (`AreMessages`, Stream).
use Rattle.std.specs.Prelude.{◌≡◌, ◌≢◌, ℕ, List, [], ◌∷◌, ◌++◌}
use Rattle.etcs_radio.specs.declared.splitter.State.{State}
use Rattle.etcs_radio.specs.declared.splitter.State.TheVariants.{More, Ready, Failed}
use Rattle.etcs_radio.specs.Stream.{AreMessages}
use Rattle.etcs_radio.specs.Splitter.{splitter_state, MayBeHeld}

-- What comes out of a splitter: the messages that were taken out of it, and the bytes that it holds
-- at the end.
pub record Cut : Type 0 where
  pub messages : List (List ℕ)
  pub held : List ℕ

-- no message, and these bytes
abbrev pub no_message : List ℕ → Cut
no_message held = record { messages = []; held = held }

-- one message before all others
abbrev pub after_message : List ℕ → Cut → Cut
after_message message cut = record { messages = message ∷ cut.messages; held = cut.held }

-- two results, one after the other: the messages of both, and the bytes that are held after the second
abbrev pub one_then : Cut → Cut → Cut
one_then first then = record { messages = first.messages ++ then.messages; held = then.held }

-- A waiting splitter continues with what it holds. A ready splitter gives its message and continues
-- empty. A failed splitter does not continue.
abbrev pub continue_cut : State → List ℕ → (List ℕ → Cut) → Cut
continue_cut More held then = then held
continue_cut Ready held then = after_message held (then [])
continue_cut Failed held then = no_message held

-- ---- what comes out
-- Pinned by the law a_stream_is_fed_call_by_call.
-- Pinned by the law a_stream_may_come_in_pieces.
-- Pinned by the law streams_are_cut.

-- what comes out of a splitter that holds some bytes and is fed others
unfoldable pub cut_stream : List ℕ → List ℕ → Cut
cut_stream held [] = continue_cut (splitter_state held) held no_message
cut_stream held (byte ∷ bytes) =
    continue_cut (splitter_state held) held (λ before. cut_stream (before ++ (byte ∷ [])) bytes)

-- what comes out of a splitter that holds some bytes and is fed one piece after the other
unfoldable pub cut_pieces : List ℕ → List (List ℕ) → Cut
cut_pieces held [] = cut_stream held []
cut_pieces held (piece ∷ pieces) =
    one_then (cut_stream held piece) (cut_pieces (cut_stream held piece).held pieces)

-- ---- a stream

-- Bytes are the messages that came out and the bytes that are held, which are no complete message. If
-- the splitter has failed, more bytes may follow, which it has not taken.
pub record IsCut (cut : Cut) (bytes : List ℕ) : Type 0 where
  pub left : List ℕ
  pub stream : AreMessages cut.messages (cut.held ++ left) bytes
  pub may_be_held : MayBeHeld cut.held
  pub not_ready : splitter_state cut.held ≢ Ready
  pub none_left : splitter_state cut.held ≢ Failed → left ≡ []
