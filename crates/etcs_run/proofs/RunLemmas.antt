-- How a run over lines continues, and how it ends. `output` is what the run must write for an
-- input, and `left` is what remains to be written.
use Rattle.std.proofs.Common.{◌≡◌, ◌+◌, ◌++◌, ℕ, Bool, true, false, List, [], ◌∷◌, Option, Some, None, IfSome, Result, Ok, Err, refl, sym, ap, ◌∙◌, append_assoc, take, drop, subst, arith}
use Rattle.std.proofs.lemmas.List.{append-nil, take_all, take-append-drop}
use Rattle.std.specs.Io.KnownBytes.{Appends, Consumes, IsAtEnd, Keeps}
use Rattle.etcs_run.specs.LineReading.{Reads}
use Rattle.etcs_run.specs.Ran.{MayFollow}
use Rattle.etcs_run.specs.TextLines.{split_lines}
use Rattle.etcs_run.specs.Output.{Output, line_by_line, prepend}
use Rattle.etcs_run.specs.Ran.{IsOutputSoFar, Ran, AnswersNextLine, Writes, WritesBytes}
use Rattle.etcs_run.specs.declared.error.RunError.{RunError}
use Rattle.etcs_run.specs.declared.status.Status.{Status}
use Rattle.etcs_run.specs.declared.control_flow.ControlFlow.TheVariants.{Next, Stop}
use Rattle.etcs_run.proofs.StreamLemmas.{Appends-kept, Appends-none, Appends-then, Consumes-none, Consumes-then}

-- The state while lines are read: what was read and written so far, and what remains to be written for
-- the held bytes and for what follows.
pub record Running (remaining_old remaining_new contents_old contents_new : Option (List ℕ))
    (ended : Bool) (output : List ℕ → Output) (left : List ℕ → Output) : Type 0 where
  pub bytes : List ℕ
  pub consumed : Consumes remaining_old remaining_new bytes
  pub text : List ℕ
  pub appended : Appends contents_old contents_new text
  pub says : (rest : List ℕ) → MayFollow ended rest
      → output (bytes ++ rest) ≡ prepend text (left rest)

-- what is written from a line onwards
abbrev pub Answers : Type 0
Answers = ℕ → List (List ℕ) → Output

-- what remains to be written after n lines
abbrev pub left_of : Answers → ℕ → List ℕ → List ℕ → Output
left_of answers n held rest = answers (n + 1) (split_lines (held ++ rest))

-- nothing is read yet, and everything remains to be written
pub Running-start : {r c : Option (List ℕ)} {ended : Bool} {held : List ℕ} (answers : Answers)
    → held ≡ [] → Running r r c c ended (line_by_line answers) (left_of answers 0 held)
Running-start {r} {c} answers none = record {
  bytes = [];
  consumed = Consumes-none r;
  text = [];
  appended = Appends-none c;
  says = λ rest may. rw none refl;
}

-- if `rest` may follow after a read, the bytes read and then `rest` may follow before it
may_before : {before after : Bool} (bytes rest : List ℕ) → (before ≡ true → bytes ≡ [])
    → (before ≡ true → after ≡ true) → MayFollow after rest → MayFollow before (bytes ++ rest)
may_before bytes rest quiet stays may ended = rw (quiet ended, may (stays ended)) refl

regroup : (output : List ℕ → Output) (a b rest : List ℕ)
    → output ((a ++ b) ++ rest) ≡ output (a ++ (b ++ rest))
regroup output a b rest = ap output (append_assoc a b rest)

module _ {r0 r r1 c0 c : Option (List ℕ)} {before after : Bool} {output : List ℕ → Output}
    {held line now : List ℕ} where
  -- a line was found, and its answer is not written yet
  pub Running-line : (answers : Answers) (n : ℕ) → Running r0 r c0 c before output (left_of answers n held)
      → Reads r r1 before held line now after (Ok true) → (before ≡ true → after ≡ true)
      → Running r0 r1 c0 c after output (λ rest. answers (n + 1) (line ∷ split_lines (now ++ rest)))
  Running-line answers n run read stays = record {
    bytes = run.bytes ++ read.bytes;
    consumed = Consumes-then r0 r r1 _ _ run.consumed read.consumed;
    text = run.text;
    appended = run.appended;
    says = λ rest may.
        let first = run.says (read.bytes ++ rest) (may_before _ rest read.quiet stays may) in
        let lines = sym (ap split_lines (append_assoc held read.bytes rest)) ∙ read.gives rest may in
        regroup output run.bytes read.bytes rest ∙ first
        ∙ ap (λ ls. prepend run.text (answers (n + 1) ls)) lines;
  }

  -- there is no further line
  pub Running-end : (answers : Answers) (n : ℕ) → Running r0 r c0 c before output (left_of answers n held)
      → Reads r r1 before held line now after (Ok false) → (before ≡ true → after ≡ true)
      → Running r0 r1 c0 c after output (λ _. answers (n + 1) [])
  unfolding split_lines
  Running-end answers n run read stays = record {
    bytes = run.bytes ++ read.bytes;
    consumed = Consumes-then r0 r r1 _ _ run.consumed read.consumed;
    text = run.text;
    appended = run.appended;
    says = λ rest may.
        let first = run.says (read.bytes ++ rest) (may_before _ rest read.quiet stays may) in
        let nothing : (held ++ read.bytes) ++ rest ≡ [] = rw (read.gives.1, may read.gives.0) refl in
        let nothing_left = sym (append_assoc held read.bytes rest) ∙ nothing in
        regroup output run.bytes read.bytes rest ∙ first
        ∙ ap (λ s. prepend run.text (answers (n + 1) (split_lines s))) nothing_left;
  }

  -- a read failed, or the line did not fit in memory
  pub Running-failed : {left : List ℕ → Output} {e : RunError} (x : RunError)
      → Running r0 r c0 c before output left → Reads r r1 before held line now after (Err e)
      → (before ≡ true → after ≡ true) → (after ≡ true → IsAtEnd r1) → Ran r0 r1 c0 c output (Err x)
  Running-failed {left} x run read stays met = record {
    bytes = run.bytes ++ read.bytes;
    consumed = Consumes-then r0 r r1 _ _ run.consumed read.consumed;
    ended = after;
    met = met;
    text = run.text;
    appended = run.appended;
    says = λ rest may.
        let first = run.says (read.bytes ++ rest) (may_before _ rest read.quiet stays may) in (
          (left (read.bytes ++ rest)).0,
          ap (λ o. o.0) (regroup output run.bytes read.bytes rest ∙ first),
        );
  }

module _ {r0 r c0 c c1 : Option (List ℕ)} {ended : Bool} {output : List ℕ → Output}
    (before after : Answers) (n : ℕ) {line : List ℕ} (now : List ℕ)
    (run : Running r0 r c0 c ended output (λ rest. before (n + 1) (line ∷ split_lines (now ++ rest)))) where
  -- a line was answered
  pub Running-answered : AnswersNextLine c c1 before after (n + 1) line (Ok Next)
      → Running r0 r c0 c1 ended output (left_of after (n + 1) now)
  Running-answered line_answer = record {
    bytes = run.bytes;
    consumed = run.consumed;
    text = run.text ++ line_answer.text;
    appended = Appends-then c0 c c1 _ _ run.appended line_answer.appended;
    says = λ rest may.
        let later = after ((n + 1) + 1) (split_lines (now ++ rest)) in
        run.says rest may ∙ ap (prepend run.text) (line_answer.says (split_lines (now ++ rest)))
        ∙ ap (λ s. (s, later.1)) (sym (append_assoc run.text line_answer.text later.0));
  }

  -- the run stops at a line
  pub Running-stopped : {status : Status} → AnswersNextLine c c1 before after (n + 1) line (Ok (Stop status))
      → (ended ≡ true → IsAtEnd r) → Ran r0 r c0 c1 output (Ok status)
  Running-stopped line_answer met = record {
    bytes = run.bytes;
    consumed = run.consumed;
    ended = ended;
    met = met;
    text = run.text ++ line_answer.text;
    appended = Appends-then c0 c c1 _ _ run.appended line_answer.appended;
    says = λ rest may.
        run.says rest may ∙ ap (prepend run.text) (line_answer.says (split_lines (now ++ rest)));
  }

  -- a write failed, or memory ran out
  pub Running-cut : {e : RunError} (x : RunError) → AnswersNextLine c c1 before after (n + 1) line (Err e)
      → (ended ≡ true → IsAtEnd r) → Ran r0 r c0 c1 output (Err x)
  Running-cut x line_answer met = record {
    bytes = run.bytes;
    consumed = run.consumed;
    ended = ended;
    met = met;
    text = run.text ++ line_answer.text;
    appended = Appends-then c0 c c1 _ _ run.appended line_answer.appended;
    says = λ rest may.
        let cut = line_answer.says (split_lines (now ++ rest)) in (
          cut.0,
          ap (λ o. o.0) (run.says rest may) ∙ ap (λ s. run.text ++ s) cut.1
              ∙ sym (append_assoc run.text line_answer.text cut.0),
        );
  }

-- a text before an output, or before a beginning of it
behind : (result : Result Status RunError) (first text : List ℕ) (output : Output)
    → IsOutputSoFar result text output → IsOutputSoFar result (first ++ text) (prepend first output)
behind (Ok status) first text output is = ap (prepend first) is
behind (Err e) first text output is =
    (is.0, ap (λ s. first ++ s) is.1 ∙ sym (append_assoc first text is.0))

-- the end of the input was answered
pub Running-ended : {r0 r c0 c c1 : Option (List ℕ)} {ended : Bool} {output : List ℕ → Output}
    {last : Output} {result : Result Status RunError} → Running r0 r c0 c ended output (λ _. last)
    → Writes c c1 last result → (ended ≡ true → IsAtEnd r) → Ran r0 r c0 c1 output result
Running-ended {c0} {c} {c1} {ended} {last} {result} run end met = record {
  bytes = run.bytes;
  consumed = run.consumed;
  ended = ended;
  met = met;
  text = run.text ++ end.text;
  appended = Appends-then c0 c c1 _ _ run.appended end.appended;
  says = λ rest may.
      let P : Output → Type 0 = IsOutputSoFar result (run.text ++ end.text) in
      subst P (sym (run.says rest may)) (behind result run.text end.text last end.says);
}

-- nothing was written since
pub Ran-kept : {r0 r c0 c c1 : Option (List ℕ)} {output : List ℕ → Output}
    {result : Result Status RunError} → Ran r0 r c0 c output result → Keeps c c1
    → Ran r0 r c0 c1 output result
Ran-kept {c0} {c} {c1} ran keeps = record {
  bytes = ran.bytes;
  consumed = ran.consumed;
  ended = ran.ended;
  met = ran.met;
  text = ran.text ++ [];
  appended = Appends-then c0 c c1 _ _ ran.appended (Appends-kept c c1 keeps);
  says = λ rest may. rw (append-nil ran.text) (ran.says rest may);
}

-- what is a whole output is a beginning of it too
pub Ran-failed : {r0 r c0 c : Option (List ℕ)} {output : List ℕ → Output} {status : Status}
    (e : RunError) → Ran r0 r c0 c output (Ok status) → Ran r0 r c0 c output (Err e)
Ran-failed e ran = record {
  bytes = ran.bytes;
  consumed = ran.consumed;
  ended = ran.ended;
  met = ran.met;
  text = ran.text;
  appended = ran.appended;
  says = λ rest may. ([], ap (λ o. o.0) (ran.says rest may) ∙ sym (append-nil ran.text));
}

-- nothing was read or written
pub Ran-nothing : {r c : Option (List ℕ)} {output : List ℕ → Output} (e : RunError)
    → Ran r r c c output (Err e)
Ran-nothing {r} {c} {output} e = record {
  bytes = [];
  consumed = Consumes-none r;
  ended = false;
  met = λ h. cc;
  text = [];
  appended = Appends-none c;
  says = λ rest may. ((output rest).0, refl);
}

-- nothing was read, and what was written is the same for every input
pub Ran-unread : {r c c1 : Option (List ℕ)} {output : Output} {result : Result Status RunError}
    → Writes c c1 output result → Ran r r c c1 (λ _. output) result
Ran-unread {r} writes = record {
  bytes = [];
  consumed = Consumes-none r;
  ended = false;
  met = λ h. cc;
  text = writes.text;
  appended = writes.appended;
  says = λ rest may. writes.says;
}

-- what ran for an output ran for an equal one
pub Ran-as : {r0 r c0 c : Option (List ℕ)} {output other : List ℕ → Output}
    {result : Result Status RunError} → ((s : List ℕ) → other s ≡ output s)
    → Ran r0 r c0 c output result → Ran r0 r c0 c other result
Ran-as {result} same ran = record {
  bytes = ran.bytes;
  consumed = ran.consumed;
  ended = ran.ended;
  met = ran.met;
  text = ran.text;
  appended = ran.appended;
  says = λ rest may.
      let P : Output → Type 0 = IsOutputSoFar result ran.text in
      subst P (sym (same (ran.bytes ++ rest))) (ran.says rest may);
}

-- the rest of a known input follows the bytes that were read
pub Ran-known : (remaining : Option (List ℕ)) {r c0 c : Option (List ℕ)} {output : List ℕ → Output}
    {result : Result Status RunError} → Ran remaining r c0 c output result
    → IfSome remaining (λ input. Writes c0 c (output input) result)
Ran-known None ran = tt
Ran-known (Some input) {r = None} ran = absurd ran.consumed
Ran-known (Some input) {r = Some rest} {output} {result} ran = record {
  text = ran.text;
  appended = ran.appended;
  says =
      let P : List ℕ → Type 0 = λ s. IsOutputSoFar result ran.text (output s) in
      subst P (sym ran.consumed) (ran.says rest ran.met);
}

-- a text was written completely
pub Writes-whole : {c c1 : Option (List ℕ)} {bytes line : List ℕ} {status : Status} {u : Unit {0}}
    → WritesBytes c c1 bytes (Ok u) → bytes ≡ line → Writes c c1 (line, status) (Ok status)
Writes-whole {bytes} {line} {status} written is = record {
  text = take written.count bytes;
  appended = written.appended;
  says =
      let whole : take written.count bytes ≡ line =
      take_all written.count bytes (omega (arith, written.whole)) ∙ is in
      ap (λ s. (s, status)) (sym whole);
}

-- then it was flushed
pub Writes-kept : {c c1 c2 : Option (List ℕ)} {output : Output} {result : Result Status RunError}
    → Writes c c1 output result → Keeps c1 c2 → Writes c c2 output result
Writes-kept {c} {c1} {c2} {output} {result} writes keeps = record {
  text = writes.text ++ [];
  appended = Appends-then c c1 c2 _ _ writes.appended (Appends-kept c1 c2 keeps);
  says = rw (append-nil writes.text) writes.says;
}

-- a beginning of that text was written
pub Writes-begun : {c c1 : Option (List ℕ)} {bytes line : List ℕ} {status : Status}
    {result : Result (Unit {0}) RunError} (e : RunError) → WritesBytes c c1 bytes result → bytes ≡ line
    → Writes c c1 (line, status) (Err e)
Writes-begun {bytes} e written is = record {
  text = take written.count bytes;
  appended = written.appended;
  says = (drop written.count bytes, sym (take-append-drop written.count bytes ∙ is));
}

-- what is a whole output is a beginning of it too
pub Writes-failed : {c c1 : Option (List ℕ)} {output : Output} {status : Status} (e : RunError)
    → Writes c c1 output (Ok status) → Writes c c1 output (Err e)
Writes-failed e writes = record {
  text = writes.text;
  appended = writes.appended;
  says = ([], ap (λ o. o.0) writes.says ∙ sym (append-nil writes.text));
}
