-- Fields in quotes, and doubled quotes.
use Rattle.std.proofs.Common.{◌≡◌, ◌≢◌, ◌∙◌, ◌+◌, ◌<◌, ◌==◌, ◌||◌, ℕ, suc, Bool, true, false, List, [], ◌∷◌, ◌++◌, ap, append_assoc, arith, drop, get_or, length, refl, sym, take}
use Rattle.std.proofs.Math.Seq.{take-add, take-append-add}
use Rattle.std.proofs.lemmas.List.{append-nil, drop-drop, drop_more, get_or-drop, get_or-take, length-drop, length-take-le, take-append-drop}
use Rattle.etcs_rows.specs.Fields.{EndsQuoted, GoesOn, IsOpen, field_text, in_field, rows_in, single, single_after}
use Rattle.etcs_rows.specs.Machine.{append, closed, quoted, step}
use Rattle.etcs_rows.specs.Rows.{rows_after, wrong_at}
use Rattle.etcs_rows.specs.declared.error.QuoteFault.TheVariants.{Open, Text}
use Rattle.etcs_rows.proofs.MachineLemmas.{is_not}
use Rattle.etcs_rows.proofs.RunLemmas.{joins, neither}

-- ---- doubled quotes

-- bytes without quotes stay as they are
pub single_run : (xs rest : List ℕ) → ((k : ℕ) → k < length xs → get_or xs k 0 ≢ 34) → single (xs ++ rest) ≡ xs ++ single rest
single_run [] rest h = refl
single_run (x ∷ xs) rest h =
    rw (is_not x 34 (h 0 (omega arith))) (ap (λ ys. x ∷ ys) (single_run xs rest (λ k below. h (suc k) (omega arith))))

single_plain : (xs : List ℕ) → ((k : ℕ) → k < length xs → get_or xs k 0 ≢ 34) → single xs ≡ xs
single_plain xs h = ap single (sym (append-nil xs)) ∙ single_run xs [] h ∙ append-nil xs

-- the doubled quotes in `xs` are all complete
abbrev pub IsPaired : List ℕ → Type 0
IsPaired xs = (rest : List ℕ) → single (xs ++ rest) ≡ single xs ++ single rest

-- ---- the bytes up to a quote

quoted_step : (d c : ℕ) → c ≢ 34 → step d quoted c ≡ (quoted, append)
quoted_step d c h = rw (is_not c 34 h) refl

-- bytes without quotes are the next ones of a field in quotes
run_reads : (d n : ℕ) (fields : List (List ℕ)) (field xs rest : List ℕ) → ((k : ℕ) → k < length xs → get_or xs k 0 ≢ 34)
    → rows_after d (in_field n fields quoted field) (xs ++ rest) ≡ rows_after d (in_field n fields quoted (field ++ xs)) rest
run_reads d n fields field xs rest h = joins d quoted n fields field xs rest (λ k below. quoted_step d (get_or xs k 0) (h k below))

-- then comes a pair of quotes
pair_reads : (d n : ℕ) (fields : List (List ℕ)) (field rest : List ℕ)
    → rows_after d (in_field n fields quoted field) (34 ∷ 34 ∷ rest) ≡ rows_after d (in_field n fields quoted (field ++ 34 ∷ [])) rest
unfolding rows_after
pair_reads d n fields field rest = refl

-- or the quote that ends the field
end_reads : (d n : ℕ) (fields : List (List ℕ)) (field rest : List ℕ)
    → rows_after d (in_field n fields quoted field) (34 ∷ rest) ≡ rows_after d (in_field n fields closed field) rest
unfolding rows_after
end_reads d n fields field rest = refl

-- or nothing
open_reads : (d n : ℕ) (fields : List (List ℕ)) (field : List ℕ)
    → rows_after d (in_field n fields quoted field) [] ≡ wrong_at (record { row = n; fault = Open })
unfolding rows_after
open_reads d n fields field = refl

module _ (text : List ℕ) (at len : ℕ) (within : at + len < length text) (before : (k : ℕ) → k < len → get_or (drop at text) k 0 ≢ 34) (quote : get_or (drop at text) len 0 ≡ 34) where
  abbrev run : List ℕ
  run = take len (drop at text)

  run_len : length run ≡ len
  run_len = length-take-le len (drop at text) (omega (arith, within, length-drop at text))

  run_is_plain : (k : ℕ) → k < length run → get_or run k 0 ≢ 34
  run_is_plain k below =
      let fits : k < len = omega (arith, run_len) in
      rw (get_or-take len (drop at text) k 0 fits) (before k fits)

  at_end : get_or text (at + len) 0 ≡ 34
  at_end = sym (get_or-drop at text len 0) ∙ quote

  rest_is : drop len (drop at text) ≡ 34 ∷ drop (at + len + 1) text
  rest_is = drop-drop len at text ∙ drop_more text (at + len) 0 within ∙ ap (λ c. c ∷ drop (at + len + 1) text) at_end

  -- the run, its quote, and the rest
  split : drop at text ≡ run ++ 34 ∷ drop (at + len + 1) text
  split = sym (take-append-drop len (drop at text)) ∙ ap (λ xs. run ++ xs) rest_is

  taken : take (at + len) text ≡ take at text ++ run
  taken = take-add at len text

  none_before : at ≡ 0 → take at text ≡ single (take at text)
  none_before is = rw is refl

  text_is : (has_quotes : Bool) → IsPaired (take at text) → (has_quotes ≡ false → at ≡ 0) → field_text has_quotes (take (at + len) text) ≡ single (take at text) ++ run
  text_is true paired unpaired = ap single taken ∙ paired run ∙ ap (λ xs. single (take at text) ++ xs) (single_plain run run_is_plain)
  text_is false paired unpaired = taken ∙ ap (λ xs. xs ++ run) (none_before (unpaired refl))

  -- the field ends at this quote
  pub ends_quoted : (has_quotes : Bool) → IsPaired (take at text) → (has_quotes ≡ false → at ≡ 0)
      → ((d n : ℕ) (fields : List (List ℕ)) → rows_after d (in_field n fields quoted (single (take at text))) (drop at text) ≡ rows_after d (in_field n fields quoted []) text)
      → EndsQuoted text (field_text has_quotes (take (at + len) text)) (drop (at + len + 1) text)
  ends_quoted has_quotes paired unpaired read = λ d n fields.
      sym (read d n fields)
      ∙ ap (rows_after d (in_field n fields quoted (single (take at text)))) split
      ∙ run_reads d n fields (single (take at text)) run (34 ∷ drop (at + len + 1) text) run_is_plain
      ∙ end_reads d n fields (single (take at text) ++ run) (drop (at + len + 1) text)
      ∙ ap (λ f. rows_after d (in_field n fields closed f) (drop (at + len + 1) text)) (sym (text_is has_quotes paired unpaired))

  -- the quote is the first of a pair
  module _ (more : at + len + 1 < length text) (second : get_or text (at + len + 1) 0 ≡ 34) where
    both : drop at text ≡ run ++ 34 ∷ 34 ∷ drop (at + len + 2) text
    both =
        let two : at + len + 1 + 1 ≡ at + len + 2 = omega arith in
        split ∙ ap (λ xs. run ++ 34 ∷ xs) (drop_more text (at + len + 1) 0 more ∙ ap (λ c. c ∷ drop (at + len + 1 + 1) text) second ∙ ap (λ m. 34 ∷ drop m text) two)

    taken_both : take (at + len + 2) text ≡ take at text ++ (run ++ 34 ∷ 34 ∷ [])
    taken_both =
        let one : at + len + 2 ≡ at + (len + 2) = omega arith in
        let two : length run + 2 ≡ len + 2 = omega (arith, run_len) in
        ap (λ m. take m text) one ∙ take-add at (len + 2) text
        ∙ ap (λ xs. take at text ++ xs) (ap (λ m. take m (drop at text)) (sym two) ∙ ap (take (length run + 2)) both ∙ take-append-add run (34 ∷ 34 ∷ drop (at + len + 2) text) 2)

    single_both : IsPaired (take at text) → single (take (at + len + 2) text) ≡ single (take at text) ++ (run ++ 34 ∷ [])
    single_both paired = ap single taken_both ∙ paired (run ++ 34 ∷ 34 ∷ []) ∙ ap (λ xs. single (take at text) ++ xs) (single_run run (34 ∷ 34 ∷ []) run_is_plain)

    pub stays_paired : IsPaired (take at text) → IsPaired (take (at + len + 2) text)
    stays_paired paired = λ rest.
        ap (λ xs. single (xs ++ rest)) taken_both
        ∙ ap single (append_assoc (take at text) (run ++ 34 ∷ 34 ∷ []) rest)
        ∙ paired ((run ++ 34 ∷ 34 ∷ []) ++ rest)
        ∙ ap (λ xs. single (take at text) ++ single xs) (append_assoc run (34 ∷ 34 ∷ []) rest)
        ∙ ap (λ xs. single (take at text) ++ xs) (single_run run (34 ∷ 34 ∷ rest) run_is_plain)
        ∙ ap (λ xs. single (take at text) ++ xs) (sym (append_assoc run (34 ∷ []) (single rest)))
        ∙ sym (append_assoc (single (take at text)) (run ++ 34 ∷ []) (single rest))
        ∙ ap (λ xs. xs ++ single rest) (sym (single_both paired))

    pub reads_pair : IsPaired (take at text)
        → ((d n : ℕ) (fields : List (List ℕ)) → rows_after d (in_field n fields quoted (single (take at text))) (drop at text) ≡ rows_after d (in_field n fields quoted []) text)
        → (d n : ℕ) (fields : List (List ℕ)) → rows_after d (in_field n fields quoted (single (take (at + len + 2) text))) (drop (at + len + 2) text) ≡ rows_after d (in_field n fields quoted []) text
    reads_pair paired read d n fields =
        ap (λ f. rows_after d (in_field n fields quoted f) (drop (at + len + 2) text)) (single_both paired ∙ sym (append_assoc (single (take at text)) run (34 ∷ [])))
        ∙ sym (pair_reads d n fields (single (take at text) ++ run) (drop (at + len + 2) text))
        ∙ sym (run_reads d n fields (single (take at text)) run (34 ∷ 34 ∷ drop (at + len + 2) text) run_is_plain)
        ∙ ap (rows_after d (in_field n fields quoted (single (take at text)))) (sym both)
        ∙ read d n fields

-- no quote is left
pub is_open : (text : List ℕ) (at : ℕ) → ((k : ℕ) → k < length (drop at text) → get_or (drop at text) k 0 ≢ 34)
    → ((d n : ℕ) (fields : List (List ℕ)) → rows_after d (in_field n fields quoted (single (take at text))) (drop at text) ≡ rows_after d (in_field n fields quoted []) text)
    → IsOpen text
is_open text at plain read d n fields =
    sym (read d n fields)
    ∙ ap (rows_after d (in_field n fields quoted (single (take at text)))) (sym (append-nil (drop at text)))
    ∙ run_reads d n fields (single (take at text)) (drop at text) [] plain
    ∙ open_reads d n fields (single (take at text) ++ drop at text)

-- ---- after the quote that ends the field

pub quote_opens : (d n : ℕ) (fields : List (List ℕ)) (text : List ℕ) → rows_in d n fields (34 ∷ text) ≡ rows_after d (in_field n fields quoted []) text
unfolding rows_after
quote_opens d n fields text = refl

-- neither a quote nor the end of the field follows
pub text_follows : (d n : ℕ) (fields : List (List ℕ)) (field rest : List ℕ) → get_or rest 0 0 ≢ 34 → GoesOn d rest
    → rows_after d (in_field n fields closed field) rest ≡ wrong_at (record { row = n; fault = Text })
unfolding rows_after
text_follows d n fields field [] unquoted goes = absurd (omega (arith, goes.0))
text_follows d n fields field (c ∷ rest) unquoted goes =
    let feed = neither (c == d || c == 13) (c == 10) goes.1 in
    let other = neither (c == d) (c == 13) feed.0 in
    rw (is_not c 34 unquoted, other.0, other.1, feed.1) refl

-- ---- one quote for two, byte by byte

-- the second quote of a pair is passed over
pub skips : (out raw all : List ℕ) (first : Bool) (i : ℕ) → i < length raw → first ≡ true
    → out ++ single_after first (drop i raw) ≡ all → out ++ single_after false (drop (i + 1) raw) ≡ all
skips out raw all first i below is h = let more = rw (is, drop_more raw i 0 below) at h in more

-- any other byte is kept
pub keeps : (out raw all : List ℕ) (first : Bool) (i : ℕ) → i < length raw → first ≡ false
    → out ++ single_after first (drop i raw) ≡ all
    → (out ++ get_or raw i 0 ∷ []) ++ single_after (get_or raw i 0 == 34) (drop (i + 1) raw) ≡ all
keeps out raw all first i below is h =
    let more : out ++ get_or raw i 0 ∷ single_after (get_or raw i 0 == 34) (drop (i + 1) raw) ≡ all = rw (is, drop_more raw i 0 below) at h in
    append_assoc out (get_or raw i 0 ∷ []) (single_after (get_or raw i 0 == 34) (drop (i + 1) raw)) ∙ more
