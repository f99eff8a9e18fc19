-- The text of a line, as `json` prints its tokens.
use Rattle.std.proofs.Common.{◌≡◌, ◌∙◌, ◌-◌, ◌++◌, ◌≤◌, ◌&&◌, ℕ, Bool, true, false, List, [], ◌∷◌, length, take, Result, Ok, Err, OnErr, is_err, ap, append-nil, append_assoc, arith, cond, length-append, length-take-le, refl, sym, take-take}
use Rattle.std.proofs.lemmas.List.{length-take, take_at}
use Rattle.json.specs.Print.{begins, ends, print, print_from, separator, token_text}
use Rattle.json.specs.Token.{Token}
use Rattle.etcs_digits.specs.JsonLineWriter.{Becomes, Line, value_comma, put, puts, drop_comma}

without_comma : (a : Bool) (x : List ℕ) → drop_comma a (x ++ value_comma a) ≡ x ++ []
without_comma true x =
    let long : length (x ++ 44 ∷ []) - 1 ≡ length x = omega (arith, length-append x (44 ∷ [])) in
    ap (λ n. take n (x ++ 44 ∷ [])) long ∙ take_at x (44 ∷ []) (length x) refl ∙ sym (append-nil x)
without_comma false x = refl

-- the text in front of a token, with the comma that the token needs
front : (a b : Bool) (x : List ℕ) → cond b (x ++ value_comma a) (drop_comma a (x ++ value_comma a)) ≡ x ++ cond (a && b) (44 ∷ []) []
front true true x = refl
front false true x = refl
front true false x = without_comma true x
front false false x = without_comma false x

-- a line's text and the comma that may follow it
abbrev line : List ℕ → Bool → Line
line x a = record { text = x ++ value_comma a; after_value = a }

put_as : (x : List ℕ) (a : Bool) (t : Token) → put (line x a) t ≡ line (x ++ (separator a t ++ token_text t)) (ends t)
put_as x a t = ap (λ s. record { text = s; after_value = ends t })
    (ap (λ s. s ++ (token_text t ++ value_comma (ends t))) (front a (begins t) x) ∙ simp append_assoc)

pub printed : (x : List ℕ) (a : Bool) (ts : List Token) → drop_comma (puts (line x a) ts).after_value (puts (line x a) ts).text ≡ x ++ print_from a ts
unfolding print_from
printed x a [] = without_comma a x
printed x a (t ∷ ts) =
    ap (λ l. drop_comma (puts l ts).after_value (puts l ts).text) (put_as x a t) ∙ printed (x ++ (separator a t ++ token_text t)) (ends t) ts ∙ simp append_assoc

-- a token that `json` printed by itself
pub by_json : (l : Line) (t : Token) (text : List ℕ) (after_value : Bool) → begins t ≡ true → text ≡ l.text ++ (print (t ∷ []) ++ value_comma (ends t)) → after_value ≡ ends t
    → record { text = text; after_value = after_value } ≡ put l t
unfolding print_from
by_json l t text after_value begin is end = rw (is, end, begin, append-nil (token_text t)) refl

-- the text in front of an appended text is unchanged
cut_back : (bytes old rest : List ℕ) (at len : ℕ) → take at bytes ≡ old ++ rest → length old ≡ len → take len bytes ≡ old
cut_back bytes old rest at len is long =
    let within : len ≤ at = omega (arith, ap length is, length-append old rest, length-take at bytes) in
    sym (take-take len at bytes within) ∙ ap (take len) is ∙ take_at old rest len long

-- a line that is cut back to its state before a token, because the rest did not fit
pub restored : {E : Type 0} (r : Result (Unit {0}) E) (bytes before : List ℕ) (len at : ℕ) (after later : Bool) (t : Token) (old mid end wanted : Line)
    → record { text = take len before; after_value = after } ≡ old → len ≤ length before → mid ≡ put old t → begins t ≡ true
    → record { text = take at bytes; after_value = later } ≡ end → OnErr r (end ≡ mid) → is_err r ≡ true
    → Becomes r old (record { text = take len bytes; after_value = after }) wanted
restored (Ok u) bytes before len at after later t old mid end wanted was within put_is begin is failed err = absurd (cc)
restored (Err e) bytes before len at after later t old mid end wanted was within put_is begin is failed err =
    let front : take at bytes ≡ old.text ++ (token_text t ++ value_comma (ends t)) =
    ap (λ l. l.text) (is ∙ failed ∙ put_is) ∙ ap (λ b. cond b old.text (drop_comma old.after_value old.text) ++ (token_text t ++ value_comma (ends t))) begin in
    let long : length old.text ≡ len = ap (λ l. length l.text) (sym was) ∙ length-take-le len before within in
    record {
      ok = tt;
      err = ap (λ s. record { text = s; after_value = after }) (cut_back bytes old.text _ at len front long ∙ ap (λ l. l.text) (sym was)) ∙ was;
    }
