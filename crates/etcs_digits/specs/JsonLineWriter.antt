-- A line of JSON as it is written: the text of each token, and after a value the comma that may follow it.
use Rattle.std.specs.Prelude.{◌≡◌, ◌-◌, ◌++◌, ℕ, Bool, false, cond, fold, List, [], ◌∷◌, length, refl, take, OnErr, OnOk, Result}
use Rattle.std.specs.Coded.{Coded, code_by, coded×, coded_bool, coded_list, coded_ℕ}
use Rattle.json.specs.Print.{begins, ends, token_text}
use Rattle.json.specs.Token.{Token}

-- the text, and whether it ends with a value and the comma that may follow it
pub record Line : Type 0 where
  pub text : List ℕ
  pub after_value : Bool

abbrev pub line_code : Coded Line
line_code =
    code_by (List ℕ × Bool) (coded× (coded_list coded_ℕ) coded_bool) (λ l. (l.text, l.after_value))
    (λ p. record { text = p.0; after_value = p.1 }) (λ _. refl)

abbrev pub empty_line : Line
empty_line = record { text = []; after_value = false }

-- a text in quotes that needs no escape, and then a byte
abbrev pub quoted_text : List ℕ → ℕ → List ℕ
quoted_text text close = 34 ∷ (text ++ 34 ∷ close ∷ [])

-- a text without the comma at its end, if one is there
abbrev pub drop_comma : Bool → List ℕ → List ℕ
drop_comma there s = cond there (take (length s - 1) s) s

-- the comma that may follow a value
abbrev pub value_comma : Bool → List ℕ
value_comma after_value = cond after_value (44 ∷ []) []

-- one token more; a closing bracket overwrites the comma
abbrev pub put : Line → Token → Line
put l t = record {
  text = cond (begins t) l.text (drop_comma l.after_value l.text) ++ (token_text t ++ value_comma (ends t));
  after_value = ends t;
}

abbrev pub puts : Line → List Token → Line
puts = fold put

-- a call that returned Ok made the wanted line, a call that failed left the old one
pub record Becomes {E : Type 0} (r : Result (Unit {0}) E) (old new wanted : Line) : Type 0 where
  pub ok : OnOk r (new ≡ wanted)
  pub err : OnErr r (new ≡ old)
