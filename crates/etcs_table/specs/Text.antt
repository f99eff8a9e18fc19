-- What is read in the text of a field.
use Rattle.std.specs.Prelude.{ℕ, ◌==◌, ◌&&◌, ◌||◌, not, ◌-◌, nat_eq, nat_le, Bool, List, [], ◌∷◌, drop, filter, if◌then◌else◌, length, take}
use Rattle.std.specs.Cmp.Lexicographic.{pointwise}
use Rattle.std.specs.List.{list_all, list_any}

-- a text without its byte order mark
abbrev pub without_mark : List ℕ → List ℕ
without_mark text = if pointwise nat_eq (take 3 text) (239 ∷ 187 ∷ 191 ∷ []) then drop 3 text else text

abbrev pub same_text : List ℕ → List ℕ → Bool
same_text a b = pointwise nat_eq a b

abbrev pub is_empty : List ℕ → Bool
is_empty text = length text == 0

-- a space or a tab
abbrev pub is_blank : ℕ → Bool
is_blank c = c == 32 || c == 9

abbrev pub is_decimal : ℕ → Bool
is_decimal c = nat_le 48 c && nat_le c 57

abbrev pub is_hexadecimal : ℕ → Bool
is_hexadecimal c = is_decimal c || (nat_le 65 c && nat_le c 70) || (nat_le 97 c && nat_le c 102)

-- the digits of a telegram: blanks between them are dropped
abbrev pub digits_of : List ℕ → List ℕ
digits_of text = filter (λ c. not (is_blank c)) text

-- a text reads as a telegram, be it a wrong one: at least 40 hexadecimal digits, and blanks
abbrev pub reads_as_telegram : List ℕ → Bool
reads_as_telegram text = nat_le 40 (length (digits_of text)) && list_all is_hexadecimal (digits_of text)

-- a text begins or ends with a blank
abbrev pub has_edge : List ℕ → Bool
has_edge name = list_any is_blank (take 1 name) || list_any is_blank (drop (length name - 1) name)
