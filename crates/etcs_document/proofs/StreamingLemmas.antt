-- A line's groups and messages, read one after the other and passed to a checker.
use Rattle.std.proofs.Common.{◌≡◌, ℕ, ◌-◌, ◌<◌, List, [], ◌∷◌, codes, Some, None, Ok, option_and_then, refl, ap, sym, subst, ◌∙◌}
use Rattle.std.specs.Str.{IsUtf8}
use Rattle.json.specs.Json.{after_end_array, if_last, read_key, value}
use Rattle.json.specs.Lex.{tokens}
use Rattle.json.specs.Token.{Token}
use Rattle.serde_json.specs.Data.{Data}
use Rattle.serde_json.specs.Read.{of_json}
use Rattle.etcs_check.proofs.CheckerLemmas.{more_groups, more_messages, no_groups, no_messages}
use Rattle.etcs_check.specs.LineChecker.{CheckerState, HasChecked, TakesGroups, TakesMessages}
use Rattle.etcs_document.proofs.DocumentLemmas.{is_json, line_read}
use Rattle.etcs_document.proofs.DocumentTokenLemmas.{AreFirst, each_read, first_more, list_taken, list_values, none_first, object_stands}
use Rattle.etcs_document.proofs.TakenLemmas.{and_one, read_as}
use Rattle.etcs_document.proofs.TokenLemmas.{converted_some, key_stands, then_stand}
use Rattle.etcs_document.specs.Document.{◌then◌, document_group, document_line, document_list, document_message, in_form, json_value, line_of_text, read_indexed}
use Rattle.etcs_document.specs.DocumentTokens.{HasLine, IsChecked, IsFirst, IsGroup, IsList, IsMessage}
use Rattle.etcs_document.specs.Taken.{AreTaken, TakesEach}
use Rattle.etcs_schema.specs.Entries.{Entry, entries_object}
use Rattle.etcs_schema.specs.Fault.{key as key_step, prefixed_result}
use Rattle.etcs_schema.specs.Reading.{required_member, only_keys}
use Rattle.etcs_document.specs.Tokens.{HasMembers, first_value}
use Rattle.etcs_document.specs.Verdict.{Summary, judged, summary, summary_of_text}
use Rattle.etcs_radio.specs.declared.message.Message.{Message}
use Rattle.etcs_telegram.specs.Record.{Telegram}

-- ---- lists

abbrev TakesGroup : CheckerState → List (List Telegram) → CheckerState → Type 0
TakesGroup was g is = TakesGroups was (g ∷ []) is

abbrev TakesMessage : CheckerState → Message → CheckerState → Type 0
TakesMessage was m is = TakesMessages was (m ∷ []) is

groups_each : (was is : CheckerState) (gs : List (List (List Telegram))) → TakesEach TakesGroup was gs is → TakesGroups was gs is
groups_each was is [] same = subst (TakesGroups was []) same (no_groups was)
groups_each was is (g ∷ gs) each = more_groups was each.0 is (g ∷ []) gs each.1 (groups_each each.0 is gs each.2)

messages_each : (was is : CheckerState) (ms : List Message) → TakesEach TakesMessage was ms is → TakesMessages was ms is
messages_each was is [] same = subst (TakesMessages was []) same (no_messages was)
messages_each was is (m ∷ ms) each = more_messages was each.0 is (m ∷ []) ms each.1 (messages_each each.0 is ms each.2)

module _ {S X : Type 0} (Is : Data → X → Type 0) (Takes : S → X → S → Type 0) (depth : ℕ) (old : List Token) where
  pub none_taken : (was : S) → AreTaken (λ xs. AreFirst Is depth old xs old) Takes was was
  none_taken was = record { items = []; read = none_first Is depth old; takes = refl }

  -- one more was read, and passed to the checker
  pub one_taken : (was kept is : S) (mid new : List Token) → AreTaken (λ xs. AreFirst Is depth old xs mid) Takes was kept
      → (one : X) → IsFirst Is depth mid one new → Takes kept one is → AreTaken (λ xs. AreFirst Is depth old xs new) Takes was is
  one_taken was kept is mid new so one first takes = and_one Takes _ _ was kept is one so takes (λ xs read. first_more Is depth old xs one mid new read first)

  -- the list of them
  pub all_taken : (was is : S) (begun ended new : List Token) → 0 < depth → old ≡ Token.begin_array ∷ begun → AreTaken (λ xs. AreFirst Is (depth - 1) begun xs ended) Takes was is → after_end_array ended ≡ Some new
      → AreTaken (λ xs. IsFirst (IsList Is) depth old xs new) Takes was is
  all_taken was is begun ended new deep begins so ends = read_as Takes _ _ was is so (λ xs read. list_taken Is depth old begun ended new xs deep begins read ends)

-- ---- the document

-- the document with these values at its two keys
abbrev document_of : Data → Data → Data
document_of g m = entries_object ((codes "groups", Some g) ∷ (codes "messages", Some m) ∷ [])

lists_read : (d e : Data) (gs : List (List (List Telegram))) (ms : List Message) → IsList IsGroup d gs → IsList IsMessage e ms → document_line (document_of d e) ≡ Ok (gs, ms)
unfolding only_keys required_member
lists_read d e gs ms groups messages =
    line_read (document_of d e) gs ms refl
    (ap (λ r. in_form [] (prefixed_result (key_step (codes "groups")) r) then read_indexed document_group 0) (list_values groups.0 d groups.1) ∙ each_read IsGroup document_group (λ d g is n. is n) 0 groups.0 gs groups.2)
    (ap (λ r. in_form [] (prefixed_result (key_step (codes "messages")) r) then read_indexed document_message 0) (list_values messages.0 e messages.1) ∙ each_read IsMessage document_message (λ d m is n. is n) 0 messages.0 ms messages.2)

-- the two members of a document, read one after the other
two_stand : (depth : ℕ) (k l : List ℕ) (d e : Data) (old a b c new : List Token) → read_key old ≡ Some (Some k, a) → first_value depth a ≡ Some (d, b) → read_key b ≡ Some (Some l, c) → first_value depth c ≡ Some (e, new)
    → HasMembers depth ((k, Some d) ∷ (l, Some e) ∷ []) old new
two_stand depth k l d e old a b c new first one second two =
    then_stand depth (k, Some d) ((l, Some e) ∷ []) old b new (key_stands depth k d old a b first one) (key_stands depth l e b c new second two)

-- what a checker took of two lists is the line of these members, in either order
line_checked : (es : List Entry) (d e : Data) (gs : List (List (List Telegram))) (ms : List Message) (state : CheckerState) → entries_object es ≡ document_of d e → IsList IsGroup d gs → IsList IsMessage e ms
    → HasChecked state gs ms → IsChecked (entries_object es) state
line_checked es d e gs ms state same g m checked = record {
  groups = gs;
  messages = ms;
  line = ap document_line same ∙ lists_read d e gs ms g m;
  checked = checked;
}

module _ (depth : ℕ) (old a b c new : List Token) (was mid kept : CheckerState) (empty : HasChecked was [] []) where
  pub groups_then : read_key old ≡ Some (Some (codes "groups"), a) → AreTaken (λ gs. IsFirst (IsList IsGroup) depth a gs b) TakesGroup was mid → read_key b ≡ Some (Some (codes "messages"), c)
      → AreTaken (λ ms. IsFirst (IsList IsMessage) depth c ms new) TakesMessage mid kept → HasLine depth old kept new
  groups_then named groups second messages =
      let g = groups.read in
      let m = messages.read in
      record {
        entries = (codes "groups", Some g.found) ∷ (codes "messages", Some m.found) ∷ [];
        stand = two_stand depth (codes "groups") (codes "messages") g.found m.found old a b c new named g.stands second m.stands;
        is = line_checked ((codes "groups", Some g.found) ∷ (codes "messages", Some m.found) ∷ []) g.found m.found groups.items messages.items kept refl g.is m.is
            (messages_each mid kept messages.items messages.takes groups.items [] (groups_each was mid groups.items groups.takes [] [] empty));
      }

  pub messages_then : read_key old ≡ Some (Some (codes "messages"), a) → AreTaken (λ ms. IsFirst (IsList IsMessage) depth a ms b) TakesMessage was mid → read_key b ≡ Some (Some (codes "groups"), c)
      → AreTaken (λ gs. IsFirst (IsList IsGroup) depth c gs new) TakesGroup mid kept → HasLine depth old kept new
  messages_then named messages second groups =
      let g = groups.read in
      let m = messages.read in
      record {
        entries = (codes "messages", Some m.found) ∷ (codes "groups", Some g.found) ∷ [];
        stand = two_stand depth (codes "messages") (codes "groups") m.found g.found old a b c new named m.stands second g.stands;
        is = line_checked ((codes "messages", Some m.found) ∷ (codes "groups", Some g.found) ∷ []) g.found m.found groups.items messages.items kept refl g.is m.is
            (groups_each mid kept groups.items groups.takes [] messages.items (messages_each was mid messages.items messages.takes [] [] empty));
      }

-- the groups and the messages of a document, one after the other
pub lists_checked : (d : Data) (was mid kept : CheckerState) → HasChecked was [] [] → only_keys (codes "groups" ∷ codes "messages" ∷ []) d ≡ Ok tt
    → AreTaken (λ gs. (document_list (codes "groups") d then read_indexed document_group 0) ≡ Ok gs) TakesGroup was mid
    → AreTaken (λ ms. (document_list (codes "messages") d then read_indexed document_message 0) ≡ Ok ms) TakesMessage mid kept → IsChecked d kept
lists_checked d was mid kept empty keys groups messages = record {
  groups = groups.items;
  messages = messages.items;
  line = line_read d groups.items messages.items keys groups.read messages.read;
  checked = messages_each mid kept messages.items messages.takes groups.items [] (groups_each was mid groups.items groups.takes [] [] empty);
}

-- what is found of a line that was checked
pub counted : (d : Data) (kept : CheckerState) (c : Summary) → IsChecked d kept → ((gs : List (List (List Telegram))) (ms : List Message) → HasChecked kept gs ms → c ≡ summary (judged (gs, ms)))
    → ((document_line d then λ line. Ok (judged line)) then λ verdict. Ok (summary verdict)) ≡ Ok c
counted d kept c is told =
    ap (λ r. (r then λ line. Ok (judged line)) then λ verdict. Ok (summary verdict)) is.line ∙ ap (λ x. Ok x) (sym (told is.groups is.messages is.checked))

pub document_taken : (depth : ℕ) (old begun ended : List Token) (kept : CheckerState) (new : List Token) → 0 < depth → old ≡ Token.begin_object ∷ begun → HasLine (depth - 1) begun kept ended → read_key ended ≡ Some (None, new)
    → IsFirst IsChecked depth old kept new
document_taken depth old begun ended kept new deep begins has ends = record {
  found = entries_object has.entries;
  stands = object_stands depth has.entries old begun ended new deep begins has.stand ends;
  is = has.is;
}

-- ---- the bytes

-- what is found of bytes is found of their value
pub data_counted : (bytes : List ℕ) (d e : Data) → json_value bytes ≡ Ok d → e ≡ d
    → summary_of_text bytes ≡ ((document_line e then λ line. Ok (judged line)) then λ verdict. Ok (summary verdict))
unfolding line_of_text
data_counted bytes d e json same =
    ap (λ r. ((r then document_line) then λ line. Ok (judged line)) then λ verdict. Ok (summary verdict)) (json ∙ ap (λ x. Ok x) (sym same))

pub text_taken : (bytes : List ℕ) (start rest : List Token) (kept : CheckerState) (c : Summary) → IsUtf8 bytes → start ≡ tokens bytes → rest ≡ [] → IsFirst IsChecked 127 start kept rest
    → ((gs : List (List (List Telegram))) (ms : List Message) → HasChecked kept gs ms → c ≡ summary (judged (gs, ms))) → summary_of_text bytes ≡ Ok c
text_taken bytes start rest kept c utf8 begins ends one told =
    let whole : first_value 127 (tokens bytes) ≡ Some (one.found, []) = ap (first_value 127) (sym begins) ∙ one.stands ∙ ap (λ ts. Some (one.found, ts)) ends in
    let j = converted_some of_json (value 127 (tokens bytes)) one.found [] whole in
    let json : json_value bytes ≡ Ok one.found = is_json bytes one.found utf8 (ap (λ o. option_and_then of_json (option_and_then (λ p. if_last p.0 p.1) o)) j.1 ∙ j.2) in
    data_counted bytes one.found one.found json refl ∙ counted one.found kept c one.is told
