-- Tokens and members that are appended to a writer one after the other.
use Rattle.std.specs.Prelude.{◌≡◌, ◌++◌, List, [], ◌∷◌, refl}
use Rattle.etcs_schema.specs.Prelude.{◌∙◌, ap, sym, append_assoc, append-nil}
use Rattle.json.specs.Token.{Token}
use Rattle.json.specs.Written.{Written}
use Rattle.etcs_schema.specs.Entries.{Entry}
use Rattle.etcs_schema.specs.Writing.{Adds, AddsMembers, entries_tokens, entry_tokens}

pub adds_none : (out : Written) → Adds [] out out
adds_none out = record { before = refl; added = sym (append-nil out.tokens) }

-- tokens, and then more tokens
pub adds_more : (a b : List Token) (old mid new : Written) → Adds a old mid → Adds b mid new
    → Adds (a ++ b) old new
adds_more a b old mid new one two = record {
  before = two.before ∙ one.before;
  added = two.added ∙ ap (λ ts. ts ++ b) one.added ∙ append_assoc old.tokens a b;
}

entries_append : (es fs : List Entry) → entries_tokens (es ++ fs) ≡ entries_tokens es ++ entries_tokens fs
entries_append [] fs = refl
entries_append (e ∷ es) fs =
    ap (λ ts. entry_tokens e.0 e.1 ++ ts) (entries_append es fs)
    ∙ sym (append_assoc (entry_tokens e.0 e.1) (entries_tokens es) (entries_tokens fs))

pub written_then : {M : Type 0} (adds : List Token → M → M → Type 0)
    (then : (ts us : List Token) (old mid new : M)
    → adds ts old mid → adds us mid new → adds (ts ++ us) old new)
    → (es fs : List Entry) (old mid new : M) → AddsMembers adds es old mid
    → AddsMembers adds fs mid new → AddsMembers adds (es ++ fs) old new
unfolding AddsMembers
written_then adds then es fs old mid new some others =
    rw (entries_append es fs) (then (entries_tokens es) (entries_tokens fs) old mid new some others)
