-- What is read of keys by the edition is what the codecs read: L_PACKET, tests of records, bodies, and objects with a
-- number.
use Rattle.std.proofs.Common.{◌≡◌, ℕ, ◌+◌, ◌-◌, ◌<◌, ◌≤◌, ◌==◌, ◌⊎◌, Bool, true, false, List, [], ◌∷◌, ◌++◌, length, take, Option, Some, None, Result, Ok, Err, refl, sym, ap, ap₂, ◌∙◌, subst, inl, inr, arith}
use Rattle.std.specs.Prelude.{◌&&◌, nat_le, nat_lt, codes, if◌then◌else◌, option_and_then, IfOk}
use Rattle.std.specs.List.{AllByRecursion, flat_map}
use Rattle.std.proofs.lemmas.Bool.{and_parts, and_from, eqb-true, leb-true, lt-ltb, ltb-true}
use Rattle.std.proofs.lemmas.List.{length-take-le}
use Rattle.serde_json.specs.Data.{Data, Items}
use Rattle.serde_json.specs.Find.{as_array, as_number, as_str, as_u64, get}
use Rattle.hex.specs.Hex.{decode_of}
use Rattle.hex.specs.declared.error.FromHexError.{FromHexError}
use Rattle.etcs_bits.proofs.NumberLemmas.{length-bits_of_bytes}
use Rattle.etcs_bits.specs.bits.Number.{bits_of_bytes}
use Rattle.etcs_bits.specs.layout.Fields.{one as one_field}
use Rattle.etcs_bits.specs.layout.Rows.{AreAllowed, Row, Variable, row}
use Rattle.etcs_schema.specs.BodyText.{are_padded, byte_count, decoded_body, decoded_or, digits_or}
use Rattle.etcs_schema.specs.Choices.{NumberedMembers, any_object, tag_member, with_number}
use Rattle.etcs_schema.specs.Codec.{Codec, MemberCodec, ObjectMembers, key as key_codec, named, object as object_codec, only, sized as sized_codec, tested, unstated as unstated_codec, ◌then◌ as ◌and◌}
use Rattle.etcs_schema.specs.CountedBody.{counted_body, is_length}
use Rattle.etcs_schema.specs.Fault.{Fault, Range, here, key as at_key, prefixed_result}
use Rattle.etcs_schema.specs.KeyedVariables.{rows_read}
use Rattle.etcs_schema.specs.Lists.{holding, items_or, listed, unbounded_list}
use Rattle.etcs_schema.specs.Reading.{◌>>=◌, allowed_number, allowed_or, as_kind, data_list, indexed_items, key_or, only_keys, required_member}
use Rattle.etcs_schema.specs.Variables.{is_allowed}
use Rattle.etcs_edition.specs.Wire.{Field, allowed_if, any_number, bit_count, IsWritable, raw_fields}
use Rattle.etcs_edition.specs.Keys.{Reader, Members, is_writable, number_of, one, ◌then◌, unstated, sized, kept_body, packets, object, after_number}
use Rattle.etcs_edition.proofs.AgreeLemmas.{fit_append}
use Rattle.etcs_edition.proofs.KeyLemmas.{Both, both_bind, both_if, Alike, required_alike, Each, items_alike, Are, Keyed, both_made, flat_are, writable_one, Passes, number_alike, one_alike}
use Rattle.etcs_edition.proofs.TrackLemmas.{bits_fit, bits_size}

-- ---- fields that are changed together

pub both_on : {X : Type 0} (f h : X → List Field) (g : List Field → List Field) (r : Result (List Field) Fault)
    (s : Result X Fault) → Both (Are f) r s → ((fs : List Field) (x : X) → Are f fs x → Are h (g fs) x)
    → Both (Are h) (r >>= λ fs. Ok (g fs)) s
both_on f h g (Ok fs) (Ok x) both next = next fs x both
both_on f h g (Err e) (Err k) both next = both
both_on f h g (Ok fs) (Err k) both next = absurd both
both_on f h g (Err e) (Ok x) both next = absurd both

pub both_as : {X : Type 0} (f g : X → List Field) → ((x : X) → f x ≡ g x) → (r : Result (List Field) Fault) (s : Result X Fault)
    → Both (Are f) r s → Both (Are g) r s
both_as f g same (Ok fs) (Ok x) both = (both.0 ∙ same x, both.1)
both_as f g same (Err e) (Err k) both = both
both_as f g same (Ok fs) (Err k) both = absurd both
both_as f g same (Err e) (Ok x) both = absurd both

pub keyed_as : {X : Type 0} {rows : X → List Row} {m : Members} {a : MemberCodec rows} {f g : X → List Field}
    → ((x : X) → f x ≡ g x) → Keyed m a f → Keyed m a g
keyed_as {m = m} {a = a} {f = f} {g = g} same k = record {
  keys = k.keys;
  alike = λ d. both_as f g same (m.read d) (a.of d) (k.alike d);
}

-- after a step that both have
pub both_after : {A X : Type 0} (R : A → X → Type 0) (u : Result (Unit {0}) Fault) (r : Result A Fault) (s : Result X Fault)
    → Both R r s → Both R (u >>= λ _. r) (u >>= λ _. s)
both_after R (Ok _) r s both = both
both_after R (Err e) r s both = refl

pub keyed_unstated : {X : Type 0} {rows : X → List Row} (x : Variable) (n : ℕ) (front : List Field) {m : Members}
    {a : MemberCodec rows} {f : X → List Field} → AllByRecursion IsWritable front → Keyed m a f
    → Keyed (unstated front m) (unstated_codec x n a) (λ v. front ++ f v)
keyed_unstated x n front {m = m} {a = a} {f = f} fit k = record {
  keys = k.keys;
  alike = λ d.
      both_on f (λ v. front ++ f v) (λ later. front ++ later) (m.read d) (a.of d) (k.alike d)
      (λ fs v are. (ap (λ (later : List Field). front ++ later) are.0, fit_append front fs fit are.1));
}

-- ---- objects

pub object_alike : {X : Type 0} {rows : X → List Row} (m : Members) (o : ObjectMembers rows) (f : X → List Field)
    → Keyed m o.members f → Alike (Are f) (object m) (object_codec o).of
object_alike m o f k d =
    rw k.keys (both_after (Are f) (only_keys o.members.keys d) (m.read d) (o.members.of d) (k.alike d))

-- ---- L_PACKET

count_fits : (l : ℕ) → l < 8192 → is_writable (any_number 13 l) ≡ true
count_fits l few = and_from (nat_lt l 8192) true (lt-ltb l 8192 few) refl

abbrev pub with_length : {X : Type 0} → ℕ → (X → List Field) → X → List Field
with_length all f x = any_number 13 (all + bit_count (f x)) ∷ f x

length_are : {X : Type 0} (all : ℕ) (f : X → List Field) (fs : List Field) (x : X)
    → is_writable (any_number 13 (all + bit_count fs)) ≡ true → Are f fs x
    → Are (with_length all f) (any_number 13 (all + bit_count fs) ∷ fs) x
length_are all f fs x fits are = (
  ap (λ (gs : List Field). any_number 13 (all + bit_count gs) ∷ gs) are.0,
  (writable_one (any_number 13 (all + bit_count fs)) fits, are.1),
)

both_sized : {X : Type 0} (all : ℕ) (f : X → List Field) (r : Result (List Field) Fault) (s : Result X Fault)
    → ((x : X) → AllByRecursion IsWritable (f x) → all + bit_count (f x) < 8192) → Both (Are f) r s
    → Both (Are (with_length all f)) (r >>= λ body. if is_writable (any_number 13 (all + bit_count body))
    then Ok (any_number 13 (all + bit_count body) ∷ body) else Err (here Range)) s
both_sized all f (Ok fs) (Ok x) short both =
    let few : all + bit_count fs < 8192 = rw both.0 (short x (subst (AllByRecursion IsWritable) both.0 both.1)) in
    let fits = count_fits (all + bit_count fs) few in
    rw fits (length_are all f fs x fits both)
both_sized all f (Err e) (Err h) short both = both
both_sized all f (Ok fs) (Err h) short both = absurd both
both_sized all f (Err e) (Ok x) short both = absurd both

-- a body that is always short enough
pub keyed_sized : {X : Type 0} {rows : X → List Row} (before all : ℕ) {m : Members} {a : MemberCodec rows} {f : X → List Field}
    → ((x : X) → AllByRecursion IsWritable (f x) → all + bit_count (f x) < 8192) → Keyed m a f
    → Keyed (sized all m) (sized_codec before a) (with_length all f)
keyed_sized before all {m = m} {a = a} {f = f} short k = record {
  keys = k.keys;
  alike = λ d. both_sized all f (m.read d) (a.of d) short (k.alike d);
}

-- ---- records that are tested after they are read

-- the edition tests the last member itself
pub record Tested {X : Type 0} {rows : X → List Row} (m : Members) (c : MemberCodec rows) (fields : X → List Field)
    (fault : Fault) (test : X → Bool) : Type 0 where
  pub keys : m.keys ≡ c.keys
  pub alike : (d : Data) → Both (Are fields) (m.read d) (c.of d >>= only fault test)

pub keyed_tested : {X : Type 0} {rows : X → List Row} {m : Members} {c : MemberCodec rows} {fields : X → List Field}
    (fault : Fault) (test : X → Bool) (passes : (x : X) → AreAllowed (rows x) → test x ≡ true) → Tested m c fields fault test
    → Keyed m (tested fault test passes c) fields
keyed_tested fault test passes t = record { keys = t.keys; alike = t.alike }

last_by : {A B : Type 0} (f : A → List Field) (g : B → List Field) (fault : Fault) (test : B → Bool) (fs : List Field) (x : A)
    (r : Result (List Field) Fault) (y : B) (b : Bool) → test y ≡ b → Are f fs x
    → Both (Are g) r (if b then Ok y else Err fault)
    → Both (Are (λ (p : A × B). f p.0 ++ g p.1)) (r >>= λ later. Ok (fs ++ later)) (only fault (λ (p : A × B). test p.1) (x, y))
last_by f g fault test fs x (Ok gs) y true is front both =
    rw is (ap₂ (λ (xs ys : List Field). xs ++ ys) front.0 both.0, fit_append fs gs front.1 both.1)
last_by f g fault test fs x (Err e) y false is front both = rw is both
last_by f g fault test fs x (Ok gs) y false is front both = absurd both
last_by f g fault test fs x (Err e) y true is front both = absurd both

last_both : {A B : Type 0} (f : A → List Field) (g : B → List Field) (fault : Fault) (test : B → Bool) (fs : List Field) (x : A)
    (r : Result (List Field) Fault) (s : Result B Fault) → Are f fs x → Both (Are g) r (s >>= only fault test)
    → Both (Are (λ (p : A × B). f p.0 ++ g p.1)) (r >>= λ later. Ok (fs ++ later))
    ((s >>= λ y. Ok (x, y)) >>= only fault (λ (p : A × B). test p.1))
last_both f g fault test fs x r (Ok y) front both =
    last_by f g fault test fs x r y (test y) refl front both
last_both f g fault test fs x (Err e) (Err h) front both = both
last_both f g fault test fs x (Ok gs) (Err h) front both = absurd both

then_both : {A B : Type 0} (f : A → List Field) (g : B → List Field) (fault : Fault) (test : B → Bool)
    (q : Result (List Field) Fault) (p : Result A Fault) (r : Result (List Field) Fault) (s : Result B Fault)
    → Both (Are f) q p → Both (Are g) r (s >>= only fault test)
    → Both (Are (λ (p : A × B). f p.0 ++ g p.1)) (q >>= λ first. r >>= λ later. Ok (first ++ later))
    ((p >>= λ x. s >>= λ y. Ok (x, y)) >>= only fault (λ (p : A × B). test p.1))
then_both f g fault test (Ok fs) (Ok x) r s front both = last_both f g fault test fs x r s front both
then_both f g fault test (Err e) (Err h) r s front both = front
then_both f g fault test (Ok fs) (Err h) r s front both = absurd front
then_both f g fault test (Err e) (Ok x) r s front both = absurd front

pub tested_then : {A B : Type 0} {rows_a : A → List Row} {rows_b : B → List Row} {m n : Members} {a : MemberCodec rows_a}
    {b : MemberCodec rows_b} {f : A → List Field} {g : B → List Field} (fault : Fault) (test : B → Bool) → Keyed m a f
    → Tested n b g fault test → Tested (m then n) (a and b) (λ p. f p.0 ++ g p.1) fault (λ p. test p.1)
tested_then {m = m} {n = n} {a = a} {b = b} {f = f} {g = g} fault test x y = record {
  keys = ap₂ (λ (ks ls : List (List ℕ)). ks ++ ls) x.keys y.keys;
  alike = λ d. then_both f g fault test (m.read d) (a.of d) (n.read d) (b.of d) (x.alike d) (y.alike d);
}

made_by : {P S : Type 0} (fields : S → List Field) (make : P → S) (fault : Fault) (test : S → Bool)
    (r : Result (List Field) Fault) (p : P) (b : Bool) → test (make p) ≡ b
    → Both (Are (λ p. fields (make p))) r (if b then Ok p else Err fault) → Both (Are fields) r (only fault test (make p))
made_by fields make fault test (Ok fs) p true is both = rw is both
made_by fields make fault test (Err e) p false is both = rw is both
made_by fields make fault test (Ok fs) p false is both = absurd both
made_by fields make fault test (Err e) p true is both = absurd both

made_both : {P S : Type 0} (fields : S → List Field) (make : P → S) (fault : Fault) (test : S → Bool)
    (r : Result (List Field) Fault) (s : Result P Fault)
    → Both (Are (λ p. fields (make p))) r (s >>= only fault (λ p. test (make p)))
    → Both (Are fields) r ((s >>= λ p. Ok (make p)) >>= only fault test)
made_both fields make fault test r (Ok p) both = made_by fields make fault test r p (test (make p)) refl both
made_both fields make fault test (Err e) (Err h) both = both
made_both fields make fault test (Ok fs) (Err h) both = absurd both

pub tested_named : {P S : Type 0} {rows : P → List Row} {m : Members} {a : MemberCodec rows} (fields : S → List Field)
    (make : P → S) (parts : S → P) (same : (s : S) → make (parts s) ≡ s) (fault : Fault) (test : S → Bool)
    → Tested m a (λ p. fields (make p)) fault (λ p. test (make p)) → Tested m (named make parts same a) fields fault test
tested_named {m = m} {a = a} fields make parts same fault test t = record {
  keys = t.keys;
  alike = λ d. made_both fields make fault test (m.read d) (a.of d) (t.alike d);
}

passes_by : {X : Type 0} (f : Fault) (test : X → Bool) (x : X) (b : Bool) → test x ≡ b
    → IfOk (only f test x) (λ y. test y ≡ true)
passes_by f test x true is = rw is is
passes_by f test x false is = rw is tt

only_passes : {X : Type 0} (f : Fault) (test : X → Bool) (r : Result X Fault) → IfOk (r >>= only f test) (λ x. test x ≡ true)
only_passes f test (Err e) = tt
only_passes f test (Ok x) = passes_by f test x (test x) refl

-- what is read passes the test
pub record Held {X : Type 0} {rows : X → List Row} (m : Members) (c : MemberCodec rows) (fields : X → List Field)
    (test : X → Bool) : Type 0 where
  pub keyed : Keyed m c fields
  pub passes : (d : Data) → IfOk (c.of d) (λ x. test x ≡ true)

pub held : {X : Type 0} {rows : X → List Row} {m : Members} {a : MemberCodec rows} {fields : X → List Field}
    (fault : Fault) (test : X → Bool) → Tested m a fields fault test → Held m (holding fault test a) fields test
held {a = a} fault test t = record {
  keyed = record { keys = t.keys; alike = t.alike };
  passes = λ d. only_passes fault test (a.of d);
}

-- L_PACKET of a body that can be too long
long_by : {X : Type 0} (all : ℕ) (f : X → List Field) (t : X → Bool) (fs : List Field) (x : X) (b : Bool) → Are f fs x
    → is_writable (any_number 13 (all + bit_count fs)) ≡ b → t x ≡ b
    → Both (Are (with_length all f)) (if is_writable (any_number 13 (all + bit_count fs))
    then Ok (any_number 13 (all + bit_count fs) ∷ fs) else Err (here Range)) (only (here Range) t x)
long_by all f t fs x true are fits is = rw (fits, is) (length_are all f fs x fits are)
long_by all f t fs x false are fits is = rw (fits, is) refl

long_both : {X : Type 0} (all : ℕ) (f : X → List Field) (t : X → Bool) (r : Result (List Field) Fault) (s : Result X Fault)
    → ((x : X) → is_writable (any_number 13 (all + bit_count (f x))) ≡ t x) → Both (Are f) r s
    → Both (Are (with_length all f)) (r >>= λ body. if is_writable (any_number 13 (all + bit_count body))
    then Ok (any_number 13 (all + bit_count body) ∷ body) else Err (here Range)) (s >>= only (here Range) t)
long_both all f t (Ok fs) (Ok x) same both =
    let is = ap (λ (gs : List Field). is_writable (any_number 13 (all + bit_count gs))) both.0 ∙ same x in
    long_by all f t fs x (t x) both is refl
long_both all f t (Err e) (Err h) same both = both
long_both all f t (Ok fs) (Err h) same both = absurd both
long_both all f t (Err e) (Ok x) same both = absurd both

pub tested_sized : {X : Type 0} {rows : X → List Row} (before all : ℕ) {m : Members} {a : MemberCodec rows} {f : X → List Field}
    (t : X → Bool) → ((x : X) → is_writable (any_number 13 (all + bit_count (f x))) ≡ t x) → Keyed m a f
    → Tested (sized all m) (sized_codec before a) (with_length all f) (here Range) t
tested_sized before all {m = m} {a = a} {f = f} t same k = record {
  keys = k.keys;
  alike = λ d. long_both all f t (m.read d) (a.of d) same (k.alike d);
}

-- ---- lists of packets

uncounted : {A X : Type 0} (R : A → X → Type 0) (n : ℕ) (r : Result (List A) Fault) (s : Result (List X) Fault)
    → Both (λ items xs. Each R items xs × (length items ≡ n)) r s → Both (Each R) r s
uncounted R n (Ok items) (Ok xs) both = both.0
uncounted R n (Err e) (Err h) both = both
uncounted R n (Ok items) (Err h) both = absurd both
uncounted R n (Err e) (Ok xs) both = absurd both

each_or : {A X : Type 0} (R : A → X → Type 0) (read : Data → Result A Fault) (of : Data → Result X Fault)
    → Alike R read of → (o : Option Items) → Both (Each R) (items_or read o) (items_or of o)
each_or R read of same None = refl
each_or R read of same (Some ds) =
    let items = data_list ds in
    uncounted R (length items) (indexed_items read 0 items) (indexed_items of 0 items) (items_alike R read of same 0 items)

each_alike : {A X : Type 0} (R : A → X → Type 0) (read : Data → Result A Fault) (of : Data → Result X Fault)
    → Alike R read of → Alike (Each R) (unbounded_list read) (unbounded_list of)
unfolding unbounded_list
each_alike R read of same d = each_or R read of same (as_array d)

abbrev some_lack : Fault
some_lack = record { reason = Range; path = at_key (codes "packets") ∷ [] }

packets_by : {X : Type 0} (f : X → List Field) (test : List X → Bool) (items : List (List Field)) (xs : List X) (h b : Bool)
    → h ≡ b → test xs ≡ b → Each (Are f) items xs
    → Both (Are (flat_map f)) (if h then Ok (flat_map (λ fs. fs) items) else Err some_lack) (only some_lack test xs)
packets_by f test items xs h true holds is each = rw (holds, is) (flat_are f items xs each)
packets_by f test items xs h false holds is each = rw (holds, is) refl

packets_both : {X : Type 0} (f : X → List Field) (holds : List (List Field) → Bool) (test : List X → Bool)
    (r : Result (List (List Field)) Fault) (s : Result (List X) Fault)
    → ((items : List (List Field)) (xs : List X) → Each (Are f) items xs → holds items ≡ test xs) → Both (Each (Are f)) r s
    → Both (Are (flat_map f)) (r >>= λ all. if holds all then Ok (flat_map (λ fs. fs) all) else Err some_lack)
    (s >>= only some_lack test)
packets_both f holds test (Ok items) (Ok xs) same both =
    packets_by f test items xs (holds items) (test xs) (same items xs both) refl both
packets_both f holds test (Err e) (Err h) same both = both
packets_both f holds test (Ok items) (Err h) same both = absurd both
packets_both f holds test (Err e) (Ok xs) same both = absurd both

pub tested_packets : {X : Type 0} (read : Reader) (s : Codec X) (f : X → List Field) (holds : List (List Field) → Bool)
    (test : List X → Bool) → ((items : List (List Field)) (xs : List X) → Each (Are f) items xs → holds items ≡ test xs)
    → Alike (Are f) read s.of
    → Tested (packets read holds) (key_codec (codes "packets") (listed s)) (flat_map f) some_lack test
tested_packets read s f holds test same alike = record {
  keys = refl;
  alike = λ d.
      packets_both f holds test (required_member (unbounded_list read) (codes "packets") d)
      (required_member (unbounded_list s.of) (codes "packets") d) same
      (required_alike (Each (Are f)) (unbounded_list read) (unbounded_list s.of) (each_alike (Are f) read s.of alike)
      (codes "packets") d);
}

flat_both : {X : Type 0} (f : X → List Field) (r : Result (List (List Field)) Fault) (s : Result (List X) Fault)
    → Both (Each (Are f)) r s → Both (Are (flat_map f)) (r >>= λ all. Ok (flat_map (λ fs. fs) all)) s
flat_both f (Ok items) (Ok xs) both = flat_are f items xs both
flat_both f (Err e) (Err h) both = both
flat_both f (Ok items) (Err h) both = absurd both
flat_both f (Err e) (Ok xs) both = absurd both

-- any packets
pub keyed_packets : {X : Type 0} (read : Reader) (s : Codec X) (f : X → List Field) → Alike (Are f) read s.of
    → Keyed (packets read (λ _. true)) (key_codec (codes "packets") (listed s)) (flat_map f)
keyed_packets read s f alike = record {
  keys = refl;
  alike = λ d.
      flat_both f (required_member (unbounded_list read) (codes "packets") d)
      (required_member (unbounded_list s.of) (codes "packets") d)
      (required_alike (Each (Are f)) (unbounded_list read) (unbounded_list s.of) (each_alike (Are f) read s.of alike)
      (codes "packets") d);
}

-- ---- a body that is kept as bits

-- so many bits
abbrev Sized : ℕ → List Bool → List Bool → Type 0
Sized count b c = (b ≡ c) × (length b ≡ count)

whole_body : (count : ℕ) (bytes : List ℕ) → ((length bytes == byte_count count) && are_padded count bytes) ≡ true
    → Sized count (take count (bits_of_bytes bytes)) (take count (bits_of_bytes bytes))
whole_body count bytes fits =
    let many = eqb-true (length bytes) (byte_count count) (and_parts (length bytes == byte_count count) (are_padded count bytes) fits).0 in
    let enough : count ≤ length (bits_of_bytes bytes) = omega (arith, many, length-bits_of_bytes bytes) in
    (refl, length-take-le count (bits_of_bytes bytes) enough)

bits_alike : (count : ℕ) (r : Result (List ℕ) FromHexError) → Both (Sized count) (decoded_or count r) (decoded_or count r)
bits_alike count (Err e) = refl
bits_alike count (Ok bytes) =
    both_if (Sized count) ((length bytes == byte_count count) && are_padded count bytes)
    (Ok (take count (bits_of_bytes bytes))) (Ok (take count (bits_of_bytes bytes))) (here Range) (whole_body count bytes)

digits_alike : (count : ℕ) (o : Option (List ℕ)) → Both (Sized count) (digits_or count o) (digits_or count o)
digits_alike count None = refl
digits_alike count (Some digits) = bits_alike count (decode_of digits)

body_alike : (count : ℕ) → Alike (Sized count) (decoded_body count) (decoded_body count)
unfolding decoded_body
body_alike count d = digits_alike count (as_str d)

abbrev pub kept_fields : ℕ → List Bool → List Field
kept_fields all body = any_number 13 (all + bit_count (raw_fields body)) ∷ raw_fields body

kept_are : (all l : ℕ) (b c : List Bool) → is_writable (allowed_if 13 l (nat_le all l)) ≡ true → Sized (l - all) b c
    → Are (kept_fields all) (any_number 13 l ∷ raw_fields b) c
kept_are all l b c fits body =
    let parts = and_parts (nat_lt l 8192) (nat_le all l) fits in
    let low : all ≤ l = leb-true all l parts.1 in
    let count : l ≡ all + bit_count (raw_fields b) = omega (arith, low, body.1, bits_size b) in (
      ap₂ (λ (n : ℕ) (bits : List Bool). any_number 13 n ∷ raw_fields bits) count body.0
          ∙ ap (λ (bits : List Bool). any_number 13 (all + bit_count (raw_fields b)) ∷ raw_fields bits) refl
          ∙ ap (λ (bits : List Bool). any_number 13 (all + bit_count (raw_fields bits)) ∷ raw_fields c) body.0,
      ((ltb-true l 8192 parts.0, refl), bits_fit b),
    )

pub keyed_body : (before : ℕ) → Keyed (kept_body (before + 13)) (counted_body before) (kept_fields (before + 13))
keyed_body before = record {
  keys = refl;
  alike = λ d.
      let head = before + 13 in
      let test : ℕ → Bool = λ l. is_writable (allowed_if 13 l (nat_le head l)) in
      both_bind (Passes test) (Are (kept_fields head))
      (required_member (number_of (λ l. allowed_if 13 l (nat_le head l))) (codes "l_packet") d)
      (required_member (allowed_number (is_length head)) (codes "l_packet") d)
      (λ l. required_member (decoded_body (l - head)) (codes "body") d >>= λ body. Ok (any_number 13 l ∷ raw_fields body))
      (λ l. required_member (decoded_body (l - head)) (codes "body") d)
      (required_alike (Passes test) (number_of (λ l. allowed_if 13 l (nat_le head l))) (allowed_number (is_length head))
      (number_alike test (is_length head) (λ _. refl)) (codes "l_packet") d)
      (λ l k both. body_by head l k d both);
}
  where
    kept_both : (all l : ℕ) (r s : Result (List Bool) Fault) → is_writable (allowed_if 13 l (nat_le all l)) ≡ true
        → Both (Sized (l - all)) r s → Both (Are (kept_fields all)) (r >>= λ body. Ok (any_number 13 l ∷ raw_fields body)) s
    kept_both all l (Ok b) (Ok c) fits both = kept_are all l b c fits both
    kept_both all l (Err e) (Err h) fits both = both
    kept_both all l (Ok b) (Err h) fits both = absurd both
    kept_both all l (Err e) (Ok c) fits both = absurd both

    body_by : (all l k : ℕ) (d : Data) → Passes (λ n. is_writable (allowed_if 13 n (nat_le all n))) l k
        → Both (Are (kept_fields all))
        (required_member (decoded_body (l - all)) (codes "body") d >>= λ body. Ok (any_number 13 l ∷ raw_fields body))
        (required_member (decoded_body (k - all)) (codes "body") d)
    body_by all l k d both =
        rw (sym both.0)
        (kept_both all l (required_member (decoded_body (l - all)) (codes "body") d)
        (required_member (decoded_body (l - all)) (codes "body") d) both.1
        (required_alike (Sized (l - all)) (decoded_body (l - all)) (decoded_body (l - all)) (body_alike (l - all)) (codes "body") d))

-- ---- objects with a number

-- the key has this number, whatever numbers may be there
abbrev pub HasNumber : List ℕ → ℕ → Data → Type 0
HasNumber name n d = (test : ℕ → Bool) → test n ≡ true → required_member (allowed_number test) name d ≡ Ok n

number_there : (name : List ℕ) (n : ℕ) (d e : Data) → get name d ≡ Some e → option_and_then as_u64 (as_number e) ≡ Some n
    → HasNumber name n d
unfolding required_member allowed_number
number_there name n d e there is test passes = rw (there, is, passes) refl

abbrev pub Tagged : List ℕ → (ℕ → Field) → Data → ℕ → ℕ → Type 0
Tagged name variable d n k = (n ≡ k) × ((is_writable (variable n) ≡ true) × HasNumber name n d)

module _ (name : List ℕ) (variable : ℕ → Field) (allowed : ℕ → Bool) (same : (n : ℕ) → is_writable (variable n) ≡ allowed n)
    (d : Data) where
  tag_passes : (e : Data) (n : ℕ) (b : Bool) → get name d ≡ Some e → option_and_then as_u64 (as_number e) ≡ Some n
      → is_writable (variable n) ≡ b → Both (Tagged name variable d)
      (prefixed_result (at_key name) (if is_writable (variable n) then Ok n else Err (here Range)))
      (prefixed_result (at_key name) (if allowed n then Ok n else Err (here Range)))
  tag_passes e n true there is fits =
      let also = sym (same n) ∙ fits in
      rw (fits, also) (refl, (fits, number_there name n d e there is))
  tag_passes e n false there is fits = let also = sym (same n) ∙ fits in rw (fits, also) refl

  tag_number : (e : Data) (q : Option ℕ) → get name d ≡ Some e → option_and_then as_u64 (as_number e) ≡ q
      → Both (Tagged name variable d)
      (prefixed_result (at_key name) (allowed_or (λ n. is_writable (variable n)) q))
      (prefixed_result (at_key name) (allowed_or allowed q))
  tag_number e None there is = refl
  tag_number e (Some n) there is = tag_passes e n (is_writable (variable n)) there is refl

  tag_value : (o : Option Data) → get name d ≡ o
      → Both (Tagged name variable d) (key_or (number_of variable) name o) (key_or (allowed_number allowed) name o)
  unfolding allowed_number
  tag_value None there = refl
  tag_value (Some e) there = tag_number e (option_and_then as_u64 (as_number e)) there refl

  pub tag_alike : Both (Tagged name variable d) (tag_member (number_of variable) name d) (tag_member (allowed_number allowed) name d)
  unfolding required_member
  tag_alike =
      both_after (Tagged name variable d) (any_object d) (key_or (number_of variable) name (get name d))
      (key_or (allowed_number allowed) name (get name d)) (tag_value (get name d) refl)

-- what is read after a fixed number
abbrev after_unit : {X : Type 0} → X → Result (Unit {0} × X) Fault
after_unit x = Ok (tt, x)

numbered_both : {X : Type 0} (number : Field) (f g : X → List Field) (r : Result (List Field) Fault) (s : Result X Fault)
    → IsWritable number → ((x : X) → number ∷ f x ≡ g x) → Both (Are f) r s
    → Both (Are g) (r >>= λ later. Ok (number ∷ later)) ((s >>= after_unit) >>= λ p. Ok p.1)
numbered_both number f g (Ok fs) (Ok x) fits same both =
    (ap (λ (gs : List Field). number ∷ gs) both.0 ∙ same x, (fits, both.1))
numbered_both number f g (Err e) (Err h) fits same both = both
numbered_both number f g (Ok fs) (Err h) fits same both = absurd both
numbered_both number f g (Err e) (Ok x) fits same both = absurd both

-- one number, and the members after it
pub numbered_alike : {X : Type 0} {rows : X → List Row} (name : List ℕ) (n k : ℕ) (variable : ℕ → Field) (m : Members)
    (o : NumberedMembers name k rows) (f g : X → List Field) → (n == k) ≡ true → is_writable (variable n) ≡ true
    → ((x : X) → variable k ∷ f x ≡ g x) → Keyed m o.members f → (d : Data) → HasNumber name n d
    → Both (Are g) (after_number name (variable n) m d) ((object_codec (with_number o)).of d)
numbered_alike name n k variable m o f g is fits same keyed d there =
    let equal = eqb-true n k is in
    let read : required_member (allowed_number (λ i. i == k)) name d ≡ Ok n = there (λ i. i == k) is in
    rw (keyed.keys, read)
    (both_after (Are g) (only_keys (name ∷ o.members.keys) d) (m.read d >>= λ later. Ok (variable n ∷ later))
    ((o.members.of d >>= after_unit) >>= λ p. Ok p.1)
    (numbered_both (variable n) f g (m.read d) (o.members.of d) (writable_one (variable n) fits)
    (λ x. ap (λ (i : ℕ). variable i ∷ f x) equal ∙ same x) (keyed.alike d)))

-- this number, or another one
pub either_alike : {A B : Type 0} (F : A ⊎ B → List Field) (b : Bool) (name : List ℕ) (number : Field) (m n : Members) (d : Data)
    (r : Result A Fault) (s : Result B Fault)
    → (b ≡ true → Both (Are (λ x. F (inl x))) (after_number name number m d) r)
    → (b ≡ false → Both (Are (λ y. F (inr y))) (after_number name number n d) s)
    → Both (Are F) (after_number name number (if b then m else n) d) (if b then as_kind inl r else as_kind inr s)
either_alike F true name number m n d r s first second = both_made F inl (after_number name number m d) r (first refl)
either_alike F false name number m n d r s first second = both_made F inr (after_number name number n d) s (second refl)

-- ---- a variable, and a second one after some of its numbers

pub absent_both : {X : Type 0} (fields : X → List Field) (of : List Row → X) (f : Field) (r : Row) (u : Result (Unit {0}) Fault)
    → Are fields (f ∷ []) (of (r ∷ []))
    → Both (Are fields) ((u >>= λ _. Ok []) >>= λ later. Ok (f ∷ later))
    (((u >>= λ _. Ok []) >>= λ rows. Ok (r ∷ rows)) >>= λ rows. Ok (of rows))
absent_both fields of f r (Ok _) are = are
absent_both fields of f r (Err e) are = refl

present_both : {X : Type 0} (fields : X → List Field) (of : List Row → X) (f : Field) (r : Row) (next : ℕ → Field) (y : Variable)
    (q : Result (List Field) Fault) (s : Result ℕ Fault) → IsWritable f
    → ((m : ℕ) → f ∷ next m ∷ [] ≡ fields (of (r ∷ row y m ∷ []))) → Both (Are (λ m. next m ∷ [])) q s
    → Both (Are fields) (q >>= λ later. Ok (f ∷ later))
    (((s >>= λ m. Ok (row y m ∷ [])) >>= λ rows. Ok (r ∷ rows)) >>= λ rows. Ok (of rows))
present_both fields of f r next y (Ok fs) (Ok m) fits same both =
    (ap (λ (gs : List Field). f ∷ gs) both.0 ∙ same m, (fits, both.1))
present_both fields of f r next y (Err e) (Err h) fits same both = both
present_both fields of f r next y (Ok fs) (Err h) fits same both = absurd both
present_both fields of f r next y (Err e) (Ok m) fits same both = absurd both

pub present_alike : {X : Type 0} (fields : X → List Field) (of : List Row → X) (f : Field) (r : Row) (next : ℕ → Field)
    (y : Variable) (name : List ℕ) → ((n : ℕ) → is_writable (next n) ≡ is_allowed y n) → IsWritable f
    → ((m : ℕ) → f ∷ next m ∷ [] ≡ fields (of (r ∷ row y m ∷ []))) → (d : Data)
    → Both (Are fields) (required_member (one next) name d >>= λ later. Ok (f ∷ later))
    ((rows_read (one_field y) (name ∷ []) d >>= λ rows. Ok (r ∷ rows)) >>= λ rows. Ok (of rows))
present_alike fields of f r next y name same fits are d =
    present_both fields of f r next y (required_member (one next) name d) (required_member (allowed_number (is_allowed y)) name d)
    fits are (required_alike (Are (λ m. next m ∷ [])) (one next) (allowed_number (is_allowed y)) (one_alike next (is_allowed y) same) name d)
