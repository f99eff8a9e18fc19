-- Faults as the code finds them.
use Rattle.std.proofs.Common.{◌≡◌, ◌∙◌, ℕ, Bool, List, Option, Some, None, Result, Ok, Err, IfOk, IfSome, IsErrAnd, option_map, ap, sym, refl, subst, arith}
use Rattle.std.specs.Prelude.{IsErr, if◌then◌else◌}
use Rattle.serde_json.specs.Data.{Data}
use Rattle.serde_json.specs.Find.{as_object, get}
use Rattle.etcs_bits.specs.layout.Rows.{AreAllowed}
use Rattle.etcs_schema.specs.Codec.{Codec}
use Rattle.etcs_schema.specs.Entries.{are_known}
use Rattle.etcs_schema.specs.Choices.{any_object, object_or}
use Rattle.etcs_schema.specs.Fault.{Fault, IfMemory, OfMemory, ReturnsError, Returns, IsPrefixedFault, IsPrefixedError, IsFault, IsPrefixedResult, Kind, Step, Unknown, error_fault, here, key, prefixed_result}
use Rattle.etcs_schema.specs.Reading.{◌>>=◌, required_member, key_or, known_or, any_member, only_keys}
use Rattle.etcs_schema.specs.declared.error.FormError.{FormError}

-- ---- an option that is mapped

abbrev pub or_this : {A : Type 0} → A → Option A → A
or_this a None = a
or_this a (Some b) = b

pub some_mapped : {A B : Type 0} (f : A → B) (b : B) (o : Option A) → option_map f o ≡ Some b → (a : A) × (o ≡ Some a) × (f a ≡ b)
some_mapped f b None e = absurd (cc)
some_mapped f b (Some a) e = (a, refl, ap (or_this b) e)

-- ---- faults

fails_at : {Y : Type 0} (o : Option Fault) (f : Fault) (r : Result Y Fault) → IfSome o (λ g. g ≡ f) → r ≡ Err f → IfSome o (λ g. r ≡ Err g)
fails_at None f r is read = tt
fails_at (Some g) f r is read = read ∙ ap (λ x. Err x) (sym is)

-- the error is what is read
pub fails_as : {Y : Type 0} → (e : FormError) (f : Fault) (r : Result Y Fault) → IsFault e f → r ≡ Err f → ReturnsError e r
fails_as e f r is read = fails_at (error_fault e) f r is read

under_at : {Y : Type 0} (step : Step) (inner outer : Option Fault) (r s : Result Y Fault) → IfSome outer (λ f. IsPrefixedFault step f inner)
    → IfSome inner (λ f. r ≡ Err f) → s ≡ prefixed_result step r → IfSome outer (λ f. s ≡ Err f)
under_at step inner None r s deep fails is = tt
under_at step None (Some f) r s deep fails is = absurd deep
under_at step (Some g) (Some f) r s deep fails is = is ∙ ap (prefixed_result step) fails ∙ ap (λ x. Err x) (sym deep)

-- a fault as the enclosing value reports it
pub fails_under : {Y : Type 0} → (step : Step) (inner outer : FormError) (r s : Result Y Fault) → IsPrefixedError step inner outer → ReturnsError inner r → s ≡ prefixed_result step r → ReturnsError outer s
fails_under step inner outer r s deep fails is = under_at step (error_fault inner) (error_fault outer) r s deep fails is

-- ---- the keys of an object

pub none_mapped : {A B : Type 0} (f : A → B) (o : Option A) → None ≡ option_map f o → o ≡ None
none_mapped f None e = refl
none_mapped f (Some a) e = absurd (cc)

pub keys_none : (keys : List (List ℕ)) (d : Data) → None ≡ option_map (are_known keys) (as_object d) → only_keys keys d ≡ Err (here Kind)
unfolding only_keys
keys_none keys d e = ap (known_or keys) (none_mapped (are_known keys) (as_object d) e)

pub keys_known : (keys : List (List ℕ)) (d : Data) (known : Bool) → Some known ≡ option_map (are_known keys) (as_object d) → only_keys keys d ≡ if known then Ok tt else Err (here Unknown)
unfolding only_keys
keys_known keys d known e =
    let found = some_mapped (are_known keys) known (as_object d) (sym e) in
    ap (known_or keys) found.1 ∙ ap (λ b. if b then Ok tt else Err (here Unknown)) found.2

pub no_object : (keys : List (List ℕ)) (d : Data) → None ≡ option_map (are_known keys) (as_object d) → any_object d ≡ Err (here Kind)
unfolding any_object
no_object keys d e = ap object_or (none_mapped (are_known keys) (as_object d) e)

pub some_object : (keys : List (List ℕ)) (d : Data) (known : Bool) → Some known ≡ option_map (are_known keys) (as_object d) → any_object d ≡ Ok tt
unfolding any_object
some_object keys d known e = ap object_or (some_mapped (are_known keys) known (as_object d) (sym e)).1

same_at : {X Y : Type 0} (o : Option Fault) (r : Result X Fault) (s : Result Y Fault) → IfSome o (λ f. r ≡ Err f) → ((f : Fault) → r ≡ Err f → s ≡ Err f) → IfSome o (λ f. s ≡ Err f)
same_at None r s fails same = tt
same_at (Some f) r s fails same = same f fails

-- what fails with each fault of another reading
pub fails_same : {X Y : Type 0} → (e : FormError) (r : Result X Fault) (s : Result Y Fault) → ReturnsError e r → ((f : Fault) → r ≡ Err f → s ≡ Err f) → ReturnsError e s
fails_same e r s fails same = same_at (error_fault e) r s fails same

-- an error that is passed on is what the outer reading gives
pub fails_up : {X Y A : Type 0} (view : X → Y) (result : Result X FormError) (e : FormError) (r : Result A Fault) (s : Result Y Fault)
    → IsErrAnd result (λ y. y ≡ e) → ReturnsError e r → ((f : Fault) → r ≡ Err f → s ≡ Err f) → Returns view result s
fails_up view (Ok x) e r s passed fails same = absurd passed
fails_up view (Err y) e r s passed fails same = rw passed (fails_same e r s fails same)

-- what is read again has a form of its own
pub own_form : {X : Type 0} (s : Codec X) (x y : X) → AreAllowed (s.rows x) → AreAllowed (s.rows y) → s.to x ≡ s.to y → x ≡ y
own_form s x y first second same =
    let one = s.again x first in
    let other = s.again y second in
    let read : s.of (s.to x) ≡ s.of (s.to y) = ap s.of same in
    cc

-- ---- a member, and what is read of it

abbrev data_or : Data → Result Data Fault → Data
data_or d (Ok e) = e
data_or d (Err f) = d

abbrev fault_or : {A : Type 0} → Fault → Result A Fault → Fault
fault_or f (Ok a) = f
fault_or f (Err g) = g

missing_at : {A : Type 0} (read : Data → Result A Fault) (name : List ℕ) (o : Option Data) (f : Fault) → key_or (λ e. Ok e) name o ≡ Err f → key_or read name o ≡ Err f
missing_at read name None f e = ap (λ r. Err (fault_or f r)) e
missing_at read name (Some d) f e = absurd (cc)

found_at : {A : Type 0} (read : Data → Result A Fault) (name : List ℕ) (o : Option Data) (d : Data) → key_or (λ e. Ok e) name o ≡ Ok d → key_or read name o ≡ prefixed_result (key name) (read d)
found_at read name None d e = absurd (cc)
found_at read name (Some c) d e = ap (λ x. prefixed_result (key name) (read x)) (ap (data_or d) e)

-- a required member is missing
pub member_missing : {X Y : Type 0} (view : X → Y) (result : Result X FormError) (e : FormError) (read : Data → Result Y Fault) (name : List ℕ) (d : Data)
    → IsErrAnd result (λ y. y ≡ e) → ReturnsError e (any_member name d) → Returns view result (required_member read name d)
unfolding required_member
member_missing view result e read name d passed fails = fails_up view result e (any_member name d) (required_member read name d) passed fails (missing_at read name (get name d))

under_is : {X Y : Type 0} (view : X → Y) (step : Step) (inner outer : Result X FormError) (r s : Result Y Fault) → Returns view inner r → IsPrefixedResult step inner outer → s ≡ prefixed_result step r → Returns view outer s
under_is view step (Ok x) outer r s gives is e = subst (λ o. Returns view o s) (sym is) (e ∙ ap (prefixed_result step) gives)
under_is view step (Err inner) (Ok x) r s gives is e = absurd is
under_is view step (Err inner) (Err outer) r s gives is e = fails_under step inner outer r s is gives e

-- the member is there, and is read
pub member_read : {X Y : Type 0} (view : X → Y) (inner outer : Result X FormError) (read : Data → Result Y Fault) (name : List ℕ) (d found : Data)
    → any_member name d ≡ Ok found → Returns view inner (read found) → IsPrefixedResult (key name) inner outer → Returns view outer (required_member read name d)
unfolding required_member
member_read view inner outer read name d found is gives around = under_is view (key name) inner outer (read found) (required_member read name d) gives around (found_at read name (get name d) found is)

-- a member that is only checked
pub gives_unit : {Y : Type 0} (view : Unit {0} → Y) (result : Result (Unit {0}) FormError) (r : Result Y Fault) → Returns view result r → Returns (λ u. u) result (r >>= λ _. Ok tt)
gives_unit view (Ok u) r gives = ap (λ s. s >>= λ _. Ok tt) gives
gives_unit view (Err e) r fails = fails_same e r (r >>= λ _. Ok tt) fails (λ f is. ap (λ s. s >>= λ _. Ok tt) is)

-- what holds of the value that was read
pub under_keeps : {X : Type 0} (P : X → Type 0) (step : Step) (inner outer : Result X FormError) → IfOk inner P → IsPrefixedResult step inner outer → IfOk outer P
under_keeps P step (Ok x) outer holds is = subst (λ o. IfOk o P) (sym is) holds
under_keeps P step (Err inner) (Ok x) holds is = absurd is
under_keeps P step (Err inner) (Err outer) holds is = tt

-- ---- when memory is needed

pub memory_holds : {X : Type 0} (result : Result X FormError) (P : Type 0) → P → IfMemory result P
memory_holds result P holds = grind arith

-- only to report a missing member with its key
pub memory_missing : {X Y : Type 0} (result : Result X FormError) (e : FormError) (read : Data → Result Y Fault) (name : List ℕ) (d : Data)
    → IsErrAnd result (λ y. y ≡ e) → OfMemory e (get name d ≡ None) → IfMemory result (IsErr (required_member read name d))
unfolding required_member
memory_missing result e read name d passed none = grind arith

refused : {X Y : Type 0} (view : X → Y) (step : Step) (inner outer : Result X FormError) (r : Result Y Fault) → Returns view inner r → IfMemory inner ⊥ → IsPrefixedResult step inner outer → IfMemory outer (IsErr (prefixed_result step r))
refused view step inner outer r gives none is = grind arith

-- or one that is refused
pub memory_under : {X Y : Type 0} (view : X → Y) (inner outer : Result X FormError) (read : Data → Result Y Fault) (name : List ℕ) (d found : Data)
    → any_member name d ≡ Ok found → Returns view inner (read found) → IfMemory inner ⊥ → IsPrefixedResult (key name) inner outer → IfMemory outer (IsErr (required_member read name d))
unfolding required_member
memory_under view inner outer read name d found is gives none around = rw (found_at read name (get name d) found is) (refused view (key name) inner outer (read found) gives none around)

-- a member that is only checked
pub memory_checked : {Y : Type 0} (result : Result (Unit {0}) FormError) (r : Result Y Fault) → IfMemory result (IsErr r) → IfMemory result (IsErr (r >>= λ _. Ok (tt {0})))
memory_checked result r holds = grind arith
