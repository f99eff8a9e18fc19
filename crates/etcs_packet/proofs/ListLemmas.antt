-- A list of records, as a reader goes through it and as contracts describe it.
use Rattle.std.proofs.Common.{◌≡◌, ◌+◌, ◌<◌, ◌≤◌, Bool, true, false, List, [], ◌∷◌, ◌++◌, map, length, take, Option, Some, None, Result, Ok, Err, refl, sym, ap, subst, ◌∙◌, arith}
use Rattle.std.specs.Result.{is_err, OnOk}
use Rattle.std.proofs.lemmas.List.{map-append}
use Rattle.etcs_bits.specs.declared.layout.fault.Fault.{Fault}
use Rattle.etcs_bits.specs.declared.layout.fault.DecodeError.{DecodeError}
use Rattle.etcs_bits.specs.declared.layout.fault.DecodeError.TheVariants as errors
use Rattle.etcs_bits.specs.layout.Rows.{Row, Place, join}
use Rattle.etcs_bits.specs.layout.Fields.{Fields, AreRowsOf}
use Rattle.etcs_bits.specs.layout.Fault.{IsFault, NoneBegins, lack}
use Rattle.etcs_bits.specs.layout.Results.{Fails, OfFault, OfMemory}
use Rattle.etcs_bits.specs.layout.Laid.{IsLayout}
use Rattle.etcs_bits.proofs.LayoutLemmas.{laid_out, rows_again}
use Rattle.etcs_bits.proofs.StandLemmas.{length-join, place_in, stands_within}
use Rattle.etcs_packet.specs.declared.stop.Stop.{Stop}
use Rattle.etcs_packet.specs.Lists.{IsHeaded, ends, Stand, IsStep, NoStep, NoneStand, Follow, IsListFault}
use Rattle.etcs_packet.specs.Reading.{read_list}
use Rattle.etcs_packet.proofs.EndLemmas.{headed_wide, no_end_here, settled, fault_past}
use Rattle.etcs_packet.proofs.FollowLemmas.{follow_more, list_fault_stays}
use Rattle.etcs_packet.proofs.ItemLemmas.{follow_is_read, read_follows, list_fault_is_read}

-- ---- one step

no_step_here : {X : Type 0} (rows : X → List Row) (stop : Stop) (fields : Fields) (p : Place)
    (f : Fault) (bits : List Bool) (o : Option X) (to : Place) → IsHeaded fields
    → p.at ≤ length p.bits → ends stop p ≡ false → IsFault fields p f → NoneBegins rows p f
    → length bits ≡ length p.bits → take f.end bits ≡ take f.end p.bits
    → IsStep stop rows o (place_in bits p.at) to → ⊥
no_step_here rows stop fields p f bits None to head within goes t none len same s =
    let h = settled stop p bits f.end len same (fault_past fields p f head within t).1 in
    let e = s.0 in cc
no_step_here rows stop fields p f bits (Some x) to head within goes t none len same s =
    none bits len same x to s.1

pub no_step : {X : Type 0} (rows : X → List Row) (e : DecodeError) (stop : Stop) (fields : Fields)
    (p : Place) → IsHeaded fields → p.at ≤ length p.bits → ends stop p ≡ false
    → OfFault e (λ f. IsFault fields p f) → OfFault e (λ f. NoneBegins rows p f)
    → OfFault e (λ f. NoStep stop rows p f)
no_step rows errors.Memory stop fields p head within goes t none = tt
no_step rows (errors.Fault f) stop fields p head within goes t none =
    λ bits len same o to s. no_step_here rows stop fields p f bits o to head within goes t none len same s

-- the fault of the packet that is due
pub due_fault : (e : DecodeError) (stop : Stop) (fields : Fields) (p : Place) → ends stop p ≡ false
    → OfFault e (λ f. IsFault fields p f)
    → OfFault e (λ f. (ends stop p ≡ false) × IsFault fields p f)
due_fault errors.Memory stop fields p goes is_fault = tt
due_fault (errors.Fault f) stop fields p goes is_fault = (goes, is_fault)

-- too few bits for NID_PACKET
pub lacks_step : {X : Type 0} {rows : X → List Row} {of : List Row → X} {fields : Fields}
    → IsLayout fields rows of → (stop : Stop) (p : Place) → IsHeaded fields → p.at ≤ length p.bits
    → ends stop p ≡ false → length p.bits < p.at + 8 → NoStep stop rows p (lack true p)
lacks_step {rows = rows} {of = of} {fields = fields} laid stop p head within goes few = λ bits len same o to s.
    let is_fault = no_end_here fields p head few in
    no_step_here rows stop fields p (lack true p) bits o to head within goes is_fault ((laid_out (record { fields = fields; rows = rows; of = of; laid = laid })).fault_or_record p (lack true p) within is_fault) len same s

-- ---- the loop

-- where too few bits are left for a record, no record was found
pub none_before : (stop : Stop) (fields : Fields) (whole : List (List Row)) (p q : Place)
    → IsHeaded fields → p.at ≤ length p.bits → length p.bits < p.at + 8
    → Follow stop fields whole p q → q ≡ p
none_before stop fields [] p q head within few there = there
none_before stop fields (r ∷ more) p q head within few (goes, (m, w, spelled, rest)) =
    absurd (omega (arith, few, headed_wide fields r head w, length-join r, spelled.stands.past, stands_within (join r) p m within spelled.stands))

abbrev failing : {A : Type 0} → DecodeError → Result A DecodeError
failing e = Err e

-- what follows from a reason to ask for memory
pub of_memory : {P Q : Type 0} (e : DecodeError) → (P → Q) → OfMemory e P → OfMemory e Q
of_memory errors.Memory follows reason = follows reason
of_memory (errors.Fault f) follows reason = tt

pub same_error : {A : Type 0} (d e : DecodeError) → failing {A = A} d ≡ failing {A = A} e → d ≡ e
same_error d e is = cc

pub no_error : {A C : Type 0} (x : A) (e : DecodeError) → Ok x ≡ failing {A = A} e → C
no_error x e is = absurd cc

-- one record more
pub goes_on : {X : Type 0} (rows : X → List Row) (xs : List X) (x : X) (stop : Stop)
    (fields : Fields) (p q r : Place) → Follow stop fields (map rows xs) p q → AreRowsOf fields (rows x)
    → IsStep stop rows (Some x) q r → Follow stop fields (map rows (xs ++ x ∷ [])) p r
goes_on rows xs x stop fields p q r follow w step =
    subst (λ (ys : List (List Row)). Follow stop fields ys p r) (sym (map-append rows xs (x ∷ [])))
    (follow_more stop fields (map rows xs) (rows x) p q r follow step.0 w step.1)

-- no more records: those that were found stand up to the end
pub over : {X : Type 0} (rows : X → List Row) (xs : List X) (stop : Stop) (fields : Fields)
    (p q r : Place) → Follow stop fields (map rows xs) p q → IsStep stop rows None q r
    → Stand stop rows xs p r
over rows [] stop fields p q r there step =
    (subst (λ (z : Place). ends stop z ≡ true) there step.0, step.1 ∙ there)
over rows (x ∷ xs) stop fields p q r (goes, (m, w, spelled, rest)) step =
    (goes, (m, spelled, over rows xs stop fields m q r rest step))

-- the next record has a fault
pub list_fault : {X : Type 0} (rows : X → List Row) (e : DecodeError) (xs : List X) (stop : Stop)
    (fields : Fields) (p q : Place) → Follow stop fields (map rows xs) p q
    → OfFault e (λ f. (ends stop q ≡ false) × IsFault fields q f)
    → OfFault e (λ f. IsListFault stop fields p f)
list_fault rows errors.Memory xs stop fields p q follow t = tt
list_fault rows (errors.Fault f) xs stop fields p q follow t =
    record { whole = map rows xs; reached = q; follow = follow; goes_on = t.0; is_fault = t.1 }

-- ---- a list that stands

-- Its rows follow one another up to the end.
pub record AreListed {X : Type 0} (rows : X → List Row) (stop : Stop) (fields : Fields) (xs : List X) (p q : Place) : Type 0 where
  pub follow : Follow stop fields (map rows xs) p q
  pub over : ends stop q ≡ true

pub stand_follow : {X : Type 0} (rows : X → List Row) (xs : List X) (stop : Stop) (fields : Fields)
    (p q : Place) → ((x : X) → AreRowsOf fields (rows x)) → Stand stop rows xs p q
    → AreListed rows stop fields xs p q
stand_follow rows [] stop fields p q are_rows (over, there) =
    record { follow = there; over = subst (λ (z : Place). ends stop z ≡ true) (sym there) over }
stand_follow rows (x ∷ xs) stop fields p q are_rows (goes, (m, spelled, rest)) =
    let more = stand_follow rows xs stop fields m q are_rows rest in
    record { follow = (goes, (m, are_rows x, spelled, more.follow)); over = more.over }

map_back : {X : Type 0} (rows : X → List Row) (of : List Row → X) (xs : List X)
    → ((x : X) → of (rows x) ≡ x) → map of (map rows xs) ≡ xs
map_back rows of [] back = refl
map_back rows of (x ∷ xs) back =
    let first = back x in
    let rest = map_back rows of xs back in cc

-- A list that stands is what reading gives.
pub stand_is_read : {X : Type 0} {fields : Fields} {rows : X → List Row} {of : List Row → X}
    → IsLayout fields rows of → (xs : List X) (stop : Stop) (p q : Place) → IsHeaded fields
    → p.at ≤ length p.bits → Stand stop rows xs p q → read_list stop fields of p ≡ Ok (xs, q)
stand_is_read {fields = fields} {rows = rows} {of = of} laid xs stop p q head within s =
    let listed = stand_follow rows xs stop fields p q laid.are_rows s in
    follow_is_read of (map rows xs) stop fields p q head within listed.follow listed.over
    ∙ ap (λ ys. Ok (ys, q)) (map_back rows of xs laid.is_record)

-- where rows follow one another up to the end, their records stand
follow_stands : {X : Type 0} {fields : Fields} {rows : X → List Row} {of : List Row → X}
    → IsLayout fields rows of → (stop : Stop) (whole : List (List Row)) (p q : Place)
    → Follow stop fields whole p q → ends stop q ≡ true → Stand stop rows (map of whole) p q
follow_stands laid stop [] p q there over = (subst (λ (z : Place). ends stop z ≡ true) there over, there)
follow_stands {fields = fields} {rows = rows} {of = of} laid stop (r ∷ whole) p q (goes, (m, are, spelled, rest)) over =
    (goes, (m, rw (rows_again (record { fields = fields; rows = rows; of = of; laid = laid }) r are spelled.allowed) spelled, follow_stands laid stop whole m q rest over))

-- What reading gives stands.
pub read_stands : {X : Type 0} {fields : Fields} {rows : X → List Row} {of : List Row → X}
    → IsLayout fields rows of → (xs : List X) (stop : Stop) (p q : Place) → IsHeaded fields
    → p.at ≤ length p.bits → read_list stop fields of p ≡ Ok (xs, q) → Stand stop rows xs p q
read_stands {fields = fields} {rows = rows} {of = of} laid xs stop p q head within e =
    let read = read_follows of stop fields p (xs, q) head within e in
    subst (λ ys. Stand stop rows ys p q) read.are (follow_stands laid stop read.whole p q read.follow read.over)

-- ---- a list's fault

-- Reading a list reports the list's fault.
pub list_fails : {X : Type 0} (of : List Row → X) (e : DecodeError) (stop : Stop) (fields : Fields)
    (p : Place) → IsHeaded fields → p.at ≤ length p.bits
    → OfFault e (λ f. IsListFault stop fields p f) → Fails e (read_list stop fields of p)
list_fails of errors.Memory stop fields p head within t = tt
list_fails of (errors.Fault f) stop fields p head within t =
    list_fault_is_read of stop fields p f head within t

-- A place with a list's fault has no list. This holds in every input of the same length with the
-- same front.
pub none_stand : {X : Type 0} (rows : X → List Row) (stop : Stop) (fields : Fields) (p : Place)
    (f : Fault) → IsHeaded fields → ((x : X) → AreRowsOf fields (rows x)) → p.at ≤ length p.bits
    → IsListFault stop fields p f → NoneStand stop rows p f
none_stand rows stop fields p f head are_rows within t = λ bits len same xs to s.
    let there = place_in bits p.at in
    let inside : there.at ≤ length there.bits = omega (arith, within, len) in
    let listed = stand_follow rows xs stop fields there to are_rows s in
    let reads = follow_is_read rows_alone (map rows xs) stop fields there to head inside listed.follow listed.over in
    let fails = list_fault_is_read rows_alone stop fields there f head inside (list_fault_stays stop fields p f bits head within len same t) in
    cc
  where
    rows_alone : List Row → List Row
    rows_alone rs = rs

pub none_of : {X : Type 0} (rows : X → List Row) (e : DecodeError) (stop : Stop) (fields : Fields)
    (p : Place) → IsHeaded fields → ((x : X) → AreRowsOf fields (rows x)) → p.at ≤ length p.bits
    → OfFault e (λ f. IsListFault stop fields p f) → OfFault e (λ f. NoneStand stop rows p f)
none_of rows errors.Memory stop fields p head are_rows within t = tt
none_of rows (errors.Fault f) stop fields p head are_rows within t =
    none_stand rows stop fields p f head are_rows within t

-- ---- writing

-- a fact of a result that is not an error
pub was_done : {A E P : Type 0} (r : Result A E) → is_err r ≡ false → OnOk r P → P
was_done (Ok x) good p = p
was_done (Err e) good p = absurd cc
