-- A head and its list: what stands is read, a fault is read, and there is only one of them.
use Rattle.std.proofs.Common.{◌≡◌, ◌+◌, ◌<◌, ◌≤◌, Bool, true, false, List, length, take, Result, Ok, Err, refl, sym, ap, subst, ◌∙◌, arith, inl, inr}
use Rattle.etcs_bits.specs.declared.layout.fault.Fault.{Fault}
use Rattle.etcs_bits.specs.declared.layout.fault.DecodeError.{DecodeError}
use Rattle.etcs_bits.specs.declared.layout.fault.DecodeError.TheVariants as errors
use Rattle.etcs_bits.specs.layout.Rows.{Row, Place, IsSpelled, join}
use Rattle.etcs_bits.specs.layout.Fields.{Fields, AreRowsOf}
use Rattle.etcs_bits.specs.layout.Fault.{IsFault, lack}
use Rattle.etcs_bits.specs.layout.Reading.{◌>>=◌, read_rows}
use Rattle.etcs_bits.specs.layout.Results.{Fails, Gives, OfFault, OfMemory, Means}
use Rattle.etcs_bits.proofs.BindLemmas.{bind_ok, bind_err, ok_is}
use Rattle.etcs_bits.specs.layout.Laid.{IsLayout}
use Rattle.etcs_bits.proofs.LayoutLemmas.{rows_again}
use Rattle.etcs_bits.proofs.StandLemmas.{place_in, stands_moved}
use Rattle.etcs_bits.proofs.ReadingLemmas.{read_is_spelled, spelled_is_read, read_is_fault}
use Rattle.etcs_bits.proofs.FaultLemmas.{fault_is_given, fault_stays, none_stands, same_fault}
use Rattle.etcs_packet.specs.declared.stop.Stop.{Stop}
use Rattle.etcs_packet.specs.declared.stop.Stop.TheVariants as stops
use Rattle.etcs_packet.specs.Lists.{IsHeaded, IsListFault, ends}
use Rattle.etcs_packet.specs.Reading.{read_list, read_whole, read_first_whole}
use Rattle.etcs_packet.specs.Whole.{start, BeginsWith, IsFollowed, HeadAndListStand, IsWholeFault, NoHeadAndListStands}
use Rattle.etcs_packet.proofs.EndLemmas.{fault_past, has_room, next_within}
use Rattle.etcs_packet.proofs.FollowLemmas.{follow_forward, follow_within, list_fault_stays}
use Rattle.etcs_packet.proofs.ItemLemmas.{list_fault_is_read, read_is_list_fault}
use Rattle.etcs_packet.proofs.ListLemmas.{stand_is_read, read_stands}

-- the list after a head, then both
abbrev then_items : {H X : Type 0} → Stop → (List Row → H) → Fields → (List Row → X)
    → List Row × Place → Result ((H × List X) × Place) Fault
then_items stop head_of item item_of first =
    read_list stop item item_of first.1 >>= λ more. Ok ((head_of first.0, more.0), more.1)

both_at : {H X : Type 0} (stop : Stop) (head : Fields) (head_of : List Row → H) (item : Fields)
    (item_of : List Row → X) (p : Place) → read_whole stop head head_of item item_of p
    ≡ (read_rows head p >>= λ first. then_items stop head_of item item_of first)
unfolding read_whole
both_at stop head head_of item item_of p = refl

of_bits : {H X : Type 0} (stop : Stop) (head : Fields) (head_of : List Row → H) (item : Fields)
    (item_of : List Row → X) (bits : List Bool) → read_first_whole stop head head_of item item_of bits
    ≡ (read_whole stop head head_of item item_of (start bits) >>= λ read. Ok read.0)
unfolding read_first_whole
of_bits stop head head_of item item_of bits = refl

-- What stands is read.
pub whole_is_read : {H X : Type 0} {header item : Fields} {head : H → List Row} {head_of : List Row → H}
    {rows : X → List Row} {item_of : List Row → X} → IsLayout header head head_of → IsLayout item rows item_of
    → (stop : Stop) (h : H) (xs : List X) (p q : Place) → IsHeaded item → p.at ≤ length p.bits
    → HeadAndListStand stop head rows h xs p q → read_whole stop header head_of item item_of p ≡ Ok ((h, xs), q)
whole_is_read {header = header} {item = item} {head = head} {head_of = head_of} {item_of = item_of} head_laid laid stop h xs p q headed within w =
    let first = spelled_is_read header (head h) p w.middle within (head_laid.are_rows h) w.first in
    let more = stand_is_read laid xs stop w.middle q headed (next_within (head h) p w.middle within w.first) w.items in
    let back = head_laid.is_record h in
    both_at stop header head_of item item_of p ∙ rw (first, more, back) refl

-- What reading gives stands.
pub read_is_whole : {H X : Type 0} {header item : Fields} {head : H → List Row} {head_of : List Row → H}
    {rows : X → List Row} {item_of : List Row → X} → IsLayout header head head_of → IsLayout item rows item_of
    → (stop : Stop) (h : H) (xs : List X) (p q : Place) → IsHeaded item → p.at ≤ length p.bits
    → read_whole stop header head_of item item_of p ≡ Ok ((h, xs), q) → HeadAndListStand stop head rows h xs p q
read_is_whole {H = H} {X = X} {header = header} {item = item} {head = head} {head_of = head_of} {rows = rows} {item_of = item_of} head_laid laid stop h xs p q headed within e =
    let a = bind_ok (read_rows header p) (then_items stop head_of item item_of) ((h, xs), q) (sym (both_at stop header head_of item item_of p) ∙ e) in
    let b = bind_ok (read_list stop item item_of a.0.1) (λ more. Ok ((head_of a.0.0, more.0), more.1)) ((h, xs), q) a.2 in
    let same = ok_is ((head_of a.0.0, b.0.0), b.0.1) ((h, xs), q) b.2 in
    let first = read_is_spelled header p a.0 within a.1 in
    let items = read_stands laid b.0.0 stop a.0.1 b.0.1 headed (next_within a.0.0 p a.0.1 within first.spelled) b.1 in
    let made : HeadAndListStand stop head rows (head_of a.0.0) b.0.0 p b.0.1 = record {
      middle = a.0.1;
      first = rw (rows_again (record { fields = header; rows = head; of = head_of; laid = head_laid }) a.0.0 first.whole first.spelled.allowed) first.spelled;
      items = items;
    } in
    subst (λ (y : (H × List X) × Place). HeadAndListStand stop head rows y.0.0 y.0.1 p y.1) same made

-- A fault of a whole is read.
pub whole_fault_is_read : {H X : Type 0} (head_of : List Row → H) (item_of : List Row → X) (stop : Stop)
    (header item : Fields) (p : Place) (f : Fault) → IsHeaded item → p.at ≤ length p.bits
    → IsWholeFault stop header item p f → read_whole stop header head_of item item_of p ≡ Err f
whole_fault_is_read head_of item_of stop header item p f headed within (inl t) =
    both_at stop header head_of item item_of p ∙ rw (fault_is_given header p f within t) refl
whole_fault_is_read head_of item_of stop header item p f headed within (inr t) =
    let first = spelled_is_read header t.rows p t.middle within t.whole t.first in
    let more = list_fault_is_read item_of stop item t.middle f headed (next_within t.rows p t.middle within t.first) t.is_fault in
    both_at stop header head_of item item_of p ∙ rw (first, more) refl

-- a step that only builds cannot fail
abbrev with_head : {H X : Type 0}
    → H → Result (List X × Place) Fault → Result ((H × List X) × Place) Fault
with_head h read = read >>= λ more. Ok ((h, more.0), more.1)

not_after : {H X : Type 0} (read : Result (List X × Place) Fault) (h : H) (f : Fault)
    → with_head h read ≡ Err f → read ≡ Err f
not_after (Ok y) h f e = absurd cc
not_after (Err c) h f e = cc

-- A fault that is read is a fault of the whole.
pub read_is_whole_fault : {H X : Type 0} (head_of : List Row → H) (item_of : List Row → X) (stop : Stop)
    (header item : Fields) (p : Place) (f : Fault) → p.at ≤ length p.bits
    → read_whole stop header head_of item item_of p ≡ Err f → IsWholeFault stop header item p f
read_is_whole_fault head_of item_of stop header item p f within e =
    elim (bind_err (read_rows header p) (λ first. then_items stop head_of item item_of first) f (sym (both_at stop header head_of item item_of p) ∙ e)) [
      | inl t ↦ inl (read_is_fault header p f within t)
      | inr a ↦
          let first = read_is_spelled header p a.0 within a.1 in
          let fails = not_after (read_list stop item item_of a.0.1) (head_of a.0.0) f a.2 in
          inr (record {
            rows = a.0.0;
            middle = a.0.1;
            whole = first.whole;
            first = first.spelled;
            is_fault = read_is_list_fault item_of stop item a.0.1 f (next_within a.0.0 p a.0.1 within first.spelled) fails;
          })
    ]

-- ---- a fault stays in each input of the same length with the same front

-- a list's fault ends past the list's beginning
list_past : (stop : Stop) (item : Fields) (p : Place) (f : Fault) → IsHeaded item
    → p.at ≤ length p.bits → IsListFault stop item p f → p.at ≤ f.end
list_past stop item p f headed within t =
    let inside = follow_within stop item t.whole p t.reached within t.follow in
    omega (arith, follow_forward stop item t.whole p t.reached t.follow, (fault_past item t.reached f headed inside t.is_fault).0)

whole_fault_stays : (stop : Stop) (header item : Fields) (p : Place) (f : Fault) (bits : List Bool)
    → IsHeaded item → p.at ≤ length p.bits → length bits ≡ length p.bits
    → take f.end bits ≡ take f.end p.bits
    → IsWholeFault stop header item p f → IsWholeFault stop header item (place_in bits p.at) f
whole_fault_stays stop header item p f bits headed within len same (inl t) =
    inl (fault_stays header p f bits within len same t)
whole_fault_stays stop header item p f bits headed within len same (inr t) =
    let inside = next_within t.rows p t.middle within t.first in
    let back = sym t.first.stands.same in
    let past = list_past stop item t.middle f headed inside t.is_fault in
    inr (record {
      rows = t.rows;
      middle = place_in bits t.middle.at;
      whole = t.whole;
      first = record { allowed = t.first.allowed; stands = stands_moved (join t.rows) p t.middle bits f.end t.first.stands past same };
      is_fault = list_fault_stays stop item t.middle f bits headed inside (len ∙ ap length back) (same ∙ ap (take f.end) back) t.is_fault;
    })

-- A place with a whole's fault has no whole.
pub none_whole : {H X : Type 0} {header item : Fields} {head : H → List Row} {head_of : List Row → H}
    {rows : X → List Row} {item_of : List Row → X} → IsLayout header head head_of → IsLayout item rows item_of
    → (stop : Stop) (p : Place) (f : Fault) → IsHeaded item → p.at ≤ length p.bits
    → IsWholeFault stop header item p f → NoHeadAndListStands stop head rows p f
none_whole {header = header} {item = item} {head_of = head_of} {item_of = item_of} head_laid laid stop p f headed within t =
    λ bits len same h xs to w.
    let there = place_in bits p.at in
    let inside : there.at ≤ length there.bits = omega (arith, within, len) in
    let reads = whole_is_read head_laid laid stop h xs there to headed inside w in
    let fails = whole_fault_is_read head_of item_of stop header item there f headed inside (whole_fault_stays stop header item p f bits headed within len same t) in
    cc

-- ---- what a reader may report

pub head_fault : (e : DecodeError) (stop : Stop) (header item : Fields) (p : Place)
    → OfFault e (λ f. IsFault header p f) → OfFault e (λ f. IsWholeFault stop header item p f)
head_fault errors.Memory stop header item p t = tt
head_fault (errors.Fault f) stop header item p t = inl t

pub later_fault : (e : DecodeError) (stop : Stop) (header item : Fields) (rows : List Row) (p m : Place)
    → AreRowsOf header rows → IsSpelled rows p m → OfFault e (λ f. IsListFault stop item m f)
    → OfFault e (λ f. IsWholeFault stop header item p f)
later_fault errors.Memory stop header item rows p m whole spelled t = tt
later_fault (errors.Fault f) stop header item rows p m whole spelled t =
    inr (record { rows = rows; middle = m; whole = whole; first = spelled; is_fault = t })

pub whole_fails : {H X : Type 0} (head_of : List Row → H) (item_of : List Row → X) (e : DecodeError)
    (stop : Stop) (header item : Fields) (p : Place) → IsHeaded item → p.at ≤ length p.bits
    → OfFault e (λ f. IsWholeFault stop header item p f)
    → Fails e (read_whole stop header head_of item item_of p)
whole_fails head_of item_of errors.Memory stop header item p headed within t = tt
whole_fails head_of item_of (errors.Fault f) stop header item p headed within t =
    whole_fault_is_read head_of item_of stop header item p f headed within t

pub none_of_whole : {H X : Type 0} {header item : Fields} {head : H → List Row} {head_of : List Row → H}
    {rows : X → List Row} {item_of : List Row → X} → IsLayout header head head_of → IsLayout item rows item_of
    → (e : DecodeError) (stop : Stop) (p : Place) → IsHeaded item → p.at ≤ length p.bits
    → OfFault e (λ f. IsWholeFault stop header item p f) → OfFault e (λ f. NoHeadAndListStands stop head rows p f)
none_of_whole head_laid laid errors.Memory stop p headed within t = tt
none_of_whole head_laid laid (errors.Fault f) stop p headed within t = none_whole head_laid laid stop p f headed within t

-- What reading gives at the beginning of bits is what they mean.
pub means_whole : {H X : Type 0} (stop : Stop) (head : Fields) (head_of : List Row → H) (item : Fields)
    (item_of : List Row → X) (bits : List Bool) (w : H × List X) (q : Place)
    → read_whole stop head head_of item item_of (start bits) ≡ Ok (w, q)
    → read_first_whole stop head head_of item item_of bits ≡ Ok w
means_whole stop head head_of item item_of bits w q gives =
    of_bits stop head head_of item item_of bits ∙ rw gives refl

-- what bits mean is read at their beginning
means_read : {H X : Type 0} (stop : Stop) (head : Fields) (head_of : List Row → H) (item : Fields)
    (item_of : List Row → X) (bits : List Bool) (w : H × List X)
    → read_first_whole stop head head_of item item_of bits ≡ Ok w
    → (q : Place) × (read_whole stop head head_of item item_of (start bits) ≡ Ok (w, q))
means_read {H = H} {X = X} stop head head_of item item_of bits w means =
    let b = bind_ok (read_whole stop head head_of item item_of (start bits)) (λ read. Ok read.0) w
    (sym (of_bits stop head head_of item item_of bits) ∙ means) in
    (b.0.1, b.1 ∙ ap (λ (v : H × List X). Ok (v, b.0.1)) (ok_is b.0.0 w b.2))

-- bits mean the head and the list that they begin with
pub begins_means : {H X : Type 0} {header item : Fields} {head : H → List Row} {head_of : List Row → H}
    {rows : X → List Row} {item_of : List Row → X} → IsLayout header head head_of → IsLayout item rows item_of
    → (stop : Stop) (h : H) (xs : List X) (bits : List Bool) → IsHeaded item
    → BeginsWith stop head rows h xs bits → read_first_whole stop header head_of item item_of bits ≡ Ok (h, xs)
begins_means {header = header} {item = item} {head_of = head_of} {item_of = item_of} head_laid laid stop h xs bits headed begins =
    means_whole stop header head_of item item_of bits (h, xs) begins.end
    (whole_is_read head_laid laid stop h xs (start bits) begins.end headed (omega arith) begins.whole)

-- bits begin with the head and the list that they mean
pub means_begins : {H X : Type 0} {header item : Fields} {head : H → List Row} {head_of : List Row → H}
    {rows : X → List Row} {item_of : List Row → X} → IsLayout header head head_of → IsLayout item rows item_of
    → (stop : Stop) (h : H) (xs : List X) (bits : List Bool) → IsHeaded item
    → read_first_whole stop header head_of item item_of bits ≡ Ok (h, xs) → BeginsWith stop head rows h xs bits
means_begins {header = header} {item = item} {head_of = head_of} {item_of = item_of} head_laid laid stop h xs bits headed means =
    let read = means_read stop header head_of item item_of bits (h, xs) means in
    record {
      end = read.0;
      whole = read_is_whole head_laid laid stop h xs (start bits) read.0 headed (omega arith) read.1;
    }

-- bits mean the fault that is read at their beginning
pub fault_means : {H X : Type 0} (stop : Stop) (head : Fields) (head_of : List Row → H) (item : Fields)
    (item_of : List Row → X) (bits : List Bool) (f : Fault)
    → read_whole stop head head_of item item_of (start bits) ≡ Err f
    → read_first_whole stop head head_of item item_of bits ≡ Err f
fault_means stop head head_of item item_of bits f fails =
    of_bits stop head head_of item item_of bits ∙ rw fails refl

without_place : {W : Type 0} (read : Result (W × Place) Fault) (f : Fault)
    → (read >>= λ r. Ok r.0) ≡ Err f → read ≡ Err f
without_place (Ok y) f e = absurd cc
without_place (Err c) f e = cc

pub means_fault : {H X : Type 0} (stop : Stop) (head : Fields) (head_of : List Row → H) (item : Fields)
    (item_of : List Row → X) (bits : List Bool) (f : Fault)
    → read_first_whole stop head head_of item item_of bits ≡ Err f
    → read_whole stop head head_of item item_of (start bits) ≡ Err f
means_fault stop head head_of item item_of bits f means =
    without_place (read_whole stop head head_of item item_of (start bits)) f
    (sym (of_bits stop head head_of item item_of bits) ∙ means)

pub gives_means : {H X Y : Type 0} (view : Y → H × List X) (result : Result Y DecodeError) (stop : Stop)
    (head : Fields) (head_of : List Row → H) (item : Fields) (item_of : List Row → X)
    (bits : List Bool) (q : Place)
    → Gives view result (read_whole stop head head_of item item_of (start bits)) q
    → Means view result (read_first_whole stop head head_of item item_of bits)
gives_means view (Ok y) stop head head_of item item_of bits q gives =
    means_whole stop head head_of item item_of bits (view y) q gives
gives_means view (Err errors.Memory) stop head head_of item item_of bits q gives = tt
gives_means view (Err (errors.Fault f)) stop head head_of item item_of bits q gives =
    of_bits stop head head_of item item_of bits ∙ rw gives refl

-- ---- the fault of a head is always reported

-- Where a head without a list has a fault, reading the head reports that fault.
pub head_fault_is_reported : (e : DecodeError) (grows : Type 0) (header : Fields) (p : Place) (f : Fault)
    → p.at ≤ length p.bits → OfFault e (λ g. IsFault header p g) → OfMemory e grows → (grows → ⊥)
    → IsFault header p f → e ≡ errors.Fault f
head_fault_is_reported errors.Memory grows header p f within is_fault memory none fault = absurd (none memory)
head_fault_is_reported (errors.Fault g) grows header p f within is_fault memory none fault =
    ap errors.Fault (same_fault header p g f within is_fault fault)

-- A head that stands has no fault.
pub head_stands : {H : Type 0} (header : Fields) (head : H → List Row) (h : H) (p q : Place)
    (f : Fault) → p.at ≤ length p.bits → ((k : H) → AreRowsOf header (head k))
    → IsSpelled (head h) p q → IsFault header p f → ⊥
head_stands header head h p q f within are_rows spelled fault =
    none_stands header p f p.bits (head h) q within refl refl fault (are_rows h) spelled

-- a head that stands, where a record is due: a telegram with too few bits for it has no end
pub followed : {H : Type 0} (head : H → List Row) (h : H) (e : DecodeError) (stop : Stop) (p q : Place)
    → IsSpelled (head h) p q
    → (stop ≡ stops.Telegram → length q.bits < q.at + 8 → e ≡ errors.Fault (lack true q))
    → OfMemory e (ends stop q ≡ false) → OfMemory e (IsFollowed stop head p)
followed head h (errors.Fault f) stop p q spelled no_end goes = tt
followed head h errors.Memory stop p q spelled no_end goes = record {
  h = h;
  middle = q;
  first = spelled;
  goes_on = goes;
  room = has_room stop q (λ telegram few. let error = no_end telegram few in cc) goes;
}
