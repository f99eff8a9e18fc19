-- Lists of rows that follow one another: how far they reach, and in which inputs they stand.
use Rattle.std.proofs.Common.{◌≡◌, ℕ, ◌+◌, ◌≤◌, Bool, false, List, [], ◌∷◌, ◌++◌, length, take, refl, sym, ap, subst, ◌∙◌, arith, inl, inr, ◌⊎◌}
use Rattle.std.specs.Prelude.{IsOk}
use Rattle.etcs_bits.specs.declared.layout.fault.Fault.{Fault}
use Rattle.etcs_bits.specs.layout.Rows.{Row, Place, IsSpelled, join}
use Rattle.etcs_bits.specs.layout.Fields.{Fields, AreRowsOf}
use Rattle.etcs_bits.specs.layout.Reading.{read_rows}
use Rattle.etcs_bits.proofs.ReadingLemmas.{spelled_is_read}
use Rattle.etcs_bits.proofs.StandLemmas.{place_in, length-join, stands_moved}
use Rattle.etcs_bits.proofs.FaultLemmas.{fault_stays}
use Rattle.etcs_packet.specs.declared.stop.Stop.{Stop}
use Rattle.etcs_packet.specs.Lists.{IsHeaded, ends, Follow, IsListFault}
use Rattle.etcs_packet.proofs.EndLemmas.{settled, fault_past, headed_wide, next_within}

pub follow_forward : (stop : Stop) (fields : Fields) (xs : List (List Row)) (p q : Place)
    → Follow stop fields xs p q → p.at ≤ q.at
follow_forward stop fields [] p q there = omega (arith, ap (λ (z : Place). z.at) there)
follow_forward stop fields (rows ∷ xs) p q (goes, (m, w, spelled, rest)) =
    omega (arith, spelled.stands.past, follow_forward stop fields xs m q rest)

pub follow_bits : (stop : Stop) (fields : Fields) (xs : List (List Row)) (p q : Place)
    → Follow stop fields xs p q → q.bits ≡ p.bits
follow_bits stop fields [] p q there = ap (λ (z : Place). z.bits) there
follow_bits stop fields (rows ∷ xs) p q (goes, (m, w, spelled, rest)) =
    follow_bits stop fields xs m q rest ∙ spelled.stands.same

pub follow_within : (stop : Stop) (fields : Fields) (xs : List (List Row)) (p q : Place)
    → p.at ≤ length p.bits → Follow stop fields xs p q → q.at ≤ length q.bits
follow_within stop fields [] p q within there =
    subst (λ (z : Place). z.at ≤ length z.bits) (sym there) within
follow_within stop fields (rows ∷ xs) p q within (goes, (m, w, spelled, rest)) =
    follow_within stop fields xs m q (next_within rows p m within spelled) rest

-- a list that goes on after these rows does not end before them
pub follow_begins : (stop : Stop) (fields : Fields) (xs : List (List Row)) (p q : Place)
    → Follow stop fields xs p q → ends stop q ≡ false → ends stop p ≡ false
follow_begins stop fields [] p q there goes = subst (λ (z : Place). ends stop z ≡ false) there goes
follow_begins stop fields (rows ∷ xs) p q (first, rest) goes = first

-- Where the record after these rows grows, the first one does, or it was read.
pub follow_grows : (Grows : Place → Type 0) (stop : Stop) (fields : Fields) (xs : List (List Row)) (p q : Place)
    → p.at ≤ length p.bits → Follow stop fields xs p q → Grows q → Grows p ⊎ IsOk (read_rows fields p)
follow_grows Grows stop fields [] p q within there grows = inl (subst Grows there grows)
follow_grows Grows stop fields (rows ∷ xs) p q within (goes, (m, w, spelled, rest)) grows =
    inr (rw (spelled_is_read fields rows p m within w spelled) refl)

-- where a record stands after these rows, the first one was read
pub follow_read : (stop : Stop) (fields : Fields) (xs : List (List Row)) (last : List Row) (p q r : Place)
    → p.at ≤ length p.bits → Follow stop fields xs p q → AreRowsOf fields last → IsSpelled last q r
    → IsOk (read_rows fields p)
follow_read stop fields [] last p q r within there w spelled =
    rw (spelled_is_read fields last p r within w (subst (λ (z : Place). IsSpelled last z r) there spelled)) refl
follow_read stop fields (rows ∷ xs) last p q r within (goes, (m, v, here, rest)) w spelled =
    rw (spelled_is_read fields rows p m within v here) refl

-- one more list of rows at the end
pub follow_more : (stop : Stop) (fields : Fields) (xs : List (List Row)) (rows : List Row)
    (p q r : Place) → Follow stop fields xs p q → ends stop q ≡ false
    → AreRowsOf fields rows → IsSpelled rows q r → Follow stop fields (xs ++ rows ∷ []) p r
follow_more stop fields [] rows p q r there goes w s = (
  subst (λ (z : Place). ends stop z ≡ false) there goes,
  (r, w, subst (λ (z : Place). IsSpelled rows z r) there s, refl),
)
follow_more stop fields (x ∷ xs) rows p q r (first, (m, v, spelled, rest)) goes w s =
    (first, (m, v, spelled, follow_more stop fields xs rows m q r rest goes w s))

-- ---- in another input with the same front

follow_moved : (stop : Stop) (fields : Fields) (xs : List (List Row)) (p q : Place) (bits : List Bool)
    (n : ℕ) → IsHeaded fields → length bits ≡ length p.bits → take n bits ≡ take n p.bits → q.at ≤ n
    → Follow stop fields xs p q → Follow stop fields xs (place_in bits p.at) (place_in bits q.at)
follow_moved stop fields [] p q bits n head len same le there =
    ap (λ (z : Place). place_in bits z.at) there
follow_moved stop fields (rows ∷ xs) p q bits n head len same le (goes, (m, w, spelled, rest)) =
    let forward = follow_forward stop fields xs m q rest in
    let past : p.at + 8 ≤ n =
    omega (arith, headed_wide fields rows head w, length-join rows, spelled.stands.past, forward, le) in
    let back = sym spelled.stands.same in (
      settled stop p bits n len same (inl past) ∙ goes,
      (
        place_in bits m.at,
        w,
        record {
          allowed = spelled.allowed;
          stands = stands_moved (join rows) p m bits n spelled.stands (omega (arith, forward, le)) same;
        },
        follow_moved stop fields xs m q bits n head (len ∙ ap length back) (same ∙ ap (take n) back) le rest,
      ),
    )

-- A list's fault stays in each input of the same length with the same first `end` bits.
pub list_fault_stays : (stop : Stop) (fields : Fields) (p : Place) (f : Fault) (bits : List Bool)
    → IsHeaded fields → p.at ≤ length p.bits → length bits ≡ length p.bits
    → take f.end bits ≡ take f.end p.bits
    → IsListFault stop fields p f → IsListFault stop fields (place_in bits p.at) f
list_fault_stays stop fields p f bits head within len same t =
    let back = sym (follow_bits stop fields t.whole p t.reached t.follow) in
    let inside = follow_within stop fields t.whole p t.reached within t.follow in
    let past = fault_past fields t.reached f head inside t.is_fault in
    let lengths : length bits ≡ length t.reached.bits = len ∙ ap length back in
    let front : take f.end bits ≡ take f.end t.reached.bits = same ∙ ap (take f.end) back in
    record {
      whole = t.whole;
      reached = place_in bits t.reached.at;
      follow = follow_moved stop fields t.whole p t.reached bits f.end head len same past.0 t.follow;
      goes_on = settled stop t.reached bits f.end lengths front past.1 ∙ t.goes_on;
      is_fault = fault_stays fields t.reached f bits inside lengths front t.is_fault;
    }
