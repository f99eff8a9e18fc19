-- What packets 12 and 15 have in common: how far a train may run, and under which conditions
-- (SUBSET-026, 3.8 and 7.4.2).
use Rattle.std.specs.Prelude.{ℕ, List, Option, refl}
use Rattle.etcs_bits.specs.layout.Format.{Format, number, ranges, ◌then◌, if_there, several, struct}
use Rattle.etcs_bits.specs.layout.Struct.{Struct, two_ways}
use Rattle.etcs_profile.specs.declared.section.Section.{Section}
use Rattle.etcs_profile.specs.declared.section.SectionTimer.{SectionTimer}
use Rattle.etcs_profile.specs.declared.end_timer.EndTimer.{EndTimer}
use Rattle.etcs_profile.specs.declared.danger_point.DangerPoint.{DangerPoint}
use Rattle.etcs_profile.specs.declared.overlap.Overlap.{Overlap}
use Rattle.etcs_profile.specs.Parts.{section_timer, section, end_timer, danger_point, overlap}

-- V_LOA, 7 bits: the speed at the end, in steps of 5 km/h, 0 to 120
abbrev pub v_loa : Format ℕ
v_loa = ranges 7 120 128

-- T_LOA, 10 bits: how long that speed is allowed, in seconds; 1023 means no time-out
abbrev pub t_loa : Format ℕ
t_loa = number 10

-- L_ENDSECTION, 15 bits: the length of the end section
abbrev pub l_endsection : Format ℕ
l_endsection = number 15

-- the speed at the end, how long it is allowed, the sections, the end section and its two timers,
-- the danger point and the overlap
pub record TermsValue : Type 0 where
  pub end_speed : ℕ
  pub end_timeout : ℕ
  pub sections : List Section
  pub l_endsection : ℕ
  pub section_timer : Option SectionTimer
  pub end_timer : Option EndTimer
  pub danger_point : Option DangerPoint
  pub overlap : Option Overlap

-- conditions made of these parts
abbrev pub terms_value : ℕ → ℕ → List Section → ℕ → Option SectionTimer → Option EndTimer
    → Option DangerPoint → Option Overlap → TermsValue
terms_value end_speed end_timeout sections l_endsection section_timer end_timer danger_point overlap =
    record {
      end_speed = end_speed;
      end_timeout = end_timeout;
      sections = sections;
      l_endsection = l_endsection;
      section_timer = section_timer;
      end_timer = end_timer;
      danger_point = danger_point;
      overlap = overlap;
    }

-- conditions, and their fields in order
abbrev pub conditions_struct : Struct (ℕ × (ℕ × (List Section × (ℕ × (Option SectionTimer
    × (Option EndTimer × (Option DangerPoint × Option Overlap))))))) TermsValue
conditions_struct =
    two_ways
    (λ p. terms_value p.0 p.1.0 p.1.1.0 p.1.1.1.0
    p.1.1.1.1.0 p.1.1.1.1.1.0 p.1.1.1.1.1.1.0 p.1.1.1.1.1.1.1)
    (λ c. (
      c.end_speed,
      (
        c.end_timeout,
        (c.sections, (c.l_endsection, (c.section_timer, (c.end_timer, (c.danger_point, c.overlap))))),
      ),
    ))
    (λ _. refl) (λ _. refl)

-- The conditions. N_ITER counts the sections before the end section. Four qualifiers of one bit say
-- what follows of the last four parts: Q_SECTIONTIMER, Q_ENDTIMER, Q_DANGERPOINT and Q_OVERLAP.
abbrev pub terms : Format TermsValue
terms =
    struct conditions_struct
    (v_loa
    then t_loa
    then several section
    then l_endsection
    then if_there section_timer
    then if_there end_timer
    then if_there danger_point
    then if_there overlap)
