-- The parts of a movement authority, packets 12 and 15 (SUBSET-026, 3.8 and 7.4.2): sections and
-- timers, danger point and overlap.
use Rattle.std.specs.Prelude.{ℕ, Option, refl}
use Rattle.etcs_bits.specs.layout.Format.{Format, number, ranges, ◌then◌, if_there, struct}
use Rattle.etcs_bits.specs.layout.Struct.{Struct, two_ways}
use Rattle.etcs_profile.specs.declared.section.Section.{Section}
use Rattle.etcs_profile.specs.declared.section.SectionTimer.{SectionTimer}
use Rattle.etcs_profile.specs.declared.end_timer.EndTimer.{EndTimer}
use Rattle.etcs_profile.specs.declared.danger_point.DangerPoint.{DangerPoint}
use Rattle.etcs_profile.specs.declared.overlap.Overlap.{Overlap}

-- L_SECTION, 15 bits: the length of a section
abbrev pub l_section : Format ℕ
l_section = number 15

-- T_SECTIONTIMER, 10 bits: in seconds; 1023 means no time-out
abbrev pub t_sectiontimer : Format ℕ
t_sectiontimer = number 10

-- D_SECTIONTIMERSTOPLOC, 15 bits: from the beginning of the section to where the timer stops
abbrev pub d_sectiontimerstoploc : Format ℕ
d_sectiontimerstoploc = number 15

-- a section's timer, and its fields in order
abbrev pub section_timer_struct : Struct (ℕ × ℕ) SectionTimer
section_timer_struct =
    two_ways
    (λ p. record { time = p.0; stop = p.1 }) (λ t. (t.time, t.stop)) (λ _. refl) (λ _. refl)

-- a section's timer
abbrev pub section_timer : Format SectionTimer
section_timer = struct section_timer_struct (t_sectiontimer then d_sectiontimerstoploc)

-- a section, and its fields in order
abbrev pub section_struct : Struct (ℕ × Option SectionTimer) Section
section_struct =
    two_ways
    (λ p. record { length = p.0; timer = p.1 }) (λ s. (s.length, s.timer)) (λ _. refl) (λ _. refl)

-- a section; Q_SECTIONTIMER says whether its timer follows
abbrev pub section : Format Section
section = struct section_struct (l_section then if_there section_timer)

-- T_ENDTIMER, 10 bits: in seconds; 1023 means no time-out
abbrev pub t_endtimer : Format ℕ
t_endtimer = number 10

-- D_ENDTIMERSTARTLOC, 15 bits: from where the timer starts to the end
abbrev pub d_endtimerstartloc : Format ℕ
d_endtimerstartloc = number 15

-- the timer of the end section, and its fields in order
abbrev pub end_timer_struct : Struct (ℕ × ℕ) EndTimer
end_timer_struct =
    two_ways
    (λ p. record { time = p.0; start = p.1 }) (λ t. (t.time, t.start)) (λ _. refl) (λ _. refl)

-- the timer of the end section
abbrev pub end_timer : Format EndTimer
end_timer = struct end_timer_struct (t_endtimer then d_endtimerstartloc)

-- D_DP, 15 bits: from the end to the danger point
abbrev pub d_dp : Format ℕ
d_dp = number 15

-- V_RELEASEDP, 7 bits: a release speed, 0 to 120 in steps of 5 km/h; 126 is calculated on board; 127
-- is the national value
abbrev pub v_releasedp : Format ℕ
v_releasedp = ranges 7 120 126

-- a danger point, and its fields in order
abbrev pub danger_point_struct : Struct (ℕ × ℕ) DangerPoint
danger_point_struct =
    two_ways
    (λ p. record { distance = p.0; release_speed = p.1 })
    (λ d. (d.distance, d.release_speed)) (λ _. refl) (λ _. refl)

-- a danger point
abbrev pub danger_point : Format DangerPoint
danger_point = struct danger_point_struct (d_dp then v_releasedp)

-- D_STARTOL, 15 bits: from where the overlap's timer starts to the end
abbrev pub d_startol : Format ℕ
d_startol = number 15

-- T_OL, 10 bits: in seconds; 1023 means no time-out
abbrev pub t_ol : Format ℕ
t_ol = number 10

-- D_OL, 15 bits: from the end to the end of the overlap
abbrev pub d_ol : Format ℕ
d_ol = number 15

-- V_RELEASEOL, 7 bits: a release speed, as V_RELEASEDP
abbrev pub v_releaseol : Format ℕ
v_releaseol = ranges 7 120 126

-- an overlap, and its fields in order
abbrev pub overlap_struct : Struct (ℕ × (ℕ × (ℕ × ℕ))) Overlap
overlap_struct =
    two_ways
    (λ p. record { start = p.0; time = p.1.0; length = p.1.1.0; release_speed = p.1.1.1 })
    (λ o. (o.start, (o.time, (o.length, o.release_speed)))) (λ _. refl) (λ _. refl)

-- an overlap
abbrev pub overlap : Format Overlap
overlap = struct overlap_struct (d_startol then t_ol then d_ol then v_releaseol)
