-- Bytes without a finding are a line for which everything that a yes states is true.
use Rattle.std.proofs.Common.{◌≡◌, ℕ, Bool, List, [], Option, Result, Ok, Err, refl, sym, subst}
use Rattle.std.specs.Prelude.{IsOkAnd}
use Rattle.etcs_check.proofs.AspectLemmas.{aspect_long, sound_mixtures_are_decided}
use Rattle.etcs_check.proofs.LineLemmas.{no_finding_means_sound_line}
use Rattle.etcs_check.proofs.NamedLemmas.{unnamed_means_sound}
use Rattle.etcs_check.proofs.SoundLemmas.{sound_groups_are_decided}
use Rattle.etcs_check.specs.Laws.{AreControlled, NamesTheUnsound}
use Rattle.etcs_check.specs.Line.{findings}
use Rattle.etcs_check.specs.declared.finding.Finding.{Finding}
use Rattle.etcs_check.specs.Soundness.{IsSoundControlled, IsSoundGroup, IsSoundLine}
use Rattle.etcs_document.proofs.SoundLemmas.{line_controlled, no_finding_sound}
use Rattle.etcs_document.proofs.VerdictLemmas.{says_yes}
use Rattle.etcs_document.specs.Document.{◌then◌, line_of_text}
use Rattle.etcs_document.specs.DocumentFault.{DocumentFault}
use Rattle.etcs_document.specs.Laws.{NoFindingSaysYes}
use Rattle.etcs_document.specs.Verdict.{NamesUnsoundParts, SaysYes, Summary, judged, summary, summary_of_text}
use Rattle.etcs_group.specs.Laws.{IsDecided, IsMixtureDecided}
use Rattle.etcs_group.specs.Missed.{IsSetOf}
use Rattle.etcs_group.specs.Mixture.{Fits}
use Rattle.etcs_group.specs.Places.{At}
use Rattle.etcs_group.specs.Reading.{group_reading}
use Rattle.etcs_profile.specs.declared.run.Run.{Run}
use Rattle.etcs_radio.specs.declared.message.Message.{Message}
use Rattle.etcs_telegram.specs.Record.{Telegram}

-- the groups of a document are controlled, so the laws of sound groups apply to them
module _ (bytes : List ℕ) (groups : List (List (List Telegram))) (ms : List Message) (is : line_of_text bytes ≡ Ok (groups, ms)) where
  controlled : AreControlled groups
  controlled = line_controlled bytes groups ms is

  pub aspects_decided : (g a : ℕ) (aspects : List (List Telegram)) (group : List Telegram) (run : Run) (missed : ℕ → Bool) → At groups g aspects → At aspects a group
      → IsSoundGroup group → IsSetOf group missed → IsDecided run group missed (group_reading run missed group)
  aspects_decided g a aspects group run missed here within sound set =
      sound_groups_are_decided group run missed sound (aspect_long aspects (controlled g aspects here) a group within) set

  pub mixtures_decided : (g : ℕ) (aspects : List (List Telegram)) (run : Run) (shown : ℕ → Option ℕ) → At groups g aspects → IsSoundControlled aspects
      → Fits aspects shown → IsMixtureDecided run aspects shown
  mixtures_decided g aspects run shown here sound fits = sound_mixtures_are_decided run aspects shown (controlled g aspects here) sound fits

  -- what a yes states is true for a sound line
  pub sound_says_yes : IsSoundLine groups ms → SaysYes bytes groups ms
  sound_says_yes sound =
      says_yes bytes groups ms is sound
      (λ g a aspects group run missed here within set. aspects_decided g a aspects group run missed here within ((sound.sound g aspects here).sound a group within) set)
      (λ g aspects run shown here fits. mixtures_decided g aspects run shown here (sound.sound g aspects here) fits)

yes_or : (bytes : List ℕ) (r : Result (List (List (List Telegram)) × List Message) DocumentFault) → line_of_text bytes ≡ r
    → IsOkAnd r (λ line. IsSoundLine line.0 line.1) → IsOkAnd r (λ line. SaysYes bytes line.0 line.1)
yes_or bytes (Ok line) is sound = sound_says_yes bytes line.0 line.1 is sound
yes_or bytes (Err f) is sound = sound

pub no_finding_says_yes : NoFindingSaysYes
no_finding_says_yes bytes none = yes_or bytes (line_of_text bytes) refl ((no_finding_sound no_finding_means_sound_line bytes).0 none)

pub counted_none : (r : Result Summary DocumentFault) (c : Summary) → r ≡ Ok c → c.1 ≡ [] → IsOkAnd r (λ checked. checked.1 ≡ [])
counted_none r c is none = subst (λ q. IsOkAnd q (λ checked. checked.1 ≡ [])) (sym is) none

-- the findings about the line of the bytes
counted_in : (bytes : List ℕ) (c : Summary) (r : Result (List (List (List Telegram)) × List Message) DocumentFault) → line_of_text bytes ≡ r
    → ((r then λ line. Ok (judged line)) then λ v. Ok (summary v)) ≡ Ok c → IsOkAnd r (λ line. NamesTheUnsound line.0 line.1 c.1)
counted_in bytes c (Ok line) is found =
    let same : findings line.0 line.1 ≡ c.1 = cc in
    subst (NamesTheUnsound line.0 line.1) same (unnamed_means_sound line.0 line.1 (controlled bytes line.0 line.1 is))
counted_in bytes c (Err f) is found = absurd cc

-- the findings of the bytes name what is not sound
pub counted_unnamed : (bytes : List ℕ) (c : Summary) → summary_of_text bytes ≡ Ok c → NamesUnsoundParts bytes c.1
counted_unnamed bytes c found = counted_in bytes c (line_of_text bytes) refl found

-- the findings of bytes that were read as a line name what is not sound in it
pub judged_unnamed : (bytes : List ℕ) (groups : List (List (List Telegram))) (ms : List Message) (found : List Finding) → line_of_text bytes ≡ Ok (groups, ms) → NamesTheUnsound groups ms found → NamesUnsoundParts bytes found
judged_unnamed bytes groups ms found is names = subst (λ r. IsOkAnd r (λ line. NamesTheUnsound line.0 line.1 found)) (sym is) names
