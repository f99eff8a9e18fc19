-- The laws of groups, readings, messages and mixtures.
use Rattle.std.specs.Prelude.{◌≡◌, ◌↔◌, ℕ, ◌<◌, Bool, length, Option, Some, None, IsTrue, IsFalse}
use Rattle.etcs_profile.specs.declared.run.Run.{Run}
use Rattle.etcs_group.specs.declared.refused.Refused.TheVariants as reasons
use Rattle.etcs_group.specs.Places.{At, IsLeast}
use Rattle.etcs_group.specs.Group.{IsWellFormed, HasOneCounter, Telegrams, Aspects}
use Rattle.etcs_group.specs.Missed.{IsSetOf, IsCovered, IsLost, none_missed}
use Rattle.etcs_group.specs.Reading.{group_reading}
use Rattle.etcs_group.specs.Assembly.{IsAccepted, first_refusal}
use Rattle.etcs_group.specs.Packets.{assembled, group_message, HasEqualPairs}
use Rattle.etcs_group.specs.Controlled.{IsControlled, AreOneGroup}
use Rattle.etcs_group.specs.Mixture.{Fits, Covers, mixture_reading, HasAllShown}

-- A list is accepted if and only if there is no reason to refuse it.
abbrev pub AcceptedOrRefused : Type 0
AcceptedOrRefused = (run : Run) (s : Telegrams) → IsAccepted run s ↔ (first_refusal run s ≡ None)

-- A reading s is accepted if and only if all missed places are covered. If all are missed, it is refused as
-- Nothing; if not, as Absent at the least lost place.
pub record IsDecided (run : Run) (group : Telegrams) (missed : ℕ → Bool) (s : Telegrams) : Type 0 where
  pub accepted : IsAccepted run s ↔ IsCovered group missed
  pub nothing : ((b : ℕ) → b < length group → IsTrue (missed b)) → first_refusal run s ≡ Some reasons.Nothing
  pub absent : (b : ℕ) → b < length group → IsFalse (missed b) → (IsCovered group missed → ⊥)
      → (p : ℕ) × IsLeast (IsLost group missed) p × (first_refusal run s ≡ Some (reasons.Absent p))

-- The set of missed places decides each reading of a well-formed group whose counters agree.
abbrev pub ReadingsAreDecided : Type 0
ReadingsAreDecided = (run : Run) (group : Telegrams) (missed : ℕ → Bool)
    → IsWellFormed group → HasOneCounter group → 0 < length group → IsSetOf group missed
    → IsDecided run group missed (group_reading run missed group)

-- The message of a group is the message of its reading with nothing missed. If each balise and its partner
-- have equal packets, it is the message of each covered reading too.
pub record SaysTheSame (run : Run) (group : Telegrams) : Type 0 where
  pub full : group_message run group ≡ assembled run (group_reading run none_missed group)
  pub covered : HasEqualPairs run group → (missed : ℕ → Bool) → IsCovered group missed
      → assembled run (group_reading run missed group) ≡ group_message run group

-- Each well-formed group has the message of its reading with nothing missed, and the message of each covered
-- reading if each balise and its partner have equal packets.
abbrev pub ReadingsSayTheSame : Type 0
ReadingsSayTheSame = (run : Run) (group : Telegrams) → IsWellFormed group → SaysTheSame run group

-- ---- mixtures

-- A group makes one message: it is well formed, and in each running direction each covered reading is
-- accepted and has the packets of the reading with nothing missed.
pub record MakesOneMessage (group : Telegrams) : Type 0 where
  pub formed : IsWellFormed group
  pub accepted : (run : Run) (missed : ℕ → Bool) → IsSetOf group missed → IsCovered group missed
      → IsAccepted run (group_reading run missed group)
  pub same : (run : Run) (missed : ℕ → Bool) → IsSetOf group missed → IsCovered group missed
      → assembled run (group_reading run missed group) ≡ assembled run (group_reading run none_missed group)

-- A mixture is accepted if and only if it is covered and one aspect has all that it shows. Its message is
-- then the message of this aspect with nothing missed.
pub record IsMixtureDecided (run : Run) (aspects : Aspects) (shown : ℕ → Option ℕ) : Type 0 where
  pub accepted : IsAccepted run (mixture_reading run aspects shown) ↔ (Covers aspects shown
      × ((a : ℕ) × (group : Telegrams) × At aspects a group × HasAllShown aspects shown group))
  pub packets : (a : ℕ) (group : Telegrams) → At aspects a group → HasAllShown aspects shown group
      → IsAccepted run (mixture_reading run aspects shown)
      → assembled run (mixture_reading run aspects shown)
      ≡ assembled run (group_reading run none_missed group)

-- The law about mixtures, for a controlled group whose aspects make one message each and, if there are two
-- or more, are contents of one group and distinguished by their counters.
abbrev pub MixturesAreDecided : Type 0
MixturesAreDecided = (run : Run) (aspects : Aspects) (shown : ℕ → Option ℕ)
    → IsControlled aspects
    → ((a : ℕ) (group : Telegrams) → At aspects a group → MakesOneMessage group)
    → (1 < length aspects → AreOneGroup aspects) → Fits aspects shown → IsMixtureDecided run aspects shown
