-- A group or a message is sound if and only if no finding of the line names it.
use Rattle.std.proofs.Common.{◌≡◌, ◌≢◌, ℕ, true, List, sym, subst}
use Rattle.std.proofs.lemmas.Bool.{both_ways, false_from_ne_true}
use Rattle.etcs_radio.specs.declared.message.Message.{Message}
use Rattle.etcs_telegram.specs.Record.{Telegram}
use Rattle.etcs_group.specs.Places.{At}
use Rattle.etcs_group.proofs.PlaceLemmas.{some_at}
use Rattle.etcs_check.specs.Aspects.{is_used}
use Rattle.etcs_check.specs.Facts.{site_fact}
use Rattle.etcs_check.specs.Laws.{IsUnnamed, NoFindingMeansSoundGroup, UnnamedMeansSound}
use Rattle.etcs_check.specs.Line.{findings}
use Rattle.etcs_check.specs.Soundness.{first_aspect, group_identity}
use Rattle.etcs_check.specs.declared.finding.Site.{Site}
use Rattle.etcs_check.specs.declared.finding.Site.TheVariants as sites
use Rattle.etcs_check.proofs.AspectLemmas.{first_long}
use Rattle.etcs_check.proofs.CellLemmas.{each_fact_is_listed, findings_state}
use Rattle.etcs_check.proofs.IdentityLemmas.{identity-at, unused-is, unused-says}
use Rattle.etcs_check.proofs.LineLemmas.{IsSilent, group_law, message_law, silent_sound, sound_silent}

module _ (groups : List (List (List Telegram))) (messages : List Message) (s : Site) where
  unnamed_silent : IsUnnamed (findings groups messages) s → IsSilent groups messages s
  unnamed_silent unnamed f e = false_from_ne_true _ (λ h.
      let l = each_fact_is_listed groups messages f (subst (λ s. site_fact groups messages s f ≡ true) (sym e) h) in
      unnamed l.0 f l.1 e)

  silent_unnamed : IsSilent groups messages s → IsUnnamed (findings groups messages) s
  silent_unnamed silent i f at e = both_ways _ (silent f e) (subst (λ s. site_fact groups messages s f ≡ true) e (findings_state groups messages i f at))

pub no_finding_means_sound_group : NoFindingMeansSoundGroup
no_finding_means_sound_group earlier aspects controlled =
    let new = (i : ℕ) (h : List (List Telegram)) → At earlier i h → group_identity h ≢ group_identity aspects in
    let f = some_at (first_aspect aspects) 0 (first_long aspects controlled) in (
      silent_sound new (is_used earlier aspects) aspects controlled (unused-says earlier aspects f.0.header.identity (identity-at (first_aspect aspects) f.0 f.1)),
      sound_silent new (is_used earlier aspects) aspects controlled (unused-is earlier aspects),
    )

pub unnamed_means_sound : UnnamedMeansSound
unnamed_means_sound groups messages controlled = (
  λ g aspects at.
      let law = group_law groups messages g aspects at (controlled g aspects at) in
      (λ unnamed. law.0 (unnamed_silent groups messages (sites.Group g) unnamed), λ sound. silent_unnamed groups messages (sites.Group g) (law.1 sound)),
  λ i m at.
      let law = message_law groups messages i m at in
      (λ unnamed. law.0 (unnamed_silent groups messages (sites.Message i) unnamed), λ sound. silent_unnamed groups messages (sites.Message i) (law.1 sound)),
)
