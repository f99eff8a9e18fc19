use Rattle.std.proofs.Common.{subst}
use Rattle.etcs_check.specs.Laws.{AreControlled}
use Rattle.etcs_check.proofs.AspectLemmas.{aspect_long, sound_mixtures_are_decided}
use Rattle.etcs_check.proofs.SoundLemmas.{sound_groups_are_decided}
use Rattle.etcs_check.proofs.SayingLemmas.{findings_noted, found_violates, found_list, found_sound, found_unnamed}
use Rattle.etcs_check.proofs.line.check.Goals as goal

-- The list is empty if and only if the line is sound.
pub returns-clause-sound : goal.returns-clause-sound
returns-clause-sound c = found_sound _ _ _ (findings_noted _ _ _ _ _ _ _ c.new-found.ensures.items c.in_ok-push_groups.ensures.ok c.in_ok-push_messages.ensures.ok c.deref.ensures.value c.deref-2.ensures.value) (subst AreControlled c.deref.ensures.value c.in_ok-push_groups.ensures.controlled)

-- Each finding is a violation.
pub returns-clause-violates : goal.returns-clause-violates
returns-clause-violates c = found_violates _ _ _ (findings_noted _ _ _ _ _ _ _ c.new-found.ensures.items c.in_ok-push_groups.ensures.ok c.in_ok-push_messages.ensures.ok c.deref.ensures.value c.deref-2.ensures.value) (subst AreControlled c.deref.ensures.value c.in_ok-push_groups.ensures.controlled)

-- Each fact has its finding, in order.
pub returns-clause-list : goal.returns-clause-list
returns-clause-list c = found_list _ _ _ (findings_noted _ _ _ _ _ _ _ c.new-found.ensures.items c.in_ok-push_groups.ensures.ok c.in_ok-push_messages.ensures.ok c.deref.ensures.value c.deref-2.ensures.value)

-- Each finding names its group or its message.
pub returns-clause-unnamed : goal.returns-clause-unnamed
returns-clause-unnamed c = found_unnamed _ _ _ (findings_noted _ _ _ _ _ _ _ c.new-found.ensures.items c.in_ok-push_groups.ensures.ok c.in_ok-push_messages.ensures.ok c.deref.ensures.value c.deref-2.ensures.value) (subst AreControlled c.deref.ensures.value c.in_ok-push_groups.ensures.controlled)

-- A group that is sound has balises.
pub returns-clause-decided : goal.returns-clause-decided
returns-clause-decided c = λ g a aspects group run missed at at' sound set.
    let some = subst AreControlled c.deref.ensures.value c.in_ok-push_groups.ensures.controlled in
    sound_groups_are_decided group run missed sound (aspect_long aspects (some g aspects at) a group at') set

-- The counters distinguish the aspects of a sound group.
pub returns-clause-mixtures : goal.returns-clause-mixtures
returns-clause-mixtures c = λ g aspects run shown at sound fits.
    let some = subst AreControlled c.deref.ensures.value c.in_ok-push_groups.ensures.controlled in
    sound_mixtures_are_decided run aspects shown (some g aspects at) sound fits
