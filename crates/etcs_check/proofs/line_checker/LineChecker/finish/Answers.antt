use Rattle.etcs_check.proofs.CheckerLemmas.{held_findings}
use Rattle.etcs_check.proofs.SayingLemmas.{found_violates, found_list, found_sound, found_unnamed}
use Rattle.etcs_check.proofs.line_checker.LineChecker.finish.Goals as goal

-- The list has the findings of the line that was taken.
pub returns-clause-ok : goal.returns-clause-ok
returns-clause-ok c = λ gs ms was. held_findings _ _ _ gs ms c.self.view_is c.in_ok-append.ensures.ok was

-- It is empty if and only if the line is sound.
pub returns-clause-sound : goal.returns-clause-sound
returns-clause-sound c = λ gs ms was.
    found_sound gs ms _ (held_findings _ _ _ gs ms c.self.view_is c.in_ok-append.ensures.ok was) was.controlled

-- Each finding names its group or its message.
pub returns-clause-unnamed : goal.returns-clause-unnamed
returns-clause-unnamed c = λ gs ms was.
    found_unnamed gs ms _ (held_findings _ _ _ gs ms c.self.view_is c.in_ok-append.ensures.ok was) was.controlled

-- Each fact has its finding, in order.
pub returns-clause-list : goal.returns-clause-list
returns-clause-list c = λ gs ms was. found_list gs ms _ (held_findings _ _ _ gs ms c.self.view_is c.in_ok-append.ensures.ok was)

-- Each finding is a violation.
pub returns-clause-violates : goal.returns-clause-violates
returns-clause-violates c = λ gs ms was.
    found_violates gs ms _ (held_findings _ _ _ gs ms c.self.view_is c.in_ok-append.ensures.ok was) was.controlled
