use Rattle.std.proofs.Common.{◌≡◌, ◌++◌, codes, rules}
use Rattle.etcs_table_check.specs.RefusalText.{column_words, fault_words}
use Rattle.etcs_table_check.proofs.refusal.fault_text.Goals as goal

-- the words of a row's fault
pub returns-in-NotHexadecimal : goal.returns-in-NotHexadecimal
unfolding fault_words
returns-in-NotHexadecimal c = rw c.in-NotHexadecimal.is c.row_text-in-NotHexadecimal.ensures

pub returns-in-NotANumber : goal.returns-in-NotANumber
unfolding fault_words
returns-in-NotANumber c = rw c.in-NotANumber.is c.row_text-in-NotANumber.ensures

pub returns-in-Unnamed : goal.returns-in-Unnamed
unfolding fault_words
returns-in-Unnamed c = rw c.in-Unnamed.is c.row_text-in-Unnamed.ensures

pub returns-in-Unnumbered : goal.returns-in-Unnumbered
unfolding fault_words
returns-in-Unnumbered c = rw c.in-Unnumbered.is c.row_text-in-Unnumbered.ensures

pub returns-in-Ninth : goal.returns-in-Ninth
unfolding fault_words
returns-in-Ninth c = rw c.in-Ninth.is c.row_text-in-Ninth.ensures

pub returns-in-Uneven : goal.returns-in-Uneven
unfolding fault_words
returns-in-Uneven c = rw c.in-Uneven.is c.row_text-in-Uneven.ensures

-- with the name of a column
pub returns-in_ok-words-in-BlankEdge : goal.returns-in_ok-words-in-BlankEdge
unfolding fault_words
returns-in_ok-words-in-BlankEdge c =
    let words : c.as_str-in-BlankEdge.result.now ≡ codes "a blank at an end of the " ++ column_words c.in-BlankEdge.column = search rules in
    rw c.in-BlankEdge.is (rw words at c.row_text-in-BlankEdge.ensures)
