-- The text of a table's refusal, as it is printed: the row, if there is one, and what is wrong. The words are this
-- project's. Lack of memory is no reason to refuse a table, and has no text.
use Rattle.std.specs.Prelude.{◌++◌, ℕ, List, codes, decimal}
use Rattle.etcs_document.specs.Refusal.{text_words}
use Rattle.etcs_rows.specs.declared.error.QuoteFault.{QuoteFault}
use Rattle.etcs_rows.specs.declared.error.QuoteFault.TheVariants as quotes
use Rattle.etcs_table.specs.declared.error.Column.{Column}
use Rattle.etcs_table.specs.declared.error.Column.TheVariants as columns
use Rattle.etcs_table.specs.declared.error.TableFault.{TableFault}
use Rattle.etcs_table.specs.declared.error.TableFault.TheVariants as faults
use Rattle.etcs_table_check.specs.declared.error.TableRefusal.{TableRefusal}
use Rattle.etcs_table_check.specs.declared.error.TableRefusal.TheVariants as refusals

abbrev pub column_words : Column → List ℕ
column_words columns.Group = codes "group"
column_words columns.Telegram = codes "telegram"
column_words columns.Aspect = codes "aspect"
column_words columns.Balise = codes "balise"

abbrev pub quote_words : QuoteFault → List ℕ
quote_words quotes.Inside = codes "a quote in a field without quotes"
quote_words quotes.Text = codes "text after the quote that ends a field"
quote_words quotes.Open = codes "a quote that is not closed"

-- a row, and what is wrong with it
abbrev pub row_reason : ℕ → List ℕ → List ℕ
row_reason row words = codes "row " ++ (decimal row ++ (codes ": " ++ words))

-- why a table stands for no groups
unfoldable pub fault_words : TableFault → List ℕ
fault_words faults.NotUtf8 = codes "not UTF-8"
fault_words faults.NoHeading = codes "no heading row"
fault_words faults.TwoDelimiters = codes "two delimiters give a heading row"
fault_words faults.Empty = codes "no telegram"
fault_words (faults.Above row) = row_reason row (codes "a telegram above the headings")
fault_words (faults.Twice row column) = row_reason row (codes "heading " ++ (column_words column ++ codes " twice"))
fault_words (faults.Lacking row column) = row_reason row (codes "no " ++ column_words column)
fault_words (faults.TooWide row) = row_reason row (codes "text to the right of the headings")
fault_words (faults.BlankEdge row column) = row_reason row (codes "a blank at an end of the " ++ column_words column)
fault_words (faults.NotHexadecimal row) = row_reason row (codes "the telegram is not hexadecimal")
fault_words (faults.NotANumber row) = row_reason row (codes "the balise is not a number of up to four digits")
fault_words (faults.Quote wrong) = row_reason wrong.row (quote_words wrong.fault)
fault_words (faults.Unnamed row) = row_reason row (codes "no aspect")
fault_words (faults.Unnumbered row) = row_reason row (codes "no balise")
fault_words (faults.Repeated row) = row_reason row (codes "balise twice")
fault_words (faults.Ninth row) = row_reason row (codes "ninth balise")
fault_words (faults.Uneven row) = row_reason row (codes "another count of balises than in the first aspect")
fault_words (faults.Moved row) = row_reason row (codes "not at one place in all aspects")

-- why a table is refused: a row whose digits are no telegram has the words that `decode` prints for these digits
unfoldable pub reason_words : TableRefusal → List ℕ
reason_words (refusals.Table fault) = fault_words fault
reason_words (refusals.Telegram row why) = row_reason row (text_words why)

-- the text of a refusal
abbrev pub refusal_words : TableRefusal → List ℕ
refusal_words why = codes "refused: " ++ (reason_words why ++ codes "\n")
