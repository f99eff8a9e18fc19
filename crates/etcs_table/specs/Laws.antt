-- Tables that are worked out, as examples of the definition. All are UTF-8, so `table_of` goes by their text alone.
use Rattle.std.specs.Prelude.{◌≡◌, ℕ, List, [], ◌∷◌, codes, Option, None, Some, Result, Ok, Err}
use Rattle.etcs_rows.specs.declared.error.QuoteFault.TheVariants.{Open}
use Rattle.etcs_table.specs.Entries.{entries_of_text}
use Rattle.etcs_table.specs.Groups.{Group}
use Rattle.etcs_table.specs.Heading.{usual_words}
use Rattle.etcs_table.specs.Table.{groups_or_fault, texts_of}
use Rattle.etcs_table.specs.Text.{without_mark}
use Rattle.etcs_table.specs.declared.error.Column.TheVariants as column
use Rattle.etcs_table.specs.declared.error.TableFault.{TableFault}
use Rattle.etcs_table.specs.declared.error.TableFault.TheVariants.{Above, BlankEdge, Empty, Lacking, Moved, Ninth, NoHeading, NotANumber, NotHexadecimal, Quote, Repeated, TooWide, Twice, TwoDelimiters, Uneven, Unnamed, Unnumbered}

-- the digits of a table's telegrams, by groups and aspects
abbrev pub texts : Result (List Group) TableFault → Option (List (List (List (List ℕ))))
texts (Ok groups) = Some (texts_of groups)
texts (Err fault) = None

abbrev pub texts_in : List ℕ → Option (List (List (List (List ℕ))))
texts_in bytes = texts (groups_or_fault (entries_of_text usual_words (without_mark bytes)))

-- tables and the digits of their telegrams
pub record WorkedTables : Type 0 where
  -- the heading row is the third, after a mark, and a blank row counts
  pub plain : texts_in (239 ∷ 187 ∷ 191 ∷ codes "Line 1;\n\nTELEGRAM;x;Group\r\n0A 1;;A\r\n;;\r\nff;;B\r\n")
      ≡ Some (((codes "0A1" ∷ []) ∷ []) ∷ ((codes "ff" ∷ []) ∷ []) ∷ [])
  -- rows of a group that are apart are one group, `*` is in each aspect, and balises are in the order of their numbers
  pub aspects : texts_in (codes "group;balise;aspect;telegram\nA;2;red;a1\nB;;;ff\nA;1;*;b\nA;2;green;c\n")
      ≡ Some (((codes "b" ∷ codes "a1" ∷ []) ∷ (codes "b" ∷ codes "c" ∷ []) ∷ []) ∷ ((codes "ff" ∷ []) ∷ []) ∷ [])
  -- a field in quotes may have a delimiter, a line end and doubled quotes, and is one with the same text without quotes
  pub quotes : texts_in (codes "group,remark,telegram\n\"A\",\"\"\"x\"\",\n\",\"0\"\nA,,1")
      ≡ Some (((codes "0" ∷ codes "1" ∷ []) ∷ []) ∷ [])

abbrev pub fault_of : Result (List Group) TableFault → Option TableFault
fault_of (Ok groups) = None
fault_of (Err fault) = Some fault

abbrev pub Fails : List ℕ → TableFault → Type 0
Fails bytes fault = fault_of (groups_or_fault (entries_of_text usual_words (without_mark bytes))) ≡ Some fault

-- a table with each fault, but for text that is not UTF-8
pub record WorkedFaults : Type 0 where
  pub headless : Fails (codes "group,x\nA,0\n") NoHeading
  pub ambiguous : Fails (codes "group,telegram\ngroup;telegram\n") TwoDelimiters
  pub title : Fails (codes "0123456789012345678901234567890123456789,\ngroup,telegram\nA,0\n") (Above 1)
  pub doubled : Fails (codes "group,telegram,GROUP\nA,0,B\n") (Twice 1 column.Group)
  pub nameless : Fails (codes "group,telegram\n\n,0\n") (Lacking 3 column.Group)
  pub wide : Fails (codes "group,telegram\nA,0,x\n") (TooWide 2)
  pub edge : Fails (codes "group,telegram,aspect\nA,0, x\n") (BlankEdge 2 column.Aspect)
  pub letter : Fails (codes "group,telegram\nA,0x1\n") (NotHexadecimal 2)
  pub word : Fails (codes "group,telegram,balise\nA,0,first\n") (NotANumber 2)
  pub unclosed : Fails (codes "group,telegram\nA,\"0\nB,1\n") (Quote (record { row = 2; fault = Open }))
  pub rowless : Fails (codes "group,telegram\n,\n") Empty
  pub aspectless : Fails (codes "group,aspect,telegram\nA,x,0\nA,,1\n") (Unnamed 3)
  pub numberless : Fails (codes "group,balise,telegram\nA,0,0\nA,,1\n") (Unnumbered 3)
  pub again : Fails (codes "group,balise,telegram\nA,0,0\nB,0,1\nA,00,2\n") (Repeated 4)
  pub many : Fails (codes "group,telegram\nA,0\nA,1\nA,2\nA,3\nA,4\nA,5\nA,6\nA,7\nA,8\n") (Ninth 10)
  pub odd : Fails (codes "group,aspect,telegram\nA,x,0\nA,y,1\nA,y,2\n") (Uneven 3)
  pub shifted : Fails (codes "group,aspect,telegram\nA,x,0\nA,*,1\nA,y,2\n") (Moved 3)
