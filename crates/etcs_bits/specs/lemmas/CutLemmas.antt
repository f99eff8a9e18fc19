-- A whole list of fields is cut off again, whatever rows follow it.
use Rattle.std.specs.Prelude.{◌≡◌, List, ◌++◌, refl}
use Rattle.std.proofs.Common.{append_assoc}
use Rattle.etcs_bits.specs.layout.Rows.{Row}
use Rattle.etcs_bits.specs.layout.Fields.{Fields, nothing, field, ◌▹◌, sized, AreRowsOf}
use Rattle.etcs_bits.specs.layout.Cut.{cut}

pub cut_whole : (fields : Fields) (rows more : List Row)
    → AreRowsOf fields rows → cut fields (rows ++ more) ≡ (rows, more)
unfolding cut
cut_whole nothing rows more w = rw w refl
cut_whole (field x next) rows more (n, tail, e, w) =
    rw (e, cut_whole (next n) tail more w) refl
cut_whole (a ▹ b) rows more (first, second, e, v, w) =
    rw (
      e,
      append_assoc first second more,
      cut_whole a first (second ++ more) v,
      cut_whole b second more w,
    ) refl
cut_whole (sized before body) rows more (tail, e, w) =
    rw (e, cut_whole body tail more w) refl
