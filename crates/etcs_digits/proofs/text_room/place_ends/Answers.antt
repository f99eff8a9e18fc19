use Rattle.std.proofs.Common.{◌≡◌, ◌+◌, ◌-◌, ◌≤◌, ℕ, List, arith, drop, length, length-drop, length-take-le, take}
use Rattle.std.proofs.lemmas.Simd.{take_more_put_chunk, length-put_chunk}
use Rattle.json.proofs.Printed.Places.{Placed-ends}
use Rattle.json.specs.Filled.{Placed}
use lib.Lanes.{put_chunk}
use Rattle.etcs_digits.proofs.text_room.place_ends.Goals as goal

placed : (buf xs : List ℕ) (at end : ℕ) → at + length xs ≡ end → end ≤ length buf → Placed buf (put_chunk at buf xs) at xs end
placed buf xs at end is fits = record { bytes = take_more_put_chunk at buf xs end (omega arith) (omega arith); moved = omega arith; len = length-put_chunk at buf xs }

pub returns : goal.returns
returns g c =
    let text = c.args.text.now in
    let n = g.row.N in
    let last = length text - n in
    let long : length (take n text) ≡ n = length-take-le n text c.requires.covers.0 in
    let ends : length (take n (drop last text)) ≡ n = length-take-le n (drop last text) (omega (arith, length-drop last text)) in
    Placed-ends text n (omega arith) c.requires.covers.0 c.requires.covers.1 (placed c.args.buf.now (take n text) c.args.at (c.args.at + n) (omega arith) (omega arith))
    (placed _ (take n (drop last text)) (c.args.at + last) (c.args.at + length text) (omega arith) (omega (arith, length-put_chunk c.args.at c.args.buf.now (take n text))))
