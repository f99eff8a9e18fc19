use Rattle.std.proofs.Common.{◌≡◌, ◌*◌, ◌-◌, ◌<◌, ◌≤◌, length}
use Rattle.etcs_digits.proofs.HexadecimalLemmas.{IsDecoded}
use Rattle.etcs_digits.proofs.hexadecimal.decode_quickly.Given as goal

abbrev pub invariant-sixteens : goal.invariant-sixteens
invariant-sixteens l = record {
  len : length l.out ≡ length l.initial.out;
  within : l.done ≤ length l.out;
  so_far : IsDecoded l.text l.out l.done;
}

abbrev pub decreases-sixteens : goal.decreases-sixteens
decreases-sixteens l = length l.out - l.done

abbrev pub invariant-bytes : goal.invariant-bytes
invariant-bytes l =
    (length l.text ≡ 2 * length l.out)
    × (l.seen < 256 → IsDecoded l.text l.out l.i)
