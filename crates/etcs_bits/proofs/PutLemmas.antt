-- One spelling added after the other.
use Rattle.std.proofs.Common.{◌≡◌, Bool, List, ◌++◌, length, take, Result, Ok, Err, refl, sym, ap, ◌∙◌, append_assoc, arith}
use Rattle.std.specs.Prelude.{◌↔◌}
use Rattle.std.proofs.lemmas.List.{length-append, take_at, take-take}
use Rattle.etcs_bits.specs.layout.Rows.{Row, AreAllowed, join}
use Rattle.etcs_bits.specs.layout.Results.{Puts}
use Rattle.etcs_bits.proofs.StandLemmas.{join-append, allowed-append}
use Rattle.etcs_bits.specs.lemmas.RowLemmas.{allowed_first, allowed_second}

-- bits put after other bits
pub puts_bits : {X E : Type 0} (x y : List Bool) (r : Result X E) (old mid new : List Bool) → mid ≡ old ++ x → Puts y r mid new → Puts (x ++ y) r old new
puts_bits x y (Ok v) old mid new e p = p ∙ ap (λ (bits : List Bool). bits ++ y) e ∙ append_assoc old x y
puts_bits x y (Err v) old mid new e p =
    let front : take (length old) mid ≡ old = ap (take (length old)) e ∙ take_at old x (length old) refl in
    sym (take-take (length old) (length mid) new (omega (arith, ap length e, length-append old x))) ∙ ap (take (length old)) p ∙ front

-- what keeps a longer front keeps a shorter one
pub keeps_front : (y old mid new : List Bool) → mid ≡ old ++ y → take (length mid) new ≡ mid → take (length old) new ≡ old
keeps_front y old mid new before kept =
    sym (take-take (length old) (length mid) new (omega (arith, ap length before, length-append old y))) ∙ ap (take (length old)) (kept ∙ before) ∙ take_at old y (length old) refl

-- a spelling put after another
pub puts_then : {X E : Type 0} (a b : List Row) (r : Result X E) (old mid new : List Bool) → mid ≡ old ++ join a → Puts (join b) r mid new → Puts (join (a ++ b)) r old new
puts_then a b r old mid new e p = rw join-append (puts_bits (join a) (join b) r old mid new e p)

-- rows are allowed if both parts are
pub allowed_both : (a b : List Row) → AreAllowed (a ++ b) ↔ (AreAllowed a × AreAllowed b)
allowed_both a b = (λ h. (allowed_first a b h, allowed_second a b h), λ h. allowed-append a b h.0 h.1)
