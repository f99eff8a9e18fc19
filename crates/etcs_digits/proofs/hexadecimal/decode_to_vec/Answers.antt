use Rattle.std.proofs.Common.{◌≡◌, ◌==◌, true, List, ℕ, [], ◌∷◌, Ok, ap, arith, length, sym}
use Rattle.std.proofs.lemmas.Bool.{eqb-true}
use Rattle.hex.specs.Hex.{decode_of, decode_pairs}
use Rattle.etcs_digits.proofs.hexadecimal.decode_to_vec.Goals as goal

nothing : (s bytes : List ℕ) → true ≡ (length s == 0) → bytes ≡ [] → decode_of s ≡ Ok bytes
unfolding decode_pairs
nothing [] bytes is none = ap (λ b. Ok b) (sym none)
nothing (x ∷ s) bytes is none = absurd (omega (arith, eqb-true (length (x ∷ s)) 0 (sym is)))

pub returns-then-is_empty-clause-ok : goal.returns-then-is_empty-clause-ok
returns-then-is_empty-clause-ok c = nothing _ _ c.if-is_empty.ensures c.new.ensures.items
