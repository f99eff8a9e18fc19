-- Packets that are kept as bits by the edition are those that the types allow.
use Rattle.std.proofs.Common.{◌≡◌, ℕ, ◌==◌, Bool, true, false, cond, List, [], ◌∷◌, ◌++◌, refl, ap}
use Rattle.std.specs.Prelude.{◌||◌, ◌&&◌, not, nat_le, ◌+◌}
use Rattle.std.specs.List.{list_any}
use Rattle.etcs_profile.specs.PacketNumbers.{is_kept as is_kept_track}
use Rattle.etcs_radio.specs.TrainNumbers.{is_kept as is_kept_train}
use Rattle.etcs_edition.specs.Kept.{is_kept_to_train, is_kept_to_track}

one_more : (test : ℕ → Bool) (ks : List ℕ) (k : ℕ) → list_any test (ks ++ k ∷ []) ≡ (list_any test ks || test k)
one_more test [] k = or_false (test k)
  where
    or_false : (b : Bool) → (b || false) ≡ b
    or_false true = refl
    or_false false = refl
one_more test (first ∷ ks) k = rw (one_more test ks k) (either_way (test first) (list_any test ks) (test k))
  where
    either_way : (a b c : Bool) → (a || (b || c)) ≡ ((a || b) || c)
    either_way true b c = refl
    either_way false b c = refl

pub kept_to_train : (n bits : ℕ) → is_kept_to_train n bits ≡ is_kept_track n bits
kept_to_train n bits = ap (λ (b : Bool). not b && nat_le (23 + bits) 8191)
    (one_more (λ k. n == k) (0 ∷ 5 ∷ 12 ∷ 15 ∷ 21 ∷ 27 ∷ 41 ∷ []) 255)

three : (a b c : Bool) → (a || (b || (c || false))) ≡ (cond a true b || c)
three true b c = refl
three false true c = refl
three false false true = refl
three false false false = refl

pub kept_to_track : (n bits : ℕ) → is_kept_to_track n bits ≡ is_kept_train n bits
kept_to_track n bits = ap (λ (b : Bool). not b && nat_le (21 + bits) 8191) (three (n == 0) (n == 1) (n == 255))
