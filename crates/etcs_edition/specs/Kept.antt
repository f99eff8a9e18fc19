-- Which packets are kept as bits (SUBSET-026, 7.4.1): those whose number is neither that of a packet with a table of
-- its own nor 255, the end mark, and whose bits L_PACKET can count. The types of these packets require it.
use Rattle.std.specs.Prelude.{ℕ, ◌+◌, ◌==◌, ◌&&◌, not, nat_le, Bool, [], ◌∷◌}
use Rattle.std.specs.List.{list_any}

-- a packet from track to train with this number and so many bits after L_PACKET
abbrev pub is_kept_to_train : ℕ → ℕ → Bool
is_kept_to_train n bits =
    not (list_any (λ k. n == k) (0 ∷ 5 ∷ 12 ∷ 15 ∷ 21 ∷ 27 ∷ 41 ∷ 255 ∷ [])) && nat_le (23 + bits) 8191

-- a packet from train to track with this number and so many bits after L_PACKET
abbrev pub is_kept_to_track : ℕ → ℕ → Bool
is_kept_to_track n bits = not (list_any (λ k. n == k) (0 ∷ 1 ∷ 255 ∷ [])) && nat_le (21 + bits) 8191
