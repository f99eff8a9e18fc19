-- What the code writes is the message's encoding.
use Rattle.std.proofs.Common.{◌≡◌, ℕ, ◌+◌, ◌-◌, ◌*◌, ◌<◌, ◌≤◌, true, false, Bool, List, [], ◌++◌, length, replicate, Result, Ok, Err, OnOk, refl, sym, ap, ap₂, subst, ◌∙◌, inl, inr, arith, append_assoc, length-append, lit<}
use Rattle.std.specs.List.{flat_map}
use Rattle.std.proofs.lemmas.Bool.{eq-eqb}
use Rattle.std.proofs.lemmas.List.{length-replicate}
use Rattle.hex.specs.Hex.{IsBytes}
use Rattle.etcs_bits.specs.bits.Number.{num, bits_of_bytes}
use Rattle.etcs_bits.specs.layout.Rows.{alone, AreAllowed, join}
use Rattle.etcs_bits.proofs.NumberLemmas.{length-bits_of_bytes}
use Rattle.etcs_bits.proofs.StandLemmas.{join-append, allowed-append}
use Rattle.etcs_bits.specs.layout.Format.{Format}
use Rattle.etcs_radio.specs.declared.message.Message.{Message}
use Rattle.etcs_radio.specs.Head.{Head, MovementHead, PositionHead, movement_head, position_head, head}
use Rattle.etcs_radio.specs.Message.{is_complete, message_rows, used_bits, IsEncoding}
use Rattle.etcs_radio.proofs.EncodeLemmas.{message_width}

-- ---- the parts, one after the other

four_parts : (x y z w old a b h new : List Bool) → a ≡ old ++ x → b ≡ a ++ y → h ≡ b ++ z → new ≡ h ++ w
    → new ≡ old ++ ((x ++ (y ++ z)) ++ w)
four_parts x y z w old a b h new first second third last =
    last ∙ ap (λ (bits : List Bool). bits ++ w) (third ∙ ap (λ (bits : List Bool). bits ++ z) (second ∙ ap (λ (bits : List Bool). bits ++ y) first))
    ∙ simp append_assoc

pub movement_bits : (n : ℕ) (h : MovementHead) → join ((head n).rows (inl h)) ≡ num 8 3 ++ (num 10 n ++ join (movement_head.rows h))
unfolding alone
movement_bits n h = refl

pub position_bits : (n : ℕ) (h : PositionHead) → join ((head n).rows (inr h)) ≡ num 8 136 ++ (num 10 n ++ join (position_head.rows h))
unfolding alone
position_bits n h = refl

-- NID_MESSAGE, L_MESSAGE, the other fields and the packets of a message, of which `h` and `xs` are equal to what was written
pub written : {X A E : Type 0} (r : Result A E) (x : Format X) (g h : Head) (n k : ℕ) (fields : List Bool) (ys xs : List X)
    (old a b c new : List Bool) → join ((head n).rows g) ≡ num 8 k ++ (num 10 n ++ fields) → g ≡ h → ys ≡ xs
    → a ≡ old ++ num 8 k → b ≡ a ++ num 10 n → c ≡ b ++ fields → OnOk r (new ≡ c ++ join (flat_map x.rows ys))
    → OnOk r (new ≡ old ++ join ((head n).rows h ++ flat_map x.rows xs))
written {X = X} (Ok y) x g h n k fields ys xs old a b c new is are same first second third last =
    let packets = join (flat_map x.rows ys) in
    four_parts (num 8 k) (num 10 n) fields packets old a b c new first second third last
    ∙ ap (λ (bits : List Bool). old ++ (bits ++ packets)) (sym is)
    ∙ ap (λ (bits : List Bool). old ++ bits) (sym (join-append ((head n).rows g) (flat_map x.rows ys)))
    ∙ ap₂ (λ (f : Head) (zs : List X). old ++ join ((head n).rows f ++ flat_map x.rows zs)) are same
written (Err e) x g h n k fields ys xs old a b c new is are same first second third last = tt

-- ---- each row is allowed

pub movement_head_allowed : (n : ℕ) (h : MovementHead) → n < 1024 → AreAllowed (movement_head.rows h)
    → AreAllowed ((head n).rows (inl h))
unfolding alone
movement_head_allowed n h few rest = ((lit< tt, refl), ((omega (arith, few), eq-eqb n n refl), rest))

pub position_head_allowed : (n : ℕ) (h : PositionHead) → n < 1024 → AreAllowed (position_head.rows h)
    → AreAllowed ((head n).rows (inr h))
unfolding alone
position_head_allowed n h few rest = ((lit< tt, refl), ((omega (arith, few), eq-eqb n n refl), rest))

pub allowed : {X A E : Type 0} (r : Result A E) (x : Format X) (g h : Head) (n : ℕ) (ys xs : List X) → g ≡ h → ys ≡ xs
    → AreAllowed ((head n).rows g) → AreAllowed (flat_map x.rows ys)
    → OnOk r (AreAllowed ((head n).rows h ++ flat_map x.rows xs))
allowed {X = X} (Ok y) x g h n ys xs are same first second =
    subst (λ (f : Head). AreAllowed ((head n).rows f ++ flat_map x.rows xs)) are
    (subst (λ (zs : List X). AreAllowed ((head n).rows g ++ flat_map x.rows zs)) same (allowed-append ((head n).rows g) (flat_map x.rows ys) first second))
allowed (Err e) x g h n ys xs are same first second = tt

-- ---- the whole

-- bytes that hold these bits and fewer than eight zeros are an encoding
pub is_encoding : (m : Message) (n : ℕ) (none bits : List Bool) (bytes : List ℕ) → IsBytes bytes
    → 8 * n < used_bits m + 8 → used_bits m ≤ 8 * n → none ≡ []
    → bits ≡ none ++ join (message_rows n m) → AreAllowed (message_rows n m) → is_complete m ≡ true
    → bits_of_bytes bytes ≡ bits ++ replicate (8 * length bytes - length bits) false
    → 8 * length bytes < length bits + 8 → IsEncoding m bytes
is_encoding m n none bits bytes in_range few enough start_none are allowed complete holds least =
    let rows = join (message_rows n m) in
    let is : bits ≡ rows = are ∙ ap (λ (xs : List Bool). xs ++ rows) start_none in
    let width : length bits ≡ used_bits m = ap length is ∙ message_width n m in
    let zeros = 8 * length bytes - length bits in
    let holds_all : length bits ≤ 8 * length bytes = omega (arith, ap length holds, length-append bits (replicate zeros false), length-replicate zeros false, length-bits_of_bytes bytes) in
    let count : n ≡ length bytes = omega (arith, few, enough, width, least, holds_all) in
    record {
      in_range = in_range;
      allowed = subst (λ (k : ℕ). AreAllowed (message_rows k m)) count allowed;
      few = omega (arith, least, width);
      canonical =
          holds ∙ ap₂ (λ (xs : List Bool) (k : ℕ). xs ++ replicate (8 * length bytes - k) false) (is ∙ ap (λ (k : ℕ). join (message_rows k m)) count) width;
      complete = complete;
    }
