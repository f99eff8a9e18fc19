-- What the appends leave, as packed bits.
use Rattle.std.proofs.Common.{◌≡◌, ℕ, suc, ◌+◌, ◌-◌, ◌*◌, ◌/◌, ◌%◌, ◌^◌, ◌<◌, ◌≤◌, List, [], ◌∷◌, ◌++◌, length, get_or, take, drop, set, refl, sym, ap, ◌∙◌, arith, append_assoc, length-append, length-take, mod-eq_of_lt}
use Rattle.std.proofs.Math.Nat.{div-mul-le_self}
use Rattle.std.proofs.lemmas.List.{take_all, take-append-drop, drop_more, drop_all, set_at, take_more, append-nil, get_or-take, get_or_read}
use Rattle.etcs_bits.specs.bits.Number.{num_of_bits, num, bits_of_bytes}
use Rattle.etcs_bits.specs.bits.Packed.{IsPacked}
use Rattle.etcs_bits.proofs.NumberLemmas.{length-num, length-bits_of_bytes, bits_of_bytes-append, bits_of_one, take-bits_of_bytes}
use Rattle.etcs_bits.proofs.ViewLemmas.{length-view, packed_from}
use Rattle.etcs_bits.proofs.StoreLemmas.{front_is, spare_is, num-cat_zeros}

module _ (bs new : List ℕ) (len w n : ℕ) (packed : IsPacked bs len) where
  pub stored_whole : len % 8 ≡ 0 → bits_of_bytes new ≡ (bits_of_bytes bs ++ num w n) ++ num (8 * ((w + 7) / 8) - w) 0
      → (take (len + w) (bits_of_bytes new) ≡ take len (bits_of_bytes bs) ++ num w n) × IsPacked new (len + w)
  stored_whole even e =
      let within = packed.within in
      let tight = packed.tight in
      let all : take len (bits_of_bytes bs) ≡ bits_of_bytes bs = take_all len (bits_of_bytes bs) (rw length-bits_of_bytes (omega arith)) in
      packed_from new (take len (bits_of_bytes bs) ++ num w n) (len + w) (8 * ((w + 7) / 8) - w)
      (e ∙ ap (λ ys. (ys ++ num w n) ++ num (8 * ((w + 7) / 8) - w) 0) (sym all))
      (rw (length-append, length-num, length-view bs len within) refl)
      (omega arith)

  pub stored_within : (last : ℕ) → last ≡ length bs → (len % 8 ≡ 0 → ⊥) → bits_of_bytes new ≡ (take (8 * (last - 1) + len % 8) (bits_of_bytes bs) ++ num w n) ++ num (8 * ((len % 8 + w + 7) / 8) - len % 8 - w) 0
      → (take (len + w) (bits_of_bytes new) ≡ take len (bits_of_bytes bs) ++ num w n) × IsPacked new (len + w)
  stored_within last is odd e =
      let within = packed.within in
      let tight = packed.tight in
      let k = 8 * ((len % 8 + w + 7) / 8) - len % 8 - w in
      let place : 8 * (last - 1) + len % 8 ≡ len = omega arith in
      packed_from new (take len (bits_of_bytes bs) ++ num w n) (len + w) k
      (e ∙ ap (λ j. (take j (bits_of_bytes bs) ++ num w n) ++ num k 0) place)
      (rw (length-append, length-num, length-view bs len within) refl)
      (omega arith)

-- the spare bits of the last byte are zeros
pub spare_zeros : (bs : List ℕ) (len last : ℕ) → last ≡ length bs → IsPacked bs len → (len % 8 ≡ 0 → ⊥) → get_or bs (last - 1) 0 % 2 ^ (8 - len % 8) ≡ 0
spare_zeros bs len last is packed odd =
    let within = packed.within in
    let tight = packed.tight in
    let place : len ≡ 8 * (last - 1) + len % 8 = omega arith in
    sym (spare_is bs (last - 1) (len % 8) (omega arith) (omega arith)) ∙ ap (λ j. num_of_bits (drop j (bits_of_bytes bs))) (sym place) ∙ packed.zeros

take_first : (m : ℕ) (block : List ℕ) → 1 ≤ length block → get_or block 0 0 ∷ take m (drop 1 block) ≡ take (suc m) block
take_first m [] h = absurd (omega arith)
take_first m (b ∷ bs) h = refl

-- the last byte written over, and others behind it
pub written_over : (bs block : List ℕ) (q m : ℕ) → q + 1 ≡ length bs → 1 ≤ m → 1 ≤ length block → set (bs ++ take (m - 1) (drop 1 block)) q (get_or block 0 0) ≡ take q bs ++ take m block
written_over bs block q m last some nonempty =
    let b = get_or bs q 0 in
    let rest = take (m - 1) (drop 1 block) in
    let again : suc (m - 1) ≡ m = omega arith in
    let one : drop q bs ≡ b ∷ [] = drop_more bs q 0 (omega arith) ∙ ap (λ ys. b ∷ ys) (drop_all (q + 1) bs (omega arith)) in
    let e : bs ++ rest ≡ take q bs ++ b ∷ rest =
    ap (λ ys. ys ++ rest) (sym (take-append-drop q bs) ∙ ap (λ ys. take q bs ++ ys) one) ∙ append_assoc (take q bs) (b ∷ []) rest in
    ap (λ ys. set ys q (get_or block 0 0)) e
    ∙ set_at (take q bs) b rest (get_or block 0 0) q (rw length-take (omega arith))
    ∙ ap (λ ys. take q bs ++ ys) (take_first (m - 1) block nonempty ∙ ap (λ k. take k block) again)

-- ---- bytes cut at a place

-- whole bytes
pub cut_whole : (bs : List ℕ) (len : ℕ) → len % 8 ≡ 0 → len ≤ 8 * length bs
    → (take len (bits_of_bytes (take (len / 8) bs)) ≡ take len (bits_of_bytes bs)) × IsPacked (take (len / 8) bs) len
cut_whole bs len even h =
    let place : 8 * (len / 8) ≡ len = omega arith in
    packed_from (take (len / 8) bs) (take len (bits_of_bytes bs)) len 0
    (sym (take-bits_of_bytes (len / 8) bs) ∙ ap (λ j. take j (bits_of_bytes bs)) place ∙ sym (append-nil (take len (bits_of_bytes bs))) ∙ unfold num in refl)
    (length-view bs len h) (omega arith)

-- with zeros behind the last bit
pub cut_within : (bs : List ℕ) (len q u : ℕ) → q ≡ len / 8 → u ≡ len % 8 → (u ≡ 0 → ⊥) → len ≤ 8 * length bs → get_or bs q 0 < 256
    → let new = set (take (q + 1) bs) q (get_or bs q 0 / 2 ^ (8 - u) * 2 ^ (8 - u) % 256) in
    (take len (bits_of_bytes new) ≡ take len (bits_of_bytes bs)) × IsPacked new len
cut_within bs len q u whole used odd h fits =
    let b = get_or bs q 0 in
    let p = 8 - u in
    let x = b / 2 ^ p in
    let v = x * 2 ^ p in
    let small : v ≤ b = div-mul-le_self b (2 ^ p) in
    let e : set (take (q + 1) bs) q (v % 256) ≡ take q bs ++ v ∷ [] =
    ap (λ ys. set ys q (v % 256)) (take_more bs q 0 (omega arith))
    ∙ set_at (take q bs) b [] (v % 256) q (rw length-take (omega arith))
    ∙ ap (λ y. take q bs ++ y ∷ []) (mod-eq_of_lt (omega arith)) in
    let eight : u + p ≡ 8 = omega arith in
    let place : 8 * q + u ≡ len = omega arith in
    let f : take len (bits_of_bytes bs) ≡ bits_of_bytes (take q bs) ++ num u x = ap (λ j. take j (bits_of_bytes bs)) (sym place) ∙ front_is bs q u x (omega arith) (omega arith) refl in
    let g : bits_of_bytes (take q bs ++ v ∷ []) ≡ take len (bits_of_bytes bs) ++ num p 0 =
    bits_of_bytes-append (take q bs) (v ∷ [])
    ∙ ap (λ ys. bits_of_bytes (take q bs) ++ ys) (bits_of_one v ∙ ap (λ j. num j v) (sym eight) ∙ num-cat_zeros u p x)
    ∙ sym (ap (λ ys. ys ++ num p 0) f ∙ append_assoc (bits_of_bytes (take q bs)) (num u x) (num p 0)) in
    packed_from (set (take (q + 1) bs) q (v % 256)) (take len (bits_of_bytes bs)) len p (ap bits_of_bytes e ∙ g) (length-view bs len h) (omega arith)

-- bytes that are cut first keep their first `len` bits, and zeros fill the last byte
pub cut_read : (bs front : List ℕ) (len q u byte : ℕ) → q ≡ len / 8 → u ≡ len % 8 → (u ≡ 0 → ⊥) → len ≤ 8 * length bs → front ≡ take (q + 1) bs
    → byte < 256 → byte ≡ get_or front q byte
    → let new = set front q (byte / 2 ^ (8 - u) * 2 ^ (8 - u) % 256) in
    (take len (bits_of_bytes new) ≡ take len (bits_of_bytes bs)) × IsPacked new len
cut_read bs front len q u byte whole used odd h is fits read =
    let here : q < length front = rw (is, length-take) (omega arith) in
    let same : byte ≡ get_or bs q 0 =
    get_or_read front q byte here read 0 ∙ ap (λ ys. get_or ys q 0) is ∙ get_or-take (q + 1) bs q 0 (omega arith) in
    rw (is, same) (cut_within bs len q u whole used odd h (omega arith))
