-- Where a message of a stream ends.
use Rattle.std.proofs.Common.{◌≡◌, ℕ, suc, ◌≤◌, List, [], ◌∷◌, ◌++◌, length, take, drop, refl, sym, ap, ap₂, ◌∙◌, subst, ⊎_elim, arith, append_assoc, length-append}
use Rattle.std.specs.Prelude.{All}
use Rattle.std.specs.List.{concat}
use Rattle.std.proofs.lemmas.List.{append_cancel_left, drop-take, take-append-drop, take-take, take_at}
use Rattle.etcs_bits.specs.bits.Number.{num, num_of_bits, bits_of_bytes}
use Rattle.etcs_radio.specs.Stream.{message_length, AreOneMessageLong, AreRest, AreMessages}

-- ---- L_MESSAGE

-- it is in the first three bytes
pub message_length-append : (bytes more : List ℕ) → 3 ≤ length bytes → message_length (bytes ++ more) ≡ message_length bytes
unfolding num bits_of_bytes
message_length-append [] more h = absurd (omega arith)
message_length-append (a ∷ []) more h = absurd (omega arith)
message_length-append (a ∷ b ∷ []) more h = absurd (omega arith)
message_length-append (a ∷ b ∷ c ∷ bytes) more h = refl

pub message_length-take : (n : ℕ) (bytes : List ℕ) → 3 ≤ length (take n bytes) → message_length (take n bytes) ≡ message_length bytes
message_length-take n bytes three =
    sym (message_length-append (take n bytes) (drop n bytes) three) ∙ ap message_length (take-append-drop n bytes)

-- it is read from the first 24 bits
pub message_length-front : (bytes : List ℕ) → num_of_bits (take 10 (drop 8 (take 24 (bits_of_bytes bytes)))) ≡ message_length bytes
message_length-front bytes =
    ap (λ xs. num_of_bits (take 10 xs)) (drop-take 8 16 (bits_of_bytes bytes))
    ∙ ap num_of_bits (take-take 10 16 (drop 8 (bits_of_bytes bytes)) (omega arith))

-- ---- one way to cut a stream

-- a message at the front of a rest
no_rest : (message more : List ℕ) → AreOneMessageLong message → AreRest (message ++ more) → ⊥
no_rest message more whole rest =
    let count = whole.count in
    let three = whole.three in
    let has = length-append message more in
    let says = message_length-append message more whole.three in
    ⊎_elim (λ below. omega (arith, below, has, says, count)) (λ small. omega (arith, small, says, count, three))
    (rest (omega (arith, has, three)))

-- two messages at the front of the same bytes
same_length : (m n x y : List ℕ) → AreOneMessageLong m → AreOneMessageLong n → m ++ x ≡ n ++ y → length m ≡ length n
same_length m n x y first second e =
    first.count
    ∙ sym (message_length-append m x first.three)
    ∙ ap message_length e
    ∙ message_length-append n y second.three
    ∙ sym second.count

same_first : (m n x y : List ℕ) → AreOneMessageLong m → AreOneMessageLong n → m ++ x ≡ n ++ y → m ≡ n
same_first m n x y first second e =
    sym (take_at m x (length m) refl)
    ∙ ap₂ take (same_length m n x y first second e) e
    ∙ take_at n y (length n) refl

same_others : (m n x y : List ℕ) → AreOneMessageLong m → AreOneMessageLong n → m ++ x ≡ n ++ y → x ≡ y
same_others m n x y first second e =
    append_cancel_left n x y (ap (λ xs. xs ++ x) (sym (same_first m n x y first second e)) ∙ e)

one_way : (ms ns : List (List ℕ)) (r s : List ℕ) → All AreOneMessageLong ms → All AreOneMessageLong ns → AreRest r → AreRest s → concat ms ++ r ≡ concat ns ++ s → (ms ≡ ns) × (r ≡ s)
one_way [] [] r s first second rest other e = (refl, e)
one_way [] (n ∷ ns) r s first second rest other e =
    absurd (no_rest n (concat ns ++ s) (second 0 n (omega arith)) (subst AreRest (e ∙ append_assoc n (concat ns) s) rest))
one_way (m ∷ ms) [] r s first second rest other e =
    absurd (no_rest m (concat ms ++ r) (first 0 m (omega arith)) (subst AreRest (sym e ∙ append_assoc m (concat ms) r) other))
one_way (m ∷ ms) (n ∷ ns) r s first second rest other e =
    let x : List ℕ = concat ms ++ r in
    let y : List ℕ = concat ns ++ s in
    let m_whole : AreOneMessageLong m = first 0 m (omega arith) in
    let n_whole : AreOneMessageLong n = second 0 n (omega arith) in
    let joined : m ++ x ≡ n ++ y = sym (append_assoc m (concat ms) r) ∙ e ∙ append_assoc n (concat ns) s in
    let more = one_way ms ns r s (λ k d within. first (suc k) d (omega arith)) (λ k d within. second (suc k) d (omega arith)) rest other (same_others m n x y m_whole n_whole joined) in
    (ap₂ (λ a others. a ∷ others) (same_first m n x y m_whole n_whole joined) more.0, more.1)

pub cut_once : (ms ns : List (List ℕ)) (r s bytes : List ℕ) → AreMessages ms r bytes → AreMessages ns s bytes → (ms ≡ ns) × (r ≡ s)
cut_once ms ns r s bytes first second =
    one_way ms ns r s first.whole second.whole first.cut_off second.cut_off (sym first.join ∙ second.join)
