-- What several reads, or several writes, do to known bytes.
use Rattle.std.proofs.Common.{◌++◌, ℕ, List, [], Option, Some, None, sym, ap, ◌∙◌, append_assoc, refl, take, drop, length, ◌-◌, ◌+◌, subst}
use Rattle.std.proofs.Math.Seq.{take-add}
use Rattle.std.proofs.lemmas.List.{append-nil, take_rest}
use Rattle.std.specs.Io.KnownBytes.{Appends, Consumes, Keeps}

-- first the bytes xs were read, then the bytes ys
pub Consumes-then : (a b c : Option (List ℕ)) (xs ys : List ℕ) → Consumes a b xs → Consumes b c ys
    → Consumes a c (xs ++ ys)
Consumes-then None b c xs ys first second = tt
Consumes-then (Some x) None c xs ys first second = absurd first
Consumes-then (Some x) (Some y) None xs ys first second = absurd second
Consumes-then (Some x) (Some y) (Some z) xs ys first second =
    first ∙ ap (λ r. xs ++ r) second ∙ sym (append_assoc xs ys z)

-- nothing was read
pub Consumes-none : (a : Option (List ℕ)) → Consumes a a []
Consumes-none None = tt
Consumes-none (Some x) = refl

-- first the bytes xs were written, then the bytes ys
pub Appends-then : (a b c : Option (List ℕ)) (xs ys : List ℕ) → Appends a b xs → Appends b c ys
    → Appends a c (xs ++ ys)
Appends-then None b c xs ys first second = tt
Appends-then (Some x) None c xs ys first second = absurd first
Appends-then (Some x) (Some y) None xs ys first second = absurd second
Appends-then (Some x) (Some y) (Some z) xs ys first second =
    second ∙ ap (λ r. r ++ ys) first ∙ append_assoc x xs ys

-- nothing was written
pub Appends-none : (a : Option (List ℕ)) → Appends a a []
Appends-none None = tt
Appends-none (Some x) = sym (append-nil x)

-- a flush writes nothing
pub Appends-kept : (a b : Option (List ℕ)) → Keeps a b → Appends a b []
Appends-kept None b kept = tt
Appends-kept (Some x) None kept = kept
Appends-kept (Some x) (Some y) kept = kept ∙ sym (append-nil x)

-- the first `count` bytes, and then the next n bytes
pub Appends-more : (a b c : Option (List ℕ)) (bytes : List ℕ) (count n : ℕ)
    → Appends a b (take count bytes)
    → Appends b c (take n (take (length bytes - count) (drop count bytes)))
    → Appends a c (take (count + n) bytes)
Appends-more a b c bytes count n first second =
    let P : List ℕ → Type 0 = λ r. Appends b c (take n r) in
    let second : P (drop count bytes) = subst P (take_rest bytes count) second in
    rw (take-add count n bytes) (Appends-then a b c _ _ first second)
