use Rattle.std.proofs.Common.{◌≡◌, ◌-◌, ◌*◌, ◌++◌, false, ◌∙◌, ap, ap₂, sym, length, replicate, arith, ◌<◌}
use Rattle.std.proofs.lemmas.Result.{err_from_is_err_and}
use Rattle.etcs_bits.proofs.ViewLemmas.{length-view, packed_is, zeros_are}
use Rattle.etcs_bits.proofs.bits.Bits.to_bytes.Goals as goal

pub returns-clause-bits : goal.returns-clause-bits
returns-clause-bits c =
    let bs = c.self.inside.bytes.items in
    let len = c.self.inside.len in
    let same : c.in_ok-copy.copy.items ≡ bs = c.in_ok-copy.ensures.bytes ∙ c.as_slice.ensures.value in
    let l : len ≡ length c.args.self.now = sym (length-view bs len c.self.invariant.within) ∙ ap length c.self.view_is in
    rw same (packed_is bs len c.self.invariant ∙ ap₂ ◌++◌ c.self.view_is (zeros_are (8 * length bs - len) ∙ ap (λ n. replicate (8 * length bs - n) false) l))

pub returns-clause-few : goal.returns-clause-few
returns-clause-few c =
    let bs = c.self.inside.bytes.items in
    let len = c.self.inside.len in
    let same : c.in_ok-copy.copy.items ≡ bs = c.in_ok-copy.ensures.bytes ∙ c.as_slice.ensures.value in
    let l : len ≡ length c.args.self.now = sym (length-view bs len c.self.invariant.within) ∙ ap length c.self.view_is in
    let t = c.self.invariant.tight in
    rw same (omega arith)

-- a copy of no bytes takes no memory, and no bits have no bytes
pub returns-in_err-copy-clause-memory : goal.returns-in_err-copy-clause-memory
returns-in_err-copy-clause-memory c =
    let failed = err_from_is_err_and c.from_residual.result c.from_residual.ensures.1 in
    let bs = c.self.inside.bytes.items in
    let len = c.self.inside.len in
    let l : len ≡ length c.args.self.now = sym (length-view bs len c.self.invariant.within) ∙ ap length c.self.view_is in
    let t = c.self.invariant.tight in
    let some : 0 < length bs = rw c.as_slice.ensures.value at c.in_err-copy.ensures.memory in
    rw failed.1 (omega arith)
