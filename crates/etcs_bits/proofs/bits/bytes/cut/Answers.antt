use Rattle.std.proofs.Common.{◌/◌, ◌%◌, ◌<◌, refl, rules}
use Rattle.etcs_bits.proofs.AppendLemmas.{cut_whole, cut_read}
use Rattle.etcs_bits.proofs.bits.bytes.cut.Goals as goal

pub returns-then-used-eq0-clause-packed : goal.returns-then-used-eq0-clause-packed
returns-then-used-eq0-clause-packed c = rw c.truncate.ensures.items (cut_whole c.args.bytes.now.items c.args.len c.if-used-eq0.true c.requires).1

pub returns-then-used-eq0-clause-bits : goal.returns-then-used-eq0-clause-bits
returns-then-used-eq0-clause-bits c = rw c.truncate.ensures.items (cut_whole c.args.bytes.now.items c.args.len c.if-used-eq0.true c.requires).0

pub returns-else-used-eq0-clause-packed : goal.returns-else-used-eq0-clause-packed
returns-else-used-eq0-clause-packed c =
    let byte : c.index.result.now < 256 = search rules in
    (cut_read c.args.bytes.now.items c.truncate-else-used-eq0.new.self.items c.args.len (c.args.len / 8) (c.args.len % 8) c.index.result.now refl refl c.if-used-eq0.false c.requires
    c.truncate-else-used-eq0.ensures.items byte c.index.ensures).1

pub returns-else-used-eq0-clause-bits : goal.returns-else-used-eq0-clause-bits
returns-else-used-eq0-clause-bits c =
    let byte : c.index.result.now < 256 = search rules in
    (cut_read c.args.bytes.now.items c.truncate-else-used-eq0.new.self.items c.args.len (c.args.len / 8) (c.args.len % 8) c.index.result.now refl refl c.if-used-eq0.false c.requires
    c.truncate-else-used-eq0.ensures.items byte c.index.ensures).0
