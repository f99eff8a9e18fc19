use Rattle.std.proofs.Common.{rules}
use Rattle.etcs_bits.proofs.AppendLemmas.{stored_whole, stored_within, spare_zeros}
use Rattle.etcs_bits.proofs.bits.bytes.append.Goals as goal

pub append_within-requires-clause-zeros : goal.append_within-requires-clause-zeros
append_within-requires-clause-zeros c = spare_zeros c.args.bytes.now.items c.args.len _ (search rules) c.requires.packed c.if-used-eq0.false

pub append_in_last-requires-clause-zeros : goal.append_in_last-requires-clause-zeros
append_in_last-requires-clause-zeros c = spare_zeros c.args.bytes.now.items c.args.len _ (search rules) c.requires.packed c.if-used-eq0.false

pub returns-then-used-width-le8-clause-packed : goal.returns-then-used-width-le8-clause-packed
returns-then-used-width-le8-clause-packed c =
    (stored_within c.args.bytes.now.items c.append_in_last.new.bytes.items c.args.len c.args.width c.args.n c.requires.packed _ (search rules) c.if-used-eq0.false c.append_in_last.ensures).1

pub returns-then-used-width-le8-clause-bits : goal.returns-then-used-width-le8-clause-bits
returns-then-used-width-le8-clause-bits c =
    (stored_within c.args.bytes.now.items c.append_in_last.new.bytes.items c.args.len c.args.width c.args.n c.requires.packed _ (search rules) c.if-used-eq0.false c.append_in_last.ensures).0

pub returns-in_ok-append_whole-clause-packed : goal.returns-in_ok-append_whole-clause-packed
returns-in_ok-append_whole-clause-packed c =
    (stored_whole c.args.bytes.now.items c.append_whole.new.bytes.items c.args.len c.args.width c.args.n c.requires.packed c.if-used-eq0.true c.in_ok-append_whole.ensures.ok).1

pub returns-in_ok-append_whole-clause-bits : goal.returns-in_ok-append_whole-clause-bits
returns-in_ok-append_whole-clause-bits c =
    (stored_whole c.args.bytes.now.items c.append_whole.new.bytes.items c.args.len c.args.width c.args.n c.requires.packed c.if-used-eq0.true c.in_ok-append_whole.ensures.ok).0

pub returns-in_ok-append_within-clause-packed : goal.returns-in_ok-append_within-clause-packed
returns-in_ok-append_within-clause-packed c =
    (stored_within c.args.bytes.now.items c.append_within.new.bytes.items c.args.len c.args.width c.args.n c.requires.packed _ (search rules) c.if-used-eq0.false c.in_ok-append_within.ensures.ok).1

pub returns-in_ok-append_within-clause-bits : goal.returns-in_ok-append_within-clause-bits
returns-in_ok-append_within-clause-bits c =
    (stored_within c.args.bytes.now.items c.append_within.new.bytes.items c.args.len c.args.width c.args.n c.requires.packed _ (search rules) c.if-used-eq0.false c.in_ok-append_within.ensures.ok).0
