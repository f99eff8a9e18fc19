use Rattle.std.proofs.Common.{◌≡◌, ◌≤◌, ◌<◌, length, arith}
use Rattle.std.proofs.Math.Nat.{lt_of_not-le}
use Rattle.std.specs.Prelude.{◌↔◌, IsSome}
use Rattle.etcs_bits.specs.layout.Rows.{width, alone}
use Rattle.etcs_profile.specs.Packet.{packet}
use Rattle.etcs_profile.specs.Elements.{elements, profile}
use Rattle.etcs_profile.specs.Built.{HasMany}
use Rattle.etcs_profile.proofs.BuiltLemmas.{built_of, few_of}
use Rattle.etcs_profile.proofs.profile.Packet+N+Elements+T.build.Goals as goal

pub returns : goal.returns
unfolding alone
returns g c =
    let given = profile c.args.scale c.args.first c.args.further.items in
    let bits = width ((packet g.row.N (elements g.T.Layout.format)).rows (c.args.dir, given)) in
    let same : c.in_ok-elements.elements ≡ given = c.in_ok-elements.ensures.ok in
    let fit = rw same at (c.is_allowed.ensures.fit.0 c.if-not-is_allowed.false) in
    let short : length c.args.further.items < 32 = lt_of_not-le (λ more. absurd (let err = c.in_ok-elements.ensures.many.1 more in cc)) in
    let few = few_of g.T.Layout.fit c.args.first c.args.further.items (omega (arith, short)) fit.0 fit.1 in
    let some = rw same at c.of.ensures.some in
    let fits = rw same at c.of.ensures.fit in
    let made : IsSome c.of.result ↔ (bits ≤ 8191) = (λ s. omega (arith, (fits.0 s).1), λ le. fits.1 (fit, omega (arith, le))) in
    rw (c.ok_or.ensures.value)
    (built_of c.of.result (c.args.dir, given) (HasMany g.T.Layout.fit c.args.first c.args.further.items) bits few some made)
