use Rattle.std.proofs.Common.{refl, lit<}
use Rattle.etcs_bits.specs.layout.Rows.{alone}
use Rattle.etcs_telegram.proofs.header.HeaderLayout.is_allowed.Goals as goal

-- each part ensures that its numbers are in range
pub returns-clause-allowed : goal.returns-clause-allowed
unfolding alone
returns-clause-allowed c =
    let version = c.is_allowed.ensures.allowed.0 (c.is_allowed.ensures.fit.1 tt) in
    let position = c.is_allowed-2.ensures.allowed.0 (c.is_allowed-2.ensures.fit.1 tt) in
    let total = c.is_allowed-3.ensures.allowed.0 (c.is_allowed-3.ensures.fit.1 tt) in
    let dup = c.is_allowed-4.ensures.allowed.0 (c.is_allowed-4.ensures.fit.1 tt) in
    let counter = c.is_allowed-5.ensures.allowed.0 (c.is_allowed-5.ensures.fit.1 tt) in
    let identity = c.is_allowed-6.ensures.allowed.0 (c.is_allowed-6.ensures.fit.1 tt) in
    let linked = c.is_allowed-7.ensures.allowed.0 (c.is_allowed-7.ensures.fit.1 tt) in (
      λ _. ((lit< tt, refl), (version.0, ((lit< tt, refl), (position.0, (total.0, (dup.0, (counter.0, (identity.0, (identity.1.0, (linked.0, tt)))))))))),
      λ _. rw (
        (c.is_allowed.ensures.fit.1 tt),
        (c.is_allowed-2.ensures.fit.1 tt),
        (c.is_allowed-3.ensures.fit.1 tt),
        (c.is_allowed-4.ensures.fit.1 tt),
        (c.is_allowed-5.ensures.fit.1 tt),
        (c.is_allowed-6.ensures.fit.1 tt),
        (c.is_allowed-7.ensures.fit.1 tt),
      ) refl,
    )

pub returns-clause-fit : goal.returns-clause-fit
returns-clause-fit c = (
  λ _. tt,
  λ _. rw (
    (c.is_allowed.ensures.fit.1 tt),
    (c.is_allowed-2.ensures.fit.1 tt),
    (c.is_allowed-3.ensures.fit.1 tt),
    (c.is_allowed-4.ensures.fit.1 tt),
    (c.is_allowed-5.ensures.fit.1 tt),
    (c.is_allowed-6.ensures.fit.1 tt),
    (c.is_allowed-7.ensures.fit.1 tt),
  ) refl,
)
