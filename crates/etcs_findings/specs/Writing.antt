-- Writing a JSON value to a line, member by member.
use Rattle.std.specs.Prelude.{◌≡◌}
use Rattle.json.specs.Json.{Members}
use Rattle.json.specs.Tree.{members_tokens}
use Rattle.etcs_digits.specs.JsonLineWriter.{Line, puts}

-- Members were appended: to append further ones is to append all of them to the line before.
pub record AddsMembers (with : Members → Members) (old new : Line) : Type 0 where
  pub added : (rest : Members) → puts old (members_tokens (with rest)) ≡ puts new (members_tokens rest)
