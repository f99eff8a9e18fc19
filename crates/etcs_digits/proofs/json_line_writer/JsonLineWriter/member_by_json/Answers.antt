use Rattle.std.proofs.Common.{refl, sym}
use Rattle.json.specs.Token.{key}
use Rattle.etcs_digits.proofs.JsonLineWriterLemmas.{restored}
use Rattle.etcs_digits.proofs.json_line_writer.JsonLineWriter.member_by_json.Goals as goal

-- the key is removed again
pub returns-then-is_err : goal.returns-then-is_err
returns-then-is_err c =
    restored _ _ c.self.inside.bytes.items _ c.self-2.inside.len _ _ (key c.args.name.now) _ _ _ _
    c.self.view_is c.self.invariant c.in_ok-put_by_json.ensures.ok refl c.self-2.view_is c.number-added.ensures.err (sym c.if-is_err.ensures.value)
