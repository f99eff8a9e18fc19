use Rattle.std.proofs.Common.{◌∙◌, ap, arith, take_all}
use Rattle.json.specs.Reads.{token_of}
use Rattle.etcs_digits.specs.JsonLineWriter.{put}
use Rattle.etcs_digits.proofs.JsonLineWriterLemmas.{by_json}
use Rattle.etcs_digits.proofs.json_line_writer.JsonLineWriter.put_by_json.Goals as goal

-- the token's text and its comma follow the line's text
pub returns : goal.returns
returns c = record {
  ok = by_json _ _ _ _ c.requires.begins
      (take_all _ _ (omega arith) ∙ (rw (
        c.truncate.ensures.items,
        c.as_slice.ensures.value,
        c.in_ok-extend_from_slice.ensures.items,
        c.into_inner-text.ensures.items,
        c.in_ok-token.ensures.ok,
        c.in_ok-token.ensures.room.0,
        c.new-writer.ensures.tokens,
        c.new-writer.ensures.before,
        c.new.ensures.items,
        c.comma.ensures,
        c.ends_value-after_value.ensures,
      )
      at c.in_ok-extend_from_slice-2.ensures.items)) c.ends_value-after_value.ensures ∙ ap (λ l. put l (token_of c.args.token)) c.self.view_is;
  err = tt;
}
