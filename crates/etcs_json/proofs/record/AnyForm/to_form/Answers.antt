use Rattle.std.proofs.Common.{◌≡◌, ◌∙◌, ◌++◌, ℕ, List, [], Some, None, true≢false, ap, subst, sym}
use Rattle.std.specs.Str.{IsUtf8}
use Rattle.json.specs.Print.{print}
use Rattle.json.specs.Written.{Written}
use Rattle.serde_json.specs.Data.{Data}
use Rattle.serde_json.specs.Read.{max_depth, read}
use Rattle.serde_json.proofs.Texts.{print-outline}
use Rattle.etcs_schema.specs.ReadBack.{IsReadBack}
use Rattle.etcs_schema.specs.Writing.{Adds, data_tokens}
use Rattle.etcs_schema.proofs.ReadBackProofs.{data_read_back}
use Rattle.etcs_json.proofs.record.AnyForm.to_form.Goals as goal

text_is : (text : List ℕ) (d : Data) (old new : Written) → text ≡ new.before ++ print new.tokens → Adds (data_tokens d) old new → old.before ≡ [] → text ≡ print new.tokens
text_is text d old new is added empty = is ∙ ap (λ b. b ++ print new.tokens) (added.before ∙ empty)

-- the text of what was written is read as the form
text_read : (text : List ℕ) (d : Data) (old new : Written) → text ≡ new.before ++ print new.tokens → Adds (data_tokens d) old new → old.before ≡ [] → old.tokens ≡ [] → IsReadBack max_depth d
    → read text ≡ Some d
text_read text d old new is added empty none back =
    let same = text_is text d old new is added empty ∙ ap print (added.added ∙ ap (λ ts. ts ++ data_tokens d) none) ∙ print-outline d in
    ap read same ∙ data_read_back d back

same_data : (d e : Data) → Some d ≡ Some e → d ≡ e
same_data d e is = cc

none_some : (d : Data) → None ≡ Some d → ⊥
none_some d is = cc

pub returns-in-Ok-clause-form : goal.returns-in-Ok-clause-form
returns-in-Ok-clause-form g c =
    let d = g.T.ObjectForm.form.to c.args.self.now in
    let text = c.deref.ensures.value ∙ c.into_inner-text.ensures.items in
    let found = text_read c.deref.result.now d _ _ text c.in_ok-write_object.ensures (c.new-out.ensures.before ∙ c.new.ensures.items) c.new-out.ensures.tokens c.prove_read_back.ensures.text in
    same_data _ d (sym c.in-Ok.ensures.ok.1 ∙ found)

pub returns-in-Ok-clause-again : goal.returns-in-Ok-clause-again
returns-in-Ok-clause-again g c = λ range. ap g.T.ObjectForm.form.of (returns-in-Ok-clause-form g c) ∙ g.T.ObjectForm.form.again c.args.self.now (c.prove_read_back.ensures.rows range)

-- only memory can run out
pub prove-unreachable-requires : goal.prove-unreachable-requires
prove-unreachable-requires g c =
    let d = g.T.ObjectForm.form.to c.args.self.now in
    let text = c.deref.ensures.value ∙ c.into_inner-text.ensures.items in
    let empty = c.new-out.ensures.before ∙ c.new.ensures.items in
    let found = text_read c.deref.result.now d _ _ text c.in_ok-write_object.ensures empty c.new-out.ensures.tokens c.prove_read_back.ensures.text in
    let utf8 = subst IsUtf8 (sym (text_is c.deref.result.now d _ _ text c.in_ok-write_object.ensures empty)) c.into_inner-text.ensures.utf8 in
    none_some d (sym (c.in-Err.ensures.err (λ memory. true≢false (sym (c.is_memory.ensures.1 memory) ∙ c.if-prove.true)) utf8) ∙ found)
