use Rattle.json.specs.Value.{value_view}
use Rattle.etcs_schema.proofs.MemberLemmas.{member_found}
use Rattle.etcs_schema.proofs.json_value.tree_value.ValueJsonTree.member.Goals as goal

pub returns : goal.returns
returns c = member_found (λ v. value_view v.now) c.get.result c.args.name.now (value_view c.args.self.now) c.get.ensures
