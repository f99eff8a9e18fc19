-- The data of a text that was read, and of the tree that was made of it.
use Rattle.std.specs.Prelude.{Option, Some, None}
use Rattle.etcs_schema.specs.Prelude.{Data, Items, Members, array, item, no_items, no_members, null, number, object, put, string}
use Rattle.json.specs.Json as json
use Rattle.json.specs.Value.{value_view}
use Rattle.serde_json.specs.Data.{Num, boolean}
use Rattle.serde_json.specs.Read.{number_of}
use Rattle.etcs_schema.specs.declared.json_value.parsed_json.ParsedJson.{ParsedJson}

abbrev pub number_or_null : Option Num → Data
number_or_null None = null
number_or_null (Some n) = number n

-- the data of a tree, as serde_json has it; a number out of range is null
abbrev mutual
  pub json_data : json.Json → Data
  json_data json.null = null
  json_data (json.boolean b) = boolean b
  json_data (json.number s) = number_or_null (number_of s)
  json_data (json.string s) = string s
  json_data (json.array js) = array (items_data js)
  json_data (json.object ms) = object (members_data ms no_members)

  pub items_data : json.Items → Items
  items_data json.no_items = no_items
  items_data (json.item j js) = item (json_data j) (items_data js)

  pub members_data : json.Members → Members → Members
  members_data json.no_members found = found
  members_data (json.member k j ms) found = members_data ms (put k (json_data j) found)

-- the data of a text
abbrev pub text_data : ParsedJson → Data
text_data t = json_data (value_view t.value)
