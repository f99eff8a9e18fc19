-- The names of lower libraries that most files of this folder use.
pub use Rattle.std.proofs.Common.{inl, inr, ◌∙◌, sym, ap, ap₂, subst, arith, Ordering, Less, Equal, Greater, nat_cmp, bytes_eq, append_assoc, append-nil}
pub use Rattle.std.specs.List.{list_any, slice_get, flat_map}
pub use Rattle.std.proofs.lemmas.Bool.{eq-eqb, ne_eqb, true≢false, and_parts, and_from, or_parts, or_left, or_right, le-leb, lt-ltb, ltb-true}
pub use Rattle.serde_json.specs.Data.{string, Data, Members, member, no_members, object, put, Items, array, item, no_items, number, unsigned, null}
pub use Rattle.serde_json.specs.Find.{as_str, as_object, get, get_member, as_array, as_number, as_u64}
pub use Rattle.etcs_bits.specs.layout.Rows.{AreAllowed, IsAllowed, Row, Variable, row, width}
unfoldable pub use Rattle.etcs_bits.specs.layout.Rows.{alone}
pub use Rattle.etcs_bits.specs.layout.Combined.{option_rows, pair_rows, body_rows, l_kept, counted_rows}
pub use Rattle.etcs_bits.specs.layout.Fields.{AreRowsOf, Fields, nothing, field, ◌▹◌, sized, l_packet}
pub use Rattle.etcs_bits.specs.lemmas.ChoiceLemmas.{is_itself}
pub use Rattle.etcs_bits.specs.layout.Format.{Format, kept_bits}
pub use Rattle.etcs_bits.specs.variables.Variables.{ranged, only, plain, dir_number, dir_variable, dup_number, duplicate_variable, scale_number, scale_variable, version_number, version_variable}
pub use Rattle.etcs_bits.specs.variables.VariableFormats.{q_dir, q_scale, nid_bg, nid_c}
