use Rattle.std.proofs.Common.{◌≡◌, drop}
use Rattle.cat_value.specs.Typing.{all_have_type, fields_have_types}
use Rattle.cat_value.proofs.typing.+well_typed.Given as goal

abbrev pub invariant-is_list_of-loop-element : goal.invariant-is_list_of-loop-element
invariant-is_list_of-loop-element l = all_have_type l.decls (drop l.element-index l.elements) l.ty ≡ all_have_type
    l.decls l.elements l.ty

abbrev pub invariant-are_fields-loop-i : goal.invariant-are_fields-loop-i
invariant-are_fields-loop-i l = fields_have_types l.decls (drop l.i l.values) (drop l.i l.fields) ≡ fields_have_types
    l.decls l.values l.fields
