use Rattle.std.proofs.Common.{◌≡◌, ◌+◌, ◌-◌, ◌*◌, drop}
use Rattle.cat_audit_sound.specs.Parts.{parts_to, parts_of_fields, parts_of_cases}
use Rattle.cat_audit_sound.proofs.parts.+counting.Given as goal

abbrev pub decreases-left_by : goal.decreases-left_by
decreases-left_by l = 4 * l.depth

abbrev pub decreases-left_by_content : goal.decreases-left_by_content
decreases-left_by_content l = 4 * l.depth + 1

abbrev pub decreases-left_by_fields : goal.decreases-left_by_fields
decreases-left_by_fields l = 4 * l.depth + 2

abbrev pub decreases-left_by_cases : goal.decreases-left_by_cases
decreases-left_by_cases l = 4 * l.depth + 2

abbrev pub decreases-left_by_structure : goal.decreases-left_by_structure
decreases-left_by_structure l = 4 * l.depth + 3

abbrev pub decreases-left_by_enumeration : goal.decreases-left_by_enumeration
decreases-left_by_enumeration l = 4 * l.depth + 3

abbrev pub invariant-left_by_fields-loop-field : goal.invariant-left_by_fields-loop-field
invariant-left_by_fields-loop-field l =
    l.left - parts_of_fields (parts_to l.decls l.depth) (drop l.field-index l.fields)
    ≡ l.fn.left - parts_of_fields (parts_to l.decls l.depth) l.fields

abbrev pub invariant-left_by_cases-loop-case : goal.invariant-left_by_cases-loop-case
invariant-left_by_cases-loop-case l =
    l.left - parts_of_cases (parts_to l.decls l.depth) (drop l.case-index l.cases)
    ≡ l.fn.left - parts_of_cases (parts_to l.decls l.depth) l.cases
