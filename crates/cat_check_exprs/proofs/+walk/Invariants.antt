use Rattle.std.proofs.Common.{◌≡◌, ◌+◌, ◌*◌, max, drop}
use Rattle.cat_tree.specs.declared.expression.Node.{size-Node}
use Rattle.cat_tree.specs.declared.expression.SurfaceArm.{size-SurfaceArm}
use Rattle.cat_tree.specs.declared.expression.SurfaceField.{size-SurfaceField}
use denote.Param.Weighed.{most}
use Rattle.cat_names.specs.Meaning.{arm_meant, field_meant, meant}
use Rattle.cat_names.specs.Parts.{all_arms, all_of_type, arguments_of, values_of}
use Rattle.cat_check_forms.specs.Tabled.{names_at}
use Rattle.cat_check_forms.specs.Taken.{part_named}
use Rattle.cat_check_exprs.specs.inside.Chains.{behind}
use Rattle.cat_check_exprs.proofs.+walk.Given as goal

abbrev pub decreases-walk::resolve : goal.decreases-walk::resolve
decreases-walk::resolve l = 8 * size-Node l.node.now

abbrev pub decreases-walk::infer_inside : goal.decreases-walk::infer_inside
decreases-walk::infer_inside l = 8 * size-Node l.inner.now + 1

abbrev pub decreases-walk::infer_field : goal.decreases-walk::infer_field
decreases-walk::infer_field l = 8 * size-Node l.base.now + 1

abbrev pub decreases-walk::infer_prefixed : goal.decreases-walk::infer_prefixed
decreases-walk::infer_prefixed l = 8 * size-Node l.operand.now + 1

abbrev pub decreases-walk::infer_sum : goal.decreases-walk::infer_sum
decreases-walk::infer_sum l = 8 * size-Node l.list.now + 1

abbrev pub decreases-walk::infer_content : goal.decreases-walk::infer_content
decreases-walk::infer_content l = 8 * size-Node l.content.now + 1

abbrev pub decreases-walk::infer_test : goal.decreases-walk::infer_test
decreases-walk::infer_test l = 8 * size-Node l.tested.now + 1

abbrev pub decreases-walk::infer_two : goal.decreases-walk::infer_two
decreases-walk::infer_two l = 8 * (max (size-Node l.left.now) (size-Node l.right.now)) + 1

abbrev pub decreases-walk::infer_binary : goal.decreases-walk::infer_binary
decreases-walk::infer_binary l = 8 * (max (size-Node l.left.now) (size-Node l.right.now)) + 2

abbrev pub decreases-walk::infer_branches : goal.decreases-walk::infer_branches
decreases-walk::infer_branches l = 8 * (max (size-Node l.yes.now) (size-Node l.no.now)) + 1

abbrev pub decreases-walk::infer_if : goal.decreases-walk::infer_if
decreases-walk::infer_if l = 8 * (max (size-Node l.test.now) (max (size-Node l.yes.now) (size-Node l.no.now))) + 2

abbrev pub decreases-lists::infer_all : goal.decreases-lists::infer_all
decreases-lists::infer_all l = 8 * (most size-Node l.nodes.now) + 1

abbrev pub decreases-lists::infer_elements : goal.decreases-lists::infer_elements
decreases-lists::infer_elements l = 8 * (most size-Node l.nodes.now) + 2

abbrev pub decreases-lists::infer_list : goal.decreases-lists::infer_list
decreases-lists::infer_list l = 8 * (most size-Node l.nodes.now) + 3

abbrev pub decreases-lists::infer_arguments : goal.decreases-lists::infer_arguments
decreases-lists::infer_arguments l = 8 * (most size-Node l.args.now) + 1

abbrev pub decreases-lists::infer_call : goal.decreases-lists::infer_call
decreases-lists::infer_call l = 8 * (most size-Node l.args.now) + 2

abbrev pub decreases-lists::infer_value : goal.decreases-lists::infer_value
decreases-lists::infer_value l = 8 * size-SurfaceField l.field.now + 1

abbrev pub decreases-lists::infer_values : goal.decreases-lists::infer_values
decreases-lists::infer_values l = 8 * (most size-SurfaceField l.fields.now) + 2

abbrev pub decreases-lists::infer_structure : goal.decreases-lists::infer_structure
decreases-lists::infer_structure l = 8 * (most size-SurfaceField l.fields.now) + 3

abbrev pub decreases-lists::infer_scope_call : goal.decreases-lists::infer_scope_call
decreases-lists::infer_scope_call l = 8 * (most size-SurfaceField l.fields.now) + 3

abbrev pub decreases-binders::infer_under : goal.decreases-binders::infer_under
decreases-binders::infer_under l = 8 * size-Node l.body.now + 1

abbrev pub decreases-binders::infer_under_two : goal.decreases-binders::infer_under_two
decreases-binders::infer_under_two l = 8 * size-Node l.body.now + 2

abbrev pub decreases-binders::infer_body : goal.decreases-binders::infer_body
decreases-binders::infer_body l = 8 * size-Node l.body.now + 2

abbrev pub decreases-binders::infer_arm : goal.decreases-binders::infer_arm
decreases-binders::infer_arm l = 8 * size-SurfaceArm l.arm.now + 3

abbrev pub decreases-binders::infer_more_arms : goal.decreases-binders::infer_more_arms
decreases-binders::infer_more_arms l = 8 * (most size-SurfaceArm l.arms.now) + 4

abbrev pub decreases-binders::infer_arms : goal.decreases-binders::infer_arms
decreases-binders::infer_arms l = 8 * (most size-SurfaceArm l.arms.now) + 5

abbrev pub decreases-binders::infer_match : goal.decreases-binders::infer_match
decreases-binders::infer_match l = 8 * (max (size-Node l.tested.now) (most size-SurfaceArm l.arms.now)) + 7

abbrev pub decreases-binders::infer_each : goal.decreases-binders::infer_each
decreases-binders::infer_each l = 8 * (max (size-Node l.list.now) (size-Node l.body.now)) + 2

abbrev pub decreases-binders::infer_combine : goal.decreases-binders::infer_combine
decreases-binders::infer_combine l =
    8 * (max (size-Node l.list.now) (max (size-Node l.start.now) (size-Node l.body.now))) + 3

abbrev pub invariant-lists::infer_all-loop-node : goal.invariant-lists::infer_all-loop-node
invariant-lists::infer_all-loop-node l = (l.locals ≡ l.fn.locals)
    × (behind l.made (all_of_type (meant (names_at l.here)) (drop l.node-index l.nodes) l.fn.locals l.ty)
    ≡ behind l.fn.made (all_of_type (meant (names_at l.here)) l.nodes l.fn.locals l.ty))

abbrev pub invariant-lists::infer_arguments-loop-number : goal.invariant-lists::infer_arguments-loop-number
invariant-lists::infer_arguments-loop-number l = (l.locals ≡ l.fn.locals)
    × (behind l.made (arguments_of (meant (names_at l.here)) (drop l.number l.args) l.fn.locals
    (drop l.number l.params))
    ≡ arguments_of (meant (names_at l.here)) l.args l.fn.locals l.params)

abbrev pub invariant-lists::infer_values-loop-field : goal.invariant-lists::infer_values-loop-field
invariant-lists::infer_values-loop-field l = (l.locals ≡ l.fn.locals)
    × (behind l.made (values_of (field_meant (names_at l.here)) (part_named l.here.decls.now l.owner)
    (drop l.field-index l.fields) l.fn.locals)
    ≡ values_of (field_meant (names_at l.here)) (part_named l.here.decls.now l.owner) l.fields l.fn.locals)

abbrev pub invariant-binders::infer_more_arms-loop-arm : goal.invariant-binders::infer_more_arms-loop-arm
invariant-binders::infer_more_arms-loop-arm l = (l.locals ≡ l.fn.locals)
    × (behind l.made (all_arms (arm_meant (names_at l.here)) (names_at l.here) l.place l.enumeration
    (drop l.arm-index l.arms) l.fn.locals l.ty)
    ≡ behind l.fn.made (all_arms (arm_meant (names_at l.here)) (names_at l.here) l.place l.enumeration l.arms
    l.fn.locals
    l.ty))
