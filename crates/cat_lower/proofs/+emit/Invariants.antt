use Rattle.std.proofs.Common.{◌≡◌, ◌<◌, ◌+◌, ◌*◌, max, drop, map, length, slice_get, All, Some}
use Rattle.std.specs.Option.{option_copied}
use Rattle.std.specs.Prelude.{option_to_list}
use denote.Param.Weighed.{most}
use Rattle.cat_scope.specs.declared.expr.Expr.{size-Expr}
use Rattle.cat_scope.specs.declared.expr.Arm.{size-Arm}
use Rattle.cat_scope.specs.declared.expr.FieldValue.{size-FieldValue}
use Rattle.cat_scope.specs.Fitting.{field_type, input_type}
use Rattle.cat_code.specs.declared.instr.Instr.TheVariants as instr
use Rattle.cat_lower.specs.declared.growing.Growing.{Growing}
use Rattle.cat_lower.specs.Grown.{Grown, all_patched}
use Rattle.cat_lower.specs.Laying.{all_code}
use Rattle.cat_lower.specs.Pieces.{pass_all}
use Rattle.cat_lower.specs.Rows.{arguments_code, params_of, fields_code, values_code, arms_code}
use Rattle.cat_lower.specs.Expressions.{lowered}
use Rattle.cat_lower.specs.Told.{standing_at}
use Rattle.cat_lower.proofs.+emit.Given as goal

abbrev pub decreases-expressions::emit : goal.decreases-expressions::emit
decreases-expressions::emit l = 16 * size-Expr l.e.now

abbrev pub decreases-expressions::emit_part : goal.decreases-expressions::emit_part
decreases-expressions::emit_part l = 16 * size-Expr l.part.now + 1

abbrev pub decreases-expressions::emit_shared : goal.decreases-expressions::emit_shared
decreases-expressions::emit_shared l = 16 * size-Expr l.shared.now + 1

abbrev pub decreases-expressions::emit_under : goal.decreases-expressions::emit_under
decreases-expressions::emit_under l = 16 * size-Expr l.e.now + 1

abbrev pub decreases-expressions::emit_part_under : goal.decreases-expressions::emit_part_under
decreases-expressions::emit_part_under l = 16 * size-Expr l.part.now + 2

abbrev pub decreases-expressions::emit_then : goal.decreases-expressions::emit_then
decreases-expressions::emit_then l = 16 * size-Expr l.part.now + 2

abbrev pub decreases-expressions::emit_unary : goal.decreases-expressions::emit_unary
decreases-expressions::emit_unary l = 16 * size-Expr l.of.now + 2

abbrev pub decreases-expressions::emit_binary : goal.decreases-expressions::emit_binary
decreases-expressions::emit_binary l = 16 * (max (size-Expr l.left.now) (size-Expr l.right.now)) + 2

abbrev pub decreases-expressions::emit_and : goal.decreases-expressions::emit_and
decreases-expressions::emit_and l = 16 * (max (size-Expr l.left.now) (size-Expr l.right.now)) + 2

abbrev pub decreases-expressions::emit_or : goal.decreases-expressions::emit_or
decreases-expressions::emit_or l = 16 * (max (size-Expr l.left.now) (size-Expr l.right.now)) + 2

abbrev pub decreases-expressions::emit_if : goal.decreases-expressions::emit_if
decreases-expressions::emit_if l =
    16 * (max (size-Expr l.test.now) (max (size-Expr l.yes.now) (size-Expr l.no.now))) + 2

abbrev pub decreases-expressions::emit_is_case : goal.decreases-expressions::emit_is_case
decreases-expressions::emit_is_case l = 16 * size-Expr l.of.now + 3

abbrev pub decreases-expressions::emit_case : goal.decreases-expressions::emit_case
decreases-expressions::emit_case l = 16 * most size-Expr (option_to_list l.content.now) + 3

abbrev pub decreases-expressions::emit_tag : goal.decreases-expressions::emit_tag
decreases-expressions::emit_tag l = 16 * size-Expr l.content.now + 2

abbrev pub decreases-loops::emit_test : goal.decreases-loops::emit_test
decreases-loops::emit_test l = 16 * size-Expr l.test.now + 3

abbrev pub decreases-loops::emit_for_all : goal.decreases-loops::emit_for_all
decreases-loops::emit_for_all l = 16 * (max (size-Expr l.list.now) (size-Expr l.test.now)) + 4

abbrev pub decreases-loops::emit_exists : goal.decreases-loops::emit_exists
decreases-loops::emit_exists l = 16 * (max (size-Expr l.list.now) (size-Expr l.test.now)) + 4

abbrev pub decreases-loops::emit_map : goal.decreases-loops::emit_map
decreases-loops::emit_map l = 16 * (max (size-Expr l.list.now) (size-Expr l.body.now)) + 3

abbrev pub decreases-loops::emit_filter : goal.decreases-loops::emit_filter
decreases-loops::emit_filter l = 16 * (max (size-Expr l.list.now) (size-Expr l.test.now)) + 3

abbrev pub decreases-loops::emit_step : goal.decreases-loops::emit_step
decreases-loops::emit_step l = 16 * size-Expr l.step.now + 3

abbrev pub decreases-loops::emit_combine : goal.decreases-loops::emit_combine
decreases-loops::emit_combine l =
    16 * (max (size-Expr l.list.now) (max (size-Expr l.start.now) (size-Expr l.step.now))) + 4

abbrev pub decreases-loops::emit_contains : goal.decreases-loops::emit_contains
decreases-loops::emit_contains l = 16 * (max (size-Expr l.list.now) (size-Expr l.of.now)) + 2

abbrev pub decreases-loops::emit_sum : goal.decreases-loops::emit_sum
decreases-loops::emit_sum l = 16 * size-Expr l.list.now + 2

abbrev pub decreases-arms::emit_match : goal.decreases-arms::emit_match
decreases-arms::emit_match l = 16 * max (size-Expr l.of.now) (most size-Arm l.arms.now) + 6

abbrev pub decreases-arms::emit_arms : goal.decreases-arms::emit_arms
decreases-arms::emit_arms l = 16 * most size-Arm l.arms.now + 5

abbrev pub decreases-arms::lay_arms : goal.decreases-arms::lay_arms
decreases-arms::lay_arms l = 16 * most size-Arm l.arms.now + 4

abbrev pub decreases-arms::emit_arm : goal.decreases-arms::emit_arm
decreases-arms::emit_arm l = 16 * size-Arm l.arm.now + 3

abbrev pub decreases-arms::emit_body : goal.decreases-arms::emit_body
decreases-arms::emit_body l = 16 * size-Arm l.arm.now + 2

abbrev pub decreases-arms::emit_bound : goal.decreases-arms::emit_bound
decreases-arms::emit_bound l = 16 * size-Expr l.body.now + 2

abbrev pub decreases-arms::emit_plain : goal.decreases-arms::emit_plain
decreases-arms::emit_plain l = 16 * size-Expr l.body.now + 1

abbrev pub decreases-rows::emit_list : goal.decreases-rows::emit_list
decreases-rows::emit_list l = 16 * most size-Expr l.elements.now + 3

abbrev pub decreases-rows::emit_elements : goal.decreases-rows::emit_elements
decreases-rows::emit_elements l = 16 * max (size-Expr l.first.now) (most size-Expr l.rest.now) + 2

abbrev pub decreases-rows::emit_all : goal.decreases-rows::emit_all
decreases-rows::emit_all l = 16 * most size-Expr l.elements.now + 1

abbrev pub decreases-rows::emit_call : goal.decreases-rows::emit_call
decreases-rows::emit_call l = 16 * most size-Expr l.arguments.now + 2

abbrev pub decreases-rows::emit_arguments : goal.decreases-rows::emit_arguments
decreases-rows::emit_arguments l = 16 * most size-Expr l.arguments.now + 1

abbrev pub decreases-rows::emit_structure : goal.decreases-rows::emit_structure
decreases-rows::emit_structure l = 16 * most size-FieldValue l.fields.now + 2

abbrev pub decreases-rows::emit_fields : goal.decreases-rows::emit_fields
decreases-rows::emit_fields l = 16 * most size-FieldValue l.fields.now + 1

abbrev pub decreases-rows::emit_scope_call : goal.decreases-rows::emit_scope_call
decreases-rows::emit_scope_call l = 16 * most size-FieldValue l.fields.now + 2

abbrev pub decreases-rows::emit_inputs : goal.decreases-rows::emit_inputs
decreases-rows::emit_inputs l = 16 * most size-FieldValue l.fields.now + 1

abbrev pub invariant-rows::emit_all-loop-element : goal.invariant-rows::emit_all-loop-element
invariant-rows::emit_all-loop-element l = record {
  grown : (new : Growing)
      → Grown l.growing new (all_code
      (map (λ o. o.code l.fn.locals (Some l.ty))
      (map (lowered (standing_at l.here)) (drop l.element-index l.elements))))
      → Grown l.fn.growing new
      (all_code (map (λ o. o.code l.fn.locals (Some l.ty)) (map (lowered (standing_at l.here)) l.elements)));
  kept : l.locals ≡ l.fn.locals;
}

abbrev pub invariant-rows::emit_arguments-loop-number : goal.invariant-rows::emit_arguments-loop-number
invariant-rows::emit_arguments-loop-number l = record {
  grown : (new : Growing)
      → Grown l.growing new (arguments_code (drop l.number (params_of (slice_get l.here.items.now l.function)))
      (map (lowered (standing_at l.here)) (drop l.number l.arguments)) l.fn.locals)
      → Grown l.fn.growing new
      (arguments_code (params_of (slice_get l.here.items.now l.function))
      (map (lowered (standing_at l.here)) l.arguments) l.fn.locals);
  kept : l.locals ≡ l.fn.locals;
}

abbrev pub invariant-rows::emit_fields-loop-field : goal.invariant-rows::emit_fields-loop-field
invariant-rows::emit_fields-loop-field l = record {
  grown : (new : Growing)
      → Grown l.growing new (values_code
      (fields_code (field_type l.here.decls.now l.structure)
      (map (λ f. (f.field, lowered (standing_at l.here) f.value)) (drop l.field-index l.fields)) l.fn.locals))
      → Grown l.fn.growing new
      (values_code (fields_code (field_type l.here.decls.now l.structure)
      (map (λ f. (f.field, lowered (standing_at l.here) f.value)) l.fields) l.fn.locals));
  kept : l.locals ≡ l.fn.locals;
}

abbrev pub invariant-rows::emit_inputs-loop-field : goal.invariant-rows::emit_inputs-loop-field
invariant-rows::emit_inputs-loop-field l = record {
  grown : (new : Growing)
      → Grown l.growing new (pass_all
      (fields_code (input_type l.here.decls.now l.scope)
      (map (λ f. (f.field, lowered (standing_at l.here) f.value)) (drop l.field-index l.fields)) l.fn.locals))
      → Grown l.fn.growing new
      (pass_all (fields_code (input_type l.here.decls.now l.scope)
      (map (λ f. (f.field, lowered (standing_at l.here) f.value)) l.fields) l.fn.locals));
  kept : l.locals ≡ l.fn.locals;
}

abbrev pub invariant-arms::lay_arms-loop-arm : goal.invariant-arms::lay_arms-loop-arm
invariant-arms::lay_arms-loop-arm l = record {
  grown : (new : Growing)
      → Grown l.growing new (arms_code (standing_at l.here) l.enumeration l.ty
      (map (λ a. (a.pattern, lowered (standing_at l.here) a.body)) (drop l.arm-index l.arms)) l.fn.locals
      (option_copied l.wanted))
      → Grown l.fn.growing (all_patched l.ends (instr.Jump (length new.instructions)) new)
      (arms_code (standing_at l.here) l.enumeration l.ty
      (map (λ a. (a.pattern, lowered (standing_at l.here) a.body)) l.arms) l.fn.locals (option_copied l.expected));
  within : All (λ at. at < length l.growing.instructions) l.ends;
  kept : l.locals ≡ l.fn.locals;
}
