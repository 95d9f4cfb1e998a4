use Rattle.std.proofs.Common.{rules, ◌≡◌, ◌+◌, ◌++◌, ℕ, List, [], ◌∷◌, Some, None, length, drop, map}
use Rattle.std.proofs.Common.{◌∙◌, sym, ap, refl, append_assoc, slice_get}
use Rattle.std.specs.Option.{option_copied}
use Rattle.std.proofs.lemmas.List.{drop_all, length-map}
use Rattle.cat_value.specs.declared.ty.Ty.{Ty}
use Rattle.cat_value.specs.declared.ty.Ty.TheViews as ty
use Rattle.cat_scope.specs.declared.expr.Expr.{Expr}
use Rattle.cat_scope.specs.declared.expr.Expr.TheViews as expr
use Rattle.cat_code.specs.declared.instr.Instr.TheVariants as instr
use Rattle.cat_lower.specs.Expressions.{lowered, collecting}
use Rattle.cat_lower.specs.Told.{standing_at}
use Rattle.cat_lower.specs.Types.{element_type, element_expected, enumeration_in, arms_type, arm_types, is_bound}
use Rattle.cat_value.specs.declared.value.Value.{Value}
use Rattle.cat_scope.specs.Literals.{literal_type}
use Rattle.cat_lower.specs.Pieces.{constant, packed, pass_all, arm_body}
use Rattle.cat_lower.specs.Rows.{case_number, function_number, params_of, arguments_code, values_code, fields_code}
use Rattle.cat_lower.specs.Rows.{arms_code}
use Rattle.cat_scope.specs.Fitting.{field_type, input_type}
use Rattle.cat_scope.specs.declared.expr.Arm.{Arm}
use Rattle.cat_scope.specs.declared.expr.FieldValue.{FieldValue}
use Rattle.cat_value.specs.declared.ty.Ty.TheViews.{out-Ty}
use Rattle.cat_lower.proofs.CodeOf.{code_Literal, code_Item, code_Output, code_Local, code_Field, code_Unary}
use Rattle.cat_lower.proofs.CodeOf.{code_Binary, code_And, code_Or, code_If, code_Match, code_IsCase, code_Case}
use Rattle.cat_lower.proofs.CodeOf.{code_Structure, code_List, code_ForAll, code_Exists, code_Map, code_Filter}
use Rattle.cat_lower.proofs.CodeOf.{code_Combine, code_Contains, code_Length, code_Sum, code_Call, code_ScopeCall}
use Rattle.cat_lower.proofs.Grows.{then_ok, grown_then, kept_code, told_code, same_code, same_ok, at_whole}
use Rattle.cat_lower.specs.Laying.{Coded, one, all_code}
use Rattle.cat_lower.proofs.Patches.{closed_ok, sides_ok, last_place}
use Rattle.cat_lower.proofs.Rests.{next, step_on, end_on}
use Rattle.cat_lower.proofs.SameCode.{typed_alike, tested, collected, under_code, stepped, exchanged_code}
use Rattle.cat_lower.proofs.SameCode.{contained_code, kept_code_at, led_ok, all_told}
use Rattle.cat_lower.proofs.Chained.{arms_of, anything_first, case_first, arm_next, arm_last, still_within, one_within}
use Rattle.cat_lower.proofs.SameCode.{list_told, arms_told, argument_next, no_arguments, pass_on, side_told}
use Rattle.cat_lower.proofs.SameCode.{side_closed, ends_patched}
use Rattle.cat_lower.proofs.+emit.Goals as goal

pub expressions::emit-returns-in-Match-clause-grown : goal.expressions::emit-returns-in-Match-clause-grown
expressions::emit-returns-in-Match-clause-grown t c =
    at_whole _ _ _ _ _ _ _ _
    (c.in-Match.is ∙ ap (λ a. expr.Match c.in-Match.field-0 c.in-Match.of a) (sym c.get.ensures))
    (code_Match _ _ _ _ _ _ _ _ _ c.emit_match.ensures.grown)

pub expressions::emit-returns-in-ScopeCall-clause-grown : goal.expressions::emit-returns-in-ScopeCall-clause-grown
expressions::emit-returns-in-ScopeCall-clause-grown t c =
    at_whole _ _ _ _ _ _ _ _
    (c.in-ScopeCall.is ∙ ap (λ fs. expr.ScopeCall c.in-ScopeCall.field-0 c.in-ScopeCall.scope fs c.in-ScopeCall.output)
    (sym c.get-in-ScopeCall.ensures))
    (code_ScopeCall _ _ _ _ c.in-ScopeCall.field-0 c.in-ScopeCall.scope c.get-in-ScopeCall.result.now
    c.in-ScopeCall.output _ _ c.emit_scope_call.ensures.grown)

pub expressions::emit-returns-in-Literal-clause-grown : goal.expressions::emit-returns-in-Literal-clause-grown
expressions::emit-returns-in-Literal-clause-grown t c =
    at_whole _ _ _ _ _ _ _ _ c.in-Literal.is (code_Literal _ _ _ _ c.in-Literal.field-0 c.in-Literal.literal _ _
    (same_ok _ _ _ _ _ (ap (λ (u : Ty). constant u c.literal_value.result) c.literal_ty.ensures
    ∙ ap (λ (v : Value). constant (literal_type c.in-Literal.literal) v) c.literal_value.ensures)
    c.put_constant.ensures))

pub expressions::emit-returns-in-Item-clause-grown : goal.expressions::emit-returns-in-Item-clause-grown
expressions::emit-returns-in-Item-clause-grown t c =
    at_whole _ _ _ _ _ _ _ _ c.in-Item.is (code_Item _ _ _ _ _ _ _ _ c.put.ensures)

pub expressions::emit-returns-in-Output-clause-grown : goal.expressions::emit-returns-in-Output-clause-grown
expressions::emit-returns-in-Output-clause-grown t c =
    at_whole _ _ _ _ _ _ _ _ c.in-Output.is (code_Output _ _ _ _ _ _ _ _ _ c.put_output.ensures)

pub expressions::emit-returns-in-Local-clause-grown : goal.expressions::emit-returns-in-Local-clause-grown
expressions::emit-returns-in-Local-clause-grown t c =
    at_whole _ _ _ _ _ _ _ _ c.in-Local.is (code_Local _ _ _ _ _ _ _ _ c.put-in-Local.ensures)

pub expressions::emit-returns-in-Field-clause-grown : goal.expressions::emit-returns-in-Field-clause-grown
expressions::emit-returns-in-Field-clause-grown t c =
    at_whole _ _ _ _ _ _ _ _ c.in-Field.is (code_Field _ _ _ _ _ _ _ _ _ c.emit_then.ensures.grown)

pub expressions::emit-returns-in-Unary-clause-grown : goal.expressions::emit-returns-in-Unary-clause-grown
expressions::emit-returns-in-Unary-clause-grown t c =
    at_whole _ _ _ _ _ _ _ _ c.in-Unary.is (code_Unary _ _ _ _ _ _ _ _ _ c.emit_unary.ensures.grown)

pub expressions::emit-returns-in-Binary-clause-grown : goal.expressions::emit-returns-in-Binary-clause-grown
expressions::emit-returns-in-Binary-clause-grown t c =
    at_whole _ _ _ _ _ _ _ _ c.in-Binary.is (code_Binary _ _ _ _ _ _ _ _ _ _ _ c.emit_binary.ensures.grown)

pub expressions::emit-returns-in-And-clause-grown : goal.expressions::emit-returns-in-And-clause-grown
expressions::emit-returns-in-And-clause-grown t c =
    at_whole _ _ _ _ _ _ _ _ c.in-And.is (code_And _ _ _ _ _ _ _ _ _ c.emit_and.ensures.grown)

pub expressions::emit-returns-in-Or-clause-grown : goal.expressions::emit-returns-in-Or-clause-grown
expressions::emit-returns-in-Or-clause-grown t c =
    at_whole _ _ _ _ _ _ _ _ c.in-Or.is (code_Or _ _ _ _ _ _ _ _ _ c.emit_or.ensures.grown)

pub expressions::emit-returns-in-If-clause-grown : goal.expressions::emit-returns-in-If-clause-grown
expressions::emit-returns-in-If-clause-grown t c =
    at_whole _ _ _ _ _ _ _ _ c.in-If.is (code_If _ _ _ _ _ _ _ _ _ _ c.emit_if.ensures.grown)

pub expressions::emit-returns-in-IsCase-clause-grown : goal.expressions::emit-returns-in-IsCase-clause-grown
expressions::emit-returns-in-IsCase-clause-grown t c =
    at_whole _ _ _ _ _ _ _ _ c.in-IsCase.is (code_IsCase _ _ _ _ _ _ _ _ _ _ c.emit_is_case.ensures.grown)

pub expressions::emit-returns-in-Structure-clause-grown : goal.expressions::emit-returns-in-Structure-clause-grown
expressions::emit-returns-in-Structure-clause-grown t c =
    at_whole _ _ _ _ _ _ _ _ c.in-Structure.is
    (code_Structure _ _ _ _ c.in-Structure.field-0 c.in-Structure.structure c.in-Structure.fields _ _
    c.emit_structure.ensures.grown)

pub expressions::emit-returns-in-List-clause-grown : goal.expressions::emit-returns-in-List-clause-grown
expressions::emit-returns-in-List-clause-grown t c =
    at_whole _ _ _ _ _ _ _ _ c.in-List.is (code_List _ _ _ _ _ _ _ _ c.emit_list.ensures.grown)

pub expressions::emit-returns-in-ForAll-clause-grown : goal.expressions::emit-returns-in-ForAll-clause-grown
expressions::emit-returns-in-ForAll-clause-grown t c =
    at_whole _ _ _ _ _ _ _ _ c.in-ForAll.is (code_ForAll _ _ _ _ _ _ _ _ _ c.emit_for_all.ensures.grown)

pub expressions::emit-returns-in-Exists-clause-grown : goal.expressions::emit-returns-in-Exists-clause-grown
expressions::emit-returns-in-Exists-clause-grown t c =
    at_whole _ _ _ _ _ _ _ _ c.in-Exists.is (code_Exists _ _ _ _ _ _ _ _ _ c.emit_exists.ensures.grown)

pub expressions::emit-returns-in-Map-clause-grown : goal.expressions::emit-returns-in-Map-clause-grown
expressions::emit-returns-in-Map-clause-grown t c =
    at_whole _ _ _ _ _ _ _ _ c.in-Map.is (code_Map _ _ _ _ _ _ _ _ _ c.emit_map.ensures.grown)

pub expressions::emit-returns-in-Filter-clause-grown : goal.expressions::emit-returns-in-Filter-clause-grown
expressions::emit-returns-in-Filter-clause-grown t c =
    at_whole _ _ _ _ _ _ _ _ c.in-Filter.is (code_Filter _ _ _ _ _ _ _ _ _ c.emit_filter.ensures.grown)

pub expressions::emit-returns-in-Combine-clause-grown : goal.expressions::emit-returns-in-Combine-clause-grown
expressions::emit-returns-in-Combine-clause-grown t c =
    at_whole _ _ _ _ _ _ _ _ c.in-Combine.is (code_Combine _ _ _ _ _ _ _ _ _ _ c.emit_combine.ensures.grown)

pub expressions::emit-returns-in-Contains-clause-grown : goal.expressions::emit-returns-in-Contains-clause-grown
expressions::emit-returns-in-Contains-clause-grown t c =
    at_whole _ _ _ _ _ _ _ _ c.in-Contains.is (code_Contains _ _ _ _ _ _ _ _ _ _ c.emit_contains.ensures.grown)

pub expressions::emit-returns-in-Length-clause-grown : goal.expressions::emit-returns-in-Length-clause-grown
expressions::emit-returns-in-Length-clause-grown t c =
    at_whole _ _ _ _ _ _ _ _ c.in-Length.is (code_Length _ _ _ _ _ _ _ _ c.emit_then-in-Length.ensures.grown)

pub expressions::emit-returns-in-Sum-clause-grown : goal.expressions::emit-returns-in-Sum-clause-grown
expressions::emit-returns-in-Sum-clause-grown t c =
    at_whole _ _ _ _ _ _ _ _ c.in-Sum.is (code_Sum _ _ _ _ _ _ _ _ _ c.emit_sum.ensures.grown)

pub expressions::emit-returns-in-Call-clause-grown : goal.expressions::emit-returns-in-Call-clause-grown
expressions::emit-returns-in-Call-clause-grown t c =
    at_whole _ _ _ _ _ _ _ _ c.in-Call.is (code_Call _ _ _ _ _ _ _ _ _ c.emit_call.ensures.grown)

pub expressions::emit-returns-in-Case-clause-grown : goal.expressions::emit-returns-in-Case-clause-grown
expressions::emit-returns-in-Case-clause-grown t c =
    at_whole _ _ _ _ _ _ _ _ c.in-Case.is (code_Case _ _ _ _ _ _ _ c.in-Case.content _ _ c.emit_case.ensures.grown)

pub expressions::emit_then-returns-clause-grown : goal.expressions::emit_then-returns-clause-grown
expressions::emit_then-returns-clause-grown t c = then_ok _ _ _ _ _ _ c.in_ok-emit_part.ensures.grown c.put.ensures

pub expressions::emit_unary-returns-clause-grown : goal.expressions::emit_unary-returns-clause-grown
expressions::emit_unary-returns-clause-grown t c =
    then_ok _ _ _ _ _ _ c.in_ok-emit_part.ensures.grown c.put_unary.ensures

pub expressions::emit_binary-returns-clause-grown : goal.expressions::emit_binary-returns-clause-grown
expressions::emit_binary-returns-clause-grown t c =
    then_ok _ _ _ _ _ _ c.in_ok-emit_part.ensures.grown
    (then_ok _ _ _ _ _ _ (kept_code _ _ _ _ _ _ _ c.in_ok-emit_part.ensures.kept c.in_ok-emit_part-2.ensures.grown)
    c.put_binary.ensures)

pub expressions::emit_and-returns-clause-grown : goal.expressions::emit_and-returns-clause-grown
expressions::emit_and-returns-clause-grown t c =
    then_ok _ _ _ _ _ _ c.in_ok-emit_shared.ensures.grown
    (sides_ok _ _ _ _ _ _ _ _ _ _ _ c.close_sides.ensures c.in_ok-test.ensures.place c.in_ok-first.ensures.place
    c.in_ok-test.ensures.grown
    (kept_code _ _ _ _ _ _ _ c.in_ok-emit_shared.ensures.kept c.in_ok-emit_part.ensures.grown)
    c.in_ok-first.ensures.grown
    c.in_ok-put_truth.ensures)

pub expressions::emit_or-returns-clause-grown : goal.expressions::emit_or-returns-clause-grown
expressions::emit_or-returns-clause-grown t c =
    then_ok _ _ _ _ _ _ c.in_ok-emit_part.ensures.grown
    (sides_ok _ _ _ _ _ _ _ _ _ _ _ c.close_sides.ensures c.in_ok-test.ensures.place c.in_ok-first.ensures.place
    c.in_ok-test.ensures.grown
    c.in_ok-put_truth.ensures c.in_ok-first.ensures.grown
    (kept_code _ _ _ _ _ _ _ c.in_ok-emit_part.ensures.kept c.in_ok-emit_part-2.ensures.grown))

pub expressions::emit_if-returns-clause-grown : goal.expressions::emit_if-returns-clause-grown
expressions::emit_if-returns-clause-grown t c =
    let first = c.in_ok-emit_part.ensures.kept in
    let second = c.in_ok-ty.ensures.kept ∙ first in
    let third = c.in_ok-emit_part-2.ensures.kept ∙ second in
    then_ok _ _ _ _ _ _ c.in_ok-emit_part.ensures.grown
    (sides_ok _ _ _ _ _ _ _ _ _ _ _ c.close_sides.ensures c.in_ok-test.ensures.place c.in_ok-first.ensures.place
    c.in_ok-test.ensures.grown
    (kept_code _ _ _ _ _ _ _ second c.in_ok-emit_part-2.ensures.grown) c.in_ok-first.ensures.grown
    (told_code _ _ _ _ _ _ _ _ third
    (ap (λ (u : Ty). Some u) (c.in_ok-ty.ensures.ty ∙ typed_alike _ _ _ _ _ first))
    c.in_ok-emit_part-3.ensures.grown))

pub expressions::emit_is_case-returns-clause-grown : goal.expressions::emit_is_case-returns-clause-grown
expressions::emit_is_case-returns-clause-grown t c =
    then_ok _ _ _ _ _ _ c.in_ok-emit_part.ensures.grown c.put_is_case.ensures

pub expressions::emit_tag-returns-clause-grown : goal.expressions::emit_tag-returns-clause-grown
expressions::emit_tag-returns-clause-grown t c =
    then_ok _ _ _ _ _ _ (told_code _ _ _ _ _ _ _ _ refl c.content_type-expected.ensures c.in_ok-emit_part.ensures.grown)
    c.put_tag.ensures

pub loops::emit_test-returns-clause-grown : goal.loops::emit_test-returns-clause-grown
loops::emit_test-returns-clause-grown t c =
    then_ok _ _ _ _ _ _ c.in_ok-put.ensures (then_ok _ _ _ _ _ _ c.in_ok-emit_part_under.ensures.grown c.put-2.ensures)

pub loops::emit_for_all-returns-clause-grown : goal.loops::emit_for_all-returns-clause-grown
loops::emit_for_all-returns-clause-grown t c =
    let kept = c.in_ok-element.ensures.kept ∙ c.in_ok-emit_part.ensures.kept in
    let here = standing_at c.args.here.now in
    let element : c.in_ok-element.element ≡ element_type ((lowered here c.args.list.now).type c.args.locals.now None) =
    c.in_ok-element.ensures.ty
    ∙ ap (λ (ls : List Ty). element_type ((lowered here c.args.list.now).type ls None))
    c.in_ok-emit_part.ensures.kept in
    then_ok _ _ _ _ _ _ c.in_ok-emit_part.ensures.grown (then_ok _ _ _ _ _ _ c.in_ok-put.ensures
    (closed_ok _ _ _ _ _ _ _ _ _ c.close_all.ensures c.in_ok-start.ensures.place c.in_ok-start.ensures.grown
    (tested _ _ here c.args.test.now _ _ _ _ kept element c.in_ok-emit_test.ensures.grown)))

pub loops::emit_exists-returns-clause-grown : goal.loops::emit_exists-returns-clause-grown
loops::emit_exists-returns-clause-grown t c =
    let kept = c.in_ok-element.ensures.kept ∙ c.in_ok-emit_part.ensures.kept in
    let here = standing_at c.args.here.now in
    let element : c.in_ok-element.element ≡ element_type ((lowered here c.args.list.now).type c.args.locals.now None) =
    c.in_ok-element.ensures.ty
    ∙ ap (λ (ls : List Ty). element_type ((lowered here c.args.list.now).type ls None))
    c.in_ok-emit_part.ensures.kept in
    then_ok _ _ _ _ _ _ c.in_ok-emit_part.ensures.grown (then_ok _ _ _ _ _ _ c.in_ok-put.ensures
    (closed_ok _ _ _ _ _ _ _ _ _ c.close_any.ensures c.in_ok-start.ensures.place c.in_ok-start.ensures.grown
    (tested _ _ here c.args.test.now _ _ _ _ kept element c.in_ok-emit_test.ensures.grown)))

pub loops::emit_map-returns-clause-grown : goal.loops::emit_map-returns-clause-grown
loops::emit_map-returns-clause-grown t c =
    let first = c.in_ok-emit_part.ensures.kept in
    let second = c.in_ok-ty.ensures.kept ∙ first in
    let third = c.in_ok-element.ensures.kept ∙ second in
    let here = standing_at c.args.here.now in
    let list = lowered here c.args.list.now in
    let body = lowered here c.args.body.now in
    let element : c.in_ok-element.element ≡ element_type (list.type c.args.locals.now None) =
    c.in_ok-element.ensures.ty ∙ ap (λ (ls : List Ty). element_type (list.type ls None)) second in
    let told : c.in_ok-ty.ty
    ≡ ty.List (body.type (c.args.locals.now ++ element_type (list.type c.args.locals.now None) ∷ []) None) =
    c.in_ok-ty.ensures.ty ∙ ap
    (λ (ls : List Ty). ty.List (body.type (ls ++ element_type (list.type ls None) ∷ []) None)) first in
    let begun = collected _ _ _ _ told c.in_ok-put_collecting.ensures in
    let turn = grown_then _ _ _ _ _ c.in_ok-put.ensures
    (grown_then _ _ _ _ _ (under_code _ _ here c.args.body.now None _ _ _ _ third element
    c.in_ok-emit_part_under.ensures.grown)
    (grown_then _ _ _ _ _ c.in_ok-put-2.ensures c.in_ok-put-3.ensures)) in
    then_ok _ _ _ _ _ _ c.in_ok-emit_part.ensures.grown (then_ok _ _ _ _ _ _ begun
    (closed_ok _ _ _ _ _ _ _ _ _ c.close_loop.ensures c.in_ok-start.ensures.place c.in_ok-start.ensures.grown turn))

pub loops::emit_filter-returns-clause-grown : goal.loops::emit_filter-returns-clause-grown
loops::emit_filter-returns-clause-grown t c =
    let first = c.in_ok-emit_part.ensures.kept in
    let second = c.in_ok-element.ensures.kept ∙ first in
    let here = standing_at c.args.here.now in
    let list = lowered here c.args.list.now in
    let element : c.in_ok-element.element ≡ element_type (list.type c.args.locals.now None) =
    c.in_ok-element.ensures.ty ∙ ap (λ (ls : List Ty). element_type (list.type ls None)) first in
    let begun =
    same_code _ _ _ _ (ap collecting (c.in_ok-copy_ty.ensures ∙ element)) c.in_ok-begin_collecting.ensures in
    let local : c.in_ok-local.local ≡ length c.args.locals.now =
    c.in_ok-local.ensures ∙ c.len.ensures ∙ ap length second in
    let kept = same_code _ _ _ _ (ap (λ (n : ℕ). kept_code_at n) local) c.in_ok-put_kept.ensures in
    let turn = grown_then _ _ _ _ _ c.in_ok-put.ensures
    (grown_then _ _ _ _ _ (under_code _ _ here c.args.test.now None _ _ _ _ second element
    c.in_ok-emit_part_under.ensures.grown) kept) in
    then_ok _ _ _ _ _ _ c.in_ok-emit_part.ensures.grown (then_ok _ _ _ _ _ _ begun
    (closed_ok _ _ _ _ _ _ _ _ _ c.close_loop.ensures c.in_ok-start.ensures.place c.in_ok-start.ensures.grown turn))

pub loops::emit_step-returns-clause-grown : goal.loops::emit_step-returns-clause-grown
loops::emit_step-returns-clause-grown t c =
    let locals = c.args.locals.now in
    let pushed : c.push.new.self ≡ locals ++ c.args.element ∷ [] = c.in_ok-push.ensures.ok in
    let both : c.push.new.self ++ c.in_ok-bound.bound ∷ [] ≡ locals ++ c.args.element ∷ c.args.total.now ∷ [] =
    ap (λ (ls : List Ty). ls ++ c.in_ok-bound.bound ∷ []) pushed
    ∙ append_assoc locals (c.args.element ∷ []) (c.in_ok-bound.bound ∷ [])
    ∙ ap (λ (u : Ty). locals ++ c.args.element ∷ u ∷ []) c.in_ok-bound.ensures in
    then_ok _ _ _ _ _ _ c.in_ok-put.ensures (then_ok _ _ _ _ _ _ c.in_ok-put-2.ensures
    (then_ok _ _ _ _ _ _ (kept_code _ _ _ _ _ _ _ both c.in_ok-emit_part_under.ensures.grown) c.put-3.ensures))

pub loops::emit_combine-returns-clause-grown : goal.loops::emit_combine-returns-clause-grown
loops::emit_combine-returns-clause-grown t c =
    let first = c.in_ok-emit_part.ensures.kept in
    let second = c.in_ok-emit_part-2.ensures.kept ∙ first in
    let third = c.in_ok-element.ensures.kept ∙ second in
    let fourth = c.in_ok-total.ensures.kept ∙ third in
    let here = standing_at c.args.here.now in
    let list = lowered here c.args.list.now in
    let start = lowered here c.args.start.now in
    let element : c.in_ok-element.element ≡ element_type (list.type c.args.locals.now None) =
    c.in_ok-element.ensures.ty ∙ ap (λ (ls : List Ty). element_type (list.type ls None)) second in
    let total : c.in_ok-total.total ≡ start.type c.args.locals.now None =
    c.in_ok-total.ensures.ty ∙ ap (λ (ls : List Ty). start.type ls None) third in
    let exchanged =
    same_code _ _ _ _ (ap (λ (ls : List Ty). exchanged_code (length ls)) second) c.in_ok-put_exchanged.ensures in
    let turn = stepped _ _ here c.args.step.now _ _ _ _ _ _ fourth element total c.in_ok-emit_step.ensures.grown in
    then_ok _ _ _ _ _ _ c.in_ok-emit_part.ensures.grown (then_ok _ _ _ _ _ _
    (kept_code _ _ _ _ _ _ _ first c.in_ok-emit_part-2.ensures.grown)
    (led_ok _ _ _ _ _ (length c.args.locals.now) _ exchanged c.in_ok-put.ensures
    (closed_ok _ _ _ _ _ _ _ _ _ c.close_loop.ensures c.in_ok-next.ensures.place c.in_ok-next.ensures.grown turn)))

pub loops::emit_contains-returns-clause-grown : goal.loops::emit_contains-returns-clause-grown
loops::emit_contains-returns-clause-grown t c =
    let first = c.in_ok-emit_part.ensures.kept in
    let second = c.in_ok-emit_part-2.ensures.kept ∙ first in
    then_ok _ _ _ _ _ _ c.in_ok-emit_part.ensures.grown (then_ok _ _ _ _ _ _
    (kept_code _ _ _ _ _ _ _ first c.in_ok-emit_part-2.ensures.grown)
    (same_ok _ _ _ _ _ (ap (λ (ls : List Ty). contained_code (length ls) c.args.at) second) c.put_contained.ensures))

pub loops::emit_sum-returns-clause-grown : goal.loops::emit_sum-returns-clause-grown
loops::emit_sum-returns-clause-grown t c =
    then_ok _ _ _ _ _ _ c.in_ok-put_zero.ensures (then_ok _ _ _ _ _ _ c.in_ok-emit_part.ensures.grown
    (then_ok _ _ _ _ _ _ c.in_ok-put.ensures
    (closed_ok _ _ _ _ _ _ _ _ _ c.close_loop.ensures c.in_ok-start.ensures.place c.in_ok-start.ensures.grown
    c.in_ok-put_adding.ensures)))

pub rows::emit_list-returns-in_ok-emit_elements-in-len1-up-clause-grown :
    goal.rows::emit_list-returns-in_ok-emit_elements-in-len1-up-clause-grown
rows::emit_list-returns-in_ok-emit_elements-in-len1-up-clause-grown t c =
    let here = standing_at c.args.here.now in
    let told : option_copied c.as_ref.result ≡ element_expected (option_copied c.args.expected) = search rules in
    list_told _ _ _ _ here c.args.elements.now c.as_slice.result.now c.first-item.result _ c.args.locals.now
    (option_copied c.args.expected) _ _
    c.as_slice.ensures c.in-len1-up.len_at_least c.first-item.is told c.len.ensures c.put_list.ensures
    c.in_ok-emit_elements-in-len1-up.ensures.grown

pub rows::emit_elements-returns-clause-grown : goal.rows::emit_elements-returns-clause-grown
rows::emit_elements-returns-clause-grown t c =
    let first = c.in_ok-emit.ensures.kept in
    let second = c.in_ok-ty.ensures.kept ∙ first in
    let here = standing_at c.args.here.now in
    let head = lowered here c.args.first.now in
    let x = option_copied c.args.expected in
    let told : c.in_ok-ty.ty ≡ head.type c.args.locals.now x =
    c.in_ok-ty.ensures.ty ∙ ap (λ (ls : List Ty). head.type ls x) first in
    then_ok _ _ _ _ _ _ c.in_ok-emit.ensures.grown
    (all_told _ _ _ here c.args.rest.now _ _ _ _ second told c.emit_all.ensures.grown)

pub rows::emit_all-loop-element-preserved : goal.rows::emit_all-loop-element-preserved
rows::emit_all-loop-element-preserved t c =
    let here = standing_at c.args.here.now in
    record {
      grown = λ new. step_on _ _ _ new _ _ _ _
          (ap (λ (es : List Expr). all_code
          (map (λ o. o.code c.args.locals.now (Some c.args.ty.now)) (map (lowered here) es)))
          (next _ _ _ _ refl c.loop-element-test.true c.element-item.is))
          c.loop-element.invariant.grown
          (kept_code _ _ _ _ _ _ _ c.loop-element.invariant.kept c.in_ok-emit.ensures.grown);
      kept = c.in_ok-emit.ensures.kept ∙ c.loop-element.invariant.kept;
    }

pub rows::emit_all-returns-clause-grown : goal.rows::emit_all-returns-clause-grown
rows::emit_all-returns-clause-grown t c =
    let here = standing_at c.args.here.now in
    end_on _ _ _ _
    (ap (λ (es : List Expr). all_code
    (map (λ o. o.code c.args.locals.now (Some c.args.ty.now)) (map (lowered here) es)))
    (drop_all c.loop-element.element-index c.args.elements.now (search rules))) c.loop-element.invariant.grown

pub rows::emit_call-returns-clause-grown : goal.rows::emit_call-returns-clause-grown
rows::emit_call-returns-clause-grown t c =
    then_ok _ _ _ _ _ _ c.in_ok-emit_arguments.ensures.grown
    (same_ok _ _ _ _ _ (ap (λ (n : ℕ). one
    (instr.Call (function_number (standing_at c.args.here.now) c.args.function) n))
    (c.len.ensures ∙ sym (length-map c.args.arguments.now (lowered (standing_at c.args.here.now))))) c.put_call.ensures)

pub rows::emit_arguments-loop-number-preserved : goal.rows::emit_arguments-loop-number-preserved
rows::emit_arguments-loop-number-preserved t c =
    let here = standing_at c.args.here.now in
    let i = c.loop-number.number in
    let params = params_of (slice_get c.args.here.now.items.now c.args.function) in
    record {
      grown = λ new. step_on _ _ _ new _ _ _ _
          (ap (λ (es : List Expr). arguments_code (drop i params) (map (lowered here) es) c.args.locals.now)
          (next _ _ _ _ c.as_slice-argument-items.ensures c.loop-number-test.true c.argument-item.is)
          ∙ argument_next params i (lowered here c.argument-item.result)
          (map (lowered here) (drop (i + 1) c.args.arguments.now)) c.args.locals.now)
          c.loop-number.invariant.grown
          (told_code _ _ _ _ _ _ _ _ c.loop-number.invariant.kept c.param_of.ensures c.in_ok-emit.ensures.grown);
      kept = c.in_ok-emit.ensures.kept ∙ c.loop-number.invariant.kept;
    }

pub rows::emit_arguments-returns-clause-grown : goal.rows::emit_arguments-returns-clause-grown
rows::emit_arguments-returns-clause-grown t c =
    let here = standing_at c.args.here.now in
    let i = c.loop-number.number in
    let params = params_of (slice_get c.args.here.now.items.now c.args.function) in
    end_on _ _ _ _
    (ap (λ (es : List Expr). arguments_code (drop i params) (map (lowered here) es) c.args.locals.now)
    (drop_all i c.args.arguments.now (search rules)) ∙ no_arguments (drop i params) c.args.locals.now)
    c.loop-number.invariant.grown

pub rows::emit_structure-returns-clause-grown : goal.rows::emit_structure-returns-clause-grown
rows::emit_structure-returns-clause-grown t c =
    then_ok _ _ _ _ _ _ c.in_ok-emit_fields.ensures.grown
    (same_ok _ _ _ _ _ (ap (λ (n : ℕ). packed n (map (λ f. f.field) c.args.fields.now))
    (c.len.ensures ∙ ap length c.in_ok-emit_fields.ensures.kept)) c.put_packed.ensures)

pub rows::emit_fields-loop-field-preserved : goal.rows::emit_fields-loop-field-preserved
rows::emit_fields-loop-field-preserved t c =
    let here = standing_at c.args.here.now in
    record {
      grown = λ new. step_on _ _ _ new _ _ _ _
          (ap (λ (fs : List FieldValue). values_code
          (fields_code (field_type c.args.here.now.decls.now c.args.structure)
          (map (λ f. (f.field, lowered here f.value)) fs) c.args.locals.now))
          (next _ _ _ _ c.as_slice-field-items.ensures c.loop-field-test.true c.field-item.is))
          c.loop-field.invariant.grown
          (told_code _ _ _ _ _ _ _ _ c.loop-field.invariant.kept c.declared_field-expected.ensures
          c.in_ok-emit.ensures.grown);
      kept = c.in_ok-emit.ensures.kept ∙ c.loop-field.invariant.kept;
    }

pub rows::emit_fields-returns-clause-grown : goal.rows::emit_fields-returns-clause-grown
rows::emit_fields-returns-clause-grown t c =
    let here = standing_at c.args.here.now in
    end_on _ _ _ _
    (ap (λ (fs : List FieldValue). values_code (fields_code (field_type c.args.here.now.decls.now c.args.structure)
    (map (λ f. (f.field, lowered here f.value)) fs) c.args.locals.now))
    (drop_all c.loop-field.field-index c.args.fields.now (search rules))) c.loop-field.invariant.grown

pub rows::emit_scope_call-returns-clause-grown : goal.rows::emit_scope_call-returns-clause-grown
rows::emit_scope_call-returns-clause-grown t c =
    then_ok _ _ _ _ _ _ c.in_ok-put.ensures (then_ok _ _ _ _ _ _ c.in_ok-emit_inputs.ensures.grown
    (then_ok _ _ _ _ _ _ c.in_ok-put_absent.ensures (then_ok _ _ _ _ _ _ c.in_ok-put-2.ensures c.put-3.ensures)))

pub rows::emit_inputs-loop-field-preserved : goal.rows::emit_inputs-loop-field-preserved
rows::emit_inputs-loop-field-preserved t c =
    let here = standing_at c.args.here.now in
    record {
      grown = λ new. pass_on _ _ _ _ new _ _ _ _ _
          (ap (λ (fs : List FieldValue). pass_all (fields_code (input_type c.args.here.now.decls.now c.args.scope)
          (map (λ f. (f.field, lowered here f.value)) fs) c.args.locals.now))
          (next _ _ _ _ c.as_slice-field-items.ensures c.loop-field-test.true c.field-item.is))
          c.loop-field.invariant.grown
          (told_code _ _ _ _ _ _ _ _ c.loop-field.invariant.kept c.given_input-expected.ensures
          c.in_ok-emit.ensures.grown) c.in_ok-put.ensures;
      kept = c.in_ok-emit.ensures.kept ∙ c.loop-field.invariant.kept;
    }

pub rows::emit_inputs-returns-clause-grown : goal.rows::emit_inputs-returns-clause-grown
rows::emit_inputs-returns-clause-grown t c =
    let here = standing_at c.args.here.now in
    end_on _ _ _ _
    (ap (λ (fs : List FieldValue). pass_all (fields_code (input_type c.args.here.now.decls.now c.args.scope)
    (map (λ f. (f.field, lowered here f.value)) fs) c.args.locals.now))
    (drop_all c.loop-field.field-index c.args.fields.now (search rules))) c.loop-field.invariant.grown

pub arms::emit_match-returns-clause-grown : goal.arms::emit_match-returns-clause-grown
arms::emit_match-returns-clause-grown t c =
    let first = c.in_ok-emit_part.ensures.kept in
    let second = c.in_ok-enumeration.ensures.kept ∙ first in
    let third = c.in_ok-ty.ensures.kept ∙ second in
    let here = standing_at c.args.here.now in
    let of = lowered here c.args.of.now in
    let arms = arms_of here c.args.arms.now in
    let x = option_copied c.args.expected in
    let number : c.in_ok-enumeration.enumeration ≡ enumeration_in (out-Ty (of.type c.args.locals.now None)) =
    c.in_ok-enumeration.ensures.number ∙ ap (λ (ls : List Ty). enumeration_in (out-Ty (of.type ls None))) first in
    let told : c.in_ok-ty.ty
    ≡ arms_type c.args.here.now.decls.now
    (enumeration_in (out-Ty (of.type c.args.locals.now None))) arms c.args.locals.now x =
    c.in_ok-ty.ensures.ty
    ∙ ap (λ (ls : List Ty). arms_type c.args.here.now.decls.now (enumeration_in (out-Ty (of.type ls None))) arms ls x)
    second in
    then_ok _ _ _ _ _ _ c.in_ok-emit_part.ensures.grown (then_ok _ _ _ _ _ _ c.in_ok-put.ensures
    (arms_told _ _ _ here arms x _ _ _ _ _ _ number told third c.emit_arms.ensures.grown))

pub arms::emit_arms-returns-clause-grown : goal.arms::emit_arms-returns-clause-grown
arms::emit_arms-returns-clause-grown t c =
    ends_patched c.lay_arms.new.growing _ _ c.in_ok-ends.ends _ _ c.in_ok-end.ensures c.patch_all.ensures
    c.in_ok-ends.ensures.grown

pub arms::lay_arms-loop-arm-preserved : goal.arms::lay_arms-loop-arm-preserved
arms::lay_arms-loop-arm-preserved t c =
    let here = standing_at c.args.here.now in
    let ls = c.args.locals.now in
    let n = c.args.enumeration in
    let u = c.args.ty.now in
    let arm = c.arm-item.result in
    let rest = drop (c.loop-arm.arm-index + 1) c.args.arms.now in
    let x = option_copied c.loop-arm.wanted in
    let kept = c.loop-arm.invariant.kept in
    let end = c.in_ok-end-in-Case.ensures in
    let pushed = c.in_ok-push-in-Case.ensures.ok in
    let body : Coded =
    arm_body (length ls) (is_bound arm.pattern)
    ((lowered here arm.body).code (arm_types here.names.decls n arm.pattern ls) x) in
    record {
      grown =
          λ new. arm_next _ _ _ new _ _ _ (length ls) (case_number here n c.in-Case.case) body
          (arms_code here n u (arms_of here rest) ls (Some u)) _ _
          pushed
          (ap (λ (arms : List Arm). arms_code here n u (arms_of here arms) ls x)
          (next _ _ _ _ c.as_slice-arm-items.ensures c.loop-arm-test.true c.arm-item.is)
          ∙ case_first here n c.in-Case.case c.in-Case.field-1 u arm rest ls x c.in-Case.is)
          c.loop-arm.invariant.grown (side_told _ _ here n c.in-Case.case arm x _ _ kept end.grown) end.place;
      within =
          one_within c.emit_arm.new.growing _ _ _ pushed
          (still_within _ _ _ _ end.grown c.loop-arm.invariant.within) end.place;
      kept = end.kept ∙ kept;
    }

pub arms::lay_arms-returns-clause-grown : goal.arms::lay_arms-returns-clause-grown
arms::lay_arms-returns-clause-grown t c =
    let here = standing_at c.args.here.now in
    let i = c.loop-arm.arm-index in
    arm_last _ _ _ c.loop-arm.ends _ _ _
    (ap (λ (arms : List Arm). arms_code here c.args.enumeration c.args.ty.now (arms_of here arms) c.args.locals.now
    (option_copied c.loop-arm.wanted))
    (drop_all i c.args.arms.now (search rules))) c.loop-arm.invariant.grown c.in_ok-put_last.ensures

pub arms::lay_arms-returns-in-Anything-clause-grown : goal.arms::lay_arms-returns-in-Anything-clause-grown
arms::lay_arms-returns-in-Anything-clause-grown t c =
    let here = standing_at c.args.here.now in
    let i = c.loop-arm.arm-index in
    arm_last _ _ _ c.loop-arm.ends _ _ _
    (ap (λ (arms : List Arm). arms_code here c.args.enumeration c.args.ty.now (arms_of here arms) c.args.locals.now
    (option_copied c.loop-arm.wanted))
    (next _ _ _ _ c.as_slice-arm-items.ensures c.loop-arm-test.true c.arm-item.is)
    ∙ anything_first here c.args.enumeration c.args.ty.now c.arm-item.result
    (drop (i + 1) c.args.arms.now) c.args.locals.now
    (option_copied c.loop-arm.wanted) c.in-Anything.is)
    c.loop-arm.invariant.grown
    (grown_then _ _ _ _ _ c.in_ok-put-in-Anything.ensures
    (kept_code _ _ _ _ _ _ _ c.loop-arm.invariant.kept c.in_ok-emit-in-Anything.ensures.grown))

pub arms::emit_arm-returns-clause-grown : goal.arms::emit_arm-returns-clause-grown
arms::emit_arm-returns-clause-grown t c =
    grown_then _ _ _ _ _ c.in_ok-put_next_local.ensures (grown_then _ _ _ _ _ c.in_ok-put_is_case.ensures
    (side_closed _ _ _ _ _ _ _ _ _ c.in_ok-test.ensures.grown c.in_ok-emit_body.ensures.grown c.in_ok-end.ensures.grown
    c.in_ok-test.ensures.place c.in_ok-next.ensures c.patch.ensures))

pub arms::emit_bound-returns-clause-grown : goal.arms::emit_bound-returns-clause-grown
arms::emit_bound-returns-clause-grown t c =
    then_ok _ _ _ _ _ _ c.in_ok-put_next_local.ensures (then_ok _ _ _ _ _ _ c.in_ok-put.ensures
    (then_ok _ _ _ _ _ _ c.in_ok-put-2.ensures (then_ok _ _ _ _ _ _ c.in_ok-put-3.ensures
    (then_ok _ _ _ _ _ _ c.in_ok-emit_under.ensures.grown c.put-4.ensures))))

pub arms::emit_plain-returns-clause-grown : goal.arms::emit_plain-returns-clause-grown
arms::emit_plain-returns-clause-grown t c = then_ok _ _ _ _ _ _ c.in_ok-put.ensures c.emit.ensures.grown

pub arms::emit_arm-returns-clause-place : goal.arms::emit_arm-returns-clause-place
arms::emit_arm-returns-clause-place t c =
    last_place _ _ _ _ _ _ _ c.in_ok-end.ensures.place c.in_ok-end.ensures.grown c.patch.ensures
