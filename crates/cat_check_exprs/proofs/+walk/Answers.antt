use Rattle.std.proofs.Common.{Ok, Err, None, Some, rules, ◌≡◌, ◌∙◌, ◌+◌, ◌<◌, drop, length, sym, ap, refl, ◌++◌, ◌∷◌}
use Rattle.std.proofs.Common.{[], get_or, subst, slice_get, ℕ}
use Rattle.std.proofs.lemmas.Result.{err_from_is_err_and}
use Rattle.std.specs.Option.{option_copied}
use Rattle.cat_names.specs.Compound.{branches_of, scope_call_of}
use Rattle.cat_names.specs.Forms.{if_of, test_of, input_named, output_named}
use Rattle.cat_names.specs.Lookup.{type_found, type_names}
use Rattle.cat_names.specs.Meaning.{meant, field_meant, arm_meant}
use Rattle.cat_names.specs.Naming.{case_found, typed}
use Rattle.cat_names.specs.Operations.{sum_of, as_expected}
use Rattle.cat_names.proofs.Exported.{left_tells}
use Rattle.cat_check_forms.specs.Tabled.{names_at}
use Rattle.cat_check_forms.specs.Taken.{cut, part_named}
use Rattle.cat_check_exprs.proofs.Exits.{first_exit, second_exit}
use Rattle.cat_names.specs.declared.typed.Typed.{Typed}
use Rattle.cat_names.specs.Found.{Tells, Found, and_then, or_fault, where_true}
use Rattle.cat_names.specs.Parts.{all_of_type, arguments_of, values_of, value_of, all_arms, arm_of}
use Rattle.cat_check_exprs.specs.inside.Chains.{behind}
use Rattle.cat_check_exprs.proofs.Gathered.{turn_off, turn_on, argument_off, argument_on, arguments_end}
use Rattle.cat_scope.specs.Fitting.{are_call_fields, numbers_in}
use Rattle.cat_names.specs.declared.fault.Fault.TheVariants.{NameUnknown, TypeMismatch}
use Rattle.cat_scope.specs.declared.expr.FieldValue.{FieldValue}
use Rattle.cat_value.specs.declared.ty.Ty.{Ty}
use Rattle.cat_scope.specs.declared.expr.Arm.{Arm}
use Rattle.cat_scope.specs.declared.expr.Expr.TheViews as expr
use Rattle.cat_check_exprs.proofs.+walk.Goals as goal

pub walk::infer_if-returns-in_err-test-clause-told : goal.walk::infer_if-returns-in_err-test-clause-told
walk::infer_if-returns-in_err-test-clause-told t c =
    let p = err_from_is_err_and c.from_residual.result c.from_residual.ensures.1 in
    let ns = names_at c.args.here.now in
    let test = meant ns c.args.test.now c.args.locals.now None in
    let rest = branches_of (meant ns c.args.yes.now) (meant ns c.args.no.now) c.args.locals.now
    (option_copied c.args.expected) in
    rw (p.1, p.2) (left_tells c.in_err-test.field-0.0 test rest (if_of c.args.place) c.in_err-test.ensures.told)

pub walk::infer_sum-returns-in_err-ty-clause-told : goal.walk::infer_sum-returns-in_err-ty-clause-told
walk::infer_sum-returns-in_err-ty-clause-told t c =
    let p = err_from_is_err_and c.from_residual.result c.from_residual.ensures.1 in
    let ns = names_at c.args.here.now in
    let list = meant ns c.args.list.now c.args.locals.now None in
    rw (p.1, p.2) (first_exit (option_copied c.args.expected) c.in_err-ty.field-0.0
    (type_found (type_names ns.decls) (cut c.args.ty.now)) list (sum_of c.args.place) c.in_err-ty.ensures)

pub walk::infer_test-returns-in_err-case-clause-told : goal.walk::infer_test-returns-in_err-case-clause-told
walk::infer_test-returns-in_err-case-clause-told t c =
    let p = err_from_is_err_and c.from_residual.result c.from_residual.ensures.1 in
    let ns = names_at c.args.here.now in
    let tested = meant ns c.args.tested.now c.args.locals.now None in
    rw (p.1, p.2) (second_exit (option_copied c.args.expected) c.in_err-case.field-0.0 tested
    (case_found ns c.args.case.now) (test_of c.args.place) c.in_err-case.ensures)

pub walk::infer_two-returns-in_err-left-clause-told : goal.walk::infer_two-returns-in_err-left-clause-told
walk::infer_two-returns-in_err-left-clause-told t c =
    let p = err_from_is_err_and c.from_residual.result c.from_residual.ensures.1 in
    let left = meant (names_at c.args.here.now) c.args.left.now c.args.locals.now None in
    let right = meant (names_at c.args.here.now) c.args.right.now c.args.locals.now None in
    rw (p.1, p.2) (left_tells c.in_err-left.field-0.0 left right (λ x y. Ok (x, y)) c.in_err-left.ensures.told)

pub lists::infer_all-returns-in_err-found-clause-told : goal.lists::infer_all-returns-in_err-found-clause-told
lists::infer_all-returns-in_err-found-clause-told t c =
    let p = err_from_is_err_and c.from_residual.result c.from_residual.ensures.1 in
    let l = c.loop-node in
    let ns = names_at c.args.here.now in
    let ls = c.args.locals.now in
    let ty = c.args.ty.now in
    let within : l.node-index < length c.args.nodes.now = search rules in
    let told : Tells {A = Typed} (Err c.in_err-found.field-0.0) (meant ns c.node-item.result ls (Some ty)) =
    subst (λ under. Tells {A = Typed} (Err c.in_err-found.field-0.0) (meant ns c.node-item.result under (Some ty)))
    l.invariant.0 c.in_err-found.ensures.told in
    rw (p.1, p.2) (turn_off (λ e. meant ns e ls (Some ty)) (λ x. x.expr) (λ es. all_of_type (meant ns) es ls ty)
    (λ e es. refl) c.args.nodes.now l.node-index c.node-item.result l.made
    (behind c.args.made (all_of_type (meant ns) c.args.nodes.now ls ty)) c.in_err-found.field-0.0 within
    (sym c.node-item.is) told l.invariant.1)

pub lists::infer_all-loop-node-preserved : goal.lists::infer_all-loop-node-preserved
lists::infer_all-loop-node-preserved t c =
    let l = c.loop-node in
    let ns = names_at c.args.here.now in
    let ls = c.args.locals.now in
    let ty = c.args.ty.now in
    let within : l.node-index < length c.args.nodes.now = search rules in
    let found : meant ns c.node-item.result ls (Some ty) ≡ Ok c.in_ok-found.found = search rules in
    let pushed : c.push.new.self ≡ l.made ++ c.in_ok-found.found.expr ∷ [] = search rules in (
      search rules,
      subst (λ made. behind made (all_of_type (meant ns) (drop (l.node-index + 1) c.args.nodes.now) ls ty)
          ≡ behind c.args.made (all_of_type (meant ns) c.args.nodes.now ls ty)) (sym pushed)
          (turn_on (λ e. meant ns e ls (Some ty)) (λ x. x.expr) (λ es. all_of_type (meant ns) es ls ty)
          (λ e es. refl) c.args.nodes.now l.node-index c.node-item.result l.made
          (behind c.args.made (all_of_type (meant ns) c.args.nodes.now ls ty)) c.in_ok-found.found within
          (sym c.node-item.is) found l.invariant.1),
    )

pub lists::infer_arguments-returns-in_default-clause-told : goal.lists::infer_arguments-returns-in_default-clause-told
lists::infer_arguments-returns-in_default-clause-told t c =
    let a = c.args in
    let l = c.loop-number in
    let ms = meant (names_at a.here.now) in
    let none : slice_get a.params.now l.number ≡ None = search rules in
    arguments_end ms a.args.now a.params.now l.number a.locals.now l.made
    (arguments_of ms a.args.now a.locals.now a.params.now) none l.invariant.1

pub lists::infer_arguments-returns-in_err-found-clause-told :
    goal.lists::infer_arguments-returns-in_err-found-clause-told
lists::infer_arguments-returns-in_err-found-clause-told t c =
    let p = err_from_is_err_and c.from_residual.result c.from_residual.ensures.1 in
    let a = c.args in
    let l = c.loop-number in
    let arg = c.arg-item.result in
    let ms = meant (names_at a.here.now) in
    let e = c.in_err-found.field-0.0 in
    let within : l.number < length a.args.now = search rules in
    let at : slice_get a.params.now l.number ≡ Some c.in-Some.ty.now = search rules in
    let told : Tells {A = Typed} (Err e) (ms arg a.locals.now (Some c.in-Some.ty.now)) =
    subst (λ under. Tells {A = Typed} (Err e) (ms arg under (Some c.in-Some.ty.now))) l.invariant.0
    c.in_err-found.ensures.told in
    rw (p.1, p.2) (argument_off ms a.args.now a.params.now l.number arg c.in-Some.ty.now a.locals.now l.made
    (arguments_of ms a.args.now a.locals.now a.params.now) e within
    (sym (c.arg-item.is ∙ ap (λ es. get_or es l.number arg) c.as_slice-arg-items.ensures)) at told l.invariant.1)

pub lists::infer_arguments-loop-number-preserved : goal.lists::infer_arguments-loop-number-preserved
lists::infer_arguments-loop-number-preserved t c =
    let a = c.args in
    let l = c.loop-number in
    let arg = c.arg-item.result in
    let ms = meant (names_at a.here.now) in
    let x = c.in_ok-found.found in
    let within : l.number < length a.args.now = search rules in
    let at : slice_get a.params.now l.number ≡ Some c.in-Some.ty.now = search rules in
    let found : ms arg a.locals.now (Some c.in-Some.ty.now) ≡ Ok x = search rules in
    let pushed : c.push.new.self ≡ l.made ++ x.expr ∷ [] = search rules in (
      search rules,
      subst (λ made. behind made (arguments_of ms (drop (l.number + 1) a.args.now) a.locals.now
          (drop (l.number + 1) a.params.now)) ≡ arguments_of ms a.args.now a.locals.now a.params.now) (sym pushed)
          (argument_on ms a.args.now a.params.now l.number arg c.in-Some.ty.now a.locals.now l.made
          (arguments_of ms a.args.now a.locals.now a.params.now) x within
          (sym (c.arg-item.is ∙ ap (λ es. get_or es l.number arg) c.as_slice-arg-items.ensures)) at found
          l.invariant.1),
    )

pub lists::infer_scope_call-returns-in_err-output-clause-told :
    goal.lists::infer_scope_call-returns-in_err-output-clause-told
lists::infer_scope_call-returns-in_err-output-clause-told t c =
    let p = err_from_is_err_and c.from_residual-in_err-output.result c.from_residual-in_err-output.ensures.1 in
    let a = c.args in
    let ns = names_at a.here.now in
    let s = c.in_ok-scope.scope in
    let e = c.in_err-output.field-0.0 in
    let values = values_of (field_meant ns) (input_named ns.decls s) a.fields.now a.locals.now in
    let exit = second_exit (option_copied a.expected) e values
    (or_fault (NameUnknown a.output.now.pos) (output_named ns.decls s a.output.now.text))
    (λ made o. where_true (are_call_fields ns.decls s (numbers_in made)) (TypeMismatch a.name.now.pos)
    (Ok (typed a.place (expr.ScopeCall a.place s made o.0) o.1))) c.in_err-output.ensures in
    rw (p.1, p.2) (subst (λ (found : Found ℕ). Tells {A = Typed} (Err e) (as_expected (option_copied a.expected)
    (and_then found (scope_call_of (field_meant ns) ns a.place a.name.now a.fields.now a.output.now a.locals.now))))
    (sym c.in_ok-scope.ensures) exit)

pub lists::infer_values-returns-in_err-infer_value-clause-told :
    goal.lists::infer_values-returns-in_err-infer_value-clause-told
lists::infer_values-returns-in_err-infer_value-clause-told t c =
    let p = err_from_is_err_and c.from_residual.result c.from_residual.ensures.1 in
    let l = c.loop-field in
    let field = c.field-item.result in
    let ns = names_at c.args.here.now in
    let ls = c.args.locals.now in
    let named = part_named c.args.here.now.decls.now c.args.owner in
    let within : l.field-index < length c.args.fields.now = search rules in
    let told : Tells {A = FieldValue} (Err c.in_err-infer_value.field-0.0) (value_of named (field_meant ns field) ls) =
    subst (λ under. Tells {A = FieldValue} (Err c.in_err-infer_value.field-0.0)
    (value_of named (field_meant ns field) under)) l.invariant.0 c.in_err-infer_value.ensures.told in
    rw (p.1, p.2) (turn_off (λ f. value_of named (field_meant ns f) ls) (λ x. x)
    (λ fs. values_of (field_meant ns) named fs ls) (λ f fs. refl) c.args.fields.now l.field-index field l.made
    (values_of (field_meant ns) named c.args.fields.now ls) c.in_err-infer_value.field-0.0 within
    (sym (c.field-item.is ∙ ap (λ fs. get_or fs l.field-index field) c.as_slice-field-items.ensures)) told
    l.invariant.1)

pub binders::infer_more_arms-returns-in_err-arm-clause-told :
    goal.binders::infer_more_arms-returns-in_err-arm-clause-told
binders::infer_more_arms-returns-in_err-arm-clause-told t c =
    let p = err_from_is_err_and c.from_residual.result c.from_residual.ensures.1 in
    let l = c.loop-arm in
    let arm = c.arm-item.result in
    let ns = names_at c.args.here.now in
    let ls = c.args.locals.now in
    let ty = c.args.ty.now in
    let place = c.args.place in
    let enumeration = c.args.enumeration in
    let within : l.arm-index < length c.args.arms.now = search rules in
    let told : Tells {A = Arm × Ty} (Err c.in_err-arm.field-0.0)
    (arm_of ns place enumeration (arm_meant ns arm) ls (Some ty)) =
    subst (λ under. Tells {A = Arm × Ty} (Err c.in_err-arm.field-0.0)
    (arm_of ns place enumeration (arm_meant ns arm) under (Some ty))) l.invariant.0 c.in_err-arm.ensures.told in
    rw (p.1, p.2) (turn_off (λ a. arm_of ns place enumeration (arm_meant ns a) ls (Some ty)) (λ x. x.0)
    (λ arms. all_arms (arm_meant ns) ns place enumeration arms ls ty) (λ a arms. refl) c.args.arms.now l.arm-index
    arm l.made
    (behind c.args.made (all_arms (arm_meant ns) ns place enumeration c.args.arms.now ls ty)) c.in_err-arm.field-0.0
    within
    (sym c.arm-item.is) told l.invariant.1)

pub binders::infer_more_arms-loop-arm-preserved : goal.binders::infer_more_arms-loop-arm-preserved
binders::infer_more_arms-loop-arm-preserved t c =
    let l = c.loop-arm in
    let arm = c.arm-item.result in
    let ns = names_at c.args.here.now in
    let ls = c.args.locals.now in
    let ty = c.args.ty.now in
    let place = c.args.place in
    let enumeration = c.args.enumeration in
    let made : Arm × Ty = (c.in_ok-arm.arm, c.in_ok-arm.field-0-1) in
    let within : l.arm-index < length c.args.arms.now = search rules in
    let found : arm_of ns place enumeration (arm_meant ns arm) ls (Some ty) ≡ Ok made =
    subst (λ under. arm_of ns place enumeration (arm_meant ns arm) under (Some ty) ≡ Ok made) l.invariant.0
    c.in_ok-arm.ensures.told in (
      search rules,
      subst (λ now. behind now (all_arms (arm_meant ns) ns place enumeration (drop (l.arm-index + 1) c.args.arms.now)
          ls ty)
          ≡ behind c.args.made (all_arms (arm_meant ns) ns place enumeration c.args.arms.now ls ty))
          (sym c.in_ok-push.ensures.ok)
          (turn_on (λ a. arm_of ns place enumeration (arm_meant ns a) ls (Some ty)) (λ x. x.0)
          (λ arms. all_arms (arm_meant ns) ns place enumeration arms ls ty) (λ a arms. refl) c.args.arms.now l.arm-index
          arm l.made
          (behind c.args.made (all_arms (arm_meant ns) ns place enumeration c.args.arms.now ls ty)) made within
          (sym c.arm-item.is) found l.invariant.1),
    )
