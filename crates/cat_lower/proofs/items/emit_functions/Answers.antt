use Rattle.std.proofs.Common.{rules, ◌≡◌, ◌∙◌, ◌+◌, ℕ, true, false, List, ◌∷◌, ◌++◌, drop, sym, ap}
use Rattle.std.proofs.lemmas.List.{drop_all}
use Rattle.cat_value.specs.declared.declaration.ItemDecl.{ItemDecl}
use Rattle.cat_scope.specs.Names.{is_function}
use Rattle.cat_lower.specs.Grown.{ends_of}
use Rattle.cat_lower.specs.Scopes.{function_code, functions_code, function_entries}
use Rattle.cat_lower.specs.Told.{scope_standing}
use Rattle.cat_lower.proofs.Grows.{same_code, none_more}
use Rattle.cat_lower.proofs.Rests.{next, step_on, skip_on, end_on}
use Rattle.cat_lower.proofs.ItemRests.{no_function, a_function, not_entered, entered}
use Rattle.cat_lower.proofs.items.emit_functions.Goals as goal

pub loop-number-preserved-then-not-is_function : goal.loop-number-preserved-then-not-is_function
loop-number-preserved-then-not-is_function c =
    let at = scope_standing c.args.here.now c.args.scope.now in
    let items : List ItemDecl = c.args.here.now.items.now in
    let n = c.loop-number.number in
    let item = c.item-item.result in
    let other : is_function item ≡ false = search rules in
    let left : drop n items ≡ item ∷ drop (n + 1) items =
    next items c.as_slice-item-items.result.now n item c.as_slice-item-items.ensures c.loop-number-test.true
    c.item-item.is in
    record {
      grown =
          λ new. skip_on _ _ new _ _ _
          (no_function at n (drop n items) (drop (n + 1) items) item left other) c.loop-number.invariant.grown;
      entries =
          not_entered at n (drop n items) (drop (n + 1) items) item left _ _ _ other c.loop-number.invariant.entries;
    }

pub loop-number-preserved : goal.loop-number-preserved
loop-number-preserved c =
    let at = scope_standing c.args.here.now c.args.scope.now in
    let items : List ItemDecl = c.args.here.now.items.now in
    let n = c.loop-number.number in
    let item = c.item-item.result in
    let function : is_function item ≡ true = search rules in
    let left : drop n items ≡ item ∷ drop (n + 1) items =
    next items c.as_slice-item-items.result.now n item c.as_slice-item-items.ensures c.loop-number-test.true
    c.item-item.is in
    let laid =
    same_code _ _ _ _ (ap (λ (m : ℕ). function_code at m item) c.in_ok-function.ensures)
    c.in_ok-emit_function.ensures in
    record {
      grown =
          λ new. step_on _ _ _ new _ _ _ _
          (a_function at n (drop n items) (drop (n + 1) items) item left function) c.loop-number.invariant.grown laid;
      entries =
          entered at n (drop n items)
          (drop (n + 1) items) item left _ _ _ _ _ _ function c.in_ok-begin.ensures c.in_ok-push.ensures.ok laid
          c.loop-number.invariant.entries;
    }

pub returns-clause-grown : goal.returns-clause-grown
returns-clause-grown c =
    let at = scope_standing c.args.here.now c.args.scope.now in
    let items : List ItemDecl = c.args.here.now.items.now in
    end_on _ _ _ _
    (ap (λ (is : List ItemDecl). functions_code at c.loop-number.number is)
    (drop_all c.loop-number.number items (search rules)))
    c.loop-number.invariant.grown

pub returns-clause-entries : goal.returns-clause-entries
returns-clause-entries c =
    let at = scope_standing c.args.here.now c.args.scope.now in
    let items : List ItemDecl = c.args.here.now.items.now in
    let n = c.loop-number.number in
    none_more c.loop-number.entries
    ∙ ap (λ (is : List ItemDecl). c.loop-number.entries ++ function_entries at n is (ends_of c.loop-number.growing))
    (sym (drop_all n items (search rules))) ∙ c.loop-number.invariant.entries
