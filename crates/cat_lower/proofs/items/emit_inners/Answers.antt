use Rattle.std.proofs.Common.{rules, ◌≡◌, ◌+◌, ℕ, true, false, List, ◌∷◌, drop, ap}
use Rattle.std.proofs.lemmas.List.{drop_all}
use Rattle.cat_value.specs.declared.declaration.ItemDecl.{ItemDecl}
use Rattle.cat_value.specs.Inputs.{may_be_given}
use Rattle.cat_lower.specs.Scopes.{inner_code, inner_codes}
use Rattle.cat_lower.specs.Told.{scope_standing}
use Rattle.cat_lower.proofs.Grows.{same_code}
use Rattle.cat_lower.proofs.Rests.{next, step_on, skip_on, end_on}
use Rattle.cat_lower.proofs.ItemRests.{not_given, one_given}
use Rattle.cat_lower.proofs.items.emit_inners.Goals as goal

pub loop-number-preserved-then-not-may_be_given : goal.loop-number-preserved-then-not-may_be_given
loop-number-preserved-then-not-may_be_given c =
    let at = scope_standing c.args.here.now c.args.scope.now in
    let items : List ItemDecl = c.args.inners.now in
    let n = c.loop-number.number in
    let item = c.inner-item.result in
    let other : may_be_given item.kind ≡ false = search rules in
    let left : drop n items ≡ item ∷ drop (n + 1) items =
    next items c.as_slice-inner-items.result.now n item c.as_slice-inner-items.ensures c.loop-number-test.true
    c.inner-item.is in
    λ new. skip_on _ _ new _ _ _
    (not_given at n (drop n items) (drop (n + 1) items) item left c.args.item c.args.decl.now other)
    c.loop-number.invariant

pub loop-number-preserved : goal.loop-number-preserved
loop-number-preserved c =
    let at = scope_standing c.args.here.now c.args.scope.now in
    let items : List ItemDecl = c.args.inners.now in
    let n = c.loop-number.number in
    let item = c.inner-item.result in
    let given : may_be_given item.kind ≡ true = search rules in
    let left : drop n items ≡ item ∷ drop (n + 1) items =
    next items c.as_slice-inner-items.result.now n item c.as_slice-inner-items.ensures c.loop-number-test.true
    c.inner-item.is in
    let laid =
    same_code _ _ _ _ (ap (λ (m : ℕ). inner_code at c.args.item c.args.decl.now m item) c.in_ok-given.ensures)
    c.in_ok-emit_inner.ensures in
    λ new. step_on _ _ _ new _ _ _ _
    (one_given at n (drop n items) (drop (n + 1) items) item left c.args.item c.args.decl.now given)
    c.loop-number.invariant laid

pub returns : goal.returns
returns c =
    end_on _ _ _ _
    (ap (λ (is : List ItemDecl). inner_codes
    (scope_standing c.args.here.now c.args.scope.now) c.args.item c.args.decl.now c.loop-number.number is)
    (drop_all c.loop-number.number c.args.inners.now (search rules))) c.loop-number.invariant
