use Rattle.std.proofs.Common.{◌≡◌, ◌<◌, ◌≤◌, ◌∙◌, Some, get_or, length, sym, ap, arith, rules}
use Rattle.std.proofs.lemmas.Option.{slice_get-get_or}
use Rattle.std.proofs.lemmas.Result.{err_from_is_err_and}
use Rattle.cat_scope.specs.declared.defs.Body.{Body}
use Rattle.cat_check.specs.inside.Chained.{IsFunctionFault, IsLongFunction}
use Rattle.cat_check.proofs.Ordering.{because}
use Rattle.cat_check.proofs.Chaining.{all_below, function_is_fault, one_below}
use Rattle.cat_check.proofs.chains.refuse_long_functions.Goals as goal

pub at-scope-requires : goal.at-scope-requires
at-scope-requires c = let less : c.loop-number.number < length c.args.bodies.now = search rules in omega (
  arith,
  less,
  c.requires.items.counted,
)

pub refuse_long-requires-clause-items : goal.refuse_long-requires-clause-items
refuse_long-requires-clause-items c =
    let less : c.loop-number.number < length c.args.bodies.now = search rules in
    let is : c.body-item.result ≡ get_or c.args.bodies.now c.loop-number.number c.body-item.result = search rules in
    let there = slice_get-get_or c.args.bodies.now c.loop-number.number c.body-item.result less
    ∙ ap (λ (b : Body). Some b) (sym is) in
    c.requires.items.each c.loop-number.number c.at-scope.result.now c.body-item.result c.at-scope.ensures there

pub refuse_long-requires-clause-order : goal.refuse_long-requires-clause-order
refuse_long-requires-clause-order c =
    let less : c.loop-number.number < length c.args.bodies.now = search rules in
    let is : c.body-item.result ≡ get_or c.args.bodies.now c.loop-number.number c.body-item.result = search rules in
    let there = slice_get-get_or c.args.bodies.now c.loop-number.number c.body-item.result less
    ∙ ap (λ (b : Body). Some b) (sym is) in
    c.requires.order c.loop-number.number c.at-scope.result.now c.body-item.result c.at-scope.ensures there

pub returns-in_err-refuse_long-clause-cause : goal.returns-in_err-refuse_long-clause-cause
returns-in_err-refuse_long-clause-cause c =
    let less : c.loop-number.number < length c.args.bodies.now = search rules in
    let is : c.body-item.result ≡ get_or c.args.bodies.now c.loop-number.number c.body-item.result = search rules in
    let there = slice_get-get_or c.args.bodies.now c.loop-number.number c.body-item.result less
    ∙ ap (λ (b : Body). Some b) (sym is) in
    let p = err_from_is_err_and c.from_residual.result c.from_residual.ensures.1 in
    rw (p.1, p.2) (because (IsLongFunction c.at-scope.result.now.items c.body-item.result.defs)
    (IsFunctionFault c.args.decls.now.scopes c.args.bodies.now)
    (function_is_fault c.args.decls.now.scopes c.args.bodies.now c.loop-number.number c.at-scope.result.now
    c.body-item.result c.at-scope.ensures there) c.in_err-refuse_long.field-0.0 c.in_err-refuse_long.ensures.cause)

pub loop-number-preserved : goal.loop-number-preserved
loop-number-preserved c =
    let less : c.loop-number.number < length c.args.bodies.now = search rules in
    let is : c.body-item.result ≡ get_or c.args.bodies.now c.loop-number.number c.body-item.result = search rules in
    let there = slice_get-get_or c.args.bodies.now c.loop-number.number c.body-item.result less
    ∙ ap (λ (b : Body). Some b) (sym is) in
    one_below c.loop-number.number c.args.decls.now.scopes c.args.bodies.now c.at-scope.result.now c.body-item.result
    c.loop-number.invariant c.at-scope.ensures there c.in_ok-refuse_long.ensures.short

pub returns-clause-short : goal.returns-clause-short
returns-clause-short c =
    let all : length c.args.bodies.now ≤ c.loop-number.number = search (rules, arith) in
    all_below c.args.decls.now.scopes c.args.bodies.now c.loop-number.number all c.loop-number.invariant
