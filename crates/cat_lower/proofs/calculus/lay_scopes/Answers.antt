use Rattle.std.proofs.Common.{rules, ℕ, subst, length, ◌≡◌, ◌+◌, List, Some, None, drop, slice_get}
use Rattle.std.proofs.lemmas.List.{drop_all}
use Rattle.cat_calc.specs.declared.calcs.CalcScope.{CalcScope}
use Rattle.cat_lower.specs.Drafts.{Lays}
use Rattle.cat_lower.specs.Lowered.{standing}
use Rattle.cat_lower.proofs.Rests.{next, rest_from, none_from}
use Rattle.cat_lower.proofs.Drafting.{goes_on, no_terms, no_scopes}
use Rattle.cat_lower.proofs.calculus.lay_scopes.Goals as goal

pub loop-number-preserved : goal.loop-number-preserved
loop-number-preserved c =
    let ds = c.args.decls.now in
    let n = c.loop-number.number in
    let all : List CalcScope = c.args.scopes.now in
    let terms = c.terms-item.result in
    let scope = c.in-Some.scope.now in
    let there : slice_get ds.scopes n ≡ Some scope = search rules in
    let old = c.loop-number.draft in
    let laid =
    subst (λ (m : ℕ). Lays old c.lay_scope.new.draft
    (standing ds m (length old.functions) (length old.definitions) scope terms))
    c.in_ok-number.ensures c.in_ok-lay_scope.ensures in
    goes_on ds n scope (drop (n + 1) ds.scopes) (drop n ds.scopes) terms (drop (n + 1) all)
    (drop n all) c.loop-number.draft _ _
    (rest_from ds.scopes n scope there)
    (next all c.as_slice-terms-items.result.now n terms c.as_slice-terms-items.ensures c.loop-number-test.true
    c.terms-item.is)
    laid c.loop-number.invariant

pub returns-in_default : goal.returns-in_default
returns-in_default c =
    let ds = c.args.decls.now in
    let n = c.loop-number.number in
    let none : slice_get ds.scopes n ≡ None = search rules in
    no_scopes ds n (drop n ds.scopes) (drop n c.args.scopes.now) c.loop-number.draft _
    (none_from ds.scopes n none) c.loop-number.invariant

pub returns : goal.returns
returns c =
    no_terms c.args.decls.now c.loop-number.number (drop c.loop-number.number c.args.decls.now.scopes)
    (drop c.loop-number.number c.args.scopes.now)
    c.loop-number.draft _ (drop_all c.loop-number.number c.args.scopes.now (search rules)) c.loop-number.invariant
