use Rattle.std.proofs.Common.{◌∙◌, ℕ, [], ◌∷◌, ◌++◌, ap}
use Rattle.cat_lower.proofs.Grows.{then_ok, told_ok, place_behind}
use Rattle.cat_lower.proofs.scopes.emit_scope.Goals as goal

pub returns-clause-grown : goal.returns-clause-grown
returns-clause-grown c = then_ok _ _ _ _ _ _ c.in_ok-emit_functions.ensures.grown c.emit_scope_body.ensures

pub returns-clause-functions : goal.returns-clause-functions
returns-clause-functions c = told_ok _ c.in_ok-emit_functions.ensures.entries

pub returns-clause-scopes : goal.returns-clause-scopes
returns-clause-scopes c =
    told_ok _ (c.in_ok-push.ensures.ok
    ∙ ap (λ (n : ℕ). c.args.scopes.now ++ n ∷ [])
    (c.in_ok-begin.ensures ∙ place_behind _ _ _ c.in_ok-emit_functions.ensures.grown))
