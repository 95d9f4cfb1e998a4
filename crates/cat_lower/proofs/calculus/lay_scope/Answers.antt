use Rattle.std.proofs.Common.{◌∙◌, refl}
use Rattle.cat_lower.proofs.Drafting.{laid_ok}
use Rattle.cat_lower.proofs.calculus.lay_scope.Goals as goal

pub returns : goal.returns
returns c =
    laid_ok _ _ _ c.args.decls.now c.args.scope.now c.args.scoped.now.terms.now _ _ _ _ _ _ _ refl
    (c.in_ok-functions.ensures ∙ c.len.ensures) (c.in_ok-definitions.ensures ∙ c.len-2.ensures)
    c.in_ok-emit_scope.ensures.grown c.in_ok-emit_scope.ensures.functions c.in_ok-emit_scope.ensures.scopes
    c.in_ok-positions.ensures c.append.ensures.ok
