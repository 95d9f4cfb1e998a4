use Rattle.std.proofs.Common.{◌∙◌, ap, List, ℕ, [], ◌∷◌, ◌++◌}
use Rattle.cat_value.specs.declared.decls.Decls.{Decls}
use Rattle.cat_scope.proofs.BareProgram.{bare_requires}
use Rattle.cat_scope.proofs.tests.program.Goals as goal

pub from_parts-requires : goal.from_parts-requires
from_parts-requires c = bare_requires _ _ _ _
    (ap (λ (ds : Decls). ds.scopes) c.in_ok-shared.ensures ∙ c.in_ok-decls.ensures) c.in_ok-bodies.ensures
    (c.in_ok-push.ensures.ok ∙ ap (λ (made : List ℕ). made ++ 0 ∷ []) c.new-scope_order.ensures)
