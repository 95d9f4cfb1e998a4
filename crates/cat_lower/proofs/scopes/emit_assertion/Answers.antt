use Rattle.std.proofs.Common.{[], None}
use Rattle.cat_lower.specs.Told.{standing_at}
use Rattle.cat_lower.proofs.Grows.{then_ok, kept_code}
use Rattle.cat_lower.proofs.scopes.emit_assertion.Goals as goal

pub returns : goal.returns
returns c =
    then_ok _ _ _ _ _ _
    (kept_code _ _ (standing_at c.args.here.now) c.args.assertion.now.condition None _
    [] c.new-locals.ensures c.in_ok-emit_shared.ensures.grown)
    c.put_assertion.ensures
