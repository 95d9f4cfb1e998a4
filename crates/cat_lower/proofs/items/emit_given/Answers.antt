use Rattle.cat_code.specs.declared.instr.Instr.TheVariants as instr
use Rattle.cat_lower.specs.Laying.{Coded, one}
use Rattle.cat_lower.specs.Scopes.{stored_code}
use Rattle.cat_lower.specs.Told.{scope_standing}
use Rattle.cat_lower.proofs.Grows.{grown_then}
use Rattle.cat_lower.proofs.Patches.{jumped}
use Rattle.cat_lower.proofs.items.emit_given.Goals as goal

pub returns : goal.returns
returns c =
    let part : Coded =
    stored_code (scope_standing c.args.here.now c.args.scope.now) c.args.item c.args.decl.now
    c.args.decl.now.params in
    jumped _ _ _ (λ t. instr.Given c.args.item t) _ part _ _
    (grown_then _ _ _ (one (instr.Given c.args.item 0)) part c.in_ok-given.ensures.grown c.in_ok-emit_stored.ensures)
    c.in_ok-given.ensures.place c.in_ok-end.ensures c.patch.ensures
