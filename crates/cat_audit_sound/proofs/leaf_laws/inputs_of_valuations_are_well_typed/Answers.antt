use Rattle.std.proofs.Common.{subst}
use Rattle.cat_value.specs.Laws.{AreSound}
use Rattle.cat_audit_sound.proofs.TypedInputs.{inputs_typed}
use Rattle.cat_audit_sound.proofs.leaf_laws.inputs_of_valuations_are_well_typed.Goals as goal

pub returns : goal.returns
returns c scope table v tabled valid =
    inputs_typed c.args.program.now.decls
    (subst AreSound c.decls.ensures c.declarations_are_sound.ensures) scope tabled.0 table v tabled.2
    tabled.4.scope_is valid
