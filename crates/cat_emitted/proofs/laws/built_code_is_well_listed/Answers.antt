use Rattle.cat_emitted.proofs.BuiltListed.{built_listed}
use Rattle.cat_emitted.proofs.laws.built_code_is_well_listed.Goals as goal

pub returns : goal.returns
returns c contents main source built line is whole some small =
    built_listed contents main source built is whole line some small
