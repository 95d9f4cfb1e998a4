use Rattle.cat_emitted.proofs.BuiltListed.{there}
use Rattle.cat_emitted.proofs.laws.positions_of_code_are_of_files.Goals as goal

pub returns : goal.returns
returns c contents main source built is whole = there contents main source built is whole
