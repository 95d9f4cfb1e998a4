use Rattle.cat_emitted.proofs.FileNames.{files_lines}
use Rattle.cat_emitted.proofs.laws.files_of_sources_are_named.Goals as goal

pub returns : goal.returns
returns c contents main source own is = files_lines contents main source own is
