use Rattle.cat_weave.proofs.ToldLemmas.{endings_are_told, files_are_told}
use Rattle.cat_weave.proofs.laws.told_sources_are_gathered.Goals as goal

pub returns-clause-endings : goal.returns-clause-endings
returns-clause-endings c told main source ending is has = endings_are_told told main source ending is has

pub returns-clause-files : goal.returns-clause-files
returns-clause-files c told main name source bytes is comes = files_are_told told main name source bytes is comes
