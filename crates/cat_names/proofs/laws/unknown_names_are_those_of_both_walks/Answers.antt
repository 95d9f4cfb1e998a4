use Rattle.cat_names.proofs.KnownWhole.{bodies_only}
use Rattle.cat_names.proofs.FoundNames.{meaning_is_free}
use Rattle.cat_names.proofs.laws.unknown_names_are_those_of_both_walks.Goals as goal

pub returns-clause-trees : goal.returns-clause-trees
returns-clause-trees c tree decls p named h = (bodies_only tree decls named).only p h

pub returns-clause-expressions : goal.returns-clause-expressions
returns-clause-expressions c names e locals expected x p is h = meaning_is_free names e locals expected x is p h
