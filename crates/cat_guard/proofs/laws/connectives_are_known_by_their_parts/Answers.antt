use Rattle.cat_guard.proofs.FormulaLaws.{three_exact}
use Rattle.cat_guard.proofs.laws.connectives_are_known_by_their_parts.Goals as goal

pub returns-clause-three : goal.returns-clause-three
returns-clause-three c f x y z b = three_exact f x y z b
