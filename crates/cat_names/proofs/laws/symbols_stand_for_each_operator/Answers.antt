use Rattle.cat_names.proofs.SymbolLaws.{rows_stand, prefix_stands, sum_stands, compared_flat}
use Rattle.cat_names.proofs.laws.symbols_stand_for_each_operator.Goals as goal

pub returns-clause-operators : goal.returns-clause-operators
returns-clause-operators c o = rows_stand o

pub returns-clause-prefixes : goal.returns-clause-prefixes
returns-clause-prefixes c o = prefix_stands o

pub returns-clause-sums : goal.returns-clause-sums
returns-clause-sums c kind = sum_stands kind

pub returns-clause-contained : goal.returns-clause-contained
returns-clause-contained c = compared_flat
