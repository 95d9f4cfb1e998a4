use Rattle.std.proofs.Common.{List, arith}
use Rattle.cat_parse.specs.Expression.{expression_to}
use Rattle.cat_parse.proofs.Common.{Token, Tree, highest_in}
use Rattle.cat_parse.proofs.Exact.{one_program}
use Rattle.cat_parse.proofs.Reading.{reads_expressions}
use Rattle.cat_parse.proofs.laws.tokens_spell_one_program.Goals as goal

pub returns : goal.returns
returns c =
    λ (t u : Tree) (tokens : List Token) st su.
    let limit = highest_in t in
    one_program limit (expression_to limit) (reads_expressions limit) tokens t u st su (omega arith)
