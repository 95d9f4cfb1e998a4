use Rattle.cat_walk.proofs.WholeLemmas.{expanded_whole, height-below}
use Rattle.cat_walk.proofs.laws.cited_trees_are_whole.Goals as goal

pub returns : goal.returns
returns c = record {
  whole = λ d t is. expanded_whole d t is;
  low = λ d t is. height-below t (expanded_whole d t is);
}
