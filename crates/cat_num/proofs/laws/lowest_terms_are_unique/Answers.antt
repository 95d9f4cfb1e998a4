use Rattle.cat_num.proofs.Fracs.{lowest-positive, lowest-coprime, lowest-cross, lowest_is}
use Rattle.cat_num.proofs.laws.lowest_terms_are_unique.Goals as goal

pub returns : goal.returns
returns c n d h = record {
  positive = lowest-positive n d h;
  lowest_terms = lowest-coprime n d h;
  value = lowest-cross n d;
  unique = λ f r e. lowest_is f n d h r e;
}
