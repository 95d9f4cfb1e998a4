-- Worked examples: a base under `n > 5` with an exception under `n > 3`, of which the base never decides.
use Rattle.std.proofs.Common.{◌≡◌, false, List, [], ◌∷◌, codes, None, refl}
use Rattle.std.specs.Prelude.{filter}
use Rattle.std.specs.Fmt.{digits}
use Rattle.cat_pos.specs.Position.{pos_of}
use Rattle.cat_guard.specs.declared.guard.Guard.TheVariants as flat_guard
use Rattle.cat_guard.specs.declared.guard.Guard.TheViews as guard
use Rattle.cat_guard.specs.declared.table.TableTarget.{TableTarget}
use Rattle.cat_guard.specs.declared.tree.TreeNode.TheVariants as node
use Rattle.cat_guard.specs.Verdicts as verdict
use Rattle.cat_cert.specs.Texts.{parted}
use Rattle.cat_dead.specs.declared.judged.JudgedLeaf.{JudgedLeaf}
use Rattle.cat_dead.specs.declared.judged.LeafJudgement.TheVariants as judged
use Rattle.cat_dead.specs.DeadTexts.{passed_over, as_certificate, lines_of}
use Rattle.cat_dead.specs.Leaves.{judgement_of, leaf_nodes, leaves_at}
use Rattle.cat_dead.specs.Winners.{holder_of, wins_nowhere, definitions_of}
use Rattle.cat_dead.specs.inside.Told.{opened, winners_among}

-- ---- the text

-- a report, and the first line of a certificate of another kind, are passed over
two_passed : passed_over (codes "dead S" ∷ codes "catala-certificate 1" ∷ codes "catala-dead 1" ∷ []) ≡ 2
two_passed = refl

its_lines : lines_of (parted (codes "dead S\ncatala-dead 1\nscope S\n"))
    ≡ codes "catala-certificate 1" ∷ codes "scope S" ∷ []
unfolding parted digits
its_lines = refl

-- another first line begins no certificate
another_version : as_certificate (codes "catala-dead 2" ∷ []) ≡ codes "catala-dead 2" ∷ []
another_version = refl

-- ---- the target

-- atom 0 is `n <= 5`, and atom 1 is `n <= 3`
abbrev target : TableTarget
target = record {
  target = record { scope = 0; item = 1; inner = None };
  name = codes "x";
  function = false;
  may_be_empty = false;
  pos = pos_of 0 4 10;
  defs =
      record { number = 0; guard = guard.Not (flat_guard.Atom 0); pos = pos_of 0 6 11 }
      ∷ record { number = 1; guard = guard.Not (flat_guard.Atom 1); pos = pos_of 0 7 15 } ∷ [];
  groups =
      record { defs = 0 ∷ []; excepted_by = 1 ∷ [] } ∷ record { defs = 1 ∷ []; excepted_by = [] } ∷ [];
  roots = 0 ∷ [];
}

-- a conflict has no winner
two_hold : holder_of target verdict.Conflict ≡ []
two_hold = refl

no_winner : judgement_of verdict.Conflict ≡ judged.NoWinner
no_winner = refl

-- ---- its leaves

-- the leaves of a split are the second and the third node
its_nodes : leaf_nodes 0 (node.Split 1 ∷ node.Leaf ∷ node.Leaf ∷ []) ≡ 1 ∷ 2 ∷ []
its_nodes = refl

-- parted at 3: up to there nothing holds, and above it the exception
abbrev known : List JudgedLeaf
known = leaves_at (1 ∷ 2 ∷ []) (judged.NoWinner ∷ judged.Wins 1 ∷ [])

-- parted at 5: up to there it hangs on the other atom
abbrev unknown : List JudgedLeaf
unknown = leaves_at (1 ∷ 2 ∷ []) (judged.Open ∷ judged.Wins 1 ∷ [])

-- behind line 6 the nodes stand in the lines 7 to 9
none_is_open : opened 6 known ≡ []
none_is_open = refl

the_first_is_open : opened 6 unknown ≡ 8 ∷ []
the_first_is_open = refl

the_exception_wins : winners_among target known ≡ pos_of 0 7 15 ∷ []
the_exception_wins = refl

the_base_never_decides :
    filter (wins_nowhere (winners_among target known)) (definitions_of (target ∷ [])) ≡ pos_of 0 6 11 ∷ []
the_base_never_decides = refl
