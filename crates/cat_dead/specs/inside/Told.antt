-- What the judged leaves of a tree tell: the lines of the open ones, and the winners.
use Rattle.std.specs.Prelude.{◌≡◌, ◌<◌, ◌^◌, ℕ, ◌+◌, List, [], ◌∷◌, ◌++◌, slice_get, Result, Ok, Err}
use Rattle.cat_pos.specs.declared.pos.Pos.{Pos}
use Rattle.cat_scope.specs.Names.{AllHave}
use Rattle.cat_guard.specs.declared.table.Table.{Table}
use Rattle.cat_guard.specs.declared.table.TableTarget.{TableTarget}
use Rattle.cat_guard.specs.Trees.{expanded}
use Rattle.cat_cert.specs.declared.certificate.CertTree.{CertTree}
use Rattle.cat_cert.specs.declared.refusal.CertRefusal.{CertRefusal}
use Rattle.cat_cert.specs.Uncovered.{everything}
use Rattle.cat_cert.specs.inside.Checkable.{NamesFirst}
use Rattle.cat_dead.specs.declared.judged.JudgedLeaf.{JudgedLeaf}
use Rattle.cat_dead.specs.declared.judged.LeafJudgement.{LeafJudgement}
use Rattle.cat_dead.specs.declared.judged.LeafJudgement.TheVariants as leaf
use Rattle.cat_dead.specs.Winners.{IsKnown, place_of, tree_open, tree_winners}

-- the line of a leaf that is judged so, if it is open
abbrev pub line_if : ℕ → LeafJudgement → List ℕ
line_if line leaf.Nothing = []
line_if line (leaf.Wins d) = []
line_if line leaf.NoWinner = []
line_if line leaf.Open = line ∷ []

-- the lines of open leaves, where the nodes are written behind that line
abbrev pub opened : ℕ → List JudgedLeaf → List ℕ
opened head [] = []
opened head (l ∷ ls) = line_if (head + 1 + l.node) l.judged ++ opened head ls

-- where the definition stands that a leaf has as its winner, if it has one
abbrev pub winner_if : TableTarget → LeafJudgement → List Pos
winner_if t leaf.Nothing = []
winner_if t (leaf.Wins d) = place_of (slice_get t.defs d)
winner_if t leaf.NoWinner = []
winner_if t leaf.Open = []

-- the winners of leaves
abbrev pub winners_among : TableTarget → List JudgedLeaf → List Pos
winners_among t [] = []
winners_among t (l ∷ ls) = winner_if t l.judged ++ winners_among t ls

-- the lines of leaves are numbers that can be written
abbrev pub HaveLines : ℕ → List JudgedLeaf → Type 0
HaveLines head ls = AllHave (λ l. head + 1 + l.node < 2 ^ 64) ls

-- the winners of the leaves of a target's tree are added to others, and none of these leaves is open; or a refusal
-- names the first that is
abbrev pub IsAdded : Table → TableTarget → CertTree → List Pos → List Pos → Result (Unit {0}) CertRefusal → Type 0
IsAdded table t c old new (Ok u) =
    (tree_open table.atoms (everything table.terms) t c ≡ [])
    × IsKnown table.atoms (everything table.terms) t (expanded c.tree)
    × (new ≡ old ++ tree_winners table.atoms (everything table.terms) t c)
IsAdded table t c old new (Err why) = NamesFirst (tree_open table.atoms (everything table.terms) t c) why
