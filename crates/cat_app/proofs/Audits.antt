-- What is said of a report.
use Rattle.std.proofs.Common.{◌≡◌, ◌<◌, ◌≤◌, ◌++◌, ◌∙◌, ℕ, zero, suc, drop, List, [], ◌∷◌, map, length}
use Rattle.std.proofs.Common.{refl, sym, subst, arith}
use Rattle.std.proofs.Math.Logic.{∥∥₁_elim}
use Rattle.std.proofs.Props.{props}
use Rattle.std.specs.Prelude.{Option, IsTrue}
use Rattle.cat_value.specs.declared.decls.Decls.{Decls}
use Rattle.cat_scope.specs.declared.defs.Body.{Body}
use Rattle.cat_scope.specs.Names.{AllHave}
use Rattle.cat_scope.specs.WellFormed.{IsWellFormed}
use Rattle.cat_guard.specs.declared.table.Table.{Table}
use Rattle.cat_guard.specs.declared.table.TableTarget.{TableTarget}
use Rattle.cat_guard.specs.declared.tree.CaseTree.{CaseTree}
use Rattle.cat_guard.specs.Trees.{Tree, tree_of}
use Rattle.cat_walk.specs.Sharing.{is_whole_tree}
use Rattle.cat_cert.specs.Lines.{targets_of}
use Rattle.cat_audit.specs.declared.report.Verdict.{Verdict}
use Rattle.cat_audit.specs.declared.report.Verdict.TheVariants as verdict
use Rattle.cat_audit.specs.declared.report.Section.{Section}
use Rattle.cat_audit.specs.Complete.{AreClosedTrees, targets_in}
use Rattle.cat_audit.specs.Reports.{last_verdict}

-- ---- the last verdict

-- that of the last section, and this one where there is none
abbrev pub last_from : Verdict → List Section → Verdict
last_from v [] = v
last_from v (s ∷ sections) = last_from s.verdict sections

last_behind : (v : Verdict) (s : Section) (sections : List Section)
    → last_from v (s ∷ sections) ≡ last_verdict (s ∷ sections)
last_behind v s [] = refl
last_behind v s (t ∷ sections) = last_behind s.verdict t sections

pub last_of : (sections : List Section) → last_from verdict.Undecided sections ≡ last_verdict sections
last_of [] = refl
last_of (s ∷ sections) = last_behind verdict.Undecided s sections

-- where nothing comes any more
pub last_at : (v : Verdict) (n : ℕ) (sections : List Section) → length sections ≤ n
    → last_from v (drop n sections) ≡ v
last_at v zero [] short = refl
last_at v (suc n) [] short = refl
last_at v zero (s ∷ sections) short = absurd (omega (arith, short))
last_at v (suc n) (s ∷ sections) short = last_at v n sections (omega (arith, short))

-- ---- scopes of a program

-- a declared scope has a body
pub has_body : (ds : Decls) (bodies : List Body) (order : List ℕ) (scope : ℕ) → ∥ IsWellFormed ds bodies order ∥₁
    → scope < length ds.scopes → scope < length bodies
has_body ds bodies order scope formed within =
    let counted : length bodies ≡ length ds.scopes = ∥∥₁_elim formed (hlevel props) (λ f. f.counted) in
    omega (arith, counted, within)

-- ---- the trees of a report

abbrev paired : Table → TableTarget → Table × TableTarget
paired table t = (table, t)

as_many_paired : (table : Table) (ts : List TableTarget) (ps : List (Table × TableTarget)) (us : List TableTarget)
    → length ps ≡ length us → length (map (paired table) ts ++ ps) ≡ length (ts ++ us)
as_many_paired table [] ps us e = e
as_many_paired table (t ∷ ts) ps us e = let more = as_many_paired table ts ps us e in omega (arith, more)

as_many_targets : (tables : List Table) → length (targets_in tables) ≡ length (targets_of tables)
as_many_targets [] = refl
as_many_targets (table ∷ tables) =
    as_many_paired table table.targets (targets_in tables) (targets_of tables) (as_many_targets tables)

as_many_trees : (most : ℕ) (targets : List (Table × TableTarget)) (trees : List CaseTree)
    → AreClosedTrees most targets trees → length trees ≡ length targets
as_many_trees most [] [] are = refl
as_many_trees most [] (c ∷ trees) are = absurd are
as_many_trees most (t ∷ targets) [] are = absurd are
as_many_trees most (t ∷ targets) (c ∷ trees) are =
    let more = as_many_trees most targets trees are.1 in omega (arith, more)

-- closed trees are as many as there are targets
pub trees_counted : (most : ℕ) (tables : List Table) (trees : List CaseTree)
    → AreClosedTrees most (targets_in tables) trees → length trees ≡ length (targets_of tables)
trees_counted most tables trees are = as_many_trees most (targets_in tables) trees are ∙ as_many_targets tables

abbrev pub AreWholeTrees : List CaseTree → Type 0
AreWholeTrees trees = AllHave (λ t. IsTrue (is_whole_tree (tree_of t.nodes))) trees

-- and they are whole
pub trees_whole : (most : ℕ) (targets : List (Table × TableTarget)) (trees : List CaseTree)
    → AreClosedTrees most targets trees → AreWholeTrees trees
trees_whole most [] [] are = tt
trees_whole most [] (c ∷ trees) are = absurd are
trees_whole most (t ∷ targets) [] are = absurd are
trees_whole most (t ∷ targets) (c ∷ trees) are = (
  subst (λ (o : Option Tree). IsTrue (is_whole_tree o)) (sym are.0.tree_is) are.0.whole,
  trees_whole most targets trees are.1,
)
