-- What is said of a target, by a tree of it and what is known of its definitions.
use Rattle.std.proofs.Common.{◌≡◌, ◌≤◌, ℕ, Bool, false, List, [], ◌∷◌, map, Some, slice_get}
use Rattle.std.proofs.Common.{sym}
use Rattle.std.proofs.Common.{ap, ◌∙◌, subst, if◌then◌else◌}
use Rattle.std.specs.List.{list_any}
use Rattle.cat_pos.specs.declared.pos.Pos.{Pos}
use Rattle.cat_value.specs.Inputs.{IsWellTyped}
use Rattle.cat_region.specs.Chosen.{point_at}
use Rattle.cat_region.specs.Regions.{Constraints, Valuation, IsRegion, IsInhabited, IsValuation, Admits}
use Rattle.cat_scope.specs.declared.programs.Program.{Program}
use Rattle.cat_scope.specs.Names.{AllHave}
use Rattle.cat_guard.specs.declared.table.Atom.{Atom}
use Rattle.cat_guard.specs.declared.table.Table.{Table}
use Rattle.cat_guard.specs.declared.table.TableTarget.{TableTarget}
use Rattle.cat_guard.specs.declared.tree.CaseTree.{CaseTree}
use Rattle.cat_guard.specs.declared.tree.TreeNode.{TreeNode}
use Rattle.cat_guard.specs.Tables.{TablesScope}
use Rattle.cat_guard.specs.Trees.{Tree, tree_of}
use Rattle.cat_guard.specs.Valuations.{dims_of}
use Rattle.cat_cert.specs.Uncovered.{regions_of}
use Rattle.cat_search.specs.Searched.{everything, Reached, leaves_from}
use Rattle.cat_search.specs.OnWays.{AreOnWays}
use Rattle.cat_audit_sound.specs.PointInputs.{input_at}
use Rattle.cat_dead_report.specs.declared.found.Known.{Known}
use Rattle.cat_dead_report.specs.declared.line.DeadLine.{DeadLine}
use Rattle.cat_dead_report.specs.declared.line.DeadLine.TheVariants as line
use Rattle.cat_dead_report.specs.Causes.{HasDeadLine, leaves_of}
use Rattle.cat_dead_report.specs.DeadReports.{IsSaidOf}
use Rattle.cat_dead.specs.NeverDecides.{HoldsNowhere, NeverDecides}
use Rattle.cat_dead_report.specs.RunLines.{line_in, weight, weight_of, SaysMost}
use Rattle.cat_dead.specs.Winners.{is_same, winner_in, winners_in}
use Rattle.cat_dead_report.specs.inside.Knowing.{AreKnown, known_weight}
use Rattle.cat_dead.specs.Leaves.{leaves_judged}
use Rattle.cat_dead_report.specs.inside.Places.{number_of}
use Rattle.cat_dead_report.specs.inside.Searches.{IsSearchedBy}
use Rattle.cat_dead_report.specs.inside.Tries.{last_lines}
use Rattle.cat_dead_report.specs.inside.WonLeaves.{AreJudgedLeaves, IsTold}
use Rattle.cat_dead.proofs.Exported.{SameElsewhere}
use Rattle.cat_dead.proofs.Exported.{NeverHeldIn}
use Rattle.cat_dead_report.proofs.NeverLemmas.{rest_cause}
use Rattle.cat_dead_report.proofs.ReachedLemmas.{judged_leaf, reached_are, regions_reached, on_ways, judged_leaves_are}
use Rattle.cat_dead_report.proofs.SaidLemmas.{run_cause, lost, said_most, lines_said}

unmapped : {A B : Type 0} (f : A → B) (P : B → Type 0) (xs : List A) → AllHave P (map f xs) → AllHave (λ x. P (f x)) xs
unmapped f P [] all = tt
unmapped f P (x ∷ xs) all = (all.0, unmapped f P xs all.1)

-- where ways lead
abbrev pub WaysLead : Type 0
WaysLead = (atoms : List Atom) (base : Constraints) (nodes : List TreeNode) (w : Tree) → tree_of nodes ≡ Some w
    → AreOnWays atoms base nodes 0 (leaves_from atoms 0 base w)

module _ (table : Table) (t : TableTarget) (budget : ℕ) (found : CaseTree) (whole : Bool)
    (by_search : IsSearchedBy table t budget found whole) (ways : WaysLead) where
  abbrev base : Constraints
  base = everything table.terms

  abbrev reached : List Reached
  reached = leaves_from table.atoms 0 base by_search.made.tree

  led_there : AreOnWays table.atoms base found.nodes 0 reached
  led_there = ways table.atoms base found.nodes by_search.made.tree by_search.made.tree_is

  -- its leaves stand where their ways lead
  pub judged_there : AreJudgedLeaves table t found.nodes 0 (leaves_judged table.atoms t base found.nodes)
  judged_there =
      judged_leaves_are table t found.nodes table.sound by_search.made.tree by_search.made.tree_is
      by_search.made.searched led_there

  regions_are : leaves_of table found.nodes ≡ map (λ (r : Reached). r.region) reached
  regions_are =
      ap (regions_of table.atoms base) by_search.made.tree_is
      ∙ regions_reached table.atoms t 0 base by_search.made.tree

  module _ (program : Program) (tabled : TablesScope program table.scope table)
      (typed : (v : Valuation) → IsValuation (dims_of table.terms) v
      → IsWellTyped program.decls table.scope (input_at program.decls table v))
      (admitted : (region : Constraints) → IsRegion region → IsInhabited region → Admits region (point_at region))
      (held : AllHave (NeverHeldIn table.terms table.atoms) table.targets)
      (dies : (p : Pos) → AllHave (λ t. HoldsNowhere table t p → AllHave (SameElsewhere table t p) table.targets
      → NeverDecides program table t p) table.targets)
      (n : ℕ) (at : slice_get table.targets n ≡ Some t) (numbers : List ℕ) (known : List Known)
      (are : AreKnown program table t found.nodes numbers known)
      (told : AllHave (IsTold program table t found.nodes numbers known)
      (leaves_judged table.atoms t base found.nodes)) where
    told_there : AllHave (λ (r : Reached). IsTold program table t found.nodes numbers known
        (judged_leaf table.atoms t r)) reached
    told_there =
        unmapped (judged_leaf table.atoms t) (IsTold program table t found.nodes numbers known) reached
        (subst (AllHave (IsTold program table t found.nodes numbers known))
        (reached_are table.atoms t base found.nodes by_search.made.tree by_search.made.tree_is) told)

    rest : (p : Pos) (k : ℕ) → k ≡ number_of are.positions p → known_weight (slice_get known k) ≡ 0
        → HasDeadLine program table t budget found.nodes p (if whole then line.Never else line.Budget)
    rest p k number none =
        rest_cause program table tabled held dies t n at budget found whole by_search p
        (ap (λ rs. list_any (is_same p) (winners_in table.atoms t rs)) regions_are
        ∙ lost program table t found.nodes are.positions numbers known are.numbered p k number none reached told_there)

    most : (p : Pos) (k : ℕ) → k ≡ number_of are.positions p → t.function ≡ false → (l : DeadLine)
        → known_weight (slice_get known k) ≡ weight l → SaysMost program table t found.nodes p l
    most p k number plain l weighs =
        subst (AllHave (λ region. winner_in table.atoms t region ≡ p ∷ []
        → weight_of (line_in program table t p region) ≤ weight l)) (sym regions_are)
        (said_most program table t found.nodes are.positions numbers known are.numbered p k number plain (weight l)
        weighs reached told_there (on_ways table t found.nodes 0 reached led_there))

    pub said_of : IsSaidOf program table budget t
        (record { places = numbers; lines = last_lines whole known; tree = found; whole = whole })
    said_of = record {
      made = by_search.made;
      few = by_search.few;
      whole = by_search.whole_is;
      lines = lines_said program table t budget found.nodes whole
          (λ p l of. run_cause program table t found.nodes typed admitted p budget l of) are.positions known are.each
          rest most t.defs numbers are.numbered;
    }
