-- Lines of a plain scope.
use Rattle.std.proofs.Common.{◌≡◌, ◌≤◌, ℕ, false, List, [], ◌∷◌, Option, Some, None, sym}
use Rattle.std.proofs.Common.{◌∙◌, arith}
use Rattle.cat_pos.specs.declared.pos.Pos.{Pos}
use Rattle.cat_scope.specs.declared.programs.Program.{Program}
use Rattle.cat_scope.specs.Names.{AllHave}
use Rattle.cat_guard.specs.declared.guard.GuardDef.{GuardDef}
use Rattle.cat_guard.specs.declared.table.Table.{Table}
use Rattle.cat_guard.specs.declared.table.TableTarget.{TableTarget}
use Rattle.cat_guard.specs.declared.tree.TreeNode.{TreeNode}
use Rattle.cat_audit_sound.specs.Shown.{IsFree}
use Rattle.cat_search.specs.Cells.{cells}
use Rattle.cat_audit.proofs.PlainLines.{on_inputs}
use Rattle.cat_dead_report.specs.declared.line.DeadLine.{DeadLine}
use Rattle.cat_dead_report.specs.declared.line.DeadLine.TheVariants as line
use Rattle.cat_dead_report.specs.declared.line.TargetLines.{TargetLines}
use Rattle.cat_dead_report.specs.Causes.{HasDeadLine}
use Rattle.cat_dead_report.specs.DeadReports.{HaveDeadLines, AreDeadLines}
use Rattle.cat_dead_report.specs.PlainReports.{IsDecidedLine, AreDecidedLines}
use Rattle.cat_dead_report.specs.ReportLines.{lines_of}

-- ---- lines

module _ (program : Program) (table : Table) (budget : ℕ) (free : AllHave IsFree table.terms) where
  decided_line : (t : TableTarget) (nodes : List TreeNode) (p : Pos) (l : DeadLine) → t.function ≡ false
      → cells table.terms table.atoms t ≤ budget → HasDeadLine program table t budget nodes p l
      → IsDecidedLine (Some l)
  decided_line t nodes p (line.Decides input) no_function within cause = tt
  decided_line t nodes p (line.Masked input o) no_function within cause = tt
  decided_line t nodes p (line.Derived at input o) no_function within cause =
      let none : None ≡ Some at = sym (on_inputs table.terms free t no_function cause.0) ∙ cause.2 in
      absurd (cc)
  decided_line t nodes p line.Budget no_function within cause =
      let more = cause.0.more_cells in
      absurd (omega (arith, more, within))
  decided_line t nodes p line.Never no_function within cause = tt

  decided_target : (t : TableTarget) (nodes : List TreeNode) → t.function ≡ false
      → cells table.terms table.atoms t ≤ budget → (defs : List GuardDef) (os : List (Option DeadLine))
      → HaveDeadLines program table t budget nodes defs os → AllHave IsDecidedLine os
  decided_target t nodes no_function within [] [] have = tt
  decided_target t nodes no_function within [] (o ∷ os) have = absurd (have)
  decided_target t nodes no_function within (d ∷ defs) [] have = absurd (have)
  decided_target t nodes no_function within (d ∷ defs) (None ∷ os) have = absurd (have)
  decided_target t nodes no_function within (d ∷ defs) (Some l ∷ os) have = (
    decided_line t nodes d.pos l no_function within have.0.0,
    decided_target t nodes no_function within defs os have.1,
  )

  pub decided_targets : (ts : List TableTarget) (fs : List TargetLines)
      → AllHave (λ (t : TableTarget). t.function ≡ false) ts
      → AllHave (λ (t : TableTarget). cells table.terms table.atoms t ≤ budget) ts
      → AreDeadLines program table budget ts fs → AllHave AreDecidedLines fs
  decided_targets [] [] no_function within are = tt
  decided_targets [] (f ∷ fs) no_function within are = absurd (are)
  decided_targets (t ∷ ts) [] no_function within are = absurd (are)
  decided_targets (t ∷ ts) (f ∷ fs) no_function within are = (
    decided_target t f.tree.nodes no_function.0 within.0 t.defs (lines_of f) are.0.lines,
    decided_targets ts fs no_function.1 within.1 are.1,
  )
