-- The report on the definitions of a scope: its lines with their causes, its text and its status.
use Rattle.std.specs.Prelude.{◌≡◌, ◌≤◌, ℕ, Bool, true, false, if◌then◌else◌, List, [], ◌∷◌, ◌++◌, map, Option, None}
use Rattle.std.specs.Prelude.{Some}
use Rattle.std.specs.Prelude.{codes, string_bytes}
use Rattle.std.specs.List.{list_all, list_any}
use Rattle.cat_pos.specs.declared.pos.Pos.{Pos}
use Rattle.cat_value.specs.declared.decls.Decls.{Decls}
use Rattle.cat_scope.specs.declared.programs.Program.{Program}
use Rattle.cat_guard.specs.declared.guard.GuardDef.{GuardDef}
use Rattle.cat_guard.specs.declared.table.Table.{Table}
use Rattle.cat_guard.specs.declared.table.TableTarget.{TableTarget}
use Rattle.cat_guard.specs.declared.tree.CitedNode.{CitedNode}
use Rattle.cat_guard.specs.declared.tree.CitedNode.TheVariants as cited
use Rattle.cat_guard.specs.declared.tree.CitedTree.{CitedTree}
use Rattle.cat_guard.specs.declared.tree.TreeNode.{TreeNode}
use Rattle.cat_guard.specs.declared.tree.TreeNode.TheVariants as node
use Rattle.cat_guard.specs.Tables.{TablesScope}
use Rattle.cat_guard.specs.Trees.{is_whole, leaves}
use Rattle.cat_cert.specs.declared.certificate.Version.TheVariants as version
use Rattle.cat_cert.specs.Lines.{dues_of, due_lines}
use Rattle.cat_cert.specs.Texts.{text_of}
use Rattle.cat_dead_report.specs.declared.line.DeadLine.{DeadLine}
use Rattle.cat_dead_report.specs.declared.line.DeadLine.TheVariants as line
use Rattle.cat_dead_report.specs.declared.line.TargetLines.{TargetLines}
use Rattle.cat_dead_report.specs.declared.report.DeadReport.{DeadReport}
use Rattle.cat_dead_report.specs.Causes.{HasDeadLine, IsSearchedTree}
use Rattle.cat_dead.specs.DeadTexts.{first_line}
use Rattle.cat_dead_report.specs.ReportLines.{lines_of, all_lines}
use Rattle.cat_dead_report.specs.RunLines.{SaysMost}

-- ---- causes

-- a definition, by where it stands, has the first of the lines that apply: this has its cause, and no run on the input
-- of a leaf says more. Functions have no deciders, so what a run says of them is always alike
abbrev pub HasFirstLine : Program → Table → TableTarget → ℕ → List TreeNode → Pos → DeadLine → Type 0
HasFirstLine program table t budget nodes p l =
    HasDeadLine program table t budget nodes p l × (t.function ≡ false → SaysMost program table t nodes p l)

-- each definition has its line
abbrev pub HaveDeadLines : Program → Table → TableTarget → ℕ → List TreeNode → List GuardDef
    → List (Option DeadLine) → Type 0
HaveDeadLines program table t budget nodes [] [] = Unit {0}
HaveDeadLines program table t budget nodes [] (o ∷ os) = ⊥
HaveDeadLines program table t budget nodes (d ∷ ds) [] = ⊥
HaveDeadLines program table t budget nodes (d ∷ ds) (None ∷ os) = ⊥
HaveDeadLines program table t budget nodes (d ∷ ds) (Some l ∷ os) =
    HasFirstLine program table t budget nodes d.pos l × HaveDeadLines program table t budget nodes ds os

-- what is said of a target: its tree was searched, and has at most so many leaves; it is told whether it is whole; and
-- each definition has its line
pub record IsSaidOf (program : Program) (table : Table) (budget : ℕ) (t : TableTarget) (f : TargetLines) : Type 0
  where
    pub made : IsSearchedTree table t f.tree.nodes
    pub few : leaves made.tree ≤ budget
    pub whole : f.whole ≡ is_whole made.tree
    pub lines : HaveDeadLines program table t budget f.tree.nodes t.defs (lines_of f)

-- the same of each of some targets
abbrev pub AreDeadLines : Program → Table → ℕ → List TableTarget → List TargetLines → Type 0
AreDeadLines program table budget [] [] = Unit {0}
AreDeadLines program table budget [] (f ∷ fs) = ⊥
AreDeadLines program table budget (t ∷ ts) [] = ⊥
AreDeadLines program table budget (t ∷ ts) (f ∷ fs) =
    IsSaidOf program table budget t f × AreDeadLines program table budget ts fs

-- ---- the certificate

-- a node of a whole tree
abbrev pub cited_node : TreeNode → CitedNode
cited_node (node.Split a) = cited.Split a
cited_node node.Leaf = cited.Leaf
cited_node node.Rest = cited.Leaf

-- a tree without named parts
abbrev pub cited_tree : TargetLines → CitedTree
cited_tree f = record { names = []; main = map cited_node f.tree.nodes }

-- the certificate, where all trees are whole: what is due for a table in version 1, behind a first line of its own
abbrev pub certificate_lines : Table → List TargetLines → List (List ℕ)
certificate_lines table fs =
    if list_all (λ f. f.whole) fs
    then first_line ∷ due_lines version.One (dues_of (table ∷ [])) (map cited_tree fs)
    else []

-- the lines of a report
abbrev pub report_lines : Decls → List (List ℕ) → ℕ → Table → List TargetLines → List (List ℕ)
report_lines ds files budget table fs =
    (codes "dead " ++ table.name) ∷ (all_lines ds table.scope files budget table.targets fs
    ++ certificate_lines table fs)

-- ---- the status

-- a definition never decides
abbrev pub is_never : Option DeadLine → Bool
is_never (Some line.Never) = true
is_never o = false

-- it does on some input
abbrev pub is_decider : Option DeadLine → Bool
is_decider (Some (line.Decides input)) = true
is_decider o = false

-- 6 where a definition never decides, else 7 where it isn't known of one whether it does, else 0
abbrev pub status_of : List TargetLines → ℕ
status_of fs =
    if list_any (λ f. list_any is_never (lines_of f)) fs then 6
    else (if list_all (λ f. list_all is_decider (lines_of f)) fs then 0 else 7)

-- a report: each line has its cause, and these are its text and its status
pub record IsDeadReport (program : Program) (files : List (List ℕ)) (scope budget : ℕ) (report : DeadReport) : Type 0
  where
    pub table : Table
    pub table_is : TablesScope program scope table
    pub lines : List TargetLines
    pub are : AreDeadLines program table budget table.targets lines
    pub text : string_bytes report.text ≡ text_of (report_lines program.decls files budget table lines)
    pub status : report.status ≡ status_of lines
