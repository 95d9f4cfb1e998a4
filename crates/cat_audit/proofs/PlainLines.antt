-- Lines of a table that has free terms alone.
use Rattle.std.proofs.Common.{◌≡◌, ◌≤◌, ℕ, Bool, true, false, List, [], ◌∷◌, Option, Some, None}
use Rattle.std.proofs.Common.{slice_get, if◌then◌else◌, refl, sym, ap, ◌∙◌, subst, arith, true≢false}
use Rattle.cat_region.specs.declared.narrowing.Narrowing.{Narrowing}
use Rattle.cat_region.specs.Regions.{Constraints}
use Rattle.cat_scope.specs.declared.programs.Program.{Program}
use Rattle.cat_scope.specs.Names.{AllHave}
use Rattle.cat_guard.specs.declared.table.Table.{Table}
use Rattle.cat_guard.specs.declared.table.TableTarget.{TableTarget}
use Rattle.cat_guard.specs.declared.table.Term.{Term}
use Rattle.cat_guard.specs.declared.tree.TreeNode.{TreeNode}
use Rattle.cat_audit_sound.proofs.Exported.{all_at}
use Rattle.cat_audit_sound.specs.Shown.{IsFree}
use Rattle.cat_search.specs.Cells.{cells}
use Rattle.cat_audit.specs.declared.finding.Finding.TheVariants as finding
use Rattle.cat_audit.specs.declared.finding.Line.{Line}
use Rattle.cat_audit.specs.declared.finding.Line.TheVariants as line
use Rattle.cat_audit.specs.declared.finding.TargetLine.{TargetLine}
use Rattle.cat_audit.specs.Causes.{HasCause}
use Rattle.cat_audit.specs.Findings.{derived_in, is_derived, is_no_path, least, position_in, undecided_at}
use Rattle.cat_audit.specs.declared.report.NamedLine.{NamedLine}
use Rattle.cat_audit.specs.Sections.{AreLinesOf, is_found, is_masked, named_lines}
use Rattle.cat_audit.specs.Decided.{EndsInNoFault, HasGap, IsDecidedLine, IsNoFault, IsUnderivedLine}

-- ---- nothing is derived

not_derived : (o : Option Term) → ((term : Term) → o ≡ Some term → IsFree term) → is_derived o ≡ false
not_derived None h = refl
not_derived (Some term) h = ap is_no_path (h term refl).1

none_derived : (terms : List Term) → AllHave IsFree terms → (ns : List Narrowing) → derived_in terms ns ≡ []
none_derived terms free [] = refl
none_derived terms free (n ∷ ns) =
    ap (λ (b : Bool). if b then n.dim ∷ derived_in terms ns else derived_in terms ns)
    (not_derived (slice_get terms n.dim) (λ term at. all_at IsFree terms n.dim term free at))
    ∙ none_derived terms free ns

-- a target that is no function hangs on inputs alone
pub on_inputs : (terms : List Term) → AllHave IsFree terms → (t : TableTarget) → t.function ≡ false
    → (region : Constraints) → undecided_at terms t region ≡ None
on_inputs terms free t no_function region =
    ap (λ (b : Bool). if b then Some t.pos else position_in terms (least (derived_in terms region.narrowings)))
    no_function
    ∙ ap (λ (ns : List ℕ). position_in terms (least ns)) (none_derived terms free region.narrowings)

-- ---- one line

module _ (program : Program) (table : Table) (budget : ℕ) (free : AllHave IsFree table.terms) where
  underived_line : (t : TableTarget) (nodes : List TreeNode) (l : Line) → t.function ≡ false
      → HasCause program table t budget nodes l → IsUnderivedLine l
  underived_line t nodes line.Covered no_function cause = tt
  underived_line t nodes line.Budget no_function cause = tt
  underived_line t nodes (line.Bad (finding.Found o input)) no_function cause = tt
  underived_line t nodes (line.Bad (finding.Masked kind pos input)) no_function cause = tt
  underived_line t nodes (line.Bad (finding.Derived at input o)) no_function cause =
      let none : None ≡ Some at = sym (on_inputs table.terms free t no_function cause.1.0) ∙ cause.1.2 in
      absurd (cc)

  decided_line : (t : TableTarget) (nodes : List TreeNode) (l : Line) → t.function ≡ false
      → cells table.terms table.atoms t ≤ budget → HasCause program table t budget nodes l → IsDecidedLine l
  decided_line t nodes line.Covered no_function within cause = tt
  decided_line t nodes line.Budget no_function within cause =
      let more = cause.more_cells in
      absurd (omega (arith, more, within))
  decided_line t nodes (line.Bad (finding.Found o input)) no_function within cause = tt
  decided_line t nodes (line.Bad (finding.Masked kind pos input)) no_function within cause = tt
  decided_line t nodes (line.Bad (finding.Derived at input o)) no_function within cause =
      underived_line t nodes (line.Bad (finding.Derived at input o)) no_function cause

  -- the lines of targets
  pub underived_lines : (targets : List TableTarget) (made : List TargetLine)
      → AllHave (λ (t : TableTarget). t.function ≡ false) targets → AreLinesOf program table budget targets made
      → AllHave (λ (l : NamedLine). IsUnderivedLine l.line) (named_lines targets made)
  underived_lines [] made no_function are = tt
  underived_lines (t ∷ targets) [] no_function are = tt
  underived_lines (t ∷ targets) (m ∷ made) no_function are = (
    underived_line t m.tree.nodes m.line no_function.0 are.1,
    underived_lines targets made no_function.1 are.2,
  )

  pub decided_lines : (targets : List TableTarget) (made : List TargetLine)
      → AllHave (λ (t : TableTarget). t.function ≡ false) targets
      → AllHave (λ (t : TableTarget). cells table.terms table.atoms t ≤ budget) targets
      → AreLinesOf program table budget targets made
      → AllHave (λ (l : NamedLine). IsDecidedLine l.line) (named_lines targets made)
  decided_lines [] made no_function within are = tt
  decided_lines (t ∷ targets) [] no_function within are = tt
  decided_lines (t ∷ targets) (m ∷ made) no_function within are = (
    decided_line t m.tree.nodes m.line no_function.0 within.0 are.1,
    decided_lines targets made no_function.1 within.1 are.2,
  )

-- ---- what lines show

-- a line that is Found shows a conflict or a gap, and one that is Masked a fault
abbrev pub ShowsOf : Program → ℕ → Line → Type 0
ShowsOf program scope l =
    (is_found l ≡ true → HasGap program scope) × (EndsInNoFault program scope → is_masked l ≡ false)

module _ (program : Program) (table : Table) (budget : ℕ) where
  line_shows : (t : TableTarget) (nodes : List TreeNode) (l : Line) → HasCause program table t budget nodes l
      → ShowsOf program table.scope l
  line_shows t nodes line.Covered cause = ((λ e. absurd (true≢false (sym e))), (λ none. refl))
  line_shows t nodes line.Budget cause = ((λ e. absurd (true≢false (sym e))), (λ none. refl))
  line_shows t nodes (line.Bad (finding.Found o input)) cause = (
    (λ e. record {
      input = input;
      typed = cause.1.1.typed;
      ending = o;
      ends = cause.1.1.comes_to;
      failure = cause.0;
    }),
    (λ none. refl),
  )
  line_shows t nodes (line.Bad (finding.Masked kind pos input)) cause = (
    (λ e. absurd (true≢false (sym e))),
    (λ none. absurd (subst IsNoFault cause.1.1.comes_to (none input cause.1.1.typed))),
  )
  line_shows t nodes (line.Bad (finding.Derived at input o)) cause =
      ((λ e. absurd (true≢false (sym e))), (λ none. refl))

  pub lines_show : (targets : List TableTarget) (made : List TargetLine) → AreLinesOf program table budget targets made
      → AllHave (λ (l : NamedLine). ShowsOf program table.scope l.line) (named_lines targets made)
  lines_show [] made are = tt
  lines_show (t ∷ targets) [] are = tt
  lines_show (t ∷ targets) (m ∷ made) are =
      (line_shows t m.tree.nodes m.line are.1, lines_show targets made are.2)
