-- The table of a scope.
use Rattle.std.specs.Prelude.{◌≡◌, ℕ, ◌+◌, ◌||◌, nat_eq, Bool, false, not, List, [], ◌∷◌, ◌++◌, map, Option, Some}
use Rattle.std.specs.Prelude.{None}
use Rattle.std.specs.Prelude.{slice_get, if◌then◌else◌}
use Rattle.cat_pos.specs.Position.{pos_of}
use Rattle.cat_pos.specs.declared.pos.Pos.{Pos}
use Rattle.cat_value.specs.declared.decls.Decls.{Decls}
use Rattle.cat_value.specs.declared.declaration.Kind.{Kind}
use Rattle.cat_value.specs.declared.declaration.Kind.TheVariants as kind
use Rattle.cat_value.specs.declared.declaration.ItemDecl.{ItemDecl}
use Rattle.cat_value.specs.declared.declaration.Scope.{Scope}
use Rattle.cat_value.specs.declared.outcome.Target.{Target}
use Rattle.cat_value.specs.Inputs.{must_be_given}
use Rattle.cat_scope.specs.declared.defs.Def.{Def}
use Rattle.cat_scope.specs.declared.defs.Body.{Body}
use Rattle.cat_scope.specs.declared.programs.Program.{Program}
use Rattle.cat_scope.specs.Names.{has_none, scope_items}
use Rattle.cat_scope.specs.Groups.{Numbered, Group, groups_of, roots_of, excepts, excepting}
use Rattle.cat_scope.specs.Targets.{defs_from}
use Rattle.cat_scope.specs.Forests.{targets_of}
use Rattle.cat_scope.specs.Same.{Standing}
use Rattle.cat_guard.specs.declared.guard.Guard.{Guard}
use Rattle.cat_guard.specs.declared.guard.Guard.TheVariants as leaf
use Rattle.cat_guard.specs.declared.guard.Guard.TheViews as guard
use Rattle.cat_guard.specs.declared.guard.GuardDef.{GuardDef}
use Rattle.cat_guard.specs.declared.guard.GuardGroup.{GuardGroup}
use Rattle.cat_guard.specs.declared.table.TableTarget.{TableTarget}
use Rattle.cat_guard.specs.declared.table.Table.{Table}
use Rattle.cat_guard.specs.Formulas.{Formula, asked, renamed}
use Rattle.cat_guard.specs.Formulas as formula
use Rattle.cat_guard.specs.Questions.{Question, condition_guard}
use Rattle.cat_guard.specs.Terms.{terms_of, atoms_of, atom_number}

-- a formula over the numbers of atoms as a guard
abbrev pub guard_tree : Formula ℕ → Guard
guard_tree (formula.Constant b) = leaf.Constant b
guard_tree (formula.Atom a) = leaf.Atom a
guard_tree (formula.Not f) = guard.Not (guard_tree f)
guard_tree (formula.Both f g) = guard.Both (guard_tree f) (guard_tree g)
guard_tree (formula.Either f g) = guard.Either (guard_tree f) (guard_tree g)
guard_tree (formula.Differ f g) = guard.Differ (guard_tree f) (guard_tree g)
guard_tree (formula.Choice c f g) = guard.Choice (guard_tree c) (guard_tree f) (guard_tree g)

-- in which definitions an expression of a definition stands
abbrev pub standing_of : Def → Standing
standing_of d = record { function = d.target.item; params = d.params }

-- the guard of a definition
abbrev pub def_formula : Decls → Def → Formula Question
def_formula ds d = condition_guard ds (standing_of d) d.condition

-- the questions of some definitions, in source order and from the left
abbrev pub defs_questions : Decls → List Numbered → List Question
defs_questions ds [] = []
defs_questions ds (d ∷ rest) = asked (def_formula ds d.1) ++ defs_questions ds rest

-- the questions of targets, in their order
abbrev pub questions_of : Decls → List Def → List Target → List Question
questions_of ds defs [] = []
questions_of ds defs (t ∷ targets) = defs_questions ds (defs_from t 0 defs) ++ questions_of ds defs targets

-- a definition by its guard
abbrev pub guard_def : Decls → List Question → Numbered → GuardDef
guard_def ds qs d = record {
  number = d.0;
  guard = guard_tree (renamed (atom_number qs) (def_formula ds d.1));
  pos = d.1.pos;
}

-- the number of a definition among those of its target
abbrev pub place_of : ℕ → List Numbered → ℕ
place_of n [] = 0
place_of n (d ∷ rest) = if nat_eq d.0 n then 0 else 1 + place_of n rest

-- groups from number n on, each with its definitions among those of the target, and the groups that except it
abbrev pub guard_groups : List Numbered → List (ℕ × ℕ) → ℕ → List Group → List GuardGroup
guard_groups all pairs n [] = []
guard_groups all pairs n (g ∷ gs) =
    record { defs = map (λ d. place_of d.0 all) g.defs; excepted_by = excepting pairs n }
    ∷ guard_groups all pairs (n + 1) gs

-- the items of the scope that an item calls, by its kind
abbrev pub inner_items : Decls → Kind → List ItemDecl
inner_items ds (kind.Called scope) = scope_items ds scope
inner_items ds _ = []

-- the item of that number of the scope that an item calls
abbrev pub inner_item : Decls → Option ItemDecl → ℕ → Option ItemDecl
inner_item ds None n = None
inner_item ds (Some decl) n = slice_get (inner_items ds decl.kind) n

-- the name of an item
abbrev pub item_name : Option ItemDecl → List ℕ
item_name None = []
item_name (Some decl) = decl.name

-- the name of a target: `x`, or `t.x`
abbrev pub target_name : Decls → Option ItemDecl → Option ℕ → List ℕ
target_name ds decl None = item_name decl
target_name ds decl (Some n) = item_name decl ++ 46 ∷ item_name (inner_item ds decl n)

-- a condition, or what need not be given
abbrev pub condition_or_context : Option ItemDecl → Bool
condition_or_context None = false
condition_or_context (Some decl) = decl.condition || not (must_be_given decl.kind)

-- a condition
abbrev pub is_condition : Option ItemDecl → Bool
is_condition None = false
is_condition (Some decl) = decl.condition

-- a target may be empty where it is a condition, or a context of a called scope
abbrev pub may_be_empty : Decls → Option ItemDecl → Option ℕ → Bool
may_be_empty ds decl None = is_condition decl
may_be_empty ds decl (Some n) = condition_or_context (inner_item ds decl n)

-- a target is a function
abbrev pub is_function : Option ItemDecl → Option ℕ → Bool
is_function None inner = false
is_function (Some decl) None = not (has_none decl.params)
is_function (Some decl) (Some n) = false

-- the position of an item's name in its declaration
abbrev pub item_pos : Option ItemDecl → Pos
item_pos None = pos_of 0 0 0
item_pos (Some decl) = decl.pos

-- a target of a scope with these items, of which these are all definitions and questions
abbrev pub target_of : Decls → List ItemDecl → List Def → List Question → Target → TableTarget
target_of ds items defs qs t = record {
  target = t;
  name = target_name ds (slice_get items t.item) t.inner;
  function = is_function (slice_get items t.item) t.inner;
  may_be_empty = may_be_empty ds (slice_get items t.item) t.inner;
  pos = item_pos (slice_get items t.item);
  defs = map (guard_def ds qs) (defs_from t 0 defs);
  groups =
      guard_groups (defs_from t 0 defs) (excepts (groups_of (defs_from t 0 defs))) 0 (groups_of (defs_from t 0 defs));
  roots = roots_of (groups_of (defs_from t 0 defs));
}

-- the table of a scope of that number, with its body
pub record IsTableOf (ds : Decls) (scope : ℕ) (decl : Scope) (body : Body) (table : Table) : Type 0 where
  pub scope_is : table.scope ≡ scope
  pub name_is : table.name ≡ decl.name
  pub terms_are : table.terms ≡ terms_of decl.items
      (questions_of ds body.defs (targets_of ds scope decl.items body.order))
  pub atoms_are : table.atoms ≡ atoms_of (questions_of ds body.defs (targets_of ds scope decl.items body.order))
  pub targets_are : table.targets
      ≡ map (target_of ds decl.items body.defs (questions_of ds body.defs (targets_of ds scope decl.items body.order)))
      (targets_of ds scope decl.items body.order)

-- a program has a scope of that number, and this is its table
abbrev pub TablesScope : Program → ℕ → Table → Type 0
TablesScope program scope table =
    (decl : Scope) × (body : Body) × (slice_get program.decls.scopes scope ≡ Some decl)
    × (slice_get program.bodies scope ≡ Some body) × IsTableOf program.decls scope decl body table
