-- The lines of called scopes.
use Rattle.std.specs.Prelude.{ℕ, nat_eq, if◌then◌else◌, List, [], ◌∷◌, ◌++◌, Option, None, Some, slice_get}
use Rattle.cat_value.specs.declared.declaration.Kind.{Kind}
use Rattle.cat_value.specs.declared.declaration.Kind.TheVariants as kind
use Rattle.cat_value.specs.declared.declaration.ItemDecl.{ItemDecl}
use Rattle.cat_value.specs.declared.declaration.Scope.{Scope}
use Rattle.cat_scope.specs.declared.defs.Body.{Body}
use Rattle.cat_scope.specs.declared.programs.Program.{Program}
use Rattle.cat_scope.specs.Names.{scope_items}
use Rattle.cat_scope.specs.Orders.{called_in, once}
use Rattle.cat_audit.specs.declared.report.Verdict.{Verdict}
use Rattle.cat_audit.specs.declared.report.Verdict.TheVariants as verdict
use Rattle.cat_audit.specs.declared.report.CalledLine.{CalledLine}
use Rattle.cat_audit.specs.declared.report.Section.{Section}

-- the verdict that sections have of a scope; of a scope that none of them is of nothing is known
abbrev pub verdict_in : List Section → ℕ → Verdict
verdict_in [] scope = verdict.Undecided
verdict_in (s ∷ sections) scope = if nat_eq s.scope scope then s.verdict else verdict_in sections scope

-- the line of a called scope, unless it is complete
abbrev pub called_line : List ℕ → ℕ → Verdict → List CalledLine
called_line name scope verdict.Complete = []
called_line name scope v = record { name = name; scope = scope; verdict = v } ∷ []

-- that of an item, where it is a called scope
abbrev pub item_line : (ℕ → Verdict) → List ℕ → Kind → List CalledLine
item_line verdicts name (kind.Called scope) = called_line name scope (verdicts scope)
item_line verdicts name k = []

-- those of items, in the order of their declarations
abbrev pub item_lines : (ℕ → Verdict) → List ItemDecl → List CalledLine
item_lines verdicts [] = []
item_lines verdicts (item ∷ items) = item_line verdicts item.name item.kind ++ item_lines verdicts items

-- the scopes that stand in scope calls of a body, each once, by first appearance: those that it calls beside items
abbrev pub in_scope_calls : Option Body → List ℕ
in_scope_calls None = []
in_scope_calls (Some body) = once [] (called_in [] body.source body.defs body.assertions)

-- the name of a scope, empty where there is none
abbrev pub scope_name : Option Scope → List ℕ
scope_name None = []
scope_name (Some scope) = scope.name

-- the lines of scopes that stand in scope calls
abbrev pub scope_lines : (ℕ → Verdict) → List Scope → List ℕ → List CalledLine
scope_lines verdicts scopes [] = []
scope_lines verdicts scopes (n ∷ ns) =
    called_line (scope_name (slice_get scopes n)) n (verdicts n) ++ scope_lines verdicts scopes ns

-- the lines of the scopes that a scope calls: first those of its items, and then those in scope calls
abbrev pub called_lines : Program → (ℕ → Verdict) → ℕ → List CalledLine
called_lines program verdicts scope =
    item_lines verdicts (scope_items program.decls scope)
    ++ scope_lines verdicts program.decls.scopes (in_scope_calls (slice_get program.bodies scope))
