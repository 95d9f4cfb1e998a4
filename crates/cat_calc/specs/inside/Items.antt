-- The terms of items and of scopes.
use Rattle.std.specs.Prelude.{ℕ, ◌+◌, List, [], ◌∷◌, Option, Some, None}
use Rattle.cat_value.specs.declared.decls.Decls.{Decls}
use Rattle.cat_value.specs.declared.declaration.Kind.{Kind}
use Rattle.cat_value.specs.declared.declaration.Kind.TheVariants as kind
use Rattle.cat_value.specs.declared.declaration.ItemDecl.{ItemDecl}
use Rattle.cat_value.specs.declared.declaration.Scope.{Scope}
use Rattle.cat_value.specs.declared.outcome.Target.{Target}
use Rattle.cat_scope.specs.declared.defs.Def.{Def}
use Rattle.cat_scope.specs.declared.defs.Body.{Body}
use Rattle.cat_scope.specs.Names.{scope_items}
use Rattle.cat_calc.specs.declared.term.DefaultTerm.{DefaultTerm}
use Rattle.cat_calc.specs.declared.calcs.ItemTerms.{ItemTerms}
use Rattle.cat_calc.specs.declared.calcs.CalcScope.{CalcScope}
use Rattle.cat_calc.specs.inside.Numbered.{groups_in}
use Rattle.cat_calc.specs.inside.Terms.{target_term}

-- an item, or an inner item of the scope that it calls, as a target: which definitions it has doesn't hang on the
-- number of its scope
abbrev pub target_at : ℕ → Option ℕ → Target
target_at item inner = record { scope = 0; item = item; inner = inner }

-- its term, by its definitions
abbrev pub term_at : List Def → ℕ → Option ℕ → DefaultTerm
term_at defs item inner = target_term (groups_in defs (target_at item inner))

-- the terms of inner items, from number n on
abbrev pub inner_terms : List Def → ℕ → ℕ → List ItemDecl → List DefaultTerm
inner_terms defs item n [] = []
inner_terms defs item n (decl ∷ decls) = term_at defs item (Some n) ∷ inner_terms defs item (n + 1) decls

-- the items of the scope that an item calls, where it is a called scope
abbrev pub inner_items : Decls → Kind → List ItemDecl
inner_items ds (kind.Called scope) = scope_items ds scope
inner_items ds _ = []

-- the terms of an item
abbrev pub item_terms : Decls → List Def → ℕ → ItemDecl → ItemTerms
item_terms ds defs n decl =
    record { own = term_at defs n None; inner = inner_terms defs n 0 (inner_items ds decl.kind) }

-- the terms of items, from number n on
abbrev pub terms_of_items : Decls → List Def → ℕ → List ItemDecl → List ItemTerms
terms_of_items ds defs n [] = []
terms_of_items ds defs n (decl ∷ decls) = item_terms ds defs n decl ∷ terms_of_items ds defs (n + 1) decls

-- a scope with its body as terms
abbrev pub calc_scope : Decls → Scope → Body → CalcScope
calc_scope ds scope body = record {
  rounding = body.rounding;
  order = body.order;
  terms = terms_of_items ds body.defs 0 scope.items;
  assertions = body.assertions;
}

-- the same, where there are both
abbrev pub calc_scope_at : Decls → Option Scope → Option Body → Option CalcScope
calc_scope_at ds None body = None
calc_scope_at ds (Some scope) None = None
calc_scope_at ds (Some scope) (Some body) = Some (calc_scope ds scope body)

-- the scopes of a program
abbrev pub calc_scopes : Decls → List Scope → List Body → List CalcScope
calc_scopes ds [] bodies = []
calc_scopes ds (scope ∷ scopes) [] = []
calc_scopes ds (scope ∷ scopes) (body ∷ bodies) = calc_scope ds scope body ∷ calc_scopes ds scopes bodies
