-- Plain scopes: their conditions ask of inputs alone, and they call nothing.
use Rattle.std.specs.Prelude.{◌≡◌, ℕ, false, List, [], Some, slice_get}
use Rattle.cat_value.specs.declared.decls.Decls.{Decls}
use Rattle.cat_value.specs.declared.declaration.ItemDecl.{ItemDecl}
use Rattle.cat_value.specs.declared.declaration.Scope.{Scope}
use Rattle.cat_scope.specs.declared.defs.Body.{Body}
use Rattle.cat_scope.specs.declared.defs.Def.{Def}
use Rattle.cat_scope.specs.declared.programs.Program.{Program}
use Rattle.cat_scope.specs.Names.{AllHave, is_called, is_function}
use Rattle.cat_guard.specs.Formulas.{asked}
use Rattle.cat_guard.specs.Tables.{def_formula}
use Rattle.cat_guard.specs.Terms.{term_of}
use Rattle.cat_audit_sound.specs.Shown.{IsFree}
use Rattle.cat_audit.specs.Called.{in_scope_calls}

-- every term of a definition's condition, that of its block included, is free: an input variable of its scope, or a
-- path of fields from one
abbrev pub HasFreeTerms : Decls → List ItemDecl → Def → Type 0
HasFreeTerms ds items d = AllHave (λ q. IsFree (term_of items q)) (asked (def_formula ds d))

-- what makes a scope with these items plain: every term of every condition is free, and it has no called scope, no
-- scope call and no function variable
pub record IsPlainBody (ds : Decls) (items : List ItemDecl) (body : Body) : Type 0 where
  pub free : AllHave (HasFreeTerms ds items) body.defs
  pub no_called_scope : AllHave (λ item. is_called item.kind ≡ false) items
  pub no_scope_call : in_scope_calls (Some body) ≡ []
  pub no_function : AllHave (λ item. is_function item ≡ false) items

-- a program has a scope of that number, and this is plain
abbrev pub IsPlain : Program → ℕ → Type 0
IsPlain program scope =
    (decl : Scope) × (body : Body) × (slice_get program.decls.scopes scope ≡ Some decl)
    × (slice_get program.bodies scope ≡ Some body) × IsPlainBody program.decls decl.items body
