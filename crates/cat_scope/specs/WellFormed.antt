-- What holds of every program: it is well typed, its orders are those of its dependencies, and its chains of calls
-- are short.
use Rattle.std.specs.Prelude.{◌≡◌, ℕ, zero, suc, ◌+◌, Bool, true, false, not, ◌&&◌, ◌||◌, IsTrue, List, [], ◌∷◌, length}
use Rattle.std.specs.Prelude.{Option, Some, None}
use Rattle.cat_value.specs.declared.ty.Ty.{Ty}
use Rattle.cat_value.specs.declared.ty.Ty.TheVariants.{Boolean}
use Rattle.cat_value.specs.declared.ty.Ty.TheViews.{out-Ty}
use Rattle.cat_value.specs.declared.decls.Decls.{Decls}
use Rattle.cat_value.specs.declared.declaration.Kind.{Kind}
use Rattle.cat_value.specs.declared.declaration.Kind.TheVariants as kind
use Rattle.cat_value.specs.declared.declaration.ItemDecl.{ItemDecl}
use Rattle.cat_value.specs.declared.declaration.Scope.{Scope}
use Rattle.cat_value.specs.Declarations.{is_boolean}
use Rattle.cat_order.specs.Order.{IsOrder}
use Rattle.cat_scope.specs.declared.expr.Expr.{Expr}
use Rattle.cat_scope.specs.declared.defs.Def.{Def}
use Rattle.cat_scope.specs.declared.defs.Assertion.{Assertion}
use Rattle.cat_scope.specs.declared.defs.SourcePart.{SourcePart}
use Rattle.cat_scope.specs.declared.defs.SourcePart.TheVariants as part
use Rattle.cat_scope.specs.declared.defs.Body.{Body}
use Rattle.cat_scope.specs.Names.{AllHave, Names, has_none}
use Rattle.cat_scope.specs.Naming.{IsTargetAt}
use Rattle.cat_scope.specs.HasType.{HasType}
use Rattle.cat_scope.specs.Chains.{HasShortChains}
use Rattle.cat_scope.specs.Expected.{body_placed}
use Rattle.cat_scope.specs.Orders.{item_dependencies, function_calls, scope_dependencies, calls_in, once}

-- a variable of the scope alone
abbrev pub is_internal : Kind → Bool
is_internal kind.Internal = true
is_internal _ = false

-- a function is internal, and a condition is a boolean
abbrev pub is_placed : ItemDecl → Bool
is_placed item = (has_none item.params || is_internal item.kind) && (not item.condition || is_boolean (out-Ty item.ty))

-- a condition, where there is one, is boolean under the parameters
abbrev pub ConditionTyped : Names → List Ty → Option Expr → Type 0
ConditionTyped names params None = Unit {0}
ConditionTyped names params (Some e) = HasType names params e Boolean

-- a definition of a scope has a boolean condition and a consequence of its target's type, under its parameters
pub record DefTyped (names : Names) (scope : ℕ) (d : Def) : Type 0 where
  pub params : List Ty
  pub ty : Ty
  pub scope_is : d.target.scope ≡ scope
  pub target : IsTargetAt names d.target.item d.target.inner params ty
  pub counted : d.params ≡ length params
  pub condition : ConditionTyped names params d.condition
  pub consequence : HasType names params d.consequence ty

-- an assertion is boolean, and knows no parameters
abbrev pub AssertionTyped : Names → Assertion → Type 0
AssertionTyped names a = HasType names [] a.condition Boolean

-- the condition of a block is boolean, and knows no parameters
abbrev pub PartTyped : Names → SourcePart → Type 0
PartTyped names part.Declaration = Unit {0}
PartTyped names (part.Condition e) = HasType names [] e Boolean
PartTyped names part.Definition = Unit {0}
PartTyped names part.Assertion = Unit {0}

-- a source has one declaration, and each of so many definitions and assertions
abbrev pub IsWhole : List SourcePart → ℕ → ℕ → ℕ → Type 0
IsWhole [] declarations defs assertions = (declarations ≡ 0) × (defs ≡ 0) × (assertions ≡ 0)
IsWhole (part.Declaration ∷ parts) (suc n) defs assertions = IsWhole parts n defs assertions
IsWhole (part.Declaration ∷ parts) zero defs assertions = ⊥
IsWhole (part.Condition e ∷ parts) n defs assertions = IsWhole parts n defs assertions
IsWhole (part.Definition ∷ parts) n (suc defs) assertions = IsWhole parts n defs assertions
IsWhole (part.Definition ∷ parts) n zero assertions = ⊥
IsWhole (part.Assertion ∷ parts) n defs (suc assertions) = IsWhole parts n defs assertions
IsWhole (part.Assertion ∷ parts) n defs zero = ⊥

-- a scope of that number with its body
pub record IsBodyOf (decls : Decls) (n : ℕ) (scope : Scope) (body : Body) : Type 0 where
  pub placed : AllHave (λ item. IsTrue (is_placed item)) scope.items
  pub defs : AllHave (DefTyped (record { decls = decls; items = scope.items }) n) body.defs
  pub assertions : AllHave (AssertionTyped (record { decls = decls; items = scope.items })) body.assertions
  pub source : IsWhole body.source 1 (length body.defs) (length body.assertions)
  pub lists : IsTrue (body_placed body)
  pub conditions : AllHave (PartTyped (record { decls = decls; items = scope.items })) body.source
  pub order : IsOrder (item_dependencies scope.items body.defs) body.order
  pub calls : body.calls ≡ once [] (calls_in scope.items body)
  pub functions : HasShortChains (function_calls scope.items body.defs)

-- one body for each scope
abbrev pub AreBodiesOf : Decls → ℕ → List Scope → List Body → Type 0
AreBodiesOf decls n [] [] = Unit {0}
AreBodiesOf decls n [] (body ∷ bodies) = ⊥
AreBodiesOf decls n (scope ∷ scopes) [] = ⊥
AreBodiesOf decls n (scope ∷ scopes) (body ∷ bodies) =
    IsBodyOf decls n scope body × AreBodiesOf decls (n + 1) scopes bodies

-- declarations with a body for each scope and the order of the scopes
pub record IsWellFormed (decls : Decls) (bodies : List Body) (scope_order : List ℕ) : Type 0 where
  pub counted : length bodies ≡ length decls.scopes
  pub bodies_are : AreBodiesOf decls 0 decls.scopes bodies
  pub order : IsOrder (scope_dependencies decls.scopes bodies) scope_order
  pub chains : HasShortChains (scope_dependencies decls.scopes bodies)
