-- The files in which code may fail, and in which its targets and definitions stand.
use Rattle.std.specs.Prelude.{◌≡◌, ℕ, false, List, [], ◌∷◌, Some, IfSome}
use Rattle.cat_pos.specs.Position.{pos_file}
use Rattle.cat_value.specs.declared.declaration.ItemDecl.{ItemDecl}
use Rattle.cat_value.specs.declared.declaration.Scope.{Scope}
use Rattle.cat_value.specs.declared.decls.Decls.{Decls}
use Rattle.cat_value.specs.declared.outcome.Target.{Target}
use Rattle.cat_value.specs.Inputs.{is_called}
use Rattle.cat_scope.specs.declared.expr.Expr.{Expr}
use Rattle.cat_scope.specs.declared.expr.Expr.TheOpen.{Expr-F}
use Rattle.cat_scope.specs.declared.defs.Def.{Def}
use Rattle.cat_scope.specs.declared.defs.Assertion.{Assertion}
use Rattle.cat_scope.specs.declared.defs.Body.{Body}
use Rattle.cat_scope.specs.Mentions.{named_by}
use Rattle.cat_scope.specs.Names.{AllHave}
use Rattle.cat_code.specs.declared.code.Tables.{Tables}
use Rattle.cat_code.specs.declared.code.TargetEntry.{TargetEntry}
use Rattle.cat_code.specs.Places.{target_decl}

-- the file of the position at which an operation may fail
abbrev pub own_file : Expr-F (List ℕ) (List ℕ) (List ℕ) → List ℕ
own_file (Expr-F.Unary p o e) = pos_file p ∷ []
own_file (Expr-F.Binary p o q a b) = pos_file q ∷ []
own_file (Expr-F.Contains p q l e) = pos_file q ∷ []
own_file (Expr-F.Sum p kind l) = pos_file p ∷ []
own_file _ = []

-- those of an expression and its parts
abbrev pub files_in : Expr → List ℕ
files_in = named_by own_file

-- a definition, and an assertion, with their operations
pub record DefFits (Q : ℕ → Type 0) (d : Def) : Type 0 where
  pub place : Q (pos_file d.pos)
  pub condition : IfSome d.condition (λ e. AllHave Q (files_in e))
  pub consequence : AllHave Q (files_in d.consequence)

pub record AssertionFits (Q : ℕ → Type 0) (a : Assertion) : Type 0 where
  pub place : Q (pos_file a.keyword)
  pub condition : AllHave Q (files_in a.condition)

-- all of a scope
pub record BodyFits (Q : ℕ → Type 0) (b : Body) : Type 0 where
  pub defs : AllHave (DefFits Q) b.defs
  pub assertions : AllHave (AssertionFits Q) b.assertions

-- the items of declarations
abbrev pub ScopeFits : (ℕ → Type 0) → Scope → Type 0
ScopeFits Q s = AllHave (λ i. Q (pos_file i.pos)) s.items

-- a target is a variable, and no called scope as a whole
pub record IsVariableTarget (ds : Decls) (target : Target) : Type 0 where
  pub item : ItemDecl
  pub declared : target_decl ds target.scope target.item target.inner ≡ Some item
  pub plain : is_called item.kind ≡ false

-- it is told at such a position
pub record TargetFits (Q : ℕ → Type 0) (ds : Decls) (t : TargetEntry) : Type 0 where
  pub variable : IsVariableTarget ds t.target
  pub place : Q (pos_file t.pos)

-- the positions of code, and its targets
pub record TablesFit (Q : ℕ → Type 0) (tables : Tables) : Type 0 where
  pub items : AllHave (ScopeFits Q) tables.decls.scopes
  pub targets : AllHave (TargetFits Q tables.decls) tables.targets
  pub definitions : AllHave (λ p. Q (pos_file p)) tables.definitions
  pub positions : AllHave (λ p. Q (pos_file p)) tables.positions
