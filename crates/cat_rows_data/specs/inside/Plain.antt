-- Programs whose definitions hold always and are true.
use Rattle.std.specs.Prelude.{◌≡◌, ◌<◌, ℕ, false, true, List, [], ◌∷◌, length, replicate, None, codes}
use Rattle.cat_pos.specs.Position.{pos_of}
use Rattle.cat_date.specs.declared.rounding.Rounding.TheVariants.{Up}
use Rattle.cat_value.specs.declared.ty.Ty.TheVariants.{Boolean}
use Rattle.cat_value.specs.declared.declaration.Kind.TheVariants.{Output}
use Rattle.cat_value.specs.declared.declaration.ItemDecl.{ItemDecl}
use Rattle.cat_value.specs.declared.declaration.Scope.{Scope}
use Rattle.cat_scope.specs.declared.expr.Expr.TheVariants as leaf
use Rattle.cat_scope.specs.declared.expr.Literal.TheVariants as literal
use Rattle.cat_scope.specs.declared.defs.Def.{Def}
use Rattle.cat_scope.specs.declared.defs.Body.{Body}
use Rattle.cat_scope.specs.declared.defs.SourcePart.TheVariants.{Declaration, Definition}

-- a definition of one of two variables, without a condition and parameters, that is true
pub record IsPlain (d : Def) : Type 0 where
  pub item : d.target.item < 2
  pub target : d.target ≡ record { scope = 0; item = d.target.item; inner = None }
  pub condition : d.condition ≡ None
  pub consequence : d.consequence ≡ leaf.Literal d.pos (literal.Boolean true)
  pub params : d.params ≡ 0

-- a boolean output of that name
abbrev pub variable : List ℕ → ItemDecl
variable name = record {
  name = name;
  pos = pos_of 0 1 1;
  kind = Output;
  ty = Boolean;
  condition = false;
  params = [];
}

-- the scope of the two variables
abbrev pub scope : Scope
scope = record { name = codes "S"; items = variable (codes "x") ∷ variable (codes "y") ∷ [] }

-- the body with these definitions, one after another
abbrev pub body_of : List Def → Body
body_of defs = record {
  defs = defs;
  assertions = [];
  source = Declaration ∷ replicate (length defs) Definition;
  rounding = Up;
  order = 0 ∷ 1 ∷ [];
  calls = [];
}
