-- What an expression names, part by part: items that are ready, and scopes that may be called.
use Rattle.std.proofs.Common.{◌≡◌, ℕ, List, [], ◌∷◌}
use Rattle.cat_scope.specs.declared.expr.Expr.{Expr}
use Rattle.cat_scope.specs.declared.expr.FieldValue.{FieldValue}
use Rattle.cat_scope.specs.declared.expr.Arm.{Arm}
use Rattle.cat_scope.specs.declared.expr.Expr.TheOpen.{Expr-F}
use Rattle.cat_scope.specs.declared.expr.Expr.TheViews.{out-Expr}
use Rattle.cat_scope.specs.Names.{AllHave}
use Rattle.cat_scope.specs.Mentions.{own_item, own_scope, named_by}
use Rattle.cat_sound.proofs.NamedParts.{parts_of, opened, itself, parts}

module _ (Ready Reached : ℕ → Type 0) where
  -- an expression names items that are ready, and scopes that are reached
  pub record Named (e : Expr) : Type 0 where
    pub items : AllHave Ready (named_by own_item e)
    pub scopes : AllHave Reached (named_by own_scope e)

  paired : (es : List Expr) → AllHave (λ e. AllHave Ready (named_by own_item e)) es
      → AllHave (λ e. AllHave Reached (named_by own_scope e)) es
      → AllHave Named es
  paired [] items scopes = tt
  paired (e ∷ es) items scopes = (record { items = items.0; scopes = scopes.0 }, paired es items.1 scopes.1)

  -- so do its parts
  pub named_parts : (e : Expr) (y : Expr-F Expr Arm FieldValue) → out-Expr e ≡ y → Named e → AllHave Named (parts_of y)
  named_parts e y is h =
      paired (parts_of y) (parts own_item Ready e y is h.items) (parts own_scope Reached e y is h.scopes)

  -- and what it names itself is so
  pub item_itself : (e : Expr) (y : Expr-F Expr Arm FieldValue) → out-Expr e ≡ y → Named e
      → AllHave Ready (own_item (opened own_item y))
  item_itself e y is h = itself own_item Ready e y is h.items

  pub scope_itself : (e : Expr) (y : Expr-F Expr Arm FieldValue) → out-Expr e ≡ y → Named e
      → AllHave Reached (own_scope (opened own_scope y))
  scope_itself e y is h = itself own_scope Reached e y is h.scopes
