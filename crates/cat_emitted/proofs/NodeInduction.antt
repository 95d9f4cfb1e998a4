-- Induction over trees, one case a form.
use Rattle.std.proofs.Common.{List, [], ◌∷◌, map, subst}
use Rattle.cat_pos.specs.declared.pos.Pos.{Pos}
use Rattle.cat_tree.specs.Accumulation.{accumulation}
use Rattle.cat_tree.specs.declared.name.Name.{Name}
use Rattle.cat_tree.specs.declared.name.CaseName.{CaseName}
use Rattle.cat_tree.specs.declared.name.Type as types
use Rattle.cat_tree.specs.declared.expression.SurfaceLiteral as tree
use Rattle.cat_tree.specs.declared.expression.Prefix.{Prefix}
use Rattle.cat_tree.specs.declared.expression.Operator as operators
use Rattle.cat_tree.specs.declared.expression.Each as eaches
use Rattle.cat_tree.specs.declared.expression.Node.{Node}
use Rattle.cat_tree.specs.declared.expression.SurfaceField.{SurfaceField}
use Rattle.cat_tree.specs.declared.expression.SurfaceArm.{SurfaceArm}
use Rattle.cat_tree.specs.declared.expression.Node.TheVariants as leaf
use Rattle.cat_tree.specs.declared.expression.Node.TheViews as node
use Rattle.cat_tree.specs.declared.expression.Node.TheOpen.{Node-F, SurfaceField-F, SurfaceArm-F}
use Rattle.cat_tree.specs.declared.expression.Node.TheViews.{roll-Node, roll-SurfaceField, roll-SurfaceArm}
use Rattle.cat_tree.specs.declared.expression.Node.TheFolds.{ind-Node, map-Node, map-SurfaceField, map-SurfaceArm}
use Rattle.cat_scope.proofs.Exported.{Each}
use denote.Hole.Carrier.{roll}

held : {A : Type 0} (P : A → Type 0) (ys : List ((x : A) × P x)) → Each P (map (λ y. y.0) ys)
held P [] = tt
held P (y ∷ ys) = (y.1, held P ys)

module _
    (P : Node → Type 0)
    (on_literal : (l : tree.SurfaceLiteral) (p : Pos) → P (leaf.Literal l p))
    (on_name : (w : Name) → P (leaf.Name w))
    (on_case : (c : CaseName) → P (leaf.Case c))
    (on_parens : (p : Pos) (e : Node) → P e → P (node.Parens p e))
    (on_field : (e : Node) (w : Name) → P e → P (node.Field e w))
    (on_prefixed : (o : Prefix) (p : Pos) (e : Node) → P e → P (node.Prefixed o p e))
    (on_sum : (p : Pos) (t : types.Type) (e : Node) → P e → P (node.Sum p t e))
    (on_content : (c : CaseName) (e : Node) → P e → P (node.Content c e))
    (on_call : (w : Name) (args : List Node) → Each P args → P (node.Call w args))
    (on_binary : (o : operators.Operator) (p : Pos) (a b : Node) → P a → P b → P (node.Binary o p a b))
    (on_test : (e : Node) (p : Pos) (c : CaseName) → P e → P (node.Test e p c))
    (on_list : (p : Pos) (es : List Node) → Each P es → P (node.List p es))
    (on_structure : (u : Name) (fs : List SurfaceField) → Each (λ f. P f.value) fs → P (node.Structure u fs))
    (on_scope_call : (p : Pos) (u : Name) (fs : List SurfaceField) (w : Name) → Each (λ f. P f.value) fs
    → P (node.ScopeCall p u fs w))
    (on_if : (p : Pos) (c a b : Node) → P c → P a → P b → P (node.If p c a b))
    (on_match : (p : Pos) (e : Node) (arms : List SurfaceArm) → P e → Each (λ a. P a.body) arms
    → P (node.Match p e arms))
    (on_each : (k : eaches.Each) (p : Pos) (w : Name) (l e : Node) → P l → P e → P (node.Each k p w l e))
    (on_combine : (p : Pos) (w : Name) (l : Node) (acc : Name) (s e : Node) → P l → P s → P e
    → P (node.Combine (accumulation p w acc) l s e)) where
  at : (y : Node-F ((e : Node) × P e) ((a : SurfaceArm) × P a.body) ((f : SurfaceField) × P f.value))
      → P (roll-Node
      (map-Node ((e : Node) × P e) ((a : SurfaceArm) × P a.body) ((f : SurfaceField) × P f.value) Node SurfaceArm
      SurfaceField (λ e. e.0) (λ a. a.0) (λ f. f.0) y))
  unfolding roll-Node roll
  at (Node-F.Literal l p) = on_literal l p
  at (Node-F.Name w) = on_name w
  at (Node-F.Case c) = on_case c
  at (Node-F.Parens p e) = on_parens p e.0 e.1
  at (Node-F.Field e w) = on_field e.0 w e.1
  at (Node-F.Prefixed o p e) = on_prefixed o p e.0 e.1
  at (Node-F.Sum p t e) = on_sum p t e.0 e.1
  at (Node-F.Content c e) = on_content c e.0 e.1
  at (Node-F.Call w args) = on_call w (map (λ e. e.0) args) (held P args)
  at (Node-F.Binary o p a b) = on_binary o p a.0 b.0 a.1 b.1
  at (Node-F.Test e p c) = on_test e.0 p c e.1
  at (Node-F.List p es) = on_list p (map (λ e. e.0) es) (held P es)
  at (Node-F.Structure u fs) = on_structure u (map (λ f. f.0) fs) (held (λ f. P f.value) fs)
  at (Node-F.ScopeCall p u fs w) = on_scope_call p u (map (λ f. f.0) fs) w (held (λ f. P f.value) fs)
  at (Node-F.If p c a b) = on_if p c.0 a.0 b.0 c.1 a.1 b.1
  at (Node-F.Match p e arms) = on_match p e.0 (map (λ a. a.0) arms) e.1 (held (λ a. P a.body) arms)
  at (Node-F.Each k p w l e) = on_each k p w l.0 e.0 l.1 e.1
  at (Node-F.Combine c l s e) = on_combine c.pos c.element l.0 c.sum s.0 e.0 l.1 s.1 e.1

  at_field : (y : SurfaceField-F ((e : Node) × P e) ((a : SurfaceArm) × P a.body) ((f : SurfaceField) × P f.value))
      → P (roll-SurfaceField
      (map-SurfaceField ((e : Node) × P e) ((a : SurfaceArm) × P a.body) ((f : SurfaceField) × P f.value) Node
      SurfaceArm SurfaceField (λ e. e.0) (λ a. a.0) (λ f. f.0) y)).value
  at_field y = y.value.1

  at_arm : (y : SurfaceArm-F ((e : Node) × P e) ((a : SurfaceArm) × P a.body) ((f : SurfaceField) × P f.value))
      → P (roll-SurfaceArm
      (map-SurfaceArm ((e : Node) × P e) ((a : SurfaceArm) × P a.body) ((f : SurfaceField) × P f.value) Node SurfaceArm
      SurfaceField
      (λ e. e.0) (λ a. a.0) (λ f. f.0) y)).body
  at_arm y = y.body.1

  pub induction : (e : Node) → P e
  induction = ind-Node P (λ a. P a.body) (λ f. P f.value) (λ x y is. subst (λ z. P (roll-Node z)) is (at y))
      (λ x y is. subst (λ z. P (roll-SurfaceArm z).body) is (at_arm y))
      (λ x y is. subst (λ z. P (roll-SurfaceField z).value) is
      (at_field y))
