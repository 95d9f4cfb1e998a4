-- Induction over expressions, one case a form.
use Rattle.std.proofs.Common.{List, [], ◌∷◌, map, subst}
use denote.Hole.Carrier.{roll}
use Rattle.cat_tree.specs.declared.name.Type as types
use Rattle.cat_tree.specs.declared.expression.Node.TheVariants as leaf
use Rattle.cat_tree.specs.declared.expression.Node.TheViews as node
use Rattle.cat_tree.specs.declared.expression.Node.TheViews.{roll-Node}
use Rattle.cat_parse_expr.proofs.Common.{Pos, accumulation, Name, CaseName, SurfaceLiteral, Prefix, Operator, Each}
use Rattle.cat_parse_expr.proofs.Common.{Node, Node-F, SurfaceArm-F, SurfaceField-F, roll-SurfaceArm, roll-SurfaceField}
use Rattle.cat_parse_expr.proofs.Common.{ind-Node, map-Node, map-SurfaceArm, map-SurfaceField, SurfaceField, SurfaceArm}

-- what holds of each element
abbrev pub AllHold : {A : Type 0} → (A → Type 0) → List A → Type 0
AllHold P [] = Unit {0}
AllHold P (x ∷ xs) = P x × AllHold P xs

held : {A : Type 0} (P : A → Type 0) (ys : List ((x : A) × P x)) → AllHold P (map (λ y. y.0) ys)
held P [] = tt
held P (y ∷ ys) = (y.1, held P ys)

module _
    (P : Node → Type 0)
    (literal : (l : SurfaceLiteral) (p : Pos) → P (leaf.Literal l p))
    (name : (w : Name) → P (leaf.Name w))
    (case : (c : CaseName) → P (leaf.Case c))
    (parens : (p : Pos) (e : Node) → P e → P (node.Parens p e))
    (field : (e : Node) (w : Name) → P e → P (node.Field e w))
    (prefixed : (o : Prefix) (p : Pos) (e : Node) → P e → P (node.Prefixed o p e))
    (sum : (p : Pos) (t : types.Type) (e : Node) → P e → P (node.Sum p t e))
    (content : (c : CaseName) (e : Node) → P e → P (node.Content c e))
    (call : (f : Name) (args : List Node) → AllHold P args → P (node.Call f args))
    (binary : (o : Operator) (p : Pos) (a b : Node) → P a → P b → P (node.Binary o p a b))
    (test : (e : Node) (p : Pos) (c : CaseName) → P e → P (node.Test e p c))
    (list : (p : Pos) (es : List Node) → AllHold P es → P (node.List p es))
    (structure : (u : Name) (fs : List SurfaceField) → AllHold (λ f. P f.value) fs → P (node.Structure u fs))
    (scope_call : (p : Pos) (u : Name) (fs : List SurfaceField) (w : Name) → AllHold (λ f. P f.value) fs
    → P (node.ScopeCall p u fs w))
    (choice : (p : Pos) (c t e : Node) → P c → P t → P e → P (node.If p c t e))
    (matching : (p : Pos) (e : Node) (more : List SurfaceArm) → P e → AllHold (λ a. P a.body) more
    → P (node.Match p e more))
    (each : (k : Each) (p : Pos) (w : Name) (l e : Node) → P l → P e → P (node.Each k p w l e))
    (combine : (p : Pos) (w : Name) (l : Node) (acc : Name) (s e : Node) → P l → P s → P e
    → P (node.Combine (accumulation p w acc) l s e)) where
  abbrev H : Type 0
  H = (e : Node) × P e

  abbrev HA : Type 0
  HA = (a : SurfaceArm) × P a.body

  abbrev HF : Type 0
  HF = (f : SurfaceField) × P f.value

  at : (y : Node-F H HA HF)
      → P (roll-Node (map-Node H HA HF Node SurfaceArm SurfaceField (λ e. e.0) (λ a. a.0) (λ f. f.0) y))
  unfolding roll-Node roll
  at (Node-F.Literal l p) = literal l p
  at (Node-F.Name w) = name w
  at (Node-F.Case c) = case c
  at (Node-F.Parens p e) = parens p e.0 e.1
  at (Node-F.Field e w) = field e.0 w e.1
  at (Node-F.Prefixed o p e) = prefixed o p e.0 e.1
  at (Node-F.Sum p t e) = sum p t e.0 e.1
  at (Node-F.Content c e) = content c e.0 e.1
  at (Node-F.Call f args) = call f (map (λ e. e.0) args) (held P args)
  at (Node-F.Binary o p a b) = binary o p a.0 b.0 a.1 b.1
  at (Node-F.Test e p c) = test e.0 p c e.1
  at (Node-F.List p es) = list p (map (λ e. e.0) es) (held P es)
  at (Node-F.Structure u fs) = structure u (map (λ f. f.0) fs) (held (λ f. P f.value) fs)
  at (Node-F.ScopeCall p u fs w) = scope_call p u (map (λ f. f.0) fs) w (held (λ f. P f.value) fs)
  at (Node-F.If p c t e) = choice p c.0 t.0 e.0 c.1 t.1 e.1
  at (Node-F.Match p e more) = matching p e.0 (map (λ a. a.0) more) e.1 (held (λ a. P a.body) more)
  at (Node-F.Each k p w l e) = each k p w l.0 e.0 l.1 e.1
  at (Node-F.Combine c l s e) = combine c.pos c.element l.0 c.sum s.0 e.0 l.1 s.1 e.1

  at_arm : (y : SurfaceArm-F H HA HF)
      → P (roll-SurfaceArm
      (map-SurfaceArm H HA HF Node SurfaceArm SurfaceField (λ e. e.0) (λ a. a.0) (λ f. f.0) y)).body
  at_arm y = y.body.1

  at_field : (y : SurfaceField-F H HA HF)
      → P (roll-SurfaceField
      (map-SurfaceField H HA HF Node SurfaceArm SurfaceField (λ e. e.0) (λ a. a.0) (λ f. f.0) y)).value
  at_field y = y.value.1

  pub induction : (e : Node) → P e
  induction = ind-Node P (λ a. P a.body) (λ f. P f.value) (λ x y is. subst (λ z. P (roll-Node z)) is (at y))
      (λ x y is. subst (λ z. P (roll-SurfaceArm z).body) is (at_arm y))
      (λ x y is. subst (λ z. P (roll-SurfaceField z).value) is
      (at_field y))
