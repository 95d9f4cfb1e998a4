-- The equation of `typed_names` at each form.
use Rattle.std.proofs.Common.{◌≡◌, List, [], ◌∷◌, ◌++◌, map, refl}
use Rattle.cat_pos.specs.declared.pos.Pos.{Pos}
use Rattle.cat_tree.specs.Accumulation.{accumulation}
use Rattle.cat_tree.specs.declared.name.Name.{Name}
use Rattle.cat_tree.specs.declared.name.CaseName.{CaseName}
use Rattle.cat_tree.specs.declared.name.Type as types
use Rattle.cat_tree.specs.declared.expression.SurfaceLiteral as tree
use Rattle.cat_tree.specs.declared.expression.Prefix.{Prefix}
use Rattle.cat_tree.specs.declared.expression.Operator.{Operator}
use Rattle.cat_tree.specs.declared.expression.Each.{Each}
use Rattle.cat_tree.specs.declared.expression.Node.{Node}
use Rattle.cat_tree.specs.declared.expression.SurfaceField.{SurfaceField}
use Rattle.cat_tree.specs.declared.expression.SurfaceArm.{SurfaceArm}
use Rattle.cat_tree.specs.declared.expression.Node.TheVariants as leaf
use Rattle.cat_tree.specs.declared.expression.Node.TheViews as node
use Rattle.cat_tree.specs.declared.expression.Node.TheViews.{out-Node}
use Rattle.cat_tree.specs.declared.expression.Node.TheFolds.{fold_out-Node, fold_out-SurfaceArm}
use Rattle.cat_tree.specs.declared.expression.Node.TheFolds.{fold_out-SurfaceField, map-Node}
use Rattle.cat_tree.specs.declared.expression.Node.TheFolds.{fold-SurfaceField, fold-SurfaceArm}
use Rattle.cat_names.specs.TypedNames.{case_position, pattern_positions, arm_positions, field_positions, all_positions}
use Rattle.cat_names.specs.TypedNames.{typed_names_of, typed_names}
use Rattle.cat_names.proofs.UnknownEquations.{map_same}

abbrev pub value_positions : SurfaceField → List Pos
value_positions f = f.name.pos ∷ typed_names f.value

abbrev pub body_positions : SurfaceArm → List Pos
body_positions a = pattern_positions a.pattern ++ typed_names a.body

abbrev field : SurfaceField → List Pos
field = fold-SurfaceField (List Pos) (List Pos) (List Pos) typed_names_of arm_positions field_positions

abbrev arm : SurfaceArm → List Pos
arm = fold-SurfaceArm (List Pos) (List Pos) (List Pos) typed_names_of arm_positions field_positions

levels : (e : Node) → typed_names e
    ≡ typed_names_of
    (map-Node Node SurfaceArm SurfaceField (List Pos) (List Pos) (List Pos) typed_names arm field (out-Node e))
unfolding typed_names
levels e = fold_out-Node (List Pos) (List Pos) (List Pos) typed_names_of arm_positions field_positions e

field_is : (f : SurfaceField) → field f ≡ value_positions f
unfolding typed_names
field_is f =
    rw (fold_out-SurfaceField (List Pos) (List Pos) (List Pos) typed_names_of arm_positions field_positions f)
    refl

arm_is : (a : SurfaceArm) → arm a ≡ body_positions a
unfolding typed_names
arm_is a = rw (fold_out-SurfaceArm (List Pos) (List Pos) (List Pos) typed_names_of arm_positions field_positions a)
    refl

pub positions_Literal : (l : tree.SurfaceLiteral) (p : Pos) → typed_names (leaf.Literal l p) ≡ []
positions_Literal l p = rw (levels (leaf.Literal l p), node.outs-Literal l p) refl

pub positions_Name : (w : Name) → typed_names (leaf.Name w) ≡ []
positions_Name w = rw (levels (leaf.Name w), node.outs-Name w) refl

pub positions_Case : (c : CaseName) → typed_names (leaf.Case c) ≡ case_position c ∷ []
positions_Case c = rw (levels (leaf.Case c), node.outs-Case c) refl

pub positions_Parens : (p : Pos) (e : Node) → typed_names (node.Parens p e) ≡ typed_names e
positions_Parens p e = rw (levels (node.Parens p e), node.outs-Parens p e) refl

pub positions_Field : (e : Node) (w : Name) → typed_names (node.Field e w) ≡ w.pos ∷ typed_names e
positions_Field e w = rw (levels (node.Field e w), node.outs-Field e w) refl

pub positions_Prefixed : (o : Prefix) (p : Pos) (e : Node) → typed_names (node.Prefixed o p e) ≡ typed_names e
positions_Prefixed o p e = rw (levels (node.Prefixed o p e), node.outs-Prefixed o p e) refl

pub positions_Sum : (p : Pos) (t : types.Type) (l : Node) → typed_names (node.Sum p t l) ≡ typed_names l
positions_Sum p t l = rw (levels (node.Sum p t l), node.outs-Sum p t l) refl

pub positions_Content : (c : CaseName) (e : Node) → typed_names (node.Content c e) ≡ case_position c ∷ typed_names e
positions_Content c e = rw (levels (node.Content c e), node.outs-Content c e) refl

pub positions_Call : (w : Name) (args : List Node) → typed_names (node.Call w args) ≡ all_positions
    (map typed_names args)
positions_Call w args = rw (levels (node.Call w args), node.outs-Call w args) refl

pub positions_Binary : (o : Operator) (p : Pos) (a b : Node) → typed_names (node.Binary o p a b) ≡ typed_names a
    ++ typed_names b
positions_Binary o p a b = rw (levels (node.Binary o p a b), node.outs-Binary o p a b) refl

pub positions_Test : (e : Node) (p : Pos) (c : CaseName) → typed_names (node.Test e p c)
    ≡ case_position c ∷ typed_names e
positions_Test e p c = rw (levels (node.Test e p c), node.outs-Test e p c) refl

pub positions_List : (p : Pos) (es : List Node) → typed_names (node.List p es) ≡ all_positions (map typed_names es)
positions_List p es = rw (levels (node.List p es), node.outs-List p es) refl

pub positions_Structure : (u : Name) (fs : List SurfaceField) → typed_names (node.Structure u fs) ≡ all_positions
    (map value_positions fs)
positions_Structure u fs =
    rw (levels (node.Structure u fs), node.outs-Structure u fs, map_same field value_positions field_is fs) refl

pub positions_ScopeCall : (p : Pos) (u : Name) (fs : List SurfaceField) (w : Name) → typed_names
    (node.ScopeCall p u fs w) ≡ w.pos
    ∷ all_positions (map value_positions fs)
positions_ScopeCall p u fs w =
    rw (levels (node.ScopeCall p u fs w), node.outs-ScopeCall p u fs w, map_same field value_positions field_is fs) refl

pub positions_If : (p : Pos) (c a b : Node) → typed_names (node.If p c a b) ≡ typed_names c ++ typed_names a
    ++ typed_names b
positions_If p c a b = rw (levels (node.If p c a b), node.outs-If p c a b) refl

pub positions_Match : (p : Pos) (e : Node) (arms : List SurfaceArm) → typed_names (node.Match p e arms) ≡ typed_names e
    ++ all_positions (map body_positions arms)
positions_Match p e arms =
    rw (levels (node.Match p e arms), node.outs-Match p e arms, map_same arm body_positions arm_is arms)
    refl

pub positions_Each : (k : Each) (p : Pos) (w : Name) (l e : Node) → typed_names (node.Each k p w l e) ≡ typed_names l
    ++ typed_names e
positions_Each k p w l e = rw (levels (node.Each k p w l e), node.outs-Each k p w l e) refl

pub positions_Combine : (p : Pos) (w : Name) (l : Node) (acc : Name) (s e : Node) → typed_names
    (node.Combine (accumulation p w acc) l s e)
    ≡ typed_names l ++ typed_names s ++ typed_names e
positions_Combine p w l acc s e =
    rw (levels (node.Combine (accumulation p w acc) l s e), node.outs-Combine (accumulation p w acc) l s e) refl
