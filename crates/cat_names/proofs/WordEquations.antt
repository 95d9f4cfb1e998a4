-- The equation of `scope_words` at each form.
use Rattle.std.proofs.Common.{◌≡◌, List, [], ◌∷◌, ◌++◌, map, refl}
use Rattle.cat_pos.specs.declared.pos.Pos.{Pos}
use Rattle.cat_tree.specs.Accumulation.{accumulation}
use Rattle.cat_tree.specs.declared.name.Name.{Name}
use Rattle.cat_tree.specs.declared.name.CaseName.{CaseName}
use Rattle.cat_tree.specs.declared.name.Type as types
use Rattle.cat_tree.specs.declared.expression.SurfaceLiteral as tree
use Rattle.cat_tree.specs.declared.expression.Prefix.{Prefix}
use Rattle.cat_tree.specs.declared.expression.Operator.{Operator}
use Rattle.cat_tree.specs.declared.expression.Each.{Each}
use Rattle.cat_tree.specs.declared.expression.Node.{Node}
use Rattle.cat_tree.specs.declared.expression.SurfaceField.{SurfaceField}
use Rattle.cat_tree.specs.declared.expression.SurfaceArm.{SurfaceArm}
use Rattle.cat_tree.specs.declared.expression.Node.TheVariants as leaf
use Rattle.cat_tree.specs.declared.expression.Node.TheViews as node
use Rattle.cat_tree.specs.declared.expression.Node.TheViews.{out-Node}
use Rattle.cat_tree.specs.declared.expression.Node.TheFolds.{fold_out-Node, fold_out-SurfaceArm}
use Rattle.cat_tree.specs.declared.expression.Node.TheFolds.{fold_out-SurfaceField, map-Node}
use Rattle.cat_tree.specs.declared.expression.Node.TheFolds.{fold-SurfaceField, fold-SurfaceArm}
use Rattle.cat_names.specs.ScopeWords.{all_words, words_of, scope_words}
use Rattle.cat_names.proofs.UnknownEquations.{map_same}

abbrev pub value_words : SurfaceField → List Name
value_words f = scope_words f.value

abbrev pub body_words : SurfaceArm → List Name
body_words a = scope_words a.body

abbrev field : SurfaceField → List Name
field = fold-SurfaceField (List Name) (List Name) (List Name) words_of (λ arm. arm.body) (λ field. field.value)

abbrev arm : SurfaceArm → List Name
arm = fold-SurfaceArm (List Name) (List Name) (List Name) words_of (λ arm. arm.body) (λ field. field.value)

levels : (e : Node) → scope_words e
    ≡ words_of
    (map-Node Node SurfaceArm SurfaceField (List Name) (List Name) (List Name) scope_words arm field (out-Node e))
unfolding scope_words
levels e = fold_out-Node (List Name) (List Name) (List Name) words_of (λ arm. arm.body) (λ field. field.value) e

field_is : (f : SurfaceField) → field f ≡ value_words f
unfolding scope_words
field_is f =
    rw (fold_out-SurfaceField (List Name) (List Name) (List Name) words_of (λ arm. arm.body) (λ field. field.value) f)
    refl

arm_is : (a : SurfaceArm) → arm a ≡ body_words a
unfolding scope_words
arm_is a = rw
    (fold_out-SurfaceArm (List Name) (List Name) (List Name) words_of (λ arm. arm.body) (λ field. field.value) a)
    refl

pub words_Literal : (l : tree.SurfaceLiteral) (p : Pos) → scope_words (leaf.Literal l p) ≡ []
words_Literal l p = rw (levels (leaf.Literal l p), node.outs-Literal l p) refl

pub words_Name : (w : Name) → scope_words (leaf.Name w) ≡ []
words_Name w = rw (levels (leaf.Name w), node.outs-Name w) refl

pub words_Case : (c : CaseName) → scope_words (leaf.Case c) ≡ []
words_Case c = rw (levels (leaf.Case c), node.outs-Case c) refl

pub words_Parens : (p : Pos) (e : Node) → scope_words (node.Parens p e) ≡ scope_words e
words_Parens p e = rw (levels (node.Parens p e), node.outs-Parens p e) refl

pub words_Field : (e : Node) (w : Name) → scope_words (node.Field e w) ≡ scope_words e
words_Field e w = rw (levels (node.Field e w), node.outs-Field e w) refl

pub words_Prefixed : (o : Prefix) (p : Pos) (e : Node) → scope_words (node.Prefixed o p e) ≡ scope_words e
words_Prefixed o p e = rw (levels (node.Prefixed o p e), node.outs-Prefixed o p e) refl

pub words_Sum : (p : Pos) (t : types.Type) (l : Node) → scope_words (node.Sum p t l) ≡ scope_words l
words_Sum p t l = rw (levels (node.Sum p t l), node.outs-Sum p t l) refl

pub words_Content : (c : CaseName) (e : Node) → scope_words (node.Content c e) ≡ scope_words e
words_Content c e = rw (levels (node.Content c e), node.outs-Content c e) refl

pub words_Call : (w : Name) (args : List Node) → scope_words (node.Call w args) ≡ all_words (map scope_words args)
words_Call w args = rw (levels (node.Call w args), node.outs-Call w args) refl

pub words_Binary : (o : Operator) (p : Pos) (a b : Node) → scope_words (node.Binary o p a b) ≡ scope_words a
    ++ scope_words b
words_Binary o p a b = rw (levels (node.Binary o p a b), node.outs-Binary o p a b) refl

pub words_Test : (e : Node) (p : Pos) (c : CaseName) → scope_words (node.Test e p c) ≡ scope_words e
words_Test e p c = rw (levels (node.Test e p c), node.outs-Test e p c) refl

pub words_List : (p : Pos) (es : List Node) → scope_words (node.List p es) ≡ all_words (map scope_words es)
words_List p es = rw (levels (node.List p es), node.outs-List p es) refl

pub words_Structure : (u : Name) (fs : List SurfaceField) → scope_words (node.Structure u fs) ≡ all_words
    (map value_words fs)
words_Structure u fs =
    rw (levels (node.Structure u fs), node.outs-Structure u fs, map_same field value_words field_is fs) refl

pub words_ScopeCall : (p : Pos) (u : Name) (fs : List SurfaceField) (w : Name) → scope_words (node.ScopeCall p u fs w)
    ≡ u
    ∷ all_words (map value_words fs)
words_ScopeCall p u fs w =
    rw (levels (node.ScopeCall p u fs w), node.outs-ScopeCall p u fs w, map_same field value_words field_is fs) refl

pub words_If : (p : Pos) (c a b : Node) → scope_words (node.If p c a b) ≡ scope_words c ++ scope_words a
    ++ scope_words b
words_If p c a b = rw (levels (node.If p c a b), node.outs-If p c a b) refl

pub words_Match : (p : Pos) (e : Node) (arms : List SurfaceArm) → scope_words (node.Match p e arms) ≡ scope_words e
    ++ all_words (map body_words arms)
words_Match p e arms = rw (levels (node.Match p e arms), node.outs-Match p e arms, map_same arm body_words arm_is arms)
    refl

pub words_Each : (k : Each) (p : Pos) (w : Name) (l e : Node) → scope_words (node.Each k p w l e) ≡ scope_words l
    ++ scope_words e
words_Each k p w l e = rw (levels (node.Each k p w l e), node.outs-Each k p w l e) refl

pub words_Combine : (p : Pos) (w : Name) (l : Node) (acc : Name) (s e : Node)
    → scope_words (node.Combine (accumulation p w acc) l s e)
    ≡ scope_words l ++ scope_words s ++ scope_words e
words_Combine p w l acc s e =
    rw (levels (node.Combine (accumulation p w acc) l s e), node.outs-Combine (accumulation p w acc) l s e) refl

-- each form's equation
pub ruleset words = (
  words_Literal,
  words_Name,
  words_Case,
  words_Parens,
  words_Field,
  words_Prefixed,
  words_Sum,
  words_Content,
  words_Call,
  words_Binary,
  words_Test,
  words_List,
  words_Structure,
  words_ScopeCall,
  words_If,
  words_Match,
  words_Each,
  words_Combine,
)
