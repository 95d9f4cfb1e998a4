-- What an expression adds to the names of the scopes that are called, at each form.
use Rattle.std.proofs.Common.{◌≡◌, ◌∙◌, List, [], ◌∷◌, ◌++◌, map, refl, sym, ap}
use Rattle.std.specs.Prelude.{flat_map}
use Rattle.std.proofs.lemmas.List.{append_assoc, append-nil}
use Rattle.cat_pos.specs.declared.pos.Pos.{Pos}
use Rattle.cat_tree.specs.Accumulation.{accumulation}
use Rattle.cat_tree.specs.declared.name.Name.{Name}
use Rattle.cat_tree.specs.declared.name.CaseName.{CaseName}
use Rattle.cat_tree.specs.declared.name.Type as types
use Rattle.cat_tree.specs.declared.expression.SurfaceLiteral as tree
use Rattle.cat_tree.specs.declared.expression.Prefix.{Prefix}
use Rattle.cat_tree.specs.declared.expression.Operator.{Operator}
use Rattle.cat_tree.specs.declared.expression.Each.{Each}
use Rattle.cat_tree.specs.declared.expression.Node.{Node}
use Rattle.cat_tree.specs.declared.expression.SurfaceField.{SurfaceField}
use Rattle.cat_tree.specs.declared.expression.SurfaceArm.{SurfaceArm}
use Rattle.cat_tree.specs.declared.expression.Node.TheVariants as leaf
use Rattle.cat_tree.specs.declared.expression.Node.TheViews as node
use Rattle.cat_names.specs.ScopeWords.{all_words, scope_words}
use Rattle.cat_names.proofs.Exported.{words}

none : (e : Node) → scope_words e ≡ [] → (f : List Name) → f ++ scope_words e ≡ f
none e is f = ap (λ ws. f ++ ws) is ∙ append-nil f

one : (e a : Node) → scope_words e ≡ scope_words a → (f : List Name) → f ++ scope_words e ≡ f ++ scope_words a
one e a is f = ap (λ ws. f ++ ws) is

two : (e a b : Node) → scope_words e ≡ scope_words a ++ scope_words b → (f : List Name)
    → f ++ scope_words e ≡ f ++ scope_words a ++ scope_words b
two e a b is f = ap (λ ws. f ++ ws) is ∙ sym (append_assoc f (scope_words a) (scope_words b))

three : (e a b c : Node) → scope_words e ≡ scope_words a ++ scope_words b ++ scope_words c → (f : List Name)
    → f ++ scope_words e ≡ f ++ scope_words a ++ scope_words b ++ scope_words c
three e a b c is f = ap (λ ws. f ++ ws) is
    ∙ sym (append_assoc f (scope_words a ++ scope_words b) (scope_words c))
    ∙ ap (λ ws. ws ++ scope_words c) (sym (append_assoc f (scope_words a) (scope_words b)))

each : {A : Type 0} (part : A → Node) (xs : List A)
    → all_words (map (λ x. scope_words (part x)) xs) ≡ flat_map (λ x. scope_words (part x)) xs
each part [] = refl
each part (x ∷ xs) = ap (λ ws. scope_words (part x) ++ ws) (each part xs)

many : {A : Type 0} (part : A → Node) (e : Node) (xs : List A)
    → scope_words e ≡ all_words (map (λ x. scope_words (part x)) xs) → (f : List Name)
    → f ++ scope_words e ≡ f ++ flat_map (λ x. scope_words (part x)) xs
many part e xs is f = ap (λ ws. f ++ ws) (is ∙ each part xs)

pub added_Literal : (l : tree.SurfaceLiteral) (p : Pos) (f : List Name)
    → f ++ scope_words (leaf.Literal l p) ≡ f
added_Literal l p f = none (leaf.Literal l p) (search words) f

pub added_Name : (w : Name) (f : List Name) → f ++ scope_words (leaf.Name w) ≡ f
added_Name w f = none (leaf.Name w) (search words) f

pub added_Case : (c : CaseName) (f : List Name) → f ++ scope_words (leaf.Case c) ≡ f
added_Case c f = none (leaf.Case c) (search words) f

pub added_Parens : (p : Pos) (e : Node) (f : List Name)
    → f ++ scope_words (node.Parens p e) ≡ f ++ scope_words e
added_Parens p e f = one (node.Parens p e) e (search words) f

pub added_Field : (e : Node) (w : Name) (f : List Name)
    → f ++ scope_words (node.Field e w) ≡ f ++ scope_words e
added_Field e w f = one (node.Field e w) e (search words) f

pub added_Prefixed : (o : Prefix) (p : Pos) (e : Node) (f : List Name)
    → f ++ scope_words (node.Prefixed o p e) ≡ f ++ scope_words e
added_Prefixed o p e f = one (node.Prefixed o p e) e (search words) f

pub added_Sum : (p : Pos) (ty : types.Type) (e : Node) (f : List Name)
    → f ++ scope_words (node.Sum p ty e) ≡ f ++ scope_words e
added_Sum p ty e f = one (node.Sum p ty e) e (search words) f

pub added_Content : (c : CaseName) (e : Node) (f : List Name)
    → f ++ scope_words (node.Content c e) ≡ f ++ scope_words e
added_Content c e f = one (node.Content c e) e (search words) f

pub added_Test : (e : Node) (p : Pos) (c : CaseName) (f : List Name)
    → f ++ scope_words (node.Test e p c) ≡ f ++ scope_words e
added_Test e p c f = one (node.Test e p c) e (search words) f

pub added_Binary : (o : Operator) (p : Pos) (a b : Node) (f : List Name)
    → f ++ scope_words (node.Binary o p a b) ≡ f ++ scope_words a ++ scope_words b
added_Binary o p a b f = two (node.Binary o p a b) a b (search words) f

pub added_Each : (k : Each) (p : Pos) (w : Name) (l e : Node) (f : List Name)
    → f ++ scope_words (node.Each k p w l e) ≡ f ++ scope_words l ++ scope_words e
added_Each k p w l e f = two (node.Each k p w l e) l e (search words) f

pub added_If : (p : Pos) (c a b : Node) (f : List Name)
    → f ++ scope_words (node.If p c a b) ≡ f ++ scope_words c ++ scope_words a ++ scope_words b
added_If p c a b f = three (node.If p c a b) c a b (search words) f

pub added_Combine : (p : Pos) (w : Name) (l : Node) (acc : Name) (s e : Node) (f : List Name)
    → f ++ scope_words (node.Combine (accumulation p w acc) l s e)
    ≡ f ++ scope_words l ++ scope_words s ++ scope_words e
added_Combine p w l acc s e f = three (node.Combine (accumulation p w acc) l s e) l s e (search words) f

pub added_Call : (w : Name) (args : List Node) (f : List Name)
    → f ++ scope_words (node.Call w args) ≡ f ++ flat_map (scope_words) args
added_Call w args f = many (λ e. e) (node.Call w args) args (search words) f

pub added_List : (p : Pos) (es : List Node) (f : List Name)
    → f ++ scope_words (node.List p es) ≡ f ++ flat_map (scope_words) es
added_List p es f = many (λ e. e) (node.List p es) es (search words) f

pub added_Structure : (u : Name) (fs : List SurfaceField) (f : List Name)
    → f ++ scope_words (node.Structure u fs) ≡ f ++ flat_map (λ x. scope_words x.value) fs
added_Structure u fs f = many (λ (x : SurfaceField). x.value) (node.Structure u fs) fs (search words) f

pub added_ScopeCall : (p : Pos) (u : Name) (fs : List SurfaceField) (w : Name) (f : List Name)
    → f ++ scope_words (node.ScopeCall p u fs w) ≡ f ++ u ∷ [] ++ flat_map (λ x. scope_words x.value) fs
added_ScopeCall p u fs w f =
    let is : scope_words (node.ScopeCall p u fs w)
    ≡ u ∷ all_words (map (λ (x : SurfaceField). scope_words x.value) fs) =
    search words in
    ap (λ ws. f ++ ws) (is ∙ ap (λ ws. u ∷ ws) (each (λ (x : SurfaceField). x.value) fs))
    ∙ sym (append_assoc f (u ∷ []) (flat_map (λ (x : SurfaceField). scope_words x.value) fs))

pub added_Match : (p : Pos) (e : Node) (arms : List SurfaceArm) (f : List Name)
    → f ++ scope_words (node.Match p e arms) ≡ f ++ scope_words e ++ flat_map (λ x. scope_words x.body) arms
added_Match p e arms f =
    let is : scope_words (node.Match p e arms)
    ≡ scope_words e ++ all_words (map (λ (x : SurfaceArm). scope_words x.body) arms) =
    search words in
    ap (λ ws. f ++ ws) (is ∙ ap (λ ws. scope_words e ++ ws) (each (λ (x : SurfaceArm). x.body) arms))
    ∙ sym (append_assoc f (scope_words e) (flat_map (λ (x : SurfaceArm). scope_words x.body) arms))

pub ruleset adding = (
  added_Literal,
  added_Name,
  added_Case,
  added_Parens,
  added_Field,
  added_Prefixed,
  added_Sum,
  added_Content,
  added_Test,
  added_Binary,
  added_Each,
  added_If,
  added_Combine,
  added_Call,
  added_List,
  added_Structure,
  added_ScopeCall,
  added_Match,
)
