-- The equation of `unknown_in` at each form.
use Rattle.std.specs.Prelude.{flat_map}
use Rattle.std.proofs.Common.{◌≡◌, ℕ, List, [], ◌∷◌, ◌++◌, map, refl, ap, ◌∙◌}
use Rattle.cat_pos.specs.declared.pos.Pos.{Pos}
use Rattle.cat_tree.specs.Accumulation.{accumulation}
use Rattle.cat_tree.specs.declared.name.Name.{Name}
use Rattle.cat_tree.specs.declared.name.CaseName.{CaseName}
use Rattle.cat_tree.specs.declared.name.Type as types
use Rattle.cat_tree.specs.declared.expression.SurfaceLiteral as tree
use Rattle.cat_tree.specs.declared.expression.Prefix.{Prefix}
use Rattle.cat_tree.specs.declared.expression.Operator.{Operator}
use Rattle.cat_tree.specs.declared.expression.Each.{Each}
use Rattle.cat_tree.specs.declared.expression.Pattern.{Pattern}
use Rattle.cat_tree.specs.declared.expression.Node.{Node}
use Rattle.cat_tree.specs.declared.expression.SurfaceField.{SurfaceField}
use Rattle.cat_tree.specs.declared.expression.SurfaceArm.{SurfaceArm}
use Rattle.cat_tree.specs.declared.expression.Node.TheVariants as leaf
use Rattle.cat_tree.specs.declared.expression.Node.TheViews as node
use Rattle.cat_tree.specs.declared.expression.Node.TheViews.{out-Node}
use Rattle.cat_tree.specs.declared.expression.Node.TheFolds.{fold_out-Node, fold_out-SurfaceArm}
use Rattle.cat_tree.specs.declared.expression.Node.TheFolds.{fold_out-SurfaceField, map-Node}
use Rattle.cat_tree.specs.declared.expression.Node.TheFolds.{fold-SurfaceField, fold-SurfaceArm}
use Rattle.cat_names.specs.Unknown.{Known, Unknown, is_name, unless, in_reach, of_type, in_type, in_case, in_fields}
use Rattle.cat_names.specs.Unknown.{in_arms, unknown_of, arm_unknown, field_unknown, unknown_in}

abbrev pub field_row : Known → SurfaceField → Name × Unknown
field_row known f = (f.name, unknown_in known f.value)

abbrev pub arm_row : Known → SurfaceArm → Pattern × Unknown
arm_row known a = (a.pattern, unknown_in known a.body)

abbrev field : Known → SurfaceField → Name × Unknown
field known = fold-SurfaceField Unknown (Pattern × Unknown) (Name × Unknown)
    (unknown_of known) arm_unknown field_unknown

abbrev arm : Known → SurfaceArm → Pattern × Unknown
arm known = fold-SurfaceArm Unknown (Pattern × Unknown) (Name × Unknown) (unknown_of known) arm_unknown field_unknown

levels : (known : Known) (e : Node) → unknown_in known e
    ≡ unknown_of known
    (map-Node Node SurfaceArm SurfaceField Unknown (Pattern × Unknown) (Name × Unknown) (unknown_in known)
    (arm known) (field known) (out-Node e))
unfolding unknown_in
levels known e = fold_out-Node Unknown (Pattern × Unknown) (Name × Unknown) (unknown_of known) arm_unknown field_unknown
    e

field_is : (known : Known) (f : SurfaceField) → field known f ≡ field_row known f
unfolding unknown_in
field_is known f = rw (fold_out-SurfaceField Unknown (Pattern × Unknown) (Name × Unknown) (unknown_of known) arm_unknown
    field_unknown f) refl

arm_is : (known : Known) (a : SurfaceArm) → arm known a ≡ arm_row known a
unfolding unknown_in
arm_is known a =
    rw (fold_out-SurfaceArm Unknown (Pattern × Unknown) (Name × Unknown) (unknown_of known) arm_unknown field_unknown a)
    refl

pub map_same : {A B : Type 0} (f g : A → B) → ((a : A) → f a ≡ g a) → (xs : List A) → map f xs ≡ map g xs
map_same f g are [] = refl
map_same f g are (x ∷ xs) = ap (λ y. y ∷ map f xs) (are x) ∙ ap (λ ys. g x ∷ ys) (map_same f g are xs)

pub unknown_Literal : (known : Known) (l : tree.SurfaceLiteral) (p : Pos) (bound : List (List ℕ))
    → unknown_in known (leaf.Literal l p) bound ≡ []
unknown_Literal known l p bound = rw (levels known (leaf.Literal l p), node.outs-Literal l p) refl

pub unknown_Name : (known : Known) (w : Name) (bound : List (List ℕ))
    → unknown_in known (leaf.Name w) bound ≡ in_reach known w bound
unknown_Name known w bound = rw (levels known (leaf.Name w), node.outs-Name w) refl

pub unknown_Case : (known : Known) (c : CaseName) (bound : List (List ℕ))
    → unknown_in known (leaf.Case c) bound ≡ in_case known c
unknown_Case known c bound = rw (levels known (leaf.Case c), node.outs-Case c) refl

pub unknown_Parens : (known : Known) (p : Pos) (e : Node) (bound : List (List ℕ))
    → unknown_in known (node.Parens p e) bound ≡ unknown_in known e bound
unknown_Parens known p e bound = rw (levels known (node.Parens p e), node.outs-Parens p e) refl

pub unknown_Field : (known : Known) (e : Node) (w : Name) (bound : List (List ℕ))
    → unknown_in known (node.Field e w) bound ≡ unknown_in known e bound
unknown_Field known e w bound = rw (levels known (node.Field e w), node.outs-Field e w) refl

pub unknown_Prefixed : (known : Known) (o : Prefix) (p : Pos) (e : Node) (bound : List (List ℕ))
    → unknown_in known (node.Prefixed o p e) bound ≡ unknown_in known e bound
unknown_Prefixed known o p e bound = rw (levels known (node.Prefixed o p e), node.outs-Prefixed o p e) refl

pub unknown_Sum : (known : Known) (p : Pos) (t : types.Type) (l : Node) (bound : List (List ℕ))
    → unknown_in known (node.Sum p t l) bound ≡ in_type known t ++ unknown_in known l bound
unknown_Sum known p t l bound = rw (levels known (node.Sum p t l), node.outs-Sum p t l) refl

pub unknown_Content : (known : Known) (c : CaseName) (e : Node) (bound : List (List ℕ))
    → unknown_in known (node.Content c e) bound ≡ in_case known c ++ unknown_in known e bound
unknown_Content known c e bound = rw (levels known (node.Content c e), node.outs-Content c e) refl

pub unknown_Call : (known : Known) (w : Name) (args : List Node) (bound : List (List ℕ))
    → unknown_in known (node.Call w args) bound ≡ in_reach known w bound ++ flat_map (λ e. e bound)
    (map (unknown_in known) args)
unknown_Call known w args bound = rw (levels known (node.Call w args), node.outs-Call w args) refl

pub unknown_Binary : (known : Known) (o : Operator) (p : Pos) (a b : Node) (bound : List (List ℕ))
    → unknown_in known (node.Binary o p a b) bound ≡ unknown_in known a bound ++ unknown_in known b bound
unknown_Binary known o p a b bound = rw (levels known (node.Binary o p a b), node.outs-Binary o p a b) refl

pub unknown_Test : (known : Known) (e : Node) (p : Pos) (c : CaseName) (bound : List (List ℕ))
    → unknown_in known (node.Test e p c) bound ≡ unknown_in known e bound ++ in_case known c
unknown_Test known e p c bound = rw (levels known (node.Test e p c), node.outs-Test e p c) refl

pub unknown_List : (known : Known) (p : Pos) (es : List Node) (bound : List (List ℕ))
    → unknown_in known (node.List p es) bound ≡ flat_map (λ e. e bound) (map (unknown_in known) es)
unknown_List known p es bound = rw (levels known (node.List p es), node.outs-List p es) refl

pub unknown_Structure : (known : Known) (u : Name) (fs : List SurfaceField) (bound : List (List ℕ))
    → unknown_in known (node.Structure u fs) bound ≡ of_type known u ++ in_fields (map (field_row known) fs) bound
unknown_Structure known u fs bound = rw (
  levels known (node.Structure u fs),
  node.outs-Structure u fs,
  map_same (field known) (field_row known) (field_is known) fs,
) refl

pub unknown_ScopeCall : (known : Known) (p : Pos) (u : Name) (fs : List SurfaceField) (w : Name) (bound : List (List ℕ))
    → unknown_in known (node.ScopeCall p u fs w) bound ≡ unless (is_name u.text known.scopes) u
    ++ in_fields (map (field_row known) fs) bound
unknown_ScopeCall known p u fs w bound = rw (
  levels known (node.ScopeCall p u fs w),
  node.outs-ScopeCall p u fs w,
  map_same (field known) (field_row known) (field_is known) fs,
) refl

pub unknown_If : (known : Known) (p : Pos) (c a b : Node) (bound : List (List ℕ))
    → unknown_in known (node.If p c a b) bound ≡ unknown_in known c bound ++ unknown_in known a bound
    ++ unknown_in known b bound
unknown_If known p c a b bound = rw (levels known (node.If p c a b), node.outs-If p c a b) refl

pub unknown_Match : (known : Known) (p : Pos) (e : Node) (arms : List SurfaceArm) (bound : List (List ℕ))
    → unknown_in known (node.Match p e arms) bound ≡ unknown_in known e bound
    ++ in_arms known (map (arm_row known) arms) bound
unknown_Match known p e arms bound = rw (
  levels known (node.Match p e arms),
  node.outs-Match p e arms,
  map_same (arm known) (arm_row known) (arm_is known) arms,
) refl

pub unknown_Each : (known : Known) (k : Each) (p : Pos) (w : Name) (l e : Node) (bound : List (List ℕ))
    → unknown_in known (node.Each k p w l e) bound ≡ unknown_in known l bound
    ++ unknown_in known e (bound ++ w.text ∷ [])
unknown_Each known k p w l e bound = rw (levels known (node.Each k p w l e), node.outs-Each k p w l e) refl

pub unknown_Combine : (known : Known) (p : Pos) (w : Name) (l : Node) (acc : Name) (s e : Node) (bound : List (List ℕ))
    → unknown_in known (node.Combine (accumulation p w acc) l s e) bound
    ≡ unknown_in known l bound ++ unknown_in known s bound
    ++ unknown_in known e (bound ++ w.text ∷ acc.text ∷ [])
unknown_Combine known p w l acc s e bound =
    rw (levels known (node.Combine (accumulation p w acc) l s e), node.outs-Combine (accumulation p w acc) l s e) refl

-- each form's equation
pub ruleset unknowns = (
  unknown_Literal,
  unknown_Name,
  unknown_Case,
  unknown_Parens,
  unknown_Field,
  unknown_Prefixed,
  unknown_Sum,
  unknown_Content,
  unknown_Call,
  unknown_Binary,
  unknown_Test,
  unknown_List,
  unknown_Structure,
  unknown_ScopeCall,
  unknown_If,
  unknown_Match,
  unknown_Each,
  unknown_Combine,
)
