-- The equation of what an expression adds to faults, at each form.
use Rattle.std.proofs.Common.{◌≡◌, ◌∙◌, ℕ, List, [], ◌∷◌, ◌++◌, map, sym, ap}
use Rattle.std.specs.Prelude.{flat_map}
use Rattle.std.proofs.lemmas.List.{append_assoc, append-nil}
use Rattle.std.proofs.lemmas.List.Folds.{flat_map-map}
use Rattle.std.proofs.lemmas.Simd.{map-map}
use Rattle.cat_pos.specs.declared.pos.Pos.{Pos}
use Rattle.cat_tree.specs.Accumulation.{accumulation}
use Rattle.cat_tree.specs.declared.name.Name.{Name}
use Rattle.cat_tree.specs.declared.name.CaseName.{CaseName}
use Rattle.cat_tree.specs.declared.name.Type as types
use Rattle.cat_tree.specs.declared.expression.SurfaceLiteral as tree
use Rattle.cat_tree.specs.declared.expression.Prefix.{Prefix}
use Rattle.cat_tree.specs.declared.expression.Operator.{Operator}
use Rattle.cat_tree.specs.declared.expression.Each.{Each}
use Rattle.cat_tree.specs.declared.expression.Pattern.{Pattern}
use Rattle.cat_tree.specs.declared.expression.Node.{Node}
use Rattle.cat_tree.specs.declared.expression.SurfaceField.{SurfaceField}
use Rattle.cat_tree.specs.declared.expression.SurfaceArm.{SurfaceArm}
use Rattle.cat_tree.specs.declared.expression.Node.TheVariants as leaf
use Rattle.cat_tree.specs.declared.expression.Node.TheViews as node
use Rattle.cat_names.specs.declared.fault.Fault.{Fault}
use Rattle.cat_names.specs.Unknown.{Known, Unknown, is_name, unless, in_reach, of_type, in_type, in_case, in_pattern}
use Rattle.cat_names.specs.Unknown.{bound_by, in_arms, in_fields, twice, unknown_in}
use Rattle.cat_names.proofs.Exported.{arm_row, field_row, unknown_Binary, unknown_Call, unknown_Case}
use Rattle.cat_names.proofs.Exported.{unknown_Combine}
use Rattle.cat_names.proofs.Exported.{unknown_Content, unknown_Each, unknown_Field, unknown_If, unknown_List}
use Rattle.cat_names.proofs.Exported.{unknown_Literal, unknown_Match, unknown_Name, unknown_Parens}
use Rattle.cat_names.proofs.Exported.{unknown_Prefixed}
use Rattle.cat_names.proofs.Exported.{unknown_ScopeCall, unknown_Structure, unknown_Sum, unknown_Test}

-- the faults of some expressions, of fields and of arms
abbrev pub of_nodes : Known → List (List ℕ) → List Node → List Fault
of_nodes known bound es = flat_map (λ e. unknown_in known e bound) es

abbrev pub of_fields : Known → List (List ℕ) → List SurfaceField → List Fault
of_fields known bound fs = flat_map (λ f. unknown_in known f.value bound) fs

abbrev pub of_arms : Known → List (List ℕ) → List SurfaceArm → List Fault
of_arms known bound arms =
    flat_map (λ a. in_pattern known a.pattern ++ unknown_in known a.body (bound ++ bound_by a.pattern)) arms

pub added_Literal : (known : Known) (l : tree.SurfaceLiteral) (p : Pos) (bound : List (List ℕ)) (f : List Fault)
    → f ++ unknown_in known (leaf.Literal l p) bound
    ≡ f
added_Literal known l p bound f = ap (λ fs. f ++ fs) (unknown_Literal known l p bound) ∙ append-nil f

pub added_Name : (known : Known) (w : Name) (bound : List (List ℕ)) (f : List Fault)
    → f ++ unknown_in known (leaf.Name w) bound
    ≡ f ++ in_reach known w bound
added_Name known w bound f = ap (λ fs. f ++ fs) (unknown_Name known w bound)

pub added_Case : (known : Known) (c : CaseName) (bound : List (List ℕ)) (f : List Fault)
    → f ++ unknown_in known (leaf.Case c) bound
    ≡ f ++ in_case known c
added_Case known c bound f = ap (λ fs. f ++ fs) (unknown_Case known c bound)

pub added_Parens : (known : Known) (p : Pos) (e : Node) (bound : List (List ℕ)) (f : List Fault)
    → f ++ unknown_in known (node.Parens p e) bound
    ≡ f ++ unknown_in known e bound
added_Parens known p e bound f = ap (λ fs. f ++ fs) (unknown_Parens known p e bound)

pub added_Field : (known : Known) (e : Node) (w : Name) (bound : List (List ℕ)) (f : List Fault)
    → f ++ unknown_in known (node.Field e w) bound
    ≡ f ++ unknown_in known e bound
added_Field known e w bound f = ap (λ fs. f ++ fs) (unknown_Field known e w bound)

pub added_Prefixed : (known : Known) (o : Prefix) (p : Pos) (e : Node) (bound : List (List ℕ)) (f : List Fault)
    → f ++ unknown_in known (node.Prefixed o p e) bound
    ≡ f ++ unknown_in known e bound
added_Prefixed known o p e bound f = ap (λ fs. f ++ fs) (unknown_Prefixed known o p e bound)

pub added_Sum : (known : Known) (p : Pos) (t : types.Type) (l : Node) (bound : List (List ℕ)) (f : List Fault)
    → f ++ unknown_in known (node.Sum p t l) bound
    ≡ f ++ in_type known t ++ unknown_in known l bound
added_Sum known p t l bound f = ap (λ fs. f ++ fs) (unknown_Sum known p t l bound)
    ∙ sym (append_assoc f (in_type known t) (unknown_in known l bound))

pub added_Content : (known : Known) (c : CaseName) (e : Node) (bound : List (List ℕ)) (f : List Fault)
    → f ++ unknown_in known (node.Content c e) bound
    ≡ f ++ in_case known c ++ unknown_in known e bound
added_Content known c e bound f = ap (λ fs. f ++ fs) (unknown_Content known c e bound)
    ∙ sym (append_assoc f (in_case known c) (unknown_in known e bound))

pub added_Call : (known : Known) (w : Name) (args : List Node) (bound : List (List ℕ)) (f : List Fault)
    → f ++ unknown_in known (node.Call w args) bound
    ≡ f ++ in_reach known w bound ++ of_nodes known bound args
added_Call known w args bound f = ap (λ fs. f ++ fs) (unknown_Call known w args bound
    ∙ ap (λ fs. in_reach known w bound ++ fs) (flat_map-map (λ e. e bound) (unknown_in known) args))
    ∙ sym (append_assoc f (in_reach known w bound) (of_nodes known bound args))

pub added_Binary : (known : Known) (o : Operator) (p : Pos) (a b : Node) (bound : List (List ℕ)) (f : List Fault)
    → f ++ unknown_in known (node.Binary o p a b) bound ≡ f ++ unknown_in known a bound ++ unknown_in known b bound
added_Binary known o p a b bound f = ap (λ fs. f ++ fs) (unknown_Binary known o p a b bound)
    ∙ sym (append_assoc f (unknown_in known a bound) (unknown_in known b bound))

pub added_Test : (known : Known) (e : Node) (p : Pos) (c : CaseName) (bound : List (List ℕ)) (f : List Fault)
    → f ++ unknown_in known (node.Test e p c) bound
    ≡ f ++ unknown_in known e bound ++ in_case known c
added_Test known e p c bound f = ap (λ fs. f ++ fs) (unknown_Test known e p c bound)
    ∙ sym (append_assoc f (unknown_in known e bound) (in_case known c))

pub added_List : (known : Known) (p : Pos) (es : List Node) (bound : List (List ℕ)) (f : List Fault)
    → f ++ unknown_in known (node.List p es) bound
    ≡ f ++ of_nodes known bound es
added_List known p es bound f = ap (λ fs. f ++ fs) (unknown_List known p es bound
    ∙ flat_map-map (λ e. e bound) (unknown_in known) es)

fields_are : (known : Known) (fields : List SurfaceField) (bound : List (List ℕ))
    → in_fields (map (field_row known) fields) bound ≡ twice (map (λ x. x.name) fields) ++ of_fields known bound fields
fields_are known fields bound =
    ap (λ fs. fs ++ flat_map (λ x. x.1 bound) (map (field_row known) fields))
    (ap twice (map-map (λ x. x.0) (field_row known) fields))
    ∙ ap (λ fs. twice (map (λ x. x.name) fields) ++ fs) (flat_map-map (λ x. x.1 bound) (field_row known) fields)

arms_are : (known : Known) (arms : List SurfaceArm) (bound : List (List ℕ))
    → in_arms known (map (arm_row known) arms) bound ≡ of_arms known bound arms
arms_are known arms bound =
    flat_map-map (λ (a : Pattern × Unknown). in_pattern known a.0 ++ a.1 (bound ++ bound_by a.0)) (arm_row known) arms

pub added_Structure : (known : Known) (u : Name) (fields : List SurfaceField) (bound : List (List ℕ)) (f : List Fault)
    → f ++ unknown_in known (node.Structure u fields) bound
    ≡ f ++ of_type known u ++ twice (map (λ x. x.name) fields) ++ of_fields known bound fields
added_Structure known u fields bound f = ap (λ fs. f ++ fs)
    (unknown_Structure known u fields bound ∙ ap (λ fs. of_type known u ++ fs) (fields_are known fields bound))
    ∙ sym (append_assoc f (of_type known u) (twice (map (λ x. x.name) fields) ++ of_fields known bound fields))
    ∙ sym (append_assoc (f ++ of_type known u) (twice (map (λ x. x.name) fields)) (of_fields known bound fields))

pub added_ScopeCall : (known : Known) (p : Pos) (u : Name) (fields : List SurfaceField) (w : Name)
    (bound : List (List ℕ)) (f : List Fault)
    → f ++ unknown_in known (node.ScopeCall p u fields w) bound
    ≡ f ++ unless (is_name u.text known.scopes) u ++ twice (map (λ x. x.name) fields) ++ of_fields known bound fields
added_ScopeCall known p u fields w bound f = ap (λ fs. f ++ fs)
    (unknown_ScopeCall known p u fields w bound ∙ ap (λ fs. unless (is_name u.text known.scopes) u ++ fs)
    (fields_are known fields bound))
    ∙ sym (append_assoc f (unless (is_name u.text known.scopes) u)
    (twice (map (λ x. x.name) fields) ++ of_fields known bound fields))
    ∙ sym (append_assoc (f ++ unless (is_name u.text known.scopes) u) (twice (map (λ x. x.name) fields))
    (of_fields known bound fields))

pub added_If : (known : Known) (p : Pos) (c a b : Node) (bound : List (List ℕ)) (f : List Fault)
    → f ++ unknown_in known (node.If p c a b) bound ≡ f ++ unknown_in known c bound ++ unknown_in known a bound ++
    unknown_in known b bound
added_If known p c a b bound f = ap (λ fs. f ++ fs) (unknown_If known p c a b bound)
    ∙ sym (append_assoc f (unknown_in known c bound ++ unknown_in known a bound) (unknown_in known b bound))
    ∙ ap (λ fs. fs ++ unknown_in known b bound) (sym
    (append_assoc f (unknown_in known c bound) (unknown_in known a bound)))

pub added_Match : (known : Known) (p : Pos) (e : Node) (arms : List SurfaceArm) (bound : List (List ℕ)) (f : List Fault)
    → f ++ unknown_in known (node.Match p e arms) bound
    ≡ f ++ unknown_in known e bound ++ of_arms known bound arms
added_Match known p e arms bound f = ap (λ fs. f ++ fs)
    (unknown_Match known p e arms bound ∙ ap (λ fs. unknown_in known e bound ++ fs) (arms_are known arms bound))
    ∙ sym (append_assoc f (unknown_in known e bound) (of_arms known bound arms))

pub added_Each : (known : Known) (k : Each) (p : Pos) (w : Name) (l e : Node) (bound : List (List ℕ)) (f : List Fault)
    → f ++ unknown_in known (node.Each k p w l e) bound
    ≡ f ++ unknown_in known l bound ++ unknown_in known e (bound ++ w.text ∷ [])
added_Each known k p w l e bound f = ap (λ fs. f ++ fs) (unknown_Each known k p w l e bound)
    ∙ sym (append_assoc f (unknown_in known l bound) (unknown_in known e (bound ++ w.text ∷ [])))

pub added_Combine : (known : Known) (p : Pos) (w : Name) (l : Node) (acc : Name) (s e : Node) (bound : List (List ℕ))
    (f : List Fault)
    → f ++ unknown_in known (node.Combine (accumulation p w acc) l s e) bound
    ≡ f ++ unknown_in known l bound ++ unknown_in known s bound ++ unknown_in known e (bound ++ w.text ∷ acc.text ∷ [])
added_Combine known p w l acc s e bound f = ap (λ fs. f ++ fs) (unknown_Combine known p w l acc s e bound)
    ∙ sym (append_assoc f (unknown_in known l bound ++ unknown_in known s bound)
    (unknown_in known e (bound ++ w.text ∷ acc.text ∷ [])))
    ∙ ap (λ fs. fs ++ unknown_in known e (bound ++ w.text ∷ acc.text ∷ []))
    (sym (append_assoc f (unknown_in known l bound) (unknown_in known s bound)))

-- each form's equation
pub ruleset added = (
  added_Literal,
  added_Name,
  added_Case,
  added_Parens,
  added_Field,
  added_Prefixed,
  added_Sum,
  added_Content,
  added_Call,
  added_Binary,
  added_Test,
  added_List,
  added_Structure,
  added_ScopeCall,
  added_If,
  added_Match,
  added_Each,
  added_Combine,
)

-- faults behind each other, and none
pub ruleset joining = (append_assoc, append-nil)
