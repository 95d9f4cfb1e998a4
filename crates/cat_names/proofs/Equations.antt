-- The equation of `meant` at each form.
use Rattle.std.proofs.Common.{◌≡◌, List, Option, None, Ok, refl, ap, ◌∙◌}
use Rattle.cat_pos.specs.declared.pos.Pos.{Pos}
use Rattle.cat_value.specs.declared.ty.Ty.{Ty}
use Rattle.cat_value.specs.Entries.{content_of}
use Rattle.cat_tree.specs.Accumulation.{accumulation}
use Rattle.cat_tree.specs.declared.name.Name.{Name}
use Rattle.cat_tree.specs.declared.name.CaseName.{CaseName}
use Rattle.cat_tree.specs.declared.name.Type as types
use Rattle.cat_tree.specs.declared.expression.SurfaceLiteral as tree
use Rattle.cat_tree.specs.declared.expression.Prefix.{Prefix}
use Rattle.cat_tree.specs.declared.expression.Operator.{Operator}
use Rattle.cat_tree.specs.declared.expression.Each.{Each}
use Rattle.cat_tree.specs.declared.expression.Node.{Node}
use Rattle.cat_tree.specs.declared.expression.SurfaceField.{SurfaceField}
use Rattle.cat_tree.specs.declared.expression.SurfaceArm.{SurfaceArm}
use Rattle.cat_tree.specs.declared.expression.Node.TheOpen.{Node-F}
use Rattle.cat_tree.specs.declared.expression.Node.TheVariants as leaf
use Rattle.cat_tree.specs.declared.expression.Node.TheViews as node
use Rattle.cat_tree.specs.declared.expression.Node.TheViews.{out-Node}
use Rattle.cat_tree.specs.declared.expression.Node.TheFolds.{fold_out-Node, fold_out-SurfaceArm}
use Rattle.cat_tree.specs.declared.expression.Node.TheFolds.{fold_out-SurfaceField, map-Node}
use Rattle.cat_tree.specs.declared.expression.Node.TheFolds.{fold-SurfaceField, fold-SurfaceArm}
use Rattle.cat_scope.specs.Names.{Names}
use Rattle.cat_names.specs.declared.typed.Local.{Local}
use Rattle.cat_names.specs.Found.{and_then, both}
use Rattle.cat_names.specs.Types.{expected_element}
use Rattle.cat_names.specs.Naming.{name_found, function_found, called_scope, case_found, case_first, structure_found}
use Rattle.cat_names.specs.Naming.{scope_found}
use Rattle.cat_names.specs.Operations.{as_expected, literal_written, literal_of, binary_of, prefixed_of, sum_of}
use Rattle.cat_names.specs.Forms.{if_of, test_of}
use Rattle.cat_names.specs.Parts.{elements_of, list_of, call_of}
use Rattle.cat_names.specs.Compound.{dotted, content_of_type, case_alone, structure_of_fields, scope_call_of}
use Rattle.cat_names.specs.Compound.{branches_of, match_over, over_list, combine_over}
use Rattle.cat_names.specs.Meaning.{ArmMeaning, FieldMeaning, NamedMeaning, beside, name_alone, meaning_of}
use Rattle.cat_names.specs.Meaning.{named_meaning_of, arm_meaning, field_meaning, named_meaning, meant, starting}
use Rattle.cat_names.specs.Meaning.{field_meant, arm_meant}
use Rattle.cat_names.specs.Lookup.{type_names, type_found}
use Rattle.cat_names.proofs.ListEquations.{elements_along, call_along, structure_along, scope_call_along, match_along}

abbrev field : Names → SurfaceField → FieldMeaning
field ns = fold-SurfaceField NamedMeaning ArmMeaning FieldMeaning (named_meaning_of ns) arm_meaning field_meaning

abbrev arm : Names → SurfaceArm → ArmMeaning
arm ns = fold-SurfaceArm NamedMeaning ArmMeaning FieldMeaning (named_meaning_of ns) arm_meaning field_meaning

-- an expression as a part, by its level
levels : (ns : Names) (e : Node)
    → named_meaning ns e ≡ named_meaning_of ns
    (map-Node Node SurfaceArm SurfaceField NamedMeaning ArmMeaning FieldMeaning (named_meaning ns) (arm ns)
    (field ns) (out-Node e))
unfolding named_meaning
levels ns e = fold_out-Node NamedMeaning ArmMeaning FieldMeaning (named_meaning_of ns) arm_meaning field_meaning e

-- what it means, by its level
at_level : (ns : Names) (e : Node) (ls : List Local) (ex : Option Ty) → meant ns e ls ex
    ≡ meaning_of ns
    (map-Node Node SurfaceArm SurfaceField NamedMeaning ArmMeaning FieldMeaning (named_meaning ns) (arm ns) (field ns)
    (out-Node e)) ls ex
unfolding meant
at_level ns e ls ex = ap (λ (part : NamedMeaning). part.means ls ex) (levels ns e)

field_is : (ns : Names) (f : SurfaceField) → beside (field ns f) ≡ field_meant ns f
unfolding named_meaning meant
field_is ns f =
    rw (fold_out-SurfaceField NamedMeaning ArmMeaning FieldMeaning (named_meaning_of ns) arm_meaning field_meaning f)
    refl

arm_is : (ns : Names) (a : SurfaceArm) → beside (arm ns a) ≡ arm_meant ns a
unfolding named_meaning meant
arm_is ns a =
    rw (fold_out-SurfaceArm NamedMeaning ArmMeaning FieldMeaning (named_meaning_of ns) arm_meaning field_meaning a) refl

-- the name that a part is
name_of_level : (ns : Names) (y : Node-F Node SurfaceArm SurfaceField)
    → name_alone
    (map-Node Node SurfaceArm SurfaceField NamedMeaning ArmMeaning FieldMeaning (named_meaning ns) (arm ns)
    (field ns) y)
    ≡ name_alone y
name_of_level ns (Node-F.Literal l p) = refl
name_of_level ns (Node-F.Name w) = refl
name_of_level ns (Node-F.Case c) = refl
name_of_level ns (Node-F.Parens p e) = refl
name_of_level ns (Node-F.Field e w) = refl
name_of_level ns (Node-F.Prefixed o p e) = refl
name_of_level ns (Node-F.Sum p t l) = refl
name_of_level ns (Node-F.Content c e) = refl
name_of_level ns (Node-F.Call w args) = refl
name_of_level ns (Node-F.Binary o p a b) = refl
name_of_level ns (Node-F.Test e p c) = refl
name_of_level ns (Node-F.List p es) = refl
name_of_level ns (Node-F.Structure u fs) = refl
name_of_level ns (Node-F.ScopeCall p u fs w) = refl
name_of_level ns (Node-F.If p c a b) = refl
name_of_level ns (Node-F.Match p e arms) = refl
name_of_level ns (Node-F.Each k p w l e) = refl
name_of_level ns (Node-F.Combine c l s e) = refl

pub alone : (ns : Names) (e : Node) → (named_meaning ns e).name ≡ name_alone (out-Node e)
alone ns e = ap (λ (part : NamedMeaning). part.name) (levels ns e) ∙ name_of_level ns (out-Node e)

pub meant_Literal : (ns : Names) (l : tree.SurfaceLiteral) (p : Pos) (ls : List Local) (ex : Option Ty)
    → meant ns (leaf.Literal l p) ls ex ≡ as_expected ex (literal_of p (literal_written l))
unfolding meant
meant_Literal ns l p ls ex = at_level ns (leaf.Literal l p) ls ex ∙ rw (node.outs-Literal l p) refl

pub meant_Name : (ns : Names) (w : Name) (ls : List Local) (ex : Option Ty)
    → meant ns (leaf.Name w) ls ex ≡ as_expected ex (name_found ns w ls)
unfolding meant
meant_Name ns w ls ex = at_level ns (leaf.Name w) ls ex ∙ rw (node.outs-Name w) refl

pub meant_Case : (ns : Names) (c : CaseName) (ls : List Local) (ex : Option Ty)
    → meant ns (leaf.Case c) ls ex ≡ as_expected ex
    (and_then (case_found ns c) (λ k. case_alone (case_first c) k (content_of ns.decls k.0 k.1)))
unfolding meant
meant_Case ns c ls ex = at_level ns (leaf.Case c) ls ex ∙ rw (node.outs-Case c) refl

pub meant_Parens : (ns : Names) (p : Pos) (e : Node) (ls : List Local) (ex : Option Ty)
    → meant ns (node.Parens p e) ls ex ≡ and_then (meant ns e ls ex) (λ x. Ok (starting p x))
unfolding meant
meant_Parens ns p e ls ex = at_level ns (node.Parens p e) ls ex ∙ rw (node.outs-Parens p e) refl

pub meant_Field : (ns : Names) (e : Node) (w : Name) (ls : List Local) (ex : Option Ty)
    → meant ns (node.Field e w) ls ex ≡ as_expected ex
    (dotted ns w (meant ns e) ls (called_scope ns (name_alone (out-Node e)) ls))
unfolding meant
meant_Field ns e w ls ex = at_level ns (node.Field e w) ls ex ∙ rw (node.outs-Field e w, alone ns e) refl

pub meant_Prefixed : (ns : Names) (o : Prefix) (p : Pos) (e : Node) (ls : List Local) (ex : Option Ty)
    → meant ns (node.Prefixed o p e) ls ex ≡ as_expected ex (and_then (meant ns e ls None) (prefixed_of o p))
unfolding meant
meant_Prefixed ns o p e ls ex = at_level ns (node.Prefixed o p e) ls ex ∙ rw (node.outs-Prefixed o p e) refl

pub meant_Sum : (ns : Names) (p : Pos) (t : types.Type) (l : Node) (ls : List Local) (ex : Option Ty)
    → meant ns (node.Sum p t l) ls ex ≡ as_expected ex (both (type_found (type_names ns.decls) t) (meant ns l ls None)
    (sum_of p))
unfolding meant
meant_Sum ns p t l ls ex = at_level ns (node.Sum p t l) ls ex ∙ rw (node.outs-Sum p t l) refl

pub meant_Content : (ns : Names) (c : CaseName) (e : Node) (ls : List Local) (ex : Option Ty)
    → meant ns (node.Content c e) ls ex ≡ as_expected ex
    (and_then (case_found ns c) (λ k. content_of_type (case_first c) k (meant ns e) ls (content_of ns.decls k.0 k.1)))
unfolding meant
meant_Content ns c e ls ex = at_level ns (node.Content c e) ls ex ∙ rw (node.outs-Content c e) refl

pub meant_Call : (ns : Names) (w : Name) (args : List Node) (ls : List Local) (ex : Option Ty)
    → meant ns (node.Call w args) ls ex ≡ as_expected ex
    (and_then (function_found ns w ls) (call_of (meant ns) w args ls))
unfolding meant
meant_Call ns w args ls ex = at_level ns (node.Call w args) ls ex ∙ rw (node.outs-Call w args)
    (ap (as_expected ex) (call_along (λ e. e.means) (meant ns) (named_meaning ns) (λ e. refl) w args ls
    (function_found ns w ls)))

pub meant_Binary : (ns : Names) (o : Operator) (p : Pos) (a b : Node) (ls : List Local) (ex : Option Ty)
    → meant ns (node.Binary o p a b) ls ex ≡ as_expected ex
    (both (meant ns a ls None) (meant ns b ls None) (binary_of o p))
unfolding meant
meant_Binary ns o p a b ls ex = at_level ns (node.Binary o p a b) ls ex ∙ rw (node.outs-Binary o p a b) refl

pub meant_Test : (ns : Names) (e : Node) (p : Pos) (c : CaseName) (ls : List Local) (ex : Option Ty)
    → meant ns (node.Test e p c) ls ex ≡ as_expected ex (both (meant ns e ls None) (case_found ns c) (test_of p))
unfolding meant
meant_Test ns e p c ls ex = at_level ns (node.Test e p c) ls ex ∙ rw (node.outs-Test e p c) refl

pub meant_List : (ns : Names) (p : Pos) (es : List Node) (ls : List Local) (ex : Option Ty)
    → meant ns (node.List p es) ls ex ≡ as_expected ex (and_then (elements_of (meant ns) p es ls (expected_element ex))
    (list_of ns p))
unfolding meant
meant_List ns p es ls ex = at_level ns (node.List p es) ls ex ∙ rw (node.outs-List p es)
    (ap (λ found. as_expected ex (and_then found (list_of ns p)))
    (elements_along (λ e. e.means) (meant ns) (named_meaning ns) (λ e. refl) p es ls (expected_element ex)))

pub meant_Structure : (ns : Names) (u : Name) (fs : List SurfaceField) (ls : List Local) (ex : Option Ty)
    → meant ns (node.Structure u fs) ls ex ≡ as_expected ex
    (and_then (structure_found ns u) (structure_of_fields (field_meant ns) ns u fs ls))
unfolding meant
meant_Structure ns u fs ls ex = at_level ns (node.Structure u fs) ls ex ∙ rw (node.outs-Structure u fs)
    (ap (as_expected ex) (structure_along beside (field_meant ns) (field ns) (field_is ns) ns u fs ls
    (structure_found ns u)))

pub meant_ScopeCall : (ns : Names) (p : Pos) (u : Name) (fs : List SurfaceField) (w : Name) (ls : List Local)
    (ex : Option Ty)
    → meant ns (node.ScopeCall p u fs w) ls ex ≡ as_expected ex
    (and_then (scope_found ns u) (scope_call_of (field_meant ns) ns p u fs w ls))
unfolding meant
meant_ScopeCall ns p u fs w ls ex = at_level ns (node.ScopeCall p u fs w) ls ex ∙ rw (node.outs-ScopeCall p u fs w)
    (ap (as_expected ex) (scope_call_along beside (field_meant ns) (field ns) (field_is ns) ns p u fs w ls
    (scope_found ns u)))

pub meant_If : (ns : Names) (p : Pos) (c a b : Node) (ls : List Local) (ex : Option Ty)
    → meant ns (node.If p c a b) ls ex ≡ both (meant ns c ls None) (branches_of (meant ns a) (meant ns b) ls ex)
    (if_of p)
unfolding meant
meant_If ns p c a b ls ex = at_level ns (node.If p c a b) ls ex ∙ rw (node.outs-If p c a b) refl

pub meant_Match : (ns : Names) (p : Pos) (e : Node) (arms : List SurfaceArm) (ls : List Local) (ex : Option Ty)
    → meant ns (node.Match p e arms) ls ex ≡ and_then (meant ns e ls None) (match_over (arm_meant ns) ns p arms ls ex)
unfolding meant
meant_Match ns p e arms ls ex = at_level ns (node.Match p e arms) ls ex ∙ rw (node.outs-Match p e arms)
    (match_along beside (arm_meant ns) (arm ns) (arm_is ns) ns p arms ls ex (meant ns e ls None))

pub meant_Each : (ns : Names) (k : Each) (p : Pos) (w : Name) (l e : Node) (ls : List Local) (ex : Option Ty)
    → meant ns (node.Each k p w l e) ls ex ≡ as_expected ex
    (and_then (meant ns l ls None) (over_list ns k p w (meant ns e) ls))
unfolding meant
meant_Each ns k p w l e ls ex = at_level ns (node.Each k p w l e) ls ex ∙ rw (node.outs-Each k p w l e) refl

pub meant_Combine : (ns : Names) (p : Pos) (w : Name) (l : Node) (acc : Name) (s e : Node) (ls : List Local)
    (ex : Option Ty)
    → meant ns (node.Combine (accumulation p w acc) l s e) ls ex ≡ as_expected ex
    (both (meant ns l ls None) (meant ns s ls None) (combine_over p w acc (meant ns e) ls))
unfolding meant
meant_Combine ns p w l acc s e ls ex = at_level ns (node.Combine (accumulation p w acc) l s e) ls ex
    ∙ rw (node.outs-Combine (accumulation p w acc) l s e) refl

-- each form's equation
pub ruleset forms = (
  meant_Literal,
  meant_Name,
  meant_Case,
  meant_Parens,
  meant_Field,
  meant_Prefixed,
  meant_Sum,
  meant_Content,
  meant_Call,
  meant_Binary,
  meant_Test,
  meant_List,
  meant_Structure,
  meant_ScopeCall,
  meant_If,
  meant_Match,
  meant_Each,
  meant_Combine,
)
