-- Where there is no answer, a fault stands: of declarations, definitions and blocks.
use Rattle.std.specs.Prelude.{nat_eq, length, not}
use Rattle.std.specs.Option.{is_some}
use Rattle.std.proofs.Common.{ℕ, List, [], ◌∷◌, Option, Some, None, Ok}
use Rattle.cat_pos.specs.declared.pos.Pos.{Pos}
use Rattle.cat_value.specs.declared.ty.Ty.{Ty}
use Rattle.cat_value.specs.declared.ty.Ty.TheVariants as flat_ty
use Rattle.cat_value.specs.declared.declaration.ItemDecl.{ItemDecl}
use Rattle.cat_value.specs.declared.decls.Decls.{Decls}
use Rattle.cat_value.specs.Inputs.{may_be_given}
use Rattle.cat_tree.specs.declared.name.Name.{Name}
use Rattle.cat_tree.specs.declared.name.Type as written
use Rattle.cat_tree.specs.declared.expression.Node.{Node}
use Rattle.cat_tree.specs.declared.program.FieldItem.{FieldItem}
use Rattle.cat_tree.specs.declared.program.CaseItem.{CaseItem}
use Rattle.cat_tree.specs.declared.program.Variable.{Variable}
use Rattle.cat_tree.specs.declared.program.Variable.TheVariants as variable
use Rattle.cat_tree.specs.declared.program.TargetName.{TargetName}
use Rattle.cat_tree.specs.declared.program.Use.{Use}
use Rattle.cat_tree.specs.declared.program.Use.TheVariants as uses
use Rattle.cat_tree.specs.declared.program.Item.{Item}
use Rattle.cat_tree.specs.declared.program.Item.TheVariants as item
use Rattle.cat_tree.specs.declared.program.Tree.{Tree}
use Rattle.cat_scope.specs.Names.{Names, scope_items}
use Rattle.cat_scope.specs.Naming.{is_defined}
use Rattle.cat_names.specs.declared.fault.Fault.TheVariants.{NameUnknown, TypeMismatch, Misplaced}
use Rattle.cat_names.specs.declared.typed.Local.{Local}
use Rattle.cat_names.specs.Found.{Found, where_true, each_found}
use Rattle.cat_names.specs.Lists.{numbered}
use Rattle.cat_names.specs.Types.{structure_of}
use Rattle.cat_names.specs.Lookup.{TypeNames, item_named, scope_called, type_written, type_found, first_named}
use Rattle.cat_names.specs.Written.{structures_in, enumerations_in, scopes_in, types_in, scope_names_in}
use Rattle.cat_names.specs.Declarations.{field_declared, structure_declared, content_declared, case_declared}
use Rattle.cat_names.specs.Declarations.{enumeration_declared, variable_type, item_declared, scope_declared}
use Rattle.cat_names.specs.Declarations.{types_declared, declared_of}
use Rattle.cat_names.specs.Aims.{own_aim, inner_aim, part_fault, called_aim, aim_at, aim_of}
use Rattle.cat_names.specs.Meaning.{meant}
use Rattle.cat_names.specs.Definitions.{boolean_of, condition_meant, nameless_params, named_params, whole_condition}
use Rattle.cat_names.specs.Definitions.{definition_meant, rule_meant, assertion_meant}
use Rattle.cat_names.specs.Lines.{Line, use_lines, all_lines, items_about, item_lines, lines_found}
use Rattle.cat_names.specs.Bodies.{body_found, bodies_meant}
use Rattle.cat_names.proofs.HonestLaws.{IsHonest, is_ok, is_fault, honest_then, honest_both, honest_where, honest_or}
use Rattle.cat_names.proofs.HonestLaws.{honest_or_then, honest_none, honest_each, honest_expected, each_is_honest}

-- ---- declarations

type_honest : (names : TypeNames) (t : written.Type) → IsHonest (type_found names t)
type_honest names t = honest_or (NameUnknown t.pos) (type_written names t)

field_honest : (names : TypeNames) (f : FieldItem) → IsHonest (field_declared names f)
field_honest names f = honest_then (type_found names f.ty) _ (type_honest names f.ty) (λ t. is_ok _)

structure_honest : (names : TypeNames) (s : Name × List FieldItem) → IsHonest (structure_declared names s)
structure_honest names s = honest_then (each_found (field_declared names) s.1) _
    (honest_each (field_declared names) s.1 (field_honest names)) (λ fields. is_ok _)

content_honest : (names : TypeNames) (c : Option written.Type) → IsHonest (content_declared names c)
content_honest names None = is_ok None
content_honest names (Some t) = honest_then (type_found names t) _ (type_honest names t) (λ u. is_ok _)

case_honest : (names : TypeNames) (c : CaseItem) → IsHonest (case_declared names c)
case_honest names c =
    honest_then (content_declared names c.content) _ (content_honest names c.content) (λ content. is_ok _)

enumeration_honest : (names : TypeNames) (e : Name × List CaseItem) → IsHonest (enumeration_declared names e)
enumeration_honest names e = honest_then (each_found (case_declared names) e.1) _
    (honest_each (case_declared names) e.1 (case_honest names)) (λ cases. is_ok _)

variable_honest : (names : TypeNames) (t : Option written.Type) → IsHonest (variable_type names t)
variable_honest names None = is_ok flat_ty.Boolean
variable_honest names (Some t) = type_honest names t

item_honest : (names : TypeNames) (scopes : List (List ℕ)) (v : Variable) → IsHonest (item_declared names scopes v)
item_honest names scopes (variable.Own k p w t params) =
    honest_both (variable_type names t) (each_found (λ f. type_found names f.ty) params) _ (variable_honest names t)
    (honest_each (λ f. type_found names f.ty) params (λ f. type_honest names f.ty)) (λ u us. is_ok _)
item_honest names scopes (variable.Called w u) =
    honest_or_then (NameUnknown u.pos) (first_named (λ name. name) u.text scopes) _ (λ scope. is_ok _)

scope_honest : (names : TypeNames) (scopes : List (List ℕ)) (s : Name × List Variable)
    → IsHonest (scope_declared names scopes s)
scope_honest names scopes s = honest_then (each_found (item_declared names scopes) s.1) _
    (honest_each (item_declared names scopes) s.1 (item_honest names scopes)) (λ items. is_ok _)

pub declared_honest : (items : List Item) → IsHonest (declared_of items)
declared_honest items =
    let names = types_in items in
    honest_both (types_declared items) (each_found (scope_declared names (scope_names_in items)) (scopes_in items)) _
    (honest_both (each_found (structure_declared names) (structures_in items))
    (each_found (enumeration_declared names) (enumerations_in items)) _
    (honest_each (structure_declared names) (structures_in items) (structure_honest names))
    (honest_each (enumeration_declared names) (enumerations_in items) (enumeration_honest names)) (λ ss es. is_ok _))
    (honest_each (scope_declared names (scope_names_in items)) (scopes_in items)
    (scope_honest names (scope_names_in items))) (λ types scopes. is_ok _)

-- ---- targets

own_honest : (scope : ℕ) (p : Pos) (o : Option (ℕ × ItemDecl)) → IsHonest (own_aim scope p o)
own_honest scope p None = is_fault _ []
own_honest scope p (Some i) = honest_where (is_defined i.1) (Misplaced p) _ (is_ok _)

module _ (ns : Names) (scope : ℕ) where
  part_honest : (p : Pos) (y : Name) (o : Option (ℕ × ItemDecl)) → IsHonest (called_aim ns scope p y o)
  part_honest p y None = is_fault _ []
  part_honest p y (Some i) =
      honest_or_then (part_fault ns.decls p y (structure_of i.1.ty)) (scope_called i.1.kind) _ (λ called.
      honest_or_then (NameUnknown y.pos) (item_named y.text (scope_items ns.decls called)) _ (λ k.
      honest_where (not (is_some (scope_called k.1.kind))) (NameUnknown y.pos) (inner_aim scope p i.0 k)
      (honest_where (may_be_given k.1.kind) (Misplaced p) _ (is_ok _))))

  at_honest : (w : Name) (y : Option Name) → IsHonest (aim_at ns scope w y)
  at_honest w None = own_honest scope w.pos (item_named w.text ns.items)
  at_honest w (Some y) = part_honest w.pos y (item_named w.text ns.items)

  aim_honest : (t : TargetName) → IsHonest (aim_of ns scope t)
  aim_honest t = honest_then (aim_at ns scope t.name t.inner) _ (at_honest t.name t.inner) (λ aim.
      honest_where (nat_eq (length t.params) (length aim.params)) (TypeMismatch t.name.pos) (Ok aim) (is_ok aim))

  -- ---- lines

  boolean_honest : (e : Node) (ls : List Local) → IsHonest (boolean_of ns e ls)
  boolean_honest e ls = honest_expected (Some flat_ty.Boolean) (meant ns e ls None) (each_is_honest ns e ls None)

  condition_honest : (c : Option Node) (ls : List Local) → IsHonest (condition_meant ns c ls)
  condition_honest None ls = is_ok None
  condition_honest (Some e) ls = honest_then (boolean_of ns e ls) _ (boolean_honest e ls) (λ x. is_ok _)

  whole_honest : (block c : Option Node) (params : List Name) (types : List Ty)
      → IsHonest (whole_condition ns block c params types)
  whole_honest block c params types =
      honest_both (condition_meant ns block (nameless_params types))
      (condition_meant ns c (named_params params types)) _
      (condition_honest block (nameless_params types)) (condition_honest c (named_params params types))
      (λ b own. is_ok _)

  use_honest : (block : Option Node) (u : Use) → IsHonest (use_lines ns scope block u)
  use_honest block (uses.Definition l p t c e) =
      honest_then (definition_meant ns scope block l p t c e) _
      (honest_then (aim_of ns scope t) _ (aim_honest t) (λ aim.
      honest_both (whole_condition ns block c t.params aim.params)
      (meant ns e (named_params t.params aim.params) (Some aim.ty)) _ (whole_honest block c t.params aim.params)
      (each_is_honest ns e (named_params t.params aim.params) (Some aim.ty)) (λ k x. is_ok _))) (λ d. is_ok _)
  use_honest block (uses.Rule l p t c f) =
      honest_then (rule_meant ns scope block l p t c f) _
      (honest_then (aim_of ns scope t) _ (aim_honest t) (λ aim.
      honest_both (where_true aim.condition (Misplaced p) (Ok aim)) (whole_condition ns block c t.params aim.params) _
      (honest_where aim.condition (Misplaced p) (Ok aim) (is_ok aim)) (whole_honest block c t.params aim.params)
      (λ own k. is_ok _))) (λ d. is_ok _)
  use_honest block (uses.Assertion p e) =
      honest_then (assertion_meant ns p e) _ (honest_then (boolean_of ns e []) _ (boolean_honest e []) (λ x. is_ok _))
      (λ a. is_ok _)
  use_honest block (uses.DateRound p up) = is_ok []

  lines_honest : {A : Type 0} (f : A → Found (List Line)) (xs : List A) → ((x : A) → IsHonest (f x))
      → IsHonest (all_lines f xs)
  lines_honest f [] each = is_ok []
  lines_honest f (x ∷ xs) each =
      honest_both (f x) (all_lines f xs) _ (each x) (lines_honest f xs each) (λ lines more. is_ok _)

  item_lines_honest : (i : Item) → IsHonest (item_lines ns scope i)
  item_lines_honest (item.Structure p u fields) = is_ok []
  item_lines_honest (item.Enumeration p u cases) = is_ok []
  item_lines_honest (item.Scope p u variables) = is_ok _
  item_lines_honest (item.Block b) =
      honest_both (condition_meant ns b.condition []) (all_lines (use_lines ns scope b.condition) b.uses) _
      (condition_honest b.condition [])
      (lines_honest (use_lines ns scope b.condition) b.uses (use_honest b.condition)) (λ x lines. is_ok _)

pub bodies_honest : (ds : Decls) (tree : Tree) → IsHonest (bodies_meant ds tree)
bodies_honest ds tree = honest_each (body_found ds tree.items) (numbered ds.scopes) (λ s.
    let ns : Names = record { decls = ds; items = s.1.items } in
    honest_none _ _ (honest_then (lines_found ns s.0 tree.items) _
    (lines_honest ns s.0 (item_lines ns s.0) (items_about ds s.0 tree.items) (item_lines_honest ns s.0))
    (λ lines. is_ok _)))
