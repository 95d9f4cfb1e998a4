-- Where no name of an expression is unknown, one that stands in its meaning as unknown needs a type.
use Rattle.std.specs.Prelude.{flat_map, nat_eq, nat_le, option_map, length}
use Rattle.std.specs.Option.{is_some}
use Rattle.std.proofs.Common.{◌≡◌, ◌||◌, not, ℕ, Bool, true, false, List, [], ◌∷◌, ◌++◌, map, Option, Some, None, Ok}
use Rattle.std.proofs.Common.{refl, sym, ap, ◌∙◌, inl, inr}
use Rattle.cat_pos.specs.declared.pos.Pos.{Pos}
use Rattle.cat_value.specs.declared.ty.Ty.{Ty}
use Rattle.cat_value.specs.declared.ty.Ty.TheViews as ty
use Rattle.cat_value.specs.declared.declaration.ItemDecl.{ItemDecl}
use Rattle.cat_value.specs.declared.declaration.Scope.{Scope}
use Rattle.cat_value.specs.Entries.{content_of}
use Rattle.cat_value.specs.Typing.{most_elements}
use Rattle.cat_tree.specs.Accumulation.{accumulation}
use Rattle.cat_tree.specs.declared.name.Name.{Name}
use Rattle.cat_tree.specs.declared.name.CaseName.{CaseName}
use Rattle.cat_tree.specs.declared.name.CaseName.TheVariants as case
use Rattle.cat_tree.specs.declared.name.Type as written
use Rattle.cat_tree.specs.declared.expression.Prefix.{Prefix}
use Rattle.cat_tree.specs.declared.expression.Prefix.TheVariants as prefix
use Rattle.cat_tree.specs.declared.expression.Operator.{Operator}
use Rattle.cat_tree.specs.declared.expression.Operator.TheVariants as operator
use Rattle.cat_tree.specs.declared.expression.Each as eaches
use Rattle.cat_tree.specs.declared.expression.Each.TheVariants as each
use Rattle.cat_tree.specs.declared.expression.Pattern.{Pattern}
use Rattle.cat_tree.specs.declared.expression.Pattern.TheVariants as pattern
use Rattle.cat_tree.specs.declared.expression.Node.{Node}
use Rattle.cat_tree.specs.declared.expression.Node.TheVariants as leaf
use Rattle.cat_tree.specs.declared.expression.Node.TheViews as node
use Rattle.cat_tree.specs.declared.expression.Node.TheViews.{out-Node}
use Rattle.cat_tree.specs.declared.expression.SurfaceField.{SurfaceField}
use Rattle.cat_tree.specs.declared.expression.SurfaceArm.{SurfaceArm}
use Rattle.cat_scope.specs.declared.expr.Expr.TheViews as expr
use Rattle.cat_scope.specs.declared.expr.ArmPattern.{ArmPattern}
use Rattle.cat_scope.specs.declared.expr.ArmPattern.TheVariants as resolved
use Rattle.cat_scope.specs.Names.{Names, IsOneOf}
use Rattle.cat_scope.specs.Fitting.{is_low_type}
use Rattle.cat_scope.proofs.Exported.{Each}
use Rattle.cat_names.proofs.ListLaws.{behind, in_front}
use Rattle.cat_names.specs.declared.fault.Fault.TheVariants.{NameUnknown, TypeMismatch, MatchCases, TooMany}
use Rattle.cat_names.specs.declared.typed.Typed.{Typed}
use Rattle.cat_names.specs.declared.typed.Local.{Local}
use Rattle.cat_names.specs.Found.{Found, and_then, or_fault}
use Rattle.cat_names.specs.Types.{element_of, expected_element, structure_of, enumeration_of, flat_of}
use Rattle.cat_names.specs.Rows.{operator_for, prefix_for, sum_for}
use Rattle.cat_names.specs.Lookup.{cases_named, innermost, item_named, scope_named, type_named, type_names}
use Rattle.cat_names.specs.Lookup.{type_written, type_found}
use Rattle.cat_names.specs.Naming.{item_found, bound_or_item, called_item, unbound_function, function_found, Called}
use Rattle.cat_names.specs.Naming.{called_scope, only_case, case_of_type, case_found, case_first, structure_found}
use Rattle.cat_names.specs.Naming.{scope_found}
use Rattle.cat_names.specs.Operations.{binary_of, prefixed_of}
use Rattle.cat_names.specs.Forms.{field_named, input_named, output_named, low_list, each_of, bound}
use Rattle.cat_names.specs.Parts.{Meaning, all_of_type, elements_of, arguments_of, value_of, values_of, with_content}
use Rattle.cat_names.specs.Parts.{pattern_of, arm_of, all_arms, arms_of}
use Rattle.cat_names.specs.Compound.{dotted, content_of_type, case_alone, branches_of}
use Rattle.cat_names.specs.Meaning.{meant, name_alone, field_meant, arm_meant}
use Rattle.cat_names.specs.Unknown.{Known, is_name, unless, in_reach, of_type, in_type, in_case, in_pattern}
use Rattle.cat_names.specs.Unknown.{content_name, bound_by, in_arms, twice, unknown_in}
use Rattle.cat_names.specs.TypedNames.{case_position, pattern_positions, all_positions, typed_names}
use Rattle.cat_names.proofs.Equations as equation
use Rattle.cat_names.proofs.UnknownEquations as unknown
use Rattle.cat_names.proofs.UnknownEquations.{field_row, arm_row}
use Rattle.cat_names.proofs.TypedNameEquations as position
use Rattle.cat_names.proofs.TypedNameEquations.{value_positions, body_positions}
use Rattle.cat_names.proofs.Induction.{induction}
use Rattle.cat_names.proofs.OkParts.{nothing_in, nothing_behind}
use Rattle.cat_names.proofs.LowDeclared.{no_test}
use Rattle.cat_names.proofs.ReachLaws.{named_there, innermost_there, is_name_join}
use Rattle.cat_names.proofs.OnlyLaws.{Only, only_ok, only_other, only_at, only_then, only_both, only_where, only_or}
use Rattle.cat_names.proofs.OnlyLaws.{only_or_at, only_there, only_known, only_maybe, only_option, only_expected}
use Rattle.cat_names.proofs.OnlyLaws.{only_more, only_nested, only_nested_where}

-- the names of bound names
abbrev pub names_of_locals : List Local → List (List ℕ)
names_of_locals ls = map (λ (l : Local). l.name) ls

-- each of these texts is the name of a bound one
abbrev pub Covers : List (List ℕ) → List Local → Type 0
Covers texts ls = (t : List ℕ) → is_name t texts ≡ true → is_name t (names_of_locals ls) ≡ true

-- what may be named is what names stand for
pub record Agrees (ns : Names) (known : Known) : Type 0 where
  pub types : known.types ≡ type_names ns.decls
  pub scopes : known.scopes ≡ map (λ (s : Scope). s.name) ns.decls.scopes
  pub items : known.items ≡ map (λ (i : ItemDecl). i.name) ns.items

pub known_name : (b : Bool) (w : Name) → unless b w ≡ [] → b ≡ true
known_name b w h = by b (no_test (not b) (NameUnknown w.pos) h)
  where
    by : (c : Bool) → not c ≡ false → c ≡ true
    by true e = refl
    by false e = cc e

or_true : (a b c d : Bool) → (a || b) ≡ true → (a ≡ true → c ≡ true) → b ≡ d → (c || d) ≡ true
or_true true b true d h more is = refl
or_true true b false d h more is = cc (more refl)
or_true false true true d h more is = refl
or_true false true false d h more is = sym is
or_true false false c d h more is = cc h

pub names_join : (xs ys : List Local) → names_of_locals (xs ++ ys) ≡ names_of_locals xs ++ names_of_locals ys
names_join [] ys = refl
names_join (x ∷ xs) ys = ap (λ ts. x.name ∷ ts) (names_join xs ys)

-- more bound names cover more texts
covers_more : (texts : List (List ℕ)) (ls : List Local) (more : List Local) → Covers texts ls
    → Covers (texts ++ names_of_locals more) (ls ++ more)
covers_more texts ls more covers t h =
    ap (is_name t) (names_join ls more) ∙ is_name_join t (names_of_locals ls) (names_of_locals more)
    ∙ or_true (is_name t texts) (is_name t (names_of_locals more)) (is_name t (names_of_locals ls))
    (is_name t (names_of_locals more)) (sym (is_name_join t texts (names_of_locals more)) ∙ h) (covers t) refl

covers_same : (texts : List (List ℕ)) (ls : List Local) → Covers texts ls → Covers (texts ++ []) ls
covers_same texts ls covers t h = covers t (by (is_name t texts) (sym (is_name_join t texts []) ∙ h))
  where
    by : (a : Bool) → (a || false) ≡ true → a ≡ true
    by true e = refl
    by false e = cc e

mapped : {A B : Type 0} (f : A → B) (o : Option A) → is_some o ≡ true → is_some (option_map f o) ≡ true
mapped f None h = h
mapped f (Some x) h = refl

-- ---- names

module _ (ns : Names) (known : Known) (agree : Agrees ns known) where
  type_known : (u : Name) → of_type known u ≡ [] → is_some (type_named (type_names ns.decls) u.text) ≡ true
  type_known u h = ap (λ names. is_some (type_named names u.text)) (sym agree.types)
      ∙ known_name (is_some (type_named known.types u.text)) u h

  written_known : (t : written.Type) → in_type known t ≡ [] → is_some (type_written (type_names ns.decls) t) ≡ true
  written_known t h = ap (λ names. is_some (type_written names t)) (sym agree.types)
      ∙ by (is_some (type_written known.types t)) (no_test _ (NameUnknown t.pos) h)
    where
      by : (c : Bool) → not c ≡ false → c ≡ true
      by true e = refl
      by false e = cc e

  scope_known : (u : Name) → unless (is_name u.text known.scopes) u ≡ []
      → is_some (scope_named u.text ns.decls.scopes) ≡ true
  scope_known u h = named_there (λ (s : Scope). s.name) u.text ns.decls.scopes
      ∙ ap (is_name u.text) (sym agree.scopes) ∙ known_name (is_name u.text known.scopes) u h

  reached : (w : Name) (texts : List (List ℕ)) (ls : List Local) → Covers texts ls → in_reach known w texts ≡ []
      → (is_some (innermost w.text ls) || is_some (item_named w.text ns.items)) ≡ true
  reached w texts ls covers h = or_true (is_name w.text texts) (is_name w.text known.items)
      (is_some (innermost w.text ls)) (is_some (item_named w.text ns.items))
      (known_name (is_name w.text texts || is_name w.text known.items) w h)
      (λ e. innermost_there w.text ls ∙ covers w.text e)
      (ap (is_name w.text) agree.items ∙ sym (named_there (λ (i : ItemDecl). i.name) w.text ns.items))

  item_only : (ps : List Pos) (p : Pos) (o : Option (ℕ × ItemDecl)) → is_some o ≡ true → Only ps (item_found p o)
  item_only ps p None h = cc h
  item_only ps p (Some i) h = only_where ps _ (TypeMismatch p) _ (λ q e. cc e) (only_ok ps _)

  name_only : (ps : List Pos) (w : Name) (o : Option (ℕ × Ty))
      → (is_some o || is_some (item_named w.text ns.items)) ≡ true → Only ps (bound_or_item ns w o)
  name_only ps w (Some l) h = only_ok ps _
  name_only ps w None h = item_only ps w.pos (item_named w.text ns.items) h

  called_only : (ps : List Pos) (p : Pos) (o : Option (ℕ × ItemDecl)) → is_some o ≡ true → Only ps (called_item p o)
  called_only ps p None h = cc h
  called_only ps p (Some i) h = only_where ps _ (TypeMismatch p) (Ok i) (λ q e. cc e) (only_ok ps i)

  function_only : (ps : List Pos) (w : Name) (o : Option (ℕ × Ty))
      → (is_some o || is_some (item_named w.text ns.items)) ≡ true → Only ps (unbound_function ns w o)
  function_only ps w (Some l) h = only_other ps (TypeMismatch w.pos) (λ q e. cc e)
  function_only ps w None h = called_only ps w.pos (item_named w.text ns.items) h

  sole_only : (ps : List Pos) (p : Pos) (ks : List (ℕ × ℕ)) → IsOneOf p ps → Only ps (only_case p ks)
  sole_only ps p [] there = only_at ps p there
  sole_only ps p (k ∷ []) there = only_ok ps k
  sole_only ps p (k ∷ m ∷ ks) there = only_at ps p there

  case_only : (ps : List Pos) (c : CaseName) → in_case known c ≡ [] → IsOneOf (case_position c) ps
      → Only ps (case_found ns c)
  case_only ps (case.Bare c) h there = sole_only ps c.pos (cases_named c.text ns.decls.enumerations) there
  case_only ps (case.Qualified u c) h there =
      only_there ps (NameUnknown u.pos) (type_named (type_names ns.decls) u.text) (case_of_type ns c) (type_known u h)
      (λ t. only_or_at ps c.pos (enumeration_of t) _ there (λ n. only_maybe ps c.pos _ there))

  -- ---- forms of known parts

  prefixed_only : (ps : List Pos) (o : Prefix) (p : Pos) (x : Typed) → Only ps (prefixed_of o p x)
  prefixed_only ps prefix.NumberOf p x =
      only_or ps (TypeMismatch p) (element_of x.ty) _ (λ q e. cc e) (λ t. only_ok ps _)
  prefixed_only ps o p x = only_or ps (TypeMismatch p) (prefix_for o x.ty) _ (λ q e. cc e) (λ row. only_ok ps _)

  binary_only : (ps : List Pos) (o : Operator) (p : Pos) (a b : Typed) → Only ps (binary_of o p a b)
  binary_only ps operator.And p a b = only_where ps _ (TypeMismatch p) _ (λ q e. cc e) (only_ok ps _)
  binary_only ps operator.Or p a b = only_where ps _ (TypeMismatch p) _ (λ q e. cc e) (only_ok ps _)
  binary_only ps operator.Contains p a b = only_or ps (TypeMismatch p) (flat_of b.ty) _ (λ q e. cc e)
      (λ t. only_where ps _ (TypeMismatch p) _ (λ q e. cc e) (only_ok ps _))
  binary_only ps o p a b =
      only_or ps (TypeMismatch p) (operator_for o a.ty b.ty) _ (λ q e. cc e) (λ row. only_ok ps _)

  over_only : (ps : List Pos) (k : eaches.Each) (p : Pos) (l body : Typed) → Only ps (each_of ns k p l body)
  over_only ps each.ForAll p l body = only_where ps _ (TypeMismatch p) _ (λ q e. cc e) (only_ok ps _)
  over_only ps each.Exists p l body = only_where ps _ (TypeMismatch p) _ (λ q e. cc e) (only_ok ps _)
  over_only ps each.MapEach p l body = only_where ps _ (TooMany p) _ (λ q e. cc e) (only_ok ps _)
  over_only ps each.ListOf p l body = only_where ps _ (TypeMismatch p) _ (λ q e. cc e) (only_ok ps _)

  alone_only : (ps : List Pos) (p : Pos) (k : ℕ × ℕ) (content : Option (Option Ty)) → Only ps (case_alone p k content)
  alone_only ps p k None = only_other ps (TypeMismatch p) (λ q e. cc e)
  alone_only ps p k (Some None) = only_ok ps _
  alone_only ps p k (Some (Some t)) = only_other ps (TypeMismatch p) (λ q e. cc e)

  -- a meaning under these bound names
  abbrev MeansOnly : List Pos → Meaning → List Local → Type 0
  MeansOnly ps e ls = (ex : Option Ty) → Only ps (e ls ex)

  content_only : (ps : List Pos) (p : Pos) (k : ℕ × ℕ) (e : Meaning) (ls : List Local) → MeansOnly ps e ls
      → (content : Option (Option Ty)) → Only ps (content_of_type p k e ls content)
  content_only ps p k e ls h None = only_then ps (e ls None) _ (h None) (λ x. only_other ps _ (λ q e. cc e))
  content_only ps p k e ls h (Some None) = only_then ps (e ls None) _ (h None) (λ x. only_other ps _ (λ q e. cc e))
  content_only ps p k e ls h (Some (Some t)) = only_then ps (e ls (Some t)) _ (h (Some t)) (λ x. only_ok ps _)

  dotted_only : (ps : List Pos) (w : Name) (e : Meaning) (ls : List Local) → MeansOnly ps e ls → IsOneOf w.pos ps
      → (called : Option Called) → Only ps (dotted ns w e ls called)
  dotted_only ps w e ls h there (Some called) =
      only_or_at ps w.pos (output_named ns.decls called.scope w.text) _ there (λ o. only_ok ps _)
  dotted_only ps w e ls h there None = only_then ps (e ls None) _ (h None) (λ x.
      only_or ps (TypeMismatch x.first) (structure_of x.ty) _ (λ q e. cc e) (λ n.
      only_or_at ps w.pos (field_named ns.decls n w.text) _ there (λ f. only_ok ps _)))

  -- ---- lists of parts, under the same bound names

  all_only : (ps : List Pos) (es : List Node) (ls : List Local) → Each (λ e. MeansOnly ps (meant ns e) ls) es → (t : Ty)
      → Only ps (all_of_type (meant ns) es ls t)
  all_only ps [] ls each t = only_ok ps []
  all_only ps (e ∷ es) ls each t = only_both ps (meant ns e ls (Some t)) (all_of_type (meant ns) es ls t) _
      (each.0 (Some t)) (all_only ps es ls each.1 t) (λ x xs. only_ok ps _)

  elements_only : (ps : List Pos) (p : Pos) (es : List Node) (ls : List Local)
      → Each (λ e. MeansOnly ps (meant ns e) ls) es → (ex : Option Ty) → Only ps (elements_of (meant ns) p es ls ex)
  elements_only ps p [] ls each None = only_other ps (TypeMismatch p) (λ q e. cc e)
  elements_only ps p [] ls each (Some t) = only_ok ps _
  elements_only ps p (e ∷ es) ls each ex = only_then ps (meant ns e ls ex) _ (each.0 ex) (λ x.
      only_then ps (all_of_type (meant ns) es ls x.ty) _ (all_only ps es ls each.1 x.ty) (λ xs. only_ok ps _))

  arguments_only : (ps : List Pos) (es : List Node) (ls : List Local) → Each (λ e. MeansOnly ps (meant ns e) ls) es
      → (ts : List Ty) → Only ps (arguments_of (meant ns) es ls ts)
  arguments_only ps [] ls each ts = only_ok ps []
  arguments_only ps (e ∷ es) ls each [] = only_ok ps []
  arguments_only ps (e ∷ es) ls each (t ∷ ts) =
      only_both ps (meant ns e ls (Some t)) (arguments_of (meant ns) es ls ts) _ (each.0 (Some t))
      (arguments_only ps es ls each.1 ts) (λ x xs. only_ok ps _)

  -- a field whose name and value may be at fault at these positions
  abbrev FieldOnly : List Pos → List Local → SurfaceField → Type 0
  FieldOnly ps ls f = IsOneOf f.name.pos ps × MeansOnly ps (meant ns f.value) ls

  values_only : (ps : List Pos) (field : List ℕ → Option (ℕ × Ty)) (fs : List SurfaceField) (ls : List Local)
      → Each (FieldOnly ps ls) fs → Only ps (values_of (field_meant ns) field fs ls)
  values_only ps field [] ls each = only_ok ps []
  values_only ps field (f ∷ fs) ls each =
      only_both ps (value_of field (field_meant ns f) ls) (values_of (field_meant ns) field fs ls) _
      (only_or_at ps f.name.pos (field f.name.text) _ each.0.0 (λ k.
      only_then ps (meant ns f.value ls (Some k.1)) _ (each.0.1 (Some k.1)) (λ x. only_ok ps _)))
      (values_only ps field fs ls each.1) (λ x xs. only_ok ps _)

  -- an arm whose case and body may be at fault there, under bound names that cover these texts
  record ArmOnly (ps : List Pos) (texts : List (List ℕ)) (a : SurfaceArm) : Type 0 where
    case_is : in_pattern known a.pattern ≡ []
    there : (p : Pos) → IsOneOf p (pattern_positions a.pattern) → IsOneOf p ps
    body : (inside : List Local) → Covers (texts ++ bound_by a.pattern) inside → MeansOnly ps (meant ns a.body) inside

  bound_only : (ps : List Pos) {B C : Type 0} (p : Pos) (w : Option Name) (content : Option (Option Ty))
      (texts : List (List ℕ)) (ls : List Local) → Covers texts ls → (f : List Local → B) (go : B → Found C)
      → ((inside : List Local) → Covers (texts ++ content_name w) inside → Only ps (go (f inside)))
      → Only ps (and_then (and_then (with_content p w content ls) (λ inside. Ok (f inside))) go)
  bound_only ps p None content texts ls covers f go next = next ls (covers_same texts ls covers)
  bound_only ps p (Some w) None texts ls covers f go next = only_other ps (TypeMismatch p) (λ q e. cc e)
  bound_only ps p (Some w) (Some None) texts ls covers f go next = only_other ps (TypeMismatch p) (λ q e. cc e)
  bound_only ps p (Some w) (Some (Some t)) texts ls covers f go next =
      next (ls ++ bound w t ∷ []) (covers_more texts ls (bound w t ∷ []) covers)

  pattern_only : (ps : List Pos) {C : Type 0} (p : Pos) (n : ℕ) (q : Pattern) (texts : List (List ℕ)) (ls : List Local)
      → Covers texts ls → in_pattern known q ≡ [] → ((r : Pos) → IsOneOf r (pattern_positions q) → IsOneOf r ps)
      → (go : ArmPattern × List Local → Found C)
      → ((arm : ArmPattern) (inside : List Local) → Covers (texts ++ bound_by q) inside → Only ps (go (arm, inside)))
      → Only ps (and_then (pattern_of ns p n q ls) go)
  pattern_only ps p n pattern.Anything texts ls covers is there go next =
      next resolved.Anything ls (covers_same texts ls covers)
  pattern_only ps p n (pattern.Case c w) texts ls covers is there go next =
      only_nested ps (case_found ns c) _ go (case_only ps c is (there (case_position c) (inl refl))) (λ k.
      only_nested_where ps (nat_eq k.0 n) (TypeMismatch p) _ go (λ q e. cc e)
      (bound_only ps p w (content_of ns.decls n k.1) texts ls covers
      (λ inside. (resolved.Case k.1 (is_some w), inside)) go
      (λ inside c_. next (resolved.Case k.1 (is_some w)) inside c_)))

  arm_only : (ps : List Pos) (p : Pos) (n : ℕ) (a : SurfaceArm) (texts : List (List ℕ)) (ls : List Local)
      → Covers texts ls
      → ArmOnly ps texts a → (ex : Option Ty) → Only ps (arm_of ns p n (arm_meant ns a) ls ex)
  arm_only ps p n a texts ls covers h ex = pattern_only ps p n a.pattern texts ls covers h.case_is h.there _
      (λ arm inside c. only_then ps (meant ns a.body inside ex) _ (h.body inside c ex) (λ x. only_ok ps _))

  later_only : (ps : List Pos) (p : Pos) (n : ℕ) (arms : List SurfaceArm) (texts : List (List ℕ)) (ls : List Local)
      → Covers texts ls → Each (ArmOnly ps texts) arms → (t : Ty) → Only ps (all_arms (arm_meant ns) ns p n arms ls t)
  later_only ps p n [] texts ls covers each t = only_ok ps []
  later_only ps p n (a ∷ arms) texts ls covers each t =
      only_both ps (arm_of ns p n (arm_meant ns a) ls (Some t)) (all_arms (arm_meant ns) ns p n arms ls t) _
      (arm_only ps p n a texts ls covers each.0 (Some t)) (later_only ps p n arms texts ls covers each.1 t)
      (λ x xs. only_ok ps _)

  arms_only : (ps : List Pos) (p : Pos) (n : ℕ) (arms : List SurfaceArm) (texts : List (List ℕ)) (ls : List Local)
      → Covers texts ls → Each (ArmOnly ps texts) arms → (ex : Option Ty)
      → Only ps (arms_of (arm_meant ns) ns p n arms ls ex)
  arms_only ps p n [] texts ls covers each ex = only_other ps (MatchCases p) (λ q e. cc e)
  arms_only ps p n (a ∷ arms) texts ls covers each ex =
      only_then ps (arm_of ns p n (arm_meant ns a) ls ex) _ (arm_only ps p n a texts ls covers each.0 ex) (λ x.
      only_then ps (all_arms (arm_meant ns) ns p n arms ls x.1) _ (later_only ps p n arms texts ls covers each.1 x.1)
      (λ xs. only_ok ps _))

  -- ---- each form

  -- an expression without an unknown name is at fault for one that needs a type alone
  abbrev pub Fine : Node → Type 0
  Fine e = (texts : List (List ℕ)) (ls : List Local) → Covers texts ls → unknown_in known e texts ≡ []
      → MeansOnly (typed_names e) (meant ns e) ls

  part : (e : Node) → Fine e → (texts : List (List ℕ)) (ls : List Local) → Covers texts ls
      → unknown_in known e texts ≡ [] → (ps : List Pos) → ((p : Pos) → IsOneOf p (typed_names e) → IsOneOf p ps)
      → MeansOnly ps (meant ns e) ls
  part e he texts ls covers h ps more ex =
      only_more (typed_names e) ps (meant ns e ls ex) more (he texts ls covers h ex)

  listed : (es : List Node) → Each Fine es → (texts : List (List ℕ)) (ls : List Local) → Covers texts ls
      → flat_map (λ u. u texts) (map (unknown_in known) es) ≡ [] → (ps : List Pos)
      → ((p : Pos) → IsOneOf p (all_positions (map typed_names es)) → IsOneOf p ps)
      → Each (λ e. MeansOnly ps (meant ns e) ls) es
  listed [] each texts ls covers h ps more = tt
  listed (e ∷ es) each texts ls covers h ps more =
      let here = unknown_in known e texts in let rest = all_positions (map typed_names es) in (
        part e each.0 texts ls covers (nothing_in here _ h) ps (λ p i. more p (in_front p (typed_names e) rest i)),
        listed es each.1 texts ls covers (nothing_behind here _ h) ps (λ p i. more p (behind p (typed_names e) rest i)),
      )

  fielded : (fs : List SurfaceField) → Each (λ f. Fine f.value) fs → (texts : List (List ℕ)) (ls : List Local)
      → Covers texts ls → flat_map (λ f. f.1 texts) (map (field_row known) fs) ≡ [] → (ps : List Pos)
      → ((p : Pos) → IsOneOf p (all_positions (map value_positions fs)) → IsOneOf p ps) → Each (FieldOnly ps ls) fs
  fielded [] each texts ls covers h ps more = tt
  fielded (f ∷ fs) each texts ls covers h ps more =
      let here = unknown_in known f.value texts in let rest = all_positions (map value_positions fs) in (
        (
          more f.name.pos (inl refl),
          part f.value each.0 texts ls covers (nothing_in here _ h) ps
              (λ p i. more p (inr (in_front p (typed_names f.value) rest i))),
        ),
        fielded fs each.1 texts ls covers (nothing_behind here _ h) ps
            (λ p i. more p (behind p (value_positions f) rest i)),
      )

  armed : (arms : List SurfaceArm) → Each (λ a. Fine a.body) arms → (texts : List (List ℕ))
      → in_arms known (map (arm_row known) arms) texts ≡ [] → (ps : List Pos)
      → ((p : Pos) → IsOneOf p (all_positions (map body_positions arms)) → IsOneOf p ps)
      → Each (ArmOnly ps texts) arms
  armed [] each texts h ps more = tt
  armed (a ∷ arms) each texts h ps more =
      let named = in_pattern known a.pattern in
      let here = named ++ unknown_in known a.body (texts ++ bound_by a.pattern) in
      let rest = all_positions (map body_positions arms) in
      let case_at = pattern_positions a.pattern in (
        record {
          case_is = nothing_in named _ (nothing_in here _ h);
          there = λ p i. more p (in_front p (body_positions a) rest (in_front p case_at (typed_names a.body) i));
          body = λ inside covers. part a.body each.0 (texts ++ bound_by a.pattern) inside covers
              (nothing_behind named _ (nothing_in here _ h)) ps
              (λ p i. more p (in_front p (body_positions a) rest (behind p case_at (typed_names a.body) i)));
        },
        armed arms each.1 texts (nothing_behind here _ h) ps (λ p i. more p (behind p (body_positions a) rest i)),
      )

  on_name : (w : Name) → Fine (leaf.Name w)
  on_name w texts ls covers h ex =
      rw (position.positions_Name w, equation.meant_Name ns w ls ex) (only_expected [] ex _ (name_only [] w
      (innermost w.text ls) (reached w texts ls covers (sym (unknown.unknown_Name known w texts) ∙ h))))

  on_case : (c : CaseName) → Fine (leaf.Case c)
  on_case c texts ls covers h ex =
      let ps = case_position c ∷ [] in
      rw (position.positions_Case c, equation.meant_Case ns c ls ex) (only_expected ps ex _
      (only_then ps (case_found ns c) _
      (case_only ps c (sym (unknown.unknown_Case known c texts) ∙ h) (inl refl)) (λ k. alone_only ps (case_first c) k
      (content_of ns.decls k.0 k.1))))

  on_field : (e : Node) (w : Name) → Fine e → Fine (node.Field e w)
  on_field e w he texts ls covers h ex =
      let ps = w.pos ∷ typed_names e in
      rw (position.positions_Field e w, equation.meant_Field ns e w ls ex) (only_expected ps ex _
      (dotted_only ps w (meant ns e) ls
      (part e he texts ls covers (sym (unknown.unknown_Field known e w texts) ∙ h) ps (λ p i. inr i)) (inl refl)
      (called_scope ns (name_alone (out-Node e)) ls)))

  on_sum : (p : Pos) (t : written.Type) (e : Node) → Fine e → Fine (node.Sum p t e)
  on_sum p t e he texts ls covers h ex =
      let ps = typed_names e in let none = sym (unknown.unknown_Sum known p t e texts) ∙ h in
      rw (position.positions_Sum p t e, equation.meant_Sum ns p t e ls ex) (only_expected ps ex _
      (only_both ps (type_found (type_names ns.decls) t) (meant ns e ls None) _
      (only_known ps (NameUnknown t.pos) (type_written (type_names ns.decls) t)
      (written_known t (nothing_in (in_type known t) _ none)))
      (he texts ls covers (nothing_behind (in_type known t) _ none) None) (λ u x.
      only_or ps (TypeMismatch p) (sum_for u) _ (λ q e_. cc e_)
      (λ k. only_where ps _ (TypeMismatch p) _ (λ q e_. cc e_) (only_ok ps _)))))

  on_content : (c : CaseName) (e : Node) → Fine e → Fine (node.Content c e)
  on_content c e he texts ls covers h ex =
      let ps = case_position c ∷ typed_names e in let none = sym (unknown.unknown_Content known c e texts) ∙ h in
      rw (position.positions_Content c e, equation.meant_Content ns c e ls ex) (only_expected ps ex _
      (only_then ps (case_found ns c) _ (case_only ps c (nothing_in (in_case known c) _ none) (inl refl)) (λ k.
      content_only ps (case_first c) k (meant ns e) ls
      (part e he texts ls covers (nothing_behind (in_case known c) _ none) ps (λ p i. inr i))
      (content_of ns.decls k.0 k.1))))

  on_call : (w : Name) (args : List Node) → Each Fine args → Fine (node.Call w args)
  on_call w args each texts ls covers h ex =
      let ps = all_positions (map typed_names args) in
      let none = sym (unknown.unknown_Call known w args texts) ∙ h in
      rw (position.positions_Call w args, equation.meant_Call ns w args ls ex) (only_expected ps ex _
      (only_then ps (function_found ns w ls) _
      (function_only ps w (innermost w.text ls) (reached w texts ls covers
      (nothing_in (in_reach known w texts) _ none)))
      (λ f. only_both ps _ (arguments_of (meant ns) args ls f.1.params) _
      (only_where ps (nat_eq (length args) (length f.1.params)) (TypeMismatch w.pos) (Ok f) (λ q e_. cc e_)
      (only_ok ps f))
      (arguments_only ps args ls (listed args each texts ls covers (nothing_behind (in_reach known w texts) _ none) ps
      (λ p i. i)) f.1.params) (λ g es. only_ok ps _))))

  on_binary : (o : Operator) (p : Pos) (a b : Node) → Fine a → Fine b → Fine (node.Binary o p a b)
  on_binary o p a b ha hb texts ls covers h ex =
      let ps = typed_names a ++ typed_names b in let left = unknown_in known a texts in
      let none = sym (unknown.unknown_Binary known o p a b texts) ∙ h in
      rw (position.positions_Binary o p a b, equation.meant_Binary ns o p a b ls ex) (only_expected ps ex _
      (only_both ps (meant ns a ls None) (meant ns b ls None) _
      (part a ha texts ls covers (nothing_in left _ none) ps (λ q i. in_front q (typed_names a) (typed_names b) i) None)
      (part b hb texts ls covers (nothing_behind left _ none) ps (λ q i. behind q (typed_names a) (typed_names b) i)
      None) (binary_only ps o p)))

  on_test : (e : Node) (p : Pos) (c : CaseName) → Fine e → Fine (node.Test e p c)
  on_test e p c he texts ls covers h ex =
      let ps = case_position c ∷ typed_names e in let front = unknown_in known e texts in
      let none = sym (unknown.unknown_Test known e p c texts) ∙ h in
      rw (position.positions_Test e p c, equation.meant_Test ns e p c ls ex) (only_expected ps ex _
      (only_both ps (meant ns e ls None) (case_found ns c) _
      (part e he texts ls covers (nothing_in front _ none) ps (λ q i. inr i) None)
      (case_only ps c (nothing_behind front _ none) (inl refl)) (λ x k.
      only_or ps (TypeMismatch p) (enumeration_of x.ty) _ (λ q e_. cc e_)
      (λ n. only_where ps (nat_eq k.0 n) (TypeMismatch p) _ (λ q e_. cc e_) (only_ok ps _)))))

  on_list : (p : Pos) (es : List Node) → Each Fine es → Fine (node.List p es)
  on_list p es each texts ls covers h ex =
      let ps = all_positions (map typed_names es) in
      rw (position.positions_List p es, equation.meant_List ns p es ls ex) (only_expected ps ex _
      (only_then ps (elements_of (meant ns) p es ls (expected_element ex)) _
      (elements_only ps p es ls (listed es each texts ls covers (sym (unknown.unknown_List known p es texts) ∙ h) ps
      (λ q i. i)) (expected_element ex)) (λ row.
      only_where ps (nat_le (length row.0) most_elements) (TypeMismatch p) (low_list ns p (expr.List p row.0) row.1)
      (λ q e_. cc e_)
      (only_where ps (is_low_type ns.decls (ty.List row.1)) (TooMany p) _ (λ q e_. cc e_) (only_ok ps _)))))

  on_structure : (u : Name) (fs : List SurfaceField) → Each (λ f. Fine f.value) fs → Fine (node.Structure u fs)
  on_structure u fs each texts ls covers h ex =
      let ps = all_positions (map value_positions fs) in
      let none = sym (unknown.unknown_Structure known u fs texts) ∙ h in
      let later = twice (map (λ f. f.0) (map (field_row known) fs)) in
      let values = nothing_behind later _ (nothing_behind (of_type known u) _ none) in
      rw (position.positions_Structure u fs, equation.meant_Structure ns u fs ls ex) (only_expected ps ex _
      (only_then ps (structure_found ns u) _
      (only_there ps (NameUnknown u.pos) (type_named (type_names ns.decls) u.text) _
      (type_known u (nothing_in (of_type known u) _ none)) (λ t.
      only_option ps (TypeMismatch u.pos) (structure_of t) (λ q e_. cc e_))) (λ n.
      only_then ps (values_of (field_meant ns) (field_named ns.decls n) fs ls) _
      (values_only ps (field_named ns.decls n) fs ls (fielded fs each texts ls covers values ps (λ p i. i)))
      (λ vs. only_where ps _ (TypeMismatch u.pos) _ (λ q e_. cc e_) (only_ok ps _)))))

  on_scope_call : (p : Pos) (u : Name) (fs : List SurfaceField) (w : Name) → Each (λ f. Fine f.value) fs
      → Fine (node.ScopeCall p u fs w)
  on_scope_call p u fs w each texts ls covers h ex =
      let ps = w.pos ∷ all_positions (map value_positions fs) in
      let none = sym (unknown.unknown_ScopeCall known p u fs w texts) ∙ h in
      let named = unless (is_name u.text known.scopes) u in
      let later = twice (map (λ f. f.0) (map (field_row known) fs)) in
      let values = nothing_behind later _ (nothing_behind named _ none) in
      rw (position.positions_ScopeCall p u fs w, equation.meant_ScopeCall ns p u fs w ls ex) (only_expected ps ex _
      (only_then ps (scope_found ns u) _
      (only_known ps (NameUnknown u.pos) (option_map (λ s. s.0) (scope_named u.text ns.decls.scopes))
      (mapped (λ (s : ℕ × Scope). s.0) (scope_named u.text ns.decls.scopes) (scope_known u (nothing_in named _ none))))
      (λ s.
      only_both ps (values_of (field_meant ns) (input_named ns.decls s) fs ls)
      (or_fault (NameUnknown w.pos) (output_named ns.decls s w.text)) _
      (values_only ps (input_named ns.decls s) fs ls (fielded fs each texts ls covers values ps (λ q i. inr i)))
      (only_maybe ps w.pos (output_named ns.decls s w.text) (inl refl))
      (λ vs o. only_where ps _ (TypeMismatch u.pos) _ (λ q e_. cc e_) (only_ok ps _)))))

  on_if : (p : Pos) (c a b : Node) → Fine c → Fine a → Fine b → Fine (node.If p c a b)
  on_if p c a b hc ha hb texts ls covers h ex =
      let front = typed_names c ++ typed_names a in let ps = front ++ typed_names b in
      let none = sym (unknown.unknown_If known p c a b texts) ∙ h in
      let first = unknown_in known c texts in let two = first ++ unknown_in known a texts in
      let of_c = part c hc texts ls covers (nothing_in first _ (nothing_in two _ none)) ps (λ q i.
      in_front q front (typed_names b) (in_front q (typed_names c) (typed_names a) i)) in
      let of_a = part a ha texts ls covers (nothing_behind first _ (nothing_in two _ none)) ps (λ q i.
      in_front q front (typed_names b) (behind q (typed_names c) (typed_names a) i)) in
      let of_b = part b hb texts ls covers (nothing_behind two _ none) ps (λ q i. behind q front (typed_names b) i) in
      rw (position.positions_If p c a b, equation.meant_If ns p c a b ls ex)
      (only_both ps (meant ns c ls None) (branches_of (meant ns a) (meant ns b) ls ex) _ (of_c None)
      (only_then ps (meant ns a ls ex) _ (of_a ex) (λ x.
      only_then ps (meant ns b ls (Some x.ty)) _ (of_b (Some x.ty)) (λ y. only_ok ps _)))
      (λ x xs. only_where ps _ (TypeMismatch p) _ (λ q e_. cc e_) (only_ok ps _)))

  on_match : (p : Pos) (e : Node) (arms : List SurfaceArm) → Fine e → Each (λ a. Fine a.body) arms
      → Fine (node.Match p e arms)
  on_match p e arms he each texts ls covers h ex =
      let rest = all_positions (map body_positions arms) in let ps = typed_names e ++ rest in
      let none = sym (unknown.unknown_Match known p e arms texts) ∙ h in let first = unknown_in known e texts in
      rw (position.positions_Match p e arms, equation.meant_Match ns p e arms ls ex)
      (only_then ps (meant ns e ls None) _
      (part e he texts ls covers (nothing_in first _ none) ps (λ q i. in_front q (typed_names e) rest i) None) (λ x.
      only_or ps (TypeMismatch p) (enumeration_of x.ty) _ (λ q e_. cc e_) (λ n.
      only_then ps (arms_of (arm_meant ns) ns p n arms ls ex) _
      (arms_only ps p n arms texts ls covers (armed arms each texts (nothing_behind first _ none) ps
      (λ q i. behind q (typed_names e) rest i)) ex)
      (λ row. only_where ps _ (MatchCases p) _ (λ q e_. cc e_) (only_ok ps _)))))

  on_each : (k : eaches.Each) (p : Pos) (w : Name) (l e : Node) → Fine l → Fine e → Fine (node.Each k p w l e)
  on_each k p w l e hl he texts ls covers h ex =
      let ps = typed_names l ++ typed_names e in let first = unknown_in known l texts in
      let none = sym (unknown.unknown_Each known k p w l e texts) ∙ h in
      rw (position.positions_Each k p w l e, equation.meant_Each ns k p w l e ls ex) (only_expected ps ex _
      (only_then ps (meant ns l ls None) _
      (part l hl texts ls covers (nothing_in first _ none) ps
      (λ q i. in_front q (typed_names l) (typed_names e) i) None)
      (λ x. only_or ps (TypeMismatch p) (element_of x.ty) _ (λ q e_. cc e_) (λ t.
      only_then ps (meant ns e (ls ++ bound w t ∷ []) None) _
      (part e he (texts ++ w.text ∷ []) (ls ++ bound w t ∷ []) (covers_more texts ls (bound w t ∷ []) covers)
      (nothing_behind first _ none) ps (λ q i. behind q (typed_names l) (typed_names e) i) None)
      (λ body. over_only ps k p x body)))))

  on_combine : (p : Pos) (w : Name) (l : Node) (acc : Name) (s e : Node) → Fine l → Fine s → Fine e
      → Fine (node.Combine (accumulation p w acc) l s e)
  on_combine p w l acc s e hl hs he texts ls covers h ex =
      let front = typed_names l ++ typed_names s in let ps = front ++ typed_names e in
      let none = sym (unknown.unknown_Combine known p w l acc s e texts) ∙ h in
      let first = unknown_in known l texts in let two = first ++ unknown_in known s texts in
      rw (position.positions_Combine p w l acc s e, equation.meant_Combine ns p w l acc s e ls ex)
      (only_expected ps ex _ (only_both ps (meant ns l ls None) (meant ns s ls None) _
      (part l hl texts ls covers (nothing_in first _ (nothing_in two _ none)) ps (λ q i.
      in_front q front (typed_names e) (in_front q (typed_names l) (typed_names s) i)) None)
      (part s hs texts ls covers (nothing_behind first _ (nothing_in two _ none)) ps (λ q i.
      in_front q front (typed_names e) (behind q (typed_names l) (typed_names s) i)) None) (λ x y.
      only_or ps (TypeMismatch p) (element_of x.ty) _ (λ q e_. cc e_) (λ t.
      only_then ps (meant ns e (ls ++ bound w t ∷ bound acc y.ty ∷ []) (Some y.ty)) _
      (part e he (texts ++ w.text ∷ acc.text ∷ []) (ls ++ bound w t ∷ bound acc y.ty ∷ [])
      (covers_more texts ls (bound w t ∷ bound acc y.ty ∷ []) covers) (nothing_behind two _ none) ps
      (λ q i. behind q front (typed_names e) i) (Some y.ty)) (λ body. only_ok ps _)))))

  pub each_is_fine : (e : Node) → Fine e
  each_is_fine = induction Fine
      (λ l p texts ls covers h ex. rw (position.positions_Literal l p, equation.meant_Literal ns l p ls ex)
      (only_expected [] ex _ (only_where [] _ (TypeMismatch p) _ (λ q e. cc e) (only_ok [] _))))
      on_name on_case
      (λ p e he texts ls covers h ex. rw (position.positions_Parens p e, equation.meant_Parens ns p e ls ex)
      (only_then (typed_names e) (meant ns e ls ex) _
      (he texts ls covers (sym (unknown.unknown_Parens known p e texts) ∙ h) ex) (λ x. only_ok (typed_names e) _)))
      on_field
      (λ o p e he texts ls covers h ex. rw (position.positions_Prefixed o p e, equation.meant_Prefixed ns o p e ls ex)
      (only_expected (typed_names e) ex _ (only_then (typed_names e) (meant ns e ls None) _
      (he texts ls covers (sym (unknown.unknown_Prefixed known o p e texts) ∙ h) None)
      (prefixed_only (typed_names e) o p))))
      on_sum on_content on_call on_binary on_test on_list on_structure on_scope_call on_if on_match on_each on_combine
