-- What has a meaning has no unknown name.
use Rattle.std.specs.Prelude.{flat_map, nat_eq, option_map, length}
use Rattle.std.specs.Option.{is_some}
use Rattle.std.proofs.Common.{◌≡◌, ◌||◌, ℕ, Bool, true, false, List, [], ◌∷◌, ◌++◌, map, Option, Some, None, Ok, Err}
use Rattle.std.proofs.Common.{refl, sym, ap, ◌∙◌, subst, arith}
use Rattle.cat_pos.specs.declared.pos.Pos.{Pos}
use Rattle.cat_value.specs.declared.ty.Ty.{Ty}
use Rattle.cat_value.specs.declared.declaration.ItemDecl.{ItemDecl}
use Rattle.cat_value.specs.declared.declaration.Scope.{Scope}
use Rattle.cat_value.specs.Entries.{content_of}
use Rattle.cat_tree.specs.Accumulation.{accumulation}
use Rattle.cat_tree.specs.declared.name.Name.{Name}
use Rattle.cat_tree.specs.declared.name.CaseName.{CaseName}
use Rattle.cat_tree.specs.declared.name.CaseName.TheVariants as case
use Rattle.cat_tree.specs.declared.name.Type as written
use Rattle.cat_tree.specs.declared.expression.Each as eaches
use Rattle.cat_tree.specs.declared.expression.Pattern.{Pattern}
use Rattle.cat_tree.specs.declared.expression.Pattern.TheVariants as pattern
use Rattle.cat_tree.specs.declared.expression.Node.{Node}
use Rattle.cat_tree.specs.declared.expression.Node.TheOpen.{Node-F}
use Rattle.cat_tree.specs.declared.expression.Node.TheVariants as leaf
use Rattle.cat_tree.specs.declared.expression.Node.TheViews as node
use Rattle.cat_tree.specs.declared.expression.Node.TheViews.{out-Node, roll-Node}
use Rattle.cat_tree.specs.declared.expression.SurfaceField.{SurfaceField}
use Rattle.cat_tree.specs.declared.expression.SurfaceArm.{SurfaceArm}
use Rattle.cat_scope.specs.declared.expr.Expr.TheViews as expr
use Rattle.cat_scope.specs.declared.expr.ArmPattern.{ArmPattern}
use Rattle.cat_scope.specs.declared.expr.ArmPattern.TheVariants as resolved
use Rattle.cat_scope.specs.Names.{Names, IsOneOf}
use Rattle.cat_scope.proofs.Exported.{Each}
use Rattle.cat_names.specs.declared.fault.Fault.{Fault}
use Rattle.cat_names.specs.declared.fault.Fault.TheVariants.{NameUnknown, TypeMismatch}
use Rattle.cat_names.specs.declared.typed.Typed.{Typed}
use Rattle.cat_names.specs.declared.typed.Local.{Local}
use Rattle.cat_names.specs.Found.{Found, and_then, both, or_fault, where_true}
use Rattle.cat_names.specs.Types.{element_of, expected_element, structure_of, enumeration_of}
use Rattle.cat_names.specs.Lookup.{innermost, item_named, scope_named, type_named, type_names, type_written, type_found}
use Rattle.cat_names.specs.Naming.{item_found, bound_or_item, called_item, unbound_function, function_found, Called}
use Rattle.cat_names.specs.Naming.{typed, case_first, as_called, unbound_scope, called_scope, case_of_type, case_found}
use Rattle.cat_names.specs.Naming.{structure_found, scope_found}
use Rattle.cat_names.specs.Operations.{as_expected}
use Rattle.cat_names.specs.Forms.{field_named, input_named, output_named, bound}
use Rattle.cat_names.specs.Parts.{call_of, all_of_type, elements_of, arguments_of, value_of, values_of, with_content}
use Rattle.cat_names.specs.Parts.{pattern_of, arm_of, all_arms, arms_of}
use Rattle.cat_names.specs.Compound.{dotted, content_of_type, branches_of}
use Rattle.cat_names.specs.Meaning.{meant, name_alone, field_meant, arm_meant}
use Rattle.cat_names.specs.Unknown.{Known, is_name, unless, in_reach, of_type, in_type, in_case, in_pattern}
use Rattle.cat_names.specs.Unknown.{content_name, bound_by, in_fields, in_arms, twice, unknown_in}
use Rattle.cat_names.specs.TypedNames.{known_of}
use Rattle.cat_names.proofs.Equations as equation
use Rattle.cat_names.proofs.UnknownEquations as unknown
use Rattle.cat_names.proofs.UnknownEquations.{field_row, arm_row}
use Rattle.cat_names.proofs.Induction.{induction}
use Rattle.cat_names.proofs.ReachLaws.{named_there, innermost_there}
use Rattle.cat_names.proofs.FreeLaws.{Where, where_ok, where_no, where_then, where_next, where_both, where_both_next}
use Rattle.cat_names.proofs.FreeLaws.{where_or, where_some, where_any, where_map, Free, free_none, free_join, free_if}
use Rattle.cat_names.proofs.FreeLaws.{not_true, free_unless, free_later, Answers}
use Rattle.cat_names.proofs.KnownNames.{Agrees, names_of_locals, names_join}

-- ---- names

module _ (ns : Names) (known : Known) (agree : Agrees ns known) where
  type_free : (u : Name) → is_some (type_named (type_names ns.decls) u.text) ≡ true → Free (of_type known u)
  type_free u h = free_unless (is_some (type_named known.types u.text)) u
      (ap (λ names. is_some (type_named names u.text)) agree.types ∙ h)

  written_free : (t : written.Type) → is_some (type_written (type_names ns.decls) t) ≡ true → Free (in_type known t)
  written_free t h = free_if _ (NameUnknown t.pos) (not_true (is_some (type_written known.types t))
      (ap (λ names. is_some (type_written names t)) agree.types ∙ h))

  scope_free : (u : Name) → is_some (scope_named u.text ns.decls.scopes) ≡ true
      → Free (unless (is_name u.text known.scopes) u)
  scope_free u h = free_unless (is_name u.text known.scopes) u (ap (is_name u.text) agree.scopes
      ∙ sym (named_there (λ (s : Scope). s.name) u.text ns.decls.scopes) ∙ h)

  -- a bound name or an item
  abbrev IsReached : Name → List Local → Type 0
  IsReached w ls = (is_some (innermost w.text ls) || is_some (item_named w.text ns.items)) ≡ true

  reach_free : (w : Name) (ls : List Local) → IsReached w ls → Free (in_reach known w (names_of_locals ls))
  reach_free w ls h = free_unless (is_name w.text (names_of_locals ls) || is_name w.text known.items) w
      (ap (λ b. b || is_name w.text known.items) (sym (innermost_there w.text ls))
      ∙ ap (λ b. is_some (innermost w.text ls) || b)
      (ap (is_name w.text) agree.items ∙ sym (named_there (λ (i : ItemDecl). i.name) w.text ns.items)) ∙ h)

  item_where : (p : Pos) (o : Option (ℕ × ItemDecl)) → Where (is_some o ≡ true) (item_found p o)
  item_where p None = where_no _ _
  item_where p (Some i) = where_map _ (Unit {0}) (item_found p (Some i)) (where_any (item_found p (Some i))) (λ h. refl)

  name_where : (w : Name) (o : Option (ℕ × Ty))
      → Where ((is_some o || is_some (item_named w.text ns.items)) ≡ true) (bound_or_item ns w o)
  name_where w (Some l) = where_ok _ _ refl
  name_where w None = item_where w.pos (item_named w.text ns.items)

  called_where : (p : Pos) (o : Option (ℕ × ItemDecl)) → Where (is_some o ≡ true) (called_item p o)
  called_where p None = where_no _ _
  called_where p (Some i) =
      where_map _ (Unit {0}) (called_item p (Some i)) (where_any (called_item p (Some i))) (λ h. refl)

  function_where : (w : Name) (o : Option (ℕ × Ty))
      → Where ((is_some o || is_some (item_named w.text ns.items)) ≡ true) (unbound_function ns w o)
  function_where w (Some l) = where_no _ _
  function_where w None = called_where w.pos (item_named w.text ns.items)

  case_where : (c : CaseName) → Where (Free (in_case known c)) (case_found ns c)
  case_where (case.Bare c) =
      where_map (Free []) (Unit {0}) (case_found ns (case.Bare c)) (where_any (case_found ns (case.Bare c)))
      (λ h. free_none)
  case_where (case.Qualified u c) =
      where_or (Free (of_type known u)) (NameUnknown u.pos) (type_named (type_names ns.decls) u.text)
      (case_of_type ns c)
      (λ there t. where_map (Free (of_type known u)) (Unit {0}) (case_of_type ns c t) (where_any (case_of_type ns c t))
      (λ h. type_free u there))

  expected_where : (F : Type 0) (ex : Option Ty) (found : Found Typed) → Where F found → Where F (as_expected ex found)
  expected_where F ex found h = where_then F F found _ h (λ f. f)

  -- ---- expressions

  -- where an expression has a meaning, it has no unknown name
  abbrev Clear : Node → Type 0
  Clear e = (ls : List Local) (ex : Option Ty)
      → Where (Free (unknown_in known e (names_of_locals ls))) (meant ns e ls ex)

  abbrev Frees : List Node → List Local → Type 0
  Frees es ls = Free (flat_map (λ u. u (names_of_locals ls)) (map (unknown_in known) es))

  all_where : (es : List Node) → Each Clear es → (ls : List Local) (t : Ty)
      → Where (Frees es ls) (all_of_type (meant ns) es ls t)
  all_where [] each ls t = where_ok _ (Ok []) free_none
  all_where (e ∷ es) each ls t = where_both (Frees (e ∷ es) ls) _ (Frees es ls) (meant ns e ls (Some t))
      (all_of_type (meant ns) es ls t) _ (each.0 ls (Some t)) (all_where es each.1 ls t)
      (λ h i. free_join (unknown_in known e (names_of_locals ls)) _ h i)

  elements_where : (p : Pos) (es : List Node) → Each Clear es → (ls : List Local) (ex : Option Ty)
      → Where (Frees es ls) (elements_of (meant ns) p es ls ex)
  elements_where p [] each ls None = where_no _ _
  elements_where p [] each ls (Some t) = where_ok _ (Ok ([], t)) free_none
  elements_where p (e ∷ es) each ls ex =
      where_next (Frees (e ∷ es) ls) (Free (unknown_in known e (names_of_locals ls))) (meant ns e ls ex) _
      (each.0 ls ex)
      (λ h x. where_then (Frees (e ∷ es) ls) (Frees es ls) (all_of_type (meant ns) es ls x.ty) _
      (all_where es each.1 ls x.ty) (λ i. free_join (unknown_in known e (names_of_locals ls)) _ h i))

  -- as many arguments as parameters
  arguments_where : (es : List Node) → Each Clear es → (ls : List Local) (ts : List Ty)
      → length es ≡ length ts → Where (Frees es ls) (arguments_of (meant ns) es ls ts)
  arguments_where [] each ls ts many = where_ok _ (Ok []) free_none
  arguments_where (e ∷ es) each ls [] many = absurd (omega (arith, many))
  arguments_where (e ∷ es) each ls (t ∷ ts) many =
      where_both (Frees (e ∷ es) ls) _ (Frees es ls) (meant ns e ls (Some t)) (arguments_of (meant ns) es ls ts) _
      (each.0 ls (Some t)) (arguments_where es each.1 ls ts (omega (arith, many)))
      (λ h i. free_join (unknown_in known e (names_of_locals ls)) _ h i)

  abbrev FieldFrees : List SurfaceField → List Local → Type 0
  FieldFrees fs ls = Free (flat_map (λ f. f.1 (names_of_locals ls)) (map (field_row known) fs))

  value_where : (field : List ℕ → Option (ℕ × Ty)) (f : SurfaceField) → Clear f.value → (ls : List Local)
      → Where (Free (unknown_in known f.value (names_of_locals ls))) (value_of field (field_meant ns f) ls)
  value_where field f h ls =
      where_or _ (NameUnknown f.name.pos) (field f.name.text) _ (λ there k.
      where_then _ _ (meant ns f.value ls (Some k.1)) _ (h ls (Some k.1)) (λ i. i))

  values_where : (field : List ℕ → Option (ℕ × Ty)) (fs : List SurfaceField) → Each (λ f. Clear f.value) fs
      → (ls : List Local) → Where (FieldFrees fs ls) (values_of (field_meant ns) field fs ls)
  values_where field [] each ls = where_ok _ (Ok []) free_none
  values_where field (f ∷ fs) each ls =
      where_both (FieldFrees (f ∷ fs) ls) _ (FieldFrees fs ls) (value_of field (field_meant ns f) ls)
      (values_of (field_meant ns) field fs ls) _ (value_where field f each.0 ls) (values_where field fs each.1 ls)
      (λ h i. free_join (unknown_in known f.value (names_of_locals ls)) _ h i)

  fields_free : (fs : List SurfaceField) (ls : List Local) → FieldFrees fs ls
      → Free (in_fields (map (field_row known) fs) (names_of_locals ls))
  fields_free fs ls h = free_join (twice (map (λ f. f.0) (map (field_row known) fs))) _ (free_later _) h

  -- ---- arms

  -- bound names whose texts are these
  abbrev AreTexts : List Local → List (List ℕ) → Type 0
  AreTexts ls texts = names_of_locals ls ≡ texts

  append_none : (texts : List (List ℕ)) → texts ++ [] ≡ texts
  append_none [] = refl
  append_none (t ∷ texts) = ap (λ ts. t ∷ ts) (append_none texts)

  bound_where : {B C : Type 0} (F : Type 0) (p : Pos) (w : Option Name) (content : Option (Option Ty)) (ls : List Local)
      → (f : List Local → B) (go : B → Found C)
      → ((inside : List Local) → AreTexts inside (names_of_locals ls ++ content_name w) → Where F (go (f inside)))
      → Where F (and_then (and_then (with_content p w content ls) (λ inside. Ok (f inside))) go)
  bound_where F p None content ls f go next = next ls (sym (append_none (names_of_locals ls)))
  bound_where F p (Some w) None ls f go next = where_no F _
  bound_where F p (Some w) (Some None) ls f go next = where_no F _
  bound_where F p (Some w) (Some (Some t)) ls f go next =
      next (ls ++ bound w t ∷ []) (names_join ls (bound w t ∷ []))

  nested : (F G : Type 0) {A B C : Type 0} (found : Found A) (f : A → Found B) (go : B → Found C) → Where G found
      → (G → (a : A) → Where F (and_then (f a) go)) → Where F (and_then (and_then found f) go)
  nested F G (Ok a) f go h next = next (h.holds tt) a
  nested F G (Err faults) f go h next = where_no F faults

  nested_test : (F : Type 0) {B C : Type 0} (test : Bool) (fault : Fault) (found : Found B) (go : B → Found C)
      → Where F (and_then found go) → Where F (and_then (where_true test fault found) go)
  nested_test F true fault found go h = h
  nested_test F false fault found go h = where_no F (fault ∷ [])

  pattern_where : {C : Type 0} (F : Type 0) (p : Pos) (n : ℕ) (q : Pattern) (ls : List Local)
      (go : ArmPattern × List Local → Found C)
      → ((arm : ArmPattern) (inside : List Local) → AreTexts inside (names_of_locals ls ++ bound_by q)
      → Free (in_pattern known q) → Where F (go (arm, inside)))
      → Where F (and_then (pattern_of ns p n q ls) go)
  pattern_where F p n pattern.Anything ls go next =
      next resolved.Anything ls (sym (append_none (names_of_locals ls))) free_none
  pattern_where F p n (pattern.Case c w) ls go next =
      nested F (Free (in_case known c)) (case_found ns c) _ go (case_where c) (λ h k.
      nested_test F (nat_eq k.0 n) (TypeMismatch p) _ go
      (bound_where F p w (content_of ns.decls n k.1) ls (λ inside. (resolved.Case k.1 (is_some w), inside)) go
      (λ inside texts. next (resolved.Case k.1 (is_some w)) inside texts h)))

  -- the faults of an arm, and of some arms
  abbrev arm_faults : SurfaceArm → List Local → List Fault
  arm_faults a ls = in_pattern known a.pattern ++ unknown_in known a.body (names_of_locals ls ++ bound_by a.pattern)

  abbrev ArmFrees : List SurfaceArm → List Local → Type 0
  ArmFrees arms ls = Free (in_arms known (map (arm_row known) arms) (names_of_locals ls))

  arm_where : (p : Pos) (n : ℕ) (a : SurfaceArm) → Clear a.body → (ls : List Local) (ex : Option Ty)
      → Where (Free (arm_faults a ls)) (arm_of ns p n (arm_meant ns a) ls ex)
  arm_where p n a h ls ex = pattern_where (Free (arm_faults a ls)) p n a.pattern ls _ (λ arm inside texts i.
      where_then (Free (arm_faults a ls)) (Free (unknown_in known a.body (names_of_locals inside)))
      (meant ns a.body inside ex) _ (h inside ex) (λ j. free_join (in_pattern known a.pattern) _ i
      (subst (λ ts. Free (unknown_in known a.body ts)) texts j)))

  later_where : (p : Pos) (n : ℕ) (arms : List SurfaceArm) → Each (λ a. Clear a.body) arms → (ls : List Local) (t : Ty)
      → Where (ArmFrees arms ls) (all_arms (arm_meant ns) ns p n arms ls t)
  later_where p n [] each ls t = where_ok _ (Ok []) free_none
  later_where p n (a ∷ arms) each ls t =
      where_both (ArmFrees (a ∷ arms) ls) (Free (arm_faults a ls)) (ArmFrees arms ls)
      (arm_of ns p n (arm_meant ns a) ls (Some t)) (all_arms (arm_meant ns) ns p n arms ls t) _
      (arm_where p n a each.0 ls (Some t)) (later_where p n arms each.1 ls t)
      (λ h i. free_join (arm_faults a ls) _ h i)

  arms_where : (p : Pos) (n : ℕ) (arms : List SurfaceArm) → Each (λ a. Clear a.body) arms
      → (ls : List Local) (ex : Option Ty)
      → Where (ArmFrees arms ls) (arms_of (arm_meant ns) ns p n arms ls ex)
  arms_where p n [] each ls ex = where_no _ _
  arms_where p n (a ∷ arms) each ls ex =
      where_next (ArmFrees (a ∷ arms) ls) (Free (arm_faults a ls)) (arm_of ns p n (arm_meant ns a) ls ex) _
      (arm_where p n a each.0 ls ex) (λ h x. where_then (ArmFrees (a ∷ arms) ls) (ArmFrees arms ls)
      (all_arms (arm_meant ns) ns p n arms ls x.1) _ (later_where p n arms each.1 ls x.1)
      (λ i. free_join (arm_faults a ls) _ h i))

  -- ---- `.`

  -- a called scope in front of `.` is a name alone, which is reached
  alone_is : (e : Node) (t : Name) → name_alone (out-Node e) ≡ Some t → leaf.Name t ≡ e
  alone_is e t h = by (out-Node e) h ∙ node.roll-out-Node e
    where
      by : (y : Node-F Node SurfaceArm SurfaceField) → name_alone y ≡ Some t → leaf.Name t ≡ roll-Node y
      by (Node-F.Name w) g = let same : w ≡ t = cc g in
          subst (λ v. leaf.Name v ≡ roll-Node (Node-F.Name w)) same (sym (node.rolls-Name w))
      by _ g = cc g

  called_free : (e : Node) (base : Option Name) → name_alone (out-Node e) ≡ base → (ls : List Local) (called : Called)
      → called_scope ns base ls ≡ Some called → Free (unknown_in known e (names_of_locals ls))
  called_free e None alone ls called h = cc h
  called_free e (Some t) alone ls called h =
      subst (λ x. Free (unknown_in known x (names_of_locals ls))) (alone_is e t alone)
      (subst Free (sym (unknown.unknown_Name known t (names_of_locals ls))) (reach_free t ls
      (by (innermost t.text ls) h)))
    where
      item : (o : Option (ℕ × ItemDecl)) → as_called t.pos o ≡ Some called → is_some o ≡ true
      item None g = cc g
      item (Some i) g = refl

      by : (o : Option (ℕ × Ty)) → unbound_scope ns t o ≡ Some called
          → (is_some o || is_some (item_named t.text ns.items)) ≡ true
      by (Some l) g = cc g
      by None g = item (item_named t.text ns.items) g

  dotted_where : (e : Node) (w : Name) → Clear e → (ls : List Local)
      → Where (Free (unknown_in known e (names_of_locals ls)))
      (dotted ns w (meant ns e) ls (called_scope ns (name_alone (out-Node e)) ls))
  dotted_where e w h ls = by (called_scope ns (name_alone (out-Node e)) ls) refl
    where
      by : (o : Option Called) → called_scope ns (name_alone (out-Node e)) ls ≡ o
          → Where (Free (unknown_in known e (names_of_locals ls))) (dotted ns w (meant ns e) ls o)
      by (Some called) is =
          where_map _ (Unit {0}) _ (where_any _) (λ i. called_free e (name_alone (out-Node e)) refl ls called is)
      by None is = where_then _ _ (meant ns e ls None) _ (h ls None) (λ i. i)

  content_where : (p : Pos) (k : ℕ × ℕ) (e : Node) (content : Option (Option Ty)) → Clear e → (ls : List Local)
      → (front : List Fault) → Free front → Where (Free (front ++ unknown_in known e (names_of_locals ls)))
      (content_of_type p k (meant ns e) ls content)
  content_where p k e None h ls front i = where_then _ _ (meant ns e ls None) _ (h ls None)
      (λ j. free_join front (unknown_in known e (names_of_locals ls)) i j)
  content_where p k e (Some None) h ls front i = where_then _ _ (meant ns e ls None) _ (h ls None)
      (λ j. free_join front (unknown_in known e (names_of_locals ls)) i j)
  content_where p k e (Some (Some t)) h ls front i = where_then _ _ (meant ns e ls (Some t)) _ (h ls (Some t))
      (λ j. free_join front (unknown_in known e (names_of_locals ls)) i j)

  -- ---- each form

  on_call : (w : Name) (args : List Node) → Each Clear args → Clear (node.Call w args)
  on_call w args each ls ex =
      let texts = names_of_locals ls in let F = Free (in_reach known w texts
      ++ flat_map (λ u. u texts) (map (unknown_in known) args)) in
      rw (unknown.unknown_Call known w args texts, equation.meant_Call ns w args ls ex) (expected_where F ex _
      (where_next F (IsReached w ls) (function_found ns w ls) _ (function_where w (innermost w.text ls)) (λ h f.
      called F w args each ls f (λ i. free_join (in_reach known w texts) _ (reach_free w ls h) i))))
    where
      called : (F : Type 0) (v : Name) (es : List Node) → Each Clear es → (us : List Local) (f : ℕ × ItemDecl)
          → (Frees es us → F) → Where F (call_of (meant ns) v es us f)
      called F v es each us f more = by (nat_eq (length es) (length f.1.params)) refl
        where
          by : (b : Bool) → nat_eq (length es) (length f.1.params) ≡ b
              → Where F (both (where_true b (TypeMismatch v.pos) (Ok f)) (arguments_of (meant ns) es us f.1.params)
              (λ g xs. Ok (typed v.pos (expr.Call v.pos g.0 xs) g.1.ty)))
          by true e = where_both F (Unit {0}) (Frees es us) (Ok f) (arguments_of (meant ns) es us f.1.params) _
              (where_any (Ok f)) (arguments_where es each us f.1.params (grind (arith, e))) (λ h i. more i)
          by false e = where_both F ⊥ (Unit {0}) (Err (TypeMismatch v.pos ∷ []))
              (arguments_of (meant ns) es us f.1.params) _ (record { holds = λ h. h })
              (where_any (arguments_of (meant ns) es us f.1.params)) (λ h i. absurd h)

  two : (a b : Node) (ls : List Local) → Free (unknown_in known a (names_of_locals ls))
      → Free (unknown_in known b (names_of_locals ls))
      → Free (unknown_in known a (names_of_locals ls) ++ unknown_in known b (names_of_locals ls))
  two a b ls h i = free_join (unknown_in known a (names_of_locals ls)) _ h i

  on_structure : (u : Name) (fs : List SurfaceField) → Each (λ f. Clear f.value) fs → Clear (node.Structure u fs)
  on_structure u fs each ls ex =
      let texts = names_of_locals ls in let values = in_fields (map (field_row known) fs) texts in
      let F = Free (of_type known u ++ values) in
      rw (unknown.unknown_Structure known u fs texts, equation.meant_Structure ns u fs ls ex) (expected_where F ex _
      (where_next F (Free (of_type known u)) (structure_found ns u) _
      (where_or (Free (of_type known u)) (NameUnknown u.pos) (type_named (type_names ns.decls) u.text) _ (λ there t.
      where_map (Free (of_type known u)) (Unit {0}) (or_fault (TypeMismatch u.pos) (structure_of t))
      (where_any (or_fault (TypeMismatch u.pos) (structure_of t))) (λ h. type_free u there)))
      (λ h n. where_then F (FieldFrees fs ls) (values_of (field_meant ns) (field_named ns.decls n) fs ls) _
      (values_where (field_named ns.decls n) fs each ls)
      (λ i. free_join (of_type known u) values h (fields_free fs ls i)))))

  on_scope_call : (p : Pos) (u : Name) (fs : List SurfaceField) (w : Name) → Each (λ f. Clear f.value) fs
      → Clear (node.ScopeCall p u fs w)
  on_scope_call p u fs w each ls ex =
      let texts = names_of_locals ls in let values = in_fields (map (field_row known) fs) texts in
      let named = unless (is_name u.text known.scopes) u in let F = Free (named ++ values) in
      rw (unknown.unknown_ScopeCall known p u fs w texts, equation.meant_ScopeCall ns p u fs w ls ex)
      (expected_where F ex _
      (where_next F (Free named) (scope_found ns u) _ (where_map (Free named) _ (scope_found ns u)
      (where_some (NameUnknown u.pos) (option_map (λ s. s.0) (scope_named u.text ns.decls.scopes)))
      (λ h. scope_free u (unmapped (scope_named u.text ns.decls.scopes) h)))
      (λ h s. where_both F (FieldFrees fs ls) (Unit {0}) (values_of (field_meant ns) (input_named ns.decls s) fs ls)
      (or_fault (NameUnknown w.pos) (output_named ns.decls s w.text)) _
      (values_where (input_named ns.decls s) fs each ls)
      (where_any (or_fault (NameUnknown w.pos) (output_named ns.decls s w.text)))
      (λ i j. free_join named values h (fields_free fs ls i)))))
    where
      unmapped : (o : Option (ℕ × Scope)) → is_some (option_map (λ s. s.0) o) ≡ true → is_some o ≡ true
      unmapped None h = h
      unmapped (Some s) h = refl

  on_if : (p : Pos) (c a b : Node) → Clear c → Clear a → Clear b → Clear (node.If p c a b)
  on_if p c a b hc ha hb ls ex =
      let texts = names_of_locals ls in let of_c = unknown_in known c texts in let of_a = unknown_in known a texts in
      let of_b = unknown_in known b texts in let F = Free (of_c ++ of_a ++ of_b) in let G = Free of_a × Free of_b in
      rw (unknown.unknown_If known p c a b texts, equation.meant_If ns p c a b ls ex)
      (where_both F (Free of_c) G (meant ns c ls None) (branches_of (meant ns a) (meant ns b) ls ex) _ (hc ls None)
      (where_next G (Free of_a) (meant ns a ls ex) _ (ha ls ex) (λ h x.
      where_then G (Free of_b) (meant ns b ls (Some x.ty)) _ (hb ls (Some x.ty)) (λ i. (h, i))))
      (λ h g. free_join (of_c ++ of_a) of_b (free_join of_c of_a h g.0) g.1))

  on_match : (p : Pos) (e : Node) (arms : List SurfaceArm) → Clear e → Each (λ a. Clear a.body) arms
      → Clear (node.Match p e arms)
  on_match p e arms he each ls ex =
      let texts = names_of_locals ls in let of_e = unknown_in known e texts in
      let rest = in_arms known (map (arm_row known) arms) texts in let F = Free (of_e ++ rest) in
      rw (unknown.unknown_Match known p e arms texts, equation.meant_Match ns p e arms ls ex)
      (where_next F (Free of_e) (meant ns e ls None) _ (he ls None) (λ h x.
      where_or F (TypeMismatch p) (enumeration_of x.ty) _ (λ there n.
      where_then F (ArmFrees arms ls) (arms_of (arm_meant ns) ns p n arms ls ex) _ (arms_where p n arms each ls ex)
      (λ i. free_join of_e rest h i))))

  on_each : (k : eaches.Each) (p : Pos) (w : Name) (l e : Node) → Clear l → Clear e → Clear (node.Each k p w l e)
  on_each k p w l e hl he ls ex =
      let texts = names_of_locals ls in let of_l = unknown_in known l texts in
      let of_e = unknown_in known e (texts ++ w.text ∷ []) in let F = Free (of_l ++ of_e) in
      rw (unknown.unknown_Each known k p w l e texts, equation.meant_Each ns k p w l e ls ex) (expected_where F ex _
      (where_next F (Free of_l) (meant ns l ls None) _ (hl ls None) (λ h x.
      where_or F (TypeMismatch p) (element_of x.ty) _ (λ there t.
      where_then F (Free (unknown_in known e (names_of_locals (ls ++ bound w t ∷ []))))
      (meant ns e (ls ++ bound w t ∷ []) None) _ (he (ls ++ bound w t ∷ []) None)
      (λ i. free_join of_l of_e h
      (subst (λ ts. Free (unknown_in known e ts)) (names_join ls (bound w t ∷ [])) i))))))

  on_combine : (p : Pos) (w : Name) (l : Node) (acc : Name) (s e : Node) → Clear l → Clear s → Clear e
      → Clear (node.Combine (accumulation p w acc) l s e)
  on_combine p w l acc s e hl hs he ls ex =
      let texts = names_of_locals ls in let of_l = unknown_in known l texts in let of_s = unknown_in known s texts in
      let of_e = unknown_in known e (texts ++ w.text ∷ acc.text ∷ []) in let F = Free (of_l ++ of_s ++ of_e) in
      rw (unknown.unknown_Combine known p w l acc s e texts, equation.meant_Combine ns p w l acc s e ls ex)
      (expected_where F ex _ (where_both_next F (Free of_l) (Free of_s) (meant ns l ls None) (meant ns s ls None) _
      (hl ls None) (hs ls None) (λ h i x y. where_or F (TypeMismatch p) (element_of x.ty) _ (λ there t.
      where_then F (Free (unknown_in known e (names_of_locals (ls ++ bound w t ∷ bound acc y.ty ∷ []))))
      (meant ns e (ls ++ bound w t ∷ bound acc y.ty ∷ []) (Some y.ty)) _
      (he (ls ++ bound w t ∷ bound acc y.ty ∷ []) (Some y.ty))
      (λ j. free_join (of_l ++ of_s) of_e (free_join of_l of_s h i)
      (subst (λ ts. Free (unknown_in known e ts)) (names_join ls (bound w t ∷ bound acc y.ty ∷ [])) j))))))

  clear : (e : Node) → Clear e
  clear = induction Clear
      (λ l p ls ex. rw (unknown.unknown_Literal known l p (names_of_locals ls)) (where_map (Free []) (Unit {0}) _
      (where_any (meant ns (leaf.Literal l p) ls ex)) (λ h. free_none)))
      (λ w ls ex. rw (unknown.unknown_Name known w (names_of_locals ls), equation.meant_Name ns w ls ex)
      (expected_where _ ex _ (where_map _ (IsReached w ls) (bound_or_item ns w (innermost w.text ls))
      (name_where w (innermost w.text ls)) (reach_free w ls))))
      (λ c ls ex. rw (unknown.unknown_Case known c (names_of_locals ls), equation.meant_Case ns c ls ex)
      (expected_where _ ex _ (where_then _ _ (case_found ns c) _ (case_where c) (λ h. h))))
      (λ p e he ls ex. rw (unknown.unknown_Parens known p e (names_of_locals ls), equation.meant_Parens ns p e ls ex)
      (where_then _ _ (meant ns e ls ex) _ (he ls ex) (λ h. h)))
      (λ e w he ls ex. rw (unknown.unknown_Field known e w (names_of_locals ls), equation.meant_Field ns e w ls ex)
      (expected_where _ ex _ (dotted_where e w he ls)))
      (λ o p e he ls ex. rw (
        unknown.unknown_Prefixed known o p e (names_of_locals ls),
        equation.meant_Prefixed ns o p e ls ex,
      ) (expected_where _ ex _ (where_then _ _ (meant ns e ls None) _ (he ls None) (λ h. h))))
      (λ p t e he ls ex. rw (unknown.unknown_Sum known p t e (names_of_locals ls), equation.meant_Sum ns p t e ls ex)
      (expected_where _ ex _ (where_both _ (is_some (type_written (type_names ns.decls) t) ≡ true) _
      (type_found (type_names ns.decls) t) (meant ns e ls None) _
      (where_some (NameUnknown t.pos) (type_written (type_names ns.decls) t)) (he ls None)
      (λ h i. free_join (in_type known t) _ (written_free t h) i))))
      (λ c e he ls ex. rw (unknown.unknown_Content known c e (names_of_locals ls), equation.meant_Content ns c e ls ex)
      (expected_where _ ex _ (where_next _ (Free (in_case known c)) (case_found ns c) _ (case_where c) (λ h k.
      content_where (case_first c) k e (content_of ns.decls k.0 k.1) he ls (in_case known c) h))))
      on_call
      (λ o p a b ha hb ls ex. rw (
        unknown.unknown_Binary known o p a b (names_of_locals ls),
        equation.meant_Binary ns o p a b ls ex,
      ) (expected_where _ ex _ (where_both _ _ _ (meant ns a ls None) (meant ns b ls None) _ (ha ls None) (hb ls None)
      (two a b ls))))
      (λ e p c he ls ex. rw (unknown.unknown_Test known e p c (names_of_locals ls), equation.meant_Test ns e p c ls ex)
      (expected_where _ ex _ (where_both _ _ _ (meant ns e ls None) (case_found ns c) _ (he ls None) (case_where c)
      (λ h i. free_join (unknown_in known e (names_of_locals ls)) (in_case known c) h i))))
      (λ p es each ls ex. rw (unknown.unknown_List known p es (names_of_locals ls), equation.meant_List ns p es ls ex)
      (expected_where _ ex _ (where_then _ _ (elements_of (meant ns) p es ls (expected_element ex)) _
      (elements_where p es each ls (expected_element ex)) (λ h. h))))
      on_structure on_scope_call on_if on_match on_each on_combine

-- an expression with a meaning has no unknown name
pub meaning_is_free : (ns : Names) (e : Node) (ls : List Local) (ex : Option Ty) (x : Typed) → meant ns e ls ex ≡ Ok x
    → (p : Pos) → IsOneOf (NameUnknown p) (unknown_in (known_of ns) e (map (λ l. l.name) ls)) → ⊥
meaning_is_free ns e ls ex x is =
    let agree : Agrees ns (known_of ns) = record { types = refl; scopes = refl; items = refl } in
    let free = clear ns (known_of ns) agree e ls ex in
    (free.holds (subst Answers (sym is) tt)).free
