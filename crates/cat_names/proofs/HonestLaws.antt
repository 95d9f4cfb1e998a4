-- Where there is no answer, a fault stands: of expressions.
use Rattle.std.proofs.Common.{ℕ, Bool, true, false, List, [], ◌∷◌, ◌++◌, Option, Some, None, Ok, Err}
use Rattle.std.specs.Prelude.{option_map, nat_eq, nat_le, length}
use Rattle.cat_value.specs.declared.ty.Ty.TheViews as ty
use Rattle.cat_value.specs.Typing.{most_elements}
use Rattle.cat_scope.specs.declared.expr.Expr.TheViews as expr
use Rattle.cat_scope.specs.Fitting.{is_low_type}
use Rattle.cat_pos.specs.declared.pos.Pos.{Pos}
use Rattle.cat_value.specs.declared.ty.Ty.{Ty}
use Rattle.cat_value.specs.declared.declaration.ItemDecl.{ItemDecl}
use Rattle.cat_value.specs.Entries.{content_of}
use Rattle.cat_tree.specs.declared.name.Name.{Name}
use Rattle.cat_tree.specs.declared.name.CaseName.{CaseName}
use Rattle.cat_tree.specs.declared.name.CaseName.TheVariants as case
use Rattle.cat_tree.specs.declared.expression.Prefix.{Prefix}
use Rattle.cat_tree.specs.declared.expression.Prefix.TheVariants as prefix
use Rattle.cat_tree.specs.declared.expression.Operator.{Operator}
use Rattle.cat_tree.specs.declared.expression.Operator.TheVariants as operator
use Rattle.cat_tree.specs.declared.expression.Each as eaches
use Rattle.cat_tree.specs.declared.expression.Each.TheVariants as each
use Rattle.cat_tree.specs.declared.expression.Pattern.{Pattern}
use Rattle.cat_tree.specs.declared.expression.Pattern.TheVariants as pattern
use Rattle.cat_tree.specs.declared.expression.Node.{Node}
use Rattle.cat_tree.specs.declared.expression.Node.TheViews.{out-Node}
use Rattle.cat_scope.specs.Names.{Names}
use Rattle.cat_scope.proofs.Exported.{Each}
use Rattle.cat_names.specs.declared.fault.Fault.{Fault}
use Rattle.cat_names.specs.declared.fault.Fault.TheVariants.{NameUnknown, TypeMismatch, TooMany}
use Rattle.cat_names.specs.declared.typed.Typed.{Typed}
use Rattle.cat_names.specs.declared.typed.Local.{Local}
use Rattle.cat_names.specs.Found.{Found, and_then, both, or_fault, where_true, where_none, each_found}
use Rattle.cat_names.specs.Types.{element_of, expected_element, structure_of, enumeration_of, flat_of}
use Rattle.cat_names.specs.Rows.{operator_for, prefix_for, sum_for}
use Rattle.cat_names.specs.Lookup.{cases_named, innermost, item_named, scope_named, type_named, type_names}
use Rattle.cat_names.specs.Lookup.{type_written, type_found}
use Rattle.cat_names.specs.Naming.{item_found, bound_or_item, called_item, unbound_function, function_found, Called}
use Rattle.cat_names.specs.Naming.{called_scope, only_case, case_found, case_first, structure_found, scope_found}
use Rattle.cat_names.specs.Operations.{as_expected, binary_of, prefixed_of}
use Rattle.cat_names.specs.Forms.{field_named, input_named, output_named, low_list, each_of, bound}
use Rattle.cat_names.specs.Parts.{Meaning, all_of_type, elements_of, arguments_of, call_of, value_of, values_of}
use Rattle.cat_names.specs.Parts.{with_content, pattern_of, arm_of, all_arms, arms_of}
use Rattle.cat_names.specs.Compound.{dotted, content_of_type, case_alone, branches_of}
use Rattle.cat_names.specs.Meaning.{meant, name_alone, field_meant, arm_meant}
use Rattle.cat_names.proofs.Equations as equation
use Rattle.cat_names.proofs.Induction.{induction}

-- an answer, or a fault that stands
abbrev Speaks : {A : Type 0} → Found A → Type 0
Speaks (Ok a) = Unit {0}
Speaks (Err []) = ⊥
Speaks (Err (fault ∷ faults)) = Unit {0}

pub record IsHonest {A : Type 0} (found : Found A) : Type 0 where
  pub speaks : Speaks found

pub is_ok : {A : Type 0} (a : A) → IsHonest (Ok a)
is_ok a = record { speaks = tt }

pub is_fault : {A : Type 0} (fault : Fault) (faults : List Fault) → IsHonest {A = A} (Err (fault ∷ faults))
is_fault fault faults = record { speaks = tt }

pub honest_then : {A B : Type 0} (found : Found A) (go : A → Found B) → IsHonest found → ((a : A) → IsHonest (go a))
    → IsHonest (and_then found go)
honest_then (Ok a) go h next = next a
honest_then (Err []) go h next = absurd h.speaks
honest_then (Err (fault ∷ faults)) go h next = is_fault fault faults

pub honest_both : {A B C : Type 0} (x : Found A) (y : Found B) (go : A → B → Found C) → IsHonest x → IsHonest y
    → ((a : A) (b : B) → IsHonest (go a b)) → IsHonest (both x y go)
honest_both (Ok a) (Ok b) go h i next = next a b
honest_both (Ok a) (Err []) go h i next = absurd i.speaks
honest_both (Ok a) (Err (fault ∷ faults)) go h i next = is_fault fault faults
honest_both (Err []) y go h i next = absurd h.speaks
honest_both (Err (fault ∷ faults)) (Ok b) go h i next = is_fault fault faults
honest_both (Err (fault ∷ faults)) (Err more) go h i next = is_fault fault (faults ++ more)

pub honest_where : {A : Type 0} (test : Bool) (fault : Fault) (found : Found A) → IsHonest found
    → IsHonest (where_true test fault found)
honest_where true fault found h = h
honest_where false fault found h = is_fault fault []

pub honest_or : {A : Type 0} (fault : Fault) (o : Option A) → IsHonest (or_fault fault o)
honest_or fault (Some a) = is_ok a
honest_or fault None = is_fault fault []

pub honest_or_then : {A B : Type 0} (fault : Fault) (o : Option A) (go : A → Found B) → ((a : A) → IsHonest (go a))
    → IsHonest (and_then (or_fault fault o) go)
honest_or_then fault (Some a) go next = next a
honest_or_then fault None go next = is_fault fault []

pub honest_none : {A : Type 0} (faults : List Fault) (found : Found A) → IsHonest found
    → IsHonest (where_none faults found)
honest_none [] found h = h
honest_none (fault ∷ faults) (Ok a) h = is_fault fault faults
honest_none (fault ∷ faults) (Err more) h = is_fault fault (faults ++ more)

pub honest_each : {A B : Type 0} (f : A → Found B) (xs : List A) → ((x : A) → IsHonest (f x))
    → IsHonest (each_found f xs)
honest_each f [] each = is_ok []
honest_each f (x ∷ xs) each =
    honest_both (f x) (each_found f xs) _ (each x) (honest_each f xs each) (λ y ys. is_ok (y ∷ ys))

pub honest_expected : (expected : Option Ty) (found : Found Typed) → IsHonest found
    → IsHonest (as_expected expected found)
honest_expected expected found h =
    honest_then found _ h (λ x. honest_where _ (TypeMismatch x.operator) (Ok x) (is_ok x))

-- ---- names

item_honest : (p : Pos) (o : Option (ℕ × ItemDecl)) → IsHonest (item_found p o)
item_honest p None = is_fault _ []
item_honest p (Some i) = honest_where _ (TypeMismatch p) _ (is_ok _)

name_honest : (ns : Names) (w : Name) (o : Option (ℕ × Ty)) → IsHonest (bound_or_item ns w o)
name_honest ns w (Some l) = is_ok _
name_honest ns w None = item_honest w.pos (item_named w.text ns.items)

called_honest : (p : Pos) (o : Option (ℕ × ItemDecl)) → IsHonest (called_item p o)
called_honest p None = is_fault _ []
called_honest p (Some i) = honest_where _ (TypeMismatch p) _ (is_ok _)

function_honest : (ns : Names) (w : Name) (o : Option (ℕ × Ty)) → IsHonest (unbound_function ns w o)
function_honest ns w (Some l) = is_fault _ []
function_honest ns w None = called_honest w.pos (item_named w.text ns.items)

only_honest : (p : Pos) (ks : List (ℕ × ℕ)) → IsHonest (only_case p ks)
only_honest p [] = is_fault _ []
only_honest p (k ∷ []) = is_ok _
only_honest p (k ∷ m ∷ ks) = is_fault _ []

pub case_honest : (ns : Names) (c : CaseName) → IsHonest (case_found ns c)
case_honest ns (case.Bare c) = only_honest c.pos (cases_named c.text ns.decls.enumerations)
case_honest ns (case.Qualified u c) =
    honest_or_then (NameUnknown u.pos) (type_named (type_names ns.decls) u.text) _ (λ t.
    honest_or_then (NameUnknown c.pos) (enumeration_of t) _ (λ n. honest_or (NameUnknown c.pos) _))

-- ---- known parts

alone_honest : (p : Pos) (k : ℕ × ℕ) (content : Option (Option Ty)) → IsHonest (case_alone p k content)
alone_honest p k None = is_fault _ []
alone_honest p k (Some None) = is_ok _
alone_honest p k (Some (Some t)) = is_fault _ []

prefixed_honest : (o : Prefix) (p : Pos) (x : Typed) → IsHonest (prefixed_of o p x)
prefixed_honest prefix.NumberOf p x = honest_or_then (TypeMismatch p) (element_of x.ty) _ (λ t. is_ok _)
prefixed_honest o p x = honest_or_then (TypeMismatch p) (prefix_for o x.ty) _ (λ row. is_ok _)

binary_honest : (o : Operator) (p : Pos) (a b : Typed) → IsHonest (binary_of o p a b)
binary_honest operator.And p a b = honest_where _ (TypeMismatch p) _ (is_ok _)
binary_honest operator.Or p a b = honest_where _ (TypeMismatch p) _ (is_ok _)
binary_honest operator.Contains p a b =
    honest_or_then (TypeMismatch p) (flat_of b.ty) _ (λ t. honest_where _ (TypeMismatch p) _ (is_ok _))
binary_honest o p a b = honest_or_then (TypeMismatch p) (operator_for o a.ty b.ty) _ (λ row. is_ok _)

over_honest : (ns : Names) (k : eaches.Each) (p : Pos) (l body : Typed) → IsHonest (each_of ns k p l body)
over_honest ns each.ForAll p l body = honest_where _ _ _ (is_ok _)
over_honest ns each.Exists p l body = honest_where _ _ _ (is_ok _)
over_honest ns each.MapEach p l body = honest_where _ _ _ (is_ok _)
over_honest ns each.ListOf p l body = honest_where _ _ _ (is_ok _)

-- a meaning that is so under all bound names
abbrev IsHonestMeaning : Meaning → Type 0
IsHonestMeaning e = (ls : List Local) (ex : Option Ty) → IsHonest (e ls ex)

content_honest : (p : Pos) (k : ℕ × ℕ) (e : Meaning) → IsHonestMeaning e → (ls : List Local)
    → (content : Option (Option Ty)) → IsHonest (content_of_type p k e ls content)
content_honest p k e h ls None = honest_then (e ls None) _ (h ls None) (λ x. is_fault _ [])
content_honest p k e h ls (Some None) = honest_then (e ls None) _ (h ls None) (λ x. is_fault _ [])
content_honest p k e h ls (Some (Some t)) = honest_then (e ls (Some t)) _ (h ls (Some t)) (λ x. is_ok _)

dotted_honest : (ns : Names) (w : Name) (e : Meaning) → IsHonestMeaning e → (ls : List Local)
    → (called : Option Called) → IsHonest (dotted ns w e ls called)
dotted_honest ns w e h ls (Some called) =
    honest_or_then (NameUnknown w.pos) (output_named ns.decls called.scope w.text) _ (λ o. is_ok _)
dotted_honest ns w e h ls None = honest_then (e ls None) _ (h ls None) (λ x.
    honest_or_then (TypeMismatch x.first) (structure_of x.ty) _ (λ n.
    honest_or_then (NameUnknown w.pos) (field_named ns.decls n w.text) _ (λ f. is_ok _)))

-- ---- lists of parts

bound_honest : (p : Pos) (w : Option Name) (content : Option (Option Ty)) (ls : List Local)
    → IsHonest (with_content p w content ls)
bound_honest p None content ls = is_ok _
bound_honest p (Some w) None ls = is_fault _ []
bound_honest p (Some w) (Some None) ls = is_fault _ []
bound_honest p (Some w) (Some (Some t)) ls = is_ok _

pattern_honest : (ns : Names) (p : Pos) (n : ℕ) (q : Pattern) (ls : List Local) → IsHonest (pattern_of ns p n q ls)
pattern_honest ns p n pattern.Anything ls = is_ok _
pattern_honest ns p n (pattern.Case c w) ls = honest_then (case_found ns c) _ (case_honest ns c) (λ k.
    honest_where _ _ _ (honest_then (with_content p w (content_of ns.decls n k.1) ls) _
    (bound_honest p w (content_of ns.decls n k.1) ls) (λ inside. is_ok _)))

module _ {A : Type 0} where
  module _ (means : A → Meaning) where
    all_honest : (xs : List A) → Each (λ x. IsHonestMeaning (means x)) xs → (ls : List Local) (t : Ty)
        → IsHonest (all_of_type means xs ls t)
    all_honest [] each ls t = is_ok _
    all_honest (x ∷ xs) each ls t = honest_both (means x ls (Some t)) (all_of_type means xs ls t) _ (each.0 ls (Some t))
        (all_honest xs each.1 ls t) (λ y ys. is_ok _)

    elements_honest : (p : Pos) (xs : List A) → Each (λ x. IsHonestMeaning (means x)) xs → (ls : List Local)
        (ex : Option Ty) → IsHonest (elements_of means p xs ls ex)
    elements_honest p [] each ls None = is_fault _ []
    elements_honest p [] each ls (Some t) = is_ok _
    elements_honest p (x ∷ xs) each ls ex = honest_then (means x ls ex) _ (each.0 ls ex) (λ y.
        honest_then (all_of_type means xs ls y.ty) _ (all_honest xs each.1 ls y.ty) (λ ys. is_ok _))

    arguments_honest : (xs : List A) → Each (λ x. IsHonestMeaning (means x)) xs → (ls : List Local) (ts : List Ty)
        → IsHonest (arguments_of means xs ls ts)
    arguments_honest [] each ls ts = is_ok _
    arguments_honest (x ∷ xs) each ls [] = is_ok _
    arguments_honest (x ∷ xs) each ls (t ∷ ts) = honest_both (means x ls (Some t)) (arguments_of means xs ls ts) _
        (each.0 ls (Some t)) (arguments_honest xs each.1 ls ts) (λ y ys. is_ok _)

  module _ (means : A → Name × Meaning) (field : List ℕ → Option (ℕ × Ty)) where
    value_honest : (x : A) → IsHonestMeaning ((means x).1) → (ls : List Local) → IsHonest (value_of field (means x) ls)
    value_honest x h ls = honest_or_then (NameUnknown ((means x).0.pos)) (field ((means x).0.text)) _ (λ k.
        honest_then ((means x).1 ls (Some k.1)) _ (h ls (Some k.1)) (λ y. is_ok _))

    values_honest : (xs : List A) → Each (λ x. IsHonestMeaning ((means x).1)) xs → (ls : List Local)
        → IsHonest (values_of means field xs ls)
    values_honest [] each ls = is_ok _
    values_honest (x ∷ xs) each ls = honest_both (value_of field (means x) ls) (values_of means field xs ls) _
        (value_honest x each.0 ls) (values_honest xs each.1 ls) (λ y ys. is_ok _)

  module _ (means : A → Pattern × Meaning) (ns : Names) (p : Pos) (n : ℕ) where
    arm_honest : (x : A) → IsHonestMeaning ((means x).1) → (ls : List Local) (ex : Option Ty)
        → IsHonest (arm_of ns p n (means x) ls ex)
    arm_honest x h ls ex = honest_then (pattern_of ns p n ((means x).0) ls) _ (pattern_honest ns p n ((means x).0) ls)
        (λ q. honest_then ((means x).1 q.1 ex) _ (h q.1 ex) (λ y. is_ok _))

    later_honest : (xs : List A) → Each (λ x. IsHonestMeaning ((means x).1)) xs → (ls : List Local) (t : Ty)
        → IsHonest (all_arms means ns p n xs ls t)
    later_honest [] each ls t = is_ok _
    later_honest (x ∷ xs) each ls t =
        honest_both (arm_of ns p n (means x) ls (Some t)) (all_arms means ns p n xs ls t) _
        (arm_honest x each.0 ls (Some t)) (later_honest xs each.1 ls t) (λ y ys. is_ok _)

    arms_honest : (xs : List A) → Each (λ x. IsHonestMeaning ((means x).1)) xs → (ls : List Local) (ex : Option Ty)
        → IsHonest (arms_of means ns p n xs ls ex)
    arms_honest [] each ls ex = is_fault _ []
    arms_honest (x ∷ xs) each ls ex = honest_then (arm_of ns p n (means x) ls ex) _ (arm_honest x each.0 ls ex) (λ y.
        honest_then (all_arms means ns p n xs ls y.1) _ (later_honest xs each.1 ls y.1) (λ ys. is_ok _))

-- ---- each form

module _ (ns : Names) where
  abbrev Honest : Node → Type 0
  Honest e = IsHonestMeaning (meant ns e)

  on_call : (w : Name) (args : List Node) → Each Honest args → (ls : List Local) (f : ℕ × ItemDecl)
      → IsHonest (call_of (meant ns) w args ls f)
  on_call w args each ls f = honest_both _ (arguments_of (meant ns) args ls f.1.params) _
      (honest_where _ (TypeMismatch w.pos) (Ok f) (is_ok _)) (arguments_honest (meant ns) args each ls f.1.params)
      (λ g es. is_ok _)

  pub each_is_honest : (e : Node) → Honest e
  each_is_honest = induction Honest
      (λ l p ls ex. rw (equation.meant_Literal ns l p ls ex)
      (honest_expected ex _ (honest_where _ (TypeMismatch p) _ (is_ok _))))
      (λ w ls ex. rw (equation.meant_Name ns w ls ex) (honest_expected ex _ (name_honest ns w (innermost w.text ls))))
      (λ c ls ex. rw (equation.meant_Case ns c ls ex) (honest_expected ex _ (honest_then (case_found ns c) _
      (case_honest ns c) (λ k. alone_honest (case_first c) k (content_of ns.decls k.0 k.1)))))
      (λ p e he ls ex. rw (equation.meant_Parens ns p e ls ex)
      (honest_then (meant ns e ls ex) _ (he ls ex) (λ x. is_ok _)))
      (λ e w he ls ex. rw (equation.meant_Field ns e w ls ex) (honest_expected ex _
      (dotted_honest ns w (meant ns e) he ls (called_scope ns (name_alone (out-Node e)) ls))))
      (λ o p e he ls ex. rw (equation.meant_Prefixed ns o p e ls ex) (honest_expected ex _
      (honest_then (meant ns e ls None) _ (he ls None) (λ x. prefixed_honest o p x))))
      (λ p t e he ls ex. rw (equation.meant_Sum ns p t e ls ex) (honest_expected ex _
      (honest_both (type_found (type_names ns.decls) t) (meant ns e ls None) _
      (honest_or (NameUnknown t.pos) (type_written (type_names ns.decls) t)) (he ls None) (λ u x.
      honest_or_then (TypeMismatch p) (sum_for u) _ (λ k. honest_where _ (TypeMismatch p) _ (is_ok _))))))
      (λ c e he ls ex. rw (equation.meant_Content ns c e ls ex) (honest_expected ex _
      (honest_then (case_found ns c) _ (case_honest ns c) (λ k. content_honest (case_first c) k (meant ns e) he ls
      (content_of ns.decls k.0 k.1)))))
      (λ w args each ls ex. rw (equation.meant_Call ns w args ls ex) (honest_expected ex _
      (honest_then (function_found ns w ls) _ (function_honest ns w (innermost w.text ls)) (on_call w args each ls))))
      (λ o p a b ha hb ls ex. rw (equation.meant_Binary ns o p a b ls ex) (honest_expected ex _
      (honest_both (meant ns a ls None) (meant ns b ls None) _ (ha ls None) (hb ls None) (binary_honest o p))))
      (λ e p c he ls ex. rw (equation.meant_Test ns e p c ls ex) (honest_expected ex _
      (honest_both (meant ns e ls None) (case_found ns c) _ (he ls None) (case_honest ns c) (λ x k.
      honest_or_then (TypeMismatch p) (enumeration_of x.ty) _ (λ n.
      honest_where (nat_eq k.0 n) (TypeMismatch p) _ (is_ok _))))))
      (λ p es each ls ex. rw (equation.meant_List ns p es ls ex) (honest_expected ex _
      (honest_then (elements_of (meant ns) p es ls (expected_element ex)) _
      (elements_honest (meant ns) p es each ls (expected_element ex)) (λ row.
      honest_where (nat_le (length row.0) most_elements) (TypeMismatch p) (low_list ns p (expr.List p row.0) row.1)
      (honest_where (is_low_type ns.decls (ty.List row.1)) (TooMany p) _ (is_ok _))))))
      (λ u fs each ls ex. rw (equation.meant_Structure ns u fs ls ex) (honest_expected ex _
      (honest_then (structure_found ns u) _
      (honest_or_then (NameUnknown u.pos) (type_named (type_names ns.decls) u.text) _ (λ t.
      honest_or (TypeMismatch u.pos) (structure_of t))) (λ n.
      honest_then (values_of (field_meant ns) (field_named ns.decls n) fs ls) _
      (values_honest (field_meant ns) (field_named ns.decls n) fs each ls)
      (λ vs. honest_where _ (TypeMismatch u.pos) _ (is_ok _))))))
      (λ p u fs w each ls ex. rw (equation.meant_ScopeCall ns p u fs w ls ex) (honest_expected ex _
      (honest_then (scope_found ns u) _
      (honest_or (NameUnknown u.pos) (option_map (λ s. s.0) (scope_named u.text ns.decls.scopes))) (λ s.
      honest_both (values_of (field_meant ns) (input_named ns.decls s) fs ls)
      (or_fault (NameUnknown w.pos) (output_named ns.decls s w.text)) _
      (values_honest (field_meant ns) (input_named ns.decls s) fs each ls)
      (honest_or (NameUnknown w.pos) (output_named ns.decls s w.text))
      (λ vs o. honest_where _ (TypeMismatch u.pos) _ (is_ok _))))))
      (λ p c a b hc ha hb ls ex. rw (equation.meant_If ns p c a b ls ex)
      (honest_both (meant ns c ls None) (branches_of (meant ns a) (meant ns b) ls ex) _ (hc ls None)
      (honest_then (meant ns a ls ex) _ (ha ls ex) (λ x. honest_then (meant ns b ls (Some x.ty)) _ (hb ls (Some x.ty))
      (λ y. is_ok _)))
      (λ x xs. honest_where _ (TypeMismatch p) _ (is_ok _))))
      (λ p e arms he each ls ex. rw (equation.meant_Match ns p e arms ls ex)
      (honest_then (meant ns e ls None) _ (he ls None) (λ x. honest_or_then (TypeMismatch p) (enumeration_of x.ty) _
      (λ n.
      honest_then (arms_of (arm_meant ns) ns p n arms ls ex) _ (arms_honest (arm_meant ns) ns p n arms each ls ex)
      (λ row. honest_where _ _ _ (is_ok _))))))
      (λ k p w l e hl he ls ex. rw (equation.meant_Each ns k p w l e ls ex) (honest_expected ex _
      (honest_then (meant ns l ls None) _ (hl ls None) (λ x. honest_or_then (TypeMismatch p) (element_of x.ty) _ (λ t.
      honest_then (meant ns e (ls ++ bound w t ∷ []) None) _ (he (ls ++ bound w t ∷ []) None)
      (λ body. over_honest ns k p x body))))))
      (λ p w l acc s e hl hs he ls ex. rw (equation.meant_Combine ns p w l acc s e ls ex) (honest_expected ex _
      (honest_both (meant ns l ls None) (meant ns s ls None) _ (hl ls None) (hs ls None) (λ x y.
      honest_or_then (TypeMismatch p) (element_of x.ty) _ (λ t.
      honest_then (meant ns e (ls ++ bound w t ∷ bound acc y.ty ∷ []) (Some y.ty)) _
      (he (ls ++ bound w t ∷ bound acc y.ty ∷ []) (Some y.ty)) (λ body. is_ok _))))))
