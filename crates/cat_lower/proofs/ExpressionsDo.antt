-- The code of a typed expression does what the expression means.
use Rattle.std.proofs.Common.{◌≡◌, ℕ, suc, ◌+◌, Bool, true, false, ◌&&◌, IsTrue, List, [], ◌∷◌, ◌++◌, length, map}
use Rattle.std.proofs.Common.{Option, None, Some, is_some, refl, sym, ap, ◌∙◌, subst, slice_get, nat_eq, Ok, Err}
use Rattle.std.proofs.Common.{true≢false, arith}
use Rattle.std.proofs.lemmas.Bool.{eqb-true}
use Rattle.cat_value.specs.declared.ty.Ty.{Ty}
use Rattle.cat_value.specs.declared.ty.Ty.TheVariants as flat
use Rattle.cat_value.specs.declared.ty.Ty.TheViews as ty
use Rattle.cat_value.specs.declared.ty.Ty.TheViews.{out-Ty}
use Rattle.cat_value.specs.declared.value.Value.{Value}
use Rattle.cat_value.specs.declared.value.Value.TheVariants as value_flat
use Rattle.cat_value.specs.declared.value.Value.TheViews as value
use Rattle.cat_value.specs.declared.declaration.ItemDecl.{ItemDecl}
use Rattle.cat_value.specs.declared.declaration.Scope.{Scope}
use Rattle.cat_value.specs.declared.decls.Decls.{Decls}
use Rattle.cat_value.specs.Inputs.{may_be_given}
use Rattle.cat_value.specs.Entries.{content_of}
use Rattle.cat_scope.specs.declared.expr.ArmPattern.{ArmPattern}
use Rattle.cat_scope.specs.declared.expr.ArmPattern.TheVariants as pattern
use Rattle.cat_scope.specs.declared.expr.Expr.{Expr}
use Rattle.cat_scope.specs.declared.expr.FieldValue.{FieldValue}
use Rattle.cat_scope.specs.declared.expr.Arm.{Arm}
use Rattle.cat_scope.specs.Replies.{Reply, on_one, evaluated, known}
use Rattle.cat_scope.specs.Runs.{Run, plain, gives, and_then, giving}
use Rattle.cat_scope.specs.Operators.{operate}
use Rattle.cat_scope.specs.Projections.{case_of}
use Rattle.cat_scope.specs.Composed.{Meaning, literal_value, part, arm_value}
use Rattle.cat_scope.specs.Literals.{literal_type}
use Rattle.cat_scope.specs.Names.{Names, scope_items, items_in, all_differ, is_in, inputs_given}
use Rattle.cat_scope.specs.Fitting.{ArmLocals, has_case, field_type, given_type, input_type, numbers_in}
use Rattle.cat_scope.specs.HasType.{HasType, AllHaveType, EachHasType, FieldsHaveType, ArmsHaveType}
use Rattle.cat_scope.specs.HasType as typed
use Rattle.cat_scope.specs.Expected.{lists_placed, row_placed, all_placed}
use Rattle.cat_scope.specs.Eval.{Env, eval}
use Rattle.cat_scope.specs.inside.EvalParts.{eval_all, eval_fields, eval_arms}
use Rattle.cat_scope.specs.Calls.{Items, Scoped, env_of, call_input}
use Rattle.cat_scope.proofs.Exported.{eval_Literal, eval_Item, eval_Output, eval_Local, eval_Field, eval_Unary}
use Rattle.cat_scope.proofs.Exported.{eval_Binary, eval_And, eval_Or, eval_If, eval_Match, eval_IsCase, eval_Case_None}
use Rattle.cat_scope.proofs.Exported.{eval_Case_Some, eval_Structure, eval_List, eval_ForAll, eval_Exists, eval_Map}
use Rattle.cat_scope.proofs.Exported.{eval_Filter, eval_Combine, eval_Contains, eval_Length, eval_Sum, eval_Call}
use Rattle.cat_scope.proofs.Exported.{eval_ScopeCall, arms_placed, later_arms_placed, fields_placed, placed_And}
use Rattle.cat_scope.proofs.Exported.{placed_Binary, placed_Or, placed_If, placed_Field, placed_Unary, placed_Match}
use Rattle.cat_scope.proofs.Exported.{placed_IsCase, placed_Case_Some, placed_Structure, placed_List, placed_ForAll}
use Rattle.cat_scope.proofs.Exported.{placed_Exists, placed_Map, placed_Filter, placed_Combine, placed_Contains}
use Rattle.cat_scope.proofs.Exported.{placed_Length, placed_Sum, placed_Call, placed_ScopeCall}
use Rattle.cat_code.specs.declared.instr.Instr.{Instr}
use Rattle.cat_code.specs.declared.instr.Instr.TheVariants as instr
use Rattle.cat_code.specs.declared.code.CasePlace.{CasePlace}
use Rattle.cat_code.specs.declared.code.Tables.{Tables}
use Rattle.cat_code.specs.Places.{case_places}
use Rattle.cat_lower.specs.Laying.{Coded, one, led, all_code}
use Rattle.cat_lower.specs.Types.{Lowering, enumeration_in, content_type, arm_types, arms_type, element_expected}
use Rattle.cat_lower.specs.Rows.{Standing, function_number, case_number, list_code, arm_code, arms_code, arguments_code}
use Rattle.cat_lower.specs.Rows.{params_of, fields_code, values_code}
use Rattle.cat_lower.specs.Pieces.{pass_all}
use Rattle.cat_lower.specs.Expressions.{numbers_of, lowered}
use Rattle.cat_lower.proofs.LoweredEquations.{branch, branch_is, field, field_is, lowered_Literal, lowered_Item}
use Rattle.cat_lower.proofs.LoweredEquations.{lowered_Output, lowered_Local, lowered_Field, lowered_Unary}
use Rattle.cat_lower.proofs.LoweredEquations.{lowered_Binary, lowered_And, lowered_Or, lowered_If, lowered_Match}
use Rattle.cat_lower.proofs.LoweredEquations.{lowered_IsCase, lowered_Case_None, lowered_Case_Some, lowered_Structure}
use Rattle.cat_lower.proofs.LoweredEquations.{lowered_List, lowered_ForAll, lowered_Exists, lowered_Map, lowered_Filter}
use Rattle.cat_lower.proofs.LoweredEquations.{lowered_Combine, lowered_Contains, lowered_Length, lowered_Sum}
use Rattle.cat_lower.proofs.LoweredEquations.{lowered_Call, lowered_ScopeCall}
use Rattle.cat_lower.proofs.TypesAgree.{Expects, both_so, types_agree, element_of_list, enumeration_of, arm_types_are}
use Rattle.cat_lower.proofs.TypesAgree.{type_of, arms_agree, expects_element, still_expected}
use Rattle.cat_lower.proofs.Stacks.{length_append, length_map}
use Rattle.cat_lower.proofs.Doing.{Does, does_constant, does_local, does_item, does_field, does_unary, does_binary}
use Rattle.cat_lower.proofs.Doing.{does_choice, does_alike}
use Rattle.cat_lower.proofs.DoingForms.{does_length, does_is_case, does_case_alone, does_case_with, does_some}
use Rattle.cat_lower.proofs.DoingForms.{does_each, does_map}
use Rattle.cat_lower.proofs.DoingLoops.{does_sum, does_filter, does_contains, does_combine}
use Rattle.cat_lower.proofs.DoingRows.{CallsAre, DoesAll, DoesFields, does_none, does_more, does_listed, does_call}
use Rattle.cat_lower.proofs.DoingRows.{does_no_field, does_field_more, does_structure}
use Rattle.cat_lower.proofs.Matching.{DoesMatched, no_arm, any_arm, case_arm, does_match}
use Rattle.cat_lower.proofs.ScopeCalls.{RunsAre, DoesPass, passes_none, passes_more, does_scope_call}
use Rattle.cat_lower.proofs.Calling.{given_are_givable}
use Rattle.cat_lower.proofs.CasePlaces.{case_stands, tested_stands}
use Rattle.cat_lower.proofs.ShapedParts.{written, later_placed}

-- there are as many arguments as parameters
each_counted : {ns : Names} {ls : List Ty} {es : List Expr} {params : List Ty} → EachHasType ns ls es params
    → length es ≡ length params
each_counted typed.each_none = refl
each_counted (typed.each_more g more) = let e = each_counted more in omega arith

zero_in_front : (j : ℕ) → j ≡ 0 + j
zero_in_front j = omega arith

given_so_typed : (o : Option ItemDecl) (item : ItemDecl) (t : Ty) → o ≡ Some item → given_type o ≡ Some t
    → may_be_given item.kind ≡ true
given_so_typed o item t is typed = by (may_be_given item.kind) refl
  where
    by : (b : Bool) → may_be_given item.kind ≡ b → may_be_given item.kind ≡ true
    by true e = e
    by false e = let told : None ≡ Some t = rw (is, e) at typed in absurd (cc told)

-- what holds of each number that has a type holds of the numbers of typed fields
givable_fields : {ns : Names} {ls : List Ty} {ts : ℕ → Option Ty} {fs : List FieldValue} → FieldsHaveType ns ls ts fs
    → (j : ℕ) (b : Bool) → ((t : Ty) → ts j ≡ Some t → b ≡ true) → is_in j (numbers_in fs) ≡ true → b ≡ true
givable_fields typed.fields_none j b may among = absurd (true≢false (sym among))
givable_fields {ts = ts} (typed.fields_more {f = f} {fs = fs} t typed_is g more) j b may among =
    by (nat_eq j f.field) refl (givable_fields more j b may)
  where
    by : (c : Bool) → nat_eq j f.field ≡ c → (is_in j (numbers_in fs) ≡ true → b ≡ true) → b ≡ true
    by true e again = may t (ap ts (eqb-true j f.field e) ∙ typed_is)
    by false e again = let there : is_in j (numbers_in fs) ≡ true = rw e at among in again there

module _ (tables : Tables) (code : List Instr) (items : Items) (here : Standing) (scoped : Scoped)
    (calls : ℕ → List Value → Run Value)
    (same : tables.decls ≡ here.names.decls) (cases : tables.cases ≡ case_places 0 here.names.decls.enumerations)
    (rounded : here.rounding ≡ scoped.rounding) (called : scoped.scopes ≡ here.names.decls.scopes)
    (calls_are : CallsAre tables code (function_number here) here.names.items items calls)
    (runs_are : RunsAre tables code scoped.runs) where
  abbrev env : Env
  env = env_of scoped calls items

  -- an expression, lowered under local names of these types
  abbrev pub Lowers : List Ty → Expr → Option Ty → Type 0
  Lowers ls e x = Does tables code items (eval env e) (length ls) ((lowered here e).code ls x)

  -- under one local name more, or two
  deeper : (ls : List Ty) (t u : Ty) (e : Expr) (x : Option Ty) → u ≡ t → Lowers (ls ++ t ∷ []) e x
      → Does tables code items (eval env e) (length ls + 1) ((lowered here e).code (ls ++ u ∷ []) x)
  deeper ls t u e x is d =
      subst (λ n. Does tables code items (eval env e) n ((lowered here e).code (ls ++ u ∷ []) x))
      (length_append ls (t ∷ []))
      (subst (λ (v : Ty). Does tables code items (eval env e) (length (ls ++ t ∷ []))
      ((lowered here e).code (ls ++ v ∷ []) x)) (sym is) d)

  deeper_two : (ls : List Ty) (t u s r : Ty) (e : Expr) → s ≡ t → r ≡ u → Lowers (ls ++ t ∷ u ∷ []) e (Some u)
      → Does tables code items (eval env e) (length ls + 2) ((lowered here e).code (ls ++ s ∷ r ∷ []) (Some r))
  deeper_two ls t u s r e is are d =
      subst (λ n. Does tables code items (eval env e) n ((lowered here e).code (ls ++ s ∷ r ∷ []) (Some r)))
      (length_append ls (t ∷ u ∷ []))
      (subst (λ (v : Ty). Does tables code items (eval env e) (length (ls ++ t ∷ u ∷ []))
      ((lowered here e).code (ls ++ v ∷ r ∷ []) (Some r))) (sym is)
      (subst (λ (v : Ty). Does tables code items (eval env e) (length (ls ++ t ∷ u ∷ []))
      ((lowered here e).code (ls ++ t ∷ v ∷ []) (Some v))) (sym are) d))

  output_does : (item k depth : ℕ)
      → Does tables code items (λ locals. plain (on_one (evaluated (slice_get items item)) (part k))) depth
      (led (instr.Slot item) (one (instr.Field k)))
  output_does item k depth =
      does_alike tables code items _ _ depth _ _ refl (λ locals. by (evaluated (slice_get items item)))
      (does_field tables code items (λ locals. plain (evaluated (slice_get items item))) depth (one (instr.Slot item)) k
      (does_item tables code items item depth))
    where
      by : (r : Reply) → plain (on_one r (part k)) ≡ giving (plain r) (part k)
      by (Ok v) = refl
      by (Err stop) = refl

  stands : (n k : ℕ) (content : Option Ty) → content_of here.names.decls n k ≡ Some content
      → slice_get tables.cases (case_number here n k) ≡ Some (record { enumeration = n; case = k })
  stands n k content is =
      ap (λ (l : List CasePlace). slice_get l (case_number here n k)) cases
      ∙ case_stands here.names.decls n k content is

  is_tested : (n k : ℕ) → has_case here.names.decls n k ≡ true
      → slice_get tables.cases (case_number here n k) ≡ Some (record { enumeration = n; case = k })
  is_tested n k is =
      ap (λ (l : List CasePlace). slice_get l (case_number here n k)) cases ∙ tested_stands here.names.decls n k is

  -- an arm in front of those that are left
  arm_does : (n : ℕ) (p : ArmPattern) (body : Expr) (ls ins : List Ty) (x : Option Ty)
      → ArmLocals here.names.decls n p ls ins → Lowers ins body x
      → (v : Value) (m : ℕ) (content : Option Value) → case_of v ≡ Ok (m, content)
      → (rest : List Value → Run Value) (cr : Coded)
      → DoesMatched tables code items rest (length ls) v cr
      → DoesMatched tables code items (λ locals. arm_value p (eval env body) (rest locals) m content locals)
      (length ls) v
      (arm_code here n (length ls) p ((lowered here body).code (arm_types here.names.decls n p ls) x) cr)
  arm_does n pattern.Anything body ls ins x is d v m content met rest cr dr =
      any_arm tables code items (eval env body) rest (length ls) v ((lowered here body).code ls x)
      (subst (λ (l : List Ty). Lowers l body x) is d)
  arm_does n (pattern.Case k false) body ls ins x is d v m content met rest cr dr =
      case_arm tables code items here n k false (eval env body) rest (length ls) ((lowered here body).code ls x) cr
      (is_tested n k is.0)
      (subst (λ (l : List Ty). Lowers l body x) is.1 d) v m content met dr
  arm_does n (pattern.Case k true) body ls ins x is d v m content met rest cr dr =
      let agree = arm_types_are here.names.decls n (pattern.Case k true) ls ins is in
      case_arm tables code items here n k true (eval env body) rest (length ls)
      ((lowered here body).code (arm_types here.names.decls n (pattern.Case k true) ls) x) cr
      (stands n k (Some is.0) is.1)
      (subst (λ (l : List Ty). Does tables code items (eval env body) (length ls + 1) ((lowered here body).code l x))
      (sym agree)
      (subst (λ d. Does tables code items (eval env body) d ((lowered here body).code ins x))
      (ap (λ (l : List Ty). length l) is.2 ∙ length_append ls (is.0 ∷ [])) d)) v m content met dr

  fields_are : (fs : List FieldValue) → map (field here) fs ≡ map (λ f. (f.field, lowered here f.value)) fs
  fields_are [] = refl
  fields_are (f ∷ fs) =
      ap (λ (g : ℕ × Lowering). g ∷ map (field here) fs) (field_is here f)
      ∙ ap (λ l. (f.field, lowered here f.value) ∷ l) (fields_are fs)

  branches_are : (arms : List Arm) → map (branch here) arms ≡ map (λ a. (a.pattern, lowered here a.body)) arms
  branches_are [] = refl
  branches_are (a ∷ arms) =
      ap (λ (g : ArmPattern × Lowering). g ∷ map (branch here) arms) (branch_is here a)
      ∙ ap (λ l. (a.pattern, lowered here a.body) ∷ l) (branches_are arms)

  -- lowered fields and arms
  abbrev fields_of : List FieldValue → List (ℕ × Lowering)
  fields_of fs = map (λ f. (f.field, lowered here f.value)) fs

  abbrev arms_of : List Arm → List (ArmPattern × Lowering)
  arms_of arms = map (λ a. (a.pattern, lowered here a.body)) arms

  -- the same meaning by the equation of its form, and the same code
  formed : (e : Expr) (ls : List Ty) (x : Option Ty) (y : Lowering) (n : Meaning) → lowered here e ≡ y
      → ((locals : List Value) → eval env e locals ≡ n locals) → Does tables code items n (length ls) (y.code ls x)
      → Lowers ls e x
  formed e ls x y n is means d =
      does_alike tables code items _ n (length ls) _ (y.code ls x) (ap (λ (w : Lowering). w.code ls x) is) means d

  mutual
    pub does : {ls : List Ty} {e : Expr} {t : Ty} → HasType here.names ls e t → (x : Option Ty) → Expects x t
        → lists_placed e (is_some x) ≡ true → Lowers ls e x
    does {ls} (typed.literal {p = p} {l = l} fits) x want placed =
        formed _ ls x _ _ (lowered_Literal here p l) (eval_Literal env p l)
        (does_constant tables code items (literal_type l) (literal_value l) (length ls))
    does {ls} (typed.item {p = p} {i = i} is) x want placed =
        formed _ ls x _ _ (lowered_Item here p i) (eval_Item env p i) (does_item tables code items i (length ls))
    does {ls} (typed.output {p = p} {i = i} {k = k} is) x want placed =
        formed _ ls x _ _ (lowered_Output here p i k) (eval_Output env p i k) (output_does i k (length ls))
    does {ls} (typed.local {p = p} {k = k} is) x want placed =
        formed _ ls x _ _ (lowered_Local here p k) (eval_Local env p k) (does_local tables code items k (length ls))
    does {ls} (typed.field {p = p} {e = e} {k = k} n g is) x want placed =
        formed _ ls x _ _ (lowered_Field here p e k) (eval_Field env p e k)
        (does_field tables code items (eval env e) (length ls) _ k
        (does g None tt (sym (ap (λ f. f (is_some x)) (placed_Field p e k)) ∙ placed)))
    does {ls} (typed.unary {p = p} {o = o} {e = e} g) x want placed =
        formed _ ls x _ _ (lowered_Unary here p o e) (eval_Unary env p o e)
        (does_unary tables code items (eval env e) (length ls) _ o p
        (does g None tt (sym (ap (λ f. f (is_some x)) (placed_Unary p o e)) ∙ placed)))
    does {ls} (typed.binary {p = p} {q = q} {o = o} {a = a} {b = b} s is g h) x want placed =
        let parts =
        both_so (lists_placed a false) (lists_placed b false)
        (sym (ap (λ f. f (is_some x)) (placed_Binary p o q a b)) ∙ placed) in
        formed _ ls x _ _ (lowered_Binary here p o q a b)
        (λ locals. eval_Binary env p o q a b locals
        ∙ ap (λ r. and_then (eval env a locals) (λ v. giving (eval env b locals) (operate r o q v))) (sym rounded))
        (does_binary tables code items (eval env a) (eval env b) (length ls) _ _ o here.rounding q
        (does g None tt parts.0) (does h None tt parts.1))
    does {ls} (typed.both {p = p} {a = a} {b = b} g h) x want placed =
        let parts =
        both_so (lists_placed a false) (lists_placed b false)
        (sym (ap (λ f. f (is_some x)) (placed_And p a b)) ∙ placed) in
        formed _ ls x _ _ (lowered_And here p a b) (eval_And env p a b)
        (does_choice tables code items (eval env a) (eval env b) (λ locals. gives (value_flat.Boolean false))
        (length ls) _ _ _
        (does g None tt parts.0) (does h None tt parts.1)
        (does_constant tables code items flat.Boolean (value_flat.Boolean false) (length ls)))
    does {ls} (typed.any {p = p} {a = a} {b = b} g h) x want placed =
        let parts =
        both_so (lists_placed a false) (lists_placed b false)
        (sym (ap (λ f. f (is_some x)) (placed_Or p a b)) ∙ placed) in
        formed _ ls x _ _ (lowered_Or here p a b) (eval_Or env p a b)
        (does_choice tables code items (eval env a) (λ locals. gives (value_flat.Boolean true)) (eval env b)
        (length ls) _ _ _
        (does g None tt parts.0) (does_constant tables code items flat.Boolean (value_flat.Boolean true) (length ls))
        (does h None tt parts.1))
    does {ls} {t = t} (typed.choice {p = p} {c = c} {a = a} {b = b} f g h) x want placed =
        let parts = both_so (lists_placed c false) (row_placed (lists_placed a ∷ lists_placed b ∷ []) (is_some x))
        (sym (ap (λ f. f (is_some x)) (placed_If p c a b)) ∙ placed) in
        let sides = both_so (lists_placed a (is_some x)) (lists_placed b true && true) parts.1 in
        formed _ ls x _ _ (lowered_If here p c a b) (eval_If env p c a b)
        (does_choice tables code items (eval env c) (eval env a) (eval env b) (length ls) _ _ _
        (does f None tt parts.0) (does g x want sides.0)
        (does h (Some (type_of here a ls x)) (types_agree here g x want sides.0)
        (both_so (lists_placed b true) true sides.1).0))
    does {ls} {t = t} (typed.matching {p = p} {e = e} {arms = arms} n g each whole) x want placed =
        let parts =
        both_so (lists_placed e false) (arms_placed arms (is_some x))
        (sym (placed_Match p e arms (is_some x)) ∙ placed) in
        let u =
        arms_type here.names.decls (enumeration_in (out-Ty (type_of here e ls None)))
        (map (branch here) arms) ls x in
        let at : enumeration_in (out-Ty (type_of here e ls None)) ≡ n =
        enumeration_of n (type_of here e ls None) (types_agree here g None tt parts.0) in
        let agree : u ≡ t =
        ap (λ m. arms_type here.names.decls m (map (branch here) arms) ls x) at
        ∙ arms_agree here each x want parts.1 in
        formed _ ls x _ _ (lowered_Match here p e arms) (eval_Match env p e arms)
        (does_match tables code items (eval env e) (λ m content locals. eval_arms env arms m content locals)
        (length ls) _
        (arms_code here (enumeration_in (out-Ty (type_of here e ls None))) u (map (branch here) arms) ls x)
        (does g None tt parts.0)
        (λ v m content met. subst
        (λ j. DoesMatched tables code items (λ locals. eval_arms env arms m content locals) (length ls) v
        (arms_code here j u (map (branch here) arms) ls x)) (sym at)
        (subst (λ (l : List (ArmPattern × Lowering)). DoesMatched tables code items
        (λ locals. eval_arms env arms m content locals) (length ls) v
        (arms_code here n u l ls x)) (sym (branches_are arms))
        (arms_do each x want parts.1 u agree v m content met))))
    does {ls} (typed.is_case {p = p} {e = e} {n = n} {k = k} g is) x want placed =
        formed _ ls x _ _ (lowered_IsCase here p e n k) (eval_IsCase env p e n k)
        (does_is_case tables code items (eval env e) (length ls) _ (case_number here n k) n k
        (does g None tt (sym (ap (λ f. f (is_some x)) (placed_IsCase p e n k)) ∙ placed)) (is_tested n k is))
    does {ls} (typed.case_alone {p = p} {n = n} {k = k} is) x want placed =
        formed _ ls x _ _ (lowered_Case_None here p n k) (eval_Case_None env p n k)
        (does_case_alone tables code items (length ls) (case_number here n k) n k (stands n k None is))
    does {ls} (typed.case_with {p = p} {n = n} {k = k} {e = e} t is g) x want placed =
        formed _ ls x _ _ (lowered_Case_Some here p n k e) (eval_Case_Some env p n k e)
        (does_case_with tables code items (eval env e) (length ls) _ (case_number here n k) n k
        (subst (λ (o : Option Ty). Lowers ls e o) (sym (ap content_type is))
        (does g (Some t) refl (sym (ap (λ f. f (is_some x)) (placed_Case_Some p n k e)) ∙ placed)))
        (stands n k (Some t) is))
    does {ls} (typed.structure {p = p} {n = n} {fs = fs} g there) x want placed =
        formed _ ls x _ _ (lowered_Structure here p n fs) (eval_Structure env p n fs)
        (does_structure tables code items (eval_fields env fs) (length ls) (numbers_of (map (field here) fs))
        (values_code (fields_code (field_type here.names.decls n) (map (field here) fs) ls))
        (subst (λ (l : List (ℕ × Lowering)). DoesFields tables code items (eval_fields env fs) (length ls)
        (numbers_of l)
        (values_code (fields_code (field_type here.names.decls n) l ls))) (sym (fields_are fs))
        (fields_do g (sym (placed_Structure p n fs (is_some x)) ∙ placed))))
    does {ls} {t = whole} (typed.list {p = p} {es = es} {t = t} declared low few each) x want placed =
        formed _ ls x _ _ (lowered_List here p es) (eval_List env p es)
        (list_does each x want (sym (ap (λ f. f (is_some x)) (placed_List p es)) ∙ placed))
    does {ls} (typed.for_all {p = p} {l = l} {test = test} t g h) x want placed =
        let parts =
        both_so (lists_placed l false) (lists_placed test false)
        (sym (ap (λ f. f (is_some x)) (placed_ForAll p l test)) ∙ placed) in
        formed _ ls x _ _ (lowered_ForAll here p l test) (eval_ForAll env p l test)
        (does_each tables code items (eval env l) (eval env test) (length ls) _ _ (does g None tt parts.0)
        (deeper ls t _ test None (element_of_list t (type_of here l ls None) (types_agree here g None tt parts.0))
        (does h None tt parts.1)))
    does {ls} (typed.exists {p = p} {l = l} {test = test} t g h) x want placed =
        let parts =
        both_so (lists_placed l false) (lists_placed test false)
        (sym (ap (λ f. f (is_some x)) (placed_Exists p l test)) ∙ placed) in
        formed _ ls x _ _ (lowered_Exists here p l test) (eval_Exists env p l test)
        (does_some tables code items (eval env l) (eval env test) (length ls) _ _ (does g None tt parts.0)
        (deeper ls t _ test None (element_of_list t (type_of here l ls None) (types_agree here g None tt parts.0))
        (does h None tt parts.1)))
    does {ls} (typed.map_each {p = p} {l = l} {e = e} {u = u} t g h declared low) x want placed =
        let parts =
        both_so (lists_placed l false) (lists_placed e false)
        (sym (ap (λ f. f (is_some x)) (placed_Map p l e)) ∙ placed) in
        formed _ ls x _ _ (lowered_Map here p l e) (eval_Map env p l e)
        (does_map tables code items (eval env l) (eval env e) (length ls) _ _ _ (does g None tt parts.0)
        (deeper ls t _ e None (element_of_list t (type_of here l ls None) (types_agree here g None tt parts.0))
        (does h None tt parts.1)))
    does {ls} (typed.filter {p = p} {l = l} {test = test} t g h) x want placed =
        let parts =
        both_so (lists_placed l false) (lists_placed test false)
        (sym (ap (λ f. f (is_some x)) (placed_Filter p l test)) ∙ placed) in
        formed _ ls x _ _ (lowered_Filter here p l test) (eval_Filter env p l test)
        (does_filter tables code items (eval env l) (eval env test) (length ls) _ _ _ (does g None tt parts.0)
        (deeper ls t _ test None (element_of_list t (type_of here l ls None) (types_agree here g None tt parts.0))
        (does h None tt parts.1)))
    does {ls} (typed.combine {p = p} {l = l} {start = start} {e = e} {u = u} t g h i) x want placed =
        let parts = both_so (lists_placed l false && lists_placed start false) (lists_placed e true)
        (sym (ap (λ f. f (is_some x)) (placed_Combine p l start e)) ∙ placed) in
        let fronts = both_so (lists_placed l false) (lists_placed start false) parts.0 in
        formed _ ls x _ _ (lowered_Combine here p l start e) (eval_Combine env p l start e)
        (does_combine tables code items (eval env l) (eval env start) (eval env e) (length ls) _ _ _
        (does g None tt fronts.0) (does h None tt fronts.1)
        (deeper_two ls t u _ _ e (element_of_list t (type_of here l ls None) (types_agree here g None tt fronts.0))
        (types_agree here h None tt fronts.1) (does i (Some u) refl parts.1)))
    does {ls} (typed.contains {p = p} {q = q} {l = l} {e = e} t g h is) x want placed =
        let parts =
        both_so (lists_placed l false) (lists_placed e false)
        (sym (ap (λ f. f (is_some x)) (placed_Contains p q l e)) ∙ placed) in
        formed _ ls x _ _ (lowered_Contains here p q l e) (eval_Contains env p q l e)
        (does_contains tables code items (eval env l) (eval env e) (length ls) q _ _ (does g None tt parts.0)
        (does h None tt parts.1))
    does {ls} (typed.number_of {p = p} {l = l} t g) x want placed =
        formed _ ls x _ _ (lowered_Length here p l) (eval_Length env p l)
        (does_length tables code items (eval env l) (length ls) _
        (does g None tt (sym (ap (λ f. f (is_some x)) (placed_Length p l)) ∙ placed)))
    does {ls} (typed.sum {p = p} {k = k} {l = l} g) x want placed =
        formed _ ls x _ _ (lowered_Sum here p k l) (eval_Sum env p k l)
        (does_sum tables code items (eval env l) (length ls) k p _
        (does g None tt (sym (ap (λ f. f (is_some x)) (placed_Sum p k l)) ∙ placed)))
    does {ls} (typed.call {p = p} {f = f} {es = es} params is g) x want placed =
        formed _ ls x _ _ (lowered_Call here p f es) (eval_Call env p f es)
        (does_call tables code items
        (function_number here) here.names.items calls calls_are f is.decl is.decl_is is.function (length ls)
        (length (map (lowered here) es))
        (length_map (lowered here) es ∙ each_counted g ∙ ap (λ (l : List Ty). length l) is.params_are)
        (eval_all env es) _
        (subst (λ (ps : List Ty). DoesAll tables code items (eval_all env es) (length ls)
        (length (map (lowered here) es))
        (arguments_code ps (map (lowered here) es) ls)) (is.params_are ∙ sym (ap params_of is.decl_is))
        (arguments_do g (sym (ap (λ f. f (is_some x)) (placed_Call p f es)) ∙ placed))))
    does {ls} (typed.scope_call {p = p} {s = s} {k = k} {fs = fs} g there is) x want placed =
        let given =
        both_so (all_differ (numbers_in fs))
        (inputs_given 0 (scope_items here.names.decls s) (numbers_in fs)) there in
        let ns : numbers_of (map (field here) fs) ≡ numbers_in fs = ap numbers_of (fields_are fs) ∙ written here fs in
        formed _ ls x _ _ (lowered_ScopeCall here p s fs k)
        (λ locals. eval_ScopeCall env p s fs k locals
        ∙ ap (λ (l : List ItemDecl). and_then (eval_fields env fs locals)
        (λ gs. giving (scoped.runs s (call_input 0 gs l)) (λ outputs. known (slice_get outputs k))))
        (ap (λ (l : List Scope). items_in (slice_get l s)) called))
        (does_scope_call tables code items scoped.runs runs_are s k (length ls) (scope_items here.names.decls s)
        (ap (λ (d : Decls). scope_items d s) same) (eval_fields env fs) (numbers_of (map (field here) fs))
        (pass_all (fields_code (input_type here.names.decls s) (map (field here) fs) ls))
        (subst (λ (l : List ℕ). IsTrue (all_differ l)) (sym ns) given.0)
        (λ gs gs_are. given_are_givable gs (scope_items here.names.decls s) 0
        (λ j item item_is among. givable_fields g j (may_be_given item.kind)
        (λ t typed_is. given_so_typed (slice_get (scope_items here.names.decls s) j) item t item_is typed_is)
        (ap (λ m. is_in m (numbers_in fs)) (zero_in_front j) ∙ ap (λ (l : List ℕ). is_in (0 + j) l) (sym (gs_are ∙ ns))
        ∙ among))
        (ap (λ (l : List ℕ). inputs_given 0 (scope_items here.names.decls s) l) (gs_are ∙ ns) ∙ given.1))
        (subst (λ (l : List (ℕ × Lowering)). DoesPass tables code items (eval_fields env fs) (length ls) (numbers_of l)
        (pass_all (fields_code (input_type here.names.decls s) l ls))) (sym (fields_are fs))
        (passes_do g (sym (placed_ScopeCall p s fs k (is_some x)) ∙ placed))))

    arms_do : {ls : List Ty} {n : ℕ} {arms : List Arm} {t : Ty} → ArmsHaveType here.names ls n arms t → (x : Option Ty)
        → Expects x t
        → arms_placed arms (is_some x) ≡ true → (u : Ty) → u ≡ t → (v : Value) (m : ℕ) (content : Option Value)
        → case_of v ≡ Ok (m, content)
        → DoesMatched tables code items (λ locals. eval_arms env arms m content locals) (length ls) v
        (arms_code here n u (arms_of arms) ls x)
    arms_do {ls} typed.arms_none x want placed u agree v m content met = no_arm tables code items (length ls) v _
    arms_do {ls} {n} (typed.arms_more {a = a} {arms = arms} inside is g more) x want placed u agree v m content met =
        let parts = both_so (lists_placed a.body (is_some x)) (later_arms_placed arms) placed in
        arm_does n a.pattern a.body ls inside x is (does g x want parts.0) v m content met
        (λ locals. eval_arms env arms m content locals) _
        (arms_do more (Some u) agree (later_placed arms parts.1) u agree v m content met)

    fields_do : {ls : List Ty} {ts : ℕ → Option Ty} {fs : List FieldValue} → FieldsHaveType here.names ls ts fs
        → fields_placed fs ≡ true
        → DoesFields tables code items (eval_fields env fs) (length ls) (numbers_of (fields_of fs))
        (values_code (fields_code ts (fields_of fs) ls))
    fields_do {ls} typed.fields_none placed = does_no_field tables code items (length ls)
    fields_do {ls} (typed.fields_more {f = f} {fs = fs} t is g more) placed =
        let parts = both_so (lists_placed f.value true) (fields_placed fs) placed in
        does_field_more tables code items f.field (eval env f.value) (eval_fields env fs) (length ls) _ _ _
        (subst (λ (o : Option Ty). Lowers ls f.value o) (sym is) (does g (Some t) refl parts.0))
        (fields_do more parts.1)

    passes_do : {ls : List Ty} {ts : ℕ → Option Ty} {fs : List FieldValue} → FieldsHaveType here.names ls ts fs
        → fields_placed fs ≡ true
        → DoesPass tables code items (eval_fields env fs) (length ls) (numbers_of (fields_of fs))
        (pass_all (fields_code ts (fields_of fs) ls))
    passes_do {ls} typed.fields_none placed = passes_none tables code items (length ls)
    passes_do {ls} (typed.fields_more {f = f} {fs = fs} t is g more) placed =
        let parts = both_so (lists_placed f.value true) (fields_placed fs) placed in
        passes_more tables code items f.field (eval env f.value) (eval_fields env fs) (length ls) _ _ _
        (subst (λ (o : Option Ty). Lowers ls f.value o) (sym is) (does g (Some t) refl parts.0))
        (passes_do more parts.1)

    list_does : {ls : List Ty} {es : List Expr} {t : Ty} → AllHaveType here.names ls es t → (x : Option Ty)
        → Expects x (ty.List t)
        → row_placed (map lists_placed es) (is_some x) ≡ true
        → Does tables code items (λ locals. and_then (eval_all env es locals) (λ vs. gives (value.List vs))) (length ls)
        (list_code (map (lowered here) es) ls x)
    list_does {ls} typed.all_none None want placed = absurd (true≢false (sym placed))
    list_does {ls} typed.all_none (Some u) want placed = does_constant tables code items u (value.List []) (length ls)
    list_does {ls} {t = t} (typed.all_more {e = e} {es = es} g more) x want placed =
        let parts = both_so (lists_placed e (is_some x)) (all_placed (map lists_placed es)) placed in
        let first : lists_placed e (is_some (element_expected x)) ≡ true =
        ap (lists_placed e) (still_expected x) ∙ parts.0 in
        let wanted = expects_element x t want in
        does_listed tables code items (eval_all env (e ∷ es)) (length ls) (suc (length (map (lowered here) es))) _
        (does_more tables code items (eval env e) (eval_all env es) (length ls) (length (map (lowered here) es)) _ _
        (does g (element_expected x) wanted first)
        (rest_do more (type_of here e ls (element_expected x))
        (types_agree here g (element_expected x) wanted first) parts.1))

    rest_do : {ls : List Ty} {es : List Expr} {t : Ty} → AllHaveType here.names ls es t → (u : Ty) → u ≡ t
        → all_placed (map lists_placed es) ≡ true
        → DoesAll tables code items (eval_all env es) (length ls) (length (map (lowered here) es))
        (all_code (map (λ (o : Lowering). o.code ls (Some u)) (map (lowered here) es)))
    rest_do {ls} typed.all_none u agree placed = does_none tables code items (length ls)
    rest_do {ls} (typed.all_more {e = e} {es = es} g more) u agree placed =
        let parts = both_so (lists_placed e true) (all_placed (map lists_placed es)) placed in
        does_more tables code items (eval env e) (eval_all env es) (length ls) (length (map (lowered here) es)) _ _
        (does g (Some u) agree parts.0) (rest_do more u agree parts.1)

    arguments_do : {ls : List Ty} {es : List Expr} {params : List Ty} → EachHasType here.names ls es params
        → all_placed (map lists_placed es) ≡ true
        → DoesAll tables code items (eval_all env es) (length ls) (length (map (lowered here) es))
        (arguments_code params (map (lowered here) es) ls)
    arguments_do {ls} typed.each_none placed = does_none tables code items (length ls)
    arguments_do {ls} (typed.each_more {e = e} {es = es} {t = t} g more) placed =
        let parts = both_so (lists_placed e true) (all_placed (map lists_placed es)) placed in
        does_more tables code items (eval env e) (eval_all env es) (length ls) (length (map (lowered here) es)) _ _
        (does g (Some t) refl parts.0) (arguments_do more parts.1)
