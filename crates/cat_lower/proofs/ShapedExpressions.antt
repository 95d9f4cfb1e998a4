-- A typed expression is lowered to code that pushes a value of its type, wherever what it names is ready.
use Rattle.std.proofs.Common.{◌≡◌, ℕ, suc, Bool, true, false, true≢false, ◌&&◌, List, [], ◌∷◌, ◌++◌}
use Rattle.std.proofs.Common.{length, map, Option, Some, None, is_some, refl, sym, ap, ◌∙◌, subst, slice_get}
use Rattle.cat_date.specs.declared.rounding.Rounding.{Rounding}
use Rattle.cat_value.specs.declared.ty.Ty.{Ty}
use Rattle.cat_value.specs.declared.ty.Ty.TheVariants as flat
use Rattle.cat_value.specs.declared.ty.Ty.TheViews as ty
use Rattle.cat_value.specs.declared.ty.Ty.TheViews.{out-Ty}
use Rattle.cat_value.specs.declared.value.Value.TheViews as value
use Rattle.cat_value.specs.declared.declaration.Kind.{Kind}
use Rattle.cat_value.specs.Inputs.{outputs_in}
use Rattle.cat_value.specs.Entries.{content_of}
use Rattle.cat_value.specs.Laws.{AreSound}
use Rattle.cat_value.proofs.DefaultsTyped.{default_of_typed}
use Rattle.cat_scope.specs.declared.expr.ArmPattern.{ArmPattern}
use Rattle.cat_scope.specs.declared.expr.Expr.{Expr}
use Rattle.cat_scope.specs.declared.expr.FieldValue.{FieldValue}
use Rattle.cat_scope.specs.declared.expr.Arm.{Arm}
use Rattle.cat_scope.specs.declared.expr.Expr.TheOpen.{Expr-F}
use Rattle.cat_scope.specs.declared.expr.Expr.TheViews as expr
use Rattle.cat_scope.specs.Literals.{literal_type}
use Rattle.cat_scope.specs.Composed.{literal_value}
use Rattle.cat_scope.specs.Signatures.{summed_type}
use Rattle.cat_scope.specs.Names.{AllHave, scope_items, all_differ, is_in, inputs_given}
use Rattle.cat_scope.specs.Fitting.{has_case, field_type, numbers_in}
use Rattle.cat_scope.specs.HasType.{HasType, AllHaveType, EachHasType, FieldsHaveType, ArmsHaveType}
use Rattle.cat_scope.specs.HasType as typed
use Rattle.cat_scope.specs.Expected.{lists_placed, row_placed, all_placed}
use Rattle.cat_scope.proofs.Exported.{arms_placed, later_arms_placed, fields_placed, placed_And, placed_Binary}
use Rattle.cat_scope.proofs.Exported.{placed_Or, placed_If, placed_Field, placed_Unary, placed_Match, placed_IsCase}
use Rattle.cat_scope.proofs.Exported.{placed_Case_Some, placed_Structure, placed_List, placed_ForAll, placed_Exists}
use Rattle.cat_scope.proofs.Exported.{placed_Map, placed_Filter, placed_Combine, placed_Contains, placed_Length}
use Rattle.cat_scope.proofs.Exported.{placed_Sum, placed_Call, placed_ScopeCall}
use Rattle.cat_sound.specs.LowTypes.{IsLow, names_at}
use Rattle.cat_sound.proofs.LowTypes.{low_alone, element_low}
use Rattle.cat_sound.proofs.FlatTypes.{literal-typed}
use Rattle.cat_sound.proofs.ListTypes.{zero-typed}
use Rattle.cat_sound.proofs.NamedParts.{bodies_of, values_of}
use Rattle.cat_code.specs.declared.instr.Instr.{Instr}
use Rattle.cat_code.specs.declared.instr.Instr.TheVariants as instr
use Rattle.cat_code.specs.declared.code.CasePlace.{CasePlace}
use Rattle.cat_code.specs.declared.code.Tables.{Tables}
use Rattle.cat_code.specs.Forms.{Form, Truth, Whole, Fields, OneOf, forms_in, outputs_form, items_forms}
use Rattle.cat_code.specs.Shapes.{Owner, Shape}
use Rattle.cat_code.specs.Places.{case_places}
use Rattle.cat_code.proofs.FormLaws.{form_Boolean, form_Integer, form_Enumeration}
use Rattle.cat_lower.specs.Laying.{Coded, one, all_code}
use Rattle.cat_lower.specs.Types.{Lowering, enumeration_in, element_type, content_type, arms_type, element_expected}
use Rattle.cat_lower.specs.Rows.{Standing, function_number, case_number, list_code, arms_code, arguments_code}
use Rattle.cat_lower.specs.Rows.{fields_code, values_code}
use Rattle.cat_lower.specs.Expressions.{numbers_of, lowered}
use Rattle.cat_lower.proofs.LoweredEquations.{branch, lowered_Literal, lowered_Item, lowered_Output, lowered_Local}
use Rattle.cat_lower.proofs.LoweredEquations.{lowered_Field, lowered_Unary, lowered_Binary, lowered_And, lowered_Or}
use Rattle.cat_lower.proofs.LoweredEquations.{lowered_If, lowered_IsCase, lowered_Case_None, lowered_Case_Some}
use Rattle.cat_lower.proofs.LoweredEquations.{lowered_Structure, lowered_List, lowered_Contains, lowered_Length}
use Rattle.cat_lower.proofs.LoweredEquations.{lowered_Sum}
use Rattle.cat_lower.proofs.TypesAgree.{Expects, both_so, types_agree, element_of_list, enumeration_of, type_of}
use Rattle.cat_lower.proofs.TypesAgree.{arms_agree, expects_element, still_expected}
use Rattle.cat_lower.proofs.Stacks.{length_map}
use Rattle.cat_lower.proofs.CasePlaces.{case_stands, tested_stands}
use Rattle.cat_lower.proofs.Named.{Named, named_parts, item_itself, scope_itself}
use Rattle.cat_lower.proofs.FormLaws.{form_List, form_Structure, form_field, at_items}
use Rattle.cat_lower.proofs.ShapedForms.{more, Gives, gives_constant, gives_truth, gives_local, gives_field}
use Rattle.cat_lower.proofs.ShapedForms.{gives_is_case, gives_case_alone, gives_case_with, gives_length, gives_unary}
use Rattle.cat_lower.proofs.ShapedForms.{gives_binary, gives_choice, form as form_by}
use Rattle.cat_lower.proofs.ShapedLoops.{gives_sum}
use Rattle.cat_lower.proofs.ShapedFolds.{gives_contains}
use Rattle.cat_lower.proofs.ShapedRows.{GivesAll, all_none, all_more, gives_listed, IsCallable, gives_structure}
use Rattle.cat_lower.proofs.ShapedArms.{Matches, matches_none}
use Rattle.cat_lower.proofs.ShapedCalls.{Passes, IsReached}
use Rattle.cat_lower.proofs.Spots.{IsConstant}
use Rattle.cat_lower.proofs.Sketches.{all_both}
use Rattle.cat_lower.proofs.ShapedParts.{read_map, plain_form, given_form, empty_typed, written, each_counted}
use Rattle.cat_lower.proofs.ShapedParts.{later_placed, fields_are, same_all, plain_not_called, plain_no_function}
use Rattle.cat_lower.proofs.ShapedParts.{called_no_function, same_as_one, declared_fields, arm_low}
use Rattle.cat_lower.specs.Laying.{then_code}
use Rattle.cat_lower.specs.Pieces.{packed}
use Rattle.cat_code.specs.Forms.{slot_form, value_form}
use Rattle.cat_lower.proofs.ShapedNames.{IsReady, read, arm_shape, Typed_all, FieldsShaped, belong_all, match_shape}
use Rattle.cat_lower.proofs.ShapedNames.{for_all_shape, exists_shape, map_shape, filter_shape, combine_shape}
use Rattle.cat_lower.proofs.ShapedNames.{call_shape, scope_call_shape}

module _ (tables : Tables) (code : List Instr) (Calls : Owner → Owner → Type 0) (entry : ℕ → Shape) (owner : Owner)
    (filled : List Bool)
    (rounding : Rounding) (functions definitions : ℕ) (sound : AreSound tables.decls)
    (cases : tables.cases ≡ case_places 0 tables.decls.enumerations) where
  -- where the expressions of a scope stand
  abbrev pub here : Standing
  here =
      record {
        names = names_at tables.decls owner.scope;
        rounding = rounding;
        functions = functions;
        definitions =
            definitions;
      }

  abbrev G : Coded → List Form → Form → Type 0
  G a ls t = Gives tables code Calls entry owner filled a ls t

  abbrev F : Ty → Form
  F t = form_by tables code Calls entry owner filled t

  abbrev All : Coded → List Form → List Form → Type 0
  All a ls ts = GivesAll tables code Calls entry owner filled a ls ts

  abbrev Low : Ty → Type 0
  Low t = IsLow tables.decls t

  abbrev Ready : ℕ → Type 0
  Ready k = IsReady tables code Calls entry owner filled rounding functions definitions sound cases k

  abbrev pub Names_ready : Expr → Type 0
  Names_ready e = Named Ready (IsReached tables code Calls entry owner filled) e

  abbrev Lowers : List Ty → Expr → Option Ty → Form → Type 0
  Lowers ls e x t = G ((lowered here e).code ls x) (map F ls) t

  -- the same code, by the equation of its form
  formed : (e : Expr) (ls : List Ty) (x : Option Ty) (y : Lowering) (t : Form) → lowered here e ≡ y
      → G (y.code ls x) (map F ls) t → Lowers ls e x t
  formed e ls x y t is g = subst (λ (w : Lowering). G (w.code ls x) (map F ls) t) (sym is) g

  alike : (a : Coded) (ls : List Form) (t u : Form) → t ≡ u → G a ls t → G a ls u
  alike a ls t u is g = subst (λ (f : Form). G a ls f) is g

  deep : (ls : List Ty) → length ls ≡ length (map F ls)
  deep ls = sym (length_map F ls)

  low_of : (ls : List Ty) (e : Expr) (t : Ty) → AllHave Low ls → HasType here.names ls e t → Low t
  low_of ls e t lows g = low_alone tables.decls sound owner.scope ls e t lows g

  with_one : (ls : List Ty) (t : Ty) → AllHave Low ls → Low t → AllHave Low (ls ++ t ∷ [])
  with_one ls t lows low = all_both Low ls (t ∷ []) lows (low, tt)

  stands : (n k : ℕ) (content : Option Ty) → content_of tables.decls n k ≡ Some content
      → slice_get tables.cases (case_number here n k) ≡ Some (record { enumeration = n; case = k })
  stands n k content is =
      ap (λ (l : List CasePlace). slice_get l (case_number here n k)) cases ∙ case_stands tables.decls n k content is

  is_tested : (n k : ℕ) → has_case tables.decls n k ≡ true
      → slice_get tables.cases (case_number here n k) ≡ Some (record { enumeration = n; case = k })
  is_tested n k is =
      ap (λ (l : List CasePlace). slice_get l (case_number here n k)) cases ∙ tested_stands tables.decls n k is

  abbrev fields_of_all : List FieldValue → List (ℕ × Lowering)
  fields_of_all fs = map (λ f. (f.field, lowered here f.value)) fs

  abbrev arms_of : List Arm → List (ArmPattern × Lowering)
  arms_of arms = map (λ a. (a.pattern, lowered here a.body)) arms

  mutual
    pub shapes : {ls : List Ty} {e : Expr} {t : Ty} → HasType here.names ls e t → (x : Option Ty) → Expects x t
        → lists_placed e (is_some x) ≡ true → AllHave Low ls → Names_ready e → Lowers ls e x (F t)
    shapes {ls} (typed.literal {p = p} {l = l} fits) x want placed lows ns =
        formed _ ls x _ _ (lowered_Literal here p l)
        (gives_constant tables code Calls entry owner filled (literal_type l) (literal_value l) (F (literal_type l))
        (map F ls)
        (low_of ls _ (literal_type l) lows (typed.literal {p = p} fits), literal-typed tables.decls l fits) refl)
    shapes {ls} {t = t} (typed.item {p = p} {i = i} is) x want placed lows ns =
        let ready =
        (item_itself Ready (IsReached tables code Calls entry owner filled) _ (Expr-F.Item p i)
        (expr.outs-Item p i) ns).0 in
        formed _ ls x _ _ (lowered_Item here p i)
        (read tables code Calls entry owner filled rounding functions definitions sound cases i is.0 (F t)
        (map F ls) ready is.1 (plain_no_function is.0 is.2)
        (plain_form tables is.0 (plain_not_called is.0 is.2) ∙ ap F (sym is.3)))
    shapes {ls} {t = t} (typed.output {p = p} {i = i} {k = k} is) x want placed lows ns =
        let ready =
        (item_itself Ready (IsReached tables code Calls entry owner filled) _ (Expr-F.Output p i k)
        (expr.outs-Output p i k) ns).0 in
        let outputs = outputs_in (scope_items tables.decls is.scope) in
        formed _ ls x _ _ (lowered_Output here p i k)
        (gives_field tables code Calls entry owner filled (one (instr.Slot i)) k (map F ls)
        (items_forms tables.decls outputs) (F t)
        (at_items tables.decls outputs k is.output is.output_is ∙ ap (λ (u : Ty). Some (F u)) (sym is.ty_is))
        (read tables code Calls entry owner filled rounding functions definitions sound cases i is.called
        (outputs_form tables.decls is.scope) (map F ls) ready is.called_is
        (called_no_function is.called is.scope is.kind_is)
        (ap (λ (c : Kind). value_form tables.decls is.called.ty c) is.kind_is)))
    shapes {ls} {t = t} (typed.local {p = p} {k = k} is) x want placed lows ns =
        formed _ ls x _ _ (lowered_Local here p k)
        (gives_local tables code Calls entry owner filled k (F t) (map F ls) (read_map F ls k t is))
    shapes {ls} {t = t} (typed.field {p = p} {e = e} {k = k} n g is) x want placed lows ns =
        let parts =
        named_parts Ready (IsReached tables code Calls entry owner filled) _ (Expr-F.Field p e k)
        (expr.outs-Field p e k) ns in
        let met = form_field tables.decls n k t is in
        formed _ ls x _ _ (lowered_Field here p e k)
        (gives_field tables code Calls entry owner filled _ k (map F ls) (forms_in F met.fields) (F t) met.at
        (alike _ (map F ls) _ _ met.form
        (shapes g None tt (sym (ap (λ f. f (is_some x)) (placed_Field p e k)) ∙ placed) lows parts.0)))
    shapes {ls} (typed.unary {p = p} {o = o} {e = e} g) x want placed lows ns =
        let parts =
        named_parts Ready (IsReached tables code Calls entry owner filled) _ (Expr-F.Unary p o e)
        (expr.outs-Unary p o e) ns in
        formed _ ls x _ _ (lowered_Unary here p o e)
        (gives_unary tables code Calls entry owner filled _ o p (map F ls)
        (shapes g None tt (sym (ap (λ f. f (is_some x)) (placed_Unary p o e)) ∙ placed) lows parts.0))
    shapes {ls} (typed.binary {p = p} {q = q} {o = o} {a = a} {b = b} s is g h) x want placed lows ns =
        let both =
        both_so (lists_placed a false) (lists_placed b false)
        (sym (ap (λ f. f (is_some x)) (placed_Binary p o q a b)) ∙ placed) in
        let parts =
        named_parts Ready (IsReached tables code Calls entry owner filled) _ (Expr-F.Binary p o q a b)
        (expr.outs-Binary p o q a b) ns in
        formed _ ls x _ _ (lowered_Binary here p o q a b)
        (gives_binary tables code Calls entry owner filled _ _ o rounding q s (map F ls) is (same_as_one o s is)
        (shapes g None tt both.0 lows parts.0) (shapes h None tt both.1 lows parts.1.0))
    shapes {ls} (typed.both {p = p} {a = a} {b = b} g h) x want placed lows ns =
        let both =
        both_so (lists_placed a false) (lists_placed b false)
        (sym (ap (λ f. f (is_some x)) (placed_And p a b)) ∙ placed) in
        let parts =
        named_parts Ready (IsReached tables code Calls entry owner filled) _ (Expr-F.And p a b)
        (expr.outs-And p a b) ns in
        formed _ ls x _ _ (lowered_And here p a b)
        (alike _ (map F ls) Truth _ (sym (form_Boolean tables.decls))
        (gives_choice tables code Calls entry owner filled _ _ _ (map F ls) Truth
        (alike _ _ _ _ (form_Boolean tables.decls) (shapes g None tt both.0 lows parts.0))
        (alike _ _ _ _ (form_Boolean tables.decls) (shapes h None tt both.1 lows parts.1.0))
        (gives_truth tables code Calls entry owner filled false (map F ls))))
    shapes {ls} (typed.any {p = p} {a = a} {b = b} g h) x want placed lows ns =
        let both =
        both_so (lists_placed a false) (lists_placed b false)
        (sym (ap (λ f. f (is_some x)) (placed_Or p a b)) ∙ placed) in
        let parts =
        named_parts Ready (IsReached tables code Calls entry owner filled) _ (Expr-F.Or p a b)
        (expr.outs-Or p a b) ns in
        formed _ ls x _ _ (lowered_Or here p a b)
        (alike _ (map F ls) Truth _ (sym (form_Boolean tables.decls))
        (gives_choice tables code Calls entry owner filled _ _ _ (map F ls) Truth
        (alike _ _ _ _ (form_Boolean tables.decls) (shapes g None tt both.0 lows parts.0))
        (gives_truth tables code Calls entry owner filled true (map F ls))
        (alike _ _ _ _ (form_Boolean tables.decls) (shapes h None tt both.1 lows parts.1.0))))
    shapes {ls} {t = t} (typed.choice {p = p} {c = c} {a = a} {b = b} f g h) x want placed lows ns =
        let both = both_so (lists_placed c false) (row_placed (lists_placed a ∷ lists_placed b ∷ []) (is_some x))
        (sym (ap (λ f. f (is_some x)) (placed_If p c a b)) ∙ placed) in
        let sides = both_so (lists_placed a (is_some x)) (lists_placed b true && true) both.1 in
        let parts =
        named_parts Ready (IsReached tables code Calls entry owner filled) _ (Expr-F.If p c a b)
        (expr.outs-If p c a b) ns in
        formed _ ls x _ _ (lowered_If here p c a b)
        (gives_choice tables code Calls entry owner filled _ _ _ (map F ls) (F t)
        (alike _ _ _ _ (form_Boolean tables.decls) (shapes f None tt both.0 lows parts.0))
        (shapes g x want sides.0 lows parts.1.0)
        (shapes h (Some (type_of here a ls x)) (types_agree here g x want sides.0)
        (both_so (lists_placed b true) true sides.1).0 lows parts.1.1.0))
    shapes {ls} {t = t} (typed.matching {p = p} {e = e} {arms = arms} n g each whole) x want placed lows ns =
        let both =
        both_so (lists_placed e false) (arms_placed arms (is_some x))
        (sym (placed_Match p e arms (is_some x)) ∙ placed) in
        let parts =
        named_parts Ready (IsReached tables code Calls entry owner filled) _ (Expr-F.Match p e arms)
        (expr.outs-Match p e arms) ns in
        let u =
        arms_type tables.decls (enumeration_in (out-Ty (type_of here e ls None))) (map (branch here) arms) ls x in
        let is : enumeration_in (out-Ty (type_of here e ls None)) ≡ n =
        enumeration_of n (type_of here e ls None) (types_agree here g None tt both.0) in
        let agree : u ≡ t =
        ap (λ m. arms_type tables.decls m (map (branch here) arms) ls x) is ∙ arms_agree here each x want both.1 in
        let low = low_of ls (expr.Match p e arms) t lows (typed.matching {p = p} n g each whole) in
        match_shape tables code Calls entry owner filled rounding functions definitions sound cases p e arms n t ls x is
        (shapes g None tt both.0 lows parts.0) (arms_shape each x want both.1 lows parts.1 u agree low)
    shapes {ls} (typed.is_case {p = p} {e = e} {n = n} {k = k} g is) x want placed lows ns =
        let parts =
        named_parts Ready (IsReached tables code Calls entry owner filled) _ (Expr-F.IsCase p e n k)
        (expr.outs-IsCase p e n k) ns in
        formed _ ls x _ _ (lowered_IsCase here p e n k)
        (alike _ (map F ls) Truth _ (sym (form_Boolean tables.decls))
        (gives_is_case tables code Calls entry owner filled _ (case_number here n k) n k (map F ls) (is_tested n k is)
        (alike _ (map F ls) _ _ (form_Enumeration tables.decls n)
        (shapes g None tt (sym (ap (λ f. f (is_some x)) (placed_IsCase p e n k)) ∙ placed) lows parts.0))))
    shapes {ls} (typed.case_alone {p = p} {n = n} {k = k} is) x want placed lows ns =
        formed _ ls x _ _ (lowered_Case_None here p n k)
        (alike _ (map F ls) (OneOf n) _ (sym (form_Enumeration tables.decls n))
        (gives_case_alone tables code Calls entry owner filled (case_number here n k) n k (map F ls)
        (stands n k None is) is))
    shapes {ls} (typed.case_with {p = p} {n = n} {k = k} {e = e} t is g) x want placed lows ns =
        let parts =
        named_parts Ready (IsReached tables code Calls entry owner filled) _ (Expr-F.Case p n k (Some e))
        (expr.outs-Case p n k (Some e)) ns in
        formed _ ls x _ _ (lowered_Case_Some here p n k e)
        (alike _ (map F ls) (OneOf n) _ (sym (form_Enumeration tables.decls n))
        (gives_case_with tables code Calls entry owner filled _ (case_number here n k) n k t (map F ls)
        (stands n k (Some t) is) is
        (subst (λ (o : Option Ty). Lowers ls e o (F t)) (sym (ap content_type is))
        (shapes g (Some t) refl (sym (ap (λ f. f (is_some x)) (placed_Case_Some p n k e)) ∙ placed) lows parts.0))))
    shapes {ls} (typed.structure {p = p} {n = n} {fs = fs} g there) x want placed lows ns =
        let parts =
        named_parts Ready (IsReached tables code Calls entry owner filled) _ (Expr-F.Structure p n fs)
        (expr.outs-Structure p n fs) ns in
        let declared = declared_fields tables n (numbers_in fs) there in
        let met = fields_shape g (sym (placed_Structure p n fs (is_some x)) ∙ placed) lows parts in
        formed _ ls x _ _ (lowered_Structure here p n fs)
        (alike _ (map F ls) _ _ (sym (form_Structure tables.decls n declared.fields declared.is))
        (subst (λ (l : List (ℕ × Lowering)). G
        (then_code (values_code (fields_code (field_type tables.decls n) l ls)) (packed (length ls) (numbers_of l)))
        (map F ls) (Fields (forms_in F declared.fields))) (sym (fields_are here fs))
        (gives_structure tables code Calls entry owner filled _ (length ls)
        (numbers_of (fields_of_all fs)) met.forms declared.fields (map F ls) (deep ls)
        (belong_all tables code Calls entry owner filled rounding functions definitions sound cases n declared.fields
        declared.is (numbers_of (fields_of_all fs)) met.forms
        (subst (λ (l : List ℕ). Typed_all tables code Calls entry owner filled rounding functions definitions sound
        cases (field_type tables.decls n) l met.forms) (sym (written here fs)) met.typed))
        (ap (λ (l : List ℕ). length l) (written here fs) ∙ declared.counted)
        (λ j less. ap (λ (l : List ℕ). is_in j l) (written here fs) ∙ declared.each j less) met.given)))
    shapes {ls} {t = whole} (typed.list {p = p} {es = es} {t = t} declared low few each) x want placed lows ns =
        let parts =
        named_parts Ready (IsReached tables code Calls entry owner filled) _ (Expr-F.List p es)
        (expr.outs-List p es) ns in
        let is = low_of ls (expr.List p es) (ty.List t) lows (typed.list {p = p} declared low few each) in
        formed _ ls x _ _ (lowered_List here p es)
        (list_shape each x want (sym (ap (λ f. f (is_some x)) (placed_List p es)) ∙ placed) lows parts is)
    shapes {ls} (typed.for_all {p = p} {l = l} {test = test} t g h) x want placed lows ns =
        let both =
        both_so (lists_placed l false) (lists_placed test false)
        (sym (ap (λ f. f (is_some x)) (placed_ForAll p l test)) ∙ placed) in
        let parts =
        named_parts Ready (IsReached tables code Calls entry owner filled) _ (Expr-F.ForAll p l test)
        (expr.outs-ForAll p l test) ns in
        let is = low_of ls l (ty.List t) lows g in
        for_all_shape tables code Calls entry owner filled rounding functions definitions sound cases p l test t ls x is
        (element_of_list t (type_of here l ls None) (types_agree here g None tt both.0))
        (shapes g None tt both.0 lows parts.0)
        (shapes h None tt both.1 (with_one ls t lows (element_low tables.decls sound t is)) parts.1.0)
    shapes {ls} (typed.exists {p = p} {l = l} {test = test} t g h) x want placed lows ns =
        let both =
        both_so (lists_placed l false) (lists_placed test false)
        (sym (ap (λ f. f (is_some x)) (placed_Exists p l test)) ∙ placed) in
        let parts =
        named_parts Ready (IsReached tables code Calls entry owner filled) _ (Expr-F.Exists p l test)
        (expr.outs-Exists p l test) ns in
        let is = low_of ls l (ty.List t) lows g in
        exists_shape tables code Calls entry owner filled rounding functions definitions sound cases p l test t ls x is
        (element_of_list t (type_of here l ls None) (types_agree here g None tt both.0))
        (shapes g None tt both.0 lows parts.0)
        (shapes h None tt both.1 (with_one ls t lows (element_low tables.decls sound t is)) parts.1.0)
    shapes {ls} (typed.map_each {p = p} {l = l} {e = e} {u = u} t g h declared low) x want placed lows ns =
        let both =
        both_so (lists_placed l false) (lists_placed e false)
        (sym (ap (λ f. f (is_some x)) (placed_Map p l e)) ∙ placed) in
        let parts =
        named_parts Ready (IsReached tables code Calls entry owner filled) _ (Expr-F.Map p l e)
        (expr.outs-Map p l e) ns in
        let is = low_of ls l (ty.List t) lows g in
        let made = low_of ls (expr.Map p l e) (ty.List u) lows (typed.map_each {p = p} t g h declared low) in
        let element = element_of_list t (type_of here l ls None) (types_agree here g None tt both.0) in
        let agree : type_of here e (ls ++ element_type (type_of here l ls None) ∷ []) None ≡ u
        = ap (λ (v : Ty). type_of here e (ls ++ v ∷ []) None) element ∙ types_agree here h None tt both.1 in
        map_shape tables code Calls entry owner filled rounding functions definitions sound cases p l e t u ls x is made
        element agree
        (shapes g None tt both.0 lows parts.0)
        (shapes h None tt both.1 (with_one ls t lows (element_low tables.decls sound t is)) parts.1.0)
    shapes {ls} (typed.filter {p = p} {l = l} {test = test} t g h) x want placed lows ns =
        let both =
        both_so (lists_placed l false) (lists_placed test false)
        (sym (ap (λ f. f (is_some x)) (placed_Filter p l test)) ∙ placed) in
        let parts =
        named_parts Ready (IsReached tables code Calls entry owner filled) _ (Expr-F.Filter p l test)
        (expr.outs-Filter p l test) ns in
        let is = low_of ls l (ty.List t) lows g in
        filter_shape tables code Calls entry owner filled rounding functions definitions sound cases p l test t ls x is
        (element_of_list t (type_of here l ls None) (types_agree here g None tt both.0))
        (shapes g None tt both.0 lows parts.0)
        (shapes h None tt both.1 (with_one ls t lows (element_low tables.decls sound t is)) parts.1.0)
    shapes {ls} (typed.combine {p = p} {l = l} {start = start} {e = e} {u = u} t g h i) x want placed lows ns =
        let both = both_so (lists_placed l false && lists_placed start false) (lists_placed e true)
        (sym (ap (λ f. f (is_some x)) (placed_Combine p l start e)) ∙ placed) in
        let fronts = both_so (lists_placed l false) (lists_placed start false) both.0 in
        let parts =
        named_parts Ready (IsReached tables code Calls entry owner filled) _ (Expr-F.Combine p l start e)
        (expr.outs-Combine p l start e) ns in
        let is = low_of ls l (ty.List t) lows g in
        combine_shape tables code Calls entry owner filled rounding functions definitions sound cases p l start e t u ls
        x is (element_of_list t (type_of here l ls None) (types_agree here g None tt fronts.0))
        (types_agree here h None tt fronts.1) (shapes g None tt fronts.0 lows parts.0)
        (shapes h None tt fronts.1 lows parts.1.0)
        (shapes i (Some u) refl both.1
        (all_both Low ls (t ∷ u ∷ []) lows (element_low tables.decls sound t is, (low_of ls start u lows h, tt)))
        parts.1.1.0)
    shapes {ls} (typed.contains {p = p} {q = q} {l = l} {e = e} t g h compared) x want placed lows ns =
        let both =
        both_so (lists_placed l false) (lists_placed e false)
        (sym (ap (λ f. f (is_some x)) (placed_Contains p q l e)) ∙ placed) in
        let parts =
        named_parts Ready (IsReached tables code Calls entry owner filled) _ (Expr-F.Contains p q l e)
        (expr.outs-Contains p q l e) ns in
        let is = low_of ls l (ty.List t) lows g in
        formed _ ls x _ _ (lowered_Contains here p q l e)
        (alike _ (map F ls) Truth _ (sym (form_Boolean tables.decls))
        (gives_contains tables code Calls entry owner filled _ _ (length ls) q (map F ls) t (deep ls) compared
        (alike _ (map F ls) _ _ (form_List tables.decls t is) (shapes g None tt both.0 lows parts.0))
        (shapes h None tt both.1 lows parts.1.0)))
    shapes {ls} (typed.number_of {p = p} {l = l} t g) x want placed lows ns =
        let parts =
        named_parts Ready (IsReached tables code Calls entry owner filled) _ (Expr-F.Length p l)
        (expr.outs-Length p l) ns in
        let is = low_of ls l (ty.List t) lows g in
        formed _ ls x _ _ (lowered_Length here p l)
        (alike _ (map F ls) Whole _ (sym (form_Integer tables.decls))
        (gives_length tables code Calls entry owner filled _ (F t) (map F ls)
        (alike _ (map F ls) _ _ (form_List tables.decls t is)
        (shapes g None tt (sym (ap (λ f. f (is_some x)) (placed_Length p l)) ∙ placed) lows parts.0))))
    shapes {ls} (typed.sum {p = p} {k = k} {l = l} g) x want placed lows ns =
        let parts =
        named_parts Ready (IsReached tables code Calls entry owner filled) _ (Expr-F.Sum p k l)
        (expr.outs-Sum p k l) ns in
        let is = low_of ls l (ty.List (summed_type k)) lows g in
        formed _ ls x _ _ (lowered_Sum here p k l)
        (gives_sum tables code Calls entry owner filled _ k p (map F ls)
        (element_low tables.decls sound (summed_type k) is, zero-typed tables.decls k)
        (alike _ (map F ls) _ _ (form_List tables.decls (summed_type k) is)
        (shapes g None tt (sym (ap (λ f. f (is_some x)) (placed_Sum p k l)) ∙ placed) lows parts.0)))
    shapes {ls} {t = t} (typed.call {p = p} {f = f} {es = es} params is g) x want placed lows ns =
        let parts =
        named_parts Ready (IsReached tables code Calls entry owner filled) _ (Expr-F.Call p f es)
        (expr.outs-Call p f es) ns in
        let ready =
        (item_itself Ready (IsReached tables code Calls entry owner filled) _ (Expr-F.Call p f es)
        (expr.outs-Call p f es) ns).0 in
        let callable =
        subst (λ (u : Ty). IsCallable tables code Calls entry owner filled (function_number here f) params u)
        (sym is.ty_is)
        (subst (λ (ps : List Ty). IsCallable tables code Calls entry owner filled
        (function_number here f) ps is.decl.ty) (sym is.params_are)
        (ready.callee is.decl is.decl_is is.function)) in
        call_shape tables code Calls entry owner filled rounding functions definitions sound cases p f es params t ls x
        is.decl is.decl_is (sym is.params_are) callable (each_counted g)
        (arguments_shape g (sym (ap (λ f. f (is_some x)) (placed_Call p f es)) ∙ placed) lows parts)
    shapes {ls} {t = t} (typed.scope_call {p = p} {s = s} {k = k} {fs = fs} g there is) x want placed lows ns =
        let parts =
        named_parts Ready (IsReached tables code Calls entry owner filled) _ (Expr-F.ScopeCall p s fs k)
        (expr.outs-ScopeCall p s fs k) ns in
        let reached =
        (scope_itself Ready (IsReached tables code Calls entry owner filled) _ (Expr-F.ScopeCall p s fs k)
        (expr.outs-ScopeCall p s fs k) ns).0 in
        let given =
        both_so (all_differ (numbers_in fs)) (inputs_given 0 (scope_items tables.decls s) (numbers_in fs)) there in
        let met =
        passes_shape s g (λ j u. given_form tables s j u)
        (sym (placed_ScopeCall p s fs k (is_some x)) ∙ placed) lows parts in
        scope_call_shape tables code Calls entry owner filled rounding functions definitions sound cases p s k fs t ls x
        reached met given.1
        (at_items tables.decls (outputs_in (scope_items tables.decls s)) k is.0 is.1
        ∙ ap (λ (u : Ty). Some (F u)) (sym is.2))

    arms_shape : {ls : List Ty} {n : ℕ} {arms : List Arm} {t : Ty} → ArmsHaveType here.names ls n arms t
        → (x : Option Ty) → Expects x t
        → arms_placed arms (is_some x) ≡ true → AllHave Low ls → AllHave Names_ready (bodies_of arms) → (u : Ty) → u ≡ t
        → Low t
        → Matches tables code Calls entry owner filled (arms_code here n u (arms_of arms) ls x) (map F ls) n (F t)
    arms_shape {ls} {n} {t = t} typed.arms_none x want placed lows ns u agree low =
        matches_none tables code Calls entry owner filled u (map F ls) n (F t)
        (let is : Low u = subst Low (sym agree) low in (is, default_of_typed tables.decls u is.declared)) (ap F agree)
    arms_shape {ls} {n} {t = t}
        (typed.arms_more {a = a} {arms = arms} inside is g more) x want placed lows ns u agree low =
        let parts = both_so (lists_placed a.body (is_some x)) (later_arms_placed arms) placed in
        arm_shape tables code Calls entry owner filled rounding functions definitions sound cases n a.pattern a.body ls
        inside x (F t) is
        (shapes g x want parts.0 (arm_low tables.decls sound n a.pattern ls inside is lows) ns.0) _
        (arms_shape more (Some u) agree (later_placed arms parts.1) lows ns.1 u agree low)

    fields_shape : {ls : List Ty} {ts : ℕ → Option Ty} {fs : List FieldValue} → FieldsHaveType here.names ls ts fs
        → fields_placed fs ≡ true
        → AllHave Low ls → AllHave Names_ready (values_of fs)
        → FieldsShaped tables code Calls entry owner filled rounding functions definitions sound cases ls ts fs
    fields_shape {ls} typed.fields_none placed lows ns =
        record { forms = []; typed = tt; given = all_none tables code Calls entry owner filled (map F ls) }
    fields_shape {ls} {ts} (typed.fields_more {f = f} {fs = fs} t is g more) placed lows ns =
        let parts = both_so (lists_placed f.value true) (fields_placed fs) placed in
        let rest = fields_shape more parts.1 lows ns.1 in
        record {
          forms = F t ∷ rest.forms;
          typed = ((t, is, refl), rest.typed);
          given = all_more tables code Calls entry owner filled _ _ (map F ls) (F t) rest.forms
              (subst (λ (o : Option Ty). Lowers ls f.value o (F t)) (sym is) (shapes g (Some t) refl parts.0 lows ns.0))
              rest.given;
        }

    passes_shape : {ls : List Ty} {ts : ℕ → Option Ty} {fs : List FieldValue} (s : ℕ)
        → FieldsHaveType here.names ls ts fs
        → ((k : ℕ) (u : Ty) → ts k ≡ Some u → slot_form tables.decls s k ≡ Some (F u)) → fields_placed fs ≡ true
        → AllHave Low ls → AllHave Names_ready (values_of fs)
        → Passes tables code Calls entry owner filled s (fields_code ts (fields_of_all fs) ls) (map F ls)
    passes_shape {ls} s typed.fields_none slots placed lows ns = tt
    passes_shape {ls} s (typed.fields_more {f = f} {fs = fs} t is g more) slots placed lows ns =
        let parts = both_so (lists_placed f.value true) (fields_placed fs) placed in (
          (
            F t,
            slots f.field t is,
            subst (λ (o : Option Ty). Lowers ls f.value o (F t)) (sym is) (shapes g (Some t) refl parts.0 lows ns.0),
          ),
          passes_shape s more slots parts.1 lows ns.1,
        )

    list_shape : {ls : List Ty} {es : List Expr} {t : Ty} → AllHaveType here.names ls es t → (x : Option Ty)
        → Expects x (ty.List t)
        → row_placed (map lists_placed es) (is_some x) ≡ true → AllHave Low ls → AllHave Names_ready es
        → Low (ty.List t)
        → G (list_code (map (lowered here) es) ls x) (map F ls) (F (ty.List t))
    list_shape {ls} typed.all_none None want placed lows ns low = absurd (true≢false (sym placed))
    list_shape {ls} {t = t} typed.all_none (Some u) want placed lows ns low =
        gives_constant tables code Calls entry owner filled u (value.List []) (F (ty.List t)) (map F ls)
        (subst (λ (v : Ty). IsConstant tables (record { ty = v; value = value.List [] })) (sym want)
        (low, empty_typed tables t low)) (ap F want)
    list_shape {ls} {t = t} (typed.all_more {e = e} {es = es} g more) x want placed lows ns low =
        let parts = both_so (lists_placed e (is_some x)) (all_placed (map lists_placed es)) placed in
        let first : lists_placed e (is_some (element_expected x)) ≡ true =
        ap (lists_placed e) (still_expected x) ∙ parts.0 in
        let wanted = expects_element x t want in
        let each : List Form = map (λ (y : Expr). F t) es in
        alike _ (map F ls) _ _ (sym (form_List tables.decls t low))
        (gives_listed tables code Calls entry owner filled _ (suc (length (map (lowered here) es))) (map F ls)
        (F t) each
        (ap suc (length_map (λ (y : Expr). F t) es ∙ sym (length_map (lowered here) es)))
        (same_all (λ (y : Expr). F t) (F t) es (λ y. refl))
        (all_more tables code Calls entry owner filled _ _ (map F ls) (F t) each
        (shapes g (element_expected x) wanted first lows ns.0)
        (rest_shape more (type_of here e ls (element_expected x))
        (types_agree here g (element_expected x) wanted first) parts.1 lows ns.1)))

    rest_shape : {ls : List Ty} {es : List Expr} {t : Ty} → AllHaveType here.names ls es t → (u : Ty) → u ≡ t
        → all_placed (map lists_placed es) ≡ true
        → AllHave Low ls → AllHave Names_ready es
        → All (all_code (map (λ (o : Lowering). o.code ls (Some u)) (map (lowered here) es))) (map F ls)
        (map (λ (y : Expr). F t) es)
    rest_shape {ls} typed.all_none u agree placed lows ns = all_none tables code Calls entry owner filled (map F ls)
    rest_shape {ls} {t = t} (typed.all_more {e = e} {es = es} g more) u agree placed lows ns =
        let parts = both_so (lists_placed e true) (all_placed (map lists_placed es)) placed in
        all_more tables code Calls entry owner filled _ _ (map F ls) (F t) (map (λ (y : Expr). F t) es)
        (shapes g (Some u) agree parts.0 lows ns.0)
        (rest_shape more u agree parts.1 lows ns.1)

    arguments_shape : {ls : List Ty} {es : List Expr} {params : List Ty} → EachHasType here.names ls es params
        → all_placed (map lists_placed es) ≡ true
        → AllHave Low ls → AllHave Names_ready es
        → All (arguments_code params (map (lowered here) es) ls) (map F ls) (map F params)
    arguments_shape {ls} typed.each_none placed lows ns = all_none tables code Calls entry owner filled (map F ls)
    arguments_shape {ls} (typed.each_more {e = e} {es = es} {t = t} {ts = ts} g more) placed lows ns =
        let parts = both_so (lists_placed e true) (all_placed (map lists_placed es)) placed in
        all_more tables code Calls entry owner filled _ _ (map F ls) (F t) (map F ts)
        (shapes g (Some t) refl parts.0 lows ns.0)
        (arguments_shape more parts.1 lows ns.1)

  pub truth_shape : {ls : List Ty} {e : Expr} → HasType here.names ls e flat.Boolean → lists_placed e false ≡ true
      → AllHave Low ls → Names_ready e
      → Lowers ls e None Truth
  truth_shape {ls} {e} g placed lows ns =
      alike _ (map F ls) _ _ (form_Boolean tables.decls) (shapes g None tt placed lows ns)
