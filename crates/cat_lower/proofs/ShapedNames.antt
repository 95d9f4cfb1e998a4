-- What the forms of expression push, by what their parts push.
use Rattle.std.proofs.Common.{◌≡◌, ℕ, Bool, true, false, IsTrue, List, [], ◌∷◌, ◌++◌, length}
use Rattle.std.proofs.Common.{map, Option, Some, None, refl, sym, ap, ◌∙◌, subst, slice_get}
use Rattle.cat_pos.specs.declared.pos.Pos.{Pos}
use Rattle.cat_date.specs.declared.rounding.Rounding.{Rounding}
use Rattle.cat_value.specs.declared.ty.Ty.{Ty}
use Rattle.cat_value.specs.declared.ty.Ty.TheVariants as flat
use Rattle.cat_value.specs.declared.ty.Ty.TheViews as ty
use Rattle.cat_value.specs.declared.ty.Ty.TheViews.{out-Ty}
use Rattle.cat_value.specs.declared.declaration.Field.{Field}
use Rattle.cat_value.specs.declared.declaration.ItemDecl.{ItemDecl}
use Rattle.cat_value.specs.Inputs.{outputs_in}
use Rattle.cat_value.specs.Entries.{content_of, fields_of}
use Rattle.cat_value.specs.Laws.{AreSound}
use Rattle.cat_scope.specs.declared.expr.ArmPattern.{ArmPattern}
use Rattle.cat_scope.specs.declared.expr.ArmPattern.TheVariants as pattern
use Rattle.cat_scope.specs.declared.expr.Expr.{Expr}
use Rattle.cat_scope.specs.declared.expr.FieldValue.{FieldValue}
use Rattle.cat_scope.specs.declared.expr.Arm.{Arm}
use Rattle.cat_scope.specs.declared.expr.Expr.TheViews as expr
use Rattle.cat_scope.specs.Names.{scope_items, is_function, inputs_given}
use Rattle.cat_scope.specs.Fitting.{ArmLocals, has_case, field_type, input_type, numbers_in}
use Rattle.cat_scope.proofs.Exported.{map_append}
use Rattle.cat_sound.specs.LowTypes.{IsLow, names_at}
use Rattle.cat_code.specs.declared.instr.Instr.{Instr}
use Rattle.cat_code.specs.declared.instr.Instr.TheVariants as instr
use Rattle.cat_code.specs.declared.code.CasePlace.{CasePlace}
use Rattle.cat_code.specs.declared.code.Tables.{Tables}
use Rattle.cat_code.specs.Forms.{Form, Truth, OneOf, forms_in, form_at, item_form, items_forms}
use Rattle.cat_code.specs.Shapes.{Owner, Shape}
use Rattle.cat_code.specs.Places.{case_places}
use Rattle.cat_code.specs.Wanted.{is_so}
use Rattle.cat_code.proofs.FormLaws.{form_Boolean, form_Enumeration}
use Rattle.cat_lower.specs.Laying.{Coded, one, led}
use Rattle.cat_lower.specs.Types.{Lowering, enumeration_in, element_type, arm_types, arms_type}
use Rattle.cat_lower.specs.Rows.{Standing, function_number, case_number, arm_code, arms_code, arguments_code, params_of}
use Rattle.cat_lower.specs.Rows.{fields_code, values_code}
use Rattle.cat_lower.specs.Pieces.{pass_all}
use Rattle.cat_lower.specs.Expressions.{numbers_of, lowered}
use Rattle.cat_lower.proofs.LoweredEquations.{branch, lowered_Match, lowered_ForAll, lowered_Exists, lowered_Map}
use Rattle.cat_lower.proofs.LoweredEquations.{lowered_Filter, lowered_Combine, lowered_Call, lowered_ScopeCall}
use Rattle.cat_lower.proofs.TypesAgree.{arm_types_are, type_of}
use Rattle.cat_lower.proofs.Stacks.{length_map}
use Rattle.cat_lower.proofs.CasePlaces.{case_stands, tested_stands}
use Rattle.cat_lower.proofs.FormLaws.{form_List, form_field}
use Rattle.cat_lower.proofs.ShapedForms.{more, Gives, gives_slot, form as form_by}
use Rattle.cat_lower.proofs.ShapedLoops.{gives_map, gives_filter, gives_all, gives_any, takes_bind}
use Rattle.cat_lower.proofs.ShapedFolds.{gives_combine}
use Rattle.cat_lower.proofs.ShapedRows.{Belong, GivesAll, IsCallable, gives_call}
use Rattle.cat_lower.proofs.ShapedArms.{Matches, matches_any, matches_case, matches_content}
use Rattle.cat_lower.proofs.ShapedCalls.{Passes, IsReached, gives_scope_call, numbers_in as passed_numbers}
use Rattle.cat_lower.proofs.Sketches.{takes_then}
use Rattle.cat_lower.proofs.ShapedParts.{slot_of, empty_typed, written, fields_are, branches_are}
use Rattle.cat_lower.specs.Laying.{then_code, over, loop}
use Rattle.cat_lower.specs.Pieces.{pass_absent}
use Rattle.cat_lower.specs.Expressions.{collecting}
use Rattle.cat_lower.proofs.ShapedForms.{Deep, at}

module _ (tables : Tables) (code : List Instr) (Calls : Owner → Owner → Type 0) (entry : ℕ → Shape) (owner : Owner)
    (filled : List Bool)
    (rounding : Rounding) (functions definitions : ℕ) (sound : AreSound tables.decls)
    (cases : tables.cases ≡ case_places 0 tables.decls.enumerations) where
  -- where the expressions of a scope stand
  abbrev pub here : Standing
  here =
      record {
        names = names_at tables.decls owner.scope;
        rounding = rounding;
        functions = functions;
        definitions =
            definitions;
      }

  abbrev pub G : Coded → List Form → Form → Type 0
  G a ls t = Gives tables code Calls entry owner filled a ls t

  abbrev pub A : List Form → Deep → Shape
  A ls d = at tables code Calls entry owner filled ls d

  abbrev pub F : Ty → Form
  F t = form_by tables code Calls entry owner filled t

  abbrev pub All : Coded → List Form → List Form → Type 0
  All a ls ts = GivesAll tables code Calls entry owner filled a ls ts

  abbrev pub Low : Ty → Type 0
  Low t = IsLow tables.decls t

  -- an item whose slot is filled, or that may be called
  pub record IsReady (k : ℕ) : Type 0 where
    pub slot : (item : ItemDecl) → slice_get (scope_items tables.decls owner.scope) k ≡ Some item
        → is_function item ≡ false
        → is_so (slice_get filled k) ≡ true
    pub callee : (item : ItemDecl) → slice_get (scope_items tables.decls owner.scope) k ≡ Some item
        → is_function item ≡ true
        → IsCallable tables code Calls entry owner filled (function_number here k) item.params item.ty

  abbrev pub Lowers : List Ty → Expr → Option Ty → Form → Type 0
  Lowers ls e x t = G ((lowered here e).code ls x) (map F ls) t

  -- the same code, by the equation of its form
  pub formed : (e : Expr) (ls : List Ty) (x : Option Ty) (y : Lowering) (t : Form) → lowered here e ≡ y
      → G (y.code ls x) (map F ls) t → Lowers ls e x t
  formed e ls x y t is g = subst (λ (w : Lowering). G (w.code ls x) (map F ls) t) (sym is) g

  pub alike : (a : Coded) (ls : List Form) (t u : Form) → t ≡ u → G a ls t → G a ls u
  alike a ls t u is g = subst (λ (f : Form). G a ls f) is g

  -- under one local name more, or two
  pub deeper : (ls : List Ty) (t u : Ty) (e : Expr) (x : Option Ty) (v : Form) → u ≡ t → Lowers (ls ++ t ∷ []) e x v
      → G ((lowered here e).code (ls ++ u ∷ []) x) (map F ls ++ F t ∷ []) v
  deeper ls t u e x v is g =
      subst (λ (fs : List Form). G ((lowered here e).code (ls ++ u ∷ []) x) fs v) (map_append F ls (t ∷ []))
      (subst (λ (w : Ty). G ((lowered here e).code (ls ++ w ∷ []) x) (map F (ls ++ t ∷ [])) v) (sym is) g)

  pub deeper_two : (ls : List Ty) (t u s r : Ty) (e : Expr) (v : Form) → s ≡ t → r ≡ u
      → Lowers (ls ++ t ∷ u ∷ []) e (Some u) v
      → G ((lowered here e).code (ls ++ s ∷ r ∷ []) (Some r)) (map F ls ++ F t ∷ F u ∷ []) v
  deeper_two ls t u s r e v is are g =
      subst (λ (fs : List Form). G ((lowered here e).code (ls ++ s ∷ r ∷ []) (Some r)) fs v)
      (map_append F ls (t ∷ u ∷ []))
      (subst (λ (w : Ty). G ((lowered here e).code (ls ++ w ∷ r ∷ []) (Some r)) (map F (ls ++ t ∷ u ∷ [])) v) (sym is)
      (subst (λ (w : Ty). G ((lowered here e).code (ls ++ t ∷ w ∷ []) (Some w)) (map F (ls ++ t ∷ u ∷ [])) v)
      (sym are) g))

  pub deep : (ls : List Ty) → length ls ≡ length (map F ls)
  deep ls = sym (length_map F ls)

  pub stands : (n k : ℕ) (content : Option Ty) → content_of tables.decls n k ≡ Some content
      → slice_get tables.cases (case_number here n k) ≡ Some (record { enumeration = n; case = k })
  stands n k content is =
      ap (λ (l : List CasePlace). slice_get l (case_number here n k)) cases ∙ case_stands tables.decls n k content is

  pub is_tested : (n k : ℕ) → has_case tables.decls n k ≡ true
      → slice_get tables.cases (case_number here n k) ≡ Some (record { enumeration = n; case = k })
  is_tested n k is =
      ap (λ (l : List CasePlace). slice_get l (case_number here n k)) cases ∙ tested_stands tables.decls n k is

  -- an item that isn't a function is read from its slot
  pub read : (k : ℕ) (item : ItemDecl) (t : Form) (ls : List Form) → IsReady k
      → slice_get (scope_items tables.decls owner.scope) k ≡ Some item
      → is_function item ≡ false → item_form tables.decls item ≡ t → G (one (instr.Slot k)) ls t
  read k item t ls ready is plain form =
      gives_slot tables code Calls entry owner filled k t ls (ready.slot item is plain)
      (slot_of tables owner.scope k item is ∙ ap (λ (f : Form). Some f) form)

  -- an arm in front of those that are left
  pub arm_shape : (n : ℕ) (p : ArmPattern) (body : Expr) (ls ins : List Ty) (x : Option Ty) (t : Form)
      → ArmLocals tables.decls n p ls ins
      → Lowers ins body x t → (rest : Coded) → Matches tables code Calls entry owner filled rest (map F ls) n t
      → Matches tables code Calls entry owner filled
      (arm_code here n (length ls) p ((lowered here body).code (arm_types tables.decls n p ls) x) rest) (map F ls) n t
  arm_shape n pattern.Anything body ls ins x t is g rest others =
      matches_any tables code Calls entry owner filled ((lowered here body).code ls x) (map F ls) n t
      (subst (λ (l : List Ty). Lowers l body x t) is g)
  arm_shape n (pattern.Case k false) body ls ins x t is g rest others =
      matches_case tables code Calls entry owner filled (length ls) (case_number here n k) n k (map F ls) (deep ls)
      (is_tested n k is.0)
      ((lowered here body).code ls x) rest t (subst (λ (l : List Ty). Lowers l body x t) is.1 g) others
  arm_shape n (pattern.Case k true) body ls ins x t is g rest others =
      let agree = arm_types_are tables.decls n (pattern.Case k true) ls ins is in
      matches_content tables code Calls entry owner filled (length ls) (case_number here n k) n k (map F ls) (deep ls)
      (stands n k (Some is.0) is.1)
      is.0 is.1 ((lowered here body).code (arm_types tables.decls n (pattern.Case k true) ls) x) rest t
      (subst (λ (l : List Ty). G ((lowered here body).code l x) (map F ls ++ F is.0 ∷ []) t) (sym agree)
      (subst (λ (fs : List Form). G ((lowered here body).code ins x) fs t)
      (ap (map F) is.2 ∙ map_append F ls (is.0 ∷ [])) g)) others

  abbrev pub fields_of_all : List FieldValue → List (ℕ × Lowering)
  fields_of_all fs = map (λ f. (f.field, lowered here f.value)) fs

  abbrev pub arms_of : List Arm → List (ArmPattern × Lowering)
  arms_of arms = map (λ a. (a.pattern, lowered here a.body)) arms

  -- values of fields, with their types
  abbrev pub Typed_all : (ℕ → Option Ty) → List ℕ → List Form → Type 0
  Typed_all ts [] [] = Unit {0}
  Typed_all ts [] (t ∷ forms) = ⊥
  Typed_all ts (n ∷ ns) [] = ⊥
  Typed_all ts (n ∷ ns) (f ∷ forms) = ((t : Ty) × (ts n ≡ Some t) × (F t ≡ f)) × Typed_all ts ns forms

  pub record FieldsShaped (ls : List Ty) (ts : ℕ → Option Ty) (fs : List FieldValue) : Type 0 where
    pub forms : List Form
    pub typed : Typed_all ts (numbers_in fs) forms
    pub given : All (values_code (fields_code ts (fields_of_all fs) ls)) (map F ls) forms

  pub belong_all : (n : ℕ) (fields : List Field) → fields_of tables.decls n ≡ Some fields
      → (ns : List ℕ) (forms : List Form)
      → Typed_all (field_type tables.decls n) ns forms → Belong (forms_in F fields) ns forms
  belong_all n fields is [] [] h = tt
  belong_all n fields is [] (f ∷ forms) h = absurd h
  belong_all n fields is (k ∷ ns) [] h = absurd h
  belong_all n fields is (k ∷ ns) (f ∷ forms) h =
      let met = form_field tables.decls n k h.0.0 h.0.1 in
      let same : Some met.fields ≡ Some fields = sym met.declared ∙ is in
      let fields_same : met.fields ≡ fields = cc same in (
        subst (λ (l : List Field). form_at (forms_in F l) k ≡ Some f) fields_same
            (met.at ∙ ap (λ (g : Form). Some g) h.0.2),
        belong_all n fields is ns forms h.1,
      )

  pub passed_are : (s : ℕ) (fs : List FieldValue) (ls : List Ty)
      → passed_numbers tables code Calls entry owner filled
      (fields_code (input_type tables.decls s) (fields_of_all fs) ls) ≡ numbers_of (fields_of_all fs)
  passed_are s [] ls = refl
  passed_are s (f ∷ fs) ls = ap (λ (l : List ℕ). f.field ∷ l) (passed_are s fs ls)

  -- a match, whose subject becomes the next local name

  pub match_shape : (p : Pos) (e : Expr) (arms : List Arm) (n : ℕ) (t : Ty) (ls : List Ty) (x : Option Ty)
      → enumeration_in (out-Ty (type_of here e ls None)) ≡ n
      → Lowers ls e None (F (flat.Enumeration n))
      → Matches tables code Calls entry owner filled
      (arms_code here n (arms_type tables.decls (enumeration_in (out-Ty (type_of here e ls None)))
      (map (branch here) arms) ls x) (arms_of arms) ls x) (map F ls) n (F t)
      → Lowers ls (expr.Match p e arms) x (F t)
  match_shape p e arms n t ls x is subject each =
      let u = arms_type tables.decls (enumeration_in (out-Ty (type_of here e ls None))) (map (branch here) arms) ls x in
      let M : Coded → Type 0 = λ a. Matches tables code Calls entry owner filled a (map F ls) n (F t) in
      let matched : M (arms_code here (enumeration_in (out-Ty (type_of here e ls None))) u
      (map (branch here) arms) ls x)
      = subst (λ j. M (arms_code here j u (map (branch here) arms) ls x)) (sym is)
      (subst (λ (l : List (ArmPattern × Lowering)). M (arms_code here n u l ls x))
      (sym (branches_are here arms)) each) in
      let begun = alike _ (map F ls) _ _ (form_Enumeration tables.decls n) subject in
      formed _ ls x _ _ (lowered_Match here p e arms)
      (λ d stands.
      takes_then tables code Calls entry ((lowered here e).code ls None) _ (A (map F ls) d)
      (A (map F ls) (more (OneOf n) d)) (A (map F ls) (more (F t) d))
      (begun d stands)
      (takes_then tables code Calls entry (one instr.Bind) _ (A (map F ls) (more (OneOf n) d))
      (A (map F ls ++ OneOf n ∷ []) d) (A (map F ls) (more (F t) d))
      (takes_bind tables code Calls entry owner filled (map F ls) (OneOf n) d) (matched d stands)))

  -- loops over a list, whose tests and steps have more local names

  pub for_all_shape : (p : Pos) (l test : Expr) (t : Ty) (ls : List Ty) (x : Option Ty) → Low (ty.List t)
      → element_type (type_of here l ls None) ≡ t
      → Lowers ls l None (F (ty.List t)) → Lowers (ls ++ t ∷ []) test None (F flat.Boolean)
      → Lowers ls (expr.ForAll p l test) x (F flat.Boolean)
  for_all_shape p l test t ls x is agree all each =
      formed _ ls x _ _ (lowered_ForAll here p l test)
      (alike _ (map F ls) Truth _ (sym (form_Boolean tables.decls))
      (gives_all tables code Calls entry owner filled _ _ (F t) (map F ls)
      (alike _ (map F ls) _ _ (form_List tables.decls t is) all)
      (deeper ls t _ test None Truth agree (alike _ _ _ _ (form_Boolean tables.decls) each))))

  pub exists_shape : (p : Pos) (l test : Expr) (t : Ty) (ls : List Ty) (x : Option Ty) → Low (ty.List t)
      → element_type (type_of here l ls None) ≡ t
      → Lowers ls l None (F (ty.List t)) → Lowers (ls ++ t ∷ []) test None (F flat.Boolean)
      → Lowers ls (expr.Exists p l test) x (F flat.Boolean)
  exists_shape p l test t ls x is agree all each =
      formed _ ls x _ _ (lowered_Exists here p l test)
      (alike _ (map F ls) Truth _ (sym (form_Boolean tables.decls))
      (gives_any tables code Calls entry owner filled _ _ (F t) (map F ls)
      (alike _ (map F ls) _ _ (form_List tables.decls t is) all)
      (deeper ls t _ test None Truth agree (alike _ _ _ _ (form_Boolean tables.decls) each))))

  pub map_shape : (p : Pos) (l e : Expr) (t u : Ty) (ls : List Ty) (x : Option Ty) → Low (ty.List t) → Low (ty.List u)
      → element_type (type_of here l ls None) ≡ t
      → type_of here e (ls ++ element_type (type_of here l ls None) ∷ []) None ≡ u → Lowers ls l None (F (ty.List t))
      → Lowers (ls ++ t ∷ []) e None (F u)
      → Lowers ls (expr.Map p l e) x (F (ty.List u))
  map_shape p l e t u ls x is made element agree all each =
      formed _ ls x _ _ (lowered_Map here p l e)
      (subst (λ (v : Ty). G (then_code ((lowered here l).code ls None) (then_code (collecting v)
      (loop (led instr.Bind (then_code ((lowered here e).code (ls ++ element_type (type_of here l ls None) ∷ []) None)
      (led instr.Collect (one (instr.Drop 1))))))))
      (map F ls) (F (ty.List u))) (sym agree)
      (alike _ (map F ls) _ _ (sym (form_List tables.decls u made))
      (gives_map tables code Calls entry owner filled _ _ u (map F ls) (F t) made (empty_typed tables u made)
      (alike _ (map F ls) _ _ (form_List tables.decls t is) all)
      (deeper ls t _ e None (F u) element each))))

  pub filter_shape : (p : Pos) (l test : Expr) (t : Ty) (ls : List Ty) (x : Option Ty) → Low (ty.List t)
      → element_type (type_of here l ls None) ≡ t
      → Lowers ls l None (F (ty.List t)) → Lowers (ls ++ t ∷ []) test None (F flat.Boolean)
      → Lowers ls (expr.Filter p l test) x (F (ty.List t))
  filter_shape p l test t ls x is agree all each =
      formed _ ls x _ _ (lowered_Filter here p l test)
      (subst (λ (v : Ty). G (then_code ((lowered here l).code ls None) (then_code (collecting v)
      (loop (led instr.Bind (then_code
      ((lowered here test).code (ls ++ element_type (type_of here l ls None) ∷ []) None)
      (then_code (over (λ t. instr.JumpFalse t) (led (instr.Local (length ls)) (one instr.Collect)))
      (one (instr.Drop 1))))))))
      (map F ls) (F (ty.List t))) (sym agree)
      (alike _ (map F ls) _ _ (sym (form_List tables.decls t is))
      (gives_filter tables code Calls entry owner filled _ _ t (length ls) (map F ls) (deep ls) is
      (empty_typed tables t is)
      (alike _ (map F ls) _ _ (form_List tables.decls t is) all)
      (deeper ls t _ test None Truth agree (alike _ _ _ _ (form_Boolean tables.decls) each)))))

  pub combine_shape : (p : Pos) (l start e : Expr) (t u : Ty) (ls : List Ty) (x : Option Ty) → Low (ty.List t)
      → element_type (type_of here l ls None) ≡ t
      → type_of here start ls None ≡ u → Lowers ls l None (F (ty.List t)) → Lowers ls start None (F u)
      → Lowers (ls ++ t ∷ u ∷ []) e (Some u) (F u)
      → Lowers ls (expr.Combine p l start e) x (F u)
  combine_shape p l start e t u ls x is element agree all first each =
      formed _ ls x _ _ (lowered_Combine here p l start e)
      (gives_combine tables code Calls entry owner filled _ _ _ (length ls) (map F ls) (F t) (F u) (deep ls)
      (alike _ (map F ls) _ _ (form_List tables.decls t is) all) first
      (deeper_two ls t u _ _ e (F u) element agree each))

  -- calls

  pub call_shape : (p : Pos) (f : ℕ) (es : List Expr) (params : List Ty) (t : Ty) (ls : List Ty) (x : Option Ty)
      (decl : ItemDecl)
      → slice_get here.names.items f ≡ Some decl → decl.params ≡ params
      → IsCallable tables code Calls entry owner filled (function_number here f) params t
      → length params ≡ length es → All (arguments_code params (map (lowered here) es) ls) (map F ls) (map F params)
      → Lowers ls (expr.Call p f es) x (F t)
  call_shape p f es params t ls x decl is same callable counted given =
      formed _ ls x _ _ (lowered_Call here p f es)
      (subst (λ (ps : List Ty). G (then_code (arguments_code ps (map (lowered here) es) ls)
      (one (instr.Call (function_number here f) (length (map (lowered here) es))))) (map F ls) (F t))
      (sym same ∙ sym (ap params_of is))
      (gives_call tables code Calls entry owner filled _ (function_number here f)
      (length (map (lowered here) es)) params t (map F ls) callable
      (counted ∙ sym (length_map (lowered here) es)) given))

  pub scope_call_shape : (p : Pos) (s k : ℕ) (fs : List FieldValue) (t : Ty) (ls : List Ty) (x : Option Ty)
      → IsReached tables code Calls entry owner filled s
      → Passes tables code Calls entry owner filled s (fields_code (input_type tables.decls s) (fields_of_all fs) ls)
      (map F ls)
      → IsTrue (inputs_given 0 (scope_items tables.decls s) (numbers_in fs))
      → form_at (items_forms tables.decls (outputs_in (scope_items tables.decls s))) k ≡ Some (F t)
      → Lowers ls (expr.ScopeCall p s fs k) x (F t)
  scope_call_shape p s k fs t ls x reached met given output =
      formed _ ls x _ _ (lowered_ScopeCall here p s fs k)
      (subst (λ (l : List (ℕ × Lowering)). G
      (led (instr.Scope s) (then_code (pass_all (fields_code (input_type tables.decls s) l ls))
      (then_code (pass_absent 0 (numbers_of l) (scope_items tables.decls s)) (led instr.Enter (one (instr.Field k))))))
      (map F ls) (F t))
      (sym (fields_are here fs))
      (gives_scope_call tables code Calls entry owner filled s k
      (fields_code (input_type tables.decls s) (fields_of_all fs) ls) (numbers_of (fields_of_all fs))
      (F t) (map F ls) reached (passed_are s fs ls) met
      (subst (λ (l : List ℕ). IsTrue (inputs_given 0 (scope_items tables.decls s) l)) (sym (written here fs)) given)
      output))
