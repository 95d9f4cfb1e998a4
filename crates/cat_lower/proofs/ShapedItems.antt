-- The places of a scope: its functions, its items in their order, its assertions and its outputs.
use Rattle.std.proofs.Common.{◌≡◌, ◌<◌, ℕ, ◌+◌, ◌||◌, Bool, true, false, true≢false, not}
use Rattle.std.proofs.Common.{IfSome, IsTrue, List, [], ◌∷◌, ◌++◌, length, map, take, Option, Some, None}
use Rattle.std.proofs.Common.{slice_get, refl, sym, ap, ◌∙◌, subst, arith, if◌then◌else◌}
use Rattle.std.proofs.lemmas.Option.{slice_get_within}
use Rattle.cat_order.specs.Order.{times}
use Rattle.cat_value.specs.declared.ty.Ty.{Ty}
use Rattle.cat_value.specs.declared.ty.Ty.TheViews.{out-Ty}
use Rattle.cat_value.specs.declared.declaration.Kind.{Kind}
use Rattle.cat_value.specs.declared.declaration.Kind.TheVariants as kind
use Rattle.cat_value.specs.declared.declaration.ItemDecl.{ItemDecl}
use Rattle.cat_value.specs.declared.declaration.Scope.{Scope}
use Rattle.cat_value.specs.Declarations.{is_boolean}
use Rattle.cat_value.specs.Inputs.{must_be_given}
use Rattle.cat_value.specs.Laws.{AreSound}
use Rattle.cat_scope.specs.declared.defs.Assertion.{Assertion}
use Rattle.cat_scope.specs.Names.{AllHave, is_in, is_function, is_called, has_none, items_in, scope_items}
use Rattle.cat_scope.specs.Naming.{IsTargetAt}
use Rattle.cat_scope.specs.Mentions.{joined, items_named, scopes_named}
use Rattle.cat_scope.specs.Orders.{called_by_items}
use Rattle.cat_scope.specs.WellFormed.{is_placed, is_internal}
use Rattle.cat_sound.specs.LowTypes.{names_at}
use Rattle.cat_sound.proofs.LowTypes.{params_low}
use Rattle.cat_sound.proofs.Exported.{listed_in}
use Rattle.cat_sound.proofs.Exported.{all_back, all_front}
use Rattle.cat_calc.specs.declared.term.DefaultTerm.{DefaultTerm}
use Rattle.cat_calc.specs.declared.calcs.CalcScope.{CalcScope}
use Rattle.cat_calc.specs.Terms.{consequences_in}
use Rattle.cat_scope.specs.Judging.{Held}
use Rattle.cat_scope.specs.declared.expr.Expr.{Expr}
use Rattle.cat_code.proofs.FormLaws.{same_self}
use Rattle.cat_lower.specs.Terms.{target_code}
use Rattle.cat_calc.specs.WellFormed.{IsOrderOf, items_needed, named_by_items, scopes_called}
use Rattle.cat_code.specs.declared.instr.Instr.{Instr}
use Rattle.cat_code.specs.declared.instr.Instr.TheVariants as instr
use Rattle.cat_code.specs.declared.code.Tables.{Tables}
use Rattle.cat_code.specs.Forms.{Form, Truth, form_of}
use Rattle.cat_code.specs.Shapes.{Owner, PendingShape, Shape}
use Rattle.cat_code.specs.Places.{FunctionPlace, function_places, functions_in, case_places, held_form, target_form}
use Rattle.cat_code.specs.Told.{result_form}
use Rattle.cat_code.specs.Flow.{flow}
use Rattle.cat_lower.specs.Laying.{Coded, one}
use Rattle.cat_lower.specs.Pieces.{index_of}
use Rattle.cat_lower.specs.Scopes.{ScopeStanding, target_at, term_at, variable_code, function_code}
use Rattle.cat_lower.proofs.TypesAgree.{both_so}
use Rattle.cat_lower.proofs.ScopeTerms.{TermSound, ScopeSound, function_is_defined, all_at}
use Rattle.cat_lower.proofs.Sketches.{Takes, Laid, laid_then, sketch_step}
use Rattle.cat_lower.proofs.FormLaws.{form_boolean}
use Rattle.cat_lower.proofs.ShapedParts.{slot_of, plain_form}
use Rattle.cat_lower.proofs.FilledSlots.{filled_from, front_itself, index_within, index_behind, once_out, behind_front}
use Rattle.cat_lower.proofs.FilledSlots.{Split, split_at, in_front_of}
use Rattle.cat_lower.proofs.Ranks.{order_in, order_of, place_rank, local_rank, Calls, entry, function_shape}
use Rattle.cat_lower.proofs.Ranks.{calls_scope}
use Rattle.cat_lower.proofs.ReadyItems.{FunctionsStand, filled, term_shape, term_has, items_have, all_go}
use Rattle.cat_lower.proofs.ShapedForms.{Deep, more, at}
use Rattle.cat_lower.proofs.ShapedCalls.{IsReached}
use Rattle.cat_lower.proofs.ShapedExpressions.{here}
use Rattle.cat_lower.proofs.ShapedTerms.{base, IsTerm}
use Rattle.cat_lower.proofs.ShapedTargets.{target_takes}

-- a scope that stands in front in the order of the scopes
pub record IsBefore (tables : Tables) (scope_order : List ℕ) (n s : ℕ) : Type 0 where
  pub scope : Scope
  pub is : slice_get tables.decls.scopes s ≡ Some scope
  pub less : index_of s scope_order < index_of n scope_order
  pub placed : AllHave (λ item. IsTrue (is_placed item)) scope.items

-- what a scope's code stands on
pub record ScopeFacts (tables : Tables) (scopes : List CalcScope) (scope_order : List ℕ) (n functions definitions : ℕ)
    (terms : CalcScope) : Type 0 where
  pub terms_are : slice_get scopes n ≡ Some terms
  pub sound : ScopeSound tables (record {
    number = n;
    here =
        record {
          names = names_at tables.decls n;
          rounding = terms.rounding;
          functions = functions;
          definitions =
              definitions;
        };
    scope = terms;
  })
  pub order : IsOrderOf (length (scope_items tables.decls n)) (items_needed terms) terms.order
  pub stand : FunctionsStand tables n functions (scope_items tables.decls n)
  pub called : AllHave (IsBefore tables scope_order n) (scopes_called (scope_items tables.decls n) (Some terms))

given_not_called : (k : Kind) → must_be_given k ≡ true → is_called k ≡ false
given_not_called (kind.Called s) is = absurd (true≢false (sym is))
given_not_called kind.Input is = refl
given_not_called kind.InputOutput is = refl
given_not_called kind.Output is = refl
given_not_called kind.Internal is = refl
given_not_called kind.Context is = refl
given_not_called kind.ContextOutput is = refl

-- a condition is a boolean
pub condition_boolean : (item : ItemDecl) → is_placed item ≡ true → item.condition ≡ true
    → is_boolean (out-Ty item.ty) ≡ true
condition_boolean item placed condition =
    by item.condition condition
    (both_so (has_none item.params || is_internal item.kind)
    (not item.condition || is_boolean (out-Ty item.ty)) placed).1
  where
    by : (c : Bool) → c ≡ true → (not c || is_boolean (out-Ty item.ty)) ≡ true → is_boolean (out-Ty item.ty) ≡ true
    by true e so = so
    by false e so = absurd (true≢false (sym e))

module _ (tables : Tables) (code : List Instr) (scopes : List CalcScope) (scope_order : List ℕ)
    (sound : AreSound tables.decls)
    (cases : tables.cases ≡ case_places 0 tables.decls.enumerations) (n functions definitions : ℕ) (terms : CalcScope)
    (facts : ScopeFacts tables scopes scope_order n functions definitions terms) where
  abbrev pub items : List ItemDecl
  items = scope_items tables.decls n

  abbrev F : Ty → Form
  F t = form_of tables.decls t

  -- the scope as its code is told by it
  abbrev pub standing : ScopeStanding
  standing = record {
    number = n;
    here =
        record {
          names = names_at tables.decls n;
          rounding = terms.rounding;
          functions = functions;
          definitions =
              definitions;
        };
    scope = terms;
  }

  pub order_is : order_of scopes n ≡ terms.order
  order_is = ap order_in facts.terms_are

  -- a scope that is called is reached from each of its functions and from its body
  pub reached_by : (o : Option ℕ) (done : List Bool) (s : ℕ) → IsBefore tables scope_order n s
      → IsReached tables code (Calls tables.decls scopes scope_order) (entry tables.decls scopes scope_order)
      (record { scope = n; function = o }) done s
  reached_by o done s b = record {
    scope = b.scope;
    is = b.is;
    may = calls_scope tables.decls scopes scope_order (record { scope = n; function = o }) s b.less;
    boolean = λ k item item_is must condition.
        slot_of tables s k item (ap (λ (o : Option Scope). slice_get (items_in o) k) b.is ∙ item_is)
        ∙ ap (λ (f : Form). Some f) (plain_form tables item (given_not_called item.kind must)
        ∙ form_boolean tables.decls item.ty
        (condition_boolean item (all_at (λ item. IsTrue (is_placed item)) b.scope.items k item b.placed item_is)
        condition));
  }

  abbrev by_assertions : List ℕ
  by_assertions = joined (map (λ (a : Assertion). scopes_named a.condition) terms.assertions)

  pub called_terms : AllHave (IsBefore tables scope_order n) (named_by_items scopes_named terms.terms)
  called_terms =
      all_back (IsBefore tables scope_order n) (called_by_items items) (named_by_items scopes_named terms.terms)
      (all_front (IsBefore tables scope_order n)
      (called_by_items items ++ named_by_items scopes_named terms.terms) by_assertions facts.called)

  pub called_items : AllHave (IsBefore tables scope_order n) (called_by_items items)
  called_items =
      all_front (IsBefore tables scope_order n) (called_by_items items) (named_by_items scopes_named terms.terms)
      (all_front (IsBefore tables scope_order n)
      (called_by_items items ++ named_by_items scopes_named terms.terms) by_assertions facts.called)

  pub called_assertions : AllHave (IsBefore tables scope_order n) by_assertions
  called_assertions =
      all_back (IsBefore tables scope_order n)
      (called_by_items items ++ named_by_items scopes_named terms.terms) by_assertions facts.called

  -- ---- behind a front of the order

  module _ (o : Option ℕ) (front rest : List ℕ) (split : terms.order ≡ front ++ rest)
      (rank : (k : ℕ) → is_in k front ≡ true
      → index_of k (order_of scopes n) < local_rank tables.decls scopes (record { scope = n; function = o })) where
    abbrev pub split_of : order_of scopes n ≡ front ++ rest
    split_of = order_is ∙ split

    abbrev pub Own : Owner
    Own = record { scope = n; function = o }

    abbrev pub Done : List Bool
    Done = filled_from 0 items front

    abbrev pub M : Owner → Owner → Type 0
    M = Calls tables.decls scopes scope_order

    abbrev pub E : ℕ → Shape
    E = entry tables.decls scopes scope_order

    abbrev pub A : List Form → Deep → Shape
    A ls d = at tables code M E Own Done ls d

    abbrev pub T : Coded → Shape → Shape → Type 0
    T a s t = Takes tables code M E a s t

    abbrev B : Deep
    B = base tables code M E Own Done [] []

    abbrev Reached_here : ℕ → Type 0
    Reached_here s = IsReached tables code M E Own Done s

    abbrev IsTermOf : ℕ → Option ℕ → ItemDecl → List Ty → Ty → Type 0
    IsTermOf item inner decl params type =
        (form : target_form tables.decls (record { scope = n; item = item; inner = inner }) ≡ Some (F type)) (v : ℕ)
        (there : slice_get tables.targets v ≡ Some (target_at standing item inner decl))
        → IsTerm tables code M E Own Done (map F params) (F type)
        (record { here = standing.here; target = v; type = type; locals = params })
        (target_at standing item inner decl) there form (term_at standing item inner)

    pub term_is : (item : ℕ) (inner : Option ℕ) (decl : ItemDecl) (params : List Ty) (type : Ty)
        → IsTargetAt (names_at tables.decls n) item inner params type
        → AllHave (λ k. is_in k front ≡ true) (items_needed terms item) → IsTermOf item inner decl params type
    term_is item inner decl params type is needs form v there =
        by (term_at standing item inner) refl
        (facts.sound.terms (record { scope = n; item = item; inner = inner }) params type is)
      where
        by : (x : Option DefaultTerm) → term_at standing item inner ≡ x
            → IfSome x (TermSound tables definitions (names_at tables.decls n) params type)
            → IsTerm tables code M E Own Done (map F params) (F type)
            (record { here = standing.here; target = v; type = type; locals = params })
            (target_at standing item inner decl) there form x
        by None is_x so = tt
        by (Some term) is_x so =
            term_shape tables code scopes scope_order n o terms.rounding functions definitions sound cases front rest
            split_of rank facts.stand
            params type (params_low tables.decls sound n item inner params type is) v
            (target_at standing item inner decl) there form (Some term)
            so.typed (record { conditions = so.conditions; consequences = so.consequences })
            (λ t e. term_has (λ k. is_in k front ≡ true) items_named (slice_get terms.terms item) inner t needs
            (is_x ∙ e))
            (λ t e. term_has Reached_here scopes_named (slice_get terms.terms item) inner t
            (items_have Reached_here scopes_named terms.terms item
            (all_go (IsBefore tables scope_order n) Reached_here (named_by_items scopes_named terms.terms)
            (reached_by o Done) called_terms)) (is_x ∙ e))
            (λ t e. let same : term ≡ t = cc e in
            subst (λ (x : DefaultTerm). AllHave
            (λ (h : Held Expr). slice_get tables.definitions (definitions + h.number) ≡ Some h.pos)
            (consequences_in x)) same so.numbered)

    -- the value of a target whose term names what stands in front
    pub target_gives : (item : ℕ) (inner : Option ℕ) (decl : ItemDecl) (params : List Ty) (type : Ty) (condition : Bool)
        → IsTargetAt (names_at tables.decls n) item inner params type
        → AllHave (λ k. is_in k front ≡ true) (items_needed terms item)
        → target_form tables.decls (record { scope = n; item = item; inner = inner }) ≡ Some (F type)
        → (condition ≡ true → F type ≡ Truth)
        → (ps : List PendingShape)
        → T (target_code standing.here (target_at standing item inner decl) type params condition
        (term_at standing item inner))
        (A (map F params) (base tables code M E Own Done [] ps))
        (A (map F params) (more (F type) (base tables code M E Own Done [] ps)))
    target_gives item inner decl params type condition is needs form boolean ps =
        target_takes tables code M E Own Done standing.here (target_at standing item inner decl) type params
        (map F params) (F type)
        (term_at standing item inner) form (term_is item inner decl params type is needs form) condition [] ps boolean

    -- what a target of an item's own holds
    pub own_form : (decl : ItemDecl) → is_placed decl ≡ true → held_form tables.decls (Some decl) ≡ Some (F decl.ty)
    own_form decl placed = by decl.condition refl
      where
        by : (c : Bool) → decl.condition ≡ c → Some (if c then Truth else F decl.ty) ≡ Some (F decl.ty)
        by true e =
            ap (λ (f : Form). Some f) (sym (form_boolean tables.decls decl.ty (condition_boolean decl placed e)))
        by false e = refl

    -- gives back the one value that is left
    pub returns : (ls : List Form) (t : Form) → result_form tables Own ≡ Some t
        → Laid tables code M E (one instr.Return) (A ls (more t B)) (λ all p. Unit {0})
    returns ls t is ends has =
        sketch_step tables code M E ends instr.Return [] [] (A ls (more t B)) (λ all. Unit {0}) [] (flows ends.place) tt
        (λ all known after. tt)
        (λ all after. (tt, (refl, (tt, tt))))
      where
        flows : (p : ℕ) → flow tables code instr.Return p (A ls (more t B)) ≡ Some []
        flows p = let same = same_self t in rw (is, same) refl

  -- ---- functions

  module _ (k : ℕ) (decl : ItemDecl) (is : slice_get items k ≡ Some decl) where
    pub once : times terms.order k ≡ 1
    once = facts.order.once k (slice_get_within items k decl is)

    pub among : is_in k terms.order ≡ true
    among = listed_in terms.order k (omega (arith, once))

    abbrev pub parted : Split k terms.order
    parted = split_at k terms.order among

    out : is_in k parted.front ≡ false
    out = once_out k parted.front parted.rest (subst (λ (l : List ℕ). times l k ≡ 1) parted.is once)

    pub is_placed_so : is_placed decl ≡ true
    is_placed_so = all_at (λ item. IsTrue (is_placed item)) items k decl facts.sound.placed is

    pub needs_front : AllHave (λ j. is_in j parted.front ≡ true) (items_needed terms k)
    needs_front =
        behind_front (length items)
        (items_needed terms) terms.order parted.front k parted.rest facts.order.behind parted.is

    module _ (function : is_function decl ≡ true) where
      abbrev pub number : ℕ
      number = functions + length (functions_in 0 0 (take k items))

      abbrev place : FunctionPlace
      place = record { scope = n; item = k; decl = decl }

      is_place : slice_get (function_places tables.decls) number ≡ Some place
      is_place = facts.stand.place k decl is function

      whole : order_of scopes n ≡ parted.front ++ k ∷ parted.rest
      whole = order_is ∙ parted.is

      rank_of : (j : ℕ) → is_in j parted.front ≡ true
          → index_of j (order_of scopes n)
          < local_rank tables.decls scopes (record { scope = n; function = Some number })
      rank_of j there =
          subst (λ m. index_of j (order_of scopes n) < m)
          (sym (ap (place_rank scopes) is_place ∙ ap (index_of k) whole ∙ index_behind k parted.front parted.rest out))
          (subst (λ (l : List ℕ). index_of j l < length parted.front) (sym whole)
          (index_within j parted.front (k ∷ parted.rest) there))

      result : result_form tables (record { scope = n; function = Some number }) ≡ Some (F decl.ty)
      result = rw is_place refl

      -- a function, with these slots filled
      abbrev begun_with : List Bool → Shape
      begun_with done = record (function_shape tables.decls scopes scope_order number place) { filled = done }

      pub function_laid : Laid tables code (Calls tables.decls scopes scope_order)
          (entry tables.decls scopes scope_order) (function_code standing k decl)
          (function_shape tables.decls scopes scope_order number place) (λ all p. Unit {0})
      function_laid =
          subst (λ (done : List Bool). Laid tables code (Calls tables.decls scopes scope_order)
          (entry tables.decls scopes scope_order)
          (function_code standing k decl) (begun_with done) (λ all p. Unit {0}))
          (ap (λ (l : List ℕ). filled_from 0 items l)
          (sym (ap (in_front_of k) whole ∙ front_itself k parted.front parted.rest out)))
          (laid_then tables code (Calls tables.decls scopes scope_order) (entry tables.decls scopes scope_order)
          (variable_code standing k decl)
          (one instr.Return) _ _ (λ all p. Unit {0})
          (target_gives (Some number) parted.front
          (k ∷ parted.rest) parted.is rank_of k None decl decl.params decl.ty decl.condition
          (record {
            decl = decl;
            decl_is = is;
            defined = function_is_defined decl is_placed_so function;
            params_are =
                refl;
            ty_is = refl;
          })
          needs_front
          (ap (held_form tables.decls) is
          ∙ own_form (Some number) parted.front (k ∷ parted.rest) parted.is rank_of decl is_placed_so)
          (λ e. form_boolean tables.decls decl.ty (condition_boolean decl is_placed_so e)) [])
          (returns (Some number) parted.front (k ∷ parted.rest) parted.is rank_of (map F decl.params)
          (F decl.ty) result))
