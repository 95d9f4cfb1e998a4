-- What the terms of a scope name is ready where their items stand in its order.
use Rattle.std.proofs.Common.{◌≡◌, ◌<◌, ℕ, zero, suc, ◌+◌, Bool, true, false, IfSome, IsTrue, List, [], ◌∷◌, ◌++◌}
use Rattle.std.proofs.Common.{length, map, take, Option, Some, None, slice_get, refl, sym, ap, ◌∙◌, subst, arith}
use Rattle.cat_date.specs.declared.rounding.Rounding.{Rounding}
use Rattle.cat_value.specs.declared.ty.Ty.{Ty}
use Rattle.cat_value.specs.declared.ty.Ty.TheVariants as flat
use Rattle.cat_value.specs.declared.declaration.ItemDecl.{ItemDecl}
use Rattle.cat_value.specs.Laws.{AreSound}
use Rattle.cat_scope.specs.declared.expr.Expr.{Expr}
use Rattle.cat_scope.specs.Judging.{Held}
use Rattle.cat_scope.specs.Names.{AllHave, is_in, is_function, scope_items}
use Rattle.cat_scope.specs.HasType.{HasType}
use Rattle.cat_scope.specs.Expected.{lists_placed}
use Rattle.cat_scope.specs.Mentions.{joined, items_named, scopes_named}
use Rattle.cat_sound.specs.LowTypes.{IsLow, names_at}
use Rattle.cat_sound.proofs.Exported.{all_back, all_front}
use Rattle.cat_calc.specs.declared.term.DefaultTerm.{DefaultTerm}
use Rattle.cat_calc.specs.declared.calcs.ItemTerms.{ItemTerms}
use Rattle.cat_calc.specs.declared.calcs.CalcScope.{CalcScope}
use Rattle.cat_calc.specs.Terms.{conditions_in, consequences_in, named_in}
use Rattle.cat_calc.specs.Reducing.{term_among}
use Rattle.cat_calc.specs.WellFormed.{all_terms, named_in_all, named_by_terms, named_by_items, TermTyped, TermPlaced}
use Rattle.cat_code.specs.declared.instr.Instr.{Instr}
use Rattle.cat_code.specs.declared.code.TargetEntry.{TargetEntry}
use Rattle.cat_code.specs.declared.code.Tables.{Tables}
use Rattle.cat_code.specs.Forms.{Form, form_of}
use Rattle.cat_code.specs.Shapes.{Owner, Shape, Meets}
use Rattle.cat_code.specs.Places.{FunctionPlace, function_places, functions_in, case_places, target_form}
use Rattle.cat_lower.specs.Pieces.{index_of}
use Rattle.cat_lower.specs.Terms.{TermStanding}
use Rattle.cat_lower.proofs.ScopeTerms.{all_at}
use Rattle.cat_lower.proofs.FilledSlots.{filled_from, filled_read, filled_more, in_front_of, front_within}
use Rattle.cat_lower.proofs.Ranks.{order_of, place_rank, local_rank, Calls, entry, entry_is, calls_function}
use Rattle.cat_lower.proofs.ShapedForms.{within_so}
use Rattle.cat_lower.proofs.ShapedRows.{IsCallable, begun}
use Rattle.cat_lower.proofs.ShapedCalls.{IsReached}
use Rattle.cat_lower.proofs.ShapedNames.{IsReady}
use Rattle.cat_lower.proofs.ShapedExpressions.{here, Names_ready, shapes, truth_shape}
use Rattle.cat_lower.proofs.ShapedTerms.{IsCondition, IsConsequence, IsTerm}

-- ---- what is named

terms_have : (P : ℕ → Type 0) (named : Expr → List ℕ) (terms : List DefaultTerm) → AllHave P (named_in_all named terms)
    → AllHave (λ term. AllHave P (named_in named term)) terms
terms_have P named [] h = tt
terms_have P named (term ∷ terms) h = (
  all_front P (named_in named term) (named_in_all named terms) h,
  terms_have P named terms (all_back P (named_in named term) (named_in_all named terms) h),
)

-- what the terms of an item name, each of them names
pub term_has : (P : ℕ → Type 0) (named : Expr → List ℕ) (o : Option ItemTerms) (inner : Option ℕ) (term : DefaultTerm)
    → AllHave P (named_by_terms named o) → term_among o inner ≡ Some term → AllHave P (named_in named term)
term_has P named None inner term h is = absurd (cc is)
term_has P named (Some terms) None term h is =
    let same : terms.own ≡ term = cc is in
    subst (λ (x : DefaultTerm). AllHave P (named_in named x)) same (terms_have P named (all_terms terms) h).0
term_has P named (Some terms) (Some n) term h is =
    all_at (λ x. AllHave P (named_in named x)) terms.inner n term (terms_have P named (all_terms terms) h).1 is

pub items_have : (P : ℕ → Type 0) (named : Expr → List ℕ) (items : List ItemTerms) (k : ℕ)
    → AllHave P (named_by_items named items)
    → AllHave P (named_by_terms named (slice_get items k))
items_have P named [] k h = tt
items_have P named (terms ∷ items) zero h =
    all_front P (named_in_all named (all_terms terms)) (named_by_items named items) h
items_have P named (terms ∷ items) (suc k) h =
    items_have P named items k (all_back P (named_in_all named (all_terms terms)) (named_by_items named items) h)

pub joined_have : {A : Type 0} (P : ℕ → Type 0) (f : A → List ℕ) (xs : List A) → AllHave P (joined (map f xs))
    → AllHave (λ x. AllHave P (f x)) xs
joined_have P f [] h = tt
joined_have P f (x ∷ xs) h =
    (all_front P (f x) (joined (map f xs)) h, joined_have P f xs (all_back P (f x) (joined (map f xs)) h))

pub all_go : {A : Type 0} (P Q : A → Type 0) (xs : List A) → ((x : A) → P x → Q x) → AllHave P xs → AllHave Q xs
all_go P Q [] go h = tt
all_go P Q (x ∷ xs) go h = (go x h.0, all_go P Q xs go h.1)

-- items whose functions stand at their entries
pub record FunctionsStand (tables : Tables) (n functions : ℕ) (items : List ItemDecl) : Type 0 where
  pub place : (k : ℕ) (item : ItemDecl) → slice_get items k ≡ Some item → is_function item ≡ true
      → slice_get (function_places tables.decls) (functions + length (functions_in 0 0 (take k items)))
      ≡ Some (record { scope = n; item = k; decl = item })
  pub begin : (k : ℕ) (item : ItemDecl) → slice_get items k ≡ Some item → is_function item ≡ true
      → (p : ℕ) × (slice_get tables.functions (functions + length (functions_in 0 0 (take k items))) ≡ Some p)

module _ (tables : Tables) (code : List Instr) (scopes : List CalcScope) (scope_order : List ℕ) (n : ℕ) (o : Option ℕ)
    (rounding : Rounding)
    (functions definitions : ℕ) (sound : AreSound tables.decls)
    (cases : tables.cases ≡ case_places 0 tables.decls.enumerations)
    (front rest : List ℕ) (split : order_of scopes n ≡ front ++ rest)
    (rank : (k : ℕ) → is_in k front ≡ true
    → index_of k (order_of scopes n) < local_rank tables.decls scopes (record { scope = n; function = o }))
    (stand : FunctionsStand tables n functions (scope_items tables.decls n)) where
  abbrev pub owner : Owner
  owner = record { scope = n; function = o }

  abbrev pub items : List ItemDecl
  items = scope_items tables.decls n

  abbrev pub filled : List Bool
  filled = filled_from 0 items front

  abbrev pub May : Owner → Owner → Type 0
  May = Calls tables.decls scopes scope_order

  abbrev pub Begin : ℕ → Shape
  Begin = entry tables.decls scopes scope_order

  abbrev pub Ready : ℕ → Type 0
  Ready k = IsReady tables code May Begin owner filled rounding functions definitions sound cases k

  abbrev pub Reached : ℕ → Type 0
  Reached s = IsReached tables code May Begin owner filled s

  zero_before : (k : ℕ) → 0 + k ≡ k
  zero_before k = omega arith

  abbrev number : ℕ → ℕ
  number k = functions + length (functions_in 0 0 (take k items))

  callable : (k : ℕ) (item : ItemDecl) → slice_get items k ≡ Some item → is_function item ≡ true → is_in k front ≡ true
      → IsCallable tables code May Begin owner filled (number k) item.params item.ty
  callable k item is function there =
      let place : FunctionPlace = record { scope = n; item = k; decl = item } in
      let is_place = stand.place k item is function in
      let begin = stand.begin k item is function in
      record {
        place = place;
        is_place = is_place;
        begin = begin.0;
        is_entry = begin.1;
        scope = refl;
        params_are = refl;
        ty_is = refl;
        meets = subst (λ (s : Shape). Meets (begun tables code May Begin owner filled (number k) place) s)
            (sym (entry_is tables.decls scopes scope_order (number k) place is_place))
            (record {
              owner = refl;
              operands = refl;
              locals = refl;
              filled = filled_more 0 items (in_front_of k (order_of scopes n)) front
                  (λ j among. front_within j k front rest there
                  (ap (λ (l : List ℕ). is_in j (in_front_of k l)) (sym split) ∙ among));
              defaults = tt;
              loops = refl;
              pending = tt;
            });
        may = calls_function tables.decls scopes scope_order owner (number k)
            (subst (λ m. m < local_rank tables.decls scopes owner) (sym (ap (place_rank scopes) is_place))
            (rank k there));
      }

  pub ready : (k : ℕ) → is_in k front ≡ true → Ready k
  ready k there = record {
    slot = λ item is plain. filled_read 0 items front k item is (ap (λ m. is_in m front) (zero_before k) ∙ there) plain;
    callee = λ item is function. callable k item is function there;
  }

  -- ---- terms

  -- where a term of the scope stands
  abbrev pub standing_of : ℕ → Ty → List Ty → TermStanding
  standing_of v type params =
      record {
        here = here tables code May Begin owner filled rounding functions definitions sound cases;
        target =
            v;
        type = type;
        locals = params;
      }

  -- an expression whose items stand in front, and whose scopes may be called
  pub named_ready : (e : Expr) → AllHave (λ k. is_in k front ≡ true) (items_named e) → AllHave Reached (scopes_named e)
      → Names_ready tables code May Begin owner filled rounding functions definitions sound cases e
  named_ready e its scs =
      record { items = all_go (λ k. is_in k front ≡ true) Ready (items_named e) ready its; scopes = scs }

  module _ (params : List Ty) (type : Ty) (lows : AllHave (IsLow tables.decls) params) (v : ℕ) (target : TargetEntry)
      (there : slice_get tables.targets v ≡ Some target)
      (form : target_form tables.decls target.target ≡ Some (form_of tables.decls type)) where
    abbrev ls : List Form
    ls = map (form_of tables.decls) params

    abbrev C : Expr → Type 0
    C e = IsCondition tables code May Begin owner filled ls (form_of tables.decls type)
        (standing_of v type params) target there form e

    abbrev V : Held Expr → Type 0
    V h = IsConsequence tables code May Begin owner filled ls (form_of tables.decls type)
        (standing_of v type params) target there form h

    conditions : (es : List Expr) → AllHave (λ e. HasType (names_at tables.decls n) params e flat.Boolean) es
        → AllHave (λ e. IsTrue (lists_placed e false)) es
        → AllHave (λ e. AllHave (λ k. is_in k front ≡ true) (items_named e)) es
        → AllHave (λ e. AllHave Reached (scopes_named e)) es → AllHave C es
    conditions [] g p its scs = tt
    conditions (e ∷ es) g p its scs = (
      truth_shape tables code May Begin owner filled rounding functions definitions sound cases g.0 p.0 lows
          (named_ready e its.0 scs.0),
      conditions es g.1 p.1 its.1 scs.1,
    )

    consequences : (hs : List (Held Expr)) → AllHave (λ h. HasType (names_at tables.decls n) params h.value type) hs
        → AllHave (λ h. IsTrue (lists_placed h.value true)) hs
        → AllHave (λ (h : Held Expr). AllHave (λ k. is_in k front ≡ true) (items_named h.value)) hs
        → AllHave (λ (h : Held Expr). AllHave Reached (scopes_named h.value)) hs
        → AllHave (λ (h : Held Expr). slice_get tables.definitions (definitions + h.number) ≡ Some h.pos) hs
        → AllHave V hs
    consequences [] g p its scs numbered = tt
    consequences (h ∷ hs) g p its scs numbered = (
      record {
        given =
            shapes tables code May Begin owner filled rounding functions definitions sound cases g.0
            (Some type) refl p.0 lows
            (named_ready h.value its.0 scs.0);
        numbered = within_so tables.definitions (definitions + h.number) h.pos numbered.0;
      },
      consequences hs g.1 p.1 its.1 scs.1 numbered.1,
    )

    -- a term that is typed and placed, names what is ready, and has its definitions at their numbers
    pub term_shape : (o : Option DefaultTerm) → IfSome o (TermTyped (names_at tables.decls n) params type)
        → IfSome o TermPlaced
        → ((term : DefaultTerm) → o ≡ Some term → AllHave (λ k. is_in k front ≡ true) (named_in items_named term))
        → ((term : DefaultTerm) → o ≡ Some term → AllHave Reached (named_in scopes_named term))
        → ((term : DefaultTerm) → o ≡ Some term
        → AllHave (λ (h : Held Expr). slice_get tables.definitions (definitions + h.number) ≡ Some h.pos)
        (consequences_in term))
        → IsTerm tables code May Begin owner filled ls (form_of tables.decls type)
        (standing_of v type params) target there form o
    term_shape None typed placed its scs numbered = tt
    term_shape (Some term) typed placed its scs numbered =
        let i = its term refl in
        let s = scs term refl in
        let In : ℕ → Type 0 = λ k. is_in k front ≡ true in
        let ci = joined (map items_named (conditions_in term)) in
        let vi = joined (map (λ (h : Held Expr). items_named h.value) (consequences_in term)) in
        let cs = joined (map scopes_named (conditions_in term)) in
        let vs = joined (map (λ (h : Held Expr). scopes_named h.value) (consequences_in term)) in (
          conditions (conditions_in term) typed.conditions placed.conditions
              (joined_have In items_named (conditions_in term) (all_front In ci vi i))
              (joined_have Reached scopes_named (conditions_in term) (all_front Reached cs vs s)),
          consequences (consequences_in term) typed.consequences placed.consequences
              (joined_have In (λ (h : Held Expr). items_named h.value) (consequences_in term) (all_back In ci vi i))
              (joined_have Reached (λ (h : Held Expr). scopes_named h.value) (consequences_in term)
              (all_back Reached cs vs s))
              (numbered term refl),
        )
