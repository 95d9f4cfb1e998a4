-- The places of the body of a scope: its items in their order fill their slots.
use Rattle.std.proofs.Common.{◌≡◌, ◌<◌, ℕ, zero, suc, ◌+◌, nat_lt, ◌||◌, ◌&&◌, Bool, true, false, true≢false, not}
use Rattle.std.proofs.Common.{IsTrue, List, [], ◌∷◌, ◌++◌, length, map, Option, Some, None, slice_get}
use Rattle.std.proofs.Common.{slice_set, refl, sym, ap, ◌∙◌, subst, arith, if◌then◌else◌}
use Rattle.cat_value.specs.declared.ty.Ty.{Ty}
use Rattle.cat_value.specs.declared.declaration.Kind.{Kind}
use Rattle.cat_value.specs.declared.declaration.Kind.TheVariants as kind
use Rattle.cat_value.specs.declared.declaration.ItemDecl.{ItemDecl}
use Rattle.cat_value.specs.declared.declaration.Scope.{Scope}
use Rattle.cat_value.specs.Inputs.{must_be_given, may_be_given}
use Rattle.cat_value.specs.Laws.{AreSound}
use Rattle.cat_scope.specs.Names.{AllHave, is_in, is_function, is_called, has_none, items_in, scope_items}
use Rattle.cat_scope.specs.Naming.{IsTargetAt, is_defined}
use Rattle.cat_scope.specs.WellFormed.{is_placed}
use Rattle.cat_sound.specs.LowTypes.{names_at}
use Rattle.cat_calc.specs.declared.calcs.CalcScope.{CalcScope}
use Rattle.cat_calc.specs.WellFormed.{items_needed}
use Rattle.cat_code.specs.declared.instr.Instr.{Instr}
use Rattle.cat_code.specs.declared.instr.Instr.TheVariants as instr
use Rattle.cat_code.specs.declared.code.Tables.{Tables}
use Rattle.cat_code.specs.Forms.{Form, form_of, slot_form}
use Rattle.cat_code.specs.Shapes.{Owner, PendingShape, Shape}
use Rattle.cat_code.specs.Places.{case_places, held_form, inner_of, called_scope, inner_item}
use Rattle.cat_code.specs.Leads.{leads, leads_two}
use Rattle.cat_code.specs.Flow.{flow}
use Rattle.cat_code.proofs.FormLaws.{same_self}
use Rattle.cat_lower.specs.Laying.{Coded, nothing, one, then_code, over}
use Rattle.cat_lower.specs.Pieces.{index_of}
use Rattle.cat_lower.specs.Terms.{target_code, context_code}
use Rattle.cat_lower.specs.Scopes.{ScopeStanding, target_at, term_at, variable_code, inner_code, inner_codes}
use Rattle.cat_lower.specs.Scopes.{stored_code}
use Rattle.cat_code.proofs.MeetingLaws.{meets_same}
use Rattle.cat_lower.proofs.ScopeTerms.{all_at}
use Rattle.cat_lower.proofs.Sketches.{Takes, takes_one, takes_then, takes_nothing, takes_over}
use Rattle.cat_lower.proofs.FormLaws.{form_boolean}
use Rattle.cat_lower.proofs.FilledSlots.{filled_from, filled_alike, filled_next, filled_still, filled_length, in_last}
use Rattle.cat_lower.proofs.FilledSlots.{index_within, behind_front}
use Rattle.cat_lower.proofs.Ranks.{order_of, local_rank, Calls, entry}
use Rattle.cat_lower.proofs.ShapedForms.{Deep, more, at, within_so}
use Rattle.cat_lower.proofs.ShapedParts.{slot_of, plain_form, not_called}
use Rattle.cat_lower.proofs.ShapedCalls.{takes_pass}
use Rattle.cat_lower.proofs.ShapedTargets.{context_takes}
use Rattle.cat_lower.proofs.ShapedItems.{ScopeFacts, standing, condition_boolean, target_gives, term_is}
use Rattle.cat_lower.proofs.ShapedItems.{own_form, order_is}

defined_not_called : (decl : ItemDecl) → is_defined decl ≡ true → is_called decl.kind ≡ false
defined_not_called decl so = by (is_called decl.kind) (must_be_given decl.kind) so
  where
    by : (a b : Bool) → (not a && not b) ≡ true → a ≡ false
    by true b e = absurd (true≢false (sym e))
    by false b e = refl

-- what is passed once the items from number j on are done
abbrev pub passed_from : ℕ → List ItemDecl → List Bool → List Bool
passed_from j [] q = q
passed_from j (item ∷ rest) q = passed_from (j + 1) rest (if must_be_given item.kind then slice_set q j true else q)

module _ (tables : Tables) (code : List Instr) (scopes : List CalcScope) (scope_order : List ℕ)
    (sound : AreSound tables.decls)
    (cases : tables.cases ≡ case_places 0 tables.decls.enumerations) (n functions definitions : ℕ) (terms : CalcScope)
    (facts : ScopeFacts tables scopes scope_order n functions definitions terms) where
  abbrev pub Items : List ItemDecl
  Items = scope_items tables.decls n

  abbrev pub Own : Owner
  Own = record { scope = n; function = None }

  abbrev pub M : Owner → Owner → Type 0
  M = Calls tables.decls scopes scope_order

  abbrev pub E : ℕ → Shape
  E = entry tables.decls scopes scope_order

  abbrev pub Shaped_with : List Bool → Deep → Shape
  Shaped_with done d = at tables code M E Own done [] d

  abbrev pub B : List PendingShape → Deep
  B ps = record { operands = []; defaults = []; loops = []; pending = ps }

  -- the body where some items are done
  abbrev pub Body : List ℕ → Shape
  Body done = Shaped_with (filled_from 0 Items done) (B [])

  abbrev pub T : Coded → Shape → Shape → Type 0
  T a s t = Takes tables code M E a s t

  abbrev pub F_of : Ty → Form
  F_of t = form_of tables.decls t

  abbrev pub standing_here : ScopeStanding
  standing_here = standing tables code scopes scope_order sound cases n functions definitions terms facts

  zero_before : (k : ℕ) → 0 + k ≡ k
  zero_before k = omega arith

  module _ (front : List ℕ) (k : ℕ) (rest : List ℕ) (split : terms.order ≡ front ++ k ∷ rest) (decl : ItemDecl)
      (is : slice_get Items k ≡ Some decl) where
    abbrev pub Done : List Bool
    Done = filled_from 0 Items front

    abbrev Next : List Bool
    Next = filled_from 0 Items (front ++ k ∷ [])

    alike : filled_from 0 Items (k ∷ front) ≡ Next
    alike = filled_alike 0 Items (k ∷ front) (front ++ k ∷ []) (λ j. in_last j k front)

    pub stored : is_function decl ≡ false → slice_set Done k true ≡ Next
    stored plain =
        filled_next 0 Items front k decl is plain ∙ ap (λ m. filled_from 0 Items (m ∷ front)) (zero_before k) ∙ alike

    pub still : (must_be_given decl.kind || is_function decl) ≡ true → Done ≡ Next
    still so =
        filled_still 0 Items front k decl is so ∙ ap (λ m. filled_from 0 Items (m ∷ front)) (zero_before k) ∙ alike

    pub rank : (j : ℕ) → is_in j front ≡ true → index_of j (order_of scopes n) < local_rank tables.decls scopes Own
    rank j there =
        subst (λ (l : List ℕ). index_of j l < length l)
        (sym (order_is tables code scopes scope_order sound cases n functions definitions terms facts ∙ split))
        (below (index_of j (front ++ k ∷ rest)) front (index_within j front (k ∷ rest) there))
      where
        below : (i : ℕ) (front : List ℕ) → i < length front → i < length (front ++ k ∷ rest)
        below i [] less = absurd (omega (arith, less))
        below zero (x ∷ front) less = omega arith
        below (suc i) (x ∷ front) less = let e = below i front (omega (arith, less)) in omega arith

    pub needs : AllHave (λ j. is_in j front ≡ true) (items_needed terms k)
    needs = behind_front (length Items) (items_needed terms) terms.order front k rest facts.order.behind split

    pub placed : is_placed decl ≡ true
    placed = all_at (λ item. IsTrue (is_placed item)) Items k decl facts.sound.placed is

    pub still_nothing : (must_be_given decl.kind || is_function decl) ≡ true
        → T nothing (Body front) (Body (front ++ k ∷ []))
    still_nothing so =
        subst (λ (done : List Bool). T nothing (Body front) (Shaped_with done (B []))) (still so)
        (takes_nothing tables code M E (Body front))

    -- a variable whose value is stored
    pub stored_takes : (ps : List Ty) → decl.params ≡ ps → is_defined decl ≡ true
        → T (stored_code standing_here k decl ps) (Body front) (Body (front ++ k ∷ []))
    stored_takes [] none defined =
        takes_then tables code M E (variable_code standing_here k decl) (one (instr.Store k)) (Body front)
        (Shaped_with Done (more (F_of decl.ty) (B [])))
        (Body (front ++ k ∷ []))
        (subst (λ (qs : List Ty). T (variable_code standing_here k decl)
        (at tables code M E Own Done (map F_of qs) (B []))
        (at tables code M E Own Done (map F_of qs) (more (F_of decl.ty) (B [])))) none
        (target_gives tables code scopes scope_order sound cases n functions definitions terms facts None front
        (k ∷ rest) split rank k None decl
        decl.params decl.ty decl.condition
        (record { decl = decl; decl_is = is; defined = defined; params_are = refl; ty_is = refl }) needs
        (ap (held_form tables.decls) is
        ∙ own_form tables code scopes scope_order sound cases n functions definitions terms facts None front
        (k ∷ rest) split rank decl placed)
        (λ e. form_boolean tables.decls decl.ty (condition_boolean decl placed e)) []))
        (takes_one tables code M E (instr.Store k) (Shaped_with Done (more (F_of decl.ty) (B [])))
        (Body (front ++ k ∷ []))
        (λ p. stores p) (λ all p. (tt, (refl, (tt, tt)))))
      where
        plain : is_function decl ≡ false
        plain = ap (λ (ps : List Ty). not (is_called decl.kind) && not (has_none ps)) none ∙ by (is_called decl.kind)
          where
            by : (b : Bool) → (not b && false) ≡ false
            by true = refl
            by false = refl

        slot : slot_form tables.decls n k ≡ Some (F_of decl.ty)
        slot =
            slot_of tables n k decl is
            ∙ ap (λ (f : Form). Some f) (plain_form tables decl (defined_not_called decl defined))

        stores : (p : ℕ) → flow tables code (instr.Store k) p (Shaped_with Done (more (F_of decl.ty) (B [])))
            ≡ leads (p + 1) (Body (front ++ k ∷ []))
        stores p =
            let same = same_self (F_of decl.ty) in
            let here = slot in
            rw (here, same) (ap (λ (done : List Bool). leads (p + 1) (Shaped_with done (B []))) (stored plain))
    stored_takes (t ∷ ts) some defined = still_nothing (or_so (must_be_given decl.kind) (is_function decl) function)
      where
        function : is_function decl ≡ true
        function =
            ap (λ (ps : List Ty). not (is_called decl.kind) && not (has_none ps)) some
            ∙ ap (λ b. not b && true) (defined_not_called decl defined)

        or_so : (a b : Bool) → b ≡ true → (a || b) ≡ true
        or_so true b e = refl
        or_so false b e = e

    -- a context, which may be there
    pub context_kept : is_defined decl ≡ true → is_function decl ≡ false
        → T (over (λ t. instr.Given k t) (stored_code standing_here k decl decl.params)) (Body front)
        (Body (front ++ k ∷ []))
    context_kept defined plain =
        takes_over tables code M E (λ t. instr.Given k t) (stored_code standing_here k decl decl.params) (Body front)
        (Body front) (Body (front ++ k ∷ []))
        (Body (front ++ k ∷ []))
        (record { jumps = λ q. refl; rules = λ p q. refl; free = λ all p q. tt; calls = λ o q. refl })
        (λ p q at. given p q) (meets_same (Body (front ++ k ∷ []))) (stored_takes decl.params refl defined)
      where
        below : nat_lt k (length Done) ≡ true
        below = ap (nat_lt k) (filled_length 0 Items front) ∙ within_so Items k decl is

        given : (p q : ℕ) → flow tables code (instr.Given k q) p (Body front)
            ≡ leads_two (p + 1) (Body front) q (Body (front ++ k ∷ []))
        given p q =
            let there = below in
            rw there (ap (λ (done : List Bool). leads_two (p + 1) (Body front) q (Shaped_with done (B [])))
            (stored plain))

    -- ---- a called scope

    module _ (c : ℕ) (kind_is : decl.kind ≡ kind.Called c) (scope : Scope)
        (scope_is : slice_get tables.decls.scopes c ≡ Some scope)
        (inner_placed : AllHave (λ item. IsTrue (is_placed item)) scope.items) where
      abbrev Inner : List ItemDecl
      Inner = scope_items tables.decls c

      pub inner_same : Inner ≡ scope.items
      inner_same = ap items_in scope_is

      -- something was passed to the called scope
      abbrev pub Waits : List Bool → Shape
      Waits q = Shaped_with Done (B (record { scope = c; passed = q } ∷ []))

      inner_target : (j : ℕ) (item : ItemDecl) → slice_get Inner j ≡ Some item → may_be_given item.kind ≡ true
          → IsTargetAt (names_at tables.decls n) k (Some j) [] item.ty
      inner_target j item is_item may = record {
        called = decl;
        scope = c;
        decl = item;
        called_is = is;
        kind_is = kind_is;
        decl_is = is_item;
        given = may;
        params_are = refl;
        ty_is = refl;
      }

      inner_form : (j : ℕ) (item : ItemDecl) → slice_get Inner j ≡ Some item
          → held_form tables.decls (inner_of tables.decls j (slice_get Items k)) ≡ Some (F_of item.ty)
      inner_form j item is_item =
          ap (λ (o : Option ItemDecl). held_form tables.decls (inner_of tables.decls j o)) is
          ∙ ap (λ (d : Kind). held_form tables.decls (inner_item tables.decls j (called_scope d))) kind_is
          ∙ ap (held_form tables.decls) is_item
          ∙ own_form tables code scopes scope_order sound cases n functions definitions terms facts None front
          (k ∷ rest) split rank item
          (all_at (λ item. IsTrue (is_placed item)) scope.items j item inner_placed
          (ap (λ (l : List ItemDecl). slice_get l j) (sym inner_same) ∙ is_item))

      pub inner_takes : (j : ℕ) (item : ItemDecl) (q : List Bool) → slice_get Inner j ≡ Some item
          → may_be_given item.kind ≡ true
          → T (inner_code standing_here k decl j item) (Waits q)
          (Waits (if must_be_given item.kind then slice_set q j true else q))
      inner_takes j item q is_item may = by (must_be_given item.kind)
        where
          slot : slot_form tables.decls c j ≡ Some (F_of item.ty)
          slot =
              slot_of tables c j item is_item
              ∙ ap (λ (f : Form). Some f) (plain_form tables item (not_called item.kind may))

          by : (b : Bool)
              → T (if b then then_code
              (target_code standing_here.here (target_at standing_here k (Some j) decl) item.ty [] item.condition
              (term_at standing_here k (Some j)))
              (one (instr.Pass j)) else context_code standing_here.here
              (target_at standing_here k (Some j) decl) item.ty j (term_at standing_here k (Some j)))
              (Waits q) (Waits (if b then slice_set q j true else q))
          by true =
              let waits = B (record { scope = c; passed = q } ∷ []) in
              takes_then tables code M E
              (target_code standing_here.here (target_at standing_here k (Some j) decl) item.ty [] item.condition
              (term_at standing_here k (Some j)))
              (one (instr.Pass j)) (Waits q) (Shaped_with Done (more (F_of item.ty) waits)) (Waits (slice_set q j true))
              (target_gives tables code scopes scope_order sound cases n functions definitions terms facts None front
              (k ∷ rest) split rank k (Some j) decl
              [] item.ty item.condition (inner_target j item is_item may) needs (inner_form j item is_item)
              (λ e. form_boolean tables.decls item.ty (condition_boolean item
              (all_at (λ item. IsTrue (is_placed item)) scope.items j item inner_placed
              (ap (λ (l : List ItemDecl). slice_get l j) (sym inner_same) ∙ is_item)) e))
              (record { scope = c; passed = q } ∷ []))
              (takes_pass tables code M E Own Done c j (F_of item.ty) q [] (B []) tt slot)
          by false =
              context_takes tables code M E Own Done standing_here.here
              (target_at standing_here k (Some j) decl) item.ty [] [] (F_of item.ty)
              (term_at standing_here k (Some j)) (inner_form j item is_item)
              (term_is tables code scopes scope_order sound cases n functions definitions terms facts None front
              (k ∷ rest) split rank k (Some j) decl [] item.ty
              (inner_target j item is_item may) needs (inner_form j item is_item))
              c j q [] [] slot

      must_may : (d : Kind) → may_be_given d ≡ false → must_be_given d ≡ false
      must_may kind.Internal may = refl
      must_may kind.Output may = refl
      must_may (kind.Called s) may = refl
      must_may kind.Input may = absurd (true≢false may)
      must_may kind.InputOutput may = absurd (true≢false may)
      must_may kind.Context may = refl
      must_may kind.ContextOutput may = refl

      pub inners_take : (j : ℕ) (rest : List ItemDecl) (q : List Bool)
          → ((i : ℕ) (item : ItemDecl) → slice_get rest i ≡ Some item → slice_get Inner (j + i) ≡ Some item)
          → T (inner_codes standing_here k decl j rest) (Waits q) (Waits (passed_from j rest q))
      inners_take j [] q there = takes_nothing tables code M E (Waits q)
      inners_take j (item ∷ rest) q there =
          by (may_be_given item.kind) refl (λ q. inners_take (j + 1) rest q (λ i x at. moved i x (there (suc i) x at)))
        where
          moved : (i : ℕ) (x : ItemDecl) → slice_get Inner (j + suc i) ≡ Some x → slice_get Inner ((j + 1) + i) ≡ Some x
          moved i x at = let e : (j + 1) + i ≡ j + suc i = omega arith in ap (λ m. slice_get Inner m) e ∙ at

          first : slice_get Inner j ≡ Some item
          first = let e : j ≡ j + 0 = omega arith in ap (λ m. slice_get Inner m) e ∙ there 0 item refl

          by : (b : Bool) → may_be_given item.kind ≡ b
              → ((q : List Bool) → T (inner_codes standing_here k decl (j + 1) rest) (Waits q)
              (Waits (passed_from (j + 1) rest q)))
              → T (if b then then_code (inner_code standing_here k decl j item)
              (inner_codes standing_here k decl (j + 1) rest)
              else inner_codes standing_here k decl (j + 1) rest) (Waits q)
              (Waits (passed_from (j + 1) rest (if must_be_given item.kind then slice_set q j true else q)))
          by true may more =
              takes_then tables code M E (inner_code standing_here k decl j item)
              (inner_codes standing_here k decl (j + 1) rest) (Waits q)
              (Waits (if must_be_given item.kind then slice_set q j true else q)) _ (inner_takes j item q first may)
              (more (if must_be_given item.kind then slice_set q j true else q))
          by false may more =
              subst (λ (b : Bool). T (inner_codes standing_here k decl (j + 1) rest) (Waits q)
              (Waits (passed_from (j + 1) rest (if b then slice_set q j true else q)))) (sym (must_may item.kind may))
              (more q)
