-- All scopes of a calculus are kept at their spots.
use Rattle.std.proofs.Common.{◌≡◌, ◌<◌, ℕ, zero, suc, ◌+◌, nat_eq, Bool, true, false, true≢false, List, [], ◌∷◌, ◌++◌}
use Rattle.std.proofs.Common.{length, take, Option, Some, slice_get, refl, sym, ap, ◌∙◌, subst, arith, if◌then◌else◌}
use Rattle.std.proofs.lemmas.Bool.{eqb-true}
use Rattle.std.proofs.lemmas.Option.{slice_get_within}
use Rattle.cat_order.specs.Order.{times}
use Rattle.cat_value.specs.declared.decls.Decls.{Decls}
use Rattle.cat_value.specs.declared.declaration.ItemDecl.{ItemDecl}
use Rattle.cat_value.specs.declared.declaration.Scope.{Scope}
use Rattle.cat_value.specs.Laws.{AreSound}
use Rattle.cat_value.proofs.Exported.{found}
use Rattle.cat_scope.specs.Names.{AllHave, is_in, is_function, items_in, scope_items}
use Rattle.cat_sound.proofs.Exported.{listed_in}
use Rattle.cat_calc.specs.declared.calcs.CalcScope.{CalcScope}
use Rattle.cat_calc.specs.WellFormed.{IsCalc, IsOrderOf, items_needed, scopes_called}
use Rattle.cat_code.specs.declared.instr.Instr.{Instr}
use Rattle.cat_code.specs.declared.code.Tables.{Tables}
use Rattle.cat_code.specs.Shapes.{Owner, Shape}
use Rattle.cat_code.specs.Shaped.{scope_entry}
use Rattle.cat_code.specs.Places.{function_places, functions_from, functions_in, case_places}
use Rattle.cat_lower.specs.Laying.{Ends, Coded, end_of}
use Rattle.cat_lower.specs.Pieces.{index_of}
use Rattle.cat_lower.specs.Stands.{HasAt, Has}
use Rattle.cat_lower.specs.Scopes.{ScopeStanding, functions_code, function_entries}
use Rattle.cat_lower.specs.Definitions.{definitions_of}
use Rattle.cat_lower.specs.Lowered.{Laid, standing, scope_code, scopes_laid}
use Rattle.cat_lower.proofs.Places.{has_front, has_back, past_length, first_of, second_of}
use Rattle.cat_lower.proofs.ScopeTerms.{ScopeSound}
use Rattle.cat_lower.proofs.LaidScopes.{at_behind, count_alike, entries_counted, one_laid}
use Rattle.cat_lower.proofs.Whole.{scope_at, terms_for, all_below, scope_sound}
use Rattle.cat_lower.proofs.Spots.{Spots, Arrives}
use Rattle.cat_lower.proofs.FilledSlots.{split_at, once_out, behind_front, index_within, index_behind}
use Rattle.cat_lower.proofs.Ranks.{Calls, entry}
use Rattle.cat_lower.proofs.ReadyItems.{FunctionsStand, all_go}
use Rattle.cat_lower.proofs.ShapedItems.{IsBefore, ScopeFacts}
use Rattle.cat_lower.proofs.KeptScopes.{scope_kept, kept_then, behind_has, nothing_alone}
use Rattle.cat_lower.proofs.ValidCode.{AllKept}

-- what holds of all in a list holds of each of its numbers
all_in_list : (P : ℕ → Type 0) (xs : List ℕ) (n : ℕ) → AllHave P xs → is_in n xs ≡ true → P n
all_in_list P [] n h there = absurd (true≢false (sym there))
all_in_list P (x ∷ xs) n h there = by (nat_eq n x) refl (all_in_list P xs n h.1)
  where
    by : (b : Bool) → nat_eq n x ≡ b → (is_in n xs ≡ true → P n) → P n
    by true e later = subst P (sym (eqb-true n x e)) h.0
    by false e later = let t : is_in n xs ≡ true = rw e at there in later t

front_in : (n : ℕ) (front rest : List ℕ) → is_in n front ≡ true → is_in n (front ++ rest) ≡ true
front_in n [] rest there = absurd (true≢false (sym there))
front_in n (x ∷ front) rest there = by (nat_eq n x) refl (front_in n front rest)
  where
    by : (b : Bool) → nat_eq n x ≡ b → (is_in n front ≡ true → is_in n (front ++ rest) ≡ true)
        → is_in n ((x ∷ front) ++ rest) ≡ true
    by true e later = rw e refl
    by false e later = let t : is_in n front ≡ true = rw e at there in rw e (later t)

-- a function stands among those of its scope behind as many as stand in front of it
place_in : (n : ℕ) (items : List ItemDecl) (j k : ℕ) (item : ItemDecl) → slice_get items k ≡ Some item
    → is_function item ≡ true
    → slice_get (functions_in n j items) (length (functions_in 0 0 (take k items)))
    ≡ Some (record { scope = n; item = j + k; decl = item })
place_in n [] j k item is function = absurd (cc is)
place_in n (x ∷ items) j zero item is function =
    let same : x ≡ item = cc is in
    let e : j ≡ j + 0 = omega arith in
    by (is_function x) (ap is_function same ∙ function)
    ∙ ap (λ (i : ItemDecl). Some (record { scope = n; item = j; decl = i })) same
    ∙ ap (λ m. Some (record { scope = n; item = m; decl = item })) e
  where
    by : (b : Bool) → b ≡ true
        → slice_get (if b then record { scope = n; item = j; decl = x }
        ∷ functions_in n (j + 1) items else functions_in n (j + 1) items) 0
        ≡ Some (record { scope = n; item = j; decl = x })
    by true e = refl
    by false e = absurd (true≢false (sym e))
place_in n (x ∷ items) j (suc k) item is function =
    let e : (j + 1) + k ≡ j + suc k = omega arith in
    by (is_function x) (place_in n items (j + 1) k item is function) (count_alike (take k items) 0 (0 + 1) 0 0)
    ∙ ap (λ m. Some (record { scope = n; item = m; decl = item })) e
  where
    by : (b : Bool) → slice_get (functions_in n (j + 1) items) (length (functions_in 0 0 (take k items)))
        ≡ Some (record { scope = n; item = (j + 1) + k; decl = item })
        → length (functions_in 0 (0 + 1) (take k items)) ≡ length (functions_in 0 0 (take k items))
        → slice_get (if b then record { scope = n; item = j; decl = x }
        ∷ functions_in n (j + 1) items else functions_in n (j + 1) items)
        (length (if b then record { scope = 0; item = 0; decl = x }
        ∷ functions_in 0 (0 + 1) (take k items) else functions_in 0 (0 + 1) (take k items)))
        ≡ Some (record { scope = n; item = (j + 1) + k; decl = item })
    by true there same = ap (λ m. slice_get (functions_in n (j + 1) items) m) same ∙ there
    by false there same = ap (λ m. slice_get (functions_in n (j + 1) items) m) same ∙ there

module _ (tables : Tables) (code : List Instr) (scopes : List CalcScope) (scope_order : List ℕ)
    (sound : AreSound tables.decls)
    (cases : tables.cases ≡ case_places 0 tables.decls.enumerations)
    (formed : IsCalc tables.decls scopes scope_order) where
  abbrev ds : Decls
  ds = tables.decls

  abbrev M : Owner → Owner → Type 0
  M = Calls ds scopes scope_order

  abbrev E : ℕ → Shape
  E = entry ds scopes scope_order

  -- the scopes that a scope calls stand in front of it
  called_before : (n : ℕ) (scope : Scope) (terms : CalcScope) → slice_get ds.scopes n ≡ Some scope
      → slice_get scopes n ≡ Some terms
      → AllHave (IsBefore tables scope_order n) (scopes_called (scope_items ds n) (Some terms))
  called_before n scope terms is are =
      let once = formed.order.once n (slice_get_within ds.scopes n scope is) in
      let s = split_at n scope_order (listed_in scope_order n (omega (arith, once))) in
      let out = once_out n s.front s.rest (subst (λ (l : List ℕ). times l n ≡ 1) s.is once) in
      let below = all_below (length ds.scopes) _ [] scope_order formed.order.behind in
      subst (λ (o : Option CalcScope). AllHave (IsBefore tables scope_order n) (scopes_called (scope_items ds n) o)) are
      (all_go (λ k. is_in k s.front ≡ true) (IsBefore tables scope_order n) _
      (λ k there.
      let whole : is_in k scope_order ≡ true =
      ap (λ (l : List ℕ). is_in k l) s.is ∙ front_in k s.front (n ∷ s.rest) there in
      let at = found ds.scopes k (all_in_list (λ m. m < length ds.scopes) scope_order k below whole) in
      let own = terms_for ds ds.scopes scopes k at.0 formed.scopes_are at.1 in
      let low = index_within k s.front (n ∷ s.rest) there in
      let top = index_behind n s.front s.rest out in
      record {
        scope = at.0;
        is = at.1;
        less = subst (λ (l : List ℕ). index_of k l < index_of n l) (sym s.is) (omega (arith, low, top));
        placed = (scope_at ds ds.scopes scopes k at.0 own.0 formed.scopes_are at.1 own.1).placed;
      })
      (behind_front (length ds.scopes) _ scope_order s.front n s.rest formed.order.behind s.is))

  facts_of : (n functions definitions : ℕ) (scope : Scope) (terms : CalcScope) (ends : Ends)
      → slice_get ds.scopes n ≡ Some scope
      → slice_get scopes n ≡ Some terms
      → Has tables code ends (scope_code (standing ds n functions definitions scope terms) ends)
      → HasAt tables.functions functions
      (function_entries (standing ds n functions definitions scope terms) 0 scope.items ends)
      → slice_get tables.scopes n
      ≡ Some (end_of (functions_code (standing ds n functions definitions scope terms) 0 scope.items) ends).place
      → HasAt tables.definitions definitions (definitions_of terms.terms [])
      → HasAt (function_places ds) functions (functions_in n 0 scope.items)
      → ScopeFacts tables scopes scope_order n functions definitions terms
  facts_of n functions definitions scope terms ends is are has entries begin placed places =
      let formed_one = scope_at ds ds.scopes scopes n scope terms formed.scopes_are is are in
      let laid = one_laid tables code ds n functions definitions scope terms ends has entries begin in
      let same : scope_items ds n ≡ scope.items = ap items_in is in
      record {
        terms_are = are;
        sound = subst (λ (l : List ItemDecl). ScopeSound tables (record {
          number = n;
          here =
              record {
                names = record { decls = ds; items = l };
                rounding = terms.rounding;
                functions =
                    functions;
                definitions = definitions;
              };
          scope = terms;
        })) (sym same) (scope_sound tables ds n functions definitions scope terms formed_one placed);
        order =
            subst (λ (l : List ItemDecl). IsOrderOf (length l) (items_needed terms) terms.order)
            (sym same) formed_one.order;
        stand = subst (λ (l : List ItemDecl). FunctionsStand tables n functions l) (sym same) (record {
          place = λ k item at function.
              let z : 0 + k ≡ k = omega arith in
              at_behind (function_places ds) functions (functions_in n 0 scope.items)
              (length (functions_in 0 0 (take k scope.items))) _ places
              (place_in n scope.items 0 k item at function)
              ∙ ap (λ m. Some (record { scope = n; item = m; decl = item })) z;
          begin = λ k item at function. let f = laid.functions k item at function in (f.ends.place, f.entry);
        });
        called = called_before n scope terms is are;
      }

  -- a scope that has these items
  abbrev with_items : ℕ → ℕ → ℕ → CalcScope → List ItemDecl → ScopeStanding
  with_items n functions definitions terms items = record {
    number = n;
    here =
        record {
          names = record { decls = ds; items = items };
          rounding = terms.rounding;
          functions =
              functions;
          definitions = definitions;
        };
    scope = terms;
  }

  -- a scope alone
  abbrev alone : ℕ → ℕ → ℕ → CalcScope → List ItemDecl → Ends → Laid
  alone n functions definitions terms items ends = record {
    code = scope_code (with_items n functions definitions terms items) ends;
    functions = function_entries (with_items n functions definitions terms items) 0 items ends;
    scopes = (end_of (functions_code (with_items n functions definitions terms items) 0 items) ends).place ∷ [];
    definitions = [];
  }

  -- a scope of the calculus is kept
  one_kept : (n functions definitions : ℕ) (scope : Scope) (terms : CalcScope) (ends : Ends)
      → slice_get ds.scopes n ≡ Some scope
      → ScopeFacts tables scopes scope_order n functions definitions terms
      → Has tables code ends (scope_code (with_items n functions definitions terms scope.items) ends)
      → AllKept tables code M E ends (alone n functions definitions terms scope.items ends) functions n (scope ∷ [])
  one_kept n functions definitions scope terms ends is facts =
      subst (λ (l : List ItemDecl). Has tables code ends (scope_code (with_items n functions definitions terms l) ends)
      → AllKept tables code M E ends (alone n functions definitions terms l ends) functions n (scope ∷ []))
      (ap items_in is)
      (λ has.
      let k = scope_kept tables code scopes scope_order sound cases n functions definitions terms facts ends has in
      record {
        kept = k.laid;
        entered = k.entered;
        begun =
            λ all at. begun_by all (end_of
            (functions_code (with_items n functions definitions terms (scope_items ds n)) 0 (scope_items ds n))
            ends).place
            (k.begun all at);
        counted = refl;
      })
    where
      begun_by : (all : Spots) (p : ℕ) → Arrives all p (scope_entry n (scope_items ds n))
          → (i q : ℕ) (s : Scope) → slice_get (scope ∷ []) i ≡ Some s → slice_get (p ∷ []) i ≡ Some q
          → Arrives all q (scope_entry (n + i) s.items)
      begun_by all p first zero q s is_s is_q =
          let here : p ≡ q = cc is_q in
          let this : scope ≡ s = cc is_s in
          let z : n ≡ n + 0 = omega arith in
          subst (λ m. Arrives all q (scope_entry m s.items)) z
          (subst (λ (x : Scope). Arrives all q (scope_entry n x.items)) this
          (subst (λ (l : List ItemDecl). Arrives all q (scope_entry n l)) (ap items_in is)
          (subst (λ m. Arrives all m (scope_entry n (scope_items ds n))) here first)))
      begun_by all p first (suc i) q s is_s is_q = absurd (cc is_s)

  -- what holds of two lists by their numbers holds of one behind the other
  append_get : (xs ys : List ℕ) (P : ℕ → ℕ → Type 0) → ((i p : ℕ) → slice_get xs i ≡ Some p → P i p)
      → ((i p : ℕ) → slice_get ys i ≡ Some p → P (length xs + i) p) → (i p : ℕ) → slice_get (xs ++ ys) i ≡ Some p
      → P i p
  append_get [] ys P f g i p is = let z : length {A = ℕ} [] + i ≡ i = omega arith in subst (λ m. P m p) z (g i p is)
  append_get (x ∷ xs) ys P f g zero p is = f zero p is
  append_get (x ∷ xs) ys P f g (suc i) p is =
      append_get xs ys (λ j q. P (suc j) q) (λ j q at. f (suc j) q at)
      (λ j q at. let e : length (x ∷ xs) + j ≡ suc (length xs + j) = omega arith in subst (λ m. P m q) e (g j q at)) i p
      is

  pub all_kept : (ss : List Scope) (rest : List CalcScope) (n functions definitions : ℕ) (ends : Ends)
      → length ss ≡ length rest
      → Has tables code ends (scopes_laid ds n functions definitions ss rest ends).code
      → HasAt tables.functions functions (scopes_laid ds n functions definitions ss rest ends).functions
      → HasAt tables.scopes n (scopes_laid ds n functions definitions ss rest ends).scopes
      → HasAt tables.definitions definitions (scopes_laid ds n functions definitions ss rest ends).definitions
      → HasAt (function_places ds) functions (functions_from n ss)
      → ((i : ℕ) (s : Scope) → slice_get ss i ≡ Some s → slice_get ds.scopes (n + i) ≡ Some s)
      → ((i : ℕ) (t : CalcScope) → slice_get rest i ≡ Some t → slice_get scopes (n + i) ≡ Some t)
      → AllKept tables code M E ends (scopes_laid ds n functions definitions ss rest ends) functions n ss
  all_kept [] rest n functions definitions ends same has entries starts placed places there terms_there = record {
    kept = nothing_alone tables code M E ends;
    entered = λ all at i p is. absurd (cc is);
    begun = λ all at i p s is_s is. absurd (cc is_s);
    counted = refl;
  }
  all_kept (s ∷ ss) [] n functions definitions ends same has entries starts placed places there terms_there =
      absurd (omega (arith, same))
  all_kept (s ∷ ss) (t ∷ rest) n functions definitions ends same has entries starts placed places there terms_there =
      let at = standing ds n functions definitions s t in
      let next = functions + length (functions_in n 0 s.items) in
      let behind = definitions + length (definitions_of t.terms []) in
      let e1 = end_of (scope_code at) ends in
      let more = scopes_laid ds (n + 1) next behind ss rest e1 in
      let others : Coded = λ e. (scopes_laid ds (n + 1) next behind ss rest e).code in
      let own = function_entries at 0 s.items ends in
      let has_one = first_of tables code (scope_code at) others ends has in
      let is = first_there n (λ m. slice_get ds.scopes m ≡ Some s) (there 0 s refl) in
      let are = first_there n (λ m. slice_get scopes m ≡ Some t) (terms_there 0 t refl) in
      let facts =
      facts_of n functions definitions s t ends is are has_one
      (has_front tables.functions functions own more.functions entries) starts.0
      (has_front tables.definitions definitions (definitions_of t.terms []) more.definitions placed)
      (has_front (function_places ds) functions (functions_in n 0 s.items) (functions_from (n + 1) ss) places) in
      let one = one_kept n functions definitions s t ends is facts has_one in
      let counts : length own ≡ length (functions_in n 0 s.items) = entries_counted at s.items 0 ends n 0 in
      let later =
      all_kept ss rest (n + 1) next behind e1 (omega (arith, same))
      (second_of tables code (scope_code at) others ends has)
      (subst (λ m. HasAt tables.functions m more.functions) (past_length functions own ∙ ap (λ m. functions + m) counts)
      (has_back tables.functions functions own more.functions entries))
      starts.1
      (subst (λ m. HasAt tables.definitions m more.definitions) (past_length definitions (definitions_of t.terms []))
      (has_back tables.definitions definitions (definitions_of t.terms []) more.definitions placed))
      (subst (λ m. HasAt (function_places ds) m (functions_from (n + 1) ss))
      (past_length functions (functions_in n 0 s.items))
      (has_back (function_places ds) functions (functions_in n 0 s.items) (functions_from (n + 1) ss) places))
      (λ i x x_is. moved n i (λ m. slice_get ds.scopes m ≡ Some x) (there (suc i) x x_is))
      (λ i x x_is. moved n i (λ m. slice_get scopes m ≡ Some x) (terms_there (suc i) x x_is)) in
      record {
        kept = kept_then tables code M E ends (scope_code at) others one.kept later.kept;
        entered = λ all spots.
            append_get own more.functions (λ i p. Arrives all p (E (functions + i)))
            (one.entered all (has_front all ends.place one.kept.spots later.kept.spots spots))
            (λ i p p_is. let e : next + i ≡ functions + (length own + i) = omega (arith, counts) in
            subst (λ m. Arrives all p (E m)) e
            (later.entered all (behind_has tables code M E ends
            (scope_code at) others one.kept later.kept all spots) i p p_is));
        begun = λ all spots.
            begins_by n s ss more.scopes (end_of (functions_code at 0 s.items) ends).place all
            (λ z. one.begun all (has_front all ends.place one.kept.spots later.kept.spots spots) 0
            (end_of (functions_code at 0 s.items) ends).place s refl refl)
            (later.begun all (behind_has tables code M E ends (scope_code at) others one.kept later.kept all spots));
        counted = ap suc later.counted;
      }
    where
      first_there : (n : ℕ) (P : ℕ → Type 0) → P (n + 0) → P n
      first_there n P h = let z : n + 0 ≡ n = omega arith in subst P z h

      moved : (n i : ℕ) (P : ℕ → Type 0) → P (n + suc i) → P ((n + 1) + i)
      moved n i P h = let z : n + suc i ≡ (n + 1) + i = omega arith in subst P z h

      begins_by : (n : ℕ) (s : Scope) (ss : List Scope) (ps : List ℕ) (start : ℕ) (all : Spots)
          → (Unit {0} → Arrives all start (scope_entry (n + 0) s.items))
          → ((i p : ℕ) (x : Scope) → slice_get ss i ≡ Some x → slice_get ps i ≡ Some p
          → Arrives all p (scope_entry ((n + 1) + i) x.items))
          → (i p : ℕ) (x : Scope) → slice_get (s ∷ ss) i ≡ Some x → slice_get (start ∷ ps) i ≡ Some p
          → Arrives all p (scope_entry (n + i) x.items)
      begins_by n s ss ps start all first later zero p x is_x is_p =
          let here : start ≡ p = cc is_p in
          let this : s ≡ x = cc is_x in
          subst (λ m. Arrives all m (scope_entry (n + 0) x.items)) here
          (subst (λ (y : Scope). Arrives all start (scope_entry (n + 0) y.items)) this (first tt))
      begins_by n s ss ps start all first later (suc i) p x is_x is_p =
          let z : (n + 1) + i ≡ n + suc i = omega arith in
          subst (λ m. Arrives all p (scope_entry m x.items)) z (later i p x is_x is_p)
