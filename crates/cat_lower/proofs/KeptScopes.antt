-- Scopes that are laid one behind the other are kept at their spots, and each function and scope begins with its shape.
use Rattle.std.proofs.Common.{◌≡◌, ℕ, zero, suc, ◌+◌, Bool, true, false, List, [], ◌∷◌, ◌++◌, length, take, Some}
use Rattle.std.proofs.Common.{slice_get, refl, sym, ap, ◌∙◌, subst, arith, if◌then◌else◌}
use Rattle.cat_value.specs.declared.declaration.ItemDecl.{ItemDecl}
use Rattle.cat_value.specs.Laws.{AreSound}
use Rattle.cat_scope.specs.Names.{AllHave, is_function, scope_items}
use Rattle.cat_calc.specs.declared.calcs.CalcScope.{CalcScope}
use Rattle.cat_code.specs.declared.instr.Instr.{Instr}
use Rattle.cat_code.specs.declared.code.Tables.{Tables}
use Rattle.cat_code.specs.Shapes.{Owner, Shape}
use Rattle.cat_code.specs.Places.{case_places, functions_in}
use Rattle.cat_code.specs.Shaped.{scope_entry}
use Rattle.cat_lower.specs.Laying.{Ends, Parts, Coded, past, then_code, end_of}
use Rattle.cat_lower.specs.Stands.{HasAt, Has}
use Rattle.cat_lower.specs.Scopes.{ScopeStanding, function_code, functions_code, function_entries}
use Rattle.cat_lower.specs.Lowered.{body_code, scope_code}
use Rattle.cat_lower.proofs.Places.{has_front, has_back, first_of, second_of, past_append}
use Rattle.cat_lower.proofs.LaidScopes.{count_alike}
use Rattle.cat_lower.proofs.Spots.{Spots, Arrives, AreKept, AreEntered, IsConstant, IsTargetEntry}
use Rattle.cat_lower.proofs.Sketches.{Sketch, all_both, kept_both}
use Rattle.cat_lower.proofs.Ranks.{Calls, entry, entry_is, function_shape}
use Rattle.cat_lower.proofs.ShapedItems.{ScopeFacts, standing, function_laid}
use Rattle.cat_lower.proofs.ShapedOutputs.{body_laid}

-- one more function among the first items
count_next : (items : List ItemDecl) (j : ℕ) (item : ItemDecl) → slice_get items j ≡ Some item
    → length (functions_in 0 0 (take (suc j) items))
    ≡ length (functions_in 0 0 (take j items)) + (if is_function item then 1 else 0)
count_next [] j item is = absurd (cc is)
count_next (x ∷ items) zero item is =
    let same : x ≡ item = cc is in
    by (is_function x) ∙ ap (λ (i : ItemDecl). 0 + (if is_function i then 1 else 0)) same
  where
    by : (b : Bool) → length
        (if b then record { scope = 0; item = 0; decl = x }
        ∷ functions_in 0 (0 + 1) (take zero items) else functions_in 0 (0 + 1) (take zero items))
        ≡ 0 + (if b then 1 else 0)
    by true = refl
    by false = refl
count_next (x ∷ items) (suc j) item is =
    by (is_function x) (count_next items j item is) (count_alike (take (suc j) items) 0 (0 + 1) 0 0)
    (count_alike (take j items) 0 (0 + 1) 0 0)
  where
    by : (b : Bool)
        → length (functions_in 0 0 (take (suc j) items))
        ≡ length (functions_in 0 0 (take j items)) + (if is_function item then 1 else 0)
        → length (functions_in 0 (0 + 1) (take (suc j) items)) ≡ length (functions_in 0 0 (take (suc j) items))
        → length (functions_in 0 (0 + 1) (take j items)) ≡ length (functions_in 0 0 (take j items))
        → length (if b then record { scope = 0; item = 0; decl = x }
        ∷ functions_in 0 (0 + 1) (take (suc j) items) else functions_in 0 (0 + 1) (take (suc j) items))
        ≡ length (if b then record { scope = 0; item = 0; decl = x }
        ∷ functions_in 0 (0 + 1) (take j items) else functions_in 0 (0 + 1) (take j items))
        + (if is_function item then 1 else 0)
    by true e f g = omega (arith, e, f, g)
    by false e f g = f ∙ e ∙ ap (λ m. m + (if is_function item then 1 else 0)) (sym g)

module _ (tables : Tables) (code : List Instr) (M : Owner → Owner → Type 0) (E : ℕ → Shape) where
  -- what is laid is kept at its spots, whatever comes behind it
  pub record Kept (ends : Ends) (a : Parts) : Type 0 where
    pub spots : Spots
    pub as_long : (m : ℕ) → past m spots ≡ past m a.instructions
    pub kept : (all : Spots) → AreEntered tables code M E all → HasAt all ends.place spots
        → AreKept tables code M E all ends.place a.instructions spots
    pub constants : AllHave (IsConstant tables) a.constants
    pub targets : AllHave (IsTargetEntry tables) a.targets

  abbrev pub kept_alone : (ends : Ends) (a : Parts) (s : Shape) → Sketch tables code M E ends a s (λ all. Unit {0})
      → Kept ends a
  kept_alone ends a s sketch = record {
    spots = sketch.spots;
    as_long = sketch.as_long;
    kept = λ all known has. sketch.kept all known has tt;
    constants = sketch.constants;
    targets = sketch.targets;
  }

  pub nothing_alone : (ends : Ends)
      → Kept ends (record { instructions = []; constants = []; positions = []; targets = [] })
  nothing_alone ends =
      record { spots = []; as_long = λ m. refl; kept = λ all known has. tt; constants = tt; targets = tt }

  module _ (ends : Ends) (a b : Coded) (front : Kept ends (a ends))
      (back : Kept (end_of a ends) (b (end_of a ends))) where
    pub behind_has : (all : Spots) → HasAt all ends.place (front.spots ++ back.spots)
        → HasAt all (end_of a ends).place back.spots
    behind_has all has =
        subst (λ p. HasAt all p back.spots) (front.as_long ends.place)
        (has_back all ends.place front.spots back.spots has)

    abbrev pub kept_then : Kept ends (then_code a b ends)
    kept_then = record {
      spots = front.spots ++ back.spots;
      as_long = λ m.
          past_append m front.spots back.spots ∙ ap (λ k. past k back.spots) (front.as_long m)
          ∙ back.as_long (past m (a ends).instructions)
          ∙ sym (past_append m (a ends).instructions (b (end_of a ends)).instructions);
      kept = λ all known has.
          kept_both tables code M E all ends.place (a ends).instructions front.spots
          (b (end_of a ends)).instructions back.spots
          (front.kept all known (has_front all ends.place front.spots back.spots has))
          (back.kept all known (behind_has all has));
      constants =
          all_both (IsConstant tables) (a ends).constants (b (end_of a ends)).constants front.constants back.constants;
      targets = all_both (IsTargetEntry tables) (a ends).targets (b (end_of a ends)).targets front.targets back.targets;
    }

module _ (tables : Tables) (code : List Instr) (scopes : List CalcScope) (scope_order : List ℕ)
    (sound : AreSound tables.decls)
    (cases : tables.cases ≡ case_places 0 tables.decls.enumerations) (n functions definitions : ℕ) (terms : CalcScope)
    (facts : ScopeFacts tables scopes scope_order n functions definitions terms) where
  abbrev Items : List ItemDecl
  Items = scope_items tables.decls n

  abbrev M : Owner → Owner → Type 0
  M = Calls tables.decls scopes scope_order

  abbrev E : ℕ → Shape
  E = entry tables.decls scopes scope_order

  abbrev At : ScopeStanding
  At = standing tables code scopes scope_order sound cases n functions definitions terms facts

  -- functions that are kept, each of which begins with its shape: the first one is number c of the scope
  pub record FunctionsKept (ends : Ends) (a : Parts) (entries : List ℕ) (c : ℕ) : Type 0 where
    pub laid : Kept tables code M E ends a
    pub entered : (all : Spots) → HasAt all ends.place laid.spots → (i p : ℕ) → slice_get entries i ≡ Some p
        → Arrives all p (E (functions + (c + i)))

  zero_more : (c : ℕ) → c ≡ c + 0
  zero_more c = omega arith

  -- one function in front of others
  enters : (all : Spots) (start : ℕ) (shape : Shape) (entries : List ℕ) (c : ℕ) → Arrives all start shape
      → shape ≡ E (functions + c)
      → ((i p : ℕ) → slice_get entries i ≡ Some p → Arrives all p (E (functions + ((c + 1) + i))))
      → (i p : ℕ) → slice_get (start ∷ entries) i ≡ Some p → Arrives all p (E (functions + (c + i)))
  enters all start shape entries c first same later zero p is =
      let here : start ≡ p = cc is in
      subst (λ q. Arrives all q (E (functions + (c + 0)))) here
      (subst (λ (s : Shape). Arrives all start s) (same ∙ ap (λ m. E (functions + m)) (zero_more c)) first)
  enters all start shape entries c first same later (suc i) p is =
      let e : (c + 1) + i ≡ c + suc i = omega arith in
      subst (λ m. Arrives all p (E (functions + m))) e (later i p is)

  pub functions_kept : (j : ℕ) (items : List ItemDecl) (c : ℕ) (ends : Ends)
      → Has tables code ends (functions_code At j items ends)
      → ((i : ℕ) (item : ItemDecl) → slice_get items i ≡ Some item → slice_get Items (j + i) ≡ Some item)
      → c ≡ length (functions_in 0 0 (take j Items))
      → FunctionsKept ends (functions_code At j items ends) (function_entries At j items ends) c
  functions_kept j [] c ends has there count =
      record { laid = nothing_alone tables code M E ends; entered = λ all at i p is. absurd (cc is) }
  functions_kept j (item ∷ items) c ends has there count =
      by (is_function item) refl has
      (λ c ends has count. functions_kept (j + 1) items c ends has (λ i x at. moved i x (there (suc i) x at)) count)
    where
      moved : (i : ℕ) (x : ItemDecl) → slice_get Items (j + suc i) ≡ Some x → slice_get Items ((j + 1) + i) ≡ Some x
      moved i x at = let e : (j + 1) + i ≡ j + suc i = omega arith in ap (λ m. slice_get Items m) e ∙ at

      here : slice_get Items j ≡ Some item
      here = let e : j ≡ j + 0 = omega arith in ap (λ m. slice_get Items m) e ∙ there 0 item refl

      counted : (b : Bool) → is_function item ≡ b
          → c + (if b then 1 else 0) ≡ length (functions_in 0 0 (take (j + 1) Items))
      counted b e =
          let s : j + 1 ≡ suc j = omega arith in
          ap (λ m. m + (if b then 1 else 0)) count
          ∙ ap (λ (t : Bool). length (functions_in 0 0 (take j Items)) + (if t then 1 else 0)) (sym e)
          ∙ sym (count_next Items j item here) ∙ ap (λ m. length (functions_in 0 0 (take m Items))) (sym s)

      begins : is_function item ≡ true
          → function_shape tables.decls scopes scope_order (functions + length (functions_in 0 0 (take j Items)))
          (record { scope = n; item = j; decl = item })
          ≡ E (functions + c)
      begins e =
          sym (entry_is tables.decls scopes scope_order (functions + length (functions_in 0 0 (take j Items)))
          (record { scope = n; item = j; decl = item })
          (facts.stand.place j item here e))
          ∙ ap (λ m. E (functions + m)) (sym count)

      by : (b : Bool) → is_function item ≡ b
          → Has tables code ends ((if b then then_code (function_code At j item)
          (functions_code At (j + 1) items) else functions_code At (j + 1) items) ends)
          → ((c : ℕ) (ends : Ends) → Has tables code ends (functions_code At (j + 1) items ends)
          → c ≡ length (functions_in 0 0 (take (j + 1) Items))
          → FunctionsKept ends (functions_code At (j + 1) items ends) (function_entries At (j + 1) items ends) c)
          → FunctionsKept ends ((if b then then_code (function_code At j item)
          (functions_code At (j + 1) items) else functions_code At (j + 1) items) ends)
          (if b then ends.place ∷ function_entries At (j + 1) items
          (end_of (function_code At j item) ends) else function_entries At (j + 1) items ends) c
      by false e has later = later c ends has (zero_more c ∙ counted false e)
      by true e has later =
          let f = function_code At j item in
          let fs = functions_code At (j + 1) items in
          let e1 = end_of f ends in
          let one =
          function_laid tables code scopes scope_order sound cases n functions definitions terms facts j item here e
          ends (first_of tables code f fs ends has) in
          let rest = later (c + 1) e1 (second_of tables code f fs ends has) (counted true e) in
          let front = kept_alone tables code M E ends (f ends)
          (function_shape tables.decls scopes scope_order (functions + length (functions_in 0 0 (take j Items)))
          (record { scope = n; item = j; decl = item })) one in
          record {
            laid = kept_then tables code M E ends f fs front rest.laid;
            entered = λ all at. enters all ends.place
                (function_shape tables.decls scopes scope_order (functions + length (functions_in 0 0 (take j Items)))
                (record { scope = n; item = j; decl = item }))
                (function_entries At (j + 1) items e1) c
                (one.first all (has_front all ends.place one.spots rest.laid.spots at) tt) (begins e)
                (rest.entered all (behind_has tables code M E ends f fs front rest.laid all at));
          }

  -- a whole scope: its functions and its body begin with their shapes
  pub record ScopeKept (ends : Ends) : Type 0 where
    pub laid : Kept tables code M E ends (scope_code At ends)
    pub entered : (all : Spots) → HasAt all ends.place laid.spots → (i p : ℕ)
        → slice_get (function_entries At 0 Items ends) i ≡ Some p
        → Arrives all p (E (functions + i))
    pub begun : (all : Spots) → HasAt all ends.place laid.spots
        → Arrives all (end_of (functions_code At 0 Items) ends).place (scope_entry n Items)

  pub scope_kept : (ends : Ends) → Has tables code ends (scope_code At ends) → ScopeKept ends
  scope_kept ends has =
      let fs = functions_code At 0 Items in
      let body = body_code At in
      let eb = end_of fs ends in
      let front = functions_kept 0 Items 0 ends (first_of tables code fs body ends has)
      (λ i item at. let e : 0 + i ≡ i = omega arith in ap (λ m. slice_get Items m) e ∙ at) refl in
      let one =
      body_laid tables code scopes scope_order sound cases n functions definitions terms facts eb
      (second_of tables code fs body ends has) in
      let back = kept_alone tables code M E eb (body eb) (scope_entry n Items) one in
      record {
        laid = kept_then tables code M E ends fs body front.laid back;
        entered = λ all at i p is.
            subst (λ m. Arrives all p (E (functions + m))) (zero_in_front i)
            (front.entered all (has_front all ends.place front.laid.spots back.spots at) i p is);
        begun = λ all at. one.first all (behind_has tables code M E ends fs body front.laid back all at) tt;
      }
    where
      zero_in_front : (i : ℕ) → 0 + i ≡ i
      zero_in_front i = omega arith
