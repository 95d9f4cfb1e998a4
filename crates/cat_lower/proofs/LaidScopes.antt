-- Where scopes are laid one behind the other, each stands at its entry, its functions at theirs and its definitions at
-- their numbers.
use Rattle.std.proofs.Common.{◌≡◌, ℕ, zero, suc, ◌+◌, Bool, true, false, true≢false, List, [], ◌∷◌, length, take}
use Rattle.std.proofs.Common.{Some, refl, sym, ap, ◌∙◌, subst, slice_get, arith, if◌then◌else◌}
use Rattle.cat_value.specs.declared.decls.Decls.{Decls}
use Rattle.cat_value.specs.declared.declaration.ItemDecl.{ItemDecl}
use Rattle.cat_value.specs.declared.declaration.Scope.{Scope}
use Rattle.cat_scope.specs.Names.{is_function}
use Rattle.cat_calc.specs.declared.calcs.CalcScope.{CalcScope}
use Rattle.cat_code.specs.declared.instr.Instr.{Instr}
use Rattle.cat_code.specs.declared.code.Tables.{Tables}
use Rattle.cat_code.specs.Places.{FunctionPlace, functions_in}
use Rattle.cat_lower.specs.Laying.{Ends, Coded, then_code, end_of}
use Rattle.cat_lower.specs.Scopes.{ScopeStanding, function_code, functions_code, function_entries}
use Rattle.cat_lower.specs.Definitions.{definitions_of}
use Rattle.cat_lower.specs.Lowered.{body_code, scope_code, standing, scopes_laid}
use Rattle.cat_lower.specs.Stands.{HasAt, Has}
use Rattle.cat_lower.proofs.Places.{past_length, has_front, has_back, first_of, second_of}
use Rattle.cat_lower.proofs.ScopeTerms.{ScopeLaid}

pub at_behind : {A : Type 0} (all : List A) (n : ℕ) (xs : List A) (i : ℕ) (x : A) → HasAt all n xs
    → slice_get xs i ≡ Some x
    → slice_get all (n + i) ≡ Some x
at_behind all n [] i x h is = absurd (cc is)
at_behind all n (y ∷ xs) zero x h is = let e : n + 0 ≡ n = omega arith in ap (λ k. slice_get all k) e ∙ h.0 ∙ is
at_behind all n (y ∷ xs) (suc i) x h is =
    let e : n + suc i ≡ (n + 1) + i = omega arith in
    ap (λ k. slice_get all k) e ∙ at_behind all (n + 1) xs i x h.1 is

-- how many functions there are doesn't hang on their numbers
abbrev counted_by : ℕ → ℕ → ItemDecl → List ItemDecl → Bool → List FunctionPlace
counted_by n k item items b =
    if b then record { scope = n; item = k; decl = item }
    ∷ functions_in n (k + 1) items else functions_in n (k + 1) items

pub count_alike : (items : List ItemDecl) (n k m j : ℕ)
    → length (functions_in n k items) ≡ length (functions_in m j items)
count_alike [] n k m j = refl
count_alike (item ∷ items) n k m j = by (is_function item) (count_alike items n (k + 1) m (j + 1))
  where
    by : (b : Bool) → length (functions_in n (k + 1) items) ≡ length (functions_in m (j + 1) items)
        → length (counted_by n k item items b) ≡ length (counted_by m j item items b)
    by true e = ap suc e
    by false e = e

module _ (at : ScopeStanding) where
  abbrev functions_by : ℕ → ItemDecl → List ItemDecl → Bool → Coded
  functions_by j item items b =
      if b then then_code (function_code at j item) (functions_code at (j + 1) items) else functions_code at
      (j + 1) items

  abbrev entries_by : ℕ → ItemDecl → List ItemDecl → Ends → Bool → List ℕ
  entries_by j item items ends b =
      if b then ends.place ∷ function_entries at (j + 1) items
      (end_of (function_code at j item) ends) else function_entries at (j + 1) items ends

  pub entries_counted : (items : List ItemDecl) (j : ℕ) (ends : Ends) (n k : ℕ)
      → length (function_entries at j items ends) ≡ length (functions_in n k items)
  entries_counted [] j ends n k = refl
  entries_counted (item ∷ items) j ends n k =
      by (is_function item) (λ ends. entries_counted items (j + 1) ends n (k + 1))
    where
      by : (b : Bool) → ((ends : Ends)
          → length (function_entries at (j + 1) items ends) ≡ length (functions_in n (k + 1) items))
          → length (entries_by j item items ends b) ≡ length (counted_by n k item items b)
      by true e = ap suc (e (end_of (function_code at j item) ends))
      by false e = e ends

  module _ (tables : Tables) (code : List Instr) where
    -- a function that stands at entry number i of some
    record Stood (i j : ℕ) (decl : ItemDecl) (entries : List ℕ) : Type 0 where
      ends : Ends
      entry : slice_get entries i ≡ Some ends.place
      body : Has tables code ends (function_code at j decl ends)

    stood : (items : List ItemDecl) (j : ℕ) (ends : Ends) → Has tables code ends (functions_code at j items ends)
        → (f : ℕ) (decl : ItemDecl)
        → slice_get items f ≡ Some decl → is_function decl ≡ true
        → Stood (length (functions_in 0 0 (take f items))) (j + f) decl (function_entries at j items ends)
    stood [] j ends has f decl is function = absurd (cc is)
    stood (item ∷ items) j ends has zero decl is function =
        let same : item ≡ decl = cc is in
        by (is_function item) (ap is_function same ∙ function) same has
      where
        by : (b : Bool) → b ≡ true → item ≡ decl → Has tables code ends (functions_by j item items b ends)
            → Stood 0 (j + 0) decl (entries_by j item items ends b)
        by false e same has = absurd (true≢false (sym e))
        by true e same has =
            let n : j ≡ j + 0 = omega arith in
            subst (λ k. Stood 0 k decl (entries_by j item items ends true)) n
            (subst (λ d. Stood 0 j d (entries_by j item items ends true)) same
            (record {
              ends = ends;
              entry = refl;
              body = first_of tables code (function_code at j item) (functions_code at (j + 1) items) ends has;
            }))
    stood (item ∷ items) j ends has (suc f) decl is function =
        by (is_function item) has (λ ends has. stood items (j + 1) ends has f decl is function)
      where
        moved : (ends : Ends) (i : ℕ) → i ≡ length (functions_in 0 0 (take f items))
            → Stood (length (functions_in 0 0 (take f items))) ((j + 1) + f) decl
            (function_entries at (j + 1) items ends)
            → Stood i (j + suc f) decl (function_entries at (j + 1) items ends)
        moved ends i e there =
            let n : (j + 1) + f ≡ j + suc f = omega arith in
            subst (λ i. Stood i (j + suc f) decl (function_entries at (j + 1) items ends)) (sym e)
            (subst (λ k. Stood (length (functions_in 0 0 (take f items))) k decl
            (function_entries at (j + 1) items ends)) n there)

        by : (b : Bool) → Has tables code ends (functions_by j item items b ends)
            → ((ends : Ends) → Has tables code ends (functions_code at (j + 1) items ends)
            → Stood (length (functions_in 0 0 (take f items))) ((j + 1) + f) decl
            (function_entries at (j + 1) items ends))
            → Stood (length (counted_by 0 0 item (take f items) b)) (j + suc f) decl (entries_by j item items ends b)
        by false has again = moved ends _ (count_alike (take f items) 0 (0 + 1) 0 0) (again ends has)
        by true has again =
            let e1 = end_of (function_code at j item) ends in
            let there = moved e1 _ (count_alike (take f items) 0 (0 + 1) 0 0)
            (again e1 (second_of tables code (function_code at j item) (functions_code at (j + 1) items) ends has)) in
            record { ends = there.ends; entry = there.entry; body = there.body }

module _ (tables : Tables) (code : List Instr) (ds : Decls) where
  -- a scope that is laid with its definitions
  pub record Standing (n : ℕ) (scope : Scope) (terms : CalcScope) : Type 0 where
    pub functions : ℕ
    pub definitions : ℕ
    pub laid : ScopeLaid tables code (standing ds n functions definitions scope terms)
    pub placed : HasAt tables.definitions definitions (definitions_of terms.terms [])

  zero_in_front : (f : ℕ) → 0 + f ≡ f
  zero_in_front f = omega arith

  pub one_laid : (n functions definitions : ℕ) (scope : Scope) (terms : CalcScope) (ends : Ends)
      → Has tables code ends (scope_code (standing ds n functions definitions scope terms) ends)
      → HasAt tables.functions functions
      (function_entries (standing ds n functions definitions scope terms) 0 scope.items ends)
      → slice_get tables.scopes n
      ≡ Some (end_of (functions_code (standing ds n functions definitions scope terms) 0 scope.items) ends).place
      → ScopeLaid tables code (standing ds n functions definitions scope terms)
  one_laid n functions definitions scope terms ends has entries entry =
      let at = standing ds n functions definitions scope terms in
      record {
        functions = λ f decl is function.
            let there =
            stood at tables code scope.items 0 ends
            (first_of tables code (functions_code at 0 scope.items) (body_code at) ends has) f decl is function in
            record {
              ends = there.ends;
              entry =
                  at_behind tables.functions functions (function_entries at 0 scope.items ends)
                  (length (functions_in 0 0 (take f scope.items))) there.ends.place entries there.entry;
              body =
                  subst (λ k. Has tables code there.ends (function_code at k decl there.ends))
                  (zero_in_front f) there.body;
            };
        ends = end_of (functions_code at 0 scope.items) ends;
        entry = entry;
        body = second_of tables code (functions_code at 0 scope.items) (body_code at) ends has;
      }

  pub all_laid : (scopes : List Scope) (rest : List CalcScope) (n functions definitions : ℕ) (ends : Ends)
      → Has tables code ends (scopes_laid ds n functions definitions scopes rest ends).code
      → HasAt tables.functions functions (scopes_laid ds n functions definitions scopes rest ends).functions
      → HasAt tables.scopes n (scopes_laid ds n functions definitions scopes rest ends).scopes
      → HasAt tables.definitions definitions (scopes_laid ds n functions definitions scopes rest ends).definitions
      → (m : ℕ) (scope : Scope) (terms : CalcScope) → slice_get scopes m ≡ Some scope → slice_get rest m ≡ Some terms
      → Standing (n + m) scope terms
  all_laid [] rest n functions definitions ends has entries starts places m scope terms is are = absurd (cc is)
  all_laid (s ∷ scopes) [] n functions definitions ends has entries starts places m scope terms is are = absurd (cc are)
  all_laid (s ∷ scopes) (t ∷ rest) n functions definitions ends has entries starts places zero scope terms is are =
      let at = standing ds n functions definitions s t in
      let next = functions + length (functions_in n 0 s.items) in
      let behind = definitions + length (definitions_of t.terms []) in
      let e1 = end_of (scope_code at) ends in
      let more = scopes_laid ds (n + 1) next behind scopes rest e1 in
      let others : Coded = λ e. (scopes_laid ds (n + 1) next behind scopes rest e).code in
      let same : s ≡ scope = cc is in
      let alike : t ≡ terms = cc are in
      let number : n ≡ n + 0 = omega arith in
      subst (λ k. Standing k scope terms) number
      (subst (λ s. Standing n s terms) same
      (subst (λ t. Standing n s t) alike
      (record {
        functions = functions;
        definitions = definitions;
        laid = one_laid n functions definitions s t ends (first_of tables code (scope_code at) others ends has)
            (has_front tables.functions functions (function_entries at 0 s.items ends) more.functions entries) starts.0;
        placed = has_front tables.definitions definitions (definitions_of t.terms []) more.definitions places;
      })))
  all_laid (s ∷ scopes) (t ∷ rest) n functions definitions ends has entries starts places (suc m) scope terms is are =
      let at = standing ds n functions definitions s t in
      let next = functions + length (functions_in n 0 s.items) in
      let behind = definitions + length (definitions_of t.terms []) in
      let e1 = end_of (scope_code at) ends in
      let more = scopes_laid ds (n + 1) next behind scopes rest e1 in
      let others : Coded = λ e. (scopes_laid ds (n + 1) next behind scopes rest e).code in
      let number : (n + 1) + m ≡ n + suc m = omega arith in
      subst (λ k. Standing k scope terms) number
      (all_laid scopes rest (n + 1) next behind e1 (second_of tables code (scope_code at) others ends has)
      (subst (λ k. HasAt tables.functions k more.functions)
      (past_length functions (function_entries at 0 s.items ends)
      ∙ ap (λ k. functions + k) (entries_counted at s.items 0 ends n 0))
      (has_back tables.functions functions (function_entries at 0 s.items ends) more.functions entries))
      starts.1
      (subst (λ k. HasAt tables.definitions k more.definitions) (past_length definitions (definitions_of t.terms []))
      (has_back tables.definitions definitions (definitions_of t.terms []) more.definitions places))
      m scope terms is are)
