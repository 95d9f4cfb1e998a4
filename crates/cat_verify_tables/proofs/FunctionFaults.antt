-- A function without a line that says where it begins has a bad line.
use Rattle.std.proofs.Common.{◌≡◌, ◌≤◌, ◌+◌, ◌-◌, ℕ, zero, suc, nat_lt, Bool, true, false, List, [], ◌∷◌, ◌++◌}
use Rattle.std.proofs.Common.{length, map, take, Some, slice_get, refl, sym, ap, ◌∙◌, arith, true≢false}
use Rattle.std.specs.Prelude.{flat_map, if◌then◌else◌}
use Rattle.std.proofs.lemmas.Bool.Decides.{nat_tests}
use Rattle.cat_scope.specs.Names as names
use Rattle.cat_scope.specs.Names.{AllHave}
use Rattle.cat_value.specs.declared.declaration.ItemDecl.{ItemDecl}
use Rattle.cat_value.specs.declared.declaration.Scope.{Scope}
use Rattle.cat_code.specs.Places as places
use Rattle.cat_image.specs.declared.row.Row.TheVariants as row
use Rattle.cat_image.specs.declared.tables.ImageItem.{ImageItem}
use Rattle.cat_image.specs.declared.tables.ImageScope.{ImageScope}
use Rattle.cat_image.specs.declared.tables.ImageTables.{ImageTables}
use Rattle.cat_image.specs.Rows.{scope_rows}
use Rattle.cat_verify_tables.specs.declared.places.FunctionPlace.{FunctionPlace}
use Rattle.cat_verify_tables.specs.declared.scoping.Known.{Known}
use Rattle.cat_verify_tables.specs.RowFronts.{functions_in, is_function}
use Rattle.cat_verify_tables.specs.TableWords.{numbered}
use Rattle.cat_verify_tables.specs.TypeWords.{IsTypeName}
use Rattle.cat_verify_tables.specs.WrongParts as wrong
use Rattle.cat_verify_tables.specs.WrongTables.{IsBadTable}
use Rattle.cat_verify_tables.specs.inside.Causes.{lines_in}
use Rattle.cat_verify_tables.specs.inside.DeclarationWords.{LacksEntry}
use Rattle.cat_verify_tables.specs.inside.Entries.{AreTold}
use Rattle.cat_verify_tables.specs.inside.HeldWords.{ArePlain}
use Rattle.cat_verify_tables.specs.inside.ItemWords.{IsItemOf, IsScopeOf, item_names}
use Rattle.cat_verify_tables.specs.inside.NamedWords.{item_count, names_in}
use Rattle.cat_verify_tables.proofs.BadLemmas.{bad_at, enumerations, files, structures}
use Rattle.cat_verify_tables.proofs.BadScopes.{item_bad, third}
use Rattle.cat_verify_tables.proofs.CountLemmas.{both_functions, enumerations_none, files_none, items_counted}
use Rattle.cat_verify_tables.proofs.CountLemmas.{structures_none}
use Rattle.cat_verify_tables.proofs.FunctionLemmas.{function_same}
use Rattle.cat_verify_tables.proofs.NumberLemmas.{at_behind, at_front}

-- a function among items from number k on, with so many others in front
record IsFunctionAt (lines : List ImageItem) (s k n : ℕ) (p : places.FunctionPlace) : Type 0 where
  pub index : ℕ
  pub line : ImageItem
  pub scope : p.scope ≡ s
  pub item : p.item ≡ k + index
  pub at : slice_get lines index ≡ Some line
  pub function : is_function line ≡ true
  pub count : functions_in (map row.Item (take index lines)) ≡ n

-- a function of one of some scopes from number s on
record IsFunctionIn (lines : List ImageScope) (s n : ℕ) (p : places.FunctionPlace) : Type 0 where
  pub index : ℕ
  pub line : ImageScope
  pub others : ℕ
  pub number : ℕ
  pub scope : number ≡ s + index
  pub at : slice_get lines index ≡ Some line
  pub own : IsFunctionAt line.items number 0 others p
  pub count : functions_in (flat_map scope_rows (take index lines)) + others ≡ n

named_place : (ps : List places.FunctionPlace) (n : ℕ) (place : FunctionPlace)
    → slice_get (map numbered ps) n ≡ Some place
    → (p : places.FunctionPlace) × (slice_get ps n ≡ Some p) × (numbered p ≡ place)
named_place [] n place at = absurd (cc at)
named_place (p ∷ ps) zero place at = (p, refl, cc at)
named_place (p ∷ ps) (suc n) place at = named_place ps n place at

front_none : (tables : ImageTables) → functions_in (files tables ++ structures tables ++ enumerations tables) ≡ 0
front_none tables =
    let a = both_functions (files tables ++ structures tables) (enumerations tables) in
    let b = both_functions (files tables) (structures tables) in
    let fs = files_none tables.files in
    let ss = structures_none tables.structures in
    let es = enumerations_none tables.enumerations in omega (arith, a, b, fs, ss, es)

module _ (known : Known) (plain : ArePlain known.types)
    (spelled : AllHave (λ name. (IsTypeName name → ⊥) → ⊥) (names_in known.scopes)) where
  in_items : (s k : ℕ) (front lines : List ImageItem) (items : List ItemDecl)
      → AreTold (λ before. IsItemOf known (item_names before)) front lines items → (n : ℕ) (p : places.FunctionPlace)
      → slice_get (places.functions_in s k items) n ≡ Some p → IsFunctionAt lines s k n p
  in_items s k front [] [] told n p at = absurd (cc at)
  in_items s k front [] (y ∷ ys) told n p at = absurd told
  in_items s k front (x ∷ xs) [] told n p at = absurd told
  in_items s k front (x ∷ xs) (y ∷ ys) told n p at =
      by (is_function x) refl (names.is_function y) (function_same known plain spelled x y told.0.decl) n at
      (λ m there. in_items s (k + 1) (front ++ x ∷ []) xs ys told.1 m p there)
    where
      later : (m n : ℕ) → IsFunctionAt xs s (k + 1) m p → functions_in (row.Item x ∷ []) + m ≡ n
          → IsFunctionAt (x ∷ xs) s k n p
      later m n rest more = record {
        index = suc rest.index;
        line = rest.line;
        scope = rest.scope;
        item = let item = rest.item in omega (arith, item);
        at = rest.at;
        function = rest.function;
        count = let all = both_functions (row.Item x ∷ []) (map row.Item (take rest.index xs)) in
            let count = rest.count in omega (arith, all, count, more);
      }

      by : (a : Bool) → is_function x ≡ a → (b : Bool) → a ≡ b → (n : ℕ)
          → slice_get (if b then record { scope = s; item = k; decl = y } ∷ places.functions_in s (k + 1) ys
          else places.functions_in s (k + 1) ys) n ≡ Some p
          → ((m : ℕ) → slice_get (places.functions_in s (k + 1) ys) m ≡ Some p → IsFunctionAt xs s (k + 1) m p)
          → IsFunctionAt (x ∷ xs) s k n p
      by true is false same n at rest = absurd (true≢false same)
      by false is true same n at rest = absurd (true≢false (sym same))
      by false is false same n at rest =
          let none : functions_in (row.Item x ∷ []) ≡ 0 = ap (λ (b : Bool). if b then 1 + 0 else 0) is in
          later n n (rest n at) (omega (arith, none))
      by true is true same zero at rest =
          let it : record { scope = s; item = k; decl = y } ≡ p = cc at in record {
            index = 0;
            line = x;
            scope = ap (λ (q : places.FunctionPlace). q.scope) (sym it);
            item = let item = ap (λ (q : places.FunctionPlace). q.item) it in omega (arith, item);
            at = refl;
            function = is;
            count = refl;
          }
      by true is true same (suc n) at rest =
          let one : functions_in (row.Item x ∷ []) ≡ 1 = ap (λ (b : Bool). if b then 1 + 0 else 0) is in
          later n (suc n) (rest n at) (omega (arith, one))

  in_scopes : (s : ℕ) (front lines : List ImageScope) (scopes : List Scope)
      → AreTold (λ _. IsScopeOf known) front lines scopes → (n : ℕ) (p : places.FunctionPlace)
      → slice_get (places.functions_from s scopes) n ≡ Some p → IsFunctionIn lines s n p
  in_scopes s front [] [] told n p at = absurd (cc at)
  in_scopes s front [] (y ∷ ys) told n p at = absurd told
  in_scopes s front (x ∷ xs) [] told n p at = absurd told
  in_scopes s front (x ∷ xs) (y ∷ ys) told n p at =
      by (nat_lt n (length (places.functions_in s 0 y.items))) refl
      (in_scopes (s + 1) (front ++ x ∷ []) xs ys told.1 (n - length (places.functions_in s 0 y.items)) p)
    where
      by : (b : Bool) → nat_lt n (length (places.functions_in s 0 y.items)) ≡ b
          → (slice_get (places.functions_from (s + 1) ys) (n - length (places.functions_in s 0 y.items)) ≡ Some p
          → IsFunctionIn xs (s + 1) (n - length (places.functions_in s 0 y.items)) p) → IsFunctionIn (x ∷ xs) s n p
      by true less rest = record {
        index = 0;
        line = x;
        others = n;
        number = s;
        scope = omega arith;
        at = refl;
        own = in_items s 0 [] x.items y.items told.0.items.each n p
            (at_front (places.functions_in s 0 y.items) (places.functions_from (s + 1) ys) n p at
            (grind (arith, nat_tests, less)));
        count = omega arith;
      }
      by false more rest =
          let large : length (places.functions_in s 0 y.items) ≤ n = grind (arith, nat_tests, more) in
          let it = rest (at_behind (places.functions_in s 0 y.items) (places.functions_from (s + 1) ys) n p at large) in
          let scope = it.scope in
          let count = it.count in
          let all = both_functions (scope_rows x) (flat_map scope_rows (take it.index xs)) in
          let own = items_counted known plain spelled s 0 [] x.items y.items told.0.items.each in record {
            index = suc it.index;
            line = it.line;
            others = it.others;
            number = it.number;
            scope = omega (arith, scope);
            at = it.at;
            own = it.own;
            count = omega (arith, all, own, count, large);
          }

  pub entry_bad : (image : ImageTables) (scopes : List Scope) → AreTold (λ _. IsScopeOf known) [] image.scopes scopes
      → (functions : List FunctionPlace) → functions ≡ map numbered (places.functions_from 0 scopes) → (first : ℕ)
      → first ≡ third image → (line : ℕ) → LacksEntry image functions first line → IsBadTable image line
  entry_bad image scopes told functions are first first_is line lacks =
      let it = named_place (places.functions_from 0 scopes) (length image.functions) lacks.place
      (ap (λ (fs : List FunctionPlace). slice_get fs (length image.functions)) (sym are) ∙ lacks.at) in
      let there = in_scopes 0 [] image.scopes scopes told (length image.functions) it.0 it.1 in
      let own = there.own in
      let number = there.scope in
      let scope : lacks.place.scope ≡ there.index =
      ap (λ (f : FunctionPlace). f.scope) (sym it.2) ∙ own.scope ∙ (omega (arith, number)) in
      let lines = ap (λ (k : ℕ). lines_in item_count (take k image.scopes)) scope in
      let item : lacks.place.item ≡ it.0.item = ap (λ (f : FunctionPlace). f.item) (sym it.2) in
      let index = own.item in
      let line_is = lacks.line_is in
      let front = files image ++ structures image ++ enumerations image in
      let others = flat_map scope_rows (take there.index image.scopes) in
      let header = row.Scope there.line.name there.line.entry ∷ map row.Item (take own.index there.line.items) in
      let a = both_functions (front ++ others) header in
      let b = both_functions front others in
      let none = front_none image in
      let in_front = own.count in
      let count = there.count in
      bad_at image (third image + lines_in item_count (take there.index image.scopes) + 1 + own.index) line
      (omega (arith, line_is, first_is, lines, item, index))
      (item_bad image there.index there.line own.index own.line there.at own.at
      (wrong.no_entry own.function (omega (arith, a, b, none, in_front, count))))
