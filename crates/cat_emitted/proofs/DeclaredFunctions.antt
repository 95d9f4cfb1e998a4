-- The lines of scopes have as many functions as their declarations.
use Rattle.std.proofs.Common.{◌≡◌, ◌+◌, ℕ, Bool, true, false, List, [], ◌∷◌, length, map, refl}
use Rattle.std.proofs.Common.{arith}
use Rattle.std.specs.Prelude.{flat_map, if◌then◌else◌}
use Rattle.std.proofs.lemmas.List.{length-append}
use Rattle.cat_scope.specs.Names.{AllHave}
use Rattle.cat_value.specs.declared.declaration.ItemDecl.{ItemDecl}
use Rattle.cat_value.specs.declared.declaration.Scope.{Scope}
use Rattle.cat_value.specs.declared.decls.Decls.{Decls}
use Rattle.cat_value.specs.Inputs as inputs
use Rattle.cat_code.specs.Places as places
use Rattle.cat_image.specs.declared.row.Row.TheVariants as row
use Rattle.cat_image.specs.Rows.{scope_rows}
use Rattle.cat_image.specs.Listed.{item_words, scopes_words}
use Rattle.cat_verify_tables.specs.RowFronts.{is_function, functions_in}
use Rattle.cat_verify_tables.proofs.Exported.{both_functions}

module _ (ds : Decls) (IsFair : ItemDecl → Type 0)
    (same : (item : ItemDecl) → IsFair item → is_function (item_words ds item) ≡ inputs.is_function item) where
  items_counted : (n k : ℕ) (items : List ItemDecl) → AllHave IsFair items
      → functions_in (map row.Item (map (item_words ds) items)) ≡ length (places.functions_in n k items)
  items_counted n k [] fair = refl
  items_counted n k (x ∷ xs) fair =
      by (is_function (item_words ds x)) (inputs.is_function x) (same x fair.0) (items_counted n (k + 1) xs fair.1)
    where
      by : (a b : Bool) → a ≡ b
          → functions_in (map row.Item (map (item_words ds) xs)) ≡ length (places.functions_in n (k + 1) xs)
          → (if a then 1 + functions_in (map row.Item (map (item_words ds) xs))
          else functions_in (map row.Item (map (item_words ds) xs)))
          ≡ length (if b then record { scope = n; item = k; decl = x } ∷ places.functions_in n (k + 1) xs
          else places.functions_in n (k + 1) xs)
      by true true is more = omega (arith, more)
      by false false is more = more
      by true false is more = cc is
      by false true is more = cc is

  pub scopes_counted : (n : ℕ) (scopes : List Scope) (entries : List ℕ) → length entries ≡ length scopes
      → AllHave (λ (s : Scope). AllHave IsFair s.items) scopes
      → functions_in (flat_map scope_rows (scopes_words ds scopes entries)) ≡ length (places.functions_from n scopes)
  scopes_counted n [] [] alike fair = refl
  scopes_counted n [] (e ∷ es) alike fair = absurd (omega (arith, alike))
  scopes_counted n (s ∷ ss) [] alike fair = absurd (omega (arith, alike))
  scopes_counted n (s ∷ ss) (e ∷ es) alike fair =
      let own = items_counted n 0 s.items fair.0 in
      let more = scopes_counted (n + 1) ss es (omega (arith, alike)) fair.1 in
      let rows = both_functions (map row.Item (map (item_words ds) s.items))
      (flat_map scope_rows (scopes_words ds ss es)) in
      let all = length-append (places.functions_in n 0 s.items) (places.functions_from (n + 1) ss) in
      omega (arith, own, more, rows, all)
