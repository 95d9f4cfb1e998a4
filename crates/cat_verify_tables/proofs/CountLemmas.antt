-- How many functions stand in front of an item.
use Rattle.std.proofs.Common.{◌≡◌, ◌<◌, ◌+◌, ℕ, Bool, true, false, List, [], ◌∷◌, ◌++◌, length, map, refl, ap, ◌∙◌}
use Rattle.std.proofs.Common.{arith}
use Rattle.std.specs.Prelude.{flat_map, if◌then◌else◌}
use Rattle.std.proofs.lemmas.List.{length-append}
use Rattle.cat_scope.specs.Names as names
use Rattle.cat_scope.specs.Names.{AllHave}
use Rattle.cat_value.specs.declared.declaration.ItemDecl.{ItemDecl}
use Rattle.cat_value.specs.declared.declaration.Scope.{Scope}
use Rattle.cat_code.specs.Places as places
use Rattle.cat_image.specs.declared.row.Row.{Row}
use Rattle.cat_image.specs.declared.row.Row.TheVariants as row
use Rattle.cat_image.specs.declared.tables.ImageField.{ImageField}
use Rattle.cat_image.specs.declared.tables.ImageCase.{ImageCase}
use Rattle.cat_image.specs.declared.tables.ImageStructure.{ImageStructure}
use Rattle.cat_image.specs.declared.tables.ImageEnumeration.{ImageEnumeration}
use Rattle.cat_image.specs.declared.tables.ImageItem.{ImageItem}
use Rattle.cat_image.specs.declared.tables.ImageScope.{ImageScope}
use Rattle.cat_image.specs.declared.tables.ImageTables.{ImageTables}
use Rattle.cat_image.specs.Words.{Text}
use Rattle.cat_image.specs.Rows.{structure_rows, enumeration_rows, scope_rows}
use Rattle.cat_verify_tables.specs.declared.scoping.Known.{Known}
use Rattle.cat_verify_tables.specs.TypeWords.{IsTypeName}
use Rattle.cat_verify_tables.specs.RowFronts.{is_function, functions_in}
use Rattle.cat_verify_tables.specs.inside.Entries.{AreTold}
use Rattle.cat_verify_tables.specs.inside.HeldWords.{ArePlain}
use Rattle.cat_verify_tables.specs.inside.NamedWords.{names_in}
use Rattle.cat_verify_tables.specs.inside.ItemWords.{IsItemOf, item_names, IsScopeOf}
use Rattle.cat_verify_tables.proofs.BadLemmas.{files, structures, enumerations}
use Rattle.cat_verify_tables.proofs.FunctionLemmas.{function_same}
use Rattle.cat_verify_tables.proofs.RightRows.{before_item}

one_more : (b : Bool) (n m k : ℕ) → n ≡ m + k → (if b then 1 + n else n) ≡ (if b then 1 + m else m) + k
one_more true n m k is = omega (arith, is)
one_more false n m k is = is

pub both_functions : (one other : List Row) → functions_in (one ++ other) ≡ functions_in one + functions_in other
both_functions [] other = omega arith
both_functions (row.Item i ∷ rs) other =
    one_more (is_function i) (functions_in (rs ++ other)) (functions_in rs) (functions_in other)
    (both_functions rs other)
both_functions (row.File n ∷ rs) other = both_functions rs other
both_functions (row.Structure n ∷ rs) other = both_functions rs other
both_functions (row.Field f ∷ rs) other = both_functions rs other
both_functions (row.Enumeration n ∷ rs) other = both_functions rs other
both_functions (row.Case c ∷ rs) other = both_functions rs other
both_functions (row.Scope n entry ∷ rs) other = both_functions rs other
both_functions (row.Target t ∷ rs) other = both_functions rs other
both_functions (row.Definition p ∷ rs) other = both_functions rs other
both_functions (row.Function f ∷ rs) other = both_functions rs other
both_functions (row.Position p ∷ rs) other = both_functions rs other
both_functions (row.Constant c ∷ rs) other = both_functions rs other
both_functions (row.Instruction n i ∷ rs) other = both_functions rs other

-- ---- where there are none

pub files_none : (ns : List Text) → functions_in (map row.File ns) ≡ 0
files_none [] = refl
files_none (n ∷ ns) = files_none ns

fields_none : (fs : List ImageField) → functions_in (map row.Field fs) ≡ 0
fields_none [] = refl
fields_none (f ∷ fs) = fields_none fs

cases_none : (cs : List ImageCase) → functions_in (map row.Case cs) ≡ 0
cases_none [] = refl
cases_none (c ∷ cs) = cases_none cs

pub structures_none : (ss : List ImageStructure) → functions_in (flat_map structure_rows ss) ≡ 0
structures_none [] = refl
structures_none (s ∷ ss) =
    let all = both_functions (map row.Field s.fields) (flat_map structure_rows ss) in
    let one = fields_none s.fields in
    let more = structures_none ss in omega (arith, all, one, more)

pub enumerations_none : (es : List ImageEnumeration) → functions_in (flat_map enumeration_rows es) ≡ 0
enumerations_none [] = refl
enumerations_none (e ∷ es) =
    let all = both_functions (map row.Case e.cases) (flat_map enumeration_rows es) in
    let one = cases_none e.cases in
    let more = enumerations_none es in omega (arith, all, one, more)

-- ---- where there are some

pub scopes_parted : (others : List ImageScope) (s : ImageScope) (after : List ImageScope)
    → functions_in (flat_map scope_rows (others ++ s ∷ after)) ≡ functions_in (flat_map scope_rows others)
    + (functions_in (map row.Item s.items) + functions_in (flat_map scope_rows after))
scopes_parted [] s after =
    let all = both_functions (map row.Item s.items) (flat_map scope_rows after) in omega (arith, all)
scopes_parted (o ∷ others) s after =
    let all = both_functions (map row.Item o.items) (flat_map scope_rows (others ++ s ∷ after)) in
    let own = both_functions (map row.Item o.items) (flat_map scope_rows others) in
    let rest = scopes_parted others s after in omega (arith, all, own, rest)

pub items_parted : (before : List ImageItem) (i : ImageItem) (behind : List ImageItem) → is_function i ≡ true
    → functions_in (map row.Item before) < functions_in (map row.Item (before ++ i ∷ behind))
items_parted [] i behind is = rw is (omega arith)
items_parted (x ∷ before) i behind is = by (is_function x)
    (functions_in (map row.Item before)) (functions_in (map row.Item (before ++ i ∷ behind)))
    (items_parted before i behind is)
  where
    by : (b : Bool) (n m : ℕ) → n < m → (if b then 1 + n else n) < (if b then 1 + m else m)
    by true n m less = omega (arith, less)
    by false n m less = less

-- what stands in front of an item has the functions of scopes and items in front
pub functions_before : (image : ImageTables) (others : List ImageScope) (s : ImageScope) (before : List ImageItem)
    → functions_in (before_item image others s before)
    ≡ functions_in (flat_map scope_rows others) + functions_in (map row.Item before)
functions_before image others s before =
    let fs = files image in
    let ss = structures image in
    let es = enumerations image in
    let cs = flat_map scope_rows others in
    let own = row.Scope s.name s.entry ∷ map row.Item before in
    omega (
      arith,
      both_functions (fs ++ ss ++ es ++ cs) own,
      both_functions (fs ++ ss ++ es) cs,
      both_functions (fs ++ ss) es,
      both_functions fs ss,
      files_none image.files,
      structures_none image.structures,
      enumerations_none image.enumerations,
    )

-- ---- as many as are declared

module _ (known : Known) (plain : ArePlain known.types)
    (spelled : AllHave (λ name. (IsTypeName name → ⊥) → ⊥) (names_in known.scopes)) where
  pub items_counted : (n k : ℕ) (front lines : List ImageItem) (items : List ItemDecl)
      → AreTold (λ before. IsItemOf known (item_names before)) front lines items
      → functions_in (map row.Item lines) ≡ length (places.functions_in n k items)
  items_counted n k front [] [] told = refl
  items_counted n k front [] (y ∷ ys) told = absurd told
  items_counted n k front (x ∷ xs) [] told = absurd told
  items_counted n k front (x ∷ xs) (y ∷ ys) told =
      by (is_function x) (names.is_function y) (function_same known plain spelled x y told.0.decl)
      (items_counted n (k + 1) (front ++ x ∷ []) xs ys told.1)
    where
      by : (a b : Bool) → a ≡ b
          → functions_in (map row.Item xs) ≡ length (places.functions_in n (k + 1) ys)
          → (if a then 1 + functions_in (map row.Item xs) else functions_in (map row.Item xs))
          ≡ length (if b then record { scope = n; item = k; decl = y } ∷ places.functions_in n (k + 1) ys
          else places.functions_in n (k + 1) ys)
      by true true same rest = omega (arith, rest)
      by true false same rest = absurd (cc same)
      by false true same rest = absurd (cc same)
      by false false same rest = rest

  scopes_counted : (n : ℕ) (front lines : List ImageScope) (scopes : List Scope)
      → AreTold (λ _. IsScopeOf known) front lines scopes
      → functions_in (flat_map scope_rows lines) ≡ length (places.functions_from n scopes)
  scopes_counted n front [] [] told = refl
  scopes_counted n front [] (y ∷ ys) told = absurd told
  scopes_counted n front (x ∷ xs) [] told = absurd told
  scopes_counted n front (x ∷ xs) (y ∷ ys) told =
      let all = both_functions (map row.Item x.items) (flat_map scope_rows xs) in
      let own = items_counted n 0 [] x.items y.items told.0.items.each in
      let rest = scopes_counted (n + 1) (front ++ x ∷ []) xs ys told.1 in
      let count = length-append (places.functions_in n 0 y.items) (places.functions_from (n + 1) ys) in
      omega (arith, all, own, rest, count)

  -- fewer functions stand in front of a function than there are
  pub fewer_before : (tables : ImageTables) (scopes : List Scope)
      → AreTold (λ _. IsScopeOf known) [] tables.scopes scopes → (others : List ImageScope) (s : ImageScope)
      (after : List ImageScope) → tables.scopes ≡ others ++ s ∷ after → (before : List ImageItem) (i : ImageItem)
      (behind : List ImageItem) → s.items ≡ before ++ i ∷ behind → is_function i ≡ true
      → functions_in (before_item tables others s before) < length (places.functions_from 0 scopes)
  fewer_before tables scopes told others s after are before i behind own function =
      let front = functions_before tables others s before in
      let all = ap (λ (xs : List ImageScope). functions_in (flat_map scope_rows xs)) are
      ∙ scopes_parted others s after in
      let items = ap (λ (xs : List ImageItem). functions_in (map row.Item xs)) own in
      let less = items_parted before i behind function in
      let count = scopes_counted 0 [] tables.scopes scopes told in
      omega (arith, front, all, items, less, count)
