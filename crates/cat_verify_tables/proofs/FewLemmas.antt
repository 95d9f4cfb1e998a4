-- How many entries and parts tables with few rows have.
use Rattle.std.proofs.Common.{◌<◌, ◌≤◌, ◌+◌, ℕ, List, [], ◌∷◌, ◌++◌, length, arith}
use Rattle.std.proofs.lemmas.List.{length-append}
use Rattle.cat_pos.specs.declared.limits.TheConstants.{ENTRIES_BOUND}
use Rattle.cat_scope.specs.Names.{AllHave}
use Rattle.cat_image.specs.declared.tables.ImageStructure.{ImageStructure}
use Rattle.cat_image.specs.declared.tables.ImageEnumeration.{ImageEnumeration}
use Rattle.cat_image.specs.declared.tables.ImageScope.{ImageScope}
use Rattle.cat_image.specs.declared.tables.ImageTables.{ImageTables}
use Rattle.cat_verify_tables.specs.inside.Causes.{lines_in}
use Rattle.cat_verify_tables.specs.inside.NamedWords.{field_count, case_count, item_count}
use Rattle.cat_verify_tables.specs.inside.DeclarationWords.{HasFewRows}
use Rattle.cat_verify_tables.proofs.BadLemmas.{files, structures, enumerations, scopes, tail}
use Rattle.cat_verify_tables.proofs.FrontLemmas.{structures_many, enumerations_many, scopes_many}

-- as many entries as lines at most
pub entries_within : {A : Type 0} (parts : A → ℕ) (xs : List A) → length xs ≤ lines_in parts xs
entries_within parts [] = omega arith
entries_within parts (x ∷ xs) = let rest = entries_within parts xs in omega (arith, rest)

-- and as many parts
pub parts_within : {A : Type 0} (parts : A → ℕ) (bound : ℕ) (xs : List A) → lines_in parts xs < bound
    → AllHave (λ x. parts x < bound) xs
parts_within parts bound [] few = tt
parts_within parts bound (x ∷ xs) few = (omega (arith, few), parts_within parts bound xs (omega (arith, few)))

module _ (tables : ImageTables) (few : HasFewRows tables) where
  pub lines_few : lines_in field_count tables.structures + lines_in case_count tables.enumerations
      + lines_in item_count tables.scopes < ENTRIES_BOUND
  lines_few =
      let a = length-append (files tables)
      (structures tables ++ (enumerations tables ++ (scopes tables ++ tail tables)))
      in
      let b = length-append (structures tables) (enumerations tables ++ (scopes tables ++ tail tables)) in
      let c = length-append (enumerations tables) (scopes tables ++ tail tables) in
      let d = length-append (scopes tables) (tail tables) in
      let ss = structures_many tables.structures in
      let es = enumerations_many tables.enumerations in
      let cs = scopes_many tables.scopes in
      let all = few in
      omega (arith, a, b, c, d, ss, es, cs, all)

  pub fields_few : AllHave (λ (s : ImageStructure). length s.fields < ENTRIES_BOUND) tables.structures
  fields_few = let all = lines_few in parts_within field_count ENTRIES_BOUND tables.structures (omega (arith, all))

  pub cases_few : AllHave (λ (e : ImageEnumeration). length e.cases < ENTRIES_BOUND) tables.enumerations
  cases_few = let all = lines_few in parts_within case_count ENTRIES_BOUND tables.enumerations (omega (arith, all))

  pub items_few : AllHave (λ (s : ImageScope). length s.items < ENTRIES_BOUND) tables.scopes
  items_few = let all = lines_few in parts_within item_count ENTRIES_BOUND tables.scopes (omega (arith, all))

  pub types_few : length tables.structures + length tables.enumerations < ENTRIES_BOUND
  types_few =
      let all = lines_few in
      let one = entries_within field_count tables.structures in
      let other = entries_within case_count tables.enumerations in
      omega (arith, all, one, other)

  pub scopes_few : length tables.scopes < ENTRIES_BOUND
  scopes_few = let all = lines_few in let one = entries_within item_count tables.scopes in omega (arith, all, one)
