-- Faults of scopes and their items make lines of tables bad.
use Rattle.std.proofs.Common.{◌≡◌, ◌+◌, ℕ, suc, List, [], ◌∷◌, ◌++◌, length, take, drop}
use Rattle.std.proofs.Common.{map}
use Rattle.std.proofs.Common.{Some, slice_get, inl, inr, refl, sym, ap, ◌∙◌, subst, arith, append-nil}
use Rattle.std.specs.Prelude.{flat_map}
use Rattle.std.proofs.lemmas.List.{append_assoc, length-append, length-map, map-append}
use Rattle.cat_names.proofs.Exported.{in_front, behind}
use Rattle.cat_image.specs.declared.row.Row.{Row}
use Rattle.cat_image.specs.declared.row.Row.TheVariants as row
use Rattle.cat_image.specs.declared.tables.ImageItem.{ImageItem}
use Rattle.cat_image.specs.declared.tables.ImageScope.{ImageScope}
use Rattle.cat_image.specs.declared.tables.ImageTables.{ImageTables}
use Rattle.cat_image.specs.Words.{Text}
use Rattle.cat_image.specs.Rows.{scope_rows}
use Rattle.cat_verify_tables.specs.TypeWords.{IsTypeName}
use Rattle.cat_verify_tables.specs.RowFronts.{declared_in}
use Rattle.cat_verify_tables.specs.WrongParts.{IsWrongItem, IsWrongName}
use Rattle.cat_verify_tables.specs.WrongTables.{IsBadTable}
use Rattle.cat_verify_tables.specs.WrongTables as wrong
use Rattle.cat_verify_tables.specs.inside.Causes.{IsFaultyIn, lines_in}
use Rattle.cat_verify_tables.specs.inside.NamedWords.{IsNamedAsTypeAt, IsWrongHeaderAt, case_count, item_count}
use Rattle.cat_verify_tables.specs.inside.DeclaredWords.{scope_name, structures_named, enumerations_named}
use Rattle.cat_verify_tables.proofs.BadLemmas.{bad_at, files, structures, enumerations, tail, second, group_bad}
use Rattle.cat_verify_tables.proofs.BadLemmas.{behind_enumerations, structures_end}
use Rattle.cat_verify_tables.proofs.FrontLemmas.{declared_both, declared_behind_files, enumerations_many}
use Rattle.cat_verify_tables.proofs.FrontLemmas.{structures_declare, enumerations_declare, scopes_declare, scopes_many}
use Rattle.cat_verify_tables.proofs.RowLemmas.{length_front, split_at}

module _ (tables : ImageTables) where
  -- the line of the first scope
  abbrev pub third : ℕ
  third = second tables + lines_in case_count tables.enumerations

  abbrev front : List Row
  front = files tables ++ structures tables ++ enumerations tables

  pub enumerations_end : third ≡ length front + 2
  enumerations_end =
      let both = length-append (files tables ++ structures tables) (enumerations tables) in
      let many = enumerations_many tables.enumerations in
      let before = structures_end tables in omega (arith, both, many, before)

  -- the names in front of a scope
  abbrev types_named : List Text
  types_named = structures_named tables ++ enumerations_named tables

  scope_front : (k : ℕ) → declared_in (front ++ flat_map scope_rows (take k tables.scopes) ++ [])
      ≡ types_named ++ map scope_name (take k tables.scopes)
  scope_front k =
      let cs = flat_map scope_rows (take k tables.scopes) in
      let es = enumerations tables in
      let ss = structures tables in
      ap declared_in (append-nil (front ++ cs) ∙ append_assoc (files tables ++ ss) es cs
      ∙ append_assoc (files tables) ss (es ++ cs))
      ∙ declared_behind_files tables.files (ss ++ (es ++ cs)) ∙ declared_both ss (es ++ cs)
      ∙ ap (λ (names : List Text). names ++ declared_in (es ++ cs)) (structures_declare tables.structures)
      ∙ ap (λ (names : List Text). structures_named tables ++ names) (declared_both es cs
      ∙ ap (λ (names : List Text). names ++ declared_in cs) (enumerations_declare tables.enumerations)
      ∙ ap (λ (names : List Text). enumerations_named tables ++ names) (scopes_declare (take k tables.scopes)))
      ∙ sym (append_assoc (structures_named tables) (enumerations_named tables) (map scope_name (take k tables.scopes)))

  scope_header_bad : (k : ℕ) (s : ImageScope) → slice_get tables.scopes k ≡ Some s
      → IsWrongName IsTypeName (types_named ++ map scope_name (take k tables.scopes)) s.name
      → IsBadTable tables (third + lines_in item_count (take k tables.scopes) + 0)
  scope_header_bad k s at fault =
      group_bad tables scope_rows item_count scopes_many front (tail tables) tables.scopes third k s []
      (map row.Item s.items) (row.Scope s.name s.entry) (behind_enumerations tables) enumerations_end at refl
      (wrong.scope (subst (λ names. IsWrongName IsTypeName names s.name) (sym (scope_front k)) fault))

  -- a scope with the name of a type
  pub scope_type_bad : (line : ℕ) → IsFaultyIn item_count (IsNamedAsTypeAt types_named) third tables.scopes line
      → IsBadTable tables line
  scope_type_bad line faulty =
      bad_at tables (third + lines_in item_count (take faulty.index tables.scopes) + 0) line
      (omega (arith, faulty.fault.0))
      (scope_header_bad faulty.index faulty.entry faulty.at
      (inl (in_front faulty.entry.name types_named (map scope_name (take faulty.index tables.scopes)) faulty.fault.1)))

  -- or one whose name stands there already, or isn't spelled as it has to be
  pub scope_name_bad : (line : ℕ) → IsFaultyIn item_count (IsWrongHeaderAt scope_name []) third tables.scopes line
      → IsBadTable tables line
  scope_name_bad line faulty =
      bad_at tables (third + lines_in item_count (take faulty.index tables.scopes) + 0) line
      (omega (arith, faulty.fault.0))
      (scope_header_bad faulty.index faulty.entry faulty.at
      (behind_types (map scope_name (take faulty.index tables.scopes)) faulty.entry.name faulty.fault.1))
    where
      behind_types : (names : List Text) (name : Text) → IsWrongName IsTypeName names name
          → IsWrongName IsTypeName (types_named ++ names) name
      behind_types names name (inl one) = inl (behind name types_named names one)
      behind_types names name (inr other) = inr other

  -- ---- items

  item_rows : (s : ImageScope) (i : ℕ) (x : ImageItem) → slice_get s.items i ≡ Some x
      → scope_rows s ≡ (row.Scope s.name s.entry ∷ map row.Item (take i s.items))
      ++ row.Item x ∷ map row.Item (drop (suc i) s.items)
  item_rows s i x at = ap (λ rs. row.Scope s.name s.entry ∷ rs)
      (ap (map row.Item) (split_at s.items i x at) ∙ map-append row.Item (take i s.items) (x ∷ drop (suc i) s.items))

  -- what stands in front of an item
  abbrev pub item_front : ℕ → ImageScope → ℕ → List Row
  item_front k s i = front ++ flat_map scope_rows (take k tables.scopes)
      ++ (row.Scope s.name s.entry ∷ map row.Item (take i s.items))

  pub item_bad : (k : ℕ) (s : ImageScope) (i : ℕ) (x : ImageItem) → slice_get tables.scopes k ≡ Some s
      → slice_get s.items i ≡ Some x → IsWrongItem tables (item_front k s i) x
      → IsBadTable tables (third + lines_in item_count (take k tables.scopes) + 1 + i)
  item_bad k s i x at within fault =
      let header = row.Scope s.name s.entry ∷ map row.Item (take i s.items) in
      let own = length-map (take i s.items) row.Item in
      let before = length_front s.items i x within in
      bad_at tables (third + lines_in item_count (take k tables.scopes) + length header)
      (third + lines_in item_count (take k tables.scopes) + 1 + i) (omega (arith, own, before))
      (group_bad tables scope_rows item_count scopes_many front (tail tables) tables.scopes third k s header
      (map row.Item (drop (suc i) s.items)) (row.Item x) (behind_enumerations tables) enumerations_end at
      (item_rows s i x within) (wrong.item fault))
