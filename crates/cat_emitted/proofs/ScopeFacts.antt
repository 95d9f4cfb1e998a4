-- Scopes of spelled declarations are right.
use Rattle.std.proofs.Common.{◌≡◌, ◌≤◌, ◌+◌, ◌⊎◌, ℕ, true, List, [], ◌∷◌, ◌++◌, map, length}
use Rattle.std.proofs.Common.{slice_get, Some, inl, inr, refl, sym, ap, ◌∙◌, subst, arith}
use Rattle.std.specs.Prelude.{flat_map}
use Rattle.std.proofs.lemmas.List.{length-map}
use Rattle.cat_scope.specs.Names.{AllHave, IsOneOf}
use Rattle.cat_value.specs.declared.declaration.Structure.{Structure}
use Rattle.cat_value.specs.declared.declaration.Enumeration.{Enumeration}
use Rattle.cat_value.specs.declared.declaration.ItemDecl.{ItemDecl}
use Rattle.cat_value.specs.declared.declaration.Scope.{Scope}
use Rattle.cat_value.specs.declared.decls.Decls.{Decls}
use Rattle.cat_code.specs.declared.code.Tables.{Tables}
use Rattle.cat_code.specs.Places.{function_places}
use Rattle.cat_image.specs.declared.row.Row.TheVariants as row
use Rattle.cat_image.specs.declared.tables.ImageItem.{ImageItem}
use Rattle.cat_image.specs.declared.tables.ImageScope.{ImageScope}
use Rattle.cat_image.specs.declared.tables.ImageTables.{ImageTables}
use Rattle.cat_image.specs.Words.{Text}
use Rattle.cat_image.specs.Rows.{scope_rows}
use Rattle.cat_image.specs.Listed.{words_of, item_words, structure_words, enumeration_words}
use Rattle.cat_verify_tables.specs.RowFronts.{Open, open_in, functions_in, is_function}
use Rattle.cat_verify_tables.specs.TypeWords.{IsPartName}
use Rattle.cat_verify_tables.specs.WrongParts.{IsWrongItem, IsWrongName}
use Rattle.cat_verify_tables.specs.WrongParts as wrong
use Rattle.cat_verify_tables.specs.inside.DeclaredWords.{structures_named, enumerations_named, scope_name}
use Rattle.cat_verify_tables.proofs.Exported.{open_scope, opened, IsRightScope, before_item, files as file_rows}
use Rattle.cat_verify_tables.proofs.Exported.{structures, enumerations, functions_before, scopes_parted, items_parted}
use Rattle.cat_emitted.specs.Spelled.{AreSpelledDecls, IsSpelledScope}
use Rattle.cat_emitted.specs.Emitted.{IsOfFiles, AreOfFiles}
use Rattle.cat_emitted.proofs.ListFacts.{all_at, all_of_one, apart_across, apart_right, one_of_both, one_mapped}
use Rattle.cat_emitted.proofs.PartFacts.{part_named, type_named}
use Rattle.cat_emitted.proofs.ItemFacts as items
use Rattle.cat_emitted.proofs.PlaceFacts.{not_lost}
use Rattle.cat_emitted.proofs.Splits.{map_split, split_one, split_before, apart_front, one_scope}
use Rattle.cat_emitted.proofs.Splits.{AreScopesSplit, scopes_split, scopes_names, at_seam, one_in}
use Rattle.cat_emitted.proofs.DeclaredFunctions.{scopes_counted}

module _ (code : Tables) (files : List Text) (spelled : AreSpelledDecls code.decls)
    (one_entry_each : length code.scopes ≡ length code.decls.scopes) (placed : AreOfFiles files code)
    (functions : length code.functions ≡ length (function_places code.decls)) where
  abbrev ds : Decls
  ds = code.decls

  abbrev image : ImageTables
  image = words_of code files

  abbrev IsFairItem : ItemDecl → Type 0
  IsFairItem item = items.IsFairItem code files spelled one_entry_each item

  -- ---- all items

  items_fair : (n : ℕ) (s : Scope) → slice_get ds.scopes n ≡ Some s → AllHave IsFairItem s.items
  items_fair n s at =
      items.all_from IsFairItem s.items (λ k i own. items.item_fair code files spelled one_entry_each n k s i at own)

  all_fair : AllHave (λ (s : Scope). AllHave IsFairItem s.items) ds.scopes
  all_fair = items.all_from (λ (s : Scope). AllHave IsFairItem s.items) ds.scopes items_fair

  -- ---- functions

  few_functions : (others : List ImageScope) (s : ImageScope) (after : List ImageScope) (before : List ImageItem)
      (i : ImageItem) (behind : List ImageItem) → image.scopes ≡ others ++ s ∷ after
      → s.items ≡ before ++ i ∷ behind → is_function i ≡ true
      → length image.functions ≤ functions_in (before_item image others s before) → ⊥
  few_functions others s after before i behind are own is many =
      let all = scopes_counted ds IsFairItem (items.function_same code files spelled one_entry_each) 0 ds.scopes
      code.scopes one_entry_each all_fair in
      let rows = ap (λ (cs : List ImageScope). functions_in (flat_map scope_rows cs)) are in
      let parted = scopes_parted others s after in
      let item = items_parted before i behind is in
      let same = ap (λ (is : List ImageItem). functions_in (map row.Item is)) own in
      let front = functions_before image others s before in
      omega (arith, all, rows, parted, item, same, front, many, functions)

  -- ---- items

  opens : (others : List ImageScope) (s : ImageScope) (before : List ImageItem)
      → open_in (before_item image others s before) ≡ opened s.name (map (λ (i : ImageItem). i.name) before)
  opens others s before =
      open_scope (file_rows image ++ structures image ++ enumerations image ++ flat_map scope_rows others) s.name
      s.entry before

  items_before : (front : List ItemDecl)
      → map (λ (i : ImageItem). i.name) (map (item_words ds) front) ≡ map (λ (i : ItemDecl). i.name) front
  items_before [] = refl
  items_before (i ∷ front) = ap (λ (ts : List Text). i.name ∷ ts) (items_before front)

  abbrev IsRightAt : List ImageScope → ImageScope → List ImageItem → ImageItem → Type 0
  IsRightAt others s before i = IsWrongItem image (before_item image others s before) i → ⊥

  item_right : (n : ℕ) (scope : Scope) (others : List ImageScope) (entry : ℕ) (after : List ImageScope)
      (before : List ImageItem) (behind : List ImageItem) (item : ItemDecl) → slice_get ds.scopes n ≡ Some scope
      → IsOneOf item scope.items → image.scopes ≡ others ++ one_scope ds scope entry ∷ after
      → (one_scope ds scope entry).items ≡ before ++ item_words ds item ∷ behind
      → (IsOneOf item.name (map (λ (i : ImageItem). i.name) before) → ⊥) → length before + 1 ≤ length scope.items
      → IsRightAt others (one_scope ds scope entry) before (item_words ds item)
  item_right n scope others entry after before behind item at one are own new few = by
    where
      fair : IsFairItem item
      fair = all_of_one IsFairItem scope.items item (items_fair n scope at) one

      by : IsRightAt others (one_scope ds scope entry) before (item_words ds item)
      by (wrong.name other) =
          part_named (map (λ (i : ImageItem). i.name) before) item.name new fair.spelled_item.name
          (subst (λ (o : Open). IsWrongName IsPartName o.parts item.name)
          (opens others (one_scope ds scope entry) before) other)
      by (wrong.too_many many) =
          let few_items = (all_at IsSpelledScope ds.scopes n scope spelled.scopes at).few in
          let same = ap (λ (o : Open). length o.parts) (opens others (one_scope ds scope entry) before) in
          let count = length-map before (λ (i : ImageItem). i.name) in
          omega (arith, many, same, count, few, few_items)
      by (wrong.lost far) =
          not_lost code files item.pos (all_of_one (λ i. IsOfFiles files i.pos) scope.items item
          (all_at (λ (s : Scope). AllHave (λ i. IsOfFiles files i.pos) s.items) ds.scopes n scope placed.items at) one)
          far
      by (wrong.called is none) = items.not_called code files spelled one_entry_each item fair is none
      by (wrong.variable plain none) = items.not_variable code files spelled one_entry_each item fair plain none
      by (wrong.no_entry is many) =
          few_functions others (one_scope ds scope entry) after before (item_words ds item) behind are own is many

  scope_items_right : (n : ℕ) (scope : Scope) (others : List ImageScope) (entry : ℕ) (after : List ImageScope)
      → slice_get ds.scopes n ≡ Some scope → image.scopes ≡ others ++ one_scope ds scope entry ∷ after
      → (before : List ImageItem) (i : ImageItem) (behind : List ImageItem)
      → (one_scope ds scope entry).items ≡ before ++ i ∷ behind → IsRightAt others (one_scope ds scope entry) before i
  scope_items_right n scope others entry after at are before i behind is =
      let own = map_split (item_words ds) scope.items before i behind is in
      let one = split_one (item_words ds) scope.items before i own in
      let word = all_at IsSpelledScope ds.scopes n scope spelled.scopes at in
      let names : map (λ (g : ImageItem). g.name) before ≡ map (λ (g : ItemDecl). g.name) own.front =
      ap (map (λ (g : ImageItem). g.name)) (sym own.before_is) ∙ items_before own.front in
      subst (IsRightAt others (one_scope ds scope entry) before) own.entry_is
      (item_right n scope others entry after before behind own.entry at one are
      (is ∙ ap (λ (x : ImageItem). before ++ x ∷ behind) (sym own.entry_is))
      (λ among. apart_front (λ (g : ItemDecl). g.name) scope.items own.front own.entry own.rest own.are word.apart
      (subst (IsOneOf own.entry.name) names among))
      (split_before (item_words ds) scope.items before i own))

  -- ---- names

  structures_are : structures_named image ≡ map (λ (s : Structure). s.name) ds.structures
  structures_are = by ds.structures
    where
      by : (ss : List Structure)
          → map (λ (s : _). s.name) (map (structure_words ds) ss) ≡ map (λ (s : Structure). s.name) ss
      by [] = refl
      by (s ∷ ss) = ap (λ (ts : List Text). s.name ∷ ts) (by ss)

  enumerations_are : enumerations_named image ≡ map (λ (e : Enumeration). e.name) ds.enumerations
  enumerations_are = by ds.enumerations
    where
      by : (es : List Enumeration)
          → map (λ (e : _). e.name) (map (enumeration_words ds) es) ≡ map (λ (e : Enumeration). e.name) es
      by [] = refl
      by (e ∷ es) = ap (λ (ts : List Text). e.name ∷ ts) (by es)

  abbrev types : List Text
  types = map (λ (r : Structure). r.name) ds.structures ++ map (λ (e : Enumeration). e.name) ds.enumerations

  new_scope : (before : List ImageScope) (s : ImageScope) (own : AreScopesSplit ds ds.scopes code.scopes before s)
      → IsOneOf own.entry.name (types ++ map (λ (r : Scope). r.name) own.front) → ⊥
  new_scope before s own among = by (one_of_both types (map (λ (r : Scope). r.name) own.front) own.entry.name among)
    where
      by : IsOneOf own.entry.name types ⊎ IsOneOf own.entry.name (map (λ (r : Scope). r.name) own.front) → ⊥
      by (inl one) = apart_across types (map (λ (r : Scope). r.name) ds.scopes) own.entry.name spelled.apart one
          (one_mapped (λ (r : Scope). r.name) own.entry ds.scopes
          (subst (IsOneOf own.entry) (sym own.are) (one_in own.front own.entry own.rest)))
      by (inr one) = apart_front (λ (r : Scope). r.name) ds.scopes own.front own.entry own.rest own.are
          (apart_right types (map (λ (r : Scope). r.name) ds.scopes) spelled.apart) one

  pub scopes_are_right : (before : List ImageScope) (s : ImageScope) (after : List ImageScope)
      → image.scopes ≡ before ++ s ∷ after → IsRightScope image before s
  scopes_are_right before s after is =
      let own = scopes_split ds ds.scopes code.scopes before s after is in
      let at = ap (λ (zs : List Scope). slice_get zs (length own.front)) own.are
      ∙ at_seam own.front own.entry own.rest in
      let word = all_at IsSpelledScope ds.scopes (length own.front) own.entry spelled.scopes at in
      let front : map scope_name before ≡ map (λ (r : Scope). r.name) own.front =
      ap (map scope_name) (sym own.before_is) ∙ scopes_names ds own.front own.front_entries own.alike in
      let names : structures_named image ++ enumerations_named image ++ map scope_name before
      ≡ types ++ map (λ (r : Scope). r.name) own.front =
      ap (λ (ts : List Text). ts ++ enumerations_named image ++ map scope_name before) structures_are
      ∙ ap (λ (ts : List Text). map (λ (r : Structure). r.name) ds.structures ++ ts ++ map scope_name before)
      enumerations_are ∙ ap (λ (ts : List Text). types ++ ts) front in
      subst (IsRightScope image before) own.entry_is (record {
        name = type_named (structures_named image ++ enumerations_named image ++ map scope_name before) own.entry.name
            (λ among. new_scope before s own (subst (IsOneOf own.entry.name) names among)) word.name;
        items = scope_items_right (length own.front) own.entry before own.place after at
            (is ∙ ap (λ (x : ImageScope). before ++ x ∷ after) (sym own.entry_is));
      })
