-- The words of scopes are those of the lines that told them.
use Rattle.std.proofs.Common.{◌≡◌, ℕ, List, [], ◌∷◌, ◌++◌, length, map, Some, slice_get, refl, sym, ap, ◌∙◌}
use Rattle.std.proofs.Common.{arith}
use Rattle.std.proofs.lemmas.List.{length-map}
use Rattle.cat_value.specs.declared.declaration.Kind.{Kind}
use Rattle.cat_value.specs.declared.declaration.Kind.TheVariants as kind
use Rattle.cat_value.specs.declared.declaration.ItemDecl.{ItemDecl}
use Rattle.cat_value.specs.declared.declaration.Scope.{Scope}
use Rattle.cat_value.specs.declared.decls.Decls.{Decls}
use Rattle.cat_listing.specs.Texts.{name_at}
use Rattle.cat_listing.specs.DeclarationLines.{what_text}
use Rattle.cat_image.specs.declared.tables.ImagePos.{ImagePos}
use Rattle.cat_image.specs.declared.tables.ImageKind.{ImageKind}
use Rattle.cat_image.specs.declared.tables.ImageItem.{ImageItem}
use Rattle.cat_image.specs.declared.tables.ImageScope.{ImageScope}
use Rattle.cat_image.specs.declared.tables.ImageTables.{ImageTables}
use Rattle.cat_image.specs.Words.{Text}
use Rattle.cat_image.specs.Listed.{kind_words, item_words, scopes_words}
use Rattle.cat_check_names.specs.Table.{Table, number_in}
use Rattle.cat_verify_tables.specs.declared.scoping.Known.{Known}
use Rattle.cat_verify_tables.specs.inside.Entries.{AreTold}
use Rattle.cat_verify_tables.specs.inside.NamedWords.{numbered}
use Rattle.cat_verify_tables.specs.inside.DeclaredWords.{structures_named, enumerations_named, scope_name}
use Rattle.cat_verify_tables.specs.inside.PartWords.{IsStructureOf, IsEnumerationOf}
use Rattle.cat_verify_tables.specs.inside.ItemWords.{IsWhatOf, IsItemOf, item_names, IsScopeOf}
use Rattle.cat_verify_tables.proofs.DeclaringLemmas.{told_many}
use Rattle.cat_verify_tables.proofs.NumberLemmas.{AreNumbered, name_at_number, named_at}
use Rattle.cat_verify_tables.proofs.WordedLemmas.{told_map, told_names, held_worded}

module _ (tables : ImageTables) (known : Known) (ds : Decls)
    (are : AreNumbered known.types (structures_named tables) (enumerations_named tables))
    (structures_told : AreTold (λ _. IsStructureOf known.types) [] tables.structures ds.structures)
    (enumerations_told : AreTold (λ _. IsEnumerationOf known.types) [] tables.enumerations ds.enumerations)
    (numbers : known.scopes ≡ numbered 0 (map scope_name tables.scopes))
    (scopes_told : AreTold (λ _. IsScopeOf known) [] tables.scopes ds.scopes) where
  called_worded : (what : Text) (scope : ℕ) → number_in known.scopes what ≡ Some scope
      → what ≡ name_at (λ (s : Scope). s.name) (slice_get ds.scopes scope)
  called_worded what scope is =
      let it = name_at_number 0 (map scope_name tables.scopes) what scope
      (sym (ap (λ (t : Table). number_in t what) numbers) ∙ is) in
      let same : scope ≡ it.index = omega (arith, it.number_is) in
      let names = told_names (λ _. IsScopeOf known) scope_name (λ (s : Scope). s.name) (λ front l s told. told.name) []
      tables.scopes ds.scopes scopes_told in
      sym (named_at (λ (s : Scope). s.name) ds.scopes scope what
      (sym (ap (λ (ns : List Text). slice_get ns scope) names) ∙ ap (slice_get (map scope_name tables.scopes)) same
      ∙ it.at))

  what_worded : (what : Text) (item : ItemDecl) (k : Kind) → IsWhatOf known what item k → what ≡ what_text ds item k
  what_worded what item (kind.Called scope) told = called_worded what scope told.0
  what_worded what item kind.Input told = held_worded tables known.types ds are structures_told enumerations_told what
      item told
  what_worded what item kind.Output told = held_worded tables known.types ds are structures_told enumerations_told
      what item told
  what_worded what item kind.Internal told = held_worded tables known.types ds are structures_told enumerations_told
      what item told
  what_worded what item kind.Context told = held_worded tables known.types ds are structures_told enumerations_told
      what item told
  what_worded what item kind.InputOutput told = held_worded tables known.types ds are structures_told
      enumerations_told what item told
  what_worded what item kind.ContextOutput told = held_worded tables known.types ds are structures_told
      enumerations_told what item told

  item_worded : (front : List ImageItem) (l : ImageItem) (item : ItemDecl) → IsItemOf known (item_names front) l item
      → l ≡ item_words ds item
  item_worded front l item told =
      let d = told.decl in
      ap (λ (name : Text). record l { name = name }) (sym d.name)
      ∙ ap (λ (k : ImageKind). record l { name = item.name; kind = k }) (sym d.kind)
      ∙ ap (λ (pos : ImagePos). record l { name = item.name; kind = kind_words item.kind; pos = pos }) (sym d.pos)
      ∙ ap (λ (what : Text). record (item_words ds item) { what = what }) (what_worded l.what item item.kind d.what)

  pub scopes_worded : tables.scopes
      ≡ scopes_words ds ds.scopes (map (λ (s : ImageScope). s.entry) tables.scopes)
  scopes_worded = by [] tables.scopes ds.scopes scopes_told
    where
      one : (l : ImageScope) (s : Scope) → IsScopeOf known l s
          → l ≡ record { name = s.name; entry = l.entry; items = map (item_words ds) s.items }
      one l s told =
          ap (λ (name : Text). record l { name = name }) (sym told.name)
          ∙ ap (λ (items : List ImageItem). record l { name = s.name; items = items })
          (told_map (λ before. IsItemOf known (item_names before)) (item_words ds) item_worded [] l.items s.items
          told.items.each)

      by : (front ls : List ImageScope) (ss : List Scope) → AreTold (λ _. IsScopeOf known) front ls ss
          → ls ≡ scopes_words ds ss (map (λ (s : ImageScope). s.entry) ls)
      by front [] [] told = refl
      by front [] (s ∷ ss) told = absurd told
      by front (l ∷ ls) [] told = absurd told
      by front (l ∷ ls) (s ∷ ss) told =
          ap (λ (k : ImageScope). k ∷ ls) (one l s told.0)
          ∙ ap (λ (ks : List ImageScope). record { name = s.name; entry = l.entry; items = map (item_words ds) s.items }
          ∷ ks) (by (front ++ l ∷ []) ls ss told.1)

  pub one_entry_each : length (map (λ (s : ImageScope). s.entry) tables.scopes) ≡ length ds.scopes
  one_entry_each =
      length-map tables.scopes (λ (s : ImageScope). s.entry)
      ∙ sym (told_many (λ _. IsScopeOf known) [] tables.scopes ds.scopes scopes_told)
