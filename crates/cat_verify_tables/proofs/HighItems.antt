-- Items that are too high make lines bad.
use Rattle.std.proofs.Common.{◌≡◌, ◌≢◌, ◌+◌, ℕ, List, [], ◌∷◌, take, inl, inr}
use Rattle.std.proofs.Common.{◌∙◌}
use Rattle.std.proofs.Common.{subst, arith}
use Rattle.cat_scope.specs.Names.{IsOneOf}
use Rattle.cat_value.specs.declared.ty.Ty.TheVariants as flat
use Rattle.cat_value.specs.declared.declaration.Kind.{Kind}
use Rattle.cat_value.specs.declared.declaration.Kind.TheVariants as kind
use Rattle.cat_value.specs.declared.declaration.ItemDecl.{ItemDecl}
use Rattle.cat_value.specs.declared.declaration.Scope.{Scope}
use Rattle.cat_image.specs.declared.row.Row.{Row}
use Rattle.cat_image.specs.declared.tables.ImageItem.{ImageItem}
use Rattle.cat_image.specs.declared.tables.ImageKind.{ImageKind}
use Rattle.cat_image.specs.declared.tables.ImageKind.TheVariants as words
use Rattle.cat_image.specs.declared.tables.ImageScope.{ImageScope}
use Rattle.cat_image.specs.declared.tables.ImageTables.{ImageTables}
use Rattle.cat_image.specs.Listed.{kind_words}
use Rattle.cat_verify_tables.specs.declared.heights.Measures.{Measures}
use Rattle.cat_verify_tables.specs.declared.scoping.Known.{Known}
use Rattle.cat_verify_tables.specs.WrongParts.{IsWrongItem}
use Rattle.cat_verify_tables.specs.WrongParts as wrong
use Rattle.cat_verify_tables.specs.WrongTables.{IsBadTable}
use Rattle.cat_verify_tables.specs.inside.Causes.{IsFaultyIn, lines_in}
use Rattle.cat_verify_tables.specs.inside.Entries.{AreTold}
use Rattle.cat_verify_tables.specs.inside.HeldWords.{ArePlain}
use Rattle.cat_verify_tables.specs.inside.NamedWords.{item_count}
use Rattle.cat_verify_tables.specs.inside.Ordering.{items_of}
use Rattle.cat_verify_tables.specs.inside.HighWords.{HasHighItem, IsHighItem, IsHighType}
use Rattle.cat_verify_tables.specs.inside.DeclaredWords.{structures_named, enumerations_named}
use Rattle.cat_verify_tables.specs.inside.PartWords.{IsStructureOf, IsEnumerationOf}
use Rattle.cat_verify_tables.specs.inside.ItemWords.{IsHeldOf, IsWhatOf, IsItemOf, item_names, IsScopeOf}
use Rattle.cat_verify_tables.proofs.BadLemmas.{bad_at}
use Rattle.cat_verify_tables.proofs.BadScopes.{item_bad, item_front, third}
use Rattle.cat_verify_tables.proofs.CloseLemmas.{lines_told}
use Rattle.cat_verify_tables.proofs.DeclaringLemmas.{told_many}
use Rattle.cat_verify_tables.proofs.KnownLemmas.{Knows}
use Rattle.cat_verify_tables.proofs.MadeLemmas.{told_of}
use Rattle.cat_verify_tables.proofs.NumberLemmas.{AreNumbered}
use Rattle.cat_verify_tables.proofs.PartingLemmas.{boolean_low, no_high_variable}

-- as many lines for a scope as for what it is told by
pub same_items : (known : Known) (front : List ImageScope) (l : ImageScope) (s : Scope) → IsScopeOf known l s
    → items_of s ≡ item_count l
same_items known front l s told =
    told_many (λ before. IsItemOf known (item_names before)) [] l.items s.items told.items.each

module _ (tables : ImageTables) (known : Known) (m : Measures)
    (are : AreNumbered known.types (structures_named tables) (enumerations_named tables))
    (structures_told : AreTold (λ _. IsStructureOf known.types) [] tables.structures m.structures.now)
    (enumerations_told : AreTold (λ _. IsEnumerationOf known.types) [] tables.enumerations m.enumerations.now)
    (knows : Knows tables known.types) (plain : ArePlain known.types) (scopes : List Scope)
    (scopes_told : AreTold (λ _. IsScopeOf known) [] tables.scopes scopes) where
  no_boolean : IsHighType m flat.Boolean → ⊥
  no_boolean = boolean_low tables known.types m are structures_told enumerations_told knows plain

  called_low : (item : ItemDecl) → item.ty ≡ flat.Boolean → item.params ≡ [] → IsHighItem m item → ⊥
  called_low item ty params high = by high.one
    where
      by : IsOneOf high.ty (item.ty ∷ item.params) → ⊥
      by (inl same) = no_boolean (subst (IsHighType m) (same ∙ ty) high.high)
      by (inr more) = subst (IsOneOf high.ty) params more

  variable_high : (front : List Row) (x : ImageItem) (item : ItemDecl) (k : ImageKind) → k ≡ x.kind → k ≢ words.Called
      → IsHeldOf known.types x.what (record { ty = item.ty; condition = item.condition; params = item.params })
      → IsHighItem m item → IsWrongItem tables front x
  variable_high front x item k is other held high =
      wrong.variable (λ called. other (is ∙ called))
      (no_high_variable tables known.types m are structures_told enumerations_told knows plain x.what
      (record { ty = item.ty; condition = item.condition; params = item.params }) held high)

  item_high : (front : List Row) (x : ImageItem) (item : ItemDecl) (k : Kind) → kind_words k ≡ x.kind
      → IsWhatOf known x.what item k → IsHighItem m item → IsWrongItem tables front x
  item_high front x item (kind.Called n) is told high = absurd (called_low item told.1 told.3 high)
  item_high front x item kind.Input is told high =
      variable_high front x item words.Input is (λ same. cc same) told high
  item_high front x item kind.Output is told high =
      variable_high front x item words.Output is (λ same. cc same) told high
  item_high front x item kind.Internal is told high =
      variable_high front x item words.Internal is (λ same. cc same) told high
  item_high front x item kind.Context is told high =
      variable_high front x item words.Context is (λ same. cc same) told high
  item_high front x item kind.InputOutput is told high =
      variable_high front x item words.InputOutput is (λ same. cc same) told high
  item_high front x item kind.ContextOutput is told high =
      variable_high front x item words.ContextOutput is (λ same. cc same) told high

  pub high_item_bad : (line : ℕ) → IsFaultyIn items_of (λ _. HasHighItem m) (third tables) scopes line
      → IsBadTable tables line
  high_item_bad line faulty =
      let k = faulty.index in
      let s = faulty.entry in
      let l = told_of (λ _. IsScopeOf known) [] tables.scopes scopes k s scopes_told faulty.at in
      let item = faulty.fault in
      let x = told_of (λ before. IsItemOf known (item_names before)) [] l.0.items s.items item.index item.entry
      l.3.items.each item.at in
      let lines = lines_told (λ _. IsScopeOf known) item_count items_of (same_items known) [] tables.scopes scopes k
      scopes_told in
      bad_at tables (third tables + lines_in item_count (take k tables.scopes) + 1 + item.index) line
      (omega (arith, item.line_is, lines))
      (item_bad tables k l.0 item.index x.0 l.1 x.1
      (item_high (item_front tables k l.0 item.index) x.0 item.entry item.entry.kind x.3.decl.kind x.3.decl.what
      item.fault))
