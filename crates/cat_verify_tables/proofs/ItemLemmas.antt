-- Scopes that lines tell are sound where their types are low.
use Rattle.std.proofs.Common.{◌≡◌, ◌<◌, ◌≤◌, ℕ, not, Bool, true, false, List, [], ◌∷◌}
use Rattle.std.proofs.Common.{rules, length, map, Some, IsTrue, refl, sym, ap, ◌∙◌, subst, arith}
use Rattle.std.specs.List.{list_all, AllZip}
use Rattle.std.specs.Cmp.Derive.{both_true}
use Rattle.std.proofs.lemmas.Bool.Decides.{nat_tests}
use Rattle.std.proofs.lemmas.List.{length-map}
use Rattle.cat_pos.specs.declared.limits.TheConstants.{ENTRIES_BOUND}
use Rattle.cat_scope.specs.Names.{AllHave}
use Rattle.cat_value.specs.declared.ty.Ty.{Ty}
use Rattle.cat_value.specs.declared.ty.Ty.TheVariants as flat
use Rattle.cat_value.specs.declared.ty.Ty.TheViews.{out-Ty}
use Rattle.cat_value.specs.declared.ty.Ty.TheViews as ty
use Rattle.cat_value.specs.declared.declaration.Structure.{Structure}
use Rattle.cat_value.specs.declared.declaration.Enumeration.{Enumeration}
use Rattle.cat_value.specs.declared.declaration.Kind.{Kind}
use Rattle.cat_value.specs.declared.declaration.Kind.TheVariants as kind
use Rattle.cat_value.specs.declared.declaration.ItemDecl.{ItemDecl}
use Rattle.cat_value.specs.declared.declaration.Scope.{Scope}
use Rattle.cat_value.specs.Declarations.{highest, is_declared, is_sound, is_boolean, kind_is_sound}
use Rattle.cat_value.specs.Declarations.{item_is_sound, scope_is_sound}
use Rattle.cat_value.specs.Heights.{height_to}
use Rattle.cat_value.proofs.Exported.{is_declared_Boolean}
use Rattle.cat_image.specs.declared.tables.ImageScope.{ImageScope}
use Rattle.cat_image.specs.Words.{Text}
use Rattle.cat_check_names.specs.Table.{Table, number_in}
use Rattle.cat_verify_tables.specs.declared.scoping.Known.{Known}
use Rattle.cat_verify_tables.specs.inside.Entries.{AreTold}
use Rattle.cat_verify_tables.specs.inside.NamedWords.{numbered}
use Rattle.cat_verify_tables.specs.inside.DeclaredWords.{scope_name}
use Rattle.cat_verify_tables.specs.inside.PartWords.{Spells}
use Rattle.cat_verify_tables.specs.inside.ItemWords.{IsHeldOf, IsHeldType, IsWhatOf, IsItemOf, item_names, IsScopeOf}
use Rattle.cat_verify_tables.proofs.DeclaringLemmas.{told_each, told_have, told_many}
use Rattle.cat_verify_tables.proofs.NumberLemmas.{AreNumbered, name_at_number, spelled_declared, within_at}
use Rattle.cat_verify_tables.proofs.SoundLemmas.{all_test, both_have}

module _ (known : Known) (S E : List Text) (lines : List ImageScope) (ss : List Structure) (es : List Enumeration)
    (scopes : List Scope) (are : AreNumbered known.types S E) (many : length ss ≡ length S)
    (more : length es ≡ length E) (numbers : known.scopes ≡ numbered 0 (map scope_name lines))
    (told : AreTold (λ _. IsScopeOf known) [] lines scopes) where
  declared : (w : Text) (t : Ty) → Spells known.types w t → IsTrue (is_declared ss es t)
  declared = spelled_declared known.types S E are ss es many more

  -- an item whose kind and types are declared
  record IsDeclared (item : ItemDecl) : Type 0 where
    pub kind : IsTrue (kind_is_sound (length scopes) item.ty item.condition item.kind)
    pub ty : IsTrue (is_declared ss es item.ty)
    pub params : AllHave (λ t. IsTrue (is_declared ss es t)) item.params
    pub few : length item.params < ENTRIES_BOUND

  called_within : (what : Text) (n : ℕ) → number_in known.scopes what ≡ Some n → n < length scopes
  called_within what n is =
      let it = name_at_number 0 (map scope_name lines) what n
      (sym (ap (λ (t : Table). number_in t what) numbers) ∙ is) in
      let within = within_at (map scope_name lines) it.index what it.at in
      let named = length-map lines scope_name in
      let count = told_many (λ _. IsScopeOf known) [] lines scopes told in
      let number = it.number_is in omega (arith, within, named, count, number)

  params_declared : (texts : List Text) (params : List Ty) → AllZip (Spells known.types) texts params
      → AllHave (λ t. IsTrue (is_declared ss es t)) params
  params_declared [] [] each = tt
  params_declared [] (p ∷ params) each = absurd each
  params_declared (t ∷ texts) [] each = absurd each
  params_declared (t ∷ texts) (p ∷ params) each = (declared t p each.0, params_declared texts params each.1)

  params_many : (texts : List Text) (params : List Ty) → AllZip (Spells known.types) texts params
      → length params ≡ length texts
  params_many [] [] each = refl
  params_many [] (p ∷ params) each = absurd each
  params_many (t ∷ texts) [] each = absurd each
  params_many (t ∷ texts) (p ∷ params) each = let rest = params_many texts params each.1 in omega (arith, rest)

  held_declared : (what : Text) (item : ItemDecl) → IsTrue
      (kind_is_sound (length scopes) item.ty item.condition item.kind)
      → IsHeldOf known.types what (record { ty = item.ty; condition = item.condition; params = item.params })
      → IsDeclared item
  held_declared what item sound held =
      let each = held.params_are.each in
      let count = params_many held.texts item.params each in
      let few = held.params_are.few in
      record {
        kind = sound;
        ty = by item.condition held.ty_is;
        params = params_declared held.texts item.params each;
        few = omega (arith, count, few);
      }
    where
      by : (c : Bool) → IsHeldType known.types held.text c item.ty → IsTrue (is_declared ss es item.ty)
      by true is = subst (λ (t : Ty). IsTrue (is_declared ss es t)) (sym is.1) (is_declared_Boolean ss es)
      by false is = declared held.text item.ty is

  boolean : is_boolean (out-Ty flat.Boolean) ≡ true
  boolean = search (rules, ty.the_lemmas)

  what_declared : (what : Text) (item : ItemDecl) (k : Kind) → item.kind ≡ k → IsWhatOf known what item k
      → IsDeclared item
  what_declared what item (kind.Called n) is told =
      let within = called_within what n told.0 in
      record {
        kind = subst (λ (k : Kind). IsTrue (kind_is_sound (length scopes) item.ty item.condition k)) (sym is)
            (both_true (both_true (grind (arith, nat_tests, within))
            (subst (λ (t : Ty). IsTrue (is_boolean (out-Ty t))) (sym told.1) boolean))
            (ap not told.2));
        ty = subst (λ (t : Ty). IsTrue (is_declared ss es t)) (sym told.1) (is_declared_Boolean ss es);
        params = subst (AllHave (λ t. IsTrue (is_declared ss es t))) (sym told.3) tt;
        few = let none = ap length told.3 in omega (arith, none);
      }
  what_declared what item kind.Input is told = held_declared what item
      (ap (kind_is_sound (length scopes) item.ty item.condition) is) told
  what_declared what item kind.Output is told = held_declared what item
      (ap (kind_is_sound (length scopes) item.ty item.condition) is) told
  what_declared what item kind.Internal is told = held_declared what item
      (ap (kind_is_sound (length scopes) item.ty item.condition) is) told
  what_declared what item kind.Context is told = held_declared what item
      (ap (kind_is_sound (length scopes) item.ty item.condition) is) told
  what_declared what item kind.InputOutput is told = held_declared what item
      (ap (kind_is_sound (length scopes) item.ty item.condition) is) told
  what_declared what item kind.ContextOutput is told = held_declared what item
      (ap (kind_is_sound (length scopes) item.ty item.condition) is) told

  -- ---- with low types

  pub record IsLow (item : ItemDecl) : Type 0 where
    pub ty : height_to ss es highest item.ty ≤ highest
    pub params : AllHave (λ t. height_to ss es highest t ≤ highest) item.params

  type_sound : (t : Ty) → IsTrue (is_declared ss es t) → height_to ss es highest t ≤ highest → IsTrue (is_sound ss es t)
  type_sound t is low = both_true is (grind (arith, nat_tests, low))

  item_sound : (item : ItemDecl) → IsDeclared item → IsLow item → IsTrue (item_is_sound ss es (length scopes) item)
  item_sound item is low =
      let few = is.few in
      both_true (both_true (both_true is.kind (type_sound item.ty is.ty low.ty)) (grind (arith, nat_tests, few)))
      (all_test (is_sound ss es) item.params (both_have (λ t. IsTrue (is_declared ss es t))
      (λ t. height_to ss es highest t ≤ highest) (λ t. IsTrue (is_sound ss es t)) type_sound item.params is.params
      low.params))

  -- a scope whose items are declared, and not too many
  record IsDeclaredScope (s : Scope) : Type 0 where
    pub few : length s.items < ENTRIES_BOUND
    pub items : AllHave IsDeclared s.items

  scope_declared : (front : List ImageScope) (l : ImageScope) (s : Scope) → length l.items < ENTRIES_BOUND
      → IsScopeOf known l s → IsDeclaredScope s
  scope_declared front l s few is =
      let count = told_many (λ before. IsItemOf known (item_names before)) [] l.items s.items is.items.each in
      record {
        few = omega (arith, few, count);
        items = told_each (λ before. IsItemOf known (item_names before)) IsDeclared
            (λ before i item it. what_declared i.what item item.kind refl it.decl.what) [] l.items s.items
            is.items.each;
      }

  pub scopes_sound : AllHave (λ (s : ImageScope). length s.items < ENTRIES_BOUND) lines
      → AllHave (λ (s : Scope). AllHave IsLow s.items) scopes
      → IsTrue (list_all (scope_is_sound ss es (length scopes)) scopes)
  scopes_sound few low = all_test (scope_is_sound ss es (length scopes)) scopes
      (both_have IsDeclaredScope (λ (s : Scope). AllHave IsLow s.items)
      (λ s. IsTrue (scope_is_sound ss es (length scopes) s)) (λ s is below.
      let count = is.few in
      both_true (grind (arith, nat_tests, count))
      (all_test (item_is_sound ss es (length scopes)) s.items
      (both_have IsDeclared IsLow (λ item. IsTrue (item_is_sound ss es (length scopes) item)) item_sound s.items
      is.items below))) scopes
      (told_have (λ _. IsScopeOf known) (λ (s : ImageScope). length s.items < ENTRIES_BOUND) IsDeclaredScope
      scope_declared [] lines scopes few told) low)
