-- Items that were told are told whole.
use Rattle.std.proofs.Common.{◌≡◌, Bool, true, false, List, [], refl, sym, ap, ◌∙◌, true≢false}
use Rattle.cat_scope.specs.Names.{AllHave, is_called}
use Rattle.cat_value.specs.declared.ty.Ty.TheVariants as flat
use Rattle.cat_value.specs.declared.declaration.Kind.{Kind}
use Rattle.cat_value.specs.declared.declaration.Kind.TheVariants as kind
use Rattle.cat_value.specs.declared.declaration.ItemDecl.{ItemDecl}
use Rattle.cat_value.specs.declared.declaration.Scope.{Scope}
use Rattle.cat_image.specs.declared.tables.ImageScope.{ImageScope}
use Rattle.cat_image.specs.Words.{Text}
use Rattle.cat_verify_tables.specs.declared.scoping.Known.{Known}
use Rattle.cat_verify_tables.specs.declared.types.TypeNames.{TypeNames}
use Rattle.cat_verify_tables.specs.TableWords.{IsToldWhole}
use Rattle.cat_verify_tables.specs.inside.Entries.{AreTold}
use Rattle.cat_verify_tables.specs.inside.ItemWords.{IsHeldOf, IsHeldType, IsItemOf, IsScopeOf, IsWhatOf, item_names}
use Rattle.cat_verify_tables.proofs.DeclaringLemmas.{told_each}

held_whole : (types : TypeNames) (what : Text) (item : ItemDecl) → is_called item.kind ≡ false
    → IsHeldOf types what (record { ty = item.ty; condition = item.condition; params = item.params })
    → IsToldWhole item
held_whole types what item variable held = record {
  condition = λ is. by item.condition is held.ty_is;
  called = λ called. absurd (true≢false (sym called ∙ variable));
}
  where
    by : (c : Bool) → c ≡ true → IsHeldType types held.text c item.ty → item.ty ≡ flat.Boolean
    by true is told = told.1
    by false is told = absurd (true≢false (sym is))

what_whole : (known : Known) (what : Text) (item : ItemDecl) (k : Kind) → item.kind ≡ k → IsWhatOf known what item k
    → IsToldWhole item
what_whole known what item (kind.Called n) is told = record {
  condition = λ condition. absurd (true≢false (sym condition ∙ told.2));
  called = λ called. record { ty = told.1; condition = told.2; params = told.3 };
}
what_whole known what item kind.Input is told = held_whole known.types what item (ap is_called is) told
what_whole known what item kind.Output is told = held_whole known.types what item (ap is_called is) told
what_whole known what item kind.Internal is told = held_whole known.types what item (ap is_called is) told
what_whole known what item kind.Context is told = held_whole known.types what item (ap is_called is) told
what_whole known what item kind.InputOutput is told = held_whole known.types what item (ap is_called is) told
what_whole known what item kind.ContextOutput is told = held_whole known.types what item (ap is_called is) told

pub scopes_whole : (known : Known) (front lines : List ImageScope) (scopes : List Scope)
    → AreTold (λ _. IsScopeOf known) front lines scopes
    → AllHave (λ (s : Scope). AllHave IsToldWhole s.items) scopes
scopes_whole known = told_each (λ _. IsScopeOf known) (λ (s : Scope). AllHave IsToldWhole s.items)
    (λ front l s told. told_each (λ before. IsItemOf known (item_names before)) IsToldWhole
    (λ before x item is. what_whole known x.what item item.kind refl is.decl.what) [] l.items s.items told.items.each)
