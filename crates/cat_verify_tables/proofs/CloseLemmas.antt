-- Parts that lead back to what they are parts of make lines bad.
use Rattle.std.proofs.Common.{◌≡◌, ℕ, zero, suc, List, [], ◌∷◌, ◌++◌, take, Some}
use Rattle.std.proofs.Common.{slice_get}
use Rattle.std.proofs.Common.{inl, inr, refl, sym, ap, ◌∙◌, subst, arith}
use Rattle.cat_value.specs.declared.declaration.Structure.{Structure}
use Rattle.cat_value.specs.declared.declaration.Enumeration.{Enumeration}
use Rattle.cat_value.specs.Dependencies.{type_dependencies}
use Rattle.cat_image.specs.declared.tables.ImageTables.{ImageTables}
use Rattle.cat_image.specs.Words.{Text}
use Rattle.cat_depend.specs.CycleWays.{LeadsTo}
use Rattle.cat_verify_tables.specs.declared.types.TypeNames.{TypeNames}
use Rattle.cat_verify_tables.specs.TypeWords.{IsMadeOf}
use Rattle.cat_verify_tables.specs.TypeWords as words
use Rattle.cat_verify_tables.specs.WrongParts.{ClosesCycle}
use Rattle.cat_verify_tables.specs.inside.Causes.{lines_in}
use Rattle.cat_verify_tables.specs.inside.Entries.{AreTold}
use Rattle.cat_verify_tables.specs.inside.DeclaredWords.{structures_named, enumerations_named}
use Rattle.cat_verify_tables.specs.inside.PartWords.{IsStructureOf, IsEnumerationOf}
use Rattle.cat_verify_tables.proofs.NumberLemmas.{AreNumbered}
use Rattle.cat_verify_tables.proofs.RoundLemmas.{IsBaseAt, way_made}

-- as many lines for what is told as for what it is told of
pub lines_told : {A B : Type 0} (Told : List A → A → B → Type 0) (parts : A → ℕ) (counts : B → ℕ)
    → ((front : List A) (x : A) (y : B) → Told front x y → counts y ≡ parts x) → (front xs : List A) (ys : List B)
    (k : ℕ) → AreTold Told front xs ys → lines_in counts (take k ys) ≡ lines_in parts (take k xs)
lines_told Told parts counts same front [] [] zero told = refl
lines_told Told parts counts same front [] [] (suc k) told = refl
lines_told Told parts counts same front [] (y ∷ ys) k told = absurd told
lines_told Told parts counts same front (x ∷ xs) [] k told = absurd told
lines_told Told parts counts same front (x ∷ xs) (y ∷ ys) zero told = refl
lines_told Told parts counts same front (x ∷ xs) (y ∷ ys) (suc k) told =
    let one = same front x y told.0 in
    let more = lines_told Told parts counts same (front ++ x ∷ []) xs ys k told.1 in omega (arith, one, more)

module _ (tables : ImageTables) (types : TypeNames) (ss : List Structure) (es : List Enumeration)
    (are : AreNumbered types (structures_named tables) (enumerations_named tables))
    (structures_told : AreTold (λ _. IsStructureOf types) [] tables.structures ss)
    (enumerations_told : AreTold (λ _. IsEnumerationOf types) [] tables.enumerations es) where
  abbrev names : List Text
  names = structures_named tables ++ enumerations_named tables

  -- what a part names leads back by names, where it does so by numbers
  pub closes : (number part : ℕ) (name ty : Text) → slice_get names number ≡ Some name
      → IsBaseAt (structures_named tables) (enumerations_named tables) ty part
      → LeadsTo (type_dependencies ss es) part number → ClosesCycle tables name ty
  closes number part name ty at base (inl same) =
      let one : base.base ≡ name = cc (sym base.at ∙ ap (slice_get names) same ∙ at) in record {
        base = base.base;
        is_base = base.is_base;
        back = subst (λ (other : Text). IsMadeOf tables base.base other) one words.here;
      }
  closes number part name ty at base (inr way) =
      let made = way_made tables types ss es are structures_told enumerations_told part number way.0 base.base way.1
      base.at in
      let one : made.0 ≡ name = cc (sym made.1 ∙ at) in record {
        base = base.base;
        is_base = base.is_base;
        back = subst (λ (other : Text). IsMadeOf tables base.base other) one made.2;
      }
