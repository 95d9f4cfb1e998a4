-- Names of types that stand once.
use Rattle.std.proofs.Common.{◌≡◌, ◌<◌, ℕ, zero, suc, nat_lt, Bool, true, false, List, [], ◌∷◌, ◌++◌}
use Rattle.std.proofs.Common.{map, take, drop, Some, slice_get, inl, inr, refl, sym}
use Rattle.std.proofs.Common.{subst}
use Rattle.std.proofs.Common.{arith}
use Rattle.std.proofs.lemmas.Bool.Decides.{nat_tests}
use Rattle.cat_scope.specs.Names.{IsOneOf}
use Rattle.cat_names.proofs.Exported.{in_front, behind}
use Rattle.cat_image.specs.declared.tables.ImageTables.{ImageTables}
use Rattle.cat_image.specs.Words.{Text}
use Rattle.cat_verify_tables.specs.TypeWords.{IsTypeName}
use Rattle.cat_verify_tables.specs.WrongParts.{IsWrongName}
use Rattle.cat_verify_tables.specs.inside.Entries.{AreRight}
use Rattle.cat_verify_tables.specs.inside.NamedWords.{IsWrongHeader}
use Rattle.cat_verify_tables.specs.inside.DeclaredWords.{structure_name, enumeration_name, structures_named}
use Rattle.cat_verify_tables.proofs.MadeLemmas.{Apart, entry_named, one_there}
use Rattle.cat_verify_tables.proofs.RowLemmas.{right_at, split_at}

-- a name in front of index j
early : {A : Type 0} (name_of : A → Text) (xs : List A) (i j : ℕ) (w : Text) → slice_get (map name_of xs) i ≡ Some w
    → i < j → IsOneOf w (map name_of (take j xs))
early name_of [] i j w at less = absurd (cc at)
early name_of (x ∷ xs) i zero w at less = absurd (omega (arith, less))
early name_of (x ∷ xs) zero (suc j) w at less = let same : name_of x ≡ w = cc at in inl (sym same)
early name_of (x ∷ xs) (suc i) (suc j) w at less = inr (early name_of xs i j w at (omega (arith, less)))

-- names that are right behind others
abbrev pub AreRightNames : {A : Type 0} → (Text → Type 0) → (A → Text) → List Text → List A → Type 0
AreRightNames Spelled name_of names xs =
    AreRight (λ front x. IsWrongName Spelled (names ++ map name_of front) (name_of x)) [] xs

module _ {A : Type 0} (Spelled : Text → Type 0) (name_of : A → Text) (names : List Text) (xs : List A)
    (right : AreRightNames Spelled name_of names xs) where
  entry_right : (k : ℕ) (w : Text) → slice_get (map name_of xs) k ≡ Some w
      → (IsOneOf w (names ++ map name_of (take k xs)) → ⊥) × ((Spelled w → ⊥) → ⊥)
  entry_right k w at =
      let it = entry_named name_of xs k w at in
      let Fault = λ (front : List A) (x : A). IsWrongName Spelled (names ++ map name_of front) (name_of x) in
      let whole = subst (AreRight Fault []) (split_at xs k it.0 it.1) right in
      let no = right_at Fault [] (take k xs) it.0 (drop (suc k) xs) whole in (
        λ one. no (inl (subst (λ (v : Text). IsOneOf v (names ++ map name_of (take k xs))) (sym it.2) one)),
        λ other. no (inr (λ typed. other (subst Spelled it.2 typed))),
      )

  pub once : (i j : ℕ) (w : Text) → slice_get (map name_of xs) i ≡ Some w → slice_get (map name_of xs) j ≡ Some w
      → i ≡ j
  once i j w one other = by (nat_lt i j) refl (nat_lt j i) refl
    where
      by : (a : Bool) → nat_lt i j ≡ a → (b : Bool) → nat_lt j i ≡ b → i ≡ j
      by true less b more = absurd ((entry_right j w other).0
          (behind w names (map name_of (take j xs)) (early name_of xs i j w one (grind (arith, nat_tests, less)))))
      by false less true more = absurd ((entry_right i w one).0
          (behind w names (map name_of (take i xs))
          (early name_of xs j i w other (grind (arith, nat_tests, more)))))
      by false less false more = grind (arith, nat_tests, less, more)

  pub other_names : (i j : ℕ) (w : Text) → slice_get names i ≡ Some w → slice_get (map name_of xs) j ≡ Some w → ⊥
  other_names i j w one other =
      (entry_right j w other).0 (in_front w names (map name_of (take j xs)) (one_there names i w one))

  pub spelled_names : (k : ℕ) (w : Text) → slice_get (map name_of xs) k ≡ Some w → (Spelled w → ⊥) → ⊥
  spelled_names k w at = (entry_right k w at).1

-- names of structures and enumerations
pub names_apart : (tables : ImageTables) → AreRight (IsWrongHeader structure_name []) [] tables.structures
    → AreRight (IsWrongHeader enumeration_name (structures_named tables)) [] tables.enumerations → Apart tables
names_apart tables structures enumerations = record {
  structures = once IsTypeName structure_name [] tables.structures structures;
  enumerations = once IsTypeName enumeration_name (structures_named tables) tables.enumerations enumerations;
  both = other_names IsTypeName enumeration_name (structures_named tables) tables.enumerations enumerations;
  spelled_structures = spelled_names IsTypeName structure_name [] tables.structures structures;
  spelled_enumerations = spelled_names IsTypeName enumeration_name (structures_named tables) tables.enumerations
      enumerations;
}
