-- Tables that were told have no bad line.
use Rattle.std.proofs.Common.{◌≡◌, ◌≤◌, ℕ, true, List, [], ◌∷◌, length, map, inl, inr}
use Rattle.std.proofs.Common.{sym, ap, ◌∙◌, subst, arith}
use Rattle.std.specs.Prelude.{nat_le}
use Rattle.std.proofs.lemmas.Bool.{and_parts}
use Rattle.std.proofs.lemmas.Bool.Decides.{nat_tests}
use Rattle.std.proofs.lemmas.List.{length-map}
use Rattle.cat_order.specs.Cycle.{IsOnCycle}
use Rattle.cat_order.specs.Cause.{HasNoOrder}
use Rattle.cat_scope.specs.Names.{AllHave, IsOneOf}
use Rattle.cat_value.specs.declared.ty.Ty.{Ty}
use Rattle.cat_value.specs.declared.decls.Decls.{Decls}
use Rattle.cat_value.specs.Declarations.{highest, is_declared}
use Rattle.cat_value.specs.Dependencies.{type_dependencies}
use Rattle.cat_value.specs.Heights.{height_to}
use Rattle.cat_names.proofs.Exported.{in_front, behind}
use Rattle.cat_code.specs.declared.code.Constant.{Constant}
use Rattle.cat_code.specs.declared.code.TargetEntry.{TargetEntry}
use Rattle.cat_code.specs.declared.code.Tables.{Tables}
use Rattle.cat_code.specs.Places as places
use Rattle.cat_image.specs.declared.tables.ImageConstant.{ImageConstant}
use Rattle.cat_image.specs.declared.tables.ImageTarget.{ImageTarget}
use Rattle.cat_image.specs.declared.tables.ImageTables.{ImageTables}
use Rattle.cat_image.specs.Words.{Text}
use Rattle.cat_json.specs.InputsRead.{value_read}
use Rattle.cat_verify_tables.specs.declared.places.FunctionPlace.{FunctionPlace}
use Rattle.cat_verify_tables.specs.declared.scoping.Known.{Known}
use Rattle.cat_verify_tables.specs.declared.tables.Declared.{Declared}
use Rattle.cat_verify_tables.specs.TableWords.{AreConstantsOf, IsConstantOf, numbered}
use Rattle.cat_verify_tables.specs.TypeWords.{IsKnown}
use Rattle.cat_verify_tables.specs.TypeWords as words
use Rattle.cat_verify_tables.specs.WrongParts.{IsWrongTarget, IsWrongType}
use Rattle.cat_verify_tables.specs.WrongTables.{IsBadTable, IsWrongConstant}
use Rattle.cat_verify_tables.specs.inside.DeclarationWords.{AreDeclared, AreTablesTold, HasFewRows, parts_of}
use Rattle.cat_verify_tables.specs.inside.DeclaredWords.{enumerations_named}
use Rattle.cat_verify_tables.specs.inside.DeclaredWords.{structures_named}
use Rattle.cat_verify_tables.specs.inside.Entries.{AreRight, AreTold}
use Rattle.cat_verify_tables.specs.inside.FoundPlaces.{IsPosOf}
use Rattle.cat_verify_tables.specs.inside.NamedWords.{IsFileTwice}
use Rattle.cat_verify_tables.specs.inside.PartWords.{Spells}
use Rattle.cat_verify_tables.specs.inside.TargetNaming.{IsEntryOf}
use Rattle.cat_verify_tables.proofs.AllRight.{none_is_bad}
use Rattle.cat_verify_tables.proofs.ApartLemmas.{names_apart}
use Rattle.cat_verify_tables.proofs.HeaderLemmas.{are_plain, knows, numbers_are, scopes_spelled}
use Rattle.cat_verify_tables.proofs.KnownLemmas.{flat_there, spelled_known}
use Rattle.cat_verify_tables.proofs.MadeLemmas.{Apart, IsNamed, high_of, index_of, one_there, told_for}
use Rattle.cat_verify_tables.proofs.MadeLemmas as named
use Rattle.cat_verify_tables.proofs.NumberLemmas.{AreNumbered}
use Rattle.cat_verify_tables.proofs.OneText.{named_text, text_only}
use Rattle.cat_verify_tables.proofs.PlaceLemmas.{not_lost}
use Rattle.cat_verify_tables.proofs.RightRows.{AreRightLines}
use Rattle.cat_verify_tables.proofs.RightScopes.{HasLowTypes, scope_right}
use Rattle.cat_verify_tables.proofs.RightTold.{enumeration_right, not_wrong, structure_right}
use Rattle.cat_verify_tables.proofs.RowLemmas.{right_at}
use Rattle.cat_verify_tables.proofs.SameParts.{enumeration_names, same_enumerations, same_structures, structure_names}
use Rattle.cat_verify_tables.proofs.SameReads.{same_value}
use Rattle.cat_verify_tables.proofs.TargetTold.{target_is}
use Rattle.cat_verify_tables.proofs.WholeLemmas.{low_enumerations, low_scopes, low_structures}

-- each entry was told by some one
told_one : {A B : Type 0} (Told : A → B → Type 0) (xs : List A) (ys : List B) (x : A) → AreTold (λ _. Told) [] xs ys
    → IsOneOf x xs → (y : B) × Told x y
told_one Told xs ys x told one =
    let there = index_of x xs one in
    let made = told_for (λ _. Told) [] xs ys there.0 x told there.1 in (made.0, made.3)

constant_of : (ds : Decls) (ws : List ImageConstant) (cs : List Constant) (w : ImageConstant)
    → AreConstantsOf ds ws cs → IsOneOf w ws → (c : Constant) × IsConstantOf ds w c
constant_of ds [] cs w are one = absurd one
constant_of ds (v ∷ ws) [] w are one = absurd are
constant_of ds (v ∷ ws) (c ∷ cs) w are (inl same) =
    (c, subst (λ (u : ImageConstant). IsConstantOf ds u c) (sym same) are.0)
constant_of ds (v ∷ ws) (c ∷ cs) w are (inr more) = constant_of ds ws cs w are.1 more

-- a type of these names is there
named_known : (tables : ImageTables) (w : Text) (t : Ty)
    → IsNamed (structures_named tables) (enumerations_named tables) w t → IsKnown tables w
named_known tables w t (named.plain v x is) = words.flat (flat_there v x is)
named_known tables w t (named.structure v k at) = words.declared
    (in_front v (structures_named tables) (enumerations_named tables) (one_there (structures_named tables) k v at))
named_known tables w t (named.enumeration v k at) = words.declared
    (behind v (structures_named tables) (enumerations_named tables) (one_there (enumerations_named tables) k v at))
named_known tables w t (named.list v u is) = words.list (named_known tables v u is)

-- the law of orders on which this rests
abbrev pub CyclesLeaveNone : Type 0
CyclesLeaveNone = (deps : List (List ℕ)) (item : ℕ) → IsOnCycle deps item → HasNoOrder deps

module _ (cycles : CyclesLeaveNone) (image : ImageTables) (few : HasFewRows image) (d : Declared)
    (is : AreDeclared image d) where
  abbrev known : Known
  known = d.headers.known

  abbrev ds : Decls
  ds = d.decls

  numbers : AreNumbered known.types (structures_named image) (enumerations_named image)
  numbers = numbers_are image d.headers is.headers

  apart : Apart image
  apart = names_apart image is.headers.structures is.headers.enumerations

  acyclic : (n : ℕ) → IsOnCycle (type_dependencies ds.structures ds.enumerations) n → ⊥
  acyclic n on = cycles (type_dependencies ds.structures ds.enumerations) n on d.order is.order

  low_type : (w : Text) (t : Ty) → Spells known.types w t → height_to ds.structures ds.enumerations highest t ≤ highest
      → IsWrongType image highest w → ⊥
  low_type w t spells low = not_wrong image known.types ds.structures ds.enumerations numbers is.parts.structures
      is.parts.enumerations apart (knows image d.headers is.headers) acyclic highest w t spells (omega arith) low

  lows : AllHave (λ s. AllHave (HasLowTypes ds.structures ds.enumerations) s.items) ds.scopes
  lows = low_scopes image few d.headers is.headers (parts_of ds) is.parts d.heights is.low

  -- ---- constants

  module _ (tables : Tables) (told : AreTablesTold image d tables) where
    structures_are : structures_named image ≡ map (λ s. s.name) tables.decls.structures
    structures_are = structure_names image tables.decls told.words.structures

    enumerations_are : enumerations_named image ≡ map (λ e. e.name) tables.decls.enumerations
    enumerations_are = enumeration_names image tables.decls told.words.enumerations

    constant_right : (c : ImageConstant) (made : Constant) → IsConstantOf tables.decls c made
        → IsWrongConstant image c → ⊥
    constant_right c made it = by
      where
        parts : (is_declared tables.decls.structures tables.decls.enumerations made.ty ≡ true)
            × (nat_le (height_to tables.decls.structures tables.decls.enumerations highest made.ty) highest ≡ true)
        parts = and_parts (is_declared tables.decls.structures tables.decls.enumerations made.ty)
            (nat_le (height_to tables.decls.structures tables.decls.enumerations highest made.ty) highest) it.low

        text : IsNamed (structures_named image) (enumerations_named image) c.ty made.ty
        text = subst (λ (w : Text). IsNamed (structures_named image) (enumerations_named image) w made.ty) (sym it.ty)
            (named_text image tables.decls structures_are enumerations_are made.ty parts.0)

        low : height_to ds.structures ds.enumerations highest made.ty ≤ highest
        low = subst (λ (e : Decls). height_to e.structures e.enumerations highest made.ty ≤ highest) told.decls
            (let test = parts.1 in grind (arith, nat_tests, test))

        by : IsWrongConstant image c → ⊥
        by (inl (inl unknown)) = unknown (named_known image c.ty made.ty text)
        by (inl (inr high)) =
            let above = high_of image known.types ds.structures ds.enumerations numbers is.parts.structures
            is.parts.enumerations apart highest highest c.ty high made.ty text (omega arith) in
            let below = low in omega (arith, above, below)
        by (inr other) =
            let structures = same_structures image apart tables.decls other.decls told.words.structures
            told.words.enumerations other.structures other.enumerations in
            let enumerations = same_enumerations image apart tables.decls other.decls told.words.structures
            told.words.enumerations other.structures other.enumerations in
            let same : other.ty ≡ made.ty = text_only image other.decls
            (structure_names image other.decls other.structures)
            (enumeration_names image other.decls other.enumerations) apart other.ty c.ty made.ty text
            (sym other.ty_is) in
            other.not_read made.value
            (ap (λ (t : Ty). value_read other.decls t c.value) same
            ∙ sym (same_value tables.decls other.decls structures enumerations made.ty c.value) ∙ it.value)

    lines_right : AreRightLines image
    lines_right = record {
      targets = λ t one. target_right t (told_one (IsEntryOf ds (length image.files)) image.targets tables.targets t
          told.targets one);
      definitions = λ p one. let it = told_one (IsPosOf (length image.files)) image.definitions tables.definitions p
          told.definitions one in not_lost image p it.1.found;
      positions = λ p one. let it = told_one (IsPosOf (length image.files)) image.positions tables.positions p
          told.positions one in not_lost image p it.1.found;
      constants = λ c one.
          let it = constant_of tables.decls image.constants tables.constants c told.words.constants one in
          constant_right c it.0 it.1;
    }
      where
        target_right : (t : ImageTarget) → ((entry : TargetEntry) × IsEntryOf ds (length image.files) t entry)
            → IsWrongTarget image t → ⊥
        target_right t it (inl lost) = not_lost image t.pos it.1.found lost
        target_right t it (inr none) = none (target_is image known ds is.parts.scopes is.headers.scope_numbers t.place
            it.0.target it.1.target).names

    -- ---- all of them

    pub none_bad_told : (functions : List FunctionPlace) → functions ≡ map numbered (places.function_places ds)
        → length functions ≤ length image.functions → (n : ℕ) → IsBadTable image n → ⊥
    none_bad_told functions functions_are enough = none_is_bad image (record {
      files = λ before name after at. right_at IsFileTwice [] before name after
          (subst (AreRight IsFileTwice []) at is.files);
      structures = structure_right image known.types ds.structures ds.enumerations numbers is.parts.structures
          is.parts.enumerations apart (knows image d.headers is.headers) acyclic is.headers.structures
          (low_structures image few d.headers is.headers (parts_of ds) is.parts d.heights is.low);
      enumerations = enumeration_right image known.types ds.structures ds.enumerations numbers is.parts.structures
          is.parts.enumerations apart (knows image d.headers is.headers) acyclic is.headers.enumerations
          (low_enumerations image few d.headers is.headers (parts_of ds) is.parts d.heights is.low);
      scopes = scope_right image known ds.structures ds.enumerations ds.scopes is.headers.files
          is.headers.scope_numbers low_type
          (spelled_known image known.types (knows image d.headers is.headers)) is.parts.scopes
          (are_plain image d.headers is.headers) (scopes_spelled image d.headers is.headers) many lows
          is.headers.scopes is.headers.others;
      lines = lines_right;
    })
      where
        many : length (places.functions_from 0 ds.scopes) ≤ length image.functions
        many =
            let count = ap length functions_are ∙ length-map (places.function_places ds) numbered in
            omega (arith, count, enough)
