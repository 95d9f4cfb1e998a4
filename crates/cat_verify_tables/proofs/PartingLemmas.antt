-- A text tells what a variable holds in one way.
use Rattle.std.proofs.Common.{◌≡◌, ◌+◌, ◌⊎◌, ℕ, zero, suc, Bool, true, false, List, [], ◌∷◌, ◌++◌, length}
use Rattle.std.proofs.Common.{drop}
use Rattle.std.proofs.Common.{Option, Some, None, inl, inr, refl, sym, ap, ◌∙◌, subst, arith, append-nil}
use Rattle.std.specs.Prelude.{codes, is_some, nat_lt, if◌then◌else◌}
use Rattle.std.specs.List.{AllByRecursion, AllZip}
use Rattle.std.specs.Option.{option_map, option_or}
use Rattle.std.proofs.lemmas.Option.{some_pair_parts}
use Rattle.cat_scope.specs.Names.{IsOneOf}
use Rattle.cat_value.specs.declared.ty.Ty.{Ty}
use Rattle.cat_value.specs.declared.ty.Ty.TheVariants as flat
use Rattle.cat_value.specs.Declarations.{highest}
use Rattle.cat_value.proofs.Exported.{height_Boolean}
use Rattle.cat_check_names.specs.Table.{number_in}
use Rattle.cat_image.specs.declared.tables.ImageTables.{ImageTables}
use Rattle.cat_image.specs.Words.{Text}
use Rattle.cat_image.specs.inside.Reads.{cut}
use Rattle.cat_image.proofs.CutLemmas.{cut_at}
use Rattle.cat_verify_tables.specs.declared.heights.Measures.{Measures}
use Rattle.cat_verify_tables.specs.declared.holding.Held.{Held}
use Rattle.cat_verify_tables.specs.declared.types.TypeNames.{TypeNames}
use Rattle.cat_verify_tables.specs.TypeWords.{IsHigher, IsTypeName}
use Rattle.cat_verify_tables.specs.WrongParts.{params_text, more_params, IsLow, IsVariable}
use Rattle.cat_verify_tables.specs.inside.Entries.{AreTold}
use Rattle.cat_verify_tables.specs.inside.HeldWords.{ArePlain, texts_in}
use Rattle.cat_verify_tables.specs.inside.NamedWords.{names_in}
use Rattle.cat_verify_tables.specs.inside.HighWords.{HasHighType, IsHighType}
use Rattle.cat_verify_tables.specs.inside.TypeNaming.{listed, flat_type, base_of, named_in, of_number, lists_of}
use Rattle.cat_verify_tables.specs.inside.DeclaredWords.{structures_named, enumerations_named}
use Rattle.cat_verify_tables.specs.inside.PartWords.{Spells, IsStructureOf, IsEnumerationOf}
use Rattle.cat_verify_tables.specs.inside.ItemWords.{IsHeldType, IsHeldOf}
use Rattle.cat_verify_tables.proofs.HeldLemmas.{IsBasedOn, held_based, listed_both, one_base}
use Rattle.cat_verify_tables.proofs.KnownLemmas.{Knows, have_one, known_spelled}
use Rattle.cat_verify_tables.proofs.MadeLemmas.{higher_of, named_of_spelled}
use Rattle.cat_verify_tables.proofs.NameLemmas.{one_of}
use Rattle.cat_verify_tables.proofs.NumberLemmas.{AreNumbered}
use Rattle.cat_verify_tables.proofs.ParamLemmas.{AllSingle, all_single, spelled_single, texts_back}
use Rattle.cat_verify_tables.proofs.PlainLemmas.{no_blank, no_list, first_of, no_condition_name}

parts_one : (base other : Text) (texts others : List Text) → cut 32 base ≡ None → cut 32 other ≡ None
    → AllSingle texts → AllSingle others → base ++ params_text texts ≡ other ++ params_text others
    → (base ≡ other) × (texts ≡ others)
parts_one base other [] [] one two first second same = (sym (append-nil base) ∙ same ∙ append-nil other, refl)
parts_one base other [] (u ∷ us) one two first second same =
    absurd (cc (sym one ∙ ap (cut 32) (sym (append-nil base) ∙ same)
    ∙ cut_at 32 other (codes "of " ++ (u ++ more_params us)) two))
parts_one base other (t ∷ ts) [] one two first second same =
    absurd (cc (sym two ∙ ap (cut 32) (sym (append-nil other) ∙ sym same)
    ∙ cut_at 32 base (codes "of " ++ (t ++ more_params ts)) one))
parts_one base other (t ∷ ts) (u ∷ us) one two first second same =
    let both : Some (base, codes "of " ++ (t ++ more_params ts)) ≡ Some (other, codes "of " ++ (u ++ more_params us)) =
    sym (cut_at 32 base (codes "of " ++ (t ++ more_params ts)) one) ∙ ap (cut 32) same
    ∙ cut_at 32 other (codes "of " ++ (u ++ more_params us)) two in
    let pairs = some_pair_parts base other (codes "of " ++ (t ++ more_params ts))
    (codes "of " ++ (u ++ more_params us)) both in
    let params : t ++ more_params ts ≡ u ++ more_params us = ap (drop 3) pairs.1 in
    let most : ℕ = length (t ∷ ts) + length (u ∷ us) in
    let texts : Some (t ∷ ts) ≡ Some (u ∷ us) =
    sym (texts_back most t ts (omega arith) first) ∙ ap (texts_in most) params
    ∙ texts_back most u us (omega arith) second in
    (pairs.0, cc texts)

-- ---- the word of conditions is no type

condition_no_flat : flat_type (codes "condition") ≡ None
unfolding flat_type
condition_no_flat = refl

module _ (types : TypeNames) (plain : ArePlain types) where
  condition_no_base : base_of types.numbers types.structures (codes "condition") ≡ None
  condition_no_base =
      ap (λ (o : Option Ty). option_or o (named_in types.numbers types.structures (codes "condition")))
      condition_no_flat
      ∙ by (number_in types.numbers (codes "condition")) refl
    where
      by : (o : Option ℕ) → number_in types.numbers (codes "condition") ≡ o
          → option_map (of_number types.structures) (number_in types.numbers (codes "condition")) ≡ None
      by None is = ap (option_map (of_number types.structures)) is
      by (Some n) is = absurd (have_one (λ w. (IsTypeName w → ⊥) → ⊥) (codes "condition") (names_in types.numbers)
          (one_of types.numbers (codes "condition") (ap is_some is)) plain no_condition_name)

  no_condition : (text : Text) (t : Ty) → Spells types text t → text ≡ codes "condition" → ⊥
  no_condition text t spells is = by spells.lists (sym spells.behind.text_is ∙ is) spells.found_is
    where
      by : (n : ℕ) → listed n spells.base ≡ codes "condition"
          → Some t ≡ (if nat_lt n highest then option_map (lists_of n)
          (base_of types.numbers types.structures spells.base)
          else None) → ⊥
      by zero same found = cc (found ∙ ap (λ (w : Text). option_map (lists_of 0)
          (base_of types.numbers types.structures w)) same ∙ ap (option_map (lists_of 0)) condition_no_base)
      by (suc n) same found = let first : 108 ≡ 99 = ap first_of same in omega (arith, first)

  one_parting : (text other : Text) (texts others : List Text) (c d : Bool) (t u : Ty)
      → IsBasedOn types plain text c t → IsBasedOn types plain other d u → AllSingle texts → AllSingle others
      → text ++ params_text texts ≡ other ++ params_text others → (text ≡ other) × (texts ≡ others)
  one_parting text other texts others c d t u one two first second same =
      let whole : listed one.lists (one.base ++ params_text texts) ≡ listed two.lists (two.base ++ params_text others) =
      listed_both one.lists one.base (params_text texts)
      ∙ ap (λ (w : Text). w ++ params_text texts) (sym one.text_is) ∙ same
      ∙ ap (λ (w : Text). w ++ params_text others) two.text_is
      ∙ sym (listed_both two.lists two.base (params_text others)) in
      let few = two.few in
      let it = one_base highest one.lists two.lists (one.base ++ params_text texts) (two.base ++ params_text others)
      whole
      one.few (omega (arith, few)) (λ rest. no_list one.base (params_text texts) rest one.plain_base)
      (λ less rest. no_list two.base (params_text others) rest two.plain_base) in
      let parts = parts_one one.base two.base texts others (no_blank one.base one.plain_base)
      (no_blank two.base two.plain_base) first second it.1 in (
        one.text_is ∙ ap (λ (n : ℕ). listed n one.base) it.0 ∙ ap (listed two.lists) parts.0 ∙ sym two.text_is,
        parts.1,
      )

module _ (tables : ImageTables) (types : TypeNames) (m : Measures)
    (are : AreNumbered types (structures_named tables) (enumerations_named tables))
    (structures_told : AreTold (λ _. IsStructureOf types) [] tables.structures m.structures.now)
    (enumerations_told : AreTold (λ _. IsEnumerationOf types) [] tables.enumerations m.enumerations.now)
    (knows : Knows tables types) (plain : ArePlain types) where
  higher : (w : Text) (t : Ty) → Spells types w t → IsHighType m t → IsHigher tables highest w
  higher w t spells high =
      higher_of tables types m.structures.now m.enumerations.now are structures_told enumerations_told highest highest w
      t (named_of_spelled types (structures_named tables) (enumerations_named tables) are w t spells) high

  pub boolean_low : IsHighType m flat.Boolean → ⊥
  boolean_low high = let one = height_Boolean m.structures.now m.enumerations.now 63 in omega (arith, one, high)

  low_single : (params : List Text) → AllByRecursion (IsLow tables) params → AllSingle params
  low_single [] all = tt
  low_single (p ∷ params) all =
      let it = known_spelled tables types knows p all.0.known all.0.low in
      (spelled_single types plain p it.0 it.1, low_single params all.1)

  variable_based : (ty : Text) → (ty ≡ codes "condition") ⊎ IsLow tables ty
      → (c : Bool) × (t : Ty) × IsBasedOn types plain ty c t
  variable_based ty (inl condition) =
      (true, flat.Boolean, held_based types plain ty true flat.Boolean (condition, refl))
  variable_based ty (inr low) =
      let it = known_spelled tables types knows ty low.known low.low in
      (false, it.0, held_based types plain ty false it.0 it.1)

  no_high_param : (texts : List Text) (params : List Ty) (t : Ty) → AllZip (Spells types) texts params
      → AllByRecursion (IsLow tables) texts → IsOneOf t params → IsHighType m t → ⊥
  no_high_param [] [] t each all one high = absurd one
  no_high_param [] (p ∷ params) t each all one high = absurd each
  no_high_param (w ∷ texts) [] t each all one high = absurd each
  no_high_param (w ∷ texts) (p ∷ params) t each all (inl same) high =
      all.0.low (higher w p each.0 (subst (IsHighType m) same high))
  no_high_param (w ∷ texts) (p ∷ params) t each all (inr more) high =
      no_high_param texts params t each.1 all.1 more high

  no_high_type : (text : Text) (c : Bool) (t : Ty) → IsHeldType types text c t
      → (text ≡ codes "condition") ⊎ IsLow tables text → IsHighType m t → ⊥
  no_high_type text true t held low high = boolean_low (subst (IsHighType m) held.1 high)
  no_high_type text false t spells (inr low) high = low.low (higher text t spells high)
  no_high_type text false t spells (inl condition) high = no_condition types plain text t spells condition

  -- what holds a type that is too high is no variable
  pub no_high_variable : (what : Text) (held : Held) → IsHeldOf types what held
      → HasHighType m (held.ty ∷ held.params) → IsVariable tables what → ⊥
  no_high_variable what held is high v =
      let base = variable_based v.ty v.ty_is in
      let same = one_parting types plain is.text v.ty is.texts v.params held.condition base.0 held.ty base.1
      (held_based types plain is.text held.condition held.ty is.ty_is) base.2
      (all_single types plain is.texts held.params is.params_are.each) (low_single v.params v.params_are)
      (sym is.what_is ∙ v.what_is) in
      by same.0 same.1 high.one
    where
      by : is.text ≡ v.ty → is.texts ≡ v.params → IsOneOf high.ty (held.ty ∷ held.params) → ⊥
      by text texts (inl one) = no_high_type is.text held.condition held.ty is.ty_is
          (subst (λ (w : Text). (w ≡ codes "condition") ⊎ IsLow tables w) (sym text) v.ty_is)
          (subst (IsHighType m) one high.high)
      by text texts (inr more) = no_high_param is.texts held.params high.ty is.params_are.each
          (subst (AllByRecursion (IsLow tables)) (sym texts) v.params_are) more high.high
