-- The numbers of names, and the types that they are.
use Rattle.std.proofs.Common.{◌≡◌, ◌<◌, ◌≤◌, ◌+◌, ◌-◌, ℕ, zero, suc, nat_lt, Bool, true, false, cond, List, [], ◌∷◌}
use Rattle.std.proofs.Common.{◌++◌}
use Rattle.std.proofs.Common.{length, map, Option, Some, None, slice_get, bytes_eq, refl, sym, ap, ◌∙◌, subst}
use Rattle.std.proofs.Common.{arith}
use Rattle.std.specs.Prelude.{codes, if◌then◌else◌}
use Rattle.std.specs.Option.{option_map, option_or}
use Rattle.std.proofs.lemmas.Bool.Decides.{nat_tests}
use Rattle.std.proofs.lemmas.Slice.Eq.{bytes_eq-Decides}
use Rattle.cat_value.specs.declared.ty.Ty.{Ty}
use Rattle.cat_value.specs.declared.ty.Ty.TheVariants as flat
use Rattle.cat_value.specs.declared.ty.Ty.TheViews as ty
use Rattle.cat_value.specs.declared.declaration.Structure.{Structure}
use Rattle.cat_value.specs.declared.declaration.Enumeration.{Enumeration}
use Rattle.cat_value.specs.declared.decls.Decls.{Decls}
use Rattle.cat_value.specs.Declarations.{is_declared, highest}
use Rattle.cat_value.proofs.Exported.{is_declared_Boolean, is_declared_Integer, is_declared_Decimal, is_declared_Money}
use Rattle.cat_value.proofs.Exported.{is_declared_Date, is_declared_Duration, is_declared_List, is_declared_Structure}
use Rattle.cat_value.proofs.Exported.{is_declared_Enumeration}
use Rattle.cat_check_names.specs.Table.{Table, number_in}
use Rattle.cat_listing.specs.Texts.{type_text, name_at}
use Rattle.cat_listing.proofs.TypeTexts as texts
use Rattle.cat_image.specs.Words.{Text}
use Rattle.cat_verify_tables.specs.declared.types.TypeNames.{TypeNames}
use Rattle.cat_verify_tables.specs.inside.NamedWords.{numbered}
use Rattle.cat_verify_tables.specs.inside.PartWords.{Spells}
use Rattle.cat_verify_tables.specs.inside.TypeNaming.{flat_type, base_of, of_number, lists_of, listed}
use Rattle.cat_verify_tables.proofs.TypeLemmas.{flat_is}

-- ---- numbers in a table

-- the index of a name
pub record IsNameAt (k : ℕ) (names : List Text) (name : Text) (number : ℕ) : Type 0 where
  pub index : ℕ
  pub number_is : number ≡ k + index
  pub at : slice_get names index ≡ Some name

pub name_at_number : (k : ℕ) (names : List Text) (w : Text) (n : ℕ) → number_in (numbered k names) w ≡ Some n
    → IsNameAt k names w n
name_at_number k [] w n is = absurd (cc is)
name_at_number k (m ∷ names) w n is = by (name_at_number (k + 1) names w n) (bytes_eq w m) refl is
  where
    by : (number_in (numbered (k + 1) names) w ≡ Some n → IsNameAt (k + 1) names w n) → (b : Bool)
        → bytes_eq w m ≡ b → cond b (Some k) (number_in (numbered (k + 1) names) w) ≡ Some n
        → IsNameAt k (m ∷ names) w n
    by more true same is = record {
      index = 0;
      number_is = let it : k ≡ n = cc is in omega (arith, it);
      at = ap Some (sym ((bytes_eq-Decides w m).0 same));
    }
    by more false other is =
        let rest = more is in
        record { index = suc rest.index; number_is = omega (arith, rest.number_is); at = rest.at }

pub numbered_both : (k m : ℕ) (one other : List Text) → m ≡ k + length one
    → numbered k one ++ numbered m other ≡ numbered k (one ++ other)
numbered_both k m [] other is = ap (λ (n : ℕ). numbered n other) (omega (arith, is))
numbered_both k m (n ∷ one) other is =
    ap (λ (t : Table). (n, k) ∷ t) (numbered_both (k + 1) m one other (omega (arith, is)))

pub within_at : {A : Type 0} (xs : List A) (i : ℕ) (x : A) → slice_get xs i ≡ Some x → i < length xs
within_at [] i x at = absurd (cc at)
within_at (y ∷ xs) zero x at = omega arith
within_at (y ∷ xs) (suc i) x at = omega (arith, within_at xs i x at)

pub at_front : {A : Type 0} (xs ys : List A) (i : ℕ) (x : A) → slice_get (xs ++ ys) i ≡ Some x → i < length xs
    → slice_get xs i ≡ Some x
at_front [] ys i x at less = absurd (omega (arith, less))
at_front (y ∷ xs) ys zero x at less = at
at_front (y ∷ xs) ys (suc i) x at less = at_front xs ys i x at (omega (arith, less))

pub at_behind : {A : Type 0} (xs ys : List A) (i : ℕ) (x : A) → slice_get (xs ++ ys) i ≡ Some x → length xs ≤ i
    → slice_get ys (i - length xs) ≡ Some x
at_behind [] ys i x at more = ap (slice_get ys) (let it : i - 0 ≡ i = omega arith in it) ∙ at
at_behind (y ∷ xs) ys zero x at more = absurd (omega (arith, more))
at_behind (y ∷ xs) ys (suc i) x at more =
    ap (slice_get ys) (let it : suc i - suc (length xs) ≡ i - length xs = omega arith in it)
    ∙ at_behind xs ys i x at (omega (arith, more))

pub named_at : {A : Type 0} (name_of : A → Text) (xs : List A) (i : ℕ) (w : Text)
    → slice_get (map name_of xs) i ≡ Some w → name_at name_of (slice_get xs i) ≡ w
named_at name_of [] i w at = absurd (cc at)
named_at name_of (x ∷ xs) zero w at = cc at
named_at name_of (x ∷ xs) (suc i) w at = named_at name_of xs i w at

-- ---- types with names

-- the names of structures and of enumerations have their numbers
pub record AreNumbered (types : TypeNames) (structures enumerations : List Text) : Type 0 where
  pub numbers : types.numbers ≡ numbered 0 structures ++ numbered (length structures) enumerations
  pub count : types.structures ≡ length structures

module _ (types : TypeNames) (S E : List Text) (are : AreNumbered types S E) where
  all_numbers : types.numbers ≡ numbered 0 (S ++ E)
  all_numbers = are.numbers ∙ numbered_both 0 (length S) S E (omega arith)

  -- a name is that of a structure, or that of an enumeration
  pub named_is : (P : Ty → Type 0) (w : Text) (n : ℕ) → number_in types.numbers w ≡ Some n
      → ((k : ℕ) → slice_get S k ≡ Some w → P (flat.Structure k))
      → ((k : ℕ) → slice_get E k ≡ Some w → P (flat.Enumeration k)) → P (of_number types.structures n)
  named_is P w n is structure enumeration =
      subst P (sym (ap (λ (k : ℕ). of_number k n) are.count)) (by (nat_lt n (length S)) refl)
    where
      at : slice_get (S ++ E) n ≡ Some w
      at =
          let it = name_at_number 0 (S ++ E) w n (sym (ap (λ (t : Table). number_in t w) all_numbers) ∙ is) in
          let same : n ≡ it.index = omega (arith, it.number_is) in
          ap (slice_get (S ++ E)) same ∙ it.at

      by : (b : Bool) → nat_lt n (length S) ≡ b → P (if b then flat.Structure n else flat.Enumeration (n - length S))
      by true less = structure n (at_front S E n w at (grind (arith, nat_tests, less)))
      by false more = enumeration (n - length S) (at_behind S E n w at (grind (arith, nat_tests, more)))

  -- ---- each form

  base_has : (P : Text → Ty → Type 0) → P (codes "boolean") flat.Boolean → P (codes "integer") flat.Integer
      → P (codes "decimal") flat.Decimal → P (codes "money") flat.Money → P (codes "date") flat.Date
      → P (codes "duration") flat.Duration
      → ((w : Text) (k : ℕ) → slice_get S k ≡ Some w → P w (flat.Structure k))
      → ((w : Text) (k : ℕ) → slice_get E k ≡ Some w → P w (flat.Enumeration k))
      → (w : Text) (t : Ty) → base_of types.numbers types.structures w ≡ Some t → P w t
  base_has P boolean integer decimal money date duration structure enumeration w t is =
      by (flat_type w) refl (number_in types.numbers w) refl is
    where
      by : (o : Option Ty) → flat_type w ≡ o → (n : Option ℕ) → number_in types.numbers w ≡ n
          → option_or o (option_map (of_number types.structures) n) ≡ Some t → P w t
      by (Some u) f n g is = let same : u ≡ t = cc is in
          subst (P w) same (flat_is P boolean integer decimal money date duration w u f)
      by None f (Some n) g is = let same : of_number types.structures n ≡ t = cc is in
          subst (P w) same (named_is (P w) w n g (structure w) (enumeration w))
      by None f None g is = absurd (cc is)

  -- what holds of each form, and of a list where it holds of its elements, holds of each text that is a type
  pub spelled_has : (P : Text → Ty → Type 0) → P (codes "boolean") flat.Boolean → P (codes "integer") flat.Integer
      → P (codes "decimal") flat.Decimal → P (codes "money") flat.Money → P (codes "date") flat.Date
      → P (codes "duration") flat.Duration
      → ((w : Text) (k : ℕ) → slice_get S k ≡ Some w → P w (flat.Structure k))
      → ((w : Text) (k : ℕ) → slice_get E k ≡ Some w → P w (flat.Enumeration k))
      → ((w : Text) (t : Ty) → P w t → P (codes "list of " ++ w) (ty.List t))
      → (w : Text) (t : Ty) → Spells types w t → P w t
  spelled_has P boolean integer decimal money date duration structure enumeration list w t spells =
      by (nat_lt spells.lists highest) spells.found_is
    where
      lists : (n : ℕ) (v : Text) (u : Ty) → P v u → P (listed n v) (lists_of n u)
      lists zero v u told = told
      lists (suc n) v u told = list (listed n v) (lists_of n u) (lists n v u told)

      found : (o : Option Ty) → base_of types.numbers types.structures spells.base ≡ o
          → Some t ≡ option_map (lists_of spells.lists) o → P w t
      found None base is = absurd (cc is)
      found (Some u) base is = let same : lists_of spells.lists u ≡ t = cc is in
          subst (P w) same (subst (λ (v : Text). P v (lists_of spells.lists u)) (sym spells.behind.text_is)
          (lists spells.lists spells.base u
          (base_has P boolean integer decimal money date duration structure enumeration spells.base u base)))

      by : (b : Bool) → Some t ≡ (if b then option_map (lists_of spells.lists)
          (base_of types.numbers types.structures spells.base) else None) → P w t
      by true is = found (base_of types.numbers types.structures spells.base) refl is
      by false is = absurd (cc is)

  -- a type names what is declared
  pub spelled_declared : (ss : List Structure) (es : List Enumeration) → length ss ≡ length S → length es ≡ length E
      → (w : Text) (t : Ty) → Spells types w t → is_declared ss es t ≡ true
  spelled_declared ss es many more = spelled_has (λ w t. is_declared ss es t ≡ true) (is_declared_Boolean ss es)
      (is_declared_Integer ss es) (is_declared_Decimal ss es) (is_declared_Money ss es) (is_declared_Date ss es)
      (is_declared_Duration ss es)
      (λ w k at. is_declared_Structure ss es k
      ∙ (let less = within_at S k w at in grind (arith, nat_tests, less, many)))
      (λ w k at. is_declared_Enumeration ss es k
      ∙ (let less = within_at E k w at in grind (arith, nat_tests, less, more)))
      (λ w t told. is_declared_List ss es t ∙ told)

  -- and its text is that which spells it
  pub spelled_text : (ds : Decls) → S ≡ map (λ (s : Structure). s.name) ds.structures
      → E ≡ map (λ (e : Enumeration). e.name) ds.enumerations → (w : Text) (t : Ty) → Spells types w t
      → type_text ds t ≡ w
  spelled_text ds structures enumerations = spelled_has (λ w t. type_text ds t ≡ w) (texts.type_text-Boolean ds)
      (texts.type_text-Integer ds) (texts.type_text-Decimal ds) (texts.type_text-Money ds) (texts.type_text-Date ds)
      (texts.type_text-Duration ds)
      (λ w k at. texts.type_text-Structure ds k ∙ named_at (λ (s : Structure). s.name) ds.structures k w
      (sym (ap (λ ns. slice_get ns k) structures) ∙ at))
      (λ w k at. texts.type_text-Enumeration ds k ∙ named_at (λ (e : Enumeration). e.name) ds.enumerations k w
      (sym (ap (λ ns. slice_get ns k) enumerations) ∙ at))
      (λ w t told. texts.type_text-List ds t ∙ ap (λ v. codes "list of " ++ v) told)
