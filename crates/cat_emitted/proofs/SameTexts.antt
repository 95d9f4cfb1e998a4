-- A type of spelled declarations is the only one of its text, whatever declarations have the same words.
use Rattle.std.proofs.Common.{◌≡◌, ◌<◌, ◌≤◌, ◌+◌, ◌==◌, ℕ, zero, suc, IsTrue, List, [], ◌∷◌, ◌++◌, map}
use Rattle.std.proofs.Common.{drop, Option, Some}
use Rattle.std.proofs.Common.{None, slice_get, refl, sym, ap, ◌∙◌, subst, arith}
use Rattle.std.specs.Prelude.{codes, if◌then◌else◌}
use Rattle.std.specs.Char.{is_ascii_uppercase}
use Rattle.cat_lex.specs.Forms.{IsWord}
use Rattle.cat_value.specs.declared.ty.Ty.{Ty}
use Rattle.cat_value.specs.declared.ty.Ty.TheVariants as flat
use Rattle.cat_value.specs.declared.ty.Ty.TheViews as ty
use Rattle.cat_value.specs.declared.declaration.Structure.{Structure}
use Rattle.cat_value.specs.declared.declaration.Enumeration.{Enumeration}
use Rattle.cat_value.specs.declared.decls.Decls.{Decls}
use Rattle.cat_value.proofs.Exported.{found, is_declared_List, structure_there, enumeration_there}
use Rattle.cat_value.proofs.Induction.{type_induction}
use Rattle.cat_code.specs.declared.code.Tables.{Tables}
use Rattle.cat_listing.specs.Texts.{type_text, name_at}
use Rattle.cat_listing.proofs.TypeTexts as texts
use Rattle.cat_image.specs.Words.{Text}
use Rattle.cat_verify_tables.proofs.Exported.{one_there, first_of}
use Rattle.cat_emitted.specs.Spelled.{AreSpelledDecls}
use Rattle.cat_emitted.proofs.ListFacts.{all_at, apart_places, apart_left, apart_right}
use Rattle.cat_emitted.proofs.FirstLetters.{first_capital, named_some}
use Rattle.cat_emitted.proofs.TypeFacts as types

-- ---- types without parts, by the first letters of their texts

abbrev mark : Text → ℕ
mark [] = 0
mark (a ∷ []) = 0
mark (a ∷ b ∷ more) = a + b

abbrev flat_of : ℕ → Option Ty
flat_of n =
    if n == 209 then Some flat.Boolean
    else (if n == 215 then Some flat.Integer
    else (if n == 201 then Some flat.Decimal
    else (if n == 220 then Some flat.Money
    else (if n == 197 then Some flat.Date
    else (if n == 217 then Some flat.Duration else None)))))

-- what is seen of a type by its text
pub data Seen (o : Decls) (u : Ty) : Type 0 where
  plain : flat_of (mark (type_text o u)) ≡ Some u → 90 < first_of (type_text o u) → Seen o u
  list : (e : Ty) → u ≡ ty.List e → Seen o u
  structure : (n : ℕ) → u ≡ flat.Structure n → Seen o u
  enumeration : (n : ℕ) → u ≡ flat.Enumeration n → Seen o u

plain_seen : (o : Decls) (u : Ty) (w : Text) → type_text o u ≡ w → flat_of (mark w) ≡ Some u → 90 < first_of w
    → Seen o u
plain_seen o u w text is small =
    plain (ap (λ (x : Text). flat_of (mark x)) text ∙ is) (let same = ap first_of text in omega (arith, same, small))

pub seen : (o : Decls) (u : Ty) → Seen o u
seen o = type_induction (Seen o)
    (plain_seen o flat.Boolean (codes "boolean") (texts.type_text-Boolean o) refl (omega arith))
    (plain_seen o flat.Integer (codes "integer") (texts.type_text-Integer o) refl (omega arith))
    (plain_seen o flat.Decimal (codes "decimal") (texts.type_text-Decimal o) refl (omega arith))
    (plain_seen o flat.Money (codes "money") (texts.type_text-Money o) refl (omega arith))
    (plain_seen o flat.Date (codes "date") (texts.type_text-Date o) refl (omega arith))
    (plain_seen o flat.Duration (codes "duration") (texts.type_text-Duration o) refl (omega arith))
    (λ e _. list e refl) (λ n. structure n refl) (λ n. enumeration n refl)

-- ---- names, in the same places

-- a name among those of other declarations has its place
pub named_there : {A : Type 0} (name : A → Text) (xs ys : List A) (n : ℕ) (y : A) → map name xs ≡ map name ys
    → slice_get ys n ≡ Some y → (x : A) × (slice_get xs n ≡ Some x) × (name x ≡ name y)
named_there name [] [] n y same at = absurd (cc at)
named_there name [] (z ∷ ys) n y same at = absurd (cc same)
named_there name (x ∷ xs) [] n y same at = absurd (cc same)
named_there name (x ∷ xs) (z ∷ ys) zero y same at =
    let is : z ≡ y = cc at in let first : name x ≡ name z = cc same in (x, refl, first ∙ ap name is)
named_there name (x ∷ xs) (z ∷ ys) (suc n) y same at =
    let rest : map name xs ≡ map name ys = cc same in named_there name xs ys n y rest at

module _ (code : Tables) (files : List Text) (spelled : AreSpelledDecls code.decls) (o : Decls)
    (structures : map (λ (s : Structure). s.name) code.decls.structures ≡ map (λ (s : Structure). s.name) o.structures)
    (enumerations : map (λ (e : Enumeration). e.name) code.decls.enumerations
    ≡ map (λ (e : Enumeration). e.name) o.enumerations) where
  abbrev ds : Decls
  ds = code.decls

  -- a text that is the name of a structure or an enumeration of the others, or of none
  pub data Named (text : Text) : Type 0 where
    none : text ≡ [] → Named text
    word : IsWord is_ascii_uppercase text → Named text

  small_named : (text : Text) → Named text → first_of text ≤ 90
  small_named text (none is) = let e = ap first_of is in omega (arith, e)
  small_named text (word w) = first_capital text w

  structure_named : (n : ℕ) → Named (type_text o (flat.Structure n))
  structure_named n = subst Named (sym (texts.type_text-Structure o n)) (by (slice_get o.structures n) refl)
    where
      by : (x : Option Structure) → slice_get o.structures n ≡ x → Named (name_at (λ (s : Structure). s.name) x)
      by None at = none refl
      by (Some r) at =
          let own = named_there (λ (s : Structure). s.name) ds.structures o.structures n r structures at in
          word (subst (IsWord is_ascii_uppercase) own.2
          (all_at _ ds.structures n own.0 spelled.structures own.1).name.word)

  enumeration_named : (n : ℕ) → Named (type_text o (flat.Enumeration n))
  enumeration_named n = subst Named (sym (texts.type_text-Enumeration o n)) (by (slice_get o.enumerations n) refl)
    where
      by : (x : Option Enumeration) → slice_get o.enumerations n ≡ x → Named (name_at (λ (e : Enumeration). e.name) x)
      by None at = none refl
      by (Some e) at =
          let own = named_there (λ (e : Enumeration). e.name) ds.enumerations o.enumerations n e enumerations at in
          word (subst (IsWord is_ascii_uppercase) own.2
          (all_at _ ds.enumerations n own.0 spelled.enumerations own.1).name.word)

  -- ---- one type of each text

  abbrev IsOnly : Ty → Type 0
  IsOnly t = types.IsDeclared code files spelled t → (u : Ty) → type_text ds t ≡ type_text o u → t ≡ u

  plain_only : (t : Ty) (w : Text) → type_text ds t ≡ w → flat_of (mark w) ≡ Some t → 90 < first_of w → IsOnly t
  plain_only t w text is small declared u same = by (seen o u)
    where
      other : w ≡ type_text o u
      other = sym text ∙ same

      by : Seen o u → t ≡ u
      by (plain own large) =
          types.same_some t u (sym is ∙ ap (λ (x : Text). flat_of (mark x)) other ∙ own)
      by (list e v) =
          let list_is : w ≡ codes "list of " ++ type_text o e =
          other ∙ ap (type_text o) v ∙ texts.type_text-List o e in
          absurd (cc (sym is ∙ ap (λ (x : Text). flat_of (mark x)) list_is))
      by (structure n v) =
          let name = small_named (type_text o (flat.Structure n)) (structure_named n) in
          let first = ap first_of (other ∙ ap (type_text o) v) in absurd (omega (arith, name, first, small))
      by (enumeration n v) =
          let name = small_named (type_text o (flat.Enumeration n)) (enumeration_named n) in
          let first = ap first_of (other ∙ ap (type_text o) v) in absurd (omega (arith, name, first, small))

  list_only : (t : Ty) → IsOnly t → IsOnly (ty.List t)
  list_only t only declared u same = by (seen o u)
    where
      other : codes "list of " ++ type_text ds t ≡ type_text o u
      other = sym (texts.type_text-List ds t) ∙ same

      by : Seen o u → ty.List t ≡ u
      by (plain own large) = absurd (cc (ap (λ (x : Text). flat_of (mark x)) other ∙ own))
      by (list e v) =
          let element : type_text ds t ≡ type_text o e =
          ap (drop 8) (other ∙ ap (type_text o) v ∙ texts.type_text-List o e) in
          ap ty.List (only (subst IsTrue (is_declared_List ds.structures ds.enumerations t) declared) e element) ∙ sym v
      by (structure n v) =
          let name = small_named (type_text o (flat.Structure n)) (structure_named n) in
          let first : 108 ≡ first_of (type_text o (flat.Structure n)) =
          ap first_of (other ∙ ap (type_text o) v) in absurd (omega (arith, name, first))
      by (enumeration n v) =
          let name = small_named (type_text o (flat.Enumeration n)) (enumeration_named n) in
          let first : 108 ≡ first_of (type_text o (flat.Enumeration n)) =
          ap first_of (other ∙ ap (type_text o) v) in absurd (omega (arith, name, first))

  -- the name of one that is declared, as the text of another type
  named_only : (t u : Ty) (name : Text) → IsWord is_ascii_uppercase name → type_text ds t ≡ name
      → type_text ds t ≡ type_text o u → ((n : ℕ) → u ≡ flat.Structure n → t ≡ u)
      → ((n : ℕ) → u ≡ flat.Enumeration n → t ≡ u) → t ≡ u
  named_only t u name w text same structures_same enumerations_same = by (seen o u)
    where
      capital : first_of (type_text o u) ≤ 90
      capital = let first = ap first_of (sym text ∙ same) in let own = first_capital name w in
          omega (arith, first, own)

      by : Seen o u → t ≡ u
      by (plain own large) = absurd (omega (arith, capital, large))
      by (list e v) =
          let first : first_of (type_text o u) ≡ 108 =
          ap first_of (ap (type_text o) v ∙ texts.type_text-List o e) in absurd (omega (arith, capital, first))
      by (structure n v) = structures_same n v
      by (enumeration n v) = enumerations_same n v

  structure_only : (n : ℕ) → IsOnly (flat.Structure n)
  structure_only n declared u same =
      let it = found ds.structures n (structure_there ds n declared) in
      let word = (all_at _ ds.structures n it.0 spelled.structures it.1).name.word in
      let text = types.structure_text code files spelled n it.0 it.1 in
      named_only (flat.Structure n) u it.0.name word text same
      (λ m v. in_structures it.0 m it.1 v (sym text ∙ same ∙ ap (type_text o) v ∙ texts.type_text-Structure o m))
      (λ m v. in_enumerations it.0 m it.1 v (sym text ∙ same ∙ ap (type_text o) v ∙ texts.type_text-Enumeration o m))
    where
      in_structures : (s : Structure) (m : ℕ) → slice_get ds.structures n ≡ Some s → u ≡ flat.Structure m
          → s.name ≡ name_at (λ (r : Structure). r.name) (slice_get o.structures m) → flat.Structure n ≡ u
      in_structures s m at v e = by (slice_get o.structures m) refl e
        where
          by : (x : Option Structure) → slice_get o.structures m ≡ x → s.name ≡ name_at (λ (r : Structure). r.name) x
              → flat.Structure n ≡ u
          by None there e =
              absurd (named_some s.name (all_at _ ds.structures n s spelled.structures at).name.word e)
          by (Some r) there e =
              let own = named_there (λ (x : Structure). x.name) ds.structures o.structures m r structures there in
              let apart = apart_left (types.structure_names code files spelled)
              (types.enumeration_names code files spelled)
              (apart_left (types.structure_names code files spelled ++ types.enumeration_names code files spelled) _
              spelled.apart) in
              ap flat.Structure (apart_places (λ (x : Structure). x.name) ds.structures n m s own.0 apart at own.1
              (e ∙ sym own.2)) ∙ sym v

      in_enumerations : (s : Structure) (m : ℕ) → slice_get ds.structures n ≡ Some s → u ≡ flat.Enumeration m
          → s.name ≡ name_at (λ (r : Enumeration). r.name) (slice_get o.enumerations m) → flat.Structure n ≡ u
      in_enumerations s m at v e = by (slice_get o.enumerations m) refl e
        where
          by : (x : Option Enumeration) → slice_get o.enumerations m ≡ x
              → s.name ≡ name_at (λ (r : Enumeration). r.name) x → flat.Structure n ≡ u
          by None there e =
              absurd (named_some s.name (all_at _ ds.structures n s spelled.structures at).name.word e)
          by (Some r) there e =
              let own = named_there (λ (x : Enumeration). x.name) ds.enumerations o.enumerations m r enumerations
              there in
              absurd (types.kinds_apart code files spelled s own.0 (one_there ds.structures n s at)
              (one_there ds.enumerations m own.0 own.1) (e ∙ sym own.2))

  enumeration_only : (n : ℕ) → IsOnly (flat.Enumeration n)
  enumeration_only n declared u same =
      let it = found ds.enumerations n (enumeration_there ds n declared) in
      let word = (all_at _ ds.enumerations n it.0 spelled.enumerations it.1).name.word in
      let text = types.enumeration_text code files spelled n it.0 it.1 in
      named_only (flat.Enumeration n) u it.0.name word text same
      (λ m v. in_structures it.0 m it.1 v (sym text ∙ same ∙ ap (type_text o) v ∙ texts.type_text-Structure o m))
      (λ m v. in_enumerations it.0 m it.1 v (sym text ∙ same ∙ ap (type_text o) v ∙ texts.type_text-Enumeration o m))
    where
      in_structures : (s : Enumeration) (m : ℕ) → slice_get ds.enumerations n ≡ Some s → u ≡ flat.Structure m
          → s.name ≡ name_at (λ (r : Structure). r.name) (slice_get o.structures m) → flat.Enumeration n ≡ u
      in_structures s m at v e = by (slice_get o.structures m) refl e
        where
          by : (x : Option Structure) → slice_get o.structures m ≡ x → s.name ≡ name_at (λ (r : Structure). r.name) x
              → flat.Enumeration n ≡ u
          by None there e =
              absurd (named_some s.name (all_at _ ds.enumerations n s spelled.enumerations at).name.word e)
          by (Some r) there e =
              let own = named_there (λ (x : Structure). x.name) ds.structures o.structures m r structures there in
              absurd (types.kinds_apart code files spelled own.0 s (one_there ds.structures m own.0 own.1)
              (one_there ds.enumerations n s at) (own.2 ∙ sym e))

      in_enumerations : (s : Enumeration) (m : ℕ) → slice_get ds.enumerations n ≡ Some s → u ≡ flat.Enumeration m
          → s.name ≡ name_at (λ (r : Enumeration). r.name) (slice_get o.enumerations m) → flat.Enumeration n ≡ u
      in_enumerations s m at v e = by (slice_get o.enumerations m) refl e
        where
          by : (x : Option Enumeration) → slice_get o.enumerations m ≡ x
              → s.name ≡ name_at (λ (r : Enumeration). r.name) x → flat.Enumeration n ≡ u
          by None there e =
              absurd (named_some s.name (all_at _ ds.enumerations n s spelled.enumerations at).name.word e)
          by (Some r) there e =
              let own = named_there (λ (x : Enumeration). x.name) ds.enumerations o.enumerations m r enumerations
              there in
              let apart = apart_right (types.structure_names code files spelled)
              (types.enumeration_names code files spelled)
              (apart_left (types.structure_names code files spelled ++ types.enumeration_names code files spelled) _
              spelled.apart) in
              ap flat.Enumeration (apart_places (λ (x : Enumeration). x.name) ds.enumerations n m s own.0 apart at own.1
              (e ∙ sym own.2)) ∙ sym v

  pub text_only : (t : Ty) → IsOnly t
  text_only = type_induction IsOnly
      (plain_only flat.Boolean (codes "boolean") (texts.type_text-Boolean ds) refl (omega arith))
      (plain_only flat.Integer (codes "integer") (texts.type_text-Integer ds) refl (omega arith))
      (plain_only flat.Decimal (codes "decimal") (texts.type_text-Decimal ds) refl (omega arith))
      (plain_only flat.Money (codes "money") (texts.type_text-Money ds) refl (omega arith))
      (plain_only flat.Date (codes "date") (texts.type_text-Date ds) refl (omega arith))
      (plain_only flat.Duration (codes "duration") (texts.type_text-Duration ds) refl (omega arith))
      list_only structure_only enumeration_only
