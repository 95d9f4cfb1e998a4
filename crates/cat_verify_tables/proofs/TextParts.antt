-- Texts in front of a byte, and types in front of blanks and commas.
use Rattle.std.proofs.Common.{◌≡◌, ◌+◌, ℕ, suc, true, [], ◌∷◌, ◌++◌, Some, None, refl, sym, ap}
use Rattle.std.proofs.Common.{◌∙◌, subst, arith, append-nil}
use Rattle.std.specs.Prelude.{codes}
use Rattle.std.proofs.lemmas.Option.{some_pair_parts}
use Rattle.cat_value.specs.declared.ty.Ty.{Ty}
use Rattle.cat_image.specs.declared.tables.ImageTables.{ImageTables}
use Rattle.cat_image.specs.Words.{Text}
use Rattle.cat_image.specs.inside.Reads.{cut}
use Rattle.cat_image.proofs.CutLemmas.{cut_at}
use Rattle.cat_verify_tables.specs.TypeWords.{IsTypeName}
use Rattle.cat_verify_tables.specs.inside.DeclaredWords.{enumerations_named, structures_named}
use Rattle.cat_verify_tables.specs.inside.TypeNaming.{flat_type, listed}
use Rattle.cat_verify_tables.proofs.HeldLemmas.{listed_both, one_base}
use Rattle.cat_verify_tables.proofs.MadeLemmas.{Apart, IsNamed}
use Rattle.cat_verify_tables.proofs.MadeLemmas as named
use Rattle.cat_verify_tables.proofs.PlainLemmas.{flat_plain, is_plain, no_blank, no_comma, no_list}
use Rattle.cat_verify_tables.proofs.PlainLemmas.{not_other_plain, first_of, listed_single, no_condition_name}

-- a text that begins with a byte, or is empty
abbrev pub BeginsWith : ℕ → Text → Type 0
BeginsWith byte [] = Unit {0}
BeginsWith byte (b ∷ bs) = b ≡ byte

-- fronts without the byte, and what stands behind them, are one thing each
pub parted_one : (byte : ℕ) (a b r q : Text) → cut byte a ≡ None → cut byte b ≡ None → BeginsWith byte r
    → BeginsWith byte q → a ++ r ≡ b ++ q → (a ≡ b) × (r ≡ q)
parted_one byte a b [] [] none other begins ends same = (sym (append-nil a) ∙ same ∙ append-nil b, refl)
parted_one byte a b [] (d ∷ q) none other begins ends same =
    let at : None ≡ Some (b, q) = sym none
    ∙ ap (cut byte) (sym (append-nil a) ∙ same ∙ ap (λ (x : ℕ). b ++ x ∷ q) ends) ∙ cut_at byte b q other in
    absurd (cc at)
parted_one byte a b (c ∷ r) [] none other begins ends same =
    let at : None ≡ Some (a, r) = sym other
    ∙ ap (cut byte) (sym (append-nil b) ∙ sym same ∙ ap (λ (x : ℕ). a ++ x ∷ r) begins) ∙ cut_at byte a r none in
    absurd (cc at)
parted_one byte a b (c ∷ r) (d ∷ q) none other begins ends same =
    let at : Some (a, r) ≡ Some (b, q) = sym (cut_at byte a r none)
    ∙ ap (cut byte) (ap (λ (x : ℕ). a ++ x ∷ r) (sym begins) ∙ same ∙ ap (λ (x : ℕ). b ++ x ∷ q) ends)
    ∙ cut_at byte b q other in
    let parts = some_pair_parts a b r q at in (
      parts.0,
      ap (λ (x : ℕ). x ∷ r) (begins ∙ sym ends) ∙ ap (λ (t : Text). d ∷ t) parts.1,
    )

-- a plain word behind lists
pub record IsListed (text : Text) : Type 0 where
  pub lists : ℕ
  pub base : Text
  pub text_is : text ≡ listed lists base
  pub plain : is_plain base ≡ true

pub front_one : (w v r q : Text) → IsListed w → IsListed v → BeginsWith 32 r → BeginsWith 32 q → w ++ r ≡ v ++ q
    → (w ≡ v) × (r ≡ q)
front_one w v r q one other begins ends same =
    let whole : listed one.lists (one.base ++ r) ≡ listed other.lists (other.base ++ q) =
    listed_both one.lists one.base r ∙ ap (λ (x : Text). x ++ r) (sym one.text_is) ∙ same
    ∙ ap (λ (x : Text). x ++ q) other.text_is ∙ sym (listed_both other.lists other.base q) in
    let it = one_base (one.lists + other.lists + 1) one.lists other.lists (one.base ++ r) (other.base ++ q) whole
    (omega arith) (omega arith) (λ rest. no_list one.base r rest one.plain)
    (λ less rest. no_list other.base q rest other.plain) in
    let parts = parted_one 32 one.base other.base r q (no_blank one.base one.plain) (no_blank other.base other.plain)
    begins ends it.1 in (
      one.text_is ∙ ap (λ (n : ℕ). listed n one.base) it.0 ∙ ap (listed other.lists) parts.0 ∙ sym other.text_is,
      parts.1,
    )

pub single : (text : Text) → IsListed text → cut 44 text ≡ None
single text it = ap (cut 44) it.text_is ∙ listed_single it.lists it.base (no_comma it.base it.plain)

pub condition_listed : IsListed (codes "condition")
condition_listed = record { lists = 0; base = codes "condition"; text_is = refl; plain = refl }

module _ (tables : ImageTables) (apart : Apart tables) where
  abbrev Named : Text → Ty → Type 0
  Named = IsNamed (structures_named tables) (enumerations_named tables)

  pub named_listed : (w : Text) (t : Ty) → Named w t → IsListed w
  named_listed w t (named.plain v x is) =
      record { lists = 0; base = v; text_is = refl; plain = flat_plain v x is }
  named_listed w t (named.structure v k at) = record {
    lists = 0;
    base = v;
    text_is = refl;
    plain = not_other_plain v (apart.spelled_structures k v at);
  }
  named_listed w t (named.enumeration v k at) = record {
    lists = 0;
    base = v;
    text_is = refl;
    plain = not_other_plain v (apart.spelled_enumerations k v at);
  }
  named_listed w t (named.list v u is) =
      let it = named_listed v u is in record {
        lists = suc it.lists;
        base = it.base;
        text_is = ap (λ (x : Text). codes "list of " ++ x) it.text_is;
        plain = it.plain;
      }

  -- no type is called as a condition is
  pub no_condition : (w : Text) (t : Ty) → Named w t → w ≡ codes "condition" → ⊥
  unfolding flat_type
  no_condition w t (named.plain v x is) same = cc (sym (ap flat_type same) ∙ is)
  no_condition w t (named.structure v k at) same =
      apart.spelled_structures k v at (λ typed. no_condition_name (subst IsTypeName same typed))
  no_condition w t (named.enumeration v k at) same =
      apart.spelled_enumerations k v at (λ typed. no_condition_name (subst IsTypeName same typed))
  no_condition w t (named.list v u is) same = let first : 108 ≡ 99 = ap first_of same in omega (arith, first)
