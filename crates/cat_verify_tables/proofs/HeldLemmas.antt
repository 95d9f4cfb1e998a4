-- What variables hold, by the words that a text is parted into.
use Rattle.std.proofs.Common.{◌≡◌, ◌<◌, ◌≤◌, nat_lt, ℕ, zero, suc, Bool, true, false, List, [], ◌∷◌}
use Rattle.std.proofs.Common.{◌++◌, drop, Option, Some, None, refl, sym, ap, ◌∙◌, subst, arith}
use Rattle.std.proofs.Common.{append-nil}
use Rattle.std.specs.Prelude.{codes, if◌then◌else◌, is_some}
use Rattle.std.specs.Option.{option_map, option_or}
use Rattle.std.proofs.lemmas.Bool.Decides.{nat_tests}
use Rattle.std.proofs.lemmas.List.{append_assoc}
use Rattle.cat_value.specs.declared.ty.Ty.{Ty}
use Rattle.cat_value.specs.Declarations.{highest}
use Rattle.cat_check_names.specs.Table.{number_in}
use Rattle.cat_image.specs.Words.{Text}
use Rattle.cat_image.specs.inside.Reads.{cut}
use Rattle.cat_image.proofs.CutLemmas.{cut_at}
use Rattle.cat_verify_tables.specs.declared.types.TypeNames.{TypeNames}
use Rattle.cat_verify_tables.specs.declared.holding.Held.{Held}
use Rattle.cat_verify_tables.specs.WrongParts.{params_text, more_params}
use Rattle.cat_verify_tables.specs.inside.NamedWords.{names_in}
use Rattle.cat_verify_tables.specs.inside.TypeNaming.{flat_type, base_of, of_number, lists_of, listed}
use Rattle.cat_verify_tables.specs.inside.TypeNaming.{IsBehind}
use Rattle.cat_verify_tables.specs.inside.PartWords.{Spells, SpellsNone}
use Rattle.cat_verify_tables.specs.inside.ItemWords.{IsHeldType, AreParamsOf, IsHeldOf}
use Rattle.cat_verify_tables.specs.inside.HeldWords.{ArePlain, IsHeldBase, HoldsNoBase}
use Rattle.cat_verify_tables.proofs.KnownLemmas.{have_one}
use Rattle.cat_verify_tables.proofs.NameLemmas.{one_of}
use Rattle.cat_verify_tables.proofs.PlainLemmas.{is_plain, flat_plain, not_other_plain, no_blank, no_list}

-- ---- lists in front of a base

abbrev pub IsNoList : Text → Type 0
IsNoList base = (rest : Text) → base ≡ codes "list of " ++ rest → ⊥

pub listed_both : (n : ℕ) (one other : Text) → listed n (one ++ other) ≡ listed n one ++ other
listed_both zero one other = refl
listed_both (suc n) one other = ap (λ (text : Text). codes "list of " ++ text) (listed_both n one other)
    ∙ sym (append_assoc (codes "list of ") (listed n one) other)

-- a text has one base behind its lists
pub one_base : (most l n : ℕ) (base rest : Text) → listed l base ≡ listed n rest → l < most → n ≤ most → IsNoList base
    → (n < most → IsNoList rest) → (l ≡ n) × (base ≡ rest)
one_base most zero zero base rest same few more own other = (refl, same)
one_base most zero (suc n) base rest same few more own other = absurd (own (listed n rest) same)
one_base most (suc l) zero base rest same few more own other =
    absurd (other (omega (arith, few)) (listed l base) (sym same))
one_base zero (suc l) (suc n) base rest same few more own other = absurd (omega (arith, few))
one_base (suc most) (suc l) (suc n) base rest same few more own other =
    let it = one_base most l n base rest (ap (drop 8) same) (omega (arith, few)) (omega (arith, more)) own
    (λ less. other (omega (arith, less))) in
    (ap suc it.0, it.1)

-- a text is a type in one way
pub one_spelled : (types : TypeNames) (text : Text) (t : Ty) → Spells types text t → SpellsNone types text → ⊥
one_spelled types text t some none = by (nat_lt some.lists highest) refl some.found_is
  where
    by : (b : Bool) → nat_lt some.lists highest ≡ b → Some t ≡ (if b then option_map (lists_of some.lists)
        (base_of types.numbers types.structures some.base) else None) → ⊥
    by false test is = absurd (cc is)
    by true test is =
        let few : some.lists < highest = grind (arith, nat_tests, test) in
        let same = one_base highest some.lists none.lists some.base none.base
        (sym some.behind.text_is ∙ none.behind.text_is) few none.behind.most (some.behind.all few) none.behind.all in
        let one : Some t ≡ None = some.found_is
        ∙ ap (λ (n : ℕ). if nat_lt n highest then option_map (lists_of n)
        (base_of types.numbers types.structures some.base) else None) same.0
        ∙ ap (λ (base : Text). if nat_lt none.lists highest then option_map (lists_of none.lists)
        (base_of types.numbers types.structures base) else None) same.1
        ∙ sym none.found_is in
        cc one

-- ---- the base of a type

module _ (types : TypeNames) (plain : ArePlain types) where
  base_plain : (word : Text) (t : Ty) → base_of types.numbers types.structures word ≡ Some t → is_plain word ≡ true
  base_plain word t is = by (flat_type word) refl (number_in types.numbers word) refl is
    where
      by : (o : Option Ty) → flat_type word ≡ o → (n : Option ℕ) → number_in types.numbers word ≡ n
          → option_or o (option_map (of_number types.structures) n) ≡ Some t → is_plain word ≡ true
      by (Some u) f n g is = flat_plain word u f
      by None f (Some n) g is = not_other_plain word (have_one _ word (names_in types.numbers)
          (one_of types.numbers word (ap is_some g)) plain)
      by None f None g is = absurd (cc is)

  -- what a variable holds, by its base
  pub record IsBasedOn (text : Text) (condition : Bool) (ty : Ty) : Type 0 where
    pub lists : ℕ
    pub base : Text
    pub text_is : text ≡ listed lists base
    pub few : lists < highest
    pub plain_base : is_plain base ≡ true
    pub held : IsHeldBase types lists base condition ty

  pub held_based : (text : Text) (condition : Bool) (ty : Ty) → IsHeldType types text condition ty
      → IsBasedOn text condition ty
  held_based text true ty held = record {
    lists = 0;
    base = text;
    text_is = refl;
    few = omega arith;
    plain_base = ap is_plain held.0;
    held = (refl, held.0, held.1);
  }
  held_based text false ty spells = by (nat_lt spells.lists highest) refl spells.found_is
    where
      found : (o : Option Ty) → base_of types.numbers types.structures spells.base ≡ o
          → Some ty ≡ option_map (lists_of spells.lists) o → is_plain spells.base ≡ true
      found None at is = absurd (cc is)
      found (Some u) at is = base_plain spells.base u at

      by : (b : Bool) → nat_lt spells.lists highest ≡ b
          → Some ty ≡ (if b then option_map (lists_of spells.lists)
          (base_of types.numbers types.structures spells.base) else None) → IsBasedOn text false ty
      by false test is = absurd (cc is)
      by true test is = record {
        lists = spells.lists;
        base = spells.base;
        text_is = spells.behind.text_is;
        few = grind (arith, nat_tests, test);
        plain_base = found (base_of types.numbers types.structures spells.base) refl is;
        held = sym spells.found_is;
      }

  -- ---- a text behind its lists

  pub record IsSplit (lists : ℕ) (rest : Text) (held : Held) : Type 0 where
    pub base : Text
    pub texts : List Text
    pub rest_is : rest ≡ base ++ params_text texts
    pub blank : cut 32 base ≡ None
    pub own : IsHeldBase types lists base held.condition held.ty
    pub params : AreParamsOf types texts held.params

  pub held_split : (what : Text) (lists : ℕ) (rest : Text) (held : Held) → IsBehind what lists rest
      → IsHeldOf types what held → IsSplit lists rest held
  held_split what lists rest held behind is =
      let it = held_based is.text held.condition held.ty is.ty_is in
      let whole : listed it.lists (it.base ++ params_text is.texts) ≡ listed lists rest =
      listed_both it.lists it.base (params_text is.texts)
      ∙ ap (λ (text : Text). text ++ params_text is.texts) (sym it.text_is) ∙ sym is.what_is ∙ behind.text_is in
      let same = one_base highest it.lists lists (it.base ++ params_text is.texts) rest whole it.few behind.most
      (λ more. no_list it.base (params_text is.texts) more it.plain_base) behind.all in
      record {
        base = it.base;
        texts = is.texts;
        rest_is = sym same.1;
        blank = no_blank it.base it.plain_base;
        own = subst (λ (n : ℕ). IsHeldBase types n it.base held.condition held.ty) same.0 it.held;
        params = is.params_are;
      }

-- ---- without parameters

pub no_base : (types : TypeNames) (lists : ℕ) (base : Text) (condition : Bool) (ty : Ty) → HoldsNoBase types lists base
    → IsHeldBase types lists base condition ty → ⊥
no_base types lists base true ty none held = none.0 (held.0, held.1)
no_base types lists base false ty none held = absurd (cc (sym none.1 ∙ held))

module _ (types : TypeNames) (lists : ℕ) (rest : Text) (held : Held) where
  no_params : (base : Text) (texts : List Text) → rest ≡ base ++ params_text texts → cut 32 base ≡ None
      → cut 32 rest ≡ None → (texts ≡ []) × (base ≡ rest)
  no_params base [] is blank none = (refl, sym (is ∙ append-nil base))
  no_params base (t ∷ ts) is blank none =
      absurd (cc (sym (cut_at 32 base (codes "of " ++ (t ++ more_params ts)) blank) ∙ ap (cut 32) (sym is) ∙ none))

  pub whole_none : HoldsNoBase types lists rest → cut 32 rest ≡ None → (plain : ArePlain types)
      → IsSplit types plain lists rest held → ⊥
  whole_none none at plain it =
      let same = no_params it.base it.texts it.rest_is it.blank at in
      no_base types lists rest held.condition held.ty none
      (subst (λ (base : Text). IsHeldBase types lists base held.condition held.ty) same.1 it.own)

-- ---- with parameters

-- what stands in front of the first blank, and behind it
pub record IsParted (types : TypeNames) (lists : ℕ) (base more : Text) (held : Held) : Type 0 where
  pub own : IsHeldBase types lists base held.condition held.ty
  pub first : Text
  pub others : List Text
  pub more_is : more ≡ codes "of " ++ (first ++ more_params others)
  pub params : AreParamsOf types (first ∷ others) held.params

pub parted_at : (types : TypeNames) (plain : ArePlain types) (lists : ℕ) (rest : Text) (p : Text × Text) (held : Held)
    → cut 32 rest ≡ Some p → IsSplit types plain lists rest held → IsParted types lists p.0 p.1 held
parted_at types plain lists rest p held at it = by it.base it.texts it.rest_is it.blank it.own it.params
  where
    by : (base : Text) (texts : List Text) → rest ≡ base ++ params_text texts → cut 32 base ≡ None
        → IsHeldBase types lists base held.condition held.ty → AreParamsOf types texts held.params
        → IsParted types lists p.0 p.1 held
    by base [] is blank own params =
        absurd (cc (sym blank ∙ ap (cut 32) (sym (is ∙ append-nil base)) ∙ at))
    by base (t ∷ ts) is blank own params =
        let same : Some p ≡ Some (base, codes "of " ++ (t ++ more_params ts)) =
        sym at ∙ ap (cut 32) is ∙ cut_at 32 base (codes "of " ++ (t ++ more_params ts)) blank in
        let parts : p ≡ (base, codes "of " ++ (t ++ more_params ts)) = cc same in
        record {
          own = subst (λ (text : Text). IsHeldBase types lists text held.condition held.ty)
              (sym (ap (λ q. q.0) parts)) own;
          first = t;
          others = ts;
          more_is = ap (λ q. q.1) parts;
          params = params;
        }
