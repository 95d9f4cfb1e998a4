-- What is left of a number behind the parts of types.
use Rattle.std.proofs.Common.{◌≡◌, ℕ, zero, suc, ◌+◌, ◌-◌, ◌*◌, ◌<◌, ◌≤◌, nat_lt, nat_le, List, ◌∷◌, slice_get}
use Rattle.std.proofs.Common.{drop, length, get_or, ap, sym, ◌∙◌, refl, sub-one, arith}
use Rattle.std.proofs.lemmas.Bool.Decides.{nat_tests}
use Rattle.std.proofs.lemmas.List.{drop_all, drop_more}
use Rattle.cat_value.specs.declared.declaration.Case.{Case}
use Rattle.cat_value.specs.declared.declaration.Field.{Field}
use Rattle.cat_value.specs.declared.declaration.ItemDecl.{ItemDecl}
use Rattle.cat_value.specs.declared.decls.Decls.{Decls}
use Rattle.cat_value.specs.declared.ty.Ty.{Ty}
use Rattle.cat_value.specs.declared.ty.Ty.TheOpen.{Ty-F}
use Rattle.cat_value.specs.declared.ty.Ty.TheVariants as flat_ty
use Rattle.cat_value.specs.declared.ty.Ty.TheViews as ty
use Rattle.cat_value.specs.declared.ty.Ty.TheViews.{out-Ty}
use Rattle.cat_value.proofs.Exported.{whole}
use Rattle.cat_audit_sound.specs.Parts.{parts_to, parts_below, parts_of_structure, parts_of_enumeration}
use Rattle.cat_audit_sound.specs.Parts.{parts_of_fields, parts_of_cases, parts_of_content, parts_for, parts_given}
use Rattle.cat_audit_sound.specs.declared.parts.TheConstants.{MOST_PARTS}

-- ---- by the form of a type

module _ (ds : Decls) where
  step : (k : ℕ) (t : Ty) → 0 < k → parts_to ds k t ≡ 1 + parts_below ds (parts_to ds (k - 1)) (out-Ty t)
  unfolding parts_to
  step zero t h = absurd (omega arith)
  step (suc k) t h = rw sub-one refl

  parts_Structure : (k n : ℕ) → 0 < k
      → parts_to ds k (flat_ty.Structure n)
      ≡ 1 + parts_of_structure (parts_to ds (k - 1)) (slice_get ds.structures n)
  parts_Structure k n h = rw (step k (flat_ty.Structure n) h, ty.outs-Structure n) refl

  parts_Enumeration : (k n : ℕ) → 0 < k
      → parts_to ds k (flat_ty.Enumeration n)
      ≡ 1 + parts_of_enumeration (parts_to ds (k - 1)) (slice_get ds.enumerations n)
  parts_Enumeration k n h = rw (step k (flat_ty.Enumeration n) h, ty.outs-Enumeration n) refl

  parts_other : (k : ℕ) (t : Ty) → 0 < k → ((n : ℕ) → t ≡ flat_ty.Structure n → ⊥)
      → ((n : ℕ) → t ≡ flat_ty.Enumeration n → ⊥) → parts_to ds k t ≡ 1
  parts_other k t h structure enumeration =
      step k t h ∙ ap (λ (below : ℕ). 1 + below) (by (out-Ty t) refl)
    where
      by : (y : Ty-F Ty) → out-Ty t ≡ y → parts_below ds (parts_to ds (k - 1)) y ≡ 0
      by (Ty-F.Structure n) is =
          absurd (structure n (whole t (Ty-F.Structure n) (flat_ty.Structure n) is (ty.rolls-Structure n)))
      by (Ty-F.Enumeration n) is =
          absurd (enumeration n (whole t (Ty-F.Enumeration n) (flat_ty.Enumeration n) is (ty.rolls-Enumeration n)))
      by _ is = refl

  pub no_level : (k l : ℕ) (t : Ty) → k ≡ 0 → l ≡ l - parts_to ds k t
  unfolding parts_to
  no_level zero l t none = let no_parts : parts_to ds zero t ≡ 0 = refl in omega (arith, no_parts)
  no_level (suc k) l t none = absurd (omega (arith, none))

  pub none_left : (k l : ℕ) (t : Ty) → l ≡ 0 → 0 ≡ l - parts_to ds k t
  none_left k l t none = omega (arith, none)

  pub left_Structure : (k l n r : ℕ) → 0 < k
      → r ≡ l - 1 - parts_of_structure (parts_to ds (k - 1)) (slice_get ds.structures n)
      → r ≡ l - parts_to ds k (flat_ty.Structure n)
  left_Structure k l n r some is = omega (arith, is, parts_Structure k n some)

  pub left_Enumeration : (k l n r : ℕ) → 0 < k
      → r ≡ l - 1 - parts_of_enumeration (parts_to ds (k - 1)) (slice_get ds.enumerations n)
      → r ≡ l - parts_to ds k (flat_ty.Enumeration n)
  left_Enumeration k l n r some is = omega (arith, is, parts_Enumeration k n some)

  pub left_other : (k l : ℕ) (t : Ty) → 0 < k → ((n : ℕ) → t ≡ flat_ty.Structure n → ⊥)
      → ((n : ℕ) → t ≡ flat_ty.Enumeration n → ⊥) → l - 1 ≡ l - parts_to ds k t
  left_other k l t some structure enumeration =
      ap (λ (n : ℕ). l - n) (sym (parts_other k t some structure enumeration))

pub lower : (k : ℕ) → 0 < k → 4 * (k - 1) + 3 < 4 * k
lower zero some = absurd (omega (arith, some))
lower (suc k) some = rw sub-one (omega arith)

pub ruleset levels = (no_level, none_left, left_Structure, left_Enumeration, left_other, lower)

-- ---- one by one

pub field_next : (ds : Decls) (k n m all i : ℕ) (fs : List Field) (f : Field) → i < length fs → f ≡ get_or fs i f
    → m ≡ n - parts_to ds k f.ty → n - parts_of_fields (parts_to ds k) (drop i fs) ≡ all
    → m - parts_of_fields (parts_to ds k) (drop (i + 1) fs) ≡ all
field_next ds k n m all i fs f within is m_is kept =
    let parts : parts_of_fields (parts_to ds k) (drop i fs)
    ≡ parts_to ds k f.ty + parts_of_fields (parts_to ds k) (drop (i + 1) fs) =
    ap (parts_of_fields (parts_to ds k)) (drop_more fs i f within
    ∙ ap (λ (g : Field). g ∷ drop (i + 1) fs) (sym is))
    in omega (arith, parts, m_is, kept)

pub fields_over : (ds : Decls) (k n all i : ℕ) (fs : List Field) → length fs ≤ i
    → n - parts_of_fields (parts_to ds k) (drop i fs) ≡ all → n ≡ all
fields_over ds k n all i fs past kept =
    let parts : parts_of_fields (parts_to ds k) (drop i fs) ≡ 0 =
    ap (parts_of_fields (parts_to ds k)) (drop_all i fs past)
    in omega (arith, parts, kept)

pub ruleset field_by_field = (field_next, fields_over)

pub case_next : (ds : Decls) (k n m all i : ℕ) (cs : List Case) (c : Case) → i < length cs → c ≡ get_or cs i c
    → m ≡ n - 1 - parts_of_content (parts_to ds k) c.content → n - parts_of_cases (parts_to ds k) (drop i cs) ≡ all
    → m - parts_of_cases (parts_to ds k) (drop (i + 1) cs) ≡ all
case_next ds k n m all i cs c within is m_is kept =
    let parts : parts_of_cases (parts_to ds k) (drop i cs)
    ≡ 1 + parts_of_content (parts_to ds k) c.content + parts_of_cases (parts_to ds k) (drop (i + 1) cs) =
    ap (parts_of_cases (parts_to ds k)) (drop_more cs i c within
    ∙ ap (λ (d : Case). d ∷ drop (i + 1) cs) (sym is))
    in omega (arith, parts, m_is, kept)

pub cases_none : (ds : Decls) (k n all i : ℕ) (cs : List Case) → n ≡ 0
    → n - parts_of_cases (parts_to ds k) (drop i cs) ≡ all → 0 ≡ all
cases_none ds k n all i cs none kept = omega (arith, none, kept)

pub cases_over : (ds : Decls) (k n all i : ℕ) (cs : List Case) → length cs ≤ i
    → n - parts_of_cases (parts_to ds k) (drop i cs) ≡ all → n ≡ all
cases_over ds k n all i cs past kept =
    let parts : parts_of_cases (parts_to ds k) (drop i cs) ≡ 0 =
    ap (parts_of_cases (parts_to ds k)) (drop_all i cs past)
    in omega (arith, parts, kept)

pub ruleset case_by_case = (case_next, cases_none, cases_over)

pub item_next : (ds : Decls) (n m all i : ℕ) (items : List ItemDecl) (item : ItemDecl) → i < length items
    → item ≡ get_or items i item → m ≡ n - parts_for ds item → n - parts_given ds (drop i items) ≡ all
    → m - parts_given ds (drop (i + 1) items) ≡ all
item_next ds n m all i items item within is m_is kept =
    let parts : parts_given ds (drop i items) ≡ parts_for ds item + parts_given ds (drop (i + 1) items) =
    ap (parts_given ds) (drop_more items i item within
    ∙ ap (λ (other : ItemDecl). other ∷ drop (i + 1) items) (sym is))
    in omega (arith, parts, m_is, kept)

pub items_over : (ds : Decls) (n all i : ℕ) (items : List ItemDecl) → length items ≤ i
    → n - parts_given ds (drop i items) ≡ all → n ≡ all
items_over ds n all i items past kept =
    let parts : parts_given ds (drop i items) ≡ 0 = ap (parts_given ds) (drop_all i items past)
    in omega (arith, parts, kept)

pub ruleset item_by_item = (item_next, items_over)

-- ---- the bound

pub few : (n r : ℕ) → r ≡ MOST_PARTS + 1 - n → nat_lt 0 r ≡ nat_le n MOST_PARTS
few n r is = grind (arith, nat_tests, is)

pub ruleset bound = (few)
