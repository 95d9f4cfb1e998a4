-- Lists in front of a type's name.
use Rattle.std.proofs.Common.{◌≡◌, ◌<◌, ◌≤◌, ◌+◌, ℕ, zero, suc, nat_lt, Bool, true, false, ◌++◌, Option, Some}
use Rattle.std.proofs.Common.{None, Result, Ok, Err, IfOk, bytes_eq, refl, sym, ap, ◌∙◌, subst, arith}
use Rattle.std.specs.Prelude.{codes, if◌then◌else◌}
use Rattle.std.specs.Option.{option_map}
use Rattle.std.proofs.lemmas.Bool.Decides.{nat_tests}
use Rattle.std.proofs.lemmas.Slice.Eq.{bytes_eq-Decides}
use Rattle.cat_value.specs.declared.ty.Ty.{Ty}
use Rattle.cat_value.specs.declared.ty.Ty.TheVariants as flat
use Rattle.cat_value.specs.Declarations.{highest}
use Rattle.cat_check_names.specs.Table.{Table}
use Rattle.cat_image.specs.Words.{Text}
use Rattle.cat_verify_tables.specs.inside.TypeNaming.{flat_type, base_of, lists_of, listed, IsBehind, IsTyped}

listed_inside : (n : ℕ) (element : Text) → listed n (codes "list of " ++ element) ≡ listed (suc n) element
listed_inside zero element = refl
listed_inside (suc n) element = ap (λ (t : Text). codes "list of " ++ t) (listed_inside n element)

pub listed_more : (n : ℕ) (text rest element : Text) → text ≡ listed n rest → rest ≡ codes "list of " ++ element
    → text ≡ listed (n + 1) element
listed_more n text rest element is split =
    let one : suc n ≡ n + 1 = omega arith in
    is ∙ ap (listed n) split ∙ listed_inside n element ∙ ap (λ (k : ℕ). listed k element) one

-- ---- lists fewer than a type may be high

pub if_low : {A : Type 0} (x y : A) (lists : ℕ) → lists < highest → (if nat_lt lists highest then x else y) ≡ x
if_low x y lists low =
    let test : nat_lt lists highest ≡ true = grind (arith, nat_tests, low) in
    ap (λ (b : Bool). if b then x else y) test

pub if_high : {A : Type 0} (x y : A) (lists : ℕ) → highest ≤ lists → (if nat_lt lists highest then x else y) ≡ y
if_high x y lists high =
    let test : nat_lt lists highest ≡ false = grind (arith, nat_tests, high) in
    ap (λ (b : Bool). if b then x else y) test

-- what is found behind all lists is the type of the whole
pub typed_by : {E : Type 0} (table : Table) (structures lists : ℕ) (text base : Text) (r : Result (Option Ty) E)
    → IsBehind text lists base → IfOk r (λ found. found
    ≡ (if nat_lt lists highest then option_map (lists_of lists) (base_of table structures base) else None))
    → IfOk r (IsTyped table structures text)
typed_by table structures lists text base (Ok found) behind is =
    record { lists = lists; base = base; behind = behind; found_is = is }
typed_by table structures lists text base (Err e) behind is = is

-- ---- words of types without parts

pub flat_is : (P : Text → Ty → Type 0) → P (codes "boolean") flat.Boolean → P (codes "integer") flat.Integer
    → P (codes "decimal") flat.Decimal → P (codes "money") flat.Money → P (codes "date") flat.Date
    → P (codes "duration") flat.Duration → (word : Text) (t : Ty) → flat_type word ≡ Some t → P word t
unfolding flat_type
flat_is P boolean integer decimal money date duration word t is = by _ _ _ _ _ _ refl refl refl refl refl refl is
  where
    met : (known : Text) (u : Ty) → P known u → bytes_eq word known ≡ true → Some u ≡ Some t → P word t
    met known u told same is =
        let named : known ≡ word = sym ((bytes_eq-Decides word known).0 same) in
        let typed : u ≡ t = cc is in
        subst (P word) typed (subst (λ (w : Text). P w u) named told)

    by : (a b c d e f : Bool) → bytes_eq word (codes "boolean") ≡ a → bytes_eq word (codes "integer") ≡ b
        → bytes_eq word (codes "decimal") ≡ c → bytes_eq word (codes "money") ≡ d
        → bytes_eq word (codes "date") ≡ e → bytes_eq word (codes "duration") ≡ f
        → (if a then Some flat.Boolean else (if b then Some flat.Integer else (if c then Some flat.Decimal else
        (if d then Some flat.Money else (if e then Some flat.Date else (if f then Some flat.Duration else None))))))
        ≡ Some t → P word t
    by true b c d e f p q r s u v is = met (codes "boolean") flat.Boolean boolean p is
    by false true c d e f p q r s u v is = met (codes "integer") flat.Integer integer q is
    by false false true d e f p q r s u v is = met (codes "decimal") flat.Decimal decimal r is
    by false false false true e f p q r s u v is = met (codes "money") flat.Money money s is
    by false false false false true f p q r s u v is = met (codes "date") flat.Date date u is
    by false false false false false true p q r s u v is = met (codes "duration") flat.Duration duration v is
    by false false false false false false p q r s u v is = absurd (cc is)
