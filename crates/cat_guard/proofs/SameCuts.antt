-- Two dimensions, and two cuts, are one exactly where the test says so.
use Rattle.std.proofs.Common.{◌≡◌, ℕ, nat_eq, true, refl, ap, ◌∙◌, arith, ℤ}
use Rattle.std.specs.Ordering.{int_eq}
use Rattle.std.proofs.lemmas.Bool.Decides.{nat_tests, Decides-int_eq}
use Rattle.cat_region.specs.declared.dim.Dim.{Dim}
use Rattle.cat_region.specs.declared.dim.Dim.TheVariants as dim
use Rattle.cat_region.specs.declared.cut.Threshold.{Threshold}
use Rattle.cat_region.specs.declared.cut.Threshold.TheVariants as threshold
use Rattle.cat_region.specs.declared.cut.Cut.{Cut}
use Rattle.cat_region.specs.declared.cut.Cut.TheVariants as cut
use Rattle.cat_region.proofs.Exported.{and-both}
use Rattle.cat_guard.specs.Terms.{same_dim, same_threshold, same_cut}
use Rattle.cat_guard.proofs.TableLaws.{both_true}

-- ---- each is the same as itself

pub nat_self : (n : ℕ) → nat_eq n n ≡ true
nat_self n = grind (arith, nat_tests)

int_self : (n : ℤ) → int_eq n n ≡ true
int_self n = (Decides-int_eq n n).1 refl

pub dim_self : (d : Dim) → same_dim d d ≡ true
dim_self dim.Whole = refl
dim_self dim.Money = refl
dim_self dim.Day = refl
dim_self dim.Decimal = refl
dim_self dim.Truth = refl
dim_self (dim.Cases n) = nat_self n

threshold_self : (s : Threshold) → same_threshold s s ≡ true
threshold_self (threshold.Whole n) = int_self n
threshold_self (threshold.Money n) = int_self n
threshold_self (threshold.Day n) = int_self n
threshold_self (threshold.Decimal f) =
    and-both (int_eq f.num f.num) (nat_eq f.den f.den) (int_self f.num) (nat_self f.den)

pub cut_self : (c : Cut) → same_cut c c ≡ true
cut_self (cut.Below s) = threshold_self s
cut_self (cut.AtMost s) = threshold_self s
cut_self cut.IsTrue = refl
cut_self (cut.IsCase k) = nat_self k

-- ---- and what is the same is one

nat_same : (n m : ℕ) → nat_eq n m ≡ true → n ≡ m
nat_same n m h = grind (arith, nat_tests)

int_same : (n m : ℤ) → int_eq n m ≡ true → n ≡ m
int_same n m h = (Decides-int_eq n m).0 h

pub dim_same : (d e : Dim) → same_dim d e ≡ true → d ≡ e
dim_same dim.Whole dim.Whole h = refl
dim_same dim.Money dim.Money h = refl
dim_same dim.Day dim.Day h = refl
dim_same dim.Decimal dim.Decimal h = refl
dim_same dim.Truth dim.Truth h = refl
dim_same (dim.Cases n) (dim.Cases m) h = ap dim.Cases (nat_same n m h)
dim_same _ _ h = absurd (cc)

threshold_same : (s r : Threshold) → same_threshold s r ≡ true → s ≡ r
threshold_same (threshold.Whole n) (threshold.Whole m) h = ap threshold.Whole (int_same n m h)
threshold_same (threshold.Money n) (threshold.Money m) h = ap threshold.Money (int_same n m h)
threshold_same (threshold.Day n) (threshold.Day m) h = ap threshold.Day (int_same n m h)
threshold_same (threshold.Decimal f) (threshold.Decimal g) h =
    let two = both_true (int_eq f.num g.num) (nat_eq f.den g.den) h in
    ap (λ (n : ℤ). threshold.Decimal (record { num = n; den = f.den })) (int_same f.num g.num two.0)
    ∙ ap (λ (d : ℕ). threshold.Decimal (record { num = g.num; den = d })) (nat_same f.den g.den two.1)
threshold_same _ _ h = absurd (cc)

pub cut_same : (c d : Cut) → same_cut c d ≡ true → c ≡ d
cut_same (cut.Below s) (cut.Below r) h = ap cut.Below (threshold_same s r h)
cut_same (cut.AtMost s) (cut.AtMost r) h = ap cut.AtMost (threshold_same s r h)
cut_same cut.IsTrue cut.IsTrue h = refl
cut_same (cut.IsCase k) (cut.IsCase m) h = ap cut.IsCase (nat_same k m h)
cut_same _ _ h = absurd (cc)
