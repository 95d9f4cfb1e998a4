-- The value of a type that has a point, and the point of a path.
use Rattle.std.proofs.Common.{◌≡◌, ℕ, zero, suc, ◌+◌, ◌<◌, ◌==◌, ◌&&◌, Bool, true, false, IsTrue, List, [], ◌∷◌}
use Rattle.std.proofs.Common.{Option, Some, None, slice_get, length, refl, sym, ap, ◌∙◌, subst, arith, true≢false}
use Rattle.std.proofs.Common.{nat_lt, if◌then◌else◌}
use Rattle.std.proofs.lemmas.Bool.Decides.{nat_tests}
use Rattle.std.specs.Cmp.Lexicographic.{pointwise}
use Rattle.cat_value.specs.declared.decls.Decls.{Decls}
use Rattle.cat_value.specs.declared.declaration.Case.{Case}
use Rattle.cat_value.specs.declared.declaration.Enumeration.{Enumeration}
use Rattle.cat_value.specs.declared.ty.Ty.{Ty}
use Rattle.cat_value.specs.declared.ty.Ty.TheOpen.{Ty-F}
use Rattle.cat_value.specs.declared.value.Value.{Value}
use Rattle.cat_value.specs.declared.value.Value.TheVariants as flat
use Rattle.cat_value.specs.declared.value.Value.TheViews as value
use Rattle.cat_value.specs.Defaults.{default_of}
use Rattle.cat_value.specs.Entries.{case_in, content_of}
use Rattle.cat_region.specs.declared.dim.Dim.{Dim}
use Rattle.cat_region.specs.declared.dim.Dim.TheVariants as dim
use Rattle.cat_region.specs.declared.point.Point.{Point}
use Rattle.cat_region.specs.declared.point.Point.TheVariants as point
use Rattle.cat_region.specs.Points.{is_point}
use Rattle.cat_region.specs.Regions.{Valuation}
use Rattle.cat_scope.specs.Fitting.{cases_in}
use Rattle.cat_guard.specs.declared.table.InputPath.{InputPath}
use Rattle.cat_guard.specs.declared.table.Term.{Term}
use Rattle.cat_guard.specs.PointValues.{dim_in, point_in, point_of}
use Rattle.cat_audit_sound.specs.PointInputs.{case_with, is_at, point_from, value_at}

abbrev pub or_this : {A : Type 0} → A → Option A → A
or_this a None = a
or_this a (Some b) = b

pub same_some : {A : Type 0} (a b : A) → Some a ≡ Some b → a ≡ b
same_some a b e = ap (or_this a) e

pub none_some : {A B : Type 0} (a : A) → None ≡ Some a → B
none_some a e = absurd (cc)

-- ---- values

-- a value of a type of that form in which cuts see a point
abbrev pub HasPoint : Decls → Ty-F Ty → Point → Type 0
HasPoint ds y x = (v : Value) × (value_at ds y x ≡ Some v) × (point_of v ≡ Some x)

case_there : (cases : List Case) (k : ℕ) → IsTrue (nat_lt k (length cases))
    → (c : Case) × (slice_get cases k ≡ Some c)
case_there [] k h = absurd (grind (arith, nat_tests))
case_there (c ∷ cases) zero h = (c, refl)
case_there (c ∷ cases) (suc k) h = case_there cases k (grind (arith, nat_tests))

content_there : (o : Option Enumeration) (k : ℕ) → IsTrue (nat_lt k (cases_in o))
    → (content : Option Ty) × (case_in k o ≡ Some content)
content_there None k h = absurd (grind (arith, nat_tests))
content_there (Some e) k h = let c = case_there e.cases k h in (c.0.content, rw c.1 refl)

case_pointed : (ds : Decls) (n k : ℕ) (content : Option Ty) → content_of ds n k ≡ Some content
    → HasPoint ds (Ty-F.Enumeration n) (point.Case k)
case_pointed ds n k None e =
    (value.Case k None, ap (case_with ds k) e, ap point_in (value.outs-Case k None))
case_pointed ds n k (Some t) e = (
  value.Case k (Some (default_of ds t)),
  ap (case_with ds k) e,
  ap point_in (value.outs-Case k (Some (default_of ds t))),
)

by_dim : (ds : Decls) (y : Ty-F Ty) (d : Dim) (x : Point) → dim_in ds y ≡ Some d → IsTrue (is_point d x)
    → HasPoint ds y x
by_dim ds Ty-F.Boolean d x e h = go x (subst (λ (c : Dim). IsTrue (is_point c x)) (sym (same_some dim.Truth d e)) h)
  where
    go : (x : Point) → IsTrue (is_point dim.Truth x) → HasPoint ds Ty-F.Boolean x
    go (point.Truth b) h = (flat.Boolean b, refl, ap point_in (value.outs-Boolean b))
    go _ h = absurd (true≢false (sym h))
by_dim ds Ty-F.Integer d x e h = go x (subst (λ (c : Dim). IsTrue (is_point c x)) (sym (same_some dim.Whole d e)) h)
  where
    go : (x : Point) → IsTrue (is_point dim.Whole x) → HasPoint ds Ty-F.Integer x
    go (point.Whole n) h = (flat.Integer n, refl, ap point_in (value.outs-Integer n))
    go _ h = absurd (true≢false (sym h))
by_dim ds Ty-F.Decimal d x e h = go x (subst (λ (c : Dim). IsTrue (is_point c x)) (sym (same_some dim.Decimal d e)) h)
  where
    go : (x : Point) → IsTrue (is_point dim.Decimal x) → HasPoint ds Ty-F.Decimal x
    go (point.Decimal f) h = (flat.Decimal f, refl, ap point_in (value.outs-Decimal f))
    go _ h = absurd (true≢false (sym h))
by_dim ds Ty-F.Money d x e h = go x (subst (λ (c : Dim). IsTrue (is_point c x)) (sym (same_some dim.Money d e)) h)
  where
    go : (x : Point) → IsTrue (is_point dim.Money x) → HasPoint ds Ty-F.Money x
    go (point.Money n) h = (flat.Money n, refl, ap point_in (value.outs-Money n))
    go _ h = absurd (true≢false (sym h))
by_dim ds Ty-F.Date d x e h = go x (subst (λ (c : Dim). IsTrue (is_point c x)) (sym (same_some dim.Day d e)) h)
  where
    go : (x : Point) → IsTrue (is_point dim.Day x) → HasPoint ds Ty-F.Date x
    go (point.Day day) h = (flat.Date day, refl, ap point_in (value.outs-Date day))
    go _ h = absurd (true≢false (sym h))
by_dim ds (Ty-F.Enumeration n) d x e h =
    go x (subst (λ (c : Dim). IsTrue (is_point c x))
    (sym (same_some (dim.Cases (cases_in (slice_get ds.enumerations n))) d e)) h)
  where
    go : (x : Point) → IsTrue (is_point (dim.Cases (cases_in (slice_get ds.enumerations n))) x)
        → HasPoint ds (Ty-F.Enumeration n) x
    go (point.Case k) h =
        let content = content_there (slice_get ds.enumerations n) k h in case_pointed ds n k content.0 content.1
    go _ h = absurd (true≢false (sym h))
by_dim ds Ty-F.Duration d x e h = none_some d e
by_dim ds (Ty-F.List t) d x e h = none_some d e
by_dim ds (Ty-F.Structure n) d x e h = none_some d e

-- a point of a type's dimension is that of a value
pub pointed : (ds : Decls) (y : Ty-F Ty) (d : Dim) (x : Point) → dim_in ds y ≡ Some d → IsTrue (is_point d x)
    → HasPoint ds y x
pointed = by_dim

-- ---- paths

numbers_same : (xs ys : List ℕ) → pointwise (λ a b. a == b) xs ys ≡ true → xs ≡ ys
numbers_same [] [] h = refl
numbers_same [] (y ∷ ys) h = absurd (true≢false (sym h))
numbers_same (x ∷ xs) [] h = absurd (true≢false (sym h))
numbers_same (x ∷ xs) (y ∷ ys) h =
    let two = both (x == y) (pointwise (λ a b. a == b) xs ys) h in
    ap (λ (n : ℕ). n ∷ xs) (one x y two.0) ∙ ap (λ (ns : List ℕ). y ∷ ns) (numbers_same xs ys two.1)
  where
    both : (a b : Bool) → (a && b) ≡ true → (a ≡ true) × (b ≡ true)
    both true true h = (refl, refl)
    both true false h = absurd (true≢false (sym h))
    both false b h = absurd (true≢false (sym h))

    one : (x y : ℕ) → (x == y) ≡ true → x ≡ y
    one x y h = grind (arith, nat_tests)

pub one_path : (p q : InputPath) → is_at p (Some q) ≡ true → q ≡ p
one_path p q h = by p.item q.item p.fields q.fields h
  where
    path : ℕ → List ℕ → InputPath
    path i ns = record { item = i; fields = ns }

    by : (i j : ℕ) (xs ys : List ℕ) → (j == i && pointwise (λ a b. a == b) ys xs) ≡ true → path j ys ≡ path i xs
    by i j xs ys h = ap (λ (n : ℕ). path n ys) (items (j == i) refl h)
        ∙ ap (path i) (numbers_same ys xs (rest (j == i) h))
      where
        items : (b : Bool) → (j == i) ≡ b → (b && pointwise (λ a b. a == b) ys xs) ≡ true → j ≡ i
        items true e h = grind (arith, nat_tests)
        items false e h = absurd (true≢false (sym h))

        rest : (b : Bool) → (b && pointwise (λ a b. a == b) ys xs) ≡ true
            → pointwise (λ a b. a == b) ys xs ≡ true
        rest true h = h
        rest false h = absurd (true≢false (sym h))

numbers_self : (xs : List ℕ) → pointwise (λ a b. a == b) xs xs ≡ true
numbers_self [] = refl
numbers_self (x ∷ xs) = rw (one x, numbers_self xs) refl
  where
    one : (x : ℕ) → (x == x) ≡ true
    one x = grind (arith, nat_tests)

path_self : (p : InputPath) → is_at p (Some p) ≡ true
path_self p = rw (one p.item, numbers_self p.fields) refl
  where
    one : (x : ℕ) → (x == x) ≡ true
    one x = grind (arith, nat_tests)

-- the first term with a path has its point
pub first_point : (v : Valuation) (n : ℕ) (terms : List Term) (i : ℕ) (term : Term) (p : InputPath)
    → slice_get terms i ≡ Some term → term.path ≡ Some p
    → ((j : ℕ) (u : Term) → j < i → slice_get terms j ≡ Some u → u.path ≡ Some p → ⊥)
    → point_from v n terms p ≡ Some (v (n + i))
first_point v n [] i term p at is first = none_some term at
first_point v n (t ∷ ts) zero term p at is first =
    let here : t.path ≡ Some p = ap (λ (u : Term). u.path) (same_some t term at) ∙ is in
    let yes_at : is_at p t.path ≡ true = ap (is_at p) here ∙ path_self p in
    let same : n ≡ n + 0 = omega arith in
    ap (λ b. if b then Some (v n) else point_from v (n + 1) ts p) yes_at ∙ ap (λ (m : ℕ). Some (v m)) same
first_point v n (t ∷ ts) (suc i) term p at is first =
    by (is_at p t.path) refl
    (first_point v (n + 1) ts i term p at is (λ j u below there has. first (suc j) u (omega (arith, below)) there has))
  where
    found : (o : Option InputPath) → t.path ≡ o → is_at p o ≡ true → ⊥
    found None e h = true≢false (sym h)
    found (Some q) e h = first 0 t (omega arith) refl (e ∙ ap Some (one_path p q h))

    by : (b : Bool) → is_at p t.path ≡ b → point_from v (n + 1) ts p ≡ Some (v (n + 1 + i))
        → (if b then Some (v n) else point_from v (n + 1) ts p) ≡ Some (v (n + suc i))
    by true e later = absurd (found t.path refl e)
    by false e later = let same : n + 1 + i ≡ n + suc i = omega arith in later ∙ ap (λ (m : ℕ). Some (v m)) same
