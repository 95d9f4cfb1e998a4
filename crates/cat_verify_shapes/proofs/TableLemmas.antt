-- What the numbers of a table may stand for.
use Rattle.std.proofs.Common.{◌≡◌, ◌⊎◌, ◌<◌, inl, inr, ℕ, zero, suc, ◌+◌, nat_eq, Bool, true, false, List}
use Rattle.std.proofs.Common.{[]}
use Rattle.std.proofs.Common.{◌∷◌, ◌++◌, length, Option, Some, None, slice_get, refl, sym, ap, ◌∙◌, subst, arith}
use Rattle.std.specs.Option.{option_map}
use Rattle.std.proofs.lemmas.Bool.{eqb-true, eq-eqb}
use Rattle.cat_value.specs.declared.decls.Decls.{Decls}
use Rattle.cat_scope.specs.Names.{IsOneOf}
use Rattle.cat_code.specs.Forms as code
use Rattle.cat_code.proofs.FormLaws.{same_is, same_self}
use Rattle.cat_verify_shapes.specs.declared.forms.Form.{Form}
use Rattle.cat_verify_shapes.specs.declared.forms.Form.TheVariants as form
use Rattle.cat_verify_shapes.specs.declared.forms.Forms.{Forms}
use Rattle.cat_verify_shapes.specs.inside.FormKinds.{Kind, One, Row, type_in, row_in, in_front, kind_of, AreKinds}
use Rattle.cat_verify_shapes.specs.inside.FormKinds.{empty, grown}
use Rattle.cat_verify_shapes.specs.inside.Senses.{Senses, IsOther, Means, AreSenses, AreTable}
use Rattle.cat_verify_shapes.proofs.ListLemmas.{none_some, some_is}

-- ---- lists that have grown

pub get_more : {A : Type 0} (xs ys : List A) (n : ℕ) (x : A) → slice_get xs n ≡ Some x → slice_get (xs ++ ys) n ≡ Some x
get_more [] ys n x e = absurd (none_some x e)
get_more (z ∷ xs) ys zero x e = e
get_more (z ∷ xs) ys (suc n) x e = get_more xs ys n x e

pub get_last : {A : Type 0} (xs : List A) (y : A) (n : ℕ) (x : A) → slice_get (xs ++ y ∷ []) n ≡ Some x
    → (slice_get xs n ≡ Some x) ⊎ ((n ≡ length xs) × (y ≡ x))
get_last [] y zero x e = inr (refl, some_is y x e)
get_last [] y (suc n) x e = absurd (none_some x e)
get_last (z ∷ xs) y zero x e = inl e
get_last (z ∷ xs) y (suc n) x e = next (get_last xs y n x e)
  where
    next : (slice_get xs n ≡ Some x) ⊎ ((n ≡ length xs) × (y ≡ x))
        → (slice_get xs n ≡ Some x) ⊎ ((suc n ≡ suc (length xs)) × (y ≡ x))
    next (inl h) = inl h
    next (inr h) = inr (ap suc h.0, h.1)

get_end : {A : Type 0} (xs : List A) (y : A) → slice_get (xs ++ y ∷ []) (length xs) ≡ Some y
get_end [] y = refl
get_end (z ∷ xs) y = get_end xs y

one_of_get : {A : Type 0} (xs : List A) (n : ℕ) (x : A) → slice_get xs n ≡ Some x → IsOneOf x xs
one_of_get [] n x e = absurd (none_some x e)
one_of_get (z ∷ xs) zero x e = inl (sym (some_is z x e))
one_of_get (z ∷ xs) (suc n) x e = inr (one_of_get xs n x e)

-- ---- kinds

more_of : (g : Option Kind → Option Kind) → g None ≡ None → (ks extra : List Kind) (m : ℕ) (k : Kind)
    → g (slice_get ks m) ≡ Some k → g (slice_get (ks ++ extra) m) ≡ Some k
more_of g none_is ks extra m k e = by_kind (slice_get ks m) refl
  where
    by_kind : (o : Option Kind) → slice_get ks m ≡ o → g (slice_get (ks ++ extra) m) ≡ Some k
    by_kind None at = absurd (none_some k (sym none_is ∙ ap g (sym at) ∙ e))
    by_kind (Some j) at = ap g (get_more ks extra m j at ∙ sym at) ∙ e

no_row : (o : Option code.Form) → in_front o None ≡ None
no_row None = refl
no_row (Some t) = refl

pub kind_more : (ks extra : List Kind) (f : Form) (k : Kind) → kind_of ks f ≡ Some k → kind_of (ks ++ extra) f ≡ Some k
kind_more ks extra form.Truth k e = e
kind_more ks extra form.Whole k e = e
kind_more ks extra form.Fraction k e = e
kind_more ks extra form.Amount k e = e
kind_more ks extra form.Day k e = e
kind_more ks extra form.Span k e = e
kind_more ks extra (form.Many m) k e =
    more_of (λ o. option_map (λ t. One (code.Many t)) (type_in o)) refl ks extra m k e
kind_more ks extra (form.Fields m) k e =
    more_of (λ o. option_map (λ ts. One (code.Fields ts)) (row_in o)) refl ks extra m k e
kind_more ks extra (form.OneOf n) k e = e
kind_more ks extra form.Last k e = e
kind_more ks extra (form.More n m) k e =
    more_of (λ o. in_front (type_in o) (row_in (slice_get (ks ++ extra) m))) refl ks extra n k
    (more_of (λ o. in_front (type_in (slice_get ks n)) (row_in o)) (no_row (type_in (slice_get ks n))) ks extra m k e)

pub kinds_long : {fs : List Form} {ks : List Kind} → AreKinds fs ks → length fs ≡ length ks
kinds_long empty = refl
kinds_long (grown fs ks f k are is apart) = snocs fs ks f k (kinds_long are)
  where
    snocs : (fs : List Form) (ks : List Kind) (f : Form) (k : Kind) → length fs ≡ length ks
        → length (fs ++ f ∷ []) ≡ length (ks ++ k ∷ [])
    snocs [] [] f k e = refl
    snocs [] (j ∷ ks) f k e = absurd (omega (arith, e))
    snocs (g ∷ fs) [] f k e = absurd (omega (arith, e))
    snocs (g ∷ fs) (j ∷ ks) f k e = ap suc (snocs fs ks f k (omega (arith, e)))

-- each entry stands for its kind
pub kind_at : {fs : List Form} {ks : List Kind} → AreKinds fs ks → (n : ℕ) (f : Form) → slice_get fs n ≡ Some f
    → (k : Kind) × (slice_get ks n ≡ Some k) × (kind_of ks f ≡ Some k)
kind_at empty n f e = absurd (none_some f e)
kind_at (grown fs ks g k are is apart) n f e = by_place (get_last fs g n f e) (kind_at are n f)
  where
    by_place : (slice_get fs n ≡ Some f) ⊎ ((n ≡ length fs) × (g ≡ f))
        → (slice_get fs n ≡ Some f → (j : Kind) × (slice_get ks n ≡ Some j) × (kind_of ks f ≡ Some j))
        → (j : Kind) × (slice_get (ks ++ k ∷ []) n ≡ Some j) × (kind_of (ks ++ k ∷ []) f ≡ Some j)
    by_place (inl at) before =
        let was = before at in
        (was.0, get_more ks (k ∷ []) n was.0 was.1, kind_more ks (k ∷ []) f was.0 was.2)
    by_place (inr here) before = (
      k,
      ap (slice_get (ks ++ k ∷ [])) (here.0 ∙ kinds_long are) ∙ get_end ks k,
      kind_more ks (k ∷ []) f k (ap (kind_of ks) (sym here.1) ∙ is),
    )

-- no kind stands there twice
pub kinds_apart : {fs : List Form} {ks : List Kind} → AreKinds fs ks → (n m : ℕ) (k : Kind) → slice_get ks n ≡ Some k
    → slice_get ks m ≡ Some k → n ≡ m
kinds_apart empty n m k e f = absurd (none_some k e)
kinds_apart (grown fs ks g j are is apart) n m k e f =
    by_places (get_last ks j n k e) (get_last ks j m k f) (kinds_apart are n m k)
  where
    by_places : (slice_get ks n ≡ Some k) ⊎ ((n ≡ length ks) × (j ≡ k))
        → (slice_get ks m ≡ Some k) ⊎ ((m ≡ length ks) × (j ≡ k))
        → (slice_get ks n ≡ Some k → slice_get ks m ≡ Some k → n ≡ m) → n ≡ m
    by_places (inl a) (inl b) before = before a b
    by_places (inl a) (inr b) before =
        absurd (apart (subst (λ (x : Kind). IsOneOf x ks) (sym b.1) (one_of_get ks n k a)))
    by_places (inr a) (inl b) before =
        absurd (apart (subst (λ (x : Kind). IsOneOf x ks) (sym a.1) (one_of_get ks m k b)))
    by_places (inr a) (inr b) before = a.0 ∙ sym b.0

-- ---- senses

-- more than the number of each enumeration
abbrev pub most : List Kind → ℕ
most [] = 0
most (One (code.OneOf e) ∷ ks) = e + 1 + most ks
most (_ ∷ ks) = most ks

below_most : (ks : List Kind) (n e : ℕ) → slice_get ks n ≡ Some (One (code.OneOf e)) → e < most ks
below_most [] n e is = absurd (none_some (One (code.OneOf e)) is)
below_most (k ∷ ks) zero e is =
    subst (λ (x : Kind). e < most (x ∷ ks)) (sym (some_is k (One (code.OneOf e)) is)) (omega arith)
below_most (k ∷ ks) (suc n) e is = rest k (below_most ks n e is)
  where
    rest : (k : Kind) → e < most ks → e < most (k ∷ ks)
    rest (One (code.OneOf f)) h = omega (arith, h)
    rest (One code.Truth) h = h
    rest (One code.Whole) h = h
    rest (One code.Fraction) h = h
    rest (One code.Amount) h = h
    rest (One code.Day) h = h
    rest (One code.Span) h = h
    rest (One (code.Many t)) h = h
    rest (One (code.Fields ts)) h = h
    rest (Row ts) h = h

abbrev pub one_at : ℕ → Option Kind → ℕ → code.Form
one_at b (Some (One t)) n = t
one_at b (Some (Row ts)) n = code.OneOf (b + n)
one_at b None n = code.OneOf (b + n)

abbrev row_at : Option Kind → code.Forms
row_at (Some (One t)) = code.Last
row_at (Some (Row ts)) = ts
row_at None = code.Last

abbrev pub senses_of : List Kind → Senses
senses_of ks = record { one = λ n. one_at (most ks) (slice_get ks n) n; row = λ n. row_at (slice_get ks n) }

unfoldable pub enumeration_of : code.Form → ℕ
enumeration_of (code.OneOf n) = n
enumeration_of _ = 0

bools : (a b : Bool) → (a ≡ true → b ≡ true) → (b ≡ true → a ≡ true) → a ≡ b
bools true b f g = sym (f refl)
bools false true f g = g refl
bools false false f g = refl

module _ {fs : List Form} {ks : List Kind} (are : AreKinds fs ks) where
  same_number : (n m : ℕ) → (senses_of ks).one n ≡ (senses_of ks).one m → n ≡ m
  unfolding enumeration_of
  same_number n m e = by_kinds (slice_get ks n) (slice_get ks m) refl refl e
    where
      fresh : (k j : ℕ) (t : code.Form) → slice_get ks k ≡ Some (One t) → t ≡ code.OneOf (most ks + j) → ⊥
      fresh k j t at is =
          absurd (omega (arith, below_most ks k (most ks + j) (at ∙ ap (λ (u : code.Form). Some (One u)) is)))

      plain : code.OneOf (most ks + n) ≡ code.OneOf (most ks + m) → n ≡ m
      plain h = let same : most ks + n ≡ most ks + m = ap enumeration_of h in omega (arith, same)

      by_kinds : (o u : Option Kind) → slice_get ks n ≡ o → slice_get ks m ≡ u
          → one_at (most ks) o n ≡ one_at (most ks) u m → n ≡ m
      by_kinds (Some (One t)) (Some (One u)) at of h =
          kinds_apart are n m (One t) at (of ∙ ap (λ (v : code.Form). Some (One v)) (sym h))
      by_kinds (Some (One t)) (Some (Row us)) at of h = absurd (fresh n m t at h)
      by_kinds (Some (One t)) None at of h = absurd (fresh n m t at h)
      by_kinds (Some (Row ts)) (Some (One u)) at of h = absurd (fresh m n u of (sym h))
      by_kinds None (Some (One u)) at of h = absurd (fresh m n u of (sym h))
      by_kinds (Some (Row ts)) (Some (Row us)) at of h = plain h
      by_kinds (Some (Row ts)) None at of h = plain h
      by_kinds None (Some (Row us)) at of h = plain h
      by_kinds None None at of h = plain h

  apart_all : (n m : ℕ) → code.same_form ((senses_of ks).one n) ((senses_of ks).one m) ≡ nat_eq n m
  apart_all n m =
      bools (code.same_form ((senses_of ks).one n) ((senses_of ks).one m)) (nat_eq n m)
      (λ e. eq-eqb n m (same_number n m (same_is ((senses_of ks).one n) ((senses_of ks).one m) e)))
      (λ e. subst (λ (k : ℕ). code.same_form ((senses_of ks).one n) ((senses_of ks).one k) ≡ true) (eqb-true n m e)
      (same_self ((senses_of ks).one n)))

  one_is : (n : ℕ) (t : code.Form) → slice_get ks n ≡ Some (One t) → (senses_of ks).one n ≡ t
  one_is n t e = ap (λ (o : Option Kind). one_at (most ks) o n) e

  row_is : (n : ℕ) (ts : code.Forms) → slice_get ks n ≡ Some (Row ts) → (senses_of ks).row n ≡ ts
  row_is n ts e = ap row_at e

  other : (n : ℕ) (ts : code.Forms) → slice_get ks n ≡ Some (Row ts) → IsOther ((senses_of ks).one n)
  other n ts e = (most ks + n, ap (λ (o : Option Kind). one_at (most ks) o n) e)

  means_kind : (n : ℕ) (f : Form) (k : Kind) → slice_get ks n ≡ Some k → kind_of ks f ≡ Some k
      → Means (senses_of ks) n f
  means_kind n form.Truth k at is = one_is n code.Truth (at ∙ sym is)
  means_kind n form.Whole k at is = one_is n code.Whole (at ∙ sym is)
  means_kind n form.Fraction k at is = one_is n code.Fraction (at ∙ sym is)
  means_kind n form.Amount k at is = one_is n code.Amount (at ∙ sym is)
  means_kind n form.Day k at is = one_is n code.Day (at ∙ sym is)
  means_kind n form.Span k at is = one_is n code.Span (at ∙ sym is)
  means_kind n (form.OneOf e) k at is = one_is n (code.OneOf e) (at ∙ sym is)
  means_kind n form.Last k at is = (row_is n code.Last (at ∙ sym is), other n code.Last (at ∙ sym is))
  means_kind n (form.Many m) k at is = by_kind (slice_get ks m) refl is
    where
      by_kind : (o : Option Kind) → slice_get ks m ≡ o → option_map (λ t. One (code.Many t)) (type_in o) ≡ Some k
          → (senses_of ks).one n ≡ code.Many ((senses_of ks).one m)
      by_kind None of e = absurd (none_some k e)
      by_kind (Some (Row ts)) of e = absurd (none_some k e)
      by_kind (Some (One t)) of e = one_is n (code.Many t) (at ∙ sym e) ∙ ap code.Many (sym (one_is m t of))
  means_kind n (form.Fields m) k at is = by_kind (slice_get ks m) refl is
    where
      by_kind : (o : Option Kind) → slice_get ks m ≡ o → option_map (λ ts. One (code.Fields ts)) (row_in o) ≡ Some k
          → (senses_of ks).one n ≡ code.Fields ((senses_of ks).row m)
      by_kind None of e = absurd (none_some k e)
      by_kind (Some (One t)) of e = absurd (none_some k e)
      by_kind (Some (Row ts)) of e = one_is n (code.Fields ts) (at ∙ sym e) ∙ ap code.Fields (sym (row_is m ts of))
  means_kind n (form.More l m) k at is = by_kinds (slice_get ks l) (slice_get ks m) refl refl is
    where
      by_kinds : (o u : Option Kind) → slice_get ks l ≡ o → slice_get ks m ≡ u
          → in_front (type_in o) (row_in u) ≡ Some k
          → ((senses_of ks).row n ≡ code.More ((senses_of ks).one l) ((senses_of ks).row m))
          × IsOther ((senses_of ks).one n)
      by_kinds None u of at_m e = absurd (none_some k e)
      by_kinds (Some (Row ts)) u of at_m e = absurd (none_some k e)
      by_kinds (Some (One t)) None of at_m e = absurd (none_some k e)
      by_kinds (Some (One t)) (Some (One v)) of at_m e = absurd (none_some k e)
      by_kinds (Some (One t)) (Some (Row ts)) of at_m e = (
        row_is n (code.More t ts) (at ∙ sym e)
            ∙ ap (λ (v : code.Form). code.More v ts) (sym (one_is l t of))
            ∙ ap (code.More ((senses_of ks).one l)) (sym (row_is m ts at_m)),
        other n (code.More t ts) (at ∙ sym e),
      )

-- the numbers of each table stand for something
pub senses_exist : (ds : Decls) (forms : Forms) (ks : List Kind) → AreTable ds forms ks
    → AreSenses ds forms (senses_of ks)
senses_exist ds forms ks table = record {
  apart = apart_all table.kinds;
  means = means;
  structures = λ s n e. one_is table.kinds n _ (table.structures s n e);
  outputs = λ s n e. one_is table.kinds n _ (table.outputs s n e);
}
  where
    means : (n : ℕ) (f : Form) → slice_get forms.kinds.keys n ≡ Some f → Means (senses_of ks) n f
    means n f e = let kind = kind_at table.kinds n f e in means_kind table.kinds n f kind.0 kind.1 kind.2
