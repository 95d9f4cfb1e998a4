-- The equations of the words on types and values, one a variant.
use Rattle.std.proofs.Common.{◌≡◌, ℕ, ℤ, Bool, true, false, ◌&&◌, List, [], ◌∷◌, map, suc, length, ◌≢◌, Option, None}
use Rattle.std.proofs.Common.{Some, nat_lt, nat_le, rules, refl, ap, ◌∙◌}
use Rattle.std.specs.List.{list_all}
use Rattle.std.specs.Cmp.Lexicographic.{pointwise}
use Rattle.std.specs.Option.{option_map}
use Rattle.std.proofs.lemmas.List.{length-map}
use Rattle.cat_num.specs.Frac.{Fraction}
use Rattle.cat_date.specs.Span.{SpanOf}
use Rattle.cat_value.specs.declared.ty.Ty.{Ty}
use Rattle.cat_value.specs.declared.ty.Ty.TheOpen.{Ty-F}
use Rattle.cat_value.specs.declared.ty.Ty.TheFolds.{fold_out-Ty}
use Rattle.cat_value.specs.declared.ty.Ty.TheVariants as flat_ty
use Rattle.cat_value.specs.declared.ty.Ty.TheViews as ty
use Rattle.cat_value.specs.declared.ty.Ty.TheViews.{out-Ty}
use Rattle.cat_value.specs.declared.value.Value.{Value}
use Rattle.cat_value.specs.declared.value.Value.TheOpen.{Value-F}
use Rattle.cat_value.specs.declared.value.Value.TheFolds.{fold_out-Value, map-Value}
use Rattle.cat_value.specs.declared.value.Value.TheVariants as flat
use Rattle.cat_value.specs.declared.value.Value.TheViews as value
use Rattle.cat_value.specs.declared.declaration.Field.{Field}
use Rattle.cat_value.specs.declared.declaration.Structure.{Structure}
use Rattle.cat_value.specs.declared.declaration.Enumeration.{Enumeration}
use Rattle.cat_value.specs.declared.decls.Decls.{Decls}
use Rattle.cat_value.specs.Declarations.{is_declared, is_boolean, names_entry}
use Rattle.cat_value.specs.Typing.{has_type, value_typed, level_typed, list_typed, is_type, most_elements}
use Rattle.cat_value.specs.Typing.{all_have_type, elements_typed, fields_have_types, content_has_type, is_structure}
use Rattle.cat_value.specs.Typing.{is_case, part_typed, structure_typed, case_typed}
use Rattle.cat_value.specs.Entries.{some_passes, fields_of, content_of}
use Rattle.cat_value.specs.Flat.{integer_typed, decimal_typed, money_typed, date_typed, duration_typed}

pub is_declared_Boolean : (ss : List Structure) (es : List Enumeration) → is_declared ss es flat_ty.Boolean ≡ true
unfolding is_declared
is_declared_Boolean ss es = search (rules, ty.the_lemmas, fold_out-Ty Bool (names_entry ss es))

pub is_declared_Integer : (ss : List Structure) (es : List Enumeration) → is_declared ss es flat_ty.Integer ≡ true
unfolding is_declared
is_declared_Integer ss es = search (rules, ty.the_lemmas, fold_out-Ty Bool (names_entry ss es))

pub is_declared_Decimal : (ss : List Structure) (es : List Enumeration) → is_declared ss es flat_ty.Decimal ≡ true
unfolding is_declared
is_declared_Decimal ss es = search (rules, ty.the_lemmas, fold_out-Ty Bool (names_entry ss es))

pub is_declared_Money : (ss : List Structure) (es : List Enumeration) → is_declared ss es flat_ty.Money ≡ true
unfolding is_declared
is_declared_Money ss es = search (rules, ty.the_lemmas, fold_out-Ty Bool (names_entry ss es))

pub is_declared_Date : (ss : List Structure) (es : List Enumeration) → is_declared ss es flat_ty.Date ≡ true
unfolding is_declared
is_declared_Date ss es = search (rules, ty.the_lemmas, fold_out-Ty Bool (names_entry ss es))

pub is_declared_Duration : (ss : List Structure) (es : List Enumeration) → is_declared ss es flat_ty.Duration ≡ true
unfolding is_declared
is_declared_Duration ss es = search (rules, ty.the_lemmas, fold_out-Ty Bool (names_entry ss es))

pub is_declared_List : (ss : List Structure) (es : List Enumeration) (t : Ty)
    → is_declared ss es (ty.List t) ≡ is_declared ss es t
unfolding is_declared
is_declared_List ss es t = search (rules, ty.the_lemmas, fold_out-Ty Bool (names_entry ss es))

pub is_declared_Structure : (ss : List Structure) (es : List Enumeration) (n : ℕ)
    → is_declared ss es (flat_ty.Structure n) ≡ nat_lt n (length ss)
unfolding is_declared
is_declared_Structure ss es n = search (rules, ty.the_lemmas, fold_out-Ty Bool (names_entry ss es))

pub is_declared_Enumeration : (ss : List Structure) (es : List Enumeration) (n : ℕ)
    → is_declared ss es (flat_ty.Enumeration n) ≡ nat_lt n (length es)
unfolding is_declared
is_declared_Enumeration ss es n = search (rules, ty.the_lemmas, fold_out-Ty Bool (names_entry ss es))

all_is : (ds : Decls) (vs : List Value) (t : Ty)
    → list_all (λ part. part t) (map (has_type ds) vs) ≡ all_have_type ds vs t
all_is ds [] t = refl
all_is ds (v ∷ vs) t = ap (λ rest. has_type ds v t && rest) (all_is ds vs t)

fields_are : (ds : Decls) (vs : List Value) (fs : List Field)
    → pointwise (λ part f. part f.ty) (map (has_type ds) vs) fs ≡ fields_have_types ds vs fs
fields_are ds [] [] = refl
fields_are ds [] (f ∷ fs) = refl
fields_are ds (v ∷ vs) [] = refl
fields_are ds (v ∷ vs) (f ∷ fs) = ap (λ rest. has_type ds v f.ty && rest) (fields_are ds vs fs)

contents_are : (ds : Decls) (content : Option Value) (wanted : Option Ty)
    → part_typed (option_map (has_type ds) content) wanted ≡ content_has_type ds content wanted
contents_are ds None None = refl
contents_are ds None (Some t) = refl
contents_are ds (Some v) None = refl
contents_are ds (Some v) (Some t) = refl

passes_same : {A : Type 0} (p q : A → Bool) (x : Option A) → ((a : A) → p a ≡ q a) → some_passes p x ≡ some_passes q x
passes_same p q None same = refl
passes_same p q (Some a) same = same a

pub structure_is : (ds : Decls) (vs : List Value) (n : ℕ)
    → structure_typed ds (map (has_type ds) vs) (Ty-F.Structure n) ≡ is_structure ds n vs
structure_is ds vs n = passes_same _ _ (fields_of ds n) (fields_are ds vs)

pub case_is : (ds : Decls) (k : ℕ) (content : Option Value) (n : ℕ)
    → case_typed ds k (option_map (has_type ds) content) (Ty-F.Enumeration n) ≡ is_case ds n k content
case_is ds k content n = passes_same _ _ (content_of ds n k) (contents_are ds content)

pub list_is : (ds : Decls) (vs : List Value) (t : Ty)
    → list_typed ds (map (has_type ds) vs) (Ty-F.List t) ≡ elements_typed ds vs t
list_is ds vs t =
    rw (length-map vs (has_type ds))
    (ap (λ rest. is_type ds t && nat_le (length vs) most_elements && rest) (all_is ds vs t))

-- a test by the levels of value and type
abbrev pub tested : Decls → Value-F Value → Ty-F Ty → Bool
tested ds v t = level_typed ds (map-Value Value (Ty → Bool) (has_type ds) v) t

pub has_type-levels : (ds : Decls) (v : Value) (t : Ty) → has_type ds v t ≡ tested ds (value.out-Value v) (out-Ty t)
unfolding has_type
has_type-levels ds v t = ap (λ (test : Ty → Bool). test t) (fold_out-Value (Ty → Bool) (value_typed ds) v)

pub tested_Case : (ds : Decls) (k : ℕ) (content : Option Value) (t : Ty-F Ty)
    → tested ds (Value-F.Case k content) t ≡ case_typed ds k (option_map (has_type ds) content) t
tested_Case ds k None t = refl
tested_Case ds k (Some v) t = refl

pub has_type_Boolean : (ds : Decls) (b : Bool) (t : Ty) → has_type ds (flat.Boolean b) t ≡ is_boolean (out-Ty t)
has_type_Boolean ds b t = rw (has_type-levels ds (flat.Boolean b) t, value.outs-Boolean b) refl

pub has_type_Integer : (ds : Decls) (n : ℤ) (t : Ty) → has_type ds (flat.Integer n) t ≡ integer_typed n (out-Ty t)
has_type_Integer ds n t = rw (has_type-levels ds (flat.Integer n) t, value.outs-Integer n) refl

pub has_type_Decimal : (ds : Decls) (f : Fraction) (t : Ty)
    → has_type ds (flat.Decimal f) t ≡ decimal_typed f (out-Ty t)
has_type_Decimal ds f t = rw (has_type-levels ds (flat.Decimal f) t, value.outs-Decimal f) refl

pub has_type_Money : (ds : Decls) (n : ℤ) (t : Ty) → has_type ds (flat.Money n) t ≡ money_typed n (out-Ty t)
has_type_Money ds n t = rw (has_type-levels ds (flat.Money n) t, value.outs-Money n) refl

pub has_type_Date : (ds : Decls) (day : ℤ) (t : Ty) → has_type ds (flat.Date day) t ≡ date_typed day (out-Ty t)
has_type_Date ds day t = rw (has_type-levels ds (flat.Date day) t, value.outs-Date day) refl

pub has_type_Duration : (ds : Decls) (span : SpanOf) (t : Ty)
    → has_type ds (flat.Duration span) t ≡ duration_typed span (out-Ty t)
has_type_Duration ds span t = rw (has_type-levels ds (flat.Duration span) t, value.outs-Duration span) refl

pub has_type_List : (ds : Decls) (vs : List Value) (t : Ty)
    → has_type ds (value.List vs) (ty.List t) ≡ elements_typed ds vs t
has_type_List ds vs t =
    rw (has_type-levels ds (value.List vs) (ty.List t), value.outs-List vs, ty.outs-List t) (list_is ds vs t)

pub has_type_Structure : (ds : Decls) (vs : List Value) (n : ℕ)
    → has_type ds (value.Structure vs) (flat_ty.Structure n) ≡ is_structure ds n vs
has_type_Structure ds vs n =
    rw (has_type-levels ds (value.Structure vs) (flat_ty.Structure n), value.outs-Structure vs, ty.outs-Structure n)
    (structure_is ds vs n)

pub has_type_Case : (ds : Decls) (k : ℕ) (content : Option Value) (n : ℕ)
    → has_type ds (value.Case k content) (flat_ty.Enumeration n) ≡ is_case ds n k content
has_type_Case ds k content n =
    rw (
      has_type-levels ds (value.Case k content)
          (flat_ty.Enumeration n),
      value.outs-Case k content,
      ty.outs-Enumeration n,
    )
    (tested_Case ds k content (Ty-F.Enumeration n) ∙ case_is ds k content n)

pub fields_have_types-length : (ds : Decls) (vs : List Value) (fs : List Field) → length vs ≢ length fs
    → fields_have_types ds vs fs ≡ false
fields_have_types-length ds [] [] h = absurd (h refl)
fields_have_types-length ds [] (f ∷ fs) h = refl
fields_have_types-length ds (v ∷ vs) [] h = refl
fields_have_types-length ds (v ∷ vs) (f ∷ fs) h =
    rw (fields_have_types-length ds vs fs (λ e. h (ap suc e))) (and_false (has_type ds v f.ty))
  where
    and_false : (b : Bool) → (b && false) ≡ false
    and_false true = refl
    and_false false = refl

pub ruleset declared = (
  is_declared_Boolean,
  is_declared_Integer,
  is_declared_Decimal,
  is_declared_Money,
  is_declared_Date,
  is_declared_Duration,
  is_declared_List,
  is_declared_Structure,
  is_declared_Enumeration,
)

pub ruleset typing = (
  has_type_Boolean,
  has_type_Integer,
  has_type_Decimal,
  has_type_Money,
  has_type_Date,
  has_type_Duration,
  has_type_List,
  has_type_Structure,
  has_type_Case,
)
