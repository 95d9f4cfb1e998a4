-- What holds of the parts of a type that is at most so high.
use Rattle.std.proofs.Common.{◌≡◌, ℕ, zero, suc, ◌+◌, ◌-◌, ◌<◌, ◌≤◌, length, Bool, IsTrue, List, [], ◌∷◌, Some}
use Rattle.std.proofs.Common.{slice_get, rules, arith, refl, sub-one, subst, ap, sym}
use Rattle.std.specs.List.{list_all}
use borrow.Author.Count.{below_more}
use Rattle.cat_value.specs.declared.ty.Ty.{Ty}
use Rattle.cat_value.specs.declared.ty.Ty.TheOpen.{Ty-F}
use Rattle.cat_value.specs.declared.ty.Ty.TheVariants as flat_ty
use Rattle.cat_value.specs.declared.ty.Ty.TheViews as ty
use Rattle.cat_value.specs.declared.declaration.Structure.{Structure}
use Rattle.cat_value.specs.declared.declaration.Case.{Case}
use Rattle.cat_value.specs.declared.declaration.Enumeration.{Enumeration}
use Rattle.cat_value.specs.declared.declaration.Scope.{Scope}
use Rattle.cat_value.specs.declared.decls.Decls.{Decls}
use Rattle.cat_value.specs.Heights.{height_to, highest_field, highest_content, highest_part}
use Rattle.cat_value.specs.Declarations.{highest, are_sound, all_below, structure_is_sound, enumeration_is_sound}
use Rattle.cat_value.specs.Declarations.{structure_is_low, enumeration_is_low, field_is_sound, case_is_sound}
use Rattle.cat_value.specs.Typing.{is_type}
use Rattle.cat_value.proofs.Equations.{is_declared_Structure, is_declared_Enumeration}

pub height_positive : (ss : List Structure) (es : List Enumeration) (k : ℕ) (t : Ty) → 0 < height_to ss es k t
unfolding height_to
height_positive ss es zero t = omega arith
height_positive ss es (suc k) t = omega arith

-- the height of each form of type
pub height_Boolean : (ss : List Structure) (es : List Enumeration) (k : ℕ) → height_to ss es (suc k) flat_ty.Boolean ≡ 1
unfolding height_to
height_Boolean ss es k = search (rules, ty.the_lemmas)

pub height_Integer : (ss : List Structure) (es : List Enumeration) (k : ℕ) → height_to ss es (suc k) flat_ty.Integer ≡ 1
unfolding height_to
height_Integer ss es k = search (rules, ty.the_lemmas)

pub height_Decimal : (ss : List Structure) (es : List Enumeration) (k : ℕ) → height_to ss es (suc k) flat_ty.Decimal ≡ 1
unfolding height_to
height_Decimal ss es k = search (rules, ty.the_lemmas)

pub height_Money : (ss : List Structure) (es : List Enumeration) (k : ℕ) → height_to ss es (suc k) flat_ty.Money ≡ 1
unfolding height_to
height_Money ss es k = search (rules, ty.the_lemmas)

pub height_Date : (ss : List Structure) (es : List Enumeration) (k : ℕ) → height_to ss es (suc k) flat_ty.Date ≡ 1
unfolding height_to
height_Date ss es k = search (rules, ty.the_lemmas)

pub height_Duration : (ss : List Structure) (es : List Enumeration) (k : ℕ) → height_to ss es (suc k) flat_ty.Duration
    ≡ 1
unfolding height_to
height_Duration ss es k = search (rules, ty.the_lemmas)

pub height_List : (ss : List Structure) (es : List Enumeration) (k : ℕ) (t : Ty) → height_to ss es (suc k) (ty.List t)
    ≡ 1 + height_to ss es k t
unfolding height_to
height_List ss es k t = search (rules, ty.the_lemmas)

pub height_Structure : (ss : List Structure) (es : List Enumeration) (k n : ℕ) (s : Structure) → slice_get ss n ≡ Some s
    → height_to ss es (suc k) (flat_ty.Structure n) ≡ 1 + highest_field (height_to ss es k) s.fields
unfolding height_to
height_Structure ss es k n s e = search (rules, ty.the_lemmas)

pub height_Enumeration : (ss : List Structure) (es : List Enumeration) (k n : ℕ) (d : Enumeration)
    → slice_get es n ≡ Some d
    → height_to ss es (suc k) (flat_ty.Enumeration n) ≡ 1 + highest_content (height_to ss es k) d.cases
unfolding height_to
height_Enumeration ss es k n d e = search (rules, ty.the_lemmas)

-- their parts are lower
pub fields_lower : (ss : List Structure) (es : List Enumeration) (k n : ℕ) (s : Structure)
    → height_to ss es k (flat_ty.Structure n) ≤ k → slice_get ss n ≡ Some s
    → highest_field (height_to ss es (k - 1)) s.fields ≤ k - 1
fields_lower ss es zero n s h e = absurd (omega (arith, height_positive ss es zero (flat_ty.Structure n)))
fields_lower ss es (suc k) n s h e = rw sub-one (omega (arith, height_Structure ss es k n s e))

pub contents_lower : (ss : List Structure) (es : List Enumeration) (k n : ℕ) (d : Enumeration)
    → height_to ss es k (flat_ty.Enumeration n) ≤ k → slice_get es n ≡ Some d
    → highest_content (height_to ss es (k - 1)) d.cases ≤ k - 1
contents_lower ss es zero n d h e = absurd (omega (arith, height_positive ss es zero (flat_ty.Enumeration n)))
contents_lower ss es (suc k) n d h e = rw sub-one (omega (arith, height_Enumeration ss es k n d e))

first_content : (height : Ty → ℕ) (cs : List Case) (c : Case) (t : Ty) → slice_get cs 0 ≡ Some c → c.content ≡ Some t
    → height t ≤ highest_content height cs
first_content height [] c t e f = grind arith
first_content height (b ∷ cs) c t e f = grind arith

pub content_lower : (ss : List Structure) (es : List Enumeration) (k n : ℕ) (d : Enumeration) (c : Case) (t : Ty)
    → height_to ss es k (flat_ty.Enumeration n) ≤ k
    → slice_get es n ≡ Some d → slice_get d.cases 0 ≡ Some c → c.content ≡ Some t → height_to ss es (k - 1) t ≤ k - 1
content_lower ss es k n d c t h e f g =
    omega (arith, contents_lower ss es k n d h e, first_content (height_to ss es (k - 1)) d.cases c t f g)

-- what holds of all holds of each
pub list_all_at : {A : Type 0} (test : A → Bool) (xs : List A) (n : ℕ) (x : A) → IsTrue (list_all test xs)
    → slice_get xs n ≡ Some x → IsTrue (test x)
list_all_at test [] n x h e = grind arith
list_all_at test (y ∷ ys) zero x h e = grind arith
list_all_at test (y ∷ ys) (suc n) x h e = list_all_at test ys n x (grind arith) (grind arith)

pub found : {A : Type 0} (xs : List A) (n : ℕ) → n < length xs → (x : A) × (slice_get xs n ≡ Some x)
found [] n l = absurd (omega arith)
found (x ∷ xs) zero l = (x, refl)
found (x ∷ xs) (suc n) l = found xs n (omega arith)

pub within : {A : Type 0} (xs : List A) (n : ℕ) (x : A) → slice_get xs n ≡ Some x → n < length xs
within [] n x e = grind arith
within (y ∷ ys) zero x e = omega arith
within (y ∷ ys) (suc n) x e = let rest = within ys n x e in omega arith

pub all_below_at : (test : ℕ → Bool) (k n : ℕ) → IsTrue (all_below test k) → n < k → IsTrue (test n)
all_below_at test zero n h l = absurd (omega arith)
all_below_at test (suc k) n h l = below_more (λ m. IsTrue (test m)) k
    (λ m below. all_below_at test k m (grind arith) below) (grind arith) n (omega arith)

-- what the invariant of the declarations says
pub structures_sound : (ss : List Structure) (es : List Enumeration) (scopes : List Scope)
    → IsTrue (are_sound ss es scopes) → IsTrue (list_all (structure_is_sound ss es) ss)
unfolding are_sound
structures_sound ss es scopes h = grind arith

pub enumerations_sound : (ss : List Structure) (es : List Enumeration) (scopes : List Scope)
    → IsTrue (are_sound ss es scopes) → IsTrue (list_all (enumeration_is_sound ss es) es)
unfolding are_sound
enumerations_sound ss es scopes h = grind arith

pub structures_low : (ss : List Structure) (es : List Enumeration) (scopes : List Scope)
    → IsTrue (are_sound ss es scopes) → IsTrue (all_below (structure_is_low ss es) (length ss))
unfolding are_sound
structures_low ss es scopes h = grind arith

pub enumerations_low : (ss : List Structure) (es : List Enumeration) (scopes : List Scope)
    → IsTrue (are_sound ss es scopes) → IsTrue (all_below (enumeration_is_low ss es) (length es))
unfolding are_sound
enumerations_low ss es scopes h = grind arith

pub structure_sound : (ds : Decls) (n : ℕ) (s : Structure) → slice_get ds.structures n ≡ Some s
    → IsTrue (structure_is_sound ds.structures ds.enumerations s)
structure_sound ds n s e =
    list_all_at _ ds.structures n s (structures_sound ds.structures ds.enumerations ds.scopes ds.sound) e

pub enumeration_sound : (ds : Decls) (n : ℕ) (d : Enumeration) → slice_get ds.enumerations n ≡ Some d
    → IsTrue (enumeration_is_sound ds.structures ds.enumerations d)
enumeration_sound ds n d e =
    list_all_at _ ds.enumerations n d (enumerations_sound ds.structures ds.enumerations ds.scopes ds.sound) e

pub fields_declared : (ds : Decls) (n : ℕ) (s : Structure) → slice_get ds.structures n ≡ Some s
    → IsTrue (list_all (field_is_sound ds.structures ds.enumerations) s.fields)
fields_declared ds n s e = let h = structure_sound ds n s e in grind arith

pub has_cases : (ds : Decls) (n : ℕ) (d : Enumeration) → slice_get ds.enumerations n ≡ Some d → 0 < length d.cases
has_cases ds n d e = let h = enumeration_sound ds n d e in grind arith

cases_declared : (ds : Decls) (n : ℕ) (d : Enumeration) → slice_get ds.enumerations n ≡ Some d
    → IsTrue (list_all (case_is_sound ds.structures ds.enumerations) d.cases)
cases_declared ds n d e = let h = enumeration_sound ds n d e in grind arith

pub content_declared : (ds : Decls) (n k : ℕ) (d : Enumeration) (c : Case) (t : Ty) → slice_get ds.enumerations n ≡ Some
    d → slice_get d.cases k ≡ Some c → c.content ≡ Some t → IsTrue (is_type ds t)
content_declared ds n k d c t e f g = let h = list_all_at _ d.cases k c (cases_declared ds n d e) f in grind arith

-- a declared structure and a declared enumeration are there, and are at most 64 high
pub structure_there : (ds : Decls) (n : ℕ) → IsTrue (is_type ds (flat_ty.Structure n)) → n < length ds.structures
structure_there ds n h = let e = is_declared_Structure ds.structures ds.enumerations n in grind arith

pub enumeration_there : (ds : Decls) (n : ℕ) → IsTrue (is_type ds (flat_ty.Enumeration n)) → n < length ds.enumerations
enumeration_there ds n h = let e = is_declared_Enumeration ds.structures ds.enumerations n in grind arith

pub structure_low : (ds : Decls) (n : ℕ) → n < length ds.structures → height_to ds.structures ds.enumerations highest
    (flat_ty.Structure n) ≤ highest
structure_low ds n l = let h = all_below_at (structure_is_low ds.structures ds.enumerations) (length ds.structures) n
    (structures_low ds.structures ds.enumerations ds.scopes ds.sound) l in grind arith

pub enumeration_low : (ds : Decls) (n : ℕ) → n < length ds.enumerations → height_to ds.structures ds.enumerations
    highest (flat_ty.Enumeration n) ≤ highest
enumeration_low ds n l = let h = all_below_at (enumeration_is_low ds.structures ds.enumerations)
    (length ds.enumerations) n (enumerations_low ds.structures ds.enumerations ds.scopes ds.sound) l in grind arith

-- the height of a type by its level
height_roll : (ss : List Structure) (es : List Enumeration) (k : ℕ) (y : Ty-F Ty) → height_to ss es (suc k)
    (ty.roll-Ty y) ≡ 1 + highest_part ss es (height_to ss es k) y
unfolding height_to
height_roll ss es k y = ap (λ z. 1 + highest_part ss es (height_to ss es k) z) (ty.out-roll-Ty y)

abbrev IsLow : Decls → Ty → Type 0
IsLow ds t = height_to ds.structures ds.enumerations highest t ≤ highest

low_at : (ds : Decls) (y : Ty-F Ty) → IsTrue (is_type ds (ty.roll-Ty y))
    → ((element : Ty) → ty.roll-Ty y ≡ ty.List element → ⊥) → IsLow ds (ty.roll-Ty y)
low_at ds Ty-F.Boolean h other = omega (arith, height_roll ds.structures ds.enumerations 63 Ty-F.Boolean)
low_at ds Ty-F.Integer h other = omega (arith, height_roll ds.structures ds.enumerations 63 Ty-F.Integer)
low_at ds Ty-F.Decimal h other = omega (arith, height_roll ds.structures ds.enumerations 63 Ty-F.Decimal)
low_at ds Ty-F.Money h other = omega (arith, height_roll ds.structures ds.enumerations 63 Ty-F.Money)
low_at ds Ty-F.Date h other = omega (arith, height_roll ds.structures ds.enumerations 63 Ty-F.Date)
low_at ds Ty-F.Duration h other = omega (arith, height_roll ds.structures ds.enumerations 63 Ty-F.Duration)
low_at ds (Ty-F.List element) h other = absurd (other element (ty.rolls-List element))
low_at ds (Ty-F.Structure n) h other = subst (λ (t : Ty). IsTrue (is_type ds t) → IsLow ds t)
    (sym (ty.rolls-Structure n)) (λ there. structure_low ds n (structure_there ds n there)) h
low_at ds (Ty-F.Enumeration n) h other = subst (λ (t : Ty). IsTrue (is_type ds t) → IsLow ds t)
    (sym (ty.rolls-Enumeration n)) (λ there. enumeration_low ds n (enumeration_there ds n there)) h

-- a type that is no list is at most 64 high
pub low_unless_list : (ds : Decls) (t : Ty) → IsTrue (is_type ds t) → ((element : Ty) → t ≡ ty.List element → ⊥)
    → height_to ds.structures ds.enumerations highest t ≤ highest
low_unless_list ds t = subst (λ (u : Ty). IsTrue (is_type ds u) → ((element : Ty) → u ≡ ty.List element → ⊥)
    → IsLow ds u) (ty.roll-out-Ty t) (low_at ds (ty.out-Ty t))

-- what a default needs to know of the parts of its type
pub ruleset descending = (
  height_positive,
  fields_lower,
  content_lower,
  fields_declared,
  has_cases,
  content_declared,
  structure_there,
  enumeration_there,
)
