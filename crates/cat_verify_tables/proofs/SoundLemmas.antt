-- Declarations that are sound.
use Rattle.std.proofs.Common.{◌≡◌, ◌<◌, ◌≤◌, ℕ, zero, suc, Bool}
use Rattle.std.proofs.Common.{List, [], ◌∷◌, length, Option, Some, None, slice_get, IsTrue}
use Rattle.std.proofs.Common.{refl, ap, subst, arith}
use Rattle.std.specs.List.{list_all}
use Rattle.std.specs.Option.{is_some}
use Rattle.std.proofs.lemmas.Bool.Decides.{nat_tests}
use Rattle.std.specs.Cmp.Derive.{both_true}
use Rattle.cat_order.specs.Order.{IsOrder}
use Rattle.cat_order.proofs.Exported.{order_of-iff_IsOrder}
use Rattle.cat_scope.specs.Names.{AllHave}
use Rattle.cat_value.specs.declared.ty.Ty.{Ty}
use Rattle.cat_value.specs.declared.declaration.Field.{Field}
use Rattle.cat_value.specs.declared.declaration.Structure.{Structure}
use Rattle.cat_value.specs.declared.declaration.Case.{Case}
use Rattle.cat_value.specs.declared.declaration.Enumeration.{Enumeration}
use Rattle.cat_value.specs.declared.declaration.Scope.{Scope}
use Rattle.cat_value.specs.Declarations.{highest, is_counted}
use Rattle.cat_value.specs.Declarations.{structure_is_sound, enumeration_is_sound}
use Rattle.cat_value.specs.Declarations.{scope_is_sound, all_below}
use Rattle.cat_value.specs.Declarations.{structure_is_low, enumeration_is_low, types_are_low, are_sound}
use Rattle.cat_value.specs.Dependencies.{are_ordered, type_dependencies}
use Rattle.cat_value.specs.Heights.{height_to, highest_field, highest_content, content_height}
use Rattle.cat_value.proofs.Exported.{height_Structure, height_Enumeration, level_cut}

-- ---- tests of all

pub all_test : {A : Type 0} (test : A → Bool) (xs : List A) → AllHave (λ x. IsTrue (test x)) xs
    → IsTrue (list_all test xs)
all_test test [] all = refl
all_test test (x ∷ xs) all = both_true all.0 (all_test test xs all.1)

pub both_have : {A : Type 0} (P Q R : A → Type 0) → ((x : A) → P x → Q x → R x) → (xs : List A) → AllHave P xs
    → AllHave Q xs → AllHave R xs
both_have P Q R each [] ps qs = tt
both_have P Q R each (x ∷ xs) ps qs = (each x ps.0 qs.0, both_have P Q R each xs ps.1 qs.1)

pub each_has : {A : Type 0} (P Q : A → Type 0) → ((x : A) → P x → Q x) → (xs : List A) → AllHave P xs → AllHave Q xs
each_has P Q each [] ps = tt
each_has P Q each (x ∷ xs) ps = (each x ps.0, each_has P Q each xs ps.1)

pub have_at : {A : Type 0} (Has : A → Type 0) (xs : List A) (k : ℕ) (x : A) → slice_get xs k ≡ Some x → AllHave Has xs
    → Has x
have_at Has [] k x at all = absurd (cc at)
have_at Has (y ∷ ys) zero x at all = let same : y ≡ x = cc at in subst Has same all.0
have_at Has (y ∷ ys) (suc k) x at all = have_at Has ys k x at all.1

-- each number below a length is that of an entry
pub below_test : {A : Type 0} (xs : List A) (test : ℕ → Bool)
    → ((n : ℕ) (x : A) → slice_get xs n ≡ Some x → IsTrue (test n)) → IsTrue (all_below test (length xs))
below_test {A} xs test each = by (length xs) (omega arith)
  where
    there : (ys : List A) (n : ℕ) → n < length ys → (x : A) × (slice_get ys n ≡ Some x)
    there [] n less = absurd (omega (arith, less))
    there (y ∷ ys) zero less = (y, refl)
    there (y ∷ ys) (suc n) less = there ys n (omega (arith, less))

    by : (n : ℕ) → n ≤ length xs → IsTrue (all_below test n)
    by zero h = refl
    by (suc n) h =
        let at = there xs n (omega (arith, h)) in both_true (each n at.0 at.1) (by n (omega (arith, h)))

-- ---- heights

module _ (ss : List Structure) (es : List Enumeration) where
  part_below : (t : Ty) → height_to ss es highest t < highest → height_to ss es 63 t ≤ 63
  part_below t low = let cut = level_cut ss es 63 t in omega (arith, cut, low)

  fields_below : (fs : List Field) → AllHave (λ (f : Field). height_to ss es highest f.ty < highest) fs
      → highest_field (height_to ss es 63) fs ≤ 63
  fields_below [] low = omega arith
  fields_below (f ∷ fs) low =
      let one = part_below f.ty low.0 in let more = fields_below fs low.1 in omega (arith, one, more)

  abbrev pub IsLow : Option Ty → Type 0
  IsLow None = Unit {0}
  IsLow (Some t) = height_to ss es highest t < highest

  content_below : (content : Option Ty) → IsLow content → content_height (height_to ss es 63) content ≤ 63
  content_below None low = omega arith
  content_below (Some t) low = part_below t low

  contents_below : (cs : List Case) → AllHave (λ (c : Case). IsLow c.content) cs
      → highest_content (height_to ss es 63) cs ≤ 63
  contents_below [] low = omega arith
  contents_below (c ∷ cs) low =
      let one = content_below c.content low.0 in let more = contents_below cs low.1 in omega (arith, one, more)

  pub all_low : AllHave (λ (s : Structure). AllHave (λ (f : Field). height_to ss es highest f.ty < highest) s.fields) ss
      → AllHave (λ (e : Enumeration). AllHave (λ (c : Case). IsLow c.content) e.cases) es
      → IsTrue (types_are_low ss es)
  all_low structures enumerations = both_true
      (below_test ss (structure_is_low ss es) (λ n s at.
      let height = height_Structure ss es 63 n s at in
      let parts = fields_below s.fields (have_at _ ss n s at structures) in grind (arith, nat_tests, height, parts)))
      (below_test es (enumeration_is_low ss es) (λ n e at.
      let height = height_Enumeration ss es 63 n e at in
      let parts = contents_below e.cases (have_at _ es n e at enumerations) in
      grind (arith, nat_tests, height, parts)))

pub ordered_test : (ss : List Structure) (es : List Enumeration) (listed : List ℕ)
    → IsOrder (type_dependencies ss es) listed → IsTrue (are_ordered ss es)
unfolding are_ordered
ordered_test ss es listed is = ap is_some ((order_of-iff_IsOrder (type_dependencies ss es) listed).1 is)

pub sound_by : (ss : List Structure) (es : List Enumeration) (scopes : List Scope) → IsTrue (is_counted ss)
    → IsTrue (is_counted es) → IsTrue (is_counted scopes) → IsTrue (list_all (structure_is_sound ss es) ss)
    → IsTrue (list_all (enumeration_is_sound ss es) es)
    → IsTrue (list_all (scope_is_sound ss es (length scopes)) scopes) → IsTrue (are_ordered ss es)
    → IsTrue (types_are_low ss es) → IsTrue (are_sound ss es scopes)
unfolding are_sound
sound_by structures enumerations scopes a b c d e f g h =
    both_true (both_true (both_true (both_true (both_true (both_true (both_true a b) c) d) e) f) g) h
