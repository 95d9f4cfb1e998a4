-- Entries that are the same, and a table to which one was added.
use Rattle.std.proofs.Common.{◌≡◌, ◌||◌, ◌<◌, ◌+◌, nat_lt, length, cond, position, None, inl, inr, ℕ, zero, suc, Bool}
use Rattle.std.proofs.Common.{true, false, true≢false, List, [], ◌∷◌, ◌++◌}
use Rattle.std.proofs.Common.{Some, slice_get, refl, sym, ap, ◌∙◌, subst, arith, if◌then◌else◌}
use Rattle.std.specs.List.{list_any, position_or_len}
use Rattle.std.specs.Prelude.{not}
use Rattle.std.proofs.lemmas.Bool.{eqb-true, eq-eqb}
use Rattle.std.proofs.lemmas.Bool.Decides.{nat_tests}
use Rattle.cat_code.specs.Forms as code
use Rattle.cat_verify_shapes.specs.contracts.forms.FormPartialEq.TheImpl as form_eq
use Rattle.cat_verify_shapes.specs.declared.forms.Form.{Form}
use Rattle.cat_verify_shapes.specs.declared.forms.Form.TheVariants as form
use Rattle.cat_verify_shapes.specs.declared.forms.Forms.{Forms}
use Rattle.cat_verify_shapes.specs.inside.FormKinds.{One, Row}
use Rattle.cat_verify_shapes.specs.inside.Growing.{HasKind, Adds}
use Rattle.cat_verify_shapes.proofs.ListLemmas.{none_some, some_is}
use Rattle.cat_verify_shapes.proofs.GrowLemmas.{HasKeys, added}

-- whether two entries are the same
abbrev pub same : Form → Form → Bool
same = form_eq.ghosts.eq

pub same_is : (f g : Form) → same f g ≡ true → f ≡ g
same_is form.Truth form.Truth h = refl
same_is form.Whole form.Whole h = refl
same_is form.Fraction form.Fraction h = refl
same_is form.Amount form.Amount h = refl
same_is form.Day form.Day h = refl
same_is form.Span form.Span h = refl
same_is form.Last form.Last h = refl
same_is (form.Many n) (form.Many m) h = ap form.Many (eqb-true n m h)
same_is (form.Fields n) (form.Fields m) h = ap form.Fields (eqb-true n m h)
same_is (form.OneOf n) (form.OneOf m) h = ap form.OneOf (eqb-true n m h)
same_is (form.More n l) (form.More m j) h =
    let first : n ≡ m = grind (arith, nat_tests, h) in
    let rest : l ≡ j = grind (arith, nat_tests, h) in
    ap (λ (i : ℕ). form.More i l) first ∙ ap (form.More m) rest
same_is _ _ h = absurd (true≢false (sym h))

same_self : (f : Form) → same f f ≡ true
same_self form.Truth = refl
same_self form.Whole = refl
same_self form.Fraction = refl
same_self form.Amount = refl
same_self form.Day = refl
same_self form.Span = refl
same_self form.Last = refl
same_self (form.Many n) = eq-eqb n n refl
same_self (form.Fields n) = eq-eqb n n refl
same_self (form.OneOf n) = eq-eqb n n refl
same_self (form.More n m) =
    let first = eq-eqb n n refl in
    let rest = eq-eqb m m refl in
    grind (arith, nat_tests, first, rest)

-- an entry without parts stands for something
pub kind_other : (forms : Forms) (f : Form) → ((n : ℕ) → f ≡ form.Many n → ⊥) → ((n : ℕ) → f ≡ form.Fields n → ⊥)
    → ((n m : ℕ) → f ≡ form.More n m → ⊥) → HasKind forms f
kind_other forms form.Truth many fields more ks are = (One code.Truth, refl)
kind_other forms form.Whole many fields more ks are = (One code.Whole, refl)
kind_other forms form.Fraction many fields more ks are = (One code.Fraction, refl)
kind_other forms form.Amount many fields more ks are = (One code.Amount, refl)
kind_other forms form.Day many fields more ks are = (One code.Day, refl)
kind_other forms form.Span many fields more ks are = (One code.Span, refl)
kind_other forms form.Last many fields more ks are = (Row code.Last, refl)
kind_other forms (form.OneOf n) many fields more ks are = (One (code.OneOf n), refl)
kind_other forms (form.Many n) many fields more ks are = absurd (many n refl)
kind_other forms (form.Fields n) many fields more ks are = absurd (fields n refl)
kind_other forms (form.More n m) many fields more ks are = absurd (more n m refl)

either : (a b : Bool) → (a || b) ≡ false → (a ≡ true → ⊥) × (b ≡ false)
either true b h = absurd (true≢false h)
either false b h = (λ e. true≢false (sym e), h)

-- an entry that no test finds isn't there
absent : (fs : List Form) (f : Form) → list_any (same f) fs ≡ false → (m : ℕ) → slice_get fs m ≡ Some f → ⊥
absent [] f none m e = absurd (none_some f e)
absent (g ∷ fs) f none zero e =
    (either (same f g) (list_any (same f) fs) none).0
    (subst (λ (x : Form). same f x ≡ true) (sym (some_is g f e)) (same_self f))
absent (g ∷ fs) f none (suc m) e =
    absent fs f (either (same f g) (list_any (same f) fs) none).1 m e

-- what the table has, where the entry was put in
put_in : (before after : Forms) (f : Form)
    → after.kinds.keys ≡ (if list_any (same f) before.kinds.keys then before.kinds.keys
    else before.kinds.keys ++ f ∷ [])
    → HasKeys before after f
put_in before after f keys = by_test (list_any (same f) before.kinds.keys) refl
  where
    keys_by : Bool → List Form
    keys_by b = if b then before.kinds.keys else before.kinds.keys ++ f ∷ []

    by_test : (b : Bool) → list_any (same f) before.kinds.keys ≡ b → HasKeys before after f
    by_test true is = inl (keys ∙ ap keys_by is)
    by_test false is = inr (keys ∙ ap keys_by is, absent before.kinds.keys f is)

pub added_by : (before after : Forms) (f : Form) (n : ℕ) → HasKind before f
    → after.kinds.keys ≡ (if list_any (same f) before.kinds.keys then before.kinds.keys
    else before.kinds.keys ++ f ∷ [])
    → after.structures ≡ before.structures → after.outputs ≡ before.outputs
    → (k : Form) × (slice_get after.kinds.keys n ≡ Some k) × (same f k ≡ true) → Adds before after f n
added_by before after f n has keys structures outputs stored =
    added before after f n has (put_in before after f keys) structures outputs
    (stored.1 ∙ ap Some (sym (same_is f stored.0 stored.2)))

-- ---- what is found

-- the first index at which an entry is the same
place_of : Form → List Form → ℕ
place_of f fs = position_or_len (same f) fs

at_place : (fs : List Form) (f : Form) → place_of f fs < length fs → slice_get fs (place_of f fs) ≡ Some f
unfolding place_of
at_place [] f h = absurd (omega (arith, h))
at_place (g ∷ fs) f h = by_test (same f g) refl (at_place fs f)
  where
    next : (n : ℕ) → 1 + n ≡ suc n
    next n = omega arith

    by_test : (b : Bool) → same f g ≡ b → (place_of f fs < length fs → slice_get fs (place_of f fs) ≡ Some f)
        → slice_get (g ∷ fs) (place_of f (g ∷ fs)) ≡ Some f
    by_test true is rest =
        ap (λ (c : Bool). slice_get (g ∷ fs) (cond (not c) (1 + place_of f fs) 0)) is ∙ ap Some (sym (same_is f g is))
    by_test false is rest =
        ap (λ (c : Bool). slice_get (g ∷ fs) (cond (not c) (1 + place_of f fs) 0)) is
        ∙ ap (slice_get (g ∷ fs)) (next (place_of f fs))
        ∙ rest (omega (arith, sym (ap (λ (c : Bool). cond (not c) (1 + place_of f fs) 0) is), h))

pub found_at : (fs : List Form) (f : Form) (n : ℕ) → position (same f) fs ≡ Some n → slice_get fs n ≡ Some f
unfolding place_of
found_at fs f n e = by_test (nat_lt (place_of f fs) (length fs)) refl e
  where
    by_test : (b : Bool) → nat_lt (place_of f fs) (length fs) ≡ b → cond b (Some (place_of f fs)) None ≡ Some n
        → slice_get fs n ≡ Some f
    by_test false is h = absurd (none_some n h)
    by_test true is h =
        subst (λ (m : ℕ). slice_get fs m ≡ Some f) (some_is (place_of f fs) n h)
        (at_place fs f (grind (arith, nat_tests, is)))
