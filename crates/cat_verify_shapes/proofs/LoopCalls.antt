-- What calls tell on which instructions of loops stand.
use Rattle.std.proofs.Common.{◌≡◌, ℕ, zero, suc, ◌+◌, ◌-◌, nat_eq, true, false}
use Rattle.std.proofs.Common.{Option, refl, sym, subst, arith}
use Rattle.std.proofs.lemmas.Bool.{eq-eqb}
use Rattle.cat_code.specs.declared.code.Tables.{Tables}
use Rattle.cat_verify_shapes.specs.declared.forms.Form.{Form}
use Rattle.cat_verify_shapes.specs.declared.forms.Form.TheVariants as form
use Rattle.cat_verify_shapes.specs.declared.forms.Forms.{Forms}
use Rattle.cat_verify_shapes.specs.declared.shape.Shape.{Shape}
use Rattle.cat_verify_shapes.specs.inside.Loops.{PopsList, IsCollected, Ends}
use Rattle.cat_verify_shapes.proofs.CountLemmas.{same_not}
use Rattle.cat_verify_shapes.proofs.LoopSteps.{IsNoList}

pub pops_as : (tables : Tables) (forms : Forms) (s r : Shape) (n m : Option ℕ) → PopsList tables forms s r n → n ≡ m
    → PopsList tables forms s r m
pops_as tables forms s r n m pops e = subst (λ (o : Option ℕ). PopsList tables forms s r o) e pops

pub collected_as : (tables : Tables) (forms : Forms) (k : ℕ) (n m : Option ℕ) → IsCollected tables forms k n → n ≡ m
    → IsCollected tables forms k m
collected_as tables forms k n m told e = subst (λ (o : Option ℕ). IsCollected tables forms k o) e told

pub ends_as : (tables : Tables) (forms : Forms) (s r : Shape) (n m : Option ℕ) → Ends tables forms s n r → n ≡ m
    → Ends tables forms s m r
ends_as tables forms s r n m ends e = subst (λ (o : Option ℕ). Ends tables forms s o r) e ends

pub no_list : (f : Form) → ((n : ℕ) → f ≡ form.Many n → ⊥) → IsNoList f
no_list form.Truth other = tt
no_list form.Whole other = tt
no_list form.Fraction other = tt
no_list form.Amount other = tt
no_list form.Day other = tt
no_list form.Span other = tt
no_list (form.Many n) other = other n refl
no_list (form.Fields n) other = tt
no_list (form.OneOf n) other = tt
no_list form.Last other = tt
no_list (form.More n m) other = tt

-- ---- turns

never_first : (begun : ℕ) → nat_eq (begun + 1) 0 ≡ false
never_first begun = same_not (begun + 1) 0 (λ e. absurd (omega (arith, e)))

pub first_place : (begun p : ℕ) → p ≡ 0 → nat_eq (begun + 1) p ≡ false
first_place begun p e = subst (λ (q : ℕ). nat_eq (begun + 1) q ≡ false) (sym e) (never_first begun)

pub not_behind : (begun p : ℕ) → (p ≡ 0 → ⊥) → (begun ≡ p - 1 → ⊥) → nat_eq (begun + 1) p ≡ false
not_behind begun p some other = same_not (begun + 1) p (λ e. other (omega (arith, e)))

pub right_behind : (begun p : ℕ) → (p ≡ 0 → ⊥) → begun ≡ p - 1 → nat_eq (begun + 1) p ≡ true
right_behind begun zero some e = absurd (some refl)
right_behind begun (suc p) some e = eq-eqb (begun + 1) (suc p) (omega (arith, e))
