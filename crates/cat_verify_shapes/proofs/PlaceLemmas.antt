-- Where an instruction leads: to a place of its own scope or function, or to where a called function begins.
use Rattle.std.proofs.Common.{◌≡◌, ◌||◌, ◌⊎◌, inl, inr, ℕ, zero, suc, ◌+◌, ◌<◌, nat_lt, Bool, true, false, true≢false}
use Rattle.std.proofs.Common.{List, [], ◌∷◌}
use Rattle.std.proofs.Common.{◌++◌, if◌then◌else◌, Option, Some, None, slice_get, IsTrue, refl, sym, ap, ◌∙◌, subst}
use Rattle.std.proofs.Common.{arith}
use Rattle.std.specs.Prelude.{option_map}
use Rattle.std.proofs.lemmas.Bool.{eqb-true}
use Rattle.std.proofs.lemmas.Bool.Decides.{nat_tests}
use Rattle.cat_scope.specs.Names.{IsOneOf}
use Rattle.cat_code.specs.declared.instr.Instr.{Instr}
use Rattle.cat_code.specs.declared.instr.Instr.TheVariants as instr
use Rattle.cat_code.specs.declared.code.Tables.{Tables}
use Rattle.cat_code.specs.Shapes.{Owner, Shape}
use Rattle.cat_code.specs.Places.{FunctionPlace}
use Rattle.cat_code.specs.Jumps.{jump_of, with_jump, called_by}
use Rattle.cat_code.specs.Flow.{flow}
use Rattle.cat_code.specs.Tame.{is_next, may_go_back, is_forward, AreForward}
use Rattle.cat_verify_shapes.specs.Belonging.{Begins, function_owner, called_in, goes_on, leads_on}
use Rattle.cat_verify_shapes.proofs.ListLemmas.{none_some, some_is}
use Rattle.cat_verify_shapes.proofs.BelongLemmas.{FlowHas, flow_has}

-- what an owner calls, where that begins somewhere, is what the instruction calls there
pub called_there : (tables : Tables) (i : Instr) (caller owner : Owner) (q : ℕ) → called_by caller i ≡ Some owner
    → Begins tables owner q → called_in tables i ≡ Some owner
called_there tables i caller owner q calls at = by_instr i refl
  where
    by_instr : (j : Instr) → i ≡ j → called_in tables i ≡ Some owner
    by_instr (instr.Call f n) is =
        let same = some_is (record { scope = caller.scope; function = Some f }) owner
        (sym (ap (called_by caller) is) ∙ calls) in
        let begun = subst (λ (o : Owner). Begins tables o q) (sym same) at in
        ap (called_in tables) is
        ∙ ap (option_map (function_owner f)) begun.0.place_is
        ∙ ap (λ (k : ℕ). Some (record { scope = k; function = Some f })) begun.0.scope_is
        ∙ ap Some same
    by_instr (instr.Scope n) is = ap (called_in tables) is ∙ sym (ap (called_by caller) is) ∙ calls
    by_instr _ is = absurd (none_some owner (sym (ap (called_by caller) is) ∙ calls))

module _ (tables : Tables) (i : Instr) (p : ℕ) (s : Shape) where
  -- to a place of the same owner, or to where one begins that is called
  abbrev pub IsLed : Owner → ℕ → Type 0
  IsLed owner q = ((owner ≡ s.owner) × IsOneOf q (leads_on i p))
      ⊎ ((called_by s.owner i ≡ Some owner) × Begins tables owner q)

  enters : (f n : ℕ) → i ≡ instr.Call f n → (entry : ℕ) (place : FunctionPlace)
      → place.scope ≡ s.owner.scope → called_by s.owner i ≡ Some (record { scope = place.scope; function = Some f })
  enters f n is entry place home =
      ap (called_by s.owner) is
      ∙ ap (λ (k : ℕ). called_by (record { scope = k; function = s.owner.function }) (instr.Call f n)) (sym home)

  pub flow_led : (code : List Instr) → FlowHas IsLed (flow tables code i p s)
  flow_led code =
      flow_has IsLed tables code i p s (λ q on. inl (refl, on))
      (λ f n is entry place at of home. inr (
        enters f n is entry place (eqb-true place.scope s.owner.scope home),
        (record { place = place; place_is = at; scope_is = refl }, of),
      ))

-- ---- jumps

forward_at : (code : List Instr) (p : ℕ) (is : List Instr) (k : ℕ) (i : Instr) → AreForward code p is
    → slice_get is k ≡ Some i → IsTrue (is_forward code (p + k) i (jump_of i))
forward_at code p [] k i forward e = absurd (none_some i e)
forward_at code p (j ∷ is) zero i forward e =
    subst (λ (n : ℕ). IsTrue (is_forward code n i (jump_of i))) (plain p)
    (subst (λ (x : Instr). IsTrue (is_forward code p x (jump_of x))) (some_is j i e) forward.0)
  where
    plain : (p : ℕ) → p ≡ p + zero
    plain p = omega arith
forward_at code p (j ∷ is) (suc k) i forward e =
    subst (λ (n : ℕ). IsTrue (is_forward code n i (jump_of i))) (plain p k) (forward_at code (p + 1) is k i forward.1 e)
  where
    plain : (p k : ℕ) → p + 1 + k ≡ p + suc k
    plain p k = omega arith

pub forward_there : (code : List Instr) (p : ℕ) (i : Instr) → AreForward code 0 code → slice_get code p ≡ Some i
    → IsTrue (is_forward code p i (jump_of i))
forward_there code p i forward is =
    subst (λ (n : ℕ). IsTrue (is_forward code n i (jump_of i))) (plain p) (forward_at code 0 code p i forward is)
  where
    plain : (p : ℕ) → 0 + p ≡ p
    plain p = omega arith

-- a place behind, or a `next` to which a jump goes back
abbrev pub IsAhead : List Instr → Instr → ℕ → ℕ → Type 0
IsAhead code i p q = (p < q) ⊎ ((i ≡ instr.Jump q) × (is_next (slice_get code q) ≡ true))

lt_is : (p q : ℕ) → nat_lt p q ≡ true → p < q
lt_is p q e = grind (arith, nat_tests)

either : (a b : Bool) → (a || b) ≡ true → (a ≡ true) ⊎ (b ≡ true)
either true b e = inl refl
either false b e = inr e

back_is : (code : List Instr) (i : Instr) (q : ℕ) → jump_of i ≡ Some q → may_go_back code i ≡ true
    → (i ≡ instr.Jump q) × (is_next (slice_get code q) ≡ true)
back_is code (instr.Jump t) q is back =
    let same = some_is t q is in
    (ap instr.Jump same, subst (λ (n : ℕ). is_next (slice_get code n) ≡ true) same back)
back_is code _ q is back = absurd (true≢false (sym back))

jump_ahead : (code : List Instr) (i : Instr) (p q : ℕ) → (o : Option ℕ) → jump_of i ≡ o
    → IsTrue (is_forward code p i o) → IsOneOf q (with_jump o []) → IsAhead code i p q
jump_ahead code i p q None is forward among = absurd among
jump_ahead code i p q (Some t) is forward (inr none) = absurd none
jump_ahead code i p q (Some t) is forward (inl same) = by_test (either (nat_lt p t) (may_go_back code i) forward)
  where
    by_test : (nat_lt p t ≡ true) ⊎ (may_go_back code i ≡ true) → IsAhead code i p q
    by_test (inl less) = inl (subst (λ (n : ℕ). p < n) (sym same) (lt_is p t less))
    by_test (inr back) = inr (back_is code i q (is ∙ ap Some (sym same)) back)

pub led_ahead : (code : List Instr) (i : Instr) (p q : ℕ) → AreForward code 0 code → slice_get code p ≡ Some i
    → IsOneOf q (leads_on i p) → IsAhead code i p q
led_ahead code i p q forward is among = by_step (goes_on i) among
  where
    here : IsTrue (is_forward code p i (jump_of i))
    here = forward_there code p i forward is

    next : (p q : ℕ) → q ≡ p + 1 → p < q
    next p q e = omega (arith, e)

    by_step : (b : Bool) → IsOneOf q ((if b then (p + 1) ∷ [] else []) ++ with_jump (jump_of i) []) → IsAhead code i p q
    by_step true (inl same) = inl (next p q same)
    by_step true (inr more) = jump_ahead code i p q (jump_of i) refl here more
    by_step false more = jump_ahead code i p q (jump_of i) refl here more
