-- Valid and tame code is refused for none of its instructions.
use Rattle.std.proofs.Common.{◌≡◌, ◌⊎◌, ◌∙◌, inl, inr, ℕ, true≢false, List, Some}
use Rattle.std.proofs.Common.{slice_get, sym, ap, subst}
use Rattle.std.proofs.lemmas.Bool.{eqb-true}
use Rattle.std.specs.Prelude.{option_map}
use Rattle.cat_code.specs.declared.instr.Instr.{Instr}
use Rattle.cat_code.specs.declared.instr.Instr.TheVariants as instr
use Rattle.cat_code.specs.declared.code.Tables.{Tables}
use Rattle.cat_code.specs.Places.{FunctionPlace, function_places}
use Rattle.cat_code.specs.Jumps.{called_by}
use Rattle.cat_code.specs.Shapes.{Owner, Shape}
use Rattle.cat_code.specs.Shaped.{Shapes, IsFine}
use Rattle.cat_code.specs.Tame as tame
use Rattle.cat_code.specs.Tame.{IsCallOf, LeadTo}
use Rattle.cat_code.specs.Valid.{IsValidBy}
use Rattle.cat_verify_shapes.specs.Belonging.{Calls, MayRun, called, called_in, function_owner}
use Rattle.cat_verify_shapes.specs.Unshaped.{IsUnshaped}
use Rattle.cat_verify_shapes.proofs.Exported.{EntersFunction, leads_fine, fine_there, comes_own, one_owner}
use Rattle.cat_verify_shapes.proofs.Exported.{forward_there}
use Rattle.cat_verify.specs.WrongCode as wrong
use Rattle.cat_verify.specs.WrongCode.{CallsAbroad, IsBadNumber, IsEndless}
use Rattle.cat_verify.specs.WrongCode.{LeadOn}
use Rattle.cat_verify.proofs.OneOf.{same_some}
use Rattle.cat_verify.proofs.RightNumbers.{none_bad}

module _ (tables : Tables) (code : List Instr) (shapes : Shapes) (valid : IsValidBy tables code shapes) where
  -- a call that goes on enters a function of the caller's scope
  enters : (f n p : ℕ) (s : Shape) (fine : IsFine tables code shapes (instr.Call f n) p s)
      → EntersFunction tables f p s.owner fine.to
  enters f n p s fine = leads_fine tables code shapes valid.shaped (instr.Call f n) p s fine

  -- ---- numbers

  none_abroad : (k : ℕ) → CallsAbroad tables code k → ⊥
  none_abroad k abroad =
      let own = comes_own tables code shapes valid.shaped abroad.caller k abroad.comes in
      let call = instr.Call abroad.function abroad.count in
      let home = enters abroad.function abroad.count k own.shape
      (fine_there tables code shapes valid.shaped k call own.shape abroad.is own.is) in
      let same = same_some (slice_get (function_places tables.decls) abroad.function) home.place abroad.place
      home.place_is abroad.place_is in
      abroad.abroad (ap (λ (t : FunctionPlace). t.scope) same
      ∙ (eqb-true home.place.scope own.shape.owner.scope home.home ∙ ap (λ (w : Owner). w.scope) own.owner_is))

  pub numbered : (k : ℕ) → IsBadNumber tables code k → ⊥
  numbered = none_bad tables code (record { entries = valid.entries; numbers = valid.numbers; rules = valid.rules })
      valid.functions none_abroad

  -- ---- ends

  call_of : (a b : Owner) (p : ℕ) → MayRun tables code a → Calls tables code p a b → IsCallOf code shapes a b
  call_of a b p runs c =
      let own = comes_own tables code shapes valid.shaped a p (record { may_run = runs; belongs = c.belongs }) in
      record {
        place = p;
        shape = own.shape;
        instruction = c.instruction;
        shape_is = own.is;
        owner_is = own.owner_is;
        instruction_is = c.instruction_is;
        calls = c.calls;
      }

  told_by : (a b : Owner) (p : ℕ) (s : Shape) → s.owner ≡ a → (i : Instr) → IsFine tables code shapes i p s
      → called_by a i ≡ Some b → called_in tables i ≡ Some b
  told_by a b p s own (instr.Call f n) fine calls =
      let home = enters f n p s fine in
      let same = eqb-true home.place.scope s.owner.scope home.home ∙ ap (λ (w : Owner). w.scope) own in
      ap (option_map (function_owner f)) home.place_is
      ∙ (ap (λ (scope : ℕ). Some (record { scope = scope; function = Some f })) same ∙ calls)
  told_by a b p s own (instr.Scope n) fine calls = calls
  told_by a b p s own _ fine calls = cc calls

  runs_on : (a b : Owner) (p : ℕ) → MayRun tables code a → Calls tables code p a b → MayRun tables code b
  runs_on a b p runs c =
      let own = comes_own tables code shapes valid.shaped a p (record { may_run = runs; belongs = c.belongs }) in
      called c.instruction runs c.belongs c.instruction_is (told_by a b p own.shape own.owner_is c.instruction
      (fine_there tables code shapes valid.shaped p c.instruction own.shape c.instruction_is own.is) c.calls)

  leads_to : {a b : Owner} → MayRun tables code a → LeadOn tables code a b → LeadTo code shapes a b
  leads_to {a} {b} runs (wrong.call p c) = tame.call (call_of a b p runs c)
  leads_to {a} runs (wrong.chain {b} p c more) =
      tame.chain (call_of a b p runs c) (leads_to (runs_on a b p runs c) more)

  pub ending : (k : ℕ) → IsEndless tables code k → ⊥
  ending k (inl back) =
      true≢false (sym (forward_there code k back.instruction valid.tame.forward back.is) ∙ back.back)
  ending k (inr (inl shared)) =
      shared.apart (one_owner tables code shapes valid.shaped shared.one shared.other k shared.of_one shared.of_other)
  ending k (inr (inr itself)) = by_case itself.back
    where
      first : IsCallOf code shapes itself.caller itself.called
      first = call_of itself.caller itself.called k itself.may_run itself.call

      by_case : (itself.called ≡ itself.caller) ⊎ LeadOn tables code itself.called itself.caller → ⊥
      by_case (inl same) = valid.tame.acyclic itself.caller
          (subst (λ (w : Owner). LeadTo code shapes itself.caller w) same (tame.call first))
      by_case (inr on) = valid.tame.acyclic itself.caller
          (tame.chain first (leads_to (runs_on itself.caller itself.called k itself.may_run itself.call) on))

  pub shaped : (k : ℕ) → IsUnshaped tables code k → ⊥
  shaped k none = none.unshaped (shapes, valid.shaped)
