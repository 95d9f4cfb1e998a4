-- Code against which nothing stands is valid and tame, and each refusal has its cause in the image.
use Rattle.std.proofs.Common.{◌≡◌, ◌<◌, ◌≤◌, ℕ, List}
use Rattle.std.proofs.Common.{length, map, Some, refl, sym, ap, ◌∙◌, subst, inl, inr, arith, true≢false}
use Rattle.std.proofs.lemmas.List.{length-map}
use Rattle.std.specs.Prelude.{slice_get}
use Rattle.cat_code.specs.declared.instr.Instr.{Instr}
use Rattle.cat_code.specs.declared.code.Code.{Code}
use Rattle.cat_code.specs.declared.code.Tables.{Tables}
use Rattle.cat_code.specs.Places as places
use Rattle.cat_code.specs.Places.{function_places}
use Rattle.cat_code.specs.Shapes.{Owner}
use Rattle.cat_code.specs.Tame.{AreForward, IsCallOf, LeadTo}
use Rattle.cat_code.specs.Tame as to
use Rattle.cat_code.specs.Valid.{IsValid}
use Rattle.cat_image.specs.declared.image.Image.{Image}
use Rattle.cat_verify_tables.specs.declared.tables.Told.{Told}
use Rattle.cat_verify_tables.specs.declared.places.FunctionPlace.{FunctionPlace}
use Rattle.cat_verify_tables.specs.TableWords.{numbered, IsTold}
use Rattle.cat_verify_shapes.specs.Belonging.{Calls, MayRun, MayComeTo}
use Rattle.cat_verify_shapes.specs.Settled.{IsSettled}
use Rattle.cat_verify_shapes.specs.Unshaped.{HasOwnShapes, IsUnshaped}
use Rattle.cat_verify_shapes.specs.Unshaped as shapes
use Rattle.cat_verify_shapes.specs.declared.refusal.ShapeRefusal.{ShapeRefusal}
use Rattle.cat_verify_shapes.specs.declared.refusal.ShapeRefusal.TheVariants as shape_refusal
use Rattle.cat_verify_shapes.proofs.Exported.{forward_there}
use Rattle.cat_verify_tables.specs.declared.refusal.TableRefusal.{TableRefusal}
use Rattle.cat_verify_tables.specs.declared.refusal.TableRefusal.TheVariants as table_refusal
use Rattle.cat_verify_tables.specs.WrongTables as tables
use Rattle.cat_verify.specs.declared.refusal.VerifyRefusal.{VerifyRefusal}
use Rattle.cat_verify.specs.declared.refusal.VerifyRefusal.TheVariants as refusal
use Rattle.cat_verify.specs.OfParts.{of_tables, of_shapes}
use Rattle.cat_verify.specs.Refused.{IsToldBy, IsNumbered, IsEnding, HasCause}
use Rattle.cat_verify.specs.Told.{IsVerified}
use Rattle.cat_verify.specs.WrongCode.{BeginsOutside, IsUndeclared, CallsAbroad, IsBadNumber}
use Rattle.cat_verify.specs.WrongCode.{LeadOn, IsEndless}
use Rattle.cat_verify.specs.WrongCode as on
use Rattle.cat_verify.specs.inside.GoodNumbers.{NumbersCause}
use Rattle.cat_verify.specs.inside.Jumping.{BackCause}
use Rattle.cat_verify.specs.inside.Orderly.{IsOrderly, AreCallsHome, SurplusCause, AbroadCause, OwnersCause, AreApart}
use Rattle.cat_verify.specs.inside.Verifying.{IsPrepared, IsRight, Ends, IsGood, NumberedCause, CodeCause}
use Rattle.cat_verify.proofs.RightNumbers.{none_bad}
use Rattle.cat_verify.proofs.OneOf.{in_back, in_at, same_some}

-- ---- a function too many

module _ (tables : Tables) (code : List Instr) (functions : List FunctionPlace)
    (declared : functions ≡ map numbered (function_places tables.decls)) where
  pub surplus_inside : (entry : ℕ) → slice_get tables.functions (length functions) ≡ Some entry
      → entry < length code → IsUndeclared tables code entry
  surplus_inside entry is inside =
      let counted : length functions ≡ length (function_places tables.decls) =
      ap length declared ∙ length-map (function_places tables.decls) numbered in
      record {
        function = length functions;
        inside = inside;
        entry_is = is;
        undeclared = omega (arith, counted);
      }

  pub surplus_outside : (entry : ℕ) → slice_get tables.functions (length functions) ≡ Some entry
      → length code ≤ entry → BeginsOutside tables code (length code)
  surplus_outside entry is past = record {
    entry = entry;
    is_entry = in_back entry tables.scopes tables.functions
        (in_at tables.functions (length functions) entry is);
    outside = past;
    number = refl;
  }

-- ---- causes

pub table_cause : (image : Image) (why : TableRefusal) → tables.HasCause image.tables why
    → HasCause image (of_tables why)
table_cause image (table_refusal.BadTable n) cause = cause
table_cause image table_refusal.Memory cause = tt

module _ (ts : Tables) (code : List Instr) where
  pub surplus_cause : (why : VerifyRefusal) → SurplusCause ts code why → NumberedCause ts code why
  surplus_cause (refusal.BadNumber k) (inl undeclared) = inr (inr (inl undeclared))
  surplus_cause (refusal.BadNumber k) (inr outside) = inr (inl outside)
  surplus_cause (refusal.BadTable n) cause = absurd cause
  surplus_cause (refusal.Endless k) cause = absurd cause
  surplus_cause (refusal.BadShape k) cause = absurd cause
  surplus_cause refusal.Memory cause = absurd cause

  pub numbers_cause : (why : VerifyRefusal) → NumbersCause ts code why → NumberedCause ts code why
  numbers_cause (refusal.BadNumber k) (inl wrong) = inl wrong
  numbers_cause (refusal.BadNumber k) (inr outside) = inr (inl outside)
  numbers_cause (refusal.BadTable n) cause = absurd cause
  numbers_cause (refusal.Endless k) cause = absurd cause
  numbers_cause (refusal.BadShape k) cause = absurd cause
  numbers_cause refusal.Memory cause = tt

  pub abroad_cause : (why : VerifyRefusal) → AbroadCause ts code why → NumberedCause ts code why
  abroad_cause (refusal.BadNumber k) abroad = inr (inr (inr abroad))
  abroad_cause (refusal.BadTable n) cause = absurd cause
  abroad_cause (refusal.Endless k) cause = absurd cause
  abroad_cause (refusal.BadShape k) cause = absurd cause
  abroad_cause refusal.Memory cause = tt

  pub numbered_cause : (why : VerifyRefusal) → NumberedCause ts code why → CodeCause ts code why
  numbered_cause (refusal.BadNumber k) cause = cause
  numbered_cause (refusal.BadTable n) cause = absurd cause
  numbered_cause (refusal.Endless k) cause = absurd cause
  numbered_cause (refusal.BadShape k) cause = absurd cause
  numbered_cause refusal.Memory cause = tt

-- ---- numbers that name what is there

module _ (ts : Tables) (code : List Instr) (functions : List FunctionPlace) (types : List ℕ)
    (is : IsPrepared ts code functions types) (orderly : IsOrderly ts code functions)
    (home : AreCallsHome ts code) where
  not_abroad : (k : ℕ) → CallsAbroad ts code k → ⊥
  not_abroad k abroad =
      let own = home k abroad.function abroad.count abroad.caller abroad.comes abroad.is in
      let same = same_some (slice_get (function_places ts.decls) abroad.function) own.place abroad.place own.place_is
      abroad.place_is in
      abroad.abroad (ap (λ (x : places.FunctionPlace). x.scope) same ∙ own.scope_is)

  pub right : IsRight ts code
  right = none_bad ts code orderly.good orderly.one_each not_abroad

  pub back_cause : (why : VerifyRefusal) → BackCause code why → CodeCause ts code why
  back_cause (refusal.Endless k) back = (right, inl back)
  back_cause (refusal.BadTable n) cause = absurd cause
  back_cause (refusal.BadNumber k) cause = absurd cause
  back_cause (refusal.BadShape k) cause = absurd cause
  back_cause refusal.Memory cause = absurd cause

  pub owners_cause : (why : VerifyRefusal) → OwnersCause ts code why → CodeCause ts code why
  owners_cause (refusal.Endless k) cause = (right, inr cause)
  owners_cause (refusal.BadTable n) cause = absurd cause
  owners_cause (refusal.BadNumber k) cause = absurd cause
  owners_cause (refusal.BadShape k) cause = absurd cause
  owners_cause refusal.Memory cause = tt

  -- ---- runs that end

  module _ (forward : AreForward code 0 code) (apart : AreApart ts code) where
    pub ends : Ends ts code
    ends k (inl back) =
        true≢false (sym (forward_there code k back.instruction forward back.is) ∙ back.back)
    ends k (inr other) = apart k other

    pub settled : IsSettled ts code
    settled = record {
      few = orderly.few;
      cases = is.cases;
      scopes = is.scopes;
      functions = orderly.one_each;
      targets = is.targets;
      constants = is.constants;
      entries = orderly.good.entries;
      numbers = orderly.good.numbers;
      rules = orderly.good.rules;
      forward = forward;
    }

    pub shape_cause : (why : ShapeRefusal) → shapes.HasCause ts code why → CodeCause ts code (of_shapes why)
    shape_cause (shape_refusal.BadShape k) cause = (right, ends, cause)
    shape_cause shape_refusal.Memory cause = tt

    module _ (own : HasOwnShapes ts code) where
      comes_to : (a b : Owner) → (c : IsCallOf code own.0 a b) → MayComeTo ts code a c.place
      comes_to a b c = subst (λ (o : Owner). MayComeTo ts code o c.place) c.owner_is
          (own.1.owned c.place c.shape c.shape_is)

      call_is : (a b : Owner) → (c : IsCallOf code own.0 a b) → Calls ts code c.place a b
      call_is a b c = record {
        belongs = (comes_to a b c).belongs;
        instruction = c.instruction;
        instruction_is = c.instruction_is;
        calls = c.calls;
      }

      lead_on : (a b : Owner) → LeadTo code own.0 a b → LeadOn ts code a b
      lead_on a b (to.call c) = on.call c.place (call_is a b c)
      lead_on a d (to.chain {b} c rest) = on.chain c.place (call_is a b c) (lead_on b d rest)

      run_of : (a b : Owner) → LeadTo code own.0 a b → MayRun ts code a
      run_of a b (to.call c) = (comes_to a b c).may_run
      run_of a d (to.chain {b} c rest) = (comes_to a b c).may_run

      round : (a : Owner) → MayRun ts code a → LeadOn ts code a a → ⊥
      round a run leads = by a leads refl
        where
          by : (b : Owner) → LeadOn ts code a b → b ≡ a → ⊥
          by e (on.call k c) same =
              apart k (inr (record { caller = a; called = e; may_run = run; call = c; back = inl same }))
          by e (on.chain {b} k c rest) same = apart k (inr (record {
            caller = a;
            called = b;
            may_run = run;
            call = c;
            back = inr (subst (LeadOn ts code b) same rest);
          }))

      pub valid : IsValid ts code
      valid = (
        own.0,
        record {
          cases = is.cases;
          functions = orderly.one_each;
          targets = is.targets;
          constants = is.constants;
          entries = orderly.good.entries;
          numbers = orderly.good.numbers;
          rules = orderly.good.rules;
          shaped = own.1.shaped;
          tame = record { forward = forward; acyclic = λ a leads. round a (run_of a a leads) (lead_on a a leads) };
        },
      )

      pub good : IsGood ts code
      good = record { right = right; ends = ends; valid = valid }

-- ---- the whole image

module _ (image : Image) (told : Told) (is : IsTold image.tables told) (code : List Instr)
    (same : code ≡ image.instructions) where
  told_by : IsToldBy image told.tables
  told_by = record { right = is.right; tables_are = is.tables }

  numbered_image : IsRight told.tables code → IsNumbered image told.tables
  numbered_image right = record {
    told = told_by;
    numbered = subst (IsRight told.tables) same right;
  }

  ending_image : IsRight told.tables code → Ends told.tables code → IsEnding image told.tables
  ending_image right ends = record {
    numbered = numbered_image right;
    ending = subst (Ends told.tables) same ends;
  }

  pub code_cause : (why : VerifyRefusal) → CodeCause told.tables code why → HasCause image why
  code_cause (refusal.BadNumber k) cause =
      (told.tables, told_by, subst (λ (is : List Instr). IsBadNumber told.tables is k) same cause)
  code_cause (refusal.BadTable n) cause = absurd cause
  code_cause (refusal.Endless k) cause = (
    told.tables,
    numbered_image cause.0,
    subst (λ (is : List Instr). IsEndless told.tables is k) same cause.1,
  )
  code_cause (refusal.BadShape k) cause = (
    told.tables,
    ending_image cause.0 cause.1,
    subst (λ (is : List Instr). IsUnshaped told.tables is k) same cause.2,
  )
  code_cause refusal.Memory cause = tt

  pub verified : (made : Code) (files : List (List ℕ)) → IsGood told.tables code → made.tables ≡ told.tables
      → made.instructions ≡ code → files ≡ told.files → IsVerified image made files
  verified made files good tables_are instructions_are files_are = record {
    files_are = sym (files_are ∙ is.files);
    instructions = sym (instructions_are ∙ same);
    ending = subst (IsEnding image) (sym tables_are) (ending_image good.right good.ends);
    valid = subst (λ (ts : Tables). IsValid ts made.instructions) (sym tables_are)
        (subst (IsValid told.tables) (sym instructions_are) good.valid);
  }
