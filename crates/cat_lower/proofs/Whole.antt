-- The code of a calculus gives what the calculus gives.
use Rattle.std.proofs.Common.{◌≡◌, ◌≢◌, ℕ, zero, suc, ◌+◌, ◌<◌, Bool, true, false, true≢false, not, ◌&&◌, IfSome}
use Rattle.std.proofs.Common.{IsTrue, List, [], ◌∷◌, length, Option, Some, None, Result, Err, refl, sym, ap, ◌∙◌, subst}
use Rattle.std.proofs.Common.{slice_get, arith}
use Rattle.cat_value.specs.declared.ty.Ty.{Ty}
use Rattle.cat_value.specs.declared.value.Value.{Value}
use Rattle.cat_value.specs.declared.decls.Decls.{Decls}
use Rattle.cat_value.specs.declared.declaration.ItemDecl.{ItemDecl}
use Rattle.cat_value.specs.declared.declaration.Scope.{Scope}
use Rattle.cat_value.specs.Inputs.{must_be_given, may_be_given, are_given_for, IsWellTyped}
use Rattle.cat_value.specs.Typing.{has_type}
use Rattle.cat_scope.specs.declared.stop.Stop.{Stop}
use Rattle.cat_scope.specs.declared.stop.Stop.TheVariants.{Stuck}
use Rattle.cat_scope.specs.Outcomes.{outcome_of}
use Rattle.cat_sound.specs.Endings.{IsOutcomeOf}
use Rattle.cat_scope.specs.declared.defs.Assertion.{Assertion}
use Rattle.cat_scope.specs.Names.{AllHave, Names, scope_items, items_in}
use Rattle.cat_scope.specs.Expected.{lists_placed}
use Rattle.cat_scope.specs.WellFormed.{AssertionTyped}
use Rattle.cat_scope.specs.Calls.{Items}
use Rattle.cat_scope.specs.Running.{backwards}
use Rattle.cat_calc.specs.declared.term.DefaultTerm.{DefaultTerm}
use Rattle.cat_calc.specs.declared.calcs.CalcScope.{CalcScope}
use Rattle.cat_calc.specs.declared.calcs.Calc.{Calc}
use Rattle.cat_calc.specs.Terms.{consequences_in}
use Rattle.cat_calc.specs.Reducing.{term_of}
use Rattle.cat_calc.specs.Calculus.{calc_run, run_of_terms}
use Rattle.cat_calc.specs.WellFormed.{AreCalcScopes, IsCalc, IsCalcScope, StandBehind, TermPlaced, TermTyped}
use Rattle.cat_calc.proofs.Exported.{calculi_end}
use Rattle.cat_code.specs.declared.code.Code.{Code}
use Rattle.cat_code.specs.declared.code.Tables.{Tables}
use Rattle.cat_code.specs.Runs.{Gives}
use Rattle.cat_code.proofs.InputLemmas.{taken}
use Rattle.cat_lower.specs.Definitions.{definitions_of}
use Rattle.cat_lower.specs.Lowered.{IsCodeOf, calc_laid, none, standing}
use Rattle.cat_lower.specs.Stands.{HasAt, Has}
use Rattle.cat_lower.proofs.TypesAgree.{both_so}
use Rattle.cat_lower.proofs.Slots.{AreGivable}
use Rattle.cat_lower.proofs.ScopeTerms.{TermSound, AssertionSound, ScopeSound}
use Rattle.cat_lower.proofs.ScopesDo.{ScopeStands, gives_the_same}
use Rattle.cat_lower.proofs.DefinitionsPlaced.{in_items, definitions_stand, of_target}
use Rattle.cat_lower.proofs.LaidScopes.{at_behind, all_laid}

has_shift : {A : Type 0} (x : A) (xs ys : List A) (n : ℕ) → HasAt xs n ys → HasAt (x ∷ xs) (suc n) ys
has_shift x xs [] n h = tt
has_shift x xs (y ∷ ys) n h =
    let e : suc (n + 1) ≡ suc n + 1 = omega arith in
    (h.0, subst (λ m. HasAt (x ∷ xs) m ys) e (has_shift x xs ys (n + 1) h.1))

pub has_self : {A : Type 0} (xs : List A) → HasAt xs 0 xs
has_self [] = tt
has_self (x ∷ xs) = (refl, has_shift x xs xs 0 (has_self xs))

-- all of a list stand in an equal one
pub has_all : {A : Type 0} (all xs : List A) → all ≡ xs → HasAt all 0 xs
has_all all xs is = subst (λ l. HasAt l 0 xs) (sym is) (has_self xs)

-- ---- what holds of a scope of a calculus

pub scope_at : (ds : Decls) (scopes : List Scope) (all : List CalcScope) (n : ℕ) (scope : Scope) (terms : CalcScope)
    → AreCalcScopes ds scopes all
    → slice_get scopes n ≡ Some scope → slice_get all n ≡ Some terms → IsCalcScope ds scope terms
scope_at ds [] all n scope terms are is terms_are = absurd (cc is)
scope_at ds (s ∷ scopes) [] n scope terms are is terms_are = absurd are
scope_at ds (s ∷ scopes) (t ∷ all) zero scope terms are is terms_are =
    let same : s ≡ scope = cc is in
    let alike : t ≡ terms = cc terms_are in
    subst (λ s. IsCalcScope ds s terms) same (subst (λ t. IsCalcScope ds s t) alike are.0)
scope_at ds (s ∷ scopes) (t ∷ all) (suc n) scope terms are is terms_are =
    scope_at ds scopes all n scope terms are.1 is terms_are

pub terms_for : (ds : Decls) (scopes : List Scope) (all : List CalcScope) (n : ℕ) (scope : Scope)
    → AreCalcScopes ds scopes all
    → slice_get scopes n ≡ Some scope → (terms : CalcScope) × (slice_get all n ≡ Some terms)
terms_for ds [] all n scope are is = absurd (cc is)
terms_for ds (s ∷ scopes) [] n scope are is = absurd are
terms_for ds (s ∷ scopes) (t ∷ all) zero scope are is = (t, refl)
terms_for ds (s ∷ scopes) (t ∷ all) (suc n) scope are is = terms_for ds scopes all n scope are.1 is

pub all_below : (bound : ℕ) (needs : ℕ → List ℕ) (before order : List ℕ) → StandBehind bound needs before order
    → AllHave (λ k. k < bound) order
all_below bound needs before [] h = tt
all_below bound needs before (n ∷ order) h = (h.0, all_below bound needs (n ∷ before) order h.2)

all_mapped : {A : Type 0} (P Q : A → Type 0) (xs : List A) → ((x : A) → P x → Q x) → AllHave P xs → AllHave Q xs
all_mapped P Q [] go h = tt
all_mapped P Q (x ∷ xs) go h = (go x h.0, all_mapped P Q xs go h.1)

assertions_sound : (names : Names) (all : List Assertion) → AllHave (AssertionTyped names) all
    → AllHave (λ a. IsTrue (lists_placed a.condition false)) all → AllHave (AssertionSound names) all
assertions_sound names [] h p = tt
assertions_sound names (a ∷ all) h p = (record { typed = h.0; placed = p.0 }, assertions_sound names all h.1 p.1)

term_sound : (tables : Tables) (base : ℕ) (names : Names) (params : List Ty) (ty : Ty) (o : Option DefaultTerm)
    → IfSome o (TermTyped names params ty) → IfSome o TermPlaced
    → ((term : DefaultTerm) → o ≡ Some term
    → AllHave (λ h. slice_get tables.definitions (base + h.number) ≡ Some h.pos) (consequences_in term))
    → IfSome o (TermSound tables base names params ty)
term_sound tables base names params ty None typed lists numbered = tt
term_sound tables base names params ty (Some term) typed lists numbered =
    record {
      typed = typed;
      conditions = lists.conditions;
      consequences = lists.consequences;
      numbered =
          numbered term refl;
    }

pub scope_sound : (tables : Tables) (ds : Decls) (n functions definitions : ℕ) (scope : Scope) (terms : CalcScope)
    → IsCalcScope ds scope terms
    → HasAt tables.definitions definitions (definitions_of terms.terms [])
    → ScopeSound tables (standing ds n functions definitions scope terms)
scope_sound tables ds n functions definitions scope terms is placed =
    let names : Names = record { decls = ds; items = scope.items } in
    let all = all_mapped (λ h. slice_get (definitions_of terms.terms []) h.number ≡ Some h.pos)
    (λ h. slice_get tables.definitions (definitions + h.number) ≡ Some h.pos) (in_items terms.terms)
    (λ h there. at_behind tables.definitions definitions (definitions_of terms.terms []) h.number h.pos placed there)
    (definitions_stand terms.terms is.numbers) in
    record {
      terms = λ target params ty at.
          term_sound tables definitions names params ty (term_of terms.terms target) (is.typed target params ty at)
          (is.lists target params ty at)
          (λ term there. of_target
          (λ h. slice_get tables.definitions (definitions + h.number) ≡ Some h.pos) terms.terms target.item
          target.inner term there all);
      assertions = assertions_sound names terms.assertions is.assertions is.assertion_lists;
      placed = is.placed;
      below = all_below (length scope.items) _ [] terms.order is.order.behind;
      once = is.order.once;
    }

-- ---- a well-typed input

is_out : (b : Bool) → not b ≡ true → b ≡ false
is_out true e = absurd (true≢false (sym e))
is_out false e = refl

givable_input : (ds : Decls) (items : List ItemDecl) (input : Items) → IsTrue (are_given_for ds items input)
    → AreGivable items input
givable_input ds [] [] given = tt
givable_input ds [] (o ∷ input) given = absurd (true≢false (sym given))
givable_input ds (item ∷ items) [] given = absurd (true≢false (sym given))
givable_input ds (item ∷ items) (None ∷ input) given =
    let parts = both_so (not (must_be_given item.kind)) (are_given_for ds items input) given in
    (is_out (must_be_given item.kind) parts.0, givable_input ds items input parts.1)
givable_input ds (item ∷ items) (Some v ∷ input) given =
    let parts = both_so (may_be_given item.kind && has_type ds v item.ty) (are_given_for ds items input) given in
    ((both_so (may_be_given item.kind) (has_type ds v item.ty) parts.0).0, givable_input ds items input parts.1)

-- ---- the code of a calculus

module _ (calc : Calc) (code : Code) (low : IsCodeOf calc code)
    (formed : IsCalc calc.decls calc.scopes calc.scope_order) where
  stands : (n : ℕ) (scope : Scope) (terms : CalcScope) → slice_get calc.decls.scopes n ≡ Some scope
      → slice_get calc.scopes n ≡ Some terms
      → ScopeStands code.tables code.instructions calc.decls n scope terms
  stands n scope terms is are =
      let has : Has code.tables code.instructions none (calc_laid calc).code = record {
        instructions = has_all code.instructions (calc_laid calc).code.instructions low.instructions;
        constants = has_all code.tables.constants (calc_laid calc).code.constants low.constants;
        positions = has_all code.tables.positions (calc_laid calc).code.positions low.positions;
        targets = has_all code.tables.targets (calc_laid calc).code.targets low.targets;
      } in
      let there = all_laid code.tables code.instructions calc.decls calc.decls.scopes calc.scopes 0 0 0 none has
      (has_all code.tables.functions (calc_laid calc).functions low.functions)
      (has_all code.tables.scopes (calc_laid calc).scopes low.scopes)
      (has_all code.tables.definitions (calc_laid calc).definitions low.definitions) n scope terms is are in
      let number : 0 + n ≡ n = omega arith in
      subst (λ k. ScopeStands code.tables code.instructions calc.decls k scope terms) number
      (record {
        functions = there.functions;
        definitions = there.definitions;
        sound = scope_sound code.tables calc.decls (0 + n) there.functions there.definitions scope terms
            (scope_at calc.decls calc.decls.scopes calc.scopes n scope terms formed.scopes_are is are) there.placed;
        laid = there.laid;
      })

  -- for each scope and each input of it, where the calculus isn't stuck
  gives_ending : (n : ℕ) (input : Items) → IsWellTyped calc.decls n input → (calc_run calc n input).end ≢ Err Stuck
      → Gives code.tables code.instructions n input (calc_run calc n input)
  unfolding run_of_terms
  gives_ending n input typed ends =
      let met = taken calc.decls n input typed in
      let terms = terms_for calc.decls calc.decls.scopes calc.scopes n met.scope formed.scopes_are met.is in
      let there = stands n met.scope terms.0 met.is terms.1 in
      gives_the_same code.tables code.instructions calc.decls calc.scopes low.decls low.cases stands
      (backwards calc.scope_order) n input
      (subst (λ (l : List ItemDecl). AreGivable l input)
      (sym (ap (λ (d : Decls). scope_items d n) low.decls ∙ ap items_in met.is))
      (givable_input calc.decls met.scope.items input met.given))
      there.laid.ends.place there.laid.entry ends

-- a run that has an outcome isn't stuck
not_stuck : (ds : Decls) (items : List ItemDecl) (end : Result (List Value) Stop)
    → IsOutcomeOf ds items (outcome_of end) → end ≢ Err Stuck
not_stuck ds items end is stuck = subst (λ e. IsOutcomeOf ds items (outcome_of e)) stuck is

-- for each scope and each input of it the code gives the run of the calculus
pub lowered_gives : (calc : Calc) (code : Code) → IsCodeOf calc code → IsCalc calc.decls calc.scopes calc.scope_order
    → (n : ℕ) (input : Items)
    → IsWellTyped calc.decls n input → Gives code.tables code.instructions n input (calc_run calc n input)
lowered_gives calc code low formed n input typed =
    gives_ending calc code low formed n input typed
    (not_stuck calc.decls (scope_items calc.decls n) (calc_run calc n input).end
    (calculi_end calc.decls calc.scopes calc.scope_order calc.well_formed n input typed))
