-- What the code of a scope stands on: its terms are typed and placed, and its parts stand in the code.
use Rattle.std.proofs.Common.{◌≡◌, ℕ, zero, suc, ◌+◌, ◌<◌, Bool, true, false, true≢false, not, ◌&&◌, ◌||◌, IfSome}
use Rattle.std.proofs.Common.{IsTrue, List, [], ◌∷◌, length, Option, Some, None, refl, sym, subst, slice_get}
use Rattle.cat_order.specs.Order.{times}
use Rattle.cat_value.specs.declared.ty.Ty.{Ty}
use Rattle.cat_value.specs.declared.ty.Ty.TheVariants.{Boolean}
use Rattle.cat_value.specs.declared.value.Value.{Value}
use Rattle.cat_value.specs.declared.declaration.Kind.{Kind}
use Rattle.cat_value.specs.declared.declaration.Kind.TheVariants as kind
use Rattle.cat_value.specs.declared.declaration.ItemDecl.{ItemDecl}
use Rattle.cat_value.specs.Inputs.{must_be_given}
use Rattle.cat_value.specs.declared.outcome.Target.{Target}
use Rattle.cat_scope.specs.declared.expr.Expr.{Expr}
use Rattle.cat_scope.specs.declared.defs.Assertion.{Assertion}
use Rattle.cat_scope.specs.Runs.{Run}
use Rattle.cat_scope.specs.Judging.{Held}
use Rattle.cat_scope.specs.Names.{AllHave, Names, is_called, is_function, has_none}
use Rattle.cat_scope.specs.Naming.{IsTargetAt, is_defined}
use Rattle.cat_scope.specs.HasType.{HasType}
use Rattle.cat_scope.specs.Expected.{lists_placed}
use Rattle.cat_scope.specs.WellFormed.{is_placed, is_internal}
use Rattle.cat_scope.specs.Composed.{Meaning}
use Rattle.cat_scope.specs.Eval.{eval}
use Rattle.cat_scope.specs.Calls.{Items, Scoped, env_of}
use Rattle.cat_calc.specs.declared.term.DefaultTerm.{DefaultTerm}
use Rattle.cat_calc.specs.Terms.{conditions_in, consequences_in}
use Rattle.cat_calc.specs.WellFormed.{TermTyped}
use Rattle.cat_calc.specs.Reducing.{term_of}
use Rattle.cat_code.specs.declared.instr.Instr.{Instr}
use Rattle.cat_code.specs.declared.code.TargetEntry.{TargetEntry}
use Rattle.cat_code.specs.declared.code.Tables.{Tables}
use Rattle.cat_code.specs.Places.{case_places}
use Rattle.cat_lower.specs.Laying.{Ends, Coded}
use Rattle.cat_lower.specs.Rows.{Standing, function_number}
use Rattle.cat_lower.specs.Terms.{TermStanding}
use Rattle.cat_lower.specs.Expressions.{lowered}
use Rattle.cat_lower.specs.Scopes.{ScopeStanding, function_code}
use Rattle.cat_lower.specs.Lowered.{body_code}
use Rattle.cat_lower.specs.Stands.{Has}
use Rattle.cat_lower.proofs.TypesAgree.{both_so}
use Rattle.cat_lower.proofs.Doing.{Does}
use Rattle.cat_lower.proofs.Adding.{DoesAt}
use Rattle.cat_lower.proofs.AddingTerms.{C, V}
use Rattle.cat_lower.proofs.DoingRows.{CallsAre}
use Rattle.cat_lower.proofs.ScopeCalls.{RunsAre}
use Rattle.cat_lower.proofs.ExpressionsDo.{does}
use Rattle.cat_lower.proofs.TargetsDo.{TermDoes, IsDoing}

-- a term that is typed, with empty lists only where a type is expected, and whose definitions stand at their numbers
pub record TermSound (tables : Tables) (base : ℕ) (names : Names) (params : List Ty) (ty : Ty)
    (term : DefaultTerm) : Type 0 where
  pub typed : TermTyped names params ty term
  pub conditions : AllHave (λ e. lists_placed e false ≡ true) (conditions_in term)
  pub consequences : AllHave (λ h. lists_placed h.value true ≡ true) (consequences_in term)
  pub numbered : AllHave (λ h. slice_get tables.definitions (base + h.number) ≡ Some h.pos) (consequences_in term)

-- an assertion that is typed, with empty lists only where a type is expected
pub record AssertionSound (names : Names) (a : Assertion) : Type 0 where
  pub typed : HasType names [] a.condition Boolean
  pub placed : lists_placed a.condition false ≡ true

-- a scope whose terms and assertions are so, and whose order has each item once
pub record ScopeSound (tables : Tables) (at : ScopeStanding) : Type 0 where
  pub terms : (target : Target) (params : List Ty) (ty : Ty)
      → IsTargetAt at.here.names target.item target.inner params ty
      → IfSome (term_of at.scope.terms target) (TermSound tables at.here.definitions at.here.names params ty)
  pub assertions : AllHave (AssertionSound at.here.names) at.scope.assertions
  pub placed : AllHave (λ item. IsTrue (is_placed item)) at.here.names.items
  pub below : AllHave (λ k. k < length at.here.names.items) at.scope.order
  pub once : (k : ℕ) → k < length at.here.names.items → times at.scope.order k ≡ 1

-- a function stands at its entry
pub record FunctionLaid (tables : Tables) (code : List Instr) (at : ScopeStanding) (f : ℕ)
    (decl : ItemDecl) : Type 0 where
  pub ends : Ends
  pub entry : slice_get tables.functions (function_number at.here f) ≡ Some ends.place
  pub body : Has tables code ends (function_code at f decl ends)

-- a scope stands at its entry, and its functions at theirs
pub record ScopeLaid (tables : Tables) (code : List Instr) (at : ScopeStanding) : Type 0 where
  pub functions : (f : ℕ) (decl : ItemDecl) → slice_get at.here.names.items f ≡ Some decl → is_function decl ≡ true
      → FunctionLaid tables code at f decl
  pub ends : Ends
  pub entry : slice_get tables.scopes at.number ≡ Some ends.place
  pub body : Has tables code ends (body_code at ends)

pub all_at : {A : Type 0} (P : A → Type 0) (xs : List A) (k : ℕ) (x : A) → AllHave P xs → slice_get xs k ≡ Some x → P x
all_at P [] k x h is = absurd (cc is)
all_at P (y ∷ xs) zero x h is = let same : y ≡ x = cc is in subst P same h.0
all_at P (y ∷ xs) (suc k) x h is = all_at P xs k x h.1 is

internal_is_defined : (k : Kind) → is_internal k ≡ true → (not (is_called k) && not (must_be_given k)) ≡ true
internal_is_defined kind.Internal is = refl
internal_is_defined kind.Input is = absurd (true≢false (sym is))
internal_is_defined kind.Output is = absurd (true≢false (sym is))
internal_is_defined kind.Context is = absurd (true≢false (sym is))
internal_is_defined kind.InputOutput is = absurd (true≢false (sym is))
internal_is_defined kind.ContextOutput is = absurd (true≢false (sym is))
internal_is_defined (kind.Called c) is = absurd (true≢false (sym is))

-- a function is internal, and so it has definitions
pub function_is_defined : (item : ItemDecl) → is_placed item ≡ true → is_function item ≡ true → is_defined item ≡ true
function_is_defined item placed function =
    by (has_none item.params) (both_so (not (is_called item.kind)) (not (has_none item.params)) function).1
    (both_so (has_none item.params || is_internal item.kind) _ placed).0
  where
    by : (b : Bool) → not b ≡ true → (b || is_internal item.kind) ≡ true → is_defined item ≡ true
    by true none internal = absurd (true≢false (sym none))
    by false none internal = internal_is_defined item.kind internal

module _ (tables : Tables) (code : List Instr) (items : Items) (here : Standing) (scoped : Scoped)
    (calls : ℕ → List Value → Run Value)
    (same : tables.decls ≡ here.names.decls) (cases : tables.cases ≡ case_places 0 here.names.decls.enumerations)
    (rounded : here.rounding ≡ scoped.rounding) (called : scoped.scopes ≡ here.names.decls.scopes)
    (calls_are : CallsAre tables code (function_number here) here.names.items items calls)
    (runs_are : RunsAre tables code scoped.runs)
    (locals : List Value) (types : List Ty) (deep : length locals ≡ length types) where
  -- what the expressions come to
  abbrev pub meant : Expr → Run Value
  meant e = eval (env_of scoped calls items) e locals

  at_locals : (m : Meaning) (a : Coded) → Does tables code items m (length types) a
      → DoesAt tables code items locals here.definitions (m locals) a
  at_locals m a d ends has s agree k next = d ends has locals deep s agree k next

  module _ (v : ℕ) (type : Ty) (target : TargetEntry) (there : slice_get tables.targets v ≡ Some target) where
    abbrev at : TermStanding
    at = record { here = here; target = v; type = type; locals = types }

    conditions_do : (es : List Expr) → AllHave (λ e. HasType here.names types e Boolean) es
        → AllHave (λ e. lists_placed e false ≡ true) es
        → AllHave (C tables code items locals at target there meant) es
    conditions_do [] h p = tt
    conditions_do (e ∷ es) h p = (
      at_locals (eval (env_of scoped calls items) e) ((lowered here e).code types None)
          (does tables code items here scoped calls same cases rounded called calls_are runs_are h.0 None tt p.0),
      conditions_do es h.1 p.1,
    )

    consequences_do : (hs : List (Held Expr)) → AllHave (λ h. HasType here.names types h.value type) hs
        → AllHave (λ h. lists_placed h.value true ≡ true) hs
        → AllHave (λ h. slice_get tables.definitions (here.definitions + h.number) ≡ Some h.pos) hs
        → AllHave (V tables code items locals at target there meant) hs
    consequences_do [] h p n = tt
    consequences_do (x ∷ xs) h p n = (
      record {
        does = at_locals (eval (env_of scoped calls items) x.value) ((lowered here x.value).code types (Some type))
            (does tables code items here scoped calls same cases rounded called calls_are runs_are h.0
            (Some type) refl p.0);
        placed = n.0;
      },
      consequences_do xs h.1 p.1 n.1,
    )

    term_does : (term : DefaultTerm) → TermSound tables here.definitions here.names types type term
        → TermDoes tables code items locals here types meant v type target there term
    term_does term sound = record {
      conditions = conditions_do (conditions_in term) sound.typed.conditions sound.conditions;
      consequences = consequences_do (consequences_in term) sound.typed.consequences sound.consequences sound.numbered;
    }

  -- the expressions of a term do what they mean
  pub is_doing : (type : Ty) (target : TargetEntry) (o : Option DefaultTerm)
      → IfSome o (TermSound tables here.definitions here.names types type)
      → IsDoing tables code items locals here types meant type target o
  is_doing type target None sound = tt
  is_doing type target (Some term) sound = λ v there. term_does v type target there term sound
