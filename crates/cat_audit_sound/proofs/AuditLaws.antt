-- Scopes whose targets are covered by each valuation of their tables have no conflict and no gap.
use Rattle.std.proofs.Common.{◌≡◌, ℕ, Bool, true, false, IsTrue, List, length, Option}
use Rattle.std.proofs.Common.{Some}
use Rattle.std.proofs.Common.{None, Result, Ok, Err, slice_get, sym, ap, ◌∙◌, subst, arith, true≢false}
use Rattle.std.proofs.lemmas.Option.{slice_get_within}
use Rattle.std.proofs.Math.Logic.{∥∥₁_elim}
use Rattle.cat_order.specs.Order.{IsOrder}
use Rattle.cat_value.specs.declared.ty.Ty.{Ty}
use Rattle.cat_value.specs.declared.value.Value.{Value}
use Rattle.cat_value.specs.declared.decls.Decls.{Decls}
use Rattle.cat_value.specs.declared.declaration.ItemDecl.{ItemDecl}
use Rattle.cat_value.specs.declared.declaration.Scope.{Scope}
use Rattle.cat_value.specs.declared.outcome.Target.{Target}
use Rattle.cat_value.specs.Inputs.{IsWellTyped}
use Rattle.cat_region.specs.Regions.{Valuation, IsValuation}
use Rattle.cat_scope.specs.declared.stop.Stop.{Stop}
use Rattle.cat_scope.specs.declared.stop.Stop.TheVariants as stop
use Rattle.cat_scope.specs.declared.expr.Expr.{Expr}
use Rattle.cat_scope.specs.declared.defs.Body.{Body}
use Rattle.cat_scope.specs.Runs.{Run}
use Rattle.cat_scope.specs.Names.{Names, AllHave, IsOneOf, scope_items}
use Rattle.cat_scope.specs.Naming.{IsTargetAt}
use Rattle.cat_scope.specs.Orders.{item_dependencies}
use Rattle.cat_scope.specs.WellFormed.{DefTyped, IsBodyOf, IsWellFormed}
use Rattle.cat_scope.specs.Judging.{Held}
use Rattle.cat_scope.specs.Targets.{same_target, judge_target}
use Rattle.cat_scope.specs.Forests.{targets_of}
use Rattle.cat_scope.specs.Calls.{Items}
use Rattle.cat_scope.specs.Eval.{Env, eval}
use Rattle.cat_scope.specs.Running.{run_of}
use Rattle.cat_scope.specs.Outcomes.{outcome_of}
use Rattle.cat_sound.specs.Endings.{Allowed, IsEnd, Ended, EndsIn, IsOf, AreOf, AreOutputsOf}
use Rattle.cat_sound.specs.Settled.{IsHeldOf, StandsIn, MayStand, AreSettled, IsClosed}
use Rattle.cat_sound.specs.Settled.{may_be_empty as settled_empty}
use Rattle.cat_sound.proofs.Exported.{settled_programs, EndsIn-prop, body_at}
use Rattle.cat_sound.proofs.Exported.{target_listed}
use Rattle.cat_guard.specs.declared.table.TableTarget.{TableTarget}
use Rattle.cat_guard.specs.declared.table.Table.{Table}
use Rattle.cat_guard.specs.Questions.{Question}
use Rattle.cat_guard.specs.Terms.{terms_of}
use Rattle.cat_guard.specs.Tables.{questions_of, target_of, may_be_empty, IsTableOf}
use Rattle.cat_guard.specs.Soundness.{target_is_sound, is_sound}
use Rattle.cat_guard.specs.TableJudging.{Covers, decided}
use Rattle.cat_guard.specs.Valuations.{dims_of, holds_at}
use Rattle.cat_guard.proofs.Exported.{IsSoundTarget, sound_parts, targets_sound}
use Rattle.cat_audit_sound.specs.Evaluations.{valuation_of}
use Rattle.cat_audit_sound.specs.Follows.{Follows}
use Rattle.cat_audit_sound.specs.Audited.{MayDecide, IsTargetAudited, IsAudited, none_may_stop}
use Rattle.cat_audit_sound.specs.Audited.{IsValueOrFault}
use Rattle.cat_audit_sound.proofs.ListsFollow.{covered_follows}
use Rattle.cat_audit_sound.proofs.ScopeFollows.{of_mapped, valuation_is, target_follows}
use Rattle.cat_audit_sound.proofs.SameTargets.{no_function, same_empty}

-- ---- a target of a table

abbrev names : Decls → Scope → Names
names ds decl = record { decls = ds; items = decl.items }

abbrev listed_targets : Decls → ℕ → Scope → Body → List Target
listed_targets ds k decl body = targets_of ds k decl.items body.order

abbrev questions : Decls → ℕ → Scope → Body → List Question
questions ds k decl body = questions_of ds body.defs (listed_targets ds k decl body)

abbrev in_table : Decls → ℕ → Scope → Body → Target → TableTarget
in_table ds k decl body t = target_of ds decl.items body.defs (questions ds k decl body) t

-- what holds of the targets of a table holds of each target of the scope
pub table_target : (P : TableTarget → Type 0) (ds : Decls) (k : ℕ) (decl : Scope) (body : Body) (table : Table)
    → IsTableOf ds k decl body table → AllHave P table.targets → (t : Target)
    → IsOneOf t (listed_targets ds k decl body)
    → P (in_table ds k decl body t)
table_target P ds k decl body table is all t among =
    of_mapped P (in_table ds k decl body) (listed_targets ds k decl body) t (subst (AllHave P) is.targets_are all) among

module _ (ds : Decls) (k : ℕ) (decl : Scope) (body : Body) (table : Table)
    (typed : AllHave (DefTyped (names ds decl) k) body.defs)
    (ordered : IsOrder (item_dependencies decl.items body.defs) body.order) (is : IsTableOf ds k decl body table)
    (sound : IsTrue (is_sound table.terms table.atoms table.targets)) where
  module _ (allowed : Allowed) (env : Env) (item : ℕ) (inner : Option ℕ) (ps : List Ty) (t : Ty)
      (target : IsTargetAt (names ds decl) item inner ps t) (arguments : List Value) (are : AreOf ds ps arguments)
      (stand : AllHave (λ d. IsTrue (same_target d.target (record { scope = k; item = item; inner = inner }))
      → StandsIn allowed (names ds decl) env ps t d) body.defs) where
    abbrev here : Target
    here = record { scope = k; item = item; inner = inner }

    abbrev of : Expr → Run Value
    of e = eval env e arguments

    abbrev at : Valuation
    at = valuation_of env table.terms item arguments

    abbrev here_in_table : TableTarget
    here_in_table = in_table ds k decl body here

    listed : IsOneOf here (listed_targets ds k decl body)
    listed = target_listed (names ds decl) k body.defs body.order ordered item inner ps t target

    pub valuation : IsValuation (dims_of table.terms) at
    valuation =
        subst (λ terms. IsValuation (dims_of terms) (valuation_of env terms item arguments)) (sym is.terms_are)
        (valuation_is (names ds decl) k body.defs body.order typed env item arguments)

    sound_here : IsSoundTarget here_in_table
    sound_here =
        (sound_parts (length table.atoms) here_in_table
        (table_target (λ x. IsTrue (target_is_sound (length table.atoms) x)) ds k decl body table is
        (targets_sound table.terms table.atoms table.targets sound) here listed)).1

    pub follows : Follows (IsOf ds t) (IsEnd allowed) (judge_target of here body.defs).end
        (decided here_in_table (holds_at table.atoms at)).end
    follows =
        subst (λ terms. Follows (IsOf ds t) (IsEnd allowed) (judge_target of here body.defs).end
        (decided here_in_table (holds_at table.atoms (valuation_of env terms item arguments))).end) (sym is.terms_are)
        (subst (λ atoms. Follows (IsOf ds t) (IsEnd allowed) (judge_target of here body.defs).end
        (decided here_in_table (holds_at atoms
        (valuation_of env (terms_of decl.items (questions ds k decl body)) item arguments))).end)
        (sym is.atoms_are)
        (target_follows (names ds decl) k body.defs body.order typed allowed env item inner ps t target arguments are
        listed sound_here stand))

    -- where truth values cover the target, it stops inside alone
    pub covered_ends : Covers here_in_table (holds_at table.atoms at)
        → Ended allowed (IsHeldOf (settled_empty (names ds decl) item inner) ds t) (judge_target of here body.defs).end
    covered_ends covered =
        covered_follows (IsOf ds t) (IsEnd allowed) (may_be_empty ds (slice_get decl.items item) inner)
        (judge_target of here body.defs).end (decided here_in_table (holds_at table.atoms at)).end follows covered
        (Ended allowed (IsHeldOf (settled_empty (names ds decl) item inner) ds t)) (λ s inside. inside)
        (λ empty. subst IsTrue (same_empty (names ds decl) item inner) empty) (λ h has. has)

-- ---- audited scopes

held_of : (allowed : Allowed) (target : Target) (ds : Decls) (t : Ty) (r : Result (Option (Held Value)) Stop)
    (s : Result (Option (Held (Unit {0}))) Stop) → Follows (IsOf ds t) (IsEnd allowed) r s → MayDecide allowed target s
    → MayStand allowed target r
held_of allowed target ds t (Err x) s go may = tt
held_of allowed target ds t (Ok None) (Ok None) go may = may
held_of allowed target ds t (Ok None) (Ok (Some i)) go may = elim go [ ]
held_of allowed target ds t (Ok None) (Err x) go may = elim go [ ]
held_of allowed target ds t (Ok (Some h)) (Ok None) go may = elim go [ ]
held_of allowed target ds t (Ok (Some h)) (Ok (Some i)) go may =
    subst (λ p. IsTrue (allowed.may_decide target (Some p))) (sym go.2) may
held_of allowed target ds t (Ok (Some h)) (Err x) go may = elim go [ ]

pub audited_settled : (allowed : Allowed) (ds : Decls) (k : ℕ) (decl : Scope) (body : Body) (table : Table)
    → AllHave (DefTyped (names ds decl) k) body.defs → IsOrder (item_dependencies decl.items body.defs) body.order
    → IsAudited allowed ds k decl body table → AreSettled allowed (names ds decl) k body.defs
audited_settled allowed ds k decl body table typed ordered audited env arguments item inner ps t target are stand =
    let here : Target = record { scope = k; item = item; inner = inner } in
    let this = table_target (IsTargetAudited allowed table) ds k decl body table audited.table_is audited.targets here
    (target_listed (names ds decl) k body.defs body.order ordered item inner ps t target) in
    let at = valuation ds k decl body table typed ordered audited.table_is audited.sound allowed env item inner ps t
    target
    arguments are stand in record {
      ends = λ stops. covered_ends ds k decl body table typed ordered audited.table_is audited.sound allowed env item
          inner
          ps t target arguments are stand (this.covered stops (valuation_of env table.terms item arguments) at);
      stands = λ none. held_of allowed here ds t (judge_target (λ e. eval env e arguments) here body.defs).end
          (decided (in_table ds k decl body here)
          (holds_at table.atoms (valuation_of env table.terms item arguments))).end
          (follows ds k decl body table typed ordered audited.table_is audited.sound allowed env item inner ps t target
          arguments are stand)
          (this.decides (no_function (names ds decl) item inner ps t target none)
          (valuation_of env table.terms item arguments) at);
    }

abbrev or_this : {A : Type 0} → A → Option A → A
or_this a None = a
or_this a (Some b) = b

same_some : {A : Type 0} (a b : A) → Some a ≡ Some b → a ≡ b
same_some a b e = ap (or_this a) e

-- a scope of a well-formed program with its body
pub body_is : (ds : Decls) (bodies : List Body) (order : List ℕ) → IsWellFormed ds bodies order → (k : ℕ) (decl : Scope)
    (body : Body) → slice_get ds.scopes k ≡ Some decl → slice_get bodies k ≡ Some body → IsBodyOf ds k decl body
body_is ds bodies order formed k decl body at body_there =
    let b = body_at ds 0 ds.scopes bodies k formed.bodies_are (slice_get_within ds.scopes k decl at) in
    subst (λ (s : Scope). IsBodyOf ds k s body) (same_some b.scope decl (sym b.scope_is ∙ at))
    (subst (IsBodyOf ds k b.scope) (same_some b.body body (sym b.body_is ∙ body_there))
    (subst (λ (n : ℕ). IsBodyOf ds n b.scope b.body) (omega arith) b.is))

pub audited_programs : (allowed : Allowed) (within : ℕ → Bool) (tables : ℕ → Table) (ds : Decls) (bodies : List Body)
    (order : List ℕ) (scope : ℕ) (input : Items) → ∥ IsWellFormed ds bodies order ∥₁ → IsClosed within ds bodies
    → ((k : ℕ) (decl : Scope) (body : Body) → IsTrue (within k) → slice_get ds.scopes k ≡ Some decl
    → slice_get bodies k ≡ Some body → IsAudited allowed ds k decl body (tables k))
    → IsTrue (within scope) → IsWellTyped ds scope input
    → EndsIn allowed (AreOutputsOf ds (scope_items ds scope)) (run_of ds.scopes bodies order scope input)
audited_programs allowed within tables ds bodies order scope input formed closed audited inside typed =
    ∥∥₁_elim formed (EndsIn-prop allowed ds (scope_items ds scope) (run_of ds.scopes bodies order scope input))
    (λ is. settled_programs allowed within ds bodies order scope input formed closed
    (λ k decl body here at body_there.
    let b = body_is ds bodies order is k decl body at body_there in
    audited_settled allowed ds k decl body (tables k) b.defs b.order (audited k decl body here at body_there)) inside
    typed)

calm : (ds : Decls) (items : List ItemDecl) (r : Result (List Value) Stop)
    → Ended none_may_stop (AreOutputsOf ds items) r → IsValueOrFault (outcome_of r)
calm ds items (Ok outputs) h = tt
calm ds items (Err (stop.Conflict target positions)) h = true≢false (sym h)
calm ds items (Err (stop.NoValue target pos)) h = true≢false (sym h)
calm ds items (Err (stop.Fault fault pos)) h = tt
calm ds items (Err stop.Stuck) h = h

pub no_gap : (within : ℕ → Bool) (tables : ℕ → Table) (ds : Decls) (bodies : List Body) (order : List ℕ) (scope : ℕ)
    (input : Items) → ∥ IsWellFormed ds bodies order ∥₁ → IsClosed within ds bodies
    → ((k : ℕ) (decl : Scope) (body : Body) → IsTrue (within k) → slice_get ds.scopes k ≡ Some decl
    → slice_get bodies k ≡ Some body → IsAudited none_may_stop ds k decl body (tables k))
    → IsTrue (within scope) → IsWellTyped ds scope input
    → IsValueOrFault (outcome_of (run_of ds.scopes bodies order scope input).end)
no_gap within tables ds bodies order scope input formed closed audited inside typed =
    calm ds (scope_items ds scope) (run_of ds.scopes bodies order scope input).end
    (audited_programs none_may_stop within tables ds bodies order scope input formed closed audited inside typed).1
