-- A definition of a target that holds at no valuation decides in no run.
use Rattle.std.proofs.Common.{◌≡◌, ℕ, ◌+◌, nat_eq, Bool, true, false, not, ◌&&◌, if◌then◌else◌, IsTrue, List, [], ◌∷◌}
use Rattle.std.proofs.Common.{◌++◌, map}
use Rattle.std.proofs.Common.{Option, Some, None, Result, Ok, Err, slice_get, refl, sym, ap, ◌∙◌, subst, true≢false}
use Rattle.std.specs.Prelude.{◌≢◌}
use Rattle.std.proofs.Math.Logic.{∥∥₁_elim}
use Rattle.cat_pos.specs.declared.pos.Pos.{Pos}
use Rattle.cat_order.specs.Order.{dependencies_of}
use Rattle.cat_value.specs.declared.decls.Decls.{Decls}
use Rattle.cat_value.specs.declared.declaration.Scope.{Scope}
use Rattle.cat_value.specs.declared.outcome.Target.{Target}
use Rattle.cat_value.specs.declared.value.Value.{Value}
use Rattle.cat_value.specs.declared.declaration.ItemDecl.{ItemDecl}
use Rattle.cat_value.specs.declared.declaration.Kind.{Kind}
use Rattle.cat_value.specs.declared.declaration.Kind.TheVariants as kind
use Rattle.cat_value.specs.Inputs.{IsWellTyped, may_be_given, must_be_given}
use Rattle.cat_region.proofs.Exported.{and-both}
use Rattle.cat_scope.specs.declared.defs.Body.{Body}
use Rattle.cat_scope.specs.declared.programs.Program.{Program}
use Rattle.cat_scope.specs.declared.stop.Stop.{Stop}
use Rattle.cat_scope.specs.Calls.{Items}
use Rattle.cat_scope.specs.Eval.{eval}
use Rattle.cat_scope.specs.Judging.{Held, held_position}
use Rattle.cat_scope.specs.Names.{AllHave, scope_items}
use Rattle.cat_scope.specs.Orders.{scope_dependencies}
use Rattle.cat_scope.specs.Runs.{Decider}
use Rattle.cat_scope.specs.Forests.{called_targets, targets_at, item_targets, targets_of}
use Rattle.cat_scope.specs.Running.{run_of, scope_run}
use Rattle.cat_scope.specs.Targets.{same_target, judge_target}
use Rattle.cat_scope.specs.WellFormed.{IsWellFormed}
use Rattle.cat_sound.specs.Endings.{Allowed, IsDecision, EndsIn, AreOutputsOf}
use Rattle.cat_sound.specs.Settled.{MayStand, AreSettled, ScopesSettled, IsClosed}
use Rattle.cat_sound.proofs.Exported.{everywhere, settled_programs, EndsIn-prop}
use Rattle.cat_guard.specs.declared.table.Table.{Table}
use Rattle.cat_guard.specs.declared.table.TableTarget.{TableTarget}
use Rattle.cat_guard.specs.Soundness.{is_sound}
use Rattle.cat_guard.specs.Tables.{IsTableOf, TablesScope, questions_of, target_of}
use Rattle.cat_guard.specs.TableJudging.{decided}
use Rattle.cat_guard.specs.Valuations.{holds_at}
use Rattle.cat_guard.proofs.Exported.{all_more}
use Rattle.cat_audit_sound.specs.Audited.{MayDecide, IsTargetAudited}
use Rattle.cat_audit_sound.proofs.AuditLaws.{audited_settled, body_is}
use Rattle.cat_dead.specs.NeverDecides.{IsOther, IsHeldElsewhere, HoldsNowhere, NeverDecides}
use Rattle.cat_dead.specs.Winners.{is_same}
use Rattle.cat_dead.proofs.HeldLaws.{same_self, some_same}
use Rattle.cat_dead.proofs.SameParts.{is_that, nat_is, same_is, that_is, that_self}

-- ---- what a log may hold

-- it is decided by a definition that stands there
abbrev is_by : Pos → Option Pos → Bool
is_by p None = false
is_by p (Some q) = is_same p q

-- a log may hold anything but that definition of that target
abbrev but_for : Target → Pos → Allowed
but_for target p =
    record { may_stop = λ t. true; may_decide = λ t by. not (is_that target t && is_by p by) }

-- another definition isn't that one
by_other : (p : Pos) (o : Option Pos) → o ≢ Some p → is_by p o ≡ false
by_other p None other = refl
by_other p (Some q) other = by (is_same p q) refl
  where
    by : (b : Bool) → is_same p q ≡ b → b ≡ false
    by true h = absurd (other (ap Some (sym (same_is p q h))))
    by false h = refl

-- ---- what the log of a run tells

other_decider : (target : Target) (p : Pos) (d : Decider) → IsDecision (but_for target p) d → IsOther target p d
other_decider target p d may is by =
    let that : is_that target d.target ≡ true =
    subst (λ (t : Target). is_that target t ≡ true) (sym is) (that_self target) in
    let named : is_by p d.by ≡ true = subst (λ (o : Option Pos). is_by p o ≡ true) (sym by) (same_self p) in
    true≢false (sym may ∙ ap not (and-both (is_that target d.target) (is_by p d.by) that named))

other_deciders : (target : Target) (p : Pos) (log : List Decider) → AllHave (IsDecision (but_for target p)) log
    → AllHave (IsOther target p) log
other_deciders target p log all =
    all_more (IsDecision (but_for target p)) (IsOther target p) log all (other_decider target p)

-- ---- the scopes of a program

module _ (table : Table) (t : TableTarget) (p : Pos) where
  -- a target with the same number holds with no such definition either
  abbrev pub SameElsewhere : TableTarget → Type 0
  SameElsewhere u = u.target ≡ t.target → HoldsNowhere table u p

  may : (u : TableTarget) → SameElsewhere u → (r : Result (Option (Held (Unit {0}))) Stop)
      → (u.target ≡ t.target → IsHeldElsewhere p r) → MayDecide (but_for t.target p) u.target r
  may u same (Err s) elsewhere = tt
  may u same (Ok found) elsewhere = by (is_that t.target u.target) refl
    where
      by : (b : Bool) → is_that t.target u.target ≡ b → not (b && is_by p (held_position found)) ≡ true
      by true that = ap not (by_other p (held_position found) (elsewhere (sym (that_is t.target u.target that))))
      by false that = refl

  target_audited : (u : TableTarget) → SameElsewhere u → IsTargetAudited (but_for t.target p) table u
  target_audited u same = record {
    covered = λ stops. absurd (true≢false stops);
    decides = λ plain v is. may u same (decided u (holds_at table.atoms v)).end (λ one. same one v is);
  }

  -- another scope's targets may be decided as they are
  other_scope : (target : Target) → nat_eq t.target.scope target.scope ≡ false → (r : Result (Option (Held Value)) Stop)
      → MayStand (but_for t.target p) target r
  other_scope target other (Err s) = tt
  other_scope target other (Ok found) =
      ap (λ b. not ((b && same_target t.target target) && is_by p (held_position found))) other

  module _ (ds : Decls) (bodies : List Body) (order : List ℕ) (formed : IsWellFormed ds bodies order) (decl : Scope)
      (body : Body) (decl_is : slice_get ds.scopes table.scope ≡ Some decl)
      (body_there : slice_get bodies table.scope ≡ Some body) (is : IsTableOf ds table.scope decl body table)
      (sound : IsTrue (is_sound table.terms table.atoms table.targets)) (here : t.target.scope ≡ table.scope)
      (all : AllHave SameElsewhere table.targets) where
    own : AreSettled (but_for t.target p) (record { decls = ds; items = decl.items }) table.scope body.defs
    own =
        let b = body_is ds bodies order formed table.scope decl body decl_is body_there in
        audited_settled (but_for t.target p) ds table.scope decl body table b.defs b.order (record {
          table_is = is;
          sound = sound;
          targets = all_more SameElsewhere (IsTargetAudited (but_for t.target p) table) table.targets all
              target_audited;
        })

    each : (k : ℕ) (scope : Scope) (there : Body) → slice_get ds.scopes k ≡ Some scope
        → slice_get bodies k ≡ Some there
        → AreSettled (but_for t.target p) (record { decls = ds; items = scope.items }) k there.defs
    each k scope there scope_is there_is = by (nat_eq t.target.scope k) refl
      where
        by : (b : Bool) → nat_eq t.target.scope k ≡ b
            → AreSettled (but_for t.target p) (record { decls = ds; items = scope.items }) k there.defs
        by true same =
            let number : table.scope ≡ k = sym here ∙ nat_is t.target.scope k same in
            let scopes : scope ≡ decl =
            some_same scope decl (sym scope_is ∙ ap (slice_get ds.scopes) (sym number) ∙ decl_is) in
            let bodies_are : there ≡ body =
            some_same there body (sym there_is ∙ ap (slice_get bodies) (sym number) ∙ body_there) in
            rw (scopes, bodies_are, sym number) own
        by false other = λ env arguments item inner ps ty target are stand. record {
          ends = λ stops. absurd (true≢false stops);
          stands = λ none. other_scope (record { scope = k; item = item; inner = inner }) other
              (judge_target (λ e. eval env e arguments) (record { scope = k; item = item; inner = inner })
              there.defs).end;
        }

    settled : ScopesSettled (but_for t.target p) (λ k. true) ds bodies
    settled k scope there inside scope_is there_is = each k scope there scope_is there_is

    closed : IsClosed (λ k. true) ds bodies
    closed k inside = everywhere (dependencies_of (scope_dependencies ds.scopes bodies) k)

    pub run_ends : (input : Items) → IsWellTyped ds table.scope input
        → EndsIn (but_for t.target p) (AreOutputsOf ds (scope_items ds table.scope))
        (run_of ds.scopes bodies order table.scope input)
    run_ends input typed =
        settled_programs (but_for t.target p) (λ k. true) ds bodies order table.scope input (∣ formed ∣₁) closed settled
        refl typed

-- ---- targets of a table

all_both : {A : Type 0} (P : A → Type 0) (xs ys : List A) → AllHave P xs → AllHave P ys → AllHave P (xs ++ ys)
all_both P [] ys h k = k
all_both P (x ∷ xs) ys h k = (h.0, all_both P xs ys h.1 k)

abbrev IsIn : ℕ → Target → Type 0
IsIn k t = t.scope ≡ k

called_in : (k item n : ℕ) (items : List ItemDecl) → AllHave (IsIn k) (called_targets k item n items)
called_in k item n [] = tt
called_in k item n (inner ∷ rest) = by (may_be_given inner.kind) (called_in k item (n + 1) rest)
  where
    by : (b : Bool) → AllHave (IsIn k) (called_targets k item (n + 1) rest)
        → AllHave (IsIn k) (if b then record { scope = k; item = item; inner = Some n }
        ∷ called_targets k item (n + 1) rest else called_targets k item (n + 1) rest)
    by true more = (refl, more)
    by false more = more

plain_in : (k item : ℕ) (b : Bool)
    → AllHave (IsIn k) (if b then [] else record { scope = k; item = item; inner = None } ∷ [])
plain_in k item true = tt
plain_in k item false = (refl, tt)

kind_in : (ds : Decls) (k item : ℕ) (d : Kind) → AllHave (IsIn k) (targets_at ds k item d)
kind_in ds k item (kind.Called called) = called_in k item 0 (scope_items ds called)
kind_in ds k item d = plain_in k item (must_be_given d)

item_in : (ds : Decls) (k item : ℕ) (o : Option ItemDecl) → AllHave (IsIn k) (item_targets ds k item o)
item_in ds k item None = tt
item_in ds k item (Some decl) = kind_in ds k item decl.kind

targets_in : (ds : Decls) (k : ℕ) (items : List ItemDecl) (order : List ℕ)
    → AllHave (IsIn k) (targets_of ds k items order)
targets_in ds k items [] = tt
targets_in ds k items (item ∷ order) =
    all_both (IsIn k) (item_targets ds k item (slice_get items item)) (targets_of ds k items order)
    (item_in ds k item (slice_get items item)) (targets_in ds k items order)

mapped : {A B : Type 0} (P : B → Type 0) (f : A → B) (xs : List A) → AllHave (λ x. P (f x)) xs → AllHave P (map f xs)
mapped P f [] all = tt
mapped P f (x ∷ xs) all = (all.0, mapped P f xs all.1)

-- the targets of a scope's table are of that scope
table_in : (ds : Decls) (k : ℕ) (decl : Scope) (body : Body) (table : Table) → IsTableOf ds k decl body table
    → AllHave (λ u. u.target.scope ≡ k) table.targets
table_in ds k decl body table is =
    subst (AllHave (λ (u : TableTarget). u.target.scope ≡ k)) (sym is.targets_are)
    (mapped (λ (u : TableTarget). u.target.scope ≡ k)
    (target_of ds decl.items body.defs (questions_of ds body.defs (targets_of ds k decl.items body.order)))
    (targets_of ds k decl.items body.order) (targets_in ds k decl.items body.order))

-- ---- a program

module _ (program : Program) (table : Table)
    (formed : ∥ IsWellFormed program.decls program.bodies program.scope_order ∥₁)
    (tabled : TablesScope program table.scope table)
    (sound : IsTrue (is_sound table.terms table.atoms table.targets)) (p : Pos) where
  -- a target decides nothing there that holds nowhere
  abbrev pub Dies : TableTarget → Type 0
  Dies t = HoldsNowhere table t p → AllHave (SameElsewhere table t p) table.targets → NeverDecides program table t p

  dies : (t : TableTarget) → t.target.scope ≡ table.scope → Dies t
  dies t here nowhere all = record {
    runs = λ input typed. other_deciders t.target p (scope_run program table.scope input).log
        (∥∥₁_elim formed (EndsIn-prop (but_for t.target p) program.decls (scope_items program.decls table.scope)
        (run_of program.decls.scopes program.bodies program.scope_order table.scope input))
        (λ f. run_ends table t p program.decls program.bodies program.scope_order f tabled.0 tabled.1 tabled.2 tabled.3
        tabled.4 sound here all input typed)).0;
    judgings = nowhere;
  }

  pub targets_die : AllHave Dies table.targets
  targets_die =
      all_more (λ u. u.target.scope ≡ table.scope) Dies table.targets
      (table_in program.decls table.scope tabled.0 tabled.1 table tabled.4) dies
