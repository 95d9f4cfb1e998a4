-- The judging of a target of a scope follows its guards in the table of the scope, at the valuation of the judging.
use Rattle.std.proofs.Common.{◌≡◌, inl, inr, ℕ, zero, suc, ◌<◌, nat_eq, Bool, true, false, ◌&&◌, IsTrue, List}
use Rattle.std.proofs.Common.{[], ◌∷◌}
use Rattle.std.proofs.Common.{map, length, Option, Some, None, Ok, Err, slice_get, refl, sym, ap, ◌∙◌}
use Rattle.std.proofs.Common.{subst}
use Rattle.std.proofs.Common.{arith, true≢false, if◌then◌else◌}
use Rattle.std.proofs.lemmas.Bool.Decides.{nat_tests}
use Rattle.cat_value.specs.declared.ty.Ty.{Ty}
use Rattle.cat_value.specs.declared.value.Value.{Value}
use Rattle.cat_value.specs.declared.decls.Decls.{Decls}
use Rattle.cat_value.specs.declared.outcome.Target.{Target}
use Rattle.cat_region.specs.declared.dim.Dim.{Dim}
use Rattle.cat_region.specs.declared.point.Point.{Point}
use Rattle.cat_region.specs.Points.{is_point, answer, default_point}
use Rattle.cat_region.specs.Regions.{Valuation, IsValuation, is_point_of}
use Rattle.cat_scope.specs.declared.expr.Expr.{Expr}
use Rattle.cat_scope.specs.declared.defs.Def.{Def}
use Rattle.cat_scope.specs.Replies.{Reply}
use Rattle.cat_scope.specs.Runs.{Run}
use Rattle.cat_scope.specs.Names.{Names, AllHave, IsOneOf}
use Rattle.cat_scope.specs.Naming.{IsTargetAt}
use Rattle.cat_scope.specs.WellFormed.{ConditionTyped, DefTyped}
use Rattle.cat_scope.specs.Groups.{Numbered}
use Rattle.cat_scope.specs.Same.{Standing}
use Rattle.cat_scope.specs.Targets.{same_inner, same_target, defs_from, condition_of, judge_target}
use Rattle.cat_scope.specs.Forests.{targets_of}
use Rattle.cat_scope.specs.Eval.{Env, eval}
use Rattle.cat_sound.specs.Endings.{Allowed, IsEnd, IsOf, AreOf, IsEnvOf}
use Rattle.cat_sound.specs.Settled.{InCondition, StandsIn}
use Rattle.cat_sound.proofs.Exported.{defs-all, stands_end}
use Rattle.cat_guard.specs.declared.table.Term.{Term}
use Rattle.cat_guard.specs.declared.table.Atom.{Atom}
use Rattle.cat_guard.specs.Formulas.{truth, asked, renamed}
use Rattle.cat_guard.specs.GuardFormulas.{formula_of}
use Rattle.cat_guard.specs.Numbering.{firsts}
use Rattle.cat_guard.specs.Questions.{Question, condition_guard}
use Rattle.cat_guard.specs.Terms.{same_term, term_of, terms_of, atoms_of, atom_number}
use Rattle.cat_guard.specs.Tables.{standing_of, def_formula, questions_of, guard_def}
use Rattle.cat_guard.specs.Tables.{target_of}
use Rattle.cat_guard.specs.PointValues.{point_of, point_or, point_at}
use Rattle.cat_guard.specs.TableJudging.{decided}
use Rattle.cat_guard.specs.Valuations.{dims_of, holds_at}
use Rattle.cat_guard.proofs.Exported.{truth_renamed, truth_same, formula_of_guard_tree, all_and, IsSoundTarget}
use Rattle.cat_guard.proofs.Exported.{firsts_all}
use Rattle.cat_audit_sound.specs.Evaluations.{answered, any_values, term_point, arguments_for, valuation_of}
use Rattle.cat_audit_sound.specs.Follows.{Follows}
use Rattle.cat_audit_sound.proofs.ConditionsTell.{Tells, tells_as, tells_Boolean}
use Rattle.cat_audit_sound.proofs.GuardAnswers.{among_defs, among_targets}
use Rattle.cat_audit_sound.proofs.GuardTells.{guard_told}
use Rattle.cat_audit_sound.proofs.AskedTypes.{IsAskedOf, condition_asked}
use Rattle.cat_audit_sound.proofs.Numbered.{all_are}
use Rattle.cat_audit_sound.proofs.AtomAnswers.{IsOfDef, targets_all, atom_is}
use Rattle.cat_audit_sound.proofs.DefFollows.{def_goes}
use Rattle.cat_audit_sound.proofs.TargetFollows.{DefGoes, target_goes}

-- ---- the valuation of a judging is one

point_is_of : (d : Dim) → IsTrue (is_point d (default_point d)) → (r : Reply) → IsTrue (is_point d (point_at d r))
point_is_of d default (Err s) = default
point_is_of d default (Ok v) = seen (point_of v)
  where
    chosen : (x : Point) (b : Bool) → is_point d x ≡ b → IsTrue (is_point d (if b then x else default_point d))
    chosen x true e = e
    chosen x false e = default

    seen : (o : Option Point) → IsTrue (is_point d (point_or d o))
    seen None = default
    seen (Some x) = chosen x (is_point d x) refl

valuation_at : (env : Env) (item : ℕ) (arguments : List Value) (terms : List Term)
    → AllHave (λ term. IsTrue (is_point term.dim (default_point term.dim))) terms → (i : ℕ) → i < length (dims_of terms)
    → IsTrue (is_point_of (slice_get (dims_of terms) i) (term_point env item arguments (slice_get terms i)))
valuation_at env item arguments [] h i below = absurd (omega arith)
valuation_at env item arguments (term ∷ terms) h zero below =
    point_is_of term.dim h.0 (eval env term.expr (arguments_for item arguments term)).end
valuation_at env item arguments (term ∷ terms) h (suc i) below =
    valuation_at env item arguments terms h.1 i (omega arith)

all_mapped : {A B : Type 0} (P : B → Type 0) (f : A → B) (xs : List A) → AllHave (λ x. P (f x)) xs
    → AllHave P (map f xs)
all_mapped P f [] h = tt
all_mapped P f (x ∷ xs) h = (h.0, all_mapped P f xs h.1)

pub of_mapped : {A B : Type 0} (P : B → Type 0) (f : A → B) (xs : List A) (x : A) → AllHave P (map f xs) → IsOneOf x xs
    → P (f x)
of_mapped P f [] x h among = elim among [ ]
of_mapped P f (y ∷ ys) x h (inl e) = subst (λ z. P (f z)) (sym e) h.0
of_mapped P f (y ∷ ys) x h (inr more) = of_mapped P f ys x h.1 more

all_kept : {A : Type 0} (P Q : A → Type 0) (xs : List A) → AllHave P xs → ((x : A) → P x → Q x) → AllHave Q xs
all_kept P Q [] h go = tt
all_kept P Q (x ∷ xs) h go = (go x h.0, all_kept P Q xs h.1 go)

are_length : (ds : Decls) (ps : List Ty) (vs : List Value) → AreOf ds ps vs → length vs ≡ length ps
are_length ds [] [] h = refl
are_length ds [] (v ∷ vs) h = elim h [ ]
are_length ds (p ∷ ps) [] h = elim h [ ]
are_length ds (p ∷ ps) (v ∷ vs) h = ap suc (are_length ds ps vs h.1)

-- ---- a scope

module _ (ns : Names) (scope : ℕ) (defs : List Def) (order : List ℕ) (typed : AllHave (DefTyped ns scope) defs) where
  abbrev targets : List Target
  targets = targets_of ns.decls scope ns.items order

  abbrev qs : List Question
  qs = questions_of ns.decls defs targets

  abbrev terms : List Term
  terms = terms_of ns.items qs

  abbrev atoms : List Atom
  atoms = atoms_of qs

  pub valuation_is : (env : Env) (item : ℕ) (arguments : List Value)
      → IsValuation (dims_of terms) (valuation_of env terms item arguments)
  valuation_is env item arguments =
      valuation_at env item arguments terms
      (all_mapped (λ term. IsTrue (is_point term.dim (default_point term.dim))) (term_of ns.items)
      (firsts same_term [] qs)
      (all_kept (IsOfDef ns scope defs typed targets) _ (firsts same_term [] qs)
      (firsts_all (IsOfDef ns scope defs typed targets) same_term [] qs
      (targets_all ns scope defs typed targets targets))
      (λ q o. o.asked_of.inhabited)))

  -- a target that is judged in an environment
  module _ (allowed : Allowed) (env : Env) (item : ℕ) (inner : Option ℕ) (ps : List Ty) (t : Ty)
      (target : IsTargetAt ns item inner ps t) (arguments : List Value) (are : AreOf ns.decls ps arguments) where
    abbrev here : Target
    here = record { scope = scope; item = item; inner = inner }

    abbrev of : Expr → Run Value
    of e = eval env e arguments

    abbrev at : Valuation
    at = valuation_of env terms item arguments

    abbrev holds : ℕ → Bool
    holds = holds_at atoms at

    abbrev Stands : Def → Type 0
    Stands d = StandsIn allowed ns env ps t d

    number_same : (a b : ℕ) → nat_eq a b ≡ true → a ≡ b
    number_same a b h = grind (arith, nat_tests)

    item_same : (d : Def) → IsTrue (same_target d.target here) → d.target.item ≡ item
    item_same d h = by (nat_eq d.target.item item) refl h
      where
        by : (b : Bool) → nat_eq d.target.item item ≡ b → IsTrue (b && same_inner d.target.inner inner)
            → d.target.item ≡ item
        by true e g = number_same d.target.item item e
        by false e g = absurd (true≢false (sym g))

    -- the answers of a definition's atoms
    answers_are : (d : Numbered) → IsTrue (same_target d.1.target here) → IsOneOf d (defs_from here 0 defs)
        → IsOneOf here targets → DefTyped ns scope d.1
        → AllHave (λ q. holds (atom_number qs q) ≡ answered (λ e. (of e).end) q) (asked (def_formula ns.decls d.1))
    answers_are d same among listed is =
        go (asked (def_formula ns.decls d.1)) (λ q h. h)
        (condition_asked ns is.params (standing_of d.1) d.1.condition is.condition)
      where
        one : (n m : ℕ) → n ≡ m → nat_eq n m ≡ true
        one n m e = grind (arith, nat_tests)

        own : (q : Question) → q.standing.function ≡ item
            → (if nat_eq q.standing.function item then arguments else any_values q.standing.params) ≡ arguments
        own q e =
            ap (λ b. if b then arguments else any_values q.standing.params) (one q.standing.function item e)

        each : (q : Question) → IsOneOf q (asked (def_formula ns.decls d.1)) → IsOfDef ns scope defs typed targets q
            → q.standing ≡ standing_of d.1 → holds (atom_number qs q) ≡ answered (λ e. (of e).end) q
        each q asks o standing =
            atom_is ns scope defs typed targets env item inner ps t target arguments
            (are_length ns.decls ps arguments are) q
            (among_targets ns.decls defs targets here q listed
            (among_defs ns.decls (defs_from here 0 defs) d q among asks)) o
            ∙ ap (λ vs. answer q.cut (point_at q.dim (eval env q.expr vs).end))
            (own q (ap (λ (g : Standing). g.function) standing ∙ item_same d.1 same))

        go : (xs : List Question) → ((q : Question) → IsOneOf q xs → IsOneOf q (asked (def_formula ns.decls d.1)))
            → AllHave (IsAskedOf ns is.params (standing_of d.1)) xs
            → AllHave (λ q. holds (atom_number qs q) ≡ answered (λ e. (of e).end) q) xs
        go [] inside h = tt
        go (x ∷ xs) inside h = (
          each x (inside x (inl refl)) (record { def = d.1; def_typed = is; asked_of = h.0 }) h.0.standing_is,
          go xs (λ q more. inside q (inr more)) h.1,
        )

    condition_tells : (g : Standing) (o : Option Expr) → ConditionTyped ns ps o → InCondition (IsEnvOf allowed ns env) o
        → Tells (condition_of of o).end (truth (answered (λ e. (of e).end)) (condition_guard ns.decls g o))
    condition_tells g None is has = tells_Boolean true
    condition_tells g (Some e) is has = guard_told allowed ns env ps arguments are g e is has

    abbrev Ready : Def → Type 0
    Ready d = IsTrue (same_target d.target here) × Stands d × DefTyped ns scope d

    each_goes : IsOneOf here targets → (sound : IsSoundTarget (target_of ns.decls ns.items defs qs here))
        → (d : Numbered) → Ready d.1 → IsOneOf d (defs_from here 0 defs)
        → DefGoes (IsOf ns.decls t) (IsEnd allowed) ns.decls ns.items defs qs here of holds sound d
    each_goes listed sound d ready among =
        def_goes allowed ns.decls t of d (truth holds (formula_of (guard_def ns.decls qs d).guard))
        (stands_end allowed ns env ps t arguments are d.1 ready.1)
        (tells_as (condition_of of d.1.condition).end (condition_of of d.1.condition).end _
        (truth (answered (λ e. (of e).end)) (def_formula ns.decls d.1)) refl
        (ap (truth holds) (formula_of_guard_tree (renamed (atom_number qs) (def_formula ns.decls d.1)))
        ∙ truth_renamed (atom_number qs) holds (def_formula ns.decls d.1)
        ∙ truth_same (λ q. holds (atom_number qs q)) (answered (λ e. (of e).end)) (def_formula ns.decls d.1)
        (answers_are d ready.0 among listed ready.2))
        (condition_tells (standing_of d.1) d.1.condition ready.1.condition ready.1.condition_env))

    pub target_follows : IsOneOf here targets → IsSoundTarget (target_of ns.decls ns.items defs qs here)
        → AllHave (λ d. IsTrue (same_target d.target here) → Stands d) defs
        → Follows (IsOf ns.decls t) (IsEnd allowed) (judge_target of here defs).end
        (decided (target_of ns.decls ns.items defs qs here) holds).end
    target_follows listed sound stand =
        target_goes (IsOf ns.decls t) (IsEnd allowed) ns.decls ns.items defs qs here of holds sound
        (all_and (λ d. Ready d.1) (λ d. IsOneOf d (defs_from here 0 defs))
        (DefGoes (IsOf ns.decls t) (IsEnd allowed) ns.decls ns.items defs qs here of holds sound)
        (defs_from here 0 defs)
        (defs-all Ready here 0 defs
        (all_and (λ d. IsTrue (same_target d.target here) → Stands d) (DefTyped ns scope)
        (λ d. IsTrue (same_target d.target here) → Ready d) defs stand typed (λ d h k same. (same, h same, k))))
        (all_are (defs_from here 0 defs)) (each_goes listed sound))
