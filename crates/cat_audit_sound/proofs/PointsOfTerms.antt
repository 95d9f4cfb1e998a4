-- The valuation in which each term of a scope has the point of what it evaluates to.
use Rattle.std.proofs.Common.{◌≡◌, ℕ, zero, suc, ◌<◌, Bool, true, false, IsTrue, List, [], ◌∷◌}
use Rattle.std.proofs.Common.{length, Option, Some, None, Ok, Err, slice_get, refl, sym, ap, ◌∙◌, subst, arith}
use Rattle.std.proofs.Common.{if◌then◌else◌}
use Rattle.cat_value.specs.declared.outcome.Target.{Target}
use Rattle.cat_region.specs.declared.dim.Dim.{Dim}
use Rattle.cat_region.specs.declared.point.Point.{Point}
use Rattle.cat_region.specs.declared.point.Point.TheVariants.{Truth}
use Rattle.cat_region.specs.Points.{is_point, answer, default_point}
use Rattle.cat_region.specs.Regions.{Valuation, IsValuation, is_point_of}
use Rattle.cat_scope.specs.declared.defs.Def.{Def}
use Rattle.cat_scope.specs.Replies.{Reply}
use Rattle.cat_scope.specs.Names.{Names, AllHave, IsOneOf}
use Rattle.cat_scope.specs.Naming.{IsTargetAt}
use Rattle.cat_scope.specs.WellFormed.{DefTyped}
use Rattle.cat_scope.specs.Same.{Standing, kept}
use Rattle.cat_scope.specs.Eval.{Env, eval}
use Rattle.cat_sound.proofs.Exported.{all_more, same_gives}
use Rattle.cat_guard.specs.declared.table.Term.{Term}
use Rattle.cat_guard.specs.Numbering.{firsts}
use Rattle.cat_guard.specs.Questions.{Question}
use Rattle.cat_guard.specs.Terms.{same_term, same_question, term_of, terms_of, term_number, atom_of, atoms_of}
use Rattle.cat_guard.specs.Terms.{atom_number}
use Rattle.cat_guard.specs.Tables.{questions_of}
use Rattle.cat_guard.specs.Valuations.{dims_of, atom_answer, holds_at}
use Rattle.cat_guard.specs.PointValues.{point_of, point_or, point_at}
use Rattle.cat_guard.proofs.Exported.{firsts_all}
use Rattle.cat_audit_sound.specs.Evaluations.{any_values}
use Rattle.cat_audit_sound.proofs.AtomAnswers.{IsOfDef, targets_all}
use Rattle.cat_audit_sound.proofs.Numbered.{all_at}
use Rattle.cat_audit_sound.proofs.Lists.{all_mapped}
use Rattle.cat_audit_sound.proofs.Numbered.{numbered, get_map, all_are}
use Rattle.cat_audit_sound.proofs.SameSelf.{question_of_term, IsOneTerm, one_term, one_question}
use Rattle.cat_audit_sound.proofs.AtomAnswers.{params_agree, any_values_length, append_nil, alike_points}

-- the point of a term, where there is one: of what it evaluates to with any arguments
abbrev pub term_point : Env → Option Term → Point
term_point env None = Truth false
term_point env (Some term) = point_at term.dim (eval env term.expr (any_values term.params)).end

abbrev pub points_in : Env → List Term → Valuation
points_in env terms i = term_point env (slice_get terms i)

-- ---- points

point_is_of : (d : Dim) → IsTrue (is_point d (default_point d)) → (r : Reply) → IsTrue (is_point d (point_at d r))
point_is_of d default (Err s) = default
point_is_of d default (Ok v) = seen (point_of v)
  where
    chosen : (x : Point) (b : Bool) → is_point d x ≡ b → IsTrue (is_point d (if b then x else default_point d))
    chosen x true e = e
    chosen x false e = default

    seen : (o : Option Point) → IsTrue (is_point d (point_or d o))
    seen None = default
    seen (Some x) = chosen x (is_point d x) refl

points_are : (env : Env) (terms : List Term)
    → AllHave (λ term. IsTrue (is_point term.dim (default_point term.dim))) terms → (i : ℕ)
    → i < length (dims_of terms)
    → IsTrue (is_point_of (slice_get (dims_of terms) i) (term_point env (slice_get terms i)))
points_are env [] h i below = absurd (omega arith)
points_are env (term ∷ terms) h zero below =
    point_is_of term.dim h.0 (eval env term.expr (any_values term.params)).end
points_are env (term ∷ terms) h (suc i) below = points_are env terms h.1 i (omega arith)

module _ (ns : Names) (scope : ℕ) (defs : List Def) (typed : AllHave (DefTyped ns scope) defs)
    (targets : List Target) where
  abbrev pub qs : List Question
  qs = questions_of ns.decls defs targets

  abbrev Asked : Question → Type 0
  Asked q = IsOfDef ns scope defs typed targets q

  pub points_is : (env : Env) → IsValuation (dims_of (terms_of ns.items qs)) (points_in env (terms_of ns.items qs))
  points_is env =
      points_are env (terms_of ns.items qs)
      (all_mapped (λ term. IsTrue (is_point term.dim (default_point term.dim))) (term_of ns.items)
      (firsts same_term [] qs)
      (all_more Asked _ (firsts same_term [] qs)
      (firsts_all Asked same_term [] qs (targets_all ns scope defs typed targets targets))
      (λ q o. o.asked_of.inhabited)))

  module _ (env : Env) (self : (q : Question) → same_term q q ≡ true) where
    abbrev value_at : Question → Reply
    value_at q = (eval env q.expr (any_values q.standing.params)).end

    params_of : (q : Question) (o : Asked q) → q.standing.params ≡ length o.def_typed.params
    params_of q o = ap (λ (g : Standing). g.params) o.asked_of.standing_is ∙ o.def_typed.counted

    function_of : (q : Question) (o : Asked q) → q.standing.function ≡ o.def.target.item
    function_of q o = ap (λ (g : Standing). g.function) o.asked_of.standing_is

    same_params : (q r : Question) → Asked q → Asked r → q.standing.function ≡ r.standing.function
        → q.standing.params ≡ r.standing.params
    same_params q r o p e =
        params_of q o
        ∙ ap length (params_agree ns o.def.target.item o.def.target.inner p.def.target.inner o.def_typed.params
        p.def_typed.params o.def_typed.ty p.def_typed.ty o.def_typed.target
        (subst (λ (i : ℕ). IsTargetAt ns i p.def.target.inner p.def_typed.params p.def_typed.ty)
        (sym (sym (function_of q o) ∙ e ∙ function_of r p)) p.def_typed.target))
        ∙ sym (params_of r p)

    one_value : (q r : Question) → Asked q → Asked r → IsOneTerm q r → kept (value_at q) ≡ kept (value_at r)
    one_value q r o p one =
        let here = any_values q.standing.params in
        let there = any_values r.standing.params in
        let same = same_gives env q.standing r.standing q.expr r.expr here there [] one.tree
        (any_values_length q.standing.params) (any_values_length r.standing.params)
        (λ e. ap any_values (same_params q r o p e)) in
        ap (λ vs. kept (eval env q.expr vs).end) (sym (append_nil here))
        ∙ same.1 ∙ ap (λ vs. kept (eval env r.expr vs).end) (append_nil there)

    one_point : (q r : Question) → Asked q → Asked r → IsOneTerm q r
        → point_at q.dim (value_at q) ≡ point_at r.dim (value_at r)
    one_point q r o p one =
        ap (λ d. point_at d (value_at q)) one.dim
        ∙ alike_points r.dim (value_at q) (value_at r) (one_value q r o p one)

    abbrev at : Valuation
    at = points_in env (terms_of ns.items qs)

    -- the point of a question's term
    term_is : (q : Question) → IsOneOf q qs → Asked q → at (term_number qs q) ≡ point_at q.dim (value_at q)
    term_is q among o =
        let f = numbered same_term self qs q among in
        ap (term_point env)
        (get_map (term_of ns.items) (firsts same_term [] qs) (term_number qs q) f.value f.there)
        ∙ one_point f.value q
        (all_at Asked (firsts same_term [] qs) (term_number qs q) f.value
        (firsts_all Asked same_term [] qs (targets_all ns scope defs typed targets targets)) f.there) o
        (one_term f.value q f.is)

    -- the answer of a question's atom
    pub atom_is : (q : Question) → IsOneOf q qs → Asked q
        → holds_at (atoms_of qs) at (atom_number qs q) ≡ answer q.cut (point_at q.dim (value_at q))
    atom_is q among o =
        let f = numbered same_question (λ r. question_of_term r (self r)) qs q among in
        let one = one_question f.value q f.is in
        let here = all_at Asked (firsts same_question [] qs) (atom_number qs q) f.value
        (firsts_all Asked same_question [] qs (targets_all ns scope defs typed targets targets)) f.there in
        let also = all_at (λ x. IsOneOf x qs) (firsts same_question [] qs) (atom_number qs q) f.value
        (firsts_all (λ x. IsOneOf x qs) same_question [] qs (all_are qs)) f.there in
        ap (atom_answer at) (get_map (atom_of qs) (firsts same_question [] qs) (atom_number qs q) f.value f.there)
        ∙ ap (answer f.value.cut) (term_is f.value also here ∙ one_point f.value q here o one.0)
        ∙ ap (λ c. answer c (point_at q.dim (value_at q))) one.1
