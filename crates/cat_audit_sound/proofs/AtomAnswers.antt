-- At the valuation of a judging each atom of a target's guards answers as the judging's own evaluation does.
use Rattle.std.proofs.Common.{◌≡◌, ℕ, zero, suc, nat_eq, Bool, true, false, ◌&&◌, not, IsTrue, List, [], ◌∷◌, ◌++◌}
use Rattle.std.proofs.Common.{length}
use Rattle.std.proofs.Common.{Option, Some, None, Ok, Err, refl, sym, ap, ◌∙◌, subst, arith}
use Rattle.std.proofs.Common.{true≢false}
use Rattle.std.proofs.Common.{if◌then◌else◌}
use Rattle.std.proofs.lemmas.Bool.Decides.{nat_tests}
use Rattle.cat_value.specs.declared.ty.Ty.{Ty}
use Rattle.cat_value.specs.declared.value.Value.{Value}
use Rattle.cat_value.specs.declared.declaration.Kind.{Kind}
use Rattle.cat_value.specs.declared.declaration.Kind.TheVariants as kind
use Rattle.cat_value.specs.declared.declaration.ItemDecl.{ItemDecl}
use Rattle.cat_value.specs.declared.outcome.Target.{Target}
use Rattle.cat_region.specs.declared.dim.Dim.{Dim}
use Rattle.cat_region.specs.Points.{answer}
use Rattle.cat_region.specs.Regions.{Valuation}
use Rattle.cat_scope.specs.declared.defs.Def.{Def}
use Rattle.cat_scope.specs.Replies.{Reply}
use Rattle.cat_scope.specs.Names.{Names, AllHave, IsOneOf, is_called}
use Rattle.cat_scope.specs.Naming.{IsTargetAt}
use Rattle.cat_scope.specs.Groups.{Numbered}
use Rattle.cat_scope.specs.Targets.{same_target, defs_from}
use Rattle.cat_scope.specs.WellFormed.{DefTyped}
use Rattle.cat_scope.specs.Same.{Standing, kept}
use Rattle.cat_scope.specs.Eval.{Env, eval}
use Rattle.cat_sound.proofs.Exported.{defs-all, same_gives}
use Rattle.cat_guard.specs.Formulas.{asked}
use Rattle.cat_guard.specs.Numbering.{firsts}
use Rattle.cat_guard.specs.Questions.{Question}
use Rattle.cat_guard.specs.Terms.{same_term, same_question, term_of, terms_of, term_number, atom_of, atoms_of}
use Rattle.cat_guard.specs.Terms.{atom_number}
use Rattle.cat_guard.specs.Tables.{standing_of, def_formula, defs_questions, questions_of}
use Rattle.cat_guard.specs.Valuations.{atom_answer, holds_at}
use Rattle.cat_guard.specs.PointValues.{point_at}
use Rattle.cat_audit_sound.specs.Evaluations.{any_values, term_point, valuation_of}
use Rattle.cat_audit_sound.proofs.AskedTypes.{IsAskedOf, condition_asked}
use Rattle.cat_scope.proofs.Exported.{all_append}
use Rattle.cat_guard.proofs.Exported.{firsts_all}
use Rattle.cat_audit_sound.proofs.Numbered.{numbered, all_at, get_map, all_are}
use Rattle.cat_audit_sound.proofs.SameSelf.{term_self, question_self, IsOneTerm, one_term, one_question}

-- ---- parameters of targets of one item

abbrev or_this : {A : Type 0} → A → Option A → A
or_this a None = a
or_this a (Some b) = b

same_some : {A : Type 0} (a b : A) → Some a ≡ Some b → a ≡ b
same_some a b e = ap (or_this a) e

not_called : (decl : ItemDecl) (scope : ℕ) (rest : Bool) → IsTrue (not (is_called decl.kind) && rest)
    → decl.kind ≡ kind.Called scope → ⊥
not_called decl scope rest h e = true≢false (sym (subst (λ (k : Kind). IsTrue (not (is_called k) && rest)) e h))

pub params_agree : (ns : Names) (item : ℕ) (inner other : Option ℕ) (ps qs : List Ty) (t u : Ty)
    → IsTargetAt ns item inner ps t → IsTargetAt ns item other qs u → ps ≡ qs
params_agree ns item None None ps qs t u h g =
    h.params_are ∙ ap (λ (i : ItemDecl). i.params) (same_some h.decl g.decl (sym h.decl_is ∙ g.decl_is))
    ∙ sym g.params_are
params_agree ns item (Some n) (Some m) ps qs t u h g = h.params_are ∙ sym g.params_are
params_agree ns item None (Some m) ps qs t u h g =
    absurd (not_called h.decl g.scope _ h.defined
    (ap (λ (i : ItemDecl). i.kind) (same_some h.decl g.called (sym h.decl_is ∙ g.called_is)) ∙ g.kind_is))
params_agree ns item (Some n) None ps qs t u h g =
    absurd (not_called g.decl h.scope _ g.defined
    (ap (λ (i : ItemDecl). i.kind) (same_some g.decl h.called (sym g.decl_is ∙ h.called_is)) ∙ h.kind_is))

-- ---- values for names

pub any_values_length : (n : ℕ) → length (any_values n) ≡ n
any_values_length zero = refl
any_values_length (suc n) = ap suc (any_values_length n)

pub append_nil : (vs : List Value) → vs ++ [] ≡ vs
append_nil [] = refl
append_nil (v ∷ vs) = ap (λ ws. v ∷ ws) (append_nil vs)

-- the point of what has the same value or none is the same
pub alike_points : (d : Dim) (r s : Reply) → kept r ≡ kept s → point_at d r ≡ point_at d s
alike_points d (Ok v) (Ok w) h = ap (λ x. point_at d (Ok x)) (same_some v w h)
alike_points d (Ok v) (Err stop) h = absurd (cc)
alike_points d (Err stop) (Ok w) h = absurd (cc)
alike_points d (Err stop) (Err other) h = refl

module _ (ns : Names) (scope : ℕ) (defs : List Def) (typed : AllHave (DefTyped ns scope) defs)
    (targets : List Target) where
  abbrev pub qs : List Question
  qs = questions_of ns.decls defs targets

  -- a question of a definition of the scope
  pub record IsOfDef (q : Question) : Type 0 where
    pub def : Def
    pub def_typed : DefTyped ns scope def
    pub asked_of : IsAskedOf ns def_typed.params (standing_of def) q

  pub def_all : (d : Def) → DefTyped ns scope d → AllHave IsOfDef (asked (def_formula ns.decls d))
  def_all d h = go (asked (def_formula ns.decls d))
      (condition_asked ns h.params (standing_of d) d.condition h.condition)
    where
      go : (xs : List Question) → AllHave (IsAskedOf ns h.params (standing_of d)) xs → AllHave IsOfDef xs
      go [] all = tt
      go (x ∷ xs) all = (record { def = d; def_typed = h; asked_of = all.0 }, go xs all.1)

  defs_all : (ds : List Numbered) → AllHave (λ (d : Numbered). DefTyped ns scope d.1) ds
      → AllHave IsOfDef (defs_questions ns.decls ds)
  defs_all [] h = tt
  defs_all (d ∷ ds) h =
      all_append IsOfDef (asked (def_formula ns.decls d.1)) (defs_questions ns.decls ds) (def_all d.1 h.0)
      (defs_all ds h.1)

  any_target : (t : Target) (ds : List Def) → AllHave (DefTyped ns scope) ds
      → AllHave (λ d. IsTrue (same_target d.target t) → DefTyped ns scope d) ds
  any_target t [] h = tt
  any_target t (d ∷ ds) h = ((λ same. h.0), any_target t ds h.1)

  pub targets_all : (ts : List Target) → AllHave IsOfDef (questions_of ns.decls defs ts)
  targets_all [] = tt
  targets_all (t ∷ ts) =
      all_append IsOfDef (defs_questions ns.decls (defs_from t 0 defs)) (questions_of ns.decls defs ts)
      (defs_all (defs_from t 0 defs) (defs-all (DefTyped ns scope) t 0 defs (any_target t defs typed))) (targets_all ts)

  -- a target of the scope that is judged with some arguments
  module _ (env : Env) (item : ℕ) (inner : Option ℕ) (ps : List Ty) (t : Ty) (target : IsTargetAt ns item inner ps t)
      (arguments : List Value) (many : length arguments ≡ length ps) where
    abbrev pub given : Standing → List Value
    given g = if nat_eq g.function item then arguments else any_values g.params

    abbrev pub value_at : Question → Reply
    value_at q = (eval env q.expr (given q.standing)).end

    params_of : (q : Question) (o : IsOfDef q) → q.standing.params ≡ length o.def_typed.params
    params_of q o = ap (λ (g : Standing). g.params) o.asked_of.standing_is ∙ o.def_typed.counted

    function_of : (q : Question) (o : IsOfDef q) → q.standing.function ≡ o.def.target.item
    function_of q o = ap (λ (g : Standing). g.function) o.asked_of.standing_is

    same_params : (q r : Question) → IsOfDef q → IsOfDef r → q.standing.function ≡ r.standing.function
        → q.standing.params ≡ r.standing.params
    same_params q r o p e =
        params_of q o
        ∙ ap length (params_agree ns o.def.target.item o.def.target.inner p.def.target.inner o.def_typed.params
        p.def_typed.params o.def_typed.ty p.def_typed.ty o.def_typed.target
        (subst (λ (i : ℕ). IsTargetAt ns i p.def.target.inner p.def_typed.params p.def_typed.ty)
        (sym (sym (function_of q o) ∙ e ∙ function_of r p)) p.def_typed.target))
        ∙ sym (params_of r p)

    own_params : (q : Question) → IsOfDef q → q.standing.function ≡ item → q.standing.params ≡ length ps
    own_params q o e =
        params_of q o
        ∙ ap length (params_agree ns item o.def.target.inner inner o.def_typed.params ps o.def_typed.ty t
        (subst (λ (i : ℕ). IsTargetAt ns i o.def.target.inner o.def_typed.params o.def_typed.ty)
        (sym (function_of q o) ∙ e) o.def_typed.target) target)

    given_length : (q : Question) → IsOfDef q → length (given q.standing) ≡ q.standing.params
    given_length q o = by (nat_eq q.standing.function item) refl
      where
        by : (b : Bool) → nat_eq q.standing.function item ≡ b
            → length (if b then arguments else any_values q.standing.params) ≡ q.standing.params
        by true e = many ∙ sym (own_params q o (grind (arith, nat_tests)))
        by false e = any_values_length q.standing.params

    given_same : (q r : Question) → IsOfDef q → IsOfDef r → q.standing.function ≡ r.standing.function
        → given q.standing ≡ given r.standing
    given_same q r o p e =
        ap (λ (f : ℕ). if nat_eq f item then arguments else any_values q.standing.params) e
        ∙ ap (λ (n : ℕ). if nat_eq r.standing.function item then arguments else any_values n) (same_params q r o p e)

    one_value : (q r : Question) → IsOfDef q → IsOfDef r → IsOneTerm q r → kept (value_at q) ≡ kept (value_at r)
    one_value q r o p one =
        let same = same_gives env q.standing r.standing q.expr r.expr (given q.standing) (given r.standing) [] one.tree
        (given_length q o) (given_length r p) (given_same q r o p) in
        ap (λ vs. kept (eval env q.expr vs).end) (sym (append_nil (given q.standing)))
        ∙ same.1 ∙ ap (λ vs. kept (eval env r.expr vs).end) (append_nil (given r.standing))

    one_point : (q r : Question) → IsOfDef q → IsOfDef r → IsOneTerm q r
        → point_at q.dim (value_at q) ≡ point_at r.dim (value_at r)
    one_point q r o p one =
        ap (λ d. point_at d (value_at q)) one.dim
        ∙ alike_points r.dim (value_at q) (value_at r) (one_value q r o p one)

    abbrev pub at : Valuation
    at = valuation_of env (terms_of ns.items qs) item arguments

    -- the point of a question's term
    term_is : (q : Question) → IsOneOf q qs → IsOfDef q → at (term_number qs q) ≡ point_at q.dim (value_at q)
    term_is q among o =
        let f = numbered same_term term_self qs q among in
        ap (term_point env item arguments)
        (get_map (term_of ns.items) (firsts same_term [] qs) (term_number qs q) f.value f.there)
        ∙ one_point f.value q
        (all_at IsOfDef (firsts same_term [] qs) (term_number qs q) f.value
        (firsts_all IsOfDef same_term [] qs (targets_all targets)) f.there) o (one_term f.value q f.is)

    -- the answer of a question's atom
    pub atom_is : (q : Question) → IsOneOf q qs → IsOfDef q
        → holds_at (atoms_of qs) at (atom_number qs q) ≡ answer q.cut (point_at q.dim (value_at q))
    atom_is q among o =
        let f = numbered same_question question_self qs q among in
        let one = one_question f.value q f.is in
        let here = all_at IsOfDef (firsts same_question [] qs) (atom_number qs q) f.value
        (firsts_all IsOfDef same_question [] qs (targets_all targets)) f.there in
        let also = all_at (λ x. IsOneOf x qs) (firsts same_question [] qs) (atom_number qs q) f.value
        (firsts_all (λ x. IsOneOf x qs) same_question [] qs (all_are qs)) f.there in
        ap (atom_answer at) (get_map (atom_of qs) (firsts same_question [] qs) (atom_number qs q) f.value f.there)
        ∙ ap (answer f.value.cut) (term_is f.value also here ∙ one_point f.value q here o one.0)
        ∙ ap (λ c. answer c (point_at q.dim (value_at q))) one.1
