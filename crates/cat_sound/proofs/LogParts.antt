-- A property of logs that the empty log has, and two logs together where both have it: where the logs of scopes that
-- are run have it, so has what expressions, judgings and items log.
use Rattle.std.proofs.Common.{◌≡◌, ℕ, zero, suc, Bool, true, false, List, [], ◌∷◌, ◌++◌, map, length, Option, Some}
use Rattle.std.proofs.Common.{None, Result, Ok, Err, slice_get, refl, sym, ap, ◌∙◌, subst, pos, if◌then◌else◌}
use Rattle.std.specs.Prelude.{nat_eq}
use Rattle.cat_value.specs.declared.value.Value.{Value}
use Rattle.cat_value.specs.declared.value.Value.TheVariants as flat
use Rattle.cat_value.specs.declared.value.Value.TheViews as value
use Rattle.cat_value.specs.declared.outcome.Target.{Target}
use Rattle.cat_scope.specs.declared.stop.Stop.{Stop}
use Rattle.cat_scope.specs.declared.defs.Def.{Def}
use Rattle.cat_scope.specs.declared.expr.ArmPattern.{ArmPattern}
use Rattle.cat_scope.specs.declared.expr.ArmPattern.TheVariants as pattern
use Rattle.cat_scope.specs.declared.expr.Expr.{Expr}
use Rattle.cat_scope.specs.declared.expr.FieldValue.{FieldValue}
use Rattle.cat_scope.specs.declared.expr.Arm.{Arm}
use Rattle.cat_scope.specs.declared.expr.Expr.TheOpen.{Expr-F}
use Rattle.cat_scope.specs.declared.expr.Expr.TheViews.{out-Expr}
use Rattle.cat_scope.specs.declared.expr.Expr.TheFolds.{map-Expr}
use Rattle.cat_scope.specs.Replies.{on_one}
use Rattle.cat_scope.specs.Runs.{Decider, Run, plain, gives, stops, behind, and_then, giving, in_front, either, choose}
use Rattle.cat_scope.specs.Projections.{truth, case_of, elements}
use Rattle.cat_scope.specs.Operators.{convert, operate}
use Rattle.cat_scope.specs.Lists.{for_all, exists, mapped, filtered, combined, contained, zero_of, summed}
use Rattle.cat_scope.specs.Names.{AllHave}
use Rattle.cat_scope.specs.Groups.{Numbered, Group, groups_of, roots_of, excepts, excepting}
use Rattle.cat_scope.specs.Judging.{Held, Judged, with_held, holding, alone, settle, found_or, judge}
use Rattle.cat_scope.specs.Targets.{defs_from, condition_of, held_as, judge_def, own_by, judge_target}
use Rattle.cat_scope.specs.Eval.{Env, eval, meaning_of}
use Rattle.cat_scope.specs.Composed.{Meaning, part, all_of, field_values, structured, arm_locals, arm_value, matched}
use Rattle.cat_scope.specs.Composed.{listed}
use Rattle.cat_value.specs.declared.outcome.FaultKind.TheVariants.{AssertionFailed}
use Rattle.cat_scope.specs.declared.stop.Stop.TheVariants.{Fault}
use Rattle.cat_scope.specs.declared.defs.Assertion.{Assertion}
use Rattle.cat_scope.specs.Running.{asserted}
use Rattle.cat_scope.proofs.Exported.{Field, Branch, field, branch, field_is, branch_is, levels}
use Rattle.cat_sound.proofs.NamedParts.{parts_of, bodies_of, values_of}
use Rattle.cat_sound.proofs.ByParts.{by_parts}

module _ (P : List Decider → Type 0) (none : P []) (joined : (xs ys : List Decider) → P xs → P ys → P (xs ++ ys)) where
  behind_logs : {A B : Type 0} (log : List Decider) (r : Result A Stop) (next : A → Run B) → P log
      → ((a : A) → r ≡ Ok a → P (next a).log) → P (behind log r next).log
  behind_logs log (Ok a) next h go = joined log (next a).log h (go a refl)
  behind_logs log (Err stop) next h go = h

  pub then_logs : {A B : Type 0} (run : Run A) (next : A → Run B) → P run.log
      → ((a : A) → run.end ≡ Ok a → P (next a).log) → P (and_then run next).log
  then_logs run next h go = behind_logs run.log run.end next h go

  pub giving_logs : {A B : Type 0} (run : Run A) (next : A → Result B Stop) → P run.log → P (giving run next).log
  giving_logs run next h = then_logs run (λ a. plain (next a)) h (λ a is. none)

  pub front_logs : {A : Type 0} (first : Run A) (rest : Run (List A)) → P first.log → P rest.log
      → P (in_front first rest).log
  front_logs first rest h g = then_logs first (λ a. and_then rest (λ more. gives (a ∷ more))) h
      (λ a is. then_logs rest (λ more. gives (a ∷ more)) g (λ more also. none))

  either_logs : {A : Type 0} (r : Result Bool Stop) (one other : Run A) → P one.log → P other.log
      → P (either r one other).log
  either_logs (Ok true) one other h g = h
  either_logs (Ok false) one other h g = g
  either_logs (Err stop) one other h g = none

  pub choose_logs : {A : Type 0} (v : Value) (one other : Run A) → P one.log → P other.log → P (choose v one other).log
  choose_logs v one other h g = either_logs (truth v) one other h g

  -- ---- the forms over the elements of a list

  module _ (of_each : Value → Run Value) (each : (v : Value) → P (of_each v).log) where
    for_all_logs : (vs : List Value) → P (for_all of_each vs).log
    for_all_logs [] = none
    for_all_logs (v ∷ vs) =
        then_logs (of_each v) (λ t. choose t (for_all of_each vs) (gives (flat.Boolean false))) (each v)
        (λ t is. choose_logs t (for_all of_each vs) (gives (flat.Boolean false)) (for_all_logs vs) none)

    exists_logs : (vs : List Value) → P (exists of_each vs).log
    exists_logs [] = none
    exists_logs (v ∷ vs) =
        then_logs (of_each v) (λ t. choose t (gives (flat.Boolean true)) (exists of_each vs)) (each v)
        (λ t is. choose_logs t (gives (flat.Boolean true)) (exists of_each vs) none (exists_logs vs))

    mapped_logs : (vs : List Value) → P (mapped of_each vs).log
    mapped_logs [] = none
    mapped_logs (v ∷ vs) = front_logs (of_each v) (mapped of_each vs) (each v) (mapped_logs vs)

    filtered_logs : (vs : List Value) → P (filtered of_each vs).log
    filtered_logs [] = none
    filtered_logs (v ∷ vs) =
        then_logs (of_each v) (λ t. choose t (in_front (gives v) (filtered of_each vs)) (filtered of_each vs)) (each v)
        (λ t is. choose_logs t (in_front (gives v) (filtered of_each vs)) (filtered of_each vs)
        (front_logs (gives v) (filtered of_each vs) none (filtered_logs vs)) (filtered_logs vs))

  combined_logs : (of_each : Value → Value → Run Value) → ((v w : Value) → P (of_each v w).log)
      → (vs : List Value) (total : Value)
      → P (combined of_each vs total).log
  combined_logs of_each each [] total = none
  combined_logs of_each each (v ∷ vs) total =
      then_logs (of_each v total) (λ after. combined of_each vs after) (each v total)
      (λ after is. combined_logs of_each each vs after)

  -- ---- expressions

  abbrev Quiet : Meaning → Type 0
  Quiet m = (locals : List Value) → P (m locals).log

  listed_logs : (l : Meaning) → Quiet l → (locals : List Value) → P (listed l locals).log
  listed_logs l h locals = giving_logs (l locals) elements (h locals)

  all_logs : (ms : List Meaning) → AllHave Quiet ms → (locals : List Value) → P (all_of ms locals).log
  all_logs [] h locals = none
  all_logs (m ∷ ms) h locals = front_logs (m locals) (all_of ms locals) (h.0 locals) (all_logs ms h.1 locals)

  fields_logs : (fs : List Field) → AllHave (λ (f : Field). Quiet f.1) fs → (locals : List Value)
      → P (field_values fs locals).log
  fields_logs [] h locals = none
  fields_logs (f ∷ fs) h locals = front_logs (and_then (f.1 locals) (λ v. gives (f.0, v))) (field_values fs locals)
      (then_logs (f.1 locals) (λ v. gives (f.0, v)) (h.0 locals) (λ v is. none)) (fields_logs fs h.1 locals)

  arm_logs : (for : ArmPattern) (body : Meaning) (rest : Run Value) (k : ℕ) (content : Option Value)
      (locals : List Value)
      → Quiet body → P rest.log → P (arm_value for body rest k content locals).log
  arm_logs pattern.Anything body rest k content locals h g = h locals
  arm_logs (pattern.Case case bound) body rest k content locals h g = by (nat_eq k case)
    where
      by : (b : Bool) → P (if b then and_then (plain (arm_locals bound content locals)) body else rest).log
      by true = then_logs (plain (arm_locals bound content locals)) body none (λ inside is. h inside)
      by false = g

  matched_logs : (arms : List Branch) → AllHave (λ (a : Branch). Quiet a.1) arms → (k : ℕ) (content : Option Value)
      → Quiet (matched arms k content)
  matched_logs [] h k content locals = none
  matched_logs (a ∷ arms) h k content locals =
      arm_logs a.0 a.1 (matched arms k content locals) k content locals h.0 (matched_logs arms h.1 k content locals)

  module _ (env : Env) (calls : (f : ℕ) (vs : List Value) → P (env.call f vs).log)
      (scope_calls : (s : ℕ) (fs : List (ℕ × Value)) (k : ℕ) → P (env.scope_call s fs k).log) where
    abbrev QuietAt : Expr → Type 0
    QuietAt e = Quiet (eval env e)

    quiet_all : (es : List Expr) → AllHave QuietAt es → AllHave Quiet (map (eval env) es)
    quiet_all [] h = tt
    quiet_all (e ∷ es) h = (h.0, quiet_all es h.1)

    quiet_fields : (fs : List FieldValue) → AllHave QuietAt (values_of fs)
        → AllHave (λ (f : Field). Quiet f.1) (map (field env) fs)
    quiet_fields [] h = tt
    quiet_fields (f ∷ fs) h = (subst (λ (x : Field). Quiet x.1) (sym (field_is env f)) h.0, quiet_fields fs h.1)

    quiet_arms : (arms : List Arm) → AllHave QuietAt (bodies_of arms)
        → AllHave (λ (a : Branch). Quiet a.1) (map (branch env) arms)
    quiet_arms [] h = tt
    quiet_arms (a ∷ arms) h = (subst (λ (x : Branch). Quiet x.1) (sym (branch_is env a)) h.0, quiet_arms arms h.1)

    abbrev opened : Expr-F Expr Arm FieldValue → Expr-F Meaning Branch Field
    opened y = map-Expr Expr Arm FieldValue Meaning Branch Field (eval env) (branch env) (field env) y

    form_logs : (y : Expr-F Expr Arm FieldValue) → AllHave QuietAt (parts_of y) → Quiet (meaning_of env (opened y))
    form_logs (Expr-F.Literal p l) h locals = none
    form_logs (Expr-F.Item p item) h locals = none
    form_logs (Expr-F.Output p item k) h locals = none
    form_logs (Expr-F.Local p k) h locals = none
    form_logs (Expr-F.Field p e k) h locals = giving_logs (eval env e locals) (part k) (h.0 locals)
    form_logs (Expr-F.Unary p o e) h locals = giving_logs (eval env e locals) (convert o p) (h.0 locals)
    form_logs (Expr-F.Binary p o q a b) h locals =
        then_logs (eval env a locals) (λ v. giving (eval env b locals) (operate env.rounding o q v)) (h.0 locals)
        (λ v is. giving_logs (eval env b locals) (operate env.rounding o q v) (h.1.0 locals))
    form_logs (Expr-F.And p a b) h locals =
        then_logs (eval env a locals) (λ v. choose v (eval env b locals) (gives (flat.Boolean false))) (h.0 locals)
        (λ v is. choose_logs v (eval env b locals) (gives (flat.Boolean false)) (h.1.0 locals) none)
    form_logs (Expr-F.Or p a b) h locals =
        then_logs (eval env a locals) (λ v. choose v (gives (flat.Boolean true)) (eval env b locals)) (h.0 locals)
        (λ v is. choose_logs v (gives (flat.Boolean true)) (eval env b locals) none (h.1.0 locals))
    form_logs (Expr-F.If p c a b) h locals =
        then_logs (eval env c locals) (λ v. choose v (eval env a locals) (eval env b locals)) (h.0 locals)
        (λ v is. choose_logs v (eval env a locals) (eval env b locals) (h.1.0 locals) (h.1.1.0 locals))
    form_logs (Expr-F.Match p e arms) h locals =
        then_logs (eval env e locals) (λ v. and_then (plain (case_of v))
        (λ c. matched (map (branch env) arms) c.0 c.1 locals)) (h.0 locals)
        (λ v is. then_logs (plain (case_of v)) (λ c. matched (map (branch env) arms) c.0 c.1 locals) none
        (λ c also. matched_logs (map (branch env) arms) (quiet_arms arms h.1) c.0 c.1 locals))
    form_logs (Expr-F.IsCase p e n k) h locals =
        giving_logs (eval env e locals) (λ v. on_one (case_of v) (λ c. Ok (flat.Boolean (nat_eq c.0 k)))) (h.0 locals)
    form_logs (Expr-F.Case p n k None) h locals = none
    form_logs (Expr-F.Case p n k (Some e)) h locals =
        then_logs (eval env e locals) (λ v. gives (value.Case k (Some v))) (h.0 locals) (λ v is. none)
    form_logs (Expr-F.Structure p n fields) h locals =
        giving_logs (field_values (map (field env) fields) locals) structured
        (fields_logs (map (field env) fields) (quiet_fields fields h) locals)
    form_logs (Expr-F.List p es) h locals =
        then_logs (all_of (map (eval env) es) locals) (λ vs. gives (value.List vs))
        (all_logs (map (eval env) es) (quiet_all es h) locals)
        (λ vs is. none)
    form_logs (Expr-F.ForAll p l test) h locals =
        then_logs (listed (eval env l) locals) (for_all (λ v. eval env test (locals ++ v ∷ [])))
        (listed_logs (eval env l) h.0 locals)
        (λ vs is. for_all_logs (λ v. eval env test (locals ++ v ∷ [])) (λ v. h.1.0 (locals ++ v ∷ [])) vs)
    form_logs (Expr-F.Exists p l test) h locals =
        then_logs (listed (eval env l) locals) (exists (λ v. eval env test (locals ++ v ∷ [])))
        (listed_logs (eval env l) h.0 locals)
        (λ vs is. exists_logs (λ v. eval env test (locals ++ v ∷ [])) (λ v. h.1.0 (locals ++ v ∷ [])) vs)
    form_logs (Expr-F.Map p l e) h locals =
        then_logs (listed (eval env l) locals)
        (λ vs. and_then (mapped (λ v. eval env e (locals ++ v ∷ [])) vs) (λ ws. gives (value.List ws)))
        (listed_logs (eval env l) h.0 locals)
        (λ vs is. then_logs (mapped (λ v. eval env e (locals ++ v ∷ [])) vs) (λ ws. gives (value.List ws))
        (mapped_logs (λ v. eval env e (locals ++ v ∷ [])) (λ v. h.1.0 (locals ++ v ∷ [])) vs) (λ ws also. none))
    form_logs (Expr-F.Filter p l test) h locals =
        then_logs (listed (eval env l) locals)
        (λ vs. and_then (filtered (λ v. eval env test (locals ++ v ∷ [])) vs) (λ ws. gives (value.List ws)))
        (listed_logs (eval env l) h.0 locals)
        (λ vs is. then_logs (filtered (λ v. eval env test (locals ++ v ∷ [])) vs) (λ ws. gives (value.List ws))
        (filtered_logs (λ v. eval env test (locals ++ v ∷ [])) (λ v. h.1.0 (locals ++ v ∷ [])) vs) (λ ws also. none))
    form_logs (Expr-F.Combine p l start e) h locals =
        then_logs (listed (eval env l) locals)
        (λ vs. and_then (eval env start locals) (combined (λ v total. eval env e (locals ++ v ∷ total ∷ [])) vs))
        (listed_logs (eval env l) h.0 locals)
        (λ vs is. then_logs (eval env start locals)
        (combined (λ v total. eval env e (locals ++ v ∷ total ∷ [])) vs) (h.1.0 locals)
        (λ first also. combined_logs (λ v total. eval env e (locals ++ v ∷ total ∷ []))
        (λ v total. h.1.1.0 (locals ++ v ∷ total ∷ [])) vs first))
    form_logs (Expr-F.Contains p q l e) h locals =
        then_logs (listed (eval env l) locals) (λ vs. giving (eval env e locals) (λ v. contained q v vs))
        (listed_logs (eval env l) h.0 locals)
        (λ vs is. giving_logs (eval env e locals) (λ v. contained q v vs) (h.1.0 locals))
    form_logs (Expr-F.Length p l) h locals =
        then_logs (listed (eval env l) locals) (λ vs. gives (flat.Integer (pos (length vs))))
        (listed_logs (eval env l) h.0 locals) (λ vs is. none)
    form_logs (Expr-F.Sum p kind l) h locals =
        giving_logs (listed (eval env l) locals) (λ vs. summed kind p vs (zero_of kind))
        (listed_logs (eval env l) h.0 locals)
    form_logs (Expr-F.Call p f es) h locals =
        then_logs (all_of (map (eval env) es) locals) (env.call f)
        (all_logs (map (eval env) es) (quiet_all es h) locals) (λ vs is. calls f vs)
    form_logs (Expr-F.ScopeCall p s fields k) h locals =
        then_logs (field_values (map (field env) fields) locals) (λ fs. env.scope_call s fs k)
        (fields_logs (map (field env) fields) (quiet_fields fields h) locals) (λ fs is. scope_calls s fs k)

    step : (e : Expr) (y : Expr-F Expr Arm FieldValue) → out-Expr e ≡ y → AllHave QuietAt (parts_of y) → QuietAt e
    step e y is h locals =
        subst (λ (m : Meaning). P (m locals).log) (sym (levels env e ∙ ap (λ z. meaning_of env (opened z)) is))
        (form_logs y h locals)

    pub eval_logs : (e : Expr) (locals : List Value) → P (eval env e locals).log
    eval_logs e locals = by_parts QuietAt step e locals

  -- ---- judging

  all_mapped : {A : Type 0} (f : A → Judged Value) → ((a : A) → P (f a).log) → (xs : List A)
      → AllHave (λ (r : Judged Value). P r.log) (map f xs)
  all_mapped f each [] = tt
  all_mapped f each (x ∷ xs) = (each x, all_mapped f each xs)

  holding_logs : (rs : List (Judged Value)) → AllHave (λ (r : Judged Value). P r.log) rs → P (holding rs).log
  holding_logs [] h = none
  holding_logs (r ∷ rs) h = then_logs r (λ one. and_then (holding rs) (λ more. gives (with_held one more))) h.0
      (λ one is. then_logs (holding rs) (λ more. gives (with_held one more)) (holding_logs rs h.1) (λ more also. none))

  settle_logs : (target : Target) (rs : List (Judged Value)) → AllHave (λ (r : Judged Value). P r.log) rs
      → P (settle target rs).log
  settle_logs target rs h = giving_logs (holding rs) (alone target) (holding_logs rs h)

  found_logs : (found : Option (Held Value)) (other : Judged Value) → P other.log → P (found_or found other).log
  found_logs None other h = h
  found_logs (Some one) other h = none

  judge_logs : (target : Target) (pairs : List (ℕ × ℕ)) (own : ℕ → Judged Value) → ((g : ℕ) → P (own g).log)
      → (n group : ℕ)
      → P (judge target pairs own n group).log
  judge_logs target pairs own h zero group = none
  judge_logs target pairs own h (suc n) group =
      then_logs (settle target (map (judge target pairs own n) (excepting pairs group)))
      (λ found. found_or found (own group))
      (settle_logs target (map (judge target pairs own n) (excepting pairs group))
      (all_mapped (judge target pairs own n) (judge_logs target pairs own h n) (excepting pairs group)))
      (λ found is. found_logs found (own group) (h group))

  module _ (value_of : Expr → Run Value) (quiet : (e : Expr) → P (value_of e).log) where
    condition_logs : (o : Option Expr) → P (condition_of value_of o).log
    condition_logs None = none
    condition_logs (Some e) = quiet e

    abbrev consequence : Numbered → Judged Value
    consequence d = and_then (value_of d.1.consequence) (λ v. gives (Some (held_as d v)))

    def_logs : (d : Numbered) → P (judge_def value_of d).log
    def_logs d =
        then_logs (condition_of value_of d.1.condition) (λ t. choose t (consequence d) (gives None))
        (condition_logs d.1.condition)
        (λ t is. choose_logs t (consequence d) (gives None)
        (then_logs (value_of d.1.consequence) (λ v. gives (Some (held_as d v))) (quiet d.1.consequence)
        (λ v also. none)) none)

    own_logs : (target : Target) (o : Option Group) → P (own_by (judge_def value_of) target o).log
    own_logs target None = none
    own_logs target (Some group) =
        settle_logs target (map (judge_def value_of) group.defs) (all_mapped (judge_def value_of) def_logs group.defs)

    groups_logs : (target : Target) (groups : List Group)
        → P (settle target (map (judge target (excepts groups)
        (λ g. own_by (judge_def value_of) target (slice_get groups g)) (length groups)) (roots_of groups))).log
    groups_logs target groups =
        let own = λ (g : ℕ). own_by (judge_def value_of) target (slice_get groups g) in
        settle_logs target (map (judge target (excepts groups) own (length groups)) (roots_of groups))
        (all_mapped (judge target (excepts groups) own (length groups))
        (judge_logs target (excepts groups) own (λ g. own_logs target (slice_get groups g)) (length groups))
        (roots_of groups))

    pub target_logs : (target : Target) (defs : List Def) → P (judge_target value_of target defs).log
    unfolding judge_target
    target_logs target defs = groups_logs target (groups_of (defs_from target 0 defs))

  pub asserted_logs : {A : Type 0} (value_of : Expr → Run Value) → ((e : Expr) → P (value_of e).log)
      → (assertions : List Assertion) (last : Run A)
      → P last.log → P (asserted value_of assertions last).log
  asserted_logs value_of quiet [] last h = h
  asserted_logs value_of quiet (a ∷ rest) last h =
      then_logs (value_of a.condition) (λ t. choose t (asserted value_of rest last)
      (stops (Fault AssertionFailed a.keyword))) (quiet a.condition)
      (λ t is. choose_logs t (asserted value_of rest last) (stops (Fault AssertionFailed a.keyword))
      (asserted_logs value_of quiet rest last h) none)
