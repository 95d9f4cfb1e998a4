-- What can't fault by its form comes to a value, or is stuck.
use Rattle.std.proofs.Common.{◌≡◌, ◌⊎◌, inl, inr, ℕ, Bool, true, false, List, [], Option, Some, None, Result, Ok, Err}
use Rattle.std.proofs.Common.{slice_get, refl, sym, ap, subst}
use Rattle.std.specs.Prelude.{neg_ℤ, nat_eq, not}
use Rattle.cat_pos.specs.declared.pos.Pos.{Pos}
use Rattle.cat_num.specs.Frac.{frac_negation}
use Rattle.cat_num.specs.Numerals.{numeral_value}
use Rattle.cat_date.specs.declared.rounding.Rounding.{Rounding}
use Rattle.cat_value.specs.declared.value.Value.{Value}
use Rattle.cat_value.specs.declared.value.Value.TheOpen.{Value-F}
use Rattle.cat_value.specs.declared.value.Value.TheVariants as flat
use Rattle.cat_value.specs.declared.value.Value.TheViews as value
use Rattle.cat_value.specs.declared.value.Value.TheViews.{out-Value}
use Rattle.cat_scope.specs.declared.stop.Stop.{Stop}
use Rattle.cat_scope.specs.declared.stop.Stop.TheVariants.{Stuck}
use Rattle.cat_scope.specs.declared.expr.Literal.{Literal}
use Rattle.cat_scope.specs.declared.expr.Literal.TheVariants as literal
use Rattle.cat_scope.specs.declared.expr.Expr.{Expr}
use Rattle.cat_scope.specs.declared.expr.Expr.TheVariants as leaf
use Rattle.cat_scope.specs.declared.expr.Expr.TheViews as expr
use Rattle.cat_scope.specs.declared.operators.UnaryOp.{UnaryOp}
use Rattle.cat_scope.specs.declared.operators.UnaryOp.TheVariants as unary
use Rattle.cat_scope.specs.declared.operators.BinaryOp.{BinaryOp}
use Rattle.cat_scope.specs.declared.operators.BinaryOp.TheVariants as binary
use Rattle.cat_scope.specs.Replies.{Reply, on_one, known, evaluated}
use Rattle.cat_scope.specs.Runs.{Decider, Run, plain, gives, behind, and_then, giving, either, choose}
use Rattle.cat_scope.specs.Projections.{truth_in, integer_in, decimal_in, money_in, date_in, duration_in, parts_in}
use Rattle.cat_scope.specs.Projections.{case_in, truth, integer, decimal, money, date, duration, parts, case_of}
use Rattle.cat_scope.specs.Comparing.{compared, compared_in, equal, equal_in}
use Rattle.cat_scope.specs.Operators.{convert, operate}
use Rattle.cat_scope.specs.Composed.{literal_value, part}
use Rattle.cat_scope.specs.Eval.{Env, eval}
use Rattle.cat_scope.specs.Groups.{Numbered}
use Rattle.cat_scope.specs.Targets.{condition_of, held_as, judge_def}
use Rattle.cat_scope.proofs.Exported.{induction}
use Rattle.cat_scope.proofs.Exported.{eval_Literal, eval_Item, eval_Output, eval_Field, eval_Unary, eval_Binary}
use Rattle.cat_scope.proofs.Exported.{eval_And, eval_Or, eval_IsCase, eval_Case_None}
use Rattle.cat_dead_report.specs.declared.forms.Safety.{Safety}
use Rattle.cat_dead_report.specs.declared.forms.Safety.TheVariants as safety
use Rattle.cat_dead_report.specs.inside.Forms.{of_literal, of_part, of_unary, of_both, of_comparison, of_binary}
use Rattle.cat_dead_report.specs.inside.Forms.{safety_of}
use Rattle.cat_dead_report.specs.inside.Forms.{cannot_fault}
use Rattle.cat_dead_report.specs.inside.Faultless.{condition_cannot_fault, def_cannot_fault}
use Rattle.cat_guard.proofs.Exported.{both_true}
use Rattle.cat_dead_report.proofs.FormLemmas as form

-- ---- ends

-- a value with a property, or stuck
abbrev pub Ends : {A : Type 0} → (A → Type 0) → Result A Stop → Type 0
Ends Has (Ok a) = Has a
Ends Has (Err stop) = stop ≡ Stuck

-- a value, or stuck
abbrev pub IsCalm : {A : Type 0} → Result A Stop → Type 0
IsCalm r = Ends (λ a. Unit {0}) r

-- no duration
abbrev IsNoDuration : Value → Type 0
IsNoDuration v = duration v ≡ Err Stuck

-- what is told of an expression holds of what it comes to
abbrev Keeps : Safety → Reply → Type 0
Keeps safety.MayFault r = Unit {0}
Keeps safety.CannotFault r = IsCalm r
Keeps safety.Constant r = Ends IsNoDuration r

calm : {A : Type 0} (P : A → Type 0) (r : Result A Stop) → Ends P r → IsCalm r
calm P (Ok a) h = tt
calm P (Err stop) h = h

one_ends : {A B : Type 0} (P : A → Type 0) (Q : B → Type 0) (r : Result A Stop) (next : A → Result B Stop) → Ends P r
    → ((a : A) → P a → Ends Q (next a)) → Ends Q (on_one r next)
one_ends P Q (Ok a) next h go = go a h
one_ends P Q (Err stop) next h go = h

behind_ends : {A B : Type 0} (P : A → Type 0) (Q : B → Type 0) (log : List Decider) (r : Result A Stop)
    (next : A → Run B) → Ends P r → ((a : A) → P a → Ends Q (next a).end) → Ends Q (behind log r next).end
behind_ends P Q log (Ok a) next h go = go a h
behind_ends P Q log (Err stop) next h go = h

then_ends : {A B : Type 0} (P : A → Type 0) (Q : B → Type 0) (run : Run A) (next : A → Run B) → Ends P run.end
    → ((a : A) → P a → Ends Q (next a).end) → Ends Q (and_then run next).end
then_ends P Q run next h go = behind_ends P Q run.log run.end next h go

-- ---- projections

truth_calm : (y : Value-F Value) → IsCalm (truth_in y)
truth_calm (Value-F.Boolean b) = tt
truth_calm _ = refl

integer_calm : (y : Value-F Value) → IsCalm (integer_in y)
integer_calm (Value-F.Integer n) = tt
integer_calm _ = refl

decimal_calm : (y : Value-F Value) → IsCalm (decimal_in y)
decimal_calm (Value-F.Decimal f) = tt
decimal_calm _ = refl

money_calm : (y : Value-F Value) → IsCalm (money_in y)
money_calm (Value-F.Money cents) = tt
money_calm _ = refl

date_calm : (y : Value-F Value) → IsCalm (date_in y)
date_calm (Value-F.Date day) = tt
date_calm _ = refl

parts_calm : (y : Value-F Value) → IsCalm (parts_in y)
parts_calm (Value-F.Structure vs) = tt
parts_calm _ = refl

case_calm : (y : Value-F Value) → IsCalm (case_in y)
case_calm (Value-F.Case k content) = tt
case_calm _ = refl

known_calm : {A : Type 0} (o : Option A) → IsCalm (known o)
known_calm (Some a) = tt
known_calm None = refl

evaluated_calm : (o : Option (Option Value)) → IsCalm (evaluated o)
evaluated_calm (Some v) = known_calm v
evaluated_calm None = refl

part_calm : (k : ℕ) (v : Value) → IsCalm (part k v)
part_calm k v =
    one_ends (λ vs. Unit {0}) (λ w. Unit {0}) (parts v) (λ vs. known (slice_get vs k)) (parts_calm (out-Value v))
    (λ vs t. known_calm (slice_get vs k))

-- ---- operators

-- one of two values is no duration
abbrev OneIsNone : Value → Value → Type 0
OneIsNone v w = IsNoDuration v ⊎ IsNoDuration w

compared_calm : (p : Pos) (y : Value-F Value) (w : Value) → (duration_in y ≡ Err Stuck) ⊎ IsNoDuration w
    → IsCalm (compared_in p y w)
compared_calm p (Value-F.Integer a) w h =
    one_ends (λ b. Unit {0}) (λ o. Unit {0}) (integer w) _ (integer_calm (out-Value w)) (λ b t. tt)
compared_calm p (Value-F.Decimal f) w h =
    one_ends (λ b. Unit {0}) (λ o. Unit {0}) (decimal w) _ (decimal_calm (out-Value w)) (λ b t. tt)
compared_calm p (Value-F.Money a) w h =
    one_ends (λ b. Unit {0}) (λ o. Unit {0}) (money w) _ (money_calm (out-Value w)) (λ b t. tt)
compared_calm p (Value-F.Date a) w h =
    one_ends (λ b. Unit {0}) (λ o. Unit {0}) (date w) _ (date_calm (out-Value w)) (λ b t. tt)
compared_calm p (Value-F.Duration a) w (inl e) = absurd (cc)
compared_calm p (Value-F.Duration a) w (inr e) =
    one_ends (λ b. ⊥) (λ o. Unit {0}) (duration w) _ (subst (λ r. Ends (λ b. ⊥) r) (sym e) refl) (λ b none. absurd none)
compared_calm p _ w h = refl

equal_calm : (p : Pos) (y : Value-F Value) (v w : Value) → OneIsNone v w → IsCalm (equal_in p y v w)
equal_calm p (Value-F.Boolean a) v w h =
    one_ends (λ b. Unit {0}) (λ o. Unit {0}) (truth w) _ (truth_calm (out-Value w)) (λ b t. tt)
equal_calm p _ v w h =
    one_ends (λ o. Unit {0}) (λ b. Unit {0}) (compared p v w) _ (compared_calm p (out-Value v) w h) (λ o t. tt)

-- an operator that compares values of which one is no duration
abbrev Compares : (Value → Value → Reply) → Type 0
Compares f = (v w : Value) → OneIsNone v w → IsCalm (f v w)

comparison_keeps : (f : Value → Value → Reply) → Compares f → (s t : Safety) (one other : Run Value)
    → Keeps s one.end → Keeps t other.end
    → Keeps (of_comparison s t) (and_then one (λ v. giving other (f v))).end
comparison_keeps f compares safety.MayFault t one other h g = tt
comparison_keeps f compares safety.CannotFault safety.MayFault one other h g = tt
comparison_keeps f compares safety.CannotFault safety.CannotFault one other h g = tt
comparison_keeps f compares safety.CannotFault safety.Constant one other h g =
    then_ends (λ v. Unit {0}) (λ w. Unit {0}) one _ h
    (λ v t. then_ends IsNoDuration (λ x. Unit {0}) other _ g (λ w none. compares v w (inr none)))
comparison_keeps f compares safety.Constant safety.MayFault one other h g = tt
comparison_keeps f compares safety.Constant safety.CannotFault one other h g =
    then_ends IsNoDuration (λ w. Unit {0}) one _ h
    (λ v none. then_ends (λ x. Unit {0}) (λ x. Unit {0}) other _ g (λ w t. compares v w (inl none)))
comparison_keeps f compares safety.Constant safety.Constant one other h g =
    then_ends IsNoDuration (λ w. Unit {0}) one _ h
    (λ v none. then_ends IsNoDuration (λ x. Unit {0}) other _ g (λ w t. compares v w (inl none)))

orders : (rounding : Rounding) (o : BinaryOp) (p : Pos)
    → ((v w : Value) → IsCalm (compared p v w) → IsCalm (operate rounding o p v w)) → Compares (operate rounding o p)
orders rounding o p go v w h = go v w (compared_calm p (out-Value v) w h)

binary_keeps : (rounding : Rounding) (o : BinaryOp) (p : Pos) (s t : Safety) (one other : Run Value)
    → Keeps s one.end → Keeps t other.end
    → Keeps (of_binary o s t) (and_then one (λ v. giving other (operate rounding o p v))).end
binary_keeps rounding binary.Less p s t one other h g =
    comparison_keeps (operate rounding binary.Less p) (orders rounding binary.Less p (λ v w is.
    one_ends (λ o. Unit {0}) (λ b. Unit {0}) (compared p v w) _ is (λ o t. tt))) s t one other h g
binary_keeps rounding binary.AtMost p s t one other h g =
    comparison_keeps (operate rounding binary.AtMost p) (orders rounding binary.AtMost p (λ v w is.
    one_ends (λ o. Unit {0}) (λ b. Unit {0}) (compared p v w) _ is (λ o t. tt))) s t one other h g
binary_keeps rounding binary.Greater p s t one other h g =
    comparison_keeps (operate rounding binary.Greater p) (orders rounding binary.Greater p (λ v w is.
    one_ends (λ o. Unit {0}) (λ b. Unit {0}) (compared p v w) _ is (λ o t. tt))) s t one other h g
binary_keeps rounding binary.AtLeast p s t one other h g =
    comparison_keeps (operate rounding binary.AtLeast p) (orders rounding binary.AtLeast p (λ v w is.
    one_ends (λ o. Unit {0}) (λ b. Unit {0}) (compared p v w) _ is (λ o t. tt))) s t one other h g
binary_keeps rounding binary.Equal p s t one other h g =
    comparison_keeps (operate rounding binary.Equal p) (λ v w none.
    one_ends (λ b. Unit {0}) (λ b. Unit {0}) (equal p v w) _ (equal_calm p (out-Value v) v w none) (λ b t. tt))
    s t one other h g
binary_keeps rounding binary.Unequal p s t one other h g =
    comparison_keeps (operate rounding binary.Unequal p) (λ v w none.
    one_ends (λ b. Unit {0}) (λ b. Unit {0}) (equal p v w) _ (equal_calm p (out-Value v) v w none) (λ b t. tt))
    s t one other h g
binary_keeps rounding _ p s t one other h g = tt

-- what gives no duration keeps what is told of its operand
kept : (f : Value → Reply) → ((v : Value) → Ends IsNoDuration (f v)) → (s : Safety) (run : Run Value)
    → Keeps s run.end → Keeps s (giving run f).end
kept f none safety.MayFault run h = tt
kept f none safety.CannotFault run h =
    then_ends (λ v. Unit {0}) (λ w. Unit {0}) run _ h (λ v t. calm IsNoDuration (f v) (none v))
kept f none safety.Constant run h = then_ends IsNoDuration IsNoDuration run _ h (λ v t. none v)

unary_keeps : (o : UnaryOp) (p : Pos) (s : Safety) (run : Run Value) → Keeps s run.end
    → Keeps (of_unary o s) (giving run (convert o p)).end
unary_keeps unary.NegateInteger p s run h =
    kept (convert unary.NegateInteger p) (λ v. one_ends (λ n. Unit {0}) IsNoDuration (integer v) _
    (integer_calm (out-Value v)) (λ n t. ap duration_in (value.outs-Integer (neg_ℤ n)))) s run h
unary_keeps unary.NegateDecimal p s run h =
    kept (convert unary.NegateDecimal p) (λ v. one_ends (λ n. Unit {0}) IsNoDuration (decimal v) _
    (decimal_calm (out-Value v)) (λ f t. ap duration_in (value.outs-Decimal (frac_negation f)))) s run h
unary_keeps unary.NegateMoney p s run h =
    kept (convert unary.NegateMoney p) (λ v. one_ends (λ n. Unit {0}) IsNoDuration (money v) _
    (money_calm (out-Value v)) (λ n t. ap duration_in (value.outs-Money (neg_ℤ n)))) s run h
unary_keeps unary.Not p s run h =
    kept (convert unary.Not p) (λ v. one_ends (λ b. Unit {0}) IsNoDuration (truth v) _
    (truth_calm (out-Value v)) (λ b t. ap duration_in (value.outs-Boolean (not b)))) s run h
unary_keeps _ p s run h = tt

-- ---- parts and connections

part_keeps : (s : Safety) (run : Run Value) (f : Value → Reply) → ((v : Value) → IsCalm (f v)) → Keeps s run.end
    → Keeps (of_part s) (giving run f).end
part_keeps safety.MayFault run f go h = tt
part_keeps safety.CannotFault run f go h = then_ends (λ v. Unit {0}) (λ w. Unit {0}) run _ h (λ v t. go v)
part_keeps safety.Constant run f go h = then_ends IsNoDuration (λ w. Unit {0}) run _ h (λ v t. go v)

either_calm : {A : Type 0} (r : Result Bool Stop) (one other : Run A) → IsCalm r → IsCalm one.end
    → IsCalm other.end → IsCalm (either r one other).end
either_calm (Ok true) one other h f g = f
either_calm (Ok false) one other h f g = g
either_calm (Err stop) one other h f g = h

-- one of the two branches behind a truth value is an expression, and the other one a value
abbrev Branches : Run Value → (Value → Run Value) → Type 0
Branches run next = IsCalm run.end → (v : Value) → IsCalm (next v).end

both_keep : (s t : Safety) (one other : Run Value) (next : Value → Run Value) → Branches other next
    → Keeps s one.end → Keeps t other.end → Keeps (of_both s t) (and_then one next).end
both_keep safety.MayFault t one other next go h g = tt
both_keep safety.CannotFault safety.MayFault one other next go h g = tt
both_keep safety.CannotFault safety.CannotFault one other next go h g =
    then_ends (λ v. Unit {0}) (λ w. Unit {0}) one next h (λ v t. go g v)
both_keep safety.CannotFault safety.Constant one other next go h g =
    then_ends (λ v. Unit {0}) (λ w. Unit {0}) one next h (λ v t. go (calm IsNoDuration other.end g) v)
both_keep safety.Constant safety.MayFault one other next go h g = tt
both_keep safety.Constant safety.CannotFault one other next go h g =
    then_ends IsNoDuration (λ w. Unit {0}) one next h (λ v t. go g v)
both_keep safety.Constant safety.Constant one other next go h g =
    then_ends IsNoDuration (λ w. Unit {0}) one next h (λ v t. go (calm IsNoDuration other.end g) v)

literal_keeps : (l : Literal) → Keeps (of_literal l) (Ok (literal_value l))
literal_keeps (literal.Boolean b) = ap duration_in (value.outs-Boolean b)
literal_keeps (literal.Integer n) = ap duration_in (value.outs-Integer n)
literal_keeps (literal.Decimal d) = ap duration_in (value.outs-Decimal (numeral_value d))
literal_keeps (literal.Money cents) = ap duration_in (value.outs-Money cents)
literal_keeps (literal.Date day) = ap duration_in (value.outs-Date day)
literal_keeps (literal.Duration span) = tt

-- ---- expressions

module _ (env : Env) (locals : List Value) where
  abbrev Told : Expr → Type 0
  Told e = Keeps (safety_of e) (eval env e locals).end

  by_form : (e : Expr) (s : Safety) (run : Run Value) → safety_of e ≡ s → eval env e locals ≡ run → Keeps s run.end
      → Told e
  by_form e s run told comes h =
      subst (λ t. Keeps t (eval env e locals).end) (sym told) (subst (λ (r : Run Value). Keeps s r.end) (sym comes) h)

  any_end : (e : Expr) → safety_of e ≡ safety.MayFault → Told e
  any_end e told = subst (λ t. Keeps t (eval env e locals).end) (sym told) tt

  on_case : (p : Pos) (n k : ℕ) (content : Option Expr) → Told (expr.Case p n k content)
  on_case p n k None =
      by_form (expr.Case p n k None) safety.CannotFault (gives (value.Case k None)) (form.form_Case p n k None)
      (eval_Case_None env p n k locals) tt
  on_case p n k (Some e) = any_end (expr.Case p n k (Some e)) (form.form_Case p n k (Some e))

  -- what is told of an expression holds of what it comes to
  told : (e : Expr) → Told e
  told =
      induction Told
      (λ p l. by_form (leaf.Literal p l) (of_literal l) (gives (literal_value l)) (form.form_Literal p l)
      (eval_Literal env p l locals) (literal_keeps l))
      (λ p item. by_form (leaf.Item p item) safety.CannotFault (plain (evaluated (slice_get env.items item)))
      (form.form_Item p item) (eval_Item env p item locals) (evaluated_calm (slice_get env.items item)))
      (λ p item k. by_form (leaf.Output p item k) safety.CannotFault
      (plain (on_one (evaluated (slice_get env.items item)) (part k))) (form.form_Output p item k)
      (eval_Output env p item k locals)
      (one_ends (λ v. Unit {0}) (λ w. Unit {0}) (evaluated (slice_get env.items item)) (part k)
      (evaluated_calm (slice_get env.items item)) (λ v t. part_calm k v)))
      (λ p k. any_end (leaf.Local p k) (form.form_Local p k))
      (λ p e k h. by_form (expr.Field p e k) (of_part (safety_of e)) (giving (eval env e locals) (part k))
      (form.form_Field p e k) (eval_Field env p e k locals)
      (part_keeps (safety_of e) (eval env e locals) (part k) (part_calm k) h))
      (λ p o e h. by_form (expr.Unary p o e) (of_unary o (safety_of e)) (giving (eval env e locals) (convert o p))
      (form.form_Unary p o e) (eval_Unary env p o e locals) (unary_keeps o p (safety_of e) (eval env e locals) h))
      (λ p o q a b h g. by_form (expr.Binary p o q a b) (of_binary o (safety_of a) (safety_of b))
      (and_then (eval env a locals) (λ v. giving (eval env b locals) (operate env.rounding o q v)))
      (form.form_Binary p o q a b) (eval_Binary env p o q a b locals)
      (binary_keeps env.rounding o q (safety_of a) (safety_of b) (eval env a locals) (eval env b locals) h g))
      (λ p a b h g. by_form (expr.And p a b) (of_both (safety_of a) (safety_of b))
      (and_then (eval env a locals) (λ v. choose v (eval env b locals) (gives (flat.Boolean false))))
      (form.form_And p a b) (eval_And env p a b locals)
      (both_keep (safety_of a) (safety_of b) (eval env a locals) (eval env b locals) _
      (λ is v. either_calm (truth v) (eval env b locals) (gives (flat.Boolean false)) (truth_calm (out-Value v)) is tt)
      h g))
      (λ p a b h g. by_form (expr.Or p a b) (of_both (safety_of a) (safety_of b))
      (and_then (eval env a locals) (λ v. choose v (gives (flat.Boolean true)) (eval env b locals)))
      (form.form_Or p a b) (eval_Or env p a b locals)
      (both_keep (safety_of a) (safety_of b) (eval env a locals) (eval env b locals) _
      (λ is v. either_calm (truth v) (gives (flat.Boolean true)) (eval env b locals) (truth_calm (out-Value v)) tt is)
      h g))
      (λ p c a b f h g. any_end (expr.If p c a b) (form.form_If p c a b))
      (λ p e arms h each. any_end (expr.Match p e arms) (form.form_Match p e arms))
      (λ p e n k h. by_form (expr.IsCase p e n k) (of_part (safety_of e))
      (giving (eval env e locals) (λ v. on_one (case_of v) (λ c. Ok (flat.Boolean (nat_eq c.0 k)))))
      (form.form_IsCase p e n k) (eval_IsCase env p e n k locals)
      (part_keeps (safety_of e) (eval env e locals) _ (λ v. one_ends (λ c. Unit {0}) (λ w. Unit {0}) (case_of v) _
      (case_calm (out-Value v)) (λ c t. tt)) h))
      (λ p n k content h. on_case p n k content)
      (λ p n fields each. any_end (expr.Structure p n fields) (form.form_Structure p n fields))
      (λ p es each. any_end (expr.List p es) (form.form_List p es))
      (λ p l test h g. any_end (expr.ForAll p l test) (form.form_ForAll p l test))
      (λ p l test h g. any_end (expr.Exists p l test) (form.form_Exists p l test))
      (λ p l e h g. any_end (expr.Map p l e) (form.form_Map p l e))
      (λ p l test h g. any_end (expr.Filter p l test) (form.form_Filter p l test))
      (λ p l start e f h g. any_end (expr.Combine p l start e) (form.form_Combine p l start e))
      (λ p q l e h g. any_end (expr.Contains p q l e) (form.form_Contains p q l e))
      (λ p l h. any_end (expr.Length p l) (form.form_Length p l))
      (λ p kind l h. any_end (expr.Sum p kind l) (form.form_Sum p kind l))
      (λ p f es each. any_end (expr.Call p f es) (form.form_Call p f es))
      (λ p s fields k each. any_end (expr.ScopeCall p s fields k) (form.form_ScopeCall p s fields k))

  -- what can't fault comes to a value, or is stuck
  comes : (e : Expr) → cannot_fault (safety_of e) ≡ true → IsCalm (eval env e locals).end
  comes e can = by (safety_of e) can (told e)
    where
      by : (s : Safety) → cannot_fault s ≡ true → Keeps s (eval env e locals).end → IsCalm (eval env e locals).end
      by safety.MayFault can h = absurd (cc)
      by safety.CannotFault can h = h
      by safety.Constant can h = calm IsNoDuration (eval env e locals).end h

-- ---- definitions

module _ (env : Env) where
  abbrev of : Expr → Run Value
  of e = eval env e []

  condition_calm : (o : Option Expr) → condition_cannot_fault o ≡ true → IsCalm (condition_of of o).end
  condition_calm None can = tt
  condition_calm (Some e) can = comes env [] e can

  pub def_calm : (d : Numbered) → def_cannot_fault d.1 ≡ true → IsCalm (judge_def of d).end
  def_calm d can =
      let two = both_true (condition_cannot_fault d.1.condition) (cannot_fault (safety_of d.1.consequence)) can in
      then_ends (λ v. Unit {0}) (λ f. Unit {0}) (condition_of of d.1.condition) _
      (condition_calm d.1.condition two.0)
      (λ t it. either_calm (truth t) (and_then (of d.1.consequence) (λ v. gives (Some (held_as d v)))) (gives None)
      (truth_calm (out-Value t))
      (then_ends (λ v. Unit {0}) (λ f. Unit {0}) (of d.1.consequence) (λ v. gives (Some (held_as d v)))
      (comes env [] d.1.consequence two.1) (λ v it. tt)) tt)
