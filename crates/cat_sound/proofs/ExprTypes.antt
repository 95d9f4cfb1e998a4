-- A well-typed expression ends in a value of its type or in a stop that an outcome may be.
use Rattle.std.proofs.Common.{ℕ, List, [], ◌∷◌, ◌++◌, Option, Some}
use Rattle.std.proofs.Common.{refl}
use Rattle.cat_value.specs.declared.ty.Ty.{Ty}
use Rattle.cat_value.specs.declared.value.Value.{Value}
use Rattle.cat_scope.specs.declared.expr.Expr.{Expr}
use Rattle.cat_scope.specs.declared.expr.FieldValue.{FieldValue}
use Rattle.cat_scope.specs.declared.expr.Arm.{Arm}
use Rattle.cat_scope.specs.declared.expr.Expr.TheViews as expr
use Rattle.cat_scope.specs.Names.{Names}
use Rattle.cat_scope.specs.HasType.{HasType, AllHaveType, EachHasType, FieldsHaveType, ArmsHaveType}
use Rattle.cat_scope.specs.HasType as typed
use Rattle.cat_scope.specs.Names.{AllHave}
use Rattle.cat_scope.specs.Eval.{Env, eval}
use Rattle.cat_scope.specs.inside.EvalParts.{eval_all, eval_fields}
use Rattle.cat_scope.specs.Literals.{literal_type}
use Rattle.cat_sound.specs.Endings.{Allowed, EndsIn, IsOf, AreOf}
use Rattle.cat_sound.specs.Endings.{IsEnvOf}
use Rattle.cat_sound.proofs.Results.{are_more}
use Rattle.cat_sound.proofs.FlatTypes.{literal-typed}
use Rattle.cat_sound.proofs.FormTypes.{ArmEnds}
use Rattle.cat_sound.proofs.NamedParts.{bodies_of, values_of, env_parts, env_item, env_scope}
use Rattle.cat_sound.proofs.ExprForms.{AreSome, AreWritten, on_And, on_Binary, on_Call, on_Case_None, on_Case_Some}
use Rattle.cat_sound.proofs.ExprForms.{on_Combine, on_Contains, on_Exists, on_Field, on_Filter, on_ForAll, on_If}
use Rattle.cat_sound.proofs.ExprForms.{on_IsCase, on_Item, on_Length, on_List, on_Literal, on_Local, on_Map, on_Match}
use Rattle.cat_sound.proofs.ExprForms.{on_Or, on_Output, on_ScopeCall, on_Structure, on_Sum, on_Unary, on_all_more}
use Rattle.cat_sound.proofs.ExprForms.{on_each_more, on_fields_more}

-- ---- induction on the typing

mutual
  pub sound : (allowed : Allowed) → (env : Env) (locals : List Value) {ns : Names} {ls : List Ty} {e : Expr} {t : Ty}
      → HasType ns ls e t → IsEnvOf allowed ns env e → AreOf ns.decls ls locals
      → EndsIn allowed (IsOf ns.decls t) (eval env e locals)
  sound allowed env locals {ns} (typed.literal {ls = ls} {p = p} {l = l} is) has are =
      on_Literal allowed ns env locals p l (literal_type l) (literal-typed ns.decls l is)
  sound allowed env locals {ns} (typed.item {ls = ls} {p = p} {i = i} {t = t} is) has are =
      on_Item allowed ns env locals p i t (env_item (expr.outs-Item p i) has).0 is
  sound allowed env locals {ns} (typed.output {ls = ls} {p = p} {i = i} {k = k} {t = t} is) has are =
      on_Output allowed ns env locals p i k t (env_item (expr.outs-Output p i k) has).0 is
  sound allowed env locals {ns} (typed.local {ls = ls} {p = p} {k = k} {t = t} is) has are =
      on_Local allowed ns env locals p ls k t are is
  sound allowed env locals {ns} (typed.field {ls = ls} {p = p} {e = e} {k = k} {t = t} n h is) has are =
      on_Field allowed ns env locals p e n k t (sound allowed env locals h (env_parts (expr.outs-Field p e k) has).0
      are) is
  sound allowed env locals {ns} (typed.unary {ls = ls} {p = p} {o = o} {e = e} h) has are =
      on_Unary allowed ns env locals p o e (sound allowed env locals h (env_parts (expr.outs-Unary p o e) has).0 are)
  sound allowed env locals {ns} (typed.binary {ls = ls} {p = p} {q = q} {o = o} {a = a} {b = b} r is h g) has are =
      on_Binary allowed ns env locals p q o a b r is
      (sound allowed env locals h (env_parts (expr.outs-Binary p o q a b) has).0 are)
      (sound allowed env locals g (env_parts (expr.outs-Binary p o q a b) has).1.0 are)
  sound allowed env locals {ns} (typed.both {ls = ls} {p = p} {a = a} {b = b} h g) has are =
      on_And allowed ns env locals p a b (sound allowed env locals h (env_parts (expr.outs-And p a b) has).0 are)
      (sound allowed env locals g (env_parts (expr.outs-And p a b) has).1.0 are)
  sound allowed env locals {ns} (typed.any {ls = ls} {p = p} {a = a} {b = b} h g) has are =
      on_Or allowed ns env locals p a b (sound allowed env locals h (env_parts (expr.outs-Or p a b) has).0 are)
      (sound allowed env locals g (env_parts (expr.outs-Or p a b) has).1.0 are)
  sound allowed env locals {ns} (typed.choice {ls = ls} {p = p} {c = c} {a = a} {b = b} {t = t} h g i) has are =
      on_If allowed ns env locals p c a b t (sound allowed env locals h (env_parts (expr.outs-If p c a b) has).0 are)
      (sound allowed env locals g (env_parts (expr.outs-If p c a b) has).1.0 are)
      (sound allowed env locals i (env_parts (expr.outs-If p c a b) has).1.1.0 are)
  sound allowed env vs {ns} (typed.matching {ls = ls} {p = p} {e = e} {arms = arms} {t = t} n h each complete) has are =
      on_Match allowed ns env vs p e arms n ls t are
      (sound allowed env vs h (env_parts (expr.outs-Match p e arms) has).0 are)
      (arms_sound allowed env each (env_parts (expr.outs-Match p e arms) has).1) complete
  sound allowed env locals {ns} (typed.is_case {ls = ls} {p = p} {e = e} {n = n} {k = k} h is) has are =
      on_IsCase allowed ns env locals p e n k (sound allowed env locals h (env_parts (expr.outs-IsCase p e n k) has).0
      are)
  sound allowed env locals {ns} (typed.case_alone {ls = ls} {p = p} {n = n} {k = k} is) has are =
      on_Case_None allowed ns env locals p n k is
  sound allowed env locals {ns} (typed.case_with {ls = ls} {p = p} {n = n} {k = k} {e = e} t is h) has are =
      on_Case_Some allowed ns env locals p n k e t is
      (sound allowed env locals h (env_parts (expr.outs-Case p n k (Some e)) has).0 are)
  sound allowed env locals {ns} (typed.structure {ls = ls} {p = p} {n = n} {fs = fs} h there) has are =
      on_Structure allowed ns env locals p n fs
      (fields_sound allowed env locals h (env_parts (expr.outs-Structure p n fs) has) are) there
  sound allowed env locals {ns} (typed.list {ls = ls} {p = p} {es = es} {t = t} declared low few h) has are =
      on_List allowed ns env locals p es t declared few
      (all_sound allowed env locals h (env_parts (expr.outs-List p es) has) are)
  sound allowed env locals {ns} (typed.for_all {ls = ls} {p = p} {l = l} {test = test} t h g) has are =
      on_ForAll allowed ns env locals p l test t
      (sound allowed env locals h (env_parts (expr.outs-ForAll p l test) has).0 are)
      (λ v hv. sound allowed env (locals ++ v ∷ []) g (env_parts (expr.outs-ForAll p l test) has).1.0
      (are_more ns.decls ls (t ∷ []) locals (v ∷ []) are (hv, tt)))
  sound allowed env locals {ns} (typed.exists {ls = ls} {p = p} {l = l} {test = test} t h g) has are =
      on_Exists allowed ns env locals p l test t
      (sound allowed env locals h (env_parts (expr.outs-Exists p l test) has).0 are)
      (λ v hv. sound allowed env (locals ++ v ∷ []) g (env_parts (expr.outs-Exists p l test) has).1.0
      (are_more ns.decls ls (t ∷ []) locals (v ∷ []) are (hv, tt)))
  sound allowed env locals {ns} (typed.map_each {ls = ls} {p = p} {l = l} {e = e} {u = u} t h g declared low) has are =
      on_Map allowed ns env locals p l e t u declared
      (sound allowed env locals h (env_parts (expr.outs-Map p l e) has).0 are)
      (λ v hv. sound allowed env (locals ++ v ∷ []) g (env_parts (expr.outs-Map p l e) has).1.0
      (are_more ns.decls ls (t ∷ []) locals (v ∷ []) are (hv, tt)))
  sound allowed env locals {ns} (typed.filter {ls = ls} {p = p} {l = l} {test = test} t h g) has are =
      on_Filter allowed ns env locals p l test t
      (sound allowed env locals h (env_parts (expr.outs-Filter p l test) has).0 are)
      (λ v hv. sound allowed env (locals ++ v ∷ []) g (env_parts (expr.outs-Filter p l test) has).1.0
      (are_more ns.decls ls (t ∷ []) locals (v ∷ []) are (hv, tt)))
  sound allowed env vs {ns} (typed.combine {ls = ls} {p = p} {l = l} {start = start} {e = e} {u = u} t h g i) has are =
      on_Combine allowed ns env vs p l start e t u
      (sound allowed env vs h (env_parts (expr.outs-Combine p l start e) has).0 are)
      (sound allowed env vs g (env_parts (expr.outs-Combine p l start e) has).1.0 are)
      (λ v w hv hw. sound allowed env (vs ++ v ∷ w ∷ []) i (env_parts (expr.outs-Combine p l start e) has).1.1.0
      (are_more ns.decls ls (t ∷ u ∷ []) vs (v ∷ w ∷ []) are (hv, (hw, tt))))
  sound allowed env locals {ns} (typed.contains {ls = ls} {p = p} {q = q} {l = l} {e = e} t h g is) has are =
      on_Contains allowed ns env locals p q l e t is
      (sound allowed env locals h (env_parts (expr.outs-Contains p q l e) has).0 are)
      (sound allowed env locals g (env_parts (expr.outs-Contains p q l e) has).1.0 are)
  sound allowed env locals {ns} (typed.number_of {ls = ls} {p = p} {l = l} t h) has are =
      on_Length allowed ns env locals p l t (sound allowed env locals h (env_parts (expr.outs-Length p l) has).0 are)
  sound allowed env locals {ns} (typed.sum {ls = ls} {p = p} {k = k} {l = l} h) has are =
      on_Sum allowed ns env locals p k l (sound allowed env locals h (env_parts (expr.outs-Sum p k l) has).0 are)
  sound allowed env locals {ns} (typed.call {ls = ls} {p = p} {f = f} {es = es} {t = t} params is h) has are =
      on_Call allowed ns env locals p f es params t (env_item (expr.outs-Call p f es) has).0 is
      (each_sound allowed env locals h (env_parts (expr.outs-Call p f es) has) are)
  sound allowed env vs {ns} (typed.scope_call {ls = ls} {p = p} {s = s} {k = k} {fs = fs} {t = t} h there is) has are =
      on_ScopeCall allowed ns env vs p s fs k t (env_scope (expr.outs-ScopeCall p s fs k) has).0
      (fields_sound allowed env vs h (env_parts (expr.outs-ScopeCall p s fs k) has) are) there is

  all_sound : (allowed : Allowed) → (env : Env) (locals : List Value) {ns : Names} {ls : List Ty} {es : List Expr}
      {t : Ty} → AllHaveType ns ls es t → AllHave (IsEnvOf allowed ns env) es → AreOf ns.decls ls locals
      → EndsIn allowed (AreSome ns.decls t es) (eval_all env es locals)
  all_sound allowed env locals typed.all_none has are = (tt, record { counted = refl; all = tt })
  all_sound allowed env locals {ns} (typed.all_more {ls = ls} {e = e} {es = es} {t = t} h more) has are =
      on_all_more allowed ns env locals t e es (sound allowed env locals h has.0 are)
      (all_sound allowed env locals more has.1 are)

  each_sound : (allowed : Allowed) → (env : Env) (locals : List Value) {ns : Names} {ls : List Ty} {es : List Expr}
      {ts : List Ty} → EachHasType ns ls es ts → AllHave (IsEnvOf allowed ns env) es → AreOf ns.decls ls locals
      → EndsIn allowed (AreOf ns.decls ts) (eval_all env es locals)
  each_sound allowed env locals typed.each_none has are = (tt, tt)
  each_sound allowed env locals {ns} (typed.each_more {ls = ls} {e = e} {es = es} {t = t} {ts = ts} h more) has are =
      on_each_more allowed ns env locals t ts e es (sound allowed env locals h has.0 are)
      (each_sound allowed env locals more has.1 are)

  fields_sound : (allowed : Allowed) → (env : Env) (locals : List Value) {ns : Names} {ls : List Ty}
      {type_of : ℕ → Option Ty} {fs : List FieldValue} → FieldsHaveType ns ls type_of fs
      → AllHave (IsEnvOf allowed ns env) (values_of fs)
      → AreOf ns.decls ls locals → EndsIn allowed (AreWritten ns.decls type_of fs) (eval_fields env fs locals)
  fields_sound allowed env locals typed.fields_none has are = (tt, record { numbers = refl; typed = tt })
  fields_sound allowed env vs {ns} (typed.fields_more {ls = ls} {ts = type_of} {f = f} {fs = fs} t is h more) has are =
      on_fields_more allowed ns env vs type_of t f fs is (sound allowed env vs h has.0 are)
      (fields_sound allowed env vs more has.1 are)

  arms_sound : (allowed : Allowed) → (env : Env) {ns : Names} {ls : List Ty} {n : ℕ} {arms : List Arm} {t : Ty}
      → ArmsHaveType ns ls n arms t → AllHave (IsEnvOf allowed ns env) (bodies_of arms)
      → AllHave (ArmEnds allowed ns.decls env n ls t) arms
  arms_sound allowed env typed.arms_none has = tt
  arms_sound allowed env {ns} (typed.arms_more {ls = ls} {n = n} {a = a} {arms = arms} {t = t} inside is h more) has = (
    record { inside = inside; locals = is; body = λ vs are. sound allowed env vs h has.0 are },
    arms_sound allowed env more has.1,
  )

pub expressions_go_on : (allowed : Allowed) → (ns : Names) (env : Env) (ls : List Ty) (locals : List Value) (e : Expr)
    (t : Ty) → HasType ns ls e t → IsEnvOf allowed ns env e → AreOf ns.decls ls locals
    → EndsIn allowed (IsOf ns.decls t) (eval env e locals)
expressions_go_on allowed ns env ls locals e t is has are = sound allowed env locals is has are
