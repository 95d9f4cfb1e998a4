-- What an expression gives rests on what it names alone.
use Rattle.std.proofs.Common.{◌≡◌, ℕ, List, [], ◌∷◌, map, None, Some, refl, sym, ap, ◌∙◌}
use mathlib.Core.Path.{fun_ext}
use Rattle.cat_date.specs.declared.rounding.Rounding.{Rounding}
use Rattle.cat_value.specs.declared.value.Value.{Value}
use Rattle.cat_scope.specs.declared.expr.Expr.{Expr}
use Rattle.cat_scope.specs.declared.expr.FieldValue.{FieldValue}
use Rattle.cat_scope.specs.declared.expr.Arm.{Arm}
use Rattle.cat_scope.specs.declared.expr.Expr.TheOpen.{Expr-F}
use Rattle.cat_scope.specs.declared.expr.Expr.TheViews.{out-Expr}
use Rattle.cat_scope.specs.declared.expr.Expr.TheFolds.{map-Expr}
use Rattle.cat_scope.specs.Replies.{on_one, evaluated}
use Rattle.cat_scope.specs.Runs.{plain, and_then, giving}
use Rattle.cat_scope.specs.Operators.{operate}
use Rattle.cat_scope.specs.Names.{AllHave}
use Rattle.cat_scope.specs.Mentions.{own_item, own_scope}
use Rattle.cat_scope.specs.Eval.{Env, eval, meaning_of}
use Rattle.cat_scope.specs.Composed.{Meaning, part, all_of, field_values}
use Rattle.cat_scope.proofs.Exported.{Field, Branch, field, branch, field_is, branch_is, levels, and_then_same}
use Rattle.cat_sound.specs.Rests.{TellSame, CallSame, AgreeOn}
use Rattle.cat_sound.proofs.NamedParts.{parts_of, bodies_of, values_of, parts, itself}
use Rattle.cat_sound.proofs.NamedParts as named
use Rattle.cat_sound.proofs.ByParts.{by_parts}

module _ (a b : Env) where
  abbrev Same : Expr → Type 0
  Same e = eval a e ≡ eval b e

  abbrev Rests : Expr → Type 0
  Rests e = AgreeOn a b e → Same e

  abbrev opened : Env → Expr-F Expr Arm FieldValue → Expr-F Meaning Branch Field
  opened env y = map-Expr Expr Arm FieldValue Meaning Branch Field (eval env) (branch env) (field env) y

  same_all : (es : List Expr) → AllHave Same es → map (eval a) es ≡ map (eval b) es
  same_all [] h = refl
  same_all (e ∷ es) h = ap (λ (m : Meaning). m ∷ map (eval a) es) h.0 ∙ ap (λ (ms : List Meaning). eval b e ∷ ms)
      (same_all es h.1)

  same_arm : (arm : Arm) → Same arm.body → branch a arm ≡ branch b arm
  same_arm arm h = branch_is a arm ∙ ap (λ (m : Meaning). (arm.pattern, m)) h ∙ sym (branch_is b arm)

  same_arms : (arms : List Arm) → AllHave Same (bodies_of arms) → map (branch a) arms ≡ map (branch b) arms
  same_arms [] h = refl
  same_arms (arm ∷ arms) h = ap (λ (m : Branch). m ∷ map (branch a) arms) (same_arm arm h.0)
      ∙ ap (λ (ms : List Branch). branch b arm ∷ ms) (same_arms arms h.1)

  same_field : (f : FieldValue) → Same f.value → field a f ≡ field b f
  same_field f h = field_is a f ∙ ap (λ (m : Meaning). (f.field, m)) h ∙ sym (field_is b f)

  same_fields : (fs : List FieldValue) → AllHave Same (values_of fs) → map (field a) fs ≡ map (field b) fs
  same_fields [] h = refl
  same_fields (f ∷ fs) h = ap (λ (m : Field). m ∷ map (field a) fs) (same_field f h.0)
      ∙ ap (λ (ms : List Field). field b f ∷ ms) (same_fields fs h.1)

  -- the parts give the same
  parts_same : (y : Expr-F Expr Arm FieldValue) → AllHave Same (parts_of y) → opened a y ≡ opened b y
  parts_same (Expr-F.Literal p l) h = refl
  parts_same (Expr-F.Item p item) h = refl
  parts_same (Expr-F.Output p item k) h = refl
  parts_same (Expr-F.Local p k) h = refl
  parts_same (Expr-F.Field p e k) h = ap (λ (m : Meaning). Expr-F.Field p m k) h.0
  parts_same (Expr-F.Unary p o e) h = ap (λ (m : Meaning). Expr-F.Unary p o m) h.0
  parts_same (Expr-F.Binary p o q x z) h = ap (λ (m : Meaning). Expr-F.Binary p o q m (eval a z)) h.0
      ∙ ap (λ (m : Meaning). Expr-F.Binary p o q (eval b x) m) h.1.0
  parts_same (Expr-F.And p x z) h = ap (λ (m : Meaning). Expr-F.And p m (eval a z)) h.0
      ∙ ap (λ (m : Meaning). Expr-F.And p (eval b x) m) h.1.0
  parts_same (Expr-F.Or p x z) h = ap (λ (m : Meaning). Expr-F.Or p m (eval a z)) h.0
      ∙ ap (λ (m : Meaning). Expr-F.Or p (eval b x) m) h.1.0
  parts_same (Expr-F.If p c x z) h = ap (λ (m : Meaning). Expr-F.If p m (eval a x) (eval a z)) h.0
      ∙ ap (λ (m : Meaning). Expr-F.If p (eval b c) m (eval a z)) h.1.0
      ∙ ap (λ (m : Meaning). Expr-F.If p (eval b c) (eval b x) m) h.1.1.0
  parts_same (Expr-F.Match p e arms) h = ap (λ (m : Meaning). Expr-F.Match p m (map (branch a) arms)) h.0
      ∙ ap (λ (ms : List Branch). Expr-F.Match p (eval b e) ms) (same_arms arms h.1)
  parts_same (Expr-F.IsCase p e n k) h = ap (λ (m : Meaning). Expr-F.IsCase p m n k) h.0
  parts_same (Expr-F.Case p n k None) h = refl
  parts_same (Expr-F.Case p n k (Some e)) h = ap (λ (m : Meaning). Expr-F.Case p n k (Some m)) h.0
  parts_same (Expr-F.Structure p n fields) h = ap (λ (ms : List Field). Expr-F.Structure p n ms) (same_fields fields h)
  parts_same (Expr-F.List p es) h = ap (λ (ms : List Meaning). Expr-F.List p ms) (same_all es h)
  parts_same (Expr-F.ForAll p l test) h = ap (λ (m : Meaning). Expr-F.ForAll p m (eval a test)) h.0
      ∙ ap (λ (m : Meaning). Expr-F.ForAll p (eval b l) m) h.1.0
  parts_same (Expr-F.Exists p l test) h = ap (λ (m : Meaning). Expr-F.Exists p m (eval a test)) h.0
      ∙ ap (λ (m : Meaning). Expr-F.Exists p (eval b l) m) h.1.0
  parts_same (Expr-F.Map p l e) h = ap (λ (m : Meaning). Expr-F.Map p m (eval a e)) h.0
      ∙ ap (λ (m : Meaning). Expr-F.Map p (eval b l) m) h.1.0
  parts_same (Expr-F.Filter p l test) h = ap (λ (m : Meaning). Expr-F.Filter p m (eval a test)) h.0
      ∙ ap (λ (m : Meaning). Expr-F.Filter p (eval b l) m) h.1.0
  parts_same (Expr-F.Combine p l start e) h = ap (λ (m : Meaning). Expr-F.Combine p m (eval a start) (eval a e)) h.0
      ∙ ap (λ (m : Meaning). Expr-F.Combine p (eval b l) m (eval a e)) h.1.0
      ∙ ap (λ (m : Meaning). Expr-F.Combine p (eval b l) (eval b start) m) h.1.1.0
  parts_same (Expr-F.Contains p q l e) h = ap (λ (m : Meaning). Expr-F.Contains p q m (eval a e)) h.0
      ∙ ap (λ (m : Meaning). Expr-F.Contains p q (eval b l) m) h.1.0
  parts_same (Expr-F.Length p l) h = ap (λ (m : Meaning). Expr-F.Length p m) h.0
  parts_same (Expr-F.Sum p kind l) h = ap (λ (m : Meaning). Expr-F.Sum p kind m) h.0
  parts_same (Expr-F.Call p f es) h = ap (λ (ms : List Meaning). Expr-F.Call p f ms) (same_all es h)
  parts_same (Expr-F.ScopeCall p s fields k) h =
      ap (λ (ms : List Field). Expr-F.ScopeCall p s ms k) (same_fields fields h)

  -- and what is named tells the same
  abbrev items_in : Expr-F Expr Arm FieldValue → List ℕ
  items_in y = own_item (named.opened own_item y)

  abbrev scopes_in : Expr-F Expr Arm FieldValue → List ℕ
  scopes_in y = own_scope (named.opened own_scope y)

  form_same : (y : Expr-F Expr Arm FieldValue) → a.rounding ≡ b.rounding → AllHave (TellSame a b) (items_in y)
      → AllHave (CallSame a b) (scopes_in y) → meaning_of a (opened b y) ≡ meaning_of b (opened b y)
  form_same (Expr-F.Item p item) r items scopes = fun_ext (λ locals. ap (λ o. plain (evaluated o)) items.0.value)
  form_same (Expr-F.Output p item k) r items scopes =
      fun_ext (λ locals. ap (λ o. plain (on_one (evaluated o) (part k))) items.0.value)
  form_same (Expr-F.Binary p o q x z) r items scopes =
      fun_ext (λ locals. ap (λ (rounding : Rounding). and_then (eval b x locals)
      (λ v. giving (eval b z locals) (operate rounding o q v))) r)
  form_same (Expr-F.Call p f es) r items scopes =
      fun_ext (λ locals. and_then_same (all_of (map (eval b) es) locals) (a.call f) (b.call f) items.0.call)
  form_same (Expr-F.ScopeCall p s fields k) r items scopes =
      fun_ext (λ locals. and_then_same (field_values (map (field b) fields) locals) (λ fs. a.scope_call s fs k)
      (λ fs. b.scope_call s fs k) (λ fs. scopes.0 fs k))
  form_same (Expr-F.Case p n k None) r items scopes = refl
  form_same (Expr-F.Case p n k (Some e)) r items scopes = refl
  form_same _ r items scopes = refl

  applied : (es : List Expr) → AllHave Rests es → AllHave (AgreeOn a b) es → AllHave Same es
  applied [] h agree = tt
  applied (e ∷ es) h agree = (h.0 agree.0, applied es h.1 agree.1)

  paired : a.rounding ≡ b.rounding → (es : List Expr) → AllHave (λ e. AllHave (TellSame a b) (named.named own_item e))
      es → AllHave (λ e. AllHave (CallSame a b) (named.named own_scope e)) es → AllHave (AgreeOn a b) es
  paired r [] items scopes = tt
  paired r (e ∷ es) items scopes =
      (record { rounding = r; items = items.0; scopes = scopes.0 }, paired r es items.1 scopes.1)

  step : (e : Expr) (y : Expr-F Expr Arm FieldValue) → out-Expr e ≡ y → AllHave Rests (parts_of y) → Rests e
  step e y is h agree =
      let inside = paired agree.rounding (parts_of y) (parts own_item (TellSame a b) e y is agree.items)
      (parts own_scope (CallSame a b) e y is agree.scopes) in
      levels a e ∙ ap (λ z. meaning_of a (opened a z)) is
      ∙ ap (meaning_of a) (parts_same y (applied (parts_of y) h inside))
      ∙ form_same y agree.rounding (itself own_item (TellSame a b) e y is agree.items)
      (itself own_scope (CallSame a b) e y is agree.scopes)
      ∙ sym (levels b e ∙ ap (λ z. meaning_of b (opened b z)) is)

  pub rests : (e : Expr) → Rests e
  rests = by_parts Rests step

pub names_alone : (a b : Env) (e : Expr) (locals : List Value) → AgreeOn a b e → eval a e locals ≡ eval b e locals
names_alone a b e locals agree = ap (λ (m : Meaning). m locals) (rests a b e agree)
