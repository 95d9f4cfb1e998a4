-- An environment that has what an expression names has what its parts name.
use Rattle.std.proofs.Common.{◌≡◌, ℕ, List, [], ◌∷◌, ◌++◌, map, Option, Some, None, subst}
use Rattle.cat_scope.specs.declared.expr.Expr.{Expr}
use Rattle.cat_scope.specs.declared.expr.FieldValue.{FieldValue}
use Rattle.cat_scope.specs.declared.expr.Arm.{Arm}
use Rattle.cat_scope.specs.declared.expr.Expr.TheOpen.{Expr-F}
use Rattle.cat_scope.specs.declared.expr.Expr.TheViews.{out-Expr}
use Rattle.cat_scope.specs.declared.expr.Expr.TheFolds.{map-Expr}
use Rattle.cat_scope.specs.Names.{Names}
use Rattle.cat_scope.specs.Names.{AllHave}
use Rattle.cat_scope.specs.Mentions.{joined, in_parts, own_item, own_scope, named_by}
use Rattle.cat_scope.specs.Eval.{Env}
use Rattle.cat_sound.specs.Endings.{Allowed, IsReady, IsCallable, IsEnvOf}
use Rattle.cat_sound.proofs.Results.{all_front, all_back}
use Rattle.cat_scope.proofs.Exported.{Own, of_form, names_in_field, names_in_arm, names_in_field_is, names_in_arm_is}
use Rattle.cat_scope.proofs.Exported.{names_by_level}

abbrev Numbers : Type 0
Numbers = List ℕ

abbrev pub bodies_of : List Arm → List Expr
bodies_of [] = []
bodies_of (a ∷ arms) = a.body ∷ bodies_of arms

abbrev pub values_of : List FieldValue → List Expr
values_of [] = []
values_of (f ∷ fs) = f.value ∷ values_of fs

abbrev pub content_part : Option Expr → List Expr
content_part None = []
content_part (Some e) = e ∷ []

-- the parts of an expression that are expressions, from the left
abbrev pub parts_of : Expr-F Expr Arm FieldValue → List Expr
parts_of (Expr-F.Literal p l) = []
parts_of (Expr-F.Item p item) = []
parts_of (Expr-F.Output p item k) = []
parts_of (Expr-F.Local p k) = []
parts_of (Expr-F.Field p e k) = e ∷ []
parts_of (Expr-F.Unary p o e) = e ∷ []
parts_of (Expr-F.Binary p o q a b) = a ∷ b ∷ []
parts_of (Expr-F.And p a b) = a ∷ b ∷ []
parts_of (Expr-F.Or p a b) = a ∷ b ∷ []
parts_of (Expr-F.If p c a b) = c ∷ a ∷ b ∷ []
parts_of (Expr-F.Match p e arms) = e ∷ bodies_of arms
parts_of (Expr-F.IsCase p e n k) = e ∷ []
parts_of (Expr-F.Case p n k content) = content_part content
parts_of (Expr-F.Structure p n fields) = values_of fields
parts_of (Expr-F.List p es) = es
parts_of (Expr-F.ForAll p l test) = l ∷ test ∷ []
parts_of (Expr-F.Exists p l test) = l ∷ test ∷ []
parts_of (Expr-F.Map p l e) = l ∷ e ∷ []
parts_of (Expr-F.Filter p l test) = l ∷ test ∷ []
parts_of (Expr-F.Combine p l start e) = l ∷ start ∷ e ∷ []
parts_of (Expr-F.Contains p q l e) = l ∷ e ∷ []
parts_of (Expr-F.Length p l) = l ∷ []
parts_of (Expr-F.Sum p kind l) = l ∷ []
parts_of (Expr-F.Call p f es) = es
parts_of (Expr-F.ScopeCall p s fields k) = values_of fields

module _ (own : Own) where
  abbrev pub named : Expr → Numbers
  named = named_by own

  abbrev pub opened : Expr-F Expr Arm FieldValue → Expr-F Numbers Numbers Numbers
  opened y = map-Expr Expr Arm FieldValue Numbers Numbers Numbers named (names_in_arm own) (names_in_field own) y

  module _ (P : ℕ → Type 0) where
    in_all : (es : List Expr) → AllHave P (joined (map named es)) → AllHave (λ e. AllHave P (named e)) es
    in_all [] h = tt
    in_all (e ∷ es) h =
        (all_front P (named e) (joined (map named es)) h, in_all es (all_back P (named e) (joined (map named es)) h))

    in_arms : (arms : List Arm) → AllHave P (joined (map (names_in_arm own) arms)) → AllHave (λ e. AllHave P (named e))
        (bodies_of arms)
    in_arms [] h = tt
    in_arms (a ∷ arms) h = (
      subst (λ ns. AllHave P ns) (names_in_arm_is own a)
          (all_front P (names_in_arm own a) (joined (map (names_in_arm own) arms)) h),
      in_arms arms (all_back P (names_in_arm own a) (joined (map (names_in_arm own) arms)) h),
    )

    in_fields : (fs : List FieldValue) → AllHave P (joined (map (names_in_field own) fs))
        → AllHave (λ e. AllHave P (named e))
        (values_of fs)
    in_fields [] h = tt
    in_fields (f ∷ fs) h = (
      subst (λ ns. AllHave P ns) (names_in_field_is own f)
          (all_front P (names_in_field own f) (joined (map (names_in_field own) fs)) h),
      in_fields fs (all_back P (names_in_field own f) (joined (map (names_in_field own) fs)) h),
    )

    two : (a b : Expr) → AllHave P (named a ++ named b) → AllHave (λ e. AllHave P (named e)) (a ∷ b ∷ [])
    two a b h = (all_front P (named a) (named b) h, (all_back P (named a) (named b) h, tt))

    three : (a b c : Expr) → AllHave P (named a ++ named b ++ named c) → AllHave (λ e. AllHave P (named e))
        (a ∷ b ∷ c ∷ [])
    three a b c h =
        let front = all_front P (named a ++ named b) (named c) h in (
          all_front P (named a) (named b) front,
          (all_back P (named a) (named b) front, (all_back P (named a ++ named b) (named c) h, tt)),
        )

    each_part : (y : Expr-F Expr Arm FieldValue) → AllHave P (in_parts (opened y)) → AllHave (λ e. AllHave P (named e))
        (parts_of y)
    each_part (Expr-F.Literal p l) h = tt
    each_part (Expr-F.Item p item) h = tt
    each_part (Expr-F.Output p item k) h = tt
    each_part (Expr-F.Local p k) h = tt
    each_part (Expr-F.Field p e k) h = (h, tt)
    each_part (Expr-F.Unary p o e) h = (h, tt)
    each_part (Expr-F.Binary p o q a b) h = two a b h
    each_part (Expr-F.And p a b) h = two a b h
    each_part (Expr-F.Or p a b) h = two a b h
    each_part (Expr-F.If p c a b) h = three c a b h
    each_part (Expr-F.Match p e arms) h = (
      all_front P (named e) (joined (map (names_in_arm own) arms)) h,
      in_arms arms (all_back P (named e) (joined (map (names_in_arm own) arms)) h),
    )
    each_part (Expr-F.IsCase p e n k) h = (h, tt)
    each_part (Expr-F.Case p n k None) h = tt
    each_part (Expr-F.Case p n k (Some e)) h = (h, tt)
    each_part (Expr-F.Structure p n fields) h = in_fields fields h
    each_part (Expr-F.List p es) h = in_all es h
    each_part (Expr-F.ForAll p l test) h = two l test h
    each_part (Expr-F.Exists p l test) h = two l test h
    each_part (Expr-F.Map p l e) h = two l e h
    each_part (Expr-F.Filter p l test) h = two l test h
    each_part (Expr-F.Combine p l start e) h = three l start e h
    each_part (Expr-F.Contains p q l e) h = two l e h
    each_part (Expr-F.Length p l) h = (h, tt)
    each_part (Expr-F.Sum p kind l) h = (h, tt)
    each_part (Expr-F.Call p f es) h = in_all es h
    each_part (Expr-F.ScopeCall p s fields k) h = in_fields fields h

    seen : (e : Expr) (y : Expr-F Expr Arm FieldValue) → out-Expr e ≡ y → AllHave P (named e)
        → AllHave P (own (opened y) ++ in_parts (opened y))
    seen e y is h =
        subst (λ z. AllHave P (of_form own (opened z))) is (subst (λ ns. AllHave P ns) (names_by_level own e) h)

    -- what an expression names itself, and what its parts name
    pub itself : (e : Expr) (y : Expr-F Expr Arm FieldValue) → out-Expr e ≡ y → AllHave P (named e)
        → AllHave P (own (opened y))
    itself e y is h = all_front P (own (opened y)) (in_parts (opened y)) (seen e y is h)

    pub parts : (e : Expr) (y : Expr-F Expr Arm FieldValue) → out-Expr e ≡ y → AllHave P (named e)
        → AllHave (λ x. AllHave P (named x)) (parts_of y)
    parts e y is h = each_part y (all_back P (own (opened y)) (in_parts (opened y)) (seen e y is h))

paired : (allowed : Allowed) → (ns : Names) (env : Env) (es : List Expr)
    → AllHave (λ e. AllHave (IsReady allowed ns env) (named_by own_item e)) es
    → AllHave (λ e. AllHave (IsCallable allowed ns env) (named_by own_scope e)) es
    → AllHave (IsEnvOf allowed ns env) es
paired allowed ns env [] items scopes = tt
paired allowed ns env (e ∷ es) items scopes =
    (record { items = items.0; scopes = scopes.0 }, paired allowed ns env es items.1 scopes.1)

-- an environment of an expression is one of its parts
pub env_parts : {allowed : Allowed} {ns : Names} {env : Env} {e : Expr} {y : Expr-F Expr Arm FieldValue}
    → out-Expr e ≡ y → IsEnvOf allowed ns env e → AllHave (IsEnvOf allowed ns env) (parts_of y)
env_parts {allowed = allowed} {ns = ns} {env = env} {e = e} {y = y} is h =
    paired allowed ns env (parts_of y) (parts own_item (IsReady allowed ns env) e y is h.items)
    (parts own_scope (IsCallable allowed ns env) e y is h.scopes)

-- and has the item, the function or the scope that the expression names itself
pub env_item : {allowed : Allowed} {ns : Names} {env : Env} {e : Expr} {y : Expr-F Expr Arm FieldValue}
    → out-Expr e ≡ y → IsEnvOf allowed ns env e → AllHave (IsReady allowed ns env) (own_item (opened own_item y))
env_item {allowed = allowed} {ns = ns} {env = env} {e = e} {y = y} is h =
    itself own_item (IsReady allowed ns env) e y is h.items

pub env_scope : {allowed : Allowed} {ns : Names} {env : Env} {e : Expr} {y : Expr-F Expr Arm FieldValue}
    → out-Expr e ≡ y → IsEnvOf allowed ns env e → AllHave (IsCallable allowed ns env) (own_scope (opened own_scope y))
env_scope {allowed = allowed} {ns = ns} {env = env} {e = e} {y = y} is h =
    itself own_scope (IsCallable allowed ns env) e y is h.scopes
