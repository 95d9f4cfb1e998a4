-- Expressions that agree but for positions give the same: they decide the same, and have the same value or none.
use Rattle.std.proofs.Common.{◌≡◌, ◌<◌, ℕ, zero, suc, ◌+◌, Bool, true, false, List, [], ◌∷◌, ◌++◌, length, Option}
use Rattle.std.proofs.Common.{Some, None, Result, Ok, Err, slice_get, refl, sym, ap, ◌∙◌, subst, arith, if◌then◌else◌}
use Rattle.std.specs.Prelude.{nat_eq}
use Rattle.cat_value.specs.declared.value.Value.{Value}
use Rattle.cat_value.specs.declared.value.Value.TheVariants as flat
use Rattle.cat_scope.specs.declared.stop.Stop.{Stop}
use Rattle.cat_scope.specs.declared.expr.Expr.{Expr}
use Rattle.cat_scope.specs.declared.expr.Arm.{Arm}
use Rattle.cat_scope.specs.declared.expr.ArmPattern.{ArmPattern}
use Rattle.cat_scope.specs.declared.expr.ArmPattern.TheVariants as pattern
use Rattle.cat_scope.specs.declared.expr.FieldValue.{FieldValue}
use Rattle.cat_scope.specs.Replies.{on_one, known}
use Rattle.cat_scope.specs.Runs.{Decider, Run, plain, gives, behind, and_then, giving, in_front, either}
use Rattle.cat_scope.specs.Projections as read
use Rattle.cat_scope.specs.Projections.{case_of, elements}
use Rattle.cat_scope.specs.Operators.{convert, operate}
use Rattle.cat_scope.specs.Composed.{Meaning, part, structured, arm_locals, arm_value, listed}
use Rattle.cat_scope.specs.Lists.{for_all, exists, mapped, filtered, combined, contained, zero_of, summed}
use Rattle.cat_scope.specs.Eval.{Env, eval}
use Rattle.cat_scope.specs.inside.EvalParts.{eval_all, eval_fields, eval_arms}
use Rattle.cat_scope.specs.Same.{Standing, Same, SameAll, SameFields, SameArms, kept, Alike}
use Rattle.cat_scope.specs.Same as same
use Rattle.cat_scope.proofs.Exported.{append_append}
use Rattle.cat_scope.proofs.Exported.{eval_Literal, eval_Item, eval_Output, eval_Local, eval_Field, eval_Unary}
use Rattle.cat_scope.proofs.Exported.{eval_Binary, eval_And, eval_Or, eval_If, eval_Match, eval_IsCase, eval_Case_None}
use Rattle.cat_scope.proofs.Exported.{eval_Case_Some, eval_Structure, eval_List, eval_ForAll, eval_Exists, eval_Map}
use Rattle.cat_scope.proofs.Exported.{eval_Filter, eval_Combine, eval_Contains, eval_Length, eval_Sum, eval_Call}
use Rattle.cat_scope.proofs.Exported.{eval_ScopeCall}
use Rattle.cat_sound.proofs.CloseResults.{Close, contained_close, convert_close, operate_close, or_this, summed_close}

-- ---- runs

behind_alike : {A B : Type 0} (log more : List Decider) (r s : Result A Stop) (f g : A → Run B) → log ≡ more → Close r s
    → ((a : A) → Alike (f a) (g a)) → Alike (behind log r f) (behind more s g)
behind_alike log more (Ok a) (Ok b) f g l h k =
    let same : a ≡ b = ap (or_this a) h in (
      ap (λ (xs : List Decider). xs ++ (f a).log) l ∙ ap (λ (xs : List Decider). more ++ xs)
          ((k a).0 ∙ ap (λ x. (g x).log) same),
      (k a).1 ∙ ap (λ x. kept (g x).end) same,
    )
behind_alike log more (Ok a) (Err t) f g l h k = absurd (cc)
behind_alike log more (Err t) (Ok b) f g l h k = absurd (cc)
behind_alike log more (Err t) (Err u) f g l h k = (l, refl)

then_alike : {A B : Type 0} (r s : Run A) (f g : A → Run B) → Alike r s → ((a : A) → Alike (f a) (g a))
    → Alike (and_then r f) (and_then s g)
then_alike r s f g h k = behind_alike r.log s.log r.end s.end f g h.0 h.1 k

giving_alike : {A B : Type 0} (r s : Run A) (f g : A → Result B Stop) → Alike r s → ((a : A) → Close (f a) (g a))
    → Alike (giving r f) (giving s g)
giving_alike r s f g h k = then_alike r s (λ a. plain (f a)) (λ a. plain (g a)) h (λ a. (refl, k a))

alike_self : {A : Type 0} (r : Run A) → Alike r r
alike_self r = (refl, refl)

either_alike : {A : Type 0} (t : Result Bool Stop) (x y z w : Run A) → Alike x y → Alike z w
    → Alike (either t x z) (either t y w)
either_alike (Ok true) x y z w h k = h
either_alike (Ok false) x y z w h k = k
either_alike (Err s) x y z w h k = (refl, refl)

front_alike : {A : Type 0} (r s : Run A) (rs ss : Run (List A)) → Alike r s → Alike rs ss
    → Alike (in_front r rs) (in_front s ss)
front_alike r s rs ss h k = then_alike r s _ _ h (λ a. then_alike rs ss _ _ k (λ more. (refl, refl)))

module _ (f g : Value → Run Value) (each : (v : Value) → Alike (f v) (g v)) where
  for_all_alike : (vs : List Value) → Alike (for_all f vs) (for_all g vs)
  for_all_alike [] = (refl, refl)
  for_all_alike (v ∷ vs) = then_alike (f v) (g v) _ _ (each v)
      (λ t. either_alike (read.truth t) (for_all f vs) (for_all g vs) (gives (flat.Boolean false))
      (gives (flat.Boolean false)) (for_all_alike vs) (refl, refl))

  exists_alike : (vs : List Value) → Alike (exists f vs) (exists g vs)
  exists_alike [] = (refl, refl)
  exists_alike (v ∷ vs) = then_alike (f v) (g v) _ _ (each v)
      (λ t. either_alike (read.truth t) (gives (flat.Boolean true)) (gives (flat.Boolean true)) (exists f vs)
      (exists g vs) (refl, refl) (exists_alike vs))

  mapped_alike : (vs : List Value) → Alike (mapped f vs) (mapped g vs)
  mapped_alike [] = (refl, refl)
  mapped_alike (v ∷ vs) = front_alike (f v) (g v) (mapped f vs) (mapped g vs) (each v) (mapped_alike vs)

  filtered_alike : (vs : List Value) → Alike (filtered f vs) (filtered g vs)
  filtered_alike [] = (refl, refl)
  filtered_alike (v ∷ vs) = then_alike (f v) (g v) _ _ (each v)
      (λ t. either_alike (read.truth t) (in_front (gives v) (filtered f vs)) (in_front (gives v) (filtered g vs))
      (filtered f vs) (filtered g vs)
      (front_alike (gives v) (gives v) (filtered f vs) (filtered g vs) (refl, refl) (filtered_alike vs))
      (filtered_alike vs))

combined_alike : (f g : Value → Value → Run Value) → ((v w : Value) → Alike (f v w) (g v w))
    → (vs : List Value) (total : Value) → Alike (combined f vs total) (combined g vs total)
combined_alike f g each [] total = (refl, refl)
combined_alike f g each (v ∷ vs) total =
    then_alike (f v total) (g v total) _ _ (each v total) (λ w. combined_alike f g each vs w)

between : {A : Type 0} {r s t u : Run A} → r ≡ s → Alike s t → u ≡ t → Alike r u
between e h f =
    (ap (λ x. x.log) e ∙ h.0 ∙ sym (ap (λ x. x.log) f), ap (λ x. kept x.end) e ∙ h.1 ∙ sym (ap (λ x. kept x.end) f))

arm_alike : (p q : ArmPattern) (f g : Meaning) (r s : Run Value) (k : ℕ) (content : Option Value) (ls ms : List Value)
    → p ≡ q → ((more : List Value) → Alike (f (ls ++ more)) (g (ms ++ more))) → Alike (f ls) (g ms) → Alike r s
    → Alike (arm_value p f r k content ls) (arm_value q g s k content ms)
arm_alike p q f g r s k content ls ms e each alone h =
    subst (λ x. Alike (arm_value p f r k content ls) (arm_value x g s k content ms)) e (by p)
  where
    if_alike : (b : Bool) (x y z w : Run Value) → Alike x y → Alike z w → Alike (if b then x else z)
        (if b then y else w)
    if_alike true x y z w h k = h
    if_alike false x y z w h k = k

    bound_alike : (bound : Bool) (content : Option Value) → Alike (and_then (plain (arm_locals bound content ls)) f)
        (and_then (plain (arm_locals bound content ms)) g)
    bound_alike false content = alone
    bound_alike true (Some v) = each (v ∷ [])
    bound_alike true None = (refl, refl)

    by : (p : ArmPattern) → Alike (arm_value p f r k content ls) (arm_value p g s k content ms)
    by pattern.Anything = alone
    by (pattern.Case case bound) = if_alike (nat_eq k case) _ _ r s (bound_alike bound content) h

-- ---- local names

get_front : (xs vs : List Value) (k : ℕ) → k < length xs → slice_get (xs ++ vs) k ≡ slice_get xs k
get_front [] vs k below = absurd (omega arith)
get_front (x ∷ xs) vs zero below = refl
get_front (x ∷ xs) vs (suc k) below = get_front xs vs k (omega arith)

get_back : (xs vs : List Value) (n k : ℕ) → length xs ≡ n → slice_get (xs ++ vs) (n + k) ≡ slice_get vs k
get_back [] vs n k is = ap (slice_get vs) (omega (arith, is))
get_back (x ∷ xs) vs zero k is = absurd (omega arith)
get_back (x ∷ xs) vs (suc n) k is = ap (slice_get (x ∷ xs ++ vs)) (next n k) ∙ get_back xs vs n k (omega (arith, is))
  where
    next : (n k : ℕ) → suc n + k ≡ suc (n + k)
    next n k = omega arith

-- ---- expressions

module _ (env : Env) (here there : Standing) (args others : List Value) (many : length args ≡ here.params)
    (also : length others ≡ there.params) (shared : here.function ≡ there.function → args ≡ others) where
  abbrev Left : Expr → List Value → Run Value
  Left e vs = eval env e (args ++ vs)

  abbrev Right : Expr → List Value → Run Value
  Right e vs = eval env e (others ++ vs)

  -- under more local names
  shifted : (e f : Expr) (vs more : List Value) → Alike (Left e (vs ++ more)) (Right f (vs ++ more))
      → Alike (eval env e ((args ++ vs) ++ more)) (eval env f ((others ++ vs) ++ more))
  shifted e f vs more h =
      subst (λ ls. Alike (eval env e ls) (eval env f ((others ++ vs) ++ more))) (sym (append_append args vs more))
      (subst (λ ms. Alike (Left e (vs ++ more)) (eval env f ms)) (sym (append_append others vs more)) h)

  listed_alike : (l m : Expr) (vs : List Value) → Alike (Left l vs) (Right m vs)
      → Alike (listed (eval env l) (args ++ vs)) (listed (eval env m) (others ++ vs))
  listed_alike l m vs h = giving_alike (Left l vs) (Right m vs) elements elements h (λ v. refl)

  on_parameter : (k : ℕ) (vs : List Value) → here.function ≡ there.function → k < here.params → k < there.params
      → Close (known (slice_get (args ++ vs) k)) (known (slice_get (others ++ vs) k))
  on_parameter k vs one below under =
      ap (λ o. kept (known o)) (get_front args vs k (omega (arith, many, below))
      ∙ ap (λ (xs : List Value). slice_get xs k) (shared one)
      ∙ sym (get_front others vs k (omega (arith, also, under))))

  on_bound : (k : ℕ) (vs : List Value) → Close (known (slice_get (args ++ vs) (here.params + k)))
      (known (slice_get (others ++ vs) (there.params + k)))
  on_bound k vs =
      ap (λ o. kept (known o)) (get_back args vs here.params k many ∙ sym (get_back others vs there.params k also))

  mutual
    pub alike : {e f : Expr} → Same here there e f → (vs : List Value) → Alike (Left e vs) (Right f vs)
    alike (same.literal {p = p} {q = q} {l = l}) vs =
        between (eval_Literal env p l (args ++ vs)) (refl, refl) (eval_Literal env q l (others ++ vs))
    alike (same.item {p = p} {q = q} {i = i}) vs =
        between (eval_Item env p i (args ++ vs)) (refl, refl) (eval_Item env q i (others ++ vs))
    alike (same.output {p = p} {q = q} {i = i} {k = k}) vs =
        between (eval_Output env p i k (args ++ vs)) (refl, refl) (eval_Output env q i k (others ++ vs))
    alike (same.parameter {p = p} {q = q} {k = k} one below under) vs = between (eval_Local env p k (args ++ vs))
        (refl, on_parameter k vs one below under) (eval_Local env q k (others ++ vs))
    alike (same.bound {p = p} {q = q} k) vs = between (eval_Local env p (here.params + k) (args ++ vs))
        (refl, on_bound k vs) (eval_Local env q (there.params + k) (others ++ vs))
    alike (same.field {p = p} {q = q} {e = e} {f = f} {k = k} h) vs = between (eval_Field env p e k (args ++ vs))
        (giving_alike (eval env e (args ++ vs)) (eval env f (others ++ vs)) (part k) (part k) (alike h vs) (λ v. refl))
        (eval_Field env q f k (others ++ vs))
    alike (same.unary {p = p} {q = q} {o = o} {e = e} {f = f} h) vs = between (eval_Unary env p o e (args ++ vs))
        (giving_alike (eval env e (args ++ vs)) (eval env f (others ++ vs)) (convert o p) (convert o q) (alike h vs)
        (λ v. convert_close o p q v)) (eval_Unary env q o f (others ++ vs))
    alike (same.binary {p = p} {q = q} {r = r} {s = s} {o = o} {a = a} {b = b} {c = c} {d = d} h i) vs =
        between (eval_Binary env p o r a b (args ++ vs))
        (then_alike (eval env a (args ++ vs)) (eval env c (others ++ vs))
        _ _ (alike h vs) (λ v. giving_alike (eval env b (args ++ vs)) (eval env d (others ++ vs))
        (operate env.rounding o r v) (operate env.rounding o s v) (alike i vs)
        (λ w. operate_close env.rounding o r s v w))) (eval_Binary env q o s c d (others ++ vs))
    alike (same.both {p = p} {q = q} {a = a} {b = b} {c = c} {d = d} h i) vs = between (eval_And env p a b (args ++ vs))
        (then_alike (eval env a (args ++ vs)) (eval env c (others ++ vs)) _ _ (alike h vs)
        (λ v. either_alike (read.truth v) (eval env b (args ++ vs)) (eval env d (others ++ vs))
        (gives (flat.Boolean false)) (gives (flat.Boolean false)) (alike i vs) (refl, refl)))
        (eval_And env q c d (others ++ vs))
    alike (same.any {p = p} {q = q} {a = a} {b = b} {c = c} {d = d} h i) vs = between (eval_Or env p a b (args ++ vs))
        (then_alike (eval env a (args ++ vs)) (eval env c (others ++ vs)) _ _ (alike h vs)
        (λ v. either_alike (read.truth v) (gives (flat.Boolean true)) (gives (flat.Boolean true))
        (eval env b (args ++ vs)) (eval env d (others ++ vs)) (refl, refl) (alike i vs)))
        (eval_Or env q c d (others ++ vs))
    alike (same.choice {p = p} {q = q} {t = t} {a = a} {b = b} {u = u} {c = c} {d = d} g h i) vs =
        between (eval_If env p t a b (args ++ vs)) (then_alike (eval env t (args ++ vs)) (eval env u (others ++ vs)) _ _
        (alike g vs) (λ v. either_alike (read.truth v) (eval env a (args ++ vs)) (eval env c (others ++ vs))
        (eval env b (args ++ vs)) (eval env d (others ++ vs)) (alike h vs) (alike i vs)))
        (eval_If env q u c d (others ++ vs))
    alike (same.matching {p = p} {q = q} {e = e} {f = f} {xs = xs} {ys = ys} h arms) vs =
        between (eval_Match env p e xs (args ++ vs)) (then_alike (eval env e (args ++ vs)) (eval env f (others ++ vs)) _
        _
        (alike h vs) (λ v. then_alike (plain (case_of v)) (plain (case_of v)) _ _ (refl, refl)
        (λ c. arms_alike arms c.0 c.1 vs))) (eval_Match env q f ys (others ++ vs))
    alike (same.is_case {p = p} {q = q} {e = e} {f = f} {n = n} {k = k} h) vs =
        between (eval_IsCase env p e n k (args ++ vs))
        (giving_alike (eval env e (args ++ vs)) (eval env f (others ++ vs))
        (λ v. on_one (case_of v) (λ c. Ok (flat.Boolean (nat_eq c.0 k))))
        (λ v. on_one (case_of v) (λ c. Ok (flat.Boolean (nat_eq c.0 k)))) (alike h vs) (λ v. refl))
        (eval_IsCase env q f n k (others ++ vs))
    alike (same.case_alone {p = p} {q = q} {n = n} {k = k}) vs =
        between (eval_Case_None env p n k (args ++ vs)) (refl, refl) (eval_Case_None env q n k (others ++ vs))
    alike (same.case_with {p = p} {q = q} {n = n} {k = k} {e = e} {f = f} h) vs =
        between (eval_Case_Some env p n k e (args ++ vs))
        (then_alike (eval env e (args ++ vs)) (eval env f (others ++ vs)) _ _ (alike h vs) (λ v. (refl, refl)))
        (eval_Case_Some env q n k f (others ++ vs))
    alike (same.structure {p = p} {q = q} {n = n} {es = es} {fs = fs} h) vs =
        between (eval_Structure env p n es (args ++ vs))
        (giving_alike (eval_fields env es (args ++ vs)) (eval_fields env fs (others ++ vs)) structured structured
        (fields_alike h vs) (λ v. refl)) (eval_Structure env q n fs (others ++ vs))
    alike (same.list {p = p} {q = q} {es = es} {fs = fs} h) vs = between (eval_List env p es (args ++ vs))
        (then_alike (eval_all env es (args ++ vs)) (eval_all env fs (others ++ vs)) _ _ (all_alike h vs)
        (λ v. (refl, refl))) (eval_List env q fs (others ++ vs))
    alike (same.for_all {p = p} {q = q} {l = l} {e = e} {m = m} {f = f} h i) vs =
        between (eval_ForAll env p l e (args ++ vs))
        (then_alike (listed (eval env l) (args ++ vs)) (listed (eval env m) (others ++ vs)) _ _
        (listed_alike l m vs (alike h vs)) (for_all_alike (λ v. eval env e ((args ++ vs) ++ v ∷ []))
        (λ v. eval env f ((others ++ vs) ++ v ∷ [])) (λ v. shifted e f vs (v ∷ []) (alike i (vs ++ v ∷ [])))))
        (eval_ForAll env q m f (others ++ vs))
    alike (same.exists {p = p} {q = q} {l = l} {e = e} {m = m} {f = f} h i) vs =
        between (eval_Exists env p l e (args ++ vs))
        (then_alike (listed (eval env l) (args ++ vs)) (listed (eval env m) (others ++ vs)) _ _
        (listed_alike l m vs (alike h vs)) (exists_alike (λ v. eval env e ((args ++ vs) ++ v ∷ []))
        (λ v. eval env f ((others ++ vs) ++ v ∷ [])) (λ v. shifted e f vs (v ∷ []) (alike i (vs ++ v ∷ [])))))
        (eval_Exists env q m f (others ++ vs))
    alike (same.map_each {p = p} {q = q} {l = l} {e = e} {m = m} {f = f} h i) vs =
        between (eval_Map env p l e (args ++ vs))
        (then_alike (listed (eval env l) (args ++ vs)) (listed (eval env m) (others ++ vs)) _ _
        (listed_alike l m vs (alike h vs)) (λ ws. then_alike (mapped (λ v. eval env e ((args ++ vs) ++ v ∷ [])) ws)
        (mapped (λ v. eval env f ((others ++ vs) ++ v ∷ [])) ws) _ _
        (mapped_alike (λ v. eval env e ((args ++ vs) ++ v ∷ [])) (λ v. eval env f ((others ++ vs) ++ v ∷ []))
        (λ v. shifted e f vs (v ∷ []) (alike i (vs ++ v ∷ []))) ws) (λ us. (refl, refl))))
        (eval_Map env q m f (others ++ vs))
    alike (same.filter {p = p} {q = q} {l = l} {e = e} {m = m} {f = f} h i) vs =
        between (eval_Filter env p l e (args ++ vs))
        (then_alike (listed (eval env l) (args ++ vs)) (listed (eval env m) (others ++ vs)) _ _
        (listed_alike l m vs (alike h vs)) (λ ws. then_alike (filtered (λ v. eval env e ((args ++ vs) ++ v ∷ [])) ws)
        (filtered (λ v. eval env f ((others ++ vs) ++ v ∷ [])) ws) _ _
        (filtered_alike (λ v. eval env e ((args ++ vs) ++ v ∷ [])) (λ v. eval env f ((others ++ vs) ++ v ∷ []))
        (λ v. shifted e f vs (v ∷ []) (alike i (vs ++ v ∷ []))) ws) (λ us. (refl, refl))))
        (eval_Filter env q m f (others ++ vs))
    alike (same.combine {p = p} {q = q} {l = l} {s = s} {e = e} {m = m} {t = t} {f = f} h j i) vs =
        between (eval_Combine env p l s e (args ++ vs))
        (then_alike (listed (eval env l) (args ++ vs)) (listed (eval env m) (others ++ vs)) _ _
        (listed_alike l m vs (alike h vs)) (λ ws. then_alike (eval env s (args ++ vs)) (eval env t (others ++ vs)) _ _
        (alike j vs) (combined_alike (λ v total. eval env e ((args ++ vs) ++ v ∷ total ∷ []))
        (λ v total. eval env f ((others ++ vs) ++ v ∷ total ∷ []))
        (λ v total. shifted e f vs (v ∷ total ∷ []) (alike i (vs ++ v ∷ total ∷ []))) ws)))
        (eval_Combine env q m t f (others ++ vs))
    alike (same.contains {p = p} {q = q} {r = r} {s = s} {l = l} {e = e} {m = m} {f = f} h i) vs =
        between (eval_Contains env p r l e (args ++ vs))
        (then_alike (listed (eval env l) (args ++ vs)) (listed (eval env m) (others ++ vs)) _ _
        (listed_alike l m vs (alike h vs)) (λ ws. giving_alike (eval env e (args ++ vs)) (eval env f (others ++ vs))
        (λ v. contained r v ws) (λ v. contained s v ws) (alike i vs) (λ v. contained_close r s v ws)))
        (eval_Contains env q s m f (others ++ vs))
    alike (same.number_of {p = p} {q = q} {l = l} {m = m} h) vs = between (eval_Length env p l (args ++ vs))
        (then_alike (listed (eval env l) (args ++ vs)) (listed (eval env m) (others ++ vs)) _ _
        (listed_alike l m vs (alike h vs)) (λ ws. (refl, refl))) (eval_Length env q m (others ++ vs))
    alike (same.sum {p = p} {q = q} {k = k} {l = l} {m = m} h) vs = between (eval_Sum env p k l (args ++ vs))
        (giving_alike (listed (eval env l) (args ++ vs)) (listed (eval env m) (others ++ vs))
        (λ ws. summed k p ws (zero_of k)) (λ ws. summed k q ws (zero_of k)) (listed_alike l m vs (alike h vs))
        (λ ws. summed_close k p q ws (zero_of k))) (eval_Sum env q k m (others ++ vs))
    alike (same.call {p = p} {q = q} {f = f} {es = es} {fs = fs} h) vs = between (eval_Call env p f es (args ++ vs))
        (then_alike (eval_all env es (args ++ vs)) (eval_all env fs (others ++ vs)) _ _ (all_alike h vs)
        (λ ws. alike_self (env.call f ws))) (eval_Call env q f fs (others ++ vs))
    alike (same.scope_call {p = p} {q = q} {s = s} {k = k} {es = es} {fs = fs} h) vs =
        between (eval_ScopeCall env p s es k (args ++ vs))
        (then_alike (eval_fields env es (args ++ vs)) (eval_fields env fs (others ++ vs)) _ _ (fields_alike h vs)
        (λ ws. alike_self (env.scope_call s ws k))) (eval_ScopeCall env q s fs k (others ++ vs))

    pub all_alike : {es fs : List Expr} → SameAll here there es fs → (vs : List Value)
        → Alike (eval_all env es (args ++ vs)) (eval_all env fs (others ++ vs))
    all_alike same.all_none vs = (refl, refl)
    all_alike (same.all_more {e = e} {f = f} {es = es} {fs = fs} h k) vs = front_alike (eval env e (args ++ vs))
        (eval env f (others ++ vs)) (eval_all env es (args ++ vs)) (eval_all env fs (others ++ vs)) (alike h vs)
        (all_alike k vs)

    pub fields_alike : {es fs : List FieldValue} → SameFields here there es fs → (vs : List Value)
        → Alike (eval_fields env es (args ++ vs)) (eval_fields env fs (others ++ vs))
    fields_alike same.fields_none vs = (refl, refl)
    fields_alike (same.fields_more {e = e} {f = f} {es = es} {fs = fs} n h k) vs =
        front_alike _ _ (eval_fields env es (args ++ vs)) (eval_fields env fs (others ++ vs))
        (then_alike (eval env e.value (args ++ vs)) (eval env f.value (others ++ vs)) _ _ (alike h vs)
        (λ v. (refl, ap (λ (m : ℕ). Some (m, v)) n))) (fields_alike k vs)

    pub arms_alike : {xs ys : List Arm} → SameArms here there xs ys → (k : ℕ) (content : Option Value) (vs : List Value)
        → Alike (eval_arms env xs k content (args ++ vs)) (eval_arms env ys k content (others ++ vs))
    arms_alike same.arms_none k content vs = (refl, refl)
    arms_alike (same.arms_more {a = a} {b = b} {xs = xs} {ys = ys} e h more) k content vs =
        arm_alike a.pattern b.pattern (eval env a.body) (eval env b.body) (eval_arms env xs k content (args ++ vs))
        (eval_arms env ys k content (others ++ vs)) k content (args ++ vs) (others ++ vs) e
        (λ ws. shifted a.body b.body vs ws (alike h (vs ++ ws))) (alike h vs) (arms_alike more k content vs)

pub same_gives : (env : Env) (here there : Standing) (e f : Expr) (args others vs : List Value) → Same here there e f
    → length args ≡ here.params → length others ≡ there.params → (here.function ≡ there.function → args ≡ others)
    → Alike (eval env e (args ++ vs)) (eval env f (others ++ vs))
same_gives env here there e f args others vs same many also shared =
    alike env here there args others many also shared same vs
