-- The functions that expressions call are among the items that they name.
use Rattle.std.proofs.Common.{◌≡◌, ◌+◌, ℕ, zero, suc, nat_eq, Bool, true, false, IsTrue, List, [], ◌∷◌}
use Rattle.std.proofs.Common.{◌++◌, Option, None, Some, refl, sym, arith, get_or, true≢false}
use Rattle.std.proofs.Common.{if◌then◌else◌}
use Rattle.std.proofs.lemmas.Bool.Decides.{nat_tests}
use Rattle.cat_pos.specs.declared.pos.Pos.{Pos}
use Rattle.cat_value.specs.declared.declaration.ItemDecl.{ItemDecl}
use Rattle.cat_order.specs.Order.{is_listed}
use Rattle.cat_scope.specs.declared.expr.Expr.{Expr}
use Rattle.cat_scope.specs.declared.expr.FieldValue.{FieldValue}
use Rattle.cat_scope.specs.declared.expr.Arm.{Arm}
use Rattle.cat_scope.specs.declared.defs.Def.{Def}
use Rattle.cat_scope.specs.Names.{is_function}
use Rattle.cat_scope.specs.Orders.{in_condition, in_def, in_defs_of}
use Rattle.cat_scope.proofs.Exported.{Each, Within, induction}
use Rattle.cat_depend.specs.declared.naming.Wanted.TheVariants.{Items, Functions}
use Rattle.cat_depend.specs.inside.Wanted.{named, function_in, in_each, in_fields, in_arms}
use Rattle.cat_depend.specs.inside.Wanted.{lists_from}
use Rattle.cat_scope.specs.declared.expr.Expr.TheViews as expr
use Rattle.cat_depend.proofs.Named as named
use Rattle.cat_depend.proofs.Listing.{times_both}

-- what is in one list is in the other
abbrev Sub : List ℕ → List ℕ → Type 0
Sub xs ys = (m : ℕ) → IsTrue (is_listed xs m) → IsTrue (is_listed ys m)

none : (ys : List ℕ) → Sub [] ys
none ys m h = absurd (true≢false (sym h))

same : (xs : List ℕ) → Sub xs xs
same xs m h = h

both : (xs xs' ys ys' : List ℕ) → Sub xs xs' → Sub ys ys' → Sub (xs ++ ys) (xs' ++ ys')
both xs xs' ys ys' f g m h = by (is_listed xs m) refl
  where
    by : (b : Bool) → is_listed xs m ≡ b → IsTrue (is_listed (xs' ++ ys') m)
    by true e = let there : IsTrue (is_listed xs' m) = f m e in grind (arith, nat_tests, times_both xs' ys' m)
    by false e = let there : IsTrue (is_listed ys' m) = g m (grind (arith, nat_tests, times_both xs ys m)) in
        grind (arith, nat_tests, times_both xs' ys' m)

abbrev AreAmong : Expr → Type 0
AreAmong e = Sub (named Functions e) (named Items e)

each_among : (es : List Expr) → Each AreAmong es → Sub (in_each Functions es) (in_each Items es)
each_among [] all = none []
each_among (e ∷ es) all = both (named Functions e) (named Items e) (in_each Functions es) (in_each Items es) all.0
    (each_among es all.1)

fields_among : (fs : List FieldValue) → Each (λ f. AreAmong f.value) fs
    → Sub (in_fields Functions fs) (in_fields Items fs)
fields_among [] all = none []
fields_among (f ∷ fs) all = both (named Functions f.value) (named Items f.value) (in_fields Functions fs)
    (in_fields Items fs) all.0 (fields_among fs all.1)

arms_among : (arms : List Arm) → Each (λ a. AreAmong a.body) arms → Sub (in_arms Functions arms) (in_arms Items arms)
arms_among [] all = none []
arms_among (a ∷ arms) all = both (named Functions a.body) (named Items a.body) (in_arms Functions arms)
    (in_arms Items arms) all.0 (arms_among arms all.1)

pub are_among : (e : Expr) → AreAmong e
are_among = induction AreAmong
    (λ p l. rw (named.names_Literal Functions p l) (none _))
    (λ p i. rw (named.names_Item Functions p i) (none _))
    (λ p i k. rw (named.names_Output Functions p i k) (none _))
    (λ p k. rw (named.names_Local Functions p k) (none _))
    (λ p e k h. rw (named.names_Field Functions p e k, named.names_Field Items p e k) h)
    (λ p o e h. rw (named.names_Unary Functions p o e, named.names_Unary Items p o e) h)
    (λ p o q a b h i. rw (named.names_Binary Functions p o q a b, named.names_Binary Items p o q a b)
    (both _ _ _ _ h i))
    (λ p a b h i. rw (named.names_And Functions p a b, named.names_And Items p a b) (both _ _ _ _ h i))
    (λ p a b h i. rw (named.names_Or Functions p a b, named.names_Or Items p a b) (both _ _ _ _ h i))
    (λ p c a b h i j. rw (named.names_If Functions p c a b, named.names_If Items p c a b)
    (both _ _ _ _ (both _ _ _ _ h i) j))
    (λ p e arms h all. rw (named.names_Match Functions p e arms, named.names_Match Items p e arms)
    (both _ _ _ _ h (arms_among arms all)))
    (λ p e n k h. rw (named.names_IsCase Functions p e n k, named.names_IsCase Items p e n k) h)
    case
    (λ p n fs all. rw (named.names_Structure Functions p n fs, named.names_Structure Items p n fs)
    (fields_among fs all))
    (λ p es all. rw (named.names_List Functions p es, named.names_List Items p es) (each_among es all))
    (λ p l e h i. rw (named.names_ForAll Functions p l e, named.names_ForAll Items p l e) (both _ _ _ _ h i))
    (λ p l e h i. rw (named.names_Exists Functions p l e, named.names_Exists Items p l e) (both _ _ _ _ h i))
    (λ p l e h i. rw (named.names_Map Functions p l e, named.names_Map Items p l e) (both _ _ _ _ h i))
    (λ p l e h i. rw (named.names_Filter Functions p l e, named.names_Filter Items p l e) (both _ _ _ _ h i))
    (λ p l s e h i j. rw (named.names_Combine Functions p l s e, named.names_Combine Items p l s e)
    (both _ _ _ _ (both _ _ _ _ h i) j))
    (λ p q l e h i. rw (named.names_Contains Functions p q l e, named.names_Contains Items p q l e) (both _ _ _ _ h i))
    (λ p l h. rw (named.names_Length Functions p l, named.names_Length Items p l) h)
    (λ p k l h. rw (named.names_Sum Functions p k l, named.names_Sum Items p k l) h)
    (λ p f es all. rw (named.names_Call Functions p f es, named.names_Call Items p f es)
    (both (function_in Functions f) (function_in Items f) (in_each Functions es) (in_each Items es) (same (f ∷ []))
    (each_among es all)))
    (λ p s fs k all. rw (named.names_ScopeCall Functions p s fs k, named.names_ScopeCall Items p s fs k)
    (fields_among fs all))
  where
    case : (p : Pos) (n k : ℕ) (content : Option Expr) → Within AreAmong content → AreAmong (expr.Case p n k content)
    case p n k None h = rw (named.names_Case_None Functions p n k) (none _)
    case p n k (Some e) h = rw (named.names_Case_Some Functions p n k e, named.names_Case_Some Items p n k e) h

-- ---- definitions

in_condition_among : (c : Option Expr) → Sub (in_condition (named Functions) c) (in_condition (named Items) c)
in_condition_among None = none []
in_condition_among (Some e) = are_among e

in_def_among : (d : Def) → Sub (in_def (named Functions) d) (in_def (named Items) d)
in_def_among d = both _ _ _ _ (in_condition_among d.condition) (are_among d.consequence)

in_defs_among : (n : ℕ) (ds : List Def) → Sub (in_defs_of (named Functions) n ds) (in_defs_of (named Items) n ds)
in_defs_among n [] = none []
in_defs_among n (d ∷ ds) = by (nat_eq d.target.item n) (in_def_among d) (in_defs_among n ds)
  where
    by : (b : Bool) → Sub (in_def (named Functions) d) (in_def (named Items) d)
        → Sub (in_defs_of (named Functions) n ds) (in_defs_of (named Items) n ds)
        → Sub (if b then in_def (named Functions) d ++ in_defs_of (named Functions) n ds
        else in_defs_of (named Functions) n ds)
        (if b then in_def (named Items) d ++ in_defs_of (named Items) n ds else in_defs_of (named Items) n ds)
    by true h rest = both _ _ _ _ h rest
    by false h rest = rest

where_function : (b : Bool) (xs ys : List ℕ) → Sub xs ys → Sub (if b then xs else []) ys
where_function true xs ys h = h
where_function false xs ys h = none ys

pub calls_among : (ds : List Def) (n : ℕ) (items : List ItemDecl) (k : ℕ)
    → Sub (get_or (lists_from Functions ds n items) k []) (get_or (lists_from Items ds n items) k [])
calls_among ds n [] k = none []
calls_among ds n (item ∷ items) zero = where_function (is_function item) _ _ (in_defs_among n ds)
calls_among ds n (item ∷ items) (suc k) = calls_among ds (n + 1) items k
