-- The lists of what items name, as definitions are added.
use Rattle.std.proofs.Common.{◌≡◌, ◌<◌, ◌+◌, ℕ, zero, suc, nat_eq, Bool, true, false, List, [], ◌∷◌, ◌++◌, length, set}
use Rattle.std.proofs.Common.{get_or, take, replicate, if◌then◌else◌, refl, sym, ap, ◌∙◌, arith}
use Rattle.std.proofs.lemmas.List.{append_assoc, append-nil, take_more}
use Rattle.std.proofs.lemmas.Bool.Decides.{nat_tests}
use Rattle.cat_value.specs.declared.declaration.ItemDecl.{ItemDecl}
use Rattle.cat_scope.specs.declared.expr.Expr.{Expr}
use Rattle.cat_scope.specs.declared.defs.Def.{Def}
use Rattle.cat_scope.specs.Mentions.{items_named, functions_named}
use Rattle.cat_scope.specs.Orders.{in_def, in_defs_of, dependencies_from, only_functions}
use Rattle.cat_depend.specs.declared.naming.Wanted.{Wanted}
use Rattle.cat_depend.specs.declared.naming.Wanted.TheVariants.{Items, Functions}
use Rattle.cat_depend.specs.inside.Wanted.{named, wants, lists_from}

-- ---- one definition more

pick : {A : Type 0} (b : Bool) (xs ys zs : List A) → (if b then xs ++ (ys ++ zs) else ys ++ zs)
    ≡ (if b then xs ++ ys else ys) ++ zs
pick true xs ys zs = sym (append_assoc xs ys zs)
pick false xs ys zs = refl

of_item : (in_expr : Expr → List ℕ) (n : ℕ) (ds : List Def) (d : Def) → d.target.item ≡ n
    → in_defs_of in_expr n (ds ++ d ∷ []) ≡ in_defs_of in_expr n ds ++ in_def in_expr d
of_item in_expr n [] d here =
    let yes : nat_eq d.target.item n ≡ true = grind (arith, nat_tests) in rw (yes, append-nil (in_def in_expr d)) refl
of_item in_expr n (first ∷ ds) d here = rw (of_item in_expr n ds d here)
    (pick (nat_eq first.target.item n) (in_def in_expr first) (in_defs_of in_expr n ds) (in_def in_expr d))

of_other : (in_expr : Expr → List ℕ) (n : ℕ) (ds : List Def) (d : Def) → nat_eq d.target.item n ≡ false
    → in_defs_of in_expr n (ds ++ d ∷ []) ≡ in_defs_of in_expr n ds
of_other in_expr n [] d other = rw other refl
of_other in_expr n (first ∷ ds) d other = rw (of_other in_expr n ds d other) refl

behind : (w : Wanted) (ds : List Def) (d : Def) (n : ℕ) (items : List ItemDecl) → d.target.item < n
    → lists_from w (ds ++ d ∷ []) n items ≡ lists_from w ds n items
behind w ds d n [] before = refl
behind w ds d n (item ∷ items) before =
    let other : nat_eq d.target.item n ≡ false = grind (arith, nat_tests) in
    rw (of_other (named w) n ds d other, behind w ds d (n + 1) items (omega (arith, before))) refl

module _ (w : Wanted) (ds : List Def) (d : Def) where
  pub unwanted : (n : ℕ) (items : List ItemDecl) (k : ℕ) (item : ItemDecl) → k < length items → d.target.item ≡ n + k
      → item ≡ get_or items k item → wants w item ≡ false
      → lists_from w ds n items ≡ lists_from w (ds ++ d ∷ []) n items
  unwanted n [] k item within at is out = absurd (omega (arith, within))
  unwanted n (first ∷ items) zero item within at is out =
      rw (sym is, out, behind w ds d (n + 1) items (omega (arith, at))) refl
  unwanted n (first ∷ items) (suc k) item within at is out =
      let other : nat_eq d.target.item n ≡ false = grind (arith, nat_tests) in
      rw (
        of_other (named w) n ds d other,
        sym (unwanted (n + 1) items k item (omega (arith, within)) (omega (arith, at)) is out),
      ) refl

  pub wanted : (n : ℕ) (items : List ItemDecl) (k : ℕ) (item : ItemDecl) (old : List ℕ) → k < length items
      → d.target.item ≡ n + k
      → item ≡ get_or items k item → wants w item ≡ true → old ≡ get_or (lists_from w ds n items) k old
      → set (lists_from w ds n items) k (old ++ in_def (named w) d) ≡ lists_from w (ds ++ d ∷ []) n items
  wanted n [] k item old within at is test old_is = absurd (omega (arith, within))
  wanted n (first ∷ items) zero item old within at is test old_is =
      let here : d.target.item ≡ n = omega (arith, at) in
      let wanted_first : wants w first ≡ true = ap (wants w) (sym is) ∙ test in
      let old_list : old ≡ in_defs_of (named w) n ds = old_is ∙ rw wanted_first refl in
      rw (wanted_first, of_item (named w) n ds d here, behind w ds d (n + 1) items (omega (arith, at)), old_list) refl
  wanted n (first ∷ items) (suc k) item old within at is test old_is =
      let other : nat_eq d.target.item n ≡ false = grind (arith, nat_tests) in
      rw (
        of_other (named w) n ds d other,
        sym (wanted (n + 1) items k item old (omega (arith, within)) (omega (arith, at)) is test old_is),
      ) refl

taken : (defs : List Def) (i : ℕ) (d : Def) → i < length defs → d ≡ get_or defs i d
    → take i defs ++ d ∷ [] ≡ take (i + 1) defs
taken defs i d within is = ap (λ (x : Def). take i defs ++ x ∷ []) is ∙ sym (take_more defs i d within)

-- a turn of the loop over definitions
module _ (w : Wanted) (defs : List Def) (items : List ItemDecl) (i : ℕ) (d : Def) (item : ItemDecl)
    (lists : List (List ℕ)) (within : i < length defs) (d_is : d ≡ get_or defs i d)
    (target : d.target.item < length items) (item_is : item ≡ get_or items d.target.item item)
    (front : lists ≡ lists_from w (take i defs) 0 items) where
  pub passed_over : wants w item ≡ false → lists ≡ lists_from w (take (i + 1) defs) 0 items
  passed_over out = front ∙ unwanted w (take i defs) d 0 items d.target.item item target (omega arith) item_is out
      ∙ ap (λ ds. lists_from w ds 0 items) (taken defs i d within d_is)

  pub added : wants w item ≡ true → (old numbers : List ℕ) → old ≡ get_or lists d.target.item old
      → numbers ≡ old ++ in_def (named w) d → set lists d.target.item numbers ≡ lists_from w (take (i + 1) defs) 0 items
  added test old numbers old_is is = rw (is, front)
      (wanted w (take i defs) d 0 items d.target.item item old target (omega arith) item_is test
      (old_is ∙ ap (λ (ls : List (List ℕ)). get_or ls d.target.item old) front)
      ∙ ap (λ ds. lists_from w ds 0 items) (taken defs i d within d_is))

-- ---- all of them

no_numbers : (b : Bool) (none : List ℕ) → none ≡ [] → (if b then none else none) ≡ []
no_numbers true none is = is
no_numbers false none is = is

pub none_yet : (w : Wanted) (n : ℕ) (items : List ItemDecl) → lists_from w [] n items ≡ replicate (length items) []
none_yet w n [] = refl
none_yet w n (item ∷ items) = rw (none_yet w (n + 1) items, no_numbers (wants w item) [] refl) refl

pub of_items : (ds : List Def) (n : ℕ) (items : List ItemDecl)
    → lists_from Items ds n items ≡ dependencies_from items_named ds n items
of_items ds n [] = refl
of_items ds n (item ∷ items) = rw (of_items ds (n + 1) items) refl

pub of_functions : (ds : List Def) (n : ℕ) (items : List ItemDecl)
    → lists_from Functions ds n items ≡ only_functions items (dependencies_from functions_named ds n items)
of_functions ds n [] = refl
of_functions ds n (item ∷ items) = rw (of_functions ds (n + 1) items) refl

pub one_each : (w : Wanted) (ds : List Def) (n : ℕ) (items : List ItemDecl)
    → length (lists_from w ds n items) ≡ length items
one_each w ds n [] = refl
one_each w ds n (item ∷ items) = ap suc (one_each w ds (n + 1) items)
