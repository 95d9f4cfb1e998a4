-- Where items have an order and no chain is at fault, no chain is too long; and functions that an expression calls are
-- some of the items that it names.
use Rattle.std.proofs.Common.{◌≡◌, ◌<◌, ◌≤◌, ◌+◌, ◌&&◌, nat_lt, nat_eq, not, ℕ, zero, suc, Bool, true, false, List, []}
use Rattle.std.proofs.Common.{◌∷◌, ◌++◌, length, map, Option, Some, None, refl, sym, ap, ◌∙◌, subst, arith}
use Rattle.std.proofs.Common.{if◌then◌else◌}
use Rattle.std.specs.List.{list_all}
use Rattle.std.proofs.lemmas.Bool.Decides.{nat_tests}
use Rattle.std.proofs.lemmas.List.{length-map}
use Rattle.cat_pos.specs.declared.pos.Pos.{Pos}
use Rattle.cat_order.specs.Order.{IsOrder, dependencies_of, times}
use Rattle.cat_order.specs.Cycle.{DependsOn}
use Rattle.cat_value.specs.declared.declaration.ItemDecl.{ItemDecl}
use Rattle.cat_value.proofs.Exported.{found}
use Rattle.cat_scope.specs.declared.expr.Expr.{Expr}
use Rattle.cat_scope.specs.declared.expr.Expr.TheVariants as leaf
use Rattle.cat_scope.specs.declared.expr.Expr.TheViews as expr
use Rattle.cat_scope.specs.declared.expr.Expr.TheOpen.{Expr-F}
use Rattle.cat_scope.specs.declared.expr.Expr.TheFolds.{map-Expr}
use Rattle.cat_scope.specs.declared.expr.Arm.{Arm}
use Rattle.cat_scope.specs.declared.expr.FieldValue.{FieldValue}
use Rattle.cat_scope.specs.declared.defs.Def.{Def}
use Rattle.cat_scope.specs.Names.{is_function}
use Rattle.cat_scope.specs.Mentions.{own_item, own_function, named_by, items_named, functions_named, joined}
use Rattle.cat_scope.specs.Chains.{IsChain, HasShortChains, is_within, longest_chain}
use Rattle.cat_scope.specs.Orders.{in_condition, in_def, in_defs_of, dependencies_from, item_dependencies}
use Rattle.cat_scope.specs.Orders.{only_functions, function_calls}
use Rattle.cat_scope.proofs.Exported.{Own, of_form, names_by_level, names_in_field, names_in_arm, Each, Within}
use Rattle.cat_scope.proofs.Exported.{induction}
use Rattle.cat_names.proofs.ListLaws.{times_join}
use Rattle.cat_names.specs.declared.fault.Fault.TheVariants.{TooMany}
use Rattle.cat_names.specs.Found.{fault_if}
use Rattle.cat_names.specs.Lists.{numbered}
use Rattle.cat_names.specs.Cycles.{is_first_past, past_chains}
use Rattle.cat_names.proofs.ByOrder.{by_order, all_pass}
use Rattle.cat_names.proofs.LowDeclared.{none_each, no_test, numbered_at}
use Rattle.cat_names.proofs.NamedTyped.{by_values, by_bodies, values_are, bodies_are}
use Rattle.cat_names.proofs.MeantDependencies.{none_beyond, as_long}

-- ---- chains

within_next : (deps : List (List ℕ)) (k n : ℕ)
    → is_within deps (suc k) n ≡ list_all (is_within deps k) (dependencies_of deps n)
unfolding is_within
within_next deps k n = refl

within_none : (deps : List (List ℕ)) (n : ℕ) → is_within deps zero n ≡ false
unfolding is_within
within_none deps n = refl

-- a chain from a number that is within so many is no longer
chain_within : (deps : List (List ℕ)) (k n : ℕ) (rest : List ℕ) → is_within deps k n ≡ true → IsChain deps (n ∷ rest)
    → length (n ∷ rest) ≤ k
chain_within deps zero n rest h chain = cc (h, within_none deps n)
chain_within deps (suc k) n [] h chain = omega arith
chain_within deps (suc k) n (m ∷ rest) h chain =
    let next = all_pass (is_within deps k) (dependencies_of deps n) m (sym (within_next deps k n) ∙ h)
    (grind (arith, nat_tests, chain.0)) in
    omega (arith, chain_within deps k m rest next chain.1)

all_listed : (test : ℕ → Bool) (xs : List ℕ) → ((d : ℕ) → 0 < times xs d → test d ≡ true) → list_all test xs ≡ true
all_listed test [] each = refl
all_listed test (x ∷ xs) each = rw (
  each x (grind (arith, nat_tests)),
  all_listed test xs (λ d h. each d (omega (arith, h))),
) refl

-- of two lists of dependencies, what is told of chains in the first and of the order in the second
module _ (deps wide : List (List ℕ)) (listed : List ℕ) (is : IsOrder wide listed) (as_long : length deps ≡ length wide)
    (among : (n m : ℕ) → DependsOn deps n m → DependsOn wide n m)
    (fine : (n : ℕ) → n < length deps → is_first_past deps n ≡ false) where
  step : (n : ℕ) → n < length wide → ((d : ℕ) → DependsOn wide n d → is_within deps longest_chain d ≡ true)
      → is_within deps longest_chain n ≡ true
  step n less low =
      by (is_within deps longest_chain n) (is_within deps (suc longest_chain) n) (fine n (omega (arith, less, as_long)))
      (within_next deps longest_chain n ∙ all_listed (is_within deps longest_chain) (dependencies_of deps n)
      (λ d h. low d (among n d (grind (arith, nat_tests, h)))))
    where
      by : (a b : Bool) → (not a && b) ≡ false → b ≡ true → a ≡ true
      by true b h i = refl
      by false true h i = cc h
      by false false h i = cc i

  each_within : (n : ℕ) → is_within deps longest_chain n ≡ true
  each_within n = by (nat_lt n (length wide)) refl
    where
      by : (b : Bool) → nat_lt n (length wide) ≡ b → is_within deps longest_chain n ≡ true
      by true e =
          by_order wide listed is (λ m. is_within deps longest_chain m ≡ true) step n (grind (arith, nat_tests, e))
      by false e = within_next deps 255 n ∙ ap (λ ds. list_all (is_within deps 255) ds)
          (none_beyond deps n (grind (arith, nat_tests, e, as_long)))

  pub short_by : HasShortChains deps
  short_by [] chain = omega arith
  short_by (n ∷ rest) chain = chain_within deps longest_chain n rest (each_within n) chain

-- the faults of chains tell of each number
pub fine_chains : (deps : List (List ℕ)) (positions : List Pos) → length positions ≡ length deps
    → past_chains deps positions ≡ [] → (n : ℕ) → n < length deps → is_first_past deps n ≡ false
fine_chains deps positions as_long none n less =
    let p = found positions n (omega (arith, less, as_long)) in
    let at = numbered_at (λ x. fault_if (is_first_past deps x.0) (TooMany x.1) ≡ []) 0 positions n p.0
    (none_each _ (numbered positions) none) p.1 in
    let same : 0 + n ≡ n = omega arith in
    subst (λ k. is_first_past deps k ≡ false) same (no_test (is_first_past deps (0 + n)) (TooMany p.0) at)

-- ---- functions among items

-- each number is there no more often
abbrev AreSome : List ℕ → List ℕ → Type 0
AreSome xs ys = (m : ℕ) → times xs m ≤ times ys m

some_join : (xs us ys vs : List ℕ) → AreSome xs us → AreSome ys vs → AreSome (xs ++ ys) (us ++ vs)
some_join xs us ys vs h i m = omega (arith, times_join xs ys m, times_join us vs m, h m, i m)

same : (xs : List ℕ) → AreSome xs xs
same xs m = omega arith

none : (xs : List ℕ) → AreSome [] xs
none xs m = omega arith

-- the functions of an expression are some of its items
abbrev Fewer : Expr → Type 0
Fewer e = AreSome (functions_named e) (items_named e)

abbrev at_level : Own → Expr-F Expr Arm FieldValue → List ℕ
at_level own y = of_form own
    (map-Expr Expr Arm FieldValue (List ℕ) (List ℕ) (List ℕ) (named_by own) (names_in_arm own) (names_in_field own) y)

by_level : (e : Expr) (y : Expr-F Expr Arm FieldValue) → expr.out-Expr e ≡ y
    → AreSome (at_level own_function y) (at_level own_item y) → Fewer e
by_level e y is h m =
    let one = ap (λ xs. times xs m) (names_by_level own_function e ∙ ap (at_level own_function) is) in
    let other = ap (λ xs. times xs m) (names_by_level own_item e ∙ ap (at_level own_item) is) in
    omega (arith, one, other, h m)

two : (a b : Expr) → Fewer a → Fewer b
    → AreSome (functions_named a ++ functions_named b) (items_named a ++ items_named b)
two a b h i = some_join (functions_named a) (items_named a) (functions_named b) (items_named b) h i

three : (a b c : Expr) → Fewer a → Fewer b → Fewer c
    → AreSome (functions_named a ++ functions_named b ++ functions_named c)
    (items_named a ++ items_named b ++ items_named c)
three a b c h i j = some_join (functions_named a ++ functions_named b) (items_named a ++ items_named b)
    (functions_named c) (items_named c) (two a b h i) j

many : (es : List Expr) → Each Fewer es → AreSome (joined (map functions_named es)) (joined (map items_named es))
many [] h = none []
many (e ∷ es) h = some_join (functions_named e) (items_named e) _ _ h.0 (many es h.1)

many_fields : (fs : List FieldValue) → Each (λ f. Fewer f.value) fs
    → AreSome (joined (map (names_in_field own_function) fs)) (joined (map (names_in_field own_item) fs))
many_fields fs h m = omega (
  arith,
  ap (λ xs. times xs m) (values_are own_function fs),
  ap (λ xs. times xs m) (values_are own_item fs),
  values fs h m,
)
  where
    values : (gs : List FieldValue) → Each (λ f. Fewer f.value) gs
        → AreSome (by_values own_function gs) (by_values own_item gs)
    values [] g = none []
    values (f ∷ gs) g = some_join (functions_named f.value) (items_named f.value) _ _ g.0 (values gs g.1)

many_arms : (arms : List Arm) → Each (λ a. Fewer a.body) arms
    → AreSome (joined (map (names_in_arm own_function) arms)) (joined (map (names_in_arm own_item) arms))
many_arms arms h m = omega (
  arith,
  ap (λ xs. times xs m) (bodies_are own_function arms),
  ap (λ xs. times xs m) (bodies_are own_item arms),
  bodies arms h m,
)
  where
    bodies : (more : List Arm) → Each (λ a. Fewer a.body) more
        → AreSome (by_bodies own_function more) (by_bodies own_item more)
    bodies [] g = none []
    bodies (a ∷ more) g = some_join (functions_named a.body) (items_named a.body) _ _ g.0 (bodies more g.1)

-- a form of the same parts
content_fewer : (p : Pos) (n k : ℕ) (content : Option Expr) → Within Fewer content → Fewer (expr.Case p n k content)
content_fewer p n k None h = by_level (expr.Case p n k None) _ (expr.outs-Case p n k None) (none [])
content_fewer p n k (Some e) h = by_level (expr.Case p n k (Some e)) _ (expr.outs-Case p n k (Some e)) h

pub functions_are_items : (e : Expr) → Fewer e
functions_are_items = induction Fewer
    (λ p l. by_level (leaf.Literal p l) _ (expr.outs-Literal p l) (none []))
    (λ p i. by_level (leaf.Item p i) _ (expr.outs-Item p i) (none (i ∷ [])))
    (λ p i k. by_level (leaf.Output p i k) _ (expr.outs-Output p i k) (none (i ∷ [])))
    (λ p k. by_level (leaf.Local p k) _ (expr.outs-Local p k) (none []))
    (λ p e k h. by_level (expr.Field p e k) _ (expr.outs-Field p e k) h)
    (λ p o e h. by_level (expr.Unary p o e) _ (expr.outs-Unary p o e) h)
    (λ p o q a b h i. by_level (expr.Binary p o q a b) _ (expr.outs-Binary p o q a b) (two a b h i))
    (λ p a b h i. by_level (expr.And p a b) _ (expr.outs-And p a b) (two a b h i))
    (λ p a b h i. by_level (expr.Or p a b) _ (expr.outs-Or p a b) (two a b h i))
    (λ p c a b h i j. by_level (expr.If p c a b) _ (expr.outs-If p c a b) (three c a b h i j))
    (λ p e arms h each. by_level (expr.Match p e arms) _ (expr.outs-Match p e arms)
    (some_join (functions_named e) (items_named e) _ _ h (many_arms arms each)))
    (λ p e n k h. by_level (expr.IsCase p e n k) _ (expr.outs-IsCase p e n k) h)
    content_fewer
    (λ p n fs each. by_level (expr.Structure p n fs) _ (expr.outs-Structure p n fs) (many_fields fs each))
    (λ p es each. by_level (expr.List p es) _ (expr.outs-List p es) (many es each))
    (λ p l e h i. by_level (expr.ForAll p l e) _ (expr.outs-ForAll p l e) (two l e h i))
    (λ p l e h i. by_level (expr.Exists p l e) _ (expr.outs-Exists p l e) (two l e h i))
    (λ p l e h i. by_level (expr.Map p l e) _ (expr.outs-Map p l e) (two l e h i))
    (λ p l e h i. by_level (expr.Filter p l e) _ (expr.outs-Filter p l e) (two l e h i))
    (λ p l s e h i j. by_level (expr.Combine p l s e) _ (expr.outs-Combine p l s e) (three l s e h i j))
    (λ p q l e h i. by_level (expr.Contains p q l e) _ (expr.outs-Contains p q l e) (two l e h i))
    (λ p l h. by_level (expr.Length p l) _ (expr.outs-Length p l) h)
    (λ p k l h. by_level (expr.Sum p k l) _ (expr.outs-Sum p k l) h)
    (λ p f es each. by_level (expr.Call p f es) _ (expr.outs-Call p f es)
    (some_join (f ∷ []) (f ∷ []) _ _ (same (f ∷ [])) (many es each)))
    (λ p s fs k each. by_level (expr.ScopeCall p s fs k) _ (expr.outs-ScopeCall p s fs k) (many_fields fs each))

condition_fewer : (c : Option Expr) → AreSome (in_condition functions_named c) (in_condition items_named c)
condition_fewer None = none []
condition_fewer (Some e) = functions_are_items e

def_fewer : (d : Def) → AreSome (in_def functions_named d) (in_def items_named d)
def_fewer d = some_join (in_condition functions_named d.condition) (in_condition items_named d.condition)
    (functions_named d.consequence) (items_named d.consequence) (condition_fewer d.condition)
    (functions_are_items d.consequence)

defs_fewer : (item : ℕ) (defs : List Def)
    → AreSome (in_defs_of functions_named item defs) (in_defs_of items_named item defs)
defs_fewer item [] = none []
defs_fewer item (d ∷ defs) = by (nat_eq d.target.item item) (def_fewer d) (defs_fewer item defs)
  where
    by : (b : Bool) → AreSome (in_def functions_named d) (in_def items_named d)
        → AreSome (in_defs_of functions_named item defs) (in_defs_of items_named item defs)
        → AreSome (if b then in_def functions_named d ++ in_defs_of functions_named item defs
        else in_defs_of functions_named item defs)
        (if b then in_def items_named d ++ in_defs_of items_named item defs else in_defs_of items_named item defs)
    by true h rest = some_join (in_def functions_named d) (in_def items_named d) _ _ h rest
    by false h rest = rest

chosen_fewer : (b : Bool) (xs ys : List ℕ) → AreSome xs ys → AreSome (if b then xs else []) ys
chosen_fewer true xs ys h = h
chosen_fewer false xs ys h = none ys

-- what a function calls is some of what it depends on
calls_among : (defs : List Def) (k : ℕ) (items : List ItemDecl) (n : ℕ)
    → AreSome (dependencies_of (only_functions items (dependencies_from functions_named defs k items)) n)
    (dependencies_of (dependencies_from items_named defs k items) n)
calls_among defs k [] n = none []
calls_among defs k (i ∷ items) zero =
    chosen_fewer (is_function i) (in_defs_of functions_named k defs) (in_defs_of items_named k defs) (defs_fewer k defs)
calls_among defs k (i ∷ items) (suc n) = calls_among defs (k + 1) items n

calls_as_long : (defs : List Def) (k : ℕ) (items : List ItemDecl)
    → length (only_functions items (dependencies_from functions_named defs k items)) ≡ length items
calls_as_long defs k [] = refl
calls_as_long defs k (i ∷ items) = omega (arith, calls_as_long defs (k + 1) items)

-- the functions of a scope whose items have an order, where no chain of them is at fault
pub functions_short : (items : List ItemDecl) (defs : List Def) (listed : List ℕ)
    → IsOrder (item_dependencies items defs) listed
    → past_chains (function_calls items defs) (map (λ i. i.pos) items) ≡ [] → HasShortChains (function_calls items defs)
functions_short items defs listed is fine =
    short_by (function_calls items defs) (item_dependencies items defs) listed is
    (omega (arith, calls_as_long defs 0 items, as_long defs 0 items))
    (λ n m on. grind (arith, nat_tests, on, calls_among defs 0 items n m))
    (fine_chains (function_calls items defs) (map (λ i. i.pos) items)
    (omega (arith, calls_as_long defs 0 items, length-map items (λ (i : ItemDecl). i.pos))) fine)

-- items that have an order, where no chain of them is at fault
pub chains_short : (deps : List (List ℕ)) (positions : List Pos) (listed : List ℕ) → IsOrder deps listed
    → length positions ≡ length deps → past_chains deps positions ≡ [] → HasShortChains deps
chains_short deps positions listed is many_ fine =
    short_by deps deps listed is refl (λ n m on. on) (fine_chains deps positions many_ fine)
