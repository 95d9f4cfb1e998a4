-- Chains of calls that are too long, and the program.
use Rattle.std.proofs.Common.{◌≡◌, ◌<◌, ◌≤◌, ◌∙◌, ◌+◌, ◌==◌, ℕ, zero, suc, Bool, true, false, List, [], ◌∷◌, length}
use Rattle.std.proofs.Common.{map, Option, None, Some, Ok, slice_get, refl, sym, ap, subst, inl, inr, arith}
use Rattle.std.specs.List.{enumerate_from}
use Rattle.std.proofs.lemmas.List.{length-map}
use Rattle.std.proofs.lemmas.Bool.Decides.{nat_tests}
use Rattle.cat_pos.specs.declared.pos.Pos.{Pos}
use Rattle.cat_order.specs.Order.{IsOrder}
use Rattle.cat_order.specs.Cycle.{IsOnCycle}
use Rattle.cat_order.specs.Cause.{HasNoOrder}
use Rattle.cat_value.specs.declared.declaration.ItemDecl.{ItemDecl}
use Rattle.cat_value.specs.declared.declaration.Scope.{Scope}
use Rattle.cat_value.specs.declared.decls.Decls.{Decls}
use Rattle.cat_value.specs.Laws.{AreSound}
use Rattle.cat_value.proofs.Exported.{within}
use Rattle.cat_tree.specs.declared.name.Name.{Name}
use Rattle.cat_tree.specs.declared.program.Tree.{Tree}
use Rattle.cat_scope.specs.declared.expr.Expr.{Expr}
use Rattle.cat_scope.specs.declared.defs.Def.{Def}
use Rattle.cat_scope.specs.declared.defs.Body.{Body}
use Rattle.cat_scope.specs.Names.{IsOneOf}
use Rattle.cat_scope.specs.Mentions.{functions_named}
use Rattle.cat_scope.specs.Chains.{HasNoCycle, HasShortChains}
use Rattle.cat_scope.specs.Orders.{dependencies_from, item_dependencies, only_functions, function_calls}
use Rattle.cat_scope.specs.Orders.{scope_dependencies}
use Rattle.cat_names.specs.declared.fault.Fault.{Fault}
use Rattle.cat_names.specs.declared.fault.Fault.TheVariants.{TooMany}
use Rattle.cat_names.specs.Found.{fault_if}
use Rattle.cat_names.specs.Lists.{numbered}
use Rattle.cat_names.specs.Written.{names_of, positions, scopes_in, types_in, scope_names_in}
use Rattle.cat_names.specs.Declarations.{scope_declared}
use Rattle.cat_names.specs.Accepted.{unordered, parts_of, IsMeant, AreOrdered, HaveNoCycles, IsProgramOf}
use Rattle.cat_names.specs.Bodies.{UnorderedBody}
use Rattle.cat_names.specs.Cycles.{is_first_past, past_chains, past_functions, chain_faults}
use Rattle.cat_names.proofs.Exported.{as_many, declared_parts, meant_calls, meant_counted, in_front, behind}
use Rattle.cat_depend.specs.Listed.{listed_calls}
use Rattle.cat_depend.specs.Past.{IsPast, TellsPast}
use Rattle.cat_check.specs.inside.Ordered.{AreInOrder}
use Rattle.cat_check.specs.inside.Chained.{AreShort, IsFunctionFault, IsLongFunction}
use Rattle.cat_check.proofs.Sourced.{in_flat}

-- ---- a number past the longest chain

one_numbered : {A : Type 0} (n : ℕ) (xs : List A) (k : ℕ) (x : A) → slice_get xs k ≡ Some x
    → IsOneOf (n + k, x) (enumerate_from n xs)
one_numbered n [] k x h = cc h
one_numbered {A} n (y ∷ xs) zero x h = let same : y ≡ x = cc h in let at : n + 0 ≡ n = omega arith in
    inl (ap (λ (z : A). (n + 0, z)) (sym same) ∙ ap (λ m. (m, y)) at)
one_numbered {A} n (y ∷ xs) (suc k) x h = let at : n + 1 + k ≡ n + suc k = omega arith in
    inr (subst (λ m. IsOneOf (m, x) (enumerate_from (n + 1) xs)) at (one_numbered (n + 1) xs k x h))

one_fault : (b : Bool) (fault : Fault) → b ≡ true → IsOneOf fault (fault_if b fault)
one_fault true fault h = inl refl
one_fault false fault h = cc h

first_past : (deps : List (List ℕ)) (n : ℕ) → IsPast deps n → is_first_past deps n ≡ true
first_past deps n past = rw (past.long, past.first) refl

pub past_is_fault : (deps : List (List ℕ)) (ps : List Pos) (n : ℕ) (p : Pos) → IsPast deps n
    → slice_get ps n ≡ Some p → IsOneOf (TooMany p) (past_chains deps ps)
past_is_fault deps ps n p past at =
    let same : 0 + n ≡ n = omega arith in
    in_flat (λ (x : ℕ × Pos). fault_if (is_first_past deps x.0) (TooMany x.1)) (numbered ps) (n, p) (TooMany p)
    (subst (λ m. IsOneOf (m, p) (numbered ps)) same (one_numbered 0 ps n p at))
    (one_fault (is_first_past deps n) (TooMany p) (first_past deps n past))

-- what is told of chains
pub told_short : (deps all : List (List ℕ)) (told : Option ℕ) → deps ≡ all → told ≡ None → TellsPast deps told
    → HasShortChains all
told_short deps all told same is h =
    subst HasShortChains same (subst (λ (o : Option ℕ). TellsPast deps o) is h)

pub told_past : (deps all : List (List ℕ)) (told : Option ℕ) (n : ℕ) → deps ≡ all → told ≡ Some n
    → TellsPast deps told → IsPast all n
told_past deps all told n same is h =
    subst (λ (ds : List (List ℕ)). IsPast ds n) same (subst (λ (o : Option ℕ). TellsPast deps o) is h)

-- ---- functions

calls_as_long : (named : Expr → List ℕ) (defs : List Def) (k : ℕ) (items : List ItemDecl)
    → length (only_functions items (dependencies_from named defs k items)) ≡ length items
calls_as_long named defs k [] = refl
calls_as_long named defs k (i ∷ items) = omega (arith, calls_as_long named defs (k + 1) items)

pub function_there : (items : List ItemDecl) (defs : List Def) (n : ℕ) → IsPast (function_calls items defs) n
    → n < length items
function_there items defs n past = omega (arith, past.number, calls_as_long functions_named defs 0 items)

position_at : (items : List ItemDecl) (n : ℕ) (i : ItemDecl) → slice_get items n ≡ Some i
    → slice_get (map (λ (x : ItemDecl). x.pos) items) n ≡ Some i.pos
position_at [] n i h = cc h
position_at (j ∷ items) zero i h = let same : j ≡ i = cc h in ap (λ (x : ItemDecl). Some x.pos) same
position_at (j ∷ items) (suc n) i h = position_at items n i h

functions_at : (scopes : List Scope) (bodies : List Body) (k : ℕ) (s : Scope) (b : Body) (fault : Fault)
    → slice_get scopes k ≡ Some s → slice_get bodies k ≡ Some b
    → IsOneOf fault (past_chains (function_calls s.items b.defs) (map (λ i. i.pos) s.items))
    → IsOneOf fault (past_functions scopes bodies)
functions_at [] bodies k s b fault at is h = cc at
functions_at (t ∷ scopes) [] k s b fault at is h = cc is
functions_at (t ∷ scopes) (c ∷ bodies) zero s b fault at is h =
    let first : s ≡ t = cc at in let second : b ≡ c = cc is in
    in_front fault (past_chains (function_calls t.items c.defs) (map (λ i. i.pos) t.items))
    (past_functions scopes bodies)
    (subst (λ (x : Body). IsOneOf fault (past_chains (function_calls t.items x.defs) (map (λ i. i.pos) t.items))) second
    (subst (λ (x : Scope). IsOneOf fault (past_chains (function_calls x.items b.defs) (map (λ i. i.pos) x.items))) first
    h))
functions_at (t ∷ scopes) (c ∷ bodies) (suc k) s b fault at is h =
    behind fault (past_chains (function_calls t.items c.defs) (map (λ i. i.pos) t.items))
    (past_functions scopes bodies)
    (functions_at scopes bodies k s b fault at is h)

-- a function past the longest chain is a fault of chains
pub function_is_fault : (scopes : List Scope) (bodies : List Body) (k : ℕ) (s : Scope) (b : Body)
    → slice_get scopes k ≡ Some s → slice_get bodies k ≡ Some b → (fault : Fault)
    → IsLongFunction s.items b.defs fault → IsFunctionFault scopes bodies fault
function_is_fault scopes bodies k s b at is fault long = functions_at scopes bodies k s b fault at is
    (subst (λ f. IsOneOf f (past_chains (function_calls s.items b.defs) (map (λ i. i.pos) s.items))) (sym long.fault_is)
    (past_is_fault (function_calls s.items b.defs) (map (λ x. x.pos) s.items) long.number long.item.pos long.past
    (position_at s.items long.number long.item long.item_is)))

-- no chain of the functions of so many scopes is too long
abbrev pub AreShortBelow : ℕ → List Scope → List Body → Type 0
AreShortBelow n scopes bodies = (k : ℕ) (s : Scope) (b : Body) → k < n → slice_get scopes k ≡ Some s
    → slice_get bodies k ≡ Some b → HasShortChains (function_calls s.items b.defs)

pub one_below : (n : ℕ) (scopes : List Scope) (bodies : List Body) (s : Scope) (b : Body)
    → AreShortBelow n scopes bodies → slice_get scopes n ≡ Some s → slice_get bodies n ≡ Some b
    → HasShortChains (function_calls s.items b.defs) → AreShortBelow (n + 1) scopes bodies
one_below n scopes bodies s b below at is short k t c less here there = by (k == n) refl
  where
    by : (same : Bool) → (k == n) ≡ same → HasShortChains (function_calls t.items c.defs)
    by false e = below k t c (grind (arith, nat_tests, e, less)) here there
    by true e =
        let same : k ≡ n = grind (arith, nat_tests, e) in
        let scope_is : s ≡ t = cc (at, subst (λ m. slice_get scopes m ≡ Some t) same here) in
        let body_is : b ≡ c = cc (is, subst (λ m. slice_get bodies m ≡ Some c) same there) in
        subst (λ (x : Body). HasShortChains (function_calls t.items x.defs)) body_is
        (subst (λ (x : Scope). HasShortChains (function_calls x.items b.defs)) scope_is short)

pub all_below : (scopes : List Scope) (bodies : List Body) (n : ℕ) → length bodies ≤ n
    → AreShortBelow n scopes bodies → AreShort scopes bodies
all_below scopes bodies n all below k s b at is = below k s b (omega (arith, all, within bodies k b is)) at is

-- ---- scopes

as_named : {A : Type 0} (xs : List (Name × A)) → length (positions (names_of xs)) ≡ length xs
as_named [] = refl
as_named (x ∷ xs) = omega (arith, as_named xs)

module _ (ds : Decls) (sound : AreSound ds) (tree : Tree) (bodies : List Body) (meant : IsMeant tree ds bodies) where
  pub scope_there : (n : ℕ) → IsPast (listed_calls bodies) n → n < length (positions (names_of (scopes_in tree.items)))
  scope_there n past =
      let parts = declared_parts tree.items (parts_of ds) meant.named.declared in
      omega (
        arith,
        past.number,
        length-map bodies (λ (b : Body). b.calls),
        meant_counted ds sound tree bodies meant,
        as_named (scopes_in tree.items),
        as_many (scope_declared (types_in tree.items) (scope_names_in tree.items)) (scopes_in tree.items) ds.scopes
            parts.scopes,
      )

  -- a scope past the longest chain is a fault of chains
  pub scope_is_fault : (n : ℕ) (p : Pos) → IsPast (listed_calls bodies) n
      → slice_get (positions (names_of (scopes_in tree.items))) n ≡ Some p
      → IsOneOf (TooMany p) (chain_faults tree ds bodies)
  scope_is_fault n p past at = behind (TooMany p) (past_functions ds.scopes bodies) _
      (past_is_fault (scope_dependencies ds.scopes bodies) (positions (names_of (scopes_in tree.items))) n p
      (subst (λ deps. IsPast deps n) (meant_calls ds sound tree bodies meant) past) at)

-- ---- the program

-- bodies that are the same but for their orders call the same scopes
calls_kept : (bodies more : List Body) → map unordered bodies ≡ map unordered more
    → listed_calls bodies ≡ listed_calls more
calls_kept [] [] same = refl
calls_kept [] (m ∷ more) same = cc same
calls_kept (b ∷ bodies) [] same = cc same
calls_kept (b ∷ bodies) (m ∷ more) same =
    let first : unordered b ≡ unordered m = cc same in
    ap (λ (u : UnorderedBody). u.calls ∷ listed_calls bodies) first ∙ ap (λ cs. m.calls ∷ cs)
    (calls_kept bodies more (cc same))

module _ (ds : Decls) (sound : AreSound ds) (tree : Tree) (bodies made : List Body) (meant : IsMeant tree ds bodies)
    (kept : map unordered made ≡ map unordered bodies) where
  -- what is meant is so whatever the orders
  pub made_meant : IsMeant tree ds made
  made_meant = record { named = meant.named; meant = meant.meant ∙ ap (λ bs. Ok bs) (sym kept) }

  pub dependencies_kept : scope_dependencies ds.scopes bodies ≡ scope_dependencies ds.scopes made
  dependencies_kept = sym (meant_calls ds sound tree bodies meant) ∙ calls_kept bodies made (sym kept)
      ∙ meant_calls ds sound tree made made_meant

all_ordered : (scopes : List Scope) (bodies : List Body) → length bodies ≡ length scopes → AreInOrder scopes bodies
    → AreShort scopes bodies → AreOrdered scopes bodies
all_ordered [] [] counted order short = tt
all_ordered [] (b ∷ bodies) counted order short = absurd (omega (arith, counted))
all_ordered (s ∷ scopes) [] counted order short = absurd (omega (arith, counted))
all_ordered (s ∷ scopes) (b ∷ bodies) counted order short = (
  order 0 s b refl refl,
  short 0 s b refl refl,
  all_ordered scopes bodies (omega (arith, counted)) (λ k t c at is. order (suc k) t c at is)
      (λ k t c at is. short (suc k) t c at is),
)

pub program : (ds : Decls) → AreSound ds → (tree : Tree) (bodies : List Body) (scope_order : List ℕ)
    → IsMeant tree ds bodies → AreInOrder ds.scopes bodies → AreShort ds.scopes bodies
    → IsOrder (scope_dependencies ds.scopes bodies) scope_order
    → HasShortChains (scope_dependencies ds.scopes bodies) → IsProgramOf tree ds bodies scope_order
program ds sound tree bodies scope_order meant order short scopes chains = record {
  meant = meant;
  items = all_ordered ds.scopes bodies (meant_counted ds sound tree bodies meant) order short;
  order = scopes;
  chains = chains;
}

-- what is in order is on no cycle
abbrev pub CyclesLeaveNone : Type 0
CyclesLeaveNone = (deps : List (List ℕ)) (item : ℕ) → IsOnCycle deps item → HasNoOrder deps

pub no_cycle : CyclesLeaveNone → (deps : List (List ℕ)) (listed : List ℕ) → IsOrder deps listed → HasNoCycle deps
no_cycle none deps listed is n on = none deps n on listed is

pub no_cycles : CyclesLeaveNone → (scopes : List Scope) (bodies : List Body) → AreInOrder scopes bodies
    → HaveNoCycles scopes bodies
no_cycles none [] bodies order = tt
no_cycles none (s ∷ scopes) [] order = tt
no_cycles none (s ∷ scopes) (b ∷ bodies) order = (
  no_cycle none (item_dependencies s.items b.defs) b.order (order 0 s b refl refl),
  no_cycles none scopes bodies (λ k t c at is. order (suc k) t c at is),
)
