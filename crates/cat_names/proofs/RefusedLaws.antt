-- A tree that has a program is not refused.
use Rattle.std.proofs.Common.{◌≡◌, ℕ, zero, suc, IsTrue, List, [], ◌∷◌, ◌++◌, map, Some, Ok, slice_get, refl, sym, ap}
use Rattle.std.proofs.Common.{◌∙◌, subst, inl, inr}
use Rattle.std.proofs.Math.Bool.{Bool-set}
use Rattle.cat_order.specs.Order.{IsOrder}
use Rattle.cat_order.specs.Cycle.{DependsOn, IsOnCycle}
use Rattle.cat_order.specs.Cause.{HasNoOrder}
use Rattle.cat_value.specs.declared.declaration.Scope.{Scope}
use Rattle.cat_value.specs.declared.decls.Decls.{Decls}
use Rattle.cat_value.specs.Declarations.{are_sound}
use Rattle.cat_value.specs.Dependencies.{type_dependencies}
use Rattle.cat_value.specs.Laws.{AreSound}
use Rattle.cat_tree.specs.declared.program.Tree.{Tree}
use Rattle.cat_scope.specs.declared.defs.Body.{Body}
use Rattle.cat_scope.specs.Names.{IsOneOf}
use Rattle.cat_scope.specs.Orders.{item_dependencies, function_calls, scope_dependencies, called_in, calls_in, once}
use Rattle.cat_scope.specs.Chains.{HasShortChains}
use Rattle.cat_names.specs.declared.fault.Fault.{Fault}
use Rattle.cat_names.specs.Found.{Found, Stands}
use Rattle.cat_names.specs.Written.{scopes_in, names_of, positions}
use Rattle.cat_names.specs.Declarations.{Declared, declared_of}
use Rattle.cat_names.specs.NameFaults.{name_faults}
use Rattle.cat_names.specs.Heights.{height_faults}
use Rattle.cat_names.specs.Bodies.{UnorderedBody, bodies_meant}
use Rattle.cat_names.specs.Cycles.{IsCallOnCycle, IsScopeCycle, past_chains, past_functions, chain_faults}
use Rattle.cat_names.specs.Accepted.{IsNamed, parts_of, unordered, AreOrdered, IsProgramOf, IsMeant, IsRefused}
use Rattle.cat_names.specs.Accepted as refused
use Rattle.cat_names.proofs.ChainLaws.{none_past}
use Rattle.cat_names.proofs.LowKept.{heights_kept}

-- on a cycle there is no order
abbrev pub CyclesLeaveNone : Type 0
CyclesLeaveNone = (deps : List (List ℕ)) (item : ℕ) → IsOnCycle deps item → HasNoOrder deps

pub ok_same : {A : Type 0} (found : Found A) (a b : A) → found ≡ Ok a → found ≡ Ok b → a ≡ b
ok_same found a b h i = cc (h, i)

none_stands : (fault : Fault) (faults : List Fault) → faults ≡ [] → IsOneOf fault faults → ⊥
none_stands fault faults is h = subst (λ fs. IsOneOf fault fs) is h

answers_stand : {A : Type 0} (fault : Fault) (found : Found A) (a : A) → found ≡ Ok a → Stands fault found → ⊥
answers_stand fault found a is h = subst (λ f. Stands fault f) is h

-- declarations with the same parts are the same
abbrev pub IsSound : Declared → Type 0
IsSound d = IsTrue (are_sound d.structures d.enumerations d.scopes)

abbrev pub with_parts : (d : Declared) → IsSound d → Decls
with_parts d sound =
    record { structures = d.structures; enumerations = d.enumerations; scopes = d.scopes; sound = sound }

sound_once : (d : Declared) → IsProp (IsSound d)
sound_once d = hlevel Bool-set

pub parts_same : (d e : Declared) → d ≡ e → (sound : IsSound d) (other : IsSound e)
    → with_parts d sound ≡ with_parts e other
parts_same d e is sound = subst (λ (x : Declared). (other : IsSound x) → with_parts d sound ≡ with_parts x other) is
    (λ other. ap (with_parts d) (sound_once d sound other))

pub decls_same : (a b : Decls) → parts_of a ≡ parts_of b → a ≡ b
decls_same a b is = parts_same (parts_of a) (parts_of b) is a.sound b.sound

-- ---- what doesn't hang on the order of items

-- bodies that are the same but for the order of their items
abbrev AreAlike : List Body → List Body → Type 0
AreAlike bodies more = map unordered bodies ≡ map unordered more

pub alike_calls : (scopes : List Scope) (bodies more : List Body) → AreAlike bodies more
    → scope_dependencies scopes bodies ≡ scope_dependencies scopes more
alike_calls [] bodies more alike = refl
alike_calls (s ∷ scopes) [] [] alike = refl
alike_calls (s ∷ scopes) [] (m ∷ more) alike = cc alike
alike_calls (s ∷ scopes) (b ∷ bodies) [] alike = cc alike
alike_calls (s ∷ scopes) (b ∷ bodies) (m ∷ more) alike =
    let first : unordered b ≡ unordered m = cc alike in
    let rest : AreAlike bodies more = cc alike in
    ap (λ (x : UnorderedBody). once [] (called_in s.items x.source x.defs x.assertions)
    ∷ scope_dependencies scopes bodies) first
    ∙ ap (λ deps. once [] (calls_in s.items m) ∷ deps) (alike_calls scopes bodies more rest)

-- a call on a cycle puts its caller on one
on_cycle_of : (deps : List (List ℕ)) (caller called : ℕ) → IsCallOnCycle deps caller called → IsOnCycle deps caller
unfolding IsOnCycle
on_cycle_of deps caller called (calls, inl same) = ([], subst (λ n. DependsOn deps caller n) same calls)
on_cycle_of deps caller called (calls, inr back) = (called ∷ back.0, (calls, back.1))

scope_on_cycle : (tree : Tree) (ds : Decls) (bodies : List Body) (fault : Fault) → IsScopeCycle tree ds bodies fault
    → (n : ℕ) × IsOnCycle (scope_dependencies ds.scopes bodies) n
scope_on_cycle tree ds bodies fault (inl c) =
    (c.caller, on_cycle_of (scope_dependencies ds.scopes bodies) c.caller c.called c.on_cycle)
scope_on_cycle tree ds bodies fault (inr c) =
    (c.caller, on_cycle_of (scope_dependencies ds.scopes bodies) c.caller c.called.0 c.on_cycle)

-- items in order are on no cycle
item_ordered : CyclesLeaveNone → (scopes : List Scope) (bodies more : List Body) → AreOrdered scopes bodies
    → AreAlike bodies more → (n k : ℕ) (s : Scope) (b : Body) → slice_get scopes n ≡ Some s → slice_get more n ≡ Some b
    → IsOnCycle (item_dependencies s.items b.defs) k → ⊥
item_ordered none [] bodies more ordered alike n k s b at h on = cc at
item_ordered none (t ∷ scopes) [] more ordered alike n k s b at h on = absurd ordered
item_ordered none (t ∷ scopes) (c ∷ bodies) [] ordered alike n k s b at h on = cc h
item_ordered none (t ∷ scopes) (c ∷ bodies) (m ∷ more) ordered alike zero k s b at h on =
    let first : t ≡ s = cc at in let second : m ≡ b = cc h in let same : unordered c ≡ unordered m = cc alike in
    let deps : item_dependencies t.items c.defs ≡ item_dependencies s.items b.defs =
    ap (λ (x : Scope). item_dependencies x.items c.defs) first
    ∙ ap (λ (x : UnorderedBody). item_dependencies s.items x.defs) same
    ∙ ap (λ (x : Body). item_dependencies s.items x.defs) second in
    none (item_dependencies s.items b.defs) k on c.order (subst (λ d. IsOrder d c.order) deps ordered.0)
item_ordered none (t ∷ scopes) (c ∷ bodies) (m ∷ more) ordered alike (suc n) k s b at h on =
    item_ordered none scopes bodies more ordered.2 (cc alike) n k s b at h on

functions_kept : (scopes : List Scope) (bodies more : List Body) → AreOrdered scopes bodies → AreAlike bodies more
    → past_functions scopes more ≡ []
functions_kept [] bodies more ordered alike = refl
functions_kept (s ∷ scopes) bodies [] ordered alike = refl
functions_kept (s ∷ scopes) [] (m ∷ more) ordered alike = absurd ordered
functions_kept (s ∷ scopes) (b ∷ bodies) (m ∷ more) ordered alike =
    let same : unordered b ≡ unordered m = cc alike in
    let short = subst (λ (x : UnorderedBody). HasShortChains (function_calls s.items x.defs)) same ordered.1 in
    ap (λ fs. fs ++ past_functions scopes more)
    (none_past (function_calls s.items m.defs) short (map (λ i. i.pos) s.items))
    ∙ functions_kept scopes bodies more ordered.2 (cc alike)

chains_kept : (tree : Tree) (ds : Decls) (bodies more : List Body) → AreOrdered ds.scopes bodies → AreAlike bodies more
    → HasShortChains (scope_dependencies ds.scopes bodies) → chain_faults tree ds more ≡ []
chains_kept tree ds bodies more ordered alike short =
    ap (λ fs. fs ++ past_chains (scope_dependencies ds.scopes more) (positions (names_of (scopes_in tree.items))))
    (functions_kept ds.scopes bodies more ordered alike)
    ∙ none_past (scope_dependencies ds.scopes more)
    (subst HasShortChains (alike_calls ds.scopes bodies more alike) short) (positions (names_of (scopes_in tree.items)))

-- ---- a tree that has a program

module _ (none : CyclesLeaveNone) (ds : Decls) (sound : AreSound ds) (tree : Tree) (bodies : List Body)
    (scope_order : List ℕ) (is : IsProgramOf tree ds bodies scope_order) where
  -- what it declares is one thing
  declared_is : (d : Declared) → IsNamed tree d → parts_of ds ≡ d
  declared_is d named = ok_same (declared_of tree.items) (parts_of ds) d is.meant.named.declared named.declared

  decls_are : (other : Decls) → IsNamed tree (parts_of other) → ds ≡ other
  decls_are other named = decls_same ds other (declared_is (parts_of other) named)

  meant_is : (other : Decls) → IsNamed tree (parts_of other) → bodies_meant other tree ≡ Ok (map unordered bodies)
  meant_is other named =
      subst (λ d. bodies_meant d tree ≡ Ok (map unordered bodies)) (decls_are other named) is.meant.meant

  bodies_are : (other : Decls) (more : List Body) → IsMeant tree other more → AreAlike bodies more
  bodies_are other more meant =
      ok_same (bodies_meant other tree) (map unordered bodies) (map unordered more) (meant_is other meant.named)
      meant.meant

  deps_are : (other : Decls) (more : List Body) → IsMeant tree other more
      → scope_dependencies ds.scopes bodies ≡ scope_dependencies other.scopes more
  deps_are other more meant = ap (λ (d : Decls). scope_dependencies d.scopes bodies) (decls_are other meant.named)
      ∙ alike_calls other.scopes bodies more (bodies_are other more meant)

  -- no fault stands against it
  pub not_refused : (fault : Fault) → IsRefused tree fault → ⊥
  not_refused fault (refused.name h) = none_stands fault (name_faults tree) is.meant.named.names h
  not_refused fault (refused.type_cycle d named h) =
      let same = declared_is d named in
      sound.acyclic h.number
      (subst (λ (x : Declared). IsOnCycle (type_dependencies x.structures x.enumerations) h.number) (sym same)
      h.on_cycle)
  not_refused fault (refused.height d named order h) =
      none_stands fault (height_faults tree d) (subst (λ x. height_faults tree x ≡ []) (declared_is d named)
      (heights_kept ds sound tree is.meant.named.declared)) h
  not_refused fault (refused.expression other named h) =
      answers_stand fault (bodies_meant other tree) (map unordered bodies) (meant_is other named) h
  not_refused fault (refused.scope_cycle other more meant h) =
      let on = scope_on_cycle tree other more fault h in
      none (scope_dependencies other.scopes more) on.0 on.1 scope_order
      (subst (λ deps. IsOrder deps scope_order) (deps_are other more meant) is.order)
  not_refused fault (refused.item_cycle other more meant order h) =
      item_ordered none ds.scopes bodies more is.items (bodies_are other more meant)
      h.number h.item_number h.scope h.body
      (subst (λ (d : Decls). slice_get d.scopes h.number ≡ Some h.scope) (sym (decls_are other meant.named)) h.scope_is)
      h.body_is h.on_cycle
  not_refused fault (refused.chain other more meant order items h) =
      none_stands fault (chain_faults tree other more)
      (subst (λ d. chain_faults tree d more ≡ []) (decls_are other meant.named)
      (chains_kept tree ds bodies more is.items (bodies_are other more meant) is.chains)) h
