-- Each tree that was read has a program, or a fault stands against it.
use Rattle.std.proofs.Common.{◌≡◌, ◌⊎◌, ◌<◌, nat_lt, ℕ, suc, Bool, true, false, true≢false, IsTrue, List, [], ◌∷◌, ◌++◌}
use Rattle.std.proofs.Common.{length, map, Some, Ok, Err, slice_get, refl, sym, ap, ◌∙◌, subst, arith, inl, inr}
use Rattle.std.specs.Prelude.{flat_map}
use Rattle.std.proofs.lemmas.Bool.Decides.{nat_tests}
use Rattle.std.proofs.lemmas.List.{length-append, length-map}
use Rattle.cat_pos.specs.declared.pos.Pos.{Pos}
use Rattle.cat_order.specs.Order.{AreItems, IsOrder, is_listed}
use Rattle.cat_order.specs.Cycle.{DependsOn, IsPath, IsOnCycle}
use Rattle.cat_value.specs.declared.declaration.Scope.{Scope}
use Rattle.cat_value.specs.declared.decls.Decls.{Decls}
use Rattle.cat_value.specs.Dependencies.{type_dependencies}
use Rattle.cat_value.specs.Laws.{AreSound}
use Rattle.cat_value.proofs.Exported.{found}
use Rattle.cat_tree.specs.declared.name.Name.{Name}
use Rattle.cat_tree.specs.declared.program.Tree.{Tree}
use Rattle.cat_scope.specs.declared.defs.Body.{Body}
use Rattle.cat_scope.specs.Names.{IsOneOf}
use Rattle.cat_scope.specs.Orders.{item_dependencies, function_calls, scope_dependencies}
use Rattle.cat_scope.specs.Chains.{HasShortChains, HasNoCycle}
use Rattle.cat_names.specs.declared.fault.Fault.{Fault}
use Rattle.cat_names.specs.declared.fault.Fault.TheVariants.{TypeCycle, ScopeCycle, VariableCycle}
use Rattle.cat_names.specs.Found.{Found, faults_of, Stands}
use Rattle.cat_names.specs.Written.{names_of, positions, structures_in, enumerations_in, scopes_in, types_in}
use Rattle.cat_names.specs.Written.{scope_names_in}
use Rattle.cat_names.specs.Unknown.{twice}
use Rattle.cat_names.specs.DeclarationFaults.{declared_name}
use Rattle.cat_names.specs.NameFaults.{name_faults, item_faults}
use Rattle.cat_names.specs.Declarations.{Declared, structure_declared, enumeration_declared, scope_declared}
use Rattle.cat_names.specs.Declarations.{declared_of}
use Rattle.cat_names.specs.Heights.{height_faults}
use Rattle.cat_names.specs.Bodies.{UnorderedBody, bodies_meant}
use Rattle.cat_names.specs.ScopeWords.{words_in}
use Rattle.cat_names.specs.Cycles.{type_positions, LeadsTo, past_chains, past_functions, chain_faults}
use Rattle.cat_names.specs.Accepted.{IsParsed, IsNamed, parts_of, unordered, IsMeant, AreOrdered, HaveNoCycles}
use Rattle.cat_names.specs.Accepted as refused
use Rattle.cat_names.specs.Decided.{HasFault, IsDecided}
use Rattle.cat_names.proofs.OkParts.{nothing_in, nothing_behind}
use Rattle.cat_names.proofs.RefusedLaws.{CyclesLeaveNone, alike_calls}
use Rattle.cat_names.proofs.HonestLaws.{IsHonest}
use Rattle.cat_names.proofs.HonestBodies.{declared_honest, bodies_honest}
use Rattle.cat_names.proofs.CycleFound.{Cyclic, Ordered, ordered_or_cyclic}
use Rattle.cat_names.proofs.DeclaredForward.{as_many}
use Rattle.cat_names.proofs.MadeTypes.{types_are_items, dependencies_counted}
use Rattle.cat_names.proofs.DeclaredMade.{DeclaredParts, declared_parts, are_made}
use Rattle.cat_names.proofs.SoundDeclared.{declared_sound, declared_are_sound}
use Rattle.cat_names.proofs.MeantCalls.{IsCalledBy}
use Rattle.cat_names.proofs.MeantDependencies.{CallOf, meant_counted, meant_items, meant_scopes, meant_called, as_long}
use Rattle.cat_names.proofs.MeantDependencies.{none_beyond, meant_calls}
use Rattle.cat_names.proofs.ShortChains.{functions_short, chains_short}

-- ---- cycles

-- what is on a cycle depends on something that leads back to it
record Next (deps : List (List ℕ)) (n : ℕ) : Type 0 where
  other : ℕ
  on : DependsOn deps n other
  back : LeadsTo deps other n

next_on : (deps : List (List ℕ)) (n : ℕ) → IsOnCycle deps n → Next deps n
unfolding IsOnCycle
next_on deps n (path, is) = by path is
  where
    by : (xs : List ℕ) → IsPath deps n xs n → Next deps n
    by [] h = record { other = n; on = h; back = inl refl }
    by (via ∷ xs) h = record { other = via; on = h.0; back = inr (xs, h.1) }

depends_within : (deps : List (List ℕ)) (n m : ℕ) → DependsOn deps n m → n < length deps
depends_within deps n m on = by (nat_lt n (length deps)) refl
  where
    by : (b : Bool) → nat_lt n (length deps) ≡ b → n < length deps
    by true e = grind (arith, nat_tests, e)
    by false e = let none = none_beyond deps n (grind (arith, nat_tests, e)) in
        let among : IsTrue (is_listed [] m) = subst (λ xs. IsTrue (is_listed xs m)) none on in
        absurd (true≢false (sym among))

on_within : (deps : List (List ℕ)) (n : ℕ) → IsOnCycle deps n → n < length deps
on_within deps n on = let next = next_on deps n on in depends_within deps n next.other next.on

-- ---- bodies without an order, and with one

abbrev pub with_order : List ℕ → UnorderedBody → Body
with_order order b = record {
  defs = b.defs;
  assertions = b.assertions;
  source = b.source;
  rounding = b.rounding;
  order = order;
  calls = b.calls;
}

unordered_again : (us : List UnorderedBody) → map unordered (map (with_order []) us) ≡ us
unordered_again [] = refl
unordered_again (u ∷ us) = ap (λ rest. u ∷ rest) (unordered_again us)

-- an order of the items of each scope
abbrev HaveOrders : List Scope → List Body → Type 0
HaveOrders [] bodies = Unit {0}
HaveOrders (s ∷ scopes) [] = Unit {0}
HaveOrders (s ∷ scopes) (b ∷ bodies) = Ordered (item_dependencies s.items b.defs) × HaveOrders scopes bodies

-- an item of a scope that is on a cycle
record CyclicItem (scopes : List Scope) (bodies : List Body) : Type 0 where
  number : ℕ
  scope : Scope
  body : Body
  scope_is : slice_get scopes number ≡ Some scope
  body_is : slice_get bodies number ≡ Some body
  cyclic : Cyclic (item_dependencies scope.items body.defs)

orders_or_cycle : (scopes : List Scope) (bodies : List Body)
    → ((k : ℕ) (s : Scope) (b : Body) → slice_get scopes k ≡ Some s → slice_get bodies k ≡ Some b
    → AreItems (item_dependencies s.items b.defs))
    → HaveOrders scopes bodies ⊎ CyclicItem scopes bodies
orders_or_cycle [] bodies items = inl tt
orders_or_cycle (s ∷ scopes) [] items = inl tt
orders_or_cycle (s ∷ scopes) (b ∷ bodies) items =
    by (ordered_or_cyclic (item_dependencies s.items b.defs) (items 0 s b refl refl))
    (orders_or_cycle scopes bodies (λ k t c at is. items (suc k) t c at is))
  where
    by : Ordered (item_dependencies s.items b.defs) ⊎ Cyclic (item_dependencies s.items b.defs)
        → HaveOrders scopes bodies ⊎ CyclicItem scopes bodies
        → HaveOrders (s ∷ scopes) (b ∷ bodies) ⊎ CyclicItem (s ∷ scopes) (b ∷ bodies)
    by (inr cyclic) rest =
        inr (record { number = 0; scope = s; body = b; scope_is = refl; body_is = refl; cyclic = cyclic })
    by (inl one) (inl more) = inl (one, more)
    by (inl one) (inr c) = inr (record {
      number = suc c.number;
      scope = c.scope;
      body = c.body;
      scope_is = c.scope_is;
      body_is = c.body_is;
      cyclic = c.cyclic;
    })

no_cycles : CyclesLeaveNone → (scopes : List Scope) (bodies : List Body) → HaveOrders scopes bodies
    → HaveNoCycles scopes bodies
no_cycles none [] bodies orders = tt
no_cycles none (s ∷ scopes) [] orders = tt
no_cycles none (s ∷ scopes) (b ∷ bodies) orders = (
  λ n on. none (item_dependencies s.items b.defs) n on orders.0.order orders.0.order_is,
  no_cycles none scopes bodies orders.1,
)

-- the bodies in these orders
in_order : (scopes : List Scope) (us : List UnorderedBody) → HaveOrders scopes (map (with_order []) us) → List Body
in_order [] us orders = map (with_order []) us
in_order (s ∷ scopes) [] orders = []
in_order (s ∷ scopes) (u ∷ us) orders = with_order orders.0.order u ∷ in_order scopes us orders.1

in_order_unordered : (scopes : List Scope) (us : List UnorderedBody)
    → (orders : HaveOrders scopes (map (with_order []) us)) → map unordered (in_order scopes us orders) ≡ us
unfolding in_order
in_order_unordered [] us orders = unordered_again us
in_order_unordered (s ∷ scopes) [] orders = refl
in_order_unordered (s ∷ scopes) (u ∷ us) orders = ap (λ rest. u ∷ rest) (in_order_unordered scopes us orders.1)

are_ordered : (scopes : List Scope) (us : List UnorderedBody) → length us ≡ length scopes
    → (orders : HaveOrders scopes (map (with_order []) us)) → past_functions scopes (map (with_order []) us) ≡ []
    → AreOrdered scopes (in_order scopes us orders)
unfolding in_order
are_ordered [] [] counted orders none = tt
are_ordered [] (u ∷ us) counted orders none = absurd (omega (arith, counted))
are_ordered (s ∷ scopes) [] counted orders none = absurd (omega (arith, counted))
are_ordered (s ∷ scopes) (u ∷ us) counted orders none =
    let here = past_chains (function_calls s.items u.defs) (map (λ i. i.pos) s.items) in (
      orders.0.order_is,
      functions_short s.items u.defs orders.0.order orders.0.order_is (nothing_in here _ none),
      are_ordered scopes us (omega (arith, counted)) orders.1 (nothing_behind here _ none),
    )

-- ---- from what a tree means on

as_named : {A : Type 0} (xs : List (Name × A)) → length (positions (names_of xs)) ≡ length xs
as_named [] = refl
as_named (x ∷ xs) = omega (arith, as_named xs)

first_fault : (faults : List Fault) (fault : Fault) (more : List Fault) → faults ≡ fault ∷ more → IsOneOf fault faults
first_fault faults fault more is = subst (λ fs. IsOneOf fault fs) (sym is) (inl refl)

module _ (none : CyclesLeaveNone) (tree : Tree) (ds : Decls) (sound : AreSound ds) (named : IsNamed tree (parts_of ds))
    (us : List UnorderedBody) (is : bodies_meant ds tree ≡ Ok us) where
  abbrev bodies : List Body
  bodies = map (with_order []) us

  meant : IsMeant tree ds bodies
  meant = record { named = named; meant = is ∙ ap (λ bs. Ok bs) (sym (unordered_again us)) }

  abbrev calls : List (List ℕ)
  calls = scope_dependencies ds.scopes bodies

  -- a cycle of scopes is at fault
  scope_cycle : (n : ℕ) → IsOnCycle calls n → HasFault tree
  scope_cycle n on = let next = next_on calls n on in let call = meant_called ds sound tree bodies meant n next.other
      next.on in by next call call.source
    where
      by : (next : Next calls n) (call : CallOf ds sound tree bodies meant n next.other)
          → IsCalledBy ds call.scope.items (words_in ds n tree.items) next.other → HasFault tree
      by next call (inl (i, among, kind_is)) = record {
        fault = ScopeCycle i.pos;
        refused = refused.scope_cycle ds bodies meant (inl (record {
          caller = n;
          called = next.other;
          scope = call.scope;
          item = i;
          scope_is = call.scope_is;
          item_is = among;
          kind_is = kind_is;
          on_cycle = (next.on, next.back);
          fault_is = refl;
        }));
      }
      by next call (inr word) = record {
        fault = ScopeCycle word.word.pos;
        refused = refused.scope_cycle ds bodies meant (inr (record {
          caller = n;
          called = word.found;
          word = word.word;
          word_is = word.there;
          called_is = word.found_is;
          on_cycle = subst (λ m. DependsOn calls n m × LeadsTo calls m n) (sym word.number) (next.on, next.back);
          fault_is = refl;
        }));
      }

  -- so is a cycle of items, where scopes have an order
  item_cycle : HasNoCycle calls → CyclicItem ds.scopes bodies → HasFault tree
  item_cycle free c =
      let less = on_within (item_dependencies c.scope.items c.body.defs) c.cyclic.item c.cyclic.on_cycle in
      let item = found c.scope.items c.cyclic.item (omega (arith, less, as_long c.body.defs 0 c.scope.items)) in
      record {
        fault = VariableCycle item.0.pos;
        refused = refused.item_cycle ds bodies meant free (record {
          number = c.number;
          item_number = c.cyclic.item;
          scope = c.scope;
          body = c.body;
          item = item.0;
          scope_is = c.scope_is;
          body_is = c.body_is;
          item_is = item.1;
          on_cycle = c.cyclic.on_cycle;
          fault_is = refl;
        });
      }

  scopes_counted : length (positions (names_of (scopes_in tree.items))) ≡ length calls
  scopes_counted =
      let parts = declared_parts tree.items (parts_of ds) named.declared in
      let many = as_many (scope_declared (types_in tree.items) (scope_names_in tree.items)) (scopes_in tree.items)
      ds.scopes parts.scopes in
      let listed : length (map (λ (b : Body). b.calls) bodies) ≡ length bodies = length-map bodies
      (λ (b : Body). b.calls) in
      omega (
        arith,
        as_named (scopes_in tree.items),
        many,
        meant_counted ds sound tree bodies meant,
        listed,
        ap (λ deps. length deps) (meant_calls ds sound tree bodies meant),
      )

  -- chains, where scopes and items have orders
  chained : Ordered calls → HaveOrders ds.scopes bodies → IsDecided tree
  chained scopes orders = by (chain_faults tree ds bodies) refl
    where
      free : HasNoCycle calls
      free n on = none calls n on scopes.order scopes.order_is

      by : (faults : List Fault) → chain_faults tree ds bodies ≡ faults → IsDecided tree
      by (fault ∷ more) e = inr (record {
        fault = fault;
        refused = refused.chain ds bodies meant free (no_cycles none ds.scopes bodies orders)
            (first_fault (chain_faults tree ds bodies) fault more e);
      })
      by [] e =
          let ordered = in_order ds.scopes us orders in
          let again = in_order_unordered ds.scopes us orders in
          let alike : map unordered bodies ≡ map unordered ordered = unordered_again us ∙ sym again in
          let same = alike_calls ds.scopes bodies ordered alike in
          let functions = past_functions ds.scopes bodies in
          let short = chains_short calls (positions (names_of (scopes_in tree.items))) scopes.order scopes.order_is
          scopes_counted (nothing_behind functions _ e) in
          let counted : length us ≡ length ds.scopes =
          omega (arith, meant_counted ds sound tree bodies meant, length-map us (with_order [])) in
          inl (record {
            decls = ds;
            bodies = ordered;
            scope_order = scopes.order;
            program = record {
              meant = record { named = named; meant = is ∙ ap (λ bs. Ok bs) (sym again) };
              items = are_ordered ds.scopes us counted orders (nothing_in functions _ e);
              order = subst (λ deps. IsOrder deps scopes.order) same scopes.order_is;
              chains = subst HasShortChains same short;
            };
          })

  decided_bodies : IsDecided tree
  decided_bodies = by (ordered_or_cyclic calls (meant_scopes ds sound tree bodies meant))
      (orders_or_cycle ds.scopes bodies (meant_items ds sound tree bodies meant))
    where
      by : Ordered calls ⊎ Cyclic calls → HaveOrders ds.scopes bodies ⊎ CyclicItem ds.scopes bodies → IsDecided tree
      by (inr c) items = inr (scope_cycle c.item c.on_cycle)
      by (inl scopes) (inr c) = inr (item_cycle (λ n on. none calls n on scopes.order scopes.order_is) c)
      by (inl scopes) (inl orders) = chained scopes orders

-- ---- from declarations on

decided_expressions : CyclesLeaveNone → (tree : Tree) (ds : Decls) → AreSound ds → IsNamed tree (parts_of ds)
    → IsDecided tree
decided_expressions none tree ds sound named = by (bodies_meant ds tree) refl (bodies_honest ds tree)
  where
    by : (found : Found (List UnorderedBody)) → bodies_meant ds tree ≡ found → IsHonest found → IsDecided tree
    by (Ok us) e h = decided_bodies none tree ds sound named us e
    by (Err []) e h = absurd h.speaks
    by (Err (fault ∷ more)) e h = inr (record {
      fault = fault;
      refused = refused.expression ds named (subst (λ x. Stands fault x) (sym e) (inl refl));
    })

decided_heights : CyclesLeaveNone → (tree : Tree) → IsParsed tree → (d : Declared) → IsNamed tree d
    → Ordered (type_dependencies d.structures d.enumerations) → IsDecided tree
decided_heights none tree parsed d named types = by (height_faults tree d) refl
  where
    free : HasNoCycle (type_dependencies d.structures d.enumerations)
    free n on = none (type_dependencies d.structures d.enumerations) n on types.order types.order_is

    by : (faults : List Fault) → height_faults tree d ≡ faults → IsDecided tree
    by (fault ∷ more) e = inr (record {
      fault = fault;
      refused = refused.height d named free (first_fault (height_faults tree d) fault more e);
    })
    by [] e =
        let sound = declared_sound tree parsed named.names d named.declared types.order types.order_is e in
        decided_expressions none tree
        (record { structures = d.structures; enumerations = d.enumerations; scopes = d.scopes; sound = sound })
        (declared_are_sound d sound tree parsed named.names named.declared types.order types.order_is e free) named

-- a structure or an enumeration of that number has a position
position_at : (tree : Tree) (d : Declared) → DeclaredParts tree.items d → (n : ℕ)
    → n < length (type_dependencies d.structures d.enumerations)
    → (p : Pos) × (slice_get (type_positions tree) n ≡ Some p)
position_at tree d parts n less =
    let ss = structures_in tree.items in let es = enumerations_in tree.items in
    found (type_positions tree) n (omega (
      arith,
      less,
      dependencies_counted d.structures d.enumerations,
      length-append (positions (names_of ss)) (positions (names_of es)),
      as_named ss,
      as_named es,
      as_many (structure_declared (types_in tree.items)) ss d.structures parts.structures,
      as_many (enumeration_declared (types_in tree.items)) es d.enumerations parts.enumerations,
    ))

decided_types : CyclesLeaveNone → (tree : Tree) → IsParsed tree → (d : Declared) → IsNamed tree d → IsDecided tree
decided_types none tree parsed d named =
    let parts = declared_parts tree.items d named.declared in
    by parts (ordered_or_cyclic (type_dependencies d.structures d.enumerations)
    (types_are_items d.structures d.enumerations (are_made tree.items d parts)))
  where
    by : DeclaredParts tree.items d → Ordered (type_dependencies d.structures d.enumerations)
        ⊎ Cyclic (type_dependencies d.structures d.enumerations) → IsDecided tree
    by parts (inl types) = decided_heights none tree parsed d named types
    by parts (inr c) =
        let at = position_at tree d parts c.item
        (on_within (type_dependencies d.structures d.enumerations) c.item c.on_cycle) in
        inr (record {
          fault = TypeCycle at.0;
          refused = refused.type_cycle d named (record {
            number = c.item;
            position = at.0;
            on_cycle = c.on_cycle;
            position_is = at.1;
            fault_is = refl;
          });
        })

pub decided : CyclesLeaveNone → (tree : Tree) → IsParsed tree → IsDecided tree
decided none tree parsed = by (name_faults tree) refl
  where
    declared : name_faults tree ≡ [] → (found : Found Declared) → declared_of tree.items ≡ found → IsHonest found
        → IsDecided tree
    declared e (Ok d) is h = decided_types none tree parsed d (record { names = e; declared = is })
    declared e (Err []) is h = absurd h.speaks
    declared e (Err (fault ∷ more)) is h =
        let later = twice (flat_map declared_name tree.items) in
        let front = later ++ faults_of (declared_of tree.items) in
        let names = front ++ flat_map (item_faults tree.items) tree.items in
        let empty : faults_of (declared_of tree.items) ≡ [] =
        nothing_behind later _ (nothing_in front _ (nothing_in names _ e)) in
        let here : faults_of {A = Declared} (Err (fault ∷ more)) ≡ [] = subst (λ x. faults_of x ≡ []) is empty in
        cc here

    by : (faults : List Fault) → name_faults tree ≡ faults → IsDecided tree
    by (fault ∷ more) e = inr (record {
      fault = fault;
      refused = refused.name (first_fault (name_faults tree) fault more e);
    })
    by [] e = declared e (declared_of tree.items) refl (declared_honest tree.items)
