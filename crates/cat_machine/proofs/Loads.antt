-- A machine is made ready: what is loaded of constants and of the input, one after the other.
use Rattle.std.proofs.Common.{◌≡◌, ℕ, ◌+◌, ◌<◌, ◌≤◌, List, [], ◌∷◌, ◌++◌, length, take, drop, get_or, slice_get, Option}
use Rattle.std.proofs.Common.{Some, None, refl, sym, ap, ◌∙◌, subst, arith}
use Rattle.std.proofs.lemmas.List.{drop_all, drop_more, map-append, take_all, take_more}
use Rattle.cat_value.specs.declared.value.Value.{Value}
use Rattle.cat_scope.specs.Calls.{Items}
use Rattle.cat_code.specs.declared.code.Code.{Code}
use Rattle.cat_code.specs.declared.code.Constant.{Constant}
use Rattle.cat_code.specs.declared.code.Tables.{Tables}
use Rattle.cat_code.specs.States.{started}
use Rattle.cat_pool.specs.Loading.{Extends, node_count}
use Rattle.cat_pool.specs.Nodes.{Standing, AreBelow, at, seen_at, values}
use Rattle.cat_pool.proofs.Exported.{behind_of, below-append, below-more, extends_itself, extends_on, length-values}
use Rattle.cat_pool.proofs.Exported.{longer, seen_at-extends}
use Rattle.cat_machine.specs.declared.machine.Machine.{Machine}
use Rattle.cat_machine.specs.declared.machine.Return.{Return}
use Rattle.cat_machine.specs.Layers.{extended}
use Rattle.cat_machine.specs.Running.{constant_count, constant_values, entry_count, given_count}
use Rattle.cat_machine.specs.States.{slot, slots_of}
use Rattle.cat_machine.specs.inside.Begun.{AreConstants, emptied, HasInput, IsEmpty, IsEntry, IsReady}
use Rattle.cat_machine.specs.inside.Machines.{SlotsBelow}
use Rattle.cat_machine.proofs.Growth.{slots_front, slots_more}
use Rattle.cat_machine.proofs.Holding.{get_below, slots_joined}
use Rattle.cat_machine.proofs.NodeKinds.{at_is}

-- a node of a value is one of the pool
node_below : (nodes : List Standing) (r : ℕ) (v : Value) → slice_get (values nodes) r ≡ Some v → r < length nodes
node_below nodes r v is = subst (λ n. r < n) (length-values nodes) (get_below (values nodes) r v is)

-- ---- constants

constant_values-append : (cs ds : List Constant) → constant_values (cs ++ ds) ≡ constant_values cs ++ constant_values ds
constant_values-append [] ds = refl
constant_values-append (c ∷ cs) ds = ap (λ (vs : List Value). c.value ∷ vs) (constant_values-append cs ds)

-- the first of the constants are loaded
pub record ConstantsLoaded (old new : List Standing) (cs : List Constant) (i : ℕ) (refs : List ℕ) : Type 0 where
  pub seen : seen_at new refs ≡ constant_values (take i cs)
  pub below : AreBelow (length new) refs
  pub count : length new + constant_count (drop i cs) ≡ length old + constant_count cs
  pub kept : Extends old new

pub no_constants : (pool : List Standing) (cs : List Constant) → ConstantsLoaded pool pool cs 0 []
no_constants pool cs = record { seen = refl; below = tt; count = refl; kept = extends_itself pool }

pub one_constant : (old new : List Standing) (cs : List Constant) (i : ℕ) (c : Constant) (r : ℕ) (pool : List Standing)
    (refs more : List ℕ) → ConstantsLoaded old new cs i refs → i < length cs → c ≡ get_or cs i c
    → slice_get (values pool) r ≡ Some c.value → length pool ≡ length new + node_count c.value → Extends new pool
    → more ≡ refs ++ r ∷ [] → ConstantsLoaded old pool cs (i + 1) more
one_constant old new cs i c r pool refs more are within is at_r count kept pushed = record {
  seen =
      ap (seen_at pool) pushed
      ∙ map-append (at (values pool)) refs (r ∷ [])
      ∙ ap (λ (l : List Value). l ++ at (values pool) r ∷ []) (seen_at-extends new pool refs kept are.below ∙ are.seen)
      ∙ ap (λ (w : Value). constant_values (take i cs) ++ w ∷ []) (at_is (values pool) r c.value at_r)
      ∙ sym (constant_values-append (take i cs) (c ∷ []))
      ∙ ap (λ (d : Constant). constant_values (take i cs ++ d ∷ [])) is
      ∙ ap constant_values (sym (take_more cs i c within));
  below = subst (λ (l : List ℕ). AreBelow (length pool) l) (sym pushed)
      (below-append (length pool) refs (r ∷ [])
      (below-more (length new) (length pool) refs (longer new pool kept) are.below)
      (node_below pool r c.value at_r, tt));
  count =
      let next_is : constant_count (drop i cs) ≡ node_count c.value + constant_count (drop (i + 1) cs)
      = ap constant_count (drop_more cs i c within ∙ ap (λ (d : Constant). d ∷ drop (i + 1) cs) (sym is)) in
      let before = are.count in omega (arith, next_is, before, count);
  kept = extends_on old new pool are.kept kept;
}

module _ (tables : Tables) (old new : List Standing) (i : ℕ) (refs : List ℕ)
    (are : ConstantsLoaded old new tables.constants i refs) (past : length tables.constants ≤ i) where
  pub all_constants : AreConstants tables new refs
  all_constants = record {
    values = are.seen ∙ ap constant_values (take_all i tables.constants past);
    below = are.below;
  }

  pub constants_counted : length new ≡ length old + constant_count tables.constants
  constants_counted =
      let none : constant_count (drop i tables.constants) ≡ 0 = ap constant_count (drop_all i tables.constants past) in
      let all = are.count in omega (arith, none, all)

-- ---- the input

entry_is : (nodes : List Standing) (e : Option Value) (s : Option ℕ) → IsEntry nodes e s → slot (values nodes) s ≡ e
entry_is nodes None None is = refl
entry_is nodes None (Some r) is = absurd is
entry_is nodes (Some v) None is = absurd is
entry_is nodes (Some v) (Some r) is = ap Some (at_is (values nodes) r v is)

entry_below : (nodes : List Standing) (e : Option Value) (s : Option ℕ) → IsEntry nodes e s
    → SlotsBelow (length nodes) (s ∷ [])
entry_below nodes None None is = tt
entry_below nodes None (Some r) is = absurd is
entry_below nodes (Some v) None is = absurd is
entry_below nodes (Some v) (Some r) is = (node_below nodes r v is, tt)

slots_extends : (old new : List Standing) (refs : List (Option ℕ)) → Extends old new → SlotsBelow (length old) refs
    → slots_of new refs ≡ slots_of old refs
slots_extends old new refs is below =
    ap (λ (l : List Standing). slots_of l refs) (behind_of old new is)
    ∙ slots_front old (drop (length old) new) refs below

-- the first of the entries are loaded
pub record InputLoaded (old new : Machine) (input : Items) (i : ℕ) : Type 0 where
  pub refs : List (Option ℕ)
  pub same : new ≡ record old { pool = new.pool; slots = (tt, refs) ∷ old.slots }
  pub seen : slots_of new.pool refs ≡ take i input
  pub below : SlotsBelow (length new.pool) refs
  pub count : length new.pool + given_count (drop i input) ≡ length old.pool + given_count input
  pub kept : Extends old.pool new.pool

pub one_entry : (old new : Machine) (input : Items) (i : ℕ) (e : Option Value) (s : Option ℕ) (pool : List Standing)
    (slots : List (Unit {0} × List (Option ℕ))) → InputLoaded old new input i → i < length input → e ≡ get_or input i e
    → IsEntry pool e s
    → length pool ≡ length new.pool + entry_count e → Extends new.pool pool → slots ≡ extended (s ∷ []) new.slots
    → InputLoaded old (record new { pool = pool; slots = slots }) input (i + 1)
one_entry old new input i e s pool slots are within is at_s count kept pushed = record {
  refs = are.refs ++ s ∷ [];
  same =
      let there : slots ≡ (tt, are.refs ++ s ∷ []) ∷ old.slots
      = pushed ∙ ap (λ (n : Machine). extended (s ∷ []) n.slots) are.same in
      ap (λ (n : Machine). record n { pool = pool; slots = slots }) are.same
      ∙ ap (λ (l : List (Unit {0} × List (Option ℕ))). record old { pool = pool; slots = l }) there;
  seen =
      map-append (slot (values pool)) are.refs (s ∷ [])
      ∙ ap (λ (l : Items). l ++ slot (values pool) s ∷ [])
      (slots_extends new.pool pool are.refs kept are.below ∙ are.seen)
      ∙ ap (λ (f : Option Value). take i input ++ f ∷ []) (entry_is pool e s at_s ∙ is)
      ∙ sym (take_more input i e within);
  below = slots_joined (length pool) are.refs (s ∷ [])
      (slots_more (length new.pool) (length pool) are.refs (longer new.pool pool kept) are.below)
      (entry_below pool e s at_s);
  count =
      let next_is : given_count (drop i input) ≡ entry_count e + given_count (drop (i + 1) input)
      = ap given_count (drop_more input i e within ∙ ap (λ (f : Option Value). f ∷ drop (i + 1) input) (sym is)) in
      let before = are.count in omega (arith, next_is, before, count);
  kept = extends_on old.pool new.pool pool are.kept kept;
}

-- ---- both

module _ (code : Code) (input : Items) (m last : Machine) (constants : List ℕ)
    (locals : List (Option Return × List ℕ)) (empty : IsEmpty m) (are : AreConstants code.tables m.pool constants)
    (opened : locals ≡ (None, []) ∷ m.locals)
    (given : HasInput input (record m { constants = constants; locals = locals }) last)
    (kept : Extends m.pool last.pool) where
  abbrev begun : Machine
  begun = record (emptied last.pool) { locals = (None, []) ∷ []; slots = (tt, given.refs) ∷ []; constants = constants }

  last_is : last ≡ begun
  last_is =
      given.same
      ∙ ap (λ (l : List (Option Return × List ℕ)). record m {
        pool = last.pool;
        locals = l;
        slots = (tt, given.refs) ∷ m.slots;
        constants = constants;
      }) opened
      ∙ ap (λ (n : Machine). record n {
        pool = last.pool;
        locals = (None, []) ∷ n.locals;
        slots = (tt, given.refs) ∷ n.slots;
        constants = constants;
      }) empty.is

  begun_ready : IsReady code input m.pool begun
  begun_ready = record {
    machine = record {
      operands = tt;
      locals = (tt, tt);
      framed = tt;
      slots = (given.below, tt);
      defaults = tt;
      loops = tt;
      collected = tt;
      pending = tt;
      constants = seen_at-extends m.pool last.pool constants kept are.below ∙ are.values;
      constants_below =
          below-more (length m.pool) (length last.pool) constants (longer m.pool last.pool kept) are.below;
      yes = tt;
      no = tt;
    };
    state = λ entry. ap (λ (vs : Items). record (started entry input) { slots = vs }) given.values;
    log = refl;
    few = given.few;
  }

  pub made_ready : IsReady code input m.pool last
  made_ready = subst (λ (n : Machine). IsReady code input m.pool n) (sym last_is) begun_ready
