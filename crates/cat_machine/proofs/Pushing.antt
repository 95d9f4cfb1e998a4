-- A value that comes on top of the operands, in a pool that has more nodes behind.
use Rattle.std.proofs.Common.{◌≡◌, ℕ, ◌+◌, ◌<◌, true, false, List, [], ◌∷◌, ◌++◌, length, drop, Result, Ok, Err, OnOk}
use Rattle.std.proofs.Common.{OnErr, Some}
use Rattle.std.proofs.Common.{slice_get, refl, sym, ap, ◌∙◌, subst, arith, length-append}
use Rattle.std.specs.declared.alloc.AllocError.{AllocError}
use Rattle.cat_value.specs.declared.value.Value.{Value}
use Rattle.cat_code.specs.declared.code.Tables.{Tables}
use Rattle.cat_code.specs.States.{Goes, Next, State, on, push}
use Rattle.cat_pool.specs.Nodes.{Standing, at, values}
use Rattle.cat_pool.specs.Loading.{Extends}
use Rattle.cat_pool.proofs.Exported.{at-last, behind_of, length-values, slice_get-at, values-append}
use Rattle.cat_machine.specs.declared.log.LogEntry.{LogEntry}
use Rattle.cat_machine.specs.declared.machine.Machine.{Machine}
use Rattle.cat_machine.specs.declared.machine.Truths.{Truths}
use Rattle.cat_machine.specs.States.{decided, state_at}
use Rattle.cat_machine.specs.Steps.{OneMore, behind}
use Rattle.cat_machine.specs.inside.Machines.{IsMachine, IsTruth}
use Rattle.cat_machine.specs.inside.Putting.{Puts}
use Rattle.cat_machine.proofs.Growth.{machine_grown, no_more, one_more, state_grown}
use Rattle.cat_machine.proofs.Holding.{get_below, with_operand, with_operands}
use Rattle.cat_machine.proofs.NodeKinds.{at_is}
use Rattle.cat_machine.proofs.Popping.{pushed_so, quietly}

-- ---- what a reference stands for

pub stands_below : (nodes : List Standing) (r : ℕ) (v : Value) → slice_get (values nodes) r ≡ Some v → r < length nodes
stands_below nodes r v is = subst (λ n. r < n) (length-values nodes) (get_below (values nodes) r v is)

pub stands_at : (nodes : List Standing) (r : ℕ) → r < length nodes
    → slice_get (values nodes) r ≡ Some (at (values nodes) r)
stands_at nodes r below = slice_get-at (values nodes) r (subst (λ n. r < n) (sym (length-values nodes)) below)

-- a node that is put stands for its value
pub put_stands : (old new : List Standing) (s : Standing) (r : ℕ) → new ≡ old ++ s ∷ [] → r ≡ length old
    → slice_get (values new) r ≡ Some s.value
put_stands old new s r is place =
    let whole : values new ≡ values old ++ s.value ∷ [] = ap values is ∙ values-append old (s ∷ []) in
    let last : r ≡ length (values old) = place ∙ sym (length-values old) in
    let within : r < length (values old ++ s.value ∷ []) =
    omega (arith, last, length-append (values old) (s.value ∷ [])) in
    ap (λ (vs : List Value). slice_get vs r) whole
    ∙ slice_get-at (values old ++ s.value ∷ []) r within
    ∙ ap (λ (v : Value). Some v) (at-last (values old) s.value r last)

-- ---- what comes of the pool in a step

pub none_more : (old new : List Standing) → new ≡ old → OneMore old new
none_more old new is = subst (λ (nodes : List Standing). OneMore old nodes) (sym is) (no_more old)

-- whether or not a node was put
pub put_more : (old new : List Standing) (s : Standing) (res : Result ℕ AllocError) → OnOk res (new ≡ old ++ s ∷ [])
    → OnErr res (new ≡ old) → OneMore old new
put_more old new s (Ok r) ok err = one_more old new s ok
put_more old new s (Err e) ok err = none_more old new err

-- ---- a machine of which one part is another one

module _ (tables : Tables) (m : Machine) (is : IsMachine tables m) where
  pub with_truths : (truths : Truths) → IsTruth m.pool true truths.yes → IsTruth m.pool false truths.no
      → IsMachine tables (record m { truths = truths })
  with_truths truths first second = record {
    operands = is.operands;
    locals = is.locals;
    framed = is.framed;
    slots = is.slots;
    defaults = is.defaults;
    loops = is.loops;
    collected = is.collected;
    pending = is.pending;
    constants = is.constants;
    constants_below = is.constants_below;
    yes = first;
    no = second;
  }

  pub with_log : (log : List LogEntry) → IsMachine tables (record m { log = log })
  with_log log = record {
    operands = is.operands;
    locals = is.locals;
    framed = is.framed;
    slots = is.slots;
    defaults = is.defaults;
    loops = is.loops;
    collected = is.collected;
    pending = is.pending;
    constants = is.constants;
    constants_below = is.constants_below;
    yes = is.yes;
    no = is.no;
  }

-- ---- on top of a machine's operands

module _ (tables : Tables) (m : Machine) (is : IsMachine tables m) (pool : List Standing)
    (stay : Extends m.pool pool) where
  pub state_extended : (place : ℕ) → state_at tables place (record m { pool = pool }) ≡ state_at tables place m
  state_extended place =
      ap (λ (nodes : List Standing). state_at tables place (record m { pool = nodes })) (behind_of m.pool pool stay)
      ∙ state_grown tables m (drop (length m.pool) pool) is place

  pub machine_extended : IsMachine tables (record m { pool = pool })
  machine_extended =
      subst (λ (nodes : List Standing). IsMachine tables (record m { pool = nodes })) (sym (behind_of m.pool pool stay))
      (machine_grown tables m (drop (length m.pool) pool) is)

  module _ (r : ℕ) (v : Value) (truths : Truths) (stands : slice_get (values pool) r ≡ Some v) where
    abbrev pub pushed : Machine
    pushed = record m { pool = pool; operands = r ∷ m.operands; truths = truths }

    pub state_pushed : (place : ℕ) → state_at tables place pushed ≡ push v (state_at tables place m)
    state_pushed place =
        ap (λ (s : State). push (at (values pool) r) s) (state_extended place)
        ∙ ap (λ (w : Value). push w (state_at tables place m)) (at_is (values pool) r v stands)

    pub machine_pushed : IsTruth pool true truths.yes → IsTruth pool false truths.no → IsMachine tables pushed
    machine_pushed first second =
        with_truths tables (record m { pool = pool; operands = r ∷ m.operands })
        (with_operands tables (record m { pool = pool }) machine_extended (r ∷ m.operands)
        (stands_below pool r v stands, machine_extended.operands)) truths first second

    pub push_told : (place : ℕ) (next : Next) → next ≡ on (push v (state_at tables place m))
        → behind (decided tables m.log) next ≡ Goes (decided tables m.log) (state_at tables (place + 1) pushed)
    push_told place next leads =
        quietly (decided tables m.log) next (state_at tables (place + 1) pushed)
        (leads ∙ ap (λ (s : State). Goes [] s) (sym (state_pushed (place + 1))))

-- ---- a node that is put, or a reference that is there, on top of the operands of a machine

module _ (tables : Tables) (place r : ℕ) (m : Machine) (is : IsMachine tables m) (ops : List ℕ)
    (on_top : ops ≡ r ∷ m.operands) where
  module _ (s : Standing) (pool : List Standing) (put : pool ≡ m.pool ++ s ∷ []) (last : r ≡ length m.pool) where
    abbrev stay : Extends m.pool pool
    stay = (one_more m.pool pool s put).stay

    abbrev stands : slice_get (values pool) r ≡ Some s.value
    stands = put_stands m.pool pool s r put last

    pub node_told : (next : Next) → next ≡ on (push s.value (state_at tables place m))
        → behind (decided tables m.log) next
        ≡ Goes (decided tables m.log) (state_at tables (place + 1) (record m { pool = pool; operands = ops }))
    node_told next leads =
        push_told tables m is pool stay r s.value m.truths stands place next leads
        ∙ ap (λ (rs : List ℕ). Goes (decided tables m.log)
        (state_at tables (place + 1) (record m { pool = pool; operands = rs })))
        (sym on_top)

    pub node_machine : IsMachine tables (record m { pool = pool; operands = ops })
    node_machine =
        let wide = machine_extended tables m is pool stay in
        subst (λ (rs : List ℕ). IsMachine tables (record m { pool = pool; operands = rs })) (sym on_top)
        (machine_pushed tables m is pool stay r s.value m.truths stands wide.yes wide.no)

  pub ref_told : (next : Next) → next ≡ on (push (at (values m.pool) r) (state_at tables place m))
      → behind (decided tables m.log) next
      ≡ Goes (decided tables m.log) (state_at tables (place + 1) (record m { operands = ops }))
  ref_told next leads =
      quietly (decided tables m.log) next (state_at tables (place + 1) (record m { operands = ops }))
      (leads ∙ pushed_so tables place r ops m (at (values m.pool) r) refl on_top)

  pub ref_machine : r < length m.pool → IsMachine tables (record m { operands = ops })
  ref_machine below = with_operand tables m is r ops below on_top

-- ---- what is put for a machine, and pushed

module _ (tables : Tables) (old new : Machine) (v : Value) (r : ℕ) (is : IsMachine tables old) (puts : Puts old new v r)
    (more : OneMore old.pool new.pool) (ops : List ℕ) (on_top : ops ≡ r ∷ new.operands) where
  -- the machine behind it, from the one in front
  whole : record new { operands = ops }
      ≡ record old { pool = new.pool; operands = r ∷ old.operands; truths = new.truths }
  whole =
      ap (λ (rs : List ℕ). record new { operands = rs }) on_top
      ∙ ap (λ (m : Machine). record m { operands = r ∷ m.operands }) puts.same

  pub puts_machine : IsMachine tables (record new { operands = ops })
  puts_machine =
      subst (λ (m : Machine). IsMachine tables m) (sym whole)
      (machine_pushed tables old is new.pool more.stay r v new.truths puts.stands puts.truths.yes puts.truths.no)

  pub puts_told : (place : ℕ) (next : Next) → next ≡ on (push v (state_at tables place old))
      → behind (decided tables old.log) next
      ≡ Goes (decided tables new.log) (state_at tables (place + 1) (record new { operands = ops }))
  puts_told place next leads =
      push_told tables old is new.pool more.stay r v new.truths puts.stands place next leads
      ∙ sym (ap (λ (m : Machine). Goes (decided tables m.log) (state_at tables (place + 1) m)) whole)
