-- What instructions do with default frames, to a machine and to the state that it stands for.
use Rattle.std.proofs.Common.{◌≡◌, ◌≢◌, ℕ, ◌+◌, ◌<◌, ◌≤◌, List, [], ◌∷◌, ◌++◌, length, map}
use Rattle.std.proofs.Common.{Option, Some, None, Ok, Err, slice_get, refl, sym, ap, ◌∙◌, subst, arith}
use Rattle.std.proofs.lemmas.List.{map-append}
use Rattle.cat_pos.specs.declared.pos.Pos.{Pos}
use Rattle.cat_value.specs.declared.value.Value.{Value}
use Rattle.cat_scope.specs.declared.stop.Stop.TheVariants.{NoValue}
use Rattle.cat_scope.specs.Judging.{Held, alone}
use Rattle.cat_scope.specs.Replies.{known, on_one}
use Rattle.cat_scope.specs.Runs.{Decider}
use Rattle.cat_code.specs.declared.code.TargetEntry.{TargetEntry}
use Rattle.cat_code.specs.declared.code.Tables.{Tables}
use Rattle.cat_code.specs.declared.instr.Instr.TheVariants as instr
use Rattle.cat_code.specs.Machine.{act}
use Rattle.cat_code.specs.Moves.{of_top, takes, with_part}
use Rattle.cat_code.specs.States.{DefaultFrame, Goes, Next, Over, State, on, stuck}
use Rattle.cat_pool.specs.Nodes.{at, values}
use Rattle.cat_machine.specs.declared.machine.End.TheVariants as end
use Rattle.cat_machine.specs.declared.machine.HeldRef.{HeldRef}
use Rattle.cat_machine.specs.declared.machine.Machine.{Machine}
use Rattle.cat_machine.specs.Layers.{extended, joined, rest_of, top_head, top_items, with_head}
use Rattle.cat_machine.specs.States.{decided, default_of, held_of, position_or, state_at}
use Rattle.cat_machine.specs.Steps.{behind, ending}
use Rattle.cat_machine.specs.inside.Logging.{HeldHas, LogsTarget, found_of}
use Rattle.cat_machine.specs.inside.Machines.{DefaultsBelow, HeldBelow, IsMachine}
use Rattle.cat_machine.proofs.Holding.{below_split, get_below, with_defaults, with_operands, without_operand}
use Rattle.cat_machine.proofs.Popping.{popped_so, quietly}
use Rattle.cat_machine.proofs.Pushing.{with_log}
use Rattle.cat_machine.proofs.Unstuck.{known_needs}

-- the frames of a machine
abbrev pub Frames : Type 0
Frames = List (Option ℕ × List HeldRef)

-- one that holds, or none, as a list
abbrev pub held_list : Option (Held Value) → List (Held Value)
held_list None = []
held_list (Some h) = h ∷ []

-- ---- `begin`

pub begin_told : (tables : Tables) (place v : ℕ) (m : Machine)
    → behind (decided tables m.log) (act tables (instr.Begin v) (state_at tables place m))
    ≡ Goes (decided tables m.log) (state_at tables (place + 1) (record m { defaults = (None, []) ∷ m.defaults }))
begin_told tables place v m =
    quietly (decided tables m.log) (act tables (instr.Begin v) (state_at tables place m))
    (state_at tables (place + 1) (record m { defaults = (None, []) ∷ m.defaults })) refl

pub begin_machine : (tables : Tables) (m : Machine) → IsMachine tables m
    → IsMachine tables (record m { defaults = (None, []) ∷ m.defaults })
begin_machine tables m is = with_defaults tables m is ((None, []) ∷ m.defaults) (tt, is.defaults)

-- ---- `hold`

held_more : (tables : Tables) (n : ℕ) (hs : List HeldRef) (h : HeldRef) → HeldBelow tables n hs → h.value < n
    → h.definition < length tables.definitions → HeldBelow tables n (hs ++ h ∷ [])
held_more tables n [] h below lt has = (lt, has, tt)
held_more tables n (i ∷ hs) h below lt has = (below.0, below.1, held_more tables n hs h below.2 lt has)

module _ (tables : Tables) (place d r : ℕ) (rest : List ℕ) (m : Machine) (top : m.operands ≡ r ∷ rest) where
  -- the definition with the operand
  abbrev pub here : HeldRef
  here = record { definition = d; value = r }

  -- it is put into the frame on top
  abbrev held_in : Value → State → DefaultFrame → List DefaultFrame → Next
  held_in v s f fs =
      with_part (known (slice_get tables.definitions d))
      (λ p. on
      (record s { defaults = record f { held = f.held ++ record { number = d; pos = p; value = v } ∷ [] } ∷ fs }))

  abbrev under : State
  under = state_at tables place (record m { operands = rest })

  hold_is : act tables (instr.Hold d) (state_at tables place m)
      ≡ of_top under.defaults (λ f fs. held_in (at (values m.pool) r) under f fs)
  hold_is = popped_so tables place r rest m (λ v s. of_top s.defaults (λ f fs. held_in v s f fs)) top

  pub hold_framed : act tables (instr.Hold d) (state_at tables place m) ≢ stuck → m.defaults ≢ []
  hold_framed going none =
      going (hold_is
      ∙ ap (λ (ds : Frames). of_top (map (default_of tables m.pool) ds)
      (λ f fs. held_in (at (values m.pool) r) under f fs)) none)

  pub hold_defined : act tables (instr.Hold d) (state_at tables place m) ≢ stuck
      → (p : Pos) × (slice_get tables.definitions d ≡ Some p)
  hold_defined going = by m.defaults (λ e. going (hold_is ∙ e))
    where
      by : (ds : Frames)
          → of_top (map (default_of tables m.pool) ds) (λ f fs. held_in (at (values m.pool) r) under f fs) ≢ stuck
          → (p : Pos) × (slice_get tables.definitions d ≡ Some p)
      by [] going = absurd (going refl)
      by (f ∷ fs) going =
          known_needs (slice_get tables.definitions d)
          (λ p. on (record under {
            defaults = record (default_of tables m.pool f) {
              held =
                  map (held_of tables (values m.pool)) f.1 ++ record {
                    number = d;
                    pos = p;
                    value =
                        at (values m.pool) r;
                  } ∷ [];
            } ∷ map (default_of tables m.pool) fs;
          })) going

  -- the frames behind it
  abbrev pub held_frames : Frames
  held_frames = extended (here ∷ []) m.defaults

  pub hold_told : act tables (instr.Hold d) (state_at tables place m) ≢ stuck
      → behind (decided tables m.log) (act tables (instr.Hold d) (state_at tables place m))
      ≡ Goes (decided tables m.log) (state_at tables (place + 1) (record m { operands = rest; defaults = held_frames }))
  hold_told going =
      let p = hold_defined going in
      quietly (decided tables m.log) (act tables (instr.Hold d) (state_at tables place m))
      (state_at tables (place + 1) (record m { operands = rest; defaults = held_frames }))
      (hold_is ∙ by m.defaults p.0 p.1 (hold_framed going))
    where
      by : (ds : Frames) (p : Pos) → slice_get tables.definitions d ≡ Some p → ds ≢ []
          → of_top (map (default_of tables m.pool) ds) (λ f fs. held_in (at (values m.pool) r) under f fs)
          ≡ on (record under { defaults = map (default_of tables m.pool) (extended (here ∷ []) ds) })
      by [] p has some = absurd (some refl)
      by (f ∷ fs) p has some =
          ap (λ (o : Option Pos). with_part (known o)
          (λ p. on (record under {
            defaults = record (default_of tables m.pool f) {
              held =
                  map (held_of tables (values m.pool)) f.1 ++ record {
                    number = d;
                    pos = p;
                    value =
                        at (values m.pool) r;
                  } ∷ [];
            } ∷ map (default_of tables m.pool) fs;
          }))) has
          ∙ ap (λ (o : Option Pos). on (record under {
            defaults = record (default_of tables m.pool f) {
              held = map (held_of tables (values m.pool)) f.1
                  ++ record { number = d; pos = position_or o; value = at (values m.pool) r } ∷ [];
            } ∷ map (default_of tables m.pool) fs;
          })) (sym has)
          ∙ ap (λ (hs : List (Held Value)). on (record under {
            defaults = record (default_of tables m.pool f) { held = hs } ∷ map (default_of tables m.pool) fs;
          })) (sym (map-append (held_of tables (values m.pool)) f.1 (here ∷ [])))

  pub hold_machine : IsMachine tables m → act tables (instr.Hold d) (state_at tables place m) ≢ stuck
      → IsMachine tables (record m { operands = rest; defaults = held_frames })
  hold_machine is going =
      let p = hold_defined going in
      with_defaults tables (record m { operands = rest }) (without_operand tables m is r rest top) held_frames
      (by m.defaults is.defaults (get_below tables.definitions d p.0 p.1))
    where
      by : (ds : Frames) → DefaultsBelow tables (length m.pool) ds → d < length tables.definitions
          → DefaultsBelow tables (length m.pool) (extended (here ∷ []) ds)
      by [] below has = tt
      by (f ∷ fs) below has = (
        held_more tables (length m.pool) f.1 here below.0
            (below_split (length m.pool) m.operands r rest top is.operands).0 has,
        below.1,
      )

-- ---- `merge`

both_held : (tables : Tables) (n : ℕ) (gs hs : List HeldRef) → HeldBelow tables n gs → HeldBelow tables n hs
    → HeldBelow tables n (gs ++ hs)
both_held tables n [] hs one other = other
both_held tables n (g ∷ gs) hs one other = (one.0, one.1, both_held tables n gs hs one.2 other)

module _ (tables : Tables) (place : ℕ) (m : Machine) where
  abbrev merged : DefaultFrame → List DefaultFrame → Next
  merged f fs =
      of_top fs (λ g gs. on (record (state_at tables place m) { defaults = record g { held = g.held ++ f.held } ∷ gs }))

  pub merge_framed : act tables instr.Merge (state_at tables place m) ≢ stuck → 2 ≤ length m.defaults
  merge_framed going = by m.defaults going
    where
      by : (ds : Frames) → of_top (map (default_of tables m.pool) ds) merged ≢ stuck → 2 ≤ length ds
      by [] going = absurd (going refl)
      by (f ∷ []) going = absurd (going refl)
      by (f ∷ g ∷ fs) going = omega arith

  pub merge_told : 2 ≤ length m.defaults
      → behind (decided tables m.log) (act tables instr.Merge (state_at tables place m))
      ≡ Goes (decided tables m.log) (state_at tables (place + 1) (record m { defaults = joined m.defaults }))
  merge_told framed =
      quietly (decided tables m.log) (act tables instr.Merge (state_at tables place m))
      (state_at tables (place + 1) (record m { defaults = joined m.defaults })) (by m.defaults framed)
    where
      by : (ds : Frames) → 2 ≤ length ds → of_top (map (default_of tables m.pool) ds) merged
          ≡ on (record (state_at tables place m) { defaults = map (default_of tables m.pool) (joined ds) })
      by [] framed = absurd (omega (arith, framed))
      by (f ∷ []) framed = absurd (omega (arith, framed))
      by (f ∷ g ∷ fs) framed =
          ap (λ (hs : List (Held Value)). on (record (state_at tables place m) {
            defaults = record (default_of tables m.pool g) { held = hs } ∷ map (default_of tables m.pool) fs;
          })) (sym (map-append (held_of tables (values m.pool)) g.1 f.1))

  pub merge_machine : IsMachine tables m → IsMachine tables (record m { defaults = joined m.defaults })
  merge_machine is = with_defaults tables m is (joined m.defaults) (by m.defaults is.defaults)
    where
      by : (ds : Frames) → DefaultsBelow tables (length m.pool) ds → DefaultsBelow tables (length m.pool) (joined ds)
      by [] below = below
      by (f ∷ []) below = below
      by (f ∷ g ∷ fs) below = (both_held tables (length m.pool) g.1 f.1 below.1.0 below.0, below.1.1)

  -- ---- `check`

  -- two or more hold
  pub check_over : (v : ℕ) → 1 < length (top_items m.defaults)
      → act tables (instr.Check v) (state_at tables place m) ≢ stuck
      → act tables (instr.Check v) (state_at tables place m) ≡ Over (ending tables m (end.Conflict v))
  check_over v many going = by m.defaults (slice_get tables.targets v) many going
    where
      by : (ds : Frames) (o : Option TargetEntry) → 1 < length (top_items ds)
          → of_top (map (default_of tables m.pool) ds)
          (λ f fs. with_part (known o) (λ entry. with_part (alone entry.target f.held)
          (λ found. on (record (state_at tables place m) { defaults = record f { checked = Some v } ∷ fs })))) ≢ stuck
          → of_top (map (default_of tables m.pool) ds)
          (λ f fs. with_part (known o) (λ entry. with_part (alone entry.target f.held)
          (λ found. on (record (state_at tables place m) { defaults = record f { checked = Some v } ∷ fs }))))
          ≡ Over (on_one (known o) (λ entry.
          on_one (alone entry.target (map (held_of tables (values m.pool)) (top_items ds))) (λ found. Ok [])))
      by [] o many going = absurd (omega (arith, many))
      by ((c, []) ∷ fs) o many going = absurd (omega (arith, many))
      by ((c, h ∷ []) ∷ fs) o many going = absurd (omega (arith, many))
      by ((c, h ∷ i ∷ hs) ∷ fs) None many going = refl
      by ((c, h ∷ i ∷ hs) ∷ fs) (Some entry) many going = refl

  pub check_told : (v : ℕ) → length (top_items m.defaults) ≤ 1
      → act tables (instr.Check v) (state_at tables place m) ≢ stuck
      → behind (decided tables m.log) (act tables (instr.Check v) (state_at tables place m))
      ≡ Goes (decided tables m.log)
      (state_at tables (place + 1) (record m { defaults = with_head (Some v) m.defaults }))
  check_told v few going =
      quietly (decided tables m.log) (act tables (instr.Check v) (state_at tables place m))
      (state_at tables (place + 1) (record m { defaults = with_head (Some v) m.defaults }))
      (by m.defaults (slice_get tables.targets v) few going)
    where
      by : (ds : Frames) (o : Option TargetEntry) → length (top_items ds) ≤ 1
          → of_top (map (default_of tables m.pool) ds)
          (λ f fs. with_part (known o) (λ entry. with_part (alone entry.target f.held)
          (λ found. on (record (state_at tables place m) { defaults = record f { checked = Some v } ∷ fs })))) ≢ stuck
          → of_top (map (default_of tables m.pool) ds)
          (λ f fs. with_part (known o) (λ entry. with_part (alone entry.target f.held)
          (λ found. on (record (state_at tables place m) { defaults = record f { checked = Some v } ∷ fs }))))
          ≡ on (record (state_at tables place m) { defaults = map (default_of tables m.pool) (with_head (Some v) ds) })
      by [] o few going = absurd (going refl)
      by (f ∷ fs) None few going = absurd (going refl)
      by ((c, []) ∷ fs) (Some entry) few going = refl
      by ((c, h ∷ []) ∷ fs) (Some entry) few going = refl
      by ((c, h ∷ i ∷ hs) ∷ fs) (Some entry) few going = absurd (omega (arith, few))

  pub check_machine : (v : ℕ) → IsMachine tables m
      → IsMachine tables (record m { defaults = with_head (Some v) m.defaults })
  check_machine v is = with_defaults tables m is (with_head (Some v) m.defaults) (by m.defaults is.defaults)
    where
      by : (ds : Frames) → DefaultsBelow tables (length m.pool) ds
          → DefaultsBelow tables (length m.pool) (with_head (Some v) ds)
      by [] below = below
      by (f ∷ fs) below = below

  -- ---- `take`

  pub take_headed : (t : ℕ) → None ≡ top_head m.defaults → act tables (instr.Take t) (state_at tables place m) ≢ stuck
      → ⊥
  take_headed t none going = by m.defaults none going
    where
      by : (ds : Frames) → None ≡ top_head ds
          → of_top (map (default_of tables m.pool) ds)
          (λ f fs. takes f.held tables t f.checked (record (state_at tables place m) { defaults = fs })) ≢ stuck → ⊥
      by [] none going = going refl
      by (f ∷ fs) none going = absurd (cc none)

  -- what is found has its number in the tables
  pub first_has : IsMachine tables m → (found : Option HeldRef) → found ≡ slice_get (top_items m.defaults) 0
      → HeldHas tables found
  first_has is found at_first =
      subst (λ (o : Option HeldRef). HeldHas tables o) (sym at_first) (by m.defaults is.defaults)
    where
      by : (ds : Frames) → DefaultsBelow tables (length m.pool) ds → HeldHas tables (slice_get (top_items ds) 0)
      by [] below = tt
      by ((c, []) ∷ fs) below = tt
      by ((c, h ∷ hs) ∷ fs) below = below.0.1

  pub first_below : IsMachine tables m → (h : HeldRef) → Some h ≡ slice_get (top_items m.defaults) 0
      → h.value < length m.pool
  first_below is h at_first = by m.defaults is.defaults at_first
    where
      by : (ds : Frames) → DefaultsBelow tables (length m.pool) ds → Some h ≡ slice_get (top_items ds) 0
          → h.value < length m.pool
      by [] below at_first = absurd (cc at_first)
      by ((c, []) ∷ fs) below at_first = absurd (cc at_first)
      by ((c, i ∷ hs) ∷ fs) below at_first =
          let same : h ≡ i = cc at_first in subst (λ (x : HeldRef). x.value < length m.pool) (sym same) below.0.0

  take_is : (t : ℕ) (checked : Option ℕ) (found : Option HeldRef) → Some checked ≡ top_head m.defaults
      → found ≡ slice_get (top_items m.defaults) 0 → act tables (instr.Take t) (state_at tables place m) ≢ stuck
      → act tables (instr.Take t) (state_at tables place m)
      ≡ takes (held_list (found_of tables (values m.pool) found)) tables t checked
      (state_at tables place (record m { defaults = rest_of m.defaults }))
  take_is t checked found head at_first going = by m.defaults head at_first going
    where
      by : (ds : Frames) → Some checked ≡ top_head ds → found ≡ slice_get (top_items ds) 0
          → of_top (map (default_of tables m.pool) ds)
          (λ f fs. takes f.held tables t f.checked (record (state_at tables place m) { defaults = fs })) ≢ stuck
          → of_top (map (default_of tables m.pool) ds)
          (λ f fs. takes f.held tables t f.checked (record (state_at tables place m) { defaults = fs }))
          ≡ takes (held_list (found_of tables (values m.pool) found)) tables t checked
          (state_at tables place (record m { defaults = rest_of ds }))
      by [] head at_first going = absurd (going refl)
      by ((c, []) ∷ fs) head at_first going =
          let same : c ≡ checked = cc head in
          ap (λ k. takes [] tables t k (state_at tables place (record m { defaults = fs }))) same
          ∙ ap (λ (o : Option HeldRef). takes (held_list (found_of tables (values m.pool) o)) tables t checked
          (state_at tables place (record m { defaults = fs }))) (sym at_first)
      by ((c, h ∷ []) ∷ fs) head at_first going =
          let same : c ≡ checked = cc head in
          ap (λ k. takes (held_of tables (values m.pool) h ∷ []) tables t k
          (state_at tables place (record m { defaults = fs }))) same
          ∙ ap (λ (o : Option HeldRef). takes (held_list (found_of tables (values m.pool) o)) tables t checked
          (state_at tables place (record m { defaults = fs }))) (sym at_first)
      by ((c, h ∷ i ∷ hs) ∷ fs) head at_first going = absurd (going refl)

  module _ (t : ℕ) (checked : Option ℕ) (logs : Machine) (head : Some checked ≡ top_head m.defaults)
      (going : act tables (instr.Take t) (state_at tables place m) ≢ stuck) where
    -- none holds
    pub take_none : None ≡ slice_get (top_items m.defaults) 0 → LogsTarget tables m logs checked None
        → behind (decided tables m.log) (act tables (instr.Take t) (state_at tables place m))
        ≡ Goes (decided tables logs.log) (state_at tables t (record logs { defaults = rest_of logs.defaults }))
    take_none at_first did =
        ap (behind (decided tables m.log)) (take_is t checked None head at_first going)
        ∙ ap (λ (l : List Decider). Goes l (state_at tables t (record m { defaults = rest_of m.defaults })))
        (sym did.logs)
        ∙ sym
        (ap (λ (x : Machine). Goes (decided tables logs.log)
        (state_at tables t (record x { defaults = rest_of x.defaults }))) did.same)

    -- one holds
    pub take_one : (h : HeldRef) → Some h ≡ slice_get (top_items m.defaults) 0
        → LogsTarget tables m logs checked (Some h)
        → behind (decided tables m.log) (act tables (instr.Take t) (state_at tables place m))
        ≡ Goes (decided tables logs.log) (state_at tables (place + 1)
        (record logs { operands = h.value ∷ logs.operands; defaults = rest_of logs.defaults }))
    take_one h at_first did =
        ap (behind (decided tables m.log)) (take_is t checked (Some h) head at_first going)
        ∙ ap (λ (l : List Decider). Goes l (state_at tables (place + 1)
        (record m { operands = h.value ∷ m.operands; defaults = rest_of m.defaults }))) (sym did.logs)
        ∙ sym (ap (λ (x : Machine). Goes (decided tables logs.log) (state_at tables (place + 1)
        (record x { operands = h.value ∷ x.operands; defaults = rest_of x.defaults }))) did.same)

  rest_below : (n : ℕ) (ds : Frames) → DefaultsBelow tables n ds → DefaultsBelow tables n (rest_of ds)
  rest_below n [] below = below
  rest_below n (f ∷ fs) below = below.1

  module _ (checked : Option ℕ) (found : Option HeldRef) (logs : Machine) (is : IsMachine tables m)
      (did : LogsTarget tables m logs checked found) where
    logs_machine : IsMachine tables logs
    logs_machine =
        subst (λ (x : Machine). IsMachine tables x) (sym did.same) (with_log tables m is logs.log)

    pub take_machine : IsMachine tables (record logs { defaults = rest_of logs.defaults })
    take_machine =
        with_defaults tables logs logs_machine (rest_of logs.defaults)
        (rest_below (length logs.pool) logs.defaults logs_machine.defaults)

    pub take_push : (r : ℕ) → r < length m.pool
        → IsMachine tables (record logs { operands = r ∷ logs.operands; defaults = rest_of logs.defaults })
    take_push r below =
        with_operands tables (record logs { defaults = rest_of logs.defaults }) take_machine (r ∷ logs.operands)
        (subst (λ (x : Machine). r < length x.pool) (sym did.same) below, logs_machine.operands)

-- ---- `novalue`

pub no_value_over : (tables : Tables) (place v : ℕ) (m : Machine)
    → act tables (instr.NoValue v) (state_at tables place m) ≡ Over (ending tables m (end.NoValue v))
no_value_over tables place v m = by (slice_get tables.targets v)
  where
    by : (o : Option TargetEntry) → with_part (known o) (λ entry. Over (Err (NoValue entry.target entry.pos)))
        ≡ Over (on_one (known o) (λ entry. Err (NoValue entry.target entry.pos)))
    by None = refl
    by (Some entry) = refl
