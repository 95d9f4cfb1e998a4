-- The machine: what each instruction does, one line for each.
use Rattle.std.specs.Prelude.{◌-◌, pos, nat_eq, List, [], ◌∷◌, ◌++◌, length, take, Some, None, Err, slice_get}
use Rattle.cat_date.specs.declared.rounding.Rounding.{Rounding}
use Rattle.cat_pos.specs.declared.pos.Pos.{Pos}
use Rattle.cat_value.specs.declared.value.Value.TheVariants as flat
use Rattle.cat_value.specs.declared.value.Value.TheViews as value
use Rattle.cat_value.specs.declared.outcome.FaultKind.TheVariants.{AssertionFailed}
use Rattle.cat_scope.specs.declared.stop.Stop.TheVariants.{Fault, NoValue}
use Rattle.cat_scope.specs.Replies.{known, evaluated}
use Rattle.cat_scope.specs.Names.{scope_items}
use Rattle.cat_scope.specs.Judging.{alone}
use Rattle.cat_scope.specs.Operators.{convert, operate}
use Rattle.cat_scope.specs.Composed.{part}
use Rattle.cat_scope.specs.Projections.{truth, elements, case_of}
use Rattle.cat_scope.specs.Running.{with_entry, no_values}
use Rattle.cat_code.specs.declared.instr.Instr.{Instr}
use Rattle.cat_code.specs.declared.instr.Instr.TheVariants as instr
use Rattle.cat_code.specs.declared.code.Tables.{Tables}
use Rattle.cat_code.specs.Operations.{Operation, Before, Between, operation, roundings}
use Rattle.cat_code.specs.States.{State, Next, Over, on, to, push}
use Rattle.cat_code.specs.Moves.{with_part, pushes, of_top, pop, pop_all, by_truth, if_filled, if_held, starts, next_of}
use Rattle.cat_code.specs.Moves.{enters, returns, takes}

-- pops the operands of an operator, and pushes its result
abbrev pub operates : Operation → Rounding → Pos → State → Next
operates (Before o) r p s = pop s (λ v s. pushes (convert o p v) s)
operates (Between o) r p s = pop s (λ w s. pop s (λ v s. pushes (operate r o p v w) s))

-- what an instruction does
abbrev pub act : Tables → Instr → State → Next
act tables (instr.Const k) s = with_part (known (slice_get tables.constants k)) (λ c. on (push c.value s))
act tables (instr.Slot i) s = pushes (evaluated (slice_get s.slots i)) s
act tables (instr.Local i) s = pushes (known (slice_get s.locals i)) s
act tables (instr.Store i) s = pop s (λ v s. on (record s { slots = with_entry i (Some v) s.slots }))
act tables instr.Bind s = pop s (λ v s. on (record s { locals = s.locals ++ v ∷ [] }))
act tables (instr.Drop n) s = on (record s { locals = take (length s.locals - n) s.locals })
act tables (instr.Given i t) s = with_part (known (slice_get s.slots i)) (λ entry. if_filled entry (to t s) (on s))
act tables (instr.Jump t) s = to t s
act tables (instr.JumpFalse t) s = pop s (λ v s. with_part (truth v) (λ b. by_truth b (on s) (to t s)))
act tables (instr.Op n r p) s =
    with_part (known (operation n)) (λ o. with_part (known (slice_get roundings r))
    (λ rounding. with_part (known (slice_get tables.positions p)) (λ at. operates o rounding at s)))
act tables (instr.Pack n) s = pop_all n s (λ vs s. on (push (value.Structure vs) s))
act tables (instr.List n) s = pop_all n s (λ vs s. on (push (value.List vs) s))
act tables (instr.Field i) s = pop s (λ v s. pushes (part i v) s)
act tables (instr.Tag c) s =
    pop s (λ v s. with_part (known (slice_get tables.cases c)) (λ place. on (push (value.Case place.case (Some v)) s)))
act tables (instr.TagNone c) s =
    with_part (known (slice_get tables.cases c)) (λ place. on (push (value.Case place.case None) s))
act tables (instr.IsCase c) s =
    pop s (λ v s. with_part (case_of v) (λ met. with_part (known (slice_get tables.cases c))
    (λ place. on (push (flat.Boolean (nat_eq met.0 place.case)) s))))
act tables instr.Content s = pop s (λ v s. with_part (case_of v) (λ met. pushes (known met.1) s))
act tables instr.Length s = pop s (λ v s. with_part (elements v) (λ vs. on (push (flat.Integer (pos (length vs))) s)))
act tables instr.Iter s = pop s (λ v s. starts None v s)
act tables (instr.IterList k) s = pop s (λ v s. starts (Some []) v s)
act tables (instr.Next t) s = of_top s.loops (λ loop loops. next_of loop.left t loop loops s)
act tables instr.Collect s =
    pop s (λ v s. of_top s.loops (λ loop loops. with_part (known loop.collected)
    (λ vs. on (record s { loops = record loop { collected = Some (vs ++ v ∷ []) } ∷ loops }))))
act tables instr.Leave s = of_top s.loops (λ loop loops. on (record s { loops = loops }))
act tables (instr.Call f n) s =
    pop_all n s (λ vs s. with_part (known (slice_get tables.functions f)) (λ entry. enters entry None s.slots vs s))
act tables (instr.Scope n) s =
    on (record s { pending = record { scope = n; slots = no_values (scope_items tables.decls n) } ∷ s.pending })
act tables (instr.Pass i) s =
    pop s (λ v s. of_top s.pending
    (λ p ps. on (record s { pending = record p { slots = with_entry i (Some v) p.slots } ∷ ps })))
act tables instr.Enter s =
    of_top s.pending (λ p ps. with_part (known (slice_get tables.scopes p.scope))
    (λ entry. enters entry (Some s.slots) p.slots [] (record s { pending = ps })))
act tables instr.Return s = returns s.frames s
act tables (instr.Begin v) s = on (record s { defaults = record { checked = None; held = [] } ∷ s.defaults })
act tables (instr.Hold d) s =
    pop s (λ v s. of_top s.defaults (λ f fs. with_part (known (slice_get tables.definitions d))
    (λ at. on (record s {
      defaults =
          record f { held = f.held ++ record { number = d; pos = at; value = v } ∷ [] } ∷ fs;
    }))))
act tables instr.Merge s =
    of_top s.defaults (λ f fs. of_top fs
    (λ g gs. on (record s { defaults = record g { held = g.held ++ f.held } ∷ gs })))
act tables (instr.Check v) s =
    of_top s.defaults (λ f fs. with_part (known (slice_get tables.targets v))
    (λ entry. with_part (alone entry.target f.held)
    (λ found. on (record s { defaults = record f { checked = Some v } ∷ fs }))))
act tables (instr.Held t) s = of_top s.defaults (λ f fs. if_held f.held (to t s) (on s))
act tables (instr.Take t) s =
    of_top s.defaults (λ f fs. takes f.held tables t f.checked (record s { defaults = fs }))
act tables (instr.NoValue v) s =
    with_part (known (slice_get tables.targets v)) (λ entry. Over (Err (NoValue entry.target entry.pos)))
act tables (instr.Assert p) s =
    with_part (known (slice_get tables.positions p)) (λ at. pop s (λ v s. with_part (truth v)
    (λ b. by_truth b (on s) (Over (Err (Fault AssertionFailed at))))))
