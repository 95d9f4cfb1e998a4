-- A loop that ends at the first element that is found, or that is none.
use Rattle.std.proofs.Common.{◌≡◌, ℕ, ◌+◌, Bool, true, false, List, [], ◌∷◌, None, sym, ap, ◌∙◌, subst}
use Rattle.cat_value.specs.declared.value.Value.{Value}
use Rattle.cat_value.specs.declared.value.Value.TheVariants as flat
use Rattle.cat_scope.specs.Runs.{Run, gives, and_then}
use Rattle.cat_scope.specs.Projections.{truth}
use Rattle.cat_scope.specs.Lists.{for_all, exists}
use Rattle.cat_scope.proofs.Exported.{and_then_and_then}
use Rattle.cat_code.specs.declared.instr.Instr.{Instr}
use Rattle.cat_code.specs.declared.instr.Instr.TheVariants as instr
use Rattle.cat_code.specs.declared.code.Tables.{Tables}
use Rattle.cat_code.specs.States.{State, push}
use Rattle.cat_code.specs.Runs.{Whole}
use Rattle.cat_lower.specs.Laying.{Ends, Coded, one, then_code, skip, end_of, over}
use Rattle.cat_lower.specs.Pieces.{truth as truth_code, search_for, found as found_code, any_turn, all_turn}
use Rattle.cat_lower.specs.Stands.{Has}
use Rattle.cat_lower.proofs.Places.{first_of, second_of, rest_of, past_append}
use Rattle.cat_lower.proofs.Comes.{Comes, acted, goes_on, found, chosen, alike}
use Rattle.cat_lower.proofs.Doing.{here}

-- a loop over elements that collects nothing
abbrev pub looping : List Value → State → State
looping left s = record s { loops = record { left = left; collected = None } ∷ s.loops }

-- the place behind a turn, whatever it knows of places
any_turn_ends : (test : Coded) (start out : ℕ) (ends : Ends)
    → (end_of (any_turn test start out) ends).place ≡ (end_of test ends).place + 1 + 1 + 1 + 1 + 1
any_turn_ends test start out ends = past_append ends.place (test ends).instructions _

all_turn_ends : (test : Coded) (start out : ℕ) (ends : Ends)
    → (end_of (all_turn test start out) ends).place ≡ (end_of test ends).place + 1 + 1 + 1 + 1 + 1
all_turn_ends test start out ends = past_append ends.place (test ends).instructions _

module _ (tables : Tables) (code : List Instr) where
  -- leaves a loop with a truth value, and goes on behind it
  leaves : (b : Bool) (out : ℕ) (ends : Ends) → Has tables code ends (found_code b out ends)
      → (locals left : List Value)
      → (s : State) (r : Whole) → Comes tables code (here out locals (push (flat.Boolean b) s)) r
      → Comes tables code (here ends.place locals (looping left s)) r
  leaves b out ends has locals left s r next =
      acted tables code _ instr.Leave _ has.instructions.0 (goes_on tables code _ _
      (acted tables code _ (instr.Const ends.constants) _ has.instructions.1.0
      (found tables code _ _ _ _ has.constants.0 (goes_on tables code _ _
      (acted tables code _ (instr.Jump out) _ has.instructions.1.1.0 (goes_on tables code _ _ next))))))

  -- what a test of an element does in the loop
  abbrev pub Tests : (Value → Run Value) → Coded → List Value → State → Type 0
  Tests of_each test locals s = (v : Value) (left : List Value) (ends : Ends) → Has tables code ends (test ends)
      → (k : Value → Whole)
      → ((t : Value) → Comes tables code (here (end_of test ends).place locals (push t (looping left s))) (k t))
      → Comes tables code (here ends.place locals (push v (looping left s))) (and_then (of_each v) k)

  module _ (of_each : Value → Run Value) (test : Coded) (locals : List Value) (s : State)
      (tests : Tests of_each test locals s) where
    pub does_exists : (left : List Value) (ends : Ends) → Has tables code ends (search_for (any_turn test) false ends)
        → (k : Value → Whole)
        → ((b : Value) → Comes tables code
        (here (end_of (search_for (any_turn test) false) ends).place locals (push b s)) (k b))
        → Comes tables code (here ends.place locals (looping left s)) (and_then (exists of_each left) k)
    does_exists left ends has k next = go left
      where
        start : ℕ
        start = ends.place

        exit : ℕ
        exit = (end_of (any_turn test 0 0) (skip ends)).place

        turn : Coded
        turn = any_turn test start (exit + 1)

        inner : Has tables code (skip ends) (then_code turn (truth_code false) (skip ends))
        inner = rest_of tables code (instr.Next exit) (then_code turn (truth_code false)) ends has

        in_turn : Has tables code (skip ends) (turn (skip ends))
        in_turn = first_of tables code turn (truth_code false) (skip ends) inner

        at_none : Has tables code (end_of turn (skip ends)) (truth_code false (end_of turn (skip ends)))
        at_none = second_of tables code turn (truth_code false) (skip ends) inner

        same_exit : (end_of turn (skip ends)).place ≡ exit
        same_exit = any_turn_ends test start (exit + 1) (skip ends) ∙ sym (any_turn_ends test 0 0 (skip ends))

        done : (b : Value) → Comes tables code (here (exit + 1) locals (push b s)) (k b)
        done b = subst (λ p. Comes tables code (here p locals (push b s)) (k b))
            (past_append (skip ends).place (turn (skip ends)).instructions
            (truth_code false (end_of turn (skip ends))).instructions
            ∙ ap (λ n. n + 1) same_exit) (next b)

        rest : Coded
        rest = then_code (over (λ t. instr.JumpFalse t) (found_code true (exit + 1))) (one (instr.Jump start))

        e2 : Ends
        e2 = end_of test (skip ends)

        in_rest : Has tables code e2 (rest e2)
        in_rest = second_of tables code test rest (skip ends) in_turn

        in_over : Has tables code e2 (over (λ t. instr.JumpFalse t) (found_code true (exit + 1)) e2)
        in_over =
            first_of tables code (over (λ t. instr.JumpFalse t) (found_code true (exit + 1)))
            (one (instr.Jump start)) e2 in_rest

        go : (left : List Value)
            → Comes tables code (here start locals (looping left s)) (and_then (exists of_each left) k)
        go [] =
            acted tables code _ (instr.Next exit) _ has.instructions.0 (goes_on tables code _ _
            (subst (λ p. Comes tables code (here p locals s) (k (flat.Boolean false))) same_exit
            (acted tables code _ (instr.Const (end_of turn (skip ends)).constants) _ at_none.instructions.0
            (found tables code _ _ _ _ at_none.constants.0 (goes_on tables code _ _
            (subst (λ p. Comes tables code (here (p + 1) locals (push (flat.Boolean false) s)) (k (flat.Boolean false)))
            (sym same_exit)
            (done (flat.Boolean false))))))))
        go (v ∷ vs) =
            alike tables code _ _ _ (and_then_and_then (of_each v) _ k)
            (acted tables code _ (instr.Next exit) _ has.instructions.0 (goes_on tables code _ _
            (tests v vs (skip ends) (first_of tables code test rest (skip ends) in_turn) _
            (λ t. acted tables code _ (instr.JumpFalse (e2.place + 1 + 1 + 1 + 1)) _ in_over.instructions.0
            (chosen tables code (truth t) _ _ (gives (flat.Boolean true)) (exists of_each vs) k
            (goes_on tables code _ _ (leaves true (exit + 1) (skip e2)
            (rest_of tables code (instr.JumpFalse (e2.place + 1 + 1 + 1 + 1)) (found_code true (exit + 1)) e2 in_over)
            locals vs s _ (done (flat.Boolean true))))
            (goes_on tables code _ _ (acted tables code _ (instr.Jump start) _ in_rest.instructions.1.1.1.1.0
            (goes_on tables code _ _ (go vs)))))))))

    pub does_for_all : (left : List Value) (ends : Ends) → Has tables code ends (search_for (all_turn test) true ends)
        → (k : Value → Whole)
        → ((b : Value) → Comes tables code
        (here (end_of (search_for (all_turn test) true) ends).place locals (push b s)) (k b))
        → Comes tables code (here ends.place locals (looping left s)) (and_then (for_all of_each left) k)
    does_for_all left ends has k next = go left
      where
        start : ℕ
        start = ends.place

        exit : ℕ
        exit = (end_of (all_turn test 0 0) (skip ends)).place

        turn : Coded
        turn = all_turn test start (exit + 1)

        inner : Has tables code (skip ends) (then_code turn (truth_code true) (skip ends))
        inner = rest_of tables code (instr.Next exit) (then_code turn (truth_code true)) ends has

        in_turn : Has tables code (skip ends) (turn (skip ends))
        in_turn = first_of tables code turn (truth_code true) (skip ends) inner

        at_none : Has tables code (end_of turn (skip ends)) (truth_code true (end_of turn (skip ends)))
        at_none = second_of tables code turn (truth_code true) (skip ends) inner

        same_exit : (end_of turn (skip ends)).place ≡ exit
        same_exit = all_turn_ends test start (exit + 1) (skip ends) ∙ sym (all_turn_ends test 0 0 (skip ends))

        done : (b : Value) → Comes tables code (here (exit + 1) locals (push b s)) (k b)
        done b = subst (λ p. Comes tables code (here p locals (push b s)) (k b))
            (past_append (skip ends).place (turn (skip ends)).instructions
            (truth_code true (end_of turn (skip ends))).instructions
            ∙ ap (λ n. n + 1) same_exit) (next b)

        rest : Coded
        rest = then_code (over (λ t. instr.JumpFalse t) (one (instr.Jump start))) (found_code false (exit + 1))

        e2 : Ends
        e2 = end_of test (skip ends)

        in_rest : Has tables code e2 (rest e2)
        in_rest = second_of tables code test rest (skip ends) in_turn

        go : (left : List Value)
            → Comes tables code (here start locals (looping left s)) (and_then (for_all of_each left) k)
        go [] =
            acted tables code _ (instr.Next exit) _ has.instructions.0 (goes_on tables code _ _
            (subst (λ p. Comes tables code (here p locals s) (k (flat.Boolean true))) same_exit
            (acted tables code _ (instr.Const (end_of turn (skip ends)).constants) _ at_none.instructions.0
            (found tables code _ _ _ _ at_none.constants.0 (goes_on tables code _ _
            (subst (λ p. Comes tables code (here (p + 1) locals (push (flat.Boolean true) s)) (k (flat.Boolean true)))
            (sym same_exit)
            (done (flat.Boolean true))))))))
        go (v ∷ vs) =
            alike tables code _ _ _ (and_then_and_then (of_each v) _ k)
            (acted tables code _ (instr.Next exit) _ has.instructions.0 (goes_on tables code _ _
            (tests v vs (skip ends) (first_of tables code test rest (skip ends) in_turn) _
            (λ t. acted tables code _ (instr.JumpFalse (e2.place + 1 + 1)) _ in_rest.instructions.0
            (chosen tables code (truth t) _ _ (for_all of_each vs) (gives (flat.Boolean false)) k
            (goes_on tables code _ _ (acted tables code _ (instr.Jump start) _ in_rest.instructions.1.0
            (goes_on tables code _ _ (go vs))))
            (goes_on tables code _ _ (leaves false (exit + 1) (skip (skip e2))
            (second_of tables code (over (λ t. instr.JumpFalse t) (one (instr.Jump start)))
            (found_code false (exit + 1)) e2 in_rest)
            locals vs s _ (done (flat.Boolean false)))))))))
