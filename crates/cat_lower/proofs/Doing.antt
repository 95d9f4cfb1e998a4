-- Code that pushes a value does what an expression means: wherever the machine goes on with the value, it comes to the
-- meaning and then that.
use Rattle.std.proofs.Common.{◌≡◌, ℕ, ◌+◌, List, length, Some, sym, ap, subst, slice_get}
use Rattle.cat_pos.specs.declared.pos.Pos.{Pos}
use Rattle.cat_date.specs.declared.rounding.Rounding.{Rounding}
use Rattle.cat_value.specs.declared.ty.Ty.{Ty}
use Rattle.cat_value.specs.declared.value.Value.{Value}
use Rattle.cat_scope.specs.declared.operators.UnaryOp.{UnaryOp}
use Rattle.cat_scope.specs.declared.operators.BinaryOp.{BinaryOp}
use Rattle.cat_scope.specs.Replies.{Reply, known, evaluated}
use Rattle.cat_scope.specs.Runs.{plain, gives, and_then, giving, choose}
use Rattle.cat_scope.specs.Projections.{truth}
use Rattle.cat_scope.specs.Operators.{convert, operate}
use Rattle.cat_scope.specs.Composed.{Meaning, part}
use Rattle.cat_scope.specs.Calls.{Items}
use Rattle.cat_scope.proofs.Exported.{and_then_and_then}
use Rattle.cat_code.specs.declared.instr.Instr.{Instr}
use Rattle.cat_code.specs.declared.instr.Instr.TheVariants as instr
use Rattle.cat_code.specs.declared.code.Tables.{Tables}
use Rattle.cat_code.specs.OperationNumbers.{number_before, number_between, rounding_number}
use Rattle.cat_code.specs.States.{State, push}
use Rattle.cat_code.specs.Runs.{Whole}
use Rattle.cat_code.proofs.OperationLaws.{operation-number_before, operation-number_between, roundings-rounding_number}
use Rattle.cat_lower.specs.Laying.{Ends, Coded, one, then_code, skip, end_of, over, branch}
use Rattle.cat_lower.specs.Pieces.{constant, operator}
use Rattle.cat_lower.specs.Stands.{Has}
use Rattle.cat_lower.proofs.Places.{first_of, second_of, rest_of, past_append}
use Rattle.cat_lower.proofs.Comes.{Comes, acted, goes_on, pushed, found, chosen, slot_read, alike}

-- items that are done have their values in their slots
pub record Agree (slots items : Items) : Type 0 where
  pub by : (n : ℕ) (v : Value) → slice_get items n ≡ Some (Some v) → slice_get slots n ≡ Some (Some v)

-- a state at a place, with these local names
abbrev pub here : ℕ → List Value → State → State
here p locals s = record s { place = p; locals = locals }

module _ (tables : Tables) (code : List Instr) (items : Items) where
  -- code for an expression under so many local names
  abbrev pub Does : Meaning → ℕ → Coded → Type 0
  Does meaning depth a =
      (ends : Ends) → Has tables code ends (a ends) → (locals : List Value) → length locals ≡ depth
      → (s : State) → Agree s.slots items → (k : Value → Whole)
      → ((v : Value) → Comes tables code (here (end_of a ends).place locals (push v s)) (k v))
      → Comes tables code (here ends.place locals s) (and_then (meaning locals) k)

  -- what follows two parts follows the second
  pub behind : {A : Type 0} (a b : Coded) (ends : Ends) (locals : List Value) (s : A → State) (k : A → Whole)
      → ((v : A) → Comes tables code (here (end_of (then_code a b) ends).place locals (s v)) (k v))
      → ((v : A) → Comes tables code (here (end_of b (end_of a ends)).place locals (s v)) (k v))
  behind a b ends locals s k next v =
      subst (λ p. Comes tables code (here p locals (s v)) (k v))
      (past_append ends.place (a ends).instructions (b (end_of a ends)).instructions) (next v)

  pub does_constant : (t : Ty) (v : Value) (depth : ℕ) → Does (λ locals. gives v) depth (constant t v)
  does_constant t v depth ends has locals deep s agree k next =
      acted tables code _ (instr.Const ends.constants) (k v) has.instructions.0
      (found tables code _ _ _ (k v) has.constants.0 (goes_on tables code _ (k v) (next v)))

  pub does_local : (n : ℕ) (depth : ℕ) → Does (λ locals. plain (known (slice_get locals n))) depth (one (instr.Local n))
  does_local n depth ends has locals deep s agree k next =
      acted tables code _ (instr.Local n) _ has.instructions.0
      (pushed tables code (known (slice_get locals n)) (here ends.place locals s) k next)

  pub does_item : (n : ℕ) (depth : ℕ)
      → Does (λ locals. plain (evaluated (slice_get items n))) depth (one (instr.Slot n))
  does_item n depth ends has locals deep s agree k next =
      acted tables code _ (instr.Slot n) _ has.instructions.0
      (slot_read tables code (slice_get items n) (slice_get s.slots n) _ k (agree.by n)
      (λ v. goes_on tables code _ _ (next v)))

  -- a value, and an instruction that pops it and pushes a reply
  pub does_reply : (a : Meaning) (depth : ℕ) (ca : Coded) (i : Instr) (reply : Value → Reply)
      → ((v : Value) (p : ℕ) (locals : List Value) (s : State) (k : Value → Whole)
      → ((w : Value) → Comes tables code (here (p + 1) locals (push w s)) (k w))
      → slice_get code p ≡ Some i → Comes tables code (here p locals (push v s)) (and_then (plain (reply v)) k))
      → Does a depth ca → Does (λ locals. giving (a locals) reply) depth (then_code ca (one i))
  does_reply a depth ca i reply does da ends has locals deep s agree k next =
      let done = behind ca (one i) ends locals (λ w. push w s) k next in
      alike tables code _ _ _ (and_then_and_then (a locals) _ k)
      (da ends (first_of tables code ca (one i) ends has) locals deep s agree _
      (λ v. does v (end_of ca ends).place locals s k done (second_of tables code ca (one i) ends has).instructions.0))

  pub does_field : (a : Meaning) (depth : ℕ) (ca : Coded) (n : ℕ) → Does a depth ca
      → Does (λ locals. giving (a locals) (part n)) depth (then_code ca (one (instr.Field n)))
  does_field a depth ca n da =
      does_reply a depth ca (instr.Field n) (part n)
      (λ v p locals s k next is. acted tables code _ (instr.Field n) _ is
      (pushed tables code (part n v) (here p locals s) k next)) da

  -- an operator before an operand
  pub does_unary : (a : Meaning) (depth : ℕ) (ca : Coded) (o : UnaryOp) (p : Pos) → Does a depth ca
      → Does (λ locals. giving (a locals) (convert o p)) depth (then_code ca (operator (number_before o) 0 p))
  does_unary a depth ca o p da ends has locals deep s agree k next =
      let op : Coded = operator (number_before o) 0 p in
      let last = second_of tables code ca op ends has in
      let done = behind ca op ends locals (λ w. push w s) k next in
      alike tables code _ _ _ (and_then_and_then (a locals) _ k)
      (da ends (first_of tables code ca op ends has) locals deep s agree _
      (λ v. acted tables code _ (instr.Op (number_before o) 0 (end_of ca ends).positions) _ last.instructions.0
      (found tables code _ _ _ _ (operation-number_before o)
      (found tables code _ _ _ _ last.positions.0
      (pushed tables code (convert o p v) (here (end_of ca ends).place locals s) k done)))))

  -- an operator between two operands
  pub does_binary : (a b : Meaning) (depth : ℕ) (ca cb : Coded) (o : BinaryOp) (r : Rounding) (p : Pos)
      → Does a depth ca → Does b depth cb
      → Does (λ locals. and_then (a locals) (λ v. giving (b locals) (operate r o p v))) depth
      (then_code ca (then_code cb (operator (number_between o) (rounding_number r) p)))
  does_binary a b depth ca cb o r p da db ends has locals deep s agree k next =
      let op : Coded = operator (number_between o) (rounding_number r) p in
      let rest : Coded = then_code cb op in
      let inner = second_of tables code ca rest ends has in
      let last = second_of tables code cb op (end_of ca ends) inner in
      let done =
      behind cb op (end_of ca ends) locals (λ w. push w s) k (behind ca rest ends locals (λ w. push w s) k next) in
      alike tables code _ _ _ (and_then_and_then (a locals) _ k)
      (da ends (first_of tables code ca rest ends has) locals deep s agree _
      (λ v. alike tables code _ _ _ (and_then_and_then (b locals) _ k)
      (db (end_of ca ends) (first_of tables code cb op (end_of ca ends) inner) locals deep (push v s) agree _
      (λ w. acted tables code _
      (instr.Op (number_between o) (rounding_number r) (end_of cb (end_of ca ends)).positions) _
      last.instructions.0
      (found tables code _ _ _ _ (operation-number_between o)
      (found tables code _ _ _ _ (roundings-rounding_number r)
      (found tables code _ _ _ _ last.positions.0
      (pushed tables code (operate r o p v w) (here (end_of cb (end_of ca ends)).place locals s) k done))))))))

  -- two sides behind a jump
  pub does_branch : (a b : Meaning) (depth : ℕ) (ca cb : Coded) → Does a depth ca → Does b depth cb
      → (v : Value) (ends : Ends) → Has tables code ends (branch (λ t. instr.JumpFalse t) ca cb ends)
      → (locals : List Value) → length locals ≡ depth → (s : State) → Agree s.slots items → (k : Value → Whole)
      → ((w : Value) → Comes tables code
      (here (end_of (branch (λ t. instr.JumpFalse t) ca cb) ends).place locals (push w s)) (k w))
      → Comes tables code (here ends.place locals (push v s)) (and_then (choose v (a locals) (b locals)) k)
  does_branch a b depth ca cb da db v ends has locals deep s agree k next =
      let e1 = skip ends in
      let e2 = skip (end_of ca e1) in
      let jump = instr.Jump (end_of cb e2).place in
      let tail : Coded = over (λ t. instr.Jump t) cb in
      let rest = rest_of tables code (instr.JumpFalse e2.place) (then_code ca tail) ends has in
      let after_a = second_of tables code ca tail e1 rest in
      let done = behind ca tail e1 locals (λ w. push w s) k next in
      acted tables code _ (instr.JumpFalse e2.place) _ has.instructions.0
      (chosen tables code (truth v) _ _ (a locals) (b locals) k
      (goes_on tables code _ _ (da e1 (first_of tables code ca tail e1 rest) locals deep s agree k
      (λ w. acted tables code _ jump _ after_a.instructions.0 (goes_on tables code _ _ (done w)))))
      (goes_on tables code _ _ (db e2 (rest_of tables code jump cb (end_of ca e1) after_a) locals deep s agree k done)))

  -- a truth value, and one of two sides
  pub does_choice : (c a b : Meaning) (depth : ℕ) (ct ca cb : Coded) → Does c depth ct → Does a depth ca
      → Does b depth cb
      → Does (λ locals. and_then (c locals) (λ v. choose v (a locals) (b locals))) depth
      (then_code ct (branch (λ t. instr.JumpFalse t) ca cb))
  does_choice c a b depth ct ca cb dc da db ends has locals deep s agree k next =
      let sides : Coded = branch (λ t. instr.JumpFalse t) ca cb in
      alike tables code _ _ _ (and_then_and_then (c locals) _ k)
      (dc ends (first_of tables code ct sides ends has) locals deep s agree _
      (λ v. does_branch a b depth ca cb da db v (end_of ct ends)
      (second_of tables code ct sides ends has) locals deep s agree k
      (behind ct sides ends locals (λ w. push w s) k next)))

  -- the same meaning and the same code
  pub does_alike : (m n : Meaning) (depth : ℕ) (a b : Coded) → a ≡ b → ((locals : List Value) → m locals ≡ n locals)
      → Does n depth b → Does m depth a
  does_alike m n depth a b e same d =
      subst (λ x. Does m depth x) (sym e)
      (λ ends has locals deep s agree k next. alike tables code _ _ _ (ap (λ r. and_then r k) (same locals))
      (d ends has locals deep s agree k next))
