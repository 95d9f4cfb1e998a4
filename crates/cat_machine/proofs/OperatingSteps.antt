-- What operators and assertions do, to a machine and to the state that it stands for.
use Rattle.std.proofs.Common.{◌≡◌, ◌≢◌, ℕ, ℤ, zero, suc, ◌+◌, ◌<◌, ◌≤◌, Bool, true, false, true≢false, List, [], ◌∷◌}
use Rattle.std.proofs.Common.{◌++◌, length, drop}
use Rattle.std.proofs.Common.{Option, Some, None, IsSome, Result, Ok, Err, IfOk, IsOk, OnOk, slice_get, refl, sym, ap}
use Rattle.std.proofs.Common.{◌∙◌, subst, arith, rules}
use Rattle.std.specs.declared.alloc.AllocError.{AllocError}
use Rattle.cat_pos.specs.declared.pos.Pos.{Pos}
use Rattle.cat_num.specs.Frac.{Fraction}
use Rattle.cat_date.specs.Span.{SpanOf}
use Rattle.cat_date.specs.declared.rounding.Rounding.{Rounding}
use Rattle.cat_value.specs.declared.outcome.FaultKind.TheVariants.{AssertionFailed}
use Rattle.cat_value.specs.declared.value.Value.{Value}
use Rattle.cat_value.specs.declared.value.Value.TheVariants as flat
use Rattle.cat_value.specs.declared.value.Value.TheViews as value
use Rattle.cat_scope.specs.declared.operators.BinaryOp.{BinaryOp}
use Rattle.cat_scope.specs.declared.operators.UnaryOp.{UnaryOp}
use Rattle.cat_scope.specs.declared.stop.Stop.{Stop}
use Rattle.cat_scope.specs.declared.stop.Stop.TheVariants.{Fault, Stuck}
use Rattle.cat_scope.specs.Operators.{convert, operate}
use Rattle.cat_scope.specs.Projections.{truth}
use Rattle.cat_scope.specs.Replies.{Reply, known}
use Rattle.cat_code.specs.declared.code.Tables.{Tables}
use Rattle.cat_code.specs.declared.instr.Instr.TheVariants as instr
use Rattle.cat_code.specs.Machine.{act, operates}
use Rattle.cat_code.specs.Moves.{by_truth, pop, pushes, with_part}
use Rattle.cat_code.specs.Operations.{Before, Between, Operation, operation, operations, roundings}
use Rattle.cat_code.specs.States.{Goes, Next, Over, State, on, stuck}
use Rattle.cat_pool.specs.declared.node.PoolNode.{PoolNode}
use Rattle.cat_pool.specs.declared.node.PoolNode.TheVariants as node
use Rattle.cat_pool.specs.Loading.{Extends}
use Rattle.cat_pool.specs.Nodes.{Standing, at, lone, value_in, values}
use Rattle.cat_pool.proofs.Exported.{behind_of, extends_more, length-values, slice_get-at}
use Rattle.cat_scalar.specs.declared.scalar.NoResult.{NoResult}
use Rattle.cat_scalar.specs.declared.scalar.Scalar.{Scalar}
use Rattle.cat_scalar.specs.declared.scalar.Scalar.TheVariants as scalar
use Rattle.cat_scalar.specs.Scalars.{as_reply, scalar_of, scalar_reply}
use Rattle.cat_machine.specs.declared.machine.Machine.{Machine}
use Rattle.cat_machine.specs.declared.machine.Stepped.{Stepped}
use Rattle.cat_machine.specs.declared.machine.Stepped.TheVariants as stepped
use Rattle.cat_machine.specs.States.{decided, state_at}
use Rattle.cat_machine.specs.Steps.{OneMore, Tells, behind}
use Rattle.cat_machine.specs.inside.Machines.{IsMachine, IsTruth}
use Rattle.cat_machine.specs.inside.Putting.{HasTruths, Pops, Puts, scalar_at, truth_in, with_truth}
use Rattle.cat_machine.proofs.Growth.{truth_more}
use Rattle.cat_machine.proofs.Holding.{get_below, without_operand}
use Rattle.cat_machine.proofs.NodeKinds.{at_is, truth_is}
use Rattle.cat_machine.proofs.Popping.{popped_so, quietly}
use Rattle.cat_machine.proofs.Unstuck.{entry_needs}
use Rattle.cat_machine.proofs.Pushing.{put_stands, puts_machine, puts_told, stands_below}

-- ---- what is in a node that has no parts

of_Boolean : (b : Bool) → scalar_of (flat.Boolean b) ≡ scalar.Boolean b
of_Boolean b = search (rules, value.the_lemmas)

of_Integer : (n : ℤ) → scalar_of (flat.Integer n) ≡ scalar.Integer n
of_Integer n = search (rules, value.the_lemmas)

of_Decimal : (f : Fraction) → scalar_of (flat.Decimal f) ≡ scalar.Decimal f
of_Decimal f = search (rules, value.the_lemmas)

of_Money : (cents : ℤ) → scalar_of (flat.Money cents) ≡ scalar.Money cents
of_Money cents = search (rules, value.the_lemmas)

of_Date : (day : ℤ) → scalar_of (flat.Date day) ≡ scalar.Date day
of_Date day = search (rules, value.the_lemmas)

of_Duration : (span : SpanOf) → scalar_of (flat.Duration span) ≡ scalar.Duration span
of_Duration span = search (rules, value.the_lemmas)

of_List : (vs : List Value) → scalar_of (value.List vs) ≡ scalar.Compound
of_List vs = search (rules, value.the_lemmas)

of_Structure : (vs : List Value) → scalar_of (value.Structure vs) ≡ scalar.Compound
of_Structure vs = search (rules, value.the_lemmas)

of_None : (k : ℕ) → scalar_of (value.Case k None) ≡ scalar.Compound
of_None k = search (rules, value.the_lemmas)

of_Some : (k : ℕ) (v : Value) → scalar_of (value.Case k (Some v)) ≡ scalar.Compound
of_Some k v = search (rules, value.the_lemmas)

of_Case : (nodes : List Standing) (k : ℕ) (content : Option ℕ)
    → scalar_of (value_in nodes (node.Case k content)) ≡ scalar.Compound
of_Case nodes k None = of_None k
of_Case nodes k (Some r) = of_Some k (at (values nodes) r)

-- the scalar in the value of a node
pub scalar_is : (nodes : List Standing) (n : PoolNode) → scalar_of (value_in nodes n) ≡ scalar_at n
scalar_is nodes (node.Boolean b) = of_Boolean b
scalar_is nodes (node.Integer n) = of_Integer n
scalar_is nodes (node.Decimal f) = of_Decimal f
scalar_is nodes (node.Money cents) = of_Money cents
scalar_is nodes (node.Date day) = of_Date day
scalar_is nodes (node.Duration span) = of_Duration span
scalar_is nodes (node.List refs) = of_List _
scalar_is nodes (node.Structure refs) = of_Structure _
scalar_is nodes (node.Case k content) = of_Case nodes k content

-- ---- the truth values

truth_stays : (nodes pool : List Standing) (b : Bool) (o : Option ℕ) → Extends nodes pool → IsTruth nodes b o
    → IsTruth pool b o
truth_stays nodes pool b o stay is =
    subst (λ (l : List Standing). IsTruth l b o) (sym (behind_of nodes pool stay))
    (truth_more nodes (drop (length nodes) pool) b o is)

of_two : (m : Machine) (b : Bool) → HasTruths m → IsTruth m.pool b (truth_in b m.truths)
of_two m true has = has.yes
of_two m false has = has.no

pub truth_there : (m : Machine) (b : Bool) (r : ℕ) → HasTruths m → truth_in b m.truths ≡ Some r
    → Puts m m (flat.Boolean b) r
truth_there m b r has is =
    let here : IsTruth m.pool b (Some r) = subst (λ (o : Option ℕ). IsTruth m.pool b o) is (of_two m b has) in
    record {
      same = refl;
      stands = slice_get-at (values m.pool) r (subst (λ n. r < n) (sym (length-values m.pool)) here.0)
          ∙ ap (λ (v : Value). Some v) here.1;
      truths = has;
    }

pub truth_put : (m : Machine) (b : Bool) (r : ℕ) (pool : List Standing) → HasTruths m
    → pool ≡ m.pool ++ lone (flat.Boolean b) ∷ []
    → r ≡ length m.pool → Puts m (record m { pool = pool; truths = with_truth b r m.truths }) (flat.Boolean b) r
truth_put m b r pool has is place =
    let stands : slice_get (values pool) r ≡ Some (flat.Boolean b) =
    put_stands m.pool pool (lone (flat.Boolean b)) r is place in
    let stay : Extends m.pool pool
    =
    subst (λ (nodes : List Standing). Extends m.pool nodes) (sym is) (extends_more m.pool (lone (flat.Boolean b) ∷ []))
    in
    let here : IsTruth pool b (Some r) =
    (stands_below pool r (flat.Boolean b) stands, at_is (values pool) r (flat.Boolean b) stands) in
    record {
      same = refl;
      stands = stands;
      truths =
          by b here (truth_stays m.pool pool true m.truths.yes stay has.yes)
          (truth_stays m.pool pool false m.truths.no stay has.no);
    }
  where
    by : (b : Bool) → IsTruth pool b (Some r) → IsTruth pool true m.truths.yes → IsTruth pool false m.truths.no
        → HasTruths (record m { pool = pool; truths = with_truth b r m.truths })
    by true here first second = record { yes = here; no = second }
    by false here first second = record { yes = first; no = here }

-- ---- a node that is put

pub scalar_put : (m : Machine) (v : Value) (r : ℕ) (pool : List Standing) → HasTruths m → pool ≡ m.pool ++ lone v ∷ []
    → r ≡ length m.pool → Puts m (record m { pool = pool }) v r
scalar_put m v r pool has is place =
    let stay : Extends m.pool pool
    = subst (λ (nodes : List Standing). Extends m.pool nodes) (sym is) (extends_more m.pool (lone v ∷ [])) in
    record {
      same = refl;
      stands = put_stands m.pool pool (lone v) r is place;
      truths = record {
        yes = truth_stays m.pool pool true m.truths.yes stay has.yes;
        no = truth_stays m.pool pool false m.truths.no stay has.no;
      };
    }

pub put_result : (m : Machine) (v : Value) (pool : List Standing) (res : Result ℕ AllocError) → HasTruths m
    → OnOk res (pool ≡ m.pool ++ lone v ∷ []) → IfOk res (λ r. r ≡ length m.pool)
    → IfOk res (λ r. Puts m (record m { pool = pool }) v r)
put_result m v pool (Ok r) has is place = scalar_put m v r pool has is place
put_result m v pool (Err e) has is place = tt

-- a scalar that is pushed is no value with parts
pub plain_of : (s : Scalar) (state : State) → pushes (scalar_reply s) state ≢ stuck → IsOk (scalar_reply s)
plain_of scalar.Compound state going = absurd (going refl)
plain_of _ state going = refl

module _ (tables : Tables) (place r : ℕ) (old new : Machine) (is : IsMachine tables old)
    (more : OneMore old.pool new.pool)
    (ops : List ℕ) (on_top : ops ≡ r ∷ new.operands) where
  pub reply_told : (reply : Reply) → IsOk reply → IfOk reply (λ v. Puts old new v r)
      → behind (decided tables old.log) (pushes reply (state_at tables place old))
      ≡ Goes (decided tables new.log) (state_at tables (place + 1) (record new { operands = ops }))
  reply_told (Ok v) ok puts =
      puts_told tables old new v r is puts more ops on_top place (pushes (Ok v) (state_at tables place old)) refl
  reply_told (Err stop) ok puts = absurd (true≢false (sym ok))

  pub reply_machine : (reply : Reply) → IsOk reply → IfOk reply (λ v. Puts old new v r)
      → IsMachine tables (record new { operands = ops })
  reply_machine (Ok v) ok puts = puts_machine tables old new v r is puts more ops on_top
  reply_machine (Err stop) ok puts = absurd (true≢false (sym ok))

-- ---- operands

module _ (tables : Tables) (place : ℕ) (old new : Machine) (r : ℕ) (pops : Pops old new r) where
  pops_top : (go : Value → State → Next)
      → pop (state_at tables place old) go ≡ go (at (values old.pool) r) (state_at tables place new)
  pops_top go =
      ap (λ (rs : List ℕ). pop (state_at tables place (record old { operands = rs })) go) pops.popped
      ∙ ap (λ (m : Machine). go (at (values old.pool) r) (state_at tables place m)) (sym pops.same)

  pub machine_popped : IsMachine tables old → IsMachine tables new
  machine_popped is =
      subst (λ (m : Machine). IsMachine tables m) (sym pops.same)
      (without_operand tables old is r new.operands pops.popped)

  -- a step from behind it is one from in front of it
  pub tells_before : (res : Result Stepped AllocError) (last : Machine) (next behind_it : Next) → next ≡ behind_it
      → Tells tables res behind_it new last → Tells tables res next old last
  tells_before (Ok (stepped.To p)) last next behind_it same told =
      ap (behind (decided tables old.log)) same
      ∙ ap (λ (m : Machine). behind (decided tables m.log) behind_it) (sym pops.same)
      ∙ told
  tells_before (Ok (stepped.Over end)) last next behind_it same told =
      (same ∙ told.0, told.1 ∙ ap (λ (m : Machine). m.log) pops.same, told.2)
  tells_before (Err e) last next behind_it same told = tt

  pub pool_before : (last : List Standing) → OneMore new.pool last → OneMore old.pool last
  pool_before last more = subst (λ (m : Machine). OneMore m.pool last) pops.same more

-- the scalar of what a node stands for
pub stands_scalar : (old new : Machine) (r top : ℕ) (n : PoolNode) → Pops old new r
    → slice_get (values new.pool) top ≡ Some (value_in new.pool n) → scalar_of (at (values old.pool) top) ≡ scalar_at n
stands_scalar old new r top n pops stands =
    ap (λ (m : Machine). scalar_of (at (values m.pool) top)) (sym pops.same)
    ∙ ap scalar_of (at_is (values new.pool) top (value_in new.pool n) stands)
    ∙ scalar_is new.pool n

-- an operator before one operand
module _ (tables : Tables) (place : ℕ) (rounding : Rounding) (p : Pos) (old mid : Machine) (r : ℕ) (n : PoolNode)
    (first : Pops old mid r) (stands : slice_get (values mid.pool) r ≡ Some (value_in mid.pool n))
    (op : UnaryOp) (made : Result Scalar NoResult) (gives : (p : Pos) (v : Value) → scalar_of v ≡ scalar_at n
    → as_reply p made ≡ convert op p v) where
  pub before_leads : operates (Before op) rounding p (state_at tables place old)
      ≡ pushes (as_reply p made) (state_at tables place mid)
  before_leads =
      pops_top tables place old mid r first (λ v t. pushes (convert op p v) t)
      ∙ ap (λ (reply : Reply). pushes reply (state_at tables place mid))
      (sym (gives p (at (values old.pool) r) (stands_scalar old mid r r n first stands)))

  pub before_going : operates (Before op) rounding p (state_at tables place old) ≢ stuck
      → pushes (as_reply p made) (state_at tables place mid) ≢ stuck
  before_going going e = going (before_leads ∙ e)

-- an operator between two operands
module _ (tables : Tables) (place : ℕ) (rounding : Rounding) (p : Pos) (old mid last : Machine) (right left : ℕ)
    (first : Pops old mid right) (second : Pops mid last left) (op : BinaryOp) (n o : PoolNode)
    (stands : slice_get (values last.pool) left ≡ Some (value_in last.pool n))
    (other : slice_get (values last.pool) right ≡ Some (value_in last.pool o)) (made : Result Scalar NoResult)
    (gives : (p : Pos) (v w : Value) → scalar_of v ≡ scalar_at n → scalar_of w ≡ scalar_at o
    → as_reply p made ≡ operate rounding op p v w) where
  pub between_leads : operates (Between op) rounding p (state_at tables place old)
      ≡ pushes (as_reply p made) (state_at tables place last)
  between_leads =
      pops_top tables place old mid right first (λ w s. pop s (λ v t. pushes (operate rounding op p v w) t))
      ∙ pops_top tables place mid last left second
      (λ v t. pushes (operate rounding op p v (at (values old.pool) right)) t)
      ∙ ap (λ (reply : Reply). pushes reply (state_at tables place last))
      (sym (gives p (at (values mid.pool) left) (at (values old.pool) right)
      (stands_scalar mid last left left n second stands)
      (ap (λ (m : Machine). scalar_of (at (values m.pool) right)) (sym first.same)
      ∙ stands_scalar mid last left right o second other)))

  pub between_going : operates (Between op) rounding p (state_at tables place old) ≢ stuck
      → pushes (as_reply p made) (state_at tables place last) ≢ stuck
  between_going going e = going (between_leads ∙ e)

-- some operand is there
pub some_operand : (tables : Tables) (place : ℕ) (m : Machine) (go : Value → State → Next)
    → pop (state_at tables place m) go ≢ stuck → m.operands ≢ []
some_operand tables place m go going none =
    going (ap (λ (rs : List ℕ). pop (state_at tables place (record m { operands = rs })) go) none)

pub before_some : (tables : Tables) (place : ℕ) (m : Machine) (rounding : Rounding) (p : Pos) (op : UnaryOp)
    → operates (Before op) rounding p (state_at tables place m) ≢ stuck → m.operands ≢ []
before_some tables place m rounding p op going = some_operand tables place m (λ v s. pushes (convert op p v) s) going

-- the entries of the tables that an operator names
module _ (tables : Tables) (place n r p : ℕ) (m : Machine) where
  pub op_needs : act tables (instr.Op n r p) (state_at tables place m) ≢ stuck
      → IsSome (operation n) × IsSome (slice_get roundings r) × (p < length tables.positions)
  op_needs going =
      by (operation n) (slice_get roundings r) (slice_get tables.positions p) refl going
    where
      by : (o : Option Operation) (q : Option Rounding) (at_p : Option Pos) → slice_get tables.positions p ≡ at_p
          → with_part (known o)
          (λ o. with_part (known q) (λ q. with_part (known at_p) (λ at. operates o q at (state_at tables place m)))) ≢
          stuck
          → IsSome o × IsSome q × (p < length tables.positions)
      by None q at_p is going = absurd (going refl)
      by (Some o) None at_p is going = absurd (going refl)
      by (Some o) (Some q) None is going = absurd (going refl)
      by (Some o) (Some q) (Some at_p) is going = (refl, refl, get_below tables.positions p at_p is)

  pub op_leads : (o : Operation) (q : Rounding) (at_p : Pos) → operation n ≡ Some o → slice_get roundings r ≡ Some q
      → slice_get tables.positions p ≡ Some at_p
      → act tables (instr.Op n r p) (state_at tables place m) ≡ operates o q at_p (state_at tables place m)
  op_leads o q at_p is_o is_q is_p =
      ap (λ (x : Option Operation). with_part (known x) (λ o. with_part (known (slice_get roundings r))
      (λ q. with_part (known (slice_get tables.positions p)) (λ at. operates o q at (state_at tables place m))))) is_o
      ∙ ap (λ (x : Option Rounding). with_part (known x)
      (λ q. with_part (known (slice_get tables.positions p)) (λ at. operates o q at (state_at tables place m)))) is_q
      ∙ ap (λ (x : Option Pos). with_part (known x) (λ at. operates o q at (state_at tables place m))) is_p

-- ---- assertions

pub assert_leads : (tables : Tables) (place p r : ℕ) (rest : List ℕ) (m : Machine) (at_p : Pos) (b : Bool)
    → slice_get tables.positions p ≡ Some at_p → m.operands ≡ r ∷ rest
    → slice_get (values m.pool) r ≡ Some (flat.Boolean b)
    → act tables (instr.Assert p) (state_at tables place m)
    ≡ by_truth b (on (state_at tables place (record m { operands = rest }))) (Over (Err (Fault AssertionFailed at_p)))
assert_leads tables place p r rest m at_p b has top stands =
    ap (λ (o : Option Pos). with_part (known o) (λ at. pop (state_at tables place m) (λ v s. with_part (truth v)
    (λ t. by_truth t (on s) (Over (Err (Fault AssertionFailed at))))))) has
    ∙ popped_so tables place r rest m
    (λ v s. with_part (truth v) (λ t. by_truth t (on s) (Over (Err (Fault AssertionFailed at_p))))) top
    ∙ ap (λ (v : Value). with_part (truth v)
    (λ t. by_truth t (on (state_at tables place (record m { operands = rest })))
    (Over (Err (Fault AssertionFailed at_p))))) (at_is (values m.pool) r (flat.Boolean b) stands)
    ∙ ap (λ (x : Result Bool Stop). with_part x
    (λ t. by_truth t (on (state_at tables place (record m { operands = rest })))
    (Over (Err (Fault AssertionFailed at_p))))) (truth_is b)

pub assert_needs : (tables : Tables) (place p : ℕ) (m : Machine)
    → act tables (instr.Assert p) (state_at tables place m) ≢ stuck
    → p < length tables.positions
assert_needs tables place p m going =
    entry_needs tables.positions p (λ at. pop (state_at tables place m) (λ v s. with_part (truth v)
    (λ b. by_truth b (on s) (Over (Err (Fault AssertionFailed at)))))) going

pub assert_kind : (tables : Tables) (place p r : ℕ) (rest : List ℕ) (m : Machine) (at_p : Pos) (v : Value)
    → slice_get tables.positions p ≡ Some at_p → m.operands ≡ r ∷ rest → slice_get (values m.pool) r ≡ Some v
    → truth v ≡ Err Stuck → act tables (instr.Assert p) (state_at tables place m) ≢ stuck → ⊥
assert_kind tables place p r rest m at_p v has top stands other going =
    going (ap (λ (o : Option Pos). with_part (known o) (λ at. pop (state_at tables place m) (λ w s. with_part (truth w)
    (λ t. by_truth t (on s) (Over (Err (Fault AssertionFailed at))))))) has
    ∙ popped_so tables place r rest m
    (λ w s. with_part (truth w) (λ t. by_truth t (on s) (Over (Err (Fault AssertionFailed at_p))))) top
    ∙ ap (λ (w : Value). with_part (truth w)
    (λ t. by_truth t (on (state_at tables place (record m { operands = rest })))
    (Over (Err (Fault AssertionFailed at_p))))) (at_is (values m.pool) r v stands)
    ∙ ap (λ (x : Result Bool Stop). with_part x
    (λ t. by_truth t (on (state_at tables place (record m { operands = rest })))
    (Over (Err (Fault AssertionFailed at_p))))) other)

module _ (tables : Tables) (place p r : ℕ) (rest : List ℕ) (m : Machine) (at_p : Pos) (b : Bool)
    (has : slice_get tables.positions p ≡ Some at_p) (top : m.operands ≡ r ∷ rest)
    (stands : slice_get (values m.pool) r ≡ Some (flat.Boolean b)) where
  pub assert_told : b ≡ true → behind (decided tables m.log) (act tables (instr.Assert p) (state_at tables place m))
      ≡ Goes (decided tables m.log) (state_at tables (place + 1) (record m { operands = rest }))
  assert_told is =
      quietly (decided tables m.log) (act tables (instr.Assert p) (state_at tables place m))
      (state_at tables (place + 1) (record m { operands = rest }))
      (assert_leads tables place p r rest m at_p b has top stands
      ∙ ap (λ (t : Bool). by_truth t (on (state_at tables place (record m { operands = rest })))
      (Over (Err (Fault AssertionFailed at_p)))) is)

  pub assert_over : b ≡ false
      → act tables (instr.Assert p) (state_at tables place m) ≡ Over (Err (Fault AssertionFailed at_p))
  assert_over is =
      assert_leads tables place p r rest m at_p b has top stands
      ∙ ap (λ (t : Bool). by_truth t (on (state_at tables place (record m { operands = rest })))
      (Over (Err (Fault AssertionFailed at_p)))) is

-- ---- the numbers of operators

some_within : {A : Type 0} (xs : List A) (k : ℕ) → IsSome (slice_get xs k) → k < length xs
some_within [] k some = absurd (true≢false (sym some))
some_within (x ∷ xs) zero some = omega arith
some_within (x ∷ xs) (suc k) some = let rest = some_within xs k some in omega (arith, rest)

pub operation_bound : (n : ℕ) → IsSome (operation n) → (1 ≤ n) × (n ≤ 45)
operation_bound zero some = absurd (true≢false (sym some))
operation_bound (suc n) some = let within : n < 45 =
    some_within operations n some in (omega arith, omega (arith, within))
