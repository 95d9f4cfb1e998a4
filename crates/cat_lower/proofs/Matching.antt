-- The code of a match does what the match means.
use Rattle.std.proofs.Common.{◌≡◌, ℕ, ◌+◌, Bool, true, false, List, [], ◌∷◌, ◌++◌, length, Option, Some, None}
use Rattle.std.proofs.Common.{Result, Ok, Err, refl, sym, ap, ◌∙◌, subst, slice_get, nat_eq, if◌then◌else◌}
use Rattle.cat_value.specs.declared.value.Value.{Value}
use Rattle.cat_value.specs.declared.value.Value.TheVariants as flat
use Rattle.cat_value.specs.declared.value.Value.TheOpen.{Value-F}
use Rattle.cat_value.specs.declared.value.Value.TheViews.{out-Value}
use Rattle.cat_scope.specs.declared.stop.Stop.{Stop}
use Rattle.cat_scope.specs.declared.stop.Stop.TheVariants.{Stuck}
use Rattle.cat_scope.specs.declared.expr.ArmPattern.TheVariants as pattern
use Rattle.cat_scope.specs.Replies.{known}
use Rattle.cat_scope.specs.Runs.{Run, plain, and_then}
use Rattle.cat_scope.specs.Projections.{case_of, case_in}
use Rattle.cat_scope.specs.Composed.{Meaning, arm_locals, arm_value}
use Rattle.cat_scope.specs.Calls.{Items}
use Rattle.cat_scope.proofs.Exported.{and_then_and_then}
use Rattle.cat_code.specs.declared.instr.Instr.{Instr}
use Rattle.cat_code.specs.declared.instr.Instr.TheVariants as instr
use Rattle.cat_code.specs.declared.code.Tables.{Tables}
use Rattle.cat_code.specs.States.{State, on, to, push}
use Rattle.cat_code.specs.Moves.{with_part, pushes, by_truth}
use Rattle.cat_code.specs.Runs.{Whole}
use Rattle.cat_lower.specs.Laying.{Ends, Coded, one, then_code, led, skip, end_of, over, branch}
use Rattle.cat_lower.specs.Pieces.{arm_body}
use Rattle.cat_lower.specs.Rows.{Standing, case_number, arm_code}
use Rattle.cat_lower.specs.Stands.{Has}
use Rattle.cat_lower.proofs.Places.{first_of, second_of, rest_of}
use Rattle.cat_lower.proofs.Comes.{Comes, Leads, acted, goes_on, is_stuck, stays_stuck, found, alike}
use Rattle.cat_lower.proofs.Stacks.{dropped, read_behind, length_append}
use Rattle.cat_lower.proofs.Doing.{Agree, here, Does, behind}
use Rattle.cat_lower.proofs.DoingLoops.{truth_of}

-- what is no case is stuck
no_case : (y : Value-F Value) (stop : Stop) → case_in y ≡ Err stop → stop ≡ Stuck
no_case (Value-F.Case m content) stop e = absurd (cc e)
no_case _ stop e = cc e

module _ (tables : Tables) (code : List Instr) (items : Items) where
  -- the last local name is taken off
  drops_one : (locals : List Value) (v : Value) (p : ℕ) (s : State) (r : Whole) → slice_get code p ≡ Some (instr.Drop 1)
      → Comes tables code (here (p + 1) locals s) r → Comes tables code (here p (locals ++ v ∷ []) s) r
  drops_one locals v p s r is next =
      acted tables code _ (instr.Drop 1) _ is (goes_on tables code _ _
      (subst (λ (ls : List Value). Comes tables code (here (p + 1) ls s) r)
      (sym (dropped locals (v ∷ []) 1 refl)) next))

  -- code for what is matched, which is the last local name
  abbrev pub DoesMatched : (List Value → Run Value) → ℕ → Value → Coded → Type 0
  DoesMatched meaning depth v a =
      (ends : Ends) → Has tables code ends (a ends) → (locals : List Value) → length locals ≡ depth
      → (s : State) → Agree s.slots items → (k : Value → Whole)
      → ((w : Value) → Comes tables code (here (end_of a ends).place locals (push w s)) (k w))
      → Comes tables code (here ends.place (locals ++ v ∷ []) s) (and_then (meaning locals) k)

  -- no arm is left: no run comes there
  pub no_arm : (depth : ℕ) (v : Value) (a : Coded) → DoesMatched (λ locals. plain (Err Stuck)) depth v a
  no_arm depth v a ends has locals deep s agree k next = stays_stuck tables code _ _ refl

  pub any_arm : (body : Meaning) (rest : List Value → Run Value) (depth : ℕ) (v : Value) (cb : Coded)
      → Does tables code items body depth cb
      → DoesMatched body depth v (led (instr.Drop 1) cb)
  any_arm body rest depth v cb db ends has locals deep s agree k next =
      drops_one locals v ends.place s _ has.instructions.0
      (db (skip ends) (rest_of tables code (instr.Drop 1) cb ends has) locals deep s agree k next)

  -- how many local names the body of an arm has
  abbrev pub inside : Bool → ℕ → ℕ
  inside true depth = depth + 1
  inside false depth = depth

  -- the body of an arm, which binds the content or not
  does_body : (bound : Bool) (body : Meaning) (depth : ℕ) (cb : Coded)
      → Does tables code items body (inside bound depth) cb
      → (v : Value) (m : ℕ) (content : Option Value) → case_of v ≡ Ok (m, content)
      → DoesMatched (λ locals. and_then (plain (arm_locals bound content locals)) body) depth v
      (arm_body depth bound cb)
  does_body false body depth cb db v m content is ends has locals deep s agree k next =
      drops_one locals v ends.place s _ has.instructions.0
      (db (skip ends) (rest_of tables code (instr.Drop 1) cb ends has) locals deep s agree k next)
  does_body true body depth cb db v m content is ends has locals deep s agree k next =
      acted tables code _ (instr.Local depth) _ has.instructions.0
      (found tables code _ _ _ _ (read_behind locals v [] depth (sym deep)) (goes_on tables code _ _
      (acted tables code _ instr.Content _ has.instructions.1.0
      (subst (λ (x : Result (ℕ × Option Value) Stop). Leads tables code
      (with_part x (λ met. pushes (known met.1) (here (ends.place + 1) (locals ++ v ∷ []) s)))
      (and_then (and_then (plain (arm_locals true content locals)) body) k)) (sym is) (by content)))))
    where
      last : Coded
      last = one (instr.Drop 1)

      e4 : Ends
      e4 = skip (skip (skip (skip ends)))

      in_body : Has tables code e4 (then_code cb last e4)
      in_body = rest_of tables code instr.Bind (then_code cb last) (skip (skip (skip ends)))
          (rest_of tables code (instr.Drop 1) (led instr.Bind (then_code cb last)) (skip (skip ends))
          (rest_of tables code instr.Content (led (instr.Drop 1) (led instr.Bind (then_code cb last))) (skip ends)
          (rest_of tables code (instr.Local depth)
          (led instr.Content (led (instr.Drop 1) (led instr.Bind (then_code cb last)))) ends has)))

      done : (w : Value) → Comes tables code (here ((end_of cb e4).place + 1) locals (push w s)) (k w)
      done = behind tables code items cb last e4 locals (λ w. push w s) k next

      by : (o : Option Value) → Leads tables code (pushes (known o) (here (ends.place + 1) (locals ++ v ∷ []) s))
          (and_then (and_then (plain (arm_locals true o locals)) body) k)
      by None = is_stuck tables code _ _ refl
      by (Some w) =
          goes_on tables code _ _
          (drops_one locals v (ends.place + 1 + 1) (push w s) _ has.instructions.1.1.0
          (acted tables code _ instr.Bind _ has.instructions.1.1.1.0 (goes_on tables code _ _
          (db e4 (first_of tables code cb last e4 in_body) (locals ++ w ∷ [])
          (length_append locals (w ∷ []) ∙ ap (λ n. n + 1) deep) s agree k
          (λ y. drops_one locals w (end_of cb e4).place (push y s) _
          (second_of tables code cb last e4 in_body).instructions.0 (done y))))))

  -- an arm for a case that stands at a number of the table, in front of others
  pub case_arm : (here' : Standing) (n c : ℕ) (bound : Bool) (body : Meaning) (rest : List Value → Run Value)
      (depth : ℕ) (cb cr : Coded)
      → slice_get tables.cases (case_number here' n c) ≡ Some (record { enumeration = n; case = c })
      → Does tables code items body (inside bound depth) cb
      → (v : Value) (m : ℕ) (content : Option Value) → case_of v ≡ Ok (m, content) → DoesMatched rest depth v cr
      → DoesMatched (λ locals. arm_value (pattern.Case c bound) body (rest locals) m content locals) depth v
      (arm_code here' n depth (pattern.Case c bound) cb cr)
  case_arm here' n c bound body rest depth cb cr is_case db v m content is dr ends has locals deep s agree k next =
      let ca : Coded = arm_body depth bound cb in
      let sides : Coded = branch (λ t. instr.JumpFalse t) ca cr in
      let e2 = skip (skip ends) in
      let e3 = skip e2 in
      let e5 = skip (end_of ca e3) in
      let jump = instr.Jump (end_of cr e5).place in
      let tail : Coded = over (λ t. instr.Jump t) cr in
      let in_sides = rest_of tables code (instr.IsCase (case_number here' n c)) sides (skip ends)
      (rest_of tables code (instr.Local depth) (led (instr.IsCase (case_number here' n c)) sides) ends has) in
      let in_all = rest_of tables code (instr.JumpFalse e5.place) (then_code ca tail) e2 in_sides in
      let after_a = second_of tables code ca tail e3 in_all in
      let done = behind tables code items ca tail e3 locals (λ w. push w s) k next in
      acted tables code _ (instr.Local depth) _ has.instructions.0
      (found tables code _ _ _ _ (read_behind locals v [] depth (sym deep)) (goes_on tables code _ _
      (acted tables code _ (instr.IsCase (case_number here' n c)) _ has.instructions.1.0
      (subst (λ (x : Result (ℕ × Option Value) Stop). Leads tables code
      (with_part x (λ met. with_part (known (slice_get tables.cases (case_number here' n c)))
      (λ place. on (push (flat.Boolean (nat_eq met.0 place.case)) (here (ends.place + 1) (locals ++ v ∷ []) s)))))
      (and_then (if nat_eq m c then and_then (plain (arm_locals bound content locals)) body else rest locals) k))
      (sym is)
      (found tables code _ _ _ _ is_case (goes_on tables code _ _
      (acted tables code _ (instr.JumpFalse e5.place) _ in_sides.instructions.0
      (subst (λ (x : Result Bool Stop). Leads tables code
      (with_part x (λ b. by_truth b (on (here e2.place (locals ++ v ∷ []) s))
      (to e5.place (here e2.place (locals ++ v ∷ []) s))))
      (and_then (if nat_eq m c then and_then (plain (arm_locals bound content locals)) body else rest locals) k))
      (sym (truth_of (nat_eq m c)))
      (sides_do (nat_eq m c)
      (does_body bound body depth cb db v m content is e3 (first_of tables code ca tail e3 in_all) locals deep s agree k
      (λ w. acted tables code _ jump _ after_a.instructions.0 (goes_on tables code _ _ (done w))))
      (dr e5 (rest_of tables code jump cr (end_of ca e3) after_a) locals deep s agree k done))))))))))
    where
      sides_do : (b : Bool) → Comes tables code (here (ends.place + 1 + 1 + 1) (locals ++ v ∷ []) s)
          (and_then (and_then (plain (arm_locals bound content locals)) body) k)
          → Comes tables code (here (skip (end_of (arm_body depth bound cb) (skip (skip (skip ends))))).place
          (locals ++ v ∷ []) s) (and_then (rest locals) k)
          → Leads tables code (by_truth b (on (here (ends.place + 1 + 1) (locals ++ v ∷ []) s))
          (to (skip (end_of (arm_body depth bound cb) (skip (skip (skip ends))))).place
          (here (ends.place + 1 + 1) (locals ++ v ∷ []) s)))
          (and_then (if b then and_then (plain (arm_locals bound content locals)) body else rest locals) k)
      sides_do true first second = goes_on tables code _ _ first
      sides_do false first second = goes_on tables code _ _ second

  -- a match, where its arms do what they mean
  pub does_match : (a : Meaning) (arms : ℕ → Option Value → List Value → Run Value) (depth : ℕ) (ca cr : Coded)
      → Does tables code items a depth ca
      → ((v : Value) (m : ℕ) (content : Option Value) → case_of v ≡ Ok (m, content)
      → DoesMatched (arms m content) depth v cr)
      → Does tables code items
      (λ locals. and_then (a locals) (λ v. and_then (plain (case_of v)) (λ c. arms c.0 c.1 locals))) depth
      (then_code ca (led instr.Bind cr))
  does_match a arms depth ca cr da dr ends has locals deep s agree k next =
      let tail : Coded = led instr.Bind cr in
      let e1 = end_of ca ends in
      let inner = second_of tables code ca tail ends has in
      let done = behind tables code items ca tail ends locals (λ w. push w s) k next in
      alike tables code _ _ _ (and_then_and_then (a locals) _ k)
      (da ends (first_of tables code ca tail ends has) locals deep s agree _
      (λ v. acted tables code _ instr.Bind _ inner.instructions.0 (goes_on tables code _ _
      (alike tables code _ _ _ (and_then_and_then (plain (case_of v)) _ k)
      (by v (case_of v) refl (rest_of tables code instr.Bind cr e1 inner) done)))))
    where
      by : (v : Value) (x : Result (ℕ × Option Value) Stop) → case_of v ≡ x
          → Has tables code (skip (end_of ca ends)) (cr (skip (end_of ca ends)))
          → ((w : Value) → Comes tables code (here (end_of cr (skip (end_of ca ends))).place locals (push w s)) (k w))
          → Comes tables code (here ((end_of ca ends).place + 1) (locals ++ v ∷ []) s)
          (and_then (plain x) (λ c. and_then (arms c.0 c.1 locals) k))
      by v (Ok met) is has done = dr v met.0 met.1 is (skip (end_of ca ends)) has locals deep s agree k done
      by v (Err stop) is has done =
          stays_stuck tables code _ _ (ap (λ (z : Stop). Err z) (no_case (out-Value v) stop is))
