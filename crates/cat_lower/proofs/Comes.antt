-- What a run comes to from a state, or from where a step leads. Nothing is said of a run that is stuck.
use Rattle.std.proofs.Common.{◌≡◌, ◌≢◌, ℕ, suc, ◌+◌, Bool, true, false, List, [], ◌++◌, Option, Some, None}
use Rattle.std.proofs.Common.{Result, Ok, Err, refl, sym, ap, subst, slice_get}
use Rattle.cat_value.specs.declared.value.Value.{Value}
use Rattle.cat_scope.specs.declared.stop.Stop.{Stop}
use Rattle.cat_scope.specs.declared.stop.Stop.TheVariants.{Stuck}
use Rattle.cat_scope.specs.Replies.{Reply, known, evaluated}
use Rattle.cat_scope.specs.Runs.{Decider, Run, plain, and_then, either}
use Rattle.cat_code.specs.declared.instr.Instr.{Instr}
use Rattle.cat_code.specs.declared.code.Tables.{Tables}
use Rattle.cat_code.specs.States.{State, Next, Goes, Over, at, push}
use Rattle.cat_code.specs.Moves.{with_part, pushes, by_truth}
use Rattle.cat_code.specs.Machine.{act}
use Rattle.cat_code.specs.Runs.{Whole, act_at, step, behind_log, followed, within}

module _ (tables : Tables) (code : List Instr) where
  -- from a state the machine ends as this run does, if that isn't stuck
  pub record Comes (s : State) (r : Whole) : Type 0 where
    pub by : r.end ≢ Err Stuck → (n : ℕ) × (within tables code n s ≡ Some r)

  -- the same from where a step leads
  pub record Leads (x : Next) (r : Whole) : Type 0 where
    pub by : r.end ≢ Err Stuck → (n : ℕ) × (followed x (within tables code n) ≡ Some r)

  pub stepped : (s : State) (r : Whole) → Leads (step tables code s) r → Comes s r
  stepped s r l = record { by = λ h. let a = l.by h in (suc a.0, a.1) }

  -- the instruction at the place of a state
  pub acted : (s : State) (i : Instr) (r : Whole) → slice_get code s.place ≡ Some i → Leads (act tables i s) r
      → Comes s r
  acted s i r is l = stepped s r (subst (λ o. Leads (act_at tables o s) r) (sym is) l)

  pub goes_on : (s : State) (r : Whole) → Comes s r → Leads (Goes [] s) r
  goes_on s r c = record { by = λ h. let a = c.by h in (a.0, ap (behind_log []) a.1) }

  pub goes_logging : (log : List Decider) (s : State) (r : Whole) → Comes s r
      → Leads (Goes log s) (record { log = log ++ r.log; end = r.end })
  goes_logging log s r c = record { by = λ h. let a = c.by h in (a.0, ap (behind_log log) a.1) }

  pub ends_with : (end : Result (List Value) Stop) → Leads (Over end) (plain end)
  ends_with end = record { by = λ h. (0, refl) }

  pub is_stuck : (x : Next) (r : Whole) → r.end ≡ Err Stuck → Leads x r
  is_stuck x r e = record { by = λ h. absurd (h e) }

  pub stays_stuck : (s : State) (r : Whole) → r.end ≡ Err Stuck → Comes s r
  stays_stuck s r e = record { by = λ h. absurd (h e) }

  pub parted : {A : Type 0} (r : Result A Stop) (go : A → Next) (k : A → Whole) → ((a : A) → Leads (go a) (k a))
      → Leads (with_part r go) (and_then (plain r) k)
  parted (Ok a) go k h = h a
  parted (Err stop) go k h = ends_with (Err stop)

  pub pushed : (r : Reply) (s : State) (k : Value → Whole) → ((v : Value) → Comes (at (s.place + 1) (push v s)) (k v))
      → Leads (pushes r s) (and_then (plain r) k)
  pushed (Ok v) s k h = goes_on (at (s.place + 1) (push v s)) (k v) (h v)
  pushed (Err stop) s k h = ends_with (Err stop)

  -- an entry of a table that is there
  pub found : {A : Type 0} (o : Option A) (a : A) (go : A → Next) (r : Whole) → o ≡ Some a → Leads (go a) r
      → Leads (with_part (known o) go) r
  found o a go r is l = subst (λ x. Leads (with_part (known x) go) r) (sym is) l

  -- one of two by a truth value
  pub chosen : {A : Type 0} (t : Result Bool Stop) (one other : Next) (x y : Run A) (k : A → Whole)
      → Leads one (and_then x k) → Leads other (and_then y k)
      → Leads (with_part t (λ b. by_truth b one other)) (and_then (either t x y) k)
  chosen (Ok true) one other x y k l m = l
  chosen (Ok false) one other x y k l m = m
  chosen (Err stop) one other x y k l m = ends_with (Err stop)

  -- an item that is done has its value in its slot
  pub slot_read : (o p : Option (Option Value)) (go : Value → Next) (k : Value → Whole)
      → ((v : Value) → o ≡ Some (Some v) → p ≡ Some (Some v)) → ((v : Value) → Leads (go v) (k v))
      → Leads (with_part (evaluated p) go) (and_then (plain (evaluated o)) k)
  slot_read None p go k agree h = is_stuck _ _ refl
  slot_read (Some None) p go k agree h = is_stuck _ _ refl
  slot_read (Some (Some v)) p go k agree h =
      subst (λ q. Leads (with_part (evaluated q) go) (k v)) (sym (agree v refl)) (h v)

  -- the same run
  pub alike : (s : State) (r r' : Whole) → r ≡ r' → Comes s r' → Comes s r
  alike s r r' e c = subst (λ x. Comes s x) (sym e) c

  -- the same run from where a step leads
  pub leads_alike : (x : Next) (r r' : Whole) → r ≡ r' → Leads x r' → Leads x r
  leads_alike x r r' e l = subst (λ y. Leads x y) (sym e) l
