-- Loops with their places: over all elements of a list, and up to the first that is found.
use Rattle.std.proofs.Common.{◌≡◌, ◌≤◌, ℕ, ◌+◌, ◌-◌, nat_le, nat_lt, ◌||◌, Bool, true, false, IsTrue, List, [], ◌∷◌}
use Rattle.std.proofs.Common.{length, Option, Some, None, slice_get, refl, sym, ap, ◌∙◌, subst, arith}
use Rattle.std.proofs.lemmas.Bool.{eq-eqb}
use Rattle.std.proofs.lemmas.Bool.Decides.{nat_tests}
use Rattle.cat_code.specs.declared.instr.Instr.{Instr}
use Rattle.cat_code.specs.declared.instr.Instr.TheVariants as instr
use Rattle.cat_code.specs.declared.code.Constant.{Constant}
use Rattle.cat_code.specs.declared.code.Tables.{Tables}
use Rattle.cat_code.specs.Forms.{Form, Truth, Many}
use Rattle.cat_code.specs.Shapes.{Owner, Shape}
use Rattle.cat_code.specs.Leads.{leads_two, where_so, pushed, loop_ended}
use Rattle.cat_code.specs.Flow.{flow}
use Rattle.cat_code.specs.Tame.{is_next, may_go_back}
use Rattle.cat_code.specs.Valid.{is_loop, keeps_rules}
use Rattle.cat_lower.specs.Laying.{Ends, Parts, Coded, one, then_code, led, skip, end_of, over, loop}
use Rattle.cat_lower.specs.Stands.{HasAt, Has}
use Rattle.cat_lower.specs.Pieces.{truth, search_for, found, any_turn, all_turn}
use Rattle.cat_lower.proofs.Places.{has_back, first_of, second_of, rest_of, past_append}
use Rattle.cat_lower.proofs.Spots.{Spots, Meeting, Arrives, arrives_here}
use Rattle.cat_lower.proofs.Sketches.{Sketch, Takes, step, sketch_after, sketch_around, sketch_step, sketch_on}
use Rattle.cat_lower.proofs.Sketches.{sketch_join, sketch_go, sketch_over, is_jump_false, forward, back_or, past_below}

-- inside a loop over elements of a type that began at a place
abbrev pub inside : Form → Option Form → Shape → ℕ → Shape
inside t collected s p = record s {
  loops = record {
    begun = p;
    element = t;
    collected = collected;
    frames = length s.defaults;
    pending = length s.pending;
  } ∷ s.loops;
}

before_it : (p : ℕ) → (p + 1) - 1 ≡ p
before_it p = omega arith

module _ (tables : Tables) (code : List Instr) (Calls : Owner → Owner → Type 0) (entry : ℕ → Shape) where
  abbrev T : Coded → Shape → Shape → Type 0
  T a s t = Takes tables code Calls entry a s t

  abbrev S : Ends → Parts → Shape → (Spots → Type 0) → Type 0
  S ends a s After = Sketch tables code Calls entry ends a s After

  -- a `next` that stands behind the beginning of its loop
  next_flows : (t : Form) (c : Option Form) (s : Shape) (p q : ℕ)
      → flow tables code (instr.Next q) (p + 1) (inside t c s p)
      ≡ leads_two (p + 1 + 1) (pushed t (inside t c s p)) q (loop_ended c s)
  next_flows t c s p q =
      ap (λ b. where_so b (leads_two (p + 1 + 1) (pushed t (inside t c s p)) q (loop_ended c s)))
      (eq-eqb (p + 1) (p + 1) refl)

  next_rules : (p q : ℕ) → is_loop (slice_get code p) ≡ true
      → IsTrue (keeps_rules tables code [] (p + 1) (instr.Next q))
  next_rules p q is =
      let one_on : nat_le 1 (p + 1) ≡ true = grind (arith, nat_tests) in
      rw (one_on, before_it p, is) refl

  -- the `next` of a loop, and what comes behind it
  abbrev sketch_next : (p cs ps ts : ℕ) (t : Form) (c : Option Form) (s : Shape) (q : ℕ) (After : Spots → Type 0)
      → is_loop (slice_get code p) ≡ true → p + 1 + 1 ≤ q
      → ((all : Spots) → After all
      → Meeting all (p + 1 + 1) (pushed t (inside t c s p)) × Arrives all q (loop_ended c s))
      → S (record { place = p + 1; constants = cs; positions = ps; targets = ts }) (step (instr.Next q) [] [])
      (inside t c s p) After
  sketch_next p cs ps ts t c s q After is before known =
      sketch_step tables code Calls entry (record { place = p + 1; constants = cs; positions = ps; targets = ts })
      (instr.Next q) [] [] (inside t c s p) After
      ((p + 1 + 1, pushed t (inside t c s p)) ∷ (q, loop_ended c s) ∷ []) (next_flows t c s p q) tt
      (λ all entered after. let k = known all after in (k.0, (k.1.0, tt)))
      (λ all after. let k = known all after in ((k.1.1, forward (p + 1) q _ before), (next_rules p q is, (tt, tt))))

  -- back to the `next` of the innermost loop
  goes_back : (p q to : ℕ) → slice_get code q ≡ Some (instr.Next to)
      → IsTrue (nat_lt p q || may_go_back code (instr.Jump q))
  goes_back p q to is = back_or p q (is_next (slice_get code q)) (ap is_next is)

  -- a loop over the elements of a list, which begins with one instruction
  pub takes_loop : (i : Ends → Instr) (cs : Ends → List Constant) (body : Coded) (t : Form) (c : Option Form)
      (s : Shape)
      → ((ends : Ends) → Has tables code ends (step (i ends) (cs ends) [])
      → S ends (step (i ends) (cs ends) []) (pushed (Many t) s)
      (λ all. Arrives all (ends.place + 1) (inside t c s ends.place)))
      → ((ends : Ends) → is_loop (Some (i ends)) ≡ true)
      → ((p : ℕ) → T body (pushed t (inside t c s p)) (inside t c s p))
      → T (then_code (λ ends. step (i ends) (cs ends) []) (loop body)) (pushed (Many t) s) (loop_ended c s)
  takes_loop i cs body t c s begins is_one inner ends has =
      let p = ends.place in
      let start : Coded = λ ends. step (i ends) (cs ends) [] in
      let e1 = end_of start ends in
      let e2 = skip e1 in
      let eb = end_of body e2 in
      let q = (skip eb).place in
      let within = inside t c s p in
      let back : Coded = one (instr.Jump (p + 1)) in
      let in_loop = second_of tables code start (loop body) ends has in
      let in_body = rest_of tables code (instr.Next q) (then_code body back) e1 in_loop in
      let After : Spots → Type 0 = λ all. Arrives all q (loop_ended c s) in
      let Again : Spots → Type 0 = λ all. After all × Arrives all (p + 1) within in
      let go =
      sketch_go tables code Calls entry eb (p + 1) within Again
      (goes_back eb.place (p + 1) q in_loop.instructions.0) (λ all after. after.1) in
      let turn = inner p e2 (first_of tables code body back e2 in_body) in
      let rest =
      sketch_join tables code Calls entry e2 body back (pushed t within) within
      (λ all. Arrives all eb.place within) Again turn go
      (λ all at after. arrives_here all eb.place within at.0) in
      let Mid : Spots → Type 0 = λ all. Meeting all (p + 1 + 1) (pushed t within) × Arrives all q (loop_ended c s) in
      let before : p + 1 + 1 ≤ q = omega (arith, past_below (p + 1 + 1) (body e2).instructions) in
      let head =
      sketch_next p e1.constants e1.positions e1.targets t c s q Mid
      (ap is_loop has.instructions.0 ∙ is_one ends) before (λ all after. after) in
      let whole =
      sketch_join tables code Calls entry e1 (one (instr.Next q)) (then_code body back) within
      (pushed t within) Mid Again head rest
      (λ all at after. ((rest.first all at after).0, after.0)) in
      let around =
      sketch_around tables code Calls entry e1 (loop body e1) within After whole
      (λ all at. arrives_here all (p + 1) within at.0) in
      sketch_after tables code Calls entry ends (then_code start (loop body) ends) (pushed (Many t) s) After
      (λ all. Arrives all (end_of (then_code start (loop body)) ends).place (loop_ended c s))
      (λ all after. subst (λ n. Arrives all n (loop_ended c s))
      (past_append (p + 1 + 1) (body e2).instructions (instr.Jump (p + 1) ∷ [])) after)
      (sketch_join tables code Calls entry ends start (loop body) (pushed (Many t) s) within
      (λ all. Arrives all (p + 1) within) After
      (begins ends (first_of tables code start (loop body) ends has)) around
      (λ all at after. arrives_here all (p + 1) within at.0))

  -- ---- up to the first that is found

  -- how a turn may go on: to the next one, or out of the loop with a truth value
  abbrev pub Turned : ℕ → ℕ → Form → Shape → ℕ → Spots → Type 0
  Turned start out t s p all = Arrives all start (inside t None s p) × Arrives all out (pushed Truth s)

  -- a turn of a search, where it stands behind the `next` at `start`, and the loop's end before `out`
  abbrev pub Turns : (ℕ → ℕ → Coded) → Form → Shape → Type 0
  Turns turn t s = (p start out : ℕ) (ends : Ends) (to : ℕ) → slice_get code start ≡ Some (instr.Next to)
      → (end_of (turn start out) ends).place + 1 ≡ out → Has tables code ends (turn start out ends)
      → S ends (turn start out ends) (pushed t (inside t None s p)) (Turned start out t s p)

  pub takes_search : (turn : ℕ → ℕ → Coded) (none : Bool) (t : Form) (s : Shape)
      → ((ends : Ends) (start out : ℕ) → (end_of (turn start out) ends).place ≡ (end_of (turn 0 0) ends).place)
      → Turns turn t s → T (truth none) s (pushed Truth s)
      → T (led instr.Iter (search_for turn none)) (pushed (Many t) s) (pushed Truth s)
  takes_search turn none t s sizes turns last ends has =
      let p = ends.place in
      let e1 = skip ends in
      let e2 = skip e1 in
      let q = (end_of (turn 0 0) e2).place in
      let within = inside t None s p in
      let this : Coded = turn (p + 1) (q + 1) in
      let et = end_of this e2 in
      let size : et.place ≡ q = sizes e2 (p + 1) (q + 1) in
      let in_search = rest_of tables code instr.Iter (search_for turn none) ends has in
      let in_rest = rest_of tables code (instr.Next q) (then_code this (truth none)) e1 in_search in
      let After : Spots → Type 0 = λ all. Arrives all (q + 1) (pushed Truth s) in
      let Again : Spots → Type 0 = λ all. After all × Arrives all (p + 1) within in
      let final =
      sketch_after tables code Calls entry et (truth none et) s
      (λ all. Arrives all (end_of (truth none) et).place (pushed Truth s)) Again
      (λ all after. subst (λ n. Arrives all (n + 1) (pushed Truth s)) (sym size) after.0)
      (last et (second_of tables code this (truth none) e2 in_rest)) in
      let one_turn =
      turns p (p + 1) (q + 1) e2 q in_search.instructions.0 (ap (λ n. n + 1) size)
      (first_of tables code this (truth none) e2 in_rest) in
      let rest =
      sketch_join tables code Calls entry e2 this (truth none) (pushed t within) s
      (Turned (p + 1) (q + 1) t s p) Again one_turn final
      (λ all at after. (after.1, after.0)) in
      let Mid : Spots → Type 0 = λ all. Meeting all (p + 1 + 1) (pushed t within) × Arrives all q s in
      let before : p + 1 + 1 ≤ q = past_below (p + 1 + 1) (turn 0 0 e2).instructions in
      let head =
      sketch_next p e1.constants e1.positions e1.targets t None s q Mid (ap is_loop has.instructions.0) before
      (λ all after. after) in
      let whole =
      sketch_join tables code Calls entry e1 (one (instr.Next q)) (then_code this (truth none)) within
      (pushed t within) Mid Again head rest
      (λ all at after. (
        (rest.first all at after).0,
        subst (λ n. Arrives all n s) size
            (final.first all (subst (λ n. HasAt all n final.spots) (one_turn.as_long e2.place)
            (has_back all e2.place one_turn.spots final.spots at)) after),
      )) in
      let around =
      sketch_around tables code Calls entry e1 (search_for turn none e1) within After whole
      (λ all at. arrives_here all (p + 1) within at.0) in
      sketch_after tables code Calls entry ends (led instr.Iter (search_for turn none) ends) (pushed (Many t) s) After
      (λ all. Arrives all (end_of (led instr.Iter (search_for turn none)) ends).place (pushed Truth s))
      (λ all after. subst (λ n. Arrives all n (pushed Truth s))
      (past_append (p + 1 + 1) (this e2).instructions (truth none et).instructions ∙ ap (λ n. n + 1) size) after)
      (sketch_join tables code Calls entry ends (one instr.Iter) (search_for turn none) (pushed (Many t) s) within
      (λ all. Arrives all (p + 1) within) After
      (sketch_on tables code Calls entry ends instr.Iter [] [] (pushed (Many t) s) within refl tt
      (λ all. (tt, (refl, (tt, tt)))))
      around (λ all at after. arrives_here all (p + 1) within at.0))

  -- leaves the loop with a truth value
  abbrev sketch_found : (b : Bool) (out : ℕ) (t : Form) (s : Shape) (p : ℕ) (ends : Ends) (After : Spots → Type 0)
      → T (truth b) s (pushed Truth s) → Has tables code ends (found b out ends) → ends.place + 1 + 1 + 1 ≤ out
      → ((all : Spots) → After all → Arrives all out (pushed Truth s))
      → S ends (found b out ends) (inside t None s p) After
  sketch_found b out t s p ends After last has before known =
      let e1 = skip ends in
      let e2 = end_of (truth b) e1 in
      let away : Coded = one (instr.Jump out) in
      let in_value = rest_of tables code instr.Leave (then_code (truth b) away) ends has in
      let go = sketch_go tables code Calls entry e2 out (pushed Truth s) After (forward e2.place out _ before) known in
      let value =
      sketch_join tables code Calls entry e1 (truth b) away s (pushed Truth s)
      (λ all. Arrives all e2.place (pushed Truth s)) After
      (last e1 (first_of tables code (truth b) away e1 in_value)) go
      (λ all at after. arrives_here all e2.place (pushed Truth s) at.0) in
      sketch_join tables code Calls entry ends (one instr.Leave) (then_code (truth b) away) (inside t None s p) s
      (λ all. Arrives all e1.place s) After
      (sketch_on tables code Calls entry ends instr.Leave [] [] (inside t None s p) s refl tt
      (λ all. (tt, (refl, (tt, tt)))))
      value (λ all at after. value.first all at after)

  -- out of the loop at the first element for which a test is true
  pub turns_any : (test : Coded) (t : Form) (s : Shape)
      → ((p : ℕ) → T test (pushed t (inside t None s p)) (pushed Truth (inside t None s p)))
      → T (truth true) s (pushed Truth s) → Turns (any_turn test) t s
  turns_any test t s tests last p start out ends to is size has =
      let within = inside t None s p in
      let em = end_of test ends in
      let away : Coded = found true out in
      let again : Coded = one (instr.Jump start) in
      let over_part : Coded = over (λ t. instr.JumpFalse t) away in
      let tail : Coded = then_code over_part again in
      let eo = end_of over_part em in
      let After : Spots → Type 0 = Turned start out t s p in
      let Beyond : Spots → Type 0 = λ all. After all × Arrives all eo.place within in
      let in_tail = second_of tables code test tail ends has in
      let in_over = first_of tables code over_part again em in_tail in
      let ended : em.place + 1 + 1 + 1 + 1 + 1 + 1 ≡ out
      = ap (λ n. n + 1) (sym (past_append ends.place (test ends).instructions (tail em).instructions)) ∙ size in
      let leave = sketch_found true out t s p (skip em) Beyond last
      (rest_of tables code (instr.JumpFalse eo.place) away em in_over) (omega arith) (λ all after. after.0.1) in
      let jumps =
      sketch_over tables code Calls entry em (λ t. instr.JumpFalse t) away
      (pushed Truth within) within within Beyond
      (is_jump_false tables code Calls entry) refl leave (λ all after. after.1) in
      let back =
      sketch_go tables code Calls entry eo start within After (goes_back eo.place start to is)
      (λ all after. after.0) in
      let rest =
      sketch_join tables code Calls entry em over_part again (pushed Truth within) within Beyond After jumps back
      (λ all at after. (after, arrives_here all eo.place within at.0)) in
      sketch_join tables code Calls entry ends test tail (pushed t within) (pushed Truth within)
      (λ all. Arrives all em.place (pushed Truth within)) After
      (tests p ends (first_of tables code test tail ends has)) rest (λ all at after. rest.first all at after)

  -- out of the loop at the first element for which a test is false
  pub turns_all : (test : Coded) (t : Form) (s : Shape)
      → ((p : ℕ) → T test (pushed t (inside t None s p)) (pushed Truth (inside t None s p)))
      → T (truth false) s (pushed Truth s) → Turns (all_turn test) t s
  turns_all test t s tests last p start out ends to is size has =
      let within = inside t None s p in
      let em = end_of test ends in
      let away : Coded = found false out in
      let again : Coded = one (instr.Jump start) in
      let over_part : Coded = over (λ t. instr.JumpFalse t) again in
      let tail : Coded = then_code over_part away in
      let eo = end_of over_part em in
      let After : Spots → Type 0 = Turned start out t s p in
      let Beyond : Spots → Type 0 = λ all. After all × Arrives all eo.place within in
      let in_tail = second_of tables code test tail ends has in
      let ended : em.place + 1 + 1 + 1 + 1 + 1 + 1 ≡ out
      = ap (λ n. n + 1) (sym (past_append ends.place (test ends).instructions (tail em).instructions)) ∙ size in
      let leave =
      sketch_found false out t s p eo After last (second_of tables code over_part away em in_tail) (omega arith)
      (λ all after. after.1) in
      let back =
      sketch_go tables code Calls entry (skip em) start within Beyond (goes_back (skip em).place start to is)
      (λ all after. after.0.0) in
      let jumps =
      sketch_over tables code Calls entry em (λ t. instr.JumpFalse t) again
      (pushed Truth within) within within Beyond
      (is_jump_false tables code Calls entry) refl back (λ all after. after.1) in
      let rest =
      sketch_join tables code Calls entry em over_part away (pushed Truth within) within Beyond After jumps leave
      (λ all at after. (after, leave.first all at after)) in
      sketch_join tables code Calls entry ends test tail (pushed t within) (pushed Truth within)
      (λ all. Arrives all em.place (pushed Truth within)) After
      (tests p ends (first_of tables code test tail ends has)) rest (λ all at after. rest.first all at after)

  -- what stands behind the test of a turn
  abbrev any_tail : Coded → Ends → ℕ → ℕ → List Instr
  any_tail test ends start out =
      (then_code (over (λ t. instr.JumpFalse t) (found true out)) (one (instr.Jump start))
      (end_of test ends)).instructions

  abbrev all_tail : Coded → Ends → ℕ → ℕ → List Instr
  all_tail test ends start out =
      (then_code (over (λ t. instr.JumpFalse t) (one (instr.Jump start))) (found false out)
      (end_of test ends)).instructions

  -- the size of a turn doesn't hang on where it goes
  pub any_sizes : (test : Coded) (ends : Ends) (start out : ℕ)
      → (end_of (any_turn test start out) ends).place ≡ (end_of (any_turn test 0 0) ends).place
  any_sizes test ends start out =
      past_append ends.place (test ends).instructions (any_tail test ends start out)
      ∙ sym (past_append ends.place (test ends).instructions (any_tail test ends 0 0))

  pub all_sizes : (test : Coded) (ends : Ends) (start out : ℕ)
      → (end_of (all_turn test start out) ends).place ≡ (end_of (all_turn test 0 0) ends).place
  all_sizes test ends start out =
      past_append ends.place (test ends).instructions (all_tail test ends start out)
      ∙ sym (past_append ends.place (test ends).instructions (all_tail test ends 0 0))
