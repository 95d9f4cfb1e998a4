-- The code of forms that add up, pick out or put together what a list has does what the forms mean.
use Rattle.std.proofs.Common.{◌≡◌, ℕ, ◌+◌, Bool, true, false, List, [], ◌∷◌, ◌++◌, Some}
use Rattle.std.proofs.Common.{Result, Ok, Err, refl, sym, ap, ◌∙◌, subst, slice_get, if◌then◌else◌, append_assoc, rules}
use Rattle.cat_pos.specs.declared.pos.Pos.{Pos}
use Rattle.cat_date.specs.declared.rounding.Rounding.TheVariants.{Refuse}
use Rattle.cat_value.specs.declared.ty.Ty.{Ty}
use Rattle.cat_value.specs.declared.value.Value.{Value}
use Rattle.cat_value.specs.declared.value.Value.TheVariants as flat
use Rattle.cat_value.specs.declared.value.Value.TheOpen.{Value-F}
use Rattle.cat_value.specs.declared.value.Value.TheViews.{out-Value}
use Rattle.cat_value.specs.declared.value.Value.TheViews as value
use Rattle.cat_scope.specs.declared.stop.Stop.{Stop}
use Rattle.cat_scope.specs.declared.stop.Stop.TheVariants.{Stuck}
use Rattle.cat_scope.specs.declared.operators.SumKind.{SumKind}
use Rattle.cat_scope.specs.declared.operators.BinaryOp.TheVariants.{Equal}
use Rattle.cat_scope.specs.Replies.{Reply, on_one}
use Rattle.cat_scope.specs.Runs.{Run, plain, gives, and_then, giving, either, choose}
use Rattle.cat_scope.specs.Projections.{truth, elements, elements_in}
use Rattle.cat_scope.specs.Operators.{operate}
use Rattle.cat_scope.specs.Comparing.{equal}
use Rattle.cat_scope.specs.Composed.{Meaning, listed}
use Rattle.cat_scope.specs.Lists.{exists, filtered, combined, contained, zero_of, adding, summed}
use Rattle.cat_scope.specs.Signatures.{summed_type}
use Rattle.cat_scope.specs.Calls.{Items}
use Rattle.cat_scope.proofs.Exported.{and_then_and_then, and_then_same}
use Rattle.cat_code.specs.declared.instr.Instr.{Instr}
use Rattle.cat_code.specs.declared.instr.Instr.TheVariants as instr
use Rattle.cat_code.specs.declared.code.Tables.{Tables}
use Rattle.cat_code.specs.OperationNumbers.{number_between}
use Rattle.cat_code.specs.States.{State, on, push}
use Rattle.cat_code.specs.Moves.{with_part}
use Rattle.cat_code.specs.Runs.{Whole}
use Rattle.cat_code.proofs.OperationLaws.{operation-number_between}
use Rattle.cat_lower.specs.Laying.{Coded, one, then_code, led, skip, end_of, over, loop}
use Rattle.cat_lower.specs.Pieces.{constant, operator, search_for, any_turn}
use Rattle.cat_lower.specs.Expressions.{collecting}
use Rattle.cat_lower.specs.Stands.{Has}
use Rattle.cat_lower.proofs.Places.{first_of, second_of, rest_of}
use Rattle.cat_lower.proofs.Comes.{Comes, Leads, acted, goes_on, stays_stuck, parted, pushed, found, chosen, alike}
use Rattle.cat_lower.proofs.Stacks.{dropped, read_behind, length_append}
use Rattle.cat_lower.proofs.Doing.{here, Does, behind, does_constant}
use Rattle.cat_lower.proofs.Looping.{folded, adding_some, filtered_folds, does_loop}
use Rattle.cat_lower.proofs.Searching.{looping, does_exists}
use Rattle.cat_lower.proofs.DoingForms.{gathering}

-- a sum, as what comes of one element after the other
summed_folds : (kind : SumKind) (p : Pos) (vs : List Value) (total : Value)
    → plain (summed kind p vs total) ≡ folded (λ v t. plain (operate Refuse (adding kind) p t v)) vs total
summed_folds kind p [] total = refl
summed_folds kind p (v ∷ vs) total = by (operate Refuse (adding kind) p total v) (λ t. summed_folds kind p vs t)
  where
    by : (r : Reply) → ((t : Value)
        → plain (summed kind p vs t) ≡ folded (λ v t. plain (operate Refuse (adding kind) p t v)) vs t)
        → plain (on_one r (λ t. summed kind p vs t))
        ≡ and_then (plain r) (folded (λ v t. plain (operate Refuse (adding kind) p t v)) vs)
    by (Ok t) same = same t
    by (Err stop) same = refl

-- `combine`, as what comes of one element after the other
combined_folds : (f : Value → Value → Run Value) (vs : List Value) (total : Value)
    → combined f vs total ≡ folded f vs total
combined_folds f [] total = refl
combined_folds f (v ∷ vs) total = and_then_same (f v total) _ _ (λ after. combined_folds f vs after)

-- the truth value of a boolean
pub truth_of : (b : Bool) → truth (flat.Boolean b) ≡ Ok b
truth_of b = search (rules, value.the_lemmas)

-- `contains`, as a search for an element that is equal
contained_searches : (p : Pos) (w : Value) (vs : List Value)
    → plain (contained p w vs) ≡ exists (λ v. plain (on_one (equal p v w) (λ b. Ok (flat.Boolean b)))) vs
contained_searches p w [] = refl
contained_searches p w (v ∷ vs) = by (equal p v w) (contained_searches p w vs)
  where
    rest : Run Value
    rest = exists (λ v. plain (on_one (equal p v w) (λ b. Ok (flat.Boolean b)))) vs

    by : (r : Result Bool Stop) → plain (contained p w vs) ≡ rest
        → plain (on_one r (λ same. if same then Ok (flat.Boolean true) else contained p w vs))
        ≡ and_then (plain (on_one r (λ b. Ok (flat.Boolean b)))) (λ t. choose t (gives (flat.Boolean true)) rest)
    by (Ok true) same = sym (ap (λ (t : Result Bool Stop). either t (gives (flat.Boolean true)) rest) (truth_of true))
    by (Ok false) same =
        same ∙ sym (ap (λ (t : Result Bool Stop). either t (gives (flat.Boolean true)) rest) (truth_of false))
    by (Err stop) same = refl

-- what has no elements is stuck
no_elements : (y : Value-F Value) (stop : Stop) → elements_in y ≡ Err stop → stop ≡ Stuck
no_elements (Value-F.List vs) stop e = absurd (cc e)
no_elements _ stop e = cc e

module _ (tables : Tables) (code : List Instr) (items : Items) where
  -- where something is no list, nothing is said; the list may be asked for later
  of_elements : (v : Value) (s : State) (r : List Value → Whole)
      → ((vs : List Value) → elements v ≡ Ok vs → Comes tables code s (r vs))
      → Comes tables code s (and_then (plain (elements v)) r)
  of_elements v s r go = by (elements v) refl
    where
      by : (x : Result (List Value) Stop) → elements v ≡ x → Comes tables code s (and_then (plain x) r)
      by (Ok vs) is = go vs is
      by (Err stop) is = stays_stuck tables code s _ (ap (λ (z : Stop). Err z) (no_elements (out-Value v) stop is))

  -- a list that is on the stack begins a loop
  begins : (v : Value) (vs : List Value) → elements v ≡ Ok vs → (p : ℕ) (locals : List Value) (s : State) (r : Whole)
      → slice_get code p ≡ Some instr.Iter → Comes tables code (here (p + 1) locals (looping vs s)) r
      → Comes tables code (here p locals (push v s)) r
  begins v vs is p locals s r at next =
      acted tables code _ instr.Iter _ at
      (subst (λ (x : Result (List Value) Stop). Leads tables code
      (with_part x (λ vs. on (looping vs (here p locals s)))) r) (sym is)
      (goes_on tables code _ _ next))

  -- the total lies below the elements
  abbrev totalling : Value → List Value → State → State
  totalling total left s = looping left (push total s)

  pub does_sum : (l : Meaning) (depth : ℕ) (kind : SumKind) (p : Pos) (cl : Coded) → Does tables code items l depth cl
      → Does tables code items (λ locals. giving (listed l locals) (λ vs. summed kind p vs (zero_of kind))) depth
      (then_code (constant (summed_type kind) (zero_of kind)) (then_code cl
      (led instr.Iter (loop (operator (number_between (adding kind)) 0 p)))))
  does_sum l depth kind p cl dl ends has locals deep s agree k next =
      let zero : Coded = constant (summed_type kind) (zero_of kind) in
      let body : Coded = operator (number_between (adding kind)) 0 p in
      let turns : Coded = loop body in
      let tail : Coded = led instr.Iter turns in
      let rest : Coded = then_code cl tail in
      let e1 = end_of zero ends in
      let e2 = end_of cl e1 in
      let in_rest = second_of tables code zero rest ends has in
      let in_tail = second_of tables code cl tail e1 in_rest in
      let done = behind tables code items cl tail e1 locals (λ w. push w s) k next in
      does_constant tables code items (summed_type kind) (zero_of kind) depth ends
      (first_of tables code zero rest ends has) locals deep s agree
      (λ z. and_then (giving (listed l locals) (λ vs. summed kind p vs z)) k)
      (λ z. alike tables code _ _ _ (and_then_and_then (listed l locals) _ k ∙ and_then_and_then (l locals) _ _)
      (dl e1 (first_of tables code cl tail e1 in_rest) locals deep (push z s) agree _
      (λ v. of_elements v _ _ (λ vs is. begins v vs is e2.place locals (push z s) _ in_tail.instructions.0
      (alike tables code _ _ _ (ap (λ r. and_then r k) (summed_folds kind p vs z))
      (does_loop tables code (λ v t. plain (operate Refuse (adding kind) p t v)) body locals s
      (λ total left. totalling total left s) (λ total. push total s) (λ x q t. refl) (λ x w ws q t. refl)
      (λ total w ws e3 has_body k next.
      acted tables code _ (instr.Op (number_between (adding kind)) 0 e3.positions) _ has_body.instructions.0
      (found tables code _ _ _ _ (operation-number_between (adding kind))
      (found tables code _ _ _ _ has_body.positions.0
      (pushed tables code (operate Refuse (adding kind) p total w) (here e3.place locals (looping ws s)) k next))))
      vs z (skip e2) (rest_of tables code instr.Iter turns e2 in_tail) k done))))))

  pub does_filter : (l of_test : Meaning) (depth : ℕ) (t : Ty) (cl test : Coded) → Does tables code items l depth cl
      → Does tables code items of_test (depth + 1) test
      → Does tables code items (λ locals. and_then (listed l locals)
      (λ vs. and_then (filtered (λ v. of_test (locals ++ v ∷ [])) vs) (λ ws. gives (value.List ws)))) depth
      (then_code cl (then_code (collecting t) (loop (led instr.Bind (then_code test
      (then_code (over (λ t. instr.JumpFalse t) (led (instr.Local depth) (one instr.Collect)))
      (one (instr.Drop 1))))))))
  does_filter l of_test depth t cl test dl dt ends has locals deep s agree k next =
      let picks : Coded = led (instr.Local depth) (one instr.Collect) in
      let picking : Coded = over (λ t. instr.JumpFalse t) picks in
      let drops : Coded = one (instr.Drop 1) in
      let last : Coded = then_code picking drops in
      let body : Coded = led instr.Bind (then_code test last) in
      let turns : Coded = loop body in
      let tail : Coded = then_code (collecting t) turns in
      let e1 = end_of cl ends in
      let inner = second_of tables code cl tail ends has in
      let done = behind tables code items (collecting t) turns e1 locals (λ w. push w s) k
      (behind tables code items cl tail ends locals (λ w. push w s) k next) in
      alike tables code _ _ _ (and_then_and_then (listed l locals) _ k ∙ and_then_and_then (l locals) _ _)
      (dl ends (first_of tables code cl tail ends has) locals deep s agree _
      (λ v. acted tables code _ (instr.IterList e1.constants) _ inner.instructions.0
      (parted tables code (elements v) _ _
      (λ vs. goes_on tables code _ _
      (alike tables code _ _ _ (and_then_and_then (filtered (λ v. of_test (locals ++ v ∷ [])) vs) _ k
      ∙ filtered_folds (λ v. of_test (locals ++ v ∷ [])) vs [] (λ ws. k (value.List ws)))
      (does_loop tables code (adding_some (λ v. of_test (locals ++ v ∷ []))) body locals s
      (λ x left. gathering tables code items x left s)
      (λ x. push (value.List x) s) (λ x p q. refl) (λ x w ws p q. refl)
      (λ x w ws e2 has_body k next.
      let in_part = rest_of tables code instr.Bind (then_code test last) e2 has_body in
      let e3 = end_of test (skip e2) in
      let at_last = second_of tables code test last (skip e2) in_part in
      let on = behind tables code items test last (skip e2) locals (λ y. gathering tables code items y ws s) k next in
      let dropping : (y : List Value)
      → Comes tables code (here (e3.place + 1 + 1 + 1) (locals ++ w ∷ []) (gathering tables code items y ws s))
      (k y) =
      λ y. acted tables code _ (instr.Drop 1) _ at_last.instructions.1.1.1.0 (goes_on tables code _ _
      (subst (λ (ls : List Value). Comes tables code
      (here (e3.place + 1 + 1 + 1 + 1) ls (gathering tables code items y ws s)) (k y))
      (sym (dropped locals (w ∷ []) 1 refl)) (on y))) in
      alike tables code _ _ _ (and_then_and_then (of_test (locals ++ w ∷ [])) _ k)
      (acted tables code _ instr.Bind _ has_body.instructions.0 (goes_on tables code _ _
      (dt (skip e2) (first_of tables code test last (skip e2) in_part) (locals ++ w ∷ [])
      (length_append locals (w ∷ []) ∙ ap (λ n. n + 1) deep) (gathering tables code items x ws s) agree _
      (λ y. acted tables code _ (instr.JumpFalse (e3.place + 1 + 1 + 1)) _ at_last.instructions.0
      (chosen tables code (truth y) _ _ (gives (x ++ w ∷ [])) (gives x) k
      (goes_on tables code _ _
      (acted tables code _ (instr.Local depth) _ at_last.instructions.1.0
      (found tables code _ _ _ _ (read_behind locals w [] depth (sym deep))
      (goes_on tables code _ _ (acted tables code _ instr.Collect _ at_last.instructions.1.1.0
      (goes_on tables code _ _ (dropping (x ++ w ∷ []))))))))
      (goes_on tables code _ _ (dropping x))))))))
      vs [] (end_of (collecting t) e1) (second_of tables code (collecting t) turns e1 inner) (λ ws. k (value.List ws))
      (λ ws. done (value.List ws))))))))

  pub does_contains : (l e : Meaning) (depth : ℕ) (p : Pos) (cl ce : Coded) → Does tables code items l depth cl
      → Does tables code items e depth ce
      → Does tables code items
      (λ locals. and_then (listed l locals) (λ vs. giving (e locals) (λ v. contained p v vs))) depth
      (then_code cl (then_code ce (led instr.Bind (led instr.Iter (then_code
      (search_for (any_turn (led (instr.Local depth) (operator (number_between Equal) 0 p))) false)
      (one (instr.Drop 1)))))))
  does_contains l e depth p cl ce dl de ends has locals deep s agree k next =
      let test : Coded = led (instr.Local depth) (operator (number_between Equal) 0 p) in
      let turns : Coded = search_for (any_turn test) false in
      let drops : Coded = one (instr.Drop 1) in
      let found_part : Coded = then_code turns drops in
      let iterates : Coded = led instr.Iter found_part in
      let tail : Coded = led instr.Bind iterates in
      let rest : Coded = then_code ce tail in
      let e1 = end_of cl ends in
      let e2 = end_of ce e1 in
      let e4 = skip (skip e2) in
      let in_rest = second_of tables code cl rest ends has in
      let in_tail = second_of tables code ce tail e1 in_rest in
      let in_iter = rest_of tables code instr.Bind iterates e2 in_tail in
      let in_found = rest_of tables code instr.Iter found_part (skip e2) in_iter in
      let at_drop = second_of tables code turns drops e4 in_found in
      let done = behind tables code items turns drops e4 locals (λ w. push w s) k
      (behind tables code items ce tail e1 locals (λ w. push w s) k
      (behind tables code items cl rest ends locals (λ w. push w s) k next)) in
      alike tables code _ _ _ (and_then_and_then (listed l locals) _ k ∙ and_then_and_then (l locals) _ _)
      (dl ends (first_of tables code cl rest ends has) locals deep s agree _
      (λ v. of_elements v _ _ (λ vs is.
      alike tables code _ _ _ (and_then_and_then (e locals) _ k)
      (de e1 (first_of tables code ce tail e1 in_rest) locals deep (push v s) agree _
      (λ w. acted tables code _ instr.Bind _ in_tail.instructions.0 (goes_on tables code _ _
      (begins v vs is (e2.place + 1) (locals ++ w ∷ []) s _ in_iter.instructions.0
      (alike tables code _ _ _ (ap (λ r. and_then r k) (contained_searches p w vs))
      (does_exists tables code (λ x. plain (on_one (equal p x w) (λ b. Ok (flat.Boolean b)))) test (locals ++ w ∷ []) s
      (λ x left e5 has_test k next.
      acted tables code _ (instr.Local depth) _ has_test.instructions.0
      (found tables code _ _ _ _ (read_behind locals w [] depth (sym deep)) (goes_on tables code _ _
      (acted tables code _ (instr.Op (number_between Equal) 0 e5.positions) _ has_test.instructions.1.0
      (found tables code _ _ _ _ has_test.positions.0
      (pushed tables code (operate Refuse Equal p x w)
      (here (e5.place + 1) (locals ++ w ∷ []) (looping left s)) k next))))))
      vs e4 (first_of tables code turns drops e4 in_found) k
      (λ b. acted tables code _ (instr.Drop 1) _ at_drop.instructions.0 (goes_on tables code _ _
      (subst (λ (ls : List Value). Comes tables code (here ((end_of turns e4).place + 1) ls (push b s)) (k b))
      (sym (dropped locals (w ∷ []) 1 refl)) (done b)))))))))))))

  pub does_combine : (l start e : Meaning) (depth : ℕ) (cl cs ce : Coded) → Does tables code items l depth cl
      → Does tables code items start depth cs → Does tables code items e (depth + 2) ce
      → Does tables code items (λ locals. and_then (listed l locals)
      (λ vs. and_then (start locals) (combined (λ v total. e (locals ++ v ∷ total ∷ [])) vs))) depth
      (then_code cl (then_code cs
      (led instr.Bind (led instr.Bind (led (instr.Local depth) (led (instr.Local (depth + 1))
      (led (instr.Drop 2) (led instr.Iter
      (loop (led instr.Bind (led instr.Bind (then_code ce (one (instr.Drop 2))))))))))))))
  does_combine l start e depth cl cs ce dl ds de ends has locals deep s agree k next =
      let drops : Coded = one (instr.Drop 2) in
      let body : Coded = led instr.Bind (led instr.Bind (then_code ce drops)) in
      let turns : Coded = loop body in
      let tail : Coded = led instr.Bind (led instr.Bind (led (instr.Local depth) (led (instr.Local (depth + 1))
      (led (instr.Drop 2) (led instr.Iter turns))))) in
      let rest : Coded = then_code cs tail in
      let e1 = end_of cl ends in
      let e2 = end_of cs e1 in
      let e3 = skip (skip (skip (skip (skip (skip e2))))) in
      let in_rest = second_of tables code cl rest ends has in
      let in_tail = second_of tables code cs tail e1 in_rest in
      let at = in_tail.instructions in
      let in_turns : Has tables code e3 (turns e3) = record {
        instructions = at.1.1.1.1.1.1;
        constants = in_tail.constants;
        positions = in_tail.positions;
        targets = in_tail.targets;
      } in
      let done = behind tables code items cs tail e1 locals (λ w. push w s) k
      (behind tables code items cl rest ends locals (λ w. push w s) k next) in
      alike tables code _ _ _ (and_then_and_then (listed l locals) _ k ∙ and_then_and_then (l locals) _ _)
      (dl ends (first_of tables code cl rest ends has) locals deep s agree _
      (λ v. of_elements v _ _ (λ vs is.
      alike tables code _ _ _ (and_then_and_then (start locals) _ k)
      (ds e1 (first_of tables code cs tail e1 in_rest) locals deep (push v s) agree _
      (λ z. acted tables code _ instr.Bind _ at.0 (goes_on tables code _ _
      (acted tables code _ instr.Bind _ at.1.0 (goes_on tables code _ _
      (subst (λ (ls : List Value). Comes tables code (here (e2.place + 1 + 1) ls s)
      (and_then (combined (λ v total. e (locals ++ v ∷ total ∷ [])) vs z) k))
      (sym (append_assoc locals (z ∷ []) (v ∷ [])))
      (acted tables code _ (instr.Local depth) _ at.1.1.0
      (found tables code _ _ _ _ (read_behind locals z (v ∷ []) depth (sym deep)) (goes_on tables code _ _
      (acted tables code _ (instr.Local (depth + 1)) _ at.1.1.1.0
      (found tables code _ _ _ _ (second_behind z v) (goes_on tables code _ _
      (acted tables code _ (instr.Drop 2) _ at.1.1.1.1.0 (goes_on tables code _ _
      (subst (λ (ls : List Value). Comes tables code (here (e2.place + 1 + 1 + 1 + 1 + 1) ls (push v (push z s)))
      (and_then (combined (λ v total. e (locals ++ v ∷ total ∷ [])) vs z) k))
      (sym (dropped locals (z ∷ v ∷ []) 2 refl))
      (begins v vs is (e2.place + 1 + 1 + 1 + 1 + 1) locals (push z s) _ at.1.1.1.1.1.0
      (alike tables code _ _ _ (ap (λ r. and_then r k) (combined_folds (λ v total. e (locals ++ v ∷ total ∷ [])) vs z))
      (does_loop tables code (λ v total. e (locals ++ v ∷ total ∷ [])) body locals s
      (λ total left. totalling total left s) (λ total. push total s) (λ x p t. refl) (λ x w ws p t. refl)
      (λ total w ws e4 has_body k next.
      let in_part =
      rest_of tables code instr.Bind (then_code ce drops) (skip e4)
      (rest_of tables code instr.Bind (led instr.Bind (then_code ce drops)) e4 has_body) in
      let e5 = skip (skip e4) in
      let at_drop = second_of tables code ce drops e5 in_part in
      let on = behind tables code items ce drops e5 locals (λ y. totalling y ws s) k next in
      acted tables code _ instr.Bind _ has_body.instructions.0 (goes_on tables code _ _
      (acted tables code _ instr.Bind _ has_body.instructions.1.0 (goes_on tables code _ _
      (subst (λ (ls : List Value). Comes tables code (here (e4.place + 1 + 1) ls (looping ws s))
      (and_then (e (locals ++ w ∷ total ∷ [])) k))
      (sym (append_assoc locals (w ∷ []) (total ∷ [])))
      (de e5 (first_of tables code ce drops e5 in_part) (locals ++ w ∷ total ∷ [])
      (length_append locals (w ∷ total ∷ []) ∙ ap (λ n. n + 2) deep) (looping ws s) agree k
      (λ y. acted tables code _ (instr.Drop 2) _ at_drop.instructions.0 (goes_on tables code _ _
      (subst (λ (ls : List Value). Comes tables code (here ((end_of ce e5).place + 1) ls (totalling y ws s)) (k y))
      (sym (dropped locals (w ∷ total ∷ []) 2 refl)) (on y))))))))))
      vs z e3 in_turns k done)))))))))))))))))))))
    where
      second_behind : (z v : Value) → slice_get (locals ++ z ∷ v ∷ []) (depth + 1) ≡ Some v
      second_behind z v =
          ap (λ (ls : List Value). slice_get ls (depth + 1)) (sym (append_assoc locals (z ∷ []) (v ∷ [])))
          ∙ read_behind (locals ++ z ∷ []) v [] (depth + 1) (sym (length_append locals (z ∷ []) ∙ ap (λ n. n + 1) deep))
