-- The code of forms over lists and cases does what the forms mean.
use Rattle.std.proofs.Common.{◌≡◌, ℕ, ◌+◌, pos, true, false, List, [], ◌∷◌, ◌++◌, length}
use Rattle.std.proofs.Common.{Some, None, Result, Ok, Err, refl, sym, ap, ◌∙◌, subst, slice_get, nat_eq}
use Rattle.cat_value.specs.declared.ty.Ty.{Ty}
use Rattle.cat_value.specs.declared.value.Value.{Value}
use Rattle.cat_value.specs.declared.value.Value.TheVariants as flat
use Rattle.cat_value.specs.declared.value.Value.TheViews as value
use Rattle.cat_scope.specs.declared.stop.Stop.{Stop}
use Rattle.cat_scope.specs.Replies.{on_one}
use Rattle.cat_scope.specs.Runs.{Run, plain, gives, and_then, giving}
use Rattle.cat_scope.specs.Projections.{elements, case_of}
use Rattle.cat_scope.specs.Composed.{Meaning, listed}
use Rattle.cat_scope.specs.Lists.{for_all, exists, mapped}
use Rattle.cat_scope.specs.Calls.{Items}
use Rattle.cat_scope.proofs.Exported.{and_then_and_then}
use Rattle.cat_code.specs.declared.instr.Instr.{Instr}
use Rattle.cat_code.specs.declared.instr.Instr.TheVariants as instr
use Rattle.cat_code.specs.declared.code.Tables.{Tables}
use Rattle.cat_code.specs.States.{State, on, push}
use Rattle.cat_code.specs.Runs.{Whole}
use Rattle.cat_lower.specs.Laying.{Ends, Coded, one, then_code, led, skip, end_of, loop}
use Rattle.cat_lower.specs.Pieces.{search_for, any_turn, all_turn, of_local}
use Rattle.cat_lower.specs.Expressions.{collecting}
use Rattle.cat_lower.specs.Stands.{Has}
use Rattle.cat_lower.proofs.Places.{first_of, second_of, rest_of}
use Rattle.cat_lower.proofs.Comes.{Comes, acted, goes_on, parted, found, alike}
use Rattle.cat_lower.proofs.Stacks.{dropped, length_append}
use Rattle.cat_lower.proofs.Doing.{Agree, here, Does, behind, does_reply}
use Rattle.cat_lower.proofs.Looping.{adding_each, mapped_folds, does_loop}
use Rattle.cat_lower.proofs.Searching.{looping, does_exists, does_for_all}

-- one of a reply, and then the rest
pub on_one_then : {A B C : Type 0} (r : Result A Stop) (f : A → Result B Stop) (k : B → Run C)
    → and_then (plain (on_one r f)) k ≡ and_then (plain r) (λ a. and_then (plain (f a)) k)
on_one_then (Ok a) f k = refl
on_one_then (Err stop) f k = refl

module _ (tables : Tables) (code : List Instr) (items : Items) where
  -- a value, and an instruction that goes on with a part of it
  does_part : {A : Type 0} (a : Meaning) (depth : ℕ) (ca : Coded) (i : Instr) (of : Value → Result A Stop)
      (made : A → Value)
      → ((v : Value) (p : ℕ) (locals : List Value) (s : State) (k : Value → Whole)
      → ((w : Value) → Comes tables code (here (p + 1) locals (push w s)) (k w))
      → slice_get code p ≡ Some i
      → Comes tables code (here p locals (push v s)) (and_then (plain (of v)) (λ x. k (made x))))
      → Does tables code items a depth ca
      → Does tables code items (λ locals. and_then (giving (a locals) of) (λ x. gives (made x))) depth
      (then_code ca (one i))
  does_part a depth ca i of made does da ends has locals deep s agree k next =
      let done = behind tables code items ca (one i) ends locals (λ w. push w s) k next in
      alike tables code _ _ _ (and_then_and_then (giving (a locals) of) _ k ∙ and_then_and_then (a locals) _ _)
      (da ends (first_of tables code ca (one i) ends has) locals deep s agree _
      (λ v. does v (end_of ca ends).place locals s k done (second_of tables code ca (one i) ends has).instructions.0))

  pub does_length : (a : Meaning) (depth : ℕ) (ca : Coded) → Does tables code items a depth ca
      → Does tables code items
      (λ locals. and_then (listed a locals) (λ vs. gives (flat.Integer (pos (length vs))))) depth
      (then_code ca (one instr.Length))
  does_length a depth ca da =
      does_part a depth ca instr.Length elements (λ vs. flat.Integer (pos (length vs)))
      (λ v p locals s k next is. acted tables code _ instr.Length _ is
      (parted tables code (elements v) _ _ (λ vs. goes_on tables code _ _ (next (flat.Integer (pos (length vs))))))) da

  -- a test of a case that stands at a number of the table
  pub does_is_case : (a : Meaning) (depth : ℕ) (ca : Coded) (c n m : ℕ) → Does tables code items a depth ca
      → slice_get tables.cases c ≡ Some (record { enumeration = n; case = m })
      → Does tables code items
      (λ locals. giving (a locals) (λ v. on_one (case_of v) (λ met. Ok (flat.Boolean (nat_eq met.0 m))))) depth
      (then_code ca (one (instr.IsCase c)))
  does_is_case a depth ca c n m da is_case =
      does_reply tables code items a depth ca (instr.IsCase c)
      (λ v. on_one (case_of v) (λ met. Ok (flat.Boolean (nat_eq met.0 m))))
      (λ v p locals s k next is. alike tables code _ _ _ (on_one_then (case_of v) _ k)
      (acted tables code _ (instr.IsCase c) _ is
      (parted tables code (case_of v) _ _ (λ met. found tables code _ _ _ _ is_case
      (goes_on tables code _ _ (next (flat.Boolean (nat_eq met.0 m)))))))) da

  pub does_case_alone : (depth : ℕ) (c n m : ℕ) → slice_get tables.cases c ≡ Some (record { enumeration = n; case = m })
      → Does tables code items (λ locals. gives (value.Case m None)) depth (one (instr.TagNone c))
  does_case_alone depth c n m is_case ends has locals deep s agree k next =
      acted tables code _ (instr.TagNone c) _ has.instructions.0
      (found tables code _ _ _ _ is_case (goes_on tables code _ _ (next (value.Case m None))))

  pub does_case_with : (a : Meaning) (depth : ℕ) (ca : Coded) (c n m : ℕ) → Does tables code items a depth ca
      → slice_get tables.cases c ≡ Some (record { enumeration = n; case = m })
      → Does tables code items (λ locals. and_then (a locals) (λ v. gives (value.Case m (Some v)))) depth
      (then_code ca (one (instr.Tag c)))
  does_case_with a depth ca c n m da is_case ends has locals deep s agree k next =
      let done = behind tables code items ca (one (instr.Tag c)) ends locals (λ w. push w s) k next in
      alike tables code _ _ _ (and_then_and_then (a locals) _ k)
      (da ends (first_of tables code ca (one (instr.Tag c)) ends has) locals deep s agree _
      (λ v. acted tables code _ (instr.Tag c) _ (second_of tables code ca (one (instr.Tag c)) ends has).instructions.0
      (found tables code _ _ _ _ is_case (goes_on tables code _ _ (done (value.Case m (Some v)))))))

  -- `for all` and `exists`, of a test of a local name
  tests_local : (of_test : Meaning) (depth : ℕ) (test : Coded) → Does tables code items of_test (depth + 1) test
      → (locals : List Value) → length locals ≡ depth → (s : State) → Agree s.slots items
      → (v : Value) (left : List Value) (ends : Ends) → Has tables code ends (of_local test ends) → (k : Value → Whole)
      → ((t : Value) → Comes tables code (here (end_of (of_local test) ends).place locals (push t (looping left s)))
      (k t))
      → Comes tables code (here ends.place locals (push v (looping left s))) (and_then (of_test (locals ++ v ∷ [])) k)
  tests_local of_test depth test does locals deep s agree v left ends has k next =
      let tail : Coded = one (instr.Drop 1) in
      let e1 = skip ends in
      let inner = rest_of tables code instr.Bind (then_code test tail) ends has in
      let done = behind tables code items test tail e1 locals (λ t. push t (looping left s)) k next in
      let deeper = length_append locals (v ∷ []) in
      acted tables code _ instr.Bind _ has.instructions.0 (goes_on tables code _ _
      (does e1 (first_of tables code test tail e1 inner) (locals ++ v ∷ []) (deeper ∙ ap (λ n. n + 1) deep)
      (looping left s) agree k
      (λ t. acted tables code _ (instr.Drop 1) _ (second_of tables code test tail e1 inner).instructions.0
      (goes_on tables code _ _
      (subst (λ (l : List Value). Comes tables code (here ((end_of test e1).place + 1) l (push t (looping left s)))
      (k t))
      (sym (dropped locals (v ∷ []) 1 refl)) (done t))))))

  pub does_some : (l of_test : Meaning) (depth : ℕ) (cl test : Coded) → Does tables code items l depth cl
      → Does tables code items of_test (depth + 1) test
      → Does tables code items (λ locals. and_then (listed l locals) (exists (λ v. of_test (locals ++ v ∷ [])))) depth
      (then_code cl (led instr.Iter (search_for (any_turn (of_local test)) false)))
  does_some l of_test depth cl test dl dt ends has locals deep s agree k next =
      let turns : Coded = search_for (any_turn (of_local test)) false in
      let tail : Coded = led instr.Iter turns in
      let e1 = end_of cl ends in
      let inner = second_of tables code cl tail ends has in
      let done = behind tables code items cl tail ends locals (λ w. push w s) k next in
      alike tables code _ _ _ (and_then_and_then (listed l locals) _ k ∙ and_then_and_then (l locals) _ _)
      (dl ends (first_of tables code cl tail ends has) locals deep s agree _
      (λ v. acted tables code _ instr.Iter _ inner.instructions.0
      (parted tables code (elements v) _ _
      (λ vs. goes_on tables code _ _
      (does_exists tables code (λ w. of_test (locals ++ w ∷ [])) (of_local test) locals s
      (tests_local of_test depth test dt locals deep s agree) vs (skip e1)
      (rest_of tables code instr.Iter turns e1 inner) k done)))))

  pub does_each : (l of_test : Meaning) (depth : ℕ) (cl test : Coded) → Does tables code items l depth cl
      → Does tables code items of_test (depth + 1) test
      → Does tables code items (λ locals. and_then (listed l locals) (for_all (λ v. of_test (locals ++ v ∷ [])))) depth
      (then_code cl (led instr.Iter (search_for (all_turn (of_local test)) true)))
  does_each l of_test depth cl test dl dt ends has locals deep s agree k next =
      let turns : Coded = search_for (all_turn (of_local test)) true in
      let tail : Coded = led instr.Iter turns in
      let e1 = end_of cl ends in
      let inner = second_of tables code cl tail ends has in
      let done = behind tables code items cl tail ends locals (λ w. push w s) k next in
      alike tables code _ _ _ (and_then_and_then (listed l locals) _ k ∙ and_then_and_then (l locals) _ _)
      (dl ends (first_of tables code cl tail ends has) locals deep s agree _
      (λ v. acted tables code _ instr.Iter _ inner.instructions.0
      (parted tables code (elements v) _ _
      (λ vs. goes_on tables code _ _
      (does_for_all tables code (λ w. of_test (locals ++ w ∷ [])) (of_local test) locals s
      (tests_local of_test depth test dt locals deep s agree) vs (skip e1)
      (rest_of tables code instr.Iter turns e1 inner) k done)))))

  -- a loop that collects
  abbrev pub gathering : List Value → List Value → State → State
  gathering done left s = record s { loops = record { left = left; collected = Some done } ∷ s.loops }

  pub does_map : (l e : Meaning) (depth : ℕ) (t : Ty) (cl ce : Coded) → Does tables code items l depth cl
      → Does tables code items e (depth + 1) ce
      → Does tables code items (λ locals. and_then (listed l locals)
      (λ vs. and_then (mapped (λ v. e (locals ++ v ∷ [])) vs) (λ ws. gives (value.List ws)))) depth
      (then_code cl (then_code (collecting t)
      (loop (led instr.Bind (then_code ce (led instr.Collect (one (instr.Drop 1))))))))
  does_map l e depth t cl ce dl de ends has locals deep s agree k next =
      let last : Coded = led instr.Collect (one (instr.Drop 1)) in
      let body : Coded = led instr.Bind (then_code ce last) in
      let turns : Coded = loop body in
      let tail : Coded = then_code (collecting t) turns in
      let e1 = end_of cl ends in
      let inner = second_of tables code cl tail ends has in
      let done = behind tables code items (collecting t) turns e1 locals (λ w. push w s) k
      (behind tables code items cl tail ends locals (λ w. push w s) k next) in
      alike tables code _ _ _ (and_then_and_then (listed l locals) _ k ∙ and_then_and_then (l locals) _ _)
      (dl ends (first_of tables code cl tail ends has) locals deep s agree _
      (λ v. acted tables code _ (instr.IterList e1.constants) _ inner.instructions.0
      (parted tables code (elements v) _ _
      (λ vs. goes_on tables code _ _
      (alike tables code _ _ _ (and_then_and_then (mapped (λ v. e (locals ++ v ∷ [])) vs) _ k
      ∙ mapped_folds (λ v. e (locals ++ v ∷ [])) vs [] (λ ws. k (value.List ws)))
      (does_loop tables code (adding_each (λ v. e (locals ++ v ∷ []))) body locals s (λ x left. gathering x left s)
      (λ x. push (value.List x) s) (λ x p q. refl) (λ x w ws p q. refl)
      (λ x w ws e2 has_body k next.
      let in_part = rest_of tables code instr.Bind (then_code ce last) e2 has_body in
      let at_last = second_of tables code ce last (skip e2) in_part in
      let on = behind tables code items ce last (skip e2) locals (λ y. gathering y ws s) k next in
      alike tables code _ _ _ (and_then_and_then (e (locals ++ w ∷ [])) _ k)
      (acted tables code _ instr.Bind _ has_body.instructions.0 (goes_on tables code _ _
      (de (skip e2) (first_of tables code ce last (skip e2) in_part) (locals ++ w ∷ [])
      (length_append locals (w ∷ []) ∙ ap (λ n. n + 1) deep) (gathering x ws s) agree _
      (λ y. acted tables code _ instr.Collect _ at_last.instructions.0 (goes_on tables code _ _
      (acted tables code _ (instr.Drop 1) _ at_last.instructions.1.0 (goes_on tables code _ _
      (subst (λ (ls : List Value). Comes tables code
      (here ((end_of ce (skip e2)).place + 1 + 1) ls (gathering (x ++ y ∷ []) ws s)) (k (x ++ y ∷ [])))
      (sym (dropped locals (w ∷ []) 1 refl)) (on (x ++ y ∷ [])))))))))))
      vs [] (end_of (collecting t) e1) (second_of tables code (collecting t) turns e1 inner) (λ ws. k (value.List ws))
      (λ ws. done (value.List ws))))))))
