-- Parts in a row do what they mean one after the other.
use Rattle.std.proofs.Common.{◌≡◌, ℕ, zero, suc, ◌+◌, ◌-◌, ◌<◌, Bool, true, false, List, [], ◌∷◌, ◌++◌, length, map}
use Rattle.std.proofs.Common.{take, Option, Some, None, Result, Ok, Err, refl, sym, ap, ◌∙◌, subst, slice_get, nat_eq}
use Rattle.std.proofs.Common.{arith, append_assoc, ◌&&◌}
use Rattle.std.proofs.lemmas.Bool.{eqb-true}
use Rattle.cat_value.specs.declared.value.Value.{Value}
use Rattle.cat_value.specs.declared.value.Value.TheViews as value
use Rattle.cat_value.specs.declared.declaration.ItemDecl.{ItemDecl}
use Rattle.cat_scope.specs.declared.stop.Stop.{Stop}
use Rattle.cat_scope.specs.Replies.{known, on_one, with_front}
use Rattle.cat_scope.specs.Runs.{Run, plain, gives, and_then, giving, in_front}
use Rattle.cat_scope.specs.Composed.{Meaning, value_given, in_order, structured}
use Rattle.cat_scope.specs.Names.{is_function}
use Rattle.cat_scope.specs.Calls.{Items}
use Rattle.cat_scope.proofs.Exported.{and_then_and_then}
use Rattle.cat_code.specs.declared.instr.Instr.{Instr}
use Rattle.cat_code.specs.declared.instr.Instr.TheVariants as instr
use Rattle.cat_code.specs.declared.code.Tables.{Tables}
use Rattle.cat_code.specs.States.{State, at, push}
use Rattle.cat_code.specs.Moves.{with_part, enters}
use Rattle.cat_code.specs.Runs.{Whole}
use Rattle.cat_lower.specs.Laying.{Ends, Coded, nothing, one, then_code, led, skip, end_of}
use Rattle.cat_lower.specs.Pieces.{index_of, are_counted, bind_all, picked, packed_by, packed}
use Rattle.cat_lower.specs.Stands.{Has}
use Rattle.std.proofs.lemmas.Option.{slice_get_within}
use Rattle.cat_lower.proofs.Places.{first_of, second_of, rest_of, past_append}
use Rattle.cat_lower.proofs.Comes.{Comes, Leads, acted, goes_on, stays_stuck, found, alike}
use Rattle.cat_lower.proofs.Stacks.{stacked, popped_all, dropped, read_behind, append_none, length_append, length_map}
use Rattle.cat_lower.proofs.Doing.{Agree, here, Does, behind}
use Rattle.cat_lower.proofs.DoingForms.{on_one_then}

-- what functions give is what the machine comes to from their entries, where it goes on behind the call
pub record CallsAre (tables : Tables) (code : List Instr) (number : ℕ → ℕ) (decls : List ItemDecl) (items : Items)
    (calls : ℕ → List Value → Run Value) : Type 0 where
  pub by : (f : ℕ) (decl : ItemDecl) → slice_get decls f ≡ Some decl → is_function decl ≡ true
      → (vs : List Value) → length vs ≡ length decl.params → (s : State) (k : Value → Whole) → Agree s.slots items
      → ((v : Value) → Comes tables code (at (s.place + 1) (push v s)) (k v))
      → Leads tables code (with_part (known (slice_get tables.functions (number f)))
      (λ entry. enters entry None s.slots vs s))
      (and_then (calls f vs) k)

module _ (tables : Tables) (code : List Instr) (items : Items) where
  -- code that pushes some values
  abbrev pub DoesAll : (List Value → Run (List Value)) → ℕ → ℕ → Coded → Type 0
  DoesAll meaning depth n a =
      (ends : Ends) → Has tables code ends (a ends) → (locals : List Value) → length locals ≡ depth
      → (s : State) → Agree s.slots items → (k : List Value → Whole)
      → ((vs : List Value) → length vs ≡ n
      → Comes tables code (here (end_of a ends).place locals (record s { operands = stacked s.operands vs })) (k vs))
      → Comes tables code (here ends.place locals s) (and_then (meaning locals) k)

  pub does_none : (depth : ℕ) → DoesAll (λ locals. gives []) depth 0 nothing
  does_none depth ends has locals deep s agree k next = next [] refl

  pub does_more : (a : Meaning) (b : List Value → Run (List Value)) (depth n : ℕ) (ca cb : Coded)
      → Does tables code items a depth ca
      → DoesAll b depth n cb → DoesAll (λ locals. in_front (a locals) (b locals)) depth (suc n) (then_code ca cb)
  does_more a b depth n ca cb da db ends has locals deep s agree k next =
      alike tables code _ _ _ (and_then_and_then (a locals) _ k)
      (da ends (first_of tables code ca cb ends has) locals deep s agree _
      (λ v. alike tables code _ _ _ (and_then_and_then (b locals) _ k)
      (db (end_of ca ends) (second_of tables code ca cb ends has) locals deep (push v s) agree _
      (λ vs e. subst (λ p. Comes tables code (here p locals (record s { operands = stacked (v ∷ s.operands) vs }))
      (k (v ∷ vs)))
      (past_append ends.place (ca ends).instructions (cb (end_of ca ends)).instructions) (next (v ∷ vs) (ap suc e))))))

  -- some values popped into one
  pub does_listed : (a : List Value → Run (List Value)) (depth n : ℕ) (ca : Coded) → DoesAll a depth n ca
      → Does tables code items (λ locals. and_then (a locals) (λ vs. gives (value.List vs))) depth
      (then_code ca (one (instr.List n)))
  does_listed a depth n ca da ends has locals deep s agree k next =
      let i : Coded = one (instr.List n) in
      let done = behind tables code items ca i ends locals (λ w. push w s) k next in
      alike tables code _ _ _ (and_then_and_then (a locals) _ k)
      (da ends (first_of tables code ca i ends has) locals deep s agree _
      (λ vs e. acted tables code _ (instr.List n) _ (second_of tables code ca i ends has).instructions.0
      (subst (λ x. Leads tables code x (k (value.List vs))) (sym (popped_all n vs s.operands _ _ e))
      (goes_on tables code _ _ (done (value.List vs))))))

  -- a call of a function
  pub does_call : (number : ℕ → ℕ) (decls : List ItemDecl) (calls : ℕ → List Value → Run Value)
      → CallsAre tables code number decls items calls
      → (f : ℕ) (decl : ItemDecl) → slice_get decls f ≡ Some decl → is_function decl ≡ true
      → (depth n : ℕ) → n ≡ length decl.params → (a : List Value → Run (List Value)) (ca : Coded) → DoesAll a depth n ca
      → Does tables code items (λ locals. and_then (a locals) (calls f)) depth
      (then_code ca (one (instr.Call (number f) n)))
  does_call number decls calls are f decl is function depth n counted a ca da ends has locals deep s agree k next =
      let i : Coded = one (instr.Call (number f) n) in
      let done = behind tables code items ca i ends locals (λ w. push w s) k next in
      alike tables code _ _ _ (and_then_and_then (a locals) _ k)
      (da ends (first_of tables code ca i ends has) locals deep s agree _
      (λ vs e. acted tables code _ (instr.Call (number f) n) _ (second_of tables code ca i ends has).instructions.0
      (subst (λ x. Leads tables code x (and_then (calls f vs) k)) (sym (popped_all n vs s.operands _ _ e))
      (are.by f decl is function vs (e ∙ counted) (here (end_of ca ends).place locals s) k agree done))))

  -- code that pushes the values of fields, which have these numbers
  abbrev pub DoesFields : (List Value → Run (List (ℕ × Value))) → ℕ → List ℕ → Coded → Type 0
  DoesFields meaning depth numbers a =
      (ends : Ends) → Has tables code ends (a ends) → (locals : List Value) → length locals ≡ depth
      → (s : State) → Agree s.slots items → (k : List (ℕ × Value) → Whole)
      → ((fs : List (ℕ × Value)) → map (λ f. f.0) fs ≡ numbers
      → Comes tables code (here (end_of a ends).place locals
      (record s { operands = stacked s.operands (map (λ f. f.1) fs) })) (k fs))
      → Comes tables code (here ends.place locals s) (and_then (meaning locals) k)

  pub does_no_field : (depth : ℕ) → DoesFields (λ locals. gives []) depth [] nothing
  does_no_field depth ends has locals deep s agree k next = next [] refl

  pub does_field_more : (n : ℕ) (a : Meaning) (b : List Value → Run (List (ℕ × Value))) (depth : ℕ) (ns : List ℕ)
      (ca cb : Coded)
      → Does tables code items a depth ca → DoesFields b depth ns cb
      → DoesFields (λ locals. in_front (and_then (a locals) (λ v. gives (n, v))) (b locals)) depth (n ∷ ns)
      (then_code ca cb)
  does_field_more n a b depth ns ca cb da db ends has locals deep s agree k next =
      alike tables code _ _ _ (and_then_and_then (and_then (a locals) (λ v. gives (n, v))) _ k
      ∙ and_then_and_then (a locals) _ _)
      (da ends (first_of tables code ca cb ends has) locals deep s agree _
      (λ v. alike tables code _ _ _ (and_then_and_then (b locals) _ k)
      (db (end_of ca ends) (second_of tables code ca cb ends has) locals deep (push v s) agree _
      (λ fs e. subst (λ p. Comes tables code
      (here p locals (record s { operands = stacked (v ∷ s.operands) (map (λ f. f.1) fs) })) (k ((n, v) ∷ fs)))
      (past_append ends.place (ca ends).instructions (cb (end_of ca ends)).instructions)
      (next ((n, v) ∷ fs) (ap (λ (l : List ℕ). n ∷ l) e))))))

-- ---- structures

-- the last one first
abbrev turned : {A : Type 0} → List A → List A
turned [] = []
turned (x ∷ xs) = turned xs ++ x ∷ []

length_turned : {A : Type 0} (xs : List A) → length (turned xs) ≡ length xs
length_turned [] = refl
length_turned (x ∷ xs) =
    let e = length_append (turned xs) (x ∷ []) in
    let f = length_turned xs in
    omega arith

-- what was pushed stands on top, the last one first
stacked_turned : (stack vs : List Value) → stacked stack vs ≡ turned vs ++ stack
stacked_turned stack [] = refl
stacked_turned stack (v ∷ vs) = stacked_turned (v ∷ stack) vs ∙ sym (append_assoc (turned vs) (v ∷ []) stack)

pub front_read : {A : Type 0} (xs ys : List A) (n : ℕ) → n < length xs → slice_get (xs ++ ys) n ≡ slice_get xs n
front_read [] ys n less = absurd (omega arith)
front_read (x ∷ xs) ys zero less = refl
front_read (x ∷ xs) ys (suc n) less = front_read xs ys n (omega arith)

turned_read : {A : Type 0} (xs : List A) (j : ℕ) (x : A) → slice_get xs j ≡ Some x
    → slice_get (turned xs) (length xs - suc j) ≡ Some x
turned_read [] j x is = absurd (cc is)
turned_read (y ∷ xs) zero x is =
    let e = length_turned xs in
    let n : length (y ∷ xs) - 1 ≡ length (turned xs) = omega arith in
    read_behind (turned xs) y [] (length (y ∷ xs) - 1) n ∙ is
turned_read (y ∷ xs) (suc j) x is =
    let less = slice_get_within xs j x is in
    let e = length_turned xs in
    let n : length (y ∷ xs) - suc (suc j) ≡ length xs - suc j = omega arith in
    let m : length xs - suc j < length (turned xs) = omega arith in
    ap (λ k. slice_get (turned xs ++ y ∷ []) k) n ∙ front_read (turned xs) (y ∷ []) (length xs - suc j) m
    ∙ turned_read xs j x is

pub back_read : {A : Type 0} (xs ys : List A) (n m : ℕ) → n ≡ length xs + m → slice_get (xs ++ ys) n ≡ slice_get ys m
back_read [] ys n m is = let e : n ≡ m = omega arith in ap (λ k. slice_get ys k) e
back_read (x ∷ xs) ys n m is =
    let e : n ≡ suc (length xs + m) = omega arith in
    ap (λ k. slice_get (x ∷ (xs ++ ys)) k) e ∙ back_read xs ys (length xs + m) m refl

-- a field that is given stands at the index of its number
given_at : (k : ℕ) (fs : List (ℕ × Value)) (v : Value) → value_given k fs ≡ Some v
    → slice_get (map (λ f. f.1) fs) (index_of k (map (λ f. f.0) fs)) ≡ Some v
given_at k [] v is = absurd (cc is)
given_at k (f ∷ fs) v is = by (nat_eq k f.0) refl (given_at k fs v)
  where
    by : (b : Bool) → nat_eq k f.0 ≡ b
        → (value_given k fs ≡ Some v → slice_get (map (λ f. f.1) fs) (index_of k (map (λ f. f.0) fs)) ≡ Some v)
        → slice_get (map (λ f. f.1) (f ∷ fs)) (index_of k (map (λ f. f.0) (f ∷ fs))) ≡ Some v
    by true e again = let w : value_given k (f ∷ fs) ≡ Some f.1 = rw e refl in rw e (sym w ∙ is)
    by false e again = let w : value_given k (f ∷ fs) ≡ value_given k fs = rw e refl in rw e (again (sym w ∙ is))

-- the numbers of some fields, and their values
abbrev numbers : List (ℕ × Value) → List ℕ
numbers fs = map (λ f. f.0) fs

abbrev values : List (ℕ × Value) → List Value
values fs = map (λ f. f.1) fs

same_length : (fs : List (ℕ × Value)) → length (values fs) ≡ length (numbers fs)
same_length [] = refl
same_length (f ∷ fs) = let e = same_length fs in omega arith

and_parts : (a b : Bool) → (a && b) ≡ true → (a ≡ true) × (b ≡ true)
and_parts true b e = (refl, e)
and_parts false b e = absurd (cc e)

not_same : (a b : ℕ) → (a ≡ b → ⊥) → nat_eq a b ≡ false
not_same a b other = by (nat_eq a b) refl
  where
    by : (t : Bool) → nat_eq a b ≡ t → nat_eq a b ≡ false
    by true e = absurd (other (eqb-true a b e))
    by false e = e

-- what is given for a number isn't in front, where the numbers in front are counted and come before it
passed_over : (k : ℕ) (front fs : List (ℕ × Value)) (n : ℕ) → are_counted n (numbers (front ++ fs)) ≡ true
    → n + length front ≡ k → value_given k (front ++ fs) ≡ value_given k fs
passed_over k [] fs n counted is = refl
passed_over k (f ∷ front) fs n counted is =
    let parts = and_parts (nat_eq n f.0) _ counted in
    let same : n ≡ f.0 = eqb-true n f.0 parts.0 in
    let other : nat_eq k f.0 ≡ false = not_same k f.0 (λ e. omega arith) in
    rw other (passed_over k front fs (n + 1) parts.1 (omega arith))

-- behind them stands the value of the next number
next_given : (k : ℕ) (front : List (ℕ × Value)) (f : ℕ × Value) (fs : List (ℕ × Value)) (n : ℕ)
    → are_counted n (numbers (front ++ f ∷ fs)) ≡ true → n + length front ≡ k
    → value_given k (front ++ f ∷ fs) ≡ Some f.1
next_given k [] f fs n counted is =
    let parts = and_parts (nat_eq n f.0) _ counted in
    let e : n ≡ k = omega arith in
    let same : nat_eq k f.0 ≡ true = ap (λ m. nat_eq m f.0) (sym e) ∙ parts.0 in
    rw same refl
next_given k (g ∷ front) f fs n counted is =
    let parts = and_parts (nat_eq n g.0) _ counted in
    let same : n ≡ g.0 = eqb-true n g.0 parts.0 in
    let other : nat_eq k g.0 ≡ false = not_same k g.0 (λ e. omega arith) in
    rw other (next_given k front f fs (n + 1) parts.1 (omega arith))

-- fields in the order of their declarations have their values in it
counted_in_order : (front fs : List (ℕ × Value)) → are_counted 0 (numbers (front ++ fs)) ≡ true
    → in_order (length fs) (length front) (front ++ fs) ≡ Ok (values fs)
counted_in_order front [] counted = refl
counted_in_order front (f ∷ fs) counted =
    let first = next_given (length front) front f fs 0 counted (omega arith) in
    let longer : length (front ++ f ∷ []) ≡ length front + 1 = length_append front (f ∷ []) in
    let moved : front ++ f ∷ fs ≡ (front ++ f ∷ []) ++ fs = sym (append_assoc front (f ∷ []) fs) in
    let rest : in_order (length fs) (length front + 1) (front ++ f ∷ fs) ≡ Ok (values fs)
    = ap (λ n. in_order (length fs) n (front ++ f ∷ fs)) (sym longer)
    ∙ ap (λ l. in_order (length fs) (length (front ++ f ∷ [])) l) moved
    ∙ counted_in_order (front ++ f ∷ []) fs (ap (λ l. are_counted 0 (numbers l)) (sym moved) ∙ counted) in
    rw (first, rest) refl

module _ (tables : Tables) (code : List Instr) (items : Items) where
  -- values on top become local names, the top one first
  does_bind_all : (ws : List Value) (n : ℕ) → length ws ≡ n → (ends : Ends) → Has tables code ends (bind_all n ends)
      → (locals : List Value) (s : State) (r : Whole)
      → Comes tables code (here (end_of (bind_all n) ends).place (locals ++ ws) s) r
      → Comes tables code (here ends.place locals (record s { operands = ws ++ s.operands })) r
  does_bind_all [] zero is ends has locals s r next =
      subst (λ (l : List Value). Comes tables code (here ends.place l s) r) (append_none locals) next
  does_bind_all [] (suc n) is ends has locals s r next = absurd (omega arith)
  does_bind_all (w ∷ ws) zero is ends has locals s r next = absurd (omega arith)
  does_bind_all (w ∷ ws) (suc n) is ends has locals s r next =
      acted tables code _ instr.Bind _ has.instructions.0 (goes_on tables code _ _
      (does_bind_all ws n (omega arith) (skip ends) (rest_of tables code instr.Bind (bind_all n) ends has)
      (locals ++ w ∷ []) s r
      (subst (λ (l : List Value). Comes tables code (here (end_of (bind_all n) (skip ends)).place l s) r)
      (sym (append_assoc locals (w ∷ []) ws)) next)))

  -- the values of fields are taken in the order of their numbers, by way of local names
  does_pick : (fs : List (ℕ × Value)) (depth : ℕ) (locals : List Value) → length locals ≡ depth
      → (n k : ℕ) (ends : Ends)
      → Has tables code ends (picked depth (numbers fs) k n ends) → (s : State) (r : List Value → Whole)
      → ((vs : List Value) → length vs ≡ n → Comes tables code (here (end_of (picked depth (numbers fs) k n) ends).place
      (locals ++ turned (values fs)) (record s { operands = stacked s.operands vs })) (r vs))
      → Comes tables code (here ends.place (locals ++ turned (values fs)) s) (and_then (plain (in_order n k fs)) r)
  does_pick fs depth locals deep zero k ends has s r next = next [] refl
  does_pick fs depth locals deep (suc n) k ends has s r next = by (value_given k fs) refl
      (λ v. does_pick fs depth locals deep n (k + 1) (skip ends)
      (rest_of tables code (instr.Local _) (picked depth (numbers fs) (k + 1) n) ends has)
      (push v s) (λ vs. r (v ∷ vs)) (λ vs e. next (v ∷ vs) (ap suc e)))
    where
      joined : (x : Result (List Value) Stop) (v : Value)
          → and_then (plain (on_one x (λ more. Ok (v ∷ more)))) r ≡ and_then (plain x) (λ vs. r (v ∷ vs))
      joined (Ok vs) v = refl
      joined (Err stop) v = refl

      there : (v : Value) → value_given k fs ≡ Some v
          → slice_get (locals ++ turned (values fs)) (depth + (length (numbers fs) - suc (index_of k (numbers fs))))
          ≡ Some v
      there v is =
          back_read locals (turned (values fs)) (depth + (length (numbers fs) - suc (index_of k (numbers fs))))
          (length (numbers fs) - suc (index_of k (numbers fs)))
          (ap (λ d. d + (length (numbers fs) - suc (index_of k (numbers fs)))) (sym deep))
          ∙ ap (λ l. slice_get (turned (values fs)) (l - suc (index_of k (numbers fs)))) (sym (same_length fs))
          ∙ turned_read (values fs) (index_of k (numbers fs)) v (given_at k fs v is)

      by : (o : Option Value) → value_given k fs ≡ o
          → ((v : Value) → Comes tables code (here (ends.place + 1) (locals ++ turned (values fs)) (push v s))
          (and_then (plain (in_order n (k + 1) fs)) (λ vs. r (v ∷ vs))))
          → Comes tables code (here ends.place (locals ++ turned (values fs)) s)
          (and_then (plain (with_front (known o) (in_order n (k + 1) fs))) r)
      by None is go = stays_stuck tables code _ _ refl
      by (Some v) is go =
          acted tables code _ (instr.Local _) _ has.instructions.0
          (found tables code _ _ _ _ (there v is)
          (goes_on tables code _ _ (alike tables code _ _ _ (joined (in_order n (k + 1) fs) v) (go v))))

  -- a structure of fields, whose numbers are counted or not
  does_packed : (b : Bool) (ns : List ℕ) → are_counted 0 ns ≡ b → (depth : ℕ) (fs : List (ℕ × Value)) → numbers fs ≡ ns
      → (ends : Ends) → Has tables code ends (packed_by b depth ns ends) → (locals : List Value) → length locals ≡ depth
      → (s : State) (k : Value → Whole)
      → ((v : Value) → Comes tables code (here (end_of (packed_by b depth ns) ends).place locals (push v s)) (k v))
      → Comes tables code (here ends.place locals (record s { operands = stacked s.operands (values fs) }))
      (and_then (plain (structured fs)) k)
  does_packed true ns counted depth fs is ends has locals deep s k next =
      let size : length (values fs) ≡ length ns = same_length fs ∙ ap (λ (l : List ℕ). length l) is in
      let whole : in_order (length fs) 0 fs ≡ Ok (values fs) =
      counted_in_order [] fs (ap (λ l. are_counted 0 l) is ∙ counted) in
      alike tables code _ _ _ (ap
      (λ (x : Result (List Value) Stop). and_then (plain (on_one x (λ vs. Ok (value.Structure vs)))) k) whole)
      (acted tables code _ (instr.Pack (length ns)) _ has.instructions.0
      (subst (λ x. Leads tables code x (k (value.Structure (values fs))))
      (sym (popped_all (length ns) (values fs) s.operands _ _ size))
      (goes_on tables code _ _ (next (value.Structure (values fs))))))
  does_packed false ns counted depth fs is ends has locals deep s k next =
      let n = length ns in
      let size : length (values fs) ≡ n = same_length fs ∙ ap (λ (l : List ℕ). length l) is in
      let count : length fs ≡ n = sym (length_map (λ (f : ℕ × Value). f.0) fs) ∙ ap (λ (l : List ℕ). length l) is in
      let packs : Coded = one (instr.Pack n) in
      let tail : Coded = led (instr.Drop n) packs in
      let picks : Coded = picked depth ns 0 n in
      let rest : Coded = then_code picks tail in
      let e1 = end_of (bind_all n) ends in
      let e2 = end_of picks e1 in
      let in_rest = second_of tables code (bind_all n) rest ends has in
      let at_tail = second_of tables code picks tail e1 in_rest in
      let done = behind tables code items picks tail e1 locals (λ w. push w s) k
      (behind tables code items (bind_all n) rest ends locals (λ w. push w s) k next) in
      let has_picks : Has tables code e1 (picked depth (numbers fs) 0 n e1)
      = subst (λ l. Has tables code e1 (picked depth l 0 n e1)) (sym is) (first_of tables code picks tail e1 in_rest) in
      let gone : take (length (locals ++ turned (values fs)) - n) (locals ++ turned (values fs)) ≡ locals
      = dropped locals (turned (values fs)) n (sym (length_turned (values fs) ∙ size)) in
      subst (λ (l : List Value). Comes tables code (here ends.place locals (record s { operands = l }))
      (and_then (plain (structured fs)) k))
      (sym (stacked_turned s.operands (values fs)))
      (does_bind_all (turned (values fs)) n (length_turned (values fs) ∙ size) ends
      (first_of tables code (bind_all n) rest ends has) locals s _
      (alike tables code _ _ _
      (on_one_then (in_order (length fs) 0 fs) _ k
      ∙ ap (λ m. and_then (plain (in_order m 0 fs)) (λ vs. k (value.Structure vs))) count)
      (does_pick fs depth locals deep n 0 e1 has_picks s (λ vs. k (value.Structure vs))
      (λ vs e. subst (λ l. Comes tables code (here (end_of (picked depth l 0 n) e1).place (locals ++ turned (values fs))
      (record s { operands = stacked s.operands vs })) (k (value.Structure vs))) (sym is)
      (acted tables code _ (instr.Drop n) _ at_tail.instructions.0 (goes_on tables code _ _
      (subst (λ (ls : List Value). Comes tables code
      (here (e2.place + 1) ls (record s { operands = stacked s.operands vs })) (k (value.Structure vs))) (sym gone)
      (acted tables code _ (instr.Pack n) _ at_tail.instructions.1.0
      (subst (λ x. Leads tables code x (k (value.Structure vs))) (sym (popped_all n vs s.operands _ _ e))
      (goes_on tables code _ _ (done (value.Structure vs))))))))))))

  pub does_structure : (a : List Value → Run (List (ℕ × Value))) (depth : ℕ) (ns : List ℕ) (ca : Coded)
      → DoesFields tables code items a depth ns ca
      → Does tables code items (λ locals. giving (a locals) structured) depth (then_code ca (packed depth ns))
  does_structure a depth ns ca da ends has locals deep s agree k next =
      let last : Coded = packed depth ns in
      alike tables code _ _ _ (and_then_and_then (a locals) _ k)
      (da ends (first_of tables code ca last ends has) locals deep s agree _
      (λ fs is. does_packed (are_counted 0 ns) ns refl depth fs is (end_of ca ends)
      (second_of tables code ca last ends has) locals deep s k
      (behind tables code items ca last ends locals (λ w. push w s) k next)))
