-- What instructions do with values that have parts, to a machine and to the state that it stands for.
use Rattle.std.proofs.Common.{◌≡◌, ◌≢◌, ℕ, ℤ, pos, zero, suc, ◌+◌, ◌-◌, ◌<◌, ◌≤◌, nat_eq, List, [], ◌∷◌, ◌++◌, length}
use Rattle.std.proofs.Common.{take, drop}
use Rattle.std.proofs.Common.{reverse, Option, Some, None, Result, Ok, Err, slice_get, get_or, refl, sym, ap, ◌∙◌}
use Rattle.std.proofs.Common.{subst, arith, rules}
use Rattle.std.proofs.Common.{length-take-le, length-drop}
use Rattle.std.proofs.lemmas.List.{length-map}
use Rattle.cat_value.specs.declared.value.Value.{Value}
use Rattle.cat_value.specs.declared.value.Value.TheVariants as flat
use Rattle.cat_value.specs.declared.value.Value.TheViews as value
use Rattle.cat_scope.specs.declared.stop.Stop.{Stop}
use Rattle.cat_scope.specs.declared.stop.Stop.TheVariants.{Stuck}
use Rattle.cat_scope.specs.Composed.{part}
use Rattle.cat_scope.specs.Projections.{case_of, elements, parts}
use Rattle.cat_scope.specs.Replies.{known, on_one}
use Rattle.cat_code.specs.declared.code.CasePlace.{CasePlace}
use Rattle.cat_code.specs.declared.code.Tables.{Tables}
use Rattle.cat_code.specs.declared.instr.Instr.TheVariants as instr
use Rattle.cat_code.specs.Machine.{act}
use Rattle.cat_code.specs.Moves.{pop, pop_all, pushes, with_part}
use Rattle.cat_code.specs.States.{Goes, Next, State, on, push, stuck}
use Rattle.cat_pool.specs.declared.node.PoolNode.{PoolNode}
use Rattle.cat_pool.specs.declared.node.PoolNode.TheVariants as node
use Rattle.cat_pool.specs.declared.node.Refs.{Refs}
use Rattle.cat_pool.specs.Nodes.{Standing, AreBelow, IsPlaced, at, in_range, listed, lone, seen_at, structured}
use Rattle.cat_pool.specs.Nodes.{value_in, values}
use Rattle.cat_pool.proofs.Exported.{below-drop, below-take}
use Rattle.cat_machine.specs.declared.machine.Machine.{Machine}
use Rattle.cat_machine.specs.States.{decided, slot, state_at}
use Rattle.cat_machine.specs.Steps.{OneMore, behind}
use Rattle.cat_machine.specs.inside.Machines.{IsMachine}
use Rattle.cat_machine.specs.inside.Putting.{Puts}
use Rattle.cat_machine.proofs.CallSteps.{all_popped}
use Rattle.cat_machine.proofs.Holding.{below_at, below_reverse, get_at, with_operands}
use Rattle.cat_machine.proofs.Holding.{without_operand}
use Rattle.cat_machine.proofs.NodeKinds.{at_is, elements_are, fields_are}
use Rattle.cat_machine.proofs.Popping.{popped_so}
use Rattle.cat_machine.proofs.Pushing.{node_machine, node_told, puts_machine, puts_told, ref_machine, ref_told}
use Rattle.cat_machine.proofs.Unstuck.{entry_needs, local_needs}

-- ---- several operands

-- the parts are nodes of the pool
pub parts_below : (tables : Tables) (n : ℕ) (m : Machine) (parts : List ℕ) → IsMachine tables m
    → parts ≡ reverse (take n m.operands)
    → AreBelow (length m.pool) parts
parts_below tables n m parts is last =
    subst (λ (rs : List ℕ). AreBelow (length m.pool) rs) (sym last)
    (below_reverse (length m.pool) (take n m.operands) (below-take (length m.pool) n m.operands is.operands))

-- they are the parts of a node that is put in their place
module _ (tables : Tables) (place n r : ℕ) (m : Machine) (parts left ops : List ℕ) (pool : List Standing)
    (is : IsMachine tables m)
    (fits : n ≤ length m.operands) (last : parts ≡ reverse (take n m.operands)) (forgot : left ≡ drop n m.operands)
    (at_end : r ≡ length m.pool) (on_top : ops ≡ r ∷ left) where
  rest_machine : IsMachine tables (record m { operands = left })
  rest_machine =
      with_operands tables m is left
      (subst (λ (rs : List ℕ). AreBelow (length m.pool) rs) (sym forgot)
      (below-drop (length m.pool) n m.operands is.operands))

  made : (s : List Value → Value) → pop_all n (state_at tables place m) (λ vs t. on (push (s vs) t))
      ≡ on (push (s (seen_at m.pool parts)) (state_at tables place (record m { operands = left })))
  made s =
      all_popped tables place n m left (λ vs t. on (push (s vs) t)) fits forgot
      ∙ ap (λ (l : List ℕ). on (push (s (seen_at m.pool l)) (state_at tables place (record m { operands = left }))))
      (sym last)

  module _ (put : pool ≡ m.pool ++ structured m.pool parts ∷ []) where
    pub pack_told : behind (decided tables m.log) (act tables (instr.Pack n) (state_at tables place m))
        ≡ Goes (decided tables m.log) (state_at tables (place + 1) (record m { pool = pool; operands = ops }))
    pack_told =
        node_told tables place r (record m { operands = left }) rest_machine ops on_top (structured m.pool parts) pool
        put at_end
        (act tables (instr.Pack n) (state_at tables place m)) (made value.Structure)

    pub pack_machine : IsMachine tables (record m { pool = pool; operands = ops })
    pack_machine =
        node_machine tables place r (record m { operands = left }) rest_machine ops on_top (structured m.pool parts)
        pool put at_end

  module _ (put : pool ≡ m.pool ++ listed m.pool parts ∷ []) where
    pub list_told : behind (decided tables m.log) (act tables (instr.List n) (state_at tables place m))
        ≡ Goes (decided tables m.log) (state_at tables (place + 1) (record m { pool = pool; operands = ops }))
    list_told =
        node_told tables place r (record m { operands = left }) rest_machine ops on_top (listed m.pool parts) pool put
        at_end
        (act tables (instr.List n) (state_at tables place m)) (made value.List)

    pub list_machine : IsMachine tables (record m { pool = pool; operands = ops })
    list_machine =
        node_machine tables place r (record m { operands = left }) rest_machine ops on_top (listed m.pool parts) pool
        put at_end

-- ---- parts of one value

none_of : (k : ℕ) → case_of (value.Case k None) ≡ Ok (k, None)
none_of k = search (rules, value.the_lemmas)

some_of : (k : ℕ) (v : Value) → case_of (value.Case k (Some v)) ≡ Ok (k, Some v)
some_of k v = search (rules, value.the_lemmas)

-- a node of another kind
pub no_case : (nodes : List Standing) (n : PoolNode) → ((k : ℕ) (content : Option ℕ) → n ≡ node.Case k content → ⊥)
    → case_of (value_in nodes n) ≡ Err Stuck
no_case nodes (node.Case k content) other = absurd (other k content refl)
no_case nodes _ other = search (rules, value.the_lemmas)

-- the number and the content of a node
pub case_in_node : (nodes : List Standing) (k : ℕ) (content : Option ℕ)
    → case_of (value_in nodes (node.Case k content)) ≡ Ok (k, slot (values nodes) content)
case_in_node nodes k None = none_of k
case_in_node nodes k (Some r) = some_of k (at (values nodes) r)

there : (refs : List ℕ) (i : ℕ) → i < length refs → slice_get refs i ≡ Some (get_or refs i 0)
there refs i within = get_at refs i (get_or refs i 0) 0 within refl

seen_there : (nodes : List Standing) (refs : List ℕ) (i q : ℕ) → slice_get refs i ≡ Some q
    → slice_get (seen_at nodes refs) i ≡ Some (at (values nodes) q)
seen_there nodes [] i q is = absurd (cc is)
seen_there nodes (r ∷ refs) zero q is = let same : r ≡ q = cc is in ap (λ p. Some (at (values nodes) p)) same
seen_there nodes (r ∷ refs) (suc i) q is = seen_there nodes refs i q is

module _ (tables : Tables) (place : ℕ) (m : Machine) (r : ℕ) (rest : List ℕ) (top : m.operands ≡ r ∷ rest) (v : Value)
    (stands : slice_get (values m.pool) r ≡ Some v) where
  -- the state without the operand on top
  abbrev pub under : State
  under = state_at tables place (record m { operands = rest })

  popped_as : (go : Value → State → Next) → pop (state_at tables place m) go ≡ go v under
  popped_as go =
      popped_so tables place r rest m go top ∙ ap (λ (w : Value). go w under) (at_is (values m.pool) r v stands)

  module _ (refs : List ℕ) (is : v ≡ value.Structure (seen_at m.pool refs)) (i : ℕ) where
    field_is : act tables (instr.Field i) (state_at tables place m)
        ≡ pushes (known (slice_get (seen_at m.pool refs) i)) under
    field_is =
        popped_as (λ w s. pushes (part i w) s)
        ∙ ap (λ (w : Value). pushes (part i w) under) is
        ∙ ap (λ (p : Result (List Value) Stop). pushes (on_one p (λ vs. known (slice_get vs i))) under)
        (fields_are (seen_at m.pool refs))

    pub field_within : act tables (instr.Field i) (state_at tables place m) ≢ stuck → i < length refs
    field_within going = local_needs m.pool refs i (λ w. on (push w under)) (λ e. going (field_is ∙ e))

    pub field_leads : (q : ℕ) → slice_get refs i ≡ Some q
        → act tables (instr.Field i) (state_at tables place m) ≡ on (push (at (values m.pool) q) under)
    field_leads q there =
        field_is ∙ ap (λ (o : Option Value). pushes (known o) under) (seen_there m.pool refs i q there)

  pub tag_leads : (c : ℕ) (entry : CasePlace) → slice_get tables.cases c ≡ Some entry
      → act tables (instr.Tag c) (state_at tables place m) ≡ on (push (value.Case entry.case (Some v)) under)
  tag_leads c entry is =
      popped_as
      (λ w s. with_part (known (slice_get tables.cases c)) (λ p. on (push (value.Case p.case (Some w)) s)))
      ∙ ap (λ (o : Option CasePlace). with_part (known o) (λ p. on (push (value.Case p.case (Some v)) under))) is

  pub tag_has : (c : ℕ) → act tables (instr.Tag c) (state_at tables place m) ≢ stuck → c < length tables.cases
  tag_has c going =
      entry_needs tables.cases c (λ p. on (push (value.Case p.case (Some v)) under))
      (λ e. going (popped_as
      (λ w s. with_part (known (slice_get tables.cases c)) (λ p. on (push (value.Case p.case (Some w)) s))) ∙ e))

  module _ (k : ℕ) (content : Option Value) (is : case_of v ≡ Ok (k, content)) where
    is_case_is : (c : ℕ) → act tables (instr.IsCase c) (state_at tables place m)
        ≡ with_part (known (slice_get tables.cases c)) (λ p. on (push (flat.Boolean (nat_eq k p.case)) under))
    is_case_is c =
        popped_as
        (λ w s. with_part (case_of w) (λ met. with_part (known (slice_get tables.cases c))
        (λ p. on (push (flat.Boolean (nat_eq met.0 p.case)) s))))
        ∙ ap (λ (x : Result (ℕ × Option Value) Stop). with_part x (λ met. with_part (known (slice_get tables.cases c))
        (λ p. on (push (flat.Boolean (nat_eq met.0 p.case)) under)))) is

    pub is_case_has : (c : ℕ) → act tables (instr.IsCase c) (state_at tables place m) ≢ stuck → c < length tables.cases
    is_case_has c going =
        entry_needs tables.cases c (λ p. on (push (flat.Boolean (nat_eq k p.case)) under))
        (λ e. going (is_case_is c ∙ e))

    pub is_case_leads : (c : ℕ) (entry : CasePlace) → slice_get tables.cases c ≡ Some entry
        → act tables (instr.IsCase c) (state_at tables place m) ≡ on (push (flat.Boolean (nat_eq k entry.case)) under)
    is_case_leads c entry has =
        is_case_is c
        ∙ ap (λ (o : Option CasePlace). with_part (known o) (λ p. on (push (flat.Boolean (nat_eq k p.case)) under))) has

    pub content_is : act tables instr.Content (state_at tables place m) ≡ pushes (known content) under
    content_is =
        popped_as (λ w s. with_part (case_of w) (λ met. pushes (known met.1) s))
        ∙ ap (λ (x : Result (ℕ × Option Value) Stop). with_part x (λ met. pushes (known met.1) under)) is

  pub length_leads : (vs : List Value) → v ≡ value.List vs
      → act tables instr.Length (state_at tables place m) ≡ on (push (flat.Integer (pos (length vs))) under)
  length_leads vs is =
      popped_as (λ w s. with_part (elements w) (λ xs. on (push (flat.Integer (pos (length xs))) s)))
      ∙ ap (λ (w : Value). with_part (elements w) (λ xs. on (push (flat.Integer (pos (length xs))) under))) is
      ∙ ap (λ (x : Result (List Value) Stop). with_part x (λ xs. on (push (flat.Integer (pos (length xs))) under)))
      (elements_are vs)

  module _ (is : IsMachine tables m) where
    abbrev pub base : Machine
    base = record m { operands = rest }

    base_machine : IsMachine tables base
    base_machine = without_operand tables m is r rest top

    module _ (refs : List ℕ) (fields : v ≡ value.Structure (seen_at m.pool refs)) (i : ℕ) (within : i < length refs)
        (ops : List ℕ)
        (on_top : ops ≡ get_or refs i 0 ∷ rest) where
      pub field_told : behind (decided tables m.log) (act tables (instr.Field i) (state_at tables place m))
          ≡ Goes (decided tables m.log) (state_at tables (place + 1) (record m { operands = ops }))
      field_told =
          ref_told tables place (get_or refs i 0) base base_machine ops on_top
          (act tables (instr.Field i) (state_at tables place m))
          (field_leads refs fields i (get_or refs i 0) (there refs i within))

      pub field_machine : AreBelow (length m.pool) refs → IsMachine tables (record m { operands = ops })
      field_machine are =
          ref_machine tables place (get_or refs i 0) base base_machine ops on_top
          (below_at (length m.pool) refs i (get_or refs i 0) are (there refs i within))

    module _ (q : ℕ) (pool : List Standing) (last : q ≡ length m.pool) (ops : List ℕ) (on_top : ops ≡ q ∷ rest) where
      module _ (c : ℕ) (entry : CasePlace) (has : slice_get tables.cases c ≡ Some entry)
          (put : pool ≡ m.pool ++ lone (value.Case entry.case (Some (at (values m.pool) r))) ∷ []) where
        pub tag_told : behind (decided tables m.log) (act tables (instr.Tag c) (state_at tables place m))
            ≡ Goes (decided tables m.log) (state_at tables (place + 1) (record m { pool = pool; operands = ops }))
        tag_told =
            node_told tables place q base base_machine ops on_top
            (lone (value.Case entry.case (Some (at (values m.pool) r)))) pool put last
            (act tables (instr.Tag c) (state_at tables place m)) (tag_leads c entry has
            ∙ ap (λ (w : Value). on (push (value.Case entry.case (Some w)) under))
            (sym (at_is (values m.pool) r v stands)))

        pub tag_machine : IsMachine tables (record m { pool = pool; operands = ops })
        tag_machine =
            node_machine tables place q base base_machine ops on_top
            (lone (value.Case entry.case (Some (at (values m.pool) r)))) pool put last

      module _ (vs : List Value) (elements : v ≡ value.List vs) (count : ℤ) (counted : count ≡ pos (length vs))
          (put : pool ≡ m.pool ++ lone (flat.Integer count) ∷ []) where
        pub length_told : behind (decided tables m.log) (act tables instr.Length (state_at tables place m))
            ≡ Goes (decided tables m.log) (state_at tables (place + 1) (record m { pool = pool; operands = ops }))
        length_told =
            node_told tables place q base base_machine ops on_top (lone (flat.Integer count)) pool put last
            (act tables instr.Length (state_at tables place m)) (length_leads vs elements
            ∙ ap (λ (n : ℤ). on (push (flat.Integer n) under)) (sym counted))

        pub length_machine : IsMachine tables (record m { pool = pool; operands = ops })
        length_machine =
            node_machine tables place q base base_machine ops on_top (lone (flat.Integer count)) pool put last

    -- whether it is a case
    module _ (k c : ℕ) (content : Option Value) (met : case_of v ≡ Ok (k, content)) (entry : CasePlace)
        (has : slice_get tables.cases c ≡ Some entry) (new : Machine) (q : ℕ)
        (puts : Puts base new (flat.Boolean (nat_eq k entry.case)) q)
        (more : OneMore m.pool new.pool) (ops : List ℕ) (on_top : ops ≡ q ∷ new.operands) where
      pub is_case_told : behind (decided tables m.log) (act tables (instr.IsCase c) (state_at tables place m))
          ≡ Goes (decided tables new.log) (state_at tables (place + 1) (record new { operands = ops }))
      is_case_told =
          puts_told tables base new (flat.Boolean (nat_eq k entry.case)) q base_machine puts more ops on_top place
          (act tables (instr.IsCase c) (state_at tables place m)) (is_case_leads k content met c entry has)

      pub is_case_machine : IsMachine tables (record new { operands = ops })
      is_case_machine =
          puts_machine tables base new (flat.Boolean (nat_eq k entry.case)) q base_machine puts more ops on_top

    -- the content of a case
    module _ (k q : ℕ) (met : case_of v ≡ Ok (k, Some (at (values m.pool) q))) (ops : List ℕ)
        (on_top : ops ≡ q ∷ rest) where
      pub content_told : behind (decided tables m.log) (act tables instr.Content (state_at tables place m))
          ≡ Goes (decided tables m.log) (state_at tables (place + 1) (record m { operands = ops }))
      content_told =
          ref_told tables place q base base_machine ops on_top (act tables instr.Content (state_at tables place m))
          (content_is k (Some (at (values m.pool) q)) met)

      pub content_machine : q < length m.pool → IsMachine tables (record m { operands = ops })
      content_machine within = ref_machine tables place q base base_machine ops on_top within

  -- a step that isn't stuck finds a value of its kind
  pub field_kind : (i : ℕ) → parts v ≡ Err Stuck → act tables (instr.Field i) (state_at tables place m) ≢ stuck → ⊥
  field_kind i other going =
      going (popped_as (λ w s. pushes (part i w) s)
      ∙ ap (λ (p : Result (List Value) Stop). pushes (on_one p (λ vs. known (slice_get vs i))) under) other)

  pub is_case_kind : (c : ℕ) → case_of v ≡ Err Stuck → act tables (instr.IsCase c) (state_at tables place m) ≢ stuck → ⊥
  is_case_kind c other going =
      going (popped_as (λ w s. with_part (case_of w) (λ met. with_part (known (slice_get tables.cases c))
      (λ p. on (push (flat.Boolean (nat_eq met.0 p.case)) s))))
      ∙ ap (λ (x : Result (ℕ × Option Value) Stop). with_part x (λ met. with_part (known (slice_get tables.cases c))
      (λ p. on (push (flat.Boolean (nat_eq met.0 p.case)) under)))) other)

  pub content_kind : case_of v ≡ Err Stuck → act tables instr.Content (state_at tables place m) ≢ stuck → ⊥
  content_kind other going =
      going (popped_as (λ w s. with_part (case_of w) (λ met. pushes (known met.1) s))
      ∙ ap (λ (x : Result (ℕ × Option Value) Stop). with_part x (λ met. pushes (known met.1) under)) other)

  pub length_kind : elements v ≡ Err Stuck → act tables instr.Length (state_at tables place m) ≢ stuck → ⊥
  length_kind other going =
      going (popped_as (λ w s. with_part (elements w) (λ xs. on (push (flat.Integer (pos (length xs))) s)))
      ∙ ap (λ (x : Result (List Value) Stop). with_part x (λ xs. on (push (flat.Integer (pos (length xs))) under)))
      other)

  -- a case without content has none to push
  pub content_there : (k : ℕ) (content : Option ℕ) → ((q : ℕ) → content ≡ Some q → ⊥)
      → case_of v ≡ Ok (k, slot (values m.pool) content) → act tables instr.Content (state_at tables place m) ≢ stuck
      → ⊥
  content_there k None none met going = going (content_is k None met)
  content_there k (Some q) none met going = none q refl

-- the content of a case is a node of the pool
pub content_within : (nodes : List Standing) (r : ℕ) (n : PoolNode) (k : ℕ) (content : Option ℕ) (q : ℕ)
    → r < length nodes
    → IsPlaced nodes r n → n ≡ node.Case k content → content ≡ Some q → q < length nodes
content_within nodes r n k content q within placed is has =
    let whole : n ≡ node.Case k (Some q) = is ∙ ap (node.Case k) has in
    let below : q < r = subst (λ (x : PoolNode). IsPlaced nodes r x) whole placed in
    omega (arith, below, within)

-- a case that has no content
module _ (tables : Tables) (place c : ℕ) (m : Machine) (entry : CasePlace)
    (has : slice_get tables.cases c ≡ Some entry) where
  pub tag_none_leads : act tables (instr.TagNone c) (state_at tables place m)
      ≡ on (push (value.Case entry.case None) (state_at tables place m))
  tag_none_leads =
      ap (λ (o : Option CasePlace). with_part (known o)
      (λ p. on (push (value.Case p.case None) (state_at tables place m)))) has

-- the case of a number is one of the tables
pub tag_none_has : (tables : Tables) (place c : ℕ) (m : Machine)
    → act tables (instr.TagNone c) (state_at tables place m) ≢ stuck
    → c < length tables.cases
tag_none_has tables place c m going =
    entry_needs tables.cases c (λ p. on (push (value.Case p.case None) (state_at tables place m))) going

-- as many as the range has
pub length-in_range : (nodes : List Standing) (kept : List ℕ) (refs : Refs) → refs.start ≤ refs.end
    → refs.end ≤ length kept
    → length (seen_at nodes (in_range kept refs)) ≡ refs.end - refs.start
length-in_range nodes kept refs ordered within =
    length-map (in_range kept refs) (at (values nodes))
    ∙ length-take-le (refs.end - refs.start) (drop refs.start kept)
    (omega (arith, ordered, within, length-drop refs.start kept))
