-- The code of a term adds what the term comes to to the top default frame.
use Rattle.std.proofs.Common.{◌≡◌, ℕ, ◌+◌, List, [], ◌∷◌, ◌++◌, map, Option, Some, None, Err}
use Rattle.std.proofs.Common.{refl, sym, ap, ◌∙◌, subst, slice_get}
use Rattle.cat_pos.specs.declared.pos.Pos.{Pos}
use Rattle.cat_value.specs.declared.value.Value.{Value}
use Rattle.cat_scope.specs.declared.stop.Stop.TheVariants.{Conflict}
use Rattle.cat_scope.specs.declared.expr.Expr.{Expr}
use Rattle.cat_scope.specs.Runs.{Run, plain, gives, and_then, giving}
use Rattle.cat_scope.specs.Projections.{truth}
use Rattle.cat_scope.specs.Judging.{Held, Judged, with_held, holding, in_source_order, positions_in, alone, settle}
use Rattle.cat_scope.specs.Judging.{found_or, or_else}
use Rattle.cat_scope.specs.Names.{AllHave}
use Rattle.cat_scope.specs.Calls.{Items}
use Rattle.cat_scope.proofs.Exported.{Each, and_then_and_then}
use Rattle.cat_calc.specs.declared.term.Justification.{Justification}
use Rattle.cat_calc.specs.declared.term.Justification.TheVariants as justification
use Rattle.cat_calc.specs.declared.term.DefaultTerm.{DefaultTerm}
use Rattle.cat_calc.specs.Terms.{condition_in}
use Rattle.cat_calc.specs.Reducing.{justified, reduced}
use Rattle.cat_calc.proofs.Exported.{or_else_none}
use Rattle.cat_code.specs.declared.instr.Instr.{Instr}
use Rattle.cat_code.specs.declared.instr.Instr.TheVariants as instr
use Rattle.cat_code.specs.declared.code.TargetEntry.{TargetEntry}
use Rattle.cat_code.specs.declared.code.Tables.{Tables}
use Rattle.cat_code.specs.States.{State, DefaultFrame, Next, on, to}
use Rattle.cat_code.specs.Moves.{with_part, if_held}
use Rattle.cat_code.specs.Runs.{Whole}
use Rattle.cat_lower.specs.Laying.{Ends, Coded, nothing, one, then_code, led, skip, end_of, over, all_code}
use Rattle.cat_lower.specs.Terms.{TermStanding, condition_code, value_code, under, otherwise, framed as framed_code}
use Rattle.cat_lower.specs.Terms.{default_code, term_code}
use Rattle.cat_lower.specs.Stands.{Has}
use Rattle.cat_lower.proofs.Places.{first_of, second_of, rest_of}
use Rattle.cat_lower.proofs.Comes.{Comes, Leads, acted, goes_on, ends_with, found, chosen, alike}
use Rattle.cat_lower.proofs.Doing.{Agree, here, behind}
use Rattle.cat_lower.proofs.AddedHeld.{added, adds, adds_all, all_added, conflict_renumbered, entries, framed}
use Rattle.cat_lower.proofs.AddedHeld.{renumbered, settle_one, tested}

module _ (tables : Tables) (code : List Instr) (items : Items) (locals : List Value) (base : ℕ) where
  -- what code does that pushes a value, under these local names
  abbrev pub DoesAt : Run Value → Coded → Type 0
  DoesAt r a = (ends : Ends) → Has tables code ends (a ends) → (s : State) → Agree s.slots items → (k : Value → Whole)
      → ((v : Value) → Comes tables code (here (end_of a ends).place locals (record s { operands = v ∷ s.operands }))
      (k v))
      → Comes tables code (here ends.place locals s) (and_then r k)

  -- what code does that adds to the top default frame
  abbrev pub Adds : Judged Value → Coded → Type 0
  Adds judged a = (ends : Ends) → Has tables code ends (a ends) → (s : State) (f : DefaultFrame) → Agree s.slots items
      → (k : Option (Held Value) → Whole)
      → ((o : Option (Held Value))
      → Comes tables code (here (end_of a ends).place locals (framed (adds base o f) s)) (k o))
      → Comes tables code (here ends.place locals (framed f s)) (and_then judged k)

  -- the same of several
  abbrev pub AddsAll : Run (List (Held Value)) → Coded → Type 0
  AddsAll judged a =
      (ends : Ends) → Has tables code ends (a ends) → (s : State) (f : DefaultFrame) → Agree s.slots items
      → (k : List (Held Value) → Whole)
      → ((hs : List (Held Value))
      → Comes tables code (here (end_of a ends).place locals (framed (adds_all base hs f) s)) (k hs))
      → Comes tables code (here ends.place locals (framed f s)) (and_then judged k)

  pub adds_nothing : Adds (gives None) nothing
  adds_nothing ends has s f agree k next = next None

  pub holds : (n : ℕ) (p : Pos) (r : Run Value) (a : Coded) → slice_get tables.definitions (base + n) ≡ Some p
      → DoesAt r a
      → Adds (and_then r (λ v. gives (Some (record { number = n; pos = p; value = v }))))
      (then_code a (one (instr.Hold (base + n))))
  holds n p r a is da ends has s f agree k next =
      let hold : Coded = one (instr.Hold (base + n)) in
      let done = behind tables code items a hold ends locals (λ o. framed (adds base o f) s) k next in
      alike tables code _ _ _ (and_then_and_then r _ k)
      (da ends (first_of tables code a hold ends has) (framed f s) agree _
      (λ v. acted tables code _ (instr.Hold (base + n)) _ (second_of tables code a hold ends has).instructions.0
      (found tables code _ _ _ _ is
      (goes_on tables code _ _ (done (Some (record { number = n; pos = p; value = v })))))))

  pub none_added : AddsAll (gives []) nothing
  none_added ends has s f agree k next = next []

  pub more_added : (j : Judged Value) (js : Run (List (Held Value))) (a b : Coded) → Adds j a → AddsAll js b
      → AddsAll (and_then j (λ o. and_then js (λ more. gives (with_held o more)))) (then_code a b)
  more_added j js a b da db ends has s f agree k next =
      let done = behind tables code items a b ends locals (λ hs. framed (adds_all base hs f) s) k next in
      alike tables code _ _ _ (and_then_and_then j _ k)
      (da ends (first_of tables code a b ends has) s f agree _
      (λ o. alike tables code _ _ _ (and_then_and_then js _ k)
      (db (end_of a ends) (second_of tables code a b ends has) s (adds base o f) agree _ (by o done))))
    where
      by : (o : Option (Held Value))
          → ((hs : List (Held Value))
          → Comes tables code (here (end_of b (end_of a ends)).place locals (framed (adds_all base hs f) s)) (k hs))
          → (hs : List (Held Value))
          → Comes tables code (here (end_of b (end_of a ends)).place locals
          (framed (adds_all base hs (adds base o f)) s))
          (and_then (gives (with_held o hs)) k)
      by None done hs = done hs
      by (Some h) done hs = done (h ∷ hs)

  -- a frame that is checked: two entries or more are a conflict
  checked : (v : ℕ) (entry : TargetEntry) → slice_get tables.targets v ≡ Some entry
      → (p : ℕ) (s : State) (c : Option ℕ) (hs : List (Held Value))
      → slice_get code p ≡ Some (instr.Check v) → (k : Option (Held Value) → Whole)
      → ((o : Option (Held Value))
      → Comes tables code (here (p + 1) locals (framed (tested v (entries base o)) s)) (k o))
      → Comes tables code (here p locals (framed (record { checked = c; held = map (renumbered base) hs }) s))
      (and_then (plain (alone entry.target hs)) k)
  checked v entry is p s c hs at k next =
      acted tables code _ (instr.Check v) _ at (found tables code _ _ _ _ is (by hs))
    where
      goes : (list : List (Held Value)) → Option (Held Value) → Next
      goes list found = on (here p locals (framed (tested v list) s))

      by : (hs : List (Held Value))
          → Leads tables code (with_part (alone entry.target (map (renumbered base) hs))
          (goes (map (renumbered base) hs)))
          (and_then (plain (alone entry.target hs)) k)
      by [] = goes_on tables code _ _ (next None)
      by (h ∷ []) = goes_on tables code _ _ (next (Some h))
      by (h ∷ i ∷ hs) =
          subst (λ (ps : List Pos). Leads tables code
          (with_part (Err (Conflict entry.target ps)) (goes (map (renumbered base) (h ∷ i ∷ hs))))
          (and_then (plain (Err (Conflict entry.target (positions_in (in_source_order (h ∷ i ∷ hs)))))) k))
          (sym (conflict_renumbered base (h ∷ i ∷ hs))) (ends_with tables code _)

  -- a frame with one entry or none passes its check
  pub passes : (v : ℕ) (entry : TargetEntry) → slice_get tables.targets v ≡ Some entry
      → (p : ℕ) (s : State) (f : DefaultFrame) → f.held ≡ []
      → (o : Option (Held Value)) → slice_get code p ≡ Some (instr.Check v) → (r : Whole)
      → Comes tables code (here (p + 1) locals (framed (tested v (entries base o)) s)) r
      → Comes tables code (here p locals (framed (adds base o f) s)) r
  passes v entry is p s f empty o at r next =
      subst (λ (g : DefaultFrame). Comes tables code (here p locals (framed g s)) r) (by o)
      (acted tables code _ (instr.Check v) _ at (found tables code _ _ _ _ is (go o next)))
    where
      by : (o : Option (Held Value)) → record { checked = f.checked; held = entries base o } ≡ adds base o f
      by None = ap (λ (l : List (Held Value)). record { checked = f.checked; held = l }) (sym empty)
      by (Some h) =
          ap (λ (l : List (Held Value)). record { checked = f.checked; held = l ++ renumbered base h ∷ [] }) (sym empty)

      go : (o : Option (Held Value)) → Comes tables code (here (p + 1) locals (framed (tested v (entries base o)) s)) r
          → Leads tables code (with_part (alone entry.target (entries base o))
          (λ found. on (here p locals (framed (tested v (entries base o)) s)))) r
      go None next = goes_on tables code _ _ next
      go (Some h) next = goes_on tables code _ _ next

  -- a jump over a part where the frame has an entry
  or_other : (o : Option (Held Value)) (one other : Next) (j : Judged Value) (k : Option (Held Value) → Whole)
      → ((h : Held Value) → o ≡ Some h → Leads tables code one (k (Some h)))
      → (o ≡ None → Leads tables code other (and_then j k))
      → Leads tables code (if_held (entries base o) one other) (and_then (found_or o j) k)
  or_other None one other j k l m = m refl
  or_other (Some h) one other j k l m = l h refl

  module _ (at : TermStanding) (deep : base ≡ at.here.definitions) (entry : TargetEntry)
      (there : slice_get tables.targets at.target ≡ Some entry)
      (value : Expr → Run Value) where
    -- a condition and a value that are lowered do what they mean
    abbrev pub ConditionDoes : Expr → Type 0
    ConditionDoes e = DoesAt (value e) (condition_code at e)

    pub record ConsequenceDoes (h : Held Expr) : Type 0 where
      pub does : DoesAt (value h.value) (value_code at h.value)
      pub placed : slice_get tables.definitions (base + h.number) ≡ Some h.pos

    -- what code does to a frame that grows so by what holds
    abbrev pub AddsAs : (Option (Held Value) → DefaultFrame) → Judged Value → Coded → Type 0
    AddsAs frame judged a = (ends : Ends) → Has tables code ends (a ends) → (s : State) → Agree s.slots items
        → (k : Option (Held Value) → Whole)
        → ((o : Option (Held Value)) → Comes tables code (here (end_of a ends).place locals (framed (frame o) s)) (k o))
        → Comes tables code (here ends.place locals (framed (frame None) s)) (and_then judged k)

    -- what stands under a justification
    justifies : (frame : Option (Held Value) → DefaultFrame) (j : Justification)
        → AllHave ConditionDoes (condition_in j)
        → (judged : Judged Value) (a : Coded) → AddsAs frame judged a
        → AddsAs frame (justified value j judged) (under at j a)
    justifies frame justification.Never does judged a da ends has s agree k next = next None
    justifies frame justification.Always does judged a da ends has s agree k next = da ends has s agree k next
    justifies frame (justification.Where e) does judged a da ends has s agree k next =
        let jump = λ (t : ℕ). instr.JumpFalse t in
        let skipping : Coded = over jump a in
        let e1 = end_of (condition_code at e) ends in
        let rest = second_of tables code (condition_code at e) skipping ends has in
        let done =
        behind tables code items (condition_code at e) skipping ends locals (λ o. framed (frame o) s) k next in
        alike tables code _ _ _ (and_then_and_then (value e) _ k)
        (does.0 ends (first_of tables code (condition_code at e) skipping ends has) (framed (frame None) s) agree _
        (λ t. acted tables code _ (jump (end_of a (skip e1)).place) _ rest.instructions.0
        (chosen tables code (truth t) _ _ judged (gives None) k
        (goes_on tables code _ _
        (da (skip e1) (rest_of tables code (jump (end_of a (skip e1)).place) a e1 rest) s agree k done))
        (goes_on tables code _ _ (done None)))))

    -- a part, and a check of what it added to an empty frame
    fills : (judged : Judged Value) (a : Coded) → Adds judged a
        → AddsAs (λ o. tested at.target (entries base o)) judged (then_code a (one (instr.Check at.target)))
    fills judged a da ends has s agree k next =
        let check : Coded = one (instr.Check at.target) in
        let done =
        behind tables code items a check ends locals (λ o. framed (tested at.target (entries base o)) s) k next in
        da ends (first_of tables code a check ends has) s (tested at.target []) agree k
        (λ o. passes at.target entry there (end_of a ends).place s (tested at.target []) refl o
        (second_of tables code a check ends has).instructions.0 (k o) (done o))

    -- what stands behind exceptions, in a frame that was checked
    abbrev pub Completes : Judged Value → Coded → Type 0
    Completes own a = (ends : Ends) → Has tables code ends (a ends) → (s : State) → Agree s.slots items
        → (k : Option (Held Value) → Whole)
        → ((o : Option (Held Value))
        → Comes tables code (here (end_of a ends).place locals (framed (tested at.target (entries base o)) s))
        (k o))
        → (o : Option (Held Value))
        → Comes tables code (here ends.place locals (framed (tested at.target (entries base o)) s))
        (and_then (found_or o own) k)

    completes_over : (own : Judged Value) (a : Coded) → AddsAs (λ o. tested at.target (entries base o)) own a
        → Completes own (over (λ t. instr.Held t) a)
    completes_over own a da ends has s agree k next o =
        acted tables code _ (instr.Held (end_of a (skip ends)).place) _ has.instructions.0
        (or_other o (to (end_of a (skip ends)).place
        (here ends.place locals (framed (tested at.target (entries base o)) s)))
        (on (here ends.place locals (framed (tested at.target (entries base o)) s))) own k
        (λ h is. goes_on tables code _ _ (subst (λ (x : Option (Held Value)). Comes tables code
        (here (end_of a (skip ends)).place locals (framed (tested at.target (entries base x)) s)) (k (Some h))) (sym is)
        (next (Some h))))
        (λ is. goes_on tables code _ _ (subst (λ (x : Option (Held Value)). Comes tables code
        (here (ends.place + 1) locals (framed (tested at.target (entries base x)) s)) (and_then own k)) (sym is)
        (da (skip ends) (rest_of tables code (instr.Held (end_of a (skip ends)).place) a ends has) s agree k next))))

    completes_none : Completes (gives None) nothing
    completes_none ends has s agree k next None = next None
    completes_none ends has s agree k next (Some h) = next (Some h)

    completes : (j : Justification) → AllHave ConditionDoes (condition_in j) → (judged : Judged Value) (a : Coded)
        → Adds judged a
        → Completes (justified value j judged) (otherwise at j a)
    completes justification.Never does judged a da = completes_none
    completes justification.Always does judged a da =
        completes_over judged (then_code a (one (instr.Check at.target))) (fills judged a da)
    completes (justification.Where e) does judged a da =
        completes_over (justified value (justification.Where e) judged)
        (under at (justification.Where e) (then_code a (one (instr.Check at.target))))
        (justifies (λ o. tested at.target (entries base o)) (justification.Where e) does judged
        (then_code a (one (instr.Check at.target))) (fills judged a da))

    -- a default in a frame of its own
    frames : (js : Run (List (Held Value))) (cs : List Coded) (j : Justification) (own : Judged Value) (a : Coded)
        → AddsAll js (all_code cs) → Completes own (otherwise at j a)
        → Adds (or_else (giving js (alone entry.target)) own) (framed_code at cs j a)
    frames js cs j own a dcs da ends has s f agree k next =
        let merge : Coded = one instr.Merge in
        let rest : Coded = otherwise at j a in
        let tail : Coded = led (instr.Check at.target) (then_code rest merge) in
        let e1 = skip ends in
        let e2 = end_of (all_code cs) e1 in
        let e3 = skip e2 in
        let in_all = rest_of tables code (instr.Begin at.target) (then_code (all_code cs) tail) ends has in
        let in_tail = second_of tables code (all_code cs) tail e1 in_all in
        let in_rest = rest_of tables code (instr.Check at.target) (then_code rest merge) e2 in_tail in
        let at_merge = second_of tables code rest merge e3 in_rest in
        let done = behind tables code items rest merge e3 locals (λ o. framed (adds base o f) s) k
        (behind tables code items (all_code cs) tail e1 locals (λ o. framed (adds base o f) s) k next) in
        let merged : (o : Option (Held Value))
        → Comes tables code (here (end_of rest e3).place locals
        (framed (tested at.target (entries base o)) (framed f s))) (k o)
        = λ o. acted tables code _ instr.Merge _ at_merge.instructions.0
        (goes_on tables code _ _
        (subst (λ (g : DefaultFrame). Comes tables code (here ((end_of rest e3).place + 1) locals (framed g s))
        (k o))
        (sym (added base o f)) (done o))) in
        alike tables code _ _ _ (and_then_and_then (giving js (alone entry.target)) _ k ∙ and_then_and_then js _ _)
        (acted tables code _ (instr.Begin at.target) _ has.instructions.0
        (goes_on tables code _ _
        (dcs e1 (first_of tables code (all_code cs) tail e1 in_all) (framed f s)
        (record { checked = None; held = [] }) agree _
        (λ hs. subst (λ (g : DefaultFrame). Comes tables code (here e2.place locals (framed g (framed f s)))
        (and_then (plain (alone entry.target hs)) (λ o. and_then (found_or o own) k)))
        (sym (all_added base hs (record { checked = None; held = [] })))
        (checked at.target entry there e2.place (framed f s) None hs in_tail.instructions.0 _
        (completes_rest e3 in_rest merged))))))
      where
        completes_rest : (e3 : Ends) → Has tables code e3 (then_code (otherwise at j a) (one instr.Merge) e3)
            → ((o : Option (Held Value))
            → Comes tables code (here (end_of (otherwise at j a) e3).place locals
            (framed (tested at.target (entries base o)) (framed f s))) (k o))
            → (o : Option (Held Value))
            → Comes tables code (here e3.place locals (framed (tested at.target (entries base o)) (framed f s)))
            (and_then (found_or o own) k)
        completes_rest e3 in_rest merged =
            da e3 (first_of tables code (otherwise at j a) (one instr.Merge) e3 in_rest) (framed f s) agree k merged

    -- a default, in a frame of its own or in none
    pub defaults : (ts : List DefaultTerm) (j : Justification) → AllHave ConditionDoes (condition_in j)
        → (judged : Judged Value) (a : Coded)
        → Each (λ t. Adds (reduced value entry.target t) (term_code at t)) ts
        → AddsAll (holding (map (reduced value entry.target) ts)) (all_code (map (term_code at) ts))
        → Adds judged a
        → Adds (or_else (settle entry.target (map (reduced value entry.target) ts)) (justified value j judged))
        (default_code at (map (term_code at) ts) j a)
    defaults [] j does judged a each all da =
        λ ends has s f agree k next. justifies (λ o. adds base o f) j does judged a
        (λ ends has s agree k next. da ends has s f agree k next) ends has s agree k next
    defaults (t ∷ []) justification.Never does judged a each all da =
        λ ends has s f agree k next. alike tables code _ _ _ (ap (λ r. and_then r k)
        (or_else_none (settle entry.target (reduced value entry.target t ∷ []))
        ∙ settle_one entry.target (reduced value entry.target t)))
        (each.0 ends has s f agree k next)
    defaults (t ∷ []) justification.Always does judged a each all da =
        frames (holding (map (reduced value entry.target) (t ∷ []))) (map (term_code at) (t ∷ [])) justification.Always
        (justified value justification.Always judged) a all (completes justification.Always does judged a da)
    defaults (t ∷ []) (justification.Where e) does judged a each all da =
        frames (holding (map (reduced value entry.target) (t ∷ []))) (map (term_code at) (t ∷ []))
        (justification.Where e) (justified value (justification.Where e) judged) a all
        (completes (justification.Where e) does judged a da)
    defaults (t ∷ u ∷ ts) j does judged a each all da =
        frames (holding (map (reduced value entry.target) (t ∷ u ∷ ts))) (map (term_code at) (t ∷ u ∷ ts)) j
        (justified value j judged) a all (completes j does judged a da)
