-- Five instructions that test a local name and then take its content finish where they flow.
use Rattle.std.proofs.Common.{◌≡◌, ℕ, ◌+◌, ◌-◌, nat_eq, Bool, true, false, List, [], ◌∷◌, Option, Some, None}
use Rattle.std.proofs.Common.{Result, Ok, Err, slice_get, refl, sym, ap, ◌∙◌, subst}
use Rattle.std.proofs.lemmas.Bool.{eqb-true}
use Rattle.cat_value.specs.declared.ty.Ty.{Ty}
use Rattle.cat_value.specs.declared.value.Value.{Value}
use Rattle.cat_value.specs.declared.value.Value.TheVariants as flat
use Rattle.cat_value.specs.declared.value.Value.TheViews as value
use Rattle.cat_value.specs.Entries.{content_of}
use Rattle.cat_scope.specs.declared.stop.Stop.{Stop}
use Rattle.cat_scope.specs.Names.{AllHave}
use Rattle.cat_scope.specs.Replies.{known}
use Rattle.cat_scope.specs.Projections as read
use Rattle.cat_sound.proofs.Exported.{same_some}
use Rattle.cat_code.specs.declared.instr.Instr.{Instr}
use Rattle.cat_code.specs.declared.instr.Instr.TheVariants as instr
use Rattle.cat_code.specs.declared.code.CasePlace.{CasePlace}
use Rattle.cat_code.specs.declared.code.Tables.{Tables}
use Rattle.cat_code.specs.States.{State, Next, at, on, to, push}
use Rattle.cat_code.specs.Moves as move
use Rattle.cat_code.specs.Forms.{Form, form_of, same_form}
use Rattle.cat_code.specs.Forms as forms
use Rattle.cat_code.specs.Shapes.{Owner, Shape}
use Rattle.cat_code.specs.Shaped.{Shapes, IsMet, IsFine}
use Rattle.cat_code.specs.Leads.{leads, leads_two, with, where_so, pushed}
use Rattle.cat_code.specs.Leads as lead
use Rattle.cat_code.specs.Told.{case_asked}
use Rattle.cat_code.specs.Flow.{flow}
use Rattle.cat_code.proofs.FormLaws.{same_is}
use Rattle.cat_code_sound.proofs.ValueKinds.{IsOf, Holds, reads_case, of_truth}
use Rattle.cat_code_sound.proofs.ValueKinds as kinds
use Rattle.cat_code_sound.proofs.Fitting.{OnTop, Setting, Fits, meets_fits, placed_fits, pushed_fits, operands_fit}
use Rattle.cat_code_sound.proofs.SlotLemmas.{local_typed}
use Rattle.cat_code_sound.proofs.Stepping.{Finishes, goes, Fine, GoesOn, fine_where, fine_with, fine_one, fine_two}
use Rattle.cat_code_sound.proofs.Stepping.{fine_top, finish_known, finish_ok}
use Rattle.cat_code_sound.proofs.DataLemmas.{case_there}
use Rattle.cat_code_sound.proofs.Running.{EndsFrom, run_by, looping}

module _ (tables : Tables) (code : List Instr) (shapes : Shapes) (owner : Owner) (below : State)
    (fine_of : (q : ℕ) (shape : Shape) (i : Instr) → slice_get shapes q ≡ Some (Some shape) → slice_get code q ≡ Some i
    → IsFine tables code shapes i q shape) where
  abbrev pub here : Setting
  here = looping tables code shapes owner below

  abbrev pub Good : State → Type 0
  Good = EndsFrom tables code

  -- nothing is asked of states, but that shapes are met
  abbrev pub Met : State → Type 0
  Met s = Unit {0}

  all_met : (i : Instr) (q : ℕ) (to : List (ℕ × Shape)) → AllHave (λ next. IsMet shapes next.0 next.1) to
      → AllHave (GoesOn here Met i q) to
  all_met i q [] met = tt
  all_met i q (next ∷ to) met = ((met.0, λ is turns s at fits. tt), all_met i q to met.1)

  fine_met : (i : Instr) (q : ℕ) (shape : Shape) → IsFine tables code shapes i q shape
      → Fine here Met i q (flow tables code i q shape)
  fine_met i q shape fine = record { into = fine.to; is = fine.flows; good = all_met i q fine.to fine.met }

  -- the run ends from each state at a place that fits the shape there
  abbrev pub EndsAt : ℕ → Type 0
  EndsAt q =
      (turns : List ℕ) (s : State) (left : Shape) → s.place ≡ q → IsMet shapes q left → Fits here turns left s → Good s

  finish_popped : (s : State) (v : Value) (vs : List Value) (next : Value → State → Next) → s.operands ≡ v ∷ vs
      → Finishes Good (next v (record s { operands = vs })) → Finishes Good (move.pop s next)
  finish_popped s v vs next is ends =
      subst (λ (l : List Value). Finishes Good (move.of_top l (λ w ws. next w (record s { operands = ws }))))
      (sym is) ends

  top_off : (turns : List ℕ) (shape : Shape) (s : State) (u : Form) (us : List Form) (v : Value) (vs : List Value)
      → Fits here turns shape s
      → shape.operands ≡ u ∷ us → s.operands ≡ v ∷ vs
      → IsOf tables.decls u v × Fits here turns (record shape { operands = us }) (record s { operands = vs })
  top_off turns shape s u us v vs fits types values =
      let both : OnTop (IsOf tables.decls) (u ∷ us) (v ∷ vs) below.operands
      = subst (λ (l : List Form). OnTop (IsOf tables.decls) l (v ∷ vs) below.operands) types
      (subst (λ (l : List Value). OnTop (IsOf tables.decls) shape.operands l below.operands) values fits.operands) in
      (both.0, operands_fit here turns shape s us vs fits both.1)

  -- the `content` itself, where the top operand is the case that was asked for
  content_ends : (turns : List ℕ) (shape : Shape) (s : State) (c : ℕ) (place : CasePlace) (v : Value) (vs : List Value)
      → Fits here turns shape s
      → slice_get shapes s.place ≡ Some (Some shape) → slice_get code s.place ≡ Some instr.Content
      → slice_get code (s.place - 3) ≡ Some (instr.IsCase c) → slice_get tables.cases c ≡ Some place
      → s.operands ≡ v ∷ vs → ((met : ℕ × Option Value) → read.case_of v ≡ Ok met → met.0 ≡ place.case)
      → EndsAt (s.place + 1) → Good s
  content_ends turns shape s c place v vs fits there is asked case_is top right behind =
      let i : Instr = instr.Content in
      let fine = fine_met i s.place shape (fine_of s.place shape i there is) in
      let a =
      fine_with here Met i s.place (case_asked (slice_get code (s.place - 3))) (λ c. with (slice_get tables.cases c)
      (λ place. with (content_of tables.decls place.enumeration place.case) (λ content. with content
      (λ t. lead.pop_as (forms.OneOf place.enumeration) shape
      (λ r. leads (s.place + 1) (pushed (form_of tables.decls t) r)))))) fine in
      let same_case : a.0 ≡ c = same_some a.0 c (sym a.1 ∙ ap case_asked asked) in
      let b = fine_with here Met i s.place (slice_get tables.cases a.0)
      (λ place. with (content_of tables.decls place.enumeration place.case) (λ content. with content
      (λ t. lead.pop_as (forms.OneOf place.enumeration) shape
      (λ r. leads (s.place + 1) (pushed (form_of tables.decls t) r))))) a.2 in
      let same_place : b.0 ≡ place = same_some b.0 place (sym b.1 ∙ ap (slice_get tables.cases) same_case ∙ case_is) in
      let d = fine_with here Met i s.place (content_of tables.decls b.0.enumeration b.0.case) (λ content. with content
      (λ t. lead.pop_as (forms.OneOf b.0.enumeration) shape
      (λ r. leads (s.place + 1) (pushed (form_of tables.decls t) r)))) b.2 in
      let t = fine_with here Met i s.place d.0
      (λ t. lead.pop_as (forms.OneOf b.0.enumeration) shape
      (λ r. leads (s.place + 1) (pushed (form_of tables.decls t) r))) d.2 in
      let u =
      fine_top here Met i s.place shape.operands
      (λ (u : Form) (us : List Form). where_so (same_form u (forms.OneOf b.0.enumeration))
      (leads (s.place + 1) (pushed (form_of tables.decls t.0) (record shape { operands = us })))) t.2 in
      let w = fine_where here Met i s.place (same_form u.0 (forms.OneOf b.0.enumeration))
      (leads (s.place + 1) (pushed (form_of tables.decls t.0) (record shape { operands = u.1 }))) u.3 in
      let off = top_off turns shape s u.0 u.1 v vs fits u.2 top in
      let held : Holds tables.decls b.0.enumeration v
      = reads_case tables.decls b.0.enumeration v
      (subst (λ (f : Form). IsOf tables.decls f v) (same_is u.0 (forms.OneOf b.0.enumeration) w.0) off.0) in
      let met =
      (fine_one here Met i s.place (s.place + 1)
      (pushed (form_of tables.decls t.0) (record shape { operands = u.1 })) w.1).0 in
      run_by tables code s i is
      (finish_popped s v vs (λ v r. move.with_part (read.case_of v) (λ met. move.pushes (known met.1) r)) top
      (by b.0 (λ m told. right m told ∙ ap (λ (x : CasePlace). x.case) (sym same_place)) t.0
      (d.1 ∙ ap (λ (o : Option Ty). Some o) t.1) u.1 held met off.1))
    where
      by : (b : CasePlace) → ((m : ℕ × Option Value) → read.case_of v ≡ Ok m → m.0 ≡ b.case) → (t : Ty)
          → content_of tables.decls b.enumeration b.case ≡ Some (Some t) → (us : List Form)
          → Holds tables.decls b.enumeration v
          → IsMet shapes (s.place + 1) (pushed (form_of tables.decls t) (record shape { operands = us }))
          → Fits here turns (record shape { operands = us }) (record s { operands = vs })
          → Finishes Good (move.with_part (read.case_of v)
          (λ met. move.pushes (known met.1) (record s { operands = vs })))
      by b right t content us (kinds.nothing k told none) met fits =
          let chosen : k ≡ b.case = right (k, None) told in
          let both : Some None ≡ Some (Some t) =
          sym none ∙ ap (content_of tables.decls b.enumeration) chosen ∙ content in absurd (cc both)
      by b right t content us (kinds.something k w x told some inner) met fits =
          let chosen : k ≡ b.case = right (k, Some w) told in
          let both : Some (Some x) ≡ Some (Some t) =
          sym some ∙ ap (content_of tables.decls b.enumeration) chosen ∙ content in
          let same : x ≡ t = cc both in
          finish_ok here Good instr.Content s.place (read.case_of v) (k, Some w)
          (λ (met : ℕ × Option Value). move.pushes (known met.1) (record s { operands = vs })) told
          (goes (behind turns (push w (at (s.place + 1) (record s { operands = vs })))
          (pushed (form_of tables.decls t) (record shape { operands = us })) refl met
          (pushed_fits here turns (record shape { operands = us }) (at (s.place + 1) (record s { operands = vs }))
          (form_of tables.decls t) w
          (placed_fits here turns (record shape { operands = us }) (record s { operands = vs }) (s.place + 1) fits)
          (subst (λ (y : Ty). IsOf tables.decls (form_of tables.decls y) w) same inner))))

  -- the local name once more, where it is the case that was asked for
  again_ends : (turns : List ℕ) (shape : Shape) (s : State) (k c : ℕ) (place : CasePlace) (v : Value)
      → Fits here turns shape s
      → slice_get shapes s.place ≡ Some (Some shape) → slice_get code s.place ≡ Some (instr.Local k)
      → slice_get code (s.place + 1) ≡ Some instr.Content → slice_get code (s.place + 1 - 3) ≡ Some (instr.IsCase c)
      → slice_get tables.cases c ≡ Some place → slice_get s.locals k ≡ Some v
      → ((met : ℕ × Option Value) → read.case_of v ≡ Ok met → met.0 ≡ place.case) → EndsAt (s.place + 1 + 1) → Good s
  again_ends turns shape s k c place v fits there is next asked case_is local right behind =
      let i : Instr = instr.Local k in
      let fine = fine_met i s.place shape (fine_of s.place shape i there is) in
      let t =
      fine_with here Met i s.place (slice_get shape.locals k) (λ t. leads (s.place + 1) (pushed t shape)) fine in
      let met = (fine_one here Met i s.place (s.place + 1) (pushed t.0 shape) t.2).0 in
      let w = local_typed tables.decls shape.locals s.locals k t.0 fits.locals t.1 in
      let same : w.0 ≡ v = same_some w.0 v (sym w.1 ∙ local) in
      let after : State = push v (at (s.place + 1) s) in
      run_by tables code s i is
      (finish_known here Good i s.place (slice_get s.locals k) v (λ (x : Value). on (push x s)) local
      (goes (content_ends turns met.shape after c place v s.operands
      (meets_fits here turns (pushed t.0 shape) met.shape after met.meets
      (pushed_fits here turns shape (at (s.place + 1) s) t.0 v (placed_fits here turns shape s (s.place + 1) fits)
      (subst (λ (x : Value). IsOf tables.decls t.0 x) same w.2)))
      met.is next asked case_is refl right behind)))

  -- the jump by what was found
  choice_ends : (turns : List ℕ) (shape : Shape) (s : State) (k c t : ℕ) (place : CasePlace) (v : Value) (b : Bool)
      (vs : List Value)
      → Fits here turns shape s
      → slice_get shapes s.place ≡ Some (Some shape) → slice_get code s.place ≡ Some (instr.JumpFalse t)
      → slice_get code (s.place + 1) ≡ Some (instr.Local k)
      → slice_get code (s.place + 1 + 1) ≡ Some instr.Content
      → slice_get code (s.place + 1 + 1 - 3) ≡ Some (instr.IsCase c)
      → slice_get tables.cases c ≡ Some place → slice_get s.locals k ≡ Some v → s.operands ≡ flat.Boolean b ∷ vs
      → (b ≡ true → (met : ℕ × Option Value) → read.case_of v ≡ Ok met → met.0 ≡ place.case) → EndsAt t
      → EndsAt (s.place + 1 + 1 + 1)
      → Good s
  choice_ends turns shape s k c t place v b vs fits there is local_is next asked case_is local top right away behind =
      let i : Instr = instr.JumpFalse t in
      let fine = fine_met i s.place shape (fine_of s.place shape i there is) in
      let u =
      fine_top here Met i s.place shape.operands (λ (u : Form) (us : List Form). where_so (same_form u forms.Truth)
      (leads_two (s.place + 1) (record shape { operands = us }) t (record shape { operands = us }))) fine in
      let w = fine_where here Met i s.place (same_form u.0 forms.Truth)
      (leads_two (s.place + 1) (record shape { operands = u.1 }) t (record shape { operands = u.1 })) u.3 in
      let two =
      fine_two here Met i s.place (s.place + 1) (record shape { operands = u.1 }) t
      (record shape { operands = u.1 }) w.1 in
      let off = top_off turns shape s u.0 u.1 (flat.Boolean b) vs fits u.2 top in
      run_by tables code s i is
      (finish_popped s (flat.Boolean b) vs
      (λ v r. move.with_part (read.truth v) (λ x. move.by_truth x (on r) (to t r))) top
      (finish_ok here Good i s.place (read.truth (flat.Boolean b)) b
      (λ x. move.by_truth x (on (record s { operands = vs })) (to t (record s { operands = vs })))
      (ap read.truth_in (value.outs-Boolean b))
      (by b u.1 right off.1 two.0.0 two.1.0)))
    where
      by : (x : Bool) (us : List Form)
          → (x ≡ true → (met : ℕ × Option Value) → read.case_of v ≡ Ok met → met.0 ≡ place.case)
          → Fits here turns (record shape { operands = us }) (record s { operands = vs })
          → IsMet shapes (s.place + 1) (record shape { operands = us })
          → IsMet shapes t (record shape { operands = us })
          → Finishes Good (move.by_truth x (on (record s { operands = vs })) (to t (record s { operands = vs })))
      by true us so left yes_met no_met =
          let after : State = at (s.place + 1) (record s { operands = vs }) in
          goes (again_ends turns yes_met.shape after k c place v
          (meets_fits here turns (record shape { operands = us }) yes_met.shape after yes_met.meets
          (placed_fits here turns (record shape { operands = us }) (record s { operands = vs }) (s.place + 1) left))
          yes_met.is local_is next asked case_is local (so refl) behind)
      by false us so left yes_met no_met =
          let after : State = at t (record s { operands = vs }) in
          goes (away turns after (record shape { operands = us }) refl no_met
          (placed_fits here turns (record shape { operands = us }) (record s { operands = vs }) t left))

  -- the test of the local name
  test_ends : (turns : List ℕ) (shape : Shape) (s : State) (k c t : ℕ) (v : Value) (vs : List Value)
      → Fits here turns shape s
      → slice_get shapes s.place ≡ Some (Some shape) → slice_get code s.place ≡ Some (instr.IsCase c)
      → slice_get code (s.place + 1) ≡ Some (instr.JumpFalse t)
      → slice_get code (s.place + 1 + 1) ≡ Some (instr.Local k)
      → slice_get code (s.place + 1 + 1 + 1) ≡ Some instr.Content
      → slice_get code (s.place + 1 + 1 + 1 - 3) ≡ Some (instr.IsCase c)
      → slice_get s.locals k ≡ Some v → s.operands ≡ v ∷ vs → EndsAt t → EndsAt (s.place + 1 + 1 + 1 + 1) → Good s
  test_ends turns shape s k c t v vs fits there is jump_is local_is next asked local top away behind =
      let i : Instr = instr.IsCase c in
      let fine = fine_met i s.place shape (fine_of s.place shape i there is) in
      let place = fine_with here Met i s.place (slice_get tables.cases c)
      (λ place. lead.pop_as (forms.OneOf place.enumeration) shape (λ r. leads (s.place + 1) (pushed forms.Truth r)))
      fine in
      let u =
      fine_top here Met i s.place shape.operands
      (λ (u : Form) (us : List Form). where_so (same_form u (forms.OneOf place.0.enumeration))
      (leads (s.place + 1) (pushed forms.Truth (record shape { operands = us })))) place.2 in
      let w = fine_where here Met i s.place (same_form u.0 (forms.OneOf place.0.enumeration))
      (leads (s.place + 1) (pushed forms.Truth (record shape { operands = u.1 }))) u.3 in
      let met =
      (fine_one here Met i s.place (s.place + 1) (pushed forms.Truth (record shape { operands = u.1 })) w.1).0 in
      let off = top_off turns shape s u.0 u.1 v vs fits u.2 top in
      let m = case_there tables.decls place.0.enumeration v
      (subst (λ (f : Form). IsOf tables.decls f v) (same_is u.0 (forms.OneOf place.0.enumeration) w.0) off.0) in
      let b : Bool = nat_eq m.0.0 place.0.case in
      let popped : State = record s { operands = vs } in
      let after : State = push (flat.Boolean b) (at (s.place + 1) popped) in
      run_by tables code s i is
      (finish_popped s v vs (λ v r. move.with_part (read.case_of v)
      (λ met. move.with_part (known (slice_get tables.cases c))
      (λ place. on (push (flat.Boolean (nat_eq met.0 place.case)) r)))) top
      (finish_ok here Good i s.place (read.case_of v) m.0
      (λ (met : ℕ × Option Value). move.with_part (known (slice_get tables.cases c))
      (λ place. on (push (flat.Boolean (nat_eq met.0 place.case)) popped))) m.1
      (finish_known here Good i s.place (slice_get tables.cases c) place.0
      (λ (x : CasePlace). on (push (flat.Boolean (nat_eq m.0.0 x.case)) popped)) place.1
      (goes (choice_ends turns met.shape after k c t place.0 v b vs
      (meets_fits here turns (pushed forms.Truth (record shape { operands = u.1 })) met.shape after met.meets
      (pushed_fits here turns (record shape { operands = u.1 }) (at (s.place + 1) popped) forms.Truth (flat.Boolean b)
      (placed_fits here turns (record shape { operands = u.1 }) popped (s.place + 1) off.1) (of_truth tables.decls b)))
      met.is jump_is local_is next asked place.1 local refl
      (λ so x told.
      let same : m.0 ≡ x = same_ok m.0 x (read.case_of v) m.1 told in
      ap (λ (y : ℕ × Option Value). y.0) (sym same) ∙ eqb-true m.0.0 place.0.case so)
      away behind)))))
    where
      ok_or : ℕ × Option Value → Result (ℕ × Option Value) Stop → ℕ × Option Value
      ok_or d (Ok a) = a
      ok_or d (Err e) = d

      same_ok : (a b : ℕ × Option Value) (r : Result (ℕ × Option Value) Stop) → r ≡ Ok a → r ≡ Ok b → a ≡ b
      same_ok a b r e f = sym (ap (ok_or a) e) ∙ ap (ok_or a) f

  -- all five
  pub five_end : (turns : List ℕ) (shape : Shape) (s : State) (k c t : ℕ) → Fits here turns shape s
      → slice_get shapes s.place ≡ Some (Some shape) → slice_get code s.place ≡ Some (instr.Local k)
      → slice_get code (s.place + 1) ≡ Some (instr.IsCase c)
      → slice_get code (s.place + 1 + 1) ≡ Some (instr.JumpFalse t)
      → slice_get code (s.place + 1 + 1 + 1) ≡ Some (instr.Local k)
      → slice_get code (s.place + 1 + 1 + 1 + 1) ≡ Some instr.Content
      → slice_get code (s.place + 1 + 1 + 1 + 1 - 3) ≡ Some (instr.IsCase c) → EndsAt t
      → EndsAt (s.place + 1 + 1 + 1 + 1 + 1)
      → Good s
  five_end turns shape s k c t fits there is test_is jump_is local_is next asked away behind =
      let i : Instr = instr.Local k in
      let fine = fine_met i s.place shape (fine_of s.place shape i there is) in
      let u =
      fine_with here Met i s.place (slice_get shape.locals k) (λ t. leads (s.place + 1) (pushed t shape)) fine in
      let met = (fine_one here Met i s.place (s.place + 1) (pushed u.0 shape) u.2).0 in
      let v = local_typed tables.decls shape.locals s.locals k u.0 fits.locals u.1 in
      let after : State = push v.0 (at (s.place + 1) s) in
      run_by tables code s i is
      (finish_known here Good i s.place (slice_get s.locals k) v.0 (λ (x : Value). on (push x s)) v.1
      (goes (test_ends turns met.shape after k c t v.0 s.operands
      (meets_fits here turns (pushed u.0 shape) met.shape after met.meets
      (pushed_fits here turns shape (at (s.place + 1) s) u.0 v.0
      (placed_fits here turns shape s (s.place + 1) fits) v.2))
      met.is test_is jump_is local_is next asked v.1 refl away behind)))
