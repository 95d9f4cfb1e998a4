-- Default frames, pending frames and stops finish where they flow.
use Rattle.std.proofs.Common.{◌≡◌, ℕ, ◌+◌, nat_lt, ◌&&◌, true, false, true≢false, List, [], ◌∷◌, ◌++◌, length}
use Rattle.std.proofs.Common.{replicate, inl, inr, Option, Some, None, Err, slice_get, slice_set, refl, sym, ap, subst}
use Rattle.std.proofs.lemmas.Bool.{ltb-true}
use Rattle.cat_pos.specs.declared.pos.Pos.{Pos}
use Rattle.cat_value.specs.declared.value.Value.{Value}
use Rattle.cat_value.specs.declared.declaration.Scope.{Scope}
use Rattle.cat_value.specs.declared.declaration.ItemDecl.{ItemDecl}
use Rattle.cat_value.specs.declared.outcome.FaultKind.TheVariants.{AssertionFailed}
use Rattle.cat_value.proofs.Exported.{found}
use Rattle.cat_scope.specs.declared.stop.Stop.TheVariants.{Fault, NoValue}
use Rattle.cat_scope.specs.Replies.{known}
use Rattle.cat_scope.specs.Names.{AllHave, items_in, scope_items}
use Rattle.cat_scope.specs.Judging.{Held, alone}
use Rattle.cat_scope.specs.Projections as read
use Rattle.cat_scope.specs.Running.{with_entry, no_values}
use Rattle.cat_sound.proofs.Results.{both}
use Rattle.cat_sound.proofs.Endings.{all_both}
use Rattle.cat_code.specs.declared.instr.Instr.{Instr}
use Rattle.cat_code.specs.declared.instr.Instr.TheVariants as instr
use Rattle.cat_code.specs.declared.code.TargetEntry.{TargetEntry}
use Rattle.cat_code.specs.States.{State, Over, DefaultFrame, Pending, at, on, to, push}
use Rattle.cat_code.specs.Moves as move
use Rattle.cat_code.specs.Forms.{Form, same_form, slot_form}
use Rattle.cat_code.specs.Forms as forms
use Rattle.cat_code.specs.Shapes.{FrameShape, PendingShape}
use Rattle.cat_code.specs.Places.{target_form}
use Rattle.cat_code.specs.Wanted.{frames_inside, is_pending_inside}
use Rattle.cat_code.specs.Leads.{leads, leads_two, with, where_so, pushed}
use Rattle.cat_code.specs.Leads as lead
use Rattle.cat_code.proofs.FormLaws.{same_is}
use Rattle.cat_code_sound.proofs.ValueKinds.{IsOf}
use Rattle.cat_code_sound.proofs.Fitting.{HasFew, FrameFits, PendingFits, SlotsFit, Setting, Fits, placed_fits}
use Rattle.cat_code_sound.proofs.Fitting.{pushed_fits, defaults_fit, pending_fit}
use Rattle.cat_code_sound.proofs.SlotLemmas.{slot_item, stored_fits}
use Rattle.cat_code_sound.proofs.DataLemmas.{nothing_passed, alone_few}
use Rattle.cat_code_sound.proofs.Stepping.{Finishes, goes, over, GoesOn, fine_where, fine_with, fine_one, fine_two}
use Rattle.cat_code_sound.proofs.Stepping.{fine_top, finish_on, finish_to, finish_with, finish_known, finish_pop_as}
use Rattle.cat_code_sound.proofs.Stepping.{finish_over}
use Rattle.cat_code_sound.proofs.SoundSlots.{Sound, finish_truth}

module _ (here : Setting) (code : List Instr) (Good : State → Type 0) where
  -- ---- pending frames

  pub sound_scope : (n : ℕ) → ((scope : Scope) → slice_get here.tables.decls.scopes n ≡ Some scope → here.Known n)
      → Sound here code Good (instr.Scope n)
  sound_scope n known_scope turns shape s fits fine =
      let i : Instr = instr.Scope n in
      let scope = fine_with here Good i s.place (slice_get here.tables.decls.scopes n)
      (λ (scope : Scope). leads (s.place + 1)
      (record shape { pending = record { scope = n; passed = replicate (length scope.items) false } ∷ shape.pending }))
      fine in
      let q : PendingShape = record { scope = n; passed = replicate (length scope.0.items) false } in
      let p : Pending = record { scope = n; slots = no_values (scope_items here.tables.decls n) } in
      let items : scope_items here.tables.decls n ≡ scope.0.items = ap items_in scope.1 in
      finish_on here Good i s.place turns (record shape { pending = q ∷ shape.pending })
      (record s { pending = p ∷ s.pending }) refl
      (pending_fit here turns shape s (q ∷ shape.pending) (p ∷ s.pending) fits (
        record {
          known = known_scope scope.0 scope.1;
          scope = refl;
          slots =
              subst (λ (l : List ItemDecl). SlotsFit here.tables.decls (scope_items here.tables.decls n)
              (replicate (length l) false) (no_values (scope_items here.tables.decls n)))
              items (nothing_passed here.tables.decls (scope_items here.tables.decls n));
        },
        fits.pending,
      ))
      (fine_one here Good i s.place (s.place + 1) (record shape { pending = q ∷ shape.pending }) scope.2)

  pub sound_pass : (k : ℕ) → Sound here code Good (instr.Pass k)
  sound_pass k turns shape s fits fine =
      let i : Instr = instr.Pass k in
      let w = fine_where here Good i s.place (is_pending_inside shape.loops shape.pending)
      (lead.top shape.pending (λ q qs. with (slot_form here.tables.decls q.scope k) (λ t. lead.pop_as t shape
      (λ r. leads (s.place + 1) (record r { pending = record q { passed = slice_set q.passed k true } ∷ qs })))))
      fine in
      let q = fine_top here Good i s.place shape.pending
      (λ (q : PendingShape) (qs : List PendingShape). with (slot_form here.tables.decls q.scope k)
      (λ t. lead.pop_as t shape
      (λ r. leads (s.place + 1) (record r { pending = record q { passed = slice_set q.passed k true } ∷ qs })))) w.1 in
      let passed : PendingShape = record q.0 { passed = slice_set q.0.passed k true } in
      let t = fine_with here Good i s.place (slot_form here.tables.decls q.0.scope k) (λ t. lead.pop_as t shape
      (λ r. leads (s.place + 1) (record r { pending = passed ∷ q.1 }))) q.3 in
      let item = slot_item here.tables.decls q.0.scope k t.0 t.1 in
      finish_pop_as here Good i s.place turns shape s t.0
      (λ r. leads (s.place + 1) (record r { pending = passed ∷ q.1 }))
      (λ v r. move.of_top r.pending
      (λ p ps. on (record r { pending = record p { slots = with_entry k (Some v) p.slots } ∷ ps }))) fits t.2
      (λ ts v vs is left f.
      finish_over here Good i s.place
      (PendingFits here.tables.decls here.Known) shape.pending q.0 q.1 s.pending here.below.pending
      (λ p ps. on (record s { operands = vs; pending = record p { slots = with_entry k (Some v) p.slots } ∷ ps })) q.2
      left.pending
      (λ p ps are fit rest.
      let next : Pending = record p { slots = with_entry k (Some v) p.slots } in
      finish_on here Good i s.place turns (record shape { operands = ts; pending = passed ∷ q.1 })
      (record s { operands = vs; pending = next ∷ ps }) refl
      (pending_fit here turns (record shape { operands = ts }) (record s { operands = vs }) (passed ∷ q.1)
      (next ∷ ps) left (
        record {
          known = fit.known;
          scope = fit.scope;
          slots =
              stored_fits here.tables.decls
              (scope_items here.tables.decls q.0.scope) q.0.passed p.slots k item.0 v item.1
              (subst (λ (u : Form). IsOf here.tables.decls u v) (sym item.2) is) fit.slots;
        },
        rest,
      ))
      (fine_one here Good i s.place (s.place + 1) (record shape { operands = ts; pending = passed ∷ q.1 }) f)))

  -- ---- default frames

  pub sound_begin : (v : ℕ) → Sound here code Good (instr.Begin v)
  sound_begin v turns shape s fits fine =
      let i : Instr = instr.Begin v in
      let entry = fine_with here Good i s.place (slice_get here.tables.targets v)
      (λ (entry : TargetEntry). with (target_form here.tables.decls entry.target)
      (λ t. leads (s.place + 1)
      (record shape { defaults = record { begun = s.place; holds = t; checked = false } ∷ shape.defaults })))
      fine in
      let t = fine_with here Good i s.place (target_form here.tables.decls entry.0.target)
      (λ t. leads (s.place + 1)
      (record shape { defaults = record { begun = s.place; holds = t; checked = false } ∷ shape.defaults }))
      entry.2 in
      let f : FrameShape = record { begun = s.place; holds = t.0; checked = false } in
      let g : DefaultFrame = record { checked = None; held = [] } in
      finish_on here Good i s.place turns (record shape { defaults = f ∷ shape.defaults })
      (record s { defaults = g ∷ s.defaults }) refl
      (defaults_fit here turns shape s (f ∷ shape.defaults) (g ∷ s.defaults) fits
      (record { held = tt; checked = λ so. absurd (true≢false (sym so)) }, fits.defaults))
      (fine_one here Good i s.place (s.place + 1) (record shape { defaults = f ∷ shape.defaults }) t.2)

  pub sound_hold : (d : ℕ) → Sound here code Good (instr.Hold d)
  sound_hold d turns shape s fits fine =
      let i : Instr = instr.Hold d in
      let w =
      fine_where here Good i s.place
      (nat_lt d (length here.tables.definitions) && frames_inside 1 shape.loops shape.defaults)
      (lead.top shape.defaults (λ f fs. lead.pop_as f.holds shape
      (λ r. leads (s.place + 1) (record r { defaults = record f { checked = false } ∷ fs })))) fine in
      let parts = both (nat_lt d (length here.tables.definitions)) (frames_inside 1 shape.loops shape.defaults) w.0 in
      let f =
      fine_top here Good i s.place shape.defaults
      (λ (f : FrameShape) (fs : List FrameShape). lead.pop_as f.holds shape
      (λ r. leads (s.place + 1) (record r { defaults = record f { checked = false } ∷ fs }))) w.1 in
      let unchecked : FrameShape = record f.0 { checked = false } in
      let place = found here.tables.definitions d (ltb-true d (length here.tables.definitions) parts.0) in
      finish_pop_as here Good i s.place turns shape s f.0.holds
      (λ r. leads (s.place + 1) (record r { defaults = unchecked ∷ f.1 }))
      (λ v r. move.of_top r.defaults (λ g gs. move.with_part (known (slice_get here.tables.definitions d))
      (λ at. on (record r {
        defaults =
            record g { held = g.held ++ record { number = d; pos = at; value = v } ∷ [] } ∷ gs;
      })))) fits f.3
      (λ ts v vs is left h.
      finish_over here Good i s.place
      (FrameFits here.tables.decls) shape.defaults f.0 f.1 s.defaults here.below.defaults
      (λ g gs. move.with_part (known (slice_get here.tables.definitions d))
      (λ at. on (record s {
        operands = vs;
        defaults =
            record g { held = g.held ++ record { number = d; pos = at; value = v } ∷ [] } ∷ gs;
      })))
      f.2 left.defaults
      (λ g gs are fit rest.
      let one : Held Value = record { number = d; pos = place.0; value = v } in
      let next : DefaultFrame = record g { held = g.held ++ one ∷ [] } in
      finish_known here Good i s.place (slice_get here.tables.definitions d) place.0
      (λ (at : Pos). on (record s {
        operands = vs;
        defaults =
            record g { held = g.held ++ record { number = d; pos = at; value = v } ∷ [] } ∷ gs;
      })) place.1
      (finish_on here Good i s.place turns (record shape { operands = ts; defaults = unchecked ∷ f.1 })
      (record s { operands = vs; defaults = next ∷ gs }) refl
      (defaults_fit here turns (record shape { operands = ts }) (record s { operands = vs }) (unchecked ∷ f.1)
      (next ∷ gs) left (
        record {
          held =
              all_both (λ (x : Held Value). IsOf here.tables.decls f.0.holds x.value) g.held (one ∷ []) fit.held
              (is, tt);
          checked = λ so. absurd (true≢false (sym so));
        },
        rest,
      ))
      (fine_one here Good i s.place (s.place + 1) (record shape { operands = ts; defaults = unchecked ∷ f.1 }) h))))

  pub sound_merge : Sound here code Good instr.Merge
  sound_merge turns shape s fits fine =
      let i : Instr = instr.Merge in
      let w = fine_where here Good i s.place (frames_inside 2 shape.loops shape.defaults)
      (lead.top shape.defaults (λ f fs. lead.top fs (λ g gs. where_so (f.checked && same_form f.holds g.holds)
      (leads (s.place + 1) (record shape { defaults = record g { checked = false } ∷ gs }))))) fine in
      let f = fine_top here Good i s.place shape.defaults
      (λ (f : FrameShape) (fs : List FrameShape). lead.top fs (λ g gs. where_so (f.checked && same_form f.holds g.holds)
      (leads (s.place + 1) (record shape { defaults = record g { checked = false } ∷ gs })))) w.1 in
      let g =
      fine_top here Good i s.place f.1
      (λ (g : FrameShape) (gs : List FrameShape). where_so (f.0.checked && same_form f.0.holds g.holds)
      (leads (s.place + 1) (record shape { defaults = record g { checked = false } ∷ gs }))) f.3 in
      let unchecked : FrameShape = record g.0 { checked = false } in
      let x = fine_where here Good i s.place (f.0.checked && same_form f.0.holds g.0.holds)
      (leads (s.place + 1) (record shape { defaults = unchecked ∷ g.1 })) g.3 in
      let same : f.0.holds ≡ g.0.holds =
      same_is f.0.holds g.0.holds (both f.0.checked (same_form f.0.holds g.0.holds) x.0).1 in
      finish_over here Good i s.place
      (FrameFits here.tables.decls) shape.defaults f.0 f.1 s.defaults here.below.defaults
      (λ a fs. move.of_top fs (λ b gs. on (record s { defaults = record b { held = b.held ++ a.held } ∷ gs }))) f.2
      fits.defaults
      (λ a fs are fit rest.
      finish_over here Good i s.place (FrameFits here.tables.decls) f.1 g.0 g.1 fs here.below.defaults
      (λ b gs. on (record s { defaults = record b { held = b.held ++ a.held } ∷ gs })) g.2 rest
      (λ b gs there fit_below others.
      let next : DefaultFrame = record b { held = b.held ++ a.held } in
      finish_on here Good i s.place turns (record shape { defaults = unchecked ∷ g.1 })
      (record s { defaults = next ∷ gs }) refl
      (defaults_fit here turns shape s (unchecked ∷ g.1) (next ∷ gs) fits (
        record {
          held = all_both (λ (y : Held Value). IsOf here.tables.decls g.0.holds y.value) b.held a.held fit_below.held
              (subst (λ (t : Form). AllHave (λ (y : Held Value). IsOf here.tables.decls t y.value) a.held) same
              fit.held);
          checked = λ so. absurd (true≢false (sym so));
        },
        others,
      ))
      (fine_one here Good i s.place (s.place + 1) (record shape { defaults = unchecked ∷ g.1 }) x.1)))

  pub sound_check : (v : ℕ) → Sound here code Good (instr.Check v)
  sound_check v turns shape s fits fine =
      let i : Instr = instr.Check v in
      let w =
      fine_where here Good i s.place
      (nat_lt v (length here.tables.targets) && frames_inside 1 shape.loops shape.defaults)
      (lead.top shape.defaults
      (λ f fs. leads (s.place + 1) (record shape { defaults = record f { checked = true } ∷ fs }))) fine in
      let parts = both (nat_lt v (length here.tables.targets)) (frames_inside 1 shape.loops shape.defaults) w.0 in
      let f = fine_top here Good i s.place shape.defaults
      (λ (f : FrameShape) (fs : List FrameShape). leads (s.place + 1)
      (record shape { defaults = record f { checked = true } ∷ fs })) w.1 in
      let checked : FrameShape = record f.0 { checked = true } in
      let entry = found here.tables.targets v (ltb-true v (length here.tables.targets) parts.0) in
      finish_over here Good i s.place
      (FrameFits here.tables.decls) shape.defaults f.0 f.1 s.defaults here.below.defaults
      (λ g gs. move.with_part (known (slice_get here.tables.targets v))
      (λ entry. move.with_part (alone entry.target g.held)
      (λ found. on (record s { defaults = record g { checked = Some v } ∷ gs })))) f.2 fits.defaults
      (λ g gs are fit rest.
      let next : DefaultFrame = record g { checked = Some v } in
      finish_known here Good i s.place (slice_get here.tables.targets v) entry.0
      (λ (entry : TargetEntry). move.with_part (alone entry.target g.held)
      (λ found. on (record s { defaults = next ∷ gs }))) entry.1
      (finish_with here Good i s.place (λ found. HasFew g.held) (alone entry.0.target g.held)
      (λ found. on (record s { defaults = next ∷ gs }))
      (alone_few entry.0.target g.held)
      (λ found few.
      finish_on here Good i s.place turns (record shape { defaults = checked ∷ f.1 })
      (record s { defaults = next ∷ gs }) refl
      (defaults_fit here turns shape s (checked ∷ f.1) (next ∷ gs) fits
      (record { held = fit.held; checked = λ so. few }, rest))
      (fine_one here Good i s.place (s.place + 1) (record shape { defaults = checked ∷ f.1 }) f.3))))

  pub sound_held : (t : ℕ) → Sound here code Good (instr.Held t)
  sound_held t turns shape s fits fine =
      let i : Instr = instr.Held t in
      let f =
      fine_top here Good i s.place shape.defaults
      (λ (f : FrameShape) (fs : List FrameShape). leads_two (s.place + 1) shape t shape) fine in
      let two = fine_two here Good i s.place (s.place + 1) shape t shape f.3 in
      finish_over here Good i s.place
      (FrameFits here.tables.decls) shape.defaults f.0 f.1 s.defaults here.below.defaults
      (λ g gs. move.if_held g.held (to t s) (on s)) f.2 fits.defaults (λ g gs are fit rest. by g.held two)
    where
      by : (held : List (Held Value))
          → GoesOn here Good (instr.Held t) s.place (s.place + 1, shape)
          × GoesOn here Good (instr.Held t) s.place (t, shape)
          → Finishes Good (move.if_held held (to t s) (on s))
      by [] two = finish_on here Good (instr.Held t) s.place turns shape s refl fits two.0
      by (h ∷ hs) two = finish_to here Good (instr.Held t) s.place turns shape s t refl fits two.1

  pub sound_take : (t : ℕ) → Sound here code Good (instr.Take t)
  sound_take t turns shape s fits fine =
      let i : Instr = instr.Take t in
      let w = fine_where here Good i s.place (frames_inside 1 shape.loops shape.defaults)
      (lead.top shape.defaults (λ f fs. where_so f.checked
      (leads_two (s.place + 1) (pushed f.holds (record shape { defaults = fs })) t (record shape { defaults = fs }))))
      fine in
      let f = fine_top here Good i s.place shape.defaults (λ (f : FrameShape) (fs : List FrameShape). where_so f.checked
      (leads_two (s.place + 1) (pushed f.holds (record shape { defaults = fs })) t (record shape { defaults = fs })))
      w.1 in
      let x = fine_where here Good i s.place f.0.checked
      (leads_two (s.place + 1) (pushed f.0.holds (record shape { defaults = f.1 })) t (record shape { defaults = f.1 }))
      f.3 in
      let two =
      fine_two here Good i s.place (s.place + 1) (pushed f.0.holds (record shape { defaults = f.1 })) t
      (record shape { defaults = f.1 }) x.1 in
      finish_over here Good i s.place
      (FrameFits here.tables.decls) shape.defaults f.0 f.1 s.defaults here.below.defaults
      (λ g gs. move.takes g.held here.tables t g.checked (record s { defaults = gs })) f.2 fits.defaults
      (λ g gs are fit rest.
      by f.0.holds f.1 g.held g.checked gs fit.held (fit.checked x.0)
      (defaults_fit here turns shape s f.1 gs fits rest) two)
    where
      by : (holds : Form) (fs : List FrameShape) (held : List (Held Value)) (checked : Option ℕ)
          (gs : List DefaultFrame)
          → AllHave (λ (h : Held Value). IsOf here.tables.decls holds h.value) held → HasFew held
          → Fits here turns (record shape { defaults = fs }) (record s { defaults = gs })
          → GoesOn here Good (instr.Take t) s.place (s.place + 1, pushed holds (record shape { defaults = fs }))
          × GoesOn here Good (instr.Take t) s.place (t, record shape { defaults = fs })
          → Finishes Good (move.takes held here.tables t checked (record s { defaults = gs }))
      by holds fs [] checked gs typed few left two =
          goes (two.1.1 (inr refl) turns (at t (record s { defaults = gs })) refl
          (placed_fits here turns (record shape { defaults = fs }) (record s { defaults = gs }) t left))
      by holds fs (h ∷ []) checked gs typed few left two =
          goes (two.0.1 (inl refl) turns (push h.value (at (s.place + 1) (record s { defaults = gs }))) refl
          (pushed_fits here turns (record shape { defaults = fs })
          (at (s.place + 1) (record s { defaults = gs })) holds h.value
          (placed_fits here turns (record shape { defaults = fs }) (record s { defaults = gs }) (s.place + 1) left)
          typed.0))
      by holds fs (h ∷ k ∷ hs) checked gs typed few left two = absurd few

  -- ---- stops

  pub sound_no_value : (v : ℕ) → Sound here code Good (instr.NoValue v)
  sound_no_value v turns shape s fits fine =
      let i : Instr = instr.NoValue v in
      let w = fine_where here Good i s.place (nat_lt v (length here.tables.targets)) (Some []) fine in
      let entry = found here.tables.targets v (ltb-true v (length here.tables.targets) w.0) in
      finish_known here Good i s.place (slice_get here.tables.targets v) entry.0
      (λ (entry : TargetEntry). Over (Err (NoValue entry.target entry.pos)))
      entry.1 (over refl)

  pub sound_assert : (q : ℕ) → Sound here code Good (instr.Assert q)
  sound_assert q turns shape s fits fine =
      let i : Instr = instr.Assert q in
      let w =
      fine_where here Good i s.place (nat_lt q (length here.tables.positions))
      (lead.pop_as forms.Truth shape (λ r. leads (s.place + 1) r)) fine in
      let place = found here.tables.positions q (ltb-true q (length here.tables.positions) w.0) in
      finish_known here Good i s.place (slice_get here.tables.positions q) place.0
      (λ (at : Pos). move.pop s
      (λ v r. move.with_part (read.truth v) (λ b. move.by_truth b (on r) (Over (Err (Fault AssertionFailed at))))))
      place.1
      (finish_pop_as here Good i s.place turns shape s forms.Truth (λ r. leads (s.place + 1) r)
      (λ v r. move.with_part (read.truth v) (λ b. move.by_truth b (on r) (Over (Err (Fault AssertionFailed place.0)))))
      fits w.1
      (λ ts v vs is left f.
      finish_truth here code Good i s.place v (on (record s { operands = vs }))
      (Over (Err (Fault AssertionFailed place.0))) is
      (finish_on here Good i s.place turns (record shape { operands = ts }) (record s { operands = vs }) refl left
      (fine_one here Good i s.place (s.place + 1) (record shape { operands = ts }) f))
      (over tt)))
