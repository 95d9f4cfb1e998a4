-- Calls finish where what they call ends, and returns where the caller goes on.
use Rattle.std.proofs.Common.{◌≡◌, ℕ, ◌+◌, nat_eq, ◌&&◌, not, Bool, true, false, true≢false, List, [], ◌∷◌, length, map}
use Rattle.std.proofs.Common.{Option, Some, None, slice_get, inl, refl, sym, ap, ◌∙◌, subst, arith}
use Rattle.std.proofs.lemmas.Bool.{eqb-true, not-true}
use Rattle.cat_value.specs.declared.ty.Ty.{Ty}
use Rattle.cat_value.specs.declared.value.Value.{Value}
use Rattle.cat_value.specs.declared.declaration.Scope.{Scope}
use Rattle.cat_value.specs.declared.declaration.ItemDecl.{ItemDecl}
use Rattle.cat_value.specs.declared.decls.Decls.{Decls}
use Rattle.cat_value.specs.Inputs.{must_be_given}
use Rattle.cat_scope.specs.Replies.{known}
use Rattle.cat_scope.specs.Names.{has_none, items_in, scope_items}
use Rattle.cat_scope.specs.Calls.{Items}
use Rattle.cat_sound.proofs.Results.{both}
use Rattle.cat_sound.proofs.Exported.{same_some}
use Rattle.cat_code.specs.declared.instr.Instr.{Instr}
use Rattle.cat_code.specs.declared.instr.Instr.TheVariants as instr
use Rattle.cat_code.specs.declared.code.Tables.{Tables}
use Rattle.cat_code.specs.States.{State, Frame, push}
use Rattle.cat_code.specs.Moves as move
use Rattle.cat_code.specs.Machine.{act}
use Rattle.cat_code.specs.Forms.{Form, form_of, same_form, outputs_form}
use Rattle.cat_code.specs.Shapes.{Owner, FrameShape, LoopShape, PendingShape, Shape}
use Rattle.cat_code.specs.Shaped.{Shapes, IsMet, AreEntries, scope_entry}
use Rattle.cat_code.specs.Places.{FunctionPlace, function_places}
use Rattle.cat_code.specs.Tame.{IsCallOf}
use Rattle.cat_code.specs.Wanted.{are_params, is_pending_inside, are_passed}
use Rattle.cat_code.specs.Leads.{leads, leads_two, with, where_so, pushed, function_entry}
use Rattle.cat_code.specs.Leads as lead
use Rattle.cat_code.specs.Told.{result_form}
use Rattle.cat_code.specs.Flow.{flow}
use Rattle.cat_code.proofs.FormLaws.{same_is}
use Rattle.cat_code_sound.proofs.ValueKinds.{IsOf}
use Rattle.cat_code_sound.proofs.Fitting.{OnTop, SlotFits, SlotsFit, KeepsSlots, FrameFits, LoopFits, PendingFits}
use Rattle.cat_code_sound.proofs.Fitting.{Setting, Fits, meets_fits, same_fits, pushed_fits, pending_fit, lefts}
use Rattle.cat_code_sound.proofs.Stepping.{Finishes, goes, GoesOn, Fine, fine_where, fine_with, fine_one, fine_two}
use Rattle.cat_code_sound.proofs.Stepping.{fine_top, finish_known, finish_pop_all, finish_over}
use Rattle.cat_code_sound.proofs.PlaceLemmas.{Outer, entry_at}
use Rattle.cat_code_sound.proofs.Running.{EndsFrom, BackEnds, EntryEnds, entered, looping}

-- arguments are of the types of parameters
params_fit : (ds : Decls) (params : List Ty) (ts : List Form) (vs : List Value)
    → are_params (form_of ds) params ts ≡ true
    → OnTop (IsOf ds) ts vs [] → OnTop (IsOf ds) (map (form_of ds) params) vs []
params_fit ds [] [] vs so are = are
params_fit ds [] (t ∷ ts) vs so are = absurd (true≢false (sym so))
params_fit ds (p ∷ params) [] vs so are = absurd (true≢false (sym so))
params_fit ds (p ∷ params) (t ∷ ts) [] so are = absurd are
params_fit ds (p ∷ params) (t ∷ ts) (v ∷ vs) so are =
    let parts = both (same_form t (form_of ds p)) (are_params (form_of ds) params ts) so in (
      subst (λ (f : Form). IsOf ds f v) (same_is t (form_of ds p) parts.0) are.0,
      params_fit ds params ts vs parts.1 are.1,
    )

-- slots to which each input was passed are those that a scope begins with
passed_fit : (ds : Decls) (items : List ItemDecl) (passed : List Bool) (slots : Items) → are_passed items passed ≡ true
    → SlotsFit ds items passed slots
    → SlotsFit ds items (map (λ (item : ItemDecl). must_be_given item.kind) items) slots
passed_fit ds [] [] [] so fits = tt
passed_fit ds [] [] (o ∷ slots) so fits = fits
passed_fit ds [] (b ∷ passed) [] so fits = absurd fits
passed_fit ds [] (b ∷ passed) (o ∷ slots) so fits = fits
passed_fit ds (item ∷ items) [] slots so fits = absurd (true≢false (sym so))
passed_fit ds (item ∷ items) (b ∷ passed) [] so fits = fits
passed_fit ds (item ∷ items) (true ∷ passed) (o ∷ slots) so fits =
    (there o fits.0, passed_fit ds items passed slots so fits.1)
  where
    there : (o : Option Value) → SlotFits ds item true o → SlotFits ds item (must_be_given item.kind) o
    there None fit = absurd (true≢false fit)
    there (Some v) fit = fit
passed_fit ds (item ∷ items) (false ∷ passed) (o ∷ slots) so fits =
    let parts = both (not (must_be_given item.kind)) (are_passed items passed) so in
    (there o (not-true (must_be_given item.kind) parts.0) fits.0, passed_fit ds items passed slots parts.1 fits.1)
  where
    there : (o : Option Value) → must_be_given item.kind ≡ false → SlotFits ds item false o
        → SlotFits ds item (must_be_given item.kind) o
    there None free fit = free
    there (Some v) free fit = fit

-- the result of a function
function_result : (tables : Tables) (n f : ℕ) (place : FunctionPlace)
    → slice_get (function_places tables.decls) f ≡ Some place
    → result_form tables (record { scope = n; function = Some f }) ≡ Some (form_of tables.decls place.decl.ty)
function_result tables n f place is = rw is refl

result_is : (a b : Form) (o : Option Form) → o ≡ Some a → o ≡ Some b → b ≡ a
result_is a b o e f = same_some b a (sym f ∙ e)

module _ (tables : Tables) (code : List Instr) (shapes : Shapes) (owner : Owner) (below : State)
    (calls_end : (called : Owner) → IsCallOf code shapes owner called → EntryEnds tables code shapes called) where
  abbrev pub here : Setting
  here = looping tables code shapes owner below

  abbrev pub Good : State → Type 0
  Good = EndsFrom tables code

  -- where what was called is left, the caller goes on with its result
  back_ends : (i : Instr) (p : ℕ) (turns : List ℕ) (called : Owner) (shape : Shape) (s entry : State)
      (kept : Option Items) (t : Form)
      → Fits here turns shape s → GoesOn here Good i p (p + 1, pushed t shape)
      → entry.operands ≡ s.operands → entry.defaults ≡ s.defaults → entry.loops ≡ s.loops → entry.pending ≡ s.pending
      → entry.frames ≡ record { slots = kept; locals = s.locals; back = p + 1 } ∷ s.frames
      → ((r : Items) → KeepsSlots called.function r entry.slots → s.slots ≡ move.slots_back kept r)
      → result_form tables called ≡ Some t → BackEnds tables code called entry
  back_ends i p turns called shape s entry kept t fits go operands defaults loops pending frames slots result v r left =
      let frame : Frame = record { slots = kept; locals = s.locals; back = p + 1 } in
      let typed : IsOf tables.decls t v
      = subst (λ (f : Form). IsOf tables.decls f v)
      (result_is t left.result.0 (result_form tables called) result left.result.1) left.result.2 in
      let after : State =
      record r { place = p + 1; slots = move.slots_back kept r.slots; locals = s.locals; frames = s.frames } in
      subst (λ (fs : List Frame). Finishes Good (move.returns fs r)) (sym (left.frames ∙ frames))
      (goes (go.1 (inl refl) turns after refl
      (same_fits here turns (pushed t shape) (push v s) after (pushed_fits here turns shape s t v fits typed)
      (ap (λ (vs : List Value). v ∷ vs) (sym operands) ∙ sym left.operands) refl (slots r.slots left.kept)
      (sym defaults ∙ sym left.defaults) (sym loops ∙ sym left.loops) (sym pending ∙ sym left.pending) refl)))

  pub call_finishes : (f n : ℕ) (turns : List ℕ) (shape : Shape) (s : State) → Fits here turns shape s
      → ((place : FunctionPlace) → slice_get (function_places tables.decls) f ≡ Some place
      → IsCallOf code shapes owner (record { scope = owner.scope; function = Some f }))
      → ((entry : ℕ) → slice_get tables.functions f ≡ Some entry → Outer code entry)
      → Fine here Good (instr.Call f n) s.place (flow tables code (instr.Call f n) s.place shape)
      → Finishes Good (act tables (instr.Call f n) s)
  call_finishes f n turns shape s fits calls outer fine =
      let i : Instr = instr.Call f n in
      let place = fine_with here Good i s.place (slice_get (function_places tables.decls) f)
      (λ (place : FunctionPlace). with (slice_get tables.functions f)
      (λ entry. where_so (nat_eq place.scope shape.owner.scope && nat_eq n (length place.decl.params))
      (lead.pop_all n shape (λ ts r. where_so (are_params (form_of tables.decls) place.decl.params ts)
      (leads_two (s.place + 1) (pushed (form_of tables.decls place.decl.ty) r) entry
      (function_entry (form_of tables.decls) f place r)))))) fine in
      let entry = fine_with here Good i s.place (slice_get tables.functions f)
      (λ entry. where_so (nat_eq place.0.scope shape.owner.scope && nat_eq n (length place.0.decl.params))
      (lead.pop_all n shape (λ ts r. where_so (are_params (form_of tables.decls) place.0.decl.params ts)
      (leads_two (s.place + 1) (pushed (form_of tables.decls place.0.decl.ty) r) entry
      (function_entry (form_of tables.decls) f place.0 r))))) place.2 in
      let w =
      fine_where here Good i s.place
      (nat_eq place.0.scope shape.owner.scope && nat_eq n (length place.0.decl.params))
      (lead.pop_all n shape (λ ts r. where_so (are_params (form_of tables.decls) place.0.decl.params ts)
      (leads_two (s.place + 1) (pushed (form_of tables.decls place.0.decl.ty) r) entry.0
      (function_entry (form_of tables.decls) f place.0 r)))) entry.2 in
      let scopes = both (nat_eq place.0.scope shape.owner.scope) (nat_eq n (length place.0.decl.params)) w.0 in
      let same : place.0.scope ≡ owner.scope =
      eqb-true place.0.scope shape.owner.scope scopes.0 ∙ ap (λ (o : Owner). o.scope) fits.owner in
      finish_pop_all here Good i s.place turns shape s n
      (λ ts r. where_so (are_params (form_of tables.decls) place.0.decl.params ts)
      (leads_two (s.place + 1) (pushed (form_of tables.decls place.0.decl.ty) r) entry.0
      (function_entry (form_of tables.decls) f place.0 r)))
      (λ vs r. move.with_part (known (slice_get tables.functions f)) (λ entry. move.enters entry None r.slots vs r))
      fits w.1
      (λ ts us vs ws taken left g.
      let after : Shape = record shape { operands = us } in
      let popped : State = record s { operands = ws } in
      let params = fine_where here Good i s.place (are_params (form_of tables.decls) place.0.decl.params ts)
      (leads_two (s.place + 1) (pushed (form_of tables.decls place.0.decl.ty) after) entry.0
      (function_entry (form_of tables.decls) f place.0 after)) g in
      let two = fine_two here Good i s.place (s.place + 1) (pushed (form_of tables.decls place.0.decl.ty) after) entry.0
      (function_entry (form_of tables.decls) f place.0 after) params.1 in
      let called : Owner = record { scope = owner.scope; function = Some f } in
      let frame : Frame = record { slots = None; locals = s.locals; back = s.place + 1 } in
      let start : State = record popped { place = entry.0; locals = vs; frames = frame ∷ s.frames } in
      let met : IsMet shapes entry.0 (function_entry (form_of tables.decls) f place.0 after) = two.1.0 in
      let begins : Fits (entered tables code shapes called start) (lefts start.loops)
      (function_entry (form_of tables.decls) f place.0 after) start = record {
        owner = ap (λ (k : ℕ). record { scope = k; function = Some f }) same;
        operands = refl;
        locals = params_fit tables.decls place.0.decl.params ts vs params.0 taken;
        slots = left.slots;
        kept = refl;
        defaults = refl;
        loops = refl;
        turns_are = refl;
        around = tt;
        pending = refl;
        frames = refl;
      } in
      finish_known here Good i s.place (slice_get tables.functions f) entry.0
      (λ (entry : ℕ). move.enters entry None s.slots vs popped) entry.1
      (goes (calls_end called (calls place.0 place.1) entry.0 met.shape met.is (sym met.meets.loops)
      (outer entry.0 entry.1) start refl
      (lefts start.loops)
      (meets_fits (entered tables code shapes called start) (lefts start.loops)
      (function_entry (form_of tables.decls) f place.0 after) met.shape start
      met.meets begins)
      (back_ends i s.place turns called after popped start None
      (form_of tables.decls place.0.decl.ty) left two.0 refl refl refl refl refl
      (λ r keeps. sym keeps) (function_result tables owner.scope f place.0 place.1)))))

  pub enter_finishes : (turns : List ℕ) (shape : Shape) (s : State) → Fits here turns shape s
      → AreEntries shapes 0 tables.decls.scopes tables.scopes
      → ((k entry : ℕ) → slice_get tables.scopes k ≡ Some entry → Outer code entry)
      → ((n : ℕ) → here.Known n → (scope : Scope) × (slice_get tables.decls.scopes n ≡ Some scope))
      → Fine here Good instr.Enter s.place (flow tables code instr.Enter s.place shape)
      → Finishes Good (act tables instr.Enter s)
  enter_finishes turns shape s fits entries outer declared fine =
      let i : Instr = instr.Enter in
      let w = fine_where here Good i s.place (is_pending_inside shape.loops shape.pending)
      (lead.top shape.pending (λ q qs. where_so (are_passed (scope_items tables.decls q.scope) q.passed)
      (leads (s.place + 1) (pushed (outputs_form tables.decls q.scope) (record shape { pending = qs }))))) fine in
      let q = fine_top here Good i s.place shape.pending
      (λ (q : PendingShape) (qs : List PendingShape). where_so (are_passed (scope_items tables.decls q.scope) q.passed)
      (leads (s.place + 1) (pushed (outputs_form tables.decls q.scope) (record shape { pending = qs })))) w.1 in
      let x = fine_where here Good i s.place (are_passed (scope_items tables.decls q.0.scope) q.0.passed)
      (leads (s.place + 1) (pushed (outputs_form tables.decls q.0.scope) (record shape { pending = q.1 }))) q.3 in
      let one =
      fine_one here Good i s.place (s.place + 1)
      (pushed (outputs_form tables.decls q.0.scope) (record shape { pending = q.1 })) x.1 in
      finish_over here Good i s.place
      (PendingFits tables.decls here.Known) shape.pending q.0 q.1 s.pending below.pending
      (λ p ps. move.with_part (known (slice_get tables.scopes p.scope))
      (λ entry. move.enters entry (Some s.slots) p.slots [] (record s { pending = ps })))
      q.2 fits.pending
      (λ p ps are fit rest.
      let called : Owner = record { scope = q.0.scope; function = None } in
      let after : Shape = record shape { pending = q.1 } in
      let popped : State = record s { pending = ps } in
      let left : Fits here turns after popped = pending_fit here turns shape s q.1 ps fits rest in
      let scope = declared q.0.scope fit.known in
      let there = entry_at shapes 0 tables.decls.scopes tables.scopes q.0.scope scope.0 entries scope.1 in
      let items : scope_items tables.decls q.0.scope ≡ scope.0.items = ap items_in scope.1 in
      let frame : Frame = record { slots = Some s.slots; locals = s.locals; back = s.place + 1 } in
      let start : State =
      record popped { place = there.entry; slots = p.slots; locals = []; frames = frame ∷ s.frames } in
      let begins : Fits (entered tables code shapes called start) (lefts start.loops)
      (scope_entry (0 + q.0.scope) scope.0.items) start = record {
        owner = ap (λ (k : ℕ). record { scope = k; function = None }) (zero_more q.0.scope);
        operands = refl;
        locals = refl;
        slots =
            subst (λ (l : List ItemDecl). SlotsFit tables.decls (scope_items tables.decls q.0.scope)
            (map (λ (item : ItemDecl). must_be_given item.kind) l) p.slots)
            items (passed_fit tables.decls (scope_items tables.decls q.0.scope) q.0.passed p.slots x.0 fit.slots);
        kept = tt;
        defaults = refl;
        loops = refl;
        turns_are = refl;
        around = tt;
        pending = refl;
        frames = refl;
      } in
      finish_known here Good i s.place (slice_get tables.scopes p.scope) there.entry
      (λ (entry : ℕ). move.enters entry (Some s.slots) p.slots [] popped)
      (ap (slice_get tables.scopes) fit.scope ∙ there.entry_is)
      (goes (calls_end called fit.known there.entry there.met.shape there.met.is (sym there.met.meets.loops)
      (outer q.0.scope there.entry there.entry_is) start refl (lefts start.loops)
      (meets_fits (entered tables code shapes called start) (lefts start.loops)
      (scope_entry (0 + q.0.scope) scope.0.items) there.met.shape start
      there.met.meets begins)
      (back_ends i s.place turns called after popped start (Some s.slots)
      (outputs_form tables.decls q.0.scope) left one refl refl refl refl refl
      (λ r keeps. refl) refl))))
    where
      zero_more : (n : ℕ) → 0 + n ≡ n
      zero_more n = omega arith

  -- a return leaves the frame with its result on top of what it found
  pub return_finishes : (turns : List ℕ) (shape : Shape) (s : State) → Fits here turns shape s
      → BackEnds tables code owner below
      → Fine here Good instr.Return s.place (flow tables code instr.Return s.place shape)
      → Finishes Good (act tables instr.Return s)
  return_finishes turns shape s fits back fine =
      let i : Instr = instr.Return in
      let t = fine_with here Good i s.place (result_form tables shape.owner) (λ t. lead.pop_as t shape
      (λ r. where_so (has_none r.operands && has_none r.defaults && has_none r.loops && has_none r.pending) (Some [])))
      fine in
      let u = fine_top here Good i s.place shape.operands (λ (u : Form) (us : List Form). where_so (same_form u t.0)
      (where_so (has_none us && has_none shape.defaults && has_none shape.loops && has_none shape.pending) (Some [])))
      t.2 in
      let w = fine_where here Good i s.place (same_form u.0 t.0)
      (where_so (has_none u.1 && has_none shape.defaults && has_none shape.loops && has_none shape.pending) (Some []))
      u.3 in
      let x =
      fine_where here Good i s.place
      (has_none u.1 && has_none shape.defaults && has_none shape.loops && has_none shape.pending) (Some []) w.1 in
      let a = both (has_none u.1 && has_none shape.defaults && has_none shape.loops) (has_none shape.pending) x.0 in
      let b = both (has_none u.1 && has_none shape.defaults) (has_none shape.loops) a.0 in
      let c = both (has_none u.1) (has_none shape.defaults) b.0 in
      let alone : shape.operands ≡ u.0 ∷ [] = u.2 ∙ ap (λ (l : List Form). u.0 ∷ l) (none_is u.1 c.0) in
      let v =
      top_there u.0 s.operands
      (subst (λ (l : List Form). OnTop (IsOf tables.decls) l s.operands below.operands) alone fits.operands) in
      back v.0 s (record {
        result = (
          t.0,
          ap (result_form tables) (sym fits.owner)
              ∙ t.1,
          subst (λ (f : Form). IsOf tables.decls f v.0) (same_is u.0 t.0 w.0) v.2,
        );
        operands = v.1;
        kept = fits.kept;
        defaults =
            subst (λ (l : List FrameShape). OnTop (FrameFits tables.decls) l s.defaults below.defaults)
            (none_is shape.defaults c.1) fits.defaults;
        loops =
            subst (λ (l : List LoopShape). OnTop (LoopFits tables.decls) l s.loops below.loops)
            (none_is shape.loops b.1) fits.loops;
        pending =
            subst (λ (l : List PendingShape). OnTop (PendingFits tables.decls here.Known) l s.pending below.pending)
            (none_is shape.pending a.1) fits.pending;
        frames = fits.frames;
      })
    where
      none_is : {A : Type 0} (xs : List A) → has_none xs ≡ true → xs ≡ []
      none_is [] is = refl
      none_is (x ∷ xs) is = absurd (true≢false (sym is))

      top_there : (t : Form) (vs : List Value) → OnTop (IsOf tables.decls) (t ∷ []) vs below.operands
          → (v : Value) × (vs ≡ v ∷ below.operands) × IsOf tables.decls t v
      top_there t [] are = absurd are
      top_there t (v ∷ vs) are = (v, ap (λ (l : List Value). v ∷ l) are.1, are.0)
