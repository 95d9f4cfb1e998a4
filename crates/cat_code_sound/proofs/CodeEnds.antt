-- Valid code runs to an end on each well-typed input of each scope.
use Rattle.std.proofs.Common.{◌≡◌, ℕ, suc, ◌+◌, true, true≢false, List, [], ◌∷◌, map, Option}
use Rattle.std.proofs.Common.{Some, None, Result, Err, slice_get, refl, sym, ap, subst, arith}
use Rattle.std.proofs.lemmas.Bool.{not-true}
use Rattle.cat_value.specs.declared.ty.Ty.{Ty}
use Rattle.cat_value.specs.declared.value.Value.{Value}
use Rattle.cat_value.specs.declared.declaration.Kind.{Kind}
use Rattle.cat_value.specs.declared.declaration.Kind.TheVariants as kind
use Rattle.cat_value.specs.declared.declaration.ItemDecl.{ItemDecl}
use Rattle.cat_value.specs.declared.decls.Decls.{Decls}
use Rattle.cat_value.specs.Declarations.{is_sound}
use Rattle.cat_value.specs.Inputs.{outputs_in, must_be_given, may_be_given, is_given_for, are_given_for, IsWellTyped}
use Rattle.cat_value.specs.Laws.{AreSound}
use Rattle.cat_value.specs.Typing.{has_type}
use Rattle.cat_value.proofs.Exported.{list_all_at}
use Rattle.cat_scope.specs.declared.stop.Stop.{Stop}
use Rattle.cat_scope.specs.declared.stop.Stop.TheVariants.{Stuck}
use Rattle.cat_scope.specs.Names.{items_in, scope_items}
use Rattle.cat_scope.specs.Projections as read
use Rattle.cat_scope.specs.Calls.{Items}
use Rattle.cat_sound.specs.Endings.{Ended}
use Rattle.cat_sound.specs.LowTypes.{IsLow}
use Rattle.cat_sound.proofs.Exported.{anything, same_some}
use Rattle.cat_sound.proofs.Results.{Any, both}
use Rattle.cat_code.specs.declared.instr.Instr.{Instr}
use Rattle.cat_code.specs.declared.code.Constant.{Constant}
use Rattle.cat_code.specs.declared.code.Tables.{Tables}
use Rattle.cat_code.specs.States.{State, Frame, Over, started}
use Rattle.cat_code.specs.Moves as move
use Rattle.cat_code.specs.Runs.{Gives}
use Rattle.cat_code.specs.Forms.{Form, form_of, outputs_form, items_forms}
use Rattle.cat_code.specs.Forms as forms
use Rattle.cat_code.specs.Shapes.{Owner}
use Rattle.cat_code.specs.Shaped.{Shapes, scope_entry}
use Rattle.cat_code.specs.Valid.{IsValidBy, IsValid, constant_is_sound, entries_of}
use Rattle.cat_code.proofs.Determined.{one_run}
use Rattle.cat_code.proofs.InputLemmas.{taken}
use Rattle.cat_code_sound.specs.Ending.{RunsToAnEnd}
use Rattle.cat_code_sound.proofs.ValueKinds.{IsOf, reads_fields}
use Rattle.cat_code_sound.proofs.Fitting.{SlotFits, SlotsFit, Fits, meets_fits}
use Rattle.cat_code_sound.proofs.Stepping.{Finishes, over}
use Rattle.cat_code_sound.proofs.PlaceLemmas.{entry_at, scope_among, outer_entry}
use Rattle.cat_code_sound.proofs.Running.{EndsFrom, BackEnds, entered}
use Rattle.cat_code_sound.proofs.Entries.{entry_ends}
use Rattle.cat_code_sound.proofs.TypedValues.{low_type, low_of, typed_form}

-- ---- an input fits the entry of its scope

-- what may be given is of the type of its item
given_form : (ds : Decls) (t : Ty) (k : Kind) → may_be_given k ≡ true → forms.value_form ds t k ≡ form_of ds t
given_form ds t (kind.Called n) may = absurd (true≢false (sym may))
given_form ds t kind.Input may = refl
given_form ds t kind.InputOutput may = refl
given_form ds t kind.Output may = refl
given_form ds t kind.Internal may = refl
given_form ds t kind.Context may = refl
given_form ds t kind.ContextOutput may = refl

slot_given : (ds : Decls) (sound : AreSound ds) (item : ItemDecl) (o : Option Value) → IsLow ds item.ty
    → is_given_for ds item o ≡ true
    → SlotFits ds item (must_be_given item.kind) o
slot_given ds sound item None low given = not-true (must_be_given item.kind) given
slot_given ds sound item (Some v) low given =
    let parts = both (may_be_given item.kind) (has_type ds v item.ty) given in
    subst (λ (f : Form). IsOf ds f v) (sym (given_form ds item.ty item.kind parts.0))
    (typed_form ds sound v item.ty parts.1 low)

slots_given : (ds : Decls) (sound : AreSound ds) (items : List ItemDecl) (input : Items)
    → ((k : ℕ) (item : ItemDecl) → slice_get items k ≡ Some item → IsLow ds item.ty)
    → are_given_for ds items input ≡ true
    → SlotsFit ds items (map (λ (item : ItemDecl). must_be_given item.kind) items) input
slots_given ds sound [] [] low given = tt
slots_given ds sound [] (o ∷ input) low given = absurd (true≢false (sym given))
slots_given ds sound (item ∷ items) [] low given = absurd (true≢false (sym given))
slots_given ds sound (item ∷ items) (o ∷ input) low given =
    let parts = both (is_given_for ds item o) (are_given_for ds items input) given in (
      slot_given ds sound item o (low 0 item refl) parts.0,
      slots_given ds sound items input (λ k x is. low (suc k) x is) parts.1,
    )

-- ---- the first frame is left with the fields of a structure

first_ends : (tables : Tables) (code : List Instr) (n : ℕ) (input : Items) (entry : ℕ)
    → BackEnds tables code (record { scope = n; function = None }) (started entry input)
first_ends tables code n input entry v r left =
    let typed : IsOf tables.decls (outputs_form tables.decls n) v
    = subst (λ (f : Form). IsOf tables.decls f v)
    (sym (same_some (outputs_form tables.decls n) left.result.0 left.result.1)) left.result.2 in
    let vs = reads_fields tables.decls (items_forms tables.decls (outputs_in (scope_items tables.decls n))) v typed in
    subst (λ (fs : List Frame). Finishes (EndsFrom tables code) (move.returns fs r)) (sym left.frames)
    (subst (λ (l : List Value). Finishes (EndsFrom tables code) (move.of_top l (λ w ws. Over (read.parts w))))
    (sym left.operands)
    (over (subst (λ (x : Result (List Value) Stop). Ended anything Any x) (sym vs.1) tt)))

-- what a stop tells apart
is_stuck : (end : Result (List Value) Stop) → Ended anything Any end → end ≡ Err Stuck → ⊥
is_stuck end goes stuck = subst (λ (x : Result (List Value) Stop). Ended anything Any x) stuck goes

pub code_runs_to_an_end : (tables : Tables) (code : List Instr) → IsValid tables code → AreSound tables.decls
    → (scope : ℕ) (input : Items)
    → IsWellTyped tables.decls scope input → RunsToAnEnd tables code scope input
code_runs_to_an_end tables code is_valid sound n input typed =
    let shapes : Shapes = is_valid.0 in
    let valid : IsValidBy tables code shapes = is_valid.1 in
    let ds = tables.decls in
    let constant : (k : ℕ) (c : Constant) → slice_get tables.constants k ≡ Some c → IsOf ds (form_of ds c.ty) c.value
    = λ k c is.
    let so = both (is_sound ds.structures ds.enumerations c.ty) (has_type ds c.value c.ty)
    (list_all_at (constant_is_sound ds) tables.constants k c valid.constants is) in
    typed_form ds sound c.value c.ty so.1 (low_of ds c.ty so.0) in
    let met = taken ds n input typed in
    let there = entry_at shapes 0 ds.scopes tables.scopes n met.scope valid.shaped.entries met.is in
    let owner : Owner = record { scope = n; function = None } in
    let start : State = started there.entry input in
    let begins : Fits (entered tables code shapes owner start) [] (scope_entry (0 + n) met.scope.items) start = record {
      owner = ap (λ (k : ℕ). record { scope = k; function = None }) (zero_more n);
      operands = refl;
      locals = refl;
      slots =
          subst (λ (l : List ItemDecl). SlotsFit ds l
          (map (λ (item : ItemDecl). must_be_given item.kind) met.scope.items) input)
          (sym (ap items_in met.is)) (slots_given ds sound met.scope.items input
          (λ k item is. let so = sound.items n k met.scope item met.is is in low_type ds item.ty so.declared so.low)
          met.given);
      kept = tt;
      defaults = refl;
      loops = refl;
      turns_are = refl;
      around = tt;
      pending = refl;
      frames = refl;
    } in
    let ends =
    entry_ends tables code shapes valid constant owner there.entry there.met.shape there.met.is
    (sym there.met.meets.loops)
    (outer_entry tables code (entries_of tables) valid.rules n there.entry
    (scope_among tables n there.entry there.entry_is))
    start refl []
    (meets_fits (entered tables code shapes owner start) []
    (scope_entry (0 + n) met.scope.items) there.met.shape start there.met.meets begins)
    (first_ends tables code n input there.entry) in
    let gives : Gives tables code n input ends.run =
    record { entry = there.entry; is_entry = there.entry_is; steps = ends.steps; ends = ends.ends } in
    record {
      run = ends.run;
      gives = gives;
      goes_on = is_stuck ends.run.end ends.goes_on;
      alone = λ other also. one_run tables code n input other ends.run also gives;
    }
  where
    zero_more : (n : ℕ) → 0 + n ≡ n
    zero_more n = omega arith
