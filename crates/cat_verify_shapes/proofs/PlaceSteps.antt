-- What a scope that is entered and a place that is looked at come to, by what the calls for it told.
use Rattle.std.proofs.Common.{◌≡◌, ◌<◌, ◌^◌, ℕ, Bool, List, [], ◌∷◌, map, length, Some, None, slice_get, IsTrue}
use Rattle.std.proofs.Common.{ap, ◌∙◌}
use Rattle.std.proofs.Common.{arith}
use Rattle.std.specs.Prelude.{Result, Ok, Err}
use Rattle.std.proofs.lemmas.Bool.Decides.{nat_tests}
use Rattle.cat_value.specs.declared.declaration.ItemDecl.{ItemDecl}
use Rattle.cat_value.specs.declared.declaration.Structure.{Structure}
use Rattle.cat_value.specs.declared.declaration.Enumeration.{Enumeration}
use Rattle.cat_value.specs.declared.declaration.Scope.{Scope}
use Rattle.cat_value.specs.declared.decls.Decls.{Decls}
use Rattle.cat_value.specs.Declarations.{are_sound}
use Rattle.cat_value.specs.Inputs.{must_be_given}
use Rattle.cat_code.specs.declared.instr.Instr.{Instr}
use Rattle.cat_code.specs.declared.code.Tables.{Tables}
use Rattle.cat_code.specs.Flow.{flow}
use Rattle.cat_code.specs.Shaped.{scope_entry}
use Rattle.cat_verify_shapes.specs.Settled.{IsSettled}
use Rattle.cat_verify_shapes.specs.Owned.{AreOwners}
use Rattle.cat_verify_shapes.specs.Unshaped.{HasCause}
use Rattle.cat_verify_shapes.specs.declared.owner.Owner.{Owner}
use Rattle.cat_verify_shapes.specs.declared.owner.OwnerPlaces.{OwnerPlaces}
use Rattle.cat_verify_shapes.specs.declared.leads.Leads.{Leads}
use Rattle.cat_verify_shapes.specs.declared.leads.Stuck.{Stuck}
use Rattle.cat_verify_shapes.specs.declared.leads.Stuck.TheVariants as stuck
use Rattle.cat_verify_shapes.specs.declared.forms.Forms.{Forms}
use Rattle.cat_verify_shapes.specs.declared.shape.Shape.{Shape}
use Rattle.cat_verify_shapes.specs.declared.found.Spot.{Spot}
use Rattle.cat_verify_shapes.specs.inside.Senses.{Senses, Grows}
use Rattle.cat_verify_shapes.specs.inside.Told.{shape_of, Comes}
use Rattle.cat_verify_shapes.specs.inside.Looking.{Arriving, ArrivingAll, IsOpened}
use Rattle.cat_verify_shapes.specs.inside.States.{AreInOrder, IsState, LooksAt, all_places, refused}
use Rattle.cat_verify_shapes.proofs.StateSteps.{entered_refused}
use Rattle.cat_verify_shapes.proofs.LookSteps.{state_on, looked_state, stuck_state, shut_state}

-- ---- scopes that are entered

counted_scopes : (ss : List Structure) (es : List Enumeration) (scopes : List Scope) → IsTrue (are_sound ss es scopes)
    → length scopes < 2 ^ 32
unfolding are_sound
counted_scopes ss es scopes h = grind (arith, nat_tests)

-- scopes are numbered by a u32
pub scopes_few : (ds : Decls) → length ds.scopes < 2 ^ 32
scopes_few ds = counted_scopes ds.structures ds.enumerations ds.scopes ds.sound

abbrev at_entry : Owner → List ℕ → List Bool → Shape
at_entry owner locals filled = record {
  owner = owner;
  operands = [];
  locals = locals;
  filled = filled;
  defaults = [];
  loops = [];
  pending = [];
}

pub entry_is : (n : ℕ) (items : List ItemDecl) (owner : Owner) (locals : List ℕ) (filled : List Bool) (s : Shape)
    → owner ≡ record { scope = n; function = None } → locals ≡ []
    → filled ≡ map (λ item. must_be_given item.kind) items → s ≡ at_entry owner locals filled
    → (d : Senses) → shape_of d s ≡ scope_entry n items
entry_is n items owner locals filled s owner_is none filled_is is d =
    ap (shape_of d) is
    ∙ ap (λ (o : Owner). shape_of d (at_entry o locals filled)) owner_is
    ∙ ap (λ (ls : List ℕ). shape_of d (at_entry (record { scope = n; function = None }) ls filled)) none
    ∙ ap (λ (fs : List Bool). shape_of d (at_entry (record { scope = n; function = None }) [] fs)) filled_is

-- why a scope can't be entered
pub entry_cause : (tables : Tables) (code : List Instr) (forms : Forms) (found after : List Spot) (n e : ℕ)
    (owners : List OwnerPlaces) (one : Scope) (s : Shape) (why : Stuck) → AreOwners tables code owners
    → IsState tables code forms found n (all_places owners) → slice_get tables.decls.scopes n ≡ Some one
    → slice_get tables.scopes n ≡ Some e → ((d : Senses) → shape_of d s ≡ scope_entry n one.items)
    → Arriving found after e s (Err why) → HasCause tables code (refused why e)
entry_cause tables code forms found after n e owners one s stuck.Bad are state is at shape_is shut =
    entered_refused tables code forms found n e owners one s are state is at shape_is shut
entry_cause tables code forms found after n e owners one s stuck.Memory are state is at shape_is shut = tt

-- ---- places that are looked at

-- why a place can't be
pub place_cause : (tables : Tables) (code : List Instr) (forms : Forms) (found : List Spot) (left : List ℕ) (p : ℕ)
    (why : Stuck) → LooksAt tables code forms found left p (Err why) → HasCause tables code (refused why p)
place_cause tables code forms found left p stuck.Bad cause = cause
place_cause tables code forms found left p stuck.Memory cause = tt

module _ (tables : Tables) (code : List Instr) (settled : IsSettled tables code) (before forms : Forms)
    (grows : Grows before forms) (found between : List Spot) (place : ℕ) (left : List ℕ) (i : Instr) (s : Shape)
    (order : AreInOrder tables code (place ∷ left))
    (state : IsState tables code before found (length tables.decls.scopes) (place ∷ left))
    (opened : IsOpened found between place i (Some s)) (code_is : slice_get code place ≡ Some i) where
  grown : IsState tables code forms found (length tables.decls.scopes) (place ∷ left)
  grown = state_on tables code before forms found (length tables.decls.scopes) (place ∷ left) grows state

  -- its instruction lacks what it works on
  pub step_stuck : (after : List Spot) (why : Stuck)
      → Comes tables forms (Err why) (λ d. flow tables code i place (shape_of d s))
      → LooksAt tables code forms after left place (Err why)
  step_stuck after stuck.Bad comes =
      stuck_state tables code settled.forward forms found between (length tables.decls.scopes) place left i s order
      grown opened code_is comes
  step_stuck after stuck.Memory comes = tt

  -- its instruction leads to places
  pub step_led : (after : List Spot) (to : Leads) (result : Result (Unit {0}) Stuck)
      → Comes tables forms (Ok to) (λ d. flow tables code i place (shape_of d s))
      → ArrivingAll between after to result → LooksAt tables code forms after left place result
  step_led after to (Ok done) comes arrive =
      looked_state tables code settled.forward forms found between (length tables.decls.scopes) place left i s order
      grown opened code_is to after comes arrive
  step_led after to (Err stuck.Bad) comes arrive =
      shut_state tables code settled.forward forms found between (length tables.decls.scopes) place left i s order
      grown opened code_is to comes arrive
  step_led after to (Err stuck.Memory) comes arrive = tt
