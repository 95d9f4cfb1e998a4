-- What the end of a run tells.
use Rattle.std.proofs.Common.{◌≡◌, ℕ, ◌<◌, List, length, slice_get, Option, Some, None, IsSome, true≢false, Err}
use Rattle.std.proofs.Common.{refl, sym, ap, ◌∙◌, subst}
use Rattle.cat_value.specs.declared.outcome.Outcome.TheVariants as outcome
use Rattle.cat_value.specs.declared.value.Value.{Value}
use Rattle.cat_value.specs.declared.value.Value.TheOpen.{Value-F}
use Rattle.cat_value.specs.declared.value.Value.TheViews as value
use Rattle.cat_scope.specs.declared.stop.Stop.TheVariants as stop
use Rattle.cat_scope.specs.Outcomes.{outcome_of}
use Rattle.cat_scope.specs.Projections.{parts, parts_in}
use Rattle.cat_scope.specs.Replies.{known, on_one}
use Rattle.cat_code.specs.declared.code.Tables.{Tables}
use Rattle.cat_code.specs.declared.code.TargetEntry.{TargetEntry}
use Rattle.cat_pool.specs.Nodes.{Standing, at, values}
use Rattle.cat_machine.specs.declared.machine.End.{End}
use Rattle.cat_machine.specs.declared.machine.End.TheVariants as end
use Rattle.cat_machine.specs.declared.machine.Machine.{Machine}
use Rattle.cat_machine.specs.Steps.{ending}
use Rattle.cat_machine.proofs.Holding.{get_below}
use Rattle.cat_machine.proofs.NodeKinds.{at_is, fields_are}

-- the fields of a structure are outputs
pub outputs_are : (nodes : List Standing) (r : ℕ) (v : Value) (vs : List Value) → slice_get (values nodes) r ≡ Some v
    → v ≡ value.Structure vs → outcome_of (parts (at (values nodes) r)) ≡ Some (outcome.Value vs)
outputs_are nodes r v vs there is =
    ap (λ (w : Value). outcome_of (parts w)) (at_is (values nodes) r v there ∙ is) ∙ ap outcome_of (fields_are vs)

-- another value has none
pub no_outputs : (nodes : List Standing) (r : ℕ) (v : Value) → slice_get (values nodes) r ≡ Some v
    → ((vs : List Value) → v ≡ value.Structure vs → ⊥) → IsSome (outcome_of (parts (at (values nodes) r))) → ⊥
no_outputs nodes r v there other some =
    by (value.out-Value v) refl
    (subst (λ (w : Value). IsSome (outcome_of (parts w))) (at_is (values nodes) r v there) some)
  where
    by : (y : Value-F Value) → value.out-Value v ≡ y → IsSome (outcome_of (parts_in y)) → ⊥
    by (Value-F.Structure vs) is some =
        other vs (sym (value.roll-out-Value v) ∙ ap value.roll-Value is ∙ value.rolls-Structure vs)
    by _ is some = true≢false (sym some)

-- what has no value is a target of the tables
pub target_there : (tables : Tables) (m : Machine) (e : End) (v : ℕ) → e ≡ end.NoValue v
    → IsSome (outcome_of (ending tables m e)) → v < length tables.targets
target_there tables m e v is some =
    by (slice_get tables.targets v) refl (subst (λ (x : End). IsSome (outcome_of (ending tables m x))) is some)
  where
    by : (o : Option TargetEntry) → slice_get tables.targets v ≡ o
        → IsSome (outcome_of (on_one {A = TargetEntry} {B = List Value} (known o)
        (λ entry. Err (stop.NoValue entry.target entry.pos))))
        → v < length tables.targets
    by None there some = absurd (true≢false (sym some))
    by (Some entry) there some = get_below tables.targets v entry there
