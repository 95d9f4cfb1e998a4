-- A run that ends in a value has given each of its items what it comes to, in the values of its index.
use Rattle.std.proofs.Common.{◌≡◌, ℕ, zero, suc, List, [], ◌∷◌, take, drop, Some, Result, Ok, Err, slice_get, refl, sym}
use Rattle.std.proofs.Common.{ap, ◌∙◌}
use Rattle.cat_value.specs.declared.value.Value.{Value}
use Rattle.cat_scope.specs.declared.stop.Stop.{Stop}
use Rattle.cat_scope.specs.Runs.{Decider, Run, behind, and_then}
use Rattle.cat_scope.specs.Calls.{Items, Scoped}
use Rattle.cat_scope.specs.ItemValues.{item_value}
use Rattle.cat_scope.specs.Running.{backwards, entry_at, no_values, run_items, run_scoped}
use Rattle.cat_sound.specs.Given.{values_at, JudgedAt}
use Rattle.cat_sound.proofs.GivenValues.{run_through}
use Rattle.cat_sound.proofs.FormTypes.{same_some}

-- a run with a value comes of a first one with a value
abbrev FirstOk : {A B : Type 0} → Result A Stop → (A → Run B) → B → Type 0
FirstOk {A} r next b = (a : A) × (r ≡ Ok a) × ((next a).end ≡ Ok b)

first_behind : {A B : Type 0} (log : List Decider) (r : Result A Stop) (next : A → Run B) (b : B)
    → (behind log r next).end ≡ Ok b → FirstOk r next b
first_behind log (Ok a) next b h = (a, refl, h)
first_behind log (Err stop) next b h = absurd (cc)

pub first_ok : {A B : Type 0} (run : Run A) (next : A → Run B) (b : B) → (and_then run next).end ≡ Ok b
    → FirstOk run.end next b
first_ok run next b h = first_behind run.log run.end next b h

pub drop_at : (ns : List ℕ) (index item : ℕ) → slice_get ns index ≡ Some item → (rest : List ℕ)
    × (drop index ns ≡ item ∷ rest)
drop_at [] index item at = absurd (cc)
drop_at (n ∷ ns) zero item at = (ns, ap (λ (m : ℕ). m ∷ ns) (same_some n item at))
drop_at (n ∷ ns) (suc index) item at = drop_at ns index item at

pub each_judged : (scoped : Scoped) (input : Items) (outputs : List Value) (index item : ℕ)
    → (run_scoped scoped input).end ≡ Ok outputs → slice_get scoped.order index ≡ Some item
    → JudgedAt scoped input index item
each_judged scoped input outputs index item ends at =
    let whole = first_ok (run_items scoped input [] (no_values scoped.items) scoped.order) _ outputs ends in
    let through = first_ok (values_at scoped input index)
    (λ values. run_items scoped input (backwards (take index scoped.order)) values
    (drop index scoped.order)) whole.0
    (sym (ap (λ (run : Run Items). run.end) (run_through scoped input index)) ∙ whole.1) in
    let here = drop_at scoped.order index item at in
    let judged = first_ok (item_value scoped (backwards (take index scoped.order)) through.0 item
    (entry_at item input) (slice_get scoped.items item)) _ whole.0
    (sym (ap (λ left. (run_items scoped input (backwards (take index scoped.order)) through.0 left).end) here.1)
    ∙ through.2) in
    record { values = through.0; value = judged.0; reached = through.1; is = judged.1 }
