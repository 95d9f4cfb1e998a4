-- Runs that end, and what ends where a frame is left.
use Rattle.std.proofs.Common.{◌≡◌, ℕ, zero, suc, ◌+◌, true, List, [], ◌∷◌, ◌++◌, Option, Some, None, slice_get, refl}
use Rattle.std.proofs.Common.{sym, ap, ◌∙◌, subst}
use Rattle.cat_value.specs.declared.value.Value.{Value}
use Rattle.cat_scope.specs.Runs.{plain}
use Rattle.cat_sound.specs.Endings.{Ended}
use Rattle.cat_sound.proofs.Exported.{anything}
use Rattle.cat_sound.proofs.Results.{Any}
use Rattle.cat_code.specs.declared.instr.Instr.{Instr}
use Rattle.cat_code.specs.declared.code.Tables.{Tables}
use Rattle.cat_code.specs.States.{State, Next, Goes, Over}
use Rattle.cat_code.specs.Moves as move
use Rattle.cat_code.specs.Machine.{act}
use Rattle.cat_code.specs.Runs.{Whole, act_at, step, behind_log, followed, within}
use Rattle.cat_code.specs.Forms.{Form}
use Rattle.cat_code.specs.Shapes.{Owner, LoopShape, Shape}
use Rattle.cat_code.specs.Shaped.{Shapes, IsMet}
use Rattle.cat_code.specs.Tame.{is_next, IsCallOf}
use Rattle.cat_code.specs.Told.{result_form}
use Rattle.cat_code_sound.proofs.ValueKinds.{IsOf}
use Rattle.cat_code_sound.proofs.Fitting.{KeepsSlots, Setting, Fits}
use Rattle.cat_code_sound.proofs.Stepping.{Finishes, goes, over}
use Rattle.cat_code_sound.proofs.PlaceLemmas.{Outer}

module _ (tables : Tables) (code : List Instr) where
  -- from a state the run ends, and not stuck
  pub record EndsFrom (s : State) : Type 0 where
    pub steps : ℕ
    pub run : Whole
    pub ends : within tables code steps s ≡ Some run
    pub goes_on : Ended anything Any run.end

  pub run_on : (s : State) → Finishes EndsFrom (step tables code s) → EndsFrom s
  run_on s finishes = by (step tables code s) refl finishes
    where
      by : (next : Next) → step tables code s ≡ next → Finishes EndsFrom next → EndsFrom s
      by (Over end) is (over ok) = record {
        steps = suc zero;
        run = plain end;
        ends = ap (λ (x : Next). followed x (within tables code zero)) is;
        goes_on = ok;
      }
      by (Goes log r) is (goes rest) = record {
        steps = suc rest.steps;
        run = record { log = log ++ rest.run.log; end = rest.run.end };
        ends = ap (λ (x : Next). followed x (within tables code rest.steps)) is ∙ ap (behind_log log) rest.ends;
        goes_on = rest.goes_on;
      }

  pub run_by : (s : State) (i : Instr) → slice_get code s.place ≡ Some i → Finishes EndsFrom (act tables i s)
      → EndsFrom s
  run_by s i is finishes =
      run_on s (subst (λ (o : Option Instr). Finishes EndsFrom (act_at tables o s)) (sym is) finishes)

  -- a result of the type that an owner gives
  abbrev pub IsResult : Owner → Value → Type 0
  IsResult owner v = (t : Form) × (result_form tables owner ≡ Some t) × IsOf tables.decls t v

  -- a state in which a frame is left with a value on top of what it found
  pub record IsLeft (owner : Owner) (below : State) (v : Value) (r : State) : Type 0 where
    pub result : IsResult owner v
    pub operands : r.operands ≡ v ∷ below.operands
    pub kept : KeepsSlots owner.function r.slots below.slots
    pub defaults : r.defaults ≡ below.defaults
    pub loops : r.loops ≡ below.loops
    pub pending : r.pending ≡ below.pending
    pub frames : r.frames ≡ below.frames

  -- where a frame is left the run ends
  abbrev pub BackEnds : Owner → State → Type 0
  BackEnds owner below = (v : Value) (r : State) → IsLeft owner below v r → Finishes EndsFrom (move.returns r.frames r)

  module _ (shapes : Shapes) where
    -- a frame as it is known where it is entered
    abbrev pub entered : Owner → State → Setting
    entered owner below = record {
      tables = tables;
      owner = owner;
      below = below;
      Known = λ n. IsCallOf code shapes owner (record { scope = n; function = None });
      Met = IsMet shapes;
      Around = λ ls ns. Unit {0};
    }

    -- from where an owner begins the run ends, if it ends where the frame is left
    abbrev pub EntryEnds : Owner → Type 0
    EntryEnds owner =
        (entry : ℕ) (shape : Shape) → slice_get shapes entry ≡ Some (Some shape) → shape.loops ≡ [] → Outer code entry
        → (s : State) → s.place ≡ entry → (turns : List ℕ) → Fits (entered owner s) turns shape s → BackEnds owner s
        → EndsFrom s

    -- from the `next` of a loop, with so many elements left, it ends
    abbrev pub TurnEnds : Setting → LoopShape → List LoopShape → ℕ → List ℕ → Type 0
    TurnEnds here l ls n ns =
        (shape : Shape) (s : State) → l.begun + 1 ≡ s.place → slice_get shapes s.place ≡ Some (Some shape)
        → is_next (slice_get code s.place) ≡ true → shape.loops ≡ l ∷ ls → Fits here (n ∷ ns) shape s → EndsFrom s

    -- from the `next` of each loop
    abbrev pub LoopsEnd : Setting → List LoopShape → List ℕ → Type 0
    LoopsEnd here [] ns = Unit {0}
    LoopsEnd here (l ∷ ls) [] = ⊥
    LoopsEnd here (l ∷ ls) (n ∷ ns) = TurnEnds here l ls n ns × LoopsEnd here ls ns

    -- a frame whose loops end
    abbrev pub looping : Owner → State → Setting
    looping owner below = record (entered owner below) { Around = LoopsEnd (entered owner below) }
