-- The answer to one who asked for the outcomes of a scope on many inputs: a line each, and whole ones put at once.
use Rattle.std.specs.Prelude.{◌≡◌, ℕ, List, [], ◌∷◌, take, drop, Option, Some, Result, Ok, Err, option_map}
use Rattle.std.specs.List.{concat}
use Rattle.cat_io.specs.Shelf.{Shelved}
use Rattle.cat_io.specs.Sink.{Sunk, Took, FailedAt}
use Rattle.cat_value.specs.declared.outcome.Outcome.{Outcome}
use Rattle.cat_scope.specs.declared.programs.Program.{Program}
use Rattle.cat_scope.specs.Outcomes.{scope_outcome}
use Rattle.cat_json.specs.declared.refusal.InputRefusal.{InputRefusal}
use Rattle.cat_json.specs.InputsRead.{Input, inputs_read}
use Rattle.cat_answer.specs.Answer.{answer_of}
use Rattle.cat_weave.specs.declared.source.Source.{Source}
use Rattle.cat_app.specs.Words.{Request}
use Rattle.cat_app.specs.Asked.{IsAsked, IsExtra}
use Rattle.cat_app.specs.Lines.{input_line, line}
use Rattle.cat_app.specs.declared.request.Mode.TheVariants.{Many}
use Rattle.cat_app.specs.declared.status.Status.{Status}
use Rattle.cat_app.specs.declared.status.Status.TheVariants.{Fine, Memory, WriteFault}

-- an input, or why an element of the array is none
abbrev pub ReadInput : Type 0
ReadInput = Result Input InputRefusal

-- the line of an outcome
abbrev pub outcome_line : Program → ℕ → List (List ℕ) → Outcome → List ℕ
outcome_line program scope names outcome = line (answer_of program.decls scope names outcome) []

-- the line that a run writes on an element alone: that of the scope's outcome, or why it is no input
abbrev pub element_line : Program → ℕ → List (List ℕ) → ReadInput → Option (List ℕ)
element_line program scope names (Ok input) =
    option_map (outcome_line program scope names) (scope_outcome program scope input)
element_line program scope names (Err refusal) = input_line refusal

-- these are the lines of some elements, in their order
abbrev pub AreLines : Program → ℕ → List (List ℕ) → List ReadInput → List (List ℕ) → Type 0
AreLines program scope names [] [] = Unit {0}
AreLines program scope names [] (l ∷ ls) = ⊥
AreLines program scope names (r ∷ rs) [] = ⊥
AreLines program scope names (r ∷ rs) (l ∷ ls) =
    (element_line program scope names r ≡ Some l) × AreLines program scope names rs ls

-- what the words ask for: a scope of a source that is accepted, on the elements of an array, which have these lines
pub record IsAskedMany (request : Request) (old : Shelved) (lines : List (List ℕ)) : Type 0 where
  pub source : Source
  pub program : Program
  pub scope : ℕ
  pub extra : List ℕ
  pub inputs : List ReadInput
  pub mode : request.mode ≡ Many
  pub asked : IsAsked request old source program scope
  pub extra_read : IsExtra request old extra
  pub inputs_are : inputs_read program.decls scope extra ≡ Ok inputs
  pub lines_are : AreLines program scope source.files inputs lines

-- the bytes are no JSON, or no array
pub record IsRefusedArray (request : Request) (old new : Shelved) (text : List ℕ) : Type 0 where
  pub source : Source
  pub program : Program
  pub scope : ℕ
  pub extra : List ℕ
  pub refusal : InputRefusal
  pub mode : request.mode ≡ Many
  pub asked : IsAsked request old source program scope
  pub extra_read : IsExtra request old extra
  pub refused : inputs_read program.decls scope extra ≡ Err refusal
  pub untouched : new ≡ old
  pub reply : input_line refusal ≡ Some text

-- the first lines, so many, were taken whole
abbrev pub TookFirst : List (List ℕ) → ℕ → Sunk → Sunk → Type 0
TookFirst lines count sink sunk = Took sink sunk (concat (take count lines))

-- the first lines were taken whole, and the sink failed at some more behind them, put at once: it took a front of these
pub record FailedAtLines (lines : List (List ℕ)) (sink sunk : Sunk) : Type 0 where
  pub count : ℕ
  pub more : ℕ
  pub between : Sunk
  pub before : TookFirst lines count sink between
  pub failed : FailedAt between sunk (concat (take more (drop count lines)))

-- what putting lines in their order promises by its status: all were taken, or the first ones until memory ran out, or
-- those before the ones at which the sink failed
abbrev pub PutsLines : List (List ℕ) → Sunk → Sunk → Status → Type 0
PutsLines lines sink sunk Fine = Took sink sunk (concat lines)
PutsLines lines sink sunk Memory = (count : ℕ) × TookFirst lines count sink sunk
PutsLines lines sink sunk WriteFault = FailedAtLines lines sink sunk
PutsLines lines sink sunk status = ⊥

-- the lines of the elements were put in their order, until the end, or until memory or the sink failed
pub record AnswersByLine (request : Request) (old new : Shelved) (sink sunk : Sunk) (ended : Status) : Type 0 where
  pub lines : List (List ℕ)
  pub asked : IsAskedMany request old lines
  pub untouched : new ≡ old
  pub puts : PutsLines lines sink sunk ended
