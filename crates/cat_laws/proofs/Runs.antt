-- Over told contents, an outcome and a refusal of an input have one text.
use Rattle.std.proofs.Common.{◌≡◌, ◌∙◌, ◌++◌, ℕ, List, [], Option, Some, None, Result, Ok, Err, sym, ap, subst}
use Rattle.std.proofs.Common.{option_map}
use Rattle.std.specs.Prelude.{IfSome, IsSome}
use Rattle.cat_io.specs.Shelf.{Shelved}
use Rattle.cat_value.specs.declared.value.Value.{Value}
use Rattle.cat_value.specs.declared.outcome.Outcome.{Outcome}
use Rattle.cat_value.specs.declared.decls.Decls.{Decls}
use Rattle.cat_scope.specs.declared.defs.Body.{Body}
use Rattle.cat_scope.specs.declared.programs.Program.{Program}
use Rattle.cat_scope.specs.Named.{number_named}
use Rattle.cat_scope.specs.Outcomes.{outcome_of}
use Rattle.cat_scope.specs.Running.{run_of}
use Rattle.cat_json.specs.declared.refusal.InputRefusal.{InputRefusal}
use Rattle.cat_json.specs.InputsRead.{input_read}
use Rattle.cat_answer.specs.Answer.{answer_of}
use Rattle.cat_weave.specs.declared.source.Source.{Source}
use Rattle.cat_app.specs.Words.{Request}
use Rattle.cat_app.specs.Asked.{IsAsked, IsExtra}
use Rattle.cat_app.specs.Answers.{IsOutcome, IsRefusedInput, TellsOutcome}
use Rattle.cat_app.specs.Lines.{line, input_line}
use Rattle.cat_app.specs.declared.request.Mode.{Mode}
use Rattle.cat_app.specs.declared.status.Status.{Status}
use Rattle.cat_laws.specs.Told.{IsRun}

-- the outcome of a scope, by the parts of its program
abbrev outcome_by : Decls → List Body → List ℕ → ℕ → List (Option Value) → Option Outcome
outcome_by decls bodies order scope input = outcome_of (run_of decls.scopes bodies order scope input).end

-- its line
abbrev outcome_line : Decls → ℕ → List (List ℕ) → Option Outcome → Option (List ℕ)
outcome_line decls scope files outcome = option_map (λ o. line (answer_of decls scope files o) []) outcome

-- the line that comes of what was read of an input
abbrev read_line : Decls → List Body → List ℕ → List (List ℕ) → ℕ → Result (List (Option Value)) InputRefusal
    → Option (List ℕ)
read_line decls bodies order files scope (Ok input) =
    outcome_line decls scope files (outcome_by decls bodies order scope input)
read_line decls bodies order files scope (Err refusal) = input_line refusal

-- the line that comes of an input, where there is the scope, and one is told
abbrev told_line : Decls → List Body → List ℕ → List (List ℕ) → Option ℕ → Option (List ℕ) → Option (List ℕ)
told_line decls bodies order files None content = None
told_line decls bodies order files (Some scope) None = None
told_line decls bodies order files (Some scope) (Some content) =
    read_line decls bodies order files scope (input_read decls scope content)

-- the line of a run
abbrev pub run_line : Request → Shelved → Decls → List Body → List ℕ → List (List ℕ) → Option (List ℕ)
run_line request shelf decls bodies order files =
    told_line decls bodies order files (number_named request.scope 0 decls.scopes) (shelf.content request.extra)

told_is : (told : Option (List ℕ)) (bytes : List ℕ) → IsSome told → IfSome told (λ content. bytes ≡ content)
    → told ≡ Some bytes
told_is None bytes some is = cc some
told_is (Some content) bytes some is = ap Some (sym is)

module _ (request : Request) (old new : Shelved) where
  -- the line by what is read of the input
  line_is : (source : Source) (program : Program) (scope : ℕ) (extra : List ℕ)
      (read : Result (List (Option Value)) InputRefusal) → IsAsked request old source program scope
      → IsSome (old.content request.extra) → IsExtra request old extra → input_read program.decls scope extra ≡ read
      → run_line request old program.decls program.bodies program.scope_order source.files
      ≡ read_line program.decls program.bodies program.scope_order source.files scope read
  line_is source program scope extra read asked some extra_read is =
      let content : old.content request.extra ≡ Some extra =
      told_is (old.content request.extra) extra some extra_read.content in
      ap (λ n. told_line program.decls program.bodies program.scope_order source.files n (old.content request.extra))
      asked.named
      ∙ (ap (told_line program.decls program.bodies program.scope_order source.files (Some scope)) content
      ∙ ap (read_line program.decls program.bodies program.scope_order source.files scope) is)

  pub outcome_is : IsRun request → (ended : Status) (text : List ℕ) (o : IsOutcome request old new ended text)
      → IsSome (old.content request.extra)
      → run_line request old o.program.decls o.program.bodies o.program.scope_order o.source.files ≡ Some text
  outcome_is is_run ended text o some =
      let here = subst (λ (m : Mode). TellsOutcome m o.source o.program o.scope o.input ended text) is_run o.tells in
      let told = line (answer_of o.program.decls o.scope o.source.files here.outcome) [] in
      let alone : text ≡ told = here.reply ∙ ap (λ (f : List ℕ). f ++ told) here.front_is in
      line_is o.source o.program o.scope o.extra (Ok o.input) o.asked some o.extra_read o.input_is
      ∙ (ap (outcome_line o.program.decls o.scope o.source.files) here.outcome_is ∙ ap Some (sym alone))

  pub refusal_is : (text : List ℕ) (o : IsRefusedInput request old new text) → IsSome (old.content request.extra)
      → run_line request old o.program.decls o.program.bodies o.program.scope_order o.source.files ≡ Some text
  refusal_is text o some =
      line_is o.source o.program o.scope o.extra (Err o.refusal) o.asked some o.extra_read o.refused ∙ o.reply
