-- What is to be written: a text at once, or the line of each of many inputs.
use Rattle.std.specs.Prelude.{◌≡◌, ◌≢◌, ◌⊎◌, ◌++◌, ℕ, List, Option, Ok, Err, IsSomeAnd, string_bytes}
use Rattle.std.specs.List.{concat}
use Rattle.cat_io.specs.Shelf.{Shelved}
use Rattle.cat_io.specs.Sink.{FailedAt, Sunk, Took}
use Rattle.cat_value.specs.declared.decls.Decls.{Decls}
use Rattle.cat_value.specs.Inputs.{IsWellTyped}
use Rattle.cat_json.specs.declared.refusal.InputRefusal.TheVariants as refused
use Rattle.cat_scope.specs.declared.programs.Program.{Program}
use Rattle.cat_json.specs.InputsRead.{AreWellTyped, inputs_read}
use Rattle.cat_words.specs.Asked.{IsCases}
use Rattle.cat_build.specs.Built.{IsBuiltOf}
use Rattle.cat_app.specs.Words.{Request, request_of}
use Rattle.cat_app.specs.Asked.{IsAsked, IsExtra}
use Rattle.cat_app.specs.Many.{AreLines, PutsLines, ReadInput}
use Rattle.cat_app.specs.Table.{MayReply}
use Rattle.cat_app.specs.declared.many.ManyInputs.{ManyInputs}
use Rattle.cat_app.specs.declared.reply.Reply.{Reply}
use Rattle.cat_app.specs.declared.reply.ToWrite.{ToWrite}
use Rattle.cat_app.specs.declared.reply.ToWrite.TheVariants.{Text, Lines}
use Rattle.cat_app.specs.declared.request.AskedFor.{AskedFor}
use Rattle.cat_app.specs.declared.request.AskedFor.TheVariants as asking
use Rattle.cat_app.specs.declared.asked_words.AskedWords.{AskedWords}
use Rattle.cat_app.specs.declared.request.Mode.TheVariants.{Many}
use Rattle.cat_app.specs.declared.status.Status.{Status}
use Rattle.cat_app.specs.declared.status.Status.TheVariants.{WriteFault}
use Rattle.cat_app.specs.inside.AskedWords.{asked_of}
use Rattle.cat_app.specs.inside.Says.{MayTell}
use Rattle.cat_app.specs.inside.SaysOfBands.{MayTellTo}

-- an element is a well-typed input of the scope, or there is a reason in it why it is none
abbrev pub IsReadInput : Decls → ℕ → ReadInput → Type 0
IsReadInput decls scope (Ok input) = IsWellTyped decls scope input
IsReadInput decls scope (Err refusal) = refusal ≢ refused.Memory

-- these are the inputs of a scope that some bytes are
pub record AreRead (decls : Decls) (scope : ℕ) (extra : List ℕ) (inputs : List ReadInput) : Type 0 where
  pub inputs_are : inputs_read decls scope extra ≡ Ok inputs
  pub typed : AreWellTyped decls scope inputs

-- these are what a request asks for
pub record IsRead (request : Request) (old new : Shelved) (read : ManyInputs) : Type 0 where
  pub extra : List ℕ
  pub mode : request.mode ≡ Many
  pub asked : IsAsked request old read.source read.built.program read.scope
  pub extra_read : IsExtra request old extra
  pub inputs : AreRead read.built.program.decls read.scope extra read.inputs
  pub built : IsBuiltOf read.source.pieces read.built
  pub untouched : new ≡ old

-- of the lines of the elements that were passed the first ones were taken whole, and the others are gathered
pub record GathersLines (program : Program) (scope : ℕ) (names : List (List ℕ)) (passed : List ReadInput)
    (gathered : List ℕ) (sink sunk : Sunk) : Type 0 where
  pub fronts : List (List ℕ)
  pub others : List (List ℕ)
  pub lines_are : AreLines program scope names passed (fronts ++ others)
  pub took : Took sink sunk (concat fronts)
  pub gathered_are : gathered ≡ concat others

-- each element has a line, and these were put
pub record PutsEach (program : Program) (scope : ℕ) (names : List (List ℕ)) (inputs : List ReadInput) (sink sunk : Sunk)
    (ended : Status) : Type 0 where
  pub lines : List (List ℕ)
  pub lines_are : AreLines program scope names inputs lines
  pub puts : PutsLines lines sink sunk ended

-- this may be written, whatever text the number of cases has
abbrev pub MayWrite : AskedWords → Shelved → Shelved → ToWrite → Type 0
MayWrite asked old new (Text reply) = MayTell asked old new reply
MayWrite asked old new (Lines read) =
    (cases : Option (List ℕ)) → IsCases cases asked.cases → IsRead (asked_of cases asked) old new read

-- this may be written to what is asked for
abbrev pub MayWriteTo : AskedFor → Shelved → Shelved → ToWrite → Type 0
MayWriteTo asked old new (Text reply) = MayTellTo asked old new reply
MayWriteTo (asking.Scope asked) old new (Lines read) = MayWrite asked old new (Lines read)
MayWriteTo (asking.Listing asked) old new (Lines read) = ⊥
MayWriteTo (asking.Drill bands) old new (Lines read) = ⊥

-- this may be written to some words
abbrev pub MayBeWritten : List (List ℕ) → Shelved → Shelved → ToWrite → Type 0
MayBeWritten words old new (Text reply) = MayReply words old new reply.status (string_bytes reply.text)
MayBeWritten words old new (Lines read) = IsSomeAnd (request_of words) (λ request. IsRead request old new read)

-- some bytes are put at once: they are taken whole, and it ends so, or the sink failed
abbrev pub PutsAtOnce : List ℕ → Status → Sunk → Sunk → Status → Type 0
PutsAtOnce bytes status sink sunk ended =
    ((ended ≡ status) × Took sink sunk bytes) ⊎ ((ended ≡ WriteFault) × FailedAt sink sunk bytes)

-- the text of a reply is, with its status
abbrev pub PutsText : Reply → Sunk → Sunk → Status → Type 0
PutsText reply = PutsAtOnce (string_bytes reply.text) reply.status
