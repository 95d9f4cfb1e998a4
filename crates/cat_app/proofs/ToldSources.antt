-- Of a source that is told and accepted: there is one program of it, one number of its scope, and nothing refuses it.
use Rattle.std.proofs.Common.{◌≡◌, ◌≢◌, ℕ, List, sym, subst}
use Rattle.std.specs.Prelude.{Some, None}
use Rattle.cat_pos.specs.declared.pos.Piece.{Piece}
use Rattle.cat_io.specs.Shelf.{Shelved}
use Rattle.cat_scope.specs.declared.programs.Program.{Program}
use Rattle.cat_scope.specs.Named.{number_named}
use Rattle.cat_weave.specs.declared.source.Source.{Source}
use Rattle.cat_weave.specs.Gathered.{Contents, Ending, Whole, Refused, gathered}
use Rattle.cat_weave.specs.Causes.{HasEnding}
use Rattle.cat_build.specs.declared.code.BuildRefusal.{BuildRefusal}
use Rattle.cat_build.specs.declared.code.BuildRefusal.TheVariants as building
use Rattle.cat_build.specs.Accepted.{IsAccepted}
use Rattle.cat_build.specs.Causes.{HasCause}
use Rattle.cat_app.specs.Words.{Request}
use Rattle.cat_app.specs.Asked.{IsSource}
use Rattle.cat_app.specs.Answers.{IsRefusedFile, IsRefusedSource, IsNoScope}

-- ---- the laws on which this rests

abbrev pub IsOneProgram : Type 0
IsOneProgram = (pieces : List Piece) (program other : Program) → IsAccepted pieces program → IsAccepted pieces other
    → program ≡ other

abbrev pub AreNotAccepted : Type 0
AreNotAccepted = (pieces : List Piece) (refusal : BuildRefusal) (program : Program) → refusal ≢ building.Memory
    → HasCause pieces refusal → IsAccepted pieces program → ⊥

abbrev pub EndingsAreTold : Type 0
EndingsAreTold = (told : Contents) (main : List ℕ) (source : Source) (ending : Ending Source)
    → gathered told main ≡ Whole source → HasEnding told main ending → ending ≡ Whole source

-- ---- of a told source

pub told_source : EndingsAreTold → (old : Shelved) (request : Request) (source : Source)
    → gathered old.content request.file ≡ Whole source → (other : Source) → IsSource request old other → other ≡ source
told_source endings old request source told other read =
    let same : Whole other ≡ Whole source = endings old.content request.file source (Whole other) told read in
    cc same

pub told_program : IsOneProgram → EndingsAreTold → (old : Shelved) (request : Request) (source : Source)
    (program : Program) → gathered old.content request.file ≡ Whole source → IsAccepted source.pieces program
    → (others : Source) (other : Program) → IsSource request old others → IsAccepted others.pieces other
    → program ≡ other
told_program one_program endings old request source program told here others other read accepted =
    one_program source.pieces program other here
    (subst (λ (s : Source). IsAccepted s.pieces other) (told_source endings old request source told others read)
    accepted)

pub told_scope : (request : Request) (program : Program) (scope : ℕ)
    → number_named request.scope 0 program.decls.scopes ≡ Some scope → (other : Program) (number : ℕ)
    → program ≡ other → number_named request.scope 0 other.decls.scopes ≡ Some number → scope ≡ number
told_scope request program scope here other number same named =
    let there : number_named request.scope 0 program.decls.scopes ≡ Some number =
    subst (λ (p : Program). number_named request.scope 0 p.decls.scopes ≡ Some number) (sym same) named in
    cc (here, there)

pub no_refused_file : EndingsAreTold → (old new : Shelved) (request : Request) (source : Source)
    → gathered old.content request.file ≡ Whole source → (text : List ℕ) → IsRefusedFile request old new text → ⊥
no_refused_file endings old new request source told text is =
    let same : Refused is.refusal ≡ Whole source =
    endings old.content request.file source (Refused is.refusal) told is.ending in
    cc same

pub no_refused_source : AreNotAccepted → EndingsAreTold → (old new : Shelved) (request : Request) (source : Source)
    (program : Program) → gathered old.content request.file ≡ Whole source → IsAccepted source.pieces program
    → (text : List ℕ) → IsRefusedSource request old new text → ⊥
no_refused_source not_accepted endings old new request source program told here text is =
    let stands = subst (λ (s : Source). HasCause s.pieces (building.Refused is.code is.pos))
    (told_source endings old request source told is.source is.source_read) is.stands in
    not_accepted source.pieces (building.Refused is.code is.pos) program (λ e. cc e) stands here

pub scope_is_there : IsOneProgram → EndingsAreTold → (old new : Shelved) (request : Request) (source : Source)
    (program : Program) (scope : ℕ) → gathered old.content request.file ≡ Whole source
    → IsAccepted source.pieces program → number_named request.scope 0 program.decls.scopes ≡ Some scope
    → (text : List ℕ) → IsNoScope request old new text → ⊥
scope_is_there one_program endings old new request source program scope told accepted named text is =
    let programs = told_program one_program endings old request source program told accepted is.source is.program
    is.source_read is.accepted in
    let here : number_named request.scope 0 program.decls.scopes ≡ None =
    subst (λ (p : Program). number_named request.scope 0 p.decls.scopes ≡ None) (sym programs) is.unnamed in
    cc (named, here)
