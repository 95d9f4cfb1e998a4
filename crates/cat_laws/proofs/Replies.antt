-- Over contents that tell what is read, the replies that may come have a room.
use Rattle.std.proofs.Common.{◌≡◌, ◌≤◌, ◌+◌, ◌-◌, ◌⊎◌, ◌∙◌, ℕ, List, [], ◌∷◌, ◌++◌, Option, Some, None, length, refl}
use Rattle.std.proofs.Common.{sym, ap, subst, inl, inr, arith, slice_get}
use Rattle.std.proofs.lemmas.List.{length-append}
use Rattle.std.specs.Prelude.{IsSome, IsTrue, codes}
use Rattle.cat_pos.specs.declared.pos.Pos.{Pos}
use Rattle.cat_io.specs.Shelf.{Shelved}
use Rattle.cat_io.specs.declared.shelf.ShelfFault.{ShelfFault}
use Rattle.cat_io.specs.declared.shelf.ShelfFault.TheVariants as shelf
use Rattle.cat_value.specs.declared.decls.Decls.{Decls}
use Rattle.cat_scope.specs.declared.defs.Body.{Body}
use Rattle.cat_scope.specs.declared.programs.Program.{Program}
use Rattle.cat_scope.specs.Names.{IsOneOf}
use Rattle.cat_answer.specs.Answer.{position_text}
use Rattle.cat_weave.specs.declared.source.Source.{Source}
use Rattle.cat_weave.specs.declared.source.GatherRefusal.{GatherRefusal}
use Rattle.cat_weave.specs.Gathered.{Ending, Whole, Refused, StopsAt, gathered}
use Rattle.cat_weave.specs.Causes.{AreReadableTogether}
use Rattle.cat_build.specs.declared.code.FaultCode.{FaultCode}
use Rattle.cat_build.specs.declared.code.FaultCode.TheVariants as code
use Rattle.cat_build.specs.Accepted.{IsAccepted}
use Rattle.cat_build.specs.Causes.{StandsAt}
use Rattle.cat_build.specs.Codes.{number_of}
use Rattle.cat_app.specs.Modes.{shows_tables}
use Rattle.cat_app.specs.Words.{Ask, OfBands, OfListing, OfScope, Request, ask_of, request_in}
use Rattle.cat_app.specs.Asked.{IsSource, IsAsked}
use Rattle.cat_app.specs.Answers.{IsOutcome, IsRefusedFile, IsRefusedSource}
use Rattle.cat_app.specs.Lines.{line, refusal_line, gathering_line}
use Rattle.cat_app.specs.Answers.{IsNoScope, IsRefusedInput, IsRefusedRead}
use Rattle.cat_app.specs.Audits.{IsAudited}
use Rattle.cat_app.specs.Complete.{LinesFit}
use Rattle.cat_app.specs.declared.request.Mode.TheVariants.{Check, Dead, DeadCheck, Emit, Many, OneTable}
use Rattle.cat_app.specs.Table.{MayAnswer, MayAnswerTo}
use Rattle.cat_app.specs.declared.status.Status.{Status}
use Rattle.cat_app.specs.declared.status.Status.TheVariants as status
use Rattle.cat_laws.specs.Told.{IsRun, IsTold, TellsRun, TellsAll, HasRoom, WhereAsked}
use Rattle.cat_laws.proofs.Rooms.{Decided, Room, room_none, room_less, room_or, room_one, room_some, room_each, By}
use Rattle.cat_laws.proofs.Rooms.{one_of_at}
use Rattle.cat_laws.proofs.Endings.{ending_is, longest_name, source_readable, name_short, all_told}
use Rattle.cat_laws.proofs.Runs.{run_line, outcome_is, refusal_is}
use Rattle.cat_laws.proofs.Trees.{Laws, HasMeaning, meaning_decided}
use Rattle.cat_laws.proofs.Sources.{parts_are, has_meaning, code_room}

-- how long a text is
abbrev size : List ℕ → ℕ
size text = length text

-- a room for texts
abbrev TextRoom : (List ℕ → Type 0) → Type 0
TextRoom Holds = Room size Holds

-- one text alone
only_room : (Holds : List ℕ → Type 0) (one : List ℕ) → ((text : List ℕ) → Holds text → text ≡ one) → TextRoom Holds
only_room Holds one is =
    room_less size Holds (λ text. text ≡ one) is (room_one size one)

-- one text alone, or none
some_room : (Holds : List ℕ → Type 0) (o : Option (List ℕ)) → ((text : List ℕ) → Holds text → o ≡ Some text)
    → TextRoom Holds
some_room Holds o is =
    room_less size Holds (λ text. o ≡ Some text) is (room_some size o)

-- ---- codes

all_codes : List FaultCode
all_codes = code.NoToken ∷ code.LiteralRange ∷ code.Unexpected ∷ code.TooDeep ∷ code.NameTwice ∷ code.NameUnknown
    ∷ code.TypeMismatch ∷ code.MatchCases ∷ code.LabelUnknown ∷ code.LabelSplit ∷ code.ExceptionAmbiguous
    ∷ code.ExceptionCycle ∷ code.VariableCycle ∷ code.ScopeCycle ∷ code.TypeCycle ∷ code.Misplaced ∷ code.TooMany ∷ []

code_at : (found : FaultCode) → slice_get all_codes (number_of found - 4) ≡ Some found
unfolding all_codes
code_at code.NoToken = refl
code_at _ = refl

code_listed : (found : FaultCode) → IsOneOf found all_codes
code_listed found = one_of_at all_codes (number_of found - 4) found (code_at found)

-- ---- the replies to a request

module _ (request : Request) (old : Shelved) where
  -- what may come, whatever the shelf is left as
  abbrev HasOutcome : List ℕ → Type 0
  HasOutcome text = (new : Shelved) × (ended : Status) × IsOutcome request old new ended text

  abbrev HasRefusedInput : List ℕ → Type 0
  HasRefusedInput text = (new : Shelved) × IsRefusedInput request old new text

  abbrev HasRefusedFile : List ℕ → Type 0
  HasRefusedFile text = (new : Shelved) × IsRefusedFile request old new text

  abbrev HasRefusedSource : List ℕ → Type 0
  HasRefusedSource text = (new : Shelved) × IsRefusedSource request old new text

  abbrev HasNoScope : List ℕ → Type 0
  HasNoScope text = (new : Shelved) × IsNoScope request old new text

  abbrev HasRefusedRead : ShelfFault → List ℕ → List ℕ → Type 0
  HasRefusedRead fault words text = (new : Shelved) × IsRefusedRead request old new fault words text

  -- an answer to a source that is gathered, or is refused
  abbrev Comes : List ℕ → Type 0
  Comes text = HasOutcome text ⊎ (HasRefusedInput text ⊎ (HasRefusedFile text ⊎ HasRefusedSource text))

  read_room : (fault : ShelfFault) (words : List ℕ) → TextRoom (HasRefusedRead fault words)
  read_room fault words = (
    length words + (longest_name request + 1),
    λ text has.
        let is = has.1 in
        let short = name_short request old is.name is.limit is.now in
        let size : length text ≡ length (words ++ (is.name ++ 10 ∷ [])) = ap (λ (t : List ℕ). length t) is.reply in
        omega (arith, size, short, length-append words (is.name ++ 10 ∷ []), length-append is.name (10 ∷ [])),
  )

  scope_room : TextRoom HasNoScope
  scope_room = only_room HasNoScope (line (codes "no such scope ") request.scope) (λ text has. has.1.reply)

  -- ---- a source that is refused as it is gathered

  module _ (refusal : GatherRefusal) (is : gathered old.content request.file ≡ Refused refusal) where
    no_source : (source : Source) → IsSource request old source → ⊥
    no_source source read =
        let same : Whole source ≡ Refused refusal =
        ending_is old.content request.file (Refused refusal) (Whole source) is tt read in cc same

    refused_file : (text : List ℕ) → HasRefusedFile text → gathering_line refusal ≡ Some text
    refused_file text has =
        let same : Refused has.1.refusal ≡ Refused refusal =
        ending_is old.content request.file (Refused refusal) (Refused has.1.refusal) is tt has.1.ending in
        let one : has.1.refusal ≡ refusal = cc same in
        ap gathering_line (sym one) ∙ has.1.reply

    comes_refused : (text : List ℕ) → Comes text → gathering_line refusal ≡ Some text
    comes_refused text (inl o) = absurd (no_source o.2.source o.2.asked.source_read)
    comes_refused text (inr (inl o)) = absurd (no_source o.1.source o.1.asked.source_read)
    comes_refused text (inr (inr (inl file))) = refused_file text file
    comes_refused text (inr (inr (inr o))) = absurd (no_source o.1.source o.1.source_read)

    refused_room : TextRoom Comes
    refused_room = some_room Comes (gathering_line refusal) comes_refused

  -- ---- a source that is gathered

  module _ (laws : Laws) (source : Source) (is : gathered old.content request.file ≡ Whole source)
      (is_run : IsRun request) (told : (s : Source) (program : Program) (scope : ℕ)
      → IsAsked request old s program scope → IsSome (old.content request.extra)) where
    source_is : (other : Source) → IsSource request old other → other ≡ source
    source_is other read =
        let same : Whole other ≡ Whole source =
        ending_is old.content request.file (Whole source) (Whole other) is tt read in cc same

    readable : AreReadableTogether source.pieces
    readable = source_readable old.content request source is

    accepted_is : (other : Source) (program : Program) (scope : ℕ) → IsAsked request old other program scope
        → IsAccepted source.pieces program
    accepted_is other program scope asked =
        subst (λ (s : Source). IsAccepted s.pieces program) (source_is other asked.source_read) asked.accepted

    no_file : (text : List ℕ) → HasRefusedFile text → ⊥
    no_file text has =
        let same : Refused has.1.refusal ≡ Whole source =
        ending_is old.content request.file (Whole source) (Refused has.1.refusal) is tt has.1.ending in cc same

    -- the line of a run, by what the pieces mean
    meant_line : HasMeaning source.pieces → Option (List ℕ)
    meant_line m = run_line request old m.program.decls m.program.bodies m.program.scope_order source.files

    line_meant : (m : HasMeaning source.pieces) (other : Source) (program : Program) (scope : ℕ) (text : List ℕ)
        → IsAsked request old other program scope
        → run_line request old program.decls program.bodies program.scope_order other.files ≡ Some text
        → meant_line m ≡ Some text
    unfolding meant_line
    line_meant m other program scope text asked line_is =
        let same = source_is other asked.source_read in
        let parts = parts_are laws source.pieces m program (accepted_is other program scope asked).program_is in
        ap (λ (ds : Decls). run_line request old ds m.program.bodies m.program.scope_order source.files)
        (sym parts.decls)
        ∙ (ap (λ (bs : List Body). run_line request old program.decls bs m.program.scope_order source.files)
        (sym parts.bodies)
        ∙ (ap (λ (ns : List ℕ). run_line request old program.decls program.bodies ns source.files) (sym parts.order)
        ∙ (ap (λ (s : Source). run_line request old program.decls program.bodies program.scope_order s.files)
        (sym same) ∙ line_is)))

    meant_room : (Holds : List ℕ → Type 0)
        → ((m : HasMeaning source.pieces) (text : List ℕ) → Holds text → meant_line m ≡ Some text)
        → ((text : List ℕ) → Holds text → HasMeaning source.pieces) → Decided (HasMeaning source.pieces)
        → TextRoom Holds
    meant_room Holds one some (inl m) = some_room Holds (meant_line m) (one m)
    meant_room Holds one some (inr none) = room_none size Holds (λ text h. none (some text h))

    meaning_of : (other : Source) (program : Program) (scope : ℕ) → IsAsked request old other program scope
        → HasMeaning source.pieces
    meaning_of other program scope asked =
        has_meaning laws source.pieces program (accepted_is other program scope asked).program_is

    outcome_room : TextRoom HasOutcome
    outcome_room = meant_room HasOutcome
        (λ m text has. let o = has.2 in line_meant m o.source o.program o.scope text o.asked
        (outcome_is request old has.0 is_run has.1 text o (told o.source o.program o.scope o.asked)))
        (λ text has. let o = has.2 in meaning_of o.source o.program o.scope o.asked)
        (meaning_decided laws source.pieces readable)

    input_room : TextRoom HasRefusedInput
    input_room = meant_room HasRefusedInput
        (λ m text has. let o = has.1 in line_meant m o.source o.program o.scope text o.asked
        (refusal_is request old has.0 text o (told o.source o.program o.scope o.asked)))
        (λ text has. let o = has.1 in meaning_of o.source o.program o.scope o.asked)
        (meaning_decided laws source.pieces readable)

    -- the line of a code at a position
    abbrev code_line : FaultCode → Pos → List ℕ
    code_line found p = refusal_line (number_of found) (position_text source.files p)

    -- a text that tells of a code
    abbrev TellsCode : FaultCode → List ℕ → Type 0
    TellsCode found text = (p : Pos) × StandsAt source.pieces found p × (text ≡ code_line found p)

    one_code_room : (found : FaultCode) → TextRoom (TellsCode found)
    one_code_room found =
        let room = code_room laws source.pieces readable (λ p. length (code_line found p)) found in (
          room.0,
          λ text h. subst (λ (t : List ℕ). length t ≤ room.0) (sym h.2) (room.1 h.0 h.1),
        )

    tells_code : (text : List ℕ) → HasRefusedSource text → By TellsCode all_codes text
    tells_code text has =
        let o = has.1 in
        let same = source_is o.source o.source_read in (
          o.code,
          code_listed o.code,
          (
            o.pos,
            subst (λ (s : Source). StandsAt s.pieces o.code o.pos) same o.stands,
            o.reply ∙ ap (λ (s : Source). refusal_line (number_of o.code) (position_text s.files o.pos)) same,
          ),
        )

    codes_room : TextRoom HasRefusedSource
    codes_room = room_less size HasRefusedSource (By TellsCode all_codes) tells_code
        (room_each size TellsCode one_code_room all_codes)

    whole_room : TextRoom Comes
    whole_room = room_or size HasOutcome _ outcome_room
        (room_or size HasRefusedInput _ input_room
        (room_or size HasRefusedFile HasRefusedSource
        (room_none size HasRefusedFile no_file) codes_room))

  -- ---- all of them

  module _ (laws : Laws) (told : TellsRun old request) where
    comes_by : (end : Ending Source) → gathered old.content request.file ≡ end → TextRoom Comes
    comes_by (Whole source) is = whole_room laws source is told.mode told.input
    comes_by (Refused refusal) is = refused_room refusal is
    comes_by (StopsAt name bytes) is = absurd (subst (λ (e : Ending Source). IsTold e) is told.source)

    comes_room : TextRoom Comes
    comes_room = comes_by (gathered old.content request.file) refl

    missing_room : TextRoom (HasRefusedRead shelf.Missing (codes "missing file "))
    missing_room = read_room shelf.Missing (codes "missing file ")

    failed_room : TextRoom (HasRefusedRead shelf.Failed (codes "read fault "))
    failed_room = read_room shelf.Failed (codes "read fault ")

    long_room : TextRoom (HasRefusedRead shelf.Long (codes "too large "))
    long_room = read_room shelf.Long (codes "too large ")

    abbrev all_room : ℕ
    all_room = comes_room.0 + (scope_room.0 + (missing_room.0 + (failed_room.0 + long_room.0)))

    not_audited : (new : Shelved) (ended : Status) (text : List ℕ) → IsAudited request old new ended text → ⊥
    not_audited new ended text audited = cc (told.mode, audited.mode)

    not_checked : request.mode ≡ Check → ⊥
    not_checked checks = cc (told.mode, checks)

    not_listed : request.mode ≡ Emit → ⊥
    not_listed emits = cc (told.mode, emits)

    not_many : request.mode ≡ Many → ⊥
    not_many many = cc (told.mode, many)

    not_tabled : IsTrue (shows_tables request.mode) → ⊥
    not_tabled shows = cc (ap shows_tables told.mode, shows)

    not_one_table : request.mode ≡ OneTable → ⊥
    not_one_table one = cc (told.mode, one)

    not_reported : request.mode ≡ Dead → ⊥
    not_reported dead = cc (told.mode, dead)

    not_dead_checked : request.mode ≡ DeadCheck → ⊥
    not_dead_checked checks = cc (told.mode, checks)

    fits_all : (new : Shelved) (ended : Status) (text : List ℕ) → MayAnswer request old new ended text
        → length text ≤ all_room
    fits_all new status.Fine text (inl h) = omega (arith, comes_room.1 text (inl (new, status.Fine, h)))
    fits_all new status.Fine text (inr (inl h)) = absurd (not_audited new status.Fine text h)
    fits_all new status.Fine text (inr (inr (inl h))) = absurd (not_checked h.mode)
    fits_all new status.Fine text (inr (inr (inr (inl h)))) = absurd (not_listed h.mode)
    fits_all new status.Fine text (inr (inr (inr (inr (inl h))))) = absurd (not_tabled h.mode)
    fits_all new status.Fine text (inr (inr (inr (inr (inr (inl h)))))) = absurd (not_reported h.mode)
    fits_all new status.Fine text (inr (inr (inr (inr (inr (inr h)))))) = absurd (not_dead_checked h.mode)
    fits_all new status.Conflict text h = omega (arith, comes_room.1 text (inl (new, status.Conflict, h)))
    fits_all new status.NoValue text h = omega (arith, comes_room.1 text (inl (new, status.NoValue, h)))
    fits_all new status.Fault text h = omega (arith, comes_room.1 text (inl (new, status.Fault, h)))
    fits_all new status.Source text (inl h) = omega (arith, comes_room.1 text (inr (inr (inl (new, h)))))
    fits_all new status.Source text (inr h) = omega (arith, comes_room.1 text (inr (inr (inr (new, h)))))
    fits_all new status.Input text (inl h) = omega (arith, comes_room.1 text (inr (inl (new, h))))
    fits_all new status.Input text (inr h) = absurd (not_many h.mode)
    fits_all new status.Found text (inl h) = absurd (not_audited new status.Found text h)
    fits_all new status.Found text (inr h) = absurd (not_reported h.mode)
    fits_all new status.Unsettled text (inl h) = absurd (not_audited new status.Unsettled text h)
    fits_all new status.Unsettled text (inr (inl h)) = absurd (not_tabled h.mode)
    fits_all new status.Unsettled text (inr (inr h)) = absurd (not_reported h.mode)
    fits_all new status.Certificate text (inl h) = absurd (not_checked h.mode)
    fits_all new status.Certificate text (inr h) = absurd (not_dead_checked h.mode)
    fits_all new status.Usage text (inl h) = omega (arith, scope_room.1 text (new, h))
    fits_all new status.Usage text (inr h) = absurd (not_one_table h.mode)
    fits_all new status.Missing text h = omega (arith, missing_room.1 text (new, h))
    fits_all new status.ReadFault text h = omega (arith, failed_room.1 text (new, h))
    fits_all new status.TooLarge text h = omega (arith, long_room.1 text (new, h))
    fits_all new _ text h = absurd h

    -- a text that answers the request
    abbrev MayCome : List ℕ → Type 0
    MayCome text = (new : Shelved) × (ended : Status) × MayAnswer request old new ended text

    request_room : TextRoom MayCome
    request_room = (all_room, λ text h. fits_all h.0 h.1 text h.2)

-- ---- the replies to words

-- who asks for a run asks for no lines of many inputs
no_lines : (asked : Option Ask) (old : Shelved) (room : ℕ) → WhereAsked asked (TellsRun old)
    → LinesFit (request_in asked) old room
no_lines None old room told = tt
no_lines (Some (OfScope request)) old room told = λ lines many. absurd (cc (told.mode, many.mode))
no_lines (Some (OfListing request)) old room told = absurd told
no_lines (Some (OfBands bands)) old room told = absurd told

-- a text that answers what the words ask for
abbrev Answers : Option Ask → Shelved → List ℕ → Type 0
Answers asked old text = (new : Shelved) × (ended : Status) × MayAnswerTo asked old new ended text

answers_room : (laws : Laws) (old : Shelved) (asked : Option Ask) → WhereAsked asked (TellsRun old)
    → TextRoom (Answers asked old)
answers_room laws old None told =
    only_room (Answers None old) (line (codes "usage: catala MODE SCOPE FILE [EXTRA] [--cases N]") [])
    (λ text h. h.2.reply)
answers_room laws old (Some (OfScope request)) told = request_room request old laws told
answers_room laws old (Some (OfListing request)) told = absurd told
answers_room laws old (Some (OfBands bands)) told = absurd told

pub run_room : Laws → (words : List (List ℕ)) (old : Shelved) → WhereAsked (ask_of words) (TellsRun old)
    → HasRoom words old
run_room laws words old told =
    let room = answers_room laws old (ask_of words) told in (
      room.0,
      λ new. record {
        texts = λ ended text h. room.1 text (new, ended, h);
        lines = no_lines (ask_of words) old room.0 told;
      },
    )

where_asked : (Has Holds : Request → Type 0) (asked : Option Ask) → ((request : Request) → Has request → Holds request)
    → WhereAsked asked Has → WhereAsked asked Holds
where_asked Has Holds None holds has = tt
where_asked Has Holds (Some (OfScope request)) holds has = holds request has
where_asked Has Holds (Some (OfListing request)) holds has = absurd has
where_asked Has Holds (Some (OfBands bands)) holds has = absurd has

pub shelf_room : Laws → (words : List (List ℕ)) (old : Shelved) → WhereAsked (ask_of words) IsRun → TellsAll old
    → HasRoom words old
shelf_room laws words old runs told =
    run_room laws words old (where_asked IsRun (TellsRun old) (ask_of words) (all_told old told) runs)
