-- How the answers of a text at once and of many inputs' lines stand beside each other.
use Rattle.std.proofs.Common.{◌≡◌, ◌≢◌, ◌≤◌, ◌<◌, ◌+◌, ℕ, zero, suc, List, [], ◌∷◌, length, take, drop, refl, ap}
use Rattle.std.proofs.Common.{subst, inr, arith, ⊎_elim}
use Rattle.std.specs.Prelude.{Option, Some, None, IfSome, IsSomeAnd}
use Rattle.std.specs.List.{concat}
use Rattle.std.proofs.lemmas.List.{length-append}
use Rattle.cat_io.specs.Shelf.{Shelved}
use Rattle.cat_io.specs.Sink.{Shrinks, Sunk}
use Rattle.cat_app.specs.Words.{Ask, ListingRequest, Request, ask_of, bands_of, listing_of, request_in}
use Rattle.cat_app.specs.Words.{request_of}
use Rattle.cat_app.specs.Many.{AnswersByLine, PutsLines}
use Rattle.cat_app.specs.Complete.{LinesFit, RepliesFit}
use Rattle.cat_app.specs.Table.{Answers, AnswersAtOnce}
use Rattle.cat_app.specs.inside.Reading.{IsRead, PutsEach}
use Rattle.cat_app.specs.declared.many.ManyInputs.{ManyInputs}
use Rattle.cat_app.specs.declared.request.Mode.TheVariants.{Many}
use Rattle.cat_app.specs.declared.status.Status.{Status}
use Rattle.cat_app.specs.declared.status.Status.TheVariants as status
use Rattle.cat_app.proofs.DrillEnds.{of_bands}
use Rattle.cat_app.proofs.ExecEnds.{of_listing}

-- ---- which of the two it is

pub asked_here : (P : Request → Type 0) (o : Option Request) → IsSomeAnd o P → (r : Request) × (o ≡ Some r) × P r
asked_here P None holds = absurd holds
asked_here P (Some r) holds = (r, refl, holds)

module _ (words : List (List ℕ)) (old new : Shelved) (sink sunk : Sunk) (ended : Status) where
  -- who asks for no many is answered at once
  pub at_once : (request : Request) → request_of words ≡ Some request → request.mode ≢ Many
      → Answers words old new sink sunk ended → AnswersAtOnce words old new sink sunk ended
  at_once request asked other = ⊎_elim (λ a. a) (λ l. absurd (by_line l))
    where
      by_line : IsSomeAnd (request_of words) (λ r. AnswersByLine r old new sink sunk ended) → ⊥
      by_line l =
          let here = asked_here (λ r. AnswersByLine r old new sink sunk ended) (request_of words) l in
          let same : here.0 ≡ request = cc (here.1, asked) in
          other (subst (λ (r : Request). r.mode ≡ Many) same here.2.asked.mode)

  -- and so is a drill
  pub drill_at_once : (bands : ℕ) → bands_of words ≡ Some bands → Answers words old new sink sunk ended
      → AnswersAtOnce words old new sink sunk ended
  drill_at_once bands asked = ⊎_elim (λ a. a) (λ l. absurd (subst (λ (o : Option Ask).
      IsSomeAnd (request_in o) (λ r. AnswersByLine r old new sink sunk ended)) (of_bands (ask_of words) bands asked) l))

  -- and a run of listed code
  pub listing_at_once : (request : ListingRequest) → listing_of words ≡ Some request
      → Answers words old new sink sunk ended → AnswersAtOnce words old new sink sunk ended
  listing_at_once request asked = ⊎_elim (λ a. a) (λ l. absurd (subst (λ (o : Option Ask).
      IsSomeAnd (request_in o) (λ r. AnswersByLine r old new sink sunk ended))
      (of_listing (ask_of words) request asked) l))

-- ---- what was put answers

-- the lines that were put of what was read answer
pub lines_answer : (words : List (List ℕ)) (old new : Shelved) (sink sunk : Sunk) (ended : Status) (read : ManyInputs)
    → IsSomeAnd (request_of words) (λ r. IsRead r old new read)
    → PutsEach read.built.program read.scope read.source.files read.inputs sink sunk ended
    → Answers words old new sink sunk ended
lines_answer words old new sink sunk ended read is puts = inr (by (request_of words) is)
  where
    by : (o : Option Request) → IsSomeAnd o (λ r. IsRead r old new read)
        → IsSomeAnd o (λ r. AnswersByLine r old new sink sunk ended)
    by None none = absurd none
    by (Some r) asked = record {
      lines = puts.lines;
      asked = record {
        source = read.source;
        program = read.built.program;
        scope = read.scope;
        extra = asked.extra;
        inputs = read.inputs;
        mode = asked.mode;
        asked = asked.asked;
        extra_read = asked.extra_read;
        inputs_are = asked.inputs.inputs_are;
        lines_are = puts.lines_are;
      };
      untouched = asked.untouched;
      puts = puts.puts;
    }

-- ---- what fits is written

of_room : (o : Option ℕ) (room : ℕ) (P : ℕ → Type 0) → o ≡ Some room → IfSome o P → P room
of_room o room P is holds = subst (λ (x : Option ℕ). IfSome x P) is holds

room_for_some : (lines : List (List ℕ)) (count : ℕ) → length (concat (take count lines)) ≤ length (concat lines)
room_for_some [] zero = omega arith
room_for_some [] (suc k) = omega arith
room_for_some (l ∷ lines) zero = omega arith
room_for_some (l ∷ lines) (suc k) =
    let front = length-append l (concat (take k lines)) in
    omega (arith, front, length-append l (concat lines), room_for_some lines k)

-- the lines in front of some, and these, are no longer than all
room_for_front : (lines : List (List ℕ)) (count more : ℕ)
    → length (concat (take count lines)) + length (concat (take more (drop count lines))) ≤ length (concat lines)
room_for_front lines zero more = omega (arith, room_for_some lines more)
room_for_front [] (suc k) more = omega (arith, room_for_some [] more)
room_for_front (l ∷ lines) (suc k) more =
    let front = length-append l (concat (take k lines)) in
    omega (arith, front, length-append l (concat lines), room_for_front lines k more)

too_long : (a b : Option ℕ) (room m n all : ℕ) → a ≡ Some room → Shrinks a b m → IfSome b (λ r. r < n) → m + n ≤ all
    → all ≤ room → ⊥
too_long None b room m n all is shrinks full fits few = cc is
too_long (Some r) None room m n all is shrinks full fits few = absurd shrinks
too_long (Some r) (Some s) room m n all is shrinks full fits few =
    let same : r ≡ room = cc is in absurd (omega (arith, same, shrinks, full, fits, few))

module _ (words : List (List ℕ)) (old new : Shelved) (sink sunk : Sunk) (room : ℕ) (told : sink.room ≡ Some room)
    (fit : RepliesFit words old new room) where
  steady_of : IfSome sink.room (λ r. sunk.faults ≡ sink.faults) → sunk.faults ≡ sink.faults
  steady_of = of_room sink.room room (λ r. sunk.faults ≡ sink.faults) told

  fits_at_once : (ended : Status) → AnswersAtOnce words old new sink sunk ended
      → (ended ≢ status.WriteFault) × (sunk.faults ≡ sink.faults)
  fits_at_once status.WriteFault is =
      let less = of_room sink.room room (λ r. r < length is.text) told is.failed.full in
      absurd (omega (arith, less, fit.texts is.status is.text is.may))
  fits_at_once status.Memory is = ((λ e. cc e), ap (λ (s : Sunk). s.faults) is.0)
  fits_at_once _ is = ((λ e. cc e), steady_of is.2.steady)

  fits_by_line : (lines : List (List ℕ)) (ended : Status) → length (concat lines) ≤ room
      → PutsLines lines sink sunk ended → (ended ≢ status.WriteFault) × (sunk.faults ≡ sink.faults)
  fits_by_line lines status.Fine few is = ((λ e. cc e), steady_of is.steady)
  fits_by_line lines status.Memory few is = ((λ e. cc e), steady_of is.1.steady)
  fits_by_line lines status.WriteFault few is =
      absurd (too_long sink.room is.between.room room (length (concat (take is.count lines)))
      (length (concat (take is.more (drop is.count lines)))) (length (concat lines)) told is.before.room is.failed.full
      (room_for_front lines is.count is.more) few)
  fits_by_line lines _ few is = absurd is

  fits : (ended : Status) → Answers words old new sink sunk ended
      → (ended ≢ status.WriteFault) × (sunk.faults ≡ sink.faults)
  fits ended = ⊎_elim (fits_at_once ended) by_line
    where
      by_line : IsSomeAnd (request_of words) (λ r. AnswersByLine r old new sink sunk ended)
          → (ended ≢ status.WriteFault) × (sunk.faults ≡ sink.faults)
      by_line l =
          let here = asked_here (λ r. AnswersByLine r old new sink sunk ended) (request_of words) l in
          let lines_fit : LinesFit (Some here.0) old room =
          subst (λ (o : Option Request). LinesFit o old room) here.1 fit.lines in
          fits_by_line here.2.lines ended (lines_fit here.2.lines here.2.asked) here.2.puts

-- where the sink tells its room and each text and all lines fit, they are written, and no fault is counted
pub what_fits : (words : List (List ℕ)) (old new : Shelved) (sink sunk : Sunk) (ended : Status)
    → Answers words old new sink sunk ended → IfSome sink.room (λ room.
    RepliesFit words old new room → (ended ≢ status.WriteFault) × (sunk.faults ≡ sink.faults))
what_fits words old new sink sunk ended is = by sink.room refl
  where
    by : (o : Option ℕ) → sink.room ≡ o → IfSome o (λ room.
        RepliesFit words old new room → (ended ≢ status.WriteFault) × (sunk.faults ≡ sink.faults))
    by None told = tt
    by (Some room) told = λ fit. fits words old new sink sunk room told fit ended is
