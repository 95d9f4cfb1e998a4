-- Which statuses have texts, and what the shelf is left as.
use Rattle.std.proofs.Common.{◌≡◌, ℕ, true, List, ⊎_elim}
use Rattle.std.specs.Prelude.{Option, None, Some, IsSomeAnd}
use Rattle.cat_io.specs.Shelf.{Shelved}
use Rattle.cat_io.specs.Sink.{Sunk}
use Rattle.cat_app.specs.Words.{Ask, OfBands, OfListing, OfScope, ListingRequest, Request, ask_of, request_of}
use Rattle.cat_app.specs.Many.{AnswersByLine}
use Rattle.cat_app.specs.Table.{Answers, AnswersAtOnce, MayAnswer, MayAnswerTo, MayExecute}
use Rattle.cat_app.specs.Complete.{is_reply}
use Rattle.cat_app.specs.declared.status.Status.{Status}
use Rattle.cat_app.specs.declared.status.Status.TheVariants as status
use Rattle.cat_app.proofs.DeadAsked.{dead_untouched}

-- ---- where the shelf is as it was

untouched_answer : (request : Request) (old new : Shelved) (ended : Status) (text : List ℕ) → is_reply ended ≡ true
    → MayAnswer request old new ended text → new ≡ old
untouched_answer request old new status.Fine text is may =
    ⊎_elim (λ o. o.untouched) (⊎_elim (λ a. a.untouched) (⊎_elim (λ k. k.untouched)
    (⊎_elim (λ l. l.untouched) (⊎_elim (λ d. d.untouched) (dead_untouched request old new status.Fine text))))) may
untouched_answer request old new status.Conflict text is may = may.untouched
untouched_answer request old new status.NoValue text is may = may.untouched
untouched_answer request old new status.Fault text is may = may.untouched
untouched_answer request old new status.Source text is may = ⊎_elim (λ f. f.untouched) (λ s. s.untouched) may
untouched_answer request old new status.Input text is may = ⊎_elim (λ i. i.untouched) (λ a. a.untouched) may
untouched_answer request old new status.Found text is may =
    ⊎_elim (λ a. a.untouched) (dead_untouched request old new status.Found text) may
untouched_answer request old new status.Unsettled text is may =
    ⊎_elim (λ a. a.untouched)
    (⊎_elim (λ d. d.untouched) (dead_untouched request old new status.Unsettled text)) may
untouched_answer request old new status.Certificate text is may =
    ⊎_elim (λ k. k.untouched) (dead_untouched request old new status.Certificate text) may
untouched_answer request old new status.Usage text is may = ⊎_elim (λ n. n.untouched) (λ t. t.untouched) may
untouched_answer request old new status.Missing text is may = cc is
untouched_answer request old new status.ReadFault text is may = cc is
untouched_answer request old new status.TooLarge text is may = cc is
untouched_answer request old new status.WriteFault text is may = absurd may
untouched_answer request old new status.Listing text is may = absurd may
untouched_answer request old new status.Memory text is may = absurd may

untouched_run : (request : ListingRequest) (old new : Shelved) (ended : Status) (text : List ℕ) → is_reply ended ≡ true
    → MayExecute request old new ended text → new ≡ old
untouched_run request old new status.Fine text is may = may.untouched
untouched_run request old new status.Conflict text is may = may.untouched
untouched_run request old new status.NoValue text is may = may.untouched
untouched_run request old new status.Fault text is may = may.untouched
untouched_run request old new status.Listing text is may = ⊎_elim (λ i. i.untouched) (λ c. c.untouched) may
untouched_run request old new status.Input text is may = may.untouched
untouched_run request old new status.Usage text is may = may.untouched
untouched_run request old new status.Missing text is may = cc is
untouched_run request old new status.ReadFault text is may = cc is
untouched_run request old new status.TooLarge text is may = cc is
untouched_run request old new status.Source text is may = absurd may
untouched_run request old new status.Found text is may = absurd may
untouched_run request old new status.Unsettled text is may = absurd may
untouched_run request old new status.Certificate text is may = absurd may
untouched_run request old new status.WriteFault text is may = absurd may
untouched_run request old new status.Memory text is may = absurd may

untouched : (o : Option Ask) (old new : Shelved) (ended : Status) (text : List ℕ) → is_reply ended ≡ true
    → MayAnswerTo o old new ended text → new ≡ old
untouched None old new ended text is may = may.untouched
untouched (Some (OfScope request)) old new ended text is may = untouched_answer request old new ended text is may
untouched (Some (OfListing request)) old new ended text is may = untouched_run request old new ended text is may
untouched (Some (OfBands bands)) old new ended text is may = may.0

-- a reply that is a function of words and bytes leaves the shelf as it was
reply_at_once : (words : List (List ℕ)) (old new : Shelved) (sink sunk : Sunk) (ended : Status)
    → AnswersAtOnce words old new sink sunk ended → is_reply ended ≡ true → new ≡ old
reply_at_once words old new sink sunk status.WriteFault is reply = cc reply
reply_at_once words old new sink sunk status.Memory is reply = cc reply
reply_at_once words old new sink sunk status.Fine is reply =
    untouched (ask_of words) old new status.Fine is.0 reply is.1
reply_at_once words old new sink sunk status.Conflict is reply =
    untouched (ask_of words) old new status.Conflict is.0 reply is.1
reply_at_once words old new sink sunk status.NoValue is reply =
    untouched (ask_of words) old new status.NoValue is.0 reply is.1
reply_at_once words old new sink sunk status.Fault is reply =
    untouched (ask_of words) old new status.Fault is.0 reply is.1
reply_at_once words old new sink sunk status.Source is reply =
    untouched (ask_of words) old new status.Source is.0 reply is.1
reply_at_once words old new sink sunk status.Input is reply =
    untouched (ask_of words) old new status.Input is.0 reply is.1
reply_at_once words old new sink sunk status.Found is reply =
    untouched (ask_of words) old new status.Found is.0 reply is.1
reply_at_once words old new sink sunk status.Unsettled is reply =
    untouched (ask_of words) old new status.Unsettled is.0 reply is.1
reply_at_once words old new sink sunk status.Certificate is reply =
    untouched (ask_of words) old new status.Certificate is.0 reply is.1
reply_at_once words old new sink sunk status.Usage is reply =
    untouched (ask_of words) old new status.Usage is.0 reply is.1
reply_at_once words old new sink sunk status.Listing is reply =
    untouched (ask_of words) old new status.Listing is.0 reply is.1
reply_at_once words old new sink sunk status.Missing is reply = cc reply
reply_at_once words old new sink sunk status.ReadFault is reply = cc reply
reply_at_once words old new sink sunk status.TooLarge is reply = cc reply

pub reply_untouched : (words : List (List ℕ)) (old new : Shelved) (sink sunk : Sunk) (ended : Status)
    → Answers words old new sink sunk ended → is_reply ended ≡ true → new ≡ old
reply_untouched words old new sink sunk ended is reply =
    ⊎_elim (λ a. reply_at_once words old new sink sunk ended a reply) (by_line (request_of words)) is
  where
    by_line : (o : Option Request) → IsSomeAnd o (λ r. AnswersByLine r old new sink sunk ended) → new ≡ old
    by_line None l = absurd l
    by_line (Some r) l = l.untouched
