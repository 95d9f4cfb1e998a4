-- A fault is answered only where a count rose.
use Rattle.std.proofs.Common.{◌≡◌, ◌≢◌, ◌≤◌, ℕ, false, List, refl, inl, inr, arith, ⊎_elim}
use Rattle.std.specs.Prelude.{Option, Some, None, Err, IfSome, IsSomeAnd, codes}
use Rattle.cat_io.specs.Count.{FaultsRose, next_count}
use Rattle.cat_io.specs.Shelf.{Shelved, Reads}
use Rattle.cat_io.specs.Sink.{Sunk}
use Rattle.cat_io.specs.declared.shelf.ShelfFault.{ShelfFault}
use Rattle.cat_io.specs.declared.shelf.ShelfFault.TheVariants as shelf
use Rattle.cat_app.specs.Words.{Ask, OfBands, OfListing, OfScope, ListingRequest, Request, ask_of}
use Rattle.cat_app.specs.Words.{listing_in, request_in, request_of}
use Rattle.cat_app.specs.Many.{AnswersByLine}
use Rattle.cat_app.specs.Asked.{IsReadNow}
use Rattle.cat_app.specs.Answers.{IsRefusedRead}
use Rattle.cat_app.specs.Table.{Answers, AnswersAtOnce, MayAnswer, MayAnswerTo, MayDrill, MayExecute}
use Rattle.cat_app.specs.Calm.{NameRose, NoneRose, NoFileRose}
use Rattle.cat_app.specs.Complete.{is_fault}
use Rattle.cat_app.specs.Executed.{IsListingReadNow}
use Rattle.cat_app.specs.Unlisted.{HasRefusedRead}
use Rattle.cat_app.specs.declared.status.Status.{Status}
use Rattle.cat_app.specs.declared.status.Status.TheVariants as status

-- what may be answered answers a request, unless it is how the program is used or what a drill comes to
on_request : {R : Type 0} (P : Request → Type 0) (Q : ListingRequest → Type 0) (o : Option Ask) (old new : Shelved)
    (ended : Status) (text : List ℕ) → ended ≢ status.Usage → ((bands : ℕ) → MayDrill bands ended text → ⊥)
    → MayAnswerTo o old new ended text → IfSome (request_in o) P → IfSome (listing_in o) Q
    → ((request : Request) → MayAnswer request old new ended text → P request → R)
    → ((request : ListingRequest) → MayExecute request old new ended text → Q request → R) → R
on_request P Q None old new ended text other no_drill may p q step run = absurd (other may.ended_is)
on_request P Q (Some (OfScope request)) old new ended text other no_drill may p q step run = step request may p
on_request P Q (Some (OfListing request)) old new ended text other no_drill may p q step run = run request may q
on_request P Q (Some (OfBands bands)) old new ended text other no_drill may p q step run =
    absurd (no_drill bands may.1)

-- no count of a file rose that a request reads
abbrev IsCalm : Shelved → Shelved → Request → Type 0
IsCalm old new request = NoneRose (IsReadNow request old) old new

abbrev IsCalmRun : Shelved → Shelved → ListingRequest → Type 0
IsCalmRun old new request = NoneRose (IsListingReadNow request old) old new

-- no read of a request was refused where none rose
still : (request : Request) (old new : Shelved) (fault : ShelfFault) (line text : List ℕ)
    → ((name : List ℕ) (limit : ℕ) → Reads name limit old new (Err fault) → NameRose name old new)
    → IsRefusedRead request old new fault line text → IsCalm old new request → ⊥
still request old new fault line text rises is none =
    none is.name is.limit is.now (rises is.name is.limit is.read)

still_run : (request : ListingRequest) (old new : Shelved) (fault : ShelfFault) (line text : List ℕ)
    → ((name : List ℕ) (limit : ℕ) → Reads name limit old new (Err fault) → NameRose name old new)
    → HasRefusedRead request old new fault line text → IsCalmRun old new request → ⊥
still_run request old new fault line text rises is none =
    none is.name is.limit is.now (rises is.name is.limit is.read)

fault_at_once : (words : List (List ℕ)) (old new : Shelved) (sink sunk : Sunk) (ended : Status)
    → AnswersAtOnce words old new sink sunk ended → NoFileRose words old new → (FaultsRose sink.faults sunk.faults → ⊥)
    → is_fault ended ≡ false
fault_at_once words old new sink sunk status.Missing is none steady =
    absurd (on_request (IsCalm old new) (IsCalmRun old new) (ask_of words) old new status.Missing is.0 (λ e. cc e)
    (λ bands may. may) is.1 none.of_source none.of_listing
    (λ request refused calm. still request old new shelf.Missing (codes "missing file ") is.0
    (λ name limit reads. inl reads.1) refused calm)
    (λ request refused calm. still_run request old new shelf.Missing (codes "missing file ") is.0
    (λ name limit reads. inl reads.1) refused calm))
fault_at_once words old new sink sunk status.ReadFault is none steady =
    absurd (on_request (IsCalm old new) (IsCalmRun old new) (ask_of words) old new status.ReadFault is.0 (λ e. cc e)
    (λ bands may. may) is.1 none.of_source none.of_listing
    (λ request refused calm. still request old new shelf.Failed (codes "read fault ") is.0
    (λ name limit reads. inr (inl reads.1)) refused calm)
    (λ request refused calm. still_run request old new shelf.Failed (codes "read fault ") is.0
    (λ name limit reads. inr (inl reads.1)) refused calm))
fault_at_once words old new sink sunk status.TooLarge is none steady =
    absurd (on_request (IsCalm old new) (IsCalmRun old new) (ask_of words) old new status.TooLarge is.0 (λ e. cc e)
    (λ bands may. may) is.1 none.of_source none.of_listing
    (λ request refused calm. still request old new shelf.Long (codes "too large ") is.0
    (λ name limit reads. inr (inr reads.1)) refused calm)
    (λ request refused calm. still_run request old new shelf.Long (codes "too large ") is.0
    (λ name limit reads. inr (inr reads.1)) refused calm))
fault_at_once words old new sink sunk status.WriteFault is none steady = absurd (steady is.failed.rose)
fault_at_once words old new sink sunk _ is none steady = refl

-- a count that rose behind one that is no less rose
rose_behind : (x y z : ℕ) → x ≤ y → FaultsRose y z → FaultsRose x z
rose_behind x y z low rose =
    let less : next_count x ≤ next_count y = omega (arith, low) in omega (arith, less, rose)

-- nor does a line fail where the sink's count stood
line_fault : (o : Option Request) (old new : Shelved) (sink sunk : Sunk) (ended : Status)
    → IsSomeAnd o (λ r. AnswersByLine r old new sink sunk ended) → (FaultsRose sink.faults sunk.faults → ⊥)
    → is_fault ended ≡ false
line_fault None old new sink sunk ended l steady = absurd l
line_fault (Some r) old new sink sunk status.Fine l steady = refl
line_fault (Some r) old new sink sunk status.Memory l steady = refl
line_fault (Some r) old new sink sunk status.WriteFault l steady =
    absurd (steady (rose_behind sink.faults l.puts.between.faults sunk.faults l.puts.before.no_fewer
    l.puts.failed.rose))
line_fault (Some r) old new sink sunk _ l steady = absurd l.puts

pub no_fault : (words : List (List ℕ)) (old new : Shelved) (sink sunk : Sunk) (ended : Status)
    → Answers words old new sink sunk ended → NoFileRose words old new → (FaultsRose sink.faults sunk.faults → ⊥)
    → is_fault ended ≡ false
no_fault words old new sink sunk ended is none steady =
    ⊎_elim (λ a. fault_at_once words old new sink sunk ended a none steady)
    (λ l. line_fault (request_of words) old new sink sunk ended l steady) is
