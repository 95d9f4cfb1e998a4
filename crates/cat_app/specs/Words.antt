-- What the words ask for.
use Rattle.std.specs.Prelude.{◌≤◌, ℕ, Bool, true, false, List, Option, Some, None, ◌&&◌, not, ◌==◌, bytes_eq}
use Rattle.std.specs.Prelude.{codes, if◌then◌else◌, is_some, option_and_then, option_map, unwrap_or}
use Rattle.std.specs.List.{list_any}
use Rattle.clap.specs.Words.{matches_of, one_of}
use Rattle.cat_words.specs.Asked.{Asked, IsCases, asked_by, most_asked}
use Rattle.cat_words.specs.TheCommand.{the_command}
use Rattle.cat_app.specs.Numbers.{bands_in}
use Rattle.cat_app.specs.Modes.{mode_by}
use Rattle.cat_app.specs.declared.request.Mode.{Mode}

-- a mode and the scope of this name, with the names of the source and of the input or the certificate, which neither an
-- audit has nor an emit of the code alone nor a report on definitions, or that of the target whose table is asked for,
-- and the text of the number of cases, which an audit, a table and such a report look at
pub record Request : Type 0 where
  pub mode : Mode
  pub scope : List ℕ
  pub file : List ℕ
  pub extra : List ℕ
  pub cases : Option (List ℕ)

-- a request of these
abbrev pub request : Mode → List ℕ → List ℕ → List ℕ → Option (List ℕ) → Request
request mode scope file extra cases =
    record { mode = mode; scope = scope; file = file; extra = extra; cases = cases }

-- what words ask for: the name of the source has no line feed, and EXTRA is standard input unless it is given
abbrev pub request_by : Option (List ℕ) → Asked → Option Request
request_by cases asked =
    let extra = unwrap_or asked.extra (codes "-") in
    if list_any (λ byte. byte == 10) asked.file then None
    else option_map (λ mode. request mode asked.scope asked.file extra cases)
    (mode_by asked.mode (is_some asked.extra))

-- the text of the number of cases
abbrev pub cases_in : List (List ℕ) → Option (List ℕ)
cases_in words = one_of (codes "cases") (matches_of the_command words)

-- a run of the scope of this name of listed code, with the names of the listing and of the input
pub record ListingRequest : Type 0 where
  pub scope : List ℕ
  pub file : List ℕ
  pub extra : List ℕ

-- what is asked: something of a scope of a source or of listed code, or a drill of so many bands
pub data Ask : Type 0 where
  OfScope : Request → Ask
  OfListing : ListingRequest → Ask
  OfBands : ℕ → Ask

-- a run of listed code that words ask for: the name of the listing has no line feed, and EXTRA is standard input unless
-- it is given
abbrev pub listing_by : Asked → Option ListingRequest
listing_by asked =
    if list_any (λ byte. byte == 10) asked.file then None
    else Some (record { scope = asked.scope; file = asked.file; extra = unwrap_or asked.extra (codes "-") })

-- how many bands a drill has: SCOPE names them, FILE is `none`, and there is no EXTRA
abbrev pub bands_from : List ℕ → List ℕ → Bool → Option ℕ
bands_from scope file has_extra =
    if bytes_eq file (codes "none") && not has_extra then bands_in scope else None

-- how many bands a drill has that words ask for so
abbrev pub bands_by : Asked → Option ℕ
bands_by asked = bands_from asked.scope asked.file (is_some asked.extra)

-- what words ask by their mode
abbrev pub ask_by : Option (List ℕ) → Asked → Option Ask
ask_by cases asked =
    if bytes_eq asked.mode (codes "drill") then option_map OfBands (bands_by asked) else
    (if bytes_eq asked.mode (codes "exec") then option_map OfListing (listing_by asked)
    else option_map OfScope (request_by cases asked))

-- the words `MODE SCOPE FILE [EXTRA]` with `run`, `check`, `trace`, `many`, `table`, `dead`, `emit` or `exec`, `audit
-- SCOPE FILE`, or `drill N none` of a command that is taken; other words ask for nothing
unfoldable pub ask_of : List (List ℕ) → Option Ask
ask_of words = option_and_then (ask_by (cases_in words)) (asked_by words)

-- what is asked of a scope, where something is
abbrev pub request_in : Option Ask → Option Request
request_in None = None
request_in (Some (OfScope r)) = Some r
request_in (Some (OfListing r)) = None
request_in (Some (OfBands bands)) = None

-- the run of listed code that is asked for, where one is
abbrev pub listing_in : Option Ask → Option ListingRequest
listing_in None = None
listing_in (Some (OfScope r)) = None
listing_in (Some (OfListing r)) = Some r
listing_in (Some (OfBands bands)) = None

-- how many bands a drill that is asked for has, where one is
abbrev pub bands_asked : Option Ask → Option ℕ
bands_asked None = None
bands_asked (Some (OfScope r)) = None
bands_asked (Some (OfListing r)) = None
bands_asked (Some (OfBands bands)) = Some bands

-- what words ask of a scope
abbrev pub request_of : List (List ℕ) → Option Request
request_of words = request_in (ask_of words)

-- what words ask of listed code
abbrev pub listing_of : List (List ℕ) → Option ListingRequest
listing_of words = listing_in (ask_of words)

-- how many bands words ask for
abbrev pub bands_of : List (List ℕ) → Option ℕ
bands_of words = bands_asked (ask_of words)

-- the most leaves that an audit, a table or a report on definitions makes of a target: the number of cases, which is
-- from 1 to 1,000,000
pub record IsMost (cases : Option (List ℕ)) (most : ℕ) : Type 0 where
  pub number_is : IsCases cases most
  pub some : 1 ≤ most
  pub few : most ≤ most_asked
