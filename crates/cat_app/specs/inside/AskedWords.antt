-- What the words of a command line ask for, as the code has it.
use Rattle.std.specs.Prelude.{◌≡◌, ◌≤◌, ℕ, IsTrue, List, Option, IfSome, option_map}
use Rattle.cat_io.specs.Shelf.{Shelved}
use Rattle.cat_weave.specs.declared.source.Source.{Source}
use Rattle.cat_weave.specs.Gathered.{Contents, Whole, gathered}
use Rattle.cat_weave.specs.Causes.{HasEnding}
use Rattle.cat_image.specs.Listed.{is_line}
use Rattle.cat_words.specs.Asked.{IsCases}
use Rattle.cat_app.specs.Limits.{most_bands}
use Rattle.cat_app.specs.Words.{Ask, OfBands, OfListing, OfScope, ListingRequest, Request, ask_of, cases_in}
use Rattle.cat_app.specs.Words.{request}
use Rattle.cat_app.specs.declared.request.AskedFor.{AskedFor}
use Rattle.cat_app.specs.declared.request.AskedFor.TheVariants as asking
use Rattle.cat_app.specs.declared.asked_words.AskedWords.{AskedWords}
use Rattle.cat_app.specs.declared.request.ListingWords.{ListingWords}

-- the request of these words, where the number of cases has this text
abbrev pub asked_of : Option (List ℕ) → AskedWords → Request
asked_of cases asked = request asked.mode asked.scope.now asked.file.now asked.extra.now cases

-- this may be what is gathered of the main file that is asked for
abbrev pub IsGathered : AskedWords → Shelved → Source → Type 0
IsGathered asked shelf source = HasEnding shelf.content asked.file.now (Whole source)

-- a source is gathered from a file whose name is a line
pub record IsFromLine (source : Source) : Type 0 where
  pub contents : Contents
  pub main : List ℕ
  pub line : IsTrue (is_line main)
  pub whole : gathered contents main ≡ Whole source

-- the run of listed code that is asked for by these words
abbrev pub listing_asked : ListingWords → ListingRequest
listing_asked asked = record { scope = asked.scope.now; file = asked.file.now; extra = asked.extra.now }

-- what is asked by these words, where the number of cases has this text
abbrev pub ask_in : Option (List ℕ) → AskedFor → Ask
ask_in cases (asking.Scope asked) = OfScope (asked_of cases asked)
ask_in cases (asking.Listing asked) = OfListing (listing_asked asked)
ask_in cases (asking.Drill bands) = OfBands bands

-- the number of cases has this text, where something is asked of a scope
abbrev pub HasCases : Option (List ℕ) → AskedFor → Type 0
HasCases cases (asking.Scope asked) = IsCases cases asked.cases
HasCases cases (asking.Listing asked) = Unit {0}
HasCases cases (asking.Drill bands) = Unit {0}

-- there is no other number of cases than this, where something is asked of a scope
abbrev pub HasNumber : ℕ → AskedFor → Type 0
HasNumber number (asking.Scope asked) = asked.cases ≡ number
HasNumber number (asking.Listing asked) = Unit {0}
HasNumber number (asking.Drill bands) = Unit {0}

-- a drill may have so many bands, where one is asked for
abbrev pub HasBands : AskedFor → Type 0
HasBands (asking.Scope asked) = Unit {0}
HasBands (asking.Listing asked) = Unit {0}
HasBands (asking.Drill bands) = (1 ≤ bands) × (bands ≤ most_bands)

-- words ask for this
pub record AsksFor (words : List (List ℕ)) (asked : Option AskedFor) : Type 0 where
  pub ask_is : option_map (ask_in (cases_in words)) asked ≡ ask_of words
  pub cases_are : IfSome asked (HasCases (cases_in words))
  pub bands_are : IfSome asked HasBands
