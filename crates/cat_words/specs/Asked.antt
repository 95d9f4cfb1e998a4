-- What words ask for.
use Rattle.std.specs.Prelude.{◌≡◌, ◌≤◌, ℕ, List, [], ◌∷◌, Option, Some, None, option_map, codes}
use Rattle.std.specs.Borrow.{Bor}
use Rattle.std.specs.Str.Parse.{IsNumeral, digits_value, without_leading_plus}
use Rattle.clap.specs.Words.{Kinds, Row, Text, fault_of, first_of, matches_of}
use Rattle.cat_words.specs.declared.command_line.CommandLine.{CommandLine}
use Rattle.cat_words.specs.TheCommand.{the_command}

-- the words but for the number of cases
pub record Asked : Type 0 where
  pub mode : Text
  pub scope : Text
  pub file : Text
  pub extra : Option Text

-- what a command line asks
abbrev pub asked_of : CommandLine → Asked
asked_of line = record {
  mode = line.mode.now;
  scope = line.scope.now;
  file = line.file.now;
  extra = option_map (λ word. word.now) line.extra;
}

-- a word that may be left out, as a text
abbrev pub text_in : Option (Bor Text) → Option Text
text_in = option_map (λ word. word.now)

-- the words, where each that has to be there is
abbrev pub all_found : Option Text → Option Text → Option Text → Option Text → Option Asked
all_found (Some mode) (Some scope) (Some file) extra =
    Some (record { mode = mode; scope = scope; file = file; extra = extra })
all_found (Some mode) (Some scope) None extra = None
all_found (Some mode) None file extra = None
all_found None scope file extra = None

-- what was found for each word
abbrev pub found_in : List Row → Option Asked
found_in rows = all_found (first_of (codes "MODE") rows) (first_of (codes "SCOPE") rows) (first_of (codes "FILE") rows)
    (first_of (codes "EXTRA") rows)

-- what was found in words that nothing is the matter with
abbrev pub where_faultless : {A : Type 0} → Kinds → Option A → Option A
where_faultless [] found = found
where_faultless (kind ∷ kinds) found = None

-- what words ask for: the command takes them
abbrev pub asked_by : List Text → Option Asked
asked_by words = where_faultless (fault_of the_command words) (found_in (matches_of the_command words))

-- the most leaves that an audit may be asked to make of a target
abbrev pub most_asked : ℕ
most_asked = 1000000

-- a text that spells a number from 1 to that
abbrev pub SpellsCases : Text → Type 0
SpellsCases text = IsNumeral 10 (without_leading_plus text) × (1 ≤ digits_value 10 (without_leading_plus text))
    × (digits_value 10 (without_leading_plus text) ≤ most_asked)

-- the number of cases: the number that the text of the option spells, and 100,000 where it isn't given
abbrev pub IsCases : Option Text → ℕ → Type 0
IsCases None n = n ≡ 100000
IsCases (Some text) n = SpellsCases text × (n ≡ digits_value 10 (without_leading_plus text))
