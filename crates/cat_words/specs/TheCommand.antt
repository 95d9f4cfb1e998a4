-- The program's simple command, in the words that tell what `clap` makes of words.
use Rattle.std.specs.Prelude.{◌≡◌, Some, true, pos, refl, codes}
use Rattle.clap.specs.Words.{App, Rule, Text, is_simple, is_simple_and_free, new_app, new_rule, with_rule}
use Rattle.clap.specs.declared.builder.value_parser.ValueParser.TheVariants.{Signed}

-- a word that has to be there
abbrev pub required_rule : Text → Rule
required_rule id = record (new_rule id) { required = true }

-- the option `--cases N`, whose number is from 1 to 1,000,000
abbrev pub cases_rule : Rule
cases_rule = record (new_rule (codes "cases")) {
  long = Some (codes "cases");
  parser = Some (Signed (pos 1) (pos 1000000));
}

-- the same command without the program's name in front of its words
abbrev pub bare : App → App
bare a = record a { top = record a.top { no_binary_name = true } }

-- the command `MODE SCOPE FILE [EXTRA] [--cases N]`
unfoldable pub the_command : App
the_command = with_rule (with_rule (with_rule (with_rule (with_rule (bare (new_app (codes "catala")))
    (required_rule (codes "MODE"))) (required_rule (codes "SCOPE"))) (required_rule (codes "FILE")))
    (new_rule (codes "EXTRA"))) cases_rule

-- `clap` tells what such a command finds in words, and which words it refuses
pub the_command-is_simple : is_simple the_command ≡ true
unfolding the_command
the_command-is_simple = refl

pub the_command-is_free : is_simple_and_free the_command ≡ true
unfolding the_command
the_command-is_free = refl
