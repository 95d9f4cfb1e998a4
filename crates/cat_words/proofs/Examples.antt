-- What some words ask for.
use Rattle.std.proofs.Common.{◌≡◌, List, [], ◌∷◌, Option, Some, None, refl, codes, ◌++◌}
use Rattle.clap.specs.Words.{Text}
use Rattle.clap.specs.Words.{matches_of, one_of}
use Rattle.clap.proofs.OnLiterals.{clap_on_literals}
use Rattle.cat_words.specs.Asked.{Asked, asked_by}
use Rattle.cat_words.specs.TheCommand.{the_command}

abbrev asks : Text → Text → Text → Option Text → Option Asked
asks mode scope file extra = Some (record { mode = mode; scope = scope; file = file; extra = extra })

abbrev first : List Text
first = codes "run" ∷ codes "S" ∷ []

three_words : asked_by (first ++ codes "a.md" ∷ []) ≡ asks (codes "run") (codes "S") (codes "a.md") None
unfolding clap_on_literals the_command
three_words = refl

standard_input_is_a_name : asked_by (first ++ codes "-" ∷ codes "-" ∷ [])
    ≡ asks (codes "run") (codes "S") (codes "-") (Some (codes "-"))
unfolding clap_on_literals the_command
standard_input_is_a_name = refl

an_option_stands_anywhere : asked_by (codes "--cases" ∷ codes "5" ∷ first ++ codes "a.md" ∷ codes "b" ∷ [])
    ≡ asks (codes "run") (codes "S") (codes "a.md") (Some (codes "b"))
unfolding clap_on_literals the_command
an_option_stands_anywhere = refl

the_text_of_an_option : one_of (codes "cases")
    (matches_of the_command (first ++ codes "a.md" ∷ codes "--cases=70" ∷ []))
    ≡ Some (codes "70")
unfolding clap_on_literals the_command
the_text_of_an_option = refl

two_words_are_too_few : asked_by first ≡ None
unfolding clap_on_literals the_command
two_words_are_too_few = refl

five_words_are_too_many : asked_by (first ++ codes "a" ∷ codes "b" ∷ codes "c" ∷ []) ≡ None
unfolding clap_on_literals the_command
five_words_are_too_many = refl

no_cases_are_too_few : asked_by (first ++ codes "a.md" ∷ codes "--cases=0" ∷ []) ≡ None
unfolding clap_on_literals the_command
no_cases_are_too_few = refl

a_million_cases_are_taken : asked_by (first ++ codes "a.md" ∷ codes "--cases=1000000" ∷ [])
    ≡ asks (codes "run") (codes "S") (codes "a.md") None
unfolding clap_on_literals the_command
a_million_cases_are_taken = refl

a_million_and_one_cases_are_too_many : asked_by (first ++ codes "a.md" ∷ codes "--cases=1000001" ∷ []) ≡ None
unfolding clap_on_literals the_command
a_million_and_one_cases_are_too_many = refl
