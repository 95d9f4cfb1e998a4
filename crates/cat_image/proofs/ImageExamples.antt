-- Worked examples of images, and of texts that are none.
use Rattle.std.proofs.Common.{◌≡◌, true, false, List, [], ◌∷◌, codes, refl, arith}
use Rattle.std.specs.Fmt.{digits}
use Rattle.std.specs.Str.{is_utf8, chars}
use lib.Utf8.{encode}
use Rattle.cat_code.specs.declared.instr.Instr.TheVariants as instr
use Rattle.cat_image.specs.declared.tables.ImageTables.{ImageTables}
use Rattle.cat_image.specs.declared.refusal.ImageRefusal.TheVariants as refusal
use Rattle.cat_image.specs.Words.{parts, words, is_type, is_what}
use Rattle.cat_image.specs.Image.{IsImage}
use Rattle.cat_image.specs.Refused.{HasCause, lines_of}
use Rattle.cat_image.proofs.ImageLemmas.{whole_told}

-- one file, and one scope without items
abbrev one_scope : ImageTables
one_scope = record {
  files = codes "a.md" ∷ [];
  structures = [];
  enumerations = [];
  scopes = record { name = codes "S"; entry = 0; items = [] } ∷ [];
  targets = [];
  definitions = [];
  functions = [];
  positions = [];
  constants = [];
}

an_image_of_one_jump : IsImage (codes "catala-code 1\nfile a.md\nscope S 0\n0 jump 7\n") one_scope (instr.Jump 7 ∷ [])
unfolding parts digits is_utf8 chars encode
an_image_of_one_jump = record {
  rows = (tt, ((refl, omega arith), ((omega arith, (omega arith, tt)), tt)));
  some = omega arith;
  lines = refl;
  texts = (refl, (refl, (refl, (refl, tt))));
}

a_rest_is_no_line : lines_of (codes "catala-code 1\nfile") ≡ codes "catala-code 1" ∷ []
unfolding parts
a_rest_is_no_line = refl

an_empty_text_is_short : HasCause [] refusal.Short
unfolding parts
an_empty_text_is_short = whole_told []

another_version_is_a_bad_line : HasCause (codes "catala-code 2\n") (refusal.BadLine 1)
unfolding parts
another_version_is_a_bad_line = whole_told (codes "catala-code 2\n")

-- ---- types

a_list_of_lists_is_a_type : is_type (codes "list of list of integer") ≡ true
unfolding parts
a_list_of_lists_is_a_type = refl

list_may_be_a_name : is_type (codes "list") ≡ true
unfolding parts
list_may_be_a_name = refl

a_list_of_nothing_is_no_type : is_type (codes "list of ") ≡ false
unfolding parts
a_list_of_nothing_is_no_type = refl

a_function_has_parameters : is_what (codes "list of money of integer, list of date") ≡ true
unfolding parts
a_function_has_parameters = refl

a_parameter_is_a_type : is_what (codes "money of integer, ") ≡ false
unfolding parts
a_parameter_is_a_type = refl
