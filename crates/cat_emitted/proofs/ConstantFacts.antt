-- Constants that are read back are right, and are told by their words.
use Rattle.std.proofs.Common.{◌≤◌, IsTrue, nat_le, List, [], ◌∷◌, map, inl, inr, refl}
use Rattle.std.proofs.Common.{◌∙◌, arith}
use Rattle.std.proofs.lemmas.Bool.{and_parts}
use Rattle.std.proofs.lemmas.Bool.Decides.{nat_tests}
use Rattle.cat_scope.specs.Names.{AllHave}
use Rattle.cat_value.specs.declared.decls.Decls.{Decls}
use Rattle.cat_value.specs.Declarations.{is_sound, is_declared, highest}
use Rattle.cat_value.specs.Heights.{height_to}
use Rattle.cat_value.specs.Typing.{has_type}
use Rattle.cat_code.specs.declared.code.Constant.{Constant}
use Rattle.cat_code.specs.declared.code.Tables.{Tables}
use Rattle.cat_code.specs.Valid.{constant_is_sound}
use Rattle.cat_answer.specs.Writes.{value_bytes}
use Rattle.cat_image.specs.Words.{Text}
use Rattle.cat_image.specs.Listed.{words_of, constant_words}
use Rattle.cat_verify_tables.specs.TableWords.{AreConstantsOf}
use Rattle.cat_verify_tables.specs.WrongTables.{IsWrongConstant}
use Rattle.cat_emitted.specs.Spelled.{AreSpelledDecls}
use Rattle.cat_emitted.proofs.Readings.{IsReadBack, AreReadAlike}
use Rattle.cat_emitted.proofs.PartFacts.{right_type}

module _ (ds : Decls) (c : Constant) (sound : IsTrue (constant_is_sound ds c)) where
  type_sound : IsTrue (is_sound ds.structures ds.enumerations c.ty)
  type_sound = (and_parts (is_sound ds.structures ds.enumerations c.ty) (has_type ds c.value c.ty) sound).0

  pub constant_typed : IsTrue (has_type ds c.value c.ty)
  constant_typed = (and_parts (is_sound ds.structures ds.enumerations c.ty) (has_type ds c.value c.ty) sound).1

  pub constant_declared : IsTrue (is_declared ds.structures ds.enumerations c.ty)
  constant_declared = (and_parts (is_declared ds.structures ds.enumerations c.ty)
      (nat_le (height_to ds.structures ds.enumerations highest c.ty) highest) type_sound).0

  pub constant_low : height_to ds.structures ds.enumerations highest c.ty ≤ highest
  constant_low =
      let low = (and_parts (is_declared ds.structures ds.enumerations c.ty)
      (nat_le (height_to ds.structures ds.enumerations highest c.ty) highest) type_sound).1 in
      grind (arith, nat_tests, low)

pub constant_right : (code : Tables) (files : List Text) → AreSpelledDecls code.decls
    → AreReadAlike (words_of code files) code.decls → (c : Constant) → IsTrue (constant_is_sound code.decls c)
    → IsReadBack code.decls c → IsWrongConstant (words_of code files) (constant_words code.decls c) → ⊥
constant_right code files spelled alike c sound back (inl wrong) =
    right_type code files spelled highest c.ty (constant_declared code.decls c sound) (constant_low code.decls c sound)
    wrong
constant_right code files spelled alike c sound back (inr other) =
    other.not_read c.value
    (alike other.decls other.structures other.enumerations c.ty other.ty (constant_declared code.decls c sound)
    other.ty_is (value_bytes code.decls c.ty c.value) ∙ back)

pub constants_told : (ds : Decls) (cs : List Constant) → AllHave (λ c. IsTrue (constant_is_sound ds c)) cs
    → AllHave (IsReadBack ds) cs → AreConstantsOf ds (map (constant_words ds) cs) cs
constants_told ds [] sound back = tt
constants_told ds (c ∷ cs) sound back =
    (record { ty = refl; value = back.0; low = type_sound ds c sound.0 }, constants_told ds cs sound.1 back.1)
