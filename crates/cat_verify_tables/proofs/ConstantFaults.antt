-- Constants as they are told, and the lines of those that are none.
use Rattle.std.proofs.Common.{◌≡◌, ◌≤◌, ℕ, IsTrue, List, [], ◌∷◌, ◌++◌, length, inl, inr, refl, sym, ◌∙◌}
use Rattle.std.proofs.Common.{arith}
use Rattle.std.specs.List.{list_all}
use Rattle.std.specs.Cmp.Derive.{both_true}
use Rattle.std.proofs.lemmas.Bool.Decides.{nat_tests}
use Rattle.std.proofs.lemmas.List.{length-map}
use Rattle.cat_value.specs.declared.ty.Ty.{Ty}
use Rattle.cat_value.specs.Declarations.{highest, is_declared, is_sound}
use Rattle.cat_value.specs.Heights.{height_to}
use Rattle.cat_code.specs.declared.code.Constant.{Constant}
use Rattle.cat_code.specs.Valid.{constant_is_sound}
use Rattle.cat_image.specs.declared.tables.ImageConstant.{ImageConstant}
use Rattle.cat_image.specs.declared.tables.ImageTables.{ImageTables}
use Rattle.cat_image.specs.Words.{Text}
use Rattle.cat_image.specs.Listed.{scopes_words}
use Rattle.cat_verify_tables.specs.declared.constants.Typing.{Typing}
use Rattle.cat_verify_tables.specs.TableWords.{AreConstantsOf, IsConstantOf}
use Rattle.cat_verify_tables.specs.WrongTables.{IsWrongConstant}
use Rattle.cat_verify_tables.specs.inside.Causes.{IsFaulty}
use Rattle.cat_verify_tables.specs.inside.ConstantWords.{IsConstantBy, IsWrongConstantBy}
use Rattle.cat_verify_tables.specs.inside.ConstantWords as wrong
use Rattle.cat_verify_tables.specs.inside.Entries.{AreTold}
use Rattle.cat_verify_tables.specs.inside.DeclaredWords.{structure_name, enumeration_name, structures_named}
use Rattle.cat_verify_tables.specs.inside.DeclaredWords.{enumerations_named}
use Rattle.cat_verify_tables.specs.inside.PartWords.{Spells, IsStructureOf, IsEnumerationOf}
use Rattle.cat_verify_tables.proofs.DeclaringLemmas.{told_many}
use Rattle.cat_verify_tables.proofs.KnownLemmas.{Knows, spelled_none}
use Rattle.cat_verify_tables.proofs.MadeLemmas.{higher_of, named_of_spelled}
use Rattle.cat_verify_tables.proofs.NumberLemmas.{AreNumbered, spelled_declared}
use Rattle.cat_verify_tables.proofs.WordedLemmas.{enumerations_worded, spelled, structures_worded}

module _ (tables : ImageTables) (t : Typing)
    (are : AreNumbered t.types.now (structures_named tables) (enumerations_named tables))
    (structures_told : AreTold (λ _. IsStructureOf t.types.now) [] tables.structures t.decls.now.structures)
    (enumerations_told : AreTold (λ _. IsEnumerationOf t.types.now) [] tables.enumerations t.decls.now.enumerations)
    (knows : Knows tables t.types.now) where
  module _ (entries : List ℕ) (scopes_are : tables.scopes ≡ scopes_words t.decls.now t.decls.now.scopes entries)
      (one_entry_each : length entries ≡ length t.decls.now.scopes) where
    constant_wrong : (c : ImageConstant) → IsWrongConstantBy t c → IsWrongConstant tables c
    constant_wrong c (wrong.none none) = inl (spelled_none tables t.types.now knows c.ty none)
    constant_wrong c (wrong.high ty spells high) =
        inl (inr (higher_of tables t.types.now t.decls.now.structures t.decls.now.enumerations are structures_told
        enumerations_told highest highest c.ty ty
        (named_of_spelled t.types.now (structures_named tables) (enumerations_named tables) are c.ty ty spells) high))
    constant_wrong c (wrong.unread ty spells none) = inr (record {
      decls = t.decls.now;
      entries = entries;
      structures = structures_worded tables t.types.now t.decls.now are structures_told enumerations_told;
      enumerations = enumerations_worded tables t.types.now t.decls.now are structures_told enumerations_told;
      scopes = scopes_are;
      one_entry_each = one_entry_each;
      ty = ty;
      ty_is = sym (spelled tables t.types.now t.decls.now are structures_told enumerations_told c.ty ty spells);
      not_read = none;
    })

    pub constants_wrong : (first line : ℕ) → IsFaulty (λ _. IsWrongConstantBy t) first tables.constants line
        → IsFaulty (λ _. IsWrongConstant tables) first tables.constants line
    constants_wrong first line faulty = record {
      index = faulty.index;
      entry = faulty.entry;
      at = faulty.at;
      line_is = faulty.line_is;
      fault = constant_wrong faulty.entry faulty.fault;
    }

  many : length t.decls.now.structures ≡ length (structures_named tables)
  many =
      told_many (λ _. IsStructureOf t.types.now) [] tables.structures t.decls.now.structures structures_told
      ∙ sym (length-map tables.structures structure_name)

  more : length t.decls.now.enumerations ≡ length (enumerations_named tables)
  more =
      told_many (λ _. IsEnumerationOf t.types.now) [] tables.enumerations t.decls.now.enumerations enumerations_told
      ∙ sym (length-map tables.enumerations enumeration_name)

  type_declared : (w : Text) (ty : Ty) → Spells t.types.now w ty
      → IsTrue (is_declared t.decls.now.structures t.decls.now.enumerations ty)
  type_declared = spelled_declared t.types.now (structures_named tables) (enumerations_named tables) are
      t.decls.now.structures t.decls.now.enumerations many more

  type_sound : (w : Text) (ty : Ty) → Spells t.types.now w ty
      → height_to t.decls.now.structures t.decls.now.enumerations highest ty ≤ highest
      → IsTrue (is_sound t.decls.now.structures t.decls.now.enumerations ty)
  type_sound w ty spells low = both_true (type_declared w ty spells) (grind (arith, nat_tests, low))

  constant_told : (c : ImageConstant) (made : Constant) → IsConstantBy t c made → IsConstantOf t.decls.now c made
  constant_told c made told = record {
    ty = sym (spelled tables t.types.now t.decls.now are structures_told enumerations_told c.ty made.ty told.ty);
    value = told.value;
    low = type_sound c.ty made.ty told.ty told.low;
  }

  pub constants_told : (front lines : List ImageConstant) (made : List Constant)
      → AreTold (λ _. IsConstantBy t) front lines made → AreConstantsOf t.decls.now lines made
  constants_told front [] [] told = tt
  constants_told front [] (c ∷ made) told = absurd told
  constants_told front (l ∷ lines) [] told = absurd told
  constants_told front (l ∷ lines) (c ∷ made) told =
      (constant_told l c told.0, constants_told (front ++ l ∷ []) lines made told.1)

  constant_sound : (c : ImageConstant) (made : Constant) → IsConstantBy t c made
      → IsTrue (constant_is_sound t.decls.now made)
  constant_sound c made told =
      both_true (type_sound c.ty made.ty told.ty told.low) (told.typed (type_declared c.ty made.ty told.ty))

  pub constants_sound : (front lines : List ImageConstant) (made : List Constant)
      → AreTold (λ _. IsConstantBy t) front lines made → IsTrue (list_all (constant_is_sound t.decls.now) made)
  constants_sound front [] [] told = refl
  constants_sound front [] (c ∷ made) told = absurd told
  constants_sound front (l ∷ lines) [] told = absurd told
  constants_sound front (l ∷ lines) (c ∷ made) told =
      both_true (constant_sound l c told.0) (constants_sound (front ++ l ∷ []) lines made told.1)
