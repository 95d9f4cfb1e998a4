-- Headers that are right, and lines of those that aren't.
use Rattle.std.proofs.Common.{◌≡◌, ℕ, List, [], ◌∷◌, ◌++◌, length, map, inr, sym, ap, ◌∙◌, subst}
use Rattle.std.proofs.lemmas.List.{length-map}
use Rattle.cat_scope.specs.Names.{AllHave}
use Rattle.cat_value.specs.declared.declaration.Structure.{Structure}
use Rattle.cat_value.specs.declared.declaration.Enumeration.{Enumeration}
use Rattle.cat_value.specs.declared.declaration.Scope.{Scope}
use Rattle.cat_value.specs.declared.decls.Decls.{Decls}
use Rattle.cat_image.specs.declared.tables.ImageTables.{ImageTables}
use Rattle.cat_image.specs.Words.{Text}
use Rattle.cat_verify_tables.specs.declared.declared.Declaring.{Declaring}
use Rattle.cat_verify_tables.specs.declared.declared.Headers.{Headers}
use Rattle.cat_verify_tables.specs.declared.refusal.TableRefusal.{TableRefusal}
use Rattle.cat_verify_tables.specs.declared.refusal.TableRefusal.TheVariants as refusal
use Rattle.cat_verify_tables.specs.TypeWords.{IsTypeName, type_names}
use Rattle.cat_verify_tables.specs.WrongTables.{HasCause, IsBadTable}
use Rattle.cat_verify_tables.specs.inside.Causes.{Refuses, IsFaultyIn}
use Rattle.cat_verify_tables.specs.inside.Entries.{AreRight}
use Rattle.cat_verify_tables.specs.inside.DeclarationWords.{parts_of}
use Rattle.cat_verify_tables.specs.inside.HeldWords.{ArePlain}
use Rattle.cat_verify_tables.specs.inside.NamedWords.{names_in, numbered, IsWrongHeader, case_count, item_count}
use Rattle.cat_verify_tables.specs.inside.DeclaredWords.{structure_name, enumeration_name, scope_name}
use Rattle.cat_verify_tables.specs.inside.DeclaredWords.{structures_named, enumerations_named, AreHeadersOf}
use Rattle.cat_verify_tables.specs.inside.DeclaredWords.{HasWrongHeader, HasWrongPart}
use Rattle.cat_verify_tables.specs.inside.DeclaredWords as wrong
use Rattle.cat_verify_tables.specs.inside.PartWords.{IsWrongEnumeration}
use Rattle.cat_verify_tables.specs.inside.ItemWords.{IsWrongScope}
use Rattle.cat_verify_tables.proofs.BadLemmas.{first, second, structure_name_bad, enumeration_name_bad}
use Rattle.cat_verify_tables.proofs.BadScopes.{scope_name_bad, scope_type_bad}
use Rattle.cat_verify_tables.proofs.FaultLemmas.{structure_bad, enumeration_bad}
use Rattle.cat_verify_tables.proofs.ItemFaults.{scope_bad}
use Rattle.cat_verify_tables.proofs.KnownLemmas.{Knows}
use Rattle.cat_verify_tables.proofs.NameLemmas.{names_append, names_back}
use Rattle.cat_verify_tables.proofs.NumberLemmas.{AreNumbered}

-- why a line is refused, where it is bad
pub has_cause : (tables : ImageTables) (Wrong : ℕ → Type 0) → ((n : ℕ) → Wrong n → IsBadTable tables n)
    → (why : TableRefusal) → Refuses Wrong why → HasCause tables why
has_cause tables Wrong led (refusal.BadTable n) at = led n at
has_cause tables Wrong led refusal.Memory at = at

pub header_bad : (tables : ImageTables) (line : ℕ) → HasWrongHeader tables (first tables) line → IsBadTable tables line
header_bad tables line (wrong.structure faulty) = structure_name_bad tables line faulty
header_bad tables line (wrong.enumeration faulty) = enumeration_name_bad tables line faulty
header_bad tables line (wrong.other faulty) = scope_type_bad tables line faulty
header_bad tables line (wrong.scope faulty) = scope_name_bad tables line faulty

-- names that are no other than spelled as they have to be
abbrev AreSpelled : List Text → Type 0
AreSpelled names = AllHave (λ name. (IsTypeName name → ⊥) → ⊥) names

right_spelled : {A : Type 0} (name_of : A → Text) (names : List Text) (front xs : List A)
    → AreRight (IsWrongHeader name_of names) front xs → AreSpelled (map name_of xs)
right_spelled name_of names front [] right = tt
right_spelled name_of names front (x ∷ xs) right =
    (λ other. right.0 (inr other), right_spelled name_of names (front ++ x ∷ []) xs right.1)

both_spelled : (one other : List Text) → AreSpelled one → AreSpelled other → AreSpelled (one ++ other)
both_spelled [] other first second = second
both_spelled (n ∷ one) other first second = (first.0, both_spelled one other first.1 second)

module _ (tables : ImageTables) (headers : Headers) (are : AreHeadersOf tables (first tables) headers) where
  abbrev S : List Text
  S = structures_named tables

  abbrev E : List Text
  E = enumerations_named tables

  many : length S ≡ length tables.structures
  many = length-map tables.structures structure_name

  pub numbers_are : AreNumbered headers.known.types S E
  numbers_are = record {
    numbers = are.numbers ∙ ap (λ (n : ℕ). numbered 0 S ++ numbered n E) (sym many);
    count = are.count ∙ sym many;
  }

  names_are : names_in headers.known.types.numbers ≡ type_names tables
  names_are =
      ap names_in are.numbers ∙ names_append (numbered 0 S) (numbered (length tables.structures) E)
      ∙ ap (λ (ns : List Text). ns ++ names_in (numbered (length tables.structures) E)) (names_back 0 S)
      ∙ ap (λ (ns : List Text). S ++ ns) (names_back (length tables.structures) E)

  all_spelled : AreSpelled (type_names tables)
  all_spelled = both_spelled S E (right_spelled structure_name [] [] tables.structures are.structures)
      (right_spelled enumeration_name S [] tables.enumerations are.enumerations)

  pub knows : Knows tables headers.known.types
  knows = record { names = names_are; spelled = all_spelled }

  pub are_plain : ArePlain headers.known.types
  are_plain = subst AreSpelled (sym names_are) all_spelled

  scopes_are : names_in headers.known.scopes ≡ map scope_name tables.scopes
  scopes_are = ap names_in are.scope_numbers ∙ names_back 0 (map scope_name tables.scopes)

  pub scopes_spelled : AllHave (λ name. (IsTypeName name → ⊥) → ⊥) (names_in headers.known.scopes)
  scopes_spelled = subst AreSpelled (sym scopes_are) (right_spelled scope_name [] [] tables.scopes are.scopes)

  pub part_bad : (line : ℕ) → HasWrongPart tables headers (first tables) line → IsBadTable tables line
  part_bad line (wrong.structure faulty) = structure_bad tables headers.known.types knows line faulty
  part_bad line (wrong.enumeration faulty) = enumeration_bad tables headers.known.types knows line
      (subst (λ (k : ℕ). IsFaultyIn case_count (λ _. IsWrongEnumeration headers.known.types) k tables.enumerations line)
      are.enumerations_at faulty)
  part_bad line (wrong.scope faulty) = scope_bad tables headers.known knows are.files scopes_are line
      (subst (λ (k : ℕ). IsFaultyIn item_count (λ _. IsWrongScope headers.known) k tables.scopes line) are.scopes_at
      faulty)

-- the parts of declarations that are made of parts
pub same_parts : (ds : Decls) (parts : Declaring) → ds.structures ≡ parts.structures
    → ds.enumerations ≡ parts.enumerations → ds.scopes ≡ parts.scopes → parts_of ds ≡ parts
same_parts ds parts structures enumerations scopes =
    ap (λ (xs : List Structure). record (parts_of ds) { structures = xs }) structures
    ∙ ap (λ (xs : List Enumeration). record (parts_of ds) { structures = parts.structures; enumerations = xs })
    enumerations
    ∙ ap (λ (xs : List Scope). record parts { scopes = xs }) scopes
