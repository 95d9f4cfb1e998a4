-- Tables that are what the words of an image tell.
use Rattle.std.specs.Prelude.{◌≡◌, ◌≤◌, ℕ, true, false, IsTrue, List, [], ◌∷◌, map, length, Ok, is_some}
use Rattle.std.specs.List.{list_all}
use Rattle.cat_order.specs.Order.{IsOrder}
use Rattle.cat_scope.specs.Names.{AllHave, is_called}
use Rattle.cat_value.specs.declared.ty.Ty.TheVariants as flat
use Rattle.cat_value.specs.declared.declaration.ItemDecl.{ItemDecl}
use Rattle.cat_value.specs.declared.declaration.Scope.{Scope}
use Rattle.cat_value.specs.declared.decls.Decls.{Decls}
use Rattle.cat_value.specs.Declarations.{is_sound}
use Rattle.cat_value.specs.Dependencies.{type_dependencies}
use Rattle.cat_json.specs.InputsRead.{value_read}
use Rattle.cat_code.specs.declared.code.Constant.{Constant}
use Rattle.cat_code.specs.declared.code.Tables.{Tables}
use Rattle.cat_code.specs.Places as places
use Rattle.cat_code.specs.Places.{target_form}
use Rattle.cat_code.specs.Valid.{constant_is_sound}
use Rattle.cat_listing.specs.Texts.{type_text}
use Rattle.cat_image.specs.declared.tables.ImageConstant.{ImageConstant}
use Rattle.cat_image.specs.declared.tables.ImageTables.{ImageTables}
use Rattle.cat_verify_tables.specs.declared.places.FunctionPlace.{FunctionPlace}
use Rattle.cat_verify_tables.specs.declared.tables.Told.{Told}
use Rattle.cat_verify_tables.specs.WrongTables.{IsBadTable}
use Rattle.cat_image.specs.Listed.{pos_words, structure_words, enumeration_words, scopes_words, target_words}

-- a constant of the type that its words name, which is what its JSON is read as
pub record IsConstantOf (ds : Decls) (words : ImageConstant) (c : Constant) : Type 0 where
  pub ty : words.ty ≡ type_text ds c.ty
  pub value : value_read ds c.ty words.value ≡ Ok c.value
  pub low : IsTrue (is_sound ds.structures ds.enumerations c.ty)

-- one for each
abbrev pub AreConstantsOf : Decls → List ImageConstant → List Constant → Type 0
AreConstantsOf ds [] [] = Unit {0}
AreConstantsOf ds [] (c ∷ cs) = ⊥
AreConstantsOf ds (w ∷ ws) [] = ⊥
AreConstantsOf ds (w ∷ ws) (c ∷ cs) = IsConstantOf ds w c × AreConstantsOf ds ws cs

-- a called scope, of which words tell no type: it has the one of truth values, no parameters, and is no condition
pub record IsBareCall (item : ItemDecl) : Type 0 where
  pub ty : item.ty ≡ flat.Boolean
  pub condition : item.condition ≡ false
  pub params : item.params ≡ []

-- an item of which words tell all: a condition is a truth value
pub record IsToldWhole (item : ItemDecl) : Type 0 where
  pub condition : item.condition ≡ true → item.ty ≡ flat.Boolean
  pub called : is_called item.kind ≡ true → IsBareCall item

-- tables whose words are those of an image
pub record AreTablesOf (image : ImageTables) (tables : Tables) : Type 0 where
  pub structures : image.structures ≡ map (structure_words tables.decls) tables.decls.structures
  pub enumerations : image.enumerations ≡ map (enumeration_words tables.decls) tables.decls.enumerations
  pub scopes : image.scopes ≡ scopes_words tables.decls tables.decls.scopes tables.scopes
  pub one_entry_each : length tables.scopes ≡ length tables.decls.scopes
  pub items : AllHave (λ (s : Scope). AllHave IsToldWhole s.items) tables.decls.scopes
  pub cases : tables.cases ≡ places.case_places 0 tables.decls.enumerations
  pub targets : image.targets ≡ map (target_words tables.decls) tables.targets
  pub definitions : image.definitions ≡ map pos_words tables.definitions
  pub functions : image.functions ≡ tables.functions
  pub positions : image.positions ≡ map pos_words tables.positions
  pub constants : AreConstantsOf tables.decls image.constants tables.constants

-- a function by the numbers of its scope and its item
abbrev pub numbered : places.FunctionPlace → FunctionPlace
numbered place = record { scope = place.scope; item = place.item }

-- what is told of an image: no line of it is wrong, and its words are those of the tables, whose functions are these,
-- of which each has a line that says where it begins, and whose structures and enumerations have this order
pub record IsTold (image : ImageTables) (told : Told) : Type 0 where
  pub right : (n : ℕ) → IsBadTable image n → ⊥
  pub tables : AreTablesOf image told.tables
  pub targets : IsTrue (list_all (λ entry. is_some (target_form told.tables.decls entry.target)) told.tables.targets)
  pub constants : IsTrue (list_all (constant_is_sound told.tables.decls) told.tables.constants)
  pub files : told.files ≡ image.files
  pub order : IsOrder (type_dependencies told.tables.decls.structures told.tables.decls.enumerations) told.order
  pub functions : told.functions ≡ map numbered (places.function_places told.tables.decls)
  pub enough : length (places.function_places told.tables.decls) ≤ length told.tables.functions
