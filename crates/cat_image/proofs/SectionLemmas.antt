-- An image is read section by section.
use Rattle.std.proofs.Common.{◌≡◌, ℕ, ◌≤◌, List, [], map}
use Rattle.std.proofs.Common.{drop}
use Rattle.std.proofs.Common.{Some, refl, arith}
use Rattle.std.specs.List.{flat_map}
use Rattle.cat_code.specs.declared.instr.Instr.{Instr}
use Rattle.cat_image.specs.declared.tables.ImagePos.{ImagePos}
use Rattle.cat_image.specs.declared.tables.ImageStructure.{ImageStructure}
use Rattle.cat_image.specs.declared.tables.ImageEnumeration.{ImageEnumeration}
use Rattle.cat_image.specs.declared.tables.ImageScope.{ImageScope}
use Rattle.cat_image.specs.declared.tables.ImageTarget.{ImageTarget}
use Rattle.cat_image.specs.declared.tables.ImageConstant.{ImageConstant}
use Rattle.cat_image.specs.declared.tables.ImageTables.{ImageTables}
use Rattle.cat_image.specs.declared.row.Row.TheVariants as row
use Rattle.cat_image.specs.Rows.{structure_rows, enumeration_rows, scope_rows, instruction_rows, joined, sections}
use Rattle.cat_image.specs.Rows.{rows_of}
use Rattle.cat_image.specs.inside.Reading.{nothing_read}
use Rattle.cat_image.proofs.RunLemmas.{puts}
use Rattle.cat_image.proofs.AcceptLemmas.{Comes, at, comes_append, comes_none, enumeration_comes, flat_comes}
use Rattle.cat_image.proofs.AcceptLemmas.{instructions_come, scope_comes, simple_comes, structure_comes}

-- ---- section by section

abbrev lists_0 : ImageTables → ImageTables
lists_0 tables = record {
  files = [];
  structures = [];
  enumerations = [];
  scopes = [];
  targets = [];
  definitions = [];
  functions = [];
  positions = [];
  constants = [];
}

abbrev lists_1 : ImageTables → ImageTables
lists_1 tables = record {
  files = tables.files;
  structures = [];
  enumerations = [];
  scopes = [];
  targets = [];
  definitions = [];
  functions = [];
  positions = [];
  constants = [];
}

abbrev lists_2 : ImageTables → ImageTables
lists_2 tables = record {
  files = tables.files;
  structures = tables.structures;
  enumerations = [];
  scopes = [];
  targets = [];
  definitions = [];
  functions = [];
  positions = [];
  constants = [];
}

abbrev lists_3 : ImageTables → ImageTables
lists_3 tables = record {
  files = tables.files;
  structures = tables.structures;
  enumerations = tables.enumerations;
  scopes = [];
  targets = [];
  definitions = [];
  functions = [];
  positions = [];
  constants = [];
}

abbrev lists_4 : ImageTables → ImageTables
lists_4 tables = record {
  files = tables.files;
  structures = tables.structures;
  enumerations = tables.enumerations;
  scopes = tables.scopes;
  targets = [];
  definitions = [];
  functions = [];
  positions = [];
  constants = [];
}

abbrev lists_5 : ImageTables → ImageTables
lists_5 tables = record {
  files = tables.files;
  structures = tables.structures;
  enumerations = tables.enumerations;
  scopes = tables.scopes;
  targets = tables.targets;
  definitions = [];
  functions = [];
  positions = [];
  constants = [];
}

abbrev lists_6 : ImageTables → ImageTables
lists_6 tables = record {
  files = tables.files;
  structures = tables.structures;
  enumerations = tables.enumerations;
  scopes = tables.scopes;
  targets = tables.targets;
  definitions = tables.definitions;
  functions = [];
  positions = [];
  constants = [];
}

abbrev lists_7 : ImageTables → ImageTables
lists_7 tables = record {
  files = tables.files;
  structures = tables.structures;
  enumerations = tables.enumerations;
  scopes = tables.scopes;
  targets = tables.targets;
  definitions = tables.definitions;
  functions = tables.functions;
  positions = [];
  constants = [];
}

abbrev lists_8 : ImageTables → ImageTables
lists_8 tables = record {
  files = tables.files;
  structures = tables.structures;
  enumerations = tables.enumerations;
  scopes = tables.scopes;
  targets = tables.targets;
  definitions = tables.definitions;
  functions = tables.functions;
  positions = tables.positions;
  constants = [];
}

abbrev lists_9 : ImageTables → ImageTables
lists_9 tables = record {
  files = tables.files;
  structures = tables.structures;
  enumerations = tables.enumerations;
  scopes = tables.scopes;
  targets = tables.targets;
  definitions = tables.definitions;
  functions = tables.functions;
  positions = tables.positions;
  constants = tables.constants;
}

from_9 : (tables : ImageTables) (is : List Instr) (t : ℕ) → t ≤ 9
    → Comes (lists_9 tables) [] t (joined (drop 9 (sections tables is))) tables is 9
from_9 tables is t within =
    comes_append (lists_9 tables) [] t (instruction_rows 0 is) [] tables tables is is 9 9
    (instructions_come tables is [] t 0 within refl)
    (λ u low. comes_none tables is u 9 low)

from_8 : (tables : ImageTables) (is : List Instr) (t : ℕ) → t ≤ 8
    → Comes (lists_8 tables) [] t (joined (drop 8 (sections tables is))) tables is 9
from_8 tables is t within =
    comes_append (lists_8 tables) [] t (map row.Constant tables.constants) (joined (drop 9 (sections tables is)))
    (lists_9 tables) tables [] is 8 9
    (simple_comes row.Constant 8 [] (λ (xs : List ImageConstant). record (lists_8 tables) { constants = xs })
    (λ xs u a. refl) tables.constants [] t within)
    (λ u low. from_9 tables is u (omega (arith, low)))

from_7 : (tables : ImageTables) (is : List Instr) (t : ℕ) → t ≤ 7
    → Comes (lists_7 tables) [] t (joined (drop 7 (sections tables is))) tables is 9
from_7 tables is t within =
    comes_append (lists_7 tables) [] t (map row.Position tables.positions) (joined (drop 8 (sections tables is)))
    (lists_8 tables) tables [] is 7 9
    (simple_comes row.Position 7 [] (λ (xs : List ImagePos). record (lists_7 tables) { positions = xs })
    (λ xs u a. refl) tables.positions [] t within)
    (λ u low. from_8 tables is u (omega (arith, low)))

from_6 : (tables : ImageTables) (is : List Instr) (t : ℕ) → t ≤ 6
    → Comes (lists_6 tables) [] t (joined (drop 6 (sections tables is))) tables is 9
from_6 tables is t within =
    comes_append (lists_6 tables) [] t (map row.Function tables.functions) (joined (drop 7 (sections tables is)))
    (lists_7 tables) tables [] is 6 9
    (simple_comes row.Function 6 [] (λ (xs : List ℕ). record (lists_6 tables) { functions = xs })
    (λ xs u a. refl) tables.functions [] t within)
    (λ u low. from_7 tables is u (omega (arith, low)))

from_5 : (tables : ImageTables) (is : List Instr) (t : ℕ) → t ≤ 5
    → Comes (lists_5 tables) [] t (joined (drop 5 (sections tables is))) tables is 9
from_5 tables is t within =
    comes_append (lists_5 tables) [] t (map row.Definition tables.definitions)
    (joined (drop 6 (sections tables is))) (lists_6 tables) tables [] is 5 9
    (simple_comes row.Definition 5 [] (λ (xs : List ImagePos). record (lists_5 tables) { definitions = xs })
    (λ xs u a. refl) tables.definitions [] t within)
    (λ u low. from_6 tables is u (omega (arith, low)))

from_4 : (tables : ImageTables) (is : List Instr) (t : ℕ) → t ≤ 4
    → Comes (lists_4 tables) [] t (joined (drop 4 (sections tables is))) tables is 9
from_4 tables is t within =
    comes_append (lists_4 tables) [] t (map row.Target tables.targets) (joined (drop 5 (sections tables is)))
    (lists_5 tables) tables [] is 4 9
    (simple_comes row.Target 4 [] (λ (xs : List ImageTarget). record (lists_4 tables) { targets = xs })
    (λ xs u a. refl) tables.targets [] t within)
    (λ u low. from_5 tables is u (omega (arith, low)))

from_3 : (tables : ImageTables) (is : List Instr) (t : ℕ) → t ≤ 3
    → Comes (lists_3 tables) [] t (joined (drop 3 (sections tables is))) tables is 9
from_3 tables is t within =
    comes_append (lists_3 tables) [] t (flat_map scope_rows tables.scopes) (joined (drop 4 (sections tables is)))
    (lists_4 tables) tables [] is 3 9
    (flat_comes scope_rows 3 [] (λ (xs : List ImageScope). record (lists_3 tables) { scopes = xs })
    (λ xs u a low. scope_comes (lists_3 tables) [] xs u a low) tables.scopes [] t within)
    (λ u low. from_4 tables is u (omega (arith, low)))

from_2 : (tables : ImageTables) (is : List Instr) (t : ℕ) → t ≤ 2
    → Comes (lists_2 tables) [] t (joined (drop 2 (sections tables is))) tables is 9
from_2 tables is t within =
    comes_append (lists_2 tables) [] t (flat_map enumeration_rows tables.enumerations)
    (joined (drop 3 (sections tables is))) (lists_3 tables) tables [] is 2 9
    (flat_comes enumeration_rows 2 [] (λ (xs : List ImageEnumeration). record (lists_2 tables) { enumerations = xs })
    (λ xs u a low. enumeration_comes (lists_2 tables) [] xs u a low) tables.enumerations [] t within)
    (λ u low. from_3 tables is u (omega (arith, low)))

from_1 : (tables : ImageTables) (is : List Instr) (t : ℕ) → t ≤ 1
    → Comes (lists_1 tables) [] t (joined (drop 1 (sections tables is))) tables is 9
from_1 tables is t within =
    comes_append (lists_1 tables) [] t (flat_map structure_rows tables.structures)
    (joined (drop 2 (sections tables is))) (lists_2 tables) tables [] is 1 9
    (flat_comes structure_rows 1 [] (λ (xs : List ImageStructure). record (lists_1 tables) { structures = xs })
    (λ xs u a low. structure_comes (lists_1 tables) [] xs u a low) tables.structures [] t within)
    (λ u low. from_2 tables is u (omega (arith, low)))

from_0 : (tables : ImageTables) (is : List Instr) (t : ℕ) → t ≤ 0
    → Comes (lists_0 tables) [] t (joined (drop 0 (sections tables is))) tables is 9
from_0 tables is t within =
    comes_append (lists_0 tables) [] t (map row.File tables.files) (joined (drop 1 (sections tables is)))
    (lists_1 tables) tables [] is 0 9
    (simple_comes row.File 0 [] (λ (xs : List (List ℕ)). record (lists_0 tables) { files = xs })
    (λ xs u a. refl) tables.files [] t within)
    (λ u low. from_1 tables is u (omega (arith, low)))

-- the rows of an image are due from the beginning
pub rows_come : (tables : ImageTables) (is : List Instr) → Comes (lists_0 tables) [] 0 (rows_of tables is) tables is 9
rows_come tables is = from_0 tables is 0 (omega arith)

-- and lead to it
pub rows_lead : (tables : ImageTables) (is : List Instr)
    → puts (rows_of tables is) nothing_read ≡ Some (at tables is (rows_come tables is).section)
rows_lead tables is = (rows_come tables is).leads
