-- What was read of a listing, and where a part more of it is due.
use Rattle.std.specs.Prelude.{◌≡◌, ℕ, nat_le, ◌==◌, Bool, true, false, List, [], ◌∷◌, Option, Some, None}
use Rattle.std.specs.Prelude.{if◌then◌else◌}
use Rattle.cat_image.specs.declared.tables.ImageTables.{ImageTables}
use Rattle.cat_image.specs.declared.reading.Reading.{Reading}

-- nothing is read yet
abbrev pub nothing_read : Reading
nothing_read = record {
  tables = record {
    files = [];
    structures = [];
    enumerations = [];
    scopes = [];
    targets = [];
    definitions = [];
    functions = [];
    positions = [];
    constants = [];
  };
  instructions = [];
  section = 0;
}

-- these tables, where a line of that kind is due
abbrev pub due : Reading → ℕ → ImageTables → Option Reading
due r section tables =
    if nat_le r.section section
    then Some (record { tables = tables; instructions = r.instructions; section = section }) else None

-- the same list with another last element
abbrev pub before_last : {A : Type 0} → (A → A) → A → Option (List A) → List A
before_last f x None = f x ∷ []
before_last f x (Some xs) = x ∷ xs

-- a list with its last element changed, where it has one
abbrev pub with_last : {A : Type 0} → (A → A) → List A → Option (List A)
with_last f [] = None
with_last f (x ∷ xs) = Some (before_last f x (with_last f xs))

-- a part more of what stands last
abbrev pub inside : Reading → ℕ → Option ImageTables → Option Reading
inside r section None = None
inside r section (Some tables) =
    if r.section == section
    then Some (record { tables = tables; instructions = r.instructions; section = section }) else None

-- where a step leads
abbrev pub Takes : Option Reading → Bool → Reading → Type 0
Takes None taken new = taken ≡ false
Takes (Some next) taken new = (taken ≡ true) × (new ≡ next)
