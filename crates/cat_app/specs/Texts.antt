-- The source of a drill, and the inputs of its runs.
use Rattle.std.specs.Prelude.{◌≡◌, ℕ, zero, suc, ◌+◌, ◌*◌, nat_eq, List, [], ◌∷◌, ◌++◌, if◌then◌else◌, codes, refl}
use Rattle.std.specs.Fmt.{decimal, digits}

-- a line, with its line feed
abbrev pub line_of : List ℕ → List ℕ
line_of text = text ++ 10 ∷ []

-- an income from so many thousands of units on
abbrev pub from_on : ℕ → List ℕ
from_on thousands = codes "income >= $" ++ decimal (1000 * thousands)

-- an income of fewer
abbrev pub below : ℕ → List ℕ
below thousands = codes "income < $" ++ decimal (1000 * thousands)

-- the condition of a band of several, from 0: its income is a thousand units wide, but the first band has no lower
-- bound, and the last no upper one
abbrev pub condition_of : ℕ → ℕ → List ℕ
condition_of bands band =
    if nat_eq band 0 then below 1 else
    (if nat_eq (band + 1) bands then from_on band else from_on band ++ (codes " and " ++ below (band + 1)))

-- the line of a band's definition: its rate is its number. One band alone stands under no condition
abbrev pub definition_of : ℕ → ℕ → List ℕ
definition_of bands band =
    if nat_eq bands 1 then codes "  definition rate equals " ++ line_of (decimal band)
    else codes "  definition rate under condition "
    ++ (condition_of bands band ++ (codes " consequence equals " ++ line_of (decimal band)))

-- the lines of the first bands
abbrev pub definitions_to : ℕ → ℕ → List ℕ
definitions_to bands zero = []
definitions_to bands (suc n) = definitions_to bands n ++ definition_of bands n

-- the source of so many bands: a block of code that declares the scope `Bands` and defines its rate
unfoldable pub drill_text : ℕ → List ℕ
drill_text bands =
    line_of (codes "```catala")
    ++ (line_of (codes "declaration scope Bands:")
    ++ (line_of (codes "  input income content money")
    ++ (line_of (codes "  output rate content integer")
    ++ (line_of (codes "scope Bands:")
    ++ (definitions_to bands bands ++ line_of (codes "```"))))))

-- the input with an income of so many units
abbrev pub income_text : ℕ → List ℕ
income_text units = codes "{\"income\":" ++ (decimal units ++ codes "}")

-- ---- worked examples

one_band : drill_text 1 ≡
    codes "```catala\ndeclaration scope Bands:\n  input income content money\n  output rate content integer\n"
    ++ codes "scope Bands:\n  definition rate equals 0\n```\n"
unfolding drill_text digits
one_band = refl

two_bands : definitions_to 2 2 ≡
    codes "  definition rate under condition income < $1000 consequence equals 0\n"
    ++ codes "  definition rate under condition income >= $1000 consequence equals 1\n"
unfolding digits
two_bands = refl

three_bands : definitions_to 3 3 ≡
    codes "  definition rate under condition income < $1000 consequence equals 0\n"
    ++ (codes "  definition rate under condition income >= $1000 and income < $2000 consequence equals 1\n"
    ++ codes "  definition rate under condition income >= $2000 consequence equals 2\n")
unfolding digits
three_bands = refl

an_income : income_text 3996 ≡ codes "{\"income\":3996}"
unfolding digits
an_income = refl
