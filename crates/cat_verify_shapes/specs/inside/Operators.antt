-- The operators of the table, and the operations for which they stand.
use Rattle.std.specs.Prelude.{◌≡◌, ◌⊎◌, ℕ, ◌+◌, nat_eq, not, Bool, true, false, List, [], ◌∷◌, map, Option, Some, None}
use Rattle.std.specs.Prelude.{slice_get}
use Rattle.std.specs.Prelude.{Result}
use Rattle.cat_value.specs.declared.ty.Ty.{Ty}
use Rattle.cat_value.specs.declared.ty.Ty.TheVariants as ty
use Rattle.cat_scope.specs.declared.operators.UnaryOp.{UnaryOp}
use Rattle.cat_scope.specs.declared.operators.BinaryOp.{BinaryOp}
use Rattle.cat_scope.specs.Signatures.{Signature, comparison, ordered_types, compared_types, signatures_of, taken_by}
use Rattle.cat_scope.specs.Signatures.{given_by}
use Rattle.cat_code.specs.declared.code.Tables.{Tables}
use Rattle.cat_code.specs.Operations as operations
use Rattle.cat_code.specs.Operations.{Operation}
use Rattle.cat_code.specs.Forms.{form_of}
use Rattle.cat_code.specs.Leads.{operated}
use Rattle.cat_verify_shapes.specs.declared.forms.Form.{Form}
use Rattle.cat_verify_shapes.specs.declared.forms.Form.TheVariants as form
use Rattle.cat_verify_shapes.specs.declared.forms.Forms.{Forms}
use Rattle.cat_verify_shapes.specs.declared.operators.Operator.{Operator}
use Rattle.cat_verify_shapes.specs.declared.operators.Operator.TheVariants as operator
use Rattle.cat_verify_shapes.specs.declared.shape.Shape.{Shape}
use Rattle.cat_verify_shapes.specs.declared.leads.Leads.{Leads}
use Rattle.cat_verify_shapes.specs.declared.leads.Leads.TheVariants as leads
use Rattle.cat_verify_shapes.specs.declared.leads.Stuck.{Stuck}
use Rattle.cat_verify_shapes.specs.inside.Taking.{Takes}
use Rattle.cat_verify_shapes.specs.inside.Told.{Tells}

-- the declared type that an entry without parts is
abbrev pub type_of : Form → Option Ty
type_of form.Truth = Some ty.Boolean
type_of form.Whole = Some ty.Integer
type_of form.Fraction = Some ty.Decimal
type_of form.Amount = Some ty.Money
type_of form.Day = Some ty.Date
type_of form.Span = Some ty.Duration
type_of _ = None

-- an operator of the table is that of an operation
abbrev pub IsOf : Operator → Operation → Type 0
IsOf (operator.Before a b) o = (u : UnaryOp) × (o ≡ operations.Before u) × (type_of a ≡ Some (taken_by u))
    × (type_of b ≡ Some (given_by u))
IsOf (operator.Between a b c) o = (u : BinaryOp) × (s : Signature) × (o ≡ operations.Between u)
    × (signatures_of u ≡ s ∷ []) × (type_of a ≡ Some s.left) × (type_of b ≡ Some s.right) × (type_of c ≡ Some s.result)
IsOf (operator.Compares true) o = (u : BinaryOp) × (o ≡ operations.Between u)
    × (signatures_of u ≡ map comparison ordered_types)
IsOf (operator.Compares false) o = (u : BinaryOp) × (o ≡ operations.Between u)
    × (signatures_of u ≡ map comparison compared_types)

-- the operator of an operation is there, or there is no operation
abbrev pub IsNamed : Option Operation → Option Operator → Type 0
IsNamed None named = named ≡ None
IsNamed (Some o) named = (op : Operator) × (named ≡ Some op) × IsOf op o

-- an operand of a type was on top, and is gone, or it wasn't there
abbrev pub TakesForm : Forms → Shape → Shape → Form → Bool → Type 0
TakesForm forms before after f so = (n : ℕ) × (slice_get forms.kinds.keys n ≡ Some f) × Takes before after n so

-- two operands of types, the right one on top
abbrev pub TakesBoth : Forms → Shape → Shape → Form → Form → Bool → Type 0
TakesBoth forms before after left right true =
    (between : Shape) × TakesForm forms before between right true × TakesForm forms between after left true
TakesBoth forms before after left right false = (between : Shape) × (TakesForm forms before between right false
    ⊎ (TakesForm forms before between right true × TakesForm forms between after left false))

-- whether values of a type have an order, or else an equality
abbrev pub is_compared : Form → Bool → Bool
is_compared form.Whole ordered = true
is_compared form.Fraction ordered = true
is_compared form.Amount ordered = true
is_compared form.Day ordered = true
is_compared form.Span ordered = true
is_compared form.Truth ordered = not ordered
is_compared _ ordered = false

-- two operands of one type were on top
pub record AreOnTop (forms : Forms) (before : Shape) (n : ℕ) (f : Form) (below : List ℕ) : Type 0 where
  pub operands : before.operands ≡ n ∷ n ∷ below
  pub entry : slice_get forms.kinds.keys n ≡ Some f

-- there are fewer than two operands, or two of different types
abbrev pub AreUnlike : Shape → Type 0
AreUnlike before = (before.operands ≡ []) ⊎ (((n : ℕ) × (before.operands ≡ n ∷ []))
    ⊎ ((n : ℕ) × (m : ℕ) × (ns : List ℕ) × (before.operands ≡ n ∷ m ∷ ns) × (nat_eq m n ≡ false)))

-- two operands of one type that is compared were on top, and are gone; or they weren't there
abbrev pub Compares : Forms → Shape → Shape → Bool → Bool → Type 0
Compares forms before after ordered true = (n : ℕ) × (f : Form)
    × (before ≡ record after { operands = n ∷ n ∷ after.operands }) × (slice_get forms.kinds.keys n ≡ Some f)
    × (is_compared f ordered ≡ true)
Compares forms before after ordered false = AreUnlike before
    ⊎ ((n : ℕ) × (f : Form) × (ns : List ℕ) × AreOnTop forms before n f ns × (is_compared f ordered ≡ false))

-- a type is pushed
abbrev pub GivesForm : Forms → ℕ → Shape → Form → Leads → Type 0
GivesForm forms p s f to = (n : ℕ) × (slice_get forms.kinds.keys n ≡ Some f)
    × (to ≡ leads.One (p + 1) (record s { operands = n ∷ s.operands }))

-- what an operator leads to is what its operation does
abbrev pub Operates : Tables → Forms → ℕ → Shape → Operator → Result Leads Stuck → Type 0
Operates tables forms p s op result = (o : Operation) → IsOf op o
    → Tells tables forms result (operated (form_of tables.decls) o p) s
