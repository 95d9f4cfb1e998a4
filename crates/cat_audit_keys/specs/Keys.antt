-- The key of a term: numbers that spell its dimension and its expression without positions. Each form begins with its
-- number, then come how many numbers it has, these, and how many parts, so that no key is the front of another.
use Rattle.std.specs.Prelude.{ℕ, suc, ◌-◌, nat_lt, ℤ, pos, negsuc, unsigned_abs, Bool, true, false, List, [], ◌∷◌}
use Rattle.std.specs.Prelude.{◌++◌, length, Option, Some, None, if◌then◌else◌}
use Rattle.cat_region.specs.declared.dim.Dim.{Dim}
use Rattle.cat_region.specs.declared.dim.Dim.TheVariants as dim
use Rattle.cat_scope.specs.declared.expr.Literal.{Literal}
use Rattle.cat_scope.specs.declared.expr.Literal.TheVariants as literal
use Rattle.cat_scope.specs.declared.expr.ArmPattern.{ArmPattern}
use Rattle.cat_scope.specs.declared.expr.ArmPattern.TheVariants as pattern
use Rattle.cat_scope.specs.declared.expr.Expr.{Expr}
use Rattle.cat_scope.specs.declared.expr.Expr.TheOpen.{Expr-F, Arm-F, FieldValue-F}
use Rattle.cat_scope.specs.declared.expr.Expr.TheFolds.{fold-Expr}
use Rattle.cat_scope.specs.OperatorNumbers.{unary_number, binary_number, sum_number}
use Rattle.cat_scope.specs.Same.{Standing}
use Rattle.cat_guard.specs.Questions.{Question}

-- an arm and a field of which the part is given by its key
abbrev pub Branch : Type 0 → Type 0
Branch E = ArmPattern × E

-- the number of a field, and its value
abbrev pub Slot : Type 0 → Type 0
Slot E = ℕ × E

-- the number of a form
abbrev pub form_number : {E A F : Type 0} → Expr-F E A F → ℕ
form_number (Expr-F.Literal p l) = 0
form_number (Expr-F.Item p i) = 1
form_number (Expr-F.Output p i k) = 2
form_number (Expr-F.Local p k) = 3
form_number (Expr-F.Field p e k) = 4
form_number (Expr-F.Unary p o e) = 5
form_number (Expr-F.Binary p o q a b) = 6
form_number (Expr-F.And p a b) = 7
form_number (Expr-F.Or p a b) = 8
form_number (Expr-F.If p c a b) = 9
form_number (Expr-F.Match p e arms) = 10
form_number (Expr-F.IsCase p e n k) = 11
form_number (Expr-F.Case p n k content) = 12
form_number (Expr-F.Structure p n fields) = 13
form_number (Expr-F.List p es) = 14
form_number (Expr-F.ForAll p l e) = 15
form_number (Expr-F.Exists p l e) = 16
form_number (Expr-F.Map p l e) = 17
form_number (Expr-F.Filter p l e) = 18
form_number (Expr-F.Combine p l s e) = 19
form_number (Expr-F.Contains p q l e) = 20
form_number (Expr-F.Length p l) = 21
form_number (Expr-F.Sum p kind l) = 22
form_number (Expr-F.Call p f es) = 23
form_number (Expr-F.ScopeCall p s fields k) = 24

-- a truth value
abbrev pub truth_number : Bool → ℕ
truth_number true = 1
truth_number false = 0

-- whether an integer is negative
abbrev pub sign_number : ℤ → ℕ
sign_number (pos n) = 0
sign_number (negsuc n) = 1

-- a literal: its kind and its value, of an integer the sign and the size
abbrev pub literal_numbers : Literal → List ℕ
literal_numbers (literal.Boolean b) = 0 ∷ truth_number b ∷ []
literal_numbers (literal.Integer n) = 1 ∷ sign_number n ∷ unsigned_abs n ∷ []
literal_numbers (literal.Decimal d) = 2 ∷ d.digits ∷ d.places ∷ []
literal_numbers (literal.Money cents) = 3 ∷ sign_number cents ∷ unsigned_abs cents ∷ []
literal_numbers (literal.Date day) = 4 ∷ sign_number day ∷ unsigned_abs day ∷ []
literal_numbers (literal.Duration span) =
    5 ∷ sign_number span.months ∷ unsigned_abs span.months ∷ sign_number span.days ∷ unsigned_abs span.days ∷ []

-- a local name: a parameter with its function, or how many binders stand in front of a name that is bound inside
abbrev pub local_numbers : Standing → ℕ → List ℕ
local_numbers g k = if nat_lt k g.params then 0 ∷ g.function ∷ k ∷ [] else 1 ∷ 0 ∷ (k - g.params) ∷ []

-- what arms are for
abbrev pub pattern_numbers : ArmPattern → List ℕ
pattern_numbers (pattern.Case k bound) = suc (truth_number bound) ∷ k ∷ []
pattern_numbers pattern.Anything = 0 ∷ 0 ∷ []

-- the numbers of the patterns of some arms
abbrev pub patterns_numbers : {E : Type 0} → List (Branch E) → List ℕ
patterns_numbers [] = []
patterns_numbers (a ∷ arms) = pattern_numbers a.0 ++ patterns_numbers arms

-- which fields there are, in written order
abbrev pub field_numbers : {E : Type 0} → List (Slot E) → List ℕ
field_numbers [] = []
field_numbers (f ∷ fields) = f.0 ∷ field_numbers fields

-- the numbers of a form, but for those of its parts
abbrev pub own_numbers : {E : Type 0} → Standing → Expr-F E (Branch E) (Slot E) → List ℕ
own_numbers g (Expr-F.Literal p l) = literal_numbers l
own_numbers g (Expr-F.Item p i) = i ∷ []
own_numbers g (Expr-F.Output p i k) = i ∷ k ∷ []
own_numbers g (Expr-F.Local p k) = local_numbers g k
own_numbers g (Expr-F.Field p e k) = k ∷ []
own_numbers g (Expr-F.Unary p o e) = unary_number o ∷ []
own_numbers g (Expr-F.Binary p o q a b) = binary_number o ∷ []
own_numbers g (Expr-F.Match p e arms) = patterns_numbers arms
own_numbers g (Expr-F.IsCase p e n k) = n ∷ k ∷ []
own_numbers g (Expr-F.Case p n k content) = n ∷ k ∷ []
own_numbers g (Expr-F.Structure p n fields) = n ∷ field_numbers fields
own_numbers g (Expr-F.Sum p kind l) = sum_number kind ∷ []
own_numbers g (Expr-F.Call p f es) = f ∷ []
own_numbers g (Expr-F.ScopeCall p s fields k) = s ∷ k ∷ field_numbers fields
own_numbers g _ = []

-- what a part is, of arms and of fields
abbrev pub bodies : {E : Type 0} → List (Branch E) → List E
bodies [] = []
bodies (a ∷ arms) = a.1 ∷ bodies arms

-- the values of some fields
abbrev pub values : {E : Type 0} → List (Slot E) → List E
values [] = []
values (f ∷ fields) = f.1 ∷ values fields

-- what a case holds, as a list
abbrev pub content : {E : Type 0} → Option E → List E
content None = []
content (Some e) = e ∷ []

-- the parts of a form, from the left
abbrev pub parts : {E : Type 0} → Expr-F E (Branch E) (Slot E) → List E
parts (Expr-F.Literal p l) = []
parts (Expr-F.Item p i) = []
parts (Expr-F.Output p i k) = []
parts (Expr-F.Local p k) = []
parts (Expr-F.Field p e k) = e ∷ []
parts (Expr-F.Unary p o e) = e ∷ []
parts (Expr-F.Binary p o q a b) = a ∷ b ∷ []
parts (Expr-F.And p a b) = a ∷ b ∷ []
parts (Expr-F.Or p a b) = a ∷ b ∷ []
parts (Expr-F.If p c a b) = c ∷ a ∷ b ∷ []
parts (Expr-F.Match p e arms) = e ∷ bodies arms
parts (Expr-F.IsCase p e n k) = e ∷ []
parts (Expr-F.Case p n k e) = content e
parts (Expr-F.Structure p n fields) = values fields
parts (Expr-F.List p es) = es
parts (Expr-F.ForAll p l e) = l ∷ e ∷ []
parts (Expr-F.Exists p l e) = l ∷ e ∷ []
parts (Expr-F.Map p l e) = l ∷ e ∷ []
parts (Expr-F.Filter p l e) = l ∷ e ∷ []
parts (Expr-F.Combine p l s e) = l ∷ s ∷ e ∷ []
parts (Expr-F.Contains p q l e) = l ∷ e ∷ []
parts (Expr-F.Length p l) = l ∷ []
parts (Expr-F.Sum p kind l) = l ∷ []
parts (Expr-F.Call p f es) = es
parts (Expr-F.ScopeCall p s fields k) = values fields

-- keys one behind the other
abbrev pub joined : List (List ℕ) → List ℕ
joined [] = []
joined (k ∷ ks) = k ++ joined ks

-- a number, how many numbers and these, and how many parts and these
abbrev pub spelled : ℕ → List ℕ → List (List ℕ) → List ℕ
spelled form own inner = form ∷ length own ∷ own ++ (length inner ∷ joined inner)

-- the key of a form by those of its parts
abbrev pub key_in : Standing → Expr-F (List ℕ) (Branch (List ℕ)) (Slot (List ℕ)) → List ℕ
key_in g y = spelled (form_number y) (own_numbers g y) (parts y)

-- an arm, with the key of what is in it
abbrev pub arm_key : Arm-F (List ℕ) (Branch (List ℕ)) (Slot (List ℕ)) → Branch (List ℕ)
arm_key a = (a.pattern, a.body)

-- a field, with the key of what is in it
abbrev pub field_key : FieldValue-F (List ℕ) (Branch (List ℕ)) (Slot (List ℕ)) → Slot (List ℕ)
field_key f = (f.field, f.value)

-- the key of an expression in the definitions of a function or of a variable
unfoldable pub key_of : Standing → Expr → List ℕ
key_of g = fold-Expr (List ℕ) (Branch (List ℕ)) (Slot (List ℕ)) (key_in g) arm_key field_key

-- a dimension
abbrev pub dim_numbers : Dim → List ℕ
dim_numbers dim.Whole = 0 ∷ 0 ∷ []
dim_numbers dim.Money = 1 ∷ 0 ∷ []
dim_numbers dim.Day = 2 ∷ 0 ∷ []
dim_numbers dim.Decimal = 3 ∷ 0 ∷ []
dim_numbers dim.Truth = 4 ∷ 0 ∷ []
dim_numbers (dim.Cases n) = 5 ∷ n ∷ []

-- the key of a question's term
abbrev pub term_key : Question → List ℕ
term_key q = dim_numbers q.dim ++ key_of q.standing q.expr
