-- The code of forms, of the code of their parts.
use Rattle.std.specs.Prelude.{ℕ, zero, suc, ◌+◌, ◌-◌, nat_eq, ◌&&◌, Bool, true, false, not, List, [], ◌∷◌}
use Rattle.std.specs.Prelude.{length, if◌then◌else◌}
use Rattle.cat_pos.specs.declared.pos.Pos.{Pos}
use Rattle.cat_value.specs.declared.value.Value.{Value}
use Rattle.cat_value.specs.declared.value.Value.TheVariants as flat
use Rattle.cat_value.specs.declared.value.Value.TheViews as value
use Rattle.cat_value.specs.declared.ty.Ty.{Ty}
use Rattle.cat_value.specs.declared.ty.Ty.TheVariants as ty
use Rattle.cat_value.specs.declared.declaration.Enumeration.{Enumeration}
use Rattle.cat_value.specs.declared.declaration.ItemDecl.{ItemDecl}
use Rattle.cat_value.specs.Inputs.{must_be_given}
use Rattle.cat_scope.specs.Names.{is_in}
use Rattle.cat_code.specs.declared.instr.Instr.TheVariants as instr
use Rattle.cat_lower.specs.Laying.{Coded, nothing, one, with_constant, with_position, then_code, led, skip, end_of}
use Rattle.cat_lower.specs.Laying.{over}

-- a constant of its own
abbrev pub constant : Ty → Value → Coded
constant t v = with_constant (λ k. instr.Const k) (record { ty = t; value = v })

-- a truth value
abbrev pub truth : Bool → Coded
truth b = constant ty.Boolean (flat.Boolean b)

-- an operator of that number, with a rounding, whose fault stands at a position
abbrev pub operator : ℕ → ℕ → Pos → Coded
operator n r p = with_position (λ at. instr.Op n r at) p

-- so many cases stand in front of those of an enumeration
abbrev pub cases_before : ℕ → List Enumeration → ℕ
cases_before zero es = 0
cases_before (suc n) [] = 0
cases_before (suc n) (e ∷ es) = length e.cases + cases_before n es

-- the index of a number in a list; that of the end, where it isn't there
abbrev pub index_of : ℕ → List ℕ → ℕ
index_of n [] = 0
index_of n (m ∷ ms) = if nat_eq n m then 0 else suc (index_of n ms)

-- for each of the n numbers from k on, the index in a list that stands behind the first i numbers
abbrev pub indices : ℕ → ℕ → ℕ → List ℕ → List ℕ
indices k zero i numbers = []
indices k (suc n) i numbers = (i + index_of k numbers) ∷ indices (k + 1) n i numbers

-- whether numbers are those from k on, in their order
abbrev pub are_counted : ℕ → List ℕ → Bool
are_counted k [] = true
are_counted k (n ∷ ns) = nat_eq k n && are_counted (k + 1) ns

-- n values become local names, the last one first
abbrev pub bind_all : ℕ → Coded
bind_all zero = nothing
bind_all (suc n) = led instr.Bind (bind_all n)

-- n local names from number k on, in the order of some numbers behind the first i, the last one in front
abbrev pub picked : ℕ → List ℕ → ℕ → ℕ → Coded
picked i numbers k zero = nothing
picked i numbers k (suc n) =
    led (instr.Local (i + (length numbers - suc (index_of k numbers)))) (picked i numbers (k + 1) n)

-- a structure of the values of its fields, which are there in the order of some numbers: where it isn't that of their
-- declarations, they are taken by way of local names, behind the first i
abbrev pub packed_by : Bool → ℕ → List ℕ → Coded
packed_by true i numbers = one (instr.Pack (length numbers))
packed_by false i numbers =
    then_code (bind_all (length numbers)) (then_code (picked i numbers 0 (length numbers))
    (led (instr.Drop (length numbers)) (one (instr.Pack (length numbers)))))

-- a structure of fields with these numbers, in their written order
abbrev pub packed : ℕ → List ℕ → Coded
packed i numbers = packed_by (are_counted 0 numbers) i numbers

-- the body of an arm, where the value that is matched is local name i: its content takes its place
abbrev pub arm_body : ℕ → Bool → Coded → Coded
arm_body i false body = led (instr.Drop 1) body
arm_body i true body =
    led (instr.Local i) (led instr.Content (led (instr.Drop 1) (led instr.Bind (then_code body (one (instr.Drop 1))))))

-- the first of two sides, behind which the jump over the second one is open
abbrev pub first_side : Coded → Coded
first_side a ends = led (instr.JumpFalse (skip (end_of a (skip ends))).place) (then_code a (one (instr.Jump 0))) ends

-- a loop that ends at the first element for which `turn` jumps out of it, and else gives a truth value; `turn` knows
-- the place of `next` and that behind the loop
abbrev pub search_for : (ℕ → ℕ → Coded) → Bool → Coded
search_for turn none ends =
    led (instr.Next (end_of (turn 0 0) (skip ends)).place)
    (then_code (turn ends.place ((end_of (turn 0 0) (skip ends)).place + 1)) (truth none)) ends

-- leaves a loop with a truth value
abbrev pub found : Bool → ℕ → Coded
found b out = led instr.Leave (then_code (truth b) (one (instr.Jump out)))

-- out of the loop at the first element for which a test is true
abbrev pub any_turn : Coded → ℕ → ℕ → Coded
any_turn test start out =
    then_code test (then_code (over (λ t. instr.JumpFalse t) (found true out)) (one (instr.Jump start)))

-- out of the loop at the first element for which a test is false
abbrev pub all_turn : Coded → ℕ → ℕ → Coded
all_turn test start out =
    then_code test (then_code (over (λ t. instr.JumpFalse t) (one (instr.Jump start))) (found false out))

-- a test of a local name
abbrev pub of_local : Coded → Coded
of_local test = led instr.Bind (then_code test (one (instr.Drop 1)))

-- each value passed to the item of its number
abbrev pub pass_all : List (ℕ × Coded) → Coded
pass_all [] = nothing
pass_all (f ∷ fs) = then_code f.1 (led (instr.Pass f.0) (pass_all fs))

-- false passed to item n, where it is wanted
abbrev pub absent_code : Bool → ℕ → Coded
absent_code true n = then_code (truth false) (one (instr.Pass n))
absent_code false n = nothing

-- false passed to each input condition from item n on that is not among those given
abbrev pub pass_absent : ℕ → List ℕ → List ItemDecl → Coded
pass_absent n given [] = nothing
pass_absent n given (item ∷ items) =
    then_code (absent_code (must_be_given item.kind && item.condition && not (is_in n given)) n)
    (pass_absent (n + 1) given items)
