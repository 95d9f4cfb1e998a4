-- What the definitions of a block share.
use Rattle.std.proofs.Common.{◌≡◌, ◌∙◌, List, [], Option, None, Some, Result, Ok, Err, refl, ap, sym, subst}
use Rattle.cat_value.specs.declared.ty.Ty.{Ty}
use Rattle.cat_tree.specs.declared.expression.Node.{Node}
use Rattle.cat_tree.specs.declared.name.Name.{Name}
use Rattle.cat_scope.specs.declared.expr.Expr.{Expr}
use Rattle.cat_scope.specs.Names.{Names}
use Rattle.cat_names.specs.declared.fault.Refusal.{Refusal}
use Rattle.cat_names.specs.declared.fault.Refusal.TheVariants.{Memory, Refused}
use Rattle.cat_names.specs.declared.typed.Typed.{Typed}
use Rattle.cat_names.specs.Definitions.{condition_meant, conjunction, named_params, nameless_params, whole_condition}
use Rattle.cat_names.specs.Found.{Found, Tells, and_then, both}
use Rattle.cat_names.specs.Lines.{Line, condition_lines}
use Rattle.cat_names.proofs.Exported.{left_tells}
use Rattle.cat_check_exprs.specs.declared.known.BlockCondition.{BlockCondition}
use Rattle.cat_check_exprs.specs.declared.said.Said.{Said}
use Rattle.cat_check_exprs.specs.Saying.{behind, with_lines}
use Rattle.cat_check_exprs.specs.Sharing.{block_part, block_found, joined, own_found}
use Rattle.cat_check_exprs.specs.inside.Conditions.{block_line, condition_found}

-- ---- a definition's condition is joined to what is shared

conjunction_is : (b own : Option Typed) → conjunction b own ≡ joined (block_part b) own
conjunction_is None None = refl
conjunction_is None (Some own) = refl
conjunction_is (Some b) None = refl
conjunction_is (Some b) (Some own) = refl

behind_found : (found own : Found (Option Typed)) (shared : Option BlockCondition)
    → and_then found (λ b. Ok (block_part b)) ≡ Ok shared
    → and_then own (λ c. Ok (joined shared c))
    ≡ both {A = Option Typed} {B = Option Typed} found own (λ b c. Ok (conjunction b c))
behind_found (Ok b) (Ok c) shared is =
    let same : block_part b ≡ shared = cc is in
    ap Ok (sym (conjunction_is b c ∙ ap (λ s. joined s c) same))
behind_found (Ok b) (Err faults) shared is = refl
behind_found (Err faults) own shared is = cc is

-- the condition that a definition has in a block, by that of the block
pub whole_is : (ns : Names) (block own : Option Node) (params : List Name) (types : List Ty)
    (shared : Option BlockCondition) (r : Result (Option Expr) Refusal)
    → block_found ns block types ≡ Ok shared → Tells r (own_found ns shared own params types)
    → Tells r (whole_condition ns block own params types)
whole_is ns block own params types shared r is told = subst (λ (found : Found (Option Expr)). Tells r found)
    (behind_found (condition_meant ns block (nameless_params types)) (condition_meant ns own (named_params params types))
    shared is) told

-- ---- what stands in a block's condition

in_condition : (e : Refusal) (found : Found (Option Typed))
    → Tells {A = Option BlockCondition} (Err e) (and_then found (λ b. Ok (block_part b)))
    → Tells {A = Option Typed} (Err e) found
in_condition Memory found h = tt
in_condition (Refused fault) (Ok b) h = elim h [ ]
in_condition (Refused fault) (Err faults) h = h

-- stands in the conditions of its definitions
pub whole_off : (ns : Names) (block own : Option Node) (params : List Name) (types : List Ty) (e : Refusal)
    → Tells {A = Option BlockCondition} (Err e) (block_found ns block types)
    → Tells {A = Option Expr} (Err e) (whole_condition ns block own params types)
whole_off ns block own params types e h =
    left_tells e (condition_meant ns block (nameless_params types)) (condition_meant ns own (named_params params types))
    (λ b c. Ok (conjunction b c)) (in_condition e (condition_meant ns block (nameless_params types)) h)

off : (e : Refusal) (found : Found (Option Typed)) (said : Said)
    → Tells {A = Option BlockCondition} (Err e) (and_then found (λ b. Ok (block_part b)))
    → Tells {A = Said} (Err e) (behind said (and_then found (λ x. Ok (condition_lines x))))
off Memory found said h = tt
off (Refused fault) (Ok b) said h = elim h [ ]
off (Refused fault) (Err faults) said h = h

-- and in its line
pub line_off : (ns : Names) (block : Option Node) (said : Said) (e : Refusal)
    → Tells {A = Option BlockCondition} (Err e) (block_found ns block [])
    → Tells {A = Said} (Err e) (behind said (condition_found ns block))
line_off ns block said e h = off e (condition_meant ns block []) said h

-- ---- the line of a block's condition

lines_are : (b : Option Typed) → block_line (block_part b) ≡ condition_lines b
lines_are None = refl
lines_are (Some b) = refl

line_found : (found : Found (Option Typed)) (shared : Option BlockCondition) (said : Said)
    → and_then found (λ b. Ok (block_part b)) ≡ Ok shared
    → behind said (Ok (block_line shared)) ≡ behind said (and_then found (λ x. Ok (condition_lines x)))
line_found (Ok b) shared said is =
    let same : block_part b ≡ shared = cc is in
    ap (λ (lines : List Line). Ok (with_lines said lines)) (ap block_line (sym same) ∙ lines_are b)
line_found (Err faults) shared said is = cc is

-- the line of what is shared is that of the block
pub line_is : (ns : Names) (block : Option Node) (shared : Option BlockCondition) (said : Said) (r : Result Said Refusal)
    → block_found ns block [] ≡ Ok shared → Tells r (behind said (Ok (block_line shared)))
    → Tells r (behind said (condition_found ns block))
line_is ns block shared said r is told =
    subst (λ (found : Found Said). Tells r found) (line_found (condition_meant ns block []) shared said is) told
