-- What instructions ask of shapes.
use Rattle.std.specs.Prelude.{ℕ, ◌+◌, nat_le, nat_lt, ◌&&◌, Bool, true, false, not, List, [], ◌∷◌, length, Option, Some}
use Rattle.std.specs.Prelude.{None, if◌then◌else◌}
use Rattle.cat_value.specs.declared.ty.Ty.{Ty}
use Rattle.cat_value.specs.declared.declaration.ItemDecl.{ItemDecl}
use Rattle.cat_value.specs.Inputs.{must_be_given}
use Rattle.cat_scope.specs.Names.{has_none}
use Rattle.cat_scope.specs.Signatures.{Signature}
use Rattle.cat_code.specs.Forms.{Form, same_form}
use Rattle.cat_code.specs.Shapes.{FrameShape, LoopShape, PendingShape}

-- whether each type of a row is this one
abbrev pub all_same : Form → List Form → Bool
all_same t [] = true
all_same t (u ∷ us) = same_form u t && all_same t us

-- whether types are those of parameters, one by one
abbrev pub are_params : (Ty → Form) → List Ty → List Form → Bool
are_params form [] [] = true
are_params form (p ∷ ps) (t ∷ ts) = same_form t (form p) && are_params form ps ts
are_params form _ _ = false

-- the signature with these operands
abbrev pub signed : (Ty → Form) → List Signature → Form → Form → Option Ty
signed form [] t u = None
signed form (s ∷ ss) t u =
    if same_form t (form s.left) && same_form u (form s.right) then Some s.result else signed form ss t u

-- whether a slot is filled
abbrev pub is_so : Option Bool → Bool
is_so (Some true) = true
is_so _ = false

-- whether n default frames were made inside the innermost loop
abbrev pub frames_inside : ℕ → List LoopShape → List FrameShape → Bool
frames_inside n [] frames = nat_le n (length frames)
frames_inside n (l ∷ ls) frames = nat_le (l.frames + n) (length frames)

-- whether a pending frame was made inside the innermost loop
abbrev pub is_pending_inside : List LoopShape → List PendingShape → Bool
is_pending_inside [] pending = not (has_none pending)
is_pending_inside (l ∷ ls) pending = nat_lt l.pending (length pending)

-- whether each input of a scope is passed
abbrev pub are_passed : List ItemDecl → List Bool → Bool
are_passed [] passed = true
are_passed (item ∷ items) [] = false
are_passed (item ∷ items) (true ∷ passed) = are_passed items passed
are_passed (item ∷ items) (false ∷ passed) = not (must_be_given item.kind) && are_passed items passed
