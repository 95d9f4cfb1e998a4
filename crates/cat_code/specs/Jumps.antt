-- Where instructions jump to, what they call, and which numbers they name.
use Rattle.std.specs.Prelude.{ℕ, nat_lt, nat_le, ◌&&◌, Bool, true, List, [], ◌∷◌, length, Option, Some, None}
use Rattle.cat_code.specs.declared.instr.Instr.{Instr}
use Rattle.cat_code.specs.declared.instr.Instr.TheVariants as instr
use Rattle.cat_code.specs.declared.code.Tables.{Tables}
use Rattle.cat_code.specs.Operations.{operations, roundings}
use Rattle.cat_code.specs.Shapes.{Owner}

-- the instruction to which one may jump
abbrev pub jump_of : Instr → Option ℕ
jump_of (instr.Given i t) = Some t
jump_of (instr.Jump t) = Some t
jump_of (instr.JumpFalse t) = Some t
jump_of (instr.Next t) = Some t
jump_of (instr.Held t) = Some t
jump_of (instr.Take t) = Some t
jump_of _ = None

-- what one instruction more jumps to
abbrev pub with_jump : Option ℕ → List ℕ → List ℕ
with_jump None ts = ts
with_jump (Some t) ts = t ∷ ts

-- all that instructions jump to
abbrev pub jumps_in : List Instr → List ℕ
jumps_in [] = []
jumps_in (i ∷ is) = with_jump (jump_of i) (jumps_in is)

-- the function or scope that an instruction calls, where it belongs to an owner
abbrev pub called_by : Owner → Instr → Option Owner
called_by owner (instr.Call f n) = Some (record { scope = owner.scope; function = Some f })
called_by owner (instr.Scope n) = Some (record { scope = n; function = None })
called_by owner _ = None

-- whether each number of an instruction is that of an entry of its table, where there are so many instructions
abbrev pub is_within : Tables → ℕ → Instr → Bool
is_within tables size (instr.Const k) = nat_lt k (length tables.constants)
is_within tables size (instr.Given i t) = nat_lt t size
is_within tables size (instr.Jump t) = nat_lt t size
is_within tables size (instr.JumpFalse t) = nat_lt t size
is_within tables size (instr.Op n r p) =
    nat_lt 0 n && nat_le n (length operations) && nat_lt r (length roundings) && nat_lt p (length tables.positions)
is_within tables size (instr.Tag c) = nat_lt c (length tables.cases)
is_within tables size (instr.TagNone c) = nat_lt c (length tables.cases)
is_within tables size (instr.IsCase c) = nat_lt c (length tables.cases)
is_within tables size (instr.IterList k) = nat_lt k (length tables.constants)
is_within tables size (instr.Next t) = nat_lt t size
is_within tables size (instr.Call f n) = nat_lt f (length tables.functions)
is_within tables size (instr.Scope n) = nat_lt n (length tables.scopes)
is_within tables size (instr.Begin v) = nat_lt v (length tables.targets)
is_within tables size (instr.Hold d) = nat_lt d (length tables.definitions)
is_within tables size (instr.Check v) = nat_lt v (length tables.targets)
is_within tables size (instr.Held t) = nat_lt t size
is_within tables size (instr.Take t) = nat_lt t size
is_within tables size (instr.NoValue v) = nat_lt v (length tables.targets)
is_within tables size (instr.Assert p) = nat_lt p (length tables.positions)
is_within tables size _ = true
