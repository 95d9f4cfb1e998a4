-- Why jumps are refused.
use Rattle.std.specs.Prelude.{List}
use Rattle.cat_code.specs.declared.instr.Instr.{Instr}
use Rattle.cat_verify.specs.declared.refusal.VerifyRefusal.{VerifyRefusal}
use Rattle.cat_verify.specs.declared.refusal.VerifyRefusal.TheVariants as refusal
use Rattle.cat_verify.specs.WrongCode.{JumpsBack}

-- an instruction jumps back
abbrev pub BackCause : List Instr → VerifyRefusal → Type 0
BackCause code (refusal.Endless k) = JumpsBack code k
BackCause code _ = ⊥
