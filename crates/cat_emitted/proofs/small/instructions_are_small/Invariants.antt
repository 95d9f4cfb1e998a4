use Rattle.std.proofs.Common.{take}
use Rattle.cat_scope.specs.Names.{AllHave}
use Rattle.cat_image.specs.InstructionWords.{IsSmallInstr}
use Rattle.cat_emitted.proofs.small.instructions_are_small.Given as goal

abbrev pub invariant-loop-instr : goal.invariant-loop-instr
invariant-loop-instr l = AllHave IsSmallInstr (take l.instr-index l.instructions)
