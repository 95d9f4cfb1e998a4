use Rattle.std.proofs.Common.{◌≡◌, ◌++◌, drop, string_bytes}
use Rattle.cat_listing.specs.InstructionLines.{instructions_lines}
use Rattle.cat_listing.proofs.instrs.push_instructions.Given as goal

abbrev pub invariant-loop-number : goal.invariant-loop-number
invariant-loop-number l =
    string_bytes l.text ++ instructions_lines l.number (drop l.number l.instructions)
    ≡ string_bytes l.initial.text ++ instructions_lines 0 l.instructions
