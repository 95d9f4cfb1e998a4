use Rattle.cat_code.specs.declared.instr.Instr.TheVariants as instr
use Rattle.cat_lower.proofs.Grows.{then_ok, grown_then}
use Rattle.cat_lower.proofs.Patches.{over_part}
use Rattle.cat_lower.proofs.puts.put_kept.Goals as goal

pub returns : goal.returns
returns c =
    then_ok _ _ _ _ _ _
    (over_part _ _ _ _ (λ t. instr.JumpFalse t) _ _ _ _ c.in_ok-test.ensures.grown
    (grown_then _ _ _ _ _ c.in_ok-put.ensures c.in_ok-put-2.ensures)
    c.in_ok-test.ensures.place c.in_ok-end.ensures c.patch.ensures) c.put-3.ensures
