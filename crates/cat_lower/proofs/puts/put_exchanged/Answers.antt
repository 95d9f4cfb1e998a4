use Rattle.std.proofs.Common.{◌+◌, ◌∙◌, ℕ, ap}
use Rattle.cat_code.specs.declared.instr.Instr.TheVariants as instr
use Rattle.cat_lower.specs.Laying.{one}
use Rattle.cat_lower.proofs.Grows.{then_ok, same_code}
use Rattle.cat_lower.proofs.puts.put_exchanged.Goals as goal

pub returns : goal.returns
returns c =
    let local =
    same_code _ _ _ _ (ap (λ (n : ℕ). one (instr.Local n)) (c.in_ok-local.ensures ∙ c.len.ensures))
    c.in_ok-put-3.ensures in
    let next =
    same_code _ _ _ _ (ap (λ (n : ℕ). one (instr.Local n))
    (c.in_ok-next.ensures ∙ ap (λ (n : ℕ). n + 1) c.len-2.ensures)) c.in_ok-put-4.ensures in
    then_ok _ _ _ _ _ _ c.in_ok-put.ensures (then_ok _ _ _ _ _ _ c.in_ok-put-2.ensures
    (then_ok _ _ _ _ _ _ local (then_ok _ _ _ _ _ _ next c.put-5.ensures)))
