use Rattle.std.proofs.Common.{◌∙◌, ℕ, ap}
use Rattle.cat_code.specs.declared.instr.Instr.TheVariants as instr
use Rattle.cat_lower.specs.Laying.{one}
use Rattle.cat_lower.proofs.Grows.{then_ok, same_code}
use Rattle.cat_lower.proofs.scopes.emit_scope_body.Goals as goal

pub returns : goal.returns
returns c =
    then_ok _ _ _ _ _ _ c.in_ok-emit_items.ensures (then_ok _ _ _ _ _ _ c.in_ok-emit_assertions.ensures
    (then_ok _ _ _ _ _ _ c.in_ok-put_outputs.ensures (then_ok _ _ _ _ _ _
    (same_code _ _ _ _ (ap (λ (n : ℕ). one (instr.Pack n)) (c.in_ok-fitting.ensures ∙ c.in_ok-count.ensures))
    c.in_ok-put.ensures) c.put-2.ensures)))
