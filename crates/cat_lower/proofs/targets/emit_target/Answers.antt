use Rattle.std.proofs.Common.{◌∙◌, ℕ, List, ap}
use Rattle.std.specs.Option.{option_copied}
use Rattle.cat_value.specs.declared.ty.Ty.{Ty}
use Rattle.cat_code.specs.declared.instr.Instr.TheVariants as instr
use Rattle.cat_lower.specs.Laying.{Coded, nothing, then_code, branch}
use Rattle.cat_lower.specs.Terms.{judged_code, without_value}
use Rattle.cat_lower.specs.Told.{standing_at}
use Rattle.cat_lower.proofs.Grows.{then_ok, same_code}
use Rattle.cat_lower.proofs.Targeted.{targeted_ok}
use Rattle.cat_lower.proofs.targets.emit_target.Goals as goal

pub returns : goal.returns
returns c =
    let here = standing_at c.args.here.now in
    let target = c.in_ok-target.target in
    let judging : List Ty → ℕ → Coded
    = λ ls v. judged_code (record { here = here; target = v; type = c.args.ty.now; locals = ls })
    (option_copied c.args.term) in
    let taking : ℕ → Coded = λ v. branch (λ t. instr.Take t) nothing (without_value v c.args.condition) in
    let judged =
    same_code _ _ _ _ (ap (λ (ls : List Ty). judging ls target) c.in_ok-locals.ensures)
    c.in_ok-emit_judged.ensures.grown in
    targeted_ok _ _ _ _ _ (λ v. then_code (judging c.args.params.now v) (taking v)) target
    (c.in_ok-target.ensures ∙ c.len.ensures)
    c.in_ok-put_target.ensures (then_ok _ _ _ _ _ (taking target) judged c.put_taken.ensures)
