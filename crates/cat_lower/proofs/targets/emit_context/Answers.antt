use Rattle.std.proofs.Common.{◌∙◌, ℕ, List, [], ap}
use Rattle.std.specs.Option.{option_copied}
use Rattle.cat_value.specs.declared.ty.Ty.{Ty}
use Rattle.cat_code.specs.declared.instr.Instr.TheVariants as instr
use Rattle.cat_lower.specs.Laying.{Coded, one, then_code, over}
use Rattle.cat_lower.specs.Terms.{judged_code}
use Rattle.cat_lower.specs.Told.{standing_at}
use Rattle.cat_lower.proofs.Grows.{grown_then, same_code}
use Rattle.cat_lower.proofs.Patches.{jumped}
use Rattle.cat_lower.proofs.Targeted.{targeted_grown}
use Rattle.cat_lower.proofs.targets.emit_context.Goals as goal

pub returns : goal.returns
returns c =
    let here = standing_at c.args.here.now in
    let target = c.in_ok-target.target in
    let judging : List Ty → ℕ → Coded
    = λ ls v. judged_code (record { here = here; target = v; type = c.args.ty.now; locals = ls })
    (option_copied c.args.term) in
    let pass : Coded = one (instr.Pass c.args.item) in
    let judged =
    same_code _ _ _ _ (ap (λ (ls : List Ty). judging ls target) c.new-locals.ensures)
    c.in_ok-emit_judged.ensures.grown in
    targeted_grown _ _ _ _ (λ v. then_code (judging [] v) (over (λ t. instr.Take t) pass)) target
    (c.in_ok-target.ensures ∙ c.len.ensures)
    c.in_ok-put_target.ensures
    (grown_then _ _ _ (judging [] target) (over (λ t. instr.Take t) pass) judged
    (jumped _ _ _ (λ t. instr.Take t) _ pass _ _
    (grown_then _ _ _ (one (instr.Take 0)) pass c.in_ok-taken.ensures.grown c.in_ok-put.ensures)
    c.in_ok-taken.ensures.place c.in_ok-end.ensures c.patch.ensures))
