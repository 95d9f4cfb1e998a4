use Rattle.std.proofs.Common.{◌∙◌, ◌++◌, sym, ap, Bool, List, ℕ}
use Rattle.cat_code.specs.Jumps.{jumps_in}
use Rattle.cat_verify.specs.inside.Marks.{marked}
use Rattle.cat_verify.proofs.MarkLemmas.{marked_both}
use Rattle.cat_verify.proofs.numbers.mark_entered.Goals as goal

pub returns : goal.returns
returns c =
    let old = c.args.marks.now in
    let tables = c.args.tables.now in
    let jumps = jumps_in c.args.code.now in
    c.mark_all-2.ensures
    ∙ ap (λ (ms : List Bool). marked ms c.as_slice-2.result.now) c.mark_all.ensures
    ∙ ap (λ (ms : List Bool). marked (marked ms c.as_slice.result.now) c.as_slice-2.result.now) c.mark_jumps.ensures
    ∙ ap (λ (ps : List ℕ). marked (marked (marked old jumps) ps) c.as_slice-2.result.now) c.as_slice.ensures
    ∙ ap (λ (ps : List ℕ). marked (marked (marked old jumps) tables.scopes) ps) c.as_slice-2.ensures
    ∙ sym (marked_both old jumps (tables.scopes ++ tables.functions)
    ∙ marked_both (marked old jumps) tables.scopes tables.functions)
