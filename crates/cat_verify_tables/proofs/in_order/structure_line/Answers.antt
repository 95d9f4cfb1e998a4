use Rattle.std.proofs.Common.{◌≡◌, ◌+◌, ◌∙◌, ℕ, take, sym, ap, subst, arith}
use Rattle.std.proofs.lemmas.List.{take_all}
use Rattle.cat_verify_tables.specs.inside.Causes.{lines_in}
use Rattle.cat_verify_tables.specs.inside.Ordering.{fields_of}
use Rattle.cat_verify_tables.proofs.EntryLemmas.{line_more}
use Rattle.cat_verify_tables.proofs.in_order.structure_line.Goals as goal

pub returns-then-at-number : goal.returns-then-at-number
returns-then-at-number c =
    let l = c.loop-at in
    subst (λ (n : ℕ). l.line ≡ c.args.first + lines_in fields_of (take n c.args.entries.now)) c.if-at-number.true
    l.invariant.line

pub loop-at-preserved : goal.loop-at-preserved
loop-at-preserved c =
    let l = c.loop-at in
    record {
      line = line_more fields_of c.args.entries.now l.at c.index-entries-at.result c.args.first l.line c.len.result
          _ c.loop-at-test.true (sym c.index-entries-at.is) l.invariant.line c.len.ensures
          c.in_ok-line.ensures;
      early = omega (arith, l.invariant.early, c.if-at-number.false);
    }

pub returns : goal.returns
returns c =
    let l = c.loop-at in
    let xs = c.args.entries.now in
    l.invariant.line ∙ ap (λ ys. c.args.first + lines_in fields_of ys)
    (take_all l.at xs (omega (arith, c.loop-at-test.false))
    ∙ sym (take_all c.args.number xs (omega (arith, c.loop-at-test.false, l.invariant.early))))
