use Rattle.std.proofs.Common.{◌≡◌, ◌<◌, ◌∙◌, leb, rules, arith, sym, ap, subst}
use Rattle.std.proofs.lemmas.Bool.Decides.{nat_tests}
use Rattle.std.proofs.lemmas.List.Sorted.{IsPartitionPoint-from_clause, IsPartitionedBy-leb}
use Rattle.cat_trace.specs.declared.starts.Start.{Start}
use Rattle.cat_trace.specs.inside.Starts.{Ascend, headings_at}
use Rattle.cat_trace.proofs.StartLemmas.{none_up_to, last_up_to}
use Rattle.cat_trace.proofs.starts.headings_at.Goals as goal

pub returns-then-up_to-eq0 : goal.returns-then-up_to-eq0
returns-then-up_to-eq0 c =
    let xs = c.as_slice-starts.result.now in
    let same : xs ≡ c.args.starts.now = c.as_slice-starts.ensures in
    let parted =
    IsPartitionedBy-leb (λ (s : Start). s.line) xs c.args.line (subst Ascend (sym same) c.requires) in
    let point =
    IsPartitionPoint-from_clause (λ (s : Start). leb s.line c.args.line) _ _ c.partition_point-up_to.ensures.partitioned
    parted (λ a r q k. search rules) in
    let none : c.partition_point-up_to.result ≡ 0 = grind (arith, nat_tests, c.if-up_to-eq0.true) in
    let d : Start = record { line = 0; headings = 0 } in
    sym (ap (headings_at c.args.line) (sym same) ∙ none_up_to c.args.line xs c.partition_point-up_to.result d none
    c.partition_point-up_to.ensures.bound (λ j before. point.0 j d (omega arith) before)
    (λ j from inside. point.1 j d from inside))

pub returns : goal.returns
returns c =
    let xs = c.as_slice-starts.result.now in
    let same : xs ≡ c.args.starts.now = c.as_slice-starts.ensures in
    let parted =
    IsPartitionedBy-leb (λ (s : Start). s.line) xs c.args.line (subst Ascend (sym same) c.requires) in
    let point =
    IsPartitionPoint-from_clause (λ (s : Start). leb s.line c.args.line) _ _ c.partition_point-up_to.ensures.partitioned
    parted (λ a r q k. search rules) in
    let some : 0 < c.partition_point-up_to.result = grind (arith, nat_tests, c.if-up_to-eq0.false) in
    let d : Start = record { line = 0; headings = 0 } in
    sym (ap (headings_at c.args.line) (sym same) ∙ last_up_to c.args.line xs c.partition_point-up_to.result d some
    c.partition_point-up_to.ensures.bound (λ j before. point.0 j d (omega arith) before)
    (λ j from inside. point.1 j d from inside))
