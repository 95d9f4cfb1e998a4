use Rattle.std.proofs.Common.{◌≡◌, ◌∙◌, true, sym}
use Rattle.cat_trace.specs.inside.Starts.{ends_behind}
use Rattle.cat_trace.proofs.StartLemmas.{popped}
use Rattle.cat_trace.proofs.starts.drop_behind.Goals as goal

pub loop-starts-preserved : goal.loop-starts-preserved
loop-starts-preserved c =
    let behind : ends_behind c.args.line c.loop-starts.starts ≡ true =
    sym c.ends_behind.ensures ∙ c.loop-starts-test.true in
    popped c.args.line c.args.starts.now c.loop-starts.starts c.pop.new.self c.pop.result c.pop.ensures behind
    c.loop-starts.invariant
