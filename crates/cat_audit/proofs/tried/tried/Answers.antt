use Rattle.std.proofs.Common.{◌≡◌, ◌+◌, ◌<◌, Some, slice_get, drop, length, sym, ap, ◌∙◌, subst, arith, IsTrue}
use Rattle.cat_value.proofs.Exported.{found}
use Rattle.cat_region.specs.Regions.{IsInhabited}
use Rattle.cat_guard.specs.Judged.{judged_in}
use Rattle.cat_guard.specs.Judgements.{is_bad}
use Rattle.cat_search.specs.Ways.{ask_below}
use Rattle.cat_audit.specs.Findings.{finding_in}
use Rattle.cat_audit.proofs.TargetThere.{at_some, if_some}
use Rattle.cat_audit.proofs.TriedLemmas.{IsTrying, item, at_item, next_is, next_of, reached, leads_there, goes_on}
use Rattle.cat_audit.proofs.TriedLemmas.{ends_found, goes_over, kept_unfound, kept_some, one_found}
use Rattle.cat_audit.proofs.HangingLemmas.{quiet_on, quiet_by, hangs_there}
use Rattle.cat_audit.proofs.tried.tried.Goals as goal

pub go_to-requires-clause-order : goal.go_to-requires-clause-order
go_to-requires-clause-order c =
    (next_of c.args.program.now c.args.table.now c.args.target c.requires.target c.args.nodes.now c.loop-leaf.at
    c.loop-leaf.best c.loop-leaf.leaf-index c.args.bad.now (omega (arith, c.loop-leaf-test.true))
    c.loop-leaf.invariant.trying).order

pub go_to-requires-clause-within : goal.go_to-requires-clause-within
go_to-requires-clause-within c =
    let next = next_of c.args.program.now c.args.table.now c.args.target c.requires.target c.args.nodes.now
    c.loop-leaf.at c.loop-leaf.best c.loop-leaf.leaf-index c.args.bad.now (omega (arith, c.loop-leaf-test.true))
    c.loop-leaf.invariant.trying in
    omega (arith, next.within)

pub region-requires : goal.region-requires
region-requires c =
    let table = c.args.table.now in
    let nodes = c.args.nodes.now in
    let b = item c.args.bad.now c.loop-leaf.leaf-index in
    let next = next_of c.args.program.now table c.args.target c.requires.target nodes c.loop-leaf.at c.loop-leaf.best
    c.loop-leaf.leaf-index c.args.bad.now (omega (arith, c.loop-leaf-test.true)) c.loop-leaf.invariant.trying in
    let here = reached nodes c.loop-leaf.at b.leaf c.loop-leaf.way c.go_to.new.way c.loop-leaf.invariant.way_is
    next.order c.in_ok-go_to.ensures in
    subst (λ way. IsTrue (ask_below (length table.atoms) way)) (sym here) (c.requires.asked b.leaf)

pub finding_in-requires-clause-dims : goal.finding_in-requires-clause-dims
finding_in-requires-clause-dims c =
    let table = c.args.table.now in
    let nodes = c.args.nodes.now in
    let b = item c.args.bad.now c.loop-leaf.leaf-index in
    let next = next_of c.args.program.now table c.args.target c.requires.target nodes c.loop-leaf.at c.loop-leaf.best
    c.loop-leaf.leaf-index c.args.bad.now (omega (arith, c.loop-leaf-test.true)) c.loop-leaf.invariant.trying in
    let here = reached nodes c.loop-leaf.at b.leaf c.loop-leaf.way c.go_to.new.way c.loop-leaf.invariant.way_is
    next.order c.in_ok-go_to.ensures in
    let same = leads_there table nodes b c.go_to.new.way c.in_ok-region.region here c.in_ok-region.ensures in
    ap (λ r. r.dims) same ∙ next.dims

pub finding_in-requires-clause-inhabited : goal.finding_in-requires-clause-inhabited
finding_in-requires-clause-inhabited c =
    let table = c.args.table.now in
    let nodes = c.args.nodes.now in
    let b = item c.args.bad.now c.loop-leaf.leaf-index in
    let next = next_of c.args.program.now table c.args.target c.requires.target nodes c.loop-leaf.at c.loop-leaf.best
    c.loop-leaf.leaf-index c.args.bad.now (omega (arith, c.loop-leaf-test.true)) c.loop-leaf.invariant.trying in
    let here = reached nodes c.loop-leaf.at b.leaf c.loop-leaf.way c.go_to.new.way c.loop-leaf.invariant.way_is
    next.order c.in_ok-go_to.ensures in
    let same = leads_there table nodes b c.go_to.new.way c.in_ok-region.region here c.in_ok-region.ensures in
    subst IsInhabited (sym same) next.inhabited

pub finding_in-requires-clause-bad : goal.finding_in-requires-clause-bad
finding_in-requires-clause-bad c =
    let table = c.args.table.now in
    let nodes = c.args.nodes.now in
    let all = c.args.bad.now in
    let i = c.loop-leaf.leaf-index in
    let b = item all i in
    let less : i < length all = omega (arith, c.loop-leaf-test.true) in
    let slot = at_item all i less in
    let ahead = next_of c.args.program.now table c.args.target c.requires.target nodes c.loop-leaf.at c.loop-leaf.best
    i all less c.loop-leaf.invariant.trying in
    let here = reached nodes c.loop-leaf.at b.leaf c.loop-leaf.way c.go_to.new.way c.loop-leaf.invariant.way_is
    ahead.order c.in_ok-go_to.ensures in
    let same = leads_there table nodes b c.go_to.new.way c.in_ok-region.region here c.in_ok-region.ensures in
    if_some (slice_get table.targets c.args.target) (λ t is.
    let trying = at_some (λ t. IsTrying c.args.program.now table t nodes c.loop-leaf.at c.loop-leaf.best (drop i all)
    all)
    (slice_get table.targets c.args.target) t is c.loop-leaf.invariant.trying in
    let next = next_is c.args.program.now table t nodes c.loop-leaf.at c.loop-leaf.best i b all slot trying in
    subst (λ r. IsTrue (is_bad t.may_be_empty (judged_in table.atoms r t))) (sym same) next.1.bad)

pub returns-then-is_found-clause-counts : goal.returns-then-is_found-clause-counts
returns-then-is_found-clause-counts c =
    let program = c.args.program.now in
    let table = c.args.table.now in
    let nodes = c.args.nodes.now in
    let all = c.args.bad.now in
    let i = c.loop-leaf.leaf-index in
    let b = item all i in
    let less : i < length all = omega (arith, c.loop-leaf-test.true) in
    let slot = at_item all i less in
    let ahead = next_of program table c.args.target c.requires.target nodes c.loop-leaf.at c.loop-leaf.best i all less
    c.loop-leaf.invariant.trying in
    let here = reached nodes c.loop-leaf.at b.leaf c.loop-leaf.way c.go_to.new.way c.loop-leaf.invariant.way_is
    ahead.order c.in_ok-go_to.ensures in
    let same = leads_there table nodes b c.go_to.new.way c.in_ok-region.region here c.in_ok-region.ensures in
    if_some (slice_get table.targets c.args.target) (λ t is.
    let trying = at_some (λ t. IsTrying program table t nodes c.loop-leaf.at c.loop-leaf.best (drop i all) all)
    (slice_get table.targets c.args.target) t is c.loop-leaf.invariant.trying in
    let says = sym (ap (finding_in program table t) same)
    ∙ at_some (λ t. finding_in program table t c.in_ok-region.region ≡ Some c.in_ok-next.next)
    (slice_get table.targets c.args.target) t is c.in_ok-next.ensures in
    ends_found program table t nodes c.loop-leaf.at c.loop-leaf.best i b all c.in_ok-next.next slot says
    c.loop-leaf.invariant.unfound (sym c.is_found.ensures ∙ c.if-is_found.true) trying)

pub loop-leaf-preserved : goal.loop-leaf-preserved
loop-leaf-preserved c =
    let program = c.args.program.now in
    let table = c.args.table.now in
    let nodes = c.args.nodes.now in
    let all = c.args.bad.now in
    let i = c.loop-leaf.leaf-index in
    let b = item all i in
    let less : i < length all = omega (arith, c.loop-leaf-test.true) in
    let slot = at_item all i less in
    let ahead = next_of program table c.args.target c.requires.target nodes c.loop-leaf.at c.loop-leaf.best i all less
    c.loop-leaf.invariant.trying in
    let here = reached nodes c.loop-leaf.at b.leaf c.loop-leaf.way c.go_to.new.way c.loop-leaf.invariant.way_is
    ahead.order c.in_ok-go_to.ensures in
    let same = leads_there table nodes b c.go_to.new.way c.in_ok-region.region here c.in_ok-region.ensures in
    let hidden = sym c.is_found.ensures ∙ c.if-is_found.false in
    let next = c.in_ok-next.next in
    let best = c.loop-leaf.best in
    record {
      way_is = here;
      trying = if_some (slice_get table.targets c.args.target) (λ t is.
          let trying = at_some (λ t. IsTrying program table t nodes c.loop-leaf.at best (drop i all) all)
          (slice_get table.targets c.args.target) t is c.loop-leaf.invariant.trying in
          let says = sym (ap (finding_in program table t) same)
          ∙ at_some (λ t. finding_in program table t c.in_ok-region.region ≡ Some next)
          (slice_get table.targets c.args.target) t is c.in_ok-next.ensures in
          subst (λ o. IsTrying program table t nodes b.leaf o (drop (i + 1) all) all) (sym c.kept-best.ensures)
          (goes_on program table t nodes c.loop-leaf.at best i b all next slot says c.loop-leaf.invariant.unfound hidden
          trying));
      unfound = ap one_found c.kept-best.ensures ∙ kept_unfound best next c.loop-leaf.invariant.unfound hidden;
      none = λ e. absurd (kept_some best next (sym c.kept-best.ensures ∙ e));
      quiet = λ run. (
        quiet_on c.loop-leaf.default_is_run c.hang_alone-hangs.result run (λ before.
            (c.loop-leaf.invariant.quiet before).0)
            (λ alone. let one = found table.targets c.args.target c.requires.target in
            quiet_by program table nodes b c.answers.result.now c.go_to.new.way c.answers.ensures here
            (sym c.hang_alone-hangs.ensures ∙ alone) ahead.dims one.0 next
            (sym (ap (finding_in program table one.0) same)
            ∙ at_some (λ t. finding_in program table t c.in_ok-region.region ≡ Some next)
            (slice_get table.targets c.args.target) one.0 one.1 c.in_ok-next.ensures) hidden),
        λ e. kept_some best next (sym c.kept-best.ensures ∙ e),
      );
    }

pub loop-leaf-preserved-then-default_is_run : goal.loop-leaf-preserved-then-default_is_run
loop-leaf-preserved-then-default_is_run c =
    let program = c.args.program.now in
    let table = c.args.table.now in
    let nodes = c.args.nodes.now in
    let all = c.args.bad.now in
    let i = c.loop-leaf.leaf-index in
    let b = item all i in
    let less : i < length all = omega (arith, c.loop-leaf-test.true) in
    let slot = at_item all i less in
    let ahead = next_of program table c.args.target c.requires.target nodes c.loop-leaf.at c.loop-leaf.best i all less
    c.loop-leaf.invariant.trying in
    let here = reached nodes c.loop-leaf.at b.leaf c.loop-leaf.way c.go_to.new.way c.loop-leaf.invariant.way_is
    ahead.order c.in_ok-go_to.ensures in
    let run = c.loop-leaf.invariant.quiet c.if-default_is_run.true in
    record {
      way_is = here;
      trying = if_some (slice_get table.targets c.args.target) (λ t is.
          let trying = at_some (λ t. IsTrying program table t nodes c.loop-leaf.at c.loop-leaf.best (drop i all) all)
          (slice_get table.targets c.args.target) t is c.loop-leaf.invariant.trying in
          let says = hangs_there program table nodes b c.answers.result.now c.go_to.new.way c.answers.ensures here
          (sym c.hang_alone-hangs.ensures ∙ c.if-hangs.true) ahead.dims t run.0 in
          goes_over program table t nodes c.loop-leaf.at c.loop-leaf.best i b all says.found slot says.is
          c.loop-leaf.invariant.unfound run.1 says.hanging trying);
      unfound = c.loop-leaf.invariant.unfound;
      none = λ e. absurd (run.1 e);
      quiet = λ before. run;
    }
