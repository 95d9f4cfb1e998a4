use Rattle.std.proofs.Common.{◌∙◌, slice_get, sym, subst, ap, arith, rules}
use Rattle.std.specs.Prelude.{true, false}
use Rattle.cat_guard.specs.declared.tree.TreeNode.TheVariants as node
use Rattle.cat_search.specs.inside.Underway.{IsUnderway, IsTurned}
use Rattle.cat_search.specs.inside.ToCome.{leaf_nodes, rest_nodes}
use Rattle.cat_search.proofs.TreeLemmas.{leaf_more, rest_more}
use Rattle.cat_search.proofs.TargetLemmas.{if_some, target_at}
use Rattle.cat_search.proofs.UnderwayLemmas.{rest_step, room_within}
use Rattle.cat_search.proofs.searching.Searching.rests.Goals as goal

pub end-requires : goal.end-requires
end-requires c =
    let table = c.args.table.now in
    let one = target_at (λ t. IsUnderway table.terms table.atoms t true c.args.self.now) table.targets c.args.target
    c.requires.target c.requires.underway in
    room_within table.terms table.atoms one.0 true c.args.self.now one.2

pub loop-self-init : goal.loop-self-init
loop-self-init c =
    let table = c.args.table.now in
    let same = c.in_ok-end.ensures in
    let leaves = leaf_more c.args.self.now.nodes node.Rest in
    let rests = rest_more c.args.self.now.nodes node.Rest in
    let now = ap (λ s. rest_nodes s.nodes) same in
    record {
      underway = if_some (slice_get table.targets c.args.target) c.requires.underway (λ t is u. rest_step table.terms
          table.atoms t table.targets (search rules) c.args.self.now c.end.new.self u (ap (λ s. s.region) same)
          (ap (λ s. s.depth) same) (ap (λ s. s.nodes) same) (ap (λ s. s.bad) same));
      leaves = ap (λ s. leaf_nodes s.nodes) same ∙ omega (arith, leaves);
      rests = omega (arith, rests, now);
    }

pub end-requires-in-loop-self : goal.end-requires-in-loop-self
end-requires-in-loop-self c =
    let table = c.args.table.now in
    let one = target_at (λ t. IsUnderway table.terms table.atoms t false c.loop-self.self) table.targets c.args.target
    c.requires.target c.loop-self.invariant.underway in
    let turned = c.turn.ensures.turned table.terms table.atoms one.0 (sym c.len-room.ensures) one.2 in
    room_within table.terms table.atoms one.0 true c.turn.new.self
    (subst (λ b. IsTurned table.terms table.atoms one.0 b c.turn.new.self) c.loop-self-test.true turned)

pub loop-self-preserved : goal.loop-self-preserved
loop-self-preserved c =
    let table = c.args.table.now in
    let same = c.in_ok-end-2.ensures in
    let leaves = leaf_more c.turn.new.self.nodes node.Rest in
    let rests = rest_more c.turn.new.self.nodes node.Rest in
    let now = ap (λ s. rest_nodes s.nodes) same in
    let before = ap rest_nodes c.turn.ensures.nodes in
    record {
      underway = if_some (slice_get table.targets c.args.target) c.loop-self.invariant.underway (λ t is u. rest_step
          table.terms table.atoms t table.targets (search rules) c.turn.new.self c.end-in-loop-self.new.self
          (subst (λ b. IsTurned table.terms table.atoms t b c.turn.new.self) c.loop-self-test.true
          (c.turn.ensures.turned table.terms table.atoms t (sym c.len-room.ensures) u))
          (ap (λ s. s.region) same) (ap (λ s. s.depth) same) (ap (λ s. s.nodes) same) (ap (λ s. s.bad) same));
      leaves = ap (λ s. leaf_nodes s.nodes) same ∙ omega (arith, leaves) ∙ ap leaf_nodes c.turn.ensures.nodes
          ∙ c.loop-self.invariant.leaves;
      rests = let some = c.loop-self.invariant.rests in omega (arith, rests, now, before, some);
    }
