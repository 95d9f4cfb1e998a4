use Rattle.std.proofs.Common.{◌+◌, ◌++◌, ◌∷◌, [], ◌∙◌, inr, sym, ap, arith, length, length-append, List, ℕ}
use Rattle.cat_guard.specs.declared.tree.CitedNode.{CitedNode}
use Rattle.cat_cert.specs.Certified.{is_atom_of}
use Rattle.cat_cert.specs.inside.States.{AtNode, after_list, leaves_there}
use Rattle.cat_cert.specs.inside.Outcomes.{ending}
use Rattle.cat_cert.proofs.EndingLemmas.{no_line, no_node, no_leaves, node_wide, node_goes, after_none}
use Rattle.cat_cert.proofs.EndingLemmas.{after_pending}
use Rattle.cat_cert.proofs.EndingLemmas.{pending_least}
use Rattle.cat_cert.proofs.nodes.read_nodes.Goals as goal

pub returns-in_default-node_of-clause-read : goal.returns-in_default-node_of-clause-read
returns-in_default-node_of-clause-read c = λ v main p has named.
    let l = c.loop-line in
    inr (l.invariant.read v main p has named
    ∙ no_node v main p l.nodes l.pending l.count c.args.bytes.now l.place c.next_line.new.place c.in-Some.line.now
    c.in-Some.ensures.next (sym c.in_default-node_of.ensures))

pub returns-in_default-leaves_there-clause-read : goal.returns-in_default-leaves_there-clause-read
returns-in_default-leaves_there-clause-read c = λ v main p has named.
    let l = c.loop-line in
    let n = c.in-Some-node_of.node in
    inr (l.invariant.read v main p has named
    ∙ no_leaves v main p l.nodes l.pending l.count c.args.bytes.now l.place c.next_line.new.place c.in-Some.line.now
    c.in-Some.ensures.next n (sym c.in-Some-node_of.ensures)
    (ap (λ (ns : List ℕ). leaves_there (is_atom_of p.target) ns n) (sym named)
    ∙ sym (c.in_default-leaves_there.ensures p.target has)))

pub returns-in_default-sum-clause-read : goal.returns-in_default-sum-clause-read
returns-in_default-sum-clause-read c = λ v main p has named.
    let l = c.loop-line in
    let n = c.in-Some-node_of.node in
    inr (l.invariant.read v main p has named
    ∙ node_wide v main p l.nodes l.pending l.count c.args.bytes.now l.place c.next_line.new.place c.in-Some.line.now
    c.in-Some.ensures.next n c.in-Some-leaves_there.leaves (sym c.in-Some-node_of.ensures)
    (ap (λ (ns : List ℕ). leaves_there (is_atom_of p.target) ns n) (sym named)
    ∙ sym (c.in-Some-leaves_there.ensures p.target has)) c.in_default-sum.ensures)

pub returns-in_default-pending_after-clause-read : goal.returns-in_default-pending_after-clause-read
returns-in_default-pending_after-clause-read c = λ v main p has named.
    let l = c.loop-line in
    let n = c.in-Some-node_of.node in
    let bytes = c.args.bytes.now in
    let new = c.next_line.new.place in
    let sum = c.in-Some-sum.ensures in
    let count = l.count + c.in-Some-leaves_there.leaves in
    l.invariant.read v main p has named
    ∙ node_goes v main p l.nodes l.pending l.count bytes l.place new c.in-Some.line.now c.in-Some.ensures.next n
    c.in-Some-leaves_there.leaves (sym c.in-Some-node_of.ensures)
    (ap (λ (ns : List ℕ). leaves_there (is_atom_of p.target) ns n) (sym named)
    ∙ sym (c.in-Some-leaves_there.ensures p.target has)) (omega (arith, sum))
    ∙ ap (λ s. ending s bytes new)
    (after_none v main p (l.nodes ++ n ∷ []) l.pending count n (sym c.in_default-pending_after.ensures)
    ∙ ap (λ (ns : List CitedNode). after_list v main p ns count) (sym c.in_ok-push.ensures.ok)
    ∙ ap (λ (s : ℕ). after_list v main p c.push.new.self s) (sym sum.0))

pub loop-line-preserved : goal.loop-line-preserved
loop-line-preserved c =
    let l = c.loop-line in
    let n = c.in-Some-node_of.node in
    let bytes = c.args.bytes.now in
    let new = c.next_line.new.place in
    let sum = c.in-Some-sum.ensures in
    let count = l.count + c.in-Some-leaves_there.leaves in
    let next = c.in-Some-pending_after.next in
    let least = pending_least n l.pending next (sym c.in-Some-pending_after.ensures) in
    let few = l.invariant.few in
    let grown = ap length c.in_ok-push.ensures.ok in
    let parts = length-append l.nodes (n ∷ []) in
    let before = l.invariant.later in
    let now = c.in-Some.ensures.later in
    record {
      within = c.in-Some.ensures.within;
      later = omega (arith, before, now);
      few = omega (arith, least, few, grown, parts);
      read = λ v main p has named.
          l.invariant.read v main p has named
          ∙ node_goes v main p l.nodes l.pending l.count bytes l.place new c.in-Some.line.now c.in-Some.ensures.next n
          c.in-Some-leaves_there.leaves (sym c.in-Some-node_of.ensures)
          (ap (λ (ns : List ℕ). leaves_there (is_atom_of p.target) ns n) (sym named)
          ∙ sym (c.in-Some-leaves_there.ensures p.target has)) (omega (arith, sum))
          ∙ ap (λ s. ending s bytes new)
          (after_pending v main p (l.nodes ++ n ∷ []) l.pending count n next (sym c.in-Some-pending_after.ensures)
          ∙ ap (λ (ns : List CitedNode). AtNode v main p ns next count) (sym c.in_ok-push.ensures.ok)
          ∙ ap (λ (s : ℕ). AtNode v main p c.push.new.self next s) (sym sum.0));
    }

pub returns-clause-read : goal.returns-clause-read
returns-clause-read c = λ v main p has named.
    let l = c.loop-line in
    inr (l.invariant.read v main p has named
    ∙ no_line (AtNode v main p l.nodes l.pending l.count) c.args.bytes.now l.place c.next_line.new.place
    c.in_default.ensures.next)
