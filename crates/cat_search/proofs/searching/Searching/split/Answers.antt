use Rattle.std.proofs.Common.{◌∙◌, ap, refl, arith}
use Rattle.cat_guard.specs.declared.tree.TreeNode.TheVariants as node
use Rattle.cat_search.specs.inside.ToCome.{leaf_nodes, rest_nodes}
use Rattle.cat_search.proofs.TreeLemmas.{leaf_more, rest_more}
use Rattle.cat_search.proofs.UnderwayLemmas.{split_step}
use Rattle.cat_search.proofs.TargetLemmas.{atom_at}
use Rattle.cat_search.proofs.searching.Searching.split.Goals as goal

pub returns-clause-underway : goal.returns-clause-underway
returns-clause-underway c t u is =
    let table = c.args.table.now in
    let found = atom_at table.atoms c.args.atom c.requires.atom in
    split_step table.terms table.atoms t c.args.self.now
    (record {
      region = c.answer_atom.new.region;
      nodes = c.push.new.self;
      depth = c.args.self.now.depth;
      bad = c.args.self.now.bad;
    })
    c.args.atom found.0 found.1 u is c.in_ok-push.ensures.ok refl refl c.answer_atom.ensures.dims
    c.answer_atom.ensures.narrowings c.answer_atom.ensures.room

pub returns-clause-leaves : goal.returns-clause-leaves
returns-clause-leaves c =
    let more = leaf_more c.args.self.now.nodes (node.Split c.args.atom) in
    ap leaf_nodes c.in_ok-push.ensures.ok ∙ omega (arith, more)

pub returns-clause-rests : goal.returns-clause-rests
returns-clause-rests c =
    let more = rest_more c.args.self.now.nodes (node.Split c.args.atom) in
    ap rest_nodes c.in_ok-push.ensures.ok ∙ omega (arith, more)

pub returns-clause-live : goal.returns-clause-live
returns-clause-live c t levels are = c.answer_atom.ensures.live t levels are
