use Rattle.std.proofs.Common.{◌++◌, ◌∙◌, ap, arith, rules}
use Rattle.cat_guard.specs.declared.tree.TreeNode.TheVariants as node
use Rattle.cat_guard.proofs.Exported.{on_ok}
use Rattle.cat_search.specs.inside.ToCome.{leaf_nodes, rest_nodes}
use Rattle.cat_search.specs.inside.Underway.{bad_one}
use Rattle.cat_search.proofs.TreeLemmas.{leaf_more, rest_more}
use Rattle.cat_search.proofs.UnderwayLemmas.{leaf_step}
use Rattle.cat_search.proofs.searching.Searching.leaf.Goals as goal

pub returns-clause-underway : goal.returns-clause-underway
returns-clause-underway c t u is =
    let table = c.args.table.now in
    on_ok c.end.result c.end.ensures (λ same. leaf_step table.terms table.atoms t table.targets (search rules)
    c.args.self.now c.end.new.self u (ap (λ s. s.region) same) (ap (λ s. s.depth) same) c.args.flaw is
    (ap (λ s. s.nodes) same)
    (ap (λ s. s.bad) same ∙ c.in_ok-add_bad.ensures
    ∙ ap (λ n. c.args.self.now.bad ++ bad_one n c.args.flaw) c.len.ensures))

pub returns-clause-leaves : goal.returns-clause-leaves
returns-clause-leaves c =
    on_ok c.end.result c.end.ensures
    (λ same. ap (λ s. leaf_nodes s.nodes) same ∙ leaf_more c.args.self.now.nodes node.Leaf)

pub returns-clause-rests : goal.returns-clause-rests
returns-clause-rests c =
    on_ok c.end.result c.end.ensures
    (λ same. let more = rest_more c.args.self.now.nodes node.Leaf in
    ap (λ s. rest_nodes s.nodes) same ∙ omega (arith, more))

pub returns-clause-region : goal.returns-clause-region
returns-clause-region c = on_ok c.end.result c.end.ensures (λ same. ap (λ s. s.region) same)
