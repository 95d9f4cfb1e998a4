use Rattle.std.proofs.Common.{◌∙◌, ap, sym, subst, length, map, string_bytes, IsTrue, List}
use Rattle.cat_scope.specs.Names.{AllHave}
use Rattle.cat_guard.specs.declared.tree.CaseTree.{CaseTree}
use Rattle.cat_guard.specs.Trees.{tree_of}
use Rattle.cat_walk.specs.Sharing.{is_whole_tree}
use Rattle.cat_cert.specs.declared.certificate.Version.TheVariants as version
use Rattle.cat_cert.specs.Certifiable.{shared_tree}
use Rattle.cat_cert.specs.Lines.{dues_of}
use Rattle.cat_cert.specs.Texts.{certificate_text}
use Rattle.cat_cert.specs.Checked.{text_over}
use Rattle.cat_cert.specs.inside.Checkable.{last_line}
use Rattle.cat_cert.proofs.Lists.{if_moved}
use Rattle.cat_cert.proofs.CertifiedLemmas.{all_small}
use Rattle.cat_cert.proofs.TableLemmas.{count_all}
use Rattle.cat_cert.proofs.OverLemmas.{all_whole, same_count, same_text}
use Rattle.cat_cert.proofs.over.text_over.Goals as goal

pub expand_trees-requires : goal.expand_trees-requires
expand_trees-requires c =
    all_small last_line c.requires.0 (dues_of c.args.tables.now) c.args.trees.now c.requires.1

pub write_cert-requires-clause-count : goal.write_cert-requires-clause-count
write_cert-requires-clause-count c =
    ap length c.as_slice.ensures ∙ same_count c.in_ok-cases.cases c.args.trees.now c.in_ok-cases.ensures
    ∙ count_all last_line c.requires.0 c.args.tables.now c.args.trees.now c.requires.1

pub write_cert-requires-clause-whole : goal.write_cert-requires-clause-whole
write_cert-requires-clause-whole c =
    subst (λ (ts : List CaseTree). AllHave (λ t. IsTrue (is_whole_tree (tree_of t.nodes))) ts) (sym c.as_slice.ensures)
    (all_whole c.cited_trees_are_whole.ensures.whole c.in_ok-cases.cases c.args.trees.now c.in_ok-cases.ensures
    (all_small last_line c.requires.0 (dues_of c.args.tables.now) c.args.trees.now c.requires.1))

pub returns : goal.returns
returns c =
    let tables = c.args.tables.now in
    let trees = c.args.trees.now in
    if_moved c.write_cert.result string_bytes
    (certificate_text version.Two tables (map (λ (t : CaseTree). shared_tree (tree_of t.nodes)) c.as_slice.result.now))
    (text_over tables trees)
    (ap (λ ts. certificate_text version.Two tables (map (λ (t : CaseTree). shared_tree (tree_of t.nodes)) ts))
    c.as_slice.ensures ∙ same_text tables c.in_ok-cases.cases trees c.in_ok-cases.ensures)
    c.write_cert.ensures
