use Rattle.std.proofs.Common.{rules, ◌≡◌, ◌∙◌, ◌++◌, ℕ, List, [], slice_get, length, take, sym, ap, subst}
use Rattle.std.proofs.Common.{IsTrue, string_bytes}
use Rattle.cat_value.proofs.Exported.{found}
use Rattle.cat_guard.specs.declared.tree.TreeNode.{TreeNode}
use Rattle.cat_search.specs.Searched.{everything, IsSearchOf}
use Rattle.cat_search.specs.Ways.{ask_below, way_from}
use Rattle.cat_table.specs.Rows.{ended, end_text, first_line, nodes_in}
use Rattle.cat_table.specs.inside.Here.{naming_at}
use Rattle.cat_table.specs.inside.Nodes.{nodes_text}
use Rattle.cat_table.specs.inside.Walking.{AreReached}
use Rattle.cat_table.proofs.NodeLemmas.{all_reached}
use Rattle.cat_sound.proofs.Exported.{all_at}
use Rattle.cat_table.proofs.TableLemmas.{asked_in, at_some, found_tree, if_some, table_made}
use Rattle.cat_table.proofs.table.written.Goals as goal

pub push_rows-requires-clause-asked : goal.push_rows-requires-clause-asked
push_rows-requires-clause-asked c n =
    let table = c.args.here.now.table.now in
    let s = c.args.search.now in
    let one = found table.targets c.args.target c.requires.target in
    let searched = at_some (λ t. (budget : ℕ) × IsSearchOf table.terms table.atoms t budget s)
    (slice_get table.targets c.args.target) one.0 one.1 c.requires.searched in
    let law = all_at _ table.targets c.args.target one.0 c.searched_trees_ask_atoms_of_the_table.ensures one.1 in
    subst (λ (ns : List TreeNode). IsTrue (ask_below (length table.atoms) (way_from [] (take n ns))))
    (sym c.nodes_in.ensures)
    (asked_in table one.0 s (found_tree table.terms table.atoms one.0 searched.0 s searched.1) law n)

pub push_rows-requires-clause-reached : goal.push_rows-requires-clause-reached
push_rows-requires-clause-reached c =
    let table = c.args.here.now.table.now in
    let s = c.args.search.now in
    let one = found table.targets c.args.target c.requires.target in
    let searched = at_some (λ t. (budget : ℕ) × IsSearchOf table.terms table.atoms t budget s)
    (slice_get table.targets c.args.target) one.0 one.1 c.requires.searched in
    let is = found_tree table.terms table.atoms one.0 searched.0 s searched.1 in
    subst (λ (ns : List TreeNode). AreReached table.atoms (everything table.terms) [] ns) (sym c.nodes_in.ensures)
    (all_reached table.atoms one.0 (everything table.terms) (nodes_in s) is.tree is.tree_is is.searched)

pub returns : goal.returns
returns c =
    let here = c.args.here.now in
    let table = here.table.now in
    let s = c.args.search.now in
    let o = slice_get table.targets c.args.target in
    let first = string_bytes c.in_ok-first.first in
    let one = string_bytes c.push_line.new.text in
    let two = string_bytes c.push_rows.new.text in
    let three = string_bytes c.push_end.new.text in
    let begun : one ≡ ended first = search rules in
    let over : three ≡ two ++ end_text s = search rules in
    if_some o (λ t is.
    let searched = at_some (λ t. (budget : ℕ) × IsSearchOf table.terms table.atoms t budget s) o t is
    c.requires.searched in
    let named : first ≡ first_line table t = search rules in
    table_made (naming_at here) table t s first one two three
    (found_tree table.terms table.atoms t searched.0 s searched.1) named begun
    (at_some (λ t. two ≡ one ++ nodes_text (naming_at here) table t [] c.nodes_in.result.now) o t is
    c.in_ok-push_rows.ensures
    ∙ ap (λ (ns : List TreeNode). one ++ nodes_text (naming_at here) table t [] ns) c.nodes_in.ensures)
    over)
