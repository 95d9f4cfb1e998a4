use Rattle.std.proofs.Common.{◌≡◌, ◌∷◌, [], List, ℕ, Option, IfSome, map, sym, subst, ap, ◌∙◌}
use Rattle.cat_guard.specs.declared.tree.CitedTree.{CitedTree}
use Rattle.cat_guard.specs.Trees.{Tree, tree_of}
use Rattle.cat_walk.specs.Sharing.{named_in, shared, body, with_all, subtrees}
use Rattle.cat_walk.specs.inside.Writing.{CanWrite, Knows, numbers_from, picked}
use Rattle.cat_walk.proofs.ShareLemmas.{can_write, knows, shared_is, whole_there, can_less_root}
use Rattle.cat_walk.proofs.sharing.share.Goals as goal

pub bodies-requires : goal.bodies-requires
bodies-requires c =
    let at = whole_there (tree_of c.args.tree.now.nodes) c.requires in
    let keys = c.number.new.classes.splits.keys in
    let recurs = c.number.new.classes.recurs in
    let done = c.in_ok-root.ensures at.0 (ap tree_of c.as_slice.ensures ∙ at.1.0) at.1.1 c.new-classes.ensures.none in
    let numbers : c.as_slice-3.result.now ≡ numbers_from 0 recurs =
    c.as_slice-3.ensures ∙ c.in_ok-numbers.ensures ∙ ap (numbers_from 0) c.as_slice-2.ensures in
    subst (λ (ns : List (Option ℕ)). CanWrite keys ns []) (sym numbers)
    (can_less_root keys (numbers_from 0 recurs) c.in_ok-root.root
    (can_write at.0 at.1.1 keys recurs c.in_ok-root.root done))

pub in_place-requires : goal.in_place-requires
in_place-requires c =
    let at = whole_there (tree_of c.args.tree.now.nodes) c.requires in
    let keys = c.number.new.classes.splits.keys in
    let recurs = c.number.new.classes.recurs in
    let done = c.in_ok-root.ensures at.0 (ap tree_of c.as_slice.ensures ∙ at.1.0) at.1.1 c.new-classes.ensures.none in
    let numbers : c.as_slice-4.result.now ≡ numbers_from 0 recurs =
    c.as_slice-4.ensures ∙ c.in_ok-numbers.ensures ∙ ap (numbers_from 0) c.as_slice-2.ensures in
    subst (λ (ns : List (Option ℕ)). CanWrite keys ns (c.in_ok-root.root ∷ [])) (sym numbers)
    (can_write at.0 at.1.1 keys recurs c.in_ok-root.root done)

pub returns : goal.returns
returns c =
    let at = whole_there (tree_of c.args.tree.now.nodes) c.requires in
    let t = at.0 in
    let keys = c.number.new.classes.splits.keys in
    let recurs = c.number.new.classes.recurs in
    let root = c.in_ok-root.root in
    let done = c.in_ok-root.ensures t (ap tree_of c.as_slice.ensures ∙ at.1.0) at.1.1 c.new-classes.ensures.none in
    let numbers : c.as_slice-3.result.now ≡ numbers_from 0 recurs =
    c.as_slice-3.ensures ∙ c.in_ok-numbers.ensures ∙ ap (numbers_from 0) c.as_slice-2.ensures in
    let numbers_again : c.as_slice-4.result.now ≡ numbers_from 0 recurs =
    c.as_slice-4.ensures ∙ c.in_ok-numbers.ensures ∙ ap (numbers_from 0) c.as_slice-2.ensures in
    let told = knows t at.1.1 keys recurs root done in
    let known = with_all [] (subtrees t) in
    let first = subst (λ (ns : List (Option ℕ)). Knows keys ns known (named_in t)) (sym numbers) told in
    let second = subst (λ (ns : List (Option ℕ)). Knows keys ns known (named_in t)) (sym numbers_again) told in
    let names_is = c.in_ok-names.ensures known (named_in t) first
    ∙ ap (λ (ns : List (Option ℕ)). map (body (named_in t)) (picked known ns)) numbers in
    let main_is = c.in_ok-main.ensures known (named_in t) t second done.class_is in
    let cited : CitedTree = record { names = c.in_ok-names.names; main = c.in_ok-main.main } in
    subst (λ (o : Option Tree). IfSome o (λ u. cited ≡ shared u)) (sym at.1.0)
    (shared_is t at.1.1 keys recurs root done c.in_ok-names.names c.in_ok-main.main names_is main_is)
