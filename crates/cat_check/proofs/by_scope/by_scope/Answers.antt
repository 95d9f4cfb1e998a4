use Rattle.std.proofs.Common.{◌∙◌, ◌++◌, [], ◌∷◌, List, ap, sym, subst}
use Rattle.std.proofs.lemmas.List.{append_assoc}
use Rattle.std.specs.Vec.Iter.{into_iter_items}
use Rattle.cat_tree.specs.declared.program.Item.{Item}
use Rattle.cat_check.specs.inside.ByScope.{AreByScope}
use Rattle.cat_check.proofs.Listed.{listed_more}
use Rattle.cat_check.proofs.by_scope.by_scope.Goals as goal

pub loop-item-preserved : goal.loop-item-preserved
loop-item-preserved c =
    let l = c.loop-item in
    let ds = c.args.decls.now in (
      subst (λ (lists : List (List Item)). AreByScope ds (l.yielded ++ c.in-Some.item ∷ []) lists)
          (sym c.in_ok-add_item.ensures)
          (listed_more ds l.yielded l.lists.items c.in-Some.item l.invariant.0),
      append_assoc l.yielded (c.in-Some.item ∷ []) (into_iter_items c.next.new.self)
          ∙ ap (λ (xs : List Item). l.yielded ++ xs) (sym c.in-Some.ensures.steps.0) ∙ l.invariant.1,
    )
