use Rattle.std.proofs.Common.{◌≡◌, ◌∙◌, ℕ, ◌<◌, ◌+◌, List, ◌∷◌, ◌++◌, length, Option, Some, None, slice_get, get_or}
use Rattle.std.proofs.Common.{drop, sym, ap, subst, rules, refl}
use Rattle.std.proofs.lemmas.List.{drop_more, get_or_default, append-nil}
use Rattle.std.proofs.lemmas.Option.{slice_get_read, slice_get_past}
use Rattle.cat_value.specs.declared.decls.Decls.{Decls}
use Rattle.cat_value.specs.declared.declaration.ItemDecl.{ItemDecl}
use Rattle.cat_value.specs.declared.outcome.Target.{Target}
use Rattle.cat_scope.specs.Names.{items_in, scope_items}
use Rattle.cat_scope.specs.Forests.{item_targets, targets_of}
use Rattle.cat_scope.proofs.Exported.{append_append}
use Rattle.cat_except.proofs.targets.targets_of.Goals as goal

next_item : (ds : Decls) (scope : ℕ) (items : List ItemDecl) (order : List ℕ) (i n : ℕ) (decl : Option ItemDecl)
    (made : List Target) → i < length order → get_or order i n ≡ n → slice_get items n ≡ decl
    → (made ++ item_targets ds scope n decl) ++ targets_of ds scope items (drop (i + 1) order)
    ≡ made ++ targets_of ds scope items (drop i order)
next_item ds scope items order i n decl made within at is =
    append_append made (item_targets ds scope n decl) (targets_of ds scope items (drop (i + 1) order))
    ∙ ap (λ (o : Option ItemDecl). made
    ++ (item_targets ds scope n o ++ targets_of ds scope items (drop (i + 1) order)))
    (sym is)
    ∙ sym (ap (λ (ns : List ℕ). made ++ targets_of ds scope items ns)
    (drop_more order i n within ∙ ap (λ (m : ℕ). m ∷ drop (i + 1) order) at))

pub loop-item-preserved-in_default : goal.loop-item-preserved-in_default
loop-item-preserved-in_default c =
    let n : ℕ = get_or c.args.order.now c.loop-item.item-index 0 in
    let at : get_or c.args.order.now c.loop-item.item-index n ≡ n = search (rules, get_or_default) in
    let none : slice_get (scope_items c.args.decls.now c.args.scope) n ≡ None =
    subst (λ (items : List ItemDecl). slice_get items n ≡ None)
    (c.as_slice-items.ensures ∙ sym (ap items_in c.at.ensures))
    (slice_get_past c.as_slice-items.result.now n c.in_default.ensures.lookup.3) in
    sym (ap (λ (ts : List Target). ts ++ targets_of c.args.decls.now c.args.scope
    (scope_items c.args.decls.now c.args.scope) (drop (c.loop-item.item-index + 1) c.args.order.now))
    (append-nil c.loop-item.targets))
    ∙ next_item c.args.decls.now c.args.scope (scope_items c.args.decls.now c.args.scope) c.args.order.now
    c.loop-item.item-index n None c.loop-item.targets c.loop-item-test.true at none
    ∙ c.loop-item.invariant

pub loop-item-preserved : goal.loop-item-preserved
loop-item-preserved c =
    let n : ℕ = get_or c.args.order.now c.loop-item.item-index 0 in
    let at : get_or c.args.order.now c.loop-item.item-index n ≡ n = search (rules, get_or_default) in
    let some : slice_get (scope_items c.args.decls.now c.args.scope) n ≡ Some c.in-Some.decl.now =
    subst (λ (items : List ItemDecl). slice_get items n ≡ Some c.in-Some.decl.now)
    (c.as_slice-items.ensures ∙ sym (ap items_in c.at.ensures))
    (slice_get_read c.as_slice-items.result.now (length c.as_slice-items.result.now) n c.in-Some.decl.now refl
    c.in-Some.ensures.lookup.3.0 c.in-Some.ensures.lookup.1) in
    ap (λ (ts : List Target). ts ++ targets_of c.args.decls.now c.args.scope
    (scope_items c.args.decls.now c.args.scope) (drop (c.loop-item.item-index + 1) c.args.order.now))
    c.in_ok-add_item.ensures
    ∙ next_item c.args.decls.now c.args.scope (scope_items c.args.decls.now c.args.scope) c.args.order.now
    c.loop-item.item-index n (Some c.in-Some.decl.now) c.loop-item.targets c.loop-item-test.true at some
    ∙ c.loop-item.invariant
