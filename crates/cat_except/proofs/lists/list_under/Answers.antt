use Rattle.std.proofs.Common.{rules, ◌≡◌, ◌∙◌, ℕ, Bool, true, false, List, [], ◌∷◌, ◌++◌}
use Rattle.std.proofs.Common.{ap, Vec, Global}
use Rattle.std.proofs.lemmas.List.{get_or_default}
use Rattle.std.specs.List.{list_any}
use Rattle.cat_except.proofs.Listings.{with_room, room_new, room_old, put_at, on_ok}
use Rattle.cat_except.proofs.lists.list_under.Goals.{then-is_new+in_ok-push, else-is_new}
use Rattle.cat_except.proofs.lists.list_under.Goals as goal

pub returns-clause-lists : goal.returns-clause-lists
returns-clause-lists g c =
    let there : Bool = list_any (g.K.PartialEq.eq c.args.key) c.args.keys.now.keys in
    let roomy : c.if-is_new.lists.items ≡ with_room there c.args.lists.now.items =
    elim c.if-is_new.branch [
      | then-is_new+in_ok-push w ↦ room_new there c.in_ok-index.is_new c.args.lists.now.items c.if-is_new.lists.items
          w.new.result c.in_ok-index.ensures.added w.if-is_new.true
          (ap (λ (v : Vec (List ℕ) Global). v.items) w.lists-is ∙ w.in_ok-push.ensures.items) w.new.ensures
      | else-is_new w ↦ room_old there c.in_ok-index.is_new c.args.lists.now.items c.if-is_new.lists.items
          c.in_ok-index.ensures.added w.if-is_new.false (ap (λ (v : Vec (List ℕ) Global). v.items) w.lists-is)
    ] in
    on_ok c.push-2.result c.push-2.ensures.ok
    (λ grown. put_at g.K.PartialEq.eq c.args.key c.args.number c.args.keys.now.keys c.args.lists.now.items
    c.if-is_new.lists.items c.in_ok-index.index c.push-2.new.self c.requires roomy c.in_ok-index.ensures.index
    (grown ∙ ap (λ (l : List ℕ). l ++ c.args.number ∷ []) (search (rules, get_or_default))))
