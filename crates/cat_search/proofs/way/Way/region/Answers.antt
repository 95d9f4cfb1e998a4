use Rattle.std.proofs.Common.{◌≡◌, IsTrue, length, sym, ap, ◌∙◌, subst}
use Rattle.std.specs.Prelude.{IfOk}
use Rattle.cat_region.specs.Regions.{Constraints}
use Rattle.cat_search.specs.Searched.{everything}
use Rattle.cat_search.specs.Ways.{ask_below, led_to}
use Rattle.cat_search.specs.inside.Following.{following}
use Rattle.cat_search.proofs.FollowingLemmas.{ask_back, following_led}
use Rattle.cat_search.proofs.way.Way.region.Goals as goal

pub following-requires : goal.following-requires
following-requires c =
    let bound = length c.args.table.now.atoms in
    subst (λ ns. IsTrue (ask_below bound ns)) (sym c.as_slice.ensures)
    (ask_back bound c.self.inside.answers
    (subst (λ way. IsTrue (ask_below bound way)) (sym c.self.view_is) c.requires))

pub returns : goal.returns
returns c =
    let table = c.args.table.now in
    let whole = everything table.terms in
    let leads : following table.atoms whole c.as_slice.result.now ≡ led_to table.atoms whole c.args.self.now =
    ap (following table.atoms whole) c.as_slice.ensures ∙ following_led table.atoms whole c.self.inside.answers
    ∙ ap (led_to table.atoms whole) c.self.view_is in
    subst (λ (r : Constraints). IfOk c.following.result (λ region. region ≡ r)) leads c.following.ensures
