use Rattle.std.proofs.Common.{◌≡◌, ℕ, ◌-◌, ◌≤◌, ◌&&◌, not, nat_lt, subst, sym}
use Rattle.cat_names.specs.Heights.{is_high}
use Rattle.cat_names.specs.Lookup.{nested_list}
use Rattle.cat_declare.specs.inside.Measuring.{measured}
use Rattle.cat_declare.proofs.LowParts.{list_passes}
use Rattle.cat_declare.proofs.heights.Measures.is_high_list.Goals as goal

pub returns-then-height-le-HIGHEST : goal.returns-then-height-le-HIGHEST
returns-then-height-le-HIGHEST c =
    let ds = measured c.args.self.now in
    subst (λ (h : ℕ). nat_lt (64 - h) c.args.lists
    ≡ (is_high ds (nested_list c.args.lists c.args.base.now) && not (is_high ds c.args.base.now)))
    (sym c.height-height.ensures)
    (list_passes ds c.args.lists c.args.base.now
    (subst (λ (h : ℕ). h ≤ 64) c.height-height.ensures c.if-height-le-HIGHEST.true))
