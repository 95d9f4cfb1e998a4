use Rattle.std.proofs.Common.{List, map, sym, ap, ◌∙◌, subst, IsTrue}
use Rattle.std.specs.List.{list_all, list_any}
use Rattle.cat_region.specs.declared.dim.Dim.{Dim}
use Rattle.cat_region.specs.Regions.{is_dim}
use Rattle.cat_region.specs.Extents.{start, is_none}
use Rattle.cat_region.proofs.TrailLemmas.{IsTrail-none}
use Rattle.cat_region.proofs.region.Region.new.Goals as goal

pub invariant_of-result : goal.invariant_of-result
invariant_of-result c =
    IsTrail-none c.in_ok-from_slice.field-0 _ c.is_some_none.result c.from_vec.result
    (subst (λ (ds : List Dim). IsTrue (list_all is_dim ds)) (sym c.in_ok-from_slice.ensures) c.requires)
    (c.left.view_is ∙ c.in_ok-left.ensures ∙ ap (map start) (sym c.in_ok-from_slice.ensures))
    (c.is_some_none.ensures ∙ ap (list_any is_none) (c.as_slice.ensures ∙ sym c.left.view_is))
