use Rattle.std.proofs.Common.{IsTrue, List, sym, subst, ap, ◌∙◌, rules}
use Rattle.std.specs.List.{list_all}
use Rattle.cat_region.specs.declared.dim.Dim.{Dim}
use Rattle.cat_region.specs.Regions.{is_dim}
use Rattle.cat_guard.specs.Valuations.{dims_of}
use Rattle.cat_guard.proofs.RegionLaws.{sound_dims}
use Rattle.cat_guard.proofs.regions.whole_region.Goals as goal

pub new-requires : goal.new-requires
new-requires c =
    let table = c.args.table.now in
    subst (λ (ds : List Dim). IsTrue (list_all is_dim ds))
    (sym (c.as_slice-2.ensures ∙ c.in_ok-dims.ensures ∙ ap dims_of c.as_slice.ensures))
    (sound_dims table.terms table.atoms table.targets (search rules))
