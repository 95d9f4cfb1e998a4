use Rattle.std.proofs.Common.{◌≤◌, ◌^◌, length, arith}
use Rattle.cat_emitted.proofs.BuiltListed.{built_listed}
use Rattle.cat_emitted.proofs.ListedCounts.{listed_few}
use Rattle.cat_emitted.proofs.small.listings_of_sources_are_fair.Goals as goal

pub returns : goal.returns
returns c contents main line is whole some size =
    let code = c.args.built.now.code in
    let counted = listed_few code c.args.source.now.files in
    let few : length code.instructions ≤ 2 ^ 32 = omega (arith, counted, size) in
    let well = built_listed contents main c.args.source.now c.args.built.now is whole line some
    (c.code_is_small.ensures few) in
    record { image = c.a_listing_is_an_image.ensures well.listable; told = well.told; right = well.right }
