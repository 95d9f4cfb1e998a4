use Rattle.cat_image.proofs.ListedWhole.{listing_is_image}
use Rattle.cat_image.proofs.laws.a_listing_is_an_image.Goals as goal

pub returns : goal.returns
returns c = λ listable. listing_is_image c.args.code.now c.args.files.now listable
