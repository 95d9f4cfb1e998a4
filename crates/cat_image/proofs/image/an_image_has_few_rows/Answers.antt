use Rattle.cat_image.proofs.FewLemmas.{few_of_image}
use Rattle.cat_image.proofs.image.an_image_has_few_rows.Goals as goal

pub returns : goal.returns
returns c = few_of_image c.args.image.now.tables c.args.image.now.instructions c.an_image_is_listed.ensures
