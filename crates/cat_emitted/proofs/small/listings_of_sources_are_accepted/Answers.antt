use Rattle.cat_emitted.proofs.AcceptedListing.{accepted_listing}
use Rattle.cat_emitted.proofs.small.listings_of_sources_are_accepted.Goals as goal

pub returns : goal.returns
returns c contents main line is whole some size =
    accepted_listing _ c.args.source.now.files c.args.built.now.code
    (c.listings_of_sources_are_fair.ensures contents main line is whole some size) c.lines_tell_one_table.ensures
    c.a_text_has_one_image.ensures
