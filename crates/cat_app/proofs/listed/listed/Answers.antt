use Rattle.std.proofs.Common.{refl}
use Rattle.cat_app.proofs.listed.listed.Goals as goal

pub returns : goal.returns
returns c = record {
  says = (refl, c.in_ok-text.ensures);
  accepted = c.listings_of_sources_are_accepted.ensures c.requires.gathered.contents c.requires.gathered.main
      c.requires.gathered.line c.requires.gathered.whole c.requires.built c.requires.scopes;
}
