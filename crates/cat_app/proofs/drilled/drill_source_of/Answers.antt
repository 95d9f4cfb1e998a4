use Rattle.cat_app.proofs.DrillReplies.{no_bands_scope}
use Rattle.cat_app.proofs.Replies.{if_ok}
use Rattle.cat_app.proofs.drilled.drill_source_of.Goals as goal

pub returns : goal.returns
returns c = if_ok c.no_scope.result c.no_scope.ensures (λ reply says.
    no_bands_scope c.args.bands c.args.source.now c.in-Ok.built.program reply c.requires.gathered
    c.in-Ok.ensures.built.accepted (cc (c.scope_named.ensures, c.in-None.is)) says)
