use Rattle.cat_dead.specs.inside.Keys.{has_key, key_of}
use Rattle.cat_dead.proofs.KeyLemmas.{key_added}
use Rattle.cat_dead.proofs.winning.add_key.Goals as goal

pub returns : goal.returns
returns c = λ p few.
    key_added p c.args.pos few c.key.ensures.fits c.key.result c.key.ensures.value (has_key c.args.keys.now p)
    (has_key c.insert.new.self p) (c.in_ok-insert.ensures.updates.0 (key_of p))
