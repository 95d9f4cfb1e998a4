use Rattle.cat_pool.specs.Nodes.{structured}
use Rattle.cat_pool.proofs.LoadingLemmas.{put_value}
use Rattle.cat_pool.proofs.loading.put_fields.Goals as goal

pub returns-clause-value : goal.returns-clause-value
returns-clause-value c =
    put_value c.args.pool.now c.put_structure.new.self (structured c.args.pool.now c.args.parts.now) c.in_ok-r.r
    c.in_ok-r.ensures.ok c.in_ok-r.ensures.place
