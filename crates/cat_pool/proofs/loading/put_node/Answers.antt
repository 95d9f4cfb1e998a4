use Rattle.cat_pool.specs.Nodes.{lone, value_in}
use Rattle.cat_pool.proofs.LoadingLemmas.{put_value}
use Rattle.cat_pool.proofs.loading.put_node.Goals as goal

pub returns-clause-value : goal.returns-clause-value
returns-clause-value c =
    put_value c.args.pool.now c.put.new.self (lone (value_in c.args.pool.now c.args.node)) c.in_ok-r.r
    c.in_ok-r.ensures.ok c.in_ok-r.ensures.place
