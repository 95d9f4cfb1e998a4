use Rattle.std.proofs.Common.{rules}
use Rattle.cat_declare.specs.inside.Clearing.{Clears}
use Rattle.cat_declare.specs.inside.Naming.{repeated}
use Rattle.cat_declare.proofs.ClearedReplies.{caused_where_not, name_refused}
use Rattle.cat_declare.proofs.NameFaultSteps.{repeated_among}
use Rattle.cat_declare.proofs.named.refuse_repeated.Goals as goal

pub returns-clause-cause : goal.returns-clause-cause
returns-clause-cause c =
    let tree = c.args.tree.now in
    let cleared : Clears c.clear.result (repeated tree.items) = search rules in
    caused_where_not tree c.clear.result (repeated tree.items)
    (name_refused tree (repeated tree.items) (repeated_among tree)) cleared
