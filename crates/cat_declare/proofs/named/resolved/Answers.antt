use Rattle.std.proofs.Common.{◌≡◌, [], rules, subst}
use Rattle.std.proofs.lemmas.Result.{err_from_is_err_and}
use Rattle.cat_declare.specs.inside.Clearing.{IsAmong}
use Rattle.cat_declare.specs.inside.Naming.{unresolved}
use Rattle.cat_declare.specs.inside.Tabling.{tree_at}
use Rattle.cat_declare.proofs.ClearedReplies.{name_refused, refused_by}
use Rattle.cat_declare.proofs.NameFaultSteps.{no_name_fault, unresolved_among}
use Rattle.cat_declare.proofs.named.resolved.Goals as goal

pub returns-clause-none : goal.returns-clause-none
returns-clause-none c =
    let tree = tree_at c.args.tables.now in
    let none : unresolved tree.items ≡ [] = search rules in
    no_name_fault tree c.requires.apart none

pub returns-in_err-clear-clause-cause : goal.returns-in_err-clear-clause-cause
returns-in_err-clear-clause-cause c =
    let tree = tree_at c.args.tables.now in
    let p = err_from_is_err_and c.from_residual-in_err-clear.result c.from_residual-in_err-clear.ensures.1 in
    rw (p.1, p.2) (refused_by tree (unresolved tree.items)
    (name_refused tree (unresolved tree.items) (unresolved_among tree)) c.in_err-clear.field-0.0
    (subst (IsAmong c.in_err-clear.field-0.0) c.in_ok-parts.ensures.faults c.in_err-clear.ensures))
