use Rattle.std.proofs.Common.{◌≤◌, ◌<◌, ◌^◌, ◌∷◌, ℕ, List, [], length, rules, IfOk, IfErr, subst}
use Rattle.std.proofs.lemmas.Result.{err_from_is_err_and}
use Rattle.cat_guard.specs.declared.table.Table.{Table}
use Rattle.cat_cert.specs.Causes.{IsRead, IsRefused}
use Rattle.cat_dead.proofs.RefusedLemmas.{all_read, all_trees, all_refused, none_refused, one_numbered}
use Rattle.cat_dead.proofs.reading.read_dead.Goals as goal

pub returns-in_err-text-clause-cause : goal.returns-in_err-text-clause-cause
returns-in_err-text-clause-cause c =
    let p = err_from_is_err_and c.from_residual.result c.from_residual.ensures.1 in
    let table = c.args.table.now in
    let few : length table.atoms ≤ 2 ^ 64 = search rules in
    let size : length c.args.bytes.now < 2 ^ 64 = search rules in
    rw (p.1, p.2) (none_refused table c.args.bytes.now (one_numbered table few) size c.in_err-text.field-0.0
    c.in_err-text.ensures.cause)

pub returns-clause-read : goal.returns-clause-read
returns-clause-read c =
    let text = c.in_ok-text.text in
    let r = c.read_cert.result in
    all_read c.args.table.now c.args.bytes.now text c.in_ok-text.ensures.text r
    (subst (λ (bs : List ℕ). IfOk r (IsRead (c.args.table.now ∷ []) bs)) c.as_slice.ensures
    (subst (λ (ts : List Table). IfOk r (IsRead ts c.as_slice.result.now)) c.from_ref.ensures.value
    c.read_cert.ensures.read))

pub returns-clause-trees : goal.returns-clause-trees
returns-clause-trees c =
    let table = c.args.table.now in
    let text = c.in_ok-text.text in
    let r = c.read_cert.result in
    let size : length text < 2 ^ 64 = search rules in
    all_trees table c.args.bytes.now text c.in_ok-text.ensures.text
    (c.read_trees_are_those_of_targets.ensures (table ∷ []) text) size r
    (subst (λ (bs : List ℕ). IfOk r (IsRead (table ∷ []) bs)) c.as_slice.ensures
    (subst (λ (ts : List Table). IfOk r (IsRead ts c.as_slice.result.now)) c.from_ref.ensures.value
    c.read_cert.ensures.read))

pub returns-clause-cause : goal.returns-clause-cause
returns-clause-cause c =
    let text = c.in_ok-text.text in
    let r = c.read_cert.result in
    all_refused c.args.table.now c.args.bytes.now text c.in_ok-text.ensures.text r
    (subst (λ (bs : List ℕ). IfErr r (IsRefused (c.args.table.now ∷ []) bs)) c.as_slice.ensures
    (subst (λ (ts : List Table). IfErr r (IsRefused ts c.as_slice.result.now)) c.from_ref.ensures.value
    c.read_cert.ensures.cause))
