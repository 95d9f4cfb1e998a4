use Rattle.std.proofs.Common.{◌++◌, ◌+◌, ◌<◌, ◌≤◌, drop, length, List, sym, subst, rules}
use Rattle.std.proofs.lemmas.List.{drop_all}
use Rattle.cat_guard.specs.declared.conjuncts.Conjunct.{Conjunct}
use Rattle.cat_guard.specs.Conjuncts.{AreOfDefs}
use Rattle.cat_guard.proofs.CountLaws.{item_at}
use Rattle.cat_guard.proofs.ConjunctLaws.{AreSoFar, one_made, all_made}
use Rattle.cat_guard.proofs.conjuncts.def_conjuncts.Goals as goal

pub loop-def-init : goal.loop-def-init
loop-def-init c rest are =
    subst (λ (made : List (List Conjunct)). AreOfDefs c.args.defs.now (made ++ rest)) (sym c.new-made.ensures) are

pub loop-def-preserved : goal.loop-def-preserved
loop-def-preserved c =
    let xs = c.args.defs.now in
    let i = c.loop-def.def-index in
    let x = c.def-item.result in
    let within : i < length xs = search rules in
    subst (λ (made : List (List Conjunct)). AreSoFar AreOfDefs (drop (i + 1) xs) xs made) (sym c.in_ok-push.ensures.ok)
    (one_made AreOfDefs xs i x c.loop-def.made c.in_ok-conjuncts.conjuncts (item_at xs i x within c.def-item.is)
    (λ rest are. (c.in_ok-conjuncts.ensures, are)) c.loop-def.invariant)

pub returns : goal.returns
returns c =
    let past : length c.args.defs.now ≤ c.loop-def.def-index = search rules in
    all_made AreOfDefs c.args.defs.now c.loop-def.def-index c.loop-def.made
    (drop_all c.loop-def.def-index c.args.defs.now past) tt c.loop-def.invariant
