use Rattle.std.proofs.Common.{◌≡◌, ◌∙◌, ℕ, List, subst, ap, arith}
use Rattle.std.specs.Prelude.{IfOk}
use Rattle.cat_image.proofs.ListedLemmas.{fronts, fronts_next, fronts_end}
use Rattle.cat_image.proofs.typed.listed.Goals as goal

pub loop-preserved : goal.loop-preserved
loop-preserved c = c.in_ok-push_str.ensures.bytes ∙ fronts_next c.loop.counter _ c.loop.invariant

pub returns : goal.returns
returns c =
    let most = c.loop.auto.counter-end in
    let test = c.loop-test.false in
    let all : c.loop.counter ≡ c.args.lists = omega (arith, most, test) in
    subst (λ (t : List ℕ). IfOk c.from_string.result (λ text. text ≡ t))
    (c.in_ok-push_str-2.ensures.bytes
    ∙ fronts_end c.args.lists _ c.args.name.now (c.loop.invariant ∙ ap fronts all)) c.from_string.ensures
