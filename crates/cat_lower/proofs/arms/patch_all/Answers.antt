use Rattle.std.proofs.Common.{rules, ◌≡◌, ℕ, List, [], sym, ap, ◌∙◌}
use Rattle.cat_lower.specs.Grown.{all_patched}
use Rattle.cat_lower.proofs.Chained.{last_inside, others_inside, others_patched}
use Rattle.cat_lower.proofs.arms.patch_all.Goals as goal

pub patch-requires : goal.patch-requires
patch-requires c = last_inside c.loop-at.growing _ _ _ c.in-Some.ensures c.loop-at.invariant.within

pub loop-at-preserved : goal.loop-at-preserved
loop-at-preserved c = record {
  within = others_inside _ _ _ _ _ _ c.in-Some.ensures c.patch.ensures c.loop-at.invariant.within;
  whole = others_patched _ _ _ _ _ _ c.in-Some.ensures c.patch.ensures ∙ c.loop-at.invariant.whole;
}

pub returns : goal.returns
returns c =
    let none : c.loop-at.places ≡ [] = search rules in
    sym (ap (λ (ps : List ℕ). all_patched ps c.args.instr c.loop-at.growing) none) ∙ c.loop-at.invariant.whole
