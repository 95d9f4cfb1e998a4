use Rattle.std.proofs.Common.{◌≡◌, ◌∙◌, subst, ℕ, ◌-◌, List, true, false, length, take, arith, rules}
use Rattle.std.proofs.lemmas.Grind.{common_steps}
use Rattle.std.proofs.lemmas.Bool.Decides.{nat_tests}
use Rattle.std.proofs.lemmas.Str.{IsCharBoundary-from_drop}
use Rattle.std.specs.Str.{IsUtf8}
use Rattle.cat_weave.specs.Kinds.{is_closing}
use Rattle.cat_weave.specs.inside.Reading.{block_kinds}
use Rattle.cat_weave.proofs.SegmentLemmas.{block_kinds_closed, block_kinds_code, code_before_more, code_before_end}
use Rattle.cat_weave.proofs.SegmentLemmas.{rest_after, front_after, front_is}
use Rattle.cat_weave.proofs.weaver.block_of.Goals as goal

pub range-code-requires-clause-end_boundary : goal.range-code-requires-clause-end_boundary
range-code-requires-clause-end_boundary c =
    let text = c.args.text.now in
    let at = length text - length c.loop-rest.rest.now in
    IsCharBoundary-from_drop text at (omega arith) (subst (λ (s : List ℕ). IsUtf8 s) c.loop-rest.invariant.is_rest
    c.loop-rest.invariant.is_text)

pub returns-then-eq-clause-gives : goal.returns-then-eq-clause-gives
returns-then-eq-clause-gives c =
    let text = c.args.text.now in
    let read : is_closing c.bare.result.now ≡ true = first_of (cc, search rules, grind (arith, common_steps)) in
    let closing = rw c.bare.ensures at read in
    let closed =
    block_kinds_closed c.loop-rest.rest.now c.first_line.result.0.now c.first_line.result.1.now
    c.first_line.ensures.lines closing in
    let code = c.range-code.ensures.value ∙ front_is text (length text - length c.loop-rest.rest.now) in
    rw code (rw closed at c.loop-rest.invariant.before)

pub loop-rest-preserved : goal.loop-rest-preserved
loop-rest-preserved c =
    let text = c.args.text.now in
    let rest = c.loop-rest.rest.now in
    let line = c.first_line.result.0.now in
    let after = c.first_line.result.1.now in
    let read : is_closing c.bare.result.now ≡ false = first_of (cc, search rules, grind (arith, common_steps)) in
    let other = rw c.bare.ensures at read in
    let first = block_kinds_code rest line after c.first_line.ensures.lines other in
    let more =
    front_after text rest line after (omega arith) c.loop-rest.invariant.is_rest c.first_line.ensures.parts in
    record {
      is_text = search rules;
      few = omega arith;
      is_rest = rest_after text rest line after (omega arith) c.loop-rest.invariant.is_rest c.first_line.ensures.parts;
      before = code_before_more (block_kinds text) (block_kinds rest) (block_kinds after)
          (take (length text - length rest) text) line (take (length text - length after) text) c.loop-rest.code_lines
          c.loop-rest.invariant.before first more;
    }

pub returns-clause-gives : goal.returns-clause-gives
returns-clause-gives c =
    let none : length c.loop-rest.rest.now ≡ 0 = first_of (omega arith, search rules, grind (arith, nat_tests)) in
    code_before_end (block_kinds c.args.text.now) _ c.loop-rest.rest.now c.loop-rest.code_lines none
    c.loop-rest.invariant.before
