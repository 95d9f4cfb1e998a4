use Rattle.std.proofs.Common.{◌≡◌, ◌≢◌, ℕ, List, [], ◌++◌, length, ap, ◌∙◌, arith}
use Rattle.std.proofs.lemmas.List.{length-append}
use Rattle.cat_lex.specs.Positions.{position_after}
use Rattle.cat_lex.specs.inside.Steps.{IsAfterGap, IsFirst}
use Rattle.cat_lex.proofs.PieceSteps.{some_first, first_shorter, next_utf8, one_added}
use Rattle.cat_lex.proofs.lexer.add_piece.Goals as goal

pub loop-first-smaller : goal.loop-first-smaller
loop-first-smaller c =
    first_shorter c.in_ok-token.token c.loop-first.pos c.after_gap.result.1 c.loop-first.text.now
    c.after_gap.result.0.now c.in_ok-token.after.now c.after_gap.ensures.gap c.in_ok-token.ensures.first

pub loop-first-preserved : goal.loop-first-preserved
loop-first-preserved c =
    let gap : IsAfterGap c.loop-first.pos c.loop-first.text.now c.after_gap.result.1 c.after_gap.result.0.now =
    c.after_gap.ensures.gap in
    let is : IsFirst c.in_ok-token.token c.after_gap.result.1 c.after_gap.result.0.now c.in_ok-token.after.now =
    c.in_ok-token.ensures.first in
    let some : c.after_gap.result.0.now ≢ [] =
    some_first c.after_gap.result.0.now c.is_empty.result c.is_empty.ensures c.if-is_empty.false in
    let split : c.after_gap.result.0.now ≡ c.front.result.now ++ c.in_ok-token.after.now =
    c.front.ensures ∙ ap (λ (w : List ℕ). c.front.result.now ++ w) c.as_bytes.ensures.value in
    let position : c.position_after-pos.result ≡ position_after c.after_gap.result.1 c.front.result.now =
    c.position_after-pos.ensures.position
    ∙ ap (λ (w : List ℕ). position_after c.after_gap.result.1 w) c.as_bytes-in-loop-first.ensures.value in
    let long : length c.after_gap.result.0.now ≡ length (c.front.result.now ++ c.in_ok-token.after.now) =
    ap (λ (w : List ℕ). length w) split in
    let same : length c.as_bytes-in-loop-first.result.now ≡ length c.front.result.now =
    ap (λ (w : List ℕ). length w) c.as_bytes-in-loop-first.ensures.value in
    record {
      utf8 =
          next_utf8 c.in_ok-token.token c.loop-first.pos c.after_gap.result.1 c.loop-first.text.now
          c.after_gap.result.0.now c.in_ok-token.after.now c.loop-first.invariant.utf8 gap some is;
      added =
          one_added c.args.piece.now c.args.tokens.now c.loop-first.tokens c.push.new.self c.loop-first.text.now
          c.loop-first.pos c.after_gap.result.1 c.position_after-pos.result c.in_ok-token.token
          c.after_gap.result.0.now c.in_ok-token.after.now c.front.result.now
          c.loop-first.invariant.added gap some is split position c.in_ok-push.ensures.ok;
      line = omega (arith, long, length-append c.front.result.now c.in_ok-token.after.now, same);
      column = omega (arith, long, length-append c.front.result.now c.in_ok-token.after.now, same);
    }
