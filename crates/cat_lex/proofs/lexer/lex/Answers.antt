use Rattle.std.proofs.Common.{◌+◌, take, drop, rules}
use Rattle.cat_lex.specs.Lexes.{HasCause}
use Rattle.cat_lex.proofs.PieceSteps.{split_pieces, fails_at, one_piece_more}
use Rattle.cat_lex.proofs.lexer.lex.Goals as goal

pub returns-in_err-add_piece-clause-cause : goal.returns-in_err-add_piece-clause-cause
returns-in_err-add_piece-clause-cause c =
    let pieces = c.args.pieces.now in
    let i = c.loop-piece.piece-index in
    let cause : HasCause c.args.pieces.now c.in_err-add_piece.field-0.0 =
    fails_at pieces (take i pieces) c.piece-item.result (drop (i + 1) pieces) c.loop-piece.tokens
    c.in_err-add_piece.field-0.0 (split_pieces pieces i c.piece-item.result c.loop-piece-test.true c.piece-item.is)
    c.loop-piece.invariant c.in_err-add_piece.ensures.cause in
    search (rules, cause)

pub loop-piece-preserved : goal.loop-piece-preserved
loop-piece-preserved c =
    one_piece_more c.args.pieces.now c.loop-piece.tokens c.add_piece.new.tokens c.loop-piece.piece-index
    c.piece-item.result c.loop-piece-test.true c.piece-item.is c.loop-piece.invariant c.in_ok-add_piece.ensures.tokens
