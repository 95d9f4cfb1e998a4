use Rattle.std.proofs.Common.{rules}
use Rattle.cat_trace.proofs.LogLemmas.{told}
use Rattle.cat_trace.proofs.deciding.trace_lines.Goals as goal

pub returns : goal.returns
returns c =
    told c.log_text.result c.args.code.now.tables c.args.files.now c.args.pieces.now c.args.headings.now
    c.in_ok-placed.placed c.args.log.now (search rules) (search rules)
