use Rattle.std.proofs.Common.{sym, ◌∙◌}
use Rattle.cat_dead_report.proofs.ReachedScopes.{same_parts}
use Rattle.cat_dead_report.proofs.faultless.is_faultless.Goals as goal

pub returns : goal.returns
returns c is = record {
  reached = c.requires.reached;
  harmless = λ decl body at also.
      same_parts c.args.program.now c.args.scope c.args.index c.args.target.now c.decls.result.now c.at.result.now
      c.as_slice-items.result.now c.order_of-order.result.now c.defs-definitions.result.now c.decls.ensures c.at.ensures
      c.as_slice-items.ensures c.order_of-order.ensures c.defs-definitions.ensures decl body at also
      (sym c.is_harmless_at.ensures ∙ is);
}
