use Rattle.std.proofs.Common.{◌∙◌, sym, refl}
use Rattle.cat_verify_tables.specs.inside.NamedWords.{item_count}
use Rattle.cat_verify_tables.specs.inside.NamedWords.{IsNamedAsType, IsNamedAsTypeAt, names_in}
use Rattle.cat_verify_tables.proofs.EntryLemmas.{faulty_in, line_more, right_more}
use Rattle.cat_verify_tables.proofs.NameLemmas.{not_one_of, one_of}
use Rattle.cat_verify_tables.proofs.named.refuse_types.Goals as goal

pub returns-then-has-clause-cause : goal.returns-then-has-clause-cause
returns-then-has-clause-cause c =
    let l = c.loop-scope in
    let scope = c.scope-item.result in
    faulty_in item_count (IsNamedAsTypeAt (names_in c.args.types.now)) c.args.first c.args.scopes.now l.scope-index
    scope l.line l.line c.loop-scope-test.true (sym c.scope-item.is) l.invariant.line
    (refl, one_of c.args.types.now scope.name (sym c.has.ensures ∙ c.if-has.true))

pub loop-scope-preserved : goal.loop-scope-preserved
loop-scope-preserved c =
    let scopes = c.args.scopes.now in
    let l = c.loop-scope in
    let scope = c.scope-item.result in
    record {
      line = line_more item_count scopes l.scope-index scope c.args.first l.line c.len.result _
          c.loop-scope-test.true (sym c.scope-item.is) l.invariant.line c.len.ensures
          c.in_ok-line.ensures;
      right = right_more (IsNamedAsType (names_in c.args.types.now)) scopes l.scope-index scope c.loop-scope-test.true
          (sym c.scope-item.is) l.invariant.right
          (not_one_of c.args.types.now scope.name (sym c.has.ensures ∙ c.if-has.false));
    }
