use Rattle.std.proofs.Common.{rules}
use Rattle.cat_verify_tables.proofs.TypeLemmas.{listed_more}
use Rattle.cat_verify_tables.proofs.types.behind_lists.Goals as goal

pub loop-lists-preserved : goal.loop-lists-preserved
loop-lists-preserved c =
    let l = c.loop-lists in
    let element = c.in-Some.element.now in
    record {
      utf8 = search rules;
      listed = listed_more l.lists c.args.text.now l.rest.now element l.invariant.listed c.in-Some.ensures;
    }
