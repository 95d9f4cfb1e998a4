use Rattle.std.proofs.Common.{sym}
use Rattle.cat_verify_tables.specs.inside.HighWords.{IsLowType}
use Rattle.cat_verify_tables.proofs.EntryLemmas.{have_more, one_at}
use Rattle.cat_verify_tables.proofs.NameLemmas.{failed, passed}
use Rattle.cat_verify_tables.proofs.heights.Measures.are_low_types.Goals as goal

pub returns-then-not-is_low_type : goal.returns-then-not-is_low_type
returns-then-not-is_low_type c =
    let l = c.loop-ty in
    let ty = c.ty-item.result in
    record {
      ty = ty;
      one = one_at c.args.types.now l.ty-index ty c.loop-ty-test.true (sym c.ty-item.is);
      high = failed _ _ _ c.is_low_type.ensures c.if-not-is_low_type.true;
    }

pub loop-ty-preserved : goal.loop-ty-preserved
loop-ty-preserved c =
    let l = c.loop-ty in
    let ty = c.ty-item.result in
    have_more (IsLowType c.args.self.now) c.args.types.now l.ty-index ty c.loop-ty-test.true (sym c.ty-item.is)
    l.invariant (passed _ _ _ c.is_low_type.ensures c.if-not-is_low_type.false)
