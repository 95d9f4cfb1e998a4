use Rattle.std.proofs.Common.{subst, inl, inr, refl}
use Rattle.cat_scope.specs.Names.{AllHave}
use Rattle.cat_verify_tables.specs.inside.HighWords.{HasHighType, IsLowType}
use Rattle.cat_verify_tables.proofs.NameLemmas.{failed, passed}
use Rattle.cat_verify_tables.proofs.heights.Measures.is_low_item.Goals as goal

pub returns-then-not-is_low_type : goal.returns-then-not-is_low_type
returns-then-not-is_low_type c = record {
  ty = c.args.item.now.ty;
  one = inl refl;
  high = failed _ _ _ c.is_low_type.ensures c.if-not-is_low_type.true;
}

pub returns-then-not-are_low_types : goal.returns-then-not-are_low_types
returns-then-not-are_low_types c =
    let high : HasHighType c.args.self.now c.args.item.now.params = subst (HasHighType c.args.self.now)
    c.as_slice.ensures (failed _ _ _ c.are_low_types.ensures c.if-not-are_low_types.true) in
    record { ty = high.ty; one = inr high.one; high = high.high }

pub returns : goal.returns
returns c = record {
  ty = passed _ _ _ c.is_low_type.ensures c.if-not-is_low_type.false;
  params = subst (AllHave (IsLowType c.args.self.now)) c.as_slice.ensures
      (passed _ _ _ c.are_low_types.ensures c.if-not-are_low_types.false);
}
