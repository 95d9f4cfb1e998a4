use Rattle.std.proofs.Common.{◌∙◌, subst, sym}
use Rattle.std.proofs.lemmas.List.{with_items_is}
use Rattle.cat_verify.specs.inside.Buckets.{AreBuckets}
use Rattle.cat_verify.proofs.BucketLemmas.{buckets_of}
use Rattle.cat_verify.proofs.buckets.in_buckets.Goals as goal

pub returns : goal.returns
returns c =
    let old = c.deref_mut.result.now in
    let new = c.add_members.new.buckets in
    let written = with_items_is c.in_ok-buckets.buckets new (c.add_members.auto.buckets ∙ c.deref_mut.ensures.len) in
    subst (AreBuckets c.args.count c.args.members.now) (sym written)
    (buckets_of c.args.count c.args.members.now old new c.requires (c.deref_mut.ensures.value ∙ c.in_ok-buckets.ensures)
    c.add_members.auto.buckets c.in_ok-add_members.ensures)
