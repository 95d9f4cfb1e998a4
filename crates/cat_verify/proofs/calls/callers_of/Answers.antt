use Rattle.std.proofs.Common.{◌≡◌, ◌<◌, ◌+◌, ◌∙◌, arith, subst, ℕ}
use Rattle.cat_scope.specs.Names.{AllHave}
use Rattle.cat_verify.specs.declared.buckets.Member.{Member}
use Rattle.cat_verify.specs.inside.CallNumbers.{owner_count, calls_in}
use Rattle.cat_verify.proofs.CallLemmas.{calls_below}
use Rattle.cat_verify.proofs.calls.callers_of.Goals as goal

pub in_buckets-requires : goal.in_buckets-requires
in_buckets-requires c =
    let scopes = c.len.ensures in
    let functions = c.len-2.ensures in
    let count : owner_count c.args.tables.now ≡ c.len.result + c.len-2.result = omega (arith, scopes, functions) in
    rw (c.as_slice.ensures ∙ c.in_ok-calls.ensures)
    (subst (λ (n : ℕ). AllHave (λ (m : Member). m.bucket < n)
    (calls_in c.args.tables.now c.args.code.now c.args.marks.now)) count
    (calls_below c.args.tables.now c.args.code.now c.args.marks.now c.requires))
