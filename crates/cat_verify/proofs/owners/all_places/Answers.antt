use Rattle.std.proofs.Common.{◌<◌, ◌+◌, ◌∙◌, arith, length, subst, sym, ℕ}
use Rattle.cat_scope.specs.Names.{AllHave}
use Rattle.cat_verify.specs.declared.buckets.Member.{Member}
use Rattle.cat_verify.specs.inside.OwnerNumbers.{placed_from}
use Rattle.cat_verify.proofs.OwnerLemmas.{members_within}
use Rattle.cat_verify.proofs.owners.all_places.Goals as goal

pub in_buckets-requires : goal.in_buckets-requires
in_buckets-requires c =
    rw (c.as_slice.ensures ∙ c.in_ok-members.ensures)
    (subst (λ (n : ℕ). AllHave (λ (m : Member). m.bucket < n + length c.args.functions.now)
    (placed_from 0 c.args.marks.now)) (sym c.len-scopes.ensures)
    (members_within (length c.args.tables.now.scopes + length c.args.functions.now) 0 c.args.marks.now
    (λ k a is. let below = c.requires.marked.numbers k a is in let same = c.requires.counted in
    omega (arith, below, same))))
