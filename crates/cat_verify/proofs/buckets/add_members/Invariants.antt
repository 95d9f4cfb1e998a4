use Rattle.std.proofs.Common.{◌≡◌, ◌<◌, ◌++◌, ℕ, [], get_or, drop, length}
use Rattle.cat_verify.specs.inside.Buckets.{numbers_of}
use Rattle.cat_verify.proofs.buckets.add_members.Given as goal

-- the members passed so far are in their buckets
abbrev pub invariant-loop-member : goal.invariant-loop-member
invariant-loop-member l = (n : ℕ) → n < length l.fn.buckets
    → get_or l.buckets n [] ++ numbers_of n (drop l.member-index l.members)
    ≡ get_or l.fn.buckets n [] ++ numbers_of n l.members
