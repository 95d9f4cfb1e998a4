-- The numbers of positions in sets of them.
use Rattle.std.proofs.Common.{◌≡◌, ℕ, ◌+◌, ◌*◌, ◌^◌, ◌<◌, nat_eq, Bool, true, false, ◌&&◌, ◌||◌, refl, ap, ◌∙◌, arith}
use Rattle.std.proofs.Common.{cond}
use Rattle.std.specs.Ordering.{nat_cmp, is_eq}
use Rattle.std.proofs.lemmas.Bool.Decides.{nat_tests}
use Rattle.cat_pos.specs.declared.pos.Pos.{Pos}
use Rattle.cat_dead.specs.Winners.{is_same}
use Rattle.cat_dead.specs.inside.Keys.{key_of}

same_key : (p q : Pos) → p.place < 2 ^ 32 → q.place < 2 ^ 32 → nat_eq (key_of p) (key_of q) ≡ is_same p q
same_key p q few most = by (nat_eq p.line q.line) (nat_eq p.place q.place) refl refl
  where
    by : (a b : Bool) → nat_eq p.line q.line ≡ a → nat_eq p.place q.place ≡ b
        → nat_eq (p.line * 4294967296 + p.place) (q.line * 4294967296 + q.place) ≡ (a && b)
    by true true lines places = grind (arith, nat_tests, lines, places)
    by true false lines places = grind (arith, nat_tests, lines, places)
    by false b lines places = grind (arith, nat_tests, lines, few, most)

key_or : (there old new : Bool) → new ≡ cond there true old → new ≡ (old || there)
key_or true true new is = is
key_or true false new is = is
key_or false true new is = is
key_or false false new is = is

-- the number of a position that is added
pub key_added : (p q : Pos) → p.place < 2 ^ 32 → q.place < 2 ^ 32 → (key : ℕ) → key ≡ key_of q → (old new : Bool)
    → new ≡ cond (is_eq (nat_cmp key (key_of p))) true old → new ≡ (old || is_same p q)
key_added p q few most key key_is old new is =
    let same : is_eq (nat_cmp key (key_of p)) ≡ nat_eq (key_of p) (key_of q) = grind (arith, nat_tests, key_is) in
    key_or (is_same p q) old new (is ∙ ap (λ b. cond b true old) (same ∙ same_key p q few most))
