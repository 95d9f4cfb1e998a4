-- What a sink took in several puts, one behind the other.
use Rattle.std.proofs.Common.{◌≡◌, ◌∙◌, ◌+◌, ℕ, List, [], ◌++◌, length, refl, sym, ap, subst, arith}
use Rattle.std.specs.Prelude.{Option, Some, None, IfSome}
use Rattle.std.specs.Io.KnownBytes.{Appends}
use Rattle.std.proofs.lemmas.List.{append-nil, append_assoc, length-append}
use Rattle.cat_io.specs.Sink.{Shrinks, Sunk, Took}

pub nothing_more : (o : Option (List ℕ)) → Appends o o []
nothing_more None = tt
nothing_more (Some xs) = sym (append-nil xs)

appends_more : (a b c : Option (List ℕ)) (p q : List ℕ) → Appends a b p → Appends b c q → Appends a c (p ++ q)
appends_more None b c p q one two = tt
appends_more (Some xs) None c p q one two = absurd one
appends_more (Some xs) (Some ys) None p q one two = absurd two
appends_more (Some xs) (Some ys) (Some zs) p q one two =
    two ∙ (ap (λ (ws : List ℕ). ws ++ q) one ∙ append_assoc xs p q)

no_less : (o : Option ℕ) → Shrinks o o 0
no_less None = tt
no_less (Some r) = omega arith

shrinks_more : (a b c : Option ℕ) (m n : ℕ) → Shrinks a b m → Shrinks b c n → Shrinks a c (m + n)
shrinks_more None b c m n one two = tt
shrinks_more (Some r) None c m n one two = absurd one
shrinks_more (Some r) (Some s) None m n one two = absurd two
shrinks_more (Some r) (Some s) (Some t) m n one two = omega (arith, one, two)

steady_more : (a b : Option ℕ) (m x y z : ℕ) → Shrinks a b m → IfSome a (λ room. y ≡ x) → IfSome b (λ room. z ≡ y)
    → IfSome a (λ room. z ≡ x)
steady_more None b m x y z shrinks one two = tt
steady_more (Some r) None m x y z shrinks one two = absurd shrinks
steady_more (Some r) (Some s) m x y z shrinks one two = two ∙ one

steady_still : (a : Option ℕ) (x : ℕ) → IfSome a (λ room. x ≡ x)
steady_still None x = tt
steady_still (Some r) x = refl

pub took_nothing : (sink : Sunk) → Took sink sink []
took_nothing sink = record {
  taken = nothing_more sink.taken;
  room = no_less sink.room;
  steady = steady_still sink.room sink.faults;
  no_fewer = omega arith;
}

-- two pieces that were taken, one behind the other, are one
pub took_more : (a b c : Sunk) (p q : List ℕ) → Took a b p → Took b c q → Took a c (p ++ q)
took_more a b c p q one two = record {
  taken = appends_more a.taken b.taken c.taken p q one.taken two.taken;
  room = subst (Shrinks a.room c.room) (sym (length-append p q))
      (shrinks_more a.room b.room c.room (length p) (length q) one.room two.room);
  steady = steady_more a.room b.room (length p) a.faults b.faults c.faults one.room one.steady two.steady;
  no_fewer = omega (arith, one.no_fewer, two.no_fewer);
}
