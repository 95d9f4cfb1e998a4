-- The order of fractions by cross products.
use Rattle.std.proofs.Common.{◌≡◌, ℕ, suc, ◌*◌, ◌<◌, ℤ, pos, negsuc, ◌*ℤ◌, ◌<ℤ◌, sym, ap, ◌∙◌, arith}
use Rattle.std.proofs.lemmas.Int.{ints}
use Rattle.std.proofs.Math.Nat.{mul-lt-mul_of_pos_right, lt_of_mul-lt-mul_right}
use Rattle.std.specs.declared.cmp.Ordering.{Ordering}
use Rattle.std.specs.declared.cmp.Ordering.TheVariants.{Less, Equal, Greater}
use Rattle.std.specs.Ordering.{int_cmp, ordering_reverse, MatchOrdering}
use Rattle.std.specs.Cmp.{int_ranks, int_cmp_is}
use Rattle.std.proofs.lemmas.Cmp.{int_ranked}
use Rattle.cat_num.specs.Frac.{frac_order}
use Rattle.cat_num.specs.Laws.{IsOrder}
use Rattle.cat_num.proofs.Signs.{times_one}

product_chain : (x y z a b c : ℕ) → 0 < a → 0 < c → x * b < y * a → y * c < z * b → x * c < z * a
product_chain x y z a b c p q h k =
    let first : x * b * c < y * a * c = mul-lt-mul_of_pos_right h q in
    let second : y * c * a < z * b * a = mul-lt-mul_of_pos_right k p in
    lt_of_mul-lt-mul_right b (omega arith)

cross_chain : (x y z : ℤ) (a b c : ℕ) → 0 < a → 0 < b → 0 < c → (x *ℤ pos b) <ℤ (y *ℤ pos a)
    → (y *ℤ pos c) <ℤ (z *ℤ pos b) → (x *ℤ pos c) <ℤ (z *ℤ pos a)
cross_chain (pos x) (pos y) (pos z) a b c p q r h k =
    omega (arith, ints, product_chain x y z a b c p r (omega (arith, ints)) (omega (arith, ints)))
cross_chain (pos x) (pos y) (negsuc z) a b c p q r h k = absurd (omega (arith, ints))
cross_chain (pos x) (negsuc y) z a b c p q r h k = absurd (omega (arith, ints))
cross_chain (negsuc x) (pos y) (negsuc z) a b c p q r h k = absurd (omega (arith, ints))
cross_chain (negsuc x) y (pos z) a b c p q r h k = omega (arith, ints)
cross_chain (negsuc x) (negsuc y) (negsuc z) a b c p q r h k =
    omega (arith, ints, product_chain (suc z) (suc y) (suc x) c b a r p (omega (arith, ints)) (omega (arith, ints)))

reversed : (x y : ℤ) (r : Ordering) → MatchOrdering r (x <ℤ y) (x ≡ y) (y <ℤ x) → int_cmp y x ≡ ordering_reverse r
reversed x y Less h = sym (int_cmp_is y x Greater h)
reversed x y Equal h = sym (int_cmp_is y x Equal (sym h))
reversed x y Greater h = sym (int_cmp_is y x Less h)

pub IsOrder-frac_order : IsOrder frac_order
IsOrder-frac_order = record {
  equal = λ f g. (
    λ e. int_ranked (f.num *ℤ pos g.den) (g.num *ℤ pos f.den) Equal (sym e),
    λ e. sym (int_cmp_is (f.num *ℤ pos g.den) (g.num *ℤ pos f.den) Equal e),
  );
  reverse = λ f g. reversed (f.num *ℤ pos g.den) (g.num *ℤ pos f.den)
      (int_cmp (f.num *ℤ pos g.den) (g.num *ℤ pos f.den)) (int_ranks (f.num *ℤ pos g.den) (g.num *ℤ pos f.den));
  transitive = λ f g h p q r a b. sym (int_cmp_is (f.num *ℤ pos h.den) (h.num *ℤ pos f.den) Less
      (cross_chain f.num g.num h.num f.den g.den h.den p q r (int_ranked (f.num *ℤ pos g.den) (g.num *ℤ pos f.den) Less
      (sym a)) (int_ranked (g.num *ℤ pos h.den) (h.num *ℤ pos g.den) Less (sym b))));
  whole = λ n m. ap (λ x. int_cmp x (m *ℤ pos 1)) (times_one n) ∙ ap (int_cmp n) (times_one m);
}
