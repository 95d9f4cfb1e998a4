-- The reader of types is right.
use Rattle.std.proofs.Common.{◌≡◌, ℕ, zero, suc, ◌≤◌, Bool, refl, sym, subst, arith}
use Rattle.cat_tree.specs.declared.name.Type as types
use Rattle.cat_parse_expr.proofs.Exported as over
use Rattle.cat_parse.proofs.Common.{TokenKind, Parts, End, Word, At, tallest, base_kind, lists_of, type_parts, a_type}
use Rattle.cat_parse.proofs.Common.{Before, IsLow, none_past, IsRightTo}

-- a type has no expression in it
lists_low : (n : ℕ) (ps : Parts) → tallest (lists_of n ps) ≡ tallest ps
lists_low zero ps = refl
lists_low (suc n) ps = lists_low n ps

type_low : (limit : ℕ) (y : types.Type) → tallest (type_parts y End) ≤ limit
type_low limit y =
    subst (λ (m : ℕ). m ≤ limit) (sym (lists_low y.lists (Word (At (base_kind y.base) y.pos) End))) (omega arith)

-- a type, with all of its `list of`
pub a_type_right : (limit bound : ℕ) (out : TokenKind → Bool)
    → IsRightTo limit bound out (λ y. Unit {0}) (λ y. type_parts y End) a_type
a_type_right limit bound out =
    record {
      right =
          over.recast_self bound (λ y. Unit {0}) (IsLow limit (λ y. type_parts y End)) (λ y v. Unit {0})
          (Before out) none_past
          (λ y. Unit {0}) (λ y. Unit {0}) (λ y. type_parts y End) (λ y. type_parts y End) a_type
          (record {
            to = λ y w i. i;
            from = λ y w i. (y, refl, i);
            lows = λ y fit l. type_low limit y;
            back = λ y fit l. tt;
            outside = λ y v fit o. tt;
          })
          (over.a_type_right bound);
    }
