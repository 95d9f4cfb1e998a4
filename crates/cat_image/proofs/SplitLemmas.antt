-- Where a text is split at a character.
use Rattle.std.proofs.Common.{◌≡◌, ◌≢◌, ℕ, suc, ◌<◌, Bool, true, false, ◌==◌, List, [], ◌∷◌, ◌++◌, length, get_or}
use Rattle.std.proofs.Common.{Option, Some, None, refl, sym, ap, ◌∙◌, arith}
use Rattle.std.specs.Prelude.{MatchOption}
use Rattle.std.specs.Option.{option_map}
use Rattle.std.proofs.lemmas.Bool.{ne_eqb}
use Rattle.std.proofs.lemmas.Str.Pattern.{IsSplitOnceResult, split_parts}
use denote.Ref.{Bor}
use Rattle.cat_image.specs.Words.{Text}
use Rattle.cat_image.specs.inside.Reads.{cut}
use Rattle.cat_image.proofs.CutLemmas.{cut_at}

-- a text without the byte
lacks : (byte : ℕ) (bs : Text) → ((i : ℕ) → i < length bs → get_or bs i 0 ≢ byte) → cut byte bs ≡ None
unfolding cut
lacks byte [] none = refl
lacks byte (b ∷ bs) none =
    let first : (b == byte) ≡ false = ne_eqb b byte (none 0 (omega arith)) in
    let rest = lacks byte bs (λ i within. none (suc i) (omega (arith, within))) in
    rw (first, rest) refl

split_by : (byte : ℕ) (bs : Text) (r : Option (Bor Text × Bor Text))
    → MatchOption r ((i : ℕ) → i < length bs → get_or bs i 0 ≢ byte)
    (λ x. (bs ≡ x.0.now ++ (byte ∷ x.1.now)) × ((i : ℕ) → i < length x.0.now → get_or x.0.now i 0 ≢ byte))
    → option_map (λ p. (p.0.now, p.1.now)) r ≡ cut byte bs
split_by byte bs None told = sym (lacks byte bs told)
split_by byte bs (Some x) told =
    sym (ap (cut byte) told.0 ∙ cut_at byte x.0.now x.1.now (lacks byte x.0.now told.1))

-- what `split_once` gives
pub split_is : (byte : ℕ) (bs : Text) (r : Option (Bor Text × Bor Text)) → IsSplitOnceResult byte bs r → byte < 128
    → option_map (λ p. (p.0.now, p.1.now)) r ≡ cut byte bs
split_is byte bs r is low = split_by byte bs r (split_parts byte bs r is low)
