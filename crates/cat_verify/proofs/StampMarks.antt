-- What marks say of stamps, and where calls send them.
use Rattle.std.proofs.Common.{◌≡◌, ◌⊎◌, ℕ, nat_eq, Bool, true, false, List}
use Rattle.std.proofs.Common.{Option, Some, None, refl, sym, ap, ◌∙◌, subst}
use Rattle.std.proofs.Common.{inl, inr, arith, if◌then◌else◌}
use Rattle.std.proofs.lemmas.Bool.Decides.{nat_tests}
use Rattle.std.specs.Prelude.{slice_get, option_to_list}
use Rattle.cat_scope.specs.Names.{IsOneOf}
use Rattle.cat_code.specs.declared.instr.Instr.{Instr}
use Rattle.cat_code.specs.declared.instr.Instr.TheVariants as instr
use Rattle.cat_verify.specs.declared.stamps.Arrival.{Arrival}
use Rattle.cat_verify.specs.declared.stamps.Stamps.{Stamps}
use Rattle.cat_verify.specs.declared.stamps.Stamps.TheVariants.{Nobody, One, Two}
use Rattle.cat_verify.specs.inside.Stamped.{ComesTo}
use Rattle.cat_verify.specs.inside.Spreading.{with_stamp, by_call}

-- ---- what a mark says

-- a mark has a stamp, or two others
abbrev pub Covers : Stamps → ℕ → Type 0
Covers Nobody l = ⊥
Covers (One a) l = l ≡ a
Covers (Two a b) l = Unit {0}

-- a mark has a stamp
abbrev pub Has : Stamps → ℕ → Type 0
Has Nobody l = ⊥
Has (One a) l = l ≡ a
Has (Two a b) l = (l ≡ a) ⊎ (l ≡ b)

-- what a mark has comes to its place
abbrev pub IsRight : List Instr → List Arrival → List Arrival → ℕ → Stamps → Type 0
IsRight code starts calls p Nobody = Unit {0}
IsRight code starts calls p (One a) = ComesTo code starts calls a p
IsRight code starts calls p (Two a b) = ComesTo code starts calls a p × ComesTo code starts calls b p × (a ≡ b → ⊥)

pub covered : (o : Stamps) (l : ℕ) → with_stamp o l ≡ None → Covers o l
covered Nobody l h = absurd (cc h)
covered (One a) l h = by (nat_eq a l) refl h
  where
    by : (b : Bool) → nat_eq a l ≡ b → (if b then None else Some (Two a l)) ≡ None → l ≡ a
    by true e h = grind (arith, nat_tests, e)
    by false e h = absurd (cc h)
covered (Two a b) l h = tt

-- a mark with a stamp more
pub record IsMore (code : List Instr) (starts calls : List Arrival) (p l : ℕ) (old new : Stamps) : Type 0 where
  pub right : IsRight code starts calls p old → ComesTo code starts calls l p → IsRight code starts calls p new
  pub kept : (k : ℕ) → Covers old k → Covers new k
  pub covers : Covers new l
  pub has : (k : ℕ) → Has new k → Has old k ⊎ (k ≡ l)

pub more : (code : List Instr) (starts calls : List Arrival) (p l : ℕ) (old new : Stamps) → with_stamp old l ≡ Some new
    → IsMore code starts calls p l old new
more code starts calls p l Nobody new h = subst (IsMore code starts calls p l Nobody) (same h) (record {
  right = λ r comes. comes;
  kept = λ k no. absurd no;
  covers = refl;
  has = λ k h. inr h;
})
  where
    same : Some (One l) ≡ Some new → One l ≡ new
    same h = cc h
more code starts calls p l (One a) new h = by (nat_eq a l) refl h
  where
    by : (b : Bool) → nat_eq a l ≡ b → (if b then None else Some (Two a l)) ≡ Some new
        → IsMore code starts calls p l (One a) new
    by true e h = absurd (cc h)
    by false e h = subst (IsMore code starts calls p l (One a)) (same h) (record {
      right = λ r comes. (r, comes, λ s. grind (arith, nat_tests, e, s));
      kept = λ k h. tt;
      covers = tt;
      has = λ k h. h;
    })
      where
        same : Some (Two a l) ≡ Some new → Two a l ≡ new
        same h = cc h
more code starts calls p l (Two a b) new h = absurd (cc h)

-- ---- what calls lead to

-- an entry is that of a function which an instruction calls
pub record IsCalled (calls : List Arrival) (i : Instr) (entry : Arrival) : Type 0 where
  pub function : ℕ
  pub count : ℕ
  pub call : i ≡ instr.Call function count
  pub found : slice_get calls function ≡ Some entry

pub of_call : (calls : List Arrival) (i : Instr) (entry : Arrival) → IsOneOf entry (by_call calls i)
    → IsCalled calls i entry
of_call calls (instr.Call f n) entry one = by (slice_get calls f) refl one
  where
    by : (o : Option Arrival) → slice_get calls f ≡ o → IsOneOf entry (option_to_list o)
        → IsCalled calls (instr.Call f n) entry
    by None e one = absurd one
    by (Some x) e (inl same) = record { function = f; count = n; call = refl; found = e ∙ ap Some (sym same) }
    by (Some x) e (inr none) = absurd none
of_call calls _ entry one = absurd one

pub in_call : (calls : List Arrival) (f count : ℕ) (entry : Arrival) → slice_get calls f ≡ Some entry
    → IsOneOf entry (by_call calls (instr.Call f count))
in_call calls f count entry is = subst (λ (o : Option Arrival). IsOneOf entry (option_to_list o)) (sym is) (inl refl)
