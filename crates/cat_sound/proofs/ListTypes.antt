-- The forms that go over lists end in values of their types.
use Rattle.std.proofs.Common.{◌≤◌, inl, nat_le, pos, Bool, true, false, if◌then◌else◌, IsTrue, List, [], ◌∷◌, length}
use Rattle.std.proofs.Common.{Result, Ok, refl, ap, ◌∙◌, arith}
use Rattle.std.proofs.lemmas.Bool.Decides.{nat_tests}
use Rattle.cat_pos.specs.declared.pos.Pos.{Pos}
use Rattle.cat_date.specs.declared.rounding.Rounding.TheVariants.{Refuse}
use Rattle.cat_value.specs.declared.ty.Ty.{Ty}
use Rattle.cat_value.specs.declared.ty.Ty.TheVariants as ty
use Rattle.cat_value.specs.declared.ty.Ty.TheViews as ty_view
use Rattle.cat_value.specs.declared.value.Value.{Value}
use Rattle.cat_value.specs.declared.value.Value.TheVariants as flat
use Rattle.cat_value.specs.declared.value.Value.TheViews as value
use Rattle.cat_value.specs.declared.decls.Decls.{Decls}
use Rattle.cat_value.specs.Typing.{is_type, most_elements, all_have_type, elements_typed}
use Rattle.cat_value.proofs.Exported.{has_type_List, list_value}
use Rattle.cat_scope.specs.declared.operators.BinaryOp.TheVariants as binary
use Rattle.cat_scope.specs.declared.operators.SumKind.{SumKind}
use Rattle.cat_scope.specs.declared.operators.SumKind.TheVariants as sum
use Rattle.cat_scope.specs.Runs.{Run, gives, in_front}
use Rattle.cat_scope.specs.Projections.{elements, elements_in}
use Rattle.cat_scope.specs.Operators.{operate, over_one}
use Rattle.cat_scope.specs.Comparing.{equal}
use Rattle.cat_scope.specs.Lists.{for_all, exists, mapped, filtered, combined, contained, zero_of, adding, summed}
use Rattle.cat_scope.specs.Names.{IsOneOf}
use Rattle.cat_scope.specs.Signatures.{Signature, summed_type, compared_types}
use Rattle.cat_scope.specs.Names.{AllHave}
use Rattle.cat_sound.specs.Endings.{Allowed, EndsIn, ResultsIn, IsOf}
use Rattle.cat_sound.proofs.Results.{both, and_both, Any, result_as, result_then}
use Rattle.cat_sound.proofs.Endings.{ends_then, ends_in_front, ends_choose, ends_more}
use Rattle.cat_scope.specs.declared.stop.Stop.{Stop}
use Rattle.cat_sound.proofs.Fits.{whole_decimal}
use Rattle.cat_sound.proofs.FlatTypes.{of-Boolean, of-Integer, of-Decimal, of-Money, of-Duration}
use Rattle.cat_sound.proofs.Comparisons.{equal-ends}
use Rattle.cat_sound.proofs.OperatorTypes.{operators_go_on, type_levels}

-- what holds of the elements of a list of a type
pub record AreElements (ds : Decls) (t : Ty) (vs : List Value) : Type 0 where
  pub declared : IsTrue (is_type ds t)
  pub counted : IsTrue (nat_le (length vs) most_elements)
  pub all : AllHave (IsOf ds t) vs

each_typed : (ds : Decls) (t : Ty) (vs : List Value) → IsTrue (all_have_type ds vs t) → AllHave (IsOf ds t) vs
each_typed ds t [] h = tt
each_typed ds t (v ∷ vs) h = let two = both _ _ h in (two.0, each_typed ds t vs two.1)

all_typed : (ds : Decls) (t : Ty) (vs : List Value) → AllHave (IsOf ds t) vs → IsTrue (all_have_type ds vs t)
all_typed ds t [] h = refl
all_typed ds t (v ∷ vs) h = and_both _ _ h.0 (all_typed ds t vs h.1)

AreElements-of : (ds : Decls) (t : Ty) (vs : List Value) → IsTrue (elements_typed ds vs t) → AreElements ds t vs
AreElements-of ds t vs h =
    let two = both _ _ h in
    let front = both _ _ two.0 in
    record { declared = front.0; counted = front.1; all = each_typed ds t vs two.1 }

pub of-List : (ds : Decls) (t : Ty) (vs : List Value) → AreElements ds t vs → IsOf ds (ty_view.List t) (value.List vs)
of-List ds t vs h = has_type_List ds vs t ∙ and_both _ _ (and_both _ _ h.declared h.counted) (all_typed ds t vs h.all)

pub elements-end : (ds : Decls) (t : Ty) (v : Value) → IsOf ds (ty_view.List t) v
    → ResultsIn (AreElements ds t) (elements v)
elements-end ds t v h =
    let is = list_value ds v t h in
    result_as (AreElements ds t) (elements v) (Ok is.0) (ap elements is.1 ∙ ap elements_in (value.outs-List is.0))
    (AreElements-of ds t is.0 is.2)

-- as many, or no more
shorter : (xs ys : List Value) → length xs ≤ length ys → IsTrue (nat_le (length ys) most_elements)
    → IsTrue (nat_le (length xs) most_elements)
shorter xs ys h g = grind (arith, nat_tests)

-- no more elements than there were, each of a type
pub record AreFrom (ds : Decls) (t : Ty) (vs ws : List Value) : Type 0 where
  pub bounded : length ws ≤ length vs
  pub all : AllHave (IsOf ds t) ws

pub AreElements-from : (ds : Decls) (t u : Ty) (vs ws : List Value) → IsTrue (is_type ds u) → AreElements ds t vs
    → AreFrom ds u vs ws → AreElements ds u ws
AreElements-from ds t u vs ws declared old new =
    record { declared = declared; counted = shorter ws vs new.bounded old.counted; all = new.all }

module _ (allowed : Allowed) (ds : Decls) (t : Ty) where
  pub for_all-ends : (of_each : Value → Run Value)
      → ((v : Value) → IsOf ds t v → EndsIn allowed (IsOf ds ty.Boolean) (of_each v)) → (vs : List Value)
      → AllHave (IsOf ds t) vs
      → EndsIn allowed (IsOf ds ty.Boolean) (for_all of_each vs)
  for_all-ends of_each go [] h = (tt, of-Boolean ds true)
  for_all-ends of_each go (v ∷ vs) h =
      ends_then allowed (IsOf ds ty.Boolean) (IsOf ds ty.Boolean) (of_each v) _ (go v h.0)
      (λ b hb. ends_choose allowed (IsOf ds ty.Boolean) ds b (for_all of_each vs) (gives (flat.Boolean false)) hb
      (for_all-ends of_each go vs h.1) (tt, of-Boolean ds false))

  pub exists-ends : (of_each : Value → Run Value)
      → ((v : Value) → IsOf ds t v → EndsIn allowed (IsOf ds ty.Boolean) (of_each v)) → (vs : List Value)
      → AllHave (IsOf ds t) vs
      → EndsIn allowed (IsOf ds ty.Boolean) (exists of_each vs)
  exists-ends of_each go [] h = (tt, of-Boolean ds false)
  exists-ends of_each go (v ∷ vs) h =
      ends_then allowed (IsOf ds ty.Boolean) (IsOf ds ty.Boolean) (of_each v) _ (go v h.0)
      (λ b hb. ends_choose allowed (IsOf ds ty.Boolean) ds b (gives (flat.Boolean true)) (exists of_each vs) hb
      (tt, of-Boolean ds true) (exists-ends of_each go vs h.1))

  pub mapped-ends : (u : Ty) (of_each : Value → Run Value)
      → ((v : Value) → IsOf ds t v → EndsIn allowed (IsOf ds u) (of_each v)) → (vs : List Value)
      → AllHave (IsOf ds t) vs
      → EndsIn allowed (AreFrom ds u vs) (mapped of_each vs)
  mapped-ends u of_each go [] h = (tt, record { bounded = omega arith; all = tt })
  mapped-ends u of_each go (v ∷ vs) h =
      ends_in_front allowed (IsOf ds u) (AreFrom ds u vs) (AreFrom ds u (v ∷ vs)) (of_each v) (mapped of_each vs)
      (go v h.0) (mapped-ends u of_each go vs h.1)
      (λ w ws hw are. let bounded = are.bounded in record { bounded = omega arith; all = (hw, are.all) })

  more-from : (v : Value) (vs ws : List Value) → IsOf ds t v → AreFrom ds t vs ws → AreFrom ds t (v ∷ vs) (v ∷ ws)
  more-from v vs ws hv are = let bounded = are.bounded in record { bounded = omega arith; all = (hv, are.all) }

  less-from : (v : Value) (vs ws : List Value) → AreFrom ds t vs ws → AreFrom ds t (v ∷ vs) ws
  less-from v vs ws are = let bounded = are.bounded in record { bounded = omega arith; all = are.all }

  pub filtered-ends : (of_each : Value → Run Value)
      → ((v : Value) → IsOf ds t v → EndsIn allowed (IsOf ds ty.Boolean) (of_each v)) → (vs : List Value)
      → AllHave (IsOf ds t) vs
      → EndsIn allowed (AreFrom ds t vs) (filtered of_each vs)
  filtered-ends of_each go [] h = (tt, record { bounded = omega arith; all = tt })
  filtered-ends of_each go (v ∷ vs) h =
      let rest = filtered-ends of_each go vs h.1 in
      ends_then allowed (IsOf ds ty.Boolean) (AreFrom ds t (v ∷ vs)) (of_each v) _ (go v h.0)
      (λ b hb.
      ends_choose allowed (AreFrom ds t (v ∷ vs)) ds b (in_front (gives v) (filtered of_each vs))
      (filtered of_each vs) hb
      (ends_in_front allowed (IsOf ds t) (AreFrom ds t vs) (AreFrom ds t (v ∷ vs)) (gives v) (filtered of_each vs)
      (tt, h.0) rest (λ w ws hw are. record { bounded = (more-from v vs ws h.0 are).bounded; all = (hw, are.all) }))
      (ends_more allowed (AreFrom ds t vs) (AreFrom ds t (v ∷ vs)) (filtered of_each vs) rest (less-from v vs)))

  pub combined-ends : (u : Ty) (of_each : Value → Value → Run Value)
      → ((v w : Value) → IsOf ds t v → IsOf ds u w → EndsIn allowed (IsOf ds u) (of_each v w))
      → (vs : List Value) (total : Value)
      → AllHave (IsOf ds t) vs → IsOf ds u total → EndsIn allowed (IsOf ds u) (combined of_each vs total)
  combined-ends u of_each go [] total h hb = (tt, hb)
  combined-ends u of_each go (v ∷ vs) total h hb =
      ends_then allowed (IsOf ds u) (IsOf ds u) (of_each v total) _ (go v total h.0 hb)
      (λ after ha. combined-ends u of_each go vs after h.1 ha)

  pub contained-ends : (p : Pos) (w : Value) (vs : List Value) → IsOneOf t compared_types → IsOf ds t w
      → AllHave (IsOf ds t) vs → ResultsIn (IsOf ds ty.Boolean) (contained p w vs)
  contained-ends p w [] is hw h = of-Boolean ds false
  contained-ends p w (v ∷ vs) is hw h =
      result_then (Any {A = Bool}) (IsOf ds ty.Boolean) (equal p v w) _
      (equal-ends (IsOf ds) (type_levels ds) p v w t is h.0 hw)
      (λ same hs. either_one same (contained p w vs) (contained-ends p w vs is hw h.1))
    where
      either_one : (same : Bool) (rest : Result Value Stop) → ResultsIn (IsOf ds ty.Boolean) rest
          → ResultsIn (IsOf ds ty.Boolean) (if same then Ok (flat.Boolean true) else rest)
      either_one true rest behind = of-Boolean ds true
      either_one false rest behind = behind

pub zero-typed : (ds : Decls) (kind : SumKind) → IsOf ds (summed_type kind) (zero_of kind)
zero-typed ds sum.Integers = of-Integer ds (pos 0) refl
zero-typed ds sum.Decimals = of-Decimal ds (over_one (pos 0)) (whole_decimal (pos 0) refl)
zero-typed ds sum.Money = of-Money ds (pos 0) refl
zero-typed ds sum.Durations = of-Duration ds (record { months = pos 0; days = pos 0 }) refl

abbrev alike : Ty → Signature
alike t = record { left = t; right = t; result = t }

adding-ends : (ds : Decls) (kind : SumKind) (p : Pos) (v w : Value) → IsOf ds (summed_type kind) v
    → IsOf ds (summed_type kind) w → ResultsIn (IsOf ds (summed_type kind)) (operate Refuse (adding kind) p v w)
adding-ends ds sum.Integers p v w hv hw =
    operators_go_on ds Refuse p v w (alike ty.Integer) binary.AddIntegers (inl refl) hv hw
adding-ends ds sum.Decimals p v w hv hw =
    operators_go_on ds Refuse p v w (alike ty.Decimal) binary.AddDecimals (inl refl) hv hw
adding-ends ds sum.Money p v w hv hw =
    operators_go_on ds Refuse p v w (alike ty.Money) binary.AddMoney (inl refl) hv hw
adding-ends ds sum.Durations p v w hv hw =
    operators_go_on ds Refuse p v w (alike ty.Duration) binary.AddDurations (inl refl) hv hw

pub summed-ends : (ds : Decls) (kind : SumKind) (p : Pos) (vs : List Value) (total : Value)
    → AllHave (IsOf ds (summed_type kind)) vs → IsOf ds (summed_type kind) total
    → ResultsIn (IsOf ds (summed_type kind)) (summed kind p vs total)
summed-ends ds kind p [] total h ht = ht
summed-ends ds kind p (v ∷ vs) total h ht =
    result_then (IsOf ds (summed_type kind)) (IsOf ds (summed_type kind)) (operate Refuse (adding kind) p total v) _
    (adding-ends ds kind p total v ht h.0)
    (λ after ha. summed-ends ds kind p vs after h.1 ha)
