-- The outputs of a scope, one after another.
use Rattle.std.proofs.Common.{◌≡◌, ◌∙◌, ℕ, ◌+◌, ◌<◌, ◌≤◌, Bool, true, false, List, [], ◌∷◌, ◌++◌, length, take, map}
use Rattle.std.proofs.Common.{get_or, Option, Some, None, refl, sym, ap, subst, arith, slice_get, if◌then◌else◌}
use Rattle.std.proofs.lemmas.List.{take_more, append-nil, map-append, length-map, length-append}
use Rattle.std.proofs.Common.{◌⊎◌, inl, inr, rules, option_map}
use Rattle.std.proofs.lemmas.Option.{slice_get_read, slice_get-map, slice_get_cases, slice_get_within}
use Rattle.std.specs.Option.{unwrap_or}
use Rattle.cat_value.specs.declared.declaration.ItemDecl.{ItemDecl}
use Rattle.cat_value.specs.Inputs.{is_output, outputs_in}
use Rattle.cat_check_names.specs.Table.{Table, with_name, IsTableOf}
use Rattle.cat_check_names.proofs.Tabled.{one_behind}

outputs_push : (items : List ItemDecl) (item : ItemDecl)
    → outputs_in (items ++ item ∷ []) ≡ outputs_in items ++ (if is_output item.kind then item ∷ [] else [])
outputs_push [] item = by (is_output item.kind) where
  by : (b : Bool) → (if b then item ∷ [] else []) ≡ (if b then item ∷ [] else [])
  by b = refl
outputs_push (first ∷ items) item = by (is_output first.kind) (outputs_push items item) where
  by : (b : Bool)
      → outputs_in (items ++ item ∷ []) ≡ outputs_in items ++ (if is_output item.kind then item ∷ [] else [])
      → (if b then first ∷ outputs_in (items ++ item ∷ []) else outputs_in (items ++ item ∷ []))
      ≡ (if b then first ∷ outputs_in items else outputs_in items) ++ (if is_output item.kind then item ∷ [] else [])
  by true rest = ap (λ more. first ∷ more) rest
  by false rest = rest

outputs_more : (items : List ItemDecl) (i : ℕ) (item : ItemDecl) → i < length items → get_or items i item ≡ item
    → outputs_in (take (i + 1) items) ≡ outputs_in (take i items) ++ (if is_output item.kind then item ∷ [] else [])
outputs_more items i item within is =
    ap outputs_in (take_more items i item within ∙ ap (λ x. take i items ++ x ∷ []) is)
    ∙ outputs_push (take i items) item

-- the names and numbers of the outputs among the first items of a scope
abbrev pub AreFirstOutputs : List ItemDecl → ℕ → Table → List ℕ → Type 0
AreFirstOutputs items i names numbers = IsTableOf (λ i. i.name) (outputs_in (take i items)) names
    × (map (slice_get items) numbers ≡ map Some (outputs_in (take i items)))
    × (length numbers ≤ i)

-- an item that is no output
pub no_output : (items : List ItemDecl) (i : ℕ) (item : ItemDecl) (names : Table) (numbers : List ℕ)
    → i < length items → get_or items i item ≡ item → is_output item.kind ≡ false
    → AreFirstOutputs items i names numbers → AreFirstOutputs items (i + 1) names numbers
no_output items i item names numbers within is none before =
    let same : outputs_in (take (i + 1) items) ≡ outputs_in (take i items) =
    outputs_more items i item within is ∙ ap (λ (b : Bool). outputs_in (take i items) ++ (if b then item ∷ [] else []))
    none
    ∙ append-nil (outputs_in (take i items)) in (
      subst (λ outs. IsTableOf (λ k. k.name) outs names) (sym same) before.0,
      before.1 ∙ ap (map Some) (sym same),
      omega (arith, before.2),
    )

-- an item that is one
pub one_output : (items : List ItemDecl) (i : ℕ) (item : ItemDecl) (names new : Table) (numbers more : List ℕ)
    → i < length items → get_or items i item ≡ item → is_output item.kind ≡ true
    → new ≡ with_name names item.name (length numbers) → more ≡ numbers ++ i ∷ []
    → AreFirstOutputs items i names numbers → AreFirstOutputs items (i + 1) new more
one_output items i item names new numbers more within is some named listed before =
    let front : List ItemDecl = outputs_in (take i items) in
    let grown : outputs_in (take (i + 1) items) ≡ front ++ item ∷ [] =
    outputs_more items i item within is ∙ ap (λ (b : Bool). front ++ (if b then item ∷ [] else [])) some in
    let long : length front ≡ length numbers =
    sym (length-map front Some) ∙ sym (ap length before.1) ∙ length-map numbers (slice_get items) in
    let at : slice_get items i ≡ Some item = slice_get_read items (length items) i item refl within (sym is) in (
      subst (λ outs. IsTableOf (λ k. k.name) outs new) (sym grown)
          (one_behind (λ k. k.name) front item (length numbers) names new long before.0 named),
      ap (map (slice_get items)) listed ∙ map-append (slice_get items) numbers (i ∷ [])
          ∙ ap (λ found. found ++ slice_get items i ∷ []) before.1
          ∙ ap (λ found. map Some front ++ found ∷ []) at
          ∙ sym (map-append Some front (item ∷ []))
          ∙ ap (map Some) (sym grown),
      subst (λ (ns : List ℕ). length ns ≤ i + 1) (sym listed) (longer numbers before.2),
    ) where
      longer : (ns : List ℕ) → length ns ≤ i → length (ns ++ i ∷ []) ≤ i + 1
      longer ns short = omega (arith, short, length-append ns (i ∷ []))

-- ---- the item of an output

pub numbers_within : (items outputs : List ItemDecl) (numbers : List ℕ) (k : ℕ)
    → map (slice_get items) numbers ≡ map Some outputs → k < length outputs → k < length numbers
numbers_within items outputs numbers k same within =
    let long : length numbers ≡ length outputs =
    sym (length-map numbers (slice_get items)) ∙ ap length same ∙ length-map outputs Some in
    omega (arith, long, within)

-- the item of that number is the output
pub output_at : (items outputs : List ItemDecl) (numbers : List ℕ) (k item : ℕ)
    → map (slice_get items) numbers ≡ map Some outputs → slice_get numbers k ≡ Some item
    → slice_get items item ≡ slice_get outputs k
output_at items outputs numbers k item same at =
    by (slice_get outputs k)
    (sym (ap (option_map (slice_get items)) at) ∙ sym (slice_get-map (slice_get items) numbers k)
    ∙ ap (λ found. slice_get found k) same ∙ slice_get-map Some outputs k) where
      by : (output : Option ItemDecl) → Some (slice_get items item) ≡ option_map Some output
          → slice_get items item ≡ output
      by None is = absurd (search (rules, is))
      by (Some o) is = ap (λ (found : Option (Option ItemDecl)). unwrap_or found None) is

pub item_within : (items outputs : List ItemDecl) (numbers : List ℕ) (k item : ℕ)
    → map (slice_get items) numbers ≡ map Some outputs → slice_get numbers k ≡ Some item → k < length outputs
    → item < length items
item_within items outputs numbers k item same at within =
    by (slice_get_cases outputs k) where
      by : (slice_get outputs k ≡ slice_get outputs k) × (((x : ItemDecl) × (k < length outputs)
          × (slice_get outputs k ≡ Some x) × (get_or outputs k x ≡ x)) ⊎ ((length outputs ≤ k)
          × (slice_get outputs k ≡ None))) → item < length items
      by (_, inl found) = slice_get_within items item found.0 (output_at items outputs numbers k item same at ∙ found.2)
      by (_, inr past) = absurd (omega (arith, within, past.0))
