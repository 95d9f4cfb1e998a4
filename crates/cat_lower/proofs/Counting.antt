-- Outputs, as they are counted.
use Rattle.std.proofs.Common.{◌≡◌, ℕ, ◌+◌, Bool, true, false, List, [], ◌∷◌, ap, arith, if◌then◌else◌}
use Rattle.cat_value.specs.declared.declaration.ItemDecl.{ItemDecl}
use Rattle.cat_value.specs.Inputs.{is_output}
use Rattle.cat_lower.specs.Scopes.{output_count}

abbrev outputs_by : ItemDecl → List ItemDecl → Bool → ℕ
outputs_by item items b = if b then 1 + output_count items else output_count items

pub output_next : (count all : ℕ) (items rest : List ItemDecl) (item : ItemDecl) → items ≡ item ∷ rest
    → is_output item.kind ≡ true
    → count + output_count items ≡ all → (count + 1) + output_count rest ≡ all
output_next count all items rest item is output so_far =
    let first : output_count items ≡ outputs_by item rest (is_output item.kind) =
    ap (λ (l : List ItemDecl). output_count l) is in
    let more : outputs_by item rest (is_output item.kind) ≡ 1 + output_count rest =
    ap (λ (b : Bool). outputs_by item rest b) output in
    omega (arith, first, more, so_far)

pub no_output_next : (count all : ℕ) (items rest : List ItemDecl) (item : ItemDecl) → items ≡ item ∷ rest
    → is_output item.kind ≡ false
    → count + output_count items ≡ all → count + output_count rest ≡ all
no_output_next count all items rest item is other so_far =
    let first : output_count items ≡ outputs_by item rest (is_output item.kind) =
    ap (λ (l : List ItemDecl). output_count l) is in
    let more : outputs_by item rest (is_output item.kind) ≡ output_count rest =
    ap (λ (b : Bool). outputs_by item rest b) other in
    omega (arith, first, more, so_far)

pub outputs_end : (count all : ℕ) (items : List ItemDecl) → items ≡ [] → count + output_count items ≡ all → count ≡ all
outputs_end count all items is so_far =
    let none : output_count items ≡ 0 = ap (λ (l : List ItemDecl). output_count l) is in omega (arith, none, so_far)
