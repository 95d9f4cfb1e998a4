-- Rows of types, as operands are popped and as fields are looked up.
use Rattle.std.proofs.Common.{◌≡◌, ℕ, zero, suc, ◌+◌, List, [], ◌∷◌, map, Some, None, slice_get, refl, sym, ap}
use Rattle.std.proofs.Common.{◌∙◌}
use Rattle.std.proofs.Common.{arith}
use Rattle.cat_code.specs.declared.code.Tables.{Tables}
use Rattle.cat_code.specs.Forms as code
use Rattle.cat_code.specs.Forms.{in_row, form_at}
use Rattle.cat_code.specs.Shapes as meant
use Rattle.cat_code.specs.Leads.{Flow, popped}
use Rattle.cat_verify_shapes.specs.declared.forms.Forms.{Forms}
use Rattle.cat_verify_shapes.specs.declared.forms.Form.TheVariants as form
use Rattle.cat_verify_shapes.specs.declared.shape.Shape.{Shape}
use Rattle.cat_verify_shapes.specs.inside.Senses.{Senses, AreSenses}
use Rattle.cat_verify_shapes.specs.inside.Told.{shape_of}
use Rattle.cat_verify_shapes.specs.inside.Making.{PopsRow, IsInRow}

-- ---- operands that are popped

-- some operands were popped, whose types are a row: k more are to come
abbrev pub PopsOn : Senses → Shape → Shape → ℕ → ℕ → List code.Form → Type 0
PopsOn d before now count k ts = (go : code.Forms → meant.Shape → Flow)
    → popped count [] (shape_of d before) (map d.one before.operands) (λ us s. go (in_row us) s)
    ≡ popped k ts (shape_of d before) (map d.one now.operands) (λ us s. go (in_row us) s)

pub record IsPart (d : Senses) (before now : Shape) (count k row : ℕ) : Type 0 where
  pub types : List code.Form
  pub in_row_is : in_row types ≡ d.row row
  pub on : PopsOn d before now count k types

pub record IsRow (tables : Tables) (forms : Forms) (before now : Shape) (count done row : ℕ) : Type 0 where
  pub same : before ≡ record now { operands = before.operands }
  pub told : (d : Senses) → AreSenses tables.decls forms d → (k : ℕ) → count ≡ done + k
      → IsPart d before now count k row

module _ (tables : Tables) (forms : Forms) (before : Shape) (count : ℕ) where
  pub row_begins : (row : ℕ) → slice_get forms.kinds.keys row ≡ Some form.Last
      → IsRow tables forms before before count 0 row
  row_begins row at = record {
    same = refl;
    told = λ d h k e. record {
      types = [];
      in_row_is = sym (h.means row form.Last at).0;
      on = λ go. ap (λ (n : ℕ). popped n [] (shape_of d before) (map d.one before.operands) (λ us s. go (in_row us) s))
          (plain k e);
    };
  }
    where
      plain : (k : ℕ) → count ≡ 0 + k → count ≡ k
      plain k e = omega (arith, e)

  part_more : (d : Senses) (now next : Shape) (k row n m : ℕ) → AreSenses tables.decls forms d
      → now ≡ record next { operands = n ∷ next.operands } → slice_get forms.kinds.keys m ≡ Some (form.More n row)
      → IsPart d before now count (suc k) row → IsPart d before next count k m
  part_more d now next k row n m h is at part = record {
    types = d.one n ∷ part.types;
    in_row_is = ap (code.More (d.one n)) part.in_row_is ∙ sym (h.means m (form.More n row) at).0;
    on = λ go. part.on go
        ∙ ap (λ (x : Shape). popped (suc k) part.types (shape_of d before) (map d.one x.operands)
        (λ us s. go (in_row us) s)) is;
  }

  pub row_more : (now next : Shape) (done row n m : ℕ) → IsRow tables forms before now count done row
      → now ≡ record next { operands = n ∷ next.operands } → slice_get forms.kinds.keys m ≡ Some (form.More n row)
      → IsRow tables forms before next count (done + 1) m
  row_more now next done row n m had is at = record {
    same = had.same ∙ ap (λ (x : Shape). record x { operands = before.operands }) is;
    told = λ d h k e. part_more d now next k row n m h is at (had.told d h (suc k) (less k e));
  }
    where
      less : (k : ℕ) → count ≡ done + 1 + k → count ≡ done + suc k
      less k e = omega (arith, e)

  pub row_ends : (now : Shape) (done row : ℕ) → IsRow tables forms before now count done row → count ≡ done
      → PopsRow tables forms before now count (Some row)
  row_ends now done row had end d h go =
      part.on go
      ∙ ap (λ (ts : code.Forms). go ts (record (shape_of d before) { operands = map d.one now.operands }))
      part.in_row_is
      ∙ ap (λ (x : Shape). go (d.row row) (record (shape_of d x) { operands = map d.one now.operands })) had.same
    where
      none_left : count ≡ done + zero
      none_left = omega (arith, end)

      part : IsPart d before now count zero row
      part = had.told d h zero none_left

  pub row_fails : (now next : Shape) (done row k : ℕ) → IsRow tables forms before now count done row
      → count ≡ done + suc k → now.operands ≡ [] → PopsRow tables forms before next count None
  row_fails now next done row k had left none d h go =
      part.on go
      ∙ ap (λ (ops : List ℕ). popped (suc k) part.types (shape_of d before) (map d.one ops)
      (λ us s. go (in_row us) s)) none
    where
      part : IsPart d before now count (suc k) row
      part = had.told d h (suc k) left

-- ---- fields that are looked up

-- what is left of a row behind so many types
abbrev pub IsBehind : Tables → Forms → ℕ → ℕ → ℕ → Type 0
IsBehind tables forms row rest done = (d : Senses) → AreSenses tables.decls forms d → (k : ℕ)
    → form_at (d.row row) (done + k) ≡ form_at (d.row rest) k

module _ (tables : Tables) (forms : Forms) (row : ℕ) where
  pub behind_none : IsBehind tables forms row row 0
  behind_none d h k = ap (form_at (d.row row)) (plain k)
    where
      plain : (k : ℕ) → 0 + k ≡ k
      plain k = omega arith

  pub behind_more : (rest done n m : ℕ) → IsBehind tables forms row rest done
      → slice_get forms.kinds.keys rest ≡ Some (form.More n m) → IsBehind tables forms row m (done + 1)
  behind_more rest done n m had at d h k =
      ap (form_at (d.row row)) (next k) ∙ had d h (suc k)
      ∙ ap (λ (ts : code.Forms). form_at ts (suc k)) (h.means rest (form.More n m) at).0
    where
      next : (k : ℕ) → done + 1 + k ≡ done + suc k
      next k = omega arith

  pub at_none : (rest done index : ℕ) → IsBehind tables forms row rest done
      → slice_get forms.kinds.keys rest ≡ Some form.Last → (k : ℕ) → index ≡ done + k
      → IsInRow tables forms row index None
  at_none rest done index had at k e d h =
      ap (form_at (d.row row)) e ∙ had d h k
      ∙ ap (λ (ts : code.Forms). form_at ts k) (h.means rest form.Last at).0 ∙ nothing k
    where
      nothing : (k : ℕ) → form_at code.Last k ≡ None
      nothing k = refl

  pub at_first : (rest done index n m : ℕ) → IsBehind tables forms row rest done
      → slice_get forms.kinds.keys rest ≡ Some (form.More n m) → index ≡ done
      → IsInRow tables forms row index (Some n)
  at_first rest done index n m had at e d h =
      ap (form_at (d.row row)) (plain e) ∙ had d h zero
      ∙ ap (λ (ts : code.Forms). form_at ts zero) (h.means rest (form.More n m) at).0
    where
      plain : index ≡ done → index ≡ done + zero
      plain e = omega (arith, e)
