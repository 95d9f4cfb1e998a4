-- The types that stand behind the numbers of a table in which each entry names entries in front of it.
use Rattle.std.specs.Prelude.{◌≡◌, ℕ, List, [], ◌∷◌, ◌++◌, Option, Some, None, slice_get}
use Rattle.std.specs.Option.{option_map}
use Rattle.cat_scope.specs.Names.{IsOneOf}
use Rattle.cat_code.specs.Forms as code
use Rattle.cat_verify_shapes.specs.declared.forms.Form.{Form}
use Rattle.cat_verify_shapes.specs.declared.forms.Form.TheVariants as form

-- a type, or types in a row
pub data Kind : Type 0 where
  One : code.Form → Kind
  Row : code.Forms → Kind

abbrev pub type_in : Option Kind → Option code.Form
type_in None = None
type_in (Some (One t)) = Some t
type_in (Some (Row ts)) = None

abbrev pub row_in : Option Kind → Option code.Forms
row_in None = None
row_in (Some (One t)) = None
row_in (Some (Row ts)) = Some ts

-- a type in front of others
abbrev pub in_front : Option code.Form → Option code.Forms → Option Kind
in_front (Some t) (Some ts) = Some (Row (code.More t ts))
in_front _ _ = None

-- what an entry stands for, by what those in front of it stand for
abbrev pub kind_of : List Kind → Form → Option Kind
kind_of ks form.Truth = Some (One code.Truth)
kind_of ks form.Whole = Some (One code.Whole)
kind_of ks form.Fraction = Some (One code.Fraction)
kind_of ks form.Amount = Some (One code.Amount)
kind_of ks form.Day = Some (One code.Day)
kind_of ks form.Span = Some (One code.Span)
kind_of ks (form.Many n) = option_map (λ t. One (code.Many t)) (type_in (slice_get ks n))
kind_of ks (form.Fields n) = option_map (λ ts. One (code.Fields ts)) (row_in (slice_get ks n))
kind_of ks (form.OneOf n) = Some (One (code.OneOf n))
kind_of ks form.Last = Some (Row code.Last)
kind_of ks (form.More n m) = in_front (type_in (slice_get ks n)) (row_in (slice_get ks m))

-- the entries of a table stand for these, of which none stands there twice
pub data AreKinds : List Form → List Kind → Type 0 where
  empty : AreKinds [] []
  grown : (fs : List Form) (ks : List Kind) (f : Form) (k : Kind) → AreKinds fs ks → kind_of ks f ≡ Some k
      → (IsOneOf k ks → ⊥) → AreKinds (fs ++ f ∷ []) (ks ++ k ∷ [])

-- a number stands for a type
abbrev pub StandsFor : List Kind → ℕ → code.Form → Type 0
StandsFor ks n t = slice_get ks n ≡ Some (One t)
