-- A text that is cut, and its parts.
use Rattle.std.proofs.Common.{◌≡◌, ℕ, ◌<◌, Bool, true, false, ◌==◌, List, [], ◌∷◌, ◌++◌, length, Option, Some, None}
use Rattle.std.proofs.Common.{subst, refl, sym, ap, ◌∙◌, arith, length-append}
use Rattle.std.specs.Prelude.{if◌then◌else◌}
use Rattle.std.specs.List.{AllByRecursion}
use Rattle.std.proofs.lemmas.Bool.{eqb-true, eq-eqb}
use Rattle.cat_image.specs.Words.{Text, byte_before, parts, words, has_bytes, is_name_of, is_name}
use Rattle.cat_image.specs.inside.Reads.{in_front, cut}

-- ---- what a cut tells

-- the text and its parts by where it is cut; a front has no byte of that kind
abbrev pub IsCutTo : ℕ → Text → Option (Text × Text) → Type 0
IsCutTo byte text None = parts byte text ≡ text ∷ []
IsCutTo byte text (Some p) =
    (text ≡ p.0 ++ byte ∷ p.1) × (parts byte text ≡ p.0 ∷ parts byte p.1) × (cut byte p.0 ≡ None)

cut_step : (byte b : ℕ) (bs : Text) (same : Bool) → (b == byte) ≡ same → (o : Option (Text × Text)) → IsCutTo byte bs o
    → IsCutTo byte (b ∷ bs) (if same then Some ([], bs) else in_front b o)
unfolding parts cut
cut_step byte b bs true is o told = (ap (λ (c : ℕ). c ∷ bs) (eqb-true b byte is), rw is refl, refl)
cut_step byte b bs false is None told = rw (is, told) refl
cut_step byte b bs false is (Some p) told =
    (ap (λ (t : Text). b ∷ t) told.0, rw (is, told.1) refl, rw (is, told.2) refl)

pub cut_told : (byte : ℕ) (text : Text) → IsCutTo byte text (cut byte text)
unfolding parts cut
cut_told byte [] = refl
cut_told byte (b ∷ bs) = cut_step byte b bs (b == byte) refl (cut byte bs) (cut_told byte bs)

-- what stands behind a cut is shorter
pub shorter_behind : (byte : ℕ) (text : Text) (p : Text × Text) → cut byte text ≡ Some p → length p.1 < length text
shorter_behind byte text p is =
    let told : IsCutTo byte text (Some p) = subst (IsCutTo byte text) is (cut_told byte text) in
    let long = ap length told.0 ∙ length-append p.0 (byte ∷ p.1) in
    omega (arith, long)

-- ---- where a text is cut

front_step : (byte b : ℕ) (bs rest : Text) (same : Bool) → (b == byte) ≡ same → (o : Option (Text × Text))
    → cut byte bs ≡ o
    → (if same then Some ([], bs) else in_front b o) ≡ None
    → (cut byte bs ≡ None → cut byte (bs ++ byte ∷ rest) ≡ Some (bs, rest))
    → cut byte (b ∷ bs ++ byte ∷ rest) ≡ Some (b ∷ bs, rest)
unfolding cut
front_step byte b bs rest true is o at none more = absurd (cc)
front_step byte b bs rest false is (Some p) at none more = absurd (cc)
front_step byte b bs rest false is None at none more = rw (is, more at) refl

-- behind a front without the byte
pub cut_at : (byte : ℕ) (front rest : Text) → cut byte front ≡ None
    → cut byte (front ++ byte ∷ rest) ≡ Some (front, rest)
unfolding cut
cut_at byte [] rest none = rw (eq-eqb byte byte refl) refl
cut_at byte (b ∷ bs) rest none =
    front_step byte b bs rest (b == byte) refl (cut byte bs) refl none (λ lacks. cut_at byte bs rest lacks)

-- ---- parts

-- some part stands first
pub record HasFirst (ps : List Text) : Type 0 where
  pub first : Text
  pub more : List Text
  pub are : ps ≡ first ∷ more

first_before : (b : ℕ) (ps : List Text) → HasFirst (byte_before b ps)
first_before b [] = record { first = b ∷ []; more = []; are = refl }
first_before b (p ∷ ps) = record { first = b ∷ p; more = ps; are = refl }

first_step : (b byte : ℕ) (bs : Text) (same : Bool)
    → HasFirst (if same then [] ∷ parts byte bs else byte_before b (parts byte bs))
first_step b byte bs true = record { first = []; more = parts byte bs; are = refl }
first_step b byte bs false = first_before b (parts byte bs)

pub some_part : (byte : ℕ) (text : Text) → HasFirst (parts byte text)
unfolding parts
some_part byte [] = record { first = []; more = []; are = refl }
some_part byte (b ∷ bs) = first_step b byte bs (b == byte)

-- no byte of that kind stands in a part
abbrev pub AllLack : ℕ → List Text → Type 0
AllLack byte ps = AllByRecursion (λ part. cut byte part ≡ None) ps

before_lacks : (byte b : ℕ) (ps : List Text) → (b == byte) ≡ false → AllLack byte ps → AllLack byte (byte_before b ps)
unfolding cut
before_lacks byte b [] other all = (rw other refl, tt)
before_lacks byte b (p ∷ ps) other all = (rw (other, all.0) refl, all.1)

lacks_step : (byte b : ℕ) (bs : Text) (same : Bool) → (b == byte) ≡ same → AllLack byte (parts byte bs)
    → AllLack byte (if same then [] ∷ parts byte bs else byte_before b (parts byte bs))
unfolding cut
lacks_step byte b bs true is all = (refl, all)
lacks_step byte b bs false is all = before_lacks byte b (parts byte bs) is all

pub parts_lack : (byte : ℕ) (text : Text) → AllLack byte (parts byte text)
unfolding parts cut
parts_lack byte [] = (refl, tt)
parts_lack byte (b ∷ bs) = lacks_step byte b bs (b == byte) refl (parts_lack byte bs)

-- ---- names

not_name : (first : Text) (ps : List Text) → HasFirst ps → is_name_of (first ∷ ps) ≡ false
not_name first ps has = ap (λ (ws : List Text). is_name_of (first ∷ ws)) has.are

-- whether a text is a name, by where it is cut
abbrev pub IsNameBy : Text → Option (Text × Text) → Type 0
IsNameBy text None = is_name text ≡ has_bytes text
IsNameBy text (Some p) = is_name text ≡ false

name_step : (text : Text) (o : Option (Text × Text)) → IsCutTo 32 text o → IsNameBy text o
name_step text None told = ap is_name_of told
name_step text (Some p) told = ap is_name_of told.1 ∙ not_name p.0 (words p.1) (some_part 32 p.1)

pub name_by : (text : Text) → IsNameBy text (cut 32 text)
name_by text = name_step text (cut 32 text) (cut_told 32 text)

no_blank : (text : Text) (o : Option (Text × Text)) → cut 32 text ≡ o → IsNameBy text o → is_name text ≡ true
    → cut 32 text ≡ None
no_blank text None at by named = at
no_blank text (Some p) at by named = absurd (cc)

-- a name has no blank
pub cut_name : (name : Text) → is_name name ≡ true → cut 32 name ≡ None
cut_name name named = no_blank name (cut 32 name) refl (name_by name) named

-- whether a text is a name, as it is found out
pub name_cut : (text : Text) (p : Text × Text) → Some p ≡ cut 32 text → false ≡ is_name text
name_cut text p at = sym (subst (IsNameBy text) (sym at) (name_by text))

pub name_uncut : (text : Text) → None ≡ cut 32 text → has_bytes text ≡ is_name text
name_uncut text at = sym (subst (IsNameBy text) (sym at) (name_by text))
