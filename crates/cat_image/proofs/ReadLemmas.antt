-- What is read of a text, by a fact that holds where something is read.
use Rattle.std.proofs.Common.{subst, ◌≡◌, ℕ, Bool, true, false, List, [], ◌∷◌, ◌++◌, Option, Some, None, refl, sym}
use Rattle.std.proofs.Common.{ap, ◌∙◌}
use Rattle.std.proofs.Common.{length, take, drop}
use Rattle.std.specs.Prelude.{if◌then◌else◌}
use Rattle.std.specs.List.{AllByRecursion}
use Rattle.std.specs.Option.{option_map}
use Rattle.std.proofs.lemmas.List.{take_at, drop_at}
use Rattle.cat_image.specs.Words.{Text}
use Rattle.cat_image.specs.inside.Reads.{when, cut}
use Rattle.cat_image.proofs.CutLemmas.{IsCutTo, cut_told}

-- what is there has the property
abbrev pub Holds : {A : Type 0} → (A → Type 0) → Option A → Type 0
Holds P None = Unit {0}
Holds P (Some a) = P a

pub when_holds : {A B : Type 0} (P : B → Type 0) (o : Option A) (f : A → Option B)
    → ((a : A) → o ≡ Some a → Holds P (f a)) → Holds P (when o f)
when_holds P None f each = tt
when_holds P (Some a) f each = each a refl

pub if_holds : {B : Type 0} (P : B → Type 0) (b : Bool) (o : Option B) → (b ≡ true → Holds P o)
    → Holds P (if b then o else None)
if_holds P true o each = each refl
if_holds P false o each = tt

pub map_holds : {A B : Type 0} (P : B → Type 0) (o : Option A) (f : A → B) → ((a : A) → o ≡ Some a → P (f a))
    → Holds P (option_map f o)
map_holds P None f each = tt
map_holds P (Some a) f each = each a refl

-- what is read has the property
pub holds_of : {A : Type 0} (P : A → Type 0) (o : Option A) (a : A) → o ≡ Some a → Holds P o → P a
holds_of P o a is holds = subst (Holds P) is holds

-- ---- texts that are cut

pub cut_text : (byte : ℕ) (text : Text) (p : Text × Text) → cut byte text ≡ Some p → text ≡ p.0 ++ byte ∷ p.1
cut_text byte text p is = (subst (IsCutTo byte text) is (cut_told byte text)).0

-- ---- lists

pub all_append : {A : Type 0} (P : A → Type 0) (xs ys : List A) → AllByRecursion P xs → AllByRecursion P ys
    → AllByRecursion P (xs ++ ys)
all_append P [] ys first last = last
all_append P (x ∷ xs) ys first last = (first.0, all_append P xs ys first.1 last)

pub all_front : {A : Type 0} (P : A → Type 0) (xs ys : List A) → AllByRecursion P (xs ++ ys) → AllByRecursion P xs
all_front P [] ys all = tt
all_front P (x ∷ xs) ys all = (all.0, all_front P xs ys all.1)

pub all_back : {A : Type 0} (P : A → Type 0) (xs ys : List A) → AllByRecursion P (xs ++ ys) → AllByRecursion P ys
all_back P [] ys all = all
all_back P (x ∷ xs) ys all = all_back P xs ys all.1

-- two lists that are joined alike, the first ones of one length
pub same_fronts : {A : Type 0} (xs ys us vs : List A) → length xs ≡ length us → xs ++ ys ≡ us ++ vs
    → (xs ≡ us) × (ys ≡ vs)
same_fronts xs ys us vs long same = (
  sym (take_at xs ys (length xs) refl) ∙ ap (take (length xs)) same ∙ take_at us vs (length xs) (sym long),
  sym (drop_at xs ys (length xs) refl) ∙ ap (drop (length xs)) same ∙ drop_at us vs (length xs) (sym long),
)
