-- Words that the command refuses ask for nothing.
use Rattle.std.proofs.Common.{◌≡◌, [], ◌∷◌, Option, None, refl, inl, inr, subst}
use Rattle.clap.specs.Words.{Kinds, HasKind, kind_of}
use Rattle.clap.specs.declared.error.Error.{Error}
use Rattle.clap.specs.declared.error.kind.ErrorKind.TheVariants.{OutOfMemory}
use Rattle.cat_words.specs.Asked.{where_faultless}

-- an error of no kind is want of memory
pub none_left : (kinds : Kinds) (e : Error) → HasKind kinds e → kinds ≡ [] → kind_of e ≡ OutOfMemory
none_left kinds e has none =
    elim (subst (λ (k : Kinds). HasKind k e) none has) [ inl memory ↦ memory | inr never ↦ absurd never ]

pub refused : {A : Type 0} (kinds : Kinds) (found : Option A) → (kinds ≡ [] → ⊥)
    → None ≡ where_faultless kinds found
refused [] found some = absurd (some refl)
refused (kind ∷ kinds) found some = refl
