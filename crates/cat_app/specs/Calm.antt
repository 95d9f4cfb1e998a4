-- Reads after which no count of a file rose.
use Rattle.std.specs.Prelude.{◌⊎◌, ℕ, List, IfSome}
use Rattle.cat_io.specs.Shelf.{Shelved, Rose}
use Rattle.cat_app.specs.Words.{request_of, listing_of}
use Rattle.cat_app.specs.Asked.{IsReadNow}
use Rattle.cat_app.specs.Executed.{IsListingReadNow}

-- some count of this name rose
abbrev pub NameRose : List ℕ → Shelved → Shelved → Type 0
NameRose name old new =
    Rose name old.misses new.misses ⊎ (Rose name old.faults new.faults ⊎ Rose name old.longs new.longs)

-- no count rose of a file that is read so
abbrev pub NoneRose : (List ℕ → ℕ → Type 0) → Shelved → Shelved → Type 0
NoneRose IsReadSo old new = (name : List ℕ) (limit : ℕ) → IsReadSo name limit → NameRose name old new → ⊥

-- no count of a file rose that the words or an include name
pub record NoFileRose (words : List (List ℕ)) (old new : Shelved) : Type 0 where
  pub of_source : IfSome (request_of words) (λ request. NoneRose (IsReadNow request old) old new)
  pub of_listing : IfSome (listing_of words) (λ request. NoneRose (IsListingReadNow request old) old new)
