-- What a read promises, from what is kept of its answer.
use Rattle.std.proofs.Common.{◌≡◌, ℕ, ◌+◌, Bool, true, false, cond, List, [], ◌∷◌, ◌++◌, refl, sym, arith}
use Rattle.std.specs.Prelude.{◌<◌, length, bytes_eq, Result, Ok, Err, OnOk, Vec, IsNone, IfSome}
use Rattle.std.specs.declared.alloc.Global.{Global}
use Rattle.std.proofs.lemmas.List.Sums.{sum_by_push}
use Rattle.std.proofs.lemmas.Slice.Eq.{bytes_eq-Decides}
use Rattle.cat_io.specs.Shelf.{Shelved, count_of, Rose, GrowsBy, Keeps, Gives, Reads, with_bytes}
use Rattle.cat_io.specs.Stored.{after_read}
use Rattle.cat_io.specs.declared.shelf.ShelfFault.{ShelfFault}
use Rattle.cat_io.specs.declared.shelf.ShelfFault.TheVariants.{Missing, Failed, Long, Memory}

count_of-push : (n name : List ℕ) (names : List (List ℕ)) →
    count_of n (names ++ name ∷ []) ≡ count_of n names + cond (bytes_eq name n) 1 0
unfolding count_of
count_of-push n name names = sum_by_push _ names name

cond-not_true : (b : Bool) → (b ≡ true → ⊥) → ◌≡◌ {A = ℕ} (cond b 1 0) 0
cond-not_true true never = absurd (never refl)
cond-not_true false never = refl

-- a name at the end
grows_by : (name : List ℕ) (old new : List (List ℕ)) → new ≡ old ++ name ∷ [] → GrowsBy name old new
grows_by name old new is = record {
  no_fewer = λ n. rw (is, count_of-push) (omega arith);
  no_other = λ n other.
      let differs : bytes_eq name n ≡ true → ⊥ = λ same. other (sym ((bytes_eq-Decides name n).0 same)) in
      let none = cond-not_true (bytes_eq name n) differs in
      rw (is, count_of-push) (omega (arith, none));
}

rose : (name : List ℕ) (old new : List (List ℕ)) → new ≡ old ++ name ∷ [] → Rose name old new
rose name old new is =
    let same : bytes_eq name name ≡ true = (bytes_eq-Decides name name).1 refl in
    let one : ◌≡◌ {A = ℕ} (cond (bytes_eq name name) 1 0) 1 = rw same refl in
    rw (is, count_of-push) (omega (arith, one))

-- the same list
stays : (name : List ℕ) (names : List (List ℕ)) → GrowsBy name names names
stays name names = record { no_fewer = λ n. omega arith; no_other = λ n other. refl }

-- one list grows by the name, and the others stay
grow : (name : List ℕ) (old new : Shelved) → new.content ≡ old.content → GrowsBy name old.misses new.misses →
    GrowsBy name old.faults new.faults → GrowsBy name old.longs new.longs → Keeps name old new
grow name old new told misses faults longs =
    record { told = told; lists = record { misses = misses; faults = faults; longs = longs } }

-- what is kept of a read's answer is what the answer promises
pub reads_of : (name : List ℕ) (limit : ℕ) (old new : Shelved) (bytes : Vec ℕ Global)
    (result : Result (Unit {0}) ShelfFault) →
    new ≡ after_read old name result → OnOk result (Gives (old.content name) limit bytes.items) →
    (result ≡ Err Missing → IsNone (old.content name)) →
    (result ≡ Err Long → IfSome (old.content name) (λ content. limit < length content)) →
    Reads name limit old new (with_bytes result bytes)
reads_of name limit old new bytes (Ok _) is gives untold longer = (is, gives)
reads_of name limit old new bytes (Err Missing) is gives untold longer = rw is (
  grow name old _ refl (grows_by name old.misses _ refl) (stays name old.faults) (stays name old.longs),
  rose name old.misses _ refl,
  untold refl,
)
reads_of name limit old new bytes (Err Failed) is gives untold longer = rw is (
  grow name old _ refl (stays name old.misses) (grows_by name old.faults _ refl) (stays name old.longs),
  rose name old.faults _ refl,
)
reads_of name limit old new bytes (Err Long) is gives untold longer = rw is (
  grow name old _ refl (stays name old.misses) (stays name old.faults) (grows_by name old.longs _ refl),
  rose name old.longs _ refl,
  longer refl,
)
reads_of name limit old new bytes (Err Memory) is gives untold longer =
    rw is (grow name old old refl (stays name old.misses) (stays name old.faults) (stays name old.longs))
