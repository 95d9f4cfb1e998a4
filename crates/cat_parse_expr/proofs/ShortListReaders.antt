-- Readers that are equal on short lists are right alike.
use Rattle.std.proofs.Common.{◌≡◌, ℕ, ◌≤◌, Bool, List, ◌++◌, length, subst, Some, None, true, false}
use Rattle.cat_parse_expr.proofs.Common.{Token, TokenKind, Parts, Parsed, Reader, Fails, Reads, left_of, Taken, Says}
use Rattle.cat_parse_expr.proofs.Common.{Alike, IsRight, ReadsAsFar, Stood, KeepsWhole}

pub near_right : {B : Type 0} (low : B → Type 0) (bound : ℕ) (out : B → List Token → Type 0) (looks : TokenKind → Bool)
    (fits : B → Type 0) (row : B → Parts) (r s : Reader B) → ((ts : List Token) → length ts ≤ bound → r ts ≡ s ts)
    → IsRight low bound out looks fits row r → IsRight low bound out looks fits row s
near_right {B = B} low bound out looks fits row r s e h = record {
  alive = h.alive;
  taken = λ ts le. subst (λ (o : Parsed B). Taken low fits row o ts) (e ts le) (h.taken ts le);
  says =
      λ ts front y w le. subst (λ (o : Parsed B). ts ≡ front ++ left_of o
      → Alike out looks fits row o front y w → Says low o y w front) (e ts le) (h.says ts front y w le);
}

pub near_keeps : {B : Type 0} (low : B → Type 0) (bound : ℕ) (fits : B → Type 0) (row : B → Parts) (r s : Reader B)
    → ((ts : List Token) → length ts ≤ bound → r ts ≡ s ts) → KeepsWhole low bound fits row r
    → KeepsWhole low bound fits row s
near_keeps {B = B} low bound fits row r s e h = record {
  longest =
      λ ts y w v le text i. subst (λ (o : Parsed B). ReadsAsFar low o y v) (e ts le) (h.longest ts y w v le text i);
  stood = λ ts le. subst (λ (o : Parsed B). Stood low fits row o ts) (e ts le) (h.stood ts le);
}

-- a parse that reads as far as the rest of the tokens, or leaves as much whole
abbrev pub IsFar : {A : Type 0} → Parsed A → List Token → Type 0
IsFar (Reads x left) rest = length left ≤ length rest
IsFar (Fails left deep None) rest = ⊥
IsFar (Fails left deep (Some front)) rest = length front ≤ length rest

pub far_reads : {A : Type 0} (low : A → Type 0) (o : Parsed A) (y : A) (v : List Token) → IsFar o v
    → ReadsAsFar low o y v
far_reads low (Reads x left) y v h = h
far_reads low (Fails left false None) y v h = h
far_reads low (Fails left true None) y v h = absurd h
far_reads low (Fails left false (Some front)) y v h = h
far_reads low (Fails left true (Some front)) y v h = λ fine. h
