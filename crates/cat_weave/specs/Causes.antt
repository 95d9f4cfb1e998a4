-- What each answer of gathering says of the files and of the shelf. A shelf tells some contents, or none.
use Rattle.std.specs.Prelude.{◌≡◌, ◌≢◌, ℕ, ◌+◌, ◌≤◌, Bool, true, false, List, [], ◌∷◌, length, Some, IfSome}
use Rattle.std.specs.Prelude.{Result, Ok, Err, ⊤}
use Rattle.cat_io.specs.Shelf.{Shelved, Keeps, Reads}
use Rattle.cat_io.specs.declared.shelf.ShelfFault.TheVariants as fault
use Rattle.cat_pos.specs.Limits.{most_source_bytes}
use Rattle.cat_pos.specs.declared.pos.Piece.{Piece}
use Rattle.cat_pos.specs.Readable.{AreReadable}
use Rattle.cat_weave.specs.Gathered.{Contents, Ending, Whole, Refused, StopsAt, gathered, limit_after}
use Rattle.cat_weave.specs.declared.source.Source.{Source}
use Rattle.cat_weave.specs.declared.source.GatherRefusal.{GatherRefusal}
use Rattle.cat_weave.specs.declared.source.GatherRefusal.TheVariants.{NotUtf8, FenceOpen, IncludeTwice, Missing}
use Rattle.cat_weave.specs.declared.source.GatherRefusal.TheVariants.{ReadFault, TooLarge, Memory}

-- files hold what is told of them
abbrev pub AreTold : Contents → Contents → Type 0
AreTold told contents = (name : List ℕ) → IfSome (told name) (λ bytes. contents name ≡ Some bytes)

-- files but one hold what is told of them
abbrev pub AreToldBut : List ℕ → Contents → Contents → Type 0
AreToldBut but told contents = (name : List ℕ) → name ≢ but → IfSome (told name) (λ bytes. contents name ≡ Some bytes)

-- gathering ends so, where files hold what is told
abbrev pub HasEnding : Contents → List ℕ → Ending Source → Type 0
HasEnding told main ending = (contents : Contents) × AreTold told contents × (gathered contents main ≡ ending)

-- gathering comes to that file, which the main file is or an include names, after files of so many bytes
abbrev pub ComesTo : Contents → List ℕ → List ℕ → ℕ → Type 0
ComesTo told main name bytes =
    (contents : Contents) × AreToldBut name told contents × (gathered contents main ≡ StopsAt name bytes)

-- each answer has its cause, and tells what the shelf is left as: a refused read has listed its file's name and no
-- other, want of memory may have listed one name, and every other answer leaves the shelf as it was
abbrev pub HasCause : Shelved → Shelved → List ℕ → Result Source GatherRefusal → Type 0
HasCause old new main (Ok source) = (new ≡ old) × HasEnding old.content main (Whole source)
HasCause old new main (Err (NotUtf8 name pos)) =
    (new ≡ old) × HasEnding old.content main (Refused (NotUtf8 name pos))
HasCause old new main (Err (FenceOpen name pos)) =
    (new ≡ old) × HasEnding old.content main (Refused (FenceOpen name pos))
HasCause old new main (Err (IncludeTwice name pos)) =
    (new ≡ old) × HasEnding old.content main (Refused (IncludeTwice name pos))
HasCause old new main (Err (Missing name)) =
    (bytes : ℕ) × ComesTo old.content main name bytes × Reads name (limit_after bytes) old new (Err fault.Missing)
HasCause old new main (Err (ReadFault name)) =
    (bytes : ℕ) × ComesTo old.content main name bytes × Reads name (limit_after bytes) old new (Err fault.Failed)
HasCause old new main (Err (TooLarge name)) =
    (bytes : ℕ) × ComesTo old.content main name bytes × Reads name (limit_after bytes) old new (Err fault.Long)
HasCause old new main (Err Memory) = (name : List ℕ) × Keeps name old new

-- whether a read failed, or memory ran out: these may come whatever is told
abbrev pub is_failure : {T : Type 0} → Result T GatherRefusal → Bool
is_failure (Ok _) = false
is_failure (Err (NotUtf8 name pos)) = false
is_failure (Err (FenceOpen name pos)) = false
is_failure (Err (IncludeTwice name pos)) = false
is_failure (Err (Missing name)) = false
is_failure (Err (ReadFault name)) = true
is_failure (Err (TooLarge name)) = false
is_failure (Err Memory) = true

-- what must be answered, but for failed reads and want of memory: anything where content isn't told
abbrev pub IsAnswerTo : Ending Source → Result Source GatherRefusal → Type 0
IsAnswerTo (Whole source) result = is_failure result ≡ false → result ≡ Ok source
IsAnswerTo (Refused refusal) result = is_failure result ≡ false → result ≡ Err refusal
IsAnswerTo (StopsAt name bytes) result = ⊤

-- how many bytes pieces have together
abbrev pub pieces_total : List Piece → ℕ
pieces_total [] = 0
pieces_total (piece ∷ pieces) = length piece.text + pieces_total pieces

-- pieces each of which can be read as tokens, and that have at most 16 MiB together
pub record AreReadableTogether (pieces : List Piece) : Type 0 where
  pub each : AreReadable pieces
  pub together : pieces_total pieces ≤ most_source_bytes
