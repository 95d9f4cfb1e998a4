-- The text of a certificate, and the lines of a text.
use Rattle.std.specs.Prelude.{ℕ, nat_eq, not, ◌==◌, Bool, List, [], ◌∷◌, ◌++◌, drop, if◌then◌else◌}
use Rattle.std.specs.List.{list_all, starts_with, prefix_len}
use Rattle.cat_guard.specs.declared.table.Table.{Table}
use Rattle.cat_guard.specs.declared.tree.CitedTree.{CitedTree}
use Rattle.cat_cert.specs.declared.certificate.Version.{Version}
use Rattle.cat_cert.specs.Lines.{due_name, dues_of, certificate_lines, first_words}

-- lines, each with its line feed
abbrev pub text_of : List (List ℕ) → List ℕ
text_of [] = []
text_of (line ∷ lines) = line ++ 10 ∷ text_of lines

-- the text of a certificate
abbrev pub certificate_text : Version → List Table → List CitedTree → List ℕ
certificate_text v tables trees = text_of (certificate_lines v tables trees)

-- ---- the lines of a text

-- a text by its line feeds: what each ends, and what follows the last
pub record Parted : Type 0 where
  pub ended : List (List ℕ)
  pub rest : List ℕ

-- a byte in front
abbrev pub byte_before : ℕ → List (List ℕ) → List ℕ → Parted
byte_before byte [] rest = record { ended = []; rest = byte ∷ rest }
byte_before byte (line ∷ lines) rest = record { ended = (byte ∷ line) ∷ lines; rest = rest }

-- a text, parted at its line feeds
unfoldable pub parted : List ℕ → Parted
parted [] = record { ended = []; rest = [] }
parted (byte ∷ bytes) =
    if byte == 10
    then record { ended = [] ∷ (parted bytes).ended; rest = (parted bytes).rest }
    else byte_before byte (parted bytes).ended (parted bytes).rest

-- a byte that ends no line
abbrev pub is_other : ℕ → Bool
is_other byte = not (byte == 10)

-- a line holds no line feed
abbrev pub is_line : List ℕ → Bool
is_line line = list_all (λ byte. not (byte == 10)) line

-- nor do the names of scopes and targets
abbrev pub names_are_lines : List Table → Bool
names_are_lines tables = list_all (λ due. is_line (due_name due)) (dues_of tables)

-- ---- where a certificate begins

-- a line with which a certificate may begin
abbrev pub is_first : List ℕ → Bool
is_first line = starts_with nat_eq line first_words

-- how many lines are passed over: those before the first with which a certificate may begin
abbrev pub passed_over : List (List ℕ) → ℕ
passed_over lines = prefix_len (λ line. not (is_first line)) lines

-- the lines from there on
abbrev pub lines_read : List (List ℕ) → List (List ℕ)
lines_read lines = drop (passed_over lines) lines
