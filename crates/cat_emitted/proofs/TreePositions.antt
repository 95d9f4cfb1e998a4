-- The files of the positions that a phrase keeps are those of its tokens.
use Rattle.std.proofs.Common.{ℕ, List, [], ◌∷◌, ◌++◌, subst}
use Rattle.cat_pos.specs.Position.{pos_file}
use Rattle.cat_lex.specs.declared.token.Token.{Token}
use Rattle.cat_tree.specs.Phrase.{Phrase, Parts, Row, End, Word, Part, At, Anywhere, IsSpelling, AreSpelled}
use Rattle.cat_tree.specs.Joined.{◌▸◌, all}
use Rattle.cat_scope.specs.Names.{AllHave}
use Rattle.cat_emitted.proofs.TokenPositions.{AreIn}

-- the files of the positions that are kept have the property
abbrev mutual
  pub HasFiles : (ℕ → Type 0) → Phrase → Type 0
  HasFiles Q (Row r ps) = HaveFiles Q ps

  pub HaveFiles : (ℕ → Type 0) → Parts → Type 0
  HaveFiles Q End = Unit {0}
  HaveFiles Q (Word (At kind pos) ps) = Q (pos_file pos) × HaveFiles Q ps
  HaveFiles Q (Word (Anywhere kind) ps) = HaveFiles Q ps
  HaveFiles Q (Part s e ps) = HasFiles Q e × HaveFiles Q ps

in_front : (Q : ℕ → Type 0) (xs ys : List Token) → AreIn Q (xs ++ ys) → AreIn Q xs
in_front Q [] ys h = tt
in_front Q (x ∷ xs) ys h = (h.0, in_front Q xs ys h.1)

in_back : (Q : ℕ → Type 0) (xs ys : List Token) → AreIn Q (xs ++ ys) → AreIn Q ys
in_back Q [] ys h = h
in_back Q (x ∷ xs) ys h = in_back Q xs ys h.1

mutual
  pub phrase_files : (Q : ℕ → Type 0) (e : Phrase) (tokens : List Token) → IsSpelling e tokens → AreIn Q tokens
      → HasFiles Q e
  phrase_files Q (Row r ps) tokens are has = parts_files Q ps tokens are has

  pub parts_files : (Q : ℕ → Type 0) (ps : Parts) (tokens : List Token) → AreSpelled ps tokens → AreIn Q tokens
      → HaveFiles Q ps
  parts_files Q End tokens are has = tt
  parts_files Q (Word (At kind pos) ps) tokens are has =
      let all = subst (AreIn Q) are.2 has in (
        subst (λ (t : Token). Q (pos_file t.pos)) are.3 all.0,
        parts_files Q ps are.1 are.4 all.1,
      )
  parts_files Q (Word (Anywhere kind) ps) tokens are has =
      parts_files Q ps are.1 are.4 (subst (AreIn Q) are.2 has).1
  parts_files Q (Part s e ps) tokens are has =
      let all = subst (AreIn Q) are.2 has in (
        phrase_files Q e are.0 are.3 (in_front Q are.0 are.1 all),
        parts_files Q ps are.1 are.4 (in_back Q are.0 are.1 all),
      )

-- ---- rows behind one another

pub files_front : (Q : ℕ → Type 0) (ps qs : Parts) → HaveFiles Q (ps ▸ qs) → HaveFiles Q ps
files_front Q End qs h = tt
files_front Q (Word (At kind pos) ps) qs h = (h.0, files_front Q ps qs h.1)
files_front Q (Word (Anywhere kind) ps) qs h = files_front Q ps qs h
files_front Q (Part s e ps) qs h = (h.0, files_front Q ps qs h.1)

pub files_back : (Q : ℕ → Type 0) (ps qs : Parts) → HaveFiles Q (ps ▸ qs) → HaveFiles Q qs
files_back Q End qs h = h
files_back Q (Word (At kind pos) ps) qs h = files_back Q ps qs h.1
files_back Q (Word (Anywhere kind) ps) qs h = files_back Q ps qs h
files_back Q (Part s e ps) qs h = files_back Q ps qs h.1

pub files_all : {A : Type 0} (Q : ℕ → Type 0) (row : A → Parts) (xs : List A) → HaveFiles Q (all row xs)
    → AllHave (λ x. HaveFiles Q (row x)) xs
files_all Q row [] h = tt
files_all Q row (x ∷ xs) h =
    (files_front Q (row x) (all row xs) h, files_all Q row xs (files_back Q (row x) (all row xs) h))
