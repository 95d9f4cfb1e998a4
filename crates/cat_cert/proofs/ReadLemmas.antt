-- What is read of a text, or why it is refused.
use Rattle.std.proofs.Common.{◌≡◌, ℕ, ◌^◌, ◌<◌, ◌≤◌, inl, inr, Bool, true, false, List, [], ◌∷◌, length, drop}
use Rattle.std.proofs.Common.{Result, Ok, Err, refl, sym, ap, ◌∙◌, subst, arith, length-drop}
use Rattle.std.specs.Prelude.{◌==◌, All, IfOk, IfErr, not}
use Rattle.std.proofs.lemmas.List.Sums.{prefix_len-le-length}
use Rattle.cat_guard.specs.declared.table.Table.{Table}
use Rattle.cat_cert.specs.declared.certificate.Certificate.{Certificate}
use Rattle.cat_cert.specs.declared.refusal.CertRefusal.{CertRefusal}
use Rattle.cat_cert.specs.declared.refusal.CertRefusal.TheVariants as refusal
use Rattle.cat_cert.specs.Lines.{Due, dues_of}
use Rattle.cat_cert.specs.Texts.{parted, byte_before, is_first, passed_over, lines_read}
use Rattle.cat_cert.specs.Causes.{IsRead, IsRefused}
use Rattle.cat_cert.specs.declared.place.Place.{Place}
use Rattle.cat_cert.specs.inside.States.{First}
use Rattle.cat_cert.specs.inside.Steps.{outcome}
use Rattle.cat_cert.specs.inside.Outcomes.{IsStart, ending, Passes, whole_ending}
use Rattle.cat_cert.proofs.AtomReadLemmas.{tables_low}
use Rattle.cat_cert.proofs.FrontLemmas.{none_small, start}
use Rattle.cat_cert.proofs.WhyLemmas.{Explains, explained}

-- ---- where reading begins

pub whole_start : (dues : List Due) (bytes : List ℕ) (place : Place) → IsStart bytes place
    → whole_ending dues bytes ≡ ending (First dues) bytes place
unfolding ending
whole_start dues bytes place is =
    sym (ap (λ (ls : List (List ℕ)). outcome ls (First dues) place.line (parted (drop place.at bytes)).rest) is.lines
    ∙ ap (λ (n : ℕ). outcome (lines_read (parted bytes).ended) (First dues) n (parted (drop place.at bytes)).rest)
    is.passed
    ∙ ap (λ (rest : List ℕ). outcome (lines_read (parted bytes).ended) (First dues) (passed_over (parted bytes).ended)
    rest) is.rest)

-- ---- how many lines there are

before_few : (b : ℕ) (e : List (List ℕ)) (r : List ℕ) → length (byte_before b e r).ended ≤ length e
before_few b [] r = omega arith
before_few b (line ∷ lines) r = omega arith

feed_few : (b : ℕ) (bs : List ℕ) (feed : Bool) → (b == 10) ≡ feed → length (parted bs).ended ≤ length bs
    → length (parted (b ∷ bs)).ended ≤ length (b ∷ bs)
unfolding parted
feed_few b bs true is few = rw is (omega (arith, few))
feed_few b bs false is few =
    rw is (let more = before_few b (parted bs).ended (parted bs).rest in omega (arith, few, more))

pub ended_few : (text : List ℕ) → length (parted text).ended ≤ length text
unfolding parted
ended_few [] = omega arith
ended_few (b ∷ bs) = feed_few b bs (b == 10) refl (ended_few bs)

-- ---- the whole

module _ (tables : List Table) (bytes : List ℕ)
    (numbered : All (λ (table : Table). length table.atoms ≤ 2 ^ 64) tables) (size : length bytes < 2 ^ 64) where
  told : (end : Result Certificate CertRefusal) → whole_ending (dues_of tables) bytes ≡ end
      → Explains tables (passed_over (parted bytes).ended) (lines_read (parted bytes).ended) (parted bytes).rest end
  told end is =
      let ended = (parted bytes).ended in
      let passed = passed_over ended in
      let low = tables_low tables numbered in
      let few = ended_few bytes in
      let within = prefix_len-le-length (λ (line : List ℕ). not (is_first line)) ended in
      let left = length-drop passed ended in
      subst (Explains tables passed (lines_read ended) (parted bytes).rest) is
      (explained tables low passed (parted bytes).rest (lines_read ended) [] [] (start tables low passed) (refl, refl)
      none_small passed (omega arith) (omega (arith, few, within, left, size)))

  pub read_told : (r : Result Certificate CertRefusal)
      → Passes (whole_ending (dues_of tables) bytes) r (λ (c : Certificate). Ok c) → IfOk r (IsRead tables bytes)
  read_told (Ok c) is = told (Ok c) is
  read_told (Err why) is = tt

  memory_told : (why : CertRefusal) → why ≡ refusal.Memory → IsRefused tables bytes why
  memory_told why is = subst (IsRefused tables bytes) (sym is) tt

  pub cause_told : (r : Result Certificate CertRefusal)
      → Passes (whole_ending (dues_of tables) bytes) r (λ (c : Certificate). Ok c) → IfErr r (IsRefused tables bytes)
  cause_told (Ok c) is = tt
  cause_told (Err why) (inl memory) = memory_told why memory
  cause_told (Err why) (inr is) = told (Err why) is
