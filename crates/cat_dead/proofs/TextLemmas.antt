-- A certificate of dead definitions as one of version 1 with the same lines.
use Rattle.std.proofs.Common.{◌≡◌, ℕ, zero, suc, ◌+◌, ◌-◌, ◌≤◌, ◌<◌, true, false, Some}
use Rattle.std.proofs.Common.{if◌then◌else◌, List, [], ◌∷◌, ◌++◌, length, take, drop, get_or, codes, refl, sym, ap, ◌∙◌}
use Rattle.std.proofs.Common.{subst, arith, length-drop}
use Rattle.std.proofs.lemmas.List.{length-append, length-take-le, drop_more}
use Rattle.std.proofs.lemmas.Fmt.{decimal_digit}
use Rattle.std.specs.List.{prefix_len}
use Rattle.std.specs.Str.{bytes_eq}
use Rattle.cat_guard.specs.declared.table.Table.{Table}
use Rattle.cat_cert.specs.declared.certificate.Certificate.{Certificate}
use Rattle.cat_cert.specs.declared.certificate.Version.TheVariants as version
use Rattle.cat_cert.specs.declared.refusal.CertRefusal.{CertRefusal}
use Rattle.cat_cert.specs.Causes.{IsRead, IsRefused, IsReadBehind, RefusedBehind}
use Rattle.cat_cert.specs.Lines as lines
use Rattle.cat_cert.specs.Texts.{Parted, is_other, parted}
use Rattle.cat_cert.specs.Texts as certificate
use Rattle.cat_cert.proofs.FeedLemmas as cert
use Rattle.cat_cert.proofs.Exported.{parted_line}
use Rattle.cat_dead.specs.DeadTexts.{first_line, is_first, passed_over, lines_read, as_certificate, lines_of}
use Rattle.cat_dead.specs.DeadTexts.{IsDeadRead, IsDeadRefused}
use Rattle.cat_dead.specs.inside.Reading.{IsLineAt, IsCertificateOf, lines_from, rest_from}

-- ---- lines that are passed over

pub pass_line : (line : List ℕ) (more : List (List ℕ)) → is_first line ≡ false
    → (lines_read (line ∷ more) ≡ lines_read more) × (passed_over (line ∷ more) ≡ suc (passed_over more))
pass_line line more other =
    let one : passed_over (line ∷ more) ≡ 1 + passed_over more = rw other refl in
    let all : passed_over (line ∷ more) ≡ suc (passed_over more) = omega (arith, one) in
    (ap (λ (k : ℕ). drop k (line ∷ more)) all, all)

pub stop_line : (line : List ℕ) (more : List (List ℕ)) → is_first line ≡ true
    → (lines_read (line ∷ more) ≡ line ∷ more) × (passed_over (line ∷ more) ≡ 0)
stop_line line more is =
    let none : passed_over (line ∷ more) ≡ 0 = rw is refl in
    (ap (λ (k : ℕ). drop k (line ∷ more)) none, none)

-- the same of a certificate
stop_first : (line : List ℕ) (more : List (List ℕ)) → certificate.is_first line ≡ true
    → (certificate.lines_read (line ∷ more) ≡ line ∷ more) × (certificate.passed_over (line ∷ more) ≡ 0)
stop_first line more is =
    let none : certificate.passed_over (line ∷ more) ≡ 0 = rw is refl in
    (ap (λ (k : ℕ). drop k (line ∷ more)) none, none)

-- ---- the first line

-- that of a certificate of version 1
abbrev pub first_bytes : List ℕ
first_bytes = codes "catala-certificate 1"

pub first_is : lines.first_line version.One ≡ first_bytes
first_is = rw (decimal_digit 1 (omega arith)) refl

-- ---- a text with so many lines in front in which nothing stands

abbrev pub feeds : ℕ → List ℕ
feeds zero = []
feeds (suc n) = 10 ∷ feeds n

abbrev blanks : ℕ → List (List ℕ)
blanks zero = []
blanks (suc n) = [] ∷ blanks n

pub one_feed : (n : ℕ) → feeds n ++ 10 ∷ [] ≡ feeds (suc n)
one_feed zero = refl
one_feed (suc n) = ap (λ bs. 10 ∷ bs) (one_feed n)

parted_feeds : (n : ℕ) (rest : List ℕ) → parted (feeds n ++ rest)
    ≡ record { ended = blanks n ++ (parted rest).ended; rest = (parted rest).rest }
unfolding parted
parted_feeds zero rest = refl
parted_feeds (suc n) rest =
    ap (λ (p : Parted). record { ended = [] ∷ p.ended; rest = p.rest }) (parted_feeds n rest)

-- behind lines in which nothing stands a certificate begins
blanks_read : (n : ℕ) (line : List ℕ) (more : List (List ℕ)) → certificate.is_first line ≡ true
    → (certificate.lines_read (blanks n ++ line ∷ more) ≡ line ∷ more)
    × (certificate.passed_over (blanks n ++ line ∷ more) ≡ n)
blanks_read zero line more is = stop_first line more is
blanks_read (suc n) line more is =
    let rest = blanks_read n line more is in
    let one = cert.pass_line [] (blanks n ++ line ∷ more) refl in
    (one.0 ∙ rest.0, one.1 ∙ ap suc rest.1)

-- ---- the text that is read

-- the line of a text that may be the first is, behind so many
certificate_is : (bytes : List ℕ) (n at : ℕ) (line rest : List ℕ)
    → lines_read (lines_from bytes at) ≡ lines_read (parted bytes).ended
    → n + passed_over (lines_from bytes at) ≡ passed_over (parted bytes).ended
    → rest_from bytes at ≡ (parted bytes).rest
    → lines_from bytes at ≡ line ∷ (parted rest).ended → rest_from bytes at ≡ (parted rest).rest
    → is_first line ≡ true → bytes_eq line first_line ≡ true
    → IsCertificateOf bytes (feeds n ++ (first_bytes ++ 10 ∷ rest))
certificate_is bytes n at line rest read passed rest_is here rest_here first same =
    let stop = stop_line line (parted rest).ended first in
    let whole : parted (feeds n ++ (first_bytes ++ 10 ∷ rest))
    ≡ record { ended = blanks n ++ first_bytes ∷ (parted rest).ended; rest = (parted rest).rest } =
    parted_feeds n (first_bytes ++ 10 ∷ rest)
    ∙ ap (λ (p : Parted). record { ended = blanks n ++ p.ended; rest = p.rest }) (parted_line first_bytes rest refl) in
    let found = blanks_read n first_bytes (parted rest).ended refl in
    let none : passed_over (lines_from bytes at) ≡ 0 = ap passed_over here ∙ stop.1 in
    let own : lines_read (parted bytes).ended ≡ line ∷ (parted rest).ended =
    sym read ∙ ap lines_read here ∙ stop.0 in
    record {
      passed = ap (λ (p : Parted). certificate.passed_over p.ended) whole ∙ found.1 ∙ omega (arith, passed, none);
      lines_are =
          ap (λ (p : Parted). certificate.lines_read p.ended) whole ∙ found.0
          ∙ sym (ap as_certificate own
          ∙ ap (λ b. (if b then lines.first_line version.One else line) ∷ (parted rest).ended) same
          ∙ ap (λ l. l ∷ (parted rest).ended) first_is);
      rest = ap (λ (p : Parted). p.rest) whole ∙ sym rest_here ∙ rest_is;
      more = (parted rest).ended;
      first = ap (λ (p : Parted). certificate.lines_read p.ended) whole ∙ found.0
          ∙ ap (λ l. l ∷ (parted rest).ended) (sym first_is);
    }

-- ---- line by line

-- the line that ends before a line feed
pub line_is : (bytes : List ℕ) (start end : ℕ) → end ≡ start + prefix_len is_other (drop start bytes)
    → end < length bytes → get_or bytes end 0 ≡ 10 → (line : List ℕ) → line ≡ take (end - start) (drop start bytes)
    → IsLineAt bytes start (Some line)
line_is bytes start end is within feed line same =
    let at = cert.line_at bytes start end is within in
    let count = length-drop start bytes in
    let long : length line ≡ end - start =
    ap length same ∙ length-take-le (end - start) (drop start bytes) (omega (arith, is, within, count)) in
    let here : start + length line ≡ end = omega (arith, long, is) in
    let next : end + 1 ≡ suc (start + length line) = omega (arith, here) in (
      at.ended ∙ ap (λ l. l ∷ lines_from bytes (end + 1)) (sym same) ∙ ap (λ (k : ℕ). line ∷ lines_from bytes k) next,
      at.rest ∙ ap (rest_from bytes) next,
      ap (λ (k : ℕ). drop k bytes) here ∙ drop_more bytes end 0 within
          ∙ ap (λ (b : ℕ). b ∷ drop (end + 1) bytes) feed ∙ ap (λ (k : ℕ). 10 ∷ drop k bytes) next,
    )

-- the lines before a place are passed over, and the text has a line feed for each
pub record IsPassing (bytes text : List ℕ) (at : ℕ) : Type 0 where
  pub within : at ≤ length bytes
  pub feeds_are : text ≡ feeds (length text)
  pub lines : lines_read (lines_from bytes at) ≡ lines_read (parted bytes).ended
  pub passed : length text + passed_over (lines_from bytes at) ≡ passed_over (parted bytes).ended
  pub rest : rest_from bytes at ≡ (parted bytes).rest

module _ (bytes text : List ℕ) (at : ℕ) (known : IsPassing bytes text at) where
  module _ (line : List ℕ) (here : IsLineAt bytes at (Some line)) where
    abbrev next : ℕ
    next = suc (at + length line)

    pub passes_line : is_first line ≡ false → IsPassing bytes (text ++ 10 ∷ []) (at + (length line + 1))
    passes_line other =
        let same : at + (length line + 1) ≡ next = omega arith in
        let pass = pass_line line (lines_from bytes next) other in
        let one : passed_over (line ∷ lines_from bytes next) ≡ suc (passed_over (lines_from bytes next)) = pass.1 in
        let count : passed_over (lines_from bytes at) ≡ passed_over (line ∷ lines_from bytes next) =
        ap passed_over here.0 in
        let before = known.passed in
        let more : length (text ++ 10 ∷ []) ≡ length text + 1 = length-append text (10 ∷ []) in
        let after : passed_over (lines_from bytes (at + (length line + 1))) ≡ passed_over (lines_from bytes next) =
        ap (λ (k : ℕ). passed_over (lines_from bytes k)) same in
        let left = length-drop (at + length line) bytes in
        let some : length (drop (at + length line) bytes) ≡ suc (length (drop next bytes)) = ap length here.2 in
        record {
          within = omega (arith, left, some);
          feeds_are =
              ap (λ bs. bs ++ 10 ∷ []) known.feeds_are ∙ one_feed (length text)
              ∙ ap feeds (let longer : suc (length text) ≡ length (text ++ 10 ∷ []) = omega (arith, more) in longer);
          lines =
              ap (λ (k : ℕ). lines_read (lines_from bytes k)) same ∙ sym pass.0 ∙ sym (ap lines_read here.0)
              ∙ known.lines;
          passed = omega (arith, one, count, before, more, after);
          rest = ap (rest_from bytes) same ∙ sym here.1 ∙ known.rest;
        }

    -- it is the first line
    pub is_certificate : is_first line ≡ true → bytes_eq line first_line ≡ true
        → IsCertificateOf bytes (text ++ (first_bytes ++ drop (at + length line) bytes))
    is_certificate first same =
        subst (λ (bs : List ℕ). IsCertificateOf bytes (text ++ (first_bytes ++ bs))) (sym here.2)
        (subst (λ (bs : List ℕ). IsCertificateOf bytes (bs ++ (first_bytes ++ 10 ∷ drop next bytes)))
        (sym known.feeds_are)
        (certificate_is bytes (length text) at line (drop next bytes) known.lines known.passed
        known.rest here.0 here.1 first same))

-- what is read of the one is read of the other
pub read_as : (table : Table) (bytes text : List ℕ) → IsCertificateOf bytes text → (c : Certificate)
    → IsRead (table ∷ []) text c → IsDeadRead table bytes c
read_as table bytes text is c read = (
  subst (λ (n : ℕ). IsReadBehind (table ∷ []) n (lines_of (parted bytes)) c) is.passed
      (subst (λ (ls : List (List ℕ)). IsReadBehind (table ∷ []) (certificate.passed_over (parted text).ended) ls c)
      is.lines_are read.0),
  sym is.rest ∙ read.1,
)

pub refused_as : (table : Table) (bytes text : List ℕ) → IsCertificateOf bytes text → (why : CertRefusal)
    → IsRefused (table ∷ []) text why → IsDeadRefused table bytes why
refused_as table bytes text is why refused =
    subst (λ (rest : List ℕ). RefusedBehind (table ∷ []) (passed_over (parted bytes).ended) (lines_of (parted bytes))
    rest why) is.rest
    (subst (λ (n : ℕ). RefusedBehind (table ∷ []) n (lines_of (parted bytes)) (parted text).rest why) is.passed
    (subst (λ (ls : List (List ℕ)). RefusedBehind (table ∷ []) (certificate.passed_over (parted text).ended) ls
    (parted text).rest why) is.lines_are refused))
