-- The answers to one who asked for a check.
use Rattle.std.specs.Prelude.{◌≡◌, ℕ, List, [], ◌∷◌, ◌++◌, Option, Some, None, codes}
use Rattle.std.specs.Fmt.{decimal}
use Rattle.cat_io.specs.Shelf.{Shelved}
use Rattle.cat_scope.specs.declared.programs.Program.{Program}
use Rattle.cat_audit_sound.specs.Audited.{HasNoGap}
use Rattle.cat_cert.specs.declared.refusal.CertRefusal.{CertRefusal}
use Rattle.cat_cert.specs.declared.refusal.CertRefusal.TheVariants as refusal
use Rattle.cat_cert.specs.ScopeTables.{HasScopeCause, IsOverScope}
use Rattle.cat_weave.specs.declared.source.Source.{Source}
use Rattle.cat_app.specs.Words.{Request}
use Rattle.cat_app.specs.Asked.{IsAsked, IsExtra}
use Rattle.cat_app.specs.Lines.{line}
use Rattle.cat_app.specs.declared.request.Mode.TheVariants.{Check}

-- a yes, with the certificate's text of version 2 where it is of version 1
abbrev pub yes_text : Option (List ℕ) → List ℕ
yes_text None = line (codes "Yes") []
yes_text (Some text) = line (codes "Yes") [] ++ text

-- the line that refuses a certificate by a code, at a line of it
abbrev pub code_line : ℕ → ℕ → List ℕ
code_line number n =
    codes "certificate refused C" ++ (decimal number ++ (codes " at line " ++ (decimal n ++ 10 ∷ [])))

-- the line that refuses a certificate
abbrev pub certificate_line : CertRefusal → Option (List ℕ)
certificate_line (refusal.BadLine n) = Some (code_line 1 n)
certificate_line (refusal.WrongName n) = Some (code_line 2 n)
certificate_line (refusal.NotCovered n) = Some (code_line 3 n)
certificate_line refusal.Short = Some (line (codes "certificate refused C4") [])
certificate_line (refusal.Trailing n) = Some (code_line 5 n)
certificate_line (refusal.TooWide n) = Some (code_line 6 n)
certificate_line refusal.Memory = None

-- a text is a certificate for a scope, of which no well-typed input ends in a conflict or a gap; what is written over
pub record HasCertificate (program : Program) (scope : ℕ) (extra text : List ℕ) : Type 0 where
  pub over : Option (List ℕ)
  pub over_is : IsOverScope program scope extra over
  pub no_gap : HasNoGap program scope
  pub text_is : text ≡ yes_text over

-- a text is none for a scope, and this line tells why
pub record HasNoCertificate (program : Program) (scope : ℕ) (extra text : List ℕ) : Type 0 where
  pub why : CertRefusal
  pub cause : HasScopeCause program scope extra why
  pub text_is : certificate_line why ≡ Some text

-- of a check: what this says of the scope and of the bytes that are to be a certificate
pub record IsChecked (Says : Program → ℕ → List ℕ → List ℕ → Type 0) (request : Request) (old new : Shelved)
    (text : List ℕ) : Type 0 where
  pub source : Source
  pub program : Program
  pub scope : ℕ
  pub extra : List ℕ
  pub mode : request.mode ≡ Check
  pub asked : IsAsked request old source program scope
  pub extra_read : IsExtra request old extra
  pub says : Says program scope extra text
  pub untouched : new ≡ old
