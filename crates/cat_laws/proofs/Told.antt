-- A check over told contents, of bytes that are answered Yes.
use Rattle.std.proofs.Common.{◌≡◌, ◌<◌, ◌+◌, ℕ, Bool, true, false, List, [], ◌∷◌, length, Some}
use Rattle.std.proofs.Common.{sym, ap, ◌∙◌, subst, arith, if◌then◌else◌}
use Rattle.std.specs.Prelude.{bytes_eq}
use Rattle.std.specs.Io.KnownBytes.{Appends}
use Rattle.std.proofs.Math.Logic.{∥∥₁_elim}
use Rattle.std.proofs.Props.{props}
use Rattle.cat_io.specs.Sink.{Sunk}
use Rattle.cat_value.specs.declared.decls.Decls.{Decls}
use Rattle.cat_value.specs.declared.declaration.Scope.{Scope}
use Rattle.cat_scope.specs.declared.defs.Body.{Body}
use Rattle.cat_scope.specs.declared.programs.Program.{Program}
use Rattle.cat_scope.specs.Named.{number_named}
use Rattle.cat_scope.specs.WellFormed.{IsWellFormed}
use Rattle.cat_cert.specs.declared.refusal.CertRefusal.{CertRefusal}
use Rattle.cat_cert.specs.declared.refusal.CertRefusal.TheVariants as refusal
use Rattle.cat_laws.specs.Rechecks.{IsAnsweredYes}
use Rattle.cat_app.specs.Checks.{certificate_line, yes_text}
use Rattle.cat_app.specs.Complete.{EndsCheck}
use Rattle.cat_app.specs.declared.status.Status.{Status}
use Rattle.cat_app.specs.declared.status.Status.TheVariants.{Certificate, Fine, Memory, ReadFault, WriteFault}
use Rattle.cat_laws.specs.CheckedAudits.{EndsYes}

no_line : (why : CertRefusal) (text : List ℕ) → why ≡ refusal.Memory → certificate_line why ≡ Some text → ⊥
no_line why text is said = let none = sym (ap certificate_line is) ∙ said in absurd (cc none)

pub ends_yes : (program : Program) (scope : ℕ) (bytes : List ℕ) → IsAnsweredYes program scope bytes → (sink sunk : Sunk)
    (ended : Status) → EndsCheck sink sunk program scope bytes ended → EndsYes sink sunk ended
ends_yes program scope bytes is sink sunk Fine h =
    let none = is.alone h.1.over h.1.over_is in
    subst (Appends sink.taken sunk.taken) (h.1.text_is ∙ ap yes_text none) h.2
ends_yes program scope bytes is sink sunk Certificate h =
    no_line h.1.why h.0 (is.kept h.1.why h.1.cause) h.1.text_is
ends_yes program scope bytes is sink sunk ReadFault h = tt
ends_yes program scope bytes is sink sunk WriteFault h = tt
ends_yes program scope bytes is sink sunk Memory h = tt
ends_yes program scope bytes is sink sunk _ h = h

-- ---- the scope that a name names

below : (name : List ℕ) (n : ℕ) (ss : List Scope) (k : ℕ) → number_named name n ss ≡ Some k → k < n + length ss
below name n [] k is = absurd (cc)
below name n (s ∷ ss) k is = by (bytes_eq s.name name) is (below name (n + 1) ss k)
  where
    by : (b : Bool) → (if b then Some n else number_named name (n + 1) ss) ≡ Some k
        → (number_named name (n + 1) ss ≡ Some k → k < n + 1 + length ss) → k < n + length (s ∷ ss)
    by true is more = let same : n ≡ k = cc is in omega (arith, same)
    by false is more = let there = more is in omega (arith, there)

-- it has a body
pub named_body : (ds : Decls) (bodies : List Body) (order : List ℕ) (name : List ℕ) (scope : ℕ)
    → ∥ IsWellFormed ds bodies order ∥₁ → number_named name 0 ds.scopes ≡ Some scope → scope < length bodies
named_body ds bodies order name scope formed named =
    let counted : length bodies ≡ length ds.scopes = ∥∥₁_elim formed (hlevel props) (λ f. f.counted) in
    let there = below name 0 ds.scopes scope named in
    omega (arith, counted, there)
