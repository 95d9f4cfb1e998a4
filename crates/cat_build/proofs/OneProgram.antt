-- Pieces have one program at most, and none where they are refused.
use Rattle.std.proofs.Common.{◌≡◌, ◌≢◌, ◌<◌, ◌++◌, ℕ, suc, List, take, drop, refl, sym, ap, subst, inl, inr}
use Rattle.std.proofs.lemmas.List.{take-append-drop}
use Rattle.std.specs.Prelude.{length}
use Rattle.cat_pos.specs.declared.pos.Pos.{Pos}
use Rattle.cat_pos.specs.declared.pos.Piece.{Piece}
use Rattle.cat_value.specs.declared.decls.Decls.{Decls}
use Rattle.cat_lex.specs.declared.token.Token.{Token}
use Rattle.cat_lex.specs.declared.refusal.LexRefusal.{LexRefusal}
use Rattle.cat_lex.specs.declared.refusal.LexRefusal.TheVariants as lexing
use Rattle.cat_lex.specs.Lexes as lexed
use Rattle.cat_lex.specs.Lexes.{Lexes}
use Rattle.cat_tree.specs.declared.program.Tree.{Tree}
use Rattle.cat_tree.specs.Programs.{SpellsProgram}
use Rattle.cat_parse.specs.Causes.{IsUnexpected, IsTooDeep}
use Rattle.cat_scope.specs.declared.defs.Body.{Body}
use Rattle.cat_scope.specs.declared.programs.Program.{Program}
use Rattle.cat_scope.specs.WellFormed.{IsWellFormed}
use Rattle.cat_names.specs.declared.fault.Fault.{Fault}
use Rattle.cat_names.specs.declared.fault.Fault.TheVariants as fault
use Rattle.cat_names.specs.Accepted.{IsProgramOf, IsRefused}
use Rattle.cat_except.specs.declared.refusal.ExceptRefusal.{ExceptRefusal}
use Rattle.cat_except.specs.declared.refusal.ExceptRefusal.TheVariants as exception
use Rattle.cat_except.specs.Causes as exceptions
use Rattle.cat_except.specs.Causes.{MakeForest}
use Rattle.cat_scope.specs.Groups.{Group}
use Rattle.cat_except.specs.Faults.{groups_in}
use Rattle.cat_build.specs.declared.code.FaultCode.{FaultCode}
use Rattle.cat_build.specs.declared.code.FaultCode.TheVariants as code
use Rattle.cat_build.specs.declared.code.BuildRefusal.{BuildRefusal}
use Rattle.cat_build.specs.declared.code.BuildRefusal.TheVariants.{Refused, Memory}
use Rattle.cat_build.specs.Accepted.{IsTreeOf, IsProgramIn, IsAccepted}
use Rattle.cat_build.specs.Causes.{HasCause, IsRefusedTree, IsRefusedForest, StandsAt, StandsAtToken}

-- ---- the laws on which this rests

abbrev IsOneReading : Type 0
IsOneReading = (pieces : List Piece) (tokens others : List Token) → Lexes pieces tokens → Lexes pieces others
    → tokens ≡ others

abbrev pub IsOneTree : Type 0
IsOneTree = (t u : Tree) (tokens : List Token) → SpellsProgram t tokens → SpellsProgram u tokens → t ≡ u

abbrev pub IsOneProgram : Type 0
IsOneProgram = (tree : Tree) (decls other : Decls) (bodies more : List Body) (scope_order order : List ℕ)
    → IsProgramOf tree decls bodies scope_order → IsProgramOf tree other more order
    → (decls ≡ other) × (bodies ≡ more) × (scope_order ≡ order)

abbrev HaveNoReading : Type 0
HaveNoReading = (pieces : List Piece) (refusal : LexRefusal) (tokens : List Token) → refusal ≢ lexing.Memory
    → lexed.HasCause pieces refusal → Lexes pieces tokens → ⊥

abbrev pub HaveNoProgram : Type 0
HaveNoProgram = (tree : Tree) (decls : Decls) (bodies : List Body) (scope_order : List ℕ) (fault : Fault)
    → IsProgramOf tree decls bodies scope_order → ¬ IsRefused tree fault

abbrev MakeNoForest : Type 0
MakeNoForest = (targets : List (List Group)) (refusal : ExceptRefusal) → ¬ (refusal ≡ exception.Memory)
    → exceptions.HasCause targets refusal → ¬ MakeForest targets

-- ---- one program

-- a program of its parts
abbrev with_parts : (decls : Decls) (bodies : List Body) (order : List ℕ) → ∥ IsWellFormed decls bodies order ∥₁
    → Program
with_parts decls bodies order well_formed =
    record { decls = decls; bodies = bodies; scope_order = order; well_formed = well_formed }

formed_once : (decls : Decls) (bodies : List Body) (order : List ℕ) → IsProp (∥ IsWellFormed decls bodies order ∥₁)
formed_once decls bodies order = hlevel

same_formed : (decls : Decls) (bodies : List Body) (order : List ℕ) (well other : ∥ IsWellFormed decls bodies order ∥₁)
    → with_parts decls bodies order well ≡ with_parts decls bodies order other
same_formed decls bodies order well other =
    ap (with_parts decls bodies order) (formed_once decls bodies order well other)

same_order : (decls : Decls) (bodies : List Body) (order listed : List ℕ) → order ≡ listed
    → (well : ∥ IsWellFormed decls bodies order ∥₁) (other : ∥ IsWellFormed decls bodies listed ∥₁)
    → with_parts decls bodies order well ≡ with_parts decls bodies listed other
same_order decls bodies order listed is well =
    subst (λ (ns : List ℕ). (other : ∥ IsWellFormed decls bodies ns ∥₁)
    → with_parts decls bodies order well ≡ with_parts decls bodies ns other) is
    (λ other. same_formed decls bodies order well other)

same_bodies : (decls : Decls) (bodies more : List Body) (order listed : List ℕ) → bodies ≡ more → order ≡ listed
    → (well : ∥ IsWellFormed decls bodies order ∥₁) (other : ∥ IsWellFormed decls more listed ∥₁)
    → with_parts decls bodies order well ≡ with_parts decls more listed other
same_bodies decls bodies more order listed is order_is well =
    subst (λ (bs : List Body). (other : ∥ IsWellFormed decls bs listed ∥₁)
    → with_parts decls bodies order well ≡ with_parts decls bs listed other) is
    (λ other. same_order decls bodies order listed order_is well other)

same_parts : (decls others : Decls) (bodies more : List Body) (order listed : List ℕ) → decls ≡ others → bodies ≡ more
    → order ≡ listed → (well : ∥ IsWellFormed decls bodies order ∥₁) (other : ∥ IsWellFormed others more listed ∥₁)
    → with_parts decls bodies order well ≡ with_parts others more listed other
same_parts decls others bodies more order listed is bodies_is order_is well =
    subst (λ (ds : Decls). (other : ∥ IsWellFormed ds more listed ∥₁)
    → with_parts decls bodies order well ≡ with_parts ds more listed other) is
    (λ other. same_bodies decls bodies more order listed bodies_is order_is well other)

module _ (one_reading : IsOneReading) (one_tree : IsOneTree) (one_program : IsOneProgram) where
  tree_is : (pieces : List Piece) (tree other : Tree) → IsTreeOf pieces tree → IsTreeOf pieces other → tree ≡ other
  tree_is pieces tree other is also =
      let same : also.tokens ≡ is.tokens = one_reading pieces also.tokens is.tokens also.lexed is.lexed in
      one_tree tree other is.tokens is.spelled.spells
      (subst (λ (ts : List Token). SpellsProgram other ts) same also.spelled.spells)

  pub program_is : (pieces : List Piece) (program other : Program) → IsProgramIn pieces program
      → IsProgramIn pieces other → program ≡ other
  program_is pieces program other is also =
      let tree : also.tree ≡ is.tree = tree_is pieces also.tree is.tree also.spelled is.spelled in
      let meant : IsProgramOf is.tree other.decls other.bodies other.scope_order =
      subst (λ (t : Tree). IsProgramOf t other.decls other.bodies other.scope_order) tree also.meant in
      let parts = one_program is.tree program.decls other.decls program.bodies other.bodies program.scope_order
      other.scope_order is.meant meant in
      same_parts program.decls other.decls program.bodies other.bodies program.scope_order other.scope_order parts.0
      parts.1 parts.2 program.well_formed other.well_formed

  -- ---- what is refused is not accepted

  module _ (no_reading : HaveNoReading) (no_program : HaveNoProgram) (no_forest : MakeNoForest) (pieces : List Piece)
      (program : Program) (is : IsAccepted pieces program) where
    tokens_are : (tokens : List Token) → Lexes pieces tokens → is.program_is.spelled.tokens ≡ tokens
    tokens_are tokens lexed = one_reading pieces is.program_is.spelled.tokens tokens is.program_is.spelled.lexed lexed

    spelled_by : (tokens : List Token) → Lexes pieces tokens → SpellsProgram is.program_is.tree tokens
    spelled_by tokens lexed =
        subst (λ (ts : List Token). SpellsProgram is.program_is.tree ts) (tokens_are tokens lexed)
        is.program_is.spelled.spelled.spells

    not_unexpected : (p : Pos) → StandsAtToken IsUnexpected pieces p → ⊥
    not_unexpected p h = h.stands.none is.program_is.tree (spelled_by h.tokens h.lexed)

    not_deep : (p : Pos) → StandsAtToken IsTooDeep pieces p → ⊥
    not_deep p h =
        let parts : h.tokens ≡ take (suc h.at) h.tokens ++ drop (suc h.at) h.tokens =
        sym (take-append-drop (suc h.at) h.tokens) in
        h.stands.none_low (record {
          tree = is.program_is.tree;
          rest = drop (suc h.at) h.tokens;
          spells = subst (λ (ts : List Token). SpellsProgram is.program_is.tree ts) parts
              (spelled_by h.tokens h.lexed);
        }) is.program_is.spelled.spelled.low

    no_fault : (fault : Fault) → IsRefusedTree pieces fault → ⊥
    no_fault fault h =
        let same = tree_is pieces h.tree is.program_is.tree h.spelled is.program_is.spelled in
        no_program is.program_is.tree program.decls program.bodies program.scope_order fault is.program_is.meant
        (subst (λ (t : Tree). IsRefused t fault) same h.refused)

    no_exception : (refusal : ExceptRefusal) → ¬ (refusal ≡ exception.Memory) → IsRefusedForest pieces refusal → ⊥
    no_exception refusal other h =
        let same : h.program ≡ program = program_is pieces h.program program h.program_is is.program_is in
        let within : h.scope < length program.bodies =
        subst (λ (p : Program). h.scope < length p.bodies) same h.within in
        let refused : exceptions.HasCause (groups_in program h.scope) refusal =
        subst (λ (p : Program). exceptions.HasCause (groups_in p h.scope) refusal) same h.refused in
        no_forest (groups_in program h.scope) refusal other refused (is.forests h.scope within)

    nothing_stands : (found : FaultCode) (p : Pos) → StandsAt pieces found p → ⊥
    nothing_stands code.NoToken p h =
        no_reading pieces (lexing.NoToken p) is.program_is.spelled.tokens (λ e. cc e) h is.program_is.spelled.lexed
    nothing_stands code.LiteralRange p h =
        no_reading pieces (lexing.LiteralRange p) is.program_is.spelled.tokens (λ e. cc e) h
        is.program_is.spelled.lexed
    nothing_stands code.Unexpected p h = not_unexpected p h
    nothing_stands code.TooDeep p h = not_deep p h
    nothing_stands code.NameTwice p h = no_fault (fault.NameTwice p) h
    nothing_stands code.NameUnknown p h = no_fault (fault.NameUnknown p) h
    nothing_stands code.TypeMismatch p h = no_fault (fault.TypeMismatch p) h
    nothing_stands code.MatchCases p h = no_fault (fault.MatchCases p) h
    nothing_stands code.LabelUnknown p h = no_exception (exception.LabelUnknown p) (λ e. cc e) h
    nothing_stands code.LabelSplit p h = no_exception (exception.LabelSplit p) (λ e. cc e) h
    nothing_stands code.ExceptionAmbiguous p h = no_exception (exception.ExceptionAmbiguous p) (λ e. cc e) h
    nothing_stands code.ExceptionCycle p h = no_exception (exception.ExceptionCycle p) (λ e. cc e) h
    nothing_stands code.VariableCycle p h = no_fault (fault.VariableCycle p) h
    nothing_stands code.ScopeCycle p h = no_fault (fault.ScopeCycle p) h
    nothing_stands code.TypeCycle p h = no_fault (fault.TypeCycle p) h
    nothing_stands code.Misplaced p h = no_fault (fault.Misplaced p) h
    nothing_stands code.TooMany p (inl h) = no_fault (fault.TooMany p) h
    nothing_stands code.TooMany p (inr h) = no_exception (exception.TooMany p) (λ e. cc e) h

    pub not_accepted : (refusal : BuildRefusal) → refusal ≢ Memory → HasCause pieces refusal → ⊥
    not_accepted (Refused found p) other h = nothing_stands found p h
    not_accepted Memory other h = other refl
