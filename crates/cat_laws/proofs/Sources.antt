-- Where a source may be refused has a room: there are few such positions.
use Rattle.std.proofs.Common.{◌≡◌, ◌≤◌, ◌<◌, ◌⊎◌, ◌∙◌, ℕ, List, Option, Some, None, length, map, slice_get, refl, sym}
use Rattle.std.proofs.Common.{ap, subst, inl, inr}
use Rattle.cat_pos.specs.declared.pos.Pos.{Pos}
use Rattle.cat_pos.specs.declared.pos.Piece.{Piece}
use Rattle.cat_value.specs.declared.decls.Decls.{Decls}
use Rattle.cat_lex.specs.declared.token.Token.{Token}
use Rattle.cat_lex.specs.Lexes.{BeginsNoToken, PassesBound}
use Rattle.cat_lex.proofs.Sequences.{once}
use Rattle.cat_tree.specs.declared.program.Tree.{Tree}
use Rattle.cat_parse.specs.Causes.{IsUnexpected, IsTooDeep}
use Rattle.cat_weave.specs.Causes.{AreReadableTogether}
use Rattle.cat_scope.specs.declared.defs.Body.{Body}
use Rattle.cat_scope.specs.declared.programs.Program.{Program}
use Rattle.cat_scope.specs.Groups.{Group}
use Rattle.cat_scope.specs.Names.{IsOneOf}
use Rattle.cat_names.specs.declared.fault.Fault.{Fault}
use Rattle.cat_names.specs.declared.fault.Fault.TheVariants as fault
use Rattle.cat_names.specs.Accepted.{IsProgramOf, IsRefused}
use Rattle.cat_except.specs.declared.refusal.ExceptRefusal.{ExceptRefusal}
use Rattle.cat_except.specs.declared.refusal.ExceptRefusal.TheVariants as exception
use Rattle.cat_except.specs.Causes as exceptions
use Rattle.cat_except.specs.Faults.{groups_in}
use Rattle.cat_build.specs.declared.code.FaultCode.{FaultCode}
use Rattle.cat_build.specs.declared.code.FaultCode.TheVariants as code
use Rattle.cat_build.specs.Accepted.{IsProgramIn}
use Rattle.cat_build.specs.Causes.{end_of, token_position, StandsAtToken, IsRefusedTree, IsRefusedForest, StandsAt}
use Rattle.cat_laws.proofs.Rooms.{Decided, Room, room_none, room_less, room_or, room_one, room_listed, one_of_at}
use Rattle.cat_laws.proofs.Lexed.{AreLexed, lexed_decided}
use Rattle.cat_laws.proofs.Places.{fails_room}
use Rattle.cat_laws.proofs.Trees.{Laws, HasTree, HasMeaning, tree_decided, tree_is, meaning_decided}
use Rattle.cat_laws.proofs.Faults.{place, faults_room, one_mapped}
use Rattle.cat_laws.proofs.Exceptions.{Excepted, ExceptedIn, groups_by, groups_same, scopes_room, unknown_stands}
use Rattle.cat_laws.proofs.Exceptions.{split_stands, ambiguous_stands, cycle_stands, many_stand}

-- a program of the pieces has the parts of their meaning
pub record HasParts (pieces : List Piece) (m : HasMeaning pieces) (program : Program) : Type 0 where
  pub decls : program.decls ≡ m.program.decls
  pub bodies : program.bodies ≡ m.program.bodies
  pub order : program.scope_order ≡ m.program.scope_order

module _ (laws : Laws) (pieces : List Piece) where
  pub parts_are : (m : HasMeaning pieces) (program : Program) → IsProgramIn pieces program → HasParts pieces m program
  parts_are m program is =
      let same = tree_is laws pieces is.tree m.tree is.spelled m.spelled in
      let meant : IsProgramOf m.tree program.decls program.bodies program.scope_order =
      subst (λ (t : Tree). IsProgramOf t program.decls program.bodies program.scope_order) same is.meant in
      let one = laws.one_program m.tree program.decls m.program.decls program.bodies m.program.bodies
      program.scope_order m.program.scope_order meant m.program.program in
      record { decls = one.0; bodies = one.1; order = one.2 }

  -- where there is a program, the pieces have a meaning
  pub has_meaning : (program : Program) → IsProgramIn pieces program → HasMeaning pieces
  has_meaning program is = record {
    tree = is.tree;
    spelled = is.spelled;
    program = record {
      decls = program.decls;
      bodies = program.bodies;
      scope_order = program.scope_order;
      program = is.meant;
    };
  }

  module _ (readable : AreReadableTogether pieces) (size : Pos → ℕ) where
    -- ---- tokens

    position_by : (tokens : List Token) (at : ℕ) (p : Pos) (token : Option Token) → slice_get tokens at ≡ token
        → p ≡ token_position pieces token → (p ≡ end_of pieces) ⊎ IsOneOf p (map (λ t. t.pos) tokens)
    position_by tokens at p None at_is is = inl is
    position_by tokens at p (Some token) at_is is =
        inr (subst (λ (q : Pos). IsOneOf q (map (λ t. t.pos) tokens)) (sym is)
        (one_mapped (λ (t : Token). t.pos) token tokens (one_of_at tokens at token at_is)))

    token_by : (Stands : List Token → ℕ → Type 0) → Decided (AreLexed pieces)
        → Room size (λ p. StandsAtToken Stands pieces p)
    token_by Stands (inl are) =
        room_less size (λ p. StandsAtToken Stands pieces p)
        (λ p. (p ≡ end_of pieces) ⊎ IsOneOf p (map (λ t. t.pos) are.tokens))
        (λ p h. position_by are.tokens h.at p (slice_get are.tokens h.at) refl
        (subst (λ (ts : List Token). p ≡ token_position pieces (slice_get ts h.at))
        (once pieces h.tokens are.tokens h.lexed are.lexed) h.position))
        (room_or size (λ p. p ≡ end_of pieces) (λ p. IsOneOf p (map (λ t. t.pos) are.tokens))
        (room_one size (end_of pieces)) (room_listed size (map (λ t. t.pos) are.tokens)))
    token_by Stands (inr none) = room_none size (λ p. StandsAtToken Stands pieces p)
        (λ p h. none (record { tokens = h.tokens; lexed = h.lexed }))

    token_room : (Stands : List Token → ℕ → Type 0) → Room size (λ p. StandsAtToken Stands pieces p)
    token_room Stands = token_by Stands (lexed_decided pieces)

    -- ---- trees

    tree_by : (at : Pos → Fault) → ((p : Pos) → place (at p) ≡ p) → Decided (HasTree pieces)
        → Room size (λ p. IsRefusedTree pieces (at p))
    tree_by at at_is (inl has) =
        let room = faults_room size has.tree in (
          room.0,
          λ p h. subst (λ (q : Pos). size q ≤ room.0) (at_is p)
              (room.1 (at p) (subst (λ (t : Tree). IsRefused t (at p))
              (tree_is laws pieces h.tree has.tree h.spelled has.spelled) h.refused)),
        )
    tree_by at at_is (inr none) = room_none size (λ p. IsRefusedTree pieces (at p))
        (λ p h. none (record { tree = h.tree; spelled = h.spelled }))

    tree_room : (at : Pos → Fault) → ((p : Pos) → place (at p) ≡ p) → Room size (λ p. IsRefusedTree pieces (at p))
    tree_room at at_is = tree_by at at_is (tree_decided laws pieces)

    -- ---- exceptions

    excepted_by : (m : HasMeaning pieces) (program : Program) (scope : ℕ) (p : Pos) → IsProgramIn pieces program
        → scope < length program.bodies → Excepted (groups_in program scope) p
        → ExceptedIn size m.program.decls m.program.bodies p
    excepted_by m program scope p is within stands =
        let parts = parts_are m program is in
        let groups : groups_in program scope ≡ groups_by m.program.decls m.program.bodies scope =
        groups_same program scope
        ∙ (ap (λ (ds : Decls). groups_by ds program.bodies scope) parts.decls
        ∙ ap (λ (bs : List Body). groups_by m.program.decls bs scope) parts.bodies) in (
          scope,
          subst (λ (bs : List Body). scope < length bs) parts.bodies within,
          subst (λ (gs : List (List Group)). Excepted gs p) groups stands,
        )

    forest_by : (at : Pos → ExceptRefusal)
        → ((targets : List (List Group)) (p : Pos) → exceptions.HasCause targets (at p) → Excepted targets p)
        → Decided (HasMeaning pieces) → Room size (λ p. IsRefusedForest pieces (at p))
    forest_by at stands (inl m) =
        room_less size (λ p. IsRefusedForest pieces (at p)) (ExceptedIn size m.program.decls m.program.bodies)
        (λ p h. excepted_by m h.program h.scope p h.program_is h.within
        (stands (groups_in h.program h.scope) p h.refused)) (scopes_room size m.program.decls m.program.bodies)
    forest_by at stands (inr none) = room_none size (λ p. IsRefusedForest pieces (at p))
        (λ p h. none (has_meaning h.program h.program_is))

    forest_room : (at : Pos → ExceptRefusal)
        → ((targets : List (List Group)) (p : Pos) → exceptions.HasCause targets (at p) → Excepted targets p)
        → Room size (λ p. IsRefusedForest pieces (at p))
    forest_room at stands = forest_by at stands (meaning_decided laws pieces readable)

    -- ---- codes

    -- where a code stands
    pub code_room : (found : FaultCode) → Room size (StandsAt pieces found)
    code_room code.NoToken = fails_room size BeginsNoToken pieces
    code_room code.LiteralRange = fails_room size PassesBound pieces
    code_room code.Unexpected = token_room IsUnexpected
    code_room code.TooDeep = token_room IsTooDeep
    code_room code.NameTwice = tree_room fault.NameTwice (λ p. refl)
    code_room code.NameUnknown = tree_room fault.NameUnknown (λ p. refl)
    code_room code.TypeMismatch = tree_room fault.TypeMismatch (λ p. refl)
    code_room code.MatchCases = tree_room fault.MatchCases (λ p. refl)
    code_room code.LabelUnknown = forest_room exception.LabelUnknown unknown_stands
    code_room code.LabelSplit = forest_room exception.LabelSplit split_stands
    code_room code.ExceptionAmbiguous = forest_room exception.ExceptionAmbiguous ambiguous_stands
    code_room code.ExceptionCycle = forest_room exception.ExceptionCycle cycle_stands
    code_room code.VariableCycle = tree_room fault.VariableCycle (λ p. refl)
    code_room code.ScopeCycle = tree_room fault.ScopeCycle (λ p. refl)
    code_room code.TypeCycle = tree_room fault.TypeCycle (λ p. refl)
    code_room code.Misplaced = tree_room fault.Misplaced (λ p. refl)
    code_room code.TooMany =
        room_or size (λ p. IsRefusedTree pieces (fault.TooMany p)) (λ p. IsRefusedForest pieces (exception.TooMany p))
        (tree_room fault.TooMany (λ p. refl)) (forest_room exception.TooMany many_stand)
