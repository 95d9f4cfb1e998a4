-- The lines of many inputs, as they are gathered and put.
use Rattle.std.proofs.Common.{◌≡◌, ◌≢◌, ◌∙◌, ◌⊎◌, ℕ, zero, suc, true, false, List, [], ◌∷◌, ◌++◌}
use Rattle.std.proofs.Common.{length, take, drop, refl, sym, ap, subst, inl, ⊎_elim}
use Rattle.std.specs.Prelude.{Option, Some, None, Ok, Err, Result, is_some, option_map, slice_get}
use Rattle.std.specs.Result.{is_err}
use Rattle.std.specs.List.{concat}
use Rattle.std.proofs.lemmas.List.{append-nil, append_assoc}
use Rattle.std.proofs.lemmas.List.Folds.{concat-append}
use Rattle.std.proofs.Math.Logic.{∥∥₁_elim}
use Rattle.std.proofs.Math.Seq.{drop-append_seam, take-append_seam}
use Rattle.std.proofs.Props.{props}
use Rattle.serde_json.specs.Data.{Data, Items, no_items, item}
use Rattle.serde_json.specs.Find.{as_array}
use Rattle.cat_io.specs.Gathered.{Adds, FailedBehind}
use Rattle.cat_io.specs.Sink.{FailedAt, Sunk, Took}
use Rattle.cat_io.specs.declared.sink.SinkFault.{SinkFault}
use Rattle.cat_io.proofs.Taking.{took_more, took_nothing}
use Rattle.cat_value.specs.declared.outcome.Outcome.{Outcome}
use Rattle.cat_value.specs.declared.decls.Decls.{Decls}
use Rattle.cat_value.specs.declared.declaration.ItemDecl.{ItemDecl}
use Rattle.cat_value.specs.Inputs.{IsWellTyped}
use Rattle.cat_scope.specs.declared.programs.Program.{Program}
use Rattle.cat_scope.specs.Outcomes.{scope_outcome}
use Rattle.cat_code.specs.declared.code.Code.{Code}
use Rattle.cat_machine.specs.ForPrograms.{IsCodeFor}
use Rattle.cat_json.specs.declared.refusal.InputRefusal.{InputRefusal}
use Rattle.cat_json.specs.declared.refusal.InputRefusal.TheVariants as refused
use Rattle.cat_json.specs.declared.refusal.Reason.{Reason}
use Rattle.cat_json.specs.declared.refusal.Reason.TheVariants as reason
use Rattle.cat_json.specs.Paths.{Reading, path_text}
use Rattle.cat_json.specs.InputsRead.{AreWellTyped, Input, answered, array_inputs, each_input, input_in}
use Rattle.cat_json.specs.InputsRead.{items_of, json_of, read_from, refusal_of}
use Rattle.cat_app.specs.Many.{AreLines, FailedAtLines, ReadInput, TookFirst, outcome_line, element_line}
use Rattle.cat_app.specs.inside.Reading.{AreRead, GathersLines, IsReadInput, PutsAtOnce, PutsEach}
use Rattle.cat_app.specs.declared.status.Status.{Status}
use Rattle.cat_app.specs.declared.status.Status.TheVariants as status

-- ---- what was put and what was not

added : (piece gathered after : List ℕ) (sink sunk : Sunk) (r : Result (Unit {0}) SinkFault) → false ≡ is_err r
    → Adds piece gathered after sink sunk r → Adds piece gathered after sink sunk (Ok tt)
added piece gathered after sink sunk (Ok done) is adds = adds
added piece gathered after sink sunk (Err fault) is adds = cc is

not_added : (piece gathered after : List ℕ) (sink sunk : Sunk) (r : Result (Unit {0}) SinkFault) → true ≡ is_err r
    → Adds piece gathered after sink sunk r
    → FailedAt sink sunk gathered ⊎ FailedBehind gathered piece sink sunk
not_added piece gathered after sink sunk (Ok done) is adds = cc is
not_added piece gathered after sink sunk (Err fault) is adds = adds.1

one_joined : (lines : List (List ℕ)) (one : List ℕ) → concat lines ++ one ≡ concat (lines ++ one ∷ [])
one_joined lines one =
    ap (λ (text : List ℕ). concat lines ++ text) (sym (append-nil one)) ∙ sym (concat-append lines (one ∷ []))

-- some lines and others behind them were taken
took_both : (fronts others : List (List ℕ)) (sink between sunk : Sunk) → Took sink between (concat fronts)
    → Took between sunk (concat others) → Took sink sunk (concat (fronts ++ others))
took_both fronts others sink between sunk one two = subst (λ (text : List ℕ). Took sink sunk text)
    (sym (concat-append fronts others)) (took_more sink between sunk (concat fronts) (concat others) one two)

took_first : (fronts behind : List (List ℕ)) (sink sunk : Sunk) → Took sink sunk (concat fronts)
    → TookFirst (fronts ++ behind) (length fronts) sink sunk
took_first fronts behind sink sunk took =
    subst (λ (ls : List (List ℕ)). Took sink sunk (concat ls)) (sym (take-append_seam fronts behind)) took

failed_lines : (fronts others behind : List (List ℕ)) (sink between sunk : Sunk) → Took sink between (concat fronts)
    → FailedAt between sunk (concat others) → FailedAtLines (fronts ++ (others ++ behind)) sink sunk
failed_lines fronts others behind sink between sunk took failed = record {
  count = length fronts;
  more = length others;
  between = between;
  before = took_first fronts (others ++ behind) sink between took;
  failed = subst (λ (ls : List (List ℕ)). FailedAt between sunk (concat ls)) (sym middle) failed;
}
  where
    middle : take (length others) (drop (length fronts) (fronts ++ (others ++ behind))) ≡ others
    middle =
        ap (λ (ls : List (List ℕ)). take (length others) ls) (drop-append_seam fronts (others ++ behind))
        ∙ take-append_seam others behind

-- ---- what is read of an element

-- no element is refused for want of memory
real_reason : (r : Reason) (path : List ℕ) → refusal_of r path ≢ refused.Memory
real_reason reason.Missing path is = cc is
real_reason reason.Extra path is = cc is
real_reason reason.WrongForm path is = cc is
real_reason reason.OutOfRange path is = cc is

real_element : (reading : Reading Input) (refusal : InputRefusal) → answered reading ≡ Err refusal
    → refusal ≢ refused.Memory
real_element (Ok input) refusal is = cc is
real_element (Err part) refusal is =
    let same : refusal_of part.reason (path_text part.path) ≡ refusal = cc is in
    subst (λ (r : InputRefusal). r ≢ refused.Memory) same (real_reason part.reason (path_text part.path))

real_elements : (decls : Decls) (items : List ItemDecl) (elements : Items) (k : ℕ) (refusal : InputRefusal)
    → slice_get (each_input decls items elements) k ≡ Some (Err refusal) → refusal ≢ refused.Memory
real_elements decls items no_items k refusal at = cc at
real_elements decls items (item d more) zero refusal at = real_element (input_in decls items d) refusal (cc at)
real_elements decls items (item d more) (suc k) refusal at = real_elements decls items more k refusal at

real_array : (decls : Decls) (items : List ItemDecl) (o : Option Items) (all : List ReadInput)
    → array_inputs decls items o ≡ Ok all → (k : ℕ) (refusal : InputRefusal)
    → slice_get all k ≡ Some (Err refusal) → refusal ≢ refused.Memory
real_array decls items None all is k refusal at = cc is
real_array decls items (Some elements) all is k refusal at =
    let same : each_input decls items elements ≡ all = cc is in
    real_elements decls items elements k refusal
    (subst (λ (rs : List ReadInput). slice_get rs k ≡ Some (Err refusal)) (sym same) at)

real_json : (decls : Decls) (items : List ItemDecl) (o : Option Data) (all : List ReadInput)
    → read_from (λ d. array_inputs decls items (as_array d)) o ≡ Ok all → (k : ℕ) (refusal : InputRefusal)
    → slice_get all k ≡ Some (Err refusal) → refusal ≢ refused.Memory
real_json decls items None all is k refusal at = cc is
real_json decls items (Some d) all is k refusal at = real_array decls items (as_array d) all is k refusal at

is_read_at : (decls : Decls) (scope : ℕ) (extra : List ℕ) (all : List ReadInput) → AreRead decls scope extra all
    → (k : ℕ) (r : ReadInput) → slice_get all k ≡ Some r → IsReadInput decls scope r
unfolding AreWellTyped
is_read_at decls scope extra all read k (Ok input) at = read.typed k input at
is_read_at decls scope extra all read k (Err refusal) at =
    real_json decls (items_of (slice_get decls.scopes scope)) (json_of extra) all read.inputs_are k refusal at

passed_at : (ys zs all : List ReadInput) (r : ReadInput) → ys ++ r ∷ zs ≡ all → slice_get all (length ys) ≡ Some r
passed_at ys zs all r whole = subst (λ (rs : List ReadInput). slice_get rs (length ys) ≡ Some r) whole (at ys)
  where
    at : (xs : List ReadInput) → slice_get (xs ++ r ∷ zs) (length xs) ≡ Some r
    at [] = refl
    at (x ∷ xs) = at xs

-- the element behind those that were passed
pub is_read_next : (decls : Decls) (scope : ℕ) (extra : List ℕ) (all passed behind : List ReadInput) (r : ReadInput)
    → AreRead decls scope extra all → passed ++ r ∷ behind ≡ all → IsReadInput decls scope r
is_read_next decls scope extra all passed behind r read whole =
    is_read_at decls scope extra all read (length passed) r (passed_at passed behind all r whole)

-- ---- each element has a line

some_of : (o : Option (List ℕ)) → is_some o ≡ true → (text : List ℕ) × (o ≡ Some text)
some_of None there = cc there
some_of (Some text) there = (text, refl)

mapped : {A B : Type 0} (f : A → B) (o : Option A) → is_some o ≡ true → is_some (option_map f o) ≡ true
mapped f None there = cc there
mapped f (Some a) there = refl

module _ (program : Program) (code : Code) (is : ∥ IsCodeFor program code ∥₁) (scope : ℕ) (names : List (List ℕ)) where
  outcome_there : (input : Input) → IsWellTyped program.decls scope input
      → is_some (scope_outcome program scope input) ≡ true
  outcome_there input typed = ∥∥₁_elim is (hlevel props) (λ runs.
      let ran = runs.runs scope input typed in
      subst (λ (o : Option Outcome). is_some o ≡ true) ran.outcome ran.has_outcome)

  line_there : (r : ReadInput) → IsReadInput program.decls scope r → is_some (element_line program scope names r) ≡ true
  line_there (Ok input) typed =
      mapped (outcome_line program scope names) (scope_outcome program scope input) (outcome_there input typed)
  line_there (Err refused.NotJson) other = refl
  line_there (Err (refused.Missing path)) other = refl
  line_there (Err (refused.Extra path)) other = refl
  line_there (Err (refused.WrongForm path)) other = refl
  line_there (Err (refused.OutOfRange path)) other = refl
  line_there (Err refused.Memory) other = absurd (other refl)

  all_lines : (rs : List ReadInput)
      → ((k : ℕ) (r : ReadInput) → slice_get rs k ≡ Some r → IsReadInput program.decls scope r)
      → (lines : List (List ℕ)) × AreLines program scope names rs lines
  all_lines [] each = ([], tt)
  all_lines (r ∷ rs) each =
      let one = some_of (element_line program scope names r) (line_there r (each 0 r refl)) in
      let more = all_lines rs (λ k s at. each (suc k) s at) in
      (one.0 ∷ more.0, (one.1, more.1))

  -- ---- the lines of some elements in front of others

  lines_behind : (ys zs : List ReadInput) (fronts lines : List (List ℕ)) → AreLines program scope names ys fronts
      → AreLines program scope names (ys ++ zs) lines → (behind : List (List ℕ)) × (lines ≡ fronts ++ behind)
  lines_behind [] zs [] lines front all = (lines, refl)
  lines_behind [] zs (f ∷ fs) lines front all = absurd front
  lines_behind (y ∷ ys) zs [] lines front all = absurd front
  lines_behind (y ∷ ys) zs (f ∷ fs) [] front all = absurd all
  lines_behind (y ∷ ys) zs (f ∷ fs) (l ∷ lines) front all =
      let same : l ≡ f = cc (all.0, front.0) in
      let rest = lines_behind ys zs fs lines front.1 all.1 in
      (rest.0, ap (λ (x : List ℕ). x ∷ lines) same ∙ ap (λ (xs : List (List ℕ)). f ∷ xs) rest.1)

  more_lines : (ys : List ReadInput) (r : ReadInput) (fronts : List (List ℕ)) (one : List ℕ)
      → AreLines program scope names ys fronts → element_line program scope names r ≡ Some one
      → AreLines program scope names (ys ++ r ∷ []) (fronts ++ one ∷ [])
  more_lines [] r [] one are line = (line, tt)
  more_lines [] r (f ∷ fs) one are line = absurd are
  more_lines (y ∷ ys) r [] one are line = absurd are
  more_lines (y ∷ ys) r (f ∷ fs) one are line = (are.0, more_lines ys r fs one are.1 line)

  -- ---- what was put, and what is gathered

  pub nothing_gathered : (sink : Sunk) → GathersLines program scope names [] [] sink sink
  nothing_gathered sink =
      record { fronts = []; others = []; lines_are = tt; took = took_nothing sink; gathered_are = refl }

  -- the line of one more is gathered behind the others, or they were put, or all were
  one_more : (passed : List ReadInput) (r : ReadInput) (one gathered after : List ℕ) (sink between sunk : Sunk)
      → GathersLines program scope names passed gathered sink between → element_line program scope names r ≡ Some one
      → Adds one gathered after between sunk (Ok tt)
      → GathersLines program scope names (passed ++ r ∷ []) after sink sunk
  one_more passed r one gathered after sink between sunk before line adds =
      ⊎_elim behind (⊎_elim alone whole) adds.1
    where
      lines : List (List ℕ)
      lines = before.fronts ++ before.others

      lines_are : AreLines program scope names (passed ++ r ∷ []) (lines ++ one ∷ [])
      lines_are = more_lines passed r lines one before.lines_are line

      behind : (after ≡ gathered ++ one) × (sunk ≡ between)
          → GathersLines program scope names (passed ++ r ∷ []) after sink sunk
      behind is = record {
        fronts = before.fronts;
        others = before.others ++ one ∷ [];
        lines_are = subst (λ (ls : List (List ℕ)). AreLines program scope names (passed ++ r ∷ []) ls)
            (append_assoc before.fronts before.others (one ∷ [])) lines_are;
        took = subst (λ (s : Sunk). Took sink s (concat before.fronts)) (sym is.1) before.took;
        gathered_are = is.0 ∙ (ap (λ (text : List ℕ). text ++ one) before.gathered_are
            ∙ one_joined before.others one);
      }

      took_lines : (s : Sunk) → Took between s gathered → Took sink s (concat lines)
      took_lines s took = took_both before.fronts before.others sink between s before.took
          (subst (λ (text : List ℕ). Took between s text) before.gathered_are took)

      alone : (after ≡ one) × Took between sunk gathered
          → GathersLines program scope names (passed ++ r ∷ []) after sink sunk
      alone is = record {
        fronts = lines;
        others = one ∷ [];
        lines_are = lines_are;
        took = took_lines sunk is.1;
        gathered_are = is.0 ∙ sym (append-nil one);
      }

      whole : (after ≡ []) × Took between sunk (gathered ++ one)
          → GathersLines program scope names (passed ++ r ∷ []) after sink sunk
      whole is = record {
        fronts = lines ++ one ∷ [];
        others = [];
        lines_are = subst (λ (ls : List (List ℕ)). AreLines program scope names (passed ++ r ∷ []) ls)
            (sym (append-nil (lines ++ one ∷ []))) lines_are;
        took = all_of_them;
        gathered_are = is.0;
      }
        where
          joined : concat before.fronts ++ (gathered ++ one) ≡ concat (lines ++ one ∷ [])
          joined =
              sym (append_assoc (concat before.fronts) gathered one)
              ∙ (ap (λ (text : List ℕ). (concat before.fronts ++ text) ++ one) before.gathered_are
              ∙ (ap (λ (text : List ℕ). text ++ one) (sym (concat-append before.fronts before.others))
              ∙ one_joined lines one))

          all_of_them : Took sink sunk (concat (lines ++ one ∷ []))
          all_of_them = subst (λ (text : List ℕ). Took sink sunk text) joined
              (took_more sink between sunk (concat before.fronts) (gathered ++ one) before.took is.1)

  pub one_more_added : (passed : List ReadInput) (r : ReadInput) (one gathered after : List ℕ)
      (sink between sunk : Sunk) (answer : Result (Unit {0}) SinkFault)
      → GathersLines program scope names passed gathered sink between → element_line program scope names r ≡ Some one
      → false ≡ is_err answer → Adds one gathered after between sunk answer
      → GathersLines program scope names (passed ++ r ∷ []) after sink sunk
  one_more_added passed r one gathered after sink between sunk answer before line fine adds =
      one_more passed r one gathered after sink between sunk before line
      (added one gathered after between sunk answer fine adds)

  module _ (extra : List ℕ) (all : List ReadInput) (read : AreRead program.decls scope extra all) (sink : Sunk) where
    lines_of_all : (lines : List (List ℕ)) × AreLines program scope names all lines
    lines_of_all = all_lines all (is_read_at program.decls scope extra all read)

    -- the lines of all, behind those of the elements that were passed
    behind_passed : (passed rest : List ReadInput) (fronts : List (List ℕ)) → passed ++ rest ≡ all
        → AreLines program scope names passed fronts
        → (behind : List (List ℕ)) × AreLines program scope names all (fronts ++ behind)
    behind_passed passed rest fronts whole are =
        let split = lines_behind passed rest fronts lines_of_all.0 are
        (subst (λ (rs : List ReadInput). AreLines program scope names rs lines_of_all.0) (sym whole)
        lines_of_all.1) in
        (split.0, subst (λ (ls : List (List ℕ)). AreLines program scope names all ls) split.1 lines_of_all.1)

    -- the sink failed at lines of elements that were passed, behind others that it took
    failed_at : (passed rest : List ReadInput) (fronts others : List (List ℕ)) (between sunk : Sunk)
        → passed ++ rest ≡ all → AreLines program scope names passed (fronts ++ others)
        → Took sink between (concat fronts) → FailedAt between sunk (concat others)
        → PutsEach program scope names all sink sunk status.WriteFault
    failed_at passed rest fronts others between sunk whole are took failed =
        let behind = behind_passed passed rest (fronts ++ others) whole are in record {
          lines = fronts ++ (others ++ behind.0);
          lines_are = subst (λ (ls : List (List ℕ)). AreLines program scope names all ls)
              (append_assoc fronts others behind.0) behind.1;
          puts = failed_lines fronts others behind.0 sink between sunk took failed;
        }

    -- it failed at what was gathered
    failed_gathered : (passed rest : List ReadInput) (gathered : List ℕ) (between sunk : Sunk) → passed ++ rest ≡ all
        → GathersLines program scope names passed gathered sink between → FailedAt between sunk gathered
        → PutsEach program scope names all sink sunk status.WriteFault
    failed_gathered passed rest gathered between sunk whole before failed =
        failed_at passed rest before.fronts before.others between sunk whole before.lines_are before.took
        (subst (λ (text : List ℕ). FailedAt between sunk text) before.gathered_are failed)

    -- all that is gathered was taken
    took_passed : (passed : List ReadInput) (gathered : List ℕ) (between sunk : Sunk)
        → (before : GathersLines program scope names passed gathered sink between) → Took between sunk gathered
        → Took sink sunk (concat (before.fronts ++ before.others))
    took_passed passed gathered between sunk before took =
        took_both before.fronts before.others sink between sunk before.took
        (subst (λ (text : List ℕ). Took between sunk text) before.gathered_are took)

    -- the line of the next one couldn't be added
    pub next_failed : (passed behind : List ReadInput) (r : ReadInput) (one gathered after : List ℕ)
        (between sunk : Sunk) (answer : Result (Unit {0}) SinkFault) → passed ++ r ∷ behind ≡ all
        → GathersLines program scope names passed gathered sink between → element_line program scope names r ≡ Some one
        → true ≡ is_err answer → Adds one gathered after between sunk answer
        → PutsEach program scope names all sink sunk status.WriteFault
    next_failed passed behind r one gathered after between sunk answer whole before line broken adds =
        ⊎_elim (failed_gathered passed (r ∷ behind) gathered between sunk whole before) at_next
        (not_added one gathered after between sunk answer broken adds)
      where
        at_next : FailedBehind gathered one between sunk → PutsEach program scope names all sink sunk status.WriteFault
        at_next failed =
            failed_at (passed ++ r ∷ []) behind (before.fronts ++ before.others) (one ∷ []) failed.between sunk
            (append_assoc passed (r ∷ []) behind ∙ whole)
            (more_lines passed r (before.fronts ++ before.others) one before.lines_are line)
            (took_passed passed gathered between failed.between before failed.before)
            (subst (λ (text : List ℕ). FailedAt failed.between sunk text) (sym (append-nil one)) failed.failed)

    -- memory ran out behind these, or the sink failed at the last ones
    pub ended_early : (passed rest : List ReadInput) (gathered : List ℕ) (between sunk : Sunk) (ended : Status)
        → passed ++ rest ≡ all → GathersLines program scope names passed gathered sink between
        → PutsAtOnce gathered status.Memory between sunk ended → PutsEach program scope names all sink sunk ended
    ended_early passed rest gathered between sunk ended whole before = ⊎_elim taken failed
      where
        taken : (ended ≡ status.Memory) × Took between sunk gathered → PutsEach program scope names all sink sunk ended
        taken is =
            let lines : List (List ℕ) = before.fronts ++ before.others in
            let behind = behind_passed passed rest lines whole before.lines_are in
            subst (λ (s : Status). PutsEach program scope names all sink sunk s) (sym is.0) (record {
              lines = lines ++ behind.0;
              lines_are = behind.1;
              puts = (
                length lines,
                took_first lines behind.0 sink sunk
                    (took_passed passed gathered between sunk before is.1),
              );
            })

        failed : (ended ≡ status.WriteFault) × FailedAt between sunk gathered
            → PutsEach program scope names all sink sunk ended
        failed is = subst (λ (s : Status). PutsEach program scope names all sink sunk s) (sym is.0)
            (failed_gathered passed rest gathered between sunk whole before is.1)

    -- memory ran out in front of the first one
    pub not_begun : PutsEach program scope names all sink sink status.Memory
    not_begun =
        ended_early [] all [] sink sink status.Memory refl (nothing_gathered sink) (inl (refl, took_nothing sink))

    -- no element is left, and what is gathered was put, or the sink failed at it
    pub all_ended : (passed : List ReadInput) (gathered : List ℕ) (between sunk : Sunk) (ended : Status)
        → passed ≡ all → GathersLines program scope names passed gathered sink between
        → PutsAtOnce gathered status.Fine between sunk ended → PutsEach program scope names all sink sunk ended
    all_ended passed gathered between sunk ended whole before = ⊎_elim taken failed
      where
        taken : (ended ≡ status.Fine) × Took between sunk gathered → PutsEach program scope names all sink sunk ended
        taken is = subst (λ (s : Status). PutsEach program scope names all sink sunk s) (sym is.0) (record {
          lines = before.fronts ++ before.others;
          lines_are = subst (λ (rs : List ReadInput). AreLines program scope names rs
              (before.fronts ++ before.others)) whole before.lines_are;
          puts = took_passed passed gathered between sunk before is.1;
        })

        failed : (ended ≡ status.WriteFault) × FailedAt between sunk gathered
            → PutsEach program scope names all sink sunk ended
        failed is = subst (λ (s : Status). PutsEach program scope names all sink sunk s) (sym is.0)
            (failed_gathered passed [] gathered between sunk (append-nil passed ∙ whole) before is.1)
