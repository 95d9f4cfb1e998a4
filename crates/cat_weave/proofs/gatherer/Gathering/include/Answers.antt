use Rattle.std.proofs.Common.{◌≡◌, ◌∙◌, ◌<◌, ◌≤◌, ◌⊎◌, inl, inr, true, false, length, arith, rules}
use Rattle.cat_pos.specs.Position.{pos_file}
use Rattle.cat_weave.specs.Gathered.{is_among}
use Rattle.cat_weave.specs.inside.UnderWay.{gathered_of}
use Rattle.cat_weave.proofs.GatherLemmas.{twice_cause, named_at, on_ok, on_both_ok, if_err, take_goes_on, free_goes_on}
use Rattle.cat_weave.proofs.GatherLemmas.{take_cause}
use Rattle.cat_weave.proofs.gatherer.Gathering.include.Goals as goal
use Rattle.cat_weave.proofs.gatherer.Gathering.include.Goals.{then-len-eq-MOST_FILES-via-then-len-eq-MOST_FILES}
use Rattle.cat_weave.proofs.gatherer.Gathering.include.Goals.{then-len-eq-MOST_FILES-via-else-len-eq-MOST_FILES+then-is_taken}

pub returns-then-len-eq-MOST_FILES-clause-cause : goal.returns-then-len-eq-MOST_FILES-clause-cause
returns-then-len-eq-MOST_FILES-clause-cause g c main on =
    let files = c.args.self.now.files in
    let why : (64 ≤ length files) ⊎ (is_among c.args.path.now files ≡ true) =
    elim c.then-len-eq-MOST_FILES.branch [
      | then-len-eq-MOST_FILES-via-then-len-eq-MOST_FILES w ↦ inl (omega arith)
      | then-len-eq-MOST_FILES-via-else-len-eq-MOST_FILES+then-is_taken w ↦ inr (first_of (cc, search rules))
    ] in
    let named = c.in_ok-name.ensures ∙ named_at files (pos_file c.args.pos) c.name.result.now
    (rw c.file.ensures.value at c.name.ensures) in
    twice_cause (g.S.Shelf.state c.args.shelf.now) main c.args.path.now c.in_ok-name.name c.args.pos
    c.args.self.now.to_come (gathered_of c.args.self.now) why named on

pub returns-clause-on : goal.returns-clause-on
returns-clause-on g c =
    let old = gathered_of c.args.self.now in
    let room : length c.args.self.now.files < 64 = omega (arith, c.requires.bounded.few) in
    let fresh : is_among c.args.path.now c.args.self.now.files ≡ false = first_of (cc, search rules) in
    let told = (g.S.Shelf.state c.args.shelf.now).content in
    on_both_ok c.take.result c.take.ensures.taken c.take.ensures.bounded (λ taken bounded. record {
      bounded = bounded;
      leads = λ main on. take_goes_on told main c.args.path.now old (gathered_of c.take.new.self)
          c.args.self.now.to_come c.take.new.self.to_come fresh taken.takes
          (free_goes_on told main c.args.path.now c.args.pos c.args.self.now.to_come old room fresh on);
    })

pub returns-clause-kept : goal.returns-clause-kept
returns-clause-kept g c =
    on_ok c.take.result c.take.ensures.taken (λ taken. record { same = taken.same; fewer = taken.fewer })

pub returns-clause-cause : goal.returns-clause-cause
returns-clause-cause g c =
    let old = gathered_of c.args.self.now in
    let shelf = g.S.Shelf.state c.args.shelf.now in
    let room : length c.args.self.now.files < 64 = omega (arith, c.requires.bounded.few) in
    let fresh : is_among c.args.path.now c.args.self.now.files ≡ false = first_of (cc, search rules) in
    if_err c.take.result c.take.ensures.refused (λ e refused main on.
    take_cause shelf (g.S.Shelf.state c.take.new.shelf) main c.args.path.now old c.args.self.now.to_come e fresh
    (free_goes_on shelf.content main c.args.path.now c.args.pos c.args.self.now.to_come old room fresh on) refused)
