use Rattle.std.proofs.Common.{◌∙◌, ◌++◌, map, take, sym, refl}
use Rattle.std.proofs.lemmas.Result.{err_from_is_err_and}
use Rattle.cat_verify_tables.specs.TypeWords.{IsTypeName}
use Rattle.cat_verify_tables.specs.inside.Causes.{IsFaultyIn}
use Rattle.cat_verify_tables.specs.inside.NamedWords.{IsWrongHeader, IsWrongHeaderAt, names_in}
use Rattle.cat_verify_tables.proofs.CauseLemmas.{refuses}
use Rattle.cat_verify_tables.proofs.EntryLemmas.{faulty_in, line_more, right_more}
use Rattle.cat_verify_tables.proofs.NameLemmas.{names_numbered, numbered_more, wrong_moved}
use Rattle.cat_verify_tables.proofs.named.add_names.Goals as goal

pub returns-in_err-add_type_name-clause-cause : goal.returns-in_err-add_type_name-clause-cause
returns-in_err-add_type_name-clause-cause g c =
    let p = err_from_is_err_and c.from_residual-in_err-add_type_name.result
    c.from_residual-in_err-add_type_name.ensures.1 in
    let entries = c.args.entries.now in
    let l = c.loop-at in
    let entry = c.index-entries-at.result in
    let name_of = g.T.Headed.name_of in
    let names = names_in c.args.names.now in
    let Fault = IsWrongHeaderAt name_of names in
    rw (p.1, p.2) (refuses (IsFaultyIn g.T.Headed.parts_of Fault c.args.first entries) l.line
    (λ wrong. faulty_in g.T.Headed.parts_of Fault c.args.first entries l.at entry l.line l.line c.loop-at-test.true
    (sym c.index-entries-at.is) l.invariant.line (
      refl,
      wrong_moved IsTypeName (names_in l.names) (names ++ map name_of (take l.at entries)) c.name.result.now
          (name_of entry)
          (names_numbered c.args.names.now l.names c.args.from (map name_of (take l.at entries)) l.invariant.names)
          c.name.ensures wrong,
    ))
    c.in_err-add_type_name.field-0.0 c.in_err-add_type_name.ensures.cause)

pub loop-at-preserved : goal.loop-at-preserved
loop-at-preserved g c =
    let entries = c.args.entries.now in
    let l = c.loop-at in
    let entry = c.index-entries-at.result in
    let name_of = g.T.Headed.name_of in
    let names = names_in c.args.names.now in
    let within = c.loop-at-test.true in
    let is = sym c.index-entries-at.is in
    record {
      names = numbered_more name_of c.args.from entries l.at entry c.args.names.now l.names c.add_type_name.new.names
          c.name.result.now c.in_ok-number.number within is l.invariant.names c.name.ensures
          (c.in_ok-number.ensures ∙ c.in_ok-behind.ensures) c.in_ok-add_type_name.ensures.added;
      line = line_more g.T.Headed.parts_of entries l.at entry c.args.first l.line c.parts.result _
          within is l.invariant.line c.parts.ensures
          c.in_ok-line.ensures;
      right = right_more (IsWrongHeader name_of names) entries l.at entry within is l.invariant.right
          (λ wrong. c.in_ok-add_type_name.ensures.right
          (wrong_moved IsTypeName (names ++ map name_of (take l.at entries)) (names_in l.names) (name_of entry)
          c.name.result.now
          (sym (names_numbered c.args.names.now l.names c.args.from (map name_of (take l.at entries))
          l.invariant.names))
          (sym c.name.ensures) wrong));
    }
