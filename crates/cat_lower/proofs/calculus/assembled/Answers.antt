use Rattle.std.proofs.Common.{List, sym, subst}
use Rattle.cat_value.specs.Laws.{AreSound}
use Rattle.cat_code.specs.declared.instr.Instr.{Instr}
use Rattle.cat_code.specs.declared.code.Tables.{Tables}
use Rattle.cat_lower.specs.Lowered.{AreCodeOf}
use Rattle.cat_lower.proofs.Assembled.{tables_of, code_of_draft, valid_code_of}
use Rattle.cat_lower.proofs.calculus.assembled.Goals as goal

pub from_parts-requires : goal.from_parts-requires
from_parts-requires c =
    let low =
    code_of_draft c.args.calc.now c.args.draft c.args.decls c.args.cases c.requires.draft c.requires.decls
    c.requires.cases in
    valid_code_of c.args.calc.now _ _ low c.calculi_are_well_formed.ensures
    (subst AreSound c.decls.ensures c.declarations_are_sound.ensures)

pub returns : goal.returns
returns c =
    let calc = c.args.calc.now in
    let low =
    code_of_draft calc c.args.draft c.args.decls c.args.cases c.requires.draft c.requires.decls c.requires.cases in
    subst (λ (t : Tables). AreCodeOf calc t c.from_parts.result.instructions) (sym c.from_parts.ensures.tables)
    (subst (λ (code : List Instr). AreCodeOf calc (tables_of c.args.draft c.args.decls c.args.cases) code)
    (sym c.from_parts.ensures.instructions) low)
