-- The code of each form of term.
use Rattle.std.proofs.Common.{◌≡◌, ℕ, ◌+◌, List, map, rules}
use Rattle.cat_pos.specs.declared.pos.Pos.{Pos}
use Rattle.cat_scope.specs.declared.expr.Expr.{Expr}
use Rattle.cat_calc.specs.declared.term.Justification.{Justification}
use Rattle.cat_calc.specs.declared.term.DefaultTerm.{DefaultTerm}
use Rattle.cat_calc.specs.declared.term.DefaultTerm.TheVariants as leaf
use Rattle.cat_calc.specs.declared.term.DefaultTerm.TheViews as term
use Rattle.cat_calc.specs.declared.term.DefaultTerm.TheFolds.{fold_out-DefaultTerm}
use Rattle.cat_code.specs.declared.instr.Instr.TheVariants as instr
use Rattle.cat_lower.specs.Laying.{Coded, nothing, one, then_code}
use Rattle.cat_lower.specs.Terms.{TermStanding, value_code, default_code, term_by, term_code}

pub code_Empty : (at : TermStanding) → term_code at leaf.Empty ≡ nothing
unfolding term_code
code_Empty at = search (rules, term.the_lemmas, fold_out-DefaultTerm Coded (term_by at))

pub code_Consequence : (at : TermStanding) (number : ℕ) (p : Pos) (e : Expr)
    → term_code at (leaf.Consequence number p e)
    ≡ then_code (value_code at e) (one (instr.Hold (at.here.definitions + number)))
unfolding term_code
code_Consequence at number p e = search (rules, term.the_lemmas, fold_out-DefaultTerm Coded (term_by at))

pub code_Default : (at : TermStanding) (ts : List DefaultTerm) (j : Justification) (t : DefaultTerm)
    → term_code at (term.Default ts j t) ≡ default_code at (map (term_code at) ts) j (term_code at t)
unfolding term_code
code_Default at ts j t = search (rules, term.the_lemmas, fold_out-DefaultTerm Coded (term_by at))
