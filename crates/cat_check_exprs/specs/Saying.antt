-- What was said of a scope, and more behind it.
use Rattle.std.specs.Prelude.{List, [], ◌++◌, map, Result, Ok, Err}
use Rattle.cat_names.specs.declared.fault.Refusal.{Refusal}
use Rattle.cat_names.specs.Bodies.{defs_in, assertions_in, source_part}
use Rattle.cat_names.specs.Found.{Found, and_then}
use Rattle.cat_names.specs.Lines.{Line}
use Rattle.cat_check_exprs.specs.declared.said.Said.{Said}

-- nothing
abbrev pub nothing_said : Said
nothing_said = record { defs = []; assertions = []; source = [] }

-- what was said, and some lines behind it
abbrev pub with_lines : Said → List Line → Said
with_lines said lines = record {
  defs = said.defs ++ defs_in lines;
  assertions = said.assertions ++ assertions_in lines;
  source = said.source ++ map source_part lines;
}

-- what was said, and behind it the lines that are found
abbrev pub behind : Said → Found (List Line) → Found Said
behind said found = and_then found (λ lines. Ok (with_lines said lines))

-- what is said after a call that adds to it
abbrev pub added : {A : Type 0} → Result A Refusal → Said → Result Said Refusal
added (Ok _) said = Ok said
added (Err e) said = Err e
