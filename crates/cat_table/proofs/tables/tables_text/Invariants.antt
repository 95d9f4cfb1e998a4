use Rattle.std.proofs.Common.{◌≡◌, drop, string_bytes}
use Rattle.std.specs.Prelude.{option_map}
use Rattle.cat_search.specs.Searched.{roomy}
use Rattle.cat_table.proofs.TablesLemmas.{Leads}
use Rattle.cat_table.proofs.tables.tables_text.Given as goal

-- behind what is written, the tables of the targets that are left are those of all
abbrev pub invariant-loop-number : goal.invariant-loop-number
invariant-loop-number l = record {
  leads : Leads l.program.decls l.files l.table l.budget (option_map (λ name. name.now) l.wanted)
      (drop l.number l.table.targets) l.table.targets (string_bytes l.text) l.spent;
  whole : l.whole ≡ roomy l.table.terms l.table.atoms;
}
