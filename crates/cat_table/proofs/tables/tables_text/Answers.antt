use Rattle.std.proofs.Common.{rules, ◌≡◌, ◌≤◌, ◌∙◌, ◌+◌, ◌++◌, ℕ, List, true, Option, Some, drop, length, refl, sym, ap}
use Rattle.std.proofs.Common.{arith, option_map, slice_get, subst, string_bytes}
use Rattle.std.specs.Prelude.{IfSome}
use Rattle.std.proofs.lemmas.Option.{slice_get_read}
use Rattle.cat_guard.specs.declared.table.TableTarget.{TableTarget}
use Rattle.cat_table.specs.Wanted.{is_wanted}
use Rattle.cat_table.specs.inside.OneTable.{IsOneTable}
use Rattle.cat_table.proofs.TablesLemmas.{leads_on, leads_past, rest_at}
use Rattle.cat_table.proofs.tables.tables_text.Goals as goal

pub loop-number-preserved : goal.loop-number-preserved
loop-number-preserved c =
    let ds = c.args.program.now.decls in
    let files = c.args.files.now in
    let table = c.args.table.now in
    let budget = c.args.budget in
    let wanted = option_map (λ name. name.now) c.args.wanted in
    let items = c.as_slice-target-items.result.now in
    let l = c.loop-number in
    let t = c.target-item.result in
    let m = c.in_ok-made.made in
    let at : slice_get table.targets l.number ≡ Some t =
    ap (λ (ts : List TableTarget). slice_get ts l.number) (sym c.as_slice-target-items.ensures)
    ∙ slice_get_read items (length items) l.number t refl c.loop-number-test.true c.target-item.is in
    let same : c.in-Ok.number ≡ l.number = search rules in
    let there : slice_get table.targets c.in-Ok.number ≡ Some t =
    ap (λ (k : ℕ). slice_get table.targets k) same ∙ at in
    let yes_one : is_wanted wanted t ≡ true = search rules in
    let made = subst (λ (o : Option TableTarget). IfSome o
    (λ t. IsOneTable ds files table budget t (string_bytes m.text) m.spent)) there c.in_ok-made.ensures.table in
    let grown : string_bytes c.push_str.new.self ≡ string_bytes l.text ++ string_bytes m.text = search rules in
    record {
      leads =
          leads_on ds files table budget wanted (drop l.number table.targets) (drop (l.number + 1) table.targets)
          table.targets t (string_bytes l.text) (string_bytes c.push_str.new.self) (string_bytes m.text) l.spent m.spent
          (rest_at table.targets l.number t at) yes_one made grown l.invariant.leads;
      whole = c.in_ok-made.ensures.back ∙ l.invariant.whole;
    }

pub returns : goal.returns
returns c =
    let table = c.args.table.now in
    let l = c.loop-number in
    let all = ap length c.as_slice-target-items.ensures in
    let short : length table.targets ≤ l.number = omega (arith, all, c.loop-number-test.false) in
    leads_past c.args.program.now.decls c.args.files.now table c.args.budget
    (option_map (λ name. name.now) c.args.wanted) table.targets l.number (string_bytes l.text) l.spent short
    l.invariant.leads
