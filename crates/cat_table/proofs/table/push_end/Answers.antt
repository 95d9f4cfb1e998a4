use Rattle.std.proofs.Common.{rules, ◌≡◌, ◌∙◌, ◌++◌, ℕ, List, OnOk, ap, codes, decimal, string_bytes, subst, sym}
use Rattle.cat_table.specs.Rows.{end_text, ended}
use Rattle.cat_table.proofs.table.push_end.Goals as goal

pub returns-in_ok-last-in-Spent : goal.returns-in_ok-last-in-Spent
returns-in_ok-last-in-Spent c =
    let shown = c.leaves_in-shown.result in
    let last = string_bytes c.in_ok-last-in-Spent.last in
    let said : last ≡ codes "rest not shown, budget " ++ decimal shown = search rules in
    let line : ended c.as_str.result.now ≡ end_text c.args.search.now =
    ap ended (c.as_str.ensures.value ∙ said
    ∙ ap (λ (n : ℕ). codes "rest not shown, budget " ++ decimal n) c.leaves_in-shown.ensures)
    ∙ sym (ap end_text c.in-Spent.is) in
    subst (λ (added : List ℕ). OnOk c.push_line.result
    (string_bytes c.push_line.new.text ≡ string_bytes c.args.text.now ++ added)) line c.push_line.ensures
