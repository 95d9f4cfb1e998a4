use Rattle.std.proofs.Common.{◌≡◌, List, [], map, string_bytes, rules, subst, sym, ap, ◌∙◌, codes}
use Rattle.std.proofs.Common.{IfSome}
use Rattle.std.specs.declared.alloc.Global.{Global}
use Rattle.clap.specs.Words.{App, Row, HasKind, app_of, fault_of, found_of, is_simple, is_simple_and_free, kind_of}
use Rattle.clap.specs.Words.{matches_of, one_of, rows_of}
use Rattle.clap.specs.declared.error.kind.ErrorKind.TheVariants.{OutOfMemory}
use Rattle.cat_words.specs.Asked.{IsCases, found_in, where_faultless}
use Rattle.cat_words.specs.TheCommand.{the_command, the_command-is_free, the_command-is_simple}
use Rattle.cat_words.proofs.CasesRead.{option_read}
use Rattle.cat_words.proofs.Refusing.{none_left, refused}
use Rattle.cat_words.proofs.command_line.read_words.Goals as goal

pub found-requires : goal.found-requires
found-requires c =
    option_read c.in_ok-command.command c.in-Ok.matches c.in_ok-command.ensures c.in-Ok.ensures.parsed

pub returns-in-Ok-clause-asked : goal.returns-in-Ok-clause-asked
returns-in-Ok-clause-asked c =
    let words = map (string_bytes {Z = Global}) c.args.words.now in
    let app : app_of c.in_ok-command.command ≡ the_command = c.in_ok-command.ensures in
    let rows : rows_of (found_of c.in-Ok.matches) ≡ matches_of the_command words =
    subst (λ (a : App). rows_of (found_of c.in-Ok.matches) ≡ matches_of a words) app
    (c.in-Ok.ensures.matches (ap is_simple app ∙ the_command-is_simple)).0 in
    let none : fault_of the_command words ≡ [] =
    subst (λ (a : App). fault_of a words ≡ []) app
    (c.in-Ok.ensures.kinds (ap is_simple_and_free app ∙ the_command-is_free)) in
    c.found.ensures.asked ∙ (ap found_in rows
    ∙ sym (ap (λ kinds. where_faultless kinds (found_in (matches_of the_command words))) none))

pub returns-in-Ok-clause-cases : goal.returns-in-Ok-clause-cases
returns-in-Ok-clause-cases c =
    let words = map (string_bytes {Z = Global}) c.args.words.now in
    let app : app_of c.in_ok-command.command ≡ the_command = c.in_ok-command.ensures in
    let rows : rows_of (found_of c.in-Ok.matches) ≡ matches_of the_command words =
    subst (λ (a : App). rows_of (found_of c.in-Ok.matches) ≡ matches_of a words) app
    (c.in-Ok.ensures.matches (ap is_simple app ∙ the_command-is_simple)).0 in
    subst (λ (rows : List Row). IfSome c.found.result (λ l. IsCases (one_of (codes "cases") rows) l.cases)) rows
    c.found.ensures.cases

pub returns-clause-asked : goal.returns-clause-asked
returns-clause-asked c =
    let words = map (string_bytes {Z = Global}) c.args.words.now in
    let app : app_of c.in_ok-command.command ≡ the_command = c.in_ok-command.ensures in
    let has : HasKind (fault_of the_command words) c.in-Err.error =
    subst (λ (a : App). HasKind (fault_of a words) c.in-Err.error) app
    (c.in-Err.ensures.kinds (ap is_simple_and_free app ∙ the_command-is_free)) in
    let differs : kind_of c.in-Err.error ≡ OutOfMemory → ⊥ = search rules in
    refused (fault_of the_command words) (found_in (matches_of the_command words))
    (λ none. differs (none_left _ c.in-Err.error has none))
