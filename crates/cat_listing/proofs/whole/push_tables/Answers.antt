use Rattle.std.proofs.Common.{rules, ◌≡◌, ◌∙◌, ◌++◌, List, ap, OnOk, codes, string_bytes}
use Rattle.cat_pos.specs.declared.pos.Pos.{Pos}
use Rattle.cat_listing.specs.Texts.{Text, lines_of}
use Rattle.cat_listing.specs.Listing.{constant_line, function_line, place_line, table_lines, target_line}
use Rattle.cat_listing.proofs.Parts.{both_parts}
use Rattle.cat_listing.proofs.whole.push_tables.Goals as goal

pub returns : goal.returns
unfolding table_lines
returns c =
    let t = c.args.tables.now in
    let start : Text = string_bytes c.args.text.now in
    let one : Text = string_bytes c.push_targets.new.text in
    let two : Text = string_bytes c.push_places.new.text in
    let three : Text = string_bytes c.push_functions.new.text in
    let four : Text = string_bytes c.push_places-2.new.text in
    let all : Text = string_bytes c.push_constants.new.text in
    let targets : Text = lines_of (target_line t.decls) t.targets in
    let definitions : Text = lines_of (place_line (codes "definition ")) t.definitions in
    let functions : Text = lines_of function_line t.functions in
    let positions : Text = lines_of (place_line (codes "position ")) t.positions in
    let constants : Text = lines_of (constant_line t.decls) t.constants in
    let first : one ≡ start ++ targets = search rules in
    let second : two ≡ one ++ definitions =
    c.in_ok-push_places.ensures
    ∙ ap (λ (ps : List Pos). one ++ lines_of (place_line (codes "definition ")) ps) c.as_slice-2.ensures in
    let third : three ≡ two ++ functions = search rules in
    let fourth : four ≡ three ++ positions =
    c.in_ok-push_places-2.ensures
    ∙ ap (λ (ps : List Pos). three ++ lines_of (place_line (codes "position ")) ps) c.as_slice-4.ensures in
    let last : OnOk c.push_constants.result (all ≡ four ++ constants) = search rules in
    both_parts c.push_constants.result start one all targets (definitions ++ (functions ++ (positions ++ constants)))
    first
    (both_parts c.push_constants.result one two all definitions (functions ++ (positions ++ constants)) second
    (both_parts c.push_constants.result two three all functions (positions ++ constants) third
    (both_parts c.push_constants.result three four all positions constants fourth last)))
