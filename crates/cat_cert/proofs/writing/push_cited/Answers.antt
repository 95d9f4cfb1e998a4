use Rattle.std.proofs.Common.{◌≡◌, ◌∙◌, ◌++◌, ◌∷◌, [], List, ℕ, ap, sym, subst, append_assoc, codes, map, string_bytes}
use Rattle.std.proofs.Common.{rules, OnOk}
use Rattle.cat_guard.specs.declared.tree.CitedNode.{CitedNode}
use Rattle.cat_cert.specs.Lines.{node_line, named_lines}
use Rattle.cat_cert.specs.Texts.{text_of}
use Rattle.cat_cert.proofs.TextLemmas.{ended_with, text_of-append}
use Rattle.cat_cert.proofs.writing.push_cited.Goals as goal

pub returns : goal.returns
returns c =
    let t = c.args.tree.now in
    let start = string_bytes c.args.text.now in
    let mid = string_bytes c.push_str.new.self in
    let end = string_bytes c.push_nodes.new.text in
    let names = named_lines 0 t.names in
    let last : mid ≡ start ++ text_of names ++ codes "tree\n" = search rules in
    let front : mid ≡ start ++ text_of (names ++ codes "tree" ∷ []) =
    last ∙ append_assoc start (text_of names) (codes "tree\n")
    ∙ ap (λ x. start ++ x) (sym (text_of-append names (codes "tree" ∷ []))) in
    subst (λ (ls : List (List ℕ)). OnOk c.push_nodes.result (end ≡ start ++ text_of ls))
    (append_assoc names (codes "tree" ∷ []) (map node_line t.main))
    (ended_with c.push_nodes.result start mid end (names ++ codes "tree" ∷ []) (map node_line t.main) front
    (subst (λ (ns : List CitedNode). OnOk c.push_nodes.result (end ≡ mid ++ text_of (map node_line ns)))
    c.as_slice.ensures c.push_nodes.ensures))
