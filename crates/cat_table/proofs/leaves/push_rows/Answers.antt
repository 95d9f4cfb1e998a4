use Rattle.std.proofs.Common.{◌≡◌, ◌∙◌, ◌++◌, Bool, IsTrue, List, [], ap, arith, get_or, length, refl, slice_get}
use Rattle.std.proofs.Common.{string_bytes, subst, sym, take}
use Rattle.std.specs.Prelude.{IfSome}
use Rattle.std.proofs.lemmas.List.{drop_more}
use Rattle.cat_region.proofs.Exported.{inhabited_alike}
use Rattle.cat_guard.specs.declared.tree.TreeNode.TheVariants as node
use Rattle.cat_search.specs.declared.way.Answer.{Answer}
use Rattle.cat_search.specs.Searched.{everything}
use Rattle.cat_search.specs.Ways.{ask_below, led_to, way_from}
use Rattle.cat_table.specs.inside.Here.{naming_at}
use Rattle.cat_table.specs.inside.Nodes.{nodes_text}
use Rattle.cat_table.specs.inside.Walking.{AreReached, GoesOn}
use Rattle.cat_table.proofs.NodeLemmas.{asked_step, lines_end, lines_step, reached_step}
use Rattle.cat_table.proofs.RowLemmas.{led_dims}
use Rattle.cat_table.proofs.TableLemmas.{if_some}
use Rattle.cat_table.proofs.WalkLemmas.{narrowings_on, on_start, passed_length}
use Rattle.cat_table.proofs.leaves.push_rows.Goals as goal

pub loop-node-init : goal.loop-node-init
loop-node-init c =
    let here = c.args.here.now in
    let table = here.table.now in
    let o = slice_get table.targets c.args.target in
    let nodes = c.args.nodes.now in
    let old = string_bytes c.args.text.now in
    let none = c.new-way.ensures in
    let long = ap length none in
    record {
      text_is = subst (λ (w : List Answer). IfSome o (λ t. old ++ nodes_text (naming_at here) table t w nodes
          ≡ old ++ nodes_text (naming_at here) table t [] nodes)) (sym none) (if_some o (λ t is. refl));
      asked = λ n. subst (λ (w : List Answer). IsTrue (ask_below (length table.atoms) (way_from w (take n nodes))))
          (sym none) (c.requires.asked n);
      reached = subst (λ (w : List Answer). AreReached table.atoms (everything table.terms) w nodes) (sym none)
          c.requires.reached;
      few = omega (arith, long);
      on = on_start table c.args.target (length nodes) c.new-way.result c.in_ok-region.region
          c.in_ok-levels.levels none c.in_ok-region.ensures c.in_ok-levels.ensures;
    }

pub push_node-requires-clause-dims : goal.push_node-requires-clause-dims
push_node-requires-clause-dims c = c.loop-node.invariant.on.here.dims

pub push_node-requires-clause-narrowings : goal.push_node-requires-clause-narrowings
push_node-requires-clause-narrowings c =
    let table = c.args.here.now.table.now in
    let l = c.loop-node in
    narrowings_on table.terms table.atoms (length c.args.nodes.now) l.way l.region l.invariant.on.here

pub push_node-requires-clause-some : goal.push_node-requires-clause-some
push_node-requires-clause-some c =
    let table = c.args.here.now.table.now in
    let l = c.loop-node in
    let nodes = c.args.nodes.now in
    let n = get_or nodes l.node-index (node.Split 0) in
    let rest = drop_more nodes l.node-index (node.Split 0) c.loop-node-test.true in
    let there = led_to table.atoms (everything table.terms) l.way in
    inhabited_alike there l.region
    (led_dims table.atoms (everything table.terms) l.way ∙ sym l.invariant.on.here.dims)
    (sym (narrowings_on table.terms table.atoms (length nodes) l.way l.region l.invariant.on.here))
    (reached_step table.atoms (everything table.terms) nodes l.node-index n l.way _ rest refl l.invariant.reached).0

pub push_node-requires-clause-live : goal.push_node-requires-clause-live
push_node-requires-clause-live c = c.loop-node.invariant.on.live

pub move_on-requires-clause-asked : goal.move_on-requires-clause-asked
move_on-requires-clause-asked c =
    let l = c.loop-node in
    let nodes = c.args.nodes.now in
    let n = get_or nodes l.node-index (node.Split 0) in
    let rest = drop_more nodes l.node-index (node.Split 0) c.loop-node-test.true in
    asked_step (length c.args.here.now.table.now.atoms) nodes l.node-index n l.way _ rest refl l.invariant.asked 0

pub move_on-requires-clause-few : goal.move_on-requires-clause-few
move_on-requires-clause-few c =
    let few = c.loop-node.invariant.few in
    let below = c.loop-node-test.true in
    omega (arith, few, below)

pub move_on-requires-clause-on : goal.move_on-requires-clause-on
move_on-requires-clause-on c = c.loop-node.invariant.on

pub returns-then-not-more : goal.returns-then-not-more
returns-then-not-more c =
    let here = c.args.here.now in
    let table = here.table.now in
    let l = c.loop-node in
    let nodes = c.args.nodes.now in
    let o = slice_get table.targets c.args.target in
    let n = get_or nodes l.node-index (node.Split 0) in
    let next = c.move_on.new.way in
    let rest = drop_more nodes l.node-index (node.Split 0) c.loop-node-test.true in
    let further = c.in_ok-more.ensures.way in
    let over : next ≡ [] = subst (λ (b : Bool). GoesOn table c.args.target (length nodes) next c.move_on.new.region
    c.move_on.new.levels b) c.if-not-more.true c.in_ok-more.ensures.on in
    let after = reached_step table.atoms (everything table.terms) nodes l.node-index n l.way next rest further
    l.invariant.reached in
    lines_end (naming_at here) table o nodes _ next (string_bytes c.push_node.new.text) (string_bytes c.args.text.now)
    (after.1 over)
    (lines_step (naming_at here) table o nodes l.node-index n l.way next (string_bytes l.text)
    (string_bytes c.push_node.new.text) (string_bytes c.args.text.now) rest further c.in_ok-push_node.ensures
    l.invariant.text_is)

pub loop-node-preserved : goal.loop-node-preserved
loop-node-preserved c =
    let here = c.args.here.now in
    let table = here.table.now in
    let l = c.loop-node in
    let nodes = c.args.nodes.now in
    let n = get_or nodes l.node-index (node.Split 0) in
    let next = c.move_on.new.way in
    let rest = drop_more nodes l.node-index (node.Split 0) c.loop-node-test.true in
    let further = c.in_ok-more.ensures.way in
    let long = passed_length n l.way in
    let few = l.invariant.few in
    let same = ap length further in
    record {
      text_is =
          lines_step (naming_at here) table (slice_get table.targets c.args.target) nodes l.node-index n l.way next
          (string_bytes l.text) (string_bytes c.push_node.new.text) (string_bytes c.args.text.now) rest further
          c.in_ok-push_node.ensures l.invariant.text_is;
      asked = asked_step (length table.atoms) nodes l.node-index n l.way next rest further l.invariant.asked;
      reached = (reached_step table.atoms (everything table.terms) nodes l.node-index n l.way next rest further
          l.invariant.reached).2;
      few = omega (arith, long, few, same);
      on = subst (λ (b : Bool). GoesOn table c.args.target (length nodes) next c.move_on.new.region
          c.move_on.new.levels b) c.if-not-more.false c.in_ok-more.ensures.on;
    }
