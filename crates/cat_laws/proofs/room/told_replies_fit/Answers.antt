use Rattle.cat_laws.proofs.Replies.{run_room, shelf_room}
use Rattle.cat_laws.proofs.room.told_replies_fit.Goals as goal

pub returns-clause-runs : goal.returns-clause-runs
returns-clause-runs c words shelf told = run_room (record {
  exactly = c.programs_are_read_exactly.ensures;
  rightly = c.expressions_are_read_rightly.ensures;
  one_tree = c.tokens_spell_one_program.ensures;
  decided = c.each_tree_is_accepted_or_refused.ensures;
  no_program = c.refused_trees_have_no_program.ensures;
  one_program = c.trees_have_one_program.ensures;
}) words shelf told

pub returns-clause-shelves : goal.returns-clause-shelves
returns-clause-shelves c words shelf runs told = shelf_room (record {
  exactly = c.programs_are_read_exactly.ensures;
  rightly = c.expressions_are_read_rightly.ensures;
  one_tree = c.tokens_spell_one_program.ensures;
  decided = c.each_tree_is_accepted_or_refused.ensures;
  no_program = c.refused_trees_have_no_program.ensures;
  one_program = c.trees_have_one_program.ensures;
}) words shelf runs told
