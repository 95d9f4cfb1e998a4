use Rattle.cat_io.specs.Stored.{texts_of}
use Rattle.cat_app.proofs.Answering.{what_fits}
use Rattle.cat_app.proofs.EachMode.{writes_what_is_asked}
use Rattle.cat_app.proofs.Faults.{no_fault}
use Rattle.cat_app.proofs.Putting.{reply_untouched}
use Rattle.cat_app.proofs.top.catala.Goals as goal

pub returns-clause-a_fault_comes_only_where_a_count_rose : goal.returns-clause-a_fault_comes_only_where_a_count_rose
returns-clause-a_fault_comes_only_where_a_count_rose g c none steady =
    no_fault (texts_of c.args.words.now) _ _ _ _ c.answer.result c.answer.ensures.answers none steady

pub returns-clause-a_reply_comes_only_where_no_count_rose : goal.returns-clause-a_reply_comes_only_where_no_count_rose
returns-clause-a_reply_comes_only_where_no_count_rose g c is =
    reply_untouched (texts_of c.args.words.now) _ _ _ _ c.answer.result c.answer.ensures.answers is

pub returns-clause-what_fits_is_written : goal.returns-clause-what_fits_is_written
returns-clause-what_fits_is_written g c =
    what_fits (texts_of c.args.words.now) _ _ _ _ c.answer.result c.answer.ensures.answers

pub returns-clause-each_mode_writes_what_is_asked : goal.returns-clause-each_mode_writes_what_is_asked
returns-clause-each_mode_writes_what_is_asked g c =
    writes_what_is_asked c.pieces_have_one_program.ensures c.refused_pieces_are_not_accepted.ensures
    c.told_sources_are_gathered.ensures.endings c.told_sources_are_gathered.ensures.files
    c.a_text_has_one_image.ensures
    (λ image tables others right told same. c.lines_tell_one_table.ensures image tables others told same right)
    (texts_of c.args.words.now) _ _ _ _ c.answer.result c.answer.ensures.answers
