-- `words::put_shape` meets its contract: the text of each number.
-- Assumes nothing.
use native.Mathlib.Omega.{arith}
use Rattle.words.specs.Words.{short_word, mark_word, version_word, count_word, machine_word, node_word, edge_word, start_word, retiming_word, tail_word}
use Rattle.words.specs.Refusals.{shape_texts}
use Rattle.words.proofs.Laws.{named, none_named}
use Rattle.words.proofs.put_shape.Goals as goal

pub returns-in-1 : goal.returns-in-1
unfolding shape_texts short_word
returns-in-1 c = (omega arith, named _ _ (shape_texts c.args.offset) _ 1 c.in-1.is c.put_offset.ensures.1)

pub returns-in-2 : goal.returns-in-2
unfolding shape_texts mark_word
returns-in-2 c = (omega arith, named _ _ (shape_texts c.args.offset) _ 2 c.in-2.is c.put_offset-in-2.ensures.1)

pub returns-in-3 : goal.returns-in-3
unfolding shape_texts version_word
returns-in-3 c = (omega arith, named _ _ (shape_texts c.args.offset) _ 3 c.in-3.is c.put_offset-in-3.ensures.1)

pub returns-in-4 : goal.returns-in-4
unfolding shape_texts count_word
returns-in-4 c = (omega arith, named _ _ (shape_texts c.args.offset) _ 4 c.in-4.is c.put_offset-in-4.ensures.1)

pub returns-in-5 : goal.returns-in-5
unfolding shape_texts machine_word
returns-in-5 c = (omega arith, named _ _ (shape_texts c.args.offset) _ 5 c.in-5.is c.put_offset-in-5.ensures.1)

pub returns-in-6 : goal.returns-in-6
unfolding shape_texts node_word
returns-in-6 c = (omega arith, named _ _ (shape_texts c.args.offset) _ 6 c.in-6.is c.put_offset-in-6.ensures.1)

pub returns-in-7 : goal.returns-in-7
unfolding shape_texts edge_word
returns-in-7 c = (omega arith, named _ _ (shape_texts c.args.offset) _ 7 c.in-7.is c.put_offset-in-7.ensures.1)

pub returns-in-8 : goal.returns-in-8
unfolding shape_texts start_word
returns-in-8 c = (omega arith, named _ _ (shape_texts c.args.offset) _ 8 c.in-8.is c.put_offset-in-8.ensures.1)

pub returns-in-9 : goal.returns-in-9
unfolding shape_texts retiming_word
returns-in-9 c = (omega arith, named _ _ (shape_texts c.args.offset) _ 9 c.in-9.is c.put_offset-in-9.ensures.1)

pub returns-in-10 : goal.returns-in-10
unfolding shape_texts tail_word
returns-in-10 c = (omega arith, named _ _ (shape_texts c.args.offset) _ 10 c.in-10.is c.put_one.ensures.1)

pub returns-in_default : goal.returns-in_default
returns-in_default c = (omega arith, none_named _ _ _ (omega arith))
