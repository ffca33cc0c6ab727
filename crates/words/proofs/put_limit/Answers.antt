-- `words::put_limit` meets its contract: the text of each number from 16 on.
-- Assumes nothing.
use Prim.Native.Nat.{◌-◌}
use native.Mathlib.Omega.{arith}
use Rattle.words.specs.Words.{size_word, steps_word, long_word, early_word, at_node_word, at_edge_word, busy_word, then_class_word}
use Rattle.words.specs.Refusals.{rule_texts}
use Rattle.words.proofs.Laws.{named_rule, unnamed}
use Rattle.words.proofs.put_limit.Goals as goal

pub returns-in-16 : goal.returns-in-16
unfolding rule_texts size_word steps_word
returns-in-16 c = (omega arith, named_rule _ _ (rule_texts c.args.answer.now c.args.from c.args.to) _ 16 c.in-16.is c.put_amid.ensures.1)

pub returns-in-17 : goal.returns-in-17
unfolding rule_texts long_word
returns-in-17 c = (omega arith, named_rule _ _ (rule_texts c.args.answer.now c.args.from c.args.to) _ 17 c.in-17.is c.word.ensures)

pub returns-in-18 : goal.returns-in-18
unfolding rule_texts
returns-in-18 c = (omega arith, named_rule _ _ (rule_texts c.args.answer.now c.args.from c.args.to) _ 18 c.in-18.is c.put_room.ensures.1)

pub returns-in-19 : goal.returns-in-19
unfolding rule_texts early_word at_node_word at_edge_word
returns-in-19 c = (omega arith, named_rule _ _ (rule_texts c.args.answer.now c.args.from c.args.to) _ 19 c.in-19.is c.put_three.ensures.1)

pub returns-in-20 : goal.returns-in-20
unfolding rule_texts busy_word at_node_word then_class_word
returns-in-20 c = (omega arith, named_rule _ _ (rule_texts c.args.answer.now c.args.from c.args.to) _ 20 c.in-20.is c.put_three-in-20.ensures.1)

pub returns-in_default : goal.returns-in_default
unfolding rule_texts
returns-in_default c = (omega arith, unnamed _ (rule_texts c.args.answer.now c.args.from c.args.to) (c.args.number - 11) (omega arith))
