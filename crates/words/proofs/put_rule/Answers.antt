-- `words::put_rule` meets its contract: the text of each number from 11 to 15.
-- Assumes nothing.
use native.Mathlib.Omega.{arith}
use Rattle.words.specs.Words.{bare_word, knot_word, dependence_word, from_word, to_word, no_retiming_word, units_step_word, then_class_word}
use Rattle.words.specs.Refusals.{rule_texts}
use Rattle.words.proofs.Laws.{named_rule}
use Rattle.words.proofs.put_rule.Goals as goal

pub returns-in-11 : goal.returns-in-11
unfolding rule_texts bare_word
returns-in-11 c = (omega arith, named_rule _ _ (rule_texts c.args.answer.now c.args.from c.args.to) _ 11 c.in-11.is c.word.ensures)

pub returns-in-12 : goal.returns-in-12
unfolding rule_texts knot_word
returns-in-12 c = (omega arith, named_rule _ _ (rule_texts c.args.answer.now c.args.from c.args.to) _ 12 c.in-12.is c.put_cycle.ensures.1)

pub returns-in-13 : goal.returns-in-13
unfolding rule_texts dependence_word from_word to_word
returns-in-13 c = (omega arith, named_rule _ _ (rule_texts c.args.answer.now c.args.from c.args.to) _ 13 c.in-13.is c.put_three.ensures.1)

pub returns-in-14 : goal.returns-in-14
unfolding rule_texts no_retiming_word
returns-in-14 c = (omega arith, named_rule _ _ (rule_texts c.args.answer.now c.args.from c.args.to) _ 14 c.in-14.is c.put_cycle-in-14.ensures.1)

pub returns-in_default : goal.returns-in_default
unfolding rule_texts units_step_word then_class_word
returns-in_default c = (omega arith, named_rule _ _ (rule_texts c.args.answer.now c.args.from c.args.to) c.args.number 15 (omega arith) c.put_two.ensures.1)
