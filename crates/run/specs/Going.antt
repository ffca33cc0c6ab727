-- What a run needs before it goes, what holds before each of its repetitions, and what all of them make of the buffers.
-- Assumes nothing.
use Rattle.std.specs.Prelude.{◌≡◌, ◌≢◌, List, ℕ, ◌+◌, ◌*◌, ◌≤◌, length, get_or, take, None}
use Rattle.lists.specs.Span.{span}
use Rattle.lists.specs.Fold.{fold}
use Rattle.answer.specs.Refused.{Verdict}
use Rattle.form.specs.declared.Form.{Form}
use Rattle.form.specs.Ranges.{WellFormed}
use Rattle.legal.specs.Loop.{loop_of, pair_of}
use Rattle.machine.specs.Run.{depth}
use Rattle.links.specs.Chains.{Chains}
use Rattle.run.specs.Repeat.{order, repeated}
use Rattle.issue.specs.Units.{Point}
use Rattle.issue.specs.Issue.{machine_of}

-- a form with a schedule, its depth, its order and its links, and a start table that is long enough
pub record Equipped (f : Form) (deep : ℕ) (table first next starts : List ℕ) : Type 0 where
  pub well : WellFormed f
  pub scheduled : f.header.length ≢ 0
  pub is_depth : deep ≡ depth (loop_of f) (pair_of f)
  pub in_order : take f.header.nodes table ≡ order (loop_of f) (pair_of f)
  pub linked : Chains (λ e. get_or f.to e 0) f.header.edges first next
  pub for_starts : 15 * f.header.nodes ≤ length starts

-- before repetition j: room for all places, and the units told
pub record Before (f : Form) (k : ℕ) (starts : List ℕ) (j : ℕ) (values finish free : List ℕ) : Type 0 where
  pub for_values : k * f.header.nodes ≤ length values
  pub for_finish : k * f.header.nodes ≤ length finish
  pub all_units : length free ≡ 32
  pub point : Point (loop_of f) (pair_of f) starts k ((j * f.header.length + 1) * f.header.nodes) finish free

-- what all repetitions make of them
pub record Repetitions (f : Form) (k deep : ℕ) (starts values₀ finish₀ values finish : List ℕ) (why : Verdict) : Type 0 where
  pub values_long : length values ≡ length values₀
  pub finish_long : length finish ≡ length finish₀
  pub are_repeated : machine_of values finish why ≡ fold (repeated (loop_of f) (pair_of f) starts k) (machine_of values₀ finish₀ None) (span 0 (k + deep))
