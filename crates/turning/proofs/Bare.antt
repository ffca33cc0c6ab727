-- A lent form's timetable with other starts and retimings: what the list rule asks of it, and what placing its nodes makes.
-- Assumes nothing.
use mathlib.Core.Path.{◌≡◌, refl, sym, ap, subst, ◌∙◌}
use mathlib.Core.List.{List}
use Prim.Native.Nat.{ℕ, ◌+◌, ◌≤◌, ◌<◌}
use native.Mathlib.Omega.{arith}
use lib.ListN.{get_or, replicate}
use Rattle.form.specs.declared.Form.{Form}
use Rattle.legal.specs.Loop.{plain, Loop, Pair, graph_of, loop_of}
use Rattle.legal.specs.Shape.{sound-form}
use Rattle.tables.specs.declared.Timetable.{Timetable}
use Rattle.tables.specs.Edges.{Ends}
use Rattle.tables.specs.Times.{SoundTimes}
use Rattle.tables.specs.Lent.{Lent, lent-ends, lent-sound}
use Rattle.list_rule.specs.Rule.{start_number, list_rule_of, length_of}
use Rattle.list_rule.specs.Tables.{EndsInBody}
use Rattle.plans.specs.Pairs.{times_with}
use Rattle.turning.specs.Lending.{EndSoon, Placeable}

-- ---- placing

module _ (g : Loop) (p : Pair) (edges : ℕ) (from to delays : List ℕ) (t : Timetable) (k : Placeable g p edges from to delays t) where
  module _ (s : List ℕ) (is : s ≡ list_rule_of g p.retiming t.start) where
    pub place-soon : EndSoon t.nodes t.latency s
    place-soon =
        let all = k.timed.all-nodes in
        record {
          most = omega (arith, k.sound.few, all);
          some = λ v l. omega (arith, k.sound.works v (omega (arith, all)), k.timed.takes v l);
          short = λ v l. omega (arith, k.sound.short v (omega (arith, all)), k.timed.takes v l);
          soon = λ v l. omega (arith, k.soon v l, ap (λ (xs : List ℕ). start_number xs v) is);
        }

    pub place_is : (l : ℕ) → l ≡ length_of g s → (r : Timetable) → r ≡ times_with t s l (replicate 64 0)
        → r ≡ times_with t (list_rule_of g p.retiming t.start) (length_of g (list_rule_of g p.retiming t.start)) (replicate 64 0)
    place_is l long r whole =
        whole ∙ ap (λ (n : ℕ). times_with t s n (replicate 64 0)) long ∙ ap (λ (xs : List ℕ). times_with t xs (length_of g xs) (replicate 64 0)) is

-- ---- another pair

-- starts, a length and retimings as a pair
unfoldable pub table_pair : List ℕ → ℕ → List ℕ → Pair
table_pair s l r = record { kind = plain; start = start_number s; length = l; retiming = λ v. get_or r v 0 }

module _ (f : Form) (edges : ℕ) (from to delays : List ℕ) (t : Timetable) (lent : Lent f edges from to delays t) (s : List ℕ) (l : ℕ) (r : List ℕ) (b : Timetable) (e : b ≡ times_with t s l r) where
  pub bare_ends : Ends b.nodes edges from to
  unfolding times_with
  bare_ends = subst (λ (u : Timetable). Ends u.nodes edges from to) (sym e) (lent-ends f edges from to delays t lent)

  sound-with : SoundTimes (times_with t s l r)
  unfolding times_with
  sound-with =
      let sound = lent-sound f edges from to delays t lent in
      record { few = sound.few; class = sound.class; most = sound.most; class-in = sound.class-in }

  pub bare-sound : SoundTimes b
  bare-sound = subst SoundTimes (sym e) sound-with

  module _ (early : (v : ℕ) → v < t.nodes → start_number s v + get_or t.latency v 0 ≤ 513) where
    in-body-with : EndsInBody (times_with t s l r)
    unfolding times_with loop_of graph_of
    in-body-with = record {
      on-class = λ v h.
          omega (arith, lent.good.node v (omega (arith, lent.timed.all-nodes)), lent.timed.runs_on v h, lent.timed.all_classes);
      in_body = early;
    }

    pub bare-in-body : EndsInBody b
    bare-in-body = subst EndsInBody (sym e) in-body-with

  module _ (soon : (v : ℕ) → v < t.nodes → start_number (list_rule_of (loop_of f) (λ u. get_or r u 0) s) v ≤ 1023) where
    placeable-with : Placeable (loop_of f) (table_pair s l r) edges from to delays (times_with t s l r)
    unfolding times_with table_pair
    placeable-with =
        let timed = lent.timed in
        record {
          sound = sound-form f lent.good;
          told = lent.told;
          timed = record {
            all_classes = timed.all_classes;
            all-nodes = timed.all-nodes;
            is_length = refl;
            is_class = timed.is_class;
            runs_on = timed.runs_on;
            takes = timed.takes;
            starts = λ v _. refl;
            retimed = λ v. refl;
          };
          soon = soon;
        }

    pub bare-placeable : Placeable (loop_of f) (table_pair s l r) edges from to delays b
    bare-placeable = subst (Placeable (loop_of f) (table_pair s l r) edges from to delays) (sym e) placeable-with

    -- and what placing makes of it
    pub bare-placed : (x : Timetable) → x ≡ times_with b (list_rule_of (loop_of f) (table_pair s l r).retiming b.start) (length_of (loop_of f) (list_rule_of (loop_of f) (table_pair s l r).retiming b.start)) (replicate 64 0)
        → (starts : List ℕ) → list_rule_of (loop_of f) (λ u. get_or r u 0) s ≡ starts → x ≡ times_with t starts (length_of (loop_of f) starts) (replicate 64 0)
    unfolding times_with table_pair
    bare-placed x is starts rule =
        is
        ∙ ap (λ (u : Timetable). times_with u (list_rule_of (loop_of f) (λ v. get_or r v 0) u.start) (length_of (loop_of f) (list_rule_of (loop_of f) (λ v. get_or r v 0) u.start)) (replicate 64 0)) e
        ∙ ap (λ (xs : List ℕ). times_with t xs (length_of (loop_of f) xs) (replicate 64 0)) rule
