-- The ways that the judge goes: through the rules, through a form, through a record.
-- Assumes nothing.
use Rattle.std.specs.Prelude.{None, Some, Err}
use mathlib.Core.Path.{◌≡◌, refl, sym, ap, subst, ◌∙◌}
use mathlib.Core.Bool.{true, false}
use mathlib.Core.Logic.{◌≢◌}
use mathlib.Core.List.{List}
use Prim.Native.Nat.{ℕ, ◌≤◌, ◌<◌}
use native.Mathlib.Omega.{arith}
use borrow.Author.Tests.{lt-ltb, le-ltb, eq-eqb, ne_eqb}
use lib.Dec.{leb, ltb, eqb}
use Rattle.lists.specs.Pick.{pick_ind, pick_true, pick-false}
use Rattle.answer.specs.Refused.{Verdict, number_of, fine, refused_fine}
use Rattle.answer.specs.Outcome.{no_cycle}
use Rattle.answer.specs.declared.Refusal.{Refusal}
use Rattle.answer.specs.declared.Refused.{Refused}
use Rattle.answer.specs.declared.Refusal.TheVariants.{Bare, Knot, Dependence}
use Rattle.form.specs.declared.Form.{Form}
use Rattle.reader.specs.Outcome.{Record, record_in}
use Rattle.reader.specs.Reading.{read_form}
use Rattle.record.specs.Early.{read-early}
use Rattle.record.specs.ReadFirst.{first-refused, first-asked}
use Rattle.legal.specs.Loop.{Loop, Pair, loop_of, pair_of}
use Rattle.legal.specs.Systems.{knotted}
use Rattle.legal.specs.Judging.{broken_edge, over_step, units_of, rules_of, judge_of}
use Rattle.legal.specs.Handed.{handed-none, handed-knot}
use Rattle.knots.specs.Found.{KnotFound, Untied}
use Rattle.judge.specs.Outcome.{Ruling, judged_in}
use Rattle.judge.specs.Judgement.{Judgement, judge_record, RecordJudgement}

-- ---- the rules

module _ (g : Loop) (p : Pair) (e n : ℕ) (all : g.graph.edges ≡ n) (is : e ≡ broken_edge g p) where
  pub edge-refused : e < n → (Some (Dependence e)) ≡ rules_of g p
  unfolding rules_of
  edge-refused l = sym (rw (← is) (pick_true (ltb e g.graph.edges) (Some (Dependence e)) (units_of g p) (lt-ltb e g.graph.edges (omega arith))))

  pub edges-kept : n ≤ e → (r : Verdict) → r ≡ units_of g p → r ≡ rules_of g p
  unfolding rules_of
  edges-kept l r u = u ∙ sym (rw (← is) (pick-false (ltb e g.graph.edges) (Some (Dependence e)) (units_of g p) (le-ltb e g.graph.edges (omega arith))))

-- ---- a form

-- a refusal that no cycle proves
pub record Plain (r : Verdict) : Type 0 where
  pub unknotted : number_of r ≢ 12
  pub fitting : number_of r ≢ 14

rules-plain : (g : Loop) (p : Pair) → Plain (rules_of g p)
unfolding rules_of units_of
rules-plain g p =
    pick_ind Plain (ltb (broken_edge g p) g.graph.edges) _ _ (λ e. record { unknotted = omega arith; fitting = omega arith })
    (λ e. pick_ind Plain (leb (over_step g p) p.length) _ _ (λ l. record { unknotted = omega arith; fitting = omega arith })
    (λ l. record { unknotted = omega arith; fitting = omega arith }))

-- a refusal with no cycle beside it, as the definitions speak of it
pub told-alone : (e : Refused) (r : Refusal) → (e.refusal ≡ r) × (e.cycle ≡ None) → judged_in (Err e) ≡ record { refusal = Some r; cycle = no_cycle }
told-alone e r is = rw (is.0, is.1) refl

module _ (f : Form) where
  judged-alone : (r : Verdict) → Plain r → r ≡ judge_of f → Judgement f (record { refusal = r; cycle = no_cycle })
  judged-alone r plain is = record { refusal = is; handed = handed-none (loop_of f) (pair_of f) _ _ plain.unknotted plain.fitting refl }

  pub judged-bare : (j : Ruling) → f.header.length ≡ 0 → j ≡ record { refusal = Some Bare; cycle = no_cycle } → Judgement f j
  unfolding judge_of
  judged-bare j l is =
      subst (Judgement f) (sym is) (judged-alone (Some Bare) (record { unknotted = omega arith; fitting = omega arith }) (sym (pick_true (eqb f.header.length 0) _ _ (eq-eqb _ _ l))))

  pub judged-rules : f.header.length ≢ 0 → KnotFound (loop_of f) no_cycle → (r : Verdict) → r ≡ rules_of (loop_of f) (pair_of f) → Judgement f (record { refusal = r; cycle = no_cycle })
  unfolding judge_of
  judged-rules some free r is =
      judged-alone r (subst Plain (sym is) (rules-plain (loop_of f) (pair_of f)))
      (is ∙ sym (pick-false (eqb f.header.length 0) _ _ (ne_eqb _ _ some) ∙ pick-false (knotted (loop_of f)) _ _ (free.free refl)))

  pub judged-knot : f.header.length ≢ 0 → (e : Refused) → Untied (loop_of f) (Err e) → Judgement f (judged_in (Err e))
  unfolding judge_of
  judged-knot some e tied =
      let is : Some e.refusal ≡ Some Knot = ap (λ (r : Refusal). Some r) tied.0 in
      record {
        refusal = is ∙ sym (pick-false (eqb f.header.length 0) _ _ (ne_eqb _ _ some) ∙ pick_true (knotted (loop_of f)) _ _ (tied.1.tied tied.2));
        handed = rw is (handed-knot (loop_of f) (pair_of f) _ (tied.1.knot tied.2) tied.1.tallies);
      }

-- ---- a record

module _ (s : List ℕ) (r : Record) (back : r ≡ read_form s) where
  pub record-refused : fine r.refusal ≡ false → RecordJudgement s (record { refusal = r.refusal; cycle = no_cycle })
  unfolding judge_record
  record-refused f =
      let n : number_of r.refusal ≤ 10 = rw back (read-early s) in
      record {
        refusal = sym (first-refused s r back judge_of f);
        handed = handed-none _ _ _ _ (λ k. omega arith) (λ k. omega arith) refl;
      }

  pub record-judged : fine r.refusal ≡ true → (j : Ruling) → Judgement r.form j → RecordJudgement s j
  unfolding judge_record
  record-judged f j t = record {
    refusal = t.refusal ∙ sym (first-asked s r back judge_of f);
    handed = rw (← back) t.handed;
  }

-- refused by the reader, as the arm that hands it on has it
pub record-unread : (s : List ℕ) (e : Refused) (r : Refusal) → (e.refusal ≡ r) × (e.cycle ≡ None) → record_in (Err r) ≡ read_form s → RecordJudgement s (judged_in (Err e))
record-unread s e r told back = rw (told.0, told.1) (record-refused s _ back (refused_fine r))
