-- How any run ends: with all issued, or stopped at a node in a run step with the earlier issues alone in its tables.
-- Assumes nothing.
use Rattle.std.specs.Prelude.{◌≡◌, refl, false, ◌⊎◌, List, ℕ, suc, ◌+◌, ◌*◌, ◌≤◌, ◌<◌, length, get_or, None, Some}
use Rattle.std.proofs.Common.{sym, ◌∙◌}
use Rattle.std.proofs.Math.Path.{ap, subst}
use Rattle.std.proofs.Math.Bool.{true}
use Rattle.std.proofs.Math.Logic.{inl, inr, ⊎_elim}
use Rattle.lists.specs.Pick.{both_ways}
use Rattle.answer.specs.Refused.{Verdict, fine}
use Rattle.answer.specs.declared.Refusal.TheVariants.{Early, Busy}
use Rattle.legal.specs.Loop.{Loop, Pair, ran_on}
use Rattle.legal.specs.Shape.{Sound, Starting}
use Rattle.machine.specs.Run.{Machine, issues, late_edge, held_now, visit, run_steps, run_of}
use Rattle.machine.specs.Visits.{halted, after_issue, Visited, idle, early, busy, goes, visited, stays, through-steps}
use Rattle.machine.specs.Sofar.{Sofar}
use Rattle.machine.specs.Begins.{cleared-length, cleared-rest, blank, begins, keeps}

-- a buffer keeps its length, and its places from n on
pub record KeptFrom (n : ℕ) (before after : List ℕ) : Type 0 where
  pub long : length after ≡ length before
  pub rest : (x : ℕ) → n ≤ x → get_or after x 0 ≡ get_or before x 0

module _ (g : Loop) (p : Pair) (starts : List ℕ) (k : ℕ) where
  -- what stopped the run at node v in run step t: the first late edge, or, with none late, its class's units
  abbrev pub Why : Machine → ℕ → ℕ → Type 0
  Why m t v =
      ((m.refusal ≡ Some (Early t v (late_edge g p starts k m.finish t v))) × (late_edge g p starts k m.finish t v < g.graph.edges))
      ⊎ ((m.refusal ≡ Some (Busy t v (ran_on g v))) × (g.graph.edges ≤ late_edge g p starts k m.finish t v)
      × ((g.class (ran_on g v)).units ≤ held_now g p starts k m.finish (ran_on g v) t))

  -- a run from m₀ that stopped there
  pub record Halted (m₀ m : Machine) : Type 0 where
    pub step : ℕ
    pub node : ℕ
    pub step_some : 1 ≤ step
    pub node_in : node < g.graph.nodes
    pub issuing : issues g p starts k step node ≡ true
    pub sofar : Sofar g p starts k m₀ (step * g.graph.nodes + node) m
    pub why : Why m step node

  -- a refusal leaves the tables as they are
  sofar-halted : (m₀ m : Machine) (n : ℕ) (why : Verdict) → Sofar g p starts k m₀ n m → Sofar g p starts k m₀ n (halted m why)
  sofar-halted m₀ m n why f = record {
    values_length = f.values_length;
    finish_length = f.finish_length;
    done = λ i v one l h. let d = f.done i v one l h in record { finish-is = d.finish-is; value_is = d.value_is; ready = d.ready; roomy = d.roomy };
    undone = λ i v one l h. let d = f.undone i v one l h in record { no_finish = d.no_finish; no_value = d.no_value };
    rest_values = f.rest_values;
    rest_finish = f.rest_finish;
  }

  halted-stuck : (m₀ m : Machine) → Halted m₀ m → fine m.refusal ≡ false
  unfolding fine
  halted-stuck m₀ m h = ⊎_elim (λ w. ap fine w.0) (λ w. ap fine w.0) h.why

  -- at moment n it goes on, or it has stopped
  abbrev pub EndsAt : Machine → ℕ → Machine → Type 0
  EndsAt m₀ n m = ((m.refusal ≡ None) × Sofar g p starts k m₀ n m) ⊎ Halted m₀ m

  ended-visit : (m₀ m : Machine) (t v : ℕ) (r : Machine) → 1 ≤ t → v < g.graph.nodes → Visited g p starts k t v m r → m.refusal ≡ None
      → Sofar g p starts k m₀ (t * g.graph.nodes + v) m
      → (fine r.refusal ≡ true → Sofar g p starts k m₀ (suc (t * g.graph.nodes + v)) r)
      → EndsAt m₀ (suc (t * g.graph.nodes + v)) r
  unfolding fine after_issue
  ended-visit m₀ m t v r one l (idle q) none f next = inl (none, next (ap fine none))
  ended-visit m₀ m t v r one l (goes q c) none f next = inl (refl, next refl)
  ended-visit m₀ m t v r one l (early q late) none f next =
      inr (record { step = t; node = v; step_some = one; node_in = l; issuing = q; sofar = sofar-halted m₀ m _ _ f; why = inl (refl, late) })
  ended-visit m₀ m t v r one l (busy q timely full) none f next =
      inr (record { step = t; node = v; step_some = one; node_in = l; issuing = q; sofar = sofar-halted m₀ m _ _ f; why = inr (refl, timely, full) })

module _ (g : Loop) (p : Pair) (s : Sound g) (b : Starting g p) (starts : List ℕ) (k : ℕ) (values finish : List ℕ)
    (room : k * g.graph.nodes ≤ length values) (room' : k * g.graph.nodes ≤ length finish) where
  ended-keeps : (t v : ℕ) (m : Machine) → 1 ≤ t → v < g.graph.nodes
      → EndsAt g p starts k (blank g k values finish) (t * g.graph.nodes + v) m
      → EndsAt g p starts k (blank g k values finish) (suc (t * g.graph.nodes + v)) (visit g p starts k t m v)
  unfolding fine
  ended-keeps t v m one l (inl h) =
      let before : fine m.refusal ≡ true = ap fine h.0 in
      ended-visit g p starts k (blank g k values finish) m t v _ one l (visited g p starts k t v m before) h.0 h.1
      (λ after. keeps g p s b starts k values finish room room' t v m one l before after h.1)
  ended-keeps t v m one l (inr h) =
      subst (EndsAt g p starts k (blank g k values finish) (suc (t * g.graph.nodes + v)))
      (sym (stays g p starts k t v m (halted-stuck g p starts k (blank g k values finish) m h))) (inr h)

  -- every run ends with nothing refused and all issued, or stopped with the earlier issues alone
  pub ended : EndsAt g p starts k (blank g k values finish) (suc (run_steps g p starts k) * g.graph.nodes) (run_of g p starts k values finish)
  unfolding run_of blank
  ended =
      through-steps g p starts k (EndsAt g p starts k (blank g k values finish)) ended-keeps (run_steps g p starts k) (blank g k values finish)
      (inl (refl, begins g p s b starts k values finish room room'))

  -- where nothing is refused all is issued
  pub ended-none : (run_of g p starts k values finish).refusal ≡ None
      → Sofar g p starts k (blank g k values finish) (suc (run_steps g p starts k) * g.graph.nodes) (run_of g p starts k values finish)
  unfolding fine
  ended-none none = ⊎_elim (λ h. h.1) (λ h. both_ways (ap fine none) (halted-stuck g p starts k (blank g k values finish) (run_of g p starts k values finish) h)) ended

  -- refused or not, the run stopped at some moment
  ended-sofar : (n : ℕ) × Sofar g p starts k (blank g k values finish) n (run_of g p starts k values finish)
  ended-sofar = ⊎_elim (λ h. (_, h.1)) (λ h. (_, h.sofar)) ended

  -- the buffers keep their places past the run
  pub values-kept : KeptFrom (k * g.graph.nodes) values (run_of g p starts k values finish).values
  unfolding blank
  values-kept =
      let f = ended-sofar.1 in
      record { long = f.values_length ∙ cleared-length _ values; rest = λ x h. f.rest_values x h ∙ cleared-rest _ values x h }

  pub finish-kept : KeptFrom (k * g.graph.nodes) finish (run_of g p starts k values finish).finish
  unfolding blank
  finish-kept =
      let f = ended-sofar.1 in
      record { long = f.finish_length ∙ cleared-length _ finish; rest = λ x h. f.rest_finish x h ∙ cleared-rest _ finish x h }
