-- A form is well-formed if it is with its unused places 0.
-- Assumes nothing.
use Rattle.std.specs.Prelude.{◌≡◌, ℕ, ◌<◌, ◌≢◌}
use Rattle.std.proofs.Math.Path.{sym, ap, subst}
use Rattle.std.proofs.Common.{◌∙◌, arith}
use Rattle.form.specs.declared.Form.{Form}
use Rattle.form.specs.declared.Class.{Class}
use Rattle.form.specs.declared.Node.{Node}
use Rattle.form.specs.declared.BodyStep.{BodyStep}
use Rattle.form.specs.Places.{no_class, no_node, no_step, class_of, node_of, edge_of, start_of, retiming_of, latency_of, scheduled, used}
use Rattle.form.specs.Ranges.{GoodClass, GoodEdge, GoodStart, GoodSchedule, WellFormed}
use Rattle.record.specs.Held.{Sized}
use Rattle.record.specs.FirstOf.{first-at}
use Rattle.record.specs.Least.{scheduled-all}

module _ (f : Form) (z : Sized f) (w : WellFormed (used f)) where
  class-used : (i : ℕ) → i < f.header.classes → class_of (used f) i ≡ class_of f i
  unfolding used
  class-used i l = first-at f.header.classes no_class f.class i l (omega (arith, z.class, w.classes))

  node-used : (v : ℕ) → v < f.header.nodes → node_of (used f) v ≡ node_of f v
  unfolding used
  node-used v l = first-at f.header.nodes no_node f.node v l (omega (arith, z.node, w.nodes))

  edge-used : (e : ℕ) → e < f.header.edges → edge_of (used f) e ≡ edge_of f e
  unfolding used
  edge-used e l =
      λ i. record {
        from = first-at f.header.edges 0 f.from e l (omega (arith, z.from, w.edges)) i;
        to = first-at f.header.edges 0 f.to e l (omega (arith, z.to, w.edges)) i;
        delays = first-at f.header.edges 0 f.delays e l (omega (arith, z.delays, w.edges)) i;
      }

  latency-used : (v : ℕ) → v < f.header.nodes → latency_of (used f) v ≡ latency_of f v
  unfolding used
  latency-used v l =
      let c : (node_of f v).class < f.header.classes = subst (λ (k : Node). k.class < f.header.classes) (node-used v l) (w.node v l) in
      ap (λ (k : Node). (class_of (used f) k.class).latency) (node-used v l) ∙ ap (λ (k : Class). k.latency) (class-used (node_of f v).class c)

  module _ (ne : f.header.length ≢ 0) (v : ℕ) (l : v < f.header.nodes) where
    start-used : start_of (used f) v ≡ start_of f v
    unfolding used
    start-used =
        ap (λ (k : BodyStep). k.0)
        (first-at (scheduled f) no_step f.start v (omega (arith, scheduled-all f.header.length f.header.nodes ne)) (omega (arith, z.start, w.nodes)))

    retiming-used : retiming_of (used f) v ≡ retiming_of f v
    unfolding used
    retiming-used =
        first-at (scheduled f) 0 f.retiming v (omega (arith, scheduled-all f.header.length f.header.nodes ne)) (omega (arith, z.retiming, w.nodes))

  -- a form of which the used places are well-formed is well-formed
  pub used-well-formed : WellFormed f
  unfolding used
  used-well-formed =
      record {
        classes = w.classes;
        nodes = w.nodes;
        edges = w.edges;
        length = w.length;
        class = λ i l. subst GoodClass (class-used i l) (w.class i l);
        node = λ v l. subst (λ (k : Node). k.class < f.header.classes) (node-used v l) (w.node v l);
        edge = λ e l. subst (GoodEdge f.header.nodes) (edge-used e l) (w.edge e l);
        schedule =
            λ ne.
            let s : GoodSchedule (used f) = w.schedule ne in
            record {
              starts =
                  λ v l.
                  let g : GoodStart (used f) v = s.starts v l in
                  record {
                    begins = omega (arith, g.begins, start-used ne v l);
                    ends = omega (arith, g.ends, start-used ne v l, latency-used v l);
                    retiming = omega (arith, g.retiming, retiming-used ne v l);
                  };
              least = (s.least.0, s.least.1, sym (retiming-used ne s.least.0 s.least.1) ∙ s.least.2);
            };
      }
