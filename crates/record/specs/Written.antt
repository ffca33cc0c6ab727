-- Reading what a held form is laid out as: the form's used places if it is well-formed, else the refusal of a field of it.
-- Assumes nothing.
use Rattle.std.specs.Prelude.{◌≡◌, Bool, ◌⊎◌, ℕ, ◌+◌, ◌*◌, ◌<◌, ltb, None}
use Rattle.std.proofs.Math.Path.{refl, ap}
use Rattle.std.proofs.Common.{subst, ◌∙◌, arith, le-ltb}
use Rattle.std.proofs.Math.Bool.{true, false}
use mathlib.Core.List.{List, [], ◌++◌, append-nil}
use Rattle.std.proofs.Math.Logic.{inl, inr}
use Rattle.std.proofs.Math.Decide.{ℕ_discrete}
use Rattle.std.proofs.Math.ListN.{length}
use Rattle.lists.specs.Pick.{pick, pick_ind, both_ways}
use Rattle.answer.specs.Refused.{Verdict, number_of, fine}
use Rattle.form.specs.declared.Form.{Form}
use Rattle.form.specs.Places.{used}
use Rattle.form.specs.Ranges.{Within, GoodSchedule, WellFormed}
use Rattle.field.specs.Number.{Bytes}
use Rattle.field.specs.Outcome.{Cursor}
use Rattle.reader.specs.Outcome.{Reading, Prefix}
use Rattle.reader.specs.Reading.{starts_read, normalized, end_of, fronted, prefix_of, tail_of, answered, read_form}
use Rattle.writer.specs.Layout.{layout}
use Rattle.record.specs.Held.{Held}
use Rattle.record.specs.Rows.{bytes-nil, bytes-append}
use Rattle.record.specs.LayoutSize.{layout-bytes, fits-length}
use Rattle.record.specs.ReadRows.{Slot}
use Rattle.record.specs.Sofar.{starts_after}
use Rattle.record.specs.ReadAll.{head_starts, StartsSofar}
use Rattle.record.specs.Least.{zero-some, normal-some, normal-none, scheduled-all}
use Rattle.record.specs.Prefix.{prefix-read, prefix-whole, prefix-well-formed}
use Rattle.record.specs.Read.{read-alone}
use Rattle.record.specs.LaidHeader.{Counts, followed, counts}
use Rattle.record.specs.Agree.{starts-same, slot-agrees, reads-used}
use Rattle.record.specs.Laid.{laid-run}
use Rattle.record.specs.UsedForm.{used-well-formed}

module _ (f : Form) (h : Held f) (rest : List ℕ) (tail : Bytes rest) where
  -- what is read of a well-formed form has a retiming that is 0
  normal : WellFormed f → (x : Reading) → StartsSofar (followed f rest) (head_starts (followed f rest)) x
      → normalized x.form.header.length x.form.header.nodes x.form.retiming ≡ true
  normal w x p =
      let k : Counts f (followed f rest) = counts f h rest p.head in
      let last : ℕ = x.form.header.length in
      let nodes : ℕ = x.form.header.nodes in
      elim (ℕ_discrete last 0) [
        | yes z ↦ normal-none last nodes x.form.retiming z
        | no ne ↦
            let s : GoodSchedule f = w.schedule (λ z. ne (p.counts.last ∙ k.last ∙ z)) in
            let v : ℕ = s.least.0 in
            let l : v < nodes = omega (arith, s.least.1, p.counts.nodes, k.nodes) in
            let t : v < head_starts (followed f rest) = omega (arith, starts-same f h rest k, scheduled-all f.header.length f.header.nodes (λ z. ne (p.counts.last ∙ k.last ∙ z)), s.least.1) in
            normal-some last nodes x.form.retiming ne
            ∙ zero-some nodes x.form.retiming v l (ap (λ (q : Slot). q.retiming) (slot-agrees f h rest _ _ _ _ _ x p v t t) ∙ s.least.2)
      ]

  -- what is read whole ends with the form's bytes
  at-end : (x : Reading) → StartsSofar (followed f rest) (head_starts (followed f rest)) x → x.next.at ≡ length (layout f)
  at-end x p =
      let k : Counts f (followed f rest) = counts f h rest p.head in
      let a : x.next.at ≡ starts_after (followed f rest) + 3 * head_starts (followed f rest) = ap (λ (c : Cursor). c.at) p.next in
      omega (arith, fits-length f k.fits, k.classes, k.nodes, k.edges, starts-same f h rest k)

  -- a well-formed form is read back from the front, with its unused places 0, whatever is left past its bytes
  pub well-formed-front : WellFormed f → prefix_of (layout f ++ rest) ≡ record { refusal = None; size = length (layout f); form = used f }
  unfolding prefix_of fronted end_of fine pick
  well-formed-front w = go (fine (starts_read (followed f rest)).next.refusal) refl
    where
      go : (b : Bool) → fine (starts_read (followed f rest)).next.refusal ≡ b → prefix_of (followed f rest) ≡ record { refusal = None; size = length (layout f); form = used f }
      go true e =
          let x : Reading = starts_read (followed f rest) in
          let p : StartsSofar (followed f rest) (head_starts (followed f rest)) x = (laid-run f h rest tail).on e in
          rw (e, normal w x p, at-end x p, reads-used f h rest x p)
      go false e = absurd (((laid-run f h rest tail).off e).never w)

  -- a form whose bytes are read from the front without a refusal is well-formed
  pub front-well-formed : fine (prefix_of (layout f ++ rest)).refusal ≡ true → WellFormed f
  front-well-formed e =
      let s : List ℕ = followed f rest in
      let b : Bytes s = bytes-append (layout f) rest (layout-bytes f h) tail in
      let g : (prefix_of s).form ≡ used f = ap (λ (p : Prefix). p.form) (prefix-read s b e) ∙ reads-used f h rest (starts_read s) (prefix-whole s b e) in
      used-well-formed f h.sized (subst WellFormed g (prefix-well-formed s b e))

  -- reading a form's bytes from the front refuses nothing, or one of its fields: never Short, Mark or Version
  pub front-refusals : (number_of (prefix_of (layout f ++ rest)).refusal ≡ 0) ⊎ Within 4 9 (number_of (prefix_of (layout f ++ rest)).refusal)
  unfolding prefix_of fronted end_of
  front-refusals =
      let x : Reading = starts_read (followed f rest) in
      let P : Verdict → Type 0 = λ r. (number_of r ≡ 0) ⊎ Within 4 9 (number_of r) in
      pick_ind P (fine x.next.refusal) _ _
      (λ e. pick_ind P (normalized x.form.header.length x.form.header.nodes x.form.retiming) _ _ (λ n. inl refl) (λ n. inr (omega arith)))
      (λ e. inr (((laid-run f h rest tail).off e).low, ((laid-run f h rest tail).off e).high))

-- a record of which the front is all that there is
alone-is : (s : List ℕ) (g : Form) → prefix_of s ≡ record { refusal = None; size = length s; form = g } → read_form s ≡ record { refusal = None; form = g }
unfolding read_form tail_of answered fine pick
alone-is s g e = rw (e, le-ltb (length s) (length s) (omega arith))

module _ (f : Form) (h : Held f) where
  none_left : layout f ++ [] ≡ layout f
  none_left = append-nil (layout f)

  -- a well-formed form is read back from its bytes, with its unused places 0
  pub well-formed-written : WellFormed f → read_form (layout f) ≡ record { refusal = None; form = used f }
  well-formed-written w = alone-is (layout f) (used f) (rw none_left at (well-formed-front f h [] bytes-nil w))

  -- a form whose bytes are read without a refusal is well-formed
  pub written-well-formed : fine (read_form (layout f)).refusal ≡ true → WellFormed f
  written-well-formed e = front-well-formed f h [] bytes-nil (rw none_left (read-alone (layout f) e).begun)

  -- reading a form's bytes refuses nothing, or one of its fields: never Short, Mark, Version or Tail
  pub written-refusals : (number_of (read_form (layout f)).refusal ≡ 0) ⊎ Within 4 9 (number_of (read_form (layout f)).refusal)
  unfolding read_form answered tail_of
  written-refusals =
      let p : Prefix = prefix_of (layout f) in
      let size : fine p.refusal ≡ true → p.size ≡ length (layout f) =
      λ e. ap (λ (q : Prefix). q.size) (rw none_left at (well-formed-front f h [] bytes-nil (front-well-formed f h [] bytes-nil (rw none_left e)))) in
      let P : Verdict → Type 0 = λ r. (number_of r ≡ 0) ⊎ Within 4 9 (number_of r) in
      pick_ind P (fine p.refusal) _ _
      (λ e. pick_ind P (ltb p.size (length (layout f))) _ _ (λ l. both_ways l (le-ltb p.size (length (layout f)) (omega (arith, size e)))) (λ l. inl refl))
      (λ e. rw none_left at (front-refusals f h [] bytes-nil))
