-- A cycle whose count is the number of its edges, and what an answer's list tells of it.
-- Assumes nothing.
use Rattle.std.specs.Prelude.{◌≡◌, refl, List, map, ℕ, ◌≤◌, ◌<◌, ltb, length, get_or, take, drop}
use Rattle.std.proofs.Math.Path.{sym, ap}
use Rattle.std.proofs.Common.{◌∙◌, arith, zero-add, lt-ltb}
use Rattle.std.proofs.Math.Decide.{dec_lt}
use Rattle.std.proofs.Math.ListN.{length-take, length-map}
use Rattle.std.proofs.Math.Seq.{ext_get_or, get_or-take}
use Rattle.lists.specs.Pick.{pick_true}
use Rattle.lists.specs.Place.{zeros-at}
use Rattle.lists.specs.Mapped.{mapped_at}
use Rattle.lists.specs.Span.{span, span-length}
use Rattle.answer.specs.Outcome.{no_cycle, edges_of, cycle_edge, cycle_list, outcome_list, told_list}
use Rattle.answer.specs.Refused.{Verdict}
use Rattle.answer.specs.declared.Details.{Details}
use Rattle.answer.specs.declared.Cycle.{Cycle}

-- the count is the number of edges handed over, and of the 64 places those past them hold 0
pub record Tallies (c : Cycle) : Type 0 where
  pub counts : length (edges_of c) ≡ c.count
  pub places : length c.edges ≡ 64
  pub rest : (i : ℕ) → c.count ≤ i → get_or c.edges i 0 ≡ 0

-- the cycle of an answer's list: as many edges as place 4 says, from place 5 on
abbrev pub told_cycle : List ℕ → List ℕ
told_cycle list = take (get_or list 4 0) (drop 5 list)

-- where there is no cycle there is no edge
pub none-tallies : (c : Cycle) → c ≡ no_cycle → Tallies c
none-tallies c e = rw e (record { counts = refl; places = refl; rest = λ i h. zeros-at 64 i })

-- a count within the places is the number of edges, and the other way round
pub within-tallies : (c : Cycle) → c.count ≤ 64 → length c.edges ≡ 64 → ((i : ℕ) → c.count ≤ i → get_or c.edges i 0 ≡ 0) → Tallies c
within-tallies c few size rest = record { counts = omega (arith, length-take c.count c.edges); places = size; rest = rest }

pub tallies-within : (c : Cycle) → Tallies c → c.count ≤ 64
tallies-within c t = omega (arith, length-take c.count c.edges, t.counts, t.places)

-- ---- what a list tells

module _ (c : Cycle) (t : Tallies c) where
  listed-length : length (take c.count (cycle_list c)) ≡ c.count
  unfolding cycle_list
  listed-length = omega (arith, length-take c.count (map (cycle_edge c) (span 0 64)), length-map (span 0 64) (cycle_edge c), span-length 0 64, tallies-within c t)

  listed_at : (i : ℕ) → i < c.count → get_or (take c.count (cycle_list c)) i 0 ≡ get_or (edges_of c) i 0
  unfolding cycle_list cycle_edge
  listed_at i l =
      get_or-take c.count (map (cycle_edge c) (span 0 64)) i 0 l
      ∙ mapped_at (cycle_edge c) 0 64 i (omega (arith, tallies-within c t))
      ∙ ap (cycle_edge c) (zero-add i)
      ∙ pick_true (ltb i c.count) (get_or c.edges i 0) 0 (lt-ltb i c.count l)
      ∙ sym (get_or-take c.count c.edges i 0 l)

  -- the list tells the edges of the cycle, all of them and no others
  pub told-edges : (r : Verdict) (told : Details) → told_cycle (told_list r told c) ≡ edges_of c
  unfolding told_list outcome_list
  told-edges r told =
      ext_get_or 0 (take c.count (cycle_list c)) (edges_of c) (listed-length ∙ sym t.counts) (λ i l. listed_at i (omega (arith, listed-length)))

  -- and place 4 is their number
  pub told-count : (r : Verdict) (told : Details) → get_or (told_list r told c) 4 0 ≡ length (edges_of c)
  unfolding told_list outcome_list
  told-count r told = sym t.counts

-- ---- one possibility

abbrev cycle_of : ℕ → List ℕ → Cycle
cycle_of n es = record { count = n; edges = es }

-- two cycles with the same edges are the same, count and places
pub tallies-once : (c d : Cycle) → Tallies c → Tallies d → edges_of c ≡ edges_of d → c ≡ d
tallies-once c d t u same =
    let counted : c.count ≡ d.count = omega (arith, t.counts, u.counts, ap length same) in
    ap (λ n. cycle_of n c.edges) counted ∙ ap (cycle_of d.count) (ext_get_or 0 c.edges d.edges (t.places ∙ sym u.places) (λ i l. each counted i))
  where
    each : c.count ≡ d.count → (i : ℕ) → get_or c.edges i 0 ≡ get_or d.edges i 0
    each e i = elim (dec_lt i c.count) [
      | yes h ↦ sym (get_or-take c.count c.edges i 0 h) ∙ ap (λ (es : List ℕ). get_or es i 0) same ∙ get_or-take d.count d.edges i 0 (omega arith)
      | no h ↦ t.rest i (omega arith) ∙ sym (u.rest i (omega arith))
    ]
