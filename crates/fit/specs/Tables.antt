-- The tables that a fit fills: what each edge gains and costs, and how far each node is below the top.
-- Assumes nothing.
use Rattle.std.specs.Prelude.{◌≡◌, List, ℕ, ◌-◌, ◌<◌, get_or}
use Rattle.std.proofs.Common.{sym}
use Rattle.lists.specs.Filled.{filled}
use Rattle.legal.specs.Loop.{Loop, Pair}
use Rattle.legal.specs.Systems.{lateness}
use Rattle.legal.specs.Shape.{Sound, WithinBodies}
use Rattle.tables.specs.Edges.{Told}

-- the tables hold the delays and the lateness of the first n edges
pub record Limited (g : Loop) (p : Pair) (n : ℕ) (gains costs : List ℕ) : Type 0 where
  pub gain : (e : ℕ) → e < n → get_or gains e 0 ≡ g.delay e
  pub cost : (e : ℕ) → e < n → get_or costs e 0 ≡ lateness g p e

-- how far each of the first n values is below h; 0 past them
unfoldable pub turned_over : ℕ → List ℕ → ℕ → List ℕ
turned_over h ys n = filled 64 (λ v. h - get_or ys v 0) n

-- the tables are the edges of a loop with latencies 1 to 8, and the limits of its starts, whose operations end in the body
pub record Described (g : Loop) (p : Pair) (n m : ℕ) (tails heads gains costs : List ℕ) : Type 0 where
  pub sound : Sound g
  pub within : WithinBodies g p 1
  pub told : Told g n m tails heads gains
  pub late : (e : ℕ) → e < m → get_or costs e 0 ≡ lateness g p e

-- of one at least
abbrev pub LimitsTabled : ℕ → ℕ → List ℕ → List ℕ → List ℕ → List ℕ → Type 0
LimitsTabled n m tails heads gains costs = (g : Loop) × ((p : Pair) × Described g p n m tails heads gains costs)

-- edges that are told, with their delays and lateness, are such tables
pub described : (g : Loop) (p : Pair) (n m : ℕ) (tails heads delays gains costs : List ℕ)
    → Sound g → WithinBodies g p 1 → Told g n m tails heads delays → Limited g p m gains costs → Described g p n m tails heads gains costs
described g p n m tails heads delays gains costs sound within told limited = record {
  sound = sound;
  within = within;
  told = record {
    all-nodes = told.all-nodes;
    all_edges = told.all_edges;
    is_tail = told.is_tail;
    is_head = told.is_head;
    is_delay = λ e l. sym (limited.gain e l);
  };
  late = limited.cost;
}
