-- Values that rise from 0 in rounds over the edges until no edge asks for more.
-- Assumes nothing.
use Rattle.std.specs.Prelude.{◌≡◌, Bool, true, false, List, [], ◌∷◌, ℕ, zero, suc, ◌+◌, ◌-◌, ◌*◌, ◌≤◌, max, ltb, get_or, set, replicate}
use Rattle.lists.specs.Pick.{pick}
use Rattle.lists.specs.Span.{span}
use Rattle.lists.specs.Fold.{fold}
use Rattle.system.specs.System.{System}
use Rattle.system.specs.Outcome.{Settled}

-- edge e asks for more than its head has
unfoldable pub asks : System → List ℕ → ℕ → Bool
asks s y e = ltb (get_or y (s.graph.head e) 0 + s.gain e) (get_or y (s.graph.tail e) 0 + s.cost e)

-- its head raised to what it asks; a difference that stops at 0 is exact, since no value is below 0
unfoldable pub raise : System → List ℕ → ℕ → List ℕ
raise s y e =
    set y (s.graph.head e) (max (get_or y (s.graph.head e) 0) (get_or y (s.graph.tail e) 0 + s.cost e - s.gain e))

-- the edges es in turn, each over the values that those before it left
unfoldable pub raise_all : System → List ℕ → List ℕ → List ℕ
raise_all s y es = fold (raise s) y es

-- some edge of es asks for more when its turn comes
unfoldable pub raises : System → List ℕ → List ℕ → Bool
raises s y [] = false
raises s y (e ∷ es) = pick (asks s y e) true (raises s (raise s y e) es)

-- a round visits every edge once, in ascending order
unfoldable pub every_edge : System → List ℕ
every_edge s = span 0 s.graph.edges

unfoldable pub round : System → List ℕ → List ℕ
round s y = raise_all s y (every_edge s)

-- what a round over at most 256 edges, each of which costs at most 65535, makes of y₀
pub record Rounded (s : System) (y₀ y : List ℕ) (raised : Bool) : Type 0 where
  pub is_raised : raised ≡ raises s y₀ (every_edge s)
  pub is_round : y ≡ round s y₀
  pub bound : (b : ℕ) → ((v : ℕ) → get_or y₀ v 0 ≤ b) → (v : ℕ) → get_or y v 0 ≤ b + 256 * 65535

-- at most `left` more rounds, the last of them the first that raises nothing
unfoldable pub settle_from : System → ℕ → List ℕ → Settled
settle_from s zero y = record { settled = false; values = y }
settle_from s (suc left) y =
    let more = settle_from s left (round s y) in
    pick (raises s y (every_edge s)) more (record { settled = true; values = y })

-- at most as many rounds as nodes, from all zeros
unfoldable pub settled_of : System → Settled
settled_of s = settle_from s s.graph.nodes (replicate 64 0)
