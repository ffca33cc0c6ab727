-- What a node computes: its operation on its operands, modulo 2^32, the operands in edge order.
-- Assumes nothing.
use Rattle.std.specs.Prelude.{List, [], ◌∷◌, map, Bool, ℕ, zero, suc, ◌+◌, ◌-◌, ◌*◌, ◌%◌, eqb, ltb, get_or}
use Rattle.lists.specs.Pick.{pick}
use Rattle.lists.specs.Fold.{fold}
use Rattle.form.specs.declared.Operation.{Operation}
use Rattle.form.specs.declared.Operation.TheVariants.{Add, Sub, Mul}
use Rattle.legal.specs.Loop.{Loop}

abbrev pub word : ℕ → ℕ
word n = n % 4294967296

unfoldable pub plus : ℕ → ℕ → ℕ
plus a b = word (a + b)

unfoldable pub minus : ℕ → ℕ → ℕ
minus a b = word (a + (4294967296 - word b))

unfoldable pub times : ℕ → ℕ → ℕ
times a b = word (a * b)

-- the first operand, 0 if there is none, minus the rest
unfoldable pub difference : List ℕ → ℕ
difference [] = 0
difference (x ∷ xs) = fold minus x xs

-- add: constant plus all operands; sub: the difference of the operands minus the constant; mul: constant times all operands
unfoldable pub applied : Operation → List ℕ → ℕ
applied (Add k) xs = fold plus (word k) xs
applied (Sub k) xs = minus (difference xs) k
applied (Mul k) xs = fold times (word k) xs

-- of so many edges from number e on those that lead to v, ascending
unfoldable pub edges_into : Loop → ℕ → ℕ → ℕ → List ℕ
edges_into g v zero e = []
edges_into g v (suc left) e =
    let more = edges_into g v left (e + 1) in
    pick (eqb (g.graph.head e) v) (e ∷ more) more

abbrev pub incoming : Loop → ℕ → List ℕ
incoming g v = edges_into g v g.graph.edges 0

-- what node u had in iteration i
abbrev pub Reader : Type 0
Reader = ℕ → ℕ → ℕ

module _ (g : Loop) (starts : List ℕ) where
  -- the place of node v in iteration i
  abbrev pub place_of : ℕ → ℕ → ℕ
  place_of i v = i * g.graph.nodes + v

  -- edge e comes from before the first iteration
  abbrev pub from_start : ℕ → ℕ → Bool
  from_start i e = ltb i (g.delay e)

  -- what edge e hands to iteration i, where `read` says what node u had in iteration j: node u at iteration -k stands at place 15 u + k - 1 of the start table
  unfoldable pub operand_by : Reader → ℕ → ℕ → ℕ
  operand_by read i e =
      pick (from_start i e) (get_or starts (15 * g.graph.tail e + (g.delay e - i) - 1) 0)
      (read (i - g.delay e) (g.graph.tail e))

  -- what node v computes in iteration i
  unfoldable pub computed_by : Reader → ℕ → ℕ → ℕ
  computed_by read i v = applied (g.node v).operation (map (operand_by read i) (incoming g v))

  -- values of all iterations are a reader
  abbrev pub buffer : List ℕ → Reader
  buffer values i u = get_or values (place_of i u) 0

  abbrev pub operand : List ℕ → ℕ → ℕ → ℕ
  operand values = operand_by (buffer values)

  abbrev pub computed : List ℕ → ℕ → ℕ → ℕ
  computed values = computed_by (buffer values)
