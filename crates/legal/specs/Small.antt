-- The small loop, on which definitions are computed: a multiplication, then two additions, round with two delays.
-- Assumes nothing.
use Rattle.std.specs.Prelude.{[], ◌∷◌, get_or}
use Rattle.form.specs.declared.Operation.TheVariants.{Add, Mul}
use Rattle.form.specs.Places.{no_class, no_node}
use Rattle.legal.specs.Loop.{Loop}

unfoldable pub small : Loop
small = record {
  graph = record { nodes = 3; edges = 3; tail = λ e. get_or (0 ∷ 1 ∷ 2 ∷ []) e 0; head = λ e. get_or (1 ∷ 2 ∷ 0 ∷ []) e 0 };
  delay = λ e. get_or (0 ∷ 0 ∷ 2 ∷ []) e 0;
  classes = 2;
  class = λ c.
      get_or (record { latency = 1; units = 1; pipelined = 0 } ∷ record { latency = 2; units = 1; pipelined = 0 } ∷ []) c
      no_class;
  node = λ v.
      get_or (record { class = 1; operation = Mul 3 } ∷ record { class = 0; operation = Add 1 } ∷ record { class = 0; operation = Add 0 } ∷ [])
      v
      no_node;
}
