-- How long an operation holds a unit of its class.
-- Assumes nothing.
use Rattle.std.specs.Prelude.{ℕ, eqb}
use Rattle.lists.specs.Pick.{pick}
use Rattle.form.specs.declared.Class.{Class}

-- how many steps an operation of a class occupies its unit: all of them on a plain class, the first alone on a pipelined one
unfoldable pub hold : Class → ℕ
hold k = pick (eqb k.pipelined 0) k.latency 1
