-- A record at the front of bytes: the header, the four tables, then "none is 0"; and one that stands alone, with Tail after these.
-- Assumes nothing.
use Rattle.std.specs.Prelude.{Bool, true, false, List, ℕ, zero, suc, ◌+◌, eqb, ltb, length, get_or, None, Some, Result, IfOk, ◌≤◌}
use Rattle.lists.specs.Pick.{pick}
use Rattle.answer.specs.Refused.{Verdict, fine}
use Rattle.answer.specs.declared.Refusal.{Refusal}
use Rattle.answer.specs.declared.Refusal.TheVariants.{Retiming, Tail}
use Rattle.form.specs.declared.Form.{Form}
use Rattle.form.specs.Places.{empty_form, scheduled}
use Rattle.form.specs.Offsets.{starts_at}
use Rattle.reader.specs.Outcome.{Reading, Prefix, Record}
use Rattle.reader.specs.declared.Front.{Front}
use Rattle.reader.specs.Tables.{header_of, table, class_step, node_step, edge_step, start_step, reading, Staged, Few}

module _ (s : List ℕ) where
  unfoldable pub classes_read : Reading
  classes_read = table (class_step s) (header_of s).form.header.classes 0 (header_of s)

  unfoldable pub nodes_read : Reading
  nodes_read = table (node_step s) classes_read.form.header.nodes 0 classes_read

  unfoldable pub edges_read : Reading
  edges_read = table (edge_step s) nodes_read.form.header.edges 0 nodes_read

  unfoldable pub starts_read : Reading
  starts_read = table (start_step s) (scheduled edges_read.form) 0 edges_read

-- the form and the size of the record at the front, once its last field is read
pub record TablesRead (s : List ℕ) (r : Result Front Refusal) : Type 0 where
  pub is : Staged (λ front. reading front.form front.size) (starts_read s) r
  pub few : IfOk r (λ front. Few front.form.header)
  pub near : IfOk r (λ front. front.size ≤ 1367)

-- one of so many numbers from number i on is 0
unfoldable pub zero_from : ℕ → ℕ → List ℕ → Bool
zero_from zero i rs = false
zero_from (suc left) i rs = pick (eqb (get_or rs i 0) 0) true (zero_from left (i + 1) rs)

unfoldable pub some_zero : ℕ → List ℕ → Bool
some_zero n rs = zero_from n 0 rs

-- there is no schedule, or its smallest retiming is 0
unfoldable pub normalized : ℕ → ℕ → List ℕ → Bool
normalized l n rs = pick (eqb l 0) true (some_zero n rs)

-- the offset of node 0's retiming, past its start
unfoldable pub retiming_offset : Form → ℕ
retiming_offset f = starts_at f.header + 2

-- what is refused of the record at the front, once its last field is read
unfoldable pub end_of : Reading → Verdict
end_of x =
    pick (fine x.next.refusal)
    (pick (normalized x.form.header.length x.form.header.nodes x.form.retiming) None (Some (Retiming (retiming_offset x.form))))
    x.next.refusal

-- the form and where it ends where nothing is refused, else the empty form and 0
unfoldable pub fronted : Verdict → Reading → Prefix
fronted r x = record { refusal = r; size = pick (fine r) x.next.at 0; form = pick (fine r) x.form empty_form }

-- the record at the front: the header, the four tables, then "none is 0"
unfoldable pub prefix_of : List ℕ → Prefix
prefix_of s = fronted (end_of (starts_read s)) (starts_read s)

-- what is refused where a record stands alone: what is refused at the front, then the bytes that are left past it
unfoldable pub tail_of : List ℕ → Prefix → Verdict
tail_of s p = pick (fine p.refusal) (pick (ltb p.size (length s)) (Some (Tail p.size)) None) p.refusal

-- the form where nothing is refused, else the empty form
unfoldable pub answered : Verdict → Form → Record
answered r f = record { refusal = r; form = pick (fine r) f empty_form }

-- a record that stands alone
unfoldable pub read_form : List ℕ → Record
read_form s = answered (tail_of s (prefix_of s)) (prefix_of s).form
