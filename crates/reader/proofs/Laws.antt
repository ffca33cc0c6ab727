-- A table's loop: what holds while it goes, one turn of it, and its ends; and the stages of a record, each from where the one before it ends.
-- Assumes nothing.
use Rattle.std.specs.Prelude.{Some, Result, Ok, Err, nat_eq, ◌||◌, take, drop}
use Rattle.std.specs.List.{list_any}
use Rattle.std.proofs.Common.{drop-cons, subst}
use mathlib.Core.Path.{◌≡◌, refl, ap, sym, ◌∙◌}
use mathlib.Core.Bool.{Bool, true, false}
use mathlib.Core.List.{List, map}
use lib.ListN.{length, get_or, length-map}
use Prim.Native.Nat.{ℕ, zero, suc, ◌+◌, ◌*◌, ◌-◌, ◌<◌, ◌≤◌}
use native.Mathlib.Nat.{mul-suc, mul-zero, add-zero, sub-zero}
use native.Mathlib.Numerals.{add-one}
use native.Mathlib.Omega.{arith}
use borrow.Author.Rules.{rules}
use borrow.Author.Tests.{le-ltb, lt-ltb, le-leb, lt-leb, eq-eqb, ne_eqb}
use Rattle.lists.specs.Pick.{pick, pick-false}
use Rattle.answer.specs.Refused.{fine, refused_fine}
use Rattle.answer.specs.declared.Refusal.{Refusal}
use Rattle.reader.specs.Outcome.{Reading, EdgeTable, PlacedTable}
use Rattle.form.specs.declared.Form.{Form}
use Rattle.form.specs.declared.Header.{Header}
use Rattle.form.specs.declared.Class.{Class}
use Rattle.form.specs.declared.Node.{Node}
use Rattle.form.specs.Places.{empty_form, with_header, with_classes, with_nodes, scheduled, scheduled_of}
use Rattle.form.specs.Offsets.{nodes_at, edges_at, starts_at}
use Rattle.reader.specs.Tables.{header_of, table, class_step, node_step, edge_step, start_step, reading, Few, Staged, TableRead, ClassesRead, NodesRead, EdgesRead, StartsRead, no_classes, no_nodes, no_edges, with_edge_rows, no_starts, with_start_rows}
use Rattle.reader.specs.Reading.{classes_read, nodes_read, edges_read, starts_read, TablesRead, zero_from, some_zero}

-- an array of structs as a field: its length, from what owning the struct tells
pub length-mapped : {X Y : Type 0} (f : X → Y) (l : List X) (n : ℕ) → length (map f l) ≡ n → length l ≡ n
length-mapped f l n p = sym (length-map l f) ∙ p

-- a definition's tests, settled from what a branch showed
pub ruleset tests = (rules, length-mapped, le-ltb, lt-ltb, le-leb, lt-leb, eq-eqb, ne_eqb)

-- after a refusal no row is read
pub table-refused : (step : ℕ → Reading → Reading) (n i : ℕ) (x : Reading) (e : Refusal) → x.next.refusal ≡ Some e → table step n i x ≡ x
unfolding table
table-refused step zero i x e p = refl
table-refused step (suc n) i x e p = pick-false _ _ _ (ap fine p ∙ refused_fine e)

-- row i of n is next: the rest of the table is the whole
pub record Going {A : Type 0} (step : ℕ → Reading → Reading) (n width at : ℕ) (made : A → Form) (none : A) (i : ℕ) (a : A) : Type 0 where
  pub rest : table step (n - i) i (reading (made a) (at + width * i)) ≡ table step n 0 (reading (made none) at)

module _ {A : Type 0} {step : ℕ → Reading → Reading} {n width at : ℕ} {made : A → Form} {none : A} where
  pub begin : Going step n width at made none 0 none
  begin = record { rest = rw (sub-zero, mul-zero, add-zero) }

  module _ {i : ℕ} {a : A} (g : Going step n width at made none i a) where
    -- the table from the row on
    here : i < n → table step (n - (i + 1)) (i + 1) (step i (reading (made a) (at + width * i))) ≡ table step n 0 (reading (made none) at)
    unfolding table pick fine
    here h =
        let left : n - i ≡ suc (n - (i + 1)) = omega arith in
        rw (left, table) at g.rest

    -- a row that is refused ends the table
    pub stop : i < n → (e : Refusal) → (step i (reading (made a) (at + width * i))).next.refusal ≡ Some e → TableRead step n width at made none (Err e)
    stop h e p = ap (λ (x : Reading). x.next.refusal) (sym (here h) ∙ table-refused step _ _ _ e p) ∙ p

    -- one row more
    pub turn : i < n → (b : A) → step i (reading (made a) (at + width * i)) ≡ reading (made b) (at + width * i + width)
        → Going step n width at made none (i + 1) b
    turn h b e =
        let past : at + width * (i + 1) ≡ at + width * i + width = rw (add-one, mul-suc) (omega arith) in
        record { rest = rw (past, ← e) (here h) }

    -- the last row is read
    pub finish : i ≡ n → TableRead step n width at made none (Ok a)
    unfolding table
    finish e =
        let left : n - i ≡ 0 = omega arith in
        rw (left, table, e) at g.rest

-- ---- the stages of a record

module _ (s : List ℕ) where
  -- whatever stage refuses, those after it keep its refusal
  module _ (e : Refusal) where
    stays : (step : ℕ → Reading → Reading) (n i : ℕ) (x : Reading) → x.next.refusal ≡ Some e → (table step n i x).next.refusal ≡ Some e
    stays step n i x p = ap (λ (y : Reading). y.next.refusal) (table-refused step n i x e p) ∙ p

    pub starts-refused : (starts_read s).next.refusal ≡ Some e → TablesRead s (Err e)
    starts-refused p = record { is = p; few = tt; near = tt }

    pub edges-refused : (edges_read s).next.refusal ≡ Some e → TablesRead s (Err e)
    unfolding starts_read
    edges-refused p = starts-refused (stays _ _ _ _ p)

    pub nodes-refused : (nodes_read s).next.refusal ≡ Some e → TablesRead s (Err e)
    unfolding edges_read
    nodes-refused p = edges-refused (stays _ _ _ _ p)

    pub classes-refused : (classes_read s).next.refusal ≡ Some e → TablesRead s (Err e)
    unfolding nodes_read
    classes-refused p = nodes-refused (stays _ _ _ _ p)

    pub header-refused : (header_of s).next.refusal ≡ Some e → TablesRead s (Err e)
    unfolding classes_read
    header-refused p = classes-refused (stays _ _ _ _ p)

-- the form that the stages make, table by table
abbrev counted : Header → Form
counted h = with_header empty_form h

abbrev classed : Header → List Class → Form
classed h k = with_classes (counted h) k

abbrev noded : Header → List Class → List Node → Form
noded h k v = with_nodes (classed h k) v

abbrev edged : Header → List Class → List Node → EdgeTable → Form
edged h k v t = with_edge_rows (noded h k v) t

abbrev placed : Header → List Class → List Node → EdgeTable → PlacedTable → Form
placed h k v t x = with_start_rows (edged h k v t) x

-- a table read from where the stage before it ends is the next stage
staged : {A : Type 0} (step : ℕ → Reading → Reading) (count : Form → ℕ) (width at : ℕ) (made : A → Form) (none : A) (x : Reading) → reading (made none) at ≡ x
    → (r : Result A Refusal) → TableRead step (count (made none)) width at made none r
    → Staged (λ a. reading (made a) (at + width * count (made none))) (table step (count x.form) 0 x) r
staged step count width at made none x e r t =
    let P : Reading → Type 0 = λ y. Staged (λ a. reading (made a) (at + width * count (made none))) (table step (count y.form) 0 y) r in
    subst P e t

module _ (s : List ℕ) (h : Header) (eh : reading (counted h) 11 ≡ header_of s) where
  pub classes-staged : (r : Result (List Class) Refusal) → ClassesRead s 11 h.classes r → Staged (λ k. reading (classed h k) (nodes_at h)) (classes_read s) r
  unfolding classes_read empty_form
  classes-staged r t = staged (class_step s) (λ f. f.header.classes) 3 11 (classed h) no_classes (header_of s) eh r (t (counted h))

  module _ (k : List Class) (ks : ClassesRead s 11 h.classes (Ok k)) where
    pub nodes-staged : (r : Result (List Node) Refusal) → NodesRead s (nodes_at h) h.classes h.nodes r → Staged (λ v. reading (noded h k v) (edges_at h)) (nodes_read s) r
    unfolding nodes_read empty_form
    nodes-staged r t =
        staged (node_step s) (λ f. f.header.nodes) 6 (nodes_at h) (noded h k) no_nodes (classes_read s) (classes-staged (Ok k) ks) r (t (classed h k) refl)

    module _ (v : List Node) (vs : NodesRead s (nodes_at h) h.classes h.nodes (Ok v)) where
      pub edges-staged : (r : Result EdgeTable Refusal) → EdgesRead s (edges_at h) h.nodes h.edges r → Staged (λ g. reading (edged h k v g) (starts_at h)) (edges_read s) r
      unfolding edges_read empty_form
      edges-staged r t =
          staged (edge_step s) (λ f. f.header.edges) 3 (edges_at h) (edged h k v) no_edges (nodes_read s) (nodes-staged (Ok v) vs) r (t (noded h k v) refl)

      module _ (g : EdgeTable) (gs : EdgesRead s (edges_at h) h.nodes h.edges (Ok g)) (n : ℕ) (en : n ≡ scheduled_of h.length h.nodes) where
        pub starts-staged : (r : Result PlacedTable Refusal) → StartsRead s (starts_at h) h.length k v n r
            → Staged (λ x. reading (placed h k v g x) (starts_at h + 3 * n)) (starts_read s) r
        unfolding starts_read empty_form
        starts-staged r =
            let P : ℕ → Type 0 = λ m. StartsRead s (starts_at h) h.length k v m r → Staged (λ x. reading (placed h k v g x) (starts_at h + 3 * m)) (starts_read s) r in
            subst P (sym en) (λ t.
            staged (start_step s) scheduled 3 (starts_at h) (placed h k v g) no_starts (edges_read s) (edges-staged (Ok g) gs) r (t (edged h k v g) refl refl refl))

        -- all tables read are what the definition reads
        pub whole-read : (x : PlacedTable) → StartsRead s (starts_at h) h.length k v n (Ok x) → reading (placed h k v g x) (starts_at h + 3 * n) ≡ starts_read s
        whole-read x xs = starts-staged (Ok x) xs

-- how far the tables reach
module _ (h : Header) (few : Few h) where
  pub classes-end : nodes_at h ≤ 23
  classes-end = omega (arith, few.classes)

  pub nodes-end : edges_at h ≤ 407
  nodes-end = omega (arith, few.classes, few.nodes)

  pub edges-end : starts_at h ≤ 1175
  edges-end = omega (arith, few.classes, few.nodes, few.edges)

  pub starts-end : (n : ℕ) → n ≤ h.nodes → starts_at h + 3 * n ≤ 1367
  starts-end n l = omega (arith, few.classes, few.nodes, few.edges)

-- ---- looking for a retiming 0

pick_or : (b x : Bool) → pick b true x ≡ (b || x)
unfolding pick
pick_or true x = refl
pick_or false x = refl

-- one of the numbers from i on is 0: what a slice's `contains` answers
zero_any : (n i : ℕ) (rs : List ℕ) → i + n ≤ length rs → zero_from n i rs ≡ list_any (λ y. nat_eq y 0) (take n (drop i rs))
unfolding zero_from pick
zero_any zero i rs h = refl
zero_any (suc n) i rs h = rw (zero_any n (i + 1) rs (omega arith), drop-cons rs i 0 (omega arith), add-one) (pick_or (nat_eq (get_or rs i 0) 0) _)

pub zero_contained : (n : ℕ) (rs : List ℕ) → n ≤ length rs → some_zero n rs ≡ list_any (λ y. nat_eq y 0) (take n rs)
unfolding some_zero
zero_contained n rs h = zero_any n 0 rs (omega arith)
