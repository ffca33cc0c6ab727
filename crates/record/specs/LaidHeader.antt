-- The header of a held form's bytes, whatever is left past them: its numbers, and reading it.
-- Assumes nothing.
use Rattle.std.specs.Prelude.{◌≡◌, false, length, take}
use Rattle.std.proofs.Math.Path.{refl}
use Rattle.std.proofs.Common.{◌∙◌, arith}
use mathlib.Core.List.{List, ◌++◌}
use Prim.Native.Nat.{ℕ, ◌≤◌}
use Rattle.lists.specs.Pick.{both_ways}
use Rattle.answer.specs.Refused.{Verdict, number_of, fine}
use Rattle.form.specs.declared.Form.{Form}
use Rattle.form.specs.Ranges.{WellFormed}
use Rattle.field.specs.declared.Kind.TheVariants.{Mark, Version, Count}
use Rattle.field.specs.Number.{number_at, bytes_of}
use Rattle.field.specs.Taking.{onward, wrong_at}
use Rattle.reader.specs.Tables.{mark_in, version_in, classes_in, nodes_in, edges_in, header_of}
use Rattle.writer.specs.Layout.{count_bytes, header_bytes, layout}
use Rattle.record.specs.Held.{Held, CountsFit}
use Rattle.record.specs.Rows.{slice-room, slice_front}
use Rattle.record.specs.LayoutSize.{header-width}
use Rattle.record.specs.LayoutSlices.{header-slice}
use Rattle.record.specs.ReadHeader.{Head}
use Rattle.record.specs.Sofar.{head_classes, head_nodes, head_edges, head_length}
use Rattle.record.specs.Walks.{Walks, slice-number, field-walks}

-- a refusal of a field of the form, which is then not well-formed
pub record Faulty (f : Form) (r : Verdict) : Type 0 where
  pub low : 4 ≤ number_of r
  pub high : number_of r ≤ 9
  pub never : WellFormed f → ⊥

-- the numbers of the header's fields
pub record HeaderNumbers (f : Form) (s : List ℕ) : Type 0 where
  pub room : 11 ≤ length s
  pub mark : number_at 3 s 0 ≡ 4936530
  pub version : number_at 2 s 3 ≡ 1
  pub classes : number_at 1 s 5 ≡ f.header.classes
  pub nodes : number_at 1 s 6 ≡ f.header.nodes
  pub edges : number_at 2 s 7 ≡ f.header.edges
  pub last : number_at 2 s 9 ≡ f.header.length

-- the counts that are read are those of the form
pub record Counts (f : Form) (s : List ℕ) : Type 0 where
  pub classes : head_classes s ≡ f.header.classes
  pub nodes : head_nodes s ≡ f.header.nodes
  pub edges : head_edges s ≡ f.header.edges
  pub last : head_length s ≡ f.header.length
  pub fits : CountsFit f

-- a form's bytes, and whatever is left past them
abbrev pub followed : Form → List ℕ → List ℕ
followed f rest = layout f ++ rest

module _ (f : Form) (h : Held f) (rest : List ℕ) where
  header-laid : take 11 (followed f rest) ≡ header_bytes f
  header-laid = slice_front (layout f) rest (header_bytes f) 0 11 (header-slice f) (header-width f) (omega arith)

  header-numbers : HeaderNumbers f (followed f rest)
  unfolding number_at count_bytes bytes_of
  header-numbers =
      let s : List ℕ = followed f rest in
      record {
        room = slice-room s (header_bytes f) 0 11 header-laid (header-width f) (omega arith);
        mark = slice-number s (header_bytes f) 0 11 3 0 header-laid (omega arith) ∙ omega arith;
        version = slice-number s (header_bytes f) 0 11 2 3 header-laid (omega arith) ∙ omega arith;
        classes = slice-number s (header_bytes f) 0 11 1 5 header-laid (omega arith) ∙ omega arith;
        nodes = slice-number s (header_bytes f) 0 11 1 6 header-laid (omega arith) ∙ omega arith;
        edges = slice-number s (header_bytes f) 0 11 2 7 header-laid (omega arith) ∙ omega (arith, h.edges);
        last = slice-number s (header_bytes f) 0 11 2 9 header-laid (omega arith) ∙ omega (arith, h.length);
      }

  -- a header that is read has the form's counts
  pub counts : Head (followed f rest) → Counts f (followed f rest)
  counts p =
      let s : List ℕ = followed f rest in
      let t : HeaderNumbers f s = header-numbers in
      let c : head_classes s ≡ f.header.classes = p.classes_is ∙ t.classes in
      let n : head_nodes s ≡ f.header.nodes = p.nodes_is ∙ t.nodes in
      let e : head_edges s ≡ f.header.edges = p.edges_is ∙ t.edges in
      record {
        classes = c;
        nodes = n;
        edges = e;
        last = p.last_is ∙ t.last;
        fits = record { classes = omega (arith, p.classes); nodes = omega (arith, p.nodes); edges = omega (arith, p.edges) };
      }

  header-walks : Walks (Faulty f) 11 (header_of (followed f rest)).next
  unfolding header_of fine
  header-walks =
      let s : List ℕ = followed f rest in
      let t : HeaderNumbers f s = header-numbers in
      let w0 : Walks (Faulty f) 0 (onward 0) = record { on = λ e. refl; off = λ e. both_ways refl e } in
      let fault : (a : ℕ) → (WellFormed f → ⊥) → Faulty f (wrong_at Count a) = λ a never. record { low = omega arith; high = omega arith; never = never } in
      let w1 : Walks (Faulty f) 3 (mark_in s).next =
      field-walks (Faulty f) s (onward 0) 0 3 3 4936530 4936530 Mark w0 (omega (arith, t.room)) refl (λ o. absurd (o (omega (arith, t.mark)))) in
      let w2 : Walks (Faulty f) 5 (version_in s).next =
      field-walks (Faulty f) s (mark_in s).next 3 5 2 1 1 Version w1 (omega (arith, t.room)) refl (λ o. absurd (o (omega (arith, t.version)))) in
      let w3 : Walks (Faulty f) 6 (classes_in s).next =
      field-walks (Faulty f) s (version_in s).next 5 6 1 1 4 Count w2 (omega (arith, t.room)) refl (λ o. fault 5 (λ g. o (omega (arith, t.classes, g.classes)))) in
      let w4 : Walks (Faulty f) 7 (nodes_in s).next =
      field-walks (Faulty f) s (classes_in s).next 6 7 1 1 64 Count w3 (omega (arith, t.room)) refl (λ o. fault 6 (λ g. o (omega (arith, t.nodes, g.nodes)))) in
      let w5 : Walks (Faulty f) 9 (edges_in s).next =
      field-walks (Faulty f) s (nodes_in s).next 7 9 2 0 256 Count w4 (omega (arith, t.room)) refl (λ o. fault 7 (λ g. o (omega (arith, t.edges, g.edges)))) in
      field-walks (Faulty f) s (edges_in s).next 9 11 2 0 512 Count w5 (omega (arith, t.room)) refl (λ o. fault 9 (λ g. o (omega (arith, t.last, g.length))))

  -- a header that is refused: the form's counts are out of range
  pub header-off : fine (header_of (followed f rest)).next.refusal ≡ false → Faulty f (header_of (followed f rest)).next.refusal
  header-off e = header-walks.off e
