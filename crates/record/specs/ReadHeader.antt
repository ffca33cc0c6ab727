-- A header that was read: its counts are in range, and its bytes are those it was read from.
-- Assumes nothing.
use Rattle.std.specs.Prelude.{◌≡◌, List, ◌∷◌, ◌++◌, ℕ, ◌≤◌, length, take, drop}
use Rattle.std.proofs.Math.Path.{refl}
use Rattle.std.proofs.Math.Bool.{true}
use Rattle.std.proofs.Common.{arith, take-add, drop-drop}
use Rattle.answer.specs.Refused.{fine}
use Rattle.form.specs.Ranges.{Within}
use Rattle.field.specs.declared.Kind.TheVariants.{Mark, Version, Count}
use Rattle.field.specs.Number.{Bytes, number_at, bytes_of, bytes-number}
use Rattle.field.specs.Taking.{onward}
use Rattle.reader.specs.Tables.{mark_in, version_in, classes_in, nodes_in, edges_in, length_in, header_of}
use Rattle.writer.specs.Layout.{count_bytes, header_bytes}
use Rattle.record.specs.Fields.{Got, begun, got, slice-cons}

-- what is known of a header that was read
pub record Head (s : List ℕ) : Type 0 where
  pub next : (header_of s).next ≡ onward 11
  pub room : 11 ≤ length s
  pub classes : Within 1 4 (header_of s).form.header.classes
  pub nodes : Within 1 64 (header_of s).form.header.nodes
  pub edges : (header_of s).form.header.edges ≤ 256
  pub last : (header_of s).form.header.length ≤ 512
  pub classes_is : (header_of s).form.header.classes ≡ number_at 1 s 5
  pub nodes_is : (header_of s).form.header.nodes ≡ number_at 1 s 6
  pub edges_is : (header_of s).form.header.edges ≡ number_at 2 s 7
  pub last_is : (header_of s).form.header.length ≡ number_at 2 s 9
  pub laid : header_bytes (header_of s).form ≡ take 11 s

module _ (s : List ℕ) (b : Bytes s) where
  -- the first bytes of a record, cut into its fields
  cut : 11 ≤ length s → take 11 s ≡ bytes_of 3 (number_at 3 s 0) ++ (bytes_of 2 (number_at 2 s 3) ++ (number_at 1 s 5 ∷ number_at 1 s 6 ∷ (bytes_of 2 (number_at 2 s 7) ++ bytes_of 2 (number_at 2 s 9))))
  cut h =
      rw (
        take-add 3 8 s,
        take-add 2 6 (drop 3 s),
        drop-drop 2 3 s,
        slice-cons s 5 5 (omega arith),
        slice-cons s 6 4 (omega arith),
        take-add 2 2 (drop 7 s),
        drop-drop 2 7 s,
        bytes-number s b 3 0 (omega arith),
        bytes-number s b 2 3 (omega arith),
        bytes-number s b 2 7 (omega arith),
        bytes-number s b 2 9 (omega arith),
      )

  -- a header that is not refused was read
  pub header_read : fine (header_of s).next.refusal ≡ true → Head s
  unfolding header_of count_bytes bytes_of
  header_read f6 =
      let f5 : fine (edges_in s).next.refusal ≡ true = begun s (edges_in s).next 2 0 512 Count f6 in
      let f4 : fine (nodes_in s).next.refusal ≡ true = begun s (nodes_in s).next 2 0 256 Count f5 in
      let f3 : fine (classes_in s).next.refusal ≡ true = begun s (classes_in s).next 1 1 64 Count f4 in
      let f2 : fine (version_in s).next.refusal ≡ true = begun s (version_in s).next 1 1 4 Count f3 in
      let f1 : fine (mark_in s).next.refusal ≡ true = begun s (mark_in s).next 2 1 1 Version f2 in
      let m : Got s 0 3 3 4936530 4936530 (mark_in s) = got s (onward 0) 3 4936530 4936530 Mark f1 0 3 refl refl in
      let v : Got s 3 5 2 1 1 (version_in s) = got s (mark_in s).next 2 1 1 Version f2 3 5 m.next refl in
      let c : Got s 5 6 1 1 4 (classes_in s) = got s (version_in s).next 1 1 4 Count f3 5 6 v.next refl in
      let n : Got s 6 7 1 1 64 (nodes_in s) = got s (classes_in s).next 1 1 64 Count f4 6 7 c.next refl in
      let e : Got s 7 9 2 0 256 (edges_in s) = got s (nodes_in s).next 2 0 256 Count f5 7 9 n.next refl in
      let l : Got s 9 11 2 0 512 (length_in s) = got s (edges_in s).next 2 0 512 Count f6 9 11 e.next refl in
      let mark : number_at 3 s 0 ≡ 4936530 = omega (arith, m.at_least, m.at_most, m.number) in
      let version : number_at 2 s 3 ≡ 1 = omega (arith, v.at_least, v.at_most, v.number) in
      record {
        next = l.next;
        room = l.room;
        classes = (c.at_least, c.at_most);
        nodes = (n.at_least, n.at_most);
        edges = e.at_most;
        last = l.at_most;
        classes_is = c.number;
        nodes_is = n.number;
        edges_is = e.number;
        last_is = l.number;
        laid = rw (cut l.room, mark, version, c.number, n.number, e.number, l.number);
      }
