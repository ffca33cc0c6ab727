-- A reader made of a slice and moved to a place: the calls of `new` and of `moved`, as each function with plain parameters makes them.
-- In a local of a body MIR erases the lifetime of the struct's type, so a reader that a call returns is shown to have the type at `erased`: what the struct owns does not say the lifetime's name.
-- Assumes nothing.
use mathlib.Core.Path.{◌≡◌, refl, ap, sym, subst, ◌∙◌}
use Prim.Native.Nat.{ℕ, ◌<◌, ◌^◌}
use mathlib.Core.List.{List, [], ◌∷◌}
use lib.ListN.{length}
use seplogic.Ra.Ura.{Ura}
use mir.Syntax.{named, erased, w8, w64}
use mir.Val.{Val, vint}
use base.Logic.{SProp, ent, sep, snd∗, ex_e}
use base.Fml.{Lft, Share, Fml, ftrue, flft}
use prog.Memory.{Memory}
use prog.Routine.{Routine}
use types.Logic.{Logic, sem}
use contract.Monad.{Fun, fact}
use types.Kit.{‵, raw, ◌⊛◌, ⋆, ◌$◌, ◌∵◌, !, qed, move, drop, use1, use2, split, join, fsplit, fjoin, frame, done}
use denote.RattleType.{owns}
use denote.Laws.{Is}
use denote.Plain.{uint_Makes, uint_row_laws}
use denote.Builtin.{u8, usize}
use denote.Ref.{Bor, NamedLft}
use denote.Slice.{slice_val, ShrSlice, shr_slice_copy}
use denote.Steps.{owned, nothing}
use denote.Triple.Statement.{Contract}
use denote.Triple.Spec.{triple_of}
use denote.Triple.Clauses.{ensured, lasts}
use Rattle.thin.specs.declared.Reader.{Reader}
use Rattle.thin.proofs.Apart.{B}
use Rattle.thin.specs.contracts.new as new
use Rattle.thin.specs.contracts.moved as moved

-- a reader of the slice s at n
abbrev pub Reads : Bor (List ℕ) → ℕ → Reader → Type 0
Reads s n r = (r.src ≡ s) × (r.at ≡ n)

-- what holds of the slice and the place holds of the reader's
pub of_reader : (P : List ℕ → ℕ → Type 0) (s : Bor (List ℕ)) (n : ℕ) (r : Reader) → Reads s n r → P s.now n → P r.src.now r.at
of_reader P s n r e h = subst (λ (x : Bor (List ℕ)). P x.now r.at) (sym e.0) (subst (P s.now) (sym e.1) h)

-- what is read of the reader's slice at its place is read of the slice at the place
pub at_place : (f : List ℕ → ℕ → ℕ) (s : Bor (List ℕ)) (n : ℕ) (r : Reader) → Reads s n r → f r.src.now r.at ≡ f s.now n
at_place f s n r e = ap (λ (x : Bor (List ℕ)). f x.now r.at) e.0 ∙ ap (f s.now) e.1

-- the machine values of a slice, and of a slice and a place
abbrev pub slice_of : Bor (List ℕ) → Val
slice_of s = slice_val s.ref_ptr (length s.now)

abbrev pub passed : Bor (List ℕ) → ℕ → List Val × (List Val × Unit {0})
passed s n = (slice_of s ∷ [], (vint w64 n ∷ [], tt))

-- what a slice owns
abbrev pub Slice : Lft → Bor (List ℕ) → Fml
Slice κ s = (ShrSlice (named 0) κ u8).own_val s (slice_of s ∷ [])

-- the struct's lifetime as a local of a body has it
abbrev pub local : Lft → NamedLft
local κ = record { mir = erased; lft = κ }

module _ {M : Type 1} {𝓤 : Ura M} (𝓛 : Logic 𝓤) (mem : Memory → SProp 𝓤) (run : Routine → Fun 𝓤) where
  abbrev pub New : Contract 𝓤
  New = triple_of 𝓛 new.signature (new.spec 𝓛 mem run)

  abbrev pub Moved : Contract 𝓤
  Moved = triple_of 𝓛 moved.signature (moved.spec 𝓛 mem run)

module _ {M : Type 1} {𝓤 : Ura M} (𝓛 : Logic 𝓤) (mem : Memory → SProp 𝓤) (run : Routine → Fun 𝓤) (κ : Lft) (q : Share) (s : Bor (List ℕ)) (n : ℕ) where
  -- the call of `new`: what it is passed, what it asks, and what is known of its result
  abbrev pub to-new : (New 𝓛 mem run).Ghost
  to-new = (((κ, tt), (q, tt), tt, (s, tt), (slice_of s ∷ [], tt)), tt)

  pub goes-new : ent 𝓤 (⋆ 𝓛 ((‵ (flft κ q) ⊛ ‵ ftrue) ∷ ‵ (owns (ShrSlice (named 0) κ u8 ∷ usize ∷ []) (s, (n, tt)) (passed s n)) ∷ [])) (sep 𝓤 ((New 𝓛 mem run).pre to-new) (sem 𝓛 (Slice κ s)))
  goes-new =
      qed 𝓛 ((‵ (flft κ q) ⊛ ‵ ftrue) ∷ ‵ (owns (ShrSlice (named 0) κ u8 ∷ usize ∷ []) (s, (n, tt)) (passed s n)) ∷ []) ∵
      move ! (1 ∷ []) $ fsplit ! $ move ! (1 ∷ []) $ drop ! $ use1 𝓛 (‵ (Slice κ s) ⊛ ‵ (Slice κ s)) ((shr_slice_copy 𝓛 (named 0) κ u8 (uint_row_laws w8)).twice s (slice_of s ∷ [])) $ split ! $
      nothing ! $ move ! (1 ∷ 0 ∷ []) $ fjoin ! $ move ! (2 ∷ 0 ∷ []) $ use2 𝓛 (raw ((New 𝓛 mem run).pre to-new)) (qed 𝓛 ((‵ (flft κ q) ⊛ ‵ ftrue) ∷ ‵ (owns (ShrSlice (named 0) κ u8 ∷ []) (s, tt) (slice_of s ∷ [], tt)) ∷ []) ∵ join ! $ frame ! $ done !) $ frame ! $ done !

  pub new-said : (r : Reader) → ent 𝓤 (ensured 𝓛 new.ended (new.clauses 𝓛 mem run) (κ, tt) (s, tt) tt r) (fact 𝓤 (Reads s 0 r))
  new-said r = ex_e 𝓤 _ (λ ws. snd∗ 𝓤 (sem 𝓛 (lasts new.ended (κ, tt) (s, tt) ws)) (fact 𝓤 (Reads s 0 r)))

  -- the call of `moved`, at the reader r with the machine value u
  abbrev pub to-moved : Reader → Val → (Moved 𝓛 mem run).Ghost
  to-moved r u = (((κ, tt), (q, tt), tt, (r, (n, tt)), (u ∷ [], (vint w64 n ∷ [], tt))), tt)

  pub goes_moved : n < 2 ^ 64 → (r : Reader) (u : Val) → ent 𝓤 (⋆ 𝓛 (‵ ((B (κ, tt)).own_val r (u ∷ [])) ∷ (‵ (flft κ q) ⊛ ‵ ftrue) ∷ [])) ((Moved 𝓛 mem run).pre (to-moved r u))
  goes_moved ok r u =
      qed 𝓛 (‵ ((B (κ, tt)).own_val r (u ∷ [])) ∷ (‵ (flft κ q) ⊛ ‵ ftrue) ∷ []) ∵
      nothing ! $ owned ! usize (Is usize) (uint_Makes 𝓛 w64) n _ (refl, ok) $ fjoin ! $ move ! (1 ∷ 0 ∷ []) $ fjoin ! $ move ! (1 ∷ 0 ∷ []) $ join ! $ frame ! $ done !

  pub moved-said : (r r' : Reader) → ent 𝓤 (ensured 𝓛 moved.ended (moved.clauses 𝓛 mem run) (κ, tt) (r, (n, tt)) tt r') (fact 𝓤 (Reads r.src n r'))
  moved-said r r' = ex_e 𝓤 _ (λ ws. snd∗ 𝓤 (sem 𝓛 (lasts moved.ended (κ, tt) (r, (n, tt)) ws)) (fact 𝓤 (Reads r.src n r')))
