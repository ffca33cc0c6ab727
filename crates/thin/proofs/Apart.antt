-- A reader taken apart: what it owns gives what a callee on the slice and the place asks, and is kept. A function that reads at the reader's place cites this.
-- The struct is Copy: what it owns is had twice, one copy is kept whole for the exit, and of the other what src owns goes to the callee, beside the lifetime's token.
-- Assumes nothing.
use mathlib.Core.Path.{◌≡◌, refl}
use Prim.Native.Nat.{◌<◌, ◌^◌}
use mathlib.Core.List.{List, [], ◌∷◌}
use lib.ListN.{length}
use seplogic.Ra.Ura.{Ura}
use mir.Syntax.{named, w64}
use mir.Val.{Val, vint}
use base.Logic.{SProp, ent, sep}
use base.Fml.{Lft, Share, Fml, ftrue, flft}
use types.Logic.{Logic, sem}
use contract.Lifetimes.{Lfts}
use types.Kit.{‵, raw, ◌⊛◌, given, ⋆, ◌$◌, ◌∵◌, !, qed, move, drop, use1, use2, split, learn, fsplit, fjoin, frame, done}
use denote.RattleType.{RattleType, owns}
use denote.Laws.{Is}
use denote.Plain.{uint_Makes}
use denote.Builtin.{u8, usize}
use denote.Signature.{named_lft}
use denote.Slice.{slice_val, ShrSlice}
use denote.Steps.{owned, nothing}
use denote.Struct.Declared.{Declared}
use denote.Struct.Laws as LL
use denote.Struct.Rest.{all_own, field_own, rest, own_open, own_out}
use denote.Struct.Values.{Values}
use Rattle.thin.specs.declared.Reader.{Reader}
use Rattle.thin.specs.contracts.Reader as T
use Rattle.thin.proofs.Reader.TheLaws as T'

-- the struct's type, over the signature's lifetimes
abbrev pub B : Lfts 1 → RattleType
B κs = T.the_row (named_lft 1 0 tt κs)

-- the machine values of a reader, and of its slice and its place
abbrev pub machine : Reader → Val
machine d = T'.lowered d

abbrev pub passed : Reader → List Val × (List Val × Unit {0})
passed d = (slice_val d.src.ref_ptr (length d.src.now) ∷ [], (vint w64 d.at ∷ [], tt))

-- what a reader owns, and what its slice and its place own
abbrev pub Whole : Lft → Reader → Fml
Whole κ d = (B (κ, tt)).own_val d (machine d ∷ [])

abbrev pub Parts : Lft → Reader → Fml
Parts κ d = owns (ShrSlice (named 0) κ u8 ∷ usize ∷ []) (d.src, (d.at, tt)) (passed d)

module _ {M : Type 1} {𝓤 : Ura M} (𝓛 : Logic 𝓤) (κ : Lft) (q : Share) (d : Reader) where
  -- the struct's type and laws, and d's fields' values
  abbrev D : Declared
  D = T.the_type (named_lft 1 0 tt (κ, tt))

  abbrev L : LL.Laws D
  L = T'.the_laws (named_lft 1 0 tt (κ, tt))

  abbrev vd : Values D.parts
  vd = (d.src, (d.at, tt))

  pub apart : (Pre : SProp 𝓤) → ent 𝓤 (⋆ 𝓛 ((‵ (flft κ q) ⊛ ‵ ftrue) ∷ ‵ (Parts κ d) ∷ [])) Pre → d.at < 2 ^ 64
      → ent 𝓤 (⋆ 𝓛 ((‵ (flft κ q) ⊛ ‵ ftrue) ∷ ‵ (owns (B (κ, tt) ∷ []) (d, tt) (machine d ∷ [], tt)) ∷ [])) (sep 𝓤 Pre (sem 𝓛 (Whole κ d)))
  apart Pre asked fits =
      qed 𝓛 ((‵ (flft κ q) ⊛ ‵ ftrue) ∷ ‵ (owns (B (κ, tt) ∷ []) (d, tt) (machine d ∷ [], tt)) ∷ []) ∵
      move ! (1 ∷ []) $ fsplit ! $ move ! (1 ∷ []) $ drop ! $ use1 𝓛 (‵ (Whole κ d) ⊛ ‵ (Whole κ d)) ((LL.copy D (T'.the_copy (named_lft 1 0 tt (κ, tt))) 𝓛).twice d (machine d ∷ [])) $ split ! $
      use1 𝓛 (given (machine d ∷ [] ≡ machine d ∷ []) (‵ (all_own D.parts L vd))) (own_open 𝓛 D L vd (machine d)) $ learn ! (λ _. use1 𝓛 (‵ (field_own D.parts L 0 d.src) ⊛ ‵ (rest D.parts L 0 vd)) (own_out 𝓛 D.parts L 0 vd) $ split ! $
      -- [what src owns; what at owns; what the struct owns; the token]
      move ! (1 ∷ []) $ drop ! $ nothing ! $ owned ! usize (Is usize) (uint_Makes 𝓛 w64) d.at _ (refl, fits) $ fjoin ! $ move ! (1 ∷ 0 ∷ []) $ fjoin ! $
      move ! (2 ∷ 0 ∷ []) $ use2 𝓛 (raw Pre) asked $ frame ! $ done !)
