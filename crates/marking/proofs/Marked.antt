-- What a mark of one layer does to the header: "one flag changes, all other fields proved unchanged". Assumes nothing.
use mathlib.Core.Path.{◌≡◌, refl}
use mathlib.Core.Bool.{Bool, true, false}
use mathlib.Core.List.{List, [], ◌∷◌}
use Prim.Native.Nat.{ℕ, zero, suc, ◌≤◌, ◌<◌}
use lib.ListN.{length, get_or, set, length-set}
use lib.Seq.{get_or-set_other}
use borrow.Author.Tests.{le-leb, lt-leb}
use Rattle.header.specs.declared.Header.{Header}
use Rattle.header.specs.Header.{header_ok}
use Rattle.univmon.specs.Calls.{answered, mark_layer_call}

-- g is h with layer l's flag cleared
pub record Cleared (h : Header) (l : ℕ) (g : Header) : Type 0 where
  pub shape : g.shape ≡ h.shape
  pub totals : g.totals ≡ h.totals
  pub mode : g.mode ≡ h.mode
  pub lens : g.lens ≡ h.lens
  pub flags : length g.flags ≡ length h.flags
  pub flag : get_or g.flags l false ≡ false
  pub others : (m : ℕ) → (m ≡ l → ⊥) → get_or g.flags m false ≡ get_or h.flags m false

falls : (fs : List Bool) (l : ℕ) → get_or (set fs l false) l false ≡ false
falls [] l = refl
falls (f ∷ fs) zero = refl
falls (f ∷ fs) (suc l) = falls fs l

-- a mark of a layer of a header in range is accepted, and clears that layer's flag alone
pub accepted-mark : (h : Header) (l : ℕ) → header_ok h ≡ true → l < h.shape.layers → ((mark_layer_call h l).refusal ≡ 0) × Cleared h l (mark_layer_call h l).header
unfolding mark_layer_call
accepted-mark h l e i =
    rw (e, lt-leb h.shape.layers l i) (
      refl,
      record {
        shape = refl;
        totals = refl;
        mode = refl;
        lens = refl;
        flags = length-set h.flags l false;
        flag = falls h.flags l;
        others = λ m n. get_or-set_other h.flags l m false false n;
      },
    )

-- refusals 9 and 8 leave the header as it was
pub refused_header : (h : Header) (l : ℕ) → header_ok h ≡ false → mark_layer_call h l ≡ answered 9 h
unfolding mark_layer_call
refused_header h l e = rw e

pub refused-layer : (h : Header) (l : ℕ) → header_ok h ≡ true → h.shape.layers ≤ l → mark_layer_call h l ≡ answered 8 h
unfolding mark_layer_call
refused-layer h l e i = rw (e, le-leb h.shape.layers l i)
