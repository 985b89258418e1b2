-- The keys of a layer, one by one. Assumes nothing.
use mathlib.Core.Path.{◌≡◌, refl, sym}
use mathlib.Core.Bool.{true, false}
use mathlib.Core.List.{List, [], ◌∷◌, ◌++◌}
use Prim.Native.Nat.{ℕ, zero, suc}
use lib.ListN.{length}
use Rattle.text.specs.Words.{bytes_of, is_prefix}
use Rattle.heap_moves.specs.Cands.{Cand}
use Rattle.state_forms.specs.Formats.{Got, got, bad, then_read}
use Rattle.state_forms.specs.Grammar.{key_format, keys_r}
use Rattle.state_lines.specs.inner.Places.{forget, how_many}
use Rattle.state_forms.proofs.Exactness.{never_got, got_left}

-- what is put is the values themselves
abbrev pub same : {A : Type 0} → List A → List A
same xs = xs

module _ (l : ℕ) (s : List ℕ) where
  pub no_key : (n : ℕ) → is_prefix (bytes_of "(key ") s ≡ false → keys_r l n s ≡ got [] s
  unfolding keys_r
  no_key zero e = rw e
  no_key (suc n) e = rw e

  pub key-many : (n : ℕ) → n ≡ 0 → is_prefix (bytes_of "(key ") s ≡ true → keys_r l n s ≡ bad
  unfolding keys_r
  key-many n z e = rw (z, e)

  pub key_bad : (n m : ℕ) → n ≡ suc m → is_prefix (bytes_of "(key ") s ≡ true → (key_format l).read s ≡ bad → keys_r l n s ≡ bad
  unfolding keys_r then_read
  key_bad n m z e q = rw (z, e, q)

  pub key_in : (n m : ℕ) → n ≡ suc m → is_prefix (bytes_of "(key ") s ≡ true → (c : Cand) (t : List ℕ) → (key_format l).read s ≡ got c t → keys_r l n s ≡ then_read (keys_r l m t) (λ cs u. got ([] ++ (c ∷ cs)) u)
  unfolding keys_r then_read
  key_in n m z e c t q = rw (z, e, q)

-- the number of keys, once what is left and their number are known
pub counts_to : (g : Got (List Cand)) (n : ℕ) (s : List ℕ) → got tt s ≡ forget g → ((cs : List Cand) (t : List ℕ) → g ≡ got cs t → n ≡ length cs) → got n s ≡ how_many g
unfolding forget how_many
counts_to (got cs t) n s e h = let a : s ≡ t = got_left e in rw (h cs t refl, a)
counts_to bad n s e h = absurd (never_got (sym e))

pub counts_bad : (g : Got (List Cand)) → bad ≡ forget g → bad ≡ how_many g
unfolding forget how_many
counts_bad (got cs t) e = absurd (never_got e)
counts_bad bad e = refl
