-- Formats: what is written, and how it is read back, given as one expression. A text is a list of bytes.
use Rattle.std.specs.Prelude.{◌≡◌, List, [], ◌∷◌, ◌++◌, Bool, true, cond, ℕ, eqb, ℤ, length, drop, Option, None, Some}
use Rattle.text.specs.Words.{is_prefix}
use Rattle.text.specs.Decimals.{dec, Word, field_at}
use Rattle.text.specs.Signs.{signed_dec, SignedWord, int_at}

-- what a reading gives: a value and what is left of the text, or nothing
pub data Got (A : Type 0) : Type 0 where
  got : A → List ℕ → Got A
  bad : Got A

unfoldable pub then_read : {A B : Type 0} → Got A → (A → List ℕ → Got B) → Got B
then_read (got a t) f = f a t
then_read bad f = bad

-- a format: which values it is for, how they are written, and how a text is read that begins with one
pub record Format (A : Type 0) : Type 1 where
  pub In : A → Type 0
  pub write : A → List ℕ
  pub read : List ℕ → Got A

-- ---- words and numbers; each number has the byte after it with it, so that its end is seen

unfoldable pub word_r : List ℕ → List ℕ → Got (Unit {0})
word_r w s = cond (is_prefix w s) (got tt (drop (length w) s)) bad

abbrev pub lit : List ℕ → Format (Unit {0})
lit w = record { In = λ _. Unit {0}; write = λ _. w; read = word_r w }

-- a value and the place past it, as what is left of the text
unfoldable pub read_got : {A : Type 0} → List ℕ → Option (A × ℕ) → Got A
read_got s (Some p) = got p.0 (drop p.1 s)
read_got s None = bad

unfoldable pub num_r : ℕ → List ℕ → Got ℕ
num_r stop s = read_got s (field_at s 0 stop)

abbrev pub num : ℕ → Format ℕ
num stop = record { In = Word; write = λ n. dec n ++ (stop ∷ []); read = num_r stop }

unfoldable pub int_r : ℕ → List ℕ → Got ℤ
int_r stop s = read_got s (int_at s 0 stop)

abbrev pub int : ℕ → Format ℤ
int stop = record { In = SignedWord; write = λ z. signed_dec z ++ (stop ∷ []); read = int_r stop }

-- ---- formats put together

-- one after the other
abbrev pub pair : {A B : Type 0} → Format A → Format B → Format (A × B)
pair f g =
    record {
      In = λ p. f.In p.0 × g.In p.1;
      write = λ p. f.write p.0 ++ g.write p.1;
      read = λ s. then_read (f.read s) (λ a t. then_read (g.read t) (λ b u. got (a, b) u));
    }

-- words before
abbrev pub after : {B : Type 0} → Format (Unit {0}) → Format B → Format B
after f g = record { In = g.In; write = λ b. f.write tt ++ g.write b; read = λ s. then_read (f.read s) (λ _ t. g.read t) }

-- words behind
abbrev pub before : {A : Type 0} → Format A → Format (Unit {0}) → Format A
before f g = record { In = f.In; write = λ a. f.write a ++ g.write tt; read = λ s. then_read (f.read s) (λ a t. then_read (g.read t) (λ _ u. got a u)) }

-- only values that pass a test
abbrev pub such : {A : Type 0} → (A → Bool) → Format A → Format A
such p f = record { In = λ a. f.In a × (p a ≡ true); write = f.write; read = λ s. then_read (f.read s) (λ a t. cond (p a) (got a t) bad) }

-- one number alone
abbrev pub this : ℕ → ℕ → Format (Unit {0})
this n stop = record { In = λ _. Word n; write = λ _. dec n ++ (stop ∷ []); read = λ s. then_read (num_r stop s) (λ v t. cond (eqb v n) (got tt t) bad) }

-- values of another type that say the same
abbrev pub via : {A B : Type 0} → (A → B) → (B → A) → Format A → Format B
via to from f = record { In = λ b. f.In (from b); write = λ b. f.write (from b); read = λ s. then_read (f.read s) (λ a t. got (to a) t) }
