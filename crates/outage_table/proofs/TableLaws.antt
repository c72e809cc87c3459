-- What a table's bytes say: a row by the bits of its two floats. Assumes nothing.
use Prim.Native.Nat.{ℕ, ◌+◌, ◌*◌, ◌%◌}
use mathlib.Core.Path.{◌≡◌, ap, ◌∙◌}
use mathlib.Core.Bool.{Bool, true, false, not, cond}
use mathlib.Core.List.{List}
use native.Mathlib.Nat.{add-zero, le_of_lt}
use native.Mathlib.Omega.{arith}
use borrow.Author.Tests.{leb-false}
use lib.Dec.{T}
use lib.Ieee.{binary64, hid, ones, top, of_bits, nan_bits, lt}
use lib.Ieee.Scale.{finite}
use Rattle.lexical_util.specs.Answer.{Answer, done, refused}
use Rattle.lexical_util.proofs.AnswerLaws.{refused_done}
use Rattle.outage_spec.specs.declared.window.Window.{Window}
use Rattle.outage_spec.specs.Words.{word_at}
use Rattle.lexical_float.proofs.PartsLaws.{special_test, tested_bits}
use Rattle.outage_spec.specs.Window.{judged, from}
use Rattle.outage_spec.specs.Table.{row_at}

-- ---- a row by the bits of its floats
-- a checked window's refusal has place 0
pub judged_place : (w : Window) (r p : ℕ) → refused r p ≡ judged w → p ≡ 0
judged_place w r p h = go (lt w.end w.start) h
  where
    go : (b : Bool) → refused r p ≡ cond b (refused 14 0) (done w) → p ≡ 0
    go true h = cc
    go false h = absurd (refused_done r p w h)

pub refused_at : {r p : ℕ} (i : ℕ) → p ≡ 0 → ◌≡◌ {A = Answer Window} (refused r i) (from i (refused r p))
refused_at {r} {p} i e = ap (refused r) (let z : i ≡ i + p = omega arith in z)

-- bits a that the test calls finite or not, which are the word w
module _ (w a : ℕ) (e : a ≡ w) where
  bits_are : (b : Bool) → not (finite (of_bits binary64 a)) ≡ b → finite (of_bits binary64 w) ≡ not b
  bits_are b k = rw (← e) (flip (finite (of_bits binary64 a)) k)
    where
      flip : (c : Bool) → not c ≡ b → c ≡ not b
      flip true q = ap not q
      flip false q = ap not q

module _ (t : List ℕ) (n i a : ℕ) (e : a ≡ word_at 8 t (8 + 8 * i)) where
  pub start_bad : not (finite (of_bits binary64 a)) ≡ true → refused 7 i ≡ row_at t n i
  start_bad k = rw (bits_are _ a e true k, add-zero i)

  module _ (k : not (finite (of_bits binary64 a)) ≡ false) (b : ℕ) (f : b ≡ word_at 8 t (8 + 8 * n + 8 * i)) where
    pub end_bad : not (finite (of_bits binary64 b)) ≡ true → refused 7 i ≡ row_at t n i
    end_bad m = rw (bits_are _ a e false k, bits_are _ b f true m, add-zero i)

    pub both_finite : not (finite (of_bits binary64 b)) ≡ false → (r : Answer Window) → r ≡ judged (record { start = of_bits binary64 a; end = of_bits binary64 b }) → from i r ≡ row_at t n i
    both_finite m r w = rw (bits_are _ a e false k, bits_are _ b f false m) (ap (from i) (rw (e, f) at w))

-- finite bits are no NaN's
pub finite_bits : (b : ℕ) → not (finite (of_bits binary64 b)) ≡ false → T (not (nan_bits binary64 b))
finite_bits b h = tested_bits binary64 b (le_of_lt (leb-false (ones binary64 * hid binary64) (b % top binary64) (special_test binary64 b ∙ h)))
