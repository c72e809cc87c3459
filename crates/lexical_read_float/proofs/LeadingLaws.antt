-- What the code works out from a number's leading bits is what reading gives, refusal 11 included. One proof for both widths and both signs. Assumes nothing.
use Rattle.std.specs.Prelude.{Some, None}
use Prim.Native.Nat.{ℕ, ◌+◌, ◌*◌, ◌^◌, ◌≤◌, ◌<◌}
use mathlib.Core.Path.{◌≡◌, refl, sym, ap, ap₂, ◌∙◌}
use mathlib.Core.Bool.{Bool, true, false, cond}
use native.Mathlib.Nat.{zero-mul, mul_assoc, mul_comm, mul-pos, mul_right_comm}
use lib.IntN.{pos}
use lib.Dec.{T, leb}
use lib.Pow.{pow-add, pow_pos}
use lib.Ieee.{fin, Format, binary32, binary64, prec, round, hid, of_bits, fits}
use lib.Ieee.Exact.{HasValue}
use lib.Ieee.Scale.{round_same}
use Rattle.lexical_util.specs.Answer.{done, refused}
use Rattle.lexical_float.specs.Encoding.{bits_of}
use Rattle.lexical_float.proofs.FloatLaws.{round_of_value}
use Rattle.lexical_read_float_spec.specs.Round.{too_large}
use Rattle.lexical_read_float_spec.specs.Read.{float_of}
use Rattle.lexical_read_float_spec.proofs.Edge.{dropped, keeps, too_large_is_infinite, not_too_large}
use Rattle.lexical_read_float.specs.Guard.{Leading}
use Rattle.lexical_read_float.specs.Pattern.{pattern, infinity}
use Rattle.lexical_read_float.specs.Rounding.{of_rounded, rounded_bits}
use Rattle.lexical_read_float.proofs.DropLaws.{drop_is, kept_is}
use Rattle.lexical_read_float.proofs.PatternLaws.{round_bits, too_large_bits}

-- ---- from the leading bits
module _ (f : Format) (n k bits : ℕ) (clear : Bool) (i j : ℕ) (l : Leading n (2 ^ k) bits clear) (long : 2 ^ prec f ≤ bits) where
  bits_are : dropped f (n * 2 ^ i) (2 ^ j) * hid f + keeps f (n * 2 ^ i) (2 ^ j) ≡ pattern f bits clear (k + i) j
  unfolding pattern
  bits_are = ap₂ (λ (x y : ℕ). x * hid f + y) (drop_is f n k bits clear i j l long) (kept_is f n k bits clear i j l long)

  test_is : too_large f (n * 2 ^ i) (2 ^ j) ≡ leb (infinity f) (pattern f bits clear (k + i) j)
  test_is = too_large_bits f (n * 2 ^ i) (2 ^ j) (pow_pos j) ∙ rw bits_are

  pub leading_float : (s : Bool) → of_rounded f s (rounded_bits f bits clear (k + i) j) ≡ float_of f s (n * 2 ^ i) (2 ^ j)
  unfolding rounded_bits float_of
  leading_float s = rw (← test_is, ← bits_are) (go (too_large f (n * 2 ^ i) (2 ^ j)) refl)
    where
      go : (b : Bool) → too_large f (n * 2 ^ i) (2 ^ j) ≡ b
          → of_rounded f s (cond b None (Some (dropped f (n * 2 ^ i) (2 ^ j) * hid f + keeps f (n * 2 ^ i) (2 ^ j)))) ≡ cond b (refused 11 0) (done (round f s (n * 2 ^ i) (2 ^ j)))
      go true e = refl
      go false e = ap done (sym (round_bits f s (n * 2 ^ i) (2 ^ j) (pow_pos j) e))

-- ---- more bits where nothing is below them
scaled_float : (f : Format) (s : Bool) (a c m : ℕ) → 0 < c → 0 < m → float_of f s a c ≡ float_of f s (a * m) (c * m)
unfolding float_of
scaled_float f s a c m C M =
    let r : round f s a c ≡ round f s (a * m) (c * m) = round_same f s a c (a * m) (c * m) C (mul-pos C M) (rw (mul_comm c m, mul_assoc a m c)) in
    rw (too_large_is_infinite f s a c C, too_large_is_infinite f s (a * m) (c * m) (mul-pos C M), r)

pub shifted_float : (f : Format) (s : Bool) (n i j l : ℕ) → float_of f s (n * 2 ^ i) (2 ^ j) ≡ float_of f s (n * 2 ^ l * 2 ^ i) (2 ^ (j + l))
shifted_float f s n i j l = rw (mul_right_comm n (2 ^ l) (2 ^ i), pow-add 2 j l) (scaled_float f s (n * 2 ^ i) (2 ^ j) (2 ^ l) (pow_pos j) (pow_pos l))

-- ---- zero
zero_bits : (f : Format) (s : Bool) → T (fits f (fin s 0 (pos 0))) × (fin s 0 (pos 0) ≡ of_bits f (bits_of f s 0))
unfolding fits of_bits
zero_bits binary32 true = (tt, refl)
zero_bits binary32 false = (tt, refl)
zero_bits binary64 true = (tt, refl)
zero_bits binary64 false = (tt, refl)

pub zero_float_lem : (f : Format) (s : Bool) (c : ℕ) → 0 < c → float_of f s 0 c ≡ done (of_bits f (bits_of f s 0))
unfolding float_of
zero_float_lem f s c C =
    let z = fin s 0 (pos 0) in
    let v : HasValue z s 0 c = (refl, zero-mul c) in
    rw (not_too_large f z s 0 c C (zero_bits f s).0 v) (ap done (round_of_value f s z 0 c C (zero_bits f s).0 v ∙ (zero_bits f s).1))
