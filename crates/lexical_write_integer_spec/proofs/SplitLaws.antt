-- A number's digits in radix 2 ^ b, split at a place: those before it are the last of the number shifted, those from it on the last of the number. Assumes nothing.
use Prim.Native.Nat.{ℕ, ◌+◌, ◌-◌, ◌*◌, ◌/◌, ◌^◌, ◌≤◌, ◌<◌}
use mathlib.Core.Path.{◌≡◌, sym, ap, ◌∙◌}
use mathlib.Core.List.{◌++◌}
use native.Mathlib.Nat.{mul-add, mul-one, mul-le-mul_left, mul-div-le, lt_of_le_of_lt}
use native.Mathlib.Omega.{arith}
use lib.Ieee.{size}
use lib.Ieee.Digits.{size-le}
use lib.ListN.{length, take, drop}
use lib.Seq.{take_at, drop_at}
use Rattle.lexical_write_integer_spec.specs.Digits.{numeral}
use Rattle.lexical_write_integer_spec.specs.Write.{last_numeral}
use Rattle.lexical_write_integer_spec.proofs.CountLaws.{count_log}
use Rattle.lexical_write_integer_spec.proofs.DigitsLaws.{pow_mul, radix_above}
use Rattle.lexical_write_integer_spec.proofs.NumeralLaws.{length_one}
use Rattle.lexical_write_integer_spec.proofs.LastLaws.{length_last, numeral_last, last_add}

module _ (b x n w : ℕ) (some_bits : 0 < b) (count : n ≡ length (numeral (2 ^ b) 1 x)) (inside : w ≤ n) where
  split : numeral (2 ^ b) 1 x ≡ last_numeral (2 ^ b) w (x / 2 ^ (b * (n - w))) ++ last_numeral (2 ^ b) (n - w) x
  split =
      let e : length (numeral (2 ^ b) 1 x) ≡ w + (n - w) = omega arith in
      numeral_last (2 ^ b) (radix_above b some_bits) 1 x
      ∙ ap (λ (k : ℕ). last_numeral (2 ^ b) k x) e
      ∙ last_add (2 ^ b) w (n - w) x
      ∙ rw (pow_mul 2 b (n - w))

  pub front : last_numeral (2 ^ b) w (x / 2 ^ (b * (n - w))) ≡ take w (numeral (2 ^ b) 1 x)
  front = rw split (sym (take_at (last_numeral (2 ^ b) w (x / 2 ^ (b * (n - w)))) (last_numeral (2 ^ b) (n - w) x) w (length_last (2 ^ b) w (x / 2 ^ (b * (n - w))))))

  pub back : last_numeral (2 ^ b) (n - w) x ≡ drop w (numeral (2 ^ b) 1 x)
  back = rw split (sym (drop_at (last_numeral (2 ^ b) w (x / 2 ^ (b * (n - w)))) (last_numeral (2 ^ b) (n - w) x) w (length_last (2 ^ b) w (x / 2 ^ (b * (n - w))))))

  -- the shift is one of a u64
  pub shift_small : b ≤ 5 → x < 2 ^ 59 → b * (n - w) < 64
  shift_small few h =
      let k : n - w ≤ (size x - 1) / b + 1 = omega (arith, count_log b x some_bits, length_one (2 ^ b) x) in
      let m : b * ((size x - 1) / b + 1) ≡ b * ((size x - 1) / b) + b = mul-add b ((size x - 1) / b) 1 ∙ rw mul-one in
      lt_of_le_of_lt (mul-le-mul_left b k) (omega (arith, m, mul-div-le (size x - 1) b, size-le x 59 h))
