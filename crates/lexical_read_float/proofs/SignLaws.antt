-- The bits of a float with its sign, from those below it: the sum fits, and they are a finite float's. One proof for both widths. Assumes nothing.
use Prim.Native.Nat.{ℕ, ◌+◌, ◌*◌, ◌%◌, ◌<◌}
use mathlib.Core.Path.{◌≡◌, refl, ap}
use mathlib.Core.Bool.{Bool, true, false}
use native.Mathlib.Omega.{arith}
use lib.Ieee.{Format, top}
use Rattle.lexical_float.specs.declared.encoding.Encoding.{Encoding}
use Rattle.lexical_float.specs.Encoding.{encoding_of, bits_of}
use Rattle.lexical_float.proofs.PartsLaws.{below, finite_below}
use Rattle.lexical_float.proofs.EncodingLaws.{small, sign}
use Rattle.lexical_read_float.specs.Pattern.{infinity}

module _ (f : Format) (E : Encoding) (is : E ≡ encoding_of f) (bits : ℕ) (h : bits < infinity f) where
  pub sign_fits : E.sign_mask + bits < 18446744073709551616
  sign_fits = omega (arith, sign f E is, (small f).words, (finite_below f bits h).0)

  pub sign_set : (negative : Bool) → negative ≡ true → E.sign_mask + bits ≡ bits_of f negative bits
  sign_set true e = ap (λ (m : ℕ). m + bits) (sign f E is)
  sign_set false e = absurd (let z : ◌≡◌ {A = ℕ} 0 1 = cc in omega arith)

pub sign_clear : (f : Format) (bits : ℕ) (negative : Bool) → negative ≡ false → bits ≡ bits_of f negative bits
sign_clear f bits true e = absurd (let z : ◌≡◌ {A = ℕ} 0 1 = cc in omega arith)
sign_clear f bits false e = refl

pub signed_finite : (f : Format) (negative : Bool) (bits r : ℕ) → bits < infinity f → r ≡ bits_of f negative bits → (r < 2 * top f) × (r % top f < infinity f)
signed_finite f negative bits r h e = let w = below f negative bits (finite_below f bits h).0 in rw e (w.few, rw w.rest h)
