-- The laws of digit bytes and digit values. Assumes nothing.
use Prim.Native.Nat.{ℕ, ◌+◌, ◌-◌, ◌≤◌, ◌<◌}
use mathlib.Core.Path.{◌≡◌, refl, ap, ◌∙◌}
use mathlib.Core.Bool.{Bool, true, false, cond, ◌&&◌}
use Rattle.std.specs.Prelude.{Option, None, Some}
use native.Mathlib.Omega.{arith}
use borrow.Author.Tests.{le-leb, lt-leb, lt-ltb, le-ltb, leb-true, ltb-true, ltb-false}
use lib.Dec.{leb, ltb}
use Rattle.lexical_util.specs.Digit.{digit_byte, digit_value, below, digit_in}

-- ---- a byte's digit value, by its ranges
pub value_figure : (x : ℕ) → 48 ≤ x → x ≤ 57 → digit_value x ≡ Some (x - 48)
unfolding digit_value
value_figure x h k = rw (le-leb 48 x h, le-leb x 57 k)

pub value_capital : (x : ℕ) → 65 ≤ x → x ≤ 86 → digit_value x ≡ Some (x - 55)
unfolding digit_value
value_capital x h k = rw (le-leb 48 x (omega arith), lt-leb x 57 (omega arith), le-leb 65 x h, le-leb x 86 k)

pub value_low : (x : ℕ) → x < 48 → digit_value x ≡ None
unfolding digit_value
value_low x h = rw (lt-leb 48 x h, lt-leb 65 x (omega arith))

pub value_between : (x : ℕ) → 57 < x → x < 65 → digit_value x ≡ None
unfolding digit_value
value_between x h k = rw (le-leb 48 x (omega arith), lt-leb x 57 h, lt-leb 65 x k)

pub value_high : (x : ℕ) → 86 < x → digit_value x ≡ None
unfolding digit_value
value_high x h = rw (le-leb 48 x (omega arith), lt-leb x 57 (omega arith), le-leb 65 x (omega arith), lt-leb x 86 h)

-- ---- byte and value are inverse
pub byte_figure : (d : ℕ) → d < 10 → digit_byte d ≡ 48 + d
unfolding digit_byte
byte_figure d h = rw (lt-ltb d 10 h)

pub byte_capital : (d : ℕ) → 10 ≤ d → digit_byte d ≡ 55 + d
unfolding digit_byte
byte_capital d h = rw (le-ltb d 10 h)

-- a digit's byte has the digit's value
pub value_byte : (d : ℕ) → d < 32 → digit_value (digit_byte d) ≡ Some d
value_byte d h = go (ltb d 10) refl
  where
    go : (b : Bool) → ltb d 10 ≡ b → digit_value (digit_byte d) ≡ Some d
    go true e =
        let k = ltb-true d 10 e in
        rw (byte_figure d k) (value_figure (48 + d) (omega arith) (omega arith) ∙ ap Some (let z : 48 + d - 48 ≡ d = omega arith in z))
    go false e =
        let k = ltb-false d 10 e in
        rw (byte_capital d k) (value_capital (55 + d) (omega arith) (omega arith) ∙ ap Some (let z : 55 + d - 55 ≡ d = omega arith in z))

-- a byte with a digit value is that digit's byte
byte_value : (x d : ℕ) → digit_value x ≡ Some d → digit_byte d ≡ x
unfolding digit_value
byte_value x d = go (leb 48 x) refl (leb x 57) refl (leb 65 x) refl (leb x 86) refl
  where
    same : (y : ℕ) → Some y ≡ Some d → y ≡ d
    same y p = cc

    empty : None ≡ Some d → ⊥
    empty p = let z : ◌≡◌ {A = ℕ} 0 1 = cc in omega arith

    capital : (a b : Bool) → leb 65 x ≡ a → leb x 86 ≡ b → cond (a && b) (Some (x - 55)) None ≡ Some d → digit_byte d ≡ x
    capital true true p q e =
        let h = leb-true 65 x p in
        let k = leb-true x 86 q in
        let s = same (x - 55) e in
        byte_capital d (omega arith) ∙ (let z : 55 + d ≡ x = omega arith in z)
    capital true false p q e = absurd (empty e)
    capital false b p q e = absurd (empty e)

    go : (a : Bool) → leb 48 x ≡ a → (b : Bool) → leb x 57 ≡ b → (a' : Bool) → leb 65 x ≡ a' → (b' : Bool) → leb x 86 ≡ b'
        → cond (a && b) (Some (x - 48)) (cond (a' && b') (Some (x - 55)) None) ≡ Some d → digit_byte d ≡ x
    go true p true q a' r b' s e =
        let h = leb-true 48 x p in
        let k = leb-true x 57 q in
        let w = same (x - 48) e in
        byte_figure d (omega arith) ∙ (let z : 48 + d ≡ x = omega arith in z)
    go true p false q a' r b' s e = capital a' b' r s e
    go false p b q a' r b' s e = capital a' b' r s e

-- ---- in a radix
pub digit_in_lem : (radix d : ℕ) → d < radix → radix ≤ 32 → digit_in radix (digit_byte d) ≡ Some d
unfolding digit_in
digit_in_lem radix d h k = rw (value_byte d (omega arith), lt-ltb d radix h)

pub in_digit : (radix x d : ℕ) → digit_in radix x ≡ Some d → (digit_byte d ≡ x) × (d < radix)
unfolding digit_in
in_digit radix x d = go (digit_value x) refl
  where
    empty : None ≡ Some d → ⊥
    empty p = let z : ◌≡◌ {A = ℕ} 0 1 = cc in omega arith

    go : (o : Option ℕ) → digit_value x ≡ o → below radix o ≡ Some d → (digit_byte d ≡ x) × (d < radix)
    go None p e = absurd (empty e)
    go (Some v) p e = at (ltb v radix) refl e
      where
        at : (b : Bool) → ltb v radix ≡ b → cond b (Some v) None ≡ Some d → (digit_byte d ≡ x) × (d < radix)
        at true q e =
            let same : v ≡ d = cc in
            (byte_value x d (p ∙ e), rw same at (ltb-true v radix q))
        at false q e = absurd (empty e)
