-- A finite float of a width is its sign and its size: two that agree in both are one, and a fraction equal to a float of the width is rounded to it.
-- One proof for both widths. Assumes nothing.
use mathlib.Core.Path.{◌≡◌, refl}
use mathlib.Core.Bool.{Bool, cond}
use Prim.Native.Nat.{ℕ, zero, suc, ◌+◌, ◌-◌, ◌*◌, ◌/◌, ◌^◌, ◌≤◌, ◌<◌}
use native.Mathlib.Nat.{mul-one, zero-mul, mul_assoc, mul_comm, mul_right_comm, mul-lt-mul_of_pos_right, lt_of_mul-lt-mul_right, eq_of_mul-eq-mul_right}
use lib.IntN.{ℤ, pos, negsuc}
use lib.Dec.{T, ltb→lt, leb→le}
use lib.Pow.{pow-add, pow_pos}
use lib.Ieee.{Float, nan, inf, fin, Format, prec, emax, low, up, down, size, round, fits, hid, top, to_bits}
use lib.Ieee.Bits.{of_bits-to_bits}
use lib.Ieee.Digits.{back}
use lib.Ieee.Exact.{HasValue, round_exact}
use lib.Ieee.Fits.{and_l, and_r, down_pos, round-fits}
use lib.Ieee.Nearest.{div_same}
use lib.Ieee.Positive.{num, den, den_pos}
use lib.Ieee.Scale.{overflow, finite}
use Rattle.lexical_exponent.proofs.PowerLaws.{power_le}

-- ---- a / c and b / l are both x / u
pub same_fraction : (x u a c b l : ℕ) → 0 < u → x * c ≡ a * u → x * l ≡ b * u → a * l ≡ b * c
same_fraction x u a c b l U h k = eq_of_mul-eq-mul_right u U (a * l) (b * c) (rw (mul_right_comm a l u, ← h, mul_right_comm x c l, k, mul_right_comm b u c))

-- ---- a float's own fraction
pub record OwnFraction (x : Float) (s : Bool) (a c : ℕ) : Type 0 where
  pub is_finite : T (finite x)
  pub own : HasValue x s (num x) (den x)
  pub cross : num x * c ≡ a * den x

pub own_fraction : (x : Float) (s : Bool) (a c : ℕ) → HasValue x s a c → OwnFraction x s a c
own_fraction nan s a c h = absurd h
own_fraction (inf t) s a c h = absurd h
own_fraction (fin t m e) s a c h = record { is_finite = tt; own = (h.0, refl); cross = h.1 }

pub has_value : (x : Float) (s : Bool) (a c : ℕ) → HasValue x s (num x) (den x) → num x * c ≡ a * den x → HasValue x s a c
has_value nan s a c h e = h
has_value (inf t) s a c h e = h
has_value (fin t m d) s a c h e = (h.0, e)

-- ---- the bit pattern is fixed by sign and size
-- that of n units of the smallest value
abbrev pub pattern : Format → Bool → ℕ → ℕ
pattern f s n = cond s (top f) 0 + (size n - prec f) * hid f + n / 2 ^ (size n - prec f)

pub bits_of_value : (f : Format) (s : Bool) (x : Float) (a c : ℕ) → 0 < c → HasValue x s a c → to_bits f x ≡ pattern f s (a * 2 ^ low f / c)
unfolding to_bits
bits_of_value f s nan a c C h = absurd h
bits_of_value f s (inf t) a c C h = absurd h
bits_of_value f s (fin t m e) a c C h =
    let l = 2 ^ low f in
    let n : m * up e * l / down e ≡ a * l / c = div_same (m * up e * l) (down e) (a * l) c (down_pos e) C (rw (mul_right_comm (m * up e) l c, h.1, mul_right_comm a (down e) l)) in
    rw (h.0, n)

pub value_unique : (f : Format) (s : Bool) (x y : Float) (a c : ℕ) → 0 < c → T (fits f x) → T (fits f y) → HasValue x s a c → HasValue y s a c → x ≡ y
value_unique f s x y a c C p q h k = cc (of_bits-to_bits f x p, of_bits-to_bits f y q, bits_of_value f s x a c C h, bits_of_value f s y a c C k)

-- ---- a finite float of the width in units of the smallest value: digits * 2 ^ place, with `digits` of at most prec digits
pub record Units (f : Format) (x : Float) : Type 0 where
  pub digits : ℕ
  pub place : ℕ
  pub few : digits < 2 ^ prec f
  pub inside : digits * 2 ^ place < overflow f
  pub is : num x * 2 ^ low f ≡ digits * 2 ^ place * den x

raise : (l : ℕ) (e : ℤ) → down e ≤ 2 ^ l → (j : ℕ) × ((m : ℕ) → m * up e * 2 ^ l ≡ m * 2 ^ j * down e)
raise l (pos a) h = (a + l, λ m. simp (pow-add, mul_assoc, mul-one))
raise l (negsuc a) h = (l - suc a, λ m. rw (mul-one m, mul_assoc m (2 ^ (l - suc a)) (2 ^ suc a), ← pow-add 2 (l - suc a) (suc a), back l (suc a) (power_le (suc a) l h)))

under_overflow : (f : Format) (x y d : ℕ) → x * 2 ^ low f ≡ y * d → x < 2 ^ suc (emax f) * d → y < overflow f
under_overflow f x y d i g =
    lt_of_mul-lt-mul_right d
    (rw (pow-add 2 (low f) (suc (emax f)), mul_comm (2 ^ low f) (2 ^ suc (emax f)), mul_right_comm (2 ^ suc (emax f)) (2 ^ low f) d) (rw i at (mul-lt-mul_of_pos_right g (pow_pos (low f)))))

pub units : (f : Format) (x : Float) → T (fits f x) → T (finite x) → Units f x
unfolding fits
units f nan h k = absurd k
units f (inf s) h k = absurd k
units f (fin s zero e) h k = record { digits = 0; place = 0; few = pow_pos (prec f); inside = pow_pos (low f + suc (emax f)); is = simp zero-mul }
units f (fin s (suc m) e) h k =
    let r = raise (low f) e (leb→le (down e) (2 ^ low f) (search (and_l, and_r))) in
    record {
      digits = suc m;
      place = r.0;
      few = ltb→lt (suc m) (2 ^ prec f) (search (and_l, and_r));
      inside = under_overflow f (suc m * up e) (suc m * 2 ^ r.0) (down e) (r.1 (suc m)) (ltb→lt (suc m * up e) (2 ^ suc (emax f) * down e) (search (and_l, and_r)));
      is = r.1 (suc m);
    }

-- ---- whatever fraction equals a float of the width is rounded to it
pub round_of_value : (f : Format) (s : Bool) (x : Float) (a c : ℕ) → 0 < c → T (fits f x) → HasValue x s a c → round f s a c ≡ x
round_of_value f s x a c C p h =
    let v = own_fraction x s a c h in
    let u = units f x p v.is_finite in
    value_unique f s (round f s a c) x a c C (round-fits f s a c) p
    (round_exact f s a c u.digits u.place C u.few u.inside (same_fraction (num x) (den x) a c (u.digits * 2 ^ u.place) (2 ^ low f) (den_pos x) v.cross u.is))
    h
