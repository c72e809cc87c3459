-- Numbers in bytes, little endian: each way back, how large one is, and one byte more. Assumes nothing.
use Prim.Native.Nat.{ℕ, zero, suc, ◌+◌, ◌-◌, ◌*◌, ◌/◌, ◌%◌, ◌^◌, ◌≤◌, ◌<◌}
use mathlib.Core.Path.{◌≡◌, refl, sym, ap, ◌∙◌}
use mathlib.Core.List.{List, [], ◌∷◌}
use native.Mathlib.Nat.{pow-suc, pow-zero, div-lt_iff_lt-mul, pow-le-pow_right, lt_of_lt_of_le}
use native.Mathlib.Omega.{arith}
use lib.ListN.{length, take, drop, get_or, length-drop, drop_of_length-le}
use lib.Seq.{drop-cons, length-take-le, get_or-take, get_or-drop}
use Rattle.lexical_util.specs.Digit.{All}
use Rattle.outage_spec.specs.Words.{of_bytes, to_bytes}

abbrev pub AreBytes : List ℕ → Type 0
AreBytes l = All (λ b. b < 256) l

pub bytes_length : (k n : ℕ) → length (to_bytes k n) ≡ k
unfolding to_bytes
bytes_length zero n = refl
bytes_length (suc k) n = ap suc (bytes_length k (n / 256))

pub bytes_lt : (l : List ℕ) → AreBytes l → of_bytes l < 256 ^ length l
unfolding of_bytes
bytes_lt [] h = omega arith
bytes_lt (b ∷ bs) h = rw pow-suc (omega (arith, h.0, bytes_lt bs h.1))

-- the bytes of the number that bytes make
pub bytes_of : (l : List ℕ) → AreBytes l → to_bytes (length l) (of_bytes l) ≡ l
unfolding of_bytes to_bytes
bytes_of [] h = refl
bytes_of (b ∷ bs) h =
    let b0 = h.0 in
    let q : (b + 256 * of_bytes bs) / 256 ≡ of_bytes bs = omega arith in
    let r : (b + 256 * of_bytes bs) % 256 ≡ b = omega arith in
    rw (q, r) (ap (λ (l : List ℕ). b ∷ l) (bytes_of bs h.1))

-- the number of a number's bytes
pub of_bytes_lem : (k n : ℕ) → n < 256 ^ k → of_bytes (to_bytes k n) ≡ n
unfolding of_bytes to_bytes
of_bytes_lem zero n h = omega (arith, rw (pow-zero 256) at h)
of_bytes_lem (suc k) n h =
    let q = of_bytes_lem k (n / 256) ((div-lt_iff_lt-mul {k = 256} {x = n} {y = 256 ^ k} (omega arith)).1 (rw pow-suc at h)) in
    omega (arith, q)

-- ---- bytes of a part

pub all_bytes : (l : List ℕ) → ((i : ℕ) → get_or l i 0 < 256) → AreBytes l
all_bytes [] h = tt
all_bytes (b ∷ bs) h = (h 0, all_bytes bs (λ i. h (suc i)))

pub all_take : (k : ℕ) (l : List ℕ) → AreBytes l → AreBytes (take k l)
all_take zero l h = tt
all_take (suc k) [] h = tt
all_take (suc k) (b ∷ bs) h = (h.0, all_take k bs h.1)

pub all_drop : (k : ℕ) (l : List ℕ) → AreBytes l → AreBytes (drop k l)
all_drop zero l h = h
all_drop (suc k) [] h = tt
all_drop (suc k) (b ∷ bs) h = all_drop k bs h.1

-- one byte more in front
bytes_front : (l : List ℕ) (j : ℕ) → j < length l → of_bytes (drop j l) ≡ get_or l j 0 + 256 * of_bytes (drop (suc j) l)
unfolding of_bytes
bytes_front l j h = rw (drop-cons l j 0 h)

pub bytes_more : (k n : ℕ) → to_bytes (suc k) n ≡ n % 256 ∷ to_bytes k (n / 256)
unfolding to_bytes
bytes_more k n = refl

pub bytes_none : (n : ℕ) → to_bytes 0 n ≡ []
unfolding to_bytes
bytes_none n = refl

bytes_nil : (l : List ℕ) (k : ℕ) → drop k l ≡ [] → of_bytes (drop k l) ≡ 0
unfolding of_bytes
bytes_nil l k e = rw e

-- ---- read by places, the last byte first

pub part_length : (s : List ℕ) (at k : ℕ) → at + k ≤ length s → length (take k (drop at s)) ≡ k
part_length s at k h = length-take-le k (drop at s) (simp length-drop (omega arith))

pub read_start : (s : List ℕ) (at k : ℕ) → at + k ≤ length s → 0 ≡ of_bytes (drop k (take k (drop at s)))
read_start s at k h = sym (bytes_nil (take k (drop at s)) k (drop_of_length-le (take k (drop at s)) {i = k} (omega (arith, part_length s at k h))))

pub read_more : (s : List ℕ) (at k j v : ℕ) → 0 < j → j ≤ k → at + k ≤ length s → v ≡ of_bytes (drop j (take k (drop at s)))
    → v * 256 + get_or s (at + (j - 1)) 0 ≡ of_bytes (drop (j - 1) (take k (drop at s)))
read_more s at k j v p q h e =
    let w = take k (drop at s) in
    let n : suc (j - 1) ≡ j = omega arith in
    let g : get_or w (j - 1) 0 ≡ get_or s (at + (j - 1)) 0 = get_or-take k (drop at s) (j - 1) 0 (omega arith) ∙ get_or-drop at s (j - 1) 0 in
    let f : of_bytes (drop (j - 1) w) ≡ get_or w (j - 1) 0 + 256 * of_bytes (drop (suc (j - 1)) w) = bytes_front w (j - 1) (omega (arith, part_length s at k h)) in
    let t = ap (λ (i : ℕ). of_bytes (drop i w)) n in
    omega (arith, e, f, g, t)

pub read_small : (v k j : ℕ) → v < 256 ^ (k - j) → k ≤ 8 → 0 < j → v < 72057594037927936
read_small v k j h a b = lt_of_lt_of_le h (pow-le-pow_right {n = 256} (omega arith) {i = k - j} {j = 7} (omega arith))

pub read_grows : (v b k j : ℕ) → v < 256 ^ (k - j) → b < 256 → 0 < j → j ≤ k → v * 256 + b < 256 ^ (k - (j - 1))
read_grows v b k j h a p q =
    let n : k - (j - 1) ≡ suc (k - j) = omega arith in
    rw (n, pow-suc 256 (k - j)) (omega arith)
