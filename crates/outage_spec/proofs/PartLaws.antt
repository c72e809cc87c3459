-- Numbers in bytes, read from behind in a list lent as a slice. Assumes nothing.
use Prim.Native.Nat.{ℕ, suc, ◌+◌, ◌-◌, ◌*◌, ◌^◌, ◌≤◌, ◌<◌}
use mathlib.Core.Path.{◌≡◌, ap, ◌∙◌}
use mathlib.Core.List.{List, [], ◌∷◌, ◌++◌, reverse}
use native.Mathlib.Nat.{pow-suc, pow-le-pow_right, lt_of_lt_of_le}
use native.Mathlib.Numerals.{add-one}
use native.Mathlib.Omega.{arith}
use lib.ListN.{length, take, drop, get_or, length-take, length-drop, drop_of_length-le}
use lib.Seq.{drop-cons, take_all, get_or-take}
use Rattle.std.proofs.lemmas.List.{reverse-append, length-reverse, get_or-reverse}
use Rattle.std.proofs.lemmas.Grind.{get_or_default_zero}
use Rattle.outage_spec.specs.Words.{of_bytes, word_at}
use Rattle.outage_spec.proofs.WordLaws.{AreBytes, bytes_lt, all_drop}

-- the bytes from a place up to another, at most eight of them
pub part_word : (s : List ℕ) (at end k : ℕ) → end ≡ at + k → k ≤ 8 → of_bytes (take 8 (take (end - at) (drop at s))) ≡ word_at k s at
part_word s at end k e h =
    let z : end - at ≡ k = omega arith in
    rw z (ap of_bytes (take_all 8 (take k (drop at s)) (simp length-take (omega arith))))

-- ---- read by places, the last byte first: the bytes from the place j on

module _ (l : List ℕ) (j : ℕ) where
  pub part_none : length l ≤ j → 0 ≡ of_bytes (drop j l)
  unfolding of_bytes
  part_none h = rw (drop_of_length-le l {i = j} h)

  pub part_more : 0 < j → j ≤ length l → of_bytes (drop j l) * 256 + get_or l (j - 1) 0 ≡ of_bytes (drop (j - 1) l)
  unfolding of_bytes
  part_more p q =
      let n : suc (j - 1) ≡ j = omega arith in
      let e : of_bytes (drop (j - 1) l) ≡ get_or l (j - 1) 0 + 256 * of_bytes (drop (suc (j - 1)) l) = rw (drop-cons l (j - 1) 0 (omega arith)) in
      omega (arith, ap (λ (i : ℕ). of_bytes (drop i l)) n)

  -- with a byte more it is below 256 ^ 8
  pub part_small : AreBytes l → length l ≤ 8 → 0 < j → of_bytes (drop j l) < 256 ^ 7
  part_small b h p = lt_of_lt_of_le (bytes_lt (drop j l) (all_drop j l b)) (pow-le-pow_right {n = 256} (omega arith) {i = length (drop j l)} {j = 7} (simp length-drop (omega arith)))

-- ---- the loop that reads them, the last one first: one byte more behind those before it

module _ (read : List ℕ) (b : ℕ) where
  pub back_more : of_bytes (reverse read) * 256 + b ≡ of_bytes (reverse (read ++ (b ∷ [])))
  unfolding of_bytes
  back_more = rw (reverse-append read (b ∷ [])) (omega arith)

pub back_grows : (word b k : ℕ) → word < 256 ^ k → b < 256 → word * 256 + b < 256 ^ (k + 1)
back_grows word b k h l = rw (add-one, pow-suc 256 k) (omega arith)

-- with a byte more it is below 256 ^ 8
pub back_small : (word k : ℕ) → word < 256 ^ k → k < 8 → word < 256 ^ 7
back_small word k h l = lt_of_lt_of_le h (pow-le-pow_right {n = 256} (omega arith) {i = k} {j = 7} (omega arith))

-- what is read there, of the first n, is a byte
pub back_byte : (s : List ℕ) (n k b : ℕ) → ((i : ℕ) → get_or s i 0 < 256) → (k < length (reverse (take n s))) × (b ≡ get_or (reverse (take n s)) k b) → b < 256
back_byte s n k b h t =
    let l = take n s in
    let lt : k < length l = rw (length-reverse l) at t.0 in
    let j = length l - 1 - k in
    let e = t.1 ∙ get_or-reverse l k b lt ∙ get_or_default_zero l j b (omega arith) ∙ get_or-take n s j 0 (omega (arith, length-take n s)) in
    rw e (h j)
