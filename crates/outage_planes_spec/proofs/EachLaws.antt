-- A byte of each group, and more of them: how many, one more, each by its place; and that bytes taken the other way are the list itself. Assumes nothing.
use Prim.Native.Nat.{ℕ, zero, suc, ◌+◌, ◌*◌, ◌≤◌, ◌<◌}
use mathlib.Core.Path.{◌≡◌, refl, sym, ap, ◌∙◌}
use mathlib.Core.List.{List, [], ◌∷◌, ◌++◌, append_assoc, append-nil}
use native.Mathlib.Nat.{add-zero, mul-zero, mul-suc, not-suc-le-zero}
use native.Mathlib.Omega.{arith}
use lib.ListN.{length, take, drop, get_or, length-append, length-drop, get_or-append}
use lib.Seq.{drop-drop, take-add, take-suc, get_or-drop, get_or-append-add}
use Rattle.outage_planes_spec.specs.Planes.{byte_of_each, bytes_of_each}

module _ (w : ℕ) (l : List ℕ) where
  pub byte_length : (k at : ℕ) → length (byte_of_each w k at l) ≡ k
  unfolding byte_of_each
  byte_length zero at = refl
  byte_length (suc k) at = ap suc (byte_length k (at + w))

  pub byte_none : (at : ℕ) → byte_of_each w 0 at l ≡ []
  unfolding byte_of_each
  byte_none at = refl

  -- k groups on from the next one is k + 1 groups on
  on : (at k : ℕ) → at + w + w * k ≡ at + w * suc k
  on at k = omega (arith, mul-suc w k)

  -- one group more
  pub byte_more : (k at : ℕ) → byte_of_each w k at l ++ (get_or l (at + w * k) 0 ∷ []) ≡ byte_of_each w (suc k) at l
  unfolding byte_of_each
  byte_more zero at = let z : at + w * 0 ≡ at = omega (arith, mul-zero w) in rw z
  byte_more (suc k) at = ap (λ (r : List ℕ). get_or l at 0 ∷ r) (ap (λ (i : ℕ). byte_of_each w k (at + w) l ++ (get_or l i 0 ∷ [])) (sym (on at k)) ∙ byte_more k (at + w))

  pub byte_at : (k at i : ℕ) → i < k → get_or (byte_of_each w k at l) i 0 ≡ get_or l (at + w * i) 0
  unfolding byte_of_each
  byte_at zero at i h = absurd (not-suc-le-zero h)
  byte_at (suc k) at zero h = let z : at ≡ at + w * 0 = omega (arith, mul-zero w) in ap (λ (p : ℕ). get_or l p 0) z
  byte_at (suc k) at (suc i) h = byte_at k (at + w) i (omega arith) ∙ ap (λ (p : ℕ). get_or l p 0) (on at i)

  module _ (k : ℕ) where
    pub bytes_length : (m at : ℕ) → length (bytes_of_each w k m at l) ≡ k * m
    unfolding bytes_of_each
    bytes_length zero at = sym (mul-zero k)
    bytes_length (suc m) at = length-append (byte_of_each w k at l) (bytes_of_each w k m (at + 1) l) ∙ omega (arith, byte_length k at, bytes_length m (at + 1), mul-suc k m)

    pub bytes_none : (at : ℕ) → bytes_of_each w k 0 at l ≡ []
    unfolding bytes_of_each
    bytes_none at = refl

    -- one byte of each more
    pub bytes_more : (m at : ℕ) → bytes_of_each w k m at l ++ byte_of_each w k (at + m) l ≡ bytes_of_each w k (suc m) at l
    unfolding bytes_of_each
    bytes_more zero at = rw (add-zero at, append-nil (byte_of_each w k at l))
    bytes_more (suc m) at =
        let z : at + suc m ≡ at + 1 + m = omega arith in
        append_assoc (byte_of_each w k at l) (bytes_of_each w k m (at + 1) l) (byte_of_each w k (at + suc m) l) ∙ rw (z, bytes_more m (at + 1)) refl

    -- byte j of group i
    pub bytes_at : (m at j i : ℕ) → j < m → i < k → get_or (bytes_of_each w k m at l) (k * j + i) 0 ≡ get_or l (at + j + w * i) 0
    unfolding bytes_of_each
    bytes_at zero at j i h q = absurd (not-suc-le-zero h)
    bytes_at (suc m) at zero i h q =
        let z : k * 0 + i ≡ i = omega (arith, mul-zero k) in
        rw (z, add-zero at) (get_or-append (byte_of_each w k at l) (bytes_of_each w k m (at + 1) l) 0 i (omega (arith, byte_length k at)) ∙ byte_at k at i q)
    bytes_at (suc m) at (suc j) i h q =
        let e = byte_length k at in
        let z : k * suc j + i ≡ length (byte_of_each w k at l) + (k * j + i) = omega (arith, mul-suc k j, e) in
        let y : at + 1 + j + w * i ≡ at + suc j + w * i = omega arith in
        ap (λ (p : ℕ). get_or (bytes_of_each w k (suc m) at l) p 0) z
        ∙ get_or-append-add (byte_of_each w k at l) (bytes_of_each w k m (at + 1) l) (k * j + i) 0
        ∙ bytes_at m (at + 1) j i (omega arith) q
        ∙ ap (λ (p : ℕ). get_or l p 0) y

-- ---- the other way: bytes of p, one of each group, that are l's bytes in a row
module _ (p l : List ℕ) where
  byte_row : (w k at base : ℕ) → base + k ≤ length l → ((j : ℕ) → j < k → get_or p (at + w * j) 0 ≡ get_or l (base + j) 0) → byte_of_each w k at p ≡ take k (drop base l)
  unfolding byte_of_each
  byte_row w zero at base h same = refl
  byte_row w (suc k) at base h same =
      sym (byte_more w p k at)
      ∙ rw (byte_row w k at base (omega arith) (λ j q. same j (omega arith)), same k (omega arith), ← get_or-drop base l k 0)
      (sym (take-suc (drop base l) k 0 (simp length-drop (omega arith))))

  pub bytes_row : (w k m at base : ℕ) → base + k * m ≤ length l → ((i j : ℕ) → i < m → j < k → get_or p (at + i + w * j) 0 ≡ get_or l (base + k * i + j) 0)
      → bytes_of_each w k m at p ≡ take (k * m) (drop base l)
  unfolding bytes_of_each
  bytes_row w k zero at base h same = rw (mul-zero k) refl
  bytes_row w k (suc m) at base h same =
      let e = mul-suc k m in
      let z : k * suc m ≡ k * m + k = omega arith in
      sym (bytes_more w p k m at)
      ∙ rw (bytes_row w k m at base (omega arith) (λ i j q r. same i j (omega arith) r), byte_row w k (at + m) (base + k * m) (omega arith) (λ j r. same m j (omega arith) r), z, take-add (k * m) k (drop base l), drop-drop (k * m) base l)
