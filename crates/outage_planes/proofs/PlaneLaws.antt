-- The planes of a column: something of one more of them, and what was put at a plane's front. Assumes nothing.
use Prim.Native.Nat.{ℕ, zero, suc, ◌+◌, ◌*◌, ◌≤◌, ◌<◌}
use mathlib.Core.Path.{◌≡◌, refl, sym, ap, ◌∙◌}
use mathlib.Core.List.{List, [], ◌∷◌, ◌++◌, append_assoc, append-nil}
use native.Mathlib.Nat.{add-zero, zero-add, mul-suc, not-suc-le-zero, le_of_suc-le-suc, le_refl, mul-le-mul_left}
use native.Mathlib.Numerals.{add-one}
use native.Mathlib.Omega.{arith}
use lib.ListN.{length, take, drop, get_or, set, length-set, length-drop, get_or-append}
use lib.Seq.{length-take-le, take_at, take_all, take-set-le, get_or-take, get_or-drop, get_or-set_same}
use Rattle.lexical_buffer.specs.Put.{put}
use Rattle.lexical_buffer.proofs.PutLaws.{put_front}
use Rattle.outage_planes_spec.specs.Planes.{byte_of_each, bytes_of_each, floats_of}
use Rattle.outage_planes.specs.Code.{of_each, byte_across, bytes_across}

-- a text put at the front is what stands there
pub front_is : (d t : List ℕ) (n : ℕ) → length t ≡ n → take n (put d 0 t) ≡ t
front_is d t n e = rw (put_front d t) (take_at t (drop (length t) d) n e)

-- and so is each byte of it: byte i of n that were taken from a place on
pub front_byte : (d l : List ℕ) (n from i : ℕ) → from + n ≤ length l → i < n → get_or (put d 0 (take n (drop from l))) i 0 ≡ get_or l (from + i) 0
front_byte d l n from i h q =
    let t = take n (drop from l) in
    let e : length t ≡ n = length-take-le n (drop from l) (simp length-drop (omega arith)) in
    rw (put_front d t) (get_or-append t (drop (length t) d) 0 i (omega arith)) ∙ get_or-take n (drop from l) i 0 q ∙ get_or-drop from l i 0

-- n bytes more, behind fewer than eight times n
pub eighth : (n j : ℕ) → j < 8 → n * j + n ≤ 8 * n
eighth n j h = omega (arith, mul-suc n j, mul-le-mul_left n h)

module _ (part : List ℕ → List ℕ) where
  pub each_none : of_each part [] ≡ []
  unfolding of_each
  each_none = refl

  -- one plane more
  more : (ps : List (List ℕ)) (j : ℕ) → j < length ps → of_each part (take j ps) ++ part (get_or ps j []) ≡ of_each part (take (suc j) ps)
  unfolding of_each
  more [] j h = absurd (not-suc-le-zero h)
  more (p ∷ ps) zero h = sym (append-nil (part p))
  more (p ∷ ps) (suc j) h = append_assoc (part p) (of_each part (take j ps)) (part (get_or ps j [])) ∙ ap (λ (r : List ℕ). part p ++ r) (more ps j (le_of_suc-le-suc h))

  pub each_more : (ps : List (List ℕ)) (j : ℕ) → j < length ps → of_each part (take j ps) ++ part (get_or ps j []) ≡ of_each part (take (j + 1) ps)
  each_more ps j h = more ps j h ∙ ap (λ (k : ℕ). of_each part (take k ps)) (sym (add-one j))

  -- where it was stored
  pub each_set : (ps : List (List ℕ)) (j : ℕ) (p : List ℕ) → j < length ps → of_each part (take j ps) ++ part p ≡ of_each part (take (j + 1) (set ps j p))
  each_set ps j p h =
      let m = each_more (set ps j p) j (simp length-set h) in
      rw (take-set-le j ps j p (le_refl j), get_or-set_same ps j p [] h) at m

  -- all of them
  pub each_all : (ps : List (List ℕ)) (j k : ℕ) → length ps ≡ k → j ≡ k → of_each part (take j ps) ≡ of_each part ps
  each_all ps j k e f = ap (of_each part) (take_all j ps (omega arith))

-- a byte of each of k planes is k bytes
pub across_length : (i : ℕ) (ps : List (List ℕ)) → length (of_each (λ p. get_or p i 0 ∷ []) ps) ≡ length ps
unfolding of_each
across_length i [] = refl
across_length i (p ∷ ps) = ap suc (across_length i ps)

-- one byte of each more
pub across_none : (i : ℕ) (ps : List (List ℕ)) → bytes_across i 0 ps ≡ []
unfolding bytes_across
across_none i ps = refl

across_next : (i k : ℕ) (ps : List (List ℕ)) → bytes_across i k ps ++ byte_across (i + k) ps ≡ bytes_across i (suc k) ps
unfolding bytes_across
across_next i zero ps = rw (add-zero i, append-nil (byte_across i ps))
across_next i (suc k) ps =
    let z : i + suc k ≡ i + 1 + k = omega arith in
    append_assoc (byte_across i ps) (bytes_across (i + 1) k ps) (byte_across (i + suc k) ps) ∙ rw (z, across_next (i + 1) k ps) refl

pub across_more : (k : ℕ) (ps : List (List ℕ)) → bytes_across 0 k ps ++ byte_across k ps ≡ bytes_across 0 (k + 1) ps
across_more k ps = rw (zero-add k, ← add-one k) at (across_next 0 k ps)

-- where byte i of each plane is what a float is made of, these are the floats
floats_from : (n m i at : ℕ) (l : List ℕ) (ps : List (List ℕ)) → i + m ≤ n → ((k : ℕ) → k < n → byte_across k ps ≡ byte_of_each n 8 (at + k) l) → bytes_across i m ps ≡ bytes_of_each n 8 m (at + i) l
unfolding bytes_across bytes_of_each
floats_from n zero i at l ps h same = refl
floats_from n (suc m) i at l ps h same =
    let z : at + (i + 1) ≡ at + i + 1 = omega arith in
    rw (same i (omega arith), floats_from n m (i + 1) at l ps (omega arith) same, z) refl

pub floats_are : (n at : ℕ) (l : List ℕ) (ps : List (List ℕ)) → ((k : ℕ) → k < n → byte_across k ps ≡ byte_of_each n 8 (at + k) l) → bytes_across 0 n ps ≡ floats_of n at l
floats_are n at l ps same = rw add-zero at (floats_from n n 0 at l ps (omega arith) same)
