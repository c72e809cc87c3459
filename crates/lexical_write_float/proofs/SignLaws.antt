-- A text behind its sign: the text is written into the part of the buffer behind n bytes, and the sign s, which has so many, in front of it once there is room for both. Assumes nothing.
use Prim.Native.Nat.{ℕ, ◌+◌, ◌-◌, ◌≤◌, ◌<◌}
use mathlib.Core.Path.{◌≡◌, refl, sym, ap, ◌∙◌}
use mathlib.Core.Bool.{Bool, true, false}
use mathlib.Core.List.{List, ◌++◌, append_assoc}
use native.Mathlib.Omega.{arith}
use lib.ListN.{length, take, drop, set, length-append, length-drop, take-append-drop}
use lib.Seq.{length-take-le, drop_at, set_split}
use Rattle.lexical_util.specs.Answer.{done, refused, written, held}
use Rattle.lexical_float.specs.Sign.{minus_sign}
use Rattle.lexical_buffer.specs.Put.{put}
use Rattle.lexical_buffer.proofs.PutLaws.{part_put, short, short_held}
use Rattle.lexical_util.proofs.AnswerLaws.{text_fits}

-- ---- the sign alone: a first byte, or none
pub minus_put : (negative : Bool) (d : List ℕ) → negative ≡ true → length (minus_sign negative) ≤ length d → (0 < length d) × (set d 0 45 ≡ minus_sign negative ++ drop (length (minus_sign negative)) d)
minus_put true d e h = (h, set_split d 0 45 h)
minus_put false d e h = absurd (let z : ◌≡◌ {A = ℕ} 0 1 = cc in omega arith)

pub minus_none : (negative : Bool) (d : List ℕ) → negative ≡ false → d ≡ minus_sign negative ++ drop (length (minus_sign negative)) d
minus_none true d e = absurd (let z : ◌≡◌ {A = ℕ} 0 1 = cc in omega arith)
minus_none false d e = refl

-- ---- the sign and the text
module _ (s t d : List ℕ) (n : ℕ) (n-is : n ≡ length s) where
  -- the part behind the sign, and the whole once that part holds l
  abbrev part : List ℕ
  part = take (length d - n) (drop n d)

  abbrev whole : List ℕ → List ℕ
  whole l = take n d ++ (l ++ drop (length d - n) (drop n d))

  part_length : n ≤ length d → length part ≡ length d - n
  part_length h = length-take-le (length d - n) (drop n d) (simp length-drop (omega arith))

  pub whole_length : n ≤ length d → length t ≤ length d - n → (l : List ℕ) → l ≡ held (done t) part → length (whole l) ≡ length d
  whole_length h room l e =
      let fits = text_fits t part (length t) refl (omega (arith, room, part_length h)) in
      let k : length l ≡ length t + (length part - length t) = ap length (e ∙ fits.1) ∙ length-append t (drop (length t) part) ∙ ap (λ (j : ℕ). length t + j) (length-drop (length t) part) in
      rw (length-append (take n d) (l ++ drop (length d - n) (drop n d)), length-append l (drop (length d - n) (drop n d)), length-drop (length d - n) (drop n d), length-drop n d, length-take-le n d h)
      (omega (arith, h, room, k, part_length h))

  -- no room for both
  pub none_written : length d < n + length t → (refused 8 0 ≡ written (done (s ++ t)) d) × (d ≡ held (done (s ++ t)) d)
  none_written h =
      let w : length d < length (s ++ t) = omega (arith, h, n-is, length-append s t) in
      (short (s ++ t) d w, short_held (s ++ t) d w)

  pub none_left : n ≤ length d → length d - n < length t → (l : List ℕ) → l ≡ held (done t) part → whole l ≡ held (done (s ++ t)) d
  none_left h k l e =
      let as_it_was : l ≡ part = e ∙ sym (short_held t part (omega (arith, k, part_length h))) in
      ap whole as_it_was ∙ ap (λ (r : List ℕ). take n d ++ r) (take-append-drop (length d - n) (drop n d)) ∙ take-append-drop n d ∙ (none_written (omega (arith, h, k))).1

  -- room for both
  pub both_written : n ≤ length d → length t ≤ length d - n → (l out : List ℕ) → l ≡ held (done t) part → out ≡ s ++ drop (length s) (whole l)
      → (done (n + length t) ≡ written (done (s ++ t)) d) × (out ≡ held (done (s ++ t)) d)
  unfolding put
  both_written h k l out e o =
      let fits = text_fits t part (length t) refl (omega (arith, k, part_length h)) in
      let mid : whole l ≡ put d n t = part_put d t l n (length t) h refl (e ∙ fits.1) in
      let whole-fits = text_fits (s ++ t) d (n + length t) (omega (arith, n-is, length-append s t)) (omega (arith, h, k)) in
      (sym whole-fits.0, o ∙ ap (λ (r : List ℕ). s ++ drop (length s) r) mid ∙ behind ∙ sym whole-fits.1)
    where
      behind : s ++ drop (length s) (put d n t) ≡ (s ++ t) ++ drop (n + length t) d
      behind =
          ap (λ (r : List ℕ). s ++ r) (drop_at (take n d) (t ++ drop (n + length t) d) (length s) (length-take-le n d h ∙ n-is))
          ∙ sym (append_assoc s t (drop (n + length t) d))
