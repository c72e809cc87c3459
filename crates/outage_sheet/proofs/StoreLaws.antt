-- Bytes put at places that do not touch. Assumes nothing.
use Prim.Native.Nat.{ℕ, ◌+◌, ◌≤◌, zero-le}
use mathlib.Core.Path.{◌≡◌, refl, sym, ap, ◌∙◌}
use mathlib.Core.List.{List, ◌++◌, append_assoc}
use native.Mathlib.Nat.{zero-add}
use native.Mathlib.Omega.{arith}
use lib.ListN.{length, take, drop, length-append, length-drop, take-append-drop}
use lib.Seq.{length-take-le, take-append-le, drop-append-le, take-append_seam, drop-append-add}
use Rattle.lexical_buffer.specs.Put.{put}
use Rattle.lexical_buffer.proofs.PutLaws.{puts_more}

-- two puts, the second where the first ended
pub put_more : (d : List ℕ) (at : ℕ) (t u : List ℕ) → at ≤ length d → put (put d at t) (at + length t) u ≡ put d at (t ++ u)
put_more d at t u h =
    (puts_more {d = d} {o = put d at t} {at = at} {r = at + length t} {t = t} u (put (put d at t) (at + length t) u) (at + length t + length u) h
    (record { next_is = refl; out_is = refl })
    (record { next_is = refl; out_is = refl })).out_is

-- where the first stands at the front and is k bytes long
pub put_behind : (d t u : List ℕ) (k : ℕ) → length t ≡ k → put (put d 0 t) k u ≡ put d 0 (t ++ u)
put_behind d t u k e = rw (← e, ← zero-add (length t)) (put_more d 0 t u zero-le)

pub put_length : (d : List ℕ) (at : ℕ) (t : List ℕ) → at + length t ≤ length d → length (put d at t) ≡ length d
unfolding put
put_length d at t h = simp (length-append, length-drop, length-take-le at d (omega arith)) (omega arith)

put_left : (p q : List ℕ) (at : ℕ) (t : List ℕ) → at + length t ≤ length p → put (p ++ q) at t ≡ put p at t ++ q
unfolding put
put_left p q at t h = rw (take-append-le at p q (omega arith), drop-append-le (at + length t) p q h, append_assoc, append_assoc)

put_right : (p q : List ℕ) (at : ℕ) (t : List ℕ) → length p ≡ at → put (p ++ q) at t ≡ p ++ put q 0 t
unfolding put
put_right p q at t e = rw (← e, take-append_seam p q, drop-append-add p q (length t), zero-add)

-- a put before b, and one from b on
pub put_swap : (d : List ℕ) (a : ℕ) (s : List ℕ) (b : ℕ) (t : List ℕ) → a + length s ≤ b → b ≤ length d → put (put d b t) a s ≡ put (put d a s) b t
put_swap d a s b t h k =
    let p = take b d in
    let q = drop b d in
    let e : length p ≡ b = length-take-le b d k in
    let w : a + length s ≤ length p = omega arith in
    rw (← take-append-drop b d) (ap (λ (l : List ℕ). put l a s) (put_right p q b t e) ∙ put_left p (put q 0 t) a s w
    ∙ sym (ap (λ (l : List ℕ). put l b t) (put_left p q a s w) ∙ put_right (put p a s) q b t (put_length p a s w ∙ e)))
