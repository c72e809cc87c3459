-- Filling from the front: which digits come next, and how the bytes so far grow, step by step. Assumes nothing.
use Prim.Native.Nat.{ℕ, ◌+◌, ◌-◌, ◌/◌, ◌^◌, ◌≤◌}
use mathlib.Core.Path.{◌≡◌, refl, sym, ap, ◌∙◌}
use mathlib.Core.List.{List, ◌++◌, append_assoc}
use native.Mathlib.Omega.{arith}
use lib.ListN.{length, take, drop}
use lib.Seq.{take_at, drop_at, take-add, take-length, drop-drop, length-take-le}
use Rattle.lexical_write_integer_spec.specs.Write.{last_numeral}
use Rattle.lexical_write_integer_spec.specs.Front.{begun, Grows}
use Rattle.lexical_write_integer_spec.proofs.LastLaws.{length_last, last_add}

-- of n digits the m behind the first k are the last of the number without those behind them
pub next_digits : (r n k m x : ℕ) → k + m ≤ n → take m (drop k (last_numeral r n x)) ≡ last_numeral r m (x / r ^ (n - k - m))
next_digits r n k m x h =
    let p = n - k - m in
    let e : n ≡ k + (m + p) = omega arith in
    ap (λ (j : ℕ). take m (drop k (last_numeral r j x))) e
    ∙ ap (λ (l : List ℕ). take m (drop k l)) (last_add r k (m + p) x)
    ∙ ap (take m) (drop_at (last_numeral r k (x / r ^ (m + p))) (last_numeral r (m + p) x) k (length_last r k (x / r ^ (m + p))) ∙ last_add r m p x)
    ∙ take_at (last_numeral r m (x / r ^ p)) (last_numeral r p x) m (length_last r m (x / r ^ p))

-- ---- the bytes so far
pub grows_none : (t : List ℕ) (k : ℕ) (o : List ℕ) → Grows t k k o o
grows_none t k o = record { stand = λ lent h. h }

pub grows_more : {t : List ℕ} {i j k : ℕ} {o o' o'' : List ℕ} → Grows t i j o o' → Grows t j k o' o'' → Grows t i k o o''
grows_more p q = record { stand = λ lent h. q.stand lent (p.stand lent h) }

-- a step's bytes, put behind those so far
pub grows_step : (t o o' : List ℕ) (k m : ℕ) → k ≤ length t → o' ≡ take k o ++ (take m (drop k t) ++ drop m (drop k o)) → Grows t k (k + m) o o'
unfolding begun
grows_step t o o' k m h e = record { stand = grown }
  where
    n : length (take k t) ≡ k
    n = length-take-le k t h

    grown : (lent : List ℕ) → o ≡ begun t k lent → o' ≡ begun t (k + m) lent
    grown lent w =
        let front : take k o ≡ take k t = rw w (take_at (take k t) (drop k lent) k n) in
        let back : drop m (drop k o) ≡ drop (k + m) lent = rw (w, drop_at (take k t) (drop k lent) k n) (drop-drop m k lent) in
        e ∙ rw (front, back, take-add k m t) (sym (append_assoc (take k t) (take m (drop k t)) (drop (k + m) lent)))

-- none of it
pub begun_none : (t lent : List ℕ) → lent ≡ begun t 0 lent
unfolding begun
begun_none t lent = refl

-- from nothing on: so many bytes of the text, and the rest is as lent
pub grows_all : (t o o' : List ℕ) (n : ℕ) → Grows t 0 n o o' → o' ≡ begun t n o
grows_all t o o' n w = w.stand o (begun_none t o)

-- a whole text
pub begun_whole : (t lent : List ℕ) (n : ℕ) → length t ≡ n → begun t n lent ≡ t ++ drop n lent
unfolding begun
begun_whole t lent n e = rw (← e) (ap (λ (l : List ℕ). l ++ drop (length t) lent) (take-length t))
