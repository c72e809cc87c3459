-- The six radices, each above 1 and at most 32. Assumes nothing.
use Prim.Native.Nat.{ℕ, ◌≤◌, ◌<◌}
use mathlib.Core.Path.{◌≡◌, refl}
use mathlib.Core.Bool.{Bool, true, false, ◌||◌}
use mathlib.Core.Logic.{◌⊎◌, inl, inr, ⊎_elim}
use native.Mathlib.Omega.{arith}
use borrow.Author.Tests.{ne_eqb, eqb-true}
use lib.Dec.{eqb}
use Rattle.lexical_util.specs.Digit.{is_radix}

abbrev pub Six : ℕ → Type 0
Six r = (r ≡ 2) ⊎ ((r ≡ 4) ⊎ ((r ≡ 8) ⊎ ((r ≡ 10) ⊎ ((r ≡ 16) ⊎ (r ≡ 32)))))

pub radix_yes : (r : ℕ) → Six r → is_radix r ≡ true
unfolding is_radix
radix_yes r (inl e) = rw e
radix_yes r (inr (inl e)) = rw e
radix_yes r (inr (inr (inl e))) = rw e
radix_yes r (inr (inr (inr (inl e)))) = rw e
radix_yes r (inr (inr (inr (inr (inl e))))) = rw e
radix_yes r (inr (inr (inr (inr (inr e))))) = rw e

pub radix_no : (r : ℕ) → (Six r → ⊥) → is_radix r ≡ false
unfolding is_radix
radix_no r none =
    rw (
      ne_eqb r 2 (λ e. none (inl e)),
      ne_eqb r 4 (λ e. none (inr (inl e))),
      ne_eqb r 8 (λ e. none (inr (inr (inl e)))),
      ne_eqb r 10 (λ e. none (inr (inr (inr (inl e))))),
      ne_eqb r 16 (λ e. none (inr (inr (inr (inr (inl e)))))),
      ne_eqb r 32 (λ e. none (inr (inr (inr (inr (inr e)))))),
    )

one_of : (r k : ℕ) (rest : Bool) → (eqb r k || rest) ≡ true → (r ≡ k) ⊎ (rest ≡ true)
one_of r k rest = go (eqb r k) refl
  where
    go : (b : Bool) → eqb r k ≡ b → (b || rest) ≡ true → (r ≡ k) ⊎ (rest ≡ true)
    go true e h = inl (eqb-true r k e)
    go false e h = inr h

pub radix_six : (r : ℕ) → is_radix r ≡ true → Six r
unfolding is_radix
radix_six r h =
    ⊎_elim inl (λ h4. inr (
    ⊎_elim inl (λ h8. inr (
    ⊎_elim inl (λ h10. inr (
    ⊎_elim inl (λ h16. inr (
    ⊎_elim inl (λ h32. inr (eqb-true r 32 h32))
    (one_of r 16 _ h16))) (one_of r 10 _ h10))) (one_of r 8 _ h8))) (one_of r 4 _ h4))) (one_of r 2 _ h)

pub radix_bounds : (r : ℕ) → is_radix r ≡ true → (1 < r) × (r ≤ 32)
radix_bounds r h = go (radix_six r h)
  where
    go : Six r → (1 < r) × (r ≤ 32)
    go (inl e) = omega arith
    go (inr (inl e)) = omega arith
    go (inr (inr (inl e))) = omega arith
    go (inr (inr (inr (inl e)))) = omega arith
    go (inr (inr (inr (inr (inl e))))) = omega arith
    go (inr (inr (inr (inr (inr e))))) = omega arith
