-- The laws of `put` and `Puts`: puts, each where the one before it ended, are one put of the texts joined. Assumes nothing.
use Prim.Native.Nat.{ℕ, suc, ◌+◌, ◌-◌, ◌≤◌, ◌<◌, zero-le}
use mathlib.Core.Path.{◌≡◌, refl, sym, ap, ◌∙◌}
use mathlib.Core.Bool.{Bool, true, false, cond}
use mathlib.Core.List.{List, [], ◌∷◌, ◌++◌, append_assoc, append-nil}
use native.Mathlib.Nat.{add-zero, zero-add, add_assoc, add-suc, add-sub_of_le}
use native.Mathlib.Numerals.{add-one}
use native.Mathlib.Omega.{arith}
use borrow.Author.Tests.{le-leb, lt-leb, leb-true}
use borrow.Author.Rules.{part_to_end}
use lib.Dec.{leb}
use lib.ListN.{length, take, drop, set, get_or, length-append, length-drop, take-append-drop}
use lib.Seq.{set_split, drop-cons, set_at, length-take-le, take_at, drop-append-add, drop-drop, drop-length, take_all}
use Rattle.lexical_util.specs.Answer.{Answer, done, refused, written, held}
use Rattle.lexical_util.proofs.AnswerLaws.{refused_done, done_same, text_short}
use Rattle.lexical_buffer.specs.Put.{place_behind, next_place, held_from, put, Puts}

-- nothing put
pub put_nil : (d : List ℕ) (at : ℕ) → put d at [] ≡ d
unfolding put
put_nil d at = rw add-zero (take-append-drop at d)

pub puts_none : (d : List ℕ) (at : ℕ) → Puts d at [] at d
puts_none d at = record { next_is = sym (add-zero at); out_is = sym (put_nil d at) }

-- one store
pub put_one : (d : List ℕ) (at b : ℕ) → at < length d → set d at b ≡ put d at (b ∷ [])
unfolding put
put_one d at b h = set_split d at b h ∙ rw add-one

-- one store after a put
put_snoc : (d : List ℕ) (at : ℕ) (t : List ℕ) (b : ℕ) → at + length t < length d → set (put d at t) (at + length t) b ≡ put d at (t ++ (b ∷ []))
unfolding put
put_snoc d at t b h =
    let p : List ℕ = take at d ++ t in
    let n = at + length t in
    let e : length p ≡ n = length-append (take at d) t ∙ ap (λ (k : ℕ). k + length t) (length-take-le at d (omega arith)) in
    ap (λ (l : List ℕ). set l n b) (sym (append_assoc (take at d) t (drop n d)) ∙ ap (λ (l : List ℕ). p ++ l) (drop-cons d n 0 h))
    ∙ set_at p (get_or d n 0) (drop (suc n) d) b n e
    ∙ simp (append_assoc, length-append, add-one, add-suc)

-- a turn of a loop that puts one byte more
pub put_next : (d out : List ℕ) (at : ℕ) (t u : List ℕ) (b j : ℕ) → out ≡ put d at t → length t ≡ j → at + j < length d → t ++ (b ∷ []) ≡ u
    → set out (at + j) b ≡ put d at u
put_next d out at t u b j o e h w = rw (o, ← w, ← e) (put_snoc d at t b (rw e h))

-- two puts, the second where the first ended
put_put : (d : List ℕ) (at : ℕ) (t u : List ℕ) → at ≤ length d → put (put d at t) (at + length t) u ≡ put d at (t ++ u)
unfolding put
put_put d at t u h =
    let n = at + length t in
    let p : List ℕ = take at d ++ t in
    let e : length p ≡ n = length-append (take at d) t ∙ ap (λ (k : ℕ). k + length t) (length-take-le at d h) in
    rw (← append_assoc (take at d) t (drop n d), take_at p (drop n d) n e, ← e, drop-append-add p (drop (length p) d) (length u), drop-drop, e, append_assoc, length-append, add_assoc, append_assoc)

pub puts_more : {d o : List ℕ} {at r : ℕ} {t : List ℕ} (u o' : List ℕ) (r' : ℕ) → at ≤ length d → Puts d at t r o → Puts o r u r' o' → Puts d at (t ++ u) r' o'
puts_more {d} {o} {at} {r} {t} u o' r' h p q =
    record {
      next_is = q.next_is ∙ ap (λ (k : ℕ). k + length u) p.next_is ∙ add_assoc at (length t) (length u) ∙ ap (λ (k : ℕ). at + k) (sym (length-append t u));
      out_is = q.out_is ∙ rw (p.out_is, p.next_is) (put_put d at t u h);
    }

-- what a callee that was lent the part from a place on left there, said of the whole
pub part_put : (d t l : List ℕ) (at n : ℕ) → at ≤ length d → n ≡ length t → l ≡ t ++ drop n (take (length d - at) (drop at d))
    → take at d ++ (l ++ drop (length d - at) (drop at d)) ≡ put d at t
unfolding put
part_put d t l at n h e w =
    rw (w, e, part_to_end d at, drop-drop (length t) at d, drop-drop (length d - at) at d, add-sub_of_le h, drop-length, append-nil)

-- a part from a place on that a loop went over, and that reads t then
pub mid_put : (d l t : List ℕ) (at k n : ℕ) → take n l ≡ t → length l ≤ n → k ≡ length t → take at d ++ (l ++ drop k (drop at d)) ≡ put d at t
unfolding put
mid_put d l t at k n w h e = rw (sym (take_all n l h) ∙ w, e, drop-drop (length t) at d) refl

-- a text put at the front
pub put_front : (d t : List ℕ) → put d 0 t ≡ t ++ drop (length t) d
unfolding put
put_front d t = rw zero-add refl

-- ---- a call that was lent the part from a place on, and enough of it for its text
room : (t d : List ℕ) → length t ≤ length d → leb (length t) (length d) ≡ true
room t d h = le-leb (length t) (length d) h

module _ (a : Answer (List ℕ)) (t d : List ℕ) (at : ℕ) (e : a ≡ done t) (h : at + length t ≤ length d) where
  abbrev part : List ℕ
  part = take (length d - at) (drop at d)

  enough : length t ≤ length part
  enough = let z : length part ≡ length d - at = length-take-le (length d - at) (drop at d) (simp length-drop (omega arith)) in omega (arith, h)

  pub part_count : (n : ℕ) → done n ≡ written a part → n ≡ length t
  part_count n w = done_same n (length t) (w ∙ rw (e, room t part enough) refl)

  pub part_puts : (l : List ℕ) (n : ℕ) → done n ≡ written a part → l ≡ held a part → Puts d at t (at + n) (take at d ++ (l ++ drop (length d - at) (drop at d)))
  part_puts l n w k =
      let q = part_count n w in
      record { next_is = ap (λ (i : ℕ). at + i) q; out_is = part_put d t l at n (omega (arith, h)) q (k ∙ rw (e, room t part enough, q) refl) }

  -- it is not refused
  pub part_refused : (n p : ℕ) → refused n p ≡ written a part → ⊥
  part_refused n p w = refused_done n p (length t) (w ∙ rw (e, room t part enough) refl)

-- ---- a text put at the front
pub answered : (t d : List ℕ) → length t ≤ length d → done (length t) ≡ written (done t) d
answered t d h = rw (room t d h) refl

pub kept : (t d out : List ℕ) → length t ≤ length d → out ≡ put d 0 t → out ≡ held (done t) d
kept t d out h e = e ∙ put_front d t ∙ rw (room t d h) refl

-- no room
pub short : (t d : List ℕ) → length d < length t → refused 8 0 ≡ written (done t) d
short t d h = rw (lt-leb (length t) (length d) h) refl

pub short_held : (t d : List ℕ) → length d < length t → d ≡ held (done t) d
short_held t d h = rw (lt-leb (length t) (length d) h) refl

-- ---- what a call that puts a text from a place on answers and leaves: where the text has room, it is put
module _ (asked : Answer (List ℕ)) (t d : List ℕ) (at : ℕ) (e : asked ≡ done t) where
  pub put_place : at + length t ≤ length d → next_place at asked d ≡ at + length t
  put_place h = rw (e, room t (drop at d) (simp length-drop (omega arith)))

  pub put_held : at + length t ≤ length d → held_from at asked d ≡ put d at t
  unfolding put
  put_held h = rw (e, room t (drop at d) (simp length-drop (omega arith)), drop-drop (length t) at d)

  pub puts_in : at + length t ≤ length d → (r : ℕ) (o : List ℕ) → r ≡ next_place at asked d → o ≡ held_from at asked d → Puts d at t r o
  puts_in h r o p q = record { next_is = p ∙ put_place h; out_is = q ∙ put_held h }

-- where it has none, all stays
short_done : (t d : List ℕ) (at : ℕ) → length d < at + length t → (next_place at (done t) d ≡ at) × (held_from at (done t) d ≡ d)
short_done [] d at h = rw (le-leb 0 (length (drop at d)) zero-le) (add-zero at, take-append-drop at d)
short_done (x ∷ xs) d at h =
    let s = text_short (x ∷ xs) (drop at d) (length (x ∷ xs)) refl (simp length-drop (omega arith)) in
    (ap (place_behind at) s.0, ap (λ (l : List ℕ). take at d ++ l) s.1 ∙ take-append-drop at d)

pub short_put : (asked : Answer (List ℕ)) (t d : List ℕ) (at : ℕ) → asked ≡ done t → length d < at + length t → (next_place at asked d ≡ at) × (held_from at asked d ≡ d)
short_put asked t d at e h = rw e (short_done t d at h)

-- a text that was written has no more bytes than were lent
written_within : (asked : Answer (List ℕ)) (out : List ℕ) (n : ℕ) → done n ≡ written asked out → n ≤ length out
written_within (done t) out n w = go (leb (length t) (length out)) refl w
  where
    go : (b : Bool) → leb (length t) (length out) ≡ b → done n ≡ cond b (done (length t)) (refused 8 0) → n ≤ length out
    go true e q = omega (arith, done_same n (length t) q, leb-true (length t) (length out) e)
    go false e q = absurd (refused_done 8 0 n (sym q))
written_within (refused m p) out n w = absurd (refused_done m p n (sym w))

-- a call that was lent the part from the place on
module _ (asked : Answer (List ℕ)) (d : List ℕ) (at : ℕ) where
  pub part_answered : (n : ℕ) → done n ≡ written asked (take (length d - at) (drop at d)) → at + n ≡ next_place at asked d
  part_answered n w = ap (place_behind at) (w ∙ ap (written asked) (part_to_end d at))

  -- whose text lies within it
  pub part_within : (n : ℕ) → at ≤ length d → done n ≡ written asked (take (length d - at) (drop at d)) → at + n ≤ length d
  part_within n h w = let k = written_within asked (take (length d - at) (drop at d)) n w in omega (arith, k, length-take-le (length d - at) (drop at d) (simp length-drop (omega arith)))

  pub part_stays : (n p : ℕ) → refused n p ≡ written asked (take (length d - at) (drop at d)) → at ≡ next_place at asked d
  part_stays n p w = ap (place_behind at) (w ∙ ap (written asked) (part_to_end d at))

  pub part_held : (l : List ℕ) → at ≤ length d → l ≡ held asked (take (length d - at) (drop at d))
      → take at d ++ (l ++ drop (length d - at) (drop at d)) ≡ held_from at asked d
  part_held l h k = rw (k, part_to_end d at, drop-drop (length d - at) at d, add-sub_of_le h, drop-length, append-nil)

-- what `put_byte` and `put_bytes` do where there is room
pub text_puts : (d : List ℕ) (at : ℕ) (t : List ℕ) (r : ℕ) (o : List ℕ) → at + length t ≤ length d → (r ≡ next_place at (done t) d) × (o ≡ held_from at (done t) d) → Puts d at t r o
text_puts d at t r o h e = puts_in (done t) t d at refl h r o e.0 e.1
