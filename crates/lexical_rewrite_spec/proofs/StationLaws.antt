-- One station: a float that was read has a text in every admitted format, which is read back as that float and denotes its value exactly; a buffer of `longest_text` bytes takes it.
-- And a station that writes into bytes with room hands on the text, whatever they held. Assumes nothing.
use Prim.Native.Nat.{ℕ, ◌≤◌}
use mathlib.Core.Path.{◌≡◌, refl, sym, ap, ◌∙◌}
use mathlib.Core.Bool.{Bool, true, false, cond}
use mathlib.Core.List.{List, ◌++◌}
use native.Mathlib.Nat.{le_trans}
use native.Mathlib.Omega.{arith}
use borrow.Author.Tests.{le-leb, leb-true}
use lib.Dec.{T, leb}
use lib.ListN.{length, take, drop}
use lib.Seq.{take-append_seam}
use lib.Ieee.{Float, Format, fits}
use lib.Ieee.Positive.{num, den}
use Rattle.lexical_util.specs.Answer.{Answer, done, refused, written, held}
use Rattle.lexical_util.proofs.AnswerLaws.{text_fits}
use Rattle.lexical_float.proofs.FloatLaws.{own_fraction}
use Rattle.lexical_write_float_spec.specs.Write.{longest_text}
use Rattle.lexical_write_float_spec.proofs.WriteLaws.{finite_text, longest_text_lem}
use Rattle.lexical_read_float_spec.proofs.ReadLaws.{read_is_nearest}
use Rattle.lexical_rewrite_spec.specs.declared.text_format.TextFormat.{TextFormat}
use Rattle.lexical_rewrite_spec.specs.Claims.{Denotes}
use Rattle.lexical_rewrite_spec.specs.Rewrite.{rewritten, read_in, text_in, by_writing, rewrite_answer, rewrite_bytes}
use Rattle.lexical_rewrite_spec.specs.Chain.{reading_refused_at, writing_refused_at, Outcome, goes_on, onward}
use Rattle.lexical_rewrite_spec.specs.Demand.{IsFloatOf, Admits, Roomy}
use Rattle.lexical_rewrite_spec.proofs.WrittenLaws.{written_is_exact, written_is_read_back}

-- ---- the text of a float that was read
pub record Has (f : Format) (G : TextFormat) (x : Float) : Type 0 where
  pub text : List ℕ
  pub is_text : text_in G x ≡ done text
  pub short : length text ≤ longest_text
  pub back : read_in f G text ≡ done x
  pub exact : Denotes G.format G.options text x

pub has_text : (f : Format) (F : TextFormat) (t : List ℕ) (G : TextFormat) (x : Float) → IsFloatOf f F t x → Admits G → Has f G x
has_text f F t G x read A =
    let near = (read_is_nearest f F.format F.options t x read).nearest in
    let found = finite_text G.format G.options A.row x A.passes (own_fraction x _ (num x) (den x) near.signed).is_finite in
    record {
      text = found.0;
      is_text = found.1;
      short = longest_text_lem f G.format G.options x found.0 near.held found.1;
      back = written_is_read_back f G.format G.options x found.0 near.held A.no_limit found.1;
      exact = written_is_exact G.format G.options x found.0 A.no_limit found.1;
    }

-- ---- a station with room
module _ (f : Format) (F : TextFormat) (t : List ℕ) (G : TextFormat) (out : List ℕ) (x : Float) (read : IsFloatOf f F t x) (h : Has f G x) (room : Roomy out) where
  fits_in : (written (done h.text) out ≡ done (length h.text)) × (held (done h.text) out ≡ h.text ++ drop (length h.text) out)
  fits_in = text_fits h.text out (length h.text) refl (le_trans h.short room)

  pub station_answer : rewrite_answer G out (read_in f F t) ≡ rewritten (length h.text)
  station_answer =
      ap (rewrite_answer G out) read
      ∙ ap (λ (a : Answer (List ℕ)). by_writing (written a out)) h.is_text
      ∙ ap by_writing fits_in.0

  pub station_bytes : rewrite_bytes G out (read_in f F t) ≡ h.text ++ drop (length h.text) out
  station_bytes = ap (rewrite_bytes G out) read ∙ ap (λ (a : Answer (List ℕ)). held a out) h.is_text ∙ fits_in.1

  pub station_hands : take (length h.text) (rewrite_bytes G out (read_in f F t)) ≡ h.text
  station_hands = ap (take (length h.text)) station_bytes ∙ take-append_seam h.text (drop (length h.text) out)

-- ---- a station before the last, which writes into bytes with room for every text: whatever they held, its text is handed on
module _ (f : Format) (i : ℕ) (F : TextFormat) (t : List ℕ) (G : TextFormat) (out scratch : List ℕ) (room : Roomy scratch) (next : List ℕ → Outcome) where
  pub station_goes_on : goes_on (reading_refused_at i) out (read_in f F t) (λ x. goes_on (writing_refused_at i) out (text_in G x) next)
      ≡ onward i out (rewrite_answer G scratch (read_in f F t)) (λ n. next (take n (rewrite_bytes G scratch (read_in f F t))))
  station_goes_on = go (read_in f F t) refl
    where
      text : (x : Float) → T (fits f x) → (a : Answer (List ℕ)) → text_in G x ≡ a
          → goes_on (writing_refused_at i) out a next ≡ onward i out (by_writing (written a scratch)) (λ n. next (take n (held a scratch)))
      text x h (refused n p) e = refl
      text x h (done s) e =
          rw (le-leb (length s) (length scratch) (le_trans (longest_text_lem f G.format G.options x s h e) room))
          (ap next (sym (take-append_seam s (drop (length s) scratch))))

      go : (a : Answer Float) → read_in f F t ≡ a
          → goes_on (reading_refused_at i) out a (λ x. goes_on (writing_refused_at i) out (text_in G x) next) ≡ onward i out (rewrite_answer G scratch a) (λ n. next (take n (rewrite_bytes G scratch a)))
      go (refused n p) e = refl
      go (done x) e = text x (read_is_nearest f F.format F.options t x e).nearest.held (text_in G x) refl

-- ---- what was rewritten has room
pub rewritten_fits : (G : TextFormat) (out : List ℕ) (a : Answer Float) (n : ℕ) → rewrite_answer G out a ≡ rewritten n → n ≤ length out
rewritten_fits G out (refused m p) n e = absurd (let z : ◌≡◌ {A = ℕ} 0 1 = cc in omega arith)
rewritten_fits G out (done x) n e = go (text_in G x) e
  where
    fit : (t : List ℕ) (b : Bool) → leb (length t) (length out) ≡ b → by_writing (cond b (done (length t)) (refused 8 0)) ≡ rewritten n → n ≤ length out
    fit t true p e = let same : length t ≡ n = cc in omega (arith, leb-true (length t) (length out) p)
    fit t false p e = absurd (let z : ◌≡◌ {A = ℕ} 0 1 = cc in omega arith)

    go : (t : Answer (List ℕ)) → by_writing (written t out) ≡ rewritten n → n ≤ length out
    go (refused m p) e = absurd (let z : ◌≡◌ {A = ℕ} 0 1 = cc in omega arith)
    go (done t) e = fit t (leb (length t) (length out)) refl e
