-- A chain by the bytes of its records: what one station more makes of it, whose scratch bytes may hold anything. Assumes nothing.
use Rattle.std.specs.Prelude.{Ok, Err}
use Prim.Native.Nat.{ℕ, ◌+◌, ◌≤◌, ◌<◌}
use mathlib.Core.Path.{◌≡◌, sym, ap, ◌∙◌}
use mathlib.Core.List.{List}
use native.Mathlib.Omega.{arith}
use lib.ListN.{length, take, drop, length-drop}
use lib.Ieee.{Format}
use Rattle.lexical_rewrite_spec.specs.declared.text_format.TextFormat.{TextFormat}
use Rattle.lexical_rewrite_spec.specs.Rewrite.{Rewriting, rewritten, reading_refused, writing_refused, read_in, rewrite_answer, rewrite_bytes}
use Rattle.lexical_rewrite_spec.specs.Record.{format_of_record, formats_of, record_size}
use Rattle.lexical_rewrite_spec.specs.Chain.{Chained, arrived, Outcome, at_station, chain_from, onward}
use Rattle.lexical_rewrite_spec.specs.Demand.{Roomy}
use Rattle.lexical_rewrite_spec.proofs.StationLaws.{station_goes_on}
use Rattle.lexical_rewrite_spec.proofs.RecordLaws.{no_records, more_records}
use Rattle.lexical_rewrite.specs.declared.rewrite.RewriteRefusal.{RewriteRefusal}
use Rattle.lexical_rewrite.specs.declared.rewrite.RewriteRefusal.TheVariants.{Reading, Writing}
use Rattle.lexical_rewrite.specs.declared.chain.ChainRefusal.{ChainRefusal}
use Rattle.lexical_rewrite.specs.Answer.{refused_at, of_chained}
use Rattle.lexical_rewrite.specs.Code.{on_from}

-- ---- the last station
pub alone : (f : Format) (i : ℕ) (F : TextFormat) (t : List ℕ) (G : TextFormat) (records out : List ℕ) → length records ≡ 0
    → chain_from f i F t G (formats_of records) out ≡ record { answer = at_station i (rewrite_answer G out (read_in f F t)); bytes = rewrite_bytes G out (read_in f F t) }
unfolding chain_from
alone f i F t G records out h = ap (λ (Gs : List TextFormat). chain_from f i F t G Gs out) (no_records records h)

-- ---- a station before the last: G is its format, and records are those behind it. Its scratch bytes have room for every text.
module _ (f : Format) (i : ℕ) (F : TextFormat) (t : List ℕ) (G : TextFormat) (records out scratch : List ℕ) (some : 0 < length records) (room : Roomy scratch) where
  abbrev whole : Outcome
  whole = chain_from f i F t G (formats_of records) out

  abbrev next : List ℕ → Outcome
  next text = on_from f (i + 1) G text records out

  pub on_more : whole ≡ onward i out (rewrite_answer G scratch (read_in f F t)) (λ n. next (take n (rewrite_bytes G scratch (read_in f F t))))
  unfolding chain_from on_from
  on_more =
      ap (λ (Gs : List TextFormat). chain_from f i F t G Gs out) (more_records records some)
      ∙ station_goes_on f i F t G out scratch room next

-- ---- the same of the record in front of those given
module _ (f : Format) (i : ℕ) (F : TextFormat) (t : List ℕ) (G : TextFormat) (records : List ℕ) (out : List ℕ) (is : G ≡ format_of_record records) where
  from_is : on_from f i F t records out ≡ chain_from f i F t G (formats_of (drop record_size records)) out
  unfolding on_from
  from_is = ap (λ (H : TextFormat). chain_from f i F t H (formats_of (drop record_size records)) out) (sym is)

  pub from_last : length records ≤ record_size → on_from f i F t records out ≡ record { answer = at_station i (rewrite_answer G out (read_in f F t)); bytes = rewrite_bytes G out (read_in f F t) }
  from_last h = from_is ∙ alone f i F t G (drop record_size records) out (omega (arith, length-drop record_size records))

  pub from_more : (scratch : List ℕ) → record_size < length records → Roomy scratch
      → on_from f i F t records out ≡ onward i out (rewrite_answer G scratch (read_in f F t)) (λ n. on_from f (i + 1) G (take n (rewrite_bytes G scratch (read_in f F t))) (drop record_size records) out)
  from_more scratch more room =
      from_is ∙ on_more f i F t G (drop record_size records) out scratch (omega (arith, length-drop record_size records)) room

-- ---- what a chain answers with a station's answer: a length goes on, and a refusal ends the chain
pub went_on : (i n : ℕ) (x : Rewriting) → of_chained (Ok n) ≡ at_station i x → x ≡ rewritten n
went_on i n (rewritten m) e = let z : n ≡ m = cc in ap rewritten (sym z)
went_on i n (reading_refused m p) e = absurd (let z : ◌≡◌ {A = ℕ} 0 1 = cc in omega arith)
went_on i n (writing_refused m p) e = absurd (let z : ◌≡◌ {A = ℕ} 0 1 = cc in omega arith)

pub ended : (i : ℕ) (out : List ℕ) (x : Rewriting) (e : ChainRefusal) (next : ℕ → Outcome) → of_chained (Err e) ≡ at_station i x → onward i out x next ≡ record { answer = of_chained (Err e); bytes = out }
ended i out (rewritten n) e next q = absurd (never e.station e.refusal q)
  where
    never : (j : ℕ) (r : RewriteRefusal) → refused_at j r ≡ arrived n → ⊥
    never j (Reading r) q' = let z : ◌≡◌ {A = ℕ} 0 1 = cc in omega arith
    never j (Writing r) q' = let z : ◌≡◌ {A = ℕ} 0 1 = cc in omega arith
ended i out (reading_refused n p) e next q = ap (λ (a : Chained). record { answer = a; bytes = out }) (sym q)
ended i out (writing_refused n p) e next q = ap (λ (a : Chained). record { answer = a; bytes = out }) (sym q)

pub on_with : (i n : ℕ) (out : List ℕ) (x : Rewriting) (next : ℕ → Outcome) → x ≡ rewritten n → onward i out x next ≡ next n
on_with i n out x next e = ap (λ (r : Rewriting). onward i out r next) e
