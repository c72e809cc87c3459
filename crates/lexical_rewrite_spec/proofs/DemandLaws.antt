-- Demand 3: equal floats are rewritten to equal bytes and only they, and a chain of any length ends in the last format's text of the first text's float. Assumes nothing.
use Prim.Native.Nat.{ℕ, ◌+◌}
use mathlib.Core.Path.{◌≡◌, refl, sym, ap, ◌∙◌, fun_ext}
use mathlib.Core.List.{List, [], ◌∷◌, map}
use lib.ListN.{length, take}
use lib.Ieee.{Float, Format}
use Rattle.lexical_util.proofs.AnswerLaws.{done_same}
use Rattle.lexical_rewrite_spec.specs.declared.text_format.TextFormat.{TextFormat}
use Rattle.lexical_rewrite_spec.specs.Rewrite.{Rewriting, read_in, text_in, rewrite_answer, rewrite_bytes}
use Rattle.lexical_rewrite_spec.specs.Chain.{Chained, at_station, chain_from, chain_of, Station, last_station, onward, chain}
use Rattle.lexical_rewrite_spec.specs.Demand.{IsFloatOf, Admits, Roomy, SameAsOthers, SameFloatSameBytes, Arrives, ChainArrives, ChainIsCalled, NeverLost}
use Rattle.lexical_rewrite_spec.proofs.StationLaws.{Has, has_text, station_answer, station_bytes, station_hands, station_goes_on}

-- ---- same float, same bytes
-- a float has one text, and a text one float
texts_same : (f : Format) (G : TextFormat) (x x' : Float) (h : Has f G x) (h' : Has f G x') → x ≡ x' → h.text ≡ h'.text
texts_same f G x x' h h' e = done_same h.text h'.text (sym h.is_text ∙ ap (text_in G) e ∙ h'.is_text)

floats_same : (f : Format) (G : TextFormat) (x x' : Float) (h : Has f G x) (h' : Has f G x') → h.text ≡ h'.text → x ≡ x'
floats_same f G x x' h h' e = done_same x x' (sym h.back ∙ ap (read_in f G) e ∙ h'.back)

pub same_float_same_bytes : SameFloatSameBytes
same_float_same_bytes f F t G out F' t' out' x x' read read' A room room' =
    let h = has_text f F t G x read A in
    let h' = has_text f F' t' G x' read' A in
    let hands = station_hands f F t G out x read h room in
    let hands' = station_hands f F' t' G out' x' read' h' room' in
    record {
      n = length h.text;
      n' = length h'.text;
      first = station_answer f F t G out x read h room;
      second = station_answer f F' t' G out' x' read' h' room';
      same = λ e. let s = texts_same f G x x' h h' e in (ap length s, hands ∙ s ∙ sym hands');
      only = λ _ e. floats_same f G x x' h h' (sym hands ∙ e ∙ hands');
    }

-- the same of a call that answers and leaves what rewriting does
pub same_as_others_by : (f : Format) (F : TextFormat) (t : List ℕ) (G : TextFormat) (out : List ℕ) (answer : Rewriting) (bytes : List ℕ)
    → answer ≡ rewrite_answer G out (read_in f F t) → bytes ≡ rewrite_bytes G out (read_in f F t) → SameAsOthers f F t G out answer bytes
same_as_others_by f F t G out answer bytes p q = rw (p, q) (same_float_same_bytes f F t G out)

-- ---- the chain
-- its last station
last_arrives : (f : Format) (i : ℕ) (F : TextFormat) (t : List ℕ) (G : TextFormat) (out : List ℕ) (x : Float) → IsFloatOf f F t x → Admits G → Roomy out
    → Arrives x G out (at_station i (rewrite_answer G out (read_in f F t))) (rewrite_bytes G out (read_in f F t))
last_arrives f i F t G out x read A room =
    let h = has_text f F t G x read A in
    record {
      text = h.text;
      is_text = h.is_text;
      answered = ap (at_station i) (station_answer f F t G out x read h room);
      written = station_bytes f F t G out x read h room;
      exact = h.exact;
    }

pub chain_arrives : ChainArrives
unfolding chain
chain_arrives f i F t S [] x read ready all = last_arrives f i F t S.format S.buffer x read ready.0 ready.1
chain_arrives f i F t S (S' ∷ Ss) x read ready all =
    let h = has_text f F t S.format x read ready.0 in
    let step : chain f i F t S (S' ∷ Ss) ≡ chain f (i + 1) S.format h.text S' Ss = rw (station_answer f F t S.format S.buffer x read h ready.1) (ap (λ (l : List ℕ). chain f (i + 1) S.format l S' Ss) (station_hands f F t S.format S.buffer x read h ready.1)) in
    rw step (chain_arrives f (i + 1) S.format h.text S' Ss x h.back all.0 all.1)

pub chain_is_called : ChainIsCalled
unfolding chain chain_from
chain_is_called f i F t S [] all = refl
chain_is_called f i F t S (S' ∷ Ss) all =
    ap (onward i (last_station S' Ss).buffer (rewrite_answer S.format S.buffer (read_in f F t)))
    (fun_ext (λ n. chain_is_called f (i + 1) S.format (take n (rewrite_bytes S.format S.buffer (read_in f F t))) S' Ss all.1))
    ∙ sym (station_goes_on f i F t S.format (last_station S' Ss).buffer S.buffer all.0 (λ text. chain_from f (i + 1) S.format text S'.format (map (λ (S : Station). S.format) Ss) (last_station S' Ss).buffer))

-- ---- a call that is lent the last station's buffer, from any station on
from_arrives : (f : Format) (i : ℕ) (F : TextFormat) (t : List ℕ) (G : TextFormat) (Gs : List TextFormat) (out : List ℕ) → NeverLost f F t G Gs out (chain_from f i F t G Gs out).answer (chain_from f i F t G Gs out).bytes
unfolding chain_from
from_arrives f i F t G [] out x read A all room = last_arrives f i F t G out x read A room
from_arrives f i F t G (G' ∷ Gs) out x read A all room =
    let h = has_text f F t G x read A in
    rw (read, h.is_text) (from_arrives f (i + 1) _ _ G' Gs out x h.back all.0 all.1 room)

pub never_lost : (f : Format) (F : TextFormat) (t : List ℕ) (G : TextFormat) (Gs : List TextFormat) (out : List ℕ) → NeverLost f F t G Gs out (chain_of f F t G Gs out).answer (chain_of f F t G Gs out).bytes
never_lost f F t G Gs out = from_arrives f 0 F t G Gs out

-- the same of a call that answers and leaves what the chain does
pub never_lost_by : (f : Format) (F : TextFormat) (t : List ℕ) (G : TextFormat) (Gs : List TextFormat) (out : List ℕ) (answer : Chained) (bytes : List ℕ)
    → answer ≡ (chain_of f F t G Gs out).answer → bytes ≡ (chain_of f F t G Gs out).bytes → NeverLost f F t G Gs out answer bytes
never_lost_by f F t G Gs out answer bytes p q = rw (p, q) (never_lost f F t G Gs out)
