-- `lexical_write_float::write::write_value` meets its contract: D, p, the digits so far and the layout are those of the definition, so the planned text is its text. Assumes nothing.
use Prim.Native.Nat.{ℕ, ◌≤◌}
use mathlib.Core.Path.{◌≡◌, sym, ap, ◌∙◌}
use mathlib.Core.List.{List, ◌++◌}
use lib.IntN.{nat_abs}
use lib.ListN.{length}
use Rattle.lexical_util.specs.Answer.{done, held}
use Rattle.lexical_exponent.specs.Exponent.{scale, place}
use Rattle.lexical_write_float_spec.specs.Text.{point, layout_of, text}
use Rattle.lexical_write_float.specs.Code.{checked_row, digits_of, plan_text, body_text, tail_text}
use Rattle.lexical_write_float_spec.proofs.RangeLaws.{place_near}
use Rattle.lexical_write_float_spec.proofs.LengthLaws.{power_few}
use Rattle.lexical_write_float.proofs.StoredLaws.{near_held}
use Rattle.lexical_write_float.proofs.TextLaws.{Known, known, counted_some, IsLaid, laid_text}
use native.Mathlib.Omega.{arith}
use Rattle.lexical_write_float.proofs.write.write_value.Goals.{After-place_by_bits-placed, After-plan_of-plan, Start}
use Rattle.lexical_write_float.proofs.write.write_value.Goals as goal

format_known : (s : Start) → Known s.args.format s.args.options s.args.checked
format_known s = known _ _ _ s.requires.0

scale_is : (c : After-place_by_bits-placed) → let v = c.args.value in c.sci_exp-s.result.0 ≡ scale v.mantissa v.exponent.0
scale_is c = c.sci_exp-s.ensures.result_value ∙ near_held 1074 1024 (scale c.args.value.mantissa c.args.value.exponent.0) (omega arith) (omega arith) c.requires.1.near

place_is : (c : After-place_by_bits-placed) → c.place_by_bits-placed.result.p.0 ≡ place c.args.checked.b (scale c.args.value.mantissa c.args.value.exponent.0)
place_is c = c.place_by_bits-placed.ensures.place_is ∙ ap (place c.args.checked.b) (scale_is c)

near : (c : After-place_by_bits-placed) → nat_abs c.place_by_bits-placed.result.p.0 ≤ 1074
near c = rw (place_is c) (place_near c.args.checked.b (scale c.args.value.mantissa c.args.value.exponent.0) c.requires.1.near)

-- the text that the plan stands for
abbrev whole : Start → List ℕ
whole s = text s.args.format s.args.options (checked_row s.args.checked) s.args.value.mantissa s.args.value.exponent.0

abbrev body : After-plan_of-plan → List ℕ
body c = let a = c.args in plan_text (point a.format a.options) c.plan_of-plan.result (digits_of c.place_by_bits-placed.result.digits)

planned : (c : After-plan_of-plan) → let a = c.args in
    body c ≡ body_text a.format a.options c.place_by_bits-placed.result.p.0 c.digits_so_far-so_far.result c.choose_layout-layout.result (digits_of c.place_by_bits-placed.result.digits)
planned c = c.plan_of-plan.ensures.is _ (sym c.place_by_bits-placed.ensures.counted.count_is)

laid : (c : After-plan_of-plan) → let a = c.args in
    IsLaid a.format a.options a.checked a.value.mantissa a.value.exponent.0 (digits_of c.place_by_bits-placed.result.digits) c.place_by_bits-placed.result.p.0 c.digits_so_far-so_far.result c.choose_layout-layout.result
laid c =
    let format_known' : Known c.args.format c.args.options c.args.checked = known _ _ _ c.requires.0 in
    let scale_is' : let v = c.args.value in c.sci_exp-s.result.0 ≡ scale v.mantissa v.exponent.0 = c.sci_exp-s.ensures.result_value ∙ near_held 1074 1024 (scale c.args.value.mantissa c.args.value.exponent.0) (omega arith) (omega arith) c.requires.1.near in
    let place_is' : c.place_by_bits-placed.result.p.0 ≡ place c.args.checked.b (scale c.args.value.mantissa c.args.value.exponent.0) = c.place_by_bits-placed.ensures.place_is ∙ ap (place c.args.checked.b) scale_is' in
    let a = c.args in
    let K = format_known' in
    record {
      digits_are = c.place_by_bits-placed.ensures.digits_are;
      place_is = place_is';
      so_far_is = c.digits_so_far-so_far.ensures a.format a.options _ (sym c.place_by_bits-placed.ensures.counted.count_is);
      layout_is = c.choose_layout-layout.ensures a.options K.low K.high ∙ ap (layout_of a.format a.options) scale_is';
    }

pub place_by_bits-placed-requires : goal.place_by_bits-placed-requires
place_by_bits-placed-requires c = let K = format_known (goal.at.place_by_bits-placed-requires c).Start in (K.some_bits, K.few_bits, c.requires.1.few)

pub plan_of-plan-requires : goal.plan_of-plan-requires
plan_of-plan-requires c = (counted_some _ c.place_by_bits-placed.ensures.counted, near (goal.at.plan_of-plan-requires c).After-place_by_bits-placed, (format_known (goal.at.plan_of-plan-requires c).Start).few_least)

pub write_plan-requires : goal.write_plan-requires
write_plan-requires c = (c.place_by_bits-placed.ensures.counted, c.plan_of-plan.ensures.small, (format_known (goal.at.write_plan-requires c).Start).power_radix, (format_known (goal.at.write_plan-requires c).Start).power_width, rw c.base_exponent-exponent.ensures.magnitude (power_few c.args.checked.b c.args.checked.c c.place_by_bits-placed.result.p.0 (format_known (goal.at.write_plan-requires c).Start).few_bits (near (goal.at.write_plan-requires c).After-place_by_bits-placed)))

pub returns : goal.returns
returns c = let a = c.args in
    let tail : List ℕ = tail_text c.choose_layout-layout.result a.options.exponent c.base_exponent-exponent.result.0 a.format.required_exponent_sign a.format.exponent_radix a.options.exponent_width c.base_exponent-exponent.result.1 in
    let same : body (goal.at.returns c).After-plan_of-plan ++ tail ≡ whole (goal.at.returns c).Start = ap (λ (t : List ℕ). t ++ tail) (planned (goal.at.returns c).After-plan_of-plan) ∙ laid_text _ _ _ _ _ _ _ _ _ (laid (goal.at.returns c).After-plan_of-plan) _ _ c.base_exponent-exponent.ensures.sign c.base_exponent-exponent.ensures.magnitude in
    record { value = c.write_plan.ensures.value ∙ ap length same; buffer_after = c.write_plan.ensures.buffer_after ∙ ap (λ (t : List ℕ). held (done t) a.buffer.now) same }
