use Rattle.std.proofs.Common.{◌++◌, ◌/◌, ◌%◌, List, ℕ, get_or, string_bytes, sym, ap, ◌∙◌, arith}
use Rattle.std.specs.Fmt.{decimal}
use Rattle.std.specs.List.{flat_map}
use Rattle.std.proofs.lemmas.List.{take_all}
use Rattle.std.proofs.lemmas.Option.{slice_get-get_or}
use Rattle.der_core.specs.Time.{last_digits}
use Rattle.report_text.proofs.Rows.{line_more, places, fourteen_digits}
use Rattle.report_text.proofs.rehearsal.push_moment.Goals as goal

pub loop-place-preserved : goal.loop-place-preserved
loop-place-preserved c =
    let i = c.loop-place.place-index in
    line_more (λ (place : ℕ). decimal (c.digits-digits.result / place % 10)) places i (get_or places i 0) _ _ _
    (sym (slice_get-get_or places i 0 c.loop-place-test.true)) c.loop-place.invariant c.in_ok-write.ensures.bytes

pub returns : goal.returns
returns c =
    let all = take_all c.loop-place.place-index places (omega (arith, c.loop-place-test.false)) in
    record {
      ok = c.loop-place.invariant
          ∙ ap (λ (front : List ℕ). string_bytes c.args.line.now
          ++ flat_map (λ (place : ℕ). decimal (c.digits-digits.result / place % 10)) front) all
          ∙ ap (λ (ds : List ℕ). string_bytes c.args.line.now ++ ds) (fourteen_digits c.digits-digits.result)
          ∙ ap (λ (number : ℕ). string_bytes c.args.line.now ++ last_digits 14 number) c.digits-digits.ensures.value;
    }
