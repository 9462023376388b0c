use Rattle.std.proofs.Common.{◌+◌, ◌++◌, [], List, ℕ, drop, ◌∙◌, ap, sym}
use Rattle.constraint_meet.specs.Places.{Key}
use Rattle.explain_text.specs.Keys.{types_from}
use Rattle.explain_text.specs.Ordered.{lent}
use Rattle.explain_text.proofs.Covering.{types_more}
use Rattle.explain_text.proofs.hardware.types_of.Goals as goal

pub loop-value-preserved : goal.loop-value-preserved
loop-value-preserved c =
    let values = c.args.values.now in
    let place = c.loop-value.place in (
      ap (λ (i : ℕ). i + 1) c.loop-value.invariant.0,
      ap (λ (keys : List Key). keys ++ types_from (place + 1) (drop (place + 1) (lent values)))
          c.in_ok-push_value.ensures
          ∙ sym (types_more values c.loop-value.value-index place (record { ref_ptr = (0, 0); now = [] })
          c.loop-value.keys.items c.loop-value.invariant.0 c.loop-value-test.true)
          ∙ c.loop-value.invariant.1,
    )
