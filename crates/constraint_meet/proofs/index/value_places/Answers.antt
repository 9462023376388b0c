use Rattle.std.proofs.Common.{arith, length, ap}
use Rattle.std.specs.List.{flat_map}
use Rattle.cert_fields.specs.Constraints.{ContentConstraint, entry_text}
use Rattle.cert_fields.specs.ConstraintsView.{entry_view}
use Rattle.std.proofs.Common.{List}
use Rattle.constraint_meet.proofs.PushLemmas.{entry_room}
use Rattle.constraint_meet.proofs.index.value_places.Goals as goal

pub push_listed-requires : goal.push_listed-requires
push_listed-requires c = record {
  fits =
      omega (
        arith,
        c.loop-entry.invariant.0,
        c.entries-left.ensures.fits,
        entry_room (entry_view c.in-Some.entry) c.next.new.self,
        ap (λ (es : List ContentConstraint). length (flat_map entry_text es)) c.in-Some.ensures.steps,
        ap length c.rest-in-Some.ensures.text,
      );
}
