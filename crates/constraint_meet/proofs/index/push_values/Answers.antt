use Rattle.std.proofs.Common.{arith, sym, length, ap, refl}
use Rattle.constraint_meet.specs.Index.{places_of}
use Rattle.constraint_meet.specs.Permits.{values_in}
use Rattle.constraint_meet.proofs.PushLemmas.{values_on, octets_left, part_end}
use Rattle.constraint_meet.proofs.ValueLemmas.{values_more, values_none}
use Rattle.constraint_meet.proofs.index.push_values.Goals as goal

pub loop-places-preserved : goal.loop-places-preserved
loop-places-preserved c =
    let (tag, contents, whole) = c.in-Some.field-0 in
    let more = values_more c.loop-places.items c.next.new.self whole.now (tag, (contents.now, c.next.new.self))
    c.loop-places.invariant.0 c.in-Some.ensures.exact c.in-Some.ensures.element.1 refl in (
      more.0,
      octets_left c.loop-places.items whole.now c.next.new.self c.in-Some.ensures.element.2 c.loop-places.invariant.1,
      ap length c.rest-left.ensures.rest,
      omega (arith, c.in-Some.ensures.shorter, c.loop-places.invariant.3),
      values_on _ c.loop-places.places.items c.push.new.self.items c.args.after c.loop-places.left c.loop-places.items
          c.next.new.self whole.now c.loop-places.invariant.1 c.loop-places.invariant.0 c.loop-places.invariant.2 more.1
          c.loop-places.invariant.4 c.in_ok-push.ensures.items,
    )

pub returns : goal.returns
returns c =
    sym (part_end (places_of c.args.after) _ c.loop-places.places.items (values_in c.loop-places.items) refl
    (values_none c.loop-places.items c.loop-places.invariant.0 c.in_default.ensures.exact) c.loop-places.invariant.4)
