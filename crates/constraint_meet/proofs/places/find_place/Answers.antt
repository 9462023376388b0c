use Rattle.std.proofs.Common.{◌∙◌, sym, true≢false, arith}
use Rattle.constraint_meet.proofs.Searches.{is_found, is_least}
use Rattle.constraint_meet.proofs.places.find_place.Goals as goal

pub returns-in_default-clause-none : goal.returns-in_default-clause-none
returns-in_default-clause-none c = λ place h.
    let least = is_least c.args.part c.args.octets.now c.args.places.now c.args.it.now c.args.after c.args.size
    c.first_beyond-first.result c.requires.ordered c.first_beyond-first.ensures.parted place h in
    absurd (omega (arith, least.0, c.in_default.ensures.lookup.3))

pub returns-then-is_there-clause-found : goal.returns-then-is_there-clause-found
returns-then-is_there-clause-found c =
    let there = c.is_there.ensures.0 c.if-is_there.true in
    is_found c.args.part c.args.octets.now c.args.places.now c.args.it.now c.args.after c.args.size
    c.first_beyond-first.result c.requires.ordered c.first_beyond-first.ensures.parted c.in-Some.place.now
    c.in-Some.ensures.lookup.3.0 (sym c.in-Some.ensures.lookup.1) there.0 there.1

pub returns-else-is_there-clause-none : goal.returns-else-is_there-clause-none
returns-else-is_there-clause-none c = λ place h.
    let least = is_least c.args.part c.args.octets.now c.args.places.now c.args.it.now c.args.after c.args.size
    c.first_beyond-first.result c.requires.ordered c.first_beyond-first.ensures.parted place h in
    let same = sym (c.in-Some.ensures.lookup.3.1 place) in
    let there = c.is_there.ensures.1 (rw same at least.1, rw same at least.2) in
    true≢false (sym there ∙ c.if-is_there.false)
