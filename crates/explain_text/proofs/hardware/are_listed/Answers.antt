use Rattle.std.proofs.Common.{Option, List, ℕ, ◌∙◌, ap, sym}
use Rattle.std.specs.List.{list_any}
use Rattle.package_attrs.specs.Covers.{are_among}
use Rattle.package_attrs.specs.ListReading.{targets_of}
use Rattle.explain_text.specs.Ordered.{lent}
use Rattle.explain_text.proofs.Covering.{listed_by, never_listed}
use Rattle.explain_text.proofs.hardware.are_listed.Goals as goal

pub returns-in_default : goal.returns-in_default
returns-in_default c = never_listed (lent c.args.values.now) c.args.value.now c.in_default.ensures.exact

pub returns-in-Some-fewest_places : goal.returns-in-Some-fewest_places
returns-in-Some-fewest_places c =
    let values = lent c.args.values.now in
    let (id, one, are) = c.in-Some-fewest_places.ensures.one in
    c.one_lists_each.ensures
    ∙ listed_by values c.args.keys.now c.requires.same c.in-Some.types id one c.in-Some-fewest_places.places.now are
    ∙ ap (λ (o : Option (List (List ℕ))). list_any (λ one. are_among (targets_of one) o) values)
    (sym c.in-Some.ensures.exact)
