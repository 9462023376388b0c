use Rattle.std.proofs.Common.{rules}
use Rattle.recipe_text.proofs.Cuts.{first_none, first_place}
use Rattle.recipe_text.proofs.cut.cut_at.Goals as goal

pub returns-in_err-place : goal.returns-in_err-place
returns-in_err-place c =
    let none = first_none c.args.at c.args.octets.now c.in_err-place.ensures in
    search (none, rules)

pub returns : goal.returns
returns c = record { exact = first_place c.args.at c.args.octets.now c.in_ok-place.place c.in_ok-place.ensures }
