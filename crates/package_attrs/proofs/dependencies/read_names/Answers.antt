use Rattle.std.proofs.Common.{sym, ◌∙◌}
use Rattle.package_attrs.proofs.FewNames.{few_items}
use Rattle.package_attrs.proofs.dependencies.read_names.Goals as goal

pub invariant_of-result : goal.invariant_of-result
invariant_of-result c =
    let are = few_items c.args.contents.now (sym c.are_names.ensures ∙ c.if-are_names.true) in (are.0, are.2)

pub returns-then-are_names : goal.returns-then-are_names
returns-then-are_names c =
    record { exact = (few_items c.args.contents.now (sym c.are_names.ensures ∙ c.if-are_names.true)).1 }
