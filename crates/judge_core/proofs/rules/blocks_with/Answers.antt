use Rattle.std.proofs.Common.{arith}
use Rattle.config_table.specs.State.{offer_of}
use Rattle.config_table.specs.Names.{is_same}
use Rattle.package_attrs.specs.Description.{description}
use Rattle.judge_core.proofs.SumLemmas.{blocks_in, found_within, installed_sum, taken_as_kept}
use Rattle.judge_core.proofs.rules.blocks_with.Goals as goal

pub overflow_sub-result : goal.overflow_sub-result
overflow_sub-result c =
    omega (
      arith,
      found_within blocks_in (λ entry. is_same (description c.args.offered.now).identifier.name entry.name)
          c.args.state.now.packages,
      taken_as_kept c.args.state.now.packages,
      c.blocks_of.ensures.taken,
      c.blocks_replaced.ensures.replaced,
      c.from-replaced.ensures,
    )

pub returns : goal.returns
returns c = record {
  taken = λ digest.
      omega (
        arith,
        found_within blocks_in (λ entry. is_same (description c.args.offered.now).identifier.name entry.name)
            c.args.state.now.packages,
        taken_as_kept c.args.state.now.packages,
        installed_sum (offer_of (description c.args.offered.now)) digest c.args.image c.args.state.now,
        c.blocks_of.ensures.taken,
        c.blocks_for.ensures.blocks,
        c.from.ensures,
        c.blocks_replaced.ensures.replaced,
        c.from-replaced.ensures,
      );
}
