use Rattle.std.proofs.Common.{ap, arith, length}
use Rattle.std.proofs.lemmas.List.{length-append}
use Rattle.module_record.specs.ModuleRecord.{module_text}
use Rattle.flash_rows.proofs.stores.format_module.Goals as goal

pub format-requires-clause-limits : goal.format-requires-clause-limits
format-requires-clause-limits c = ((c.in_ok-holder.ensures.spelled c.in-Some.holder).0 c.in-Some.is).0.limits

pub format-requires-clause-fits : goal.format-requires-clause-fits
format-requires-clause-fits c =
    let begins = (c.in_ok-holder.ensures.spelled c.in-Some.holder).0 c.in-Some.is in
    omega (arith, ap length begins.2, length-append (module_text c.in-Some.holder) begins.1)
