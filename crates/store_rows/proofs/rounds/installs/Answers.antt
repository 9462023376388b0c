use Rattle.std.proofs.Common.{ap, arith}
use Rattle.module_record.specs.declared.module.Module.{Module}
use Rattle.store_rows.proofs.InStep.{on_ok}
use Rattle.store_rows.proofs.rounds.installs.Goals as goal

pub returns-in-Some : goal.returns-in-Some
returns-in-Some c = record {
  in_step = λ done. record {
    valid = on_ok c.install.result c.is_ok.result c.is_ok.ensures.value done c.install.ensures.valid;
    quiet = on_ok c.install.result c.is_ok.result c.is_ok.ensures.value done c.install.ensures.quiet;
    blocks = omega (
      arith,
      c.in-Some.ensures.blocks,
      ap (λ (m : Module). m.capacity) c.install.ensures.owner,
      c.install.ensures.touches.blocks,
    );
    settled = on_ok c.install.result c.is_ok.result c.is_ok.ensures.value done (c.install.ensures.settled tt);
    holds = on_ok c.install.result c.is_ok.result c.is_ok.ensures.value done (c.install.ensures.holds tt);
  };
}
