-- The commands that write no flash.
use Rattle.std.proofs.Common.{ℕ}
use Rattle.fwload_top.specs.Ident.Outcome.{spelled, no_identifier}
use Rattle.fwload_top.specs.Meaning.{WritesNoFlash}
use Rattle.fwload_top.specs.Ident.{ident}
use Rattle.fwload_top.specs.Sigcheck.{sigcheck}
use Rattle.fwload_top.specs.Sigcheck.Outcome.{no_triple, no_key, good, bad}
use Rattle.fwload_top.specs.Rehearse.{rehearse}
use Rattle.fwload_top.specs.Rehearse.Outcome.{rehearsed}
use Rattle.fwload_top.specs.List.{list}
use Rattle.fwload_top.specs.List.Outcome.{no_module, listed}
use Rattle.fwload_top.specs.Explain.{explain}
use Rattle.fwload_top.specs.Explain.Outcome.{no_module as none_to_explain, explained}

pub ident_writes_none : WritesNoFlash ident
ident_writes_none (spelled i) start image = ((λ is. is), λ is. is)
ident_writes_none no_identifier start image = ((λ is. is), λ is. is)

pub sigcheck_writes_none : WritesNoFlash sigcheck
sigcheck_writes_none no_triple start image = ((λ is. is), λ is. is)
sigcheck_writes_none no_key start image = ((λ is. is), λ is. is)
sigcheck_writes_none good start image = ((λ is. is), λ is. is)
sigcheck_writes_none bad start image = ((λ is. is), λ is. is)

pub rehearse_writes_none : (at : ℕ) → WritesNoFlash (rehearse at)
rehearse_writes_none at (rehearsed refuses lines) start image = ((λ is. is), λ is. is)

pub list_writes_none : WritesNoFlash list
list_writes_none no_module start image = ((λ is. is), λ is. is)
list_writes_none (listed m sequence spent state) start image = ((λ is. is), λ is. is)

pub explain_writes_none : (at : ℕ) → WritesNoFlash (explain at)
explain_writes_none at none_to_explain start image = ((λ is. is), λ is. is)
explain_writes_none at (explained m sequence state refused lines) start image = ((λ is. is), λ is. is)
