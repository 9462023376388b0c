use Rattle.fwload_top.proofs.NoFlash.{ident_writes_none, sigcheck_writes_none, rehearse_writes_none}
use Rattle.fwload_top.proofs.NoFlash.{list_writes_none, explain_writes_none}
use Rattle.fwload_top.proofs.laws.no_flash_is_written.Goals as goal

pub returns-clause-ident : goal.returns-clause-ident
returns-clause-ident c = ident_writes_none

pub returns-clause-sigcheck : goal.returns-clause-sigcheck
returns-clause-sigcheck c = sigcheck_writes_none

pub returns-clause-rehearse : goal.returns-clause-rehearse
returns-clause-rehearse c = rehearse_writes_none

pub returns-clause-list : goal.returns-clause-list
returns-clause-list c = list_writes_none

pub returns-clause-explain : goal.returns-clause-explain
returns-clause-explain c = explain_writes_none
