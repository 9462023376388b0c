use Rattle.fwload_top.proofs.key_line.made_line.Goals as goal

pub returns-in-Key : goal.returns-in-Key
returns-in-Key c = record { line = rw c.in-Key.is c.key_line.ensures.line }

pub returns-in-Module : goal.returns-in-Module
returns-in-Module c = record { line = rw c.in-Module.is c.key_line-in-Module.ensures.line }
