use Rattle.bank_layout.proofs.Recovering.{law_k, unnamed_say_nothing}
use Rattle.bank_layout.proofs.Running.{unnamed_by_all}
use Rattle.bank_layout.proofs.laws.unnamed_blocks_have_no_say.Goals as goal

pub returns-clause-holder : goal.returns-clause-holder
returns-clause-holder c = law_k

pub returns-clause-store : goal.returns-clause-store
returns-clause-store c = unnamed_say_nothing

pub returns-clause-unnamed : goal.returns-clause-unnamed
returns-clause-unnamed c = λ image m running manifest i holds. unnamed_by_all image m running manifest holds i
