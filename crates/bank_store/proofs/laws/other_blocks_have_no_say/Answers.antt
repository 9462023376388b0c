use Rattle.bank_store.proofs.Holders.{holds_too, row_too}
use Rattle.bank_store.proofs.laws.other_blocks_have_no_say.Goals as goal

pub returns-clause-key : goal.returns-clause-key
returns-clause-key c = λ first second key keeps.
    holds_too first second keeps.size (λ i lt. keeps.each i (λ out. out lt)) key

pub returns-clause-row : goal.returns-clause-row
returns-clause-row c = λ first second key keeps.
    row_too first second keeps.size (λ i lt. keeps.each i (λ out. out lt)) key
