use Rattle.std.proofs.Common.{refl}
use Rattle.std.proofs.lemmas.List.Concat.{concat_is}
use Rattle.constraint_meet.proofs.TestLemmas.{elements-whole}
use Rattle.constraint_meet.proofs.laws.values_are_elements.Goals as goal

pub returns : goal.returns
returns c = λ values each. rw (concat_is values, elements-whole.again values each) refl
