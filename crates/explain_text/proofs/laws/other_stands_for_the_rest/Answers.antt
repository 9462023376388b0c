use Rattle.explain_text.proofs.Entries.{all_decide, same_sources}
use Rattle.explain_text.proofs.laws.other_stands_for_the_rest.Goals as goal

pub returns-clause-decides : goal.returns-clause-decides
returns-clause-decides c = all_decide

pub returns-clause-sources : goal.returns-clause-sources
returns-clause-sources c = same_sources
