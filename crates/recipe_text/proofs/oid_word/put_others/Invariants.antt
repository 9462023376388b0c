use Rattle.std.proofs.Common.{length, option_map}
use Rattle.recipe_text.specs.OidReading.{tail_text}
use Rattle.recipe_text.proofs.Oids.{Behind}
use Rattle.recipe_text.proofs.oid_word.put_others.Given as goal

-- the components so far are appended
abbrev pub invariant-loop-rest : goal.invariant-loop-rest
invariant-loop-rest l =
    Behind (tail_text (option_map (λ r. r.now) l.fn.behind)) (tail_text (option_map (λ r. r.now) l.rest))
    l.fn.out.items l.out.items

abbrev pub decreases-loop-rest : goal.decreases-loop-rest
decreases-loop-rest l = length (tail_text (option_map (λ r. r.now) l.rest))
