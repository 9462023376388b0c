use Rattle.std.proofs.Common.{List, ℕ, ◌∙◌, ap}
use Rattle.std.specs.Prelude.{bytes_eq}
use Rattle.explain_text.proofs.Numbered.{last_is_late, none_is_late}
use Rattle.explain_text.proofs.keys.is_up_to.Goals as goal

pub returns-in-Some : goal.returns-in-Some
returns-in-Some c =
    c.eq.ensures ∙ ap (λ (t : List ℕ). bytes_eq t c.args.id.now) c.octets.ensures.value
    ∙ last_is_late c.args.keys.now c.args.id.now c.args.number c.in-Some.last.now c.in-Some.ensures.found
    c.in-Some.ensures.up_to c.in-Some.ensures.last

pub returns-in-None : goal.returns-in-None
returns-in-None c = none_is_late c.args.keys.now c.args.id.now c.args.number c.in-None.ensures.none
