use Rattle.std.proofs.Common.{◌∙◌, sym}
use Rattle.std.proofs.lemmas.Bool.{false≢true}
use Rattle.std.proofs.lemmas.Slice.Eq.{bytes_eq-Decides}
use Rattle.explain_text.proofs.Numbered.{last_differs, last_tells, none_tells}
use Rattle.explain_text.proofs.keys.is_key.Goals as goal

pub returns-then-eq : goal.returns-then-eq
returns-then-eq c =
    last_tells c.args.keys.now c.args.id.now c.args.number c.in-Some.last.now c.in-Some.ensures.found
    c.in-Some.ensures.up_to c.in-Some.ensures.last
    (sym c.octets.ensures.value ∙ (bytes_eq-Decides c.octets.result.now c.args.id.now).0 (sym c.eq.ensures ∙ c.if-eq.true))

pub returns-else-eq : goal.returns-else-eq
returns-else-eq c =
    c.if-eq.false
    ∙ last_differs c.args.keys.now c.args.id.now c.args.number c.in-Some.last.now c.in-Some.ensures.found
    c.in-Some.ensures.up_to c.in-Some.ensures.last
    (λ same. false≢true (sym c.if-eq.false ∙ c.eq.ensures
    ∙ (bytes_eq-Decides c.octets.result.now c.args.id.now).1 (c.octets.ensures.value ∙ same)))

pub returns-in-None : goal.returns-in-None
returns-in-None c = none_tells c.args.keys.now c.args.id.now c.args.number c.in-None.ensures.none
