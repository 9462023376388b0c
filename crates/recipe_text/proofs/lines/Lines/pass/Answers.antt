use Rattle.std.proofs.Common.{◌≡◌, ◌∷◌, None, refl, ap, length, length-append, arith, rules}
use Rattle.recipe_text.proofs.Cuts.{cut_takes, none_cut}
use Rattle.recipe_text.proofs.lines.Lines.pass.Goals as goal

pub returns-in_err-line-clause-none : goal.returns-in_err-line-clause-none
returns-in_err-line-clause-none c =
    let none = none_cut 10 c.self.inside.rest.now c.in_err-line.ensures.exact in
    let same : c.self.inside.rest.now ≡ c.args.self.now.rest = search rules in
    let is : c.from_residual.result ≡ None = search rules in
    rw is (rw same at none, refl)

pub invariant_of-self : goal.invariant_of-self
invariant_of-self c =
    let t = cut_takes 10 c.self.inside.rest.now _ c.in_ok-line.ensures.exact in
    grind (arith, ap length t.1, length-append c.in_ok-line.line.now (10 ∷ c.in_ok-line.rest.now))

pub returns-clause-found : goal.returns-clause-found
returns-clause-found c =
    let t = cut_takes 10 c.self.inside.rest.now _ c.in_ok-line.ensures.exact in
    search (t.0, t.1, rules)
