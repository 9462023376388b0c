use Rattle.std.proofs.Common.{◌≡◌, ◌∷◌, [], ℕ, List, Some, get_or, length, ◌∙◌, ap, rules, refl}
use Rattle.recipe_text.specs.Reading.{cut}
use Rattle.recipe_text.proofs.Oids.{uncut_first, long_first, no_second, no_joined, is_first, single, if_none}
use Rattle.recipe_text.proofs.oid_word.first_in.Goals as goal

pub returns-in_err-root-clause-none : goal.returns-in_err-root-clause-none
returns-in_err-root-clause-none c =
    if_none _ _ c.from_residual.ensures (λ s rest f. uncut_first c.args.word.now s rest c.in_err-root.ensures.exact f)

pub returns-then-root-ne1-clause-none : goal.returns-then-root-ne1-clause-none
returns-then-root-ne1-clause-none c =
    λ s rest f. long_first c.args.word.now c.in_ok-root.root.now c.in_ok-root.text.now s rest c.in_ok-root.ensures.exact
    c.if-root-ne1.true f

pub returns-in_err-number-clause-none : goal.returns-in_err-number-clause-none
returns-in_err-number-clause-none c =
    let root = c.in_ok-root.root.now in
    let one : length root ≡ 1 = search rules in
    let is : cut 46 c.args.word.now ≡ Some (get_or root 0 0 ∷ [], c.in_ok-root.text.now) =
    c.in_ok-root.ensures.exact ∙ ap (λ (r : List ℕ). Some (r, c.in_ok-root.text.now)) (single root one) in
    if_none _ _ c.from_residual-in_err-number.ensures
    (no_second c.args.word.now (get_or root 0 0) c.in_ok-root.text.now c.front_in.result.0.now _ is
    c.front_in.ensures.front c.in_err-number.ensures.spelled)

pub returns-in_err-first-clause-none : goal.returns-in_err-first-clause-none
returns-in_err-first-clause-none c =
    let root = c.in_ok-root.root.now in
    let one : length root ≡ 1 = search rules in
    let is : cut 46 c.args.word.now ≡ Some (get_or root 0 0 ∷ [], c.in_ok-root.text.now) =
    c.in_ok-root.ensures.exact ∙ ap (λ (r : List ℕ). Some (r, c.in_ok-root.text.now)) (single root one) in
    if_none _ _ c.from_residual-in_err-first.ensures
    (no_joined c.args.word.now (get_or root 0 0) c.in_ok-root.text.now c.front_in.result.0.now _ is
    c.front_in.ensures.front c.in_ok-number.number ((c.in_ok-number.ensures.spelled c.in_ok-number.number).0 refl)
    c.in_err-first.ensures.exact)

pub returns-clause-found : goal.returns-clause-found
returns-clause-found c =
    let root = c.in_ok-root.root.now in
    let one : length root ≡ 1 = search rules in
    let is : cut 46 c.args.word.now ≡ Some (get_or root 0 0 ∷ [], c.in_ok-root.text.now) =
    c.in_ok-root.ensures.exact ∙ ap (λ (r : List ℕ). Some (r, c.in_ok-root.text.now)) (single root one) in
    is_first c.args.word.now (get_or root 0 0) c.in_ok-root.text.now c.front_in.result.0.now _ is
    c.front_in.ensures.front c.in_ok-number.number c.in_ok-first.first
    ((c.in_ok-number.ensures.spelled c.in_ok-number.number).0 refl) c.in_ok-first.ensures.exact
