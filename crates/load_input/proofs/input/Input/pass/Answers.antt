use Rattle.std.proofs.Common.{◌≡◌, ℕ, ◌+◌, ◌-◌, ◌≤◌, List, take, drop, sym, ap, ◌∙◌, arith, length, length-take}
use Rattle.std.proofs.lemmas.List.{drop-take, drop-drop}
use Rattle.load_input.specs.Inputs.{Buffered}
use Rattle.load_input.proofs.input.Input.pass.Goals as goal

passing : (xs : List ℕ) (from to n : ℕ) → n ≤ to - from
    → take (to - (from + n)) (drop (from + n) xs) ≡ drop n (take (to - from) (drop from xs))
passing xs from to n le =
    let parts : to - from ≡ n + (to - (from + n)) = omega arith in
    sym (ap (λ (k : ℕ). drop n (take k (drop from xs))) parts
    ∙ drop-take n (to - (from + n)) (drop from xs)
    ∙ ap (λ (l : List ℕ). take (to - (from + n)) l) (drop-drop n from xs))

pub returns-clause-octets : goal.returns-clause-octets
returns-clause-octets c =
    let s = c.self.inside in
    let octets : take (s.to - s.from) (drop s.from s.piece.items) ≡ c.args.self.now.octets =
    ap (λ (b : Buffered). b.octets) c.self.view_is in
    passing s.piece.items s.from s.to c.args.n
    (omega (arith, c.requires, ap length octets, length-take (s.to - s.from) (drop s.from s.piece.items)))
    ∙ ap (λ (l : List ℕ). drop c.args.n l) octets
