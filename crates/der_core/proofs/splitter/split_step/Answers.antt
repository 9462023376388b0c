use Rattle.std.proofs.Common.{◌≡◌, ◌<◌, List, ℕ, [], ◌∷◌, length, Bool, eqb, arith, subst, sym, ◌∙◌, true, false}
use Rattle.der_core.specs.Progress.{Progress, Sees}
use Rattle.der_core.specs.Splitter.{IsStep}
use Rattle.der_core.proofs.Sequences.{none_of_none}
use Rattle.der_core.proofs.Steps.{after_end, before_end}
use Rattle.der_core.proofs.Streams.{stands_step}
use Rattle.der_core.proofs.splitter.split_step.Goals.{then-has_ended, else-has_ended}
use Rattle.der_core.proofs.splitter.split_step.Goals as goal

false_true : false ≡ true → ⊥
false_true e = cc

some_octets : (piece : List ℕ) (empty : Bool) → empty ≡ eqb (length piece) 0 → empty ≡ false → 0 < length piece
some_octets [] empty is isnt = absurd (false_true (sym isnt ∙ is))
some_octets (o ∷ os) empty is isnt = omega arith

pub returns-clause-step : goal.returns-clause-step
returns-clause-step c some so_far awaits = elim c.if-has_ended.branch [
  | then-has_ended w ↦
      let none = after_end c.args.splitter.now so_far awaits (c.has_ended.ensures.0 w.if-has_ended.true) in
      let fresh = subst (λ (p : Progress). Sees p []) (sym w.splitter-is) w.new.ensures.fresh in
      subst (λ (x : List ℕ). IsStep x c.args.piece.now c.take.new.self c.take.result) (sym none)
      (c.take.ensures.step [] fresh none_of_none)
  | else-has_ended w ↦
      let going = before_end c.args.splitter.now so_far awaits
      (λ ended. false_true (sym w.if-has_ended.false ∙ c.has_ended.ensures.1 ended)) in
      let sees = subst (λ (p : Progress). Sees p so_far) (sym w.splitter-is) going.0 in
      c.take.ensures.step so_far sees going.1
]

pub returns-clause-stream : goal.returns-clause-stream
returns-clause-stream c stream ended so_far stands =
    let some = some_octets c.args.piece.now c.is_empty.result c.is_empty.ensures c.if-is_empty.false in
    stands_step c.take.new.self stream ended so_far c.args.piece.now c.take.result stands.splits
    (returns-clause-step c some so_far stands.awaits)
