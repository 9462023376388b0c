use Rattle.std.proofs.Common.{◌≡◌, ℕ, ◌-◌, ◌≤◌, List, take, drop, length, ◌++◌, sym, ap, subst, ◌∙◌, arith, length-append, append_assoc, take-append-drop}
use Rattle.std.proofs.lemmas.List.{take_rest}
use Rattle.edge_board.proofs.RunLemmas.{touch_then}
use Rattle.item_intake.specs.Intakes.{IsIntake}
use Rattle.item_intake.proofs.IntakeLemmas.{intake_erased, rises_weaker}
use Rattle.item_intake.proofs.intake.Intake.take.Goals as goal

pub returns-in_err-n-clause-touches : goal.returns-in_err-n-clause-touches
returns-in_err-n-clause-touches g c start item h =
    let (done, text, so_far) = c.loop-rest.invariant.taken in
    touch_then _ _ _ (c.loop-rest.invariant.touches start item h)
    (c.take_part.ensures.touches start (item ++ done) (so_far start item h))

-- the octets done, and those of a front of the rest
more_done : (piece done rest : List ℕ) (n : ℕ) → n ≤ length rest → piece ≡ done ++ rest
    → piece ≡ (done ++ take n rest) ++ take (length rest - n) (drop n rest)
more_done piece done rest n le is =
    is ∙ ap (λ (l : List ℕ). done ++ l) (sym (ap (λ (l : List ℕ). take n rest ++ l) (take_rest rest n) ∙ take-append-drop n rest))
    ∙ sym (append_assoc done (take n rest) (take (length rest - n) (drop n rest)))

pub loop-rest-preserved : goal.loop-rest-preserved
loop-rest-preserved g c =
    let (done, text, so_far) = c.loop-rest.invariant.taken in
    let n = c.in_ok-n.n in
    record {
      taken = (
        done ++ take n c.loop-rest.rest.now,
        more_done c.args.piece.now done c.loop-rest.rest.now n c.in_ok-n.ensures.within.0 text,
        λ start item h. subst (λ (l : List ℕ). IsIntake g.B.Board.tells_cells g.B.Board.tells_moments start c.take_part.new.pool
            (g.B.Board.view c.take_part.new.board) c.take_part.new.self l)
            (append_assoc item done (take n c.loop-rest.rest.now))
            (c.in_ok-n.ensures.intake start (item ++ done) (so_far start item h)),
      );
      touches = λ start item h. touch_then _ _ _ (c.loop-rest.invariant.touches start item h)
          (c.take_part.ensures.touches start (item ++ done) (so_far start item h));
      faults = c.in_ok-n.ensures.device.calm (λ e. cc) ∙ c.loop-rest.invariant.faults;
    }

pub returns-clause-erased : goal.returns-clause-erased
returns-clause-erased g c start item h =
    let (done, text, so_far) = c.loop-rest.invariant.taken in
    rises_weaker (length (item ++ done)) _ _ _
    (omega (arith, length-append item done, length-append done c.loop-rest.rest.now, ap length text))
    (intake_erased start c.loop-rest.pool (g.B.Board.view c.loop-rest.board) c.loop-rest.self (item ++ done) (so_far start item h))
