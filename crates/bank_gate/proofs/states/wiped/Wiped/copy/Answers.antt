use Rattle.std.proofs.Common.{◌≡◌, ℕ, ◌+◌, ◌*◌, List, length, take, drop, get_or, ◌∙◌, ap, subst, arith, get_or-take, get_or-drop}
use Rattle.edge_board.specs.Board.{View, Nowhere, Within, InBlock, Effect, IsHonest, Programmed, AllRead, cell}
use Rattle.edge_board.specs.Runs.{Touches}
use Rattle.edge_board.proofs.RunLemmas.{touch, touch_wider, touch_next}
use Rattle.bank_gate.specs.declared.place.Place.{Place}
use Rattle.bank_gate.specs.Places.{IsPlace}
use Rattle.bank_gate.specs.States.{IsShut, Copies}
use Rattle.bank_gate.proofs.Shut.{gate_not_in_block, stays_shut}
use Rattle.bank_gate.proofs.states.wiped.Wiped.copy.Goals as goal

-- a read, and then a write of a block
module _ {tc tm : Type 0} (to n : ℕ) (a b c : View) (long : n ≡ 4096) (first : IsHonest tc tm a)
    (read : Effect tc tm Nowhere a b) (then : IsHonest tc tm b)
    (wrote : Effect tc tm (Within (4096 * to) n) b c) where
  copied : Touches tc (InBlock to) a c
  copied = touch_next a b c (touch_wider a b (λ told i none. absurd none) (touch a b first read)) then wrote
      (λ told i within. (within.0, omega (arith, within.1, long)))

  still_shut : (place : Place) → IsPlace place → Within place.area place.area_blocks to → tc
      → IsShut place a → IsShut place c
  still_shut place is inside told shut =
      stays_shut place a c told (gate_not_in_block place to is inside) shut copied

-- what was read at one place stands at the other
same : (from to : ℕ) (old mid new block : List ℕ) → length block ≡ 4096
    → block ≡ take (length block) (drop (4096 * from) old) → Programmed (4096 * to) block mid new
    → AllRead (4096 * to) 4096 255 old → ((i : ℕ) → cell mid i ≡ cell old i)
    → Copies (4096 * from) (4096 * to) 4096 old new
same from to old mid new block long is programmed blank kept i lt =
    programmed i (omega (arith, long))
    (kept (4096 * to + i) ∙ blank (4096 * to + i) (omega arith, omega arith))
    ∙ ap (λ (l : List ℕ). get_or l i 0) is
    ∙ get_or-take (length block) (drop (4096 * from) old) i 0 (omega (arith, lt, long))
    ∙ get_or-drop (4096 * from) old i 0

pub overflow_mul-from : goal.overflow_mul-from
overflow_mul-from g c = omega (arith, c.requires.from, (g.met.B.Board.honest c.args.board.now).most)

pub returns-in_err-program-clause-touches : goal.returns-in_err-program-clause-touches
returns-in_err-program-clause-touches g c =
    copied c.args.to _ _ _ _ (omega arith) (g.met.B.Board.honest c.args.board.now) c.read.ensures.reads.effect
    (g.met.B.Board.honest c.read.new.self) c.program.ensures.programs.effect

pub returns-clause-touches : goal.returns-clause-touches
returns-clause-touches g c =
    copied c.args.to _ _ _ _ (omega arith) (g.met.B.Board.honest c.args.board.now) c.read.ensures.reads.effect
    (g.met.B.Board.honest c.read.new.self) c.program.ensures.programs.effect

pub returns-in_err-program-clause-shut : goal.returns-in_err-program-clause-shut
returns-in_err-program-clause-shut g c = λ told.
    still_shut c.args.to _ _ _ _ (omega arith) (g.met.B.Board.honest c.args.board.now) c.read.ensures.reads.effect
    (g.met.B.Board.honest c.read.new.self) c.program.ensures.programs.effect
    c.args.self (subst IsPlace c.self.view_is c.self.invariant) c.requires.to told (c.requires.shut told)

pub returns-clause-shut : goal.returns-clause-shut
returns-clause-shut g c = λ told.
    still_shut c.args.to _ _ _ _ (omega arith) (g.met.B.Board.honest c.args.board.now) c.read.ensures.reads.effect
    (g.met.B.Board.honest c.read.new.self) c.program.ensures.programs.effect
    c.args.self (subst IsPlace c.self.view_is c.self.invariant) c.requires.to told (c.requires.shut told)

pub returns-clause-reads : goal.returns-clause-reads
returns-clause-reads g c = λ told.
    same c.args.from c.args.to (g.B.Board.view c.args.board.now).cells _ _ c.read.new.into (omega arith)
    (c.in_ok-read.ensures.reads.octets told) (c.in_ok-program.ensures.programs.reads told) (c.requires.blank told)
    (λ i. (c.read.ensures.reads.effect.cells told).each i (λ none. none))
