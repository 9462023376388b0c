use Rattle.std.proofs.Common.{arith, rules}
use Rattle.bank_store.proofs.Reading.{key_read, no_key_read}
use Rattle.bank_store.proofs.open.held_key.Goals as goal

pub returns-clause-key : goal.returns-clause-key
returns-clause-key g c = λ told. key_read told _ _ _ (g.met.B.Board.honest c.args.board.now)
    c.sync.ensures.syncs.effect (omega (arith, c.if-blocks-lt-KEY_BOARD_BLOCKS.false, c.blocks-2.ensures.number))
    (c.sync.ensures.syncs.cells told) (c.is_open.ensures.unchanged told).cells
    ((c.in_ok-is_open.ensures.gate told).0 (search rules)) c.read.new.into (omega arith)
    (c.in_ok-read.ensures.reads.octets told) c.read_key_record.result c.read_key_record.ensures.spelled

pub returns-clause-none : goal.returns-clause-none
returns-clause-none g c = λ told. no_key_read told _ _ _ (g.met.B.Board.honest c.args.board.now)
    c.sync.ensures.syncs.effect (omega (arith, c.if-blocks-lt-KEY_BOARD_BLOCKS.false, c.blocks-2.ensures.number))
    (c.sync.ensures.syncs.cells told) (c.is_open.ensures.unchanged told).cells
    ((c.in_ok-is_open.ensures.gate told).0 (search rules)) c.read.new.into (omega arith)
    (c.in_ok-read.ensures.reads.octets told) c.read_key_record.result c.read_key_record.ensures.spelled
