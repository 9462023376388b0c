-- The blocks of a stream are free ones of the pool as it was.
use Rattle.std.proofs.Common.{ℕ, ◌+◌, ◌≤◌, List, [], Bool, length, get_or, sym, subst, arith, All, Option, None, Some, unwrap_or}
use Rattle.edge_board.specs.Board.{InBlock}
use Rattle.block_pool.specs.Pools.{IsFree}
use Rattle.block_pool.proofs.PoolLemmas.{least_free}
use Rattle.content_stream.specs.Plans.{TakesBlocks}
use Rattle.content_stream.specs.declared.content_stream.ContentStream.{ContentStream}
use Rattle.content_stream.specs.Streams.{IsFed}
use Rattle.content_stream.specs.Plans.{Plan, IsPlanned, InStream, LiesBelow, numbers_of}

pub taken_free : (n : ℕ) (old new : List Bool) (blocks : Option (List ℕ)) → TakesBlocks n old new blocks
    → All (IsFree old) (unwrap_or blocks [])
taken_free n old new None taken = λ k d lt. absurd (omega (arith, lt))
taken_free n old new (Some numbers) taken =
    subst (λ (l : List ℕ). All (IsFree old) l) (sym taken.1) (least_free old n)

module _ (base whole : ℕ) (front : List ℕ) (old new : List Bool) (plan : Plan)
    (planned : IsPlanned base whole front old new plan) where
  pub planned_free : (i : ℕ) → InStream plan i
      → (n : ℕ) × IsFree old n × InBlock (base + n) i
  planned_free i inside = (
    get_or (numbers_of plan) inside.0 0,
    taken_free _ old new plan.blocks planned.taken inside.0 0 inside.1,
    (omega (arith, inside.2.0, planned.same_base), omega (arith, inside.2.1, planned.same_base)),
  )

  pub planned_lies : (blocks : ℕ) → base + length old ≤ blocks → LiesBelow blocks plan
  planned_lies blocks fits k lt =
      omega (arith, planned.same_base, (taken_free _ old new plan.blocks planned.taken k 0 lt).0)

-- what holds of each flash holds where a board tells its cells
pub fed_told : (told : Type 0) (stream : ContentStream) (fed cells : List ℕ)
    → IsFed (Unit {0}) stream fed cells → IsFed told stream fed cells
fed_told told stream fed cells is = record {
  count = is.count;
  content = is.content;
  image = is.image;
  stored = λ t some. is.stored tt some;
}
