use Rattle.constraint_meet.specs.Places.{Key}
use Rattle.explain_text.proofs.Groups.{in_turn, is_of_key, of_key_is}
use Rattle.explain_text.proofs.keys.keys_of.Goals as goal

pub slice_bounds-result-count : goal.slice_bounds-result-count
slice_bounds-result-count c =
    in_turn (λ (key : Key). key.0) c.args.keys.now c.args.id.now c.first_of-first.result c.end_of-end.result
    c.end_of-end.ensures.bound c.first_of-first.ensures.parted c.end_of-end.ensures.parted c.first_of-first.ensures.bound

pub slice_bounds-result-start : goal.slice_bounds-result-start
slice_bounds-result-start c =
    in_turn (λ (key : Key). key.0) c.args.keys.now c.args.id.now c.first_of-first.result c.end_of-end.result
    c.end_of-end.ensures.bound c.first_of-first.ensures.parted c.end_of-end.ensures.parted c.first_of-first.ensures.bound

pub returns : goal.returns
returns c = λ key.
    let low = in_turn (λ (key : Key). key.0) c.args.keys.now c.args.id.now c.first_of-first.result c.end_of-end.result
    c.end_of-end.ensures.bound c.first_of-first.ensures.parted c.end_of-end.ensures.parted c.first_of-first.ensures.bound in (
      is_of_key (λ (k : Key). k.0) c.args.keys.now c.args.id.now c.first_of-first.result c.end_of-end.result
          c.end_of-end.ensures.bound c.first_of-first.ensures.parted c.end_of-end.ensures.parted low key,
      λ both.
          of_key_is (λ (k : Key). k.0) c.args.keys.now c.args.id.now c.first_of-first.result c.end_of-end.result
          c.end_of-end.ensures.bound c.first_of-first.ensures.parted c.end_of-end.ensures.parted key both.0 both.1,
    )
