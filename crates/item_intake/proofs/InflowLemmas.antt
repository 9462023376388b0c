-- A content on its way goes on.
use Rattle.std.specs.Prelude.{MatchOption}
use Rattle.std.proofs.Common.{drop, Option, Some, None, append_assoc, take-append-drop, ◌≡◌, ℕ, zero, suc, ◌+◌, ◌-◌, ◌≤◌, min, List, Bool, ◌++◌, length, take, sym, ap, subst, ◌∙◌, arith, length-append, append-nil, IsSome, refl}
use Rattle.std.proofs.lemmas.List.{take_all, take-append-le, nil_from_length, take_rest}
use Rattle.edge_board.specs.Board.{View}
use Rattle.content_stream.specs.ImageBlocks.{RisesTo, RisesBy}
use Rattle.content_stream.specs.Plans.{Plan, IsPlanned, blocks_begun}
use Rattle.content_stream.specs.Streams.{IsFed, plan_of, fed_of}
use Rattle.content_stream.specs.declared.content_stream.ContentStream.{ContentStream}
use Rattle.item_intake.specs.Inflows.{Start, Streams, Gathered, IsInflow}
use Rattle.item_intake.specs.declared.inflow.Inflow.{Inflow}

-- a content's front stays while it grows, within its size
pub front_stays : (size : ℕ) (content piece : List ℕ) → min 6 size ≤ length content → length content + length piece ≤ size
    → take 6 (content ++ piece) ≡ take 6 content
front_stays size content piece begun room = by_length (length piece) refl
  where
    by_length : (n : ℕ) → length piece ≡ n → take 6 (content ++ piece) ≡ take 6 content
    by_length zero none =
        ap (take 6) (ap (λ (x : List ℕ). content ++ x) (nil_from_length piece none) ∙ append-nil content)
    by_length (suc n) some = take-append-le 6 content piece (omega arith)

module _ {told moments : Type 0} (size : ℕ) (start : Start) (pool : List Bool) (v w : View)
    (stream stream' : ContentStream) (content : List ℕ)
    (s : Streams told moments size start pool v stream content) where
  pub streams_more : (piece : List ℕ) → length content + length piece ≤ size → plan_of stream' ≡ plan_of stream
      → IsFed told stream' (content ++ piece) w.cells → w.blocks ≡ v.blocks
      → RisesTo (blocks_begun (plan_of stream) (fed_of stream))
      (blocks_begun (plan_of stream) (fed_of stream + length piece)) v.erased w.erased
      → (moments → IsSome (plan_of stream).blocks → RisesBy (blocks_begun (plan_of stream) (fed_of stream))
      (blocks_begun (plan_of stream) (fed_of stream + length piece)) v.erased w.erased)
      → Streams told moments size start pool w stream' (content ++ piece)
  streams_more piece room plan fed blocks rises least =
      let wrap : (plan_of stream').wrap_size ≡ (plan_of stream).wrap_size = ap (λ (p : Plan). p.wrap_size) plan in
      let more : length (content ++ piece) ≡ length content + length piece = length-append content piece in
      let count : length content ≡ stream.fed = s.fed.count in
      record {
        fed = fed;
        plan = subst (λ (l : List ℕ). IsPlanned 84 size l start.pool pool (plan_of stream'))
            (sym (front_stays size content piece s.begun room))
            (subst (λ (p : Plan). IsPlanned 84 size (take 6 content) start.pool pool p) (sym plan) s.plan);
        begun = omega (arith, s.begun);
        within = omega arith;
        most = record {
          later = omega (arith, s.most.later, rises.later);
          most = omega (arith, s.most.most, rises.most);
        };
        least = λ told some.
            let was : IsSome (plan_of stream).blocks = subst (λ (p : Plan). IsSome p.blocks) plan some in
            omega (arith, s.least told was, least told was);
        lies = omega (arith, s.lies);
      }

-- what is fed where the board tells nothing was fed where it tells
pub fed_told : (told : Type 0) (stream : ContentStream) (fed cells : List ℕ) → IsFed (Unit {0}) stream fed cells
    → IsFed told stream fed cells
fed_told told stream fed cells f = record {
  count = f.count;
  content = f.content;
  image = f.image;
  stored = λ t. f.stored tt;
}

-- a stream that was fed a content's front
pub streams_front : {told moments : Type 0} (size : ℕ) (start : Start) (pool : List Bool) (v w : View)
    (stream stream' : ContentStream) (front : List ℕ) → IsPlanned 84 size front start.pool pool (plan_of stream)
    → fed_of stream ≡ 0 → length front ≡ min 6 size → plan_of stream' ≡ plan_of stream
    → IsFed told stream' front w.cells → w.blocks ≡ v.blocks → v.erased ≡ start.erased
    → 84 + length start.pool ≤ v.blocks
    → RisesTo (blocks_begun (plan_of stream) (fed_of stream))
    (blocks_begun (plan_of stream) (fed_of stream + length front)) v.erased w.erased
    → (moments → IsSome (plan_of stream).blocks → RisesBy (blocks_begun (plan_of stream) (fed_of stream))
    (blocks_begun (plan_of stream) (fed_of stream + length front)) v.erased w.erased)
    → Streams told moments size start pool w stream' front
streams_front size start pool v w stream stream' front planned none is plan fed blocks before lies rises least =
    let wrap : (plan_of stream').wrap_size ≡ (plan_of stream).wrap_size = ap (λ (p : Plan). p.wrap_size) plan in
    record {
      fed = fed;
      plan = subst (λ (l : List ℕ). IsPlanned 84 size l start.pool pool (plan_of stream'))
          (sym (take_all 6 front (omega arith)))
          (subst (λ (p : Plan). IsPlanned 84 size front start.pool pool p) (sym plan) planned);
      begun = omega arith;
      within = omega arith;
      most = record { later = omega (arith, rises.later); most = omega (arith, rises.most) };
      least = λ told some.
          let was : IsSome (plan_of stream).blocks = subst (λ (p : Plan). IsSome p.blocks) plan some in
          omega (arith, least told was);
      lies = omega arith;
    }

-- the same start, and the same octets
pub streams_begun : {told moments : Type 0} (size : ℕ) (start : Start) (before pool : List Bool) (erased : ℕ) (w : View)
    (stream : ContentStream) (octets content : List ℕ)
    → Streams told moments size (record { pool = before; erased = erased }) pool w stream octets
    → before ≡ start.pool → erased ≡ start.erased → octets ≡ content
    → Streams told moments size start pool w stream content
streams_begun {told} {moments} size start before pool erased w stream octets content s same count text =
    let starts : ◌≡◌ {A = Start} (record { pool = before; erased = erased }) start =
    ap (λ (x : List Bool). record { pool = x; erased = erased }) same
    ∙ ap (λ (x : ℕ). record { pool = start.pool; erased = x }) count in
    subst (λ (x : Start). Streams told moments size x pool w stream content) starts
    (subst (λ (x : List ℕ). Streams told moments size (record { pool = before; erased = erased }) pool w stream x) text s)

pub inflow_streams : (told moments : Type 0) (size : ℕ) (start : Start) (pool : List Bool) (v : View) (inflow : Inflow)
    (content : List ℕ) (stream : ContentStream) → inflow.stream ≡ Some stream
    → IsInflow told moments size start pool v inflow content → Streams told moments size start pool v stream content
inflow_streams told moments size start pool v inflow content stream is h =
    subst (λ (o : Option ContentStream). MatchOption o (Gathered told size start pool v inflow.front.items content)
    (λ stream. Streams told moments size start pool v stream content)) is h

pub inflow_gathered : (told moments : Type 0) (size : ℕ) (start : Start) (pool : List Bool) (v : View) (inflow : Inflow)
    (content : List ℕ) → inflow.stream ≡ None
    → IsInflow told moments size start pool v inflow content
    → Gathered told size start pool v inflow.front.items content
inflow_gathered told moments size start pool v inflow content is h =
    subst (λ (o : Option ContentStream). MatchOption o (Gathered told size start pool v inflow.front.items content)
    (λ stream. Streams told moments size start pool v stream content)) is h

-- a front and the rest of a piece behind what was gathered
pub gathered_whole : (front content piece taken : List ℕ) (n : ℕ) → front ≡ content → taken ≡ front ++ take n piece
    → taken ++ take (length piece - n) (drop n piece) ≡ content ++ piece
gathered_whole front content piece taken n is text =
    ap (λ (x : List ℕ). x ++ take (length piece - n) (drop n piece)) (text ∙ ap (λ (x : List ℕ). x ++ take n piece) is)
    ∙ append_assoc content (take n piece) (take (length piece - n) (drop n piece))
    ∙ ap (λ (x : List ℕ). content ++ x)
    (ap (λ (x : List ℕ). take n piece ++ x) (take_rest piece n)
    ∙ take-append-drop n piece)
