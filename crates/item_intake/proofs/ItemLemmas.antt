-- One item, from its first octet to its end.
use Rattle.std.specs.Prelude.{MatchOption}
use Rattle.std.proofs.Common.{◌≡◌, ℕ, zero, suc, ◌+◌, ◌-◌, ◌/◌, ◌^◌, ◌<◌, ◌≤◌, min, List, [], ◌∷◌, Bool, true, false, ◌++◌, length, take, drop, Option, Some, None, sym, ap, subst, ◌∙◌, arith, append_assoc, length-take, length-drop, refl, inl, inr, IsSome}
use Rattle.std.proofs.lemmas.Bool.{false≢true}
use Rattle.edge_board.specs.Board.{View, IsSettled}
use Rattle.block_pool.specs.Pools.{free_numbers}
use Rattle.package_attrs.specs.Image.{blocks_for}
use Rattle.der_core.specs.Head.{head_octets}
use Rattle.der_core.specs.Items.{IsSequence, HasSequence}
use Rattle.der_core.specs.Progress.{Declares}
use Rattle.der_core.proofs.Sequences.{begins_from_has, begins_from_declares, has_from_is, declares_once}
use Rattle.content_stream.specs.Plans.{TakesBlocks, image_size}
use Rattle.content_stream.specs.Streams.{plan_of}
use Rattle.content_stream.specs.declared.content_stream.ContentStream.{ContentStream}
use Rattle.cms_signed.specs.Cut.{HasCut, AreParts, before_content, HeadPart, Opens}
use Rattle.cms_signed.specs.Outline.{Seen, Sees, NoCut, content_of}
use Rattle.judge_core.specs.Conditions.{most_contents}
use Rattle.item_intake.specs.declared.item.Held.{Held}
use Rattle.item_intake.specs.declared.inflow.Inflow.{Inflow}
use Rattle.item_intake.specs.declared.intake.Intake.{Intake}
use Rattle.item_intake.specs.declared.reader.Reader.{Reader}
use Rattle.item_intake.specs.Inflows.{Start, Streams, Gathered, IsInflow, RisesAtMost}
use Rattle.item_intake.specs.Intakes.{IsOnItsWay, IsIntake}
use Rattle.item_intake.specs.HeldItems.{HasStreamed, IsHeldItem}
use Rattle.item_intake.specs.Reading.{IsPast, IsTaking, IsReading, IsFresh}
use Rattle.item_intake.specs.ReadItem.{HasErased, content_come}
use Rattle.item_intake.specs.Turns.{EndsItem}
use Rattle.item_intake.proofs.IntakeLemmas.{intake_erased, rises_weaker}

-- ---- the end

pub ends_last : (whole : Bool) (left : Option (List ℕ)) (octets : List ℕ) → EndsItem whole left octets
    → HasSequence octets → IsSequence octets
ends_last true left octets h has = h
ends_last false left octets h has = absurd (h.0 has)

pub ends_whole : (whole : Bool) (left : Option (List ℕ)) (octets : List ℕ) → whole ≡ true → EndsItem whole left octets
    → IsSequence octets
ends_whole whole left octets is h = subst (λ (b : Bool). EndsItem b left octets) is h

pub past_too_long : (item : List ℕ) → IsSequence item → IsPast item
    → (size : ℕ) × Declares item size × (most_contents < size)
past_too_long item s (inl h) = h
past_too_long item s (inr never) = absurd (never (begins_from_has item (has_from_is item s)))

pub taken_all : (told moments : Type 0) (start : Start) (pool : List Bool) (v : View) (intake : Intake) (skips : Bool)
    (item : List ℕ) → skips ≡ false → IsTaking told moments start pool v intake skips item
    → IsIntake told moments start pool v intake item
taken_all told moments start pool v intake skips item is t =
    subst (λ (l : List ℕ). IsIntake told moments start pool v intake l) (t.same is) t.intake_is

pub held_item : (told moments : Type 0) (start : Start) (pool now : List Bool) (v w : View) (intake : Intake) (held : Held)
    (octets : List ℕ) → IsIntake told moments start pool v intake octets → IsSequence octets
    → ((size : ℕ) → Declares octets size → size ≤ most_contents) → held.outline ≡ intake.outline
    → HasStreamed told start.pool now w intake.outline.cut (content_of intake.outline.cut octets) held.streamed
    → IsHeldItem told start.pool now w held octets
held_item told moments start pool now v w intake held octets h s kept same streamed = record {
  sequence = s;
  are = h.octets;
  kept = kept;
  sees = subst (λ (x : Seen). Sees x octets) (sym same) h.sees;
  streamed = subst (λ (x : Seen). HasStreamed told start.pool now w x.cut (content_of x.cut octets) held.streamed) (sym same) streamed;
}

pub reading_erased : (told moments : Type 0) (start : Start) (pool : List Bool) (v : View) (reader : Reader) (item : List ℕ)
    → IsReading told moments start pool v reader item → RisesAtMost (blocks_for (length item)) start.erased v.erased
reading_erased told moments start pool v reader item h =
    rises_weaker (length h.taking.seen) (length item) start.erased v.erased h.taking.few
    (intake_erased start pool v reader.intake h.taking.seen h.taking.intake_is)

-- ---- the head of a content

-- an outline with a cut has seen the head of a content
cut_at : (seen : Seen) (item : List ℕ) (cut : ℕ × ℕ) → seen.cut ≡ Some cut → Sees seen item → HasCut item cut.0 cut.1
cut_at seen item cut is sees = (subst (λ (o : Option (ℕ × ℕ)). MatchOption o
    (NoCut item × (seen.frame ≡ item) × (seen.count ≡ 0))
    (λ cut. HasCut item cut.0 cut.1
    × (seen.frame ≡ take cut.0 item ++ drop (cut.0 + cut.1) item)
    × (seen.count ≡ min cut.1 (length item - cut.0)))) is sees).0

-- an outline without one has seen none
cut_none : (seen : Seen) (item : List ℕ) → seen.cut ≡ None → Sees seen item → NoCut item
cut_none seen item is sees = (subst (λ (o : Option (ℕ × ℕ)). MatchOption o
    (NoCut item × (seen.frame ≡ item) × (seen.count ≡ 0))
    (λ cut. HasCut item cut.0 cut.1
    × (seen.frame ≡ take cut.0 item ++ drop (cut.0 + cut.1) item)
    × (seen.count ≡ min cut.1 (length item - cut.0)))) is sees).0

opens_declares : (parts : List HeadPart) (item head tail : List ℕ) (left size : ℕ) → item ≡ head ++ tail
    → AreParts (Opens 0x30 ∷ parts) left head size → (contents : ℕ) × Declares item contents
opens_declares parts item head tail left size e (front, between, rest, (h, width, is), more, text) = (
  between,
  record {
    head = h;
    rest = rest ++ tail;
    text = e ∙ ap (λ (x : List ℕ). x ++ tail) (text ∙ ap (λ (x : List ℕ). x ++ rest) is) ∙ append_assoc (head_octets 0x30 between) rest tail;
  },
)

abbrev inside : List HeadPart → List HeadPart
inside [] = []
inside (part ∷ parts) = parts

pub cut_declares : (item : List ℕ) (place size : ℕ) → HasCut item place size → (contents : ℕ) × Declares item contents
cut_declares item place size h = opens_declares (inside before_content) item h.head h.rest (2 ^ 33) size h.text h.before

-- ---- the beginning

none_declared : (size : ℕ) → Declares [] size → ⊥
none_declared size d = let e = d.text in cc

none_cut : (seen : Seen) → Sees seen [] → seen.cut ≡ None
none_cut seen sees = by_cut seen.cut refl
  where
    by_cut : (o : Option (ℕ × ℕ)) → seen.cut ≡ o → seen.cut ≡ None
    by_cut None is = is
    by_cut (Some cut) is =
        let head = cut_declares [] cut.0 cut.1 (cut_at seen [] cut is sees) in absurd (none_declared head.0 head.1)

pub reading_none : (told moments : Type 0) (start : Start) (v : View) (reader : Reader) → IsFresh reader
    → (told → IsSettled v) → v.erased ≡ start.erased → 84 + length start.pool ≤ v.blocks
    → IsReading told moments start start.pool v reader []
reading_none told moments start v reader fresh settled erased lies = record {
  split = record {
    sees = fresh.splitter;
    none = λ is. refl;
    some = λ is. absurd (false≢true (sym fresh.started ∙ is));
    past = λ is. absurd (false≢true (sym fresh.skips ∙ is));
    kept = λ is size d. absurd (none_declared size d);
  };
  taking = record {
    seen = [];
    intake_is = record {
      octets = λ i. omega arith;
      sees = fresh.outline;
      held = subst (λ (o : Option (ℕ × ℕ)). IsOnItsWay told moments start start.pool v reader.intake.inflow o (content_of o []))
          (sym (none_cut reader.intake.outline fresh.outline)) (
            fresh.none,
            record {
              front_is = fresh.front;
              few = λ some. absurd (omega (arith, some));
              pool_is = refl;
              settled = settled;
              erased = erased;
              lies = lies;
            },
          );
    };
    few = omega arith;
    same = λ is. refl;
  };
}

-- ---- the least rise

-- no octets have two contents
abbrev pub OneContent : Type 0
OneContent = (item : List ℕ) (place size other count : ℕ) → HasCut item place size → HasCut item other count
    → (place ≡ other) × (size ≡ count)

cut_known : OneContent → (seen : Seen) (item : List ℕ) (place size : ℕ) → Sees seen item → HasCut item place size
    → seen.cut ≡ Some (place, size)
cut_known one seen item place size sees h = by_cut seen.cut refl
  where
    by_cut : (o : Option (ℕ × ℕ)) → seen.cut ≡ o → seen.cut ≡ Some (place, size)
    by_cut None is = absurd (cut_none seen item is sees place size h)
    by_cut (Some cut) is =
        let same = one item cut.0 cut.1 place size (cut_at seen item cut is sees) h in
        is ∙ ap (λ (n : ℕ). Some (n, cut.1)) same.0 ∙ ap (λ (n : ℕ). Some (place, n)) same.1

some_blocks : (n : ℕ) (old new : List Bool) (blocks : Option (List ℕ)) → n ≤ length (free_numbers old)
    → TakesBlocks n old new blocks → IsSome blocks
some_blocks n old new None le taken = absurd (omega (arith, taken.0))
some_blocks n old new (Some numbers) le taken = refl

inflow_least : (told moments : Type 0) (size : ℕ) (start : Start) (pool : List Bool) (v : View) (inflow : Inflow)
    (content : List ℕ) → moments → blocks_for size ≤ length (free_numbers start.pool)
    → IsInflow told moments size start pool v inflow content
    → start.erased + (length content - 6) / 4096 ≤ v.erased
inflow_least told moments size start pool v inflow content tells room h = by_stream inflow.stream h
  where
    by_stream : (o : Option ContentStream) → MatchOption o (Gathered told size start pool v inflow.front.items content)
        (λ stream. Streams told moments size start pool v stream content)
        → start.erased + (length content - 6) / 4096 ≤ v.erased
    by_stream None g =
        let few : length content ≤ 6 = by_length (length content) g.few in
        omega (arith, g.erased)
      where
        by_length : (n : ℕ) → (0 < n → n < min 6 size) → n ≤ 6
        by_length zero few = omega arith
        by_length (suc n) few = omega (arith, few (omega arith))
    by_stream (Some s) g =
        let enough : blocks_for (image_size (plan_of s)) ≤ length (free_numbers start.pool) =
        omega (arith, g.plan.same_size, room) in
        omega (
          arith,
          g.least tells (some_blocks (blocks_for (image_size (plan_of s))) start.pool pool (plan_of s).blocks enough g.plan.taken),
          g.plan.short,
        )

pub reading_least : OneContent → (told moments : Type 0) (start : Start) (pool : List Bool) (v : View) (reader : Reader) (item : List ℕ)
    → IsReading told moments start pool v reader item → HasErased moments start.pool start.erased v item
reading_least one told moments start pool v reader item h tells place size cut within room = by_skips reader.skips refl
  where
    by_past : (contents : ℕ) → Declares item contents → IsPast item → ⊥
    by_past contents d (inl p) = omega (arith, p.2, declares_once item p.0 contents p.1 d, within contents d)
    by_past contents d (inr never) = never (begins_from_declares item contents d)

    by_skips : (b : Bool) → reader.skips ≡ b → start.erased + (content_come item place size - 6) / 4096 ≤ v.erased
    by_skips true is =
        let head = cut_declares item place size cut in absurd (by_past head.0 head.1 (h.split.past is))
    by_skips false is =
        let x = taken_all told moments start pool v reader.intake reader.skips item is h.taking in
        let at = cut_known one reader.intake.outline item place size x.sees cut in
        let held = subst (λ (o : Option (ℕ × ℕ)). IsOnItsWay told moments start pool v reader.intake.inflow o (content_of o item)) at x.held in
        omega (
          arith,
          inflow_least told moments size start pool v reader.intake.inflow (take size (drop place item)) tells room held,
          length-take size (drop place item),
          length-drop place item,
        )
