-- An item that has come so far goes on.
use Rattle.std.specs.Prelude.{MatchOption, IfSome}
use Rattle.std.proofs.Common.{◌≡◌, ℕ, ◌+◌, ◌-◌, ◌≤◌, List, [], Bool, ◌++◌, length, take, drop, Option, Some, None, sym, ap, subst, ◌∙◌, arith, length-append, length-take, length-drop, refl, inl, inr}
use Rattle.std.proofs.lemmas.Bool.{cases_lt}
use Rattle.std.proofs.lemmas.List.{get_or_append_left, get_or-append_right}
use Rattle.edge_board.specs.Board.{View}
use Rattle.der_core.specs.Element.{AreOctets}
use Rattle.package_attrs.specs.Image.{blocks_for}
use Rattle.content_stream.specs.declared.content_stream.ContentStream.{ContentStream}
use Rattle.cms_signed.specs.Outline.{Seen, Sees, content_of}
use Rattle.item_intake.specs.declared.inflow.Inflow.{Inflow}
use Rattle.item_intake.specs.declared.intake.Intake.{Intake}
use Rattle.item_intake.specs.Inflows.{Start, Streams, Gathered, RisesAtMost, IsInflow}
use Rattle.item_intake.specs.Intakes.{IsIdle, IsOnItsWay, IsIntake}

pub octets_append : (xs ys : List ℕ) → AreOctets xs → AreOctets ys → AreOctets (xs ++ ys)
octets_append xs ys a b i = elim (cases_lt i (length xs)) [
  | inl lt ↦ omega (arith, get_or_append_left xs ys 0 i lt, a i)
  | inr le ↦ omega (arith, get_or-append_right xs ys (length xs) i 0 refl le, b (i - length xs))
]

pub rises_weaker : (m n before now : ℕ) → m ≤ n → RisesAtMost (blocks_for m) before now → RisesAtMost (blocks_for n) before now
rises_weaker m n before now le r = record { later = r.later; most = omega (arith, r.most) }

-- where nothing was done, no octet of a content of any size has come
pub idle_inflow : (told moments : Type 0) (size : ℕ) (start : Start) (pool : List Bool) (v : View) (inflow : Inflow)
    → IsIdle told start pool v inflow → IsInflow told moments size start pool v inflow []
idle_inflow told moments size start pool v inflow idle =
    subst (λ (o : Option ContentStream). MatchOption o (Gathered told size start pool v inflow.front.items [])
    (λ stream. Streams told moments size start pool v stream [])) (sym idle.0) (record {
      front_is = idle.1.front_is;
      few = λ some. omega arith;
      pool_is = idle.1.pool_is;
      settled = idle.1.settled;
      erased = idle.1.erased;
      lies = idle.1.lies;
    })

inflow_erased : (told moments : Type 0) (size : ℕ) (start : Start) (pool : List Bool) (v : View) (inflow : Inflow)
    (content : List ℕ) → IsInflow told moments size start pool v inflow content
    → RisesAtMost (blocks_for (length content)) start.erased v.erased
inflow_erased told moments size start pool v inflow content h = by_stream inflow.stream h
  where
    by_stream : (o : Option ContentStream) → MatchOption o (Gathered told size start pool v inflow.front.items content)
        (λ stream. Streams told moments size start pool v stream content)
        → RisesAtMost (blocks_for (length content)) start.erased v.erased
    by_stream None g = record { later = omega (arith, g.erased); most = omega (arith, g.erased) }
    by_stream (Some s) g = record { later = g.most.later; most = omega (arith, g.most.most) }

pub held_erased : (told moments : Type 0) (start : Start) (pool : List Bool) (v : View) (inflow : Inflow)
    (cut : Option (ℕ × ℕ)) (content : List ℕ) → IsOnItsWay told moments start pool v inflow cut content
    → RisesAtMost (blocks_for (length content)) start.erased v.erased
held_erased told moments start pool v inflow None content h =
    record { later = omega (arith, h.1.erased); most = omega (arith, h.1.erased) }
held_erased told moments start pool v inflow (Some cut) content h =
    inflow_erased told moments cut.1 start pool v inflow content h

-- a content is no longer than its item
pub content_few : (cut : Option (ℕ × ℕ)) (item : List ℕ) → length (content_of cut item) ≤ length item
content_few None item = omega arith
content_few (Some cut) item = omega (arith, length-take cut.1 (drop cut.0 item), length-drop cut.0 item)

-- a content is no longer than its cut says
pub content_fits : (cut : Option (ℕ × ℕ)) (item a b : List ℕ) → content_of cut item ≡ a ++ b
    → IfSome cut (λ cut. length a + length b ≤ cut.1)
content_fits None item a b is = tt
content_fits (Some cut) item a b is =
    omega (arith, ap length is, length-append a b, length-take cut.1 (drop cut.0 item))

module _ (told moments : Type 0) (start : Start) (pool : List Bool) (v : View) (inflow : Inflow) where
  -- what is held of an item's content stays so as more of its frame comes
  pub held_on : (cut cut' : Option (ℕ × ℕ)) (item : List ℕ) → ((known : ℕ × ℕ) → cut ≡ Some known → cut' ≡ Some known)
      → IsOnItsWay told moments start pool v inflow cut (content_of cut item)
      → IsOnItsWay told moments start pool v inflow cut' (content_of cut item)
  held_on None None item stays h = h
  held_on None (Some b) item stays h = idle_inflow told moments b.1 start pool v inflow h
  held_on (Some a) cut' item stays h =
      subst (λ (o : Option (ℕ × ℕ)). IsOnItsWay told moments start pool v inflow o (take a.1 (drop a.0 item)))
      (sym (stays a refl)) h

-- one step of an item
module _ {told moments : Type 0} (start : Start) (pool : List Bool) (v : View) (intake : Intake) (item : List ℕ)
    (h : IsIntake told moments start pool v intake item) where
  pub held_next : (outline' : Seen) (cut' : Option (ℕ × ℕ))
      → ((known : ℕ × ℕ) → intake.outline.cut ≡ Some known → outline'.cut ≡ Some known) → cut' ≡ outline'.cut
      → IsOnItsWay told moments start pool v intake.inflow cut' (content_of intake.outline.cut item)
  held_next outline' cut' stays is = held_on told moments start pool v intake.inflow intake.outline.cut cut' item
      (λ known at. is ∙ stays known at) h.held

  pub fits_next : (outline' : Seen) (more gained : List ℕ) (cut' : Option (ℕ × ℕ)) → cut' ≡ outline'.cut
      → content_of outline'.cut (item ++ more) ≡ content_of intake.outline.cut item ++ gained
      → IfSome cut' (λ cut. length (content_of intake.outline.cut item) + length gained ≤ cut.1)
  fits_next outline' more gained cut' is text =
      content_fits cut' (item ++ more) (content_of intake.outline.cut item) gained
      (ap (λ (c : Option (ℕ × ℕ)). content_of c (item ++ more)) is ∙ text)

  pub intake_next : (outline' : Seen) (inflow' : Inflow) (more gained : List ℕ) (cut' : Option (ℕ × ℕ))
      (pool' : List Bool) (w : View) → AreOctets more → Sees outline' (item ++ more) → cut' ≡ outline'.cut
      → content_of outline'.cut (item ++ more) ≡ content_of intake.outline.cut item ++ gained
      → IsOnItsWay told moments start pool' w inflow' cut' (content_of intake.outline.cut item ++ gained)
      → IsIntake told moments start pool' w (record { outline = outline'; inflow = inflow' }) (item ++ more)
  intake_next outline' inflow' more gained cut' pool' w are sees' is text held = record {
    octets = octets_append item more h.octets are;
    sees = sees';
    held = subst (λ (c : Option (ℕ × ℕ)). IsOnItsWay told moments start pool' w inflow' c (content_of outline'.cut (item ++ more))) is
        (subst (λ (l : List ℕ). IsOnItsWay told moments start pool' w inflow' cut' l) (sym text) held);
  }

  pub intake_erased : RisesAtMost (blocks_for (length item)) start.erased v.erased
  intake_erased = rises_weaker (length (content_of intake.outline.cut item)) (length item) start.erased v.erased
      (content_few intake.outline.cut item)
      (held_erased told moments start pool v intake.inflow intake.outline.cut (content_of intake.outline.cut item) h.held)

-- what is held is on its way, with some size
pub held_inflow : (told moments : Type 0) (start : Start) (pool : List Bool) (v : View) (inflow : Inflow)
    (cut : Option (ℕ × ℕ)) (content : List ℕ) → IsOnItsWay told moments start pool v inflow cut content
    → (size : ℕ) × (octets : List ℕ) × IsInflow told moments size start pool v inflow octets
held_inflow told moments start pool v inflow None content h =
    (0, [], idle_inflow told moments 0 start pool v inflow h)
held_inflow told moments start pool v inflow (Some cut) content h = (cut.1, content, h)
