-- Runs of calls, one after the other, and their images.
use Rattle.std.proofs.Common.{◌≡◌, ◌⊎◌, ℕ, List, inl, inr, ⊎_elim, ◌∙◌, refl, sym, subst, arith}
use Rattle.std.proofs.lemmas.List.{ext_get_or}
use Rattle.edge_board.specs.Board.{View, Keeps, Nowhere, SameTest, Unchanged, Elapses, Effect, Sends, NowSending}
use Rattle.edge_board.specs.Board.{IsHonest, IsSettled, Leaves, Now}
use Rattle.edge_board.specs.Runs.{LeavesOnly, KeepsRest, Spares, Changes, Touches}

-- a list keeps itself
pub keeps_all : {free : ℕ → Type 0} (cells : List ℕ) → Keeps free cells cells
keeps_all cells = record { size = refl; each = λ i out. refl }

-- what two changes in a row keep
pub keeps_then : {f g h : ℕ → Type 0} (a b c : List ℕ) → ((i : ℕ) → f i → h i) → ((i : ℕ) → g i → h i)
    → Keeps f a b → Keeps g b c → Keeps h a c
keeps_then a b c fh gh ab bc = record {
  size = bc.size ∙ ab.size;
  each = λ i out. bc.each i (λ g. out (gh i g)) ∙ ab.each i (λ f. out (fh i f));
}

-- the same for more free positions
pub keeps_wider : {f h : ℕ → Type 0} (a b : List ℕ) → ((i : ℕ) → f i → h i) → Keeps f a b → Keeps h a b
keeps_wider a b fh ab = record { size = ab.size; each = λ i out. ab.each i (λ f. out (fh i f)) }

-- where nothing is free, nothing changes
pub keeps_none : (a b : List ℕ) → Keeps Nowhere a b → b ≡ a
keeps_none a b keeps = ext_get_or 0 b a keeps.size (λ i lt. keeps.each i (λ none. none))

-- where nothing was pending at the start, an image keeps all but the free positions
pub keeps_settled : {free : ℕ → Type 0} (start : View) (image : List ℕ) → IsSettled start
    → KeepsRest free start image → Keeps free start.cells image
keeps_settled start image settled keeps =
    keeps_wider start.cells image (λ i. ⊎_elim (λ f. f) (λ p. absurd (settled i p))) keeps

-- where nothing is pending, the cells are the only image
pub settled_image : (v : View) → IsSettled v → (image : List ℕ) → Leaves v image → image ≡ v.cells
settled_image v settled image keeps = keeps_none v.cells image (keeps_wider v.cells image settled keeps)

-- the flash stands as before after two steps that leave it so
pub unchanged_then : (a b c : View) → Unchanged a b → Unchanged b c → Unchanged a c
unchanged_then a b c ab bc = record {
  cells = bc.cells ∙ ab.cells;
  forth = λ i p. bc.forth i (ab.forth i p);
  back = λ i p. ab.back i (bc.back i p);
}

-- an image after is one before, where the flash stands as before
pub leaves_back : (a b : View) → Unchanged a b → (image : List ℕ) → Leaves b image → Leaves a image
leaves_back a b same image keeps =
    subst (λ (l : List ℕ). Keeps a.pending l image) same.cells (keeps_wider b.cells image same.back keeps)

-- a test is the same as itself
pub same_test : (p : List ℕ → Type 0) → SameTest p p
same_test p = record { forth = λ s h. h; back = λ s h. h }

-- and the same as what its like is the same as
pub same_then : {p q r : List ℕ → Type 0} → SameTest p q → SameTest q r → SameTest p r
same_then pq qr = record { forth = λ s h. qr.forth s (pq.forth s h); back = λ s h. pq.back s (qr.back s h) }

-- from a run to a longer one
pub goes_on : (a b c : View) (P Q : List ℕ → List ℕ → Type 0) → LeavesOnly a b P → LeavesOnly b c Q
    → ((image s : List ℕ) → Q image s → P image s) → LeavesOnly a c P
goes_on a b c P Q ab bc weaker = record {
  later = omega (arith, ab.later, bc.later);
  each = λ image s left. ⊎_elim (ab.each image s) (weaker image s) (bc.before a.clock image s ab.later left);
  before = λ t image s le left. ⊎_elim (λ was. ab.before t image s le was) (λ q. inr (weaker image s q))
      (bc.before t image s (omega (arith, le, ab.later)) left);
}

-- the same for a weaker P
pub leaves_weaker : (a b : View) (P Q : List ℕ → List ℕ → Type 0) → LeavesOnly a b P
    → ((image s : List ℕ) → P image s → Q image s) → LeavesOnly a b Q
leaves_weaker a b P Q ab weaker = record {
  later = ab.later;
  each = λ image s left. weaker image s (ab.each image s left);
  before = λ t image s le left. ⊎_elim (λ was. inl was) (λ p. inr (weaker image s p))
      (ab.before t image s le left);
}

-- what stands there is all that a crash may leave, before the first call
pub started : {tc tm : Type 0} (a : View) (P : List ℕ → List ℕ → Type 0) → IsHonest tc tm a
    → ((image s : List ℕ) → Now a image s → P image s) → LeavesOnly a a P
started a P honest now = record {
  later = omega arith;
  each = λ image s left. now image s (honest.only_now image s left);
  before = λ t image s le left. inl left;
}

-- one call
pub elapsed : {tc tm : Type 0} (a b : View) (P now : List ℕ → List ℕ → Type 0) → IsHonest tc tm a
    → Elapses tm a b now → ((image s : List ℕ) → Now a image s → P image s)
    → ((image s : List ℕ) → now image s → P image s) → LeavesOnly a b P
elapsed a b P now honest time here there = record {
  later = time.later;
  each = λ image s left. ⊎_elim (λ was. here image s (honest.only_now image s was)) (there image s)
      (time.nothing_else a.clock image s (omega arith) left);
  before = λ t image s le left. ⊎_elim (λ was. inl was) (λ n. inr (there image s n))
      (time.nothing_else t image s le left);
}

-- two claims on the images of one run
pub leaves_both : (a b : View) (P Q : List ℕ → List ℕ → Type 0) → LeavesOnly a b P → LeavesOnly a b Q
    → LeavesOnly a b (λ image s. P image s × Q image s)
leaves_both a b P Q p q = record {
  later = p.later;
  each = λ image s left. (p.each image s left, q.each image s left);
  before = λ t image s le left. ⊎_elim (λ was. inl was)
      (λ x. ⊎_elim (λ was. inl was) (λ y. inr (x, y)) (q.before t image s le left)) (p.before t image s le left);
}

-- ---- runs that sent nothing

-- a run of no calls
pub touch_none : {tc tm : Type 0} {free : ℕ → Type 0} (a : View) → IsHonest tc tm a → Touches tc free a a
touch_none {tc} {tm} {free} a honest = record {
  blocks = refl;
  cells = λ told. keeps_all a.cells;
  pending = λ told i p. inr p;
  silent = same_test a.sent;
  images = λ told. started a (Spares free a) honest
      (λ image s now. (keeps_wider a.cells image (λ i p. inr p) now.0, now.1));
}

-- what a later run leaves keeps what both keep
pub rest_then : {free : ℕ → Type 0} (a b : View) → Keeps free a.cells b.cells
    → ((i : ℕ) → b.pending i → free i ⊎ a.pending i) → (image : List ℕ) → KeepsRest free b image
    → KeepsRest free a image
rest_then a b cells pending image keeps =
    keeps_then a.cells b.cells image (λ i f. inl f) (λ i. ⊎_elim (λ f. inl f) (pending i)) cells keeps

-- a run of one call
pub touch : {tc tm : Type 0} {free : ℕ → Type 0} (a b : View) → IsHonest tc tm a → Effect tc tm free a b
    → Touches tc free a b
touch {tc} {tm} {free} a b honest effect = record {
  blocks = effect.blocks;
  cells = effect.cells;
  pending = effect.pending;
  silent = effect.silent;
  images = λ told. elapsed a b (Spares free a) (Now b) honest effect.time
      (λ image s now. (keeps_wider a.cells image (λ i p. inr p) now.0, now.1))
      (λ image s now. (
        keeps_then a.cells b.cells image (λ i f. inl f) (effect.pending told)
            (effect.cells told) now.0,
        effect.silent.back s now.1,
      ));
}

-- two runs in a row
pub touch_then : {tc : Type 0} {free : ℕ → Type 0} (a b c : View) → Touches tc free a b
    → Touches tc free b c → Touches tc free a c
touch_then {tc} {free} a b c ab bc = record {
  blocks = bc.blocks ∙ ab.blocks;
  cells = λ told. keeps_then a.cells b.cells c.cells (λ i f. f) (λ i f. f) (ab.cells told) (bc.cells told);
  pending = λ told i p. ⊎_elim (λ f. inl f) (ab.pending told i) (bc.pending told i p);
  silent = same_then ab.silent bc.silent;
  images = λ told. goes_on a b c (Spares free a) (Spares free b) (ab.images told) (bc.images told)
      (λ image s spares. (
        rest_then a b (ab.cells told) (ab.pending told) image spares.0,
        ab.silent.back s spares.1,
      ));
}

-- the same for more free positions
pub touch_wider : {tc : Type 0} {f g : ℕ → Type 0} (a b : View) → (tc → (i : ℕ) → f i → g i)
    → Touches tc f a b → Touches tc g a b
touch_wider {tc} {f} {g} a b wider ab = record {
  blocks = ab.blocks;
  cells = λ told. keeps_wider a.cells b.cells (wider told) (ab.cells told);
  pending = λ told i p. ⊎_elim (λ x. inl (wider told i x)) (λ x. inr x) (ab.pending told i p);
  silent = ab.silent;
  images = λ told. leaves_weaker a b (Spares f a) (Spares g a) (ab.images told)
      (λ image s spares. (
        keeps_wider a.cells image
            (λ i e. ⊎_elim (λ x. inl (wider told i x)) (λ x. inr x) e) spares.0,
        spares.1,
      ));
}

-- and one call more
pub touch_next : {tc tm : Type 0} {f g : ℕ → Type 0} (a b c : View) → Touches tc g a b
    → IsHonest tc tm b → Effect tc tm f b c → (tc → (i : ℕ) → f i → g i) → Touches tc g a c
touch_next a b c so_far honest effect wider =
    touch_then a b c so_far (touch_wider b c wider (touch b c honest effect))

-- calls that touched nothing leave the cells as they were
pub touched_none : {tc : Type 0} (a b : View) → Touches tc Nowhere a b → tc → b.cells ≡ a.cells
touched_none a b touches told = keeps_none a.cells b.cells (touches.cells told)

-- where nothing was pending at the start, a run that touched nothing has the cells as its only image
pub only_start : {tc : Type 0} (a b : View) → tc → IsSettled a → Touches tc Nowhere a b
    → LeavesOnly a b (λ image s. (image ≡ a.cells) × a.sent s)
only_start a b told settled touches = leaves_weaker a b (Spares Nowhere a) (λ image s. (image ≡ a.cells) × a.sent s)
    (touches.images told)
    (λ image s spares. (keeps_none a.cells image (keeps_settled a image settled spares.0), spares.1))

-- ---- runs that may have sent something

-- a run that sent nothing is one
pub changes_of : {tc : Type 0} {free : ℕ → Type 0} (a b : View) → Touches tc free a b → Changes tc free a b
changes_of {tc} {free} a b touches = record {
  blocks = touches.blocks;
  cells = touches.cells;
  pending = touches.pending;
  images = λ told. leaves_weaker a b (Spares free a) (λ image s. KeepsRest free a image) (touches.images told)
      (λ image s spares. spares.0);
}

-- a send is one
pub change_sent : {tc tm : Type 0} (bytes : List ℕ) (n : ℕ) (a b : View) → IsHonest tc tm a
    → Sends tc tm bytes n a b → Changes tc Nowhere a b
change_sent {tc} {tm} bytes n a b honest sends = record {
  blocks = sends.blocks;
  cells = λ told. subst (λ (l : List ℕ). Keeps Nowhere a.cells l) (sym (sends.flash told).cells) (keeps_all a.cells);
  pending = λ told i p. inr ((sends.flash told).back i p);
  images = λ told. elapsed a b (λ image s. KeepsRest Nowhere a image) (NowSending a b bytes n) honest sends.time
      (λ image s now. keeps_wider a.cells image (λ i p. inr p) now.0)
      (λ image s now. keeps_wider a.cells image (λ i p. inr p)
      (leaves_back a b (sends.flash told) image now.0));
}

-- two runs in a row
pub change_then : {tc : Type 0} {free : ℕ → Type 0} (a b c : View) → Changes tc free a b
    → Changes tc free b c → Changes tc free a c
change_then {tc} {free} a b c ab bc = record {
  blocks = bc.blocks ∙ ab.blocks;
  cells = λ told. keeps_then a.cells b.cells c.cells (λ i f. f) (λ i f. f) (ab.cells told) (bc.cells told);
  pending = λ told i p. ⊎_elim (λ f. inl f) (ab.pending told i) (bc.pending told i p);
  images = λ told. goes_on a b c (λ image s. KeepsRest free a image) (λ image s. KeepsRest free b image)
      (ab.images told) (bc.images told)
      (λ image s. rest_then a b (ab.cells told) (ab.pending told) image);
}

-- the same for more free positions
pub change_wider : {tc : Type 0} {f g : ℕ → Type 0} (a b : View) → (tc → (i : ℕ) → f i → g i)
    → Changes tc f a b → Changes tc g a b
change_wider {tc} {f} {g} a b wider ab = record {
  blocks = ab.blocks;
  cells = λ told. keeps_wider a.cells b.cells (wider told) (ab.cells told);
  pending = λ told i p. ⊎_elim (λ x. inl (wider told i x)) (λ x. inr x) (ab.pending told i p);
  images = λ told. leaves_weaker a b (λ image s. KeepsRest f a image) (λ image s. KeepsRest g a image)
      (ab.images told)
      (λ image s keeps. keeps_wider a.cells image (λ i e. ⊎_elim (λ x. inl (wider told i x)) (λ x. inr x) e) keeps);
}
