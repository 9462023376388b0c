-- Rounds over a board are runs of it.
use Rattle.std.proofs.Common.{◌≡◌, ◌∙◌, ⊎_elim, ℕ, List, [], ◌∷◌, ◌++◌, Option, Some, None, ap, refl, sym}
use Rattle.std.proofs.Common.{subst, inl, inr}
use Rattle.std.specs.List.{AllByRecursion, AllZip}
use Rattle.std.specs.Option.{IsSomeAnd}
use Rattle.der_core.specs.Element.{AreOctets}
use Rattle.der_core.specs.Items.{IsItems, items}
use Rattle.key_state.specs.KeyBlock.{row_of}
use Rattle.lms_sign.specs.declared.key.SignKey.{SignKey}
use Rattle.lms_sign.specs.PublicKeys.{leaf_count}
use Rattle.module_record.specs.declared.module.Module.{Module}
use Rattle.bank_layout.specs.Recovery.{Holder, Standing, HoldsKey, Recovers}
use Rattle.bank_layout.specs.Recovery.Holder.{key_board, module_board}
use Rattle.load_claims.specs.Kept.{KeptIn}
use Rattle.load_claims.specs.Lives.{IsRound as IsLoadRound, Follow, last_image}
use Rattle.load_claims.specs.Lives.{Round as LoadRound}
use Rattle.fwload_top.specs.declared.words.Command.{Command}
use Rattle.fwload_top.specs.declared.words.Command.TheVariants as commands
use Rattle.fwload_top.specs.declared.making.HolderKind.{HolderKind}
use Rattle.fwload_top.specs.declared.making.HolderKind.TheVariants as holder_kinds
use Rattle.fwload_top.specs.declared.signing.Product.TheVariants.{Certificate, Package}
use Rattle.fwload_top.specs.AnswersOnce.{CutLeaves}
use Rattle.fwload_top.specs.Commands.{promise}
use Rattle.fwload_top.specs.Ident.{ident}
use Rattle.fwload_top.specs.Sigcheck.{sigcheck}
use Rattle.fwload_top.specs.Rehearse.{rehearse}
use Rattle.fwload_top.specs.Explain.{explain}
use Rattle.fwload_top.specs.List.{list}
use Rattle.fwload_top.specs.Load.{LoadCut}
use Rattle.fwload_top.specs.Making.{making, IsFree}
use Rattle.fwload_top.specs.Signing.{signing}
use Rattle.fwload_top.specs.Making.Outcome.{held, bad_line, small, made}
use Rattle.fwload_top.specs.BoardRuns.{BoardRun, Loads, Signs, Stays, image_before, image_after, IsRunOf, AreBoardRuns}
use Rattle.fwload_top.specs.BoardRuns.{loads_of, loads_in}
use Rattle.fwload_top.specs.Rounds.{Round, AreRounds, LoadsTold, IsTold, SendsNoOutput, IsRunOfRound}
use Rattle.fwload_top.specs.Rounds.{AreModuleRuns}
use Rattle.fwload_top.proofs.AnswersOnceLemmas.{cut_leaves_cells}
use Rattle.fwload_top.proofs.NoFlash.{ident_writes_none, sigcheck_writes_none, rehearse_writes_none}
use Rattle.fwload_top.proofs.NoFlash.{list_writes_none, explain_writes_none}
use Rattle.fwload_top.proofs.SigningLemmas.{one_key, run_of, nothing_or_signs, signs_nothing, still_holds}

-- ---- who holds a board

-- each image has one holder
abbrev pub OneHolder : Type 0
OneHolder = (image : List ℕ) (first second : Holder) → Recovers image first → Recovers image second → first ≡ second

key_or_module : {key : SignKey} {row : List ℕ} {m : Module} {standing : Standing}
    → ◌≡◌ {A = Holder} (key_board key row) (module_board m standing) → ⊥
key_or_module same = cc

not_both : OneHolder → (image : List ℕ) (key : SignKey) (m : Module) (standing : Standing) → HoldsKey image key
    → Recovers image (module_board m standing) → ⊥
not_both one image key m standing holds found =
    key_or_module (one image (key_board key (row_of (leaf_count key) image)) (module_board m standing) (holds, refl) found)

-- a board that is held is nobody's to make
made_stays : (kind : HolderKind) {tc : Type 0} (told : tc) (left : Option (List ℕ)) (start : List ℕ) (count : ℕ)
    → ¬ IsFree start → (image s : List ℕ) → CutLeaves (making kind) tc left start count image s
    → image ≡ start
made_stays kind told left start count is_held image s (inl none) = none.1
made_stays kind told left start count is_held image s (inr (held, comes, cut)) =
    ⊎_elim (λ early. early.1) (λ later. later.0) cut
made_stays kind told left start count is_held image s (inr (bad_line n, comes, cut)) =
    ⊎_elim (λ early. early.1) (λ later. later.0) cut
made_stays kind told left start count is_held image s (inr (small holder, comes, cut)) =
    ⊎_elim (λ early. early.1) (λ later. later.0) cut
made_stays kind told left start count is_held image s (inr (made holder, comes, cut)) =
    absurd (is_held (comes.cells told))

-- ---- one round over a key's board

-- A round is a run of the board, and the key still holds that.
record Step (key : SignKey) (r : Round) : Type 0 where
  run : BoardRun
  of : IsRunOf key run
  is : IsRunOfRound r run
  before : image_before run ≡ r.start
  after : image_after run ≡ r.end
  holds : HoldsKey r.end key

-- the board stays
stays : (key : SignKey) (r : Round) → HoldsKey r.start key → r.end ≡ r.start → SendsNoOutput r.command r.sent → Step key r
stays key r holds same none = record {
  run = Stays r.start;
  of = tt;
  is = (refl, same, none);
  before = refl;
  after = sym same;
  holds = subst (λ (image : List ℕ). HoldsKey image key) (sym same) holds;
}

module _ (one : OneHolder) {tc : Type 0} (told : tc) (key : SignKey) (left : Option (List ℕ))
    (start : List ℕ) (count : ℕ) (sent end : List ℕ) (holds : HoldsKey start key) where
  abbrev round : Command → Round
  round c = record { command = c; input = left; blocks = count; start = start; sent = sent; end = end }

  is_held : ¬ IsFree start
  is_held free = free.0 key holds

  certifies : CutLeaves (signing Certificate) tc left start count end sent → Step key (round commands.Issue)
  certifies cut = ⊎_elim (λ none. stays key (round commands.Issue) holds none.0 none.1)
      (λ signs. record {
        run = Signs signs.0 (run_of start end sent);
        of = signs.1;
        is = refl;
        before = refl;
        after = refl;
        holds = still_holds (one_key one) Certificate told left start count key holds end sent cut;
      })
      (nothing_or_signs (one_key one) Certificate told left start count key holds end sent cut)

  packs : CutLeaves (signing Package) tc left start count end sent → Step key (round commands.Pack)
  packs cut = ⊎_elim (λ none. stays key (round commands.Pack) holds none.0 none.1)
      (λ signs. record {
        run = Signs signs.0 (run_of start end sent);
        of = signs.1;
        is = refl;
        before = refl;
        after = refl;
        holds = still_holds (one_key one) Package told left start count key holds end sent cut;
      })
      (nothing_or_signs (one_key one) Package told left start count key holds end sent cut)

  step : (c : Command) → (promise c).Cut tc left start count end sent → Step key (round c)
  step commands.Ident cut =
      stays key (round commands.Ident) holds (cut_leaves_cells ident left start count ident_writes_none end sent cut) tt
  step commands.Sigcheck cut =
      stays key (round commands.Sigcheck) holds
      (cut_leaves_cells sigcheck left start count sigcheck_writes_none end sent cut) tt
  step (commands.Rehearse at) cut =
      stays key (round (commands.Rehearse at)) holds
      (cut_leaves_cells (rehearse at) left start count (rehearse_writes_none at) end sent cut) tt
  step (commands.Explain at) cut =
      stays key (round (commands.Explain at)) holds
      (cut_leaves_cells (explain at) left start count (explain_writes_none at) end sent cut) tt
  step commands.KeyNew cut =
      stays key (round commands.KeyNew) holds (made_stays holder_kinds.Key told left start count is_held end sent cut) tt
  step commands.Make cut =
      stays key (round commands.Make) holds (made_stays holder_kinds.Module told left start count is_held end sent cut) tt
  step commands.List cut =
      stays key (round commands.List) holds (cut_leaves_cells list left start count list_writes_none end sent cut) tt
  step commands.Issue cut = certifies cut
  step commands.Pack cut = packs cut
  step (commands.Load at) cut =
      let none = cut.nothing (λ m standing found. not_both one start key m standing holds found) in
      stays key (round (commands.Load at)) holds none.0 none.1

-- ---- all rounds over a key's board

pub rounds_are_runs : OneHolder → {tc : Type 0} (told : tc) (key : SignKey) (image : List ℕ)
    (rounds : List Round) → HoldsKey image key → AreRounds tc image rounds
    → (runs : List BoardRun) × AreBoardRuns key image runs × AllZip IsRunOfRound rounds runs
rounds_are_runs one told key image [] holds are = ([], tt, tt)
rounds_are_runs one told key image (r ∷ rounds) holds are =
    let start = subst (λ (cells : List ℕ). HoldsKey cells key) (sym are.0) holds in
    let first = step one told key r.input r.start r.blocks r.sent r.end start r.command are.1 in
    let rest = rounds_are_runs one told key r.end rounds first.holds are.2 in (
      first.run ∷ rest.0,
      (
        first.before ∙ are.0,
        first.of,
        subst (λ (cells : List ℕ). AreBoardRuns key cells rest.0) (sym first.after) rest.1,
      ),
      (first.is, rest.2),
    )

-- ---- one round over a module's board

-- A round is a run of the board, and the module still holds that; where it is one of `load`, it goes before those that
-- follow.
record ModuleStep (m : Module) (r : Round) : Type 0 where
  run : BoardRun
  of : IsRunOf m.key run
  is : IsRunOfRound r run
  before : image_before run ≡ r.start
  after : image_after run ≡ r.end
  to : Standing
  holds : Recovers r.end (module_board m to)
  goes_on : (rest : List LoadRound) → Follow m r.end rest → Follow m r.start (loads_of run ++ rest)
  last : (rest : List LoadRound) → last_image r.start (loads_of run ++ rest) ≡ last_image r.end rest

-- the board stays
module_stays : (m : Module) (r : Round) (from : Standing) → Recovers r.start (module_board m from) → r.end ≡ r.start
    → SendsNoOutput r.command r.sent → ModuleStep m r
module_stays m r from found same none = record {
  run = Stays r.start;
  of = tt;
  is = (refl, same, none);
  before = refl;
  after = sym same;
  to = from;
  holds = subst (λ (image : List ℕ). Recovers image (module_board m from)) (sym same) found;
  goes_on = λ rest follow. subst (λ (image : List ℕ). Follow m image rest) same follow;
  last = λ rest. ap (λ (image : List ℕ). last_image image rest) (sym same);
}

-- what a power cut leaves of a run over items is a run of a life
abbrev pub CutsAreRounds : Type 0
CutsAreRounds = (m : Module) (at : ℕ) (from : Standing) (items : List (List ℕ)) (start image s : List ℕ)
    → Recovers start (module_board m from) → KeptIn m at from items image s
    → (r : LoadRound) × IsLoadRound m r × (r.start ≡ start) × (r.at ≡ at) × (r.items ≡ items) × (r.sent ≡ s)
    × (r.end ≡ image)

-- octets have a list of items
abbrev pub HaveItems : Type 0
HaveItems = (octets : List ℕ) → AreOctets octets → IsItems octets (items octets)

is_told : (left : Option (List ℕ)) → IsSomeAnd left AreOctets → (input : List ℕ) × (left ≡ Some input) × AreOctets input
is_told None told = absurd told
is_told (Some input) told = (input, refl, told)

module _ (one : OneHolder) (rounds_of : CutsAreRounds) (have : HaveItems) {tc : Type 0} (tells : tc) (m : Module)
    (left : Option (List ℕ)) (start : List ℕ) (count : ℕ) (sent end : List ℕ) (from : Standing)
    (found : Recovers start (module_board m from)) where
  abbrev module_round : Command → Round
  module_round c = record { command = c; input = left; blocks = count; start = start; sent = sent; end = end }

  no_key_holds : (key : SignKey) → ¬ HoldsKey start key
  no_key_holds key holds = not_both one start key m from holds found

  is_a_modules : ¬ IsFree start
  is_a_modules free = free.1 m found.0 found.1 found.2

  loads : (at : ℕ) → IsSomeAnd left AreOctets → LoadCut at left start end sent
      → ModuleStep m (module_round (commands.Load at))
  loads at told cut =
      let input : (octets : List ℕ) × (left ≡ Some octets) × AreOctets octets = is_told left told in
      let made = rounds_of m at from (items input.0) start end sent found
      (cut.kept m from found input.0 (items input.0) input.1 (have input.0 input.2)) in
      record {
        run = Loads m made.0;
        of = (refl, made.1);
        is = record {
          command = ap (λ (t : ℕ). commands.Load t) (sym made.3);
          items = subst (λ (l : Option (List ℕ)). IsSomeAnd l (λ octets. IsItems octets made.0.items)) (sym input.1)
              (subst (λ (list : List (List ℕ)). IsItems input.0 list) (sym made.4) (have input.0 input.2));
          start = made.2;
          sent = made.5;
          end = made.6;
        };
        before = made.2;
        after = made.6;
        to = made.0.to;
        holds = subst (λ (image : List ℕ). Recovers image (module_board m made.0.to)) made.6 made.1.to;
        goes_on = λ rest follow.
            (made.2, made.1, subst (λ (image : List ℕ). Follow m image rest) (sym made.6) follow);
        last = λ rest. ap (λ (image : List ℕ). last_image image rest) made.6;
      }

  module_step : (c : Command) → LoadsTold c left → (promise c).Cut tc left start count end sent
      → ModuleStep m (module_round c)
  module_step commands.Ident told cut =
      module_stays m (module_round commands.Ident) from found
      (cut_leaves_cells ident left start count ident_writes_none end sent cut) tt
  module_step commands.Sigcheck told cut =
      module_stays m (module_round commands.Sigcheck) from found
      (cut_leaves_cells sigcheck left start count sigcheck_writes_none end sent cut) tt
  module_step (commands.Rehearse at) told cut =
      module_stays m (module_round (commands.Rehearse at)) from found
      (cut_leaves_cells (rehearse at) left start count (rehearse_writes_none at) end sent cut) tt
  module_step (commands.Explain at) told cut =
      module_stays m (module_round (commands.Explain at)) from found
      (cut_leaves_cells (explain at) left start count (explain_writes_none at) end sent cut) tt
  module_step commands.KeyNew told cut =
      module_stays m (module_round commands.KeyNew) from found
      (made_stays holder_kinds.Key tells left start count is_a_modules end sent cut) tt
  module_step commands.Make told cut =
      module_stays m (module_round commands.Make) from found
      (made_stays holder_kinds.Module tells left start count is_a_modules end sent cut) tt
  module_step commands.List told cut =
      module_stays m (module_round commands.List) from found
      (cut_leaves_cells list left start count list_writes_none end sent cut) tt
  module_step commands.Issue told cut =
      let none = signs_nothing (one_key one) Certificate tells left start count no_key_holds end sent cut in
      module_stays m (module_round commands.Issue) from found none.0 none.1
  module_step commands.Pack told cut =
      let none = signs_nothing (one_key one) Package tells left start count no_key_holds end sent cut in
      module_stays m (module_round commands.Pack) from found none.0 none.1
  module_step (commands.Load at) told cut = loads at told cut

-- ---- all rounds over a module's board

pub rounds_of_module : OneHolder → CutsAreRounds → HaveItems → {tc : Type 0} (tells : tc) (m : Module) (from : Standing)
    (image : List ℕ) (rounds : List Round) → Recovers image (module_board m from) → AreRounds tc image rounds
    → AllByRecursion IsTold rounds → (runs : List BoardRun) × AreModuleRuns m image rounds runs
rounds_of_module one rounds_of have tells m from image [] found are told =
    ([], record { runs_are = tt; each = tt; follow = tt; last = refl })
rounds_of_module one rounds_of have tells m from image (r ∷ rounds) found are told =
    let start = subst (λ (cells : List ℕ). Recovers cells (module_board m from)) (sym are.0) found in
    let first = module_step one rounds_of have tells m r.input r.start r.blocks r.sent r.end from start r.command told.0
    are.1 in
    let rest = rounds_of_module one rounds_of have tells m first.to r.end rounds first.holds are.2 told.1 in (
      first.run ∷ rest.0,
      record {
        runs_are = (
          first.before ∙ are.0,
          first.of,
          subst (λ (cells : List ℕ). AreBoardRuns m.key cells rest.0) (sym first.after) rest.1.runs_are,
        );
        each = (first.is, rest.1.each);
        follow = subst (λ (cells : List ℕ). Follow m cells (loads_of first.run ++ loads_in rest.0)) are.0
            (first.goes_on (loads_in rest.0) rest.1.follow);
        last = ap (λ (cells : List ℕ). last_image cells (loads_of first.run ++ loads_in rest.0)) (sym are.0)
            ∙ first.last (loads_in rest.0) ∙ rest.1.last;
      },
    )
