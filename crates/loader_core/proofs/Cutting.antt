-- A power cut in a run on a board, and runs one after the other.
use Rattle.std.proofs.Common.{◌≡◌, ℕ, List, [], ◌∷◌, ◌++◌, refl, sym, ◌∙◌, subst, Option, Some, IfSome, flat_map, sum_by}
use Rattle.std.specs.List.{AllByRecursion}
use Rattle.edge_board.specs.Board.{View, IsHonest}
use Rattle.edge_board.proofs.SendLemmas.{sent_since}
use Rattle.der_core.specs.Items.{IsItems}
use Rattle.config_table.specs.State.{made_by, empty_state}
use Rattle.module_record.specs.declared.module.Module.{Module}
use Rattle.bank_layout.specs.Recovery.{Standing, Recovers}
use Rattle.bank_layout.specs.Recovery.Holder.{module_board}
use Rattle.load_claims.specs.Kept.{KeptIn}
use Rattle.load_claims.specs.Headline.{AreExactIn}
use Rattle.load_claims.specs.Lives.{Round, IsRound, Follow, Life, last_image, fresh, installs, installed_in, InstallsReceiptsOrOneMore}
use Rattle.load_claims.proofs.Below.{as_round}
use Rattle.loader_core.specs.Cuts.{CutRun, IsCutRun, FollowEachOther, AreRoundsOf, FindsInstalled, image_after}

-- what is known of a life: the law `headline`
abbrev pub LifeEnds : Type 0
LifeEnds = (m : Module) (first : List ℕ) (rounds : List Round) → Life m first rounds
    → (to : Standing) × Recovers (last_image first rounds) (module_board m to)
    × (to.state ≡ made_by (flat_map installed_in rounds) empty_state)
    × (to.sequence ≡ sum_by installs rounds)
    × AllByRecursion InstallsReceiptsOrOneMore rounds
    × AllByRecursion (AreExactIn m) rounds

input_is_told : (left : Option (List ℕ)) (input known : List ℕ) → left ≡ Some input → IfSome left (λ l. l ≡ known) → input ≡ known
input_is_told left input known is told = subst (λ (l : Option (List ℕ)). IfSome l (λ x. x ≡ known)) is told

module _ {B told moments : Type 0} (view : B → View) (honest : (b : B) → IsHonest told moments (view b)) (tells : moments) (m : Module) where
  -- what a power cut leaves of a run
  pub kept_of_cut : (start : Standing) (c : CutRun B) → IsCutRun told moments view c → Recovers (view c.old).cells (module_board m start)
      → KeptIn m c.at start c.items c.image c.sent
  kept_of_cut start c run found =
      sent_since tells (view c.old) (view c.new) (KeptIn m c.at start c.items) (honest c.old)
      (run.runs.moments tells run.settled m start found c.items
      (subst (λ (l : List ℕ). IsItems l c.items) (input_is_told c.source.left run.input run.runs.input run.left run.runs.takes.told) run.items_are))
      c.before c.image c.sent run.sent_before run.cut

  -- it is a run of a life
  pub round_of_cut : (start : Standing) (c : CutRun B) → IsCutRun told moments view c → Recovers (view c.old).cells (module_board m start)
      → (r : Round) × IsRound m r × (r.start ≡ (view c.old).cells) × (r.at ≡ c.at) × (r.items ≡ c.items) × (r.sent ≡ c.sent) × (r.end ≡ c.image)
  round_of_cut start c run found = as_round m c.at start c.items (view c.old).cells c.image c.sent found (kept_of_cut start c run found)

  -- and so are runs one after the other
  pub rounds_of_cuts : (image : List ℕ) (from : Standing) (cuts : List (CutRun B)) → Recovers image (module_board m from)
      → FollowEachOther told moments view image cuts
      → (rounds : List Round) × Follow m image rounds × AreRoundsOf view cuts rounds × (last_image image rounds ≡ image_after image cuts)
  rounds_of_cuts image from [] found follow = ([], tt, tt, refl)
  rounds_of_cuts image from (c ∷ cuts) found (begins, run, others) =
      let first = round_of_cut from c run (subst (λ (i : List ℕ). Recovers i (module_board m from)) (sym begins) found) in
      let r : Round = first.0 in
      let round : IsRound m r = first.1 in
      let end : r.end ≡ c.image = first.6 in
      let rest = rounds_of_cuts c.image r.to cuts (subst (λ (i : List ℕ). Recovers i (module_board m r.to)) end round.to) others in (
        r ∷ rest.0,
        (first.2 ∙ begins, round, subst (λ (i : List ℕ). Follow m i rest.0) (sym end) rest.1),
        (first.2, first.3, first.4, first.5, end, rest.2),
        subst (λ (i : List ℕ). last_image i rest.0 ≡ image_after c.image cuts) (sym end) rest.3,
      )

  -- a life of them, and what it left
  pub life_of_cuts : LifeEnds → (first : List ℕ) (cuts : List (CutRun B)) → Recovers first (module_board m (fresh m))
      → FollowEachOther told moments view first cuts
      → (rounds : List Round) × AreRoundsOf view cuts rounds × Life m first rounds × FindsInstalled m rounds (image_after first cuts)
  life_of_cuts law first cuts found follow =
      let all = rounds_of_cuts first (fresh m) cuts found follow in
      let life : Life m first all.0 = record { empty = found; goes_on = all.1 } in
      let end = law m first all.0 life in (
        all.0,
        all.2,
        life,
        record {
          now = end.0;
          recovers = subst (λ (i : List ℕ). Recovers i (module_board m end.0)) all.3 end.1;
          state = end.2;
          sequence = end.3;
          each = end.4;
          exact = end.5;
        },
      )
