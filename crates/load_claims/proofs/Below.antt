-- The laws of the crates below, in the form that is used here.
use Rattle.std.proofs.Common.{◌≡◌, ℕ, List, [], ◌∷◌, ◌++◌, length, refl, ap, ◌<◌}
use Rattle.std.specs.Prelude.{◌↔◌, flat_map, AllPairs}
use Rattle.std.specs.List.{AllByRecursion}
use Rattle.module_record.specs.declared.module.Module.{Module}
use Rattle.bank_layout.specs.Recovery.{Standing, Recovers, Holder}
use Rattle.bank_layout.specs.Recovery.Holder.{module_board, nobody, key_board}
use Rattle.judge_core.specs.Verdicts.{Bench, Verdict, Judges, IsAccepted, IsAdmitted}
use Rattle.load_claims.specs.Items.{JudgesAt, Judged, answers, after_all, bench_at}
use Rattle.load_claims.specs.Kept.{Keeps, Kept, KeptIn, MadeByFirst}
use Rattle.load_claims.specs.Lives.{Round, IsRound, Follow, Life, last_image, leaves_of, fresh}
use Rattle.load_claims.specs.Headline.{FindsPrefix, AreExactIn}
use Rattle.load_claims.proofs.Judging.{judges_at, are_exact}
use Rattle.load_claims.proofs.Keeping.{kept_more, kept_then}
use Rattle.load_claims.proofs.Whole.{kept_of_all}
use Rattle.load_claims.proofs.Living.{OneStanding, Climbs, Ends, ends, made_by_first, life_climbs, climbing_pairs}

abbrev pub OneVerdict : Type 0
OneVerdict = (b : Bench) (item : List ℕ) (one other : Verdict) → Judges b item one → Judges b item other → one ≡ other

abbrev pub OneHolder : Type 0
OneHolder = (image : List ℕ) (first second : Holder) → Recovers image first → Recovers image second → first ≡ second

abbrev pub Exact : Type 0
Exact = (b : Bench) (item : List ℕ) (verdict : Verdict) → Judges b item verdict → IsAccepted verdict ↔ IsAdmitted b item

pub one_at : OneVerdict → (m : Module) (at : ℕ) (now : Standing) (item : List ℕ) (v w : Verdict) → JudgesAt m at now item v → JudgesAt m at now item w → v ≡ w
one_at law m at now item v w a b = law (bench_at m at now) item v w (judges_at m at now item v a) (judges_at m at now item w b)

standing_in : Standing → Holder → Standing
standing_in d nobody = d
standing_in d (key_board key row) = d
standing_in d (module_board m standing) = standing

pub one_standing : OneHolder → OneStanding
unfolding standing_in
one_standing law image m a b first second = ap (standing_in a) (law image (module_board m a) (module_board m b) first second)

pub to_the_list : (m : Module) (at : ℕ) (start : Standing) (done : List (List ℕ)) (item : List ℕ) (rest : List (List ℕ)) (verdicts : List Verdict) (image t : List ℕ) → Judged m at start done verdicts → length verdicts ≡ length done
    → KeptIn m at (after_all start verdicts) (item ∷ []) image t → KeptIn m at start (done ++ item ∷ rest) image (answers m start verdicts ++ t)
to_the_list m at start done item rest verdicts image t judged all found = (
  found.0,
  found.1,
  kept_then m at start done (item ∷ rest) verdicts found.0 t judged all (kept_more m at (after_all start verdicts) (item ∷ []) rest found.0 t found.2),
)

finds_made : Exact → (m : Module) (at : ℕ) (start : Standing) (items : List (List ℕ)) (verdicts : List Verdict) (image s : List ℕ) (now : Standing) (n : ℕ) → Judged m at start items verdicts
    → Recovers image (module_board m now) → Keeps m start verdicts now s n → FindsPrefix m at start items verdicts image s
finds_made law m at start items verdicts image s now n judged recovers keeps =
    let made : (k : ℕ) × MadeByFirst start verdicts n now k = made_by_first m start verdicts now s n keeps.prefix in
    record {
      exact = are_exact law m at start items verdicts judged;
      whole = n;
      sent = keeps.sent;
      now = now;
      recovers = recovers;
      count = made.0;
      made = made.1;
    }

pub finds_prefix : Exact → (m : Module) (at : ℕ) (start : Standing) (items : List (List ℕ)) (image s : List ℕ) → KeptIn m at start items image s
    → (verdicts : List Verdict) × Judged m at start items verdicts × FindsPrefix m at start items verdicts image s
finds_prefix law m at start items image s found =
    let k : Kept m at start items found.0 s = found.2 in
    (k.verdicts, k.judged, finds_made law m at start items k.verdicts image s found.0 k.whole k.judged found.1 k.keeps)

pub finds_of_all : OneVerdict → Exact → (m : Module) (at : ℕ) (start : Standing) (items : List (List ℕ)) (verdicts : List Verdict) (image s : List ℕ) → Judged m at start items verdicts
    → length verdicts ≡ length items → KeptIn m at start items image s → FindsPrefix m at start items verdicts image s
finds_of_all one law m at start items verdicts image s judged size found =
    let k : (n : ℕ) × Keeps m start verdicts found.0 s n = kept_of_all m at (one_at one m at) start found.0 items verdicts s judged size found.2 in
    finds_made law m at start items verdicts image s found.0 k.0 judged found.1 k.1

pub as_round : (m : Module) (at : ℕ) (from : Standing) (items : List (List ℕ)) (start image s : List ℕ) → Recovers start (module_board m from) → KeptIn m at from items image s
    → (r : Round) × IsRound m r × (r.start ≡ start) × (r.at ≡ at) × (r.items ≡ items) × (r.sent ≡ s) × (r.end ≡ image)
as_round m at from items start image s recovers found =
    let k : Kept m at from items found.0 s = found.2 in (
      record { start = start; at = at; items = items; sent = s; end = image; from = from; to = found.0; verdicts = k.verdicts; whole = k.whole },
      record { from = recovers; to = found.1; judged = k.judged; keeps = k.keeps },
      refl,
      refl,
      refl,
      refl,
      refl,
    )

pub life_ends : (law : OneHolder) (m : Module) (first : List ℕ) (rounds : List Round) → Life m first rounds → Ends (one_standing law) m (fresh m) (last_image first rounds) rounds
life_ends law m first rounds life = ends (one_standing law) m first (fresh m) rounds life.empty life.goes_on

exact_rounds : Exact → (m : Module) (image : List ℕ) (rounds : List Round) → Follow m image rounds → AllByRecursion (AreExactIn m) rounds
exact_rounds law m image [] follow = tt
exact_rounds law m image (r ∷ rounds) follow = (are_exact law m r.at r.from r.items r.verdicts follow.1.judged, exact_rounds law m r.end rounds follow.2)

pub life_exact : Exact → (m : Module) (first : List ℕ) (rounds : List Round) → Life m first rounds → AllByRecursion (AreExactIn m) rounds
life_exact law m first rounds life = exact_rounds law m first rounds life.goes_on

pub leaves_ascend : OneHolder → (m : Module) (first : List ℕ) (rounds : List Round) → Life m first rounds → AllPairs (λ earlier later. earlier < later) (flat_map (leaves_of m) rounds)
leaves_ascend law m first rounds life =
    let c : (high : ℕ) × Climbs _ (flat_map (leaves_of m) rounds) high = life_climbs (one_standing law) m first (fresh m) rounds life.empty life.goes_on in
    climbing_pairs _ c.0 (flat_map (leaves_of m) rounds) c.1
