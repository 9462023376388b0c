-- Lives: what is installed at the end, and leaves that are used once.
use Rattle.std.proofs.Common.{◌≡◌, ◌⊎◌, inl, inr, ⊎_elim, ℕ, zero, suc, ◌+◌, ◌<◌, ◌≤◌, Bool, true, false, if◌then◌else◌, List, [], ◌∷◌, ◌++◌, length, get_or, take, drop, refl, sym, ◌∙◌, ap, subst, arith, length-append, length-take, length-drop, IsTrue}
use Rattle.std.specs.Prelude.{sum_by, flat_map, AllPairs}
use Rattle.std.specs.List.{AllByRecursion}
use Rattle.std.proofs.lemmas.List.{drop_all}
use Rattle.std.proofs.lemmas.List.Sums.{sum_by-cons}
use Rattle.key_state.specs.Row.{spent_in}
use Rattle.config_table.specs.State.{Offer, State, after_package, made_by}
use Rattle.module_record.specs.declared.module.Module.{Module}
use Rattle.bank_layout.specs.Recovery.{Standing, Recovers}
use Rattle.bank_layout.specs.Recovery.Holder.{module_board}
use Rattle.judge_core.specs.Verdicts.{Verdict, accepts, refuses}
use Rattle.load_claims.specs.Items.{answer, answers, after, after_all, accepted, is_signed}
use Rattle.load_claims.specs.Kept.{SameStore, Prefix, Keeps, MadeByFirst}
use Rattle.load_claims.specs.Lives.{Round, IsRound, Follow, last_image, receipts, installs, installed_in, InstallsReceiptsOrOneMore, leaf_if_signed, leaves_in, leaves_of}
use Rattle.load_claims.proofs.Rows.{spent_le, spent_lt}
use Rattle.load_claims.proofs.ItemLemmas.{after_grows, signed_grows, signed_parts}
use Rattle.load_claims.proofs.Keeping.{Said, said_of, sent_of}

-- ---- accepted packages and the store

pub sequence_after : (start : Standing) (verdicts : List Verdict) → (after_all start verdicts).sequence ≡ start.sequence + length (accepted verdicts)
sequence_after start [] = omega arith
sequence_after start (accepts described content image key_id ∷ verdicts) = omega (arith, sequence_after (after start (accepts described content image key_id)) verdicts)
sequence_after start (refuses number name ∷ verdicts) = sequence_after (after start (refuses number name)) verdicts

pub state_after : (start : Standing) (verdicts : List Verdict) → (after_all start verdicts).state ≡ made_by (accepted verdicts) start.state
state_after start [] = refl
state_after start (accepts described content image key_id ∷ verdicts) = state_after (after start (accepts described content image key_id)) verdicts
state_after start (refuses number name ∷ verdicts) = state_after (after start (refuses number name)) verdicts

-- those accepted among the first n are the first of those accepted
accepted_take : (n : ℕ) (verdicts : List Verdict) → accepted (take n verdicts) ≡ take (length (accepted (take n verdicts))) (accepted verdicts)
accepted_take zero verdicts = refl
accepted_take (suc n) [] = refl
accepted_take (suc n) (accepts described content image key_id ∷ verdicts) = accepted_more (accepted (take n verdicts)) (accepted verdicts) _ (accepted_take n verdicts)
  where
    accepted_more : (some all : List (Offer × List ℕ)) (x : Offer × List ℕ) → some ≡ take (length some) all → x ∷ some ≡ x ∷ take (length some) all
    accepted_more some all x is = ap (λ (l : List (Offer × List ℕ)). x ∷ l) is
accepted_take (suc n) (refuses number name ∷ verdicts) = accepted_take n verdicts

accepted_few : (n : ℕ) (verdicts : List Verdict) → length (accepted (take n verdicts)) ≤ length (accepted verdicts)
accepted_few n verdicts = omega (arith, ap length (accepted_take n verdicts), length-take (length (accepted (take n verdicts))) (accepted verdicts))

accepted_next : (n : ℕ) (verdicts : List Verdict) → (length (accepted (take (suc n) verdicts)) ≡ length (accepted (take n verdicts))) ⊎ (length (accepted (take (suc n) verdicts)) ≡ length (accepted (take n verdicts)) + 1)
accepted_next zero [] = inl refl
accepted_next zero (accepts described content image key_id ∷ verdicts) = inr (omega arith)
accepted_next zero (refuses number name ∷ verdicts) = inl refl
accepted_next (suc n) [] = inl refl
accepted_next (suc n) (accepts described content image key_id ∷ verdicts) = ⊎_elim (λ same. inl (ap suc same)) (λ more. inr (omega (arith, more))) (accepted_next n verdicts)
accepted_next (suc n) (refuses number name ∷ verdicts) = accepted_next n verdicts

made_by-append : (a b : List (Offer × List ℕ)) (state : State (List ℕ)) → made_by (a ++ b) state ≡ made_by b (made_by a state)
made_by-append [] b state = refl
made_by-append (one ∷ more) b state = made_by-append more b (after_package one.0 one.1 state)

-- ---- one run, and one round

-- where the store is that after n verdicts
made_at : (start : Standing) (verdicts : List Verdict) (now : Standing) (m n : ℕ) → SameStore now (after_all start (take n verdicts))
    → (length (accepted (take n verdicts)) ≡ length (accepted (take m verdicts))) ⊎ (length (accepted (take n verdicts)) ≡ length (accepted (take m verdicts)) + 1)
    → MadeByFirst start verdicts m now (length (accepted (take n verdicts)))
made_at start verdicts now m n same count = record {
  few = accepted_few n verdicts;
  state = same.state ∙ state_after start (take n verdicts) ∙ ap (λ l. made_by l start.state) (accepted_take n verdicts);
  sequence = same.sequence ∙ sequence_after start (take n verdicts);
  receipts = count;
}

pub made_by_first : (m : Module) (start : Standing) (verdicts : List Verdict) (now : Standing) (s : List ℕ) (n : ℕ) → Prefix m start verdicts now s n → (k : ℕ) × MadeByFirst start verdicts n now k
made_by_first m start verdicts now s n prefix = ⊎_elim
    (λ same. (length (accepted (take n verdicts)), made_at start verdicts now n n same (inl refl)))
    (λ one. (length (accepted (take (suc n) verdicts)), made_at start verdicts now n (suc n) one.1 (accepted_next n verdicts)))
    prefix.stands

record RoundMakes (r : Round) : Type 0 where
  state : r.to.state ≡ made_by (installed_in r) r.from.state
  sequence : r.to.sequence ≡ r.from.sequence + installs r
  some : InstallsReceiptsOrOneMore r

round_makes : (m : Module) (r : Round) → IsRound m r → RoundMakes r
round_makes m r round =
    let made : (k : ℕ) × MadeByFirst r.from r.verdicts r.whole r.to k = made_by_first m r.from r.verdicts r.to r.sent r.whole round.keeps.prefix in
    let is : made.0 ≡ installs r = omega (arith, made.1.sequence) in
    record {
      state = made.1.state ∙ ap (λ (k : ℕ). made_by (take k (accepted r.verdicts)) r.from.state) is;
      sequence = omega (arith, is, made.1.sequence);
      some = subst (λ (k : ℕ). (k ≤ length (accepted r.verdicts)) × ((k ≡ receipts r) ⊎ (k ≡ receipts r + 1))) is (made.1.few, made.1.receipts);
    }

-- ---- a life

-- an image recovers to one standing
abbrev pub OneStanding : Type 0
OneStanding = (image : List ℕ) (m : Module) (a b : Standing) → Recovers image (module_board m a) → Recovers image (module_board m b) → a ≡ b

module _ (one_standing : OneStanding) (m : Module) where
  begins : (image : List ℕ) (from : Standing) (r : Round) → Recovers image (module_board m from) → r.start ≡ image → IsRound m r → r.from ≡ from
  begins image from r found is round = one_standing image m r.from from (subst (λ (l : List ℕ). Recovers l (module_board m r.from)) is round.from) found

  pub record Ends (from : Standing) (image : List ℕ) (rounds : List Round) : Type 0 where
    pub to : Standing
    pub found : Recovers image (module_board m to)
    pub state : to.state ≡ made_by (flat_map installed_in rounds) from.state
    pub sequence : to.sequence ≡ from.sequence + sum_by installs rounds
    pub each : AllByRecursion InstallsReceiptsOrOneMore rounds

  pub ends : (image : List ℕ) (from : Standing) (rounds : List Round) → Recovers image (module_board m from) → Follow m image rounds → Ends from (last_image image rounds) rounds
  ends image from [] found follow = record { to = from; found = found; state = refl; sequence = omega arith; each = tt }
  ends image from (r ∷ rounds) found follow =
      let makes : RoundMakes r = round_makes m r follow.1 in
      let rest : Ends r.to (last_image r.end rounds) rounds = ends r.end r.to rounds follow.1.to follow.2 in
      let is : r.from ≡ from = begins image from r found follow.0 follow.1 in
      record {
        to = rest.to;
        found = rest.found;
        state = rest.state ∙ ap (made_by (flat_map installed_in rounds)) (makes.state ∙ ap (λ (s : Standing). made_by (installed_in r) s.state) is) ∙ sym (made_by-append (installed_in r) (flat_map installed_in rounds) from.state);
        sequence = omega (arith, rest.sequence, makes.sequence, ap (λ (s : Standing). s.sequence) is, sum_by-cons installs r rounds);
        each = (makes.some, rest.each);
      }

-- ---- leaves

-- numbers that ascend from one on and stay below another
abbrev pub Climbs : ℕ → List ℕ → ℕ → Type 0
Climbs low [] high = low ≤ high
Climbs low (x ∷ xs) high = (low ≤ x) × Climbs (x + 1) xs high

pub climbs_lower : (low low' : ℕ) (xs : List ℕ) (high : ℕ) → low' ≤ low → Climbs low xs high → Climbs low' xs high
climbs_lower low low' [] high le c = omega (arith, le, c)
climbs_lower low low' (x ∷ xs) high le c = (omega (arith, le, c.0), c.1)

pub climbs_then : (low mid high : ℕ) (xs ys : List ℕ) → Climbs low xs mid → Climbs mid ys high → Climbs low (xs ++ ys) high
climbs_then low mid high [] ys first second = climbs_lower mid low ys high first second
climbs_then low mid high (x ∷ xs) ys first second = (first.0, climbs_then (x + 1) mid high xs ys first.1 second)

climbs_at : (low high : ℕ) (xs : List ℕ) (i d : ℕ) → Climbs low xs high → i < length xs → low ≤ get_or xs i d
climbs_at low high [] i d c lt = absurd (omega arith)
climbs_at low high (x ∷ xs) zero d c lt = c.0
climbs_at low high (x ∷ xs) (suc i) d c lt = omega (arith, c.0, climbs_at (x + 1) high xs i d c.1 (omega (arith, lt)))

climbs_lt : (low high : ℕ) (xs : List ℕ) (i j d : ℕ) → Climbs low xs high → i < j → j < length xs → get_or xs i d < get_or xs j d
climbs_lt low high [] i j d c lt within = absurd (omega arith)
climbs_lt low high (x ∷ xs) i zero d c lt within = absurd (omega arith)
climbs_lt low high (x ∷ xs) zero (suc j) d c lt within = omega (arith, climbs_at (x + 1) high xs j d c.1 (omega (arith, within)))
climbs_lt low high (x ∷ xs) (suc i) (suc j) d c lt within = climbs_lt (x + 1) high xs i j d c.1 (omega (arith, lt)) (omega (arith, within))

pub climbing_pairs : (low high : ℕ) (xs : List ℕ) → Climbs low xs high → AllPairs (λ earlier later. earlier < later) xs
climbing_pairs low high xs c = λ i j d lt within. climbs_lt low high xs i j d c lt within

rows_grow : (now : Standing) (verdicts : List Verdict) → spent_in now.row ≤ spent_in (after_all now verdicts).row
rows_grow now [] = omega arith
rows_grow now (verdict ∷ verdicts) = omega (arith, after_grows now verdict, rows_grow (after now verdict) verdicts)

leaf_climbs : (b : Bool) (q high : ℕ) → q ≤ high → (IsTrue b → q < high) → Climbs q (if b then q ∷ [] else []) high
leaf_climbs true q high le lt = (omega arith, omega (arith, lt refl))
leaf_climbs false q high le lt = le

-- without what was answered first, the rest was kept
keeps_rest : (m : Module) (start : Standing) (verdict : Verdict) (verdicts : List Verdict) (now : Standing) (s : List ℕ) (n : ℕ) → length (answer m start verdict) ≤ length s
    → Keeps m start (verdict ∷ verdicts) now s (suc n) → Keeps m (after start verdict) verdicts now (drop (length (answer m start verdict)) s) n
keeps_rest m start verdict verdicts now s n long k =
    let a : List ℕ = answer m start verdict in
    let next : Standing = after start verdict in
    let t : List ℕ = drop (length a) s in
    let said : Said m start (verdict ∷ verdicts) s (suc n) = said_of m start (verdict ∷ verdicts) s (suc n) k.sent in
    let size : length t + length a ≡ length s = omega (arith, length-drop (length a) s, long) in
    let longer : (vs : List Verdict) → length (answers m start (verdict ∷ vs)) ≡ length a + length (answers m next vs) = λ vs. length-append a (answers m next vs) in
    record {
      sent = sent_of m next verdicts t n (record {
        rest = said.rest;
        front = rest_is a s said.rest (answers m next verdicts) long said.front;
        few = omega (arith, said.few);
        whole = omega (arith, size, longer (take n verdicts), said.whole);
        next = λ lt. omega (arith, size, longer (take (suc n) verdicts), said.next (omega (arith, lt)));
      });
      prefix = record {
        stands = ⊎_elim (λ same. inl same) (λ one. inr (omega (arith, one.0), one.1)) k.prefix.stands;
        certain = λ more. k.prefix.certain (omega (arith, size, longer (take n verdicts), more));
      };
      spent = record {
        size = k.spent.size;
        others = k.spent.others;
        cause = k.spent.cause;
        blank = λ more signed. k.spent.blank (omega (arith, size, longer (take n verdicts), more)) signed;
      };
    }
  where
    rest_is : (a s rest more : List ℕ) → length a ≤ length s → s ++ rest ≡ a ++ more → drop (length a) s ++ rest ≡ more
    rest_is [] s rest more long is = is
    rest_is (x ∷ a) [] rest more long is = absurd (omega (arith, long))
    rest_is (x ∷ a) (y ∷ s) rest more long is = rest_is a s rest more (omega (arith, long)) (ap (drop 1) is)

-- the leaves of the answers of which any octet was sent ascend from the first unspent one, and are spent afterwards
module _ (m : Module) where
  kept_grows : (start : Standing) (verdicts : List Verdict) (now : Standing) (s : List ℕ) (n : ℕ) → Keeps m start verdicts now s n → spent_in start.row ≤ spent_in now.row
  kept_grows start verdicts now s n k = omega (
    arith,
    rows_grow start (take n verdicts),
    spent_le (after_all start (take n verdicts)).row now.row k.spent.size k.spent.others,
  )

  pub leaves_climb : (start : Standing) (verdicts : List Verdict) (now : Standing) (s : List ℕ) (n : ℕ) → Keeps m start verdicts now s n → Climbs (spent_in start.row) (leaves_in m start verdicts s) (spent_in now.row)
  leaves_climb start [] now s n k = kept_grows start [] now s n k
  leaves_climb start (verdict ∷ verdicts) now [] n k = kept_grows start (verdict ∷ verdicts) now [] n k
  leaves_climb start (verdict ∷ verdicts) now (octet ∷ octets) zero k =
      let s : List ℕ = octet ∷ octets in
      let said : Said m start (verdict ∷ verdicts) s 0 = said_of m start (verdict ∷ verdicts) s 0 k.sent in
      let flat : length (answers m start (verdict ∷ [])) ≡ length (answer m start verdict) = omega (arith, length-append (answer m start verdict) []) in
      let none : drop (length (answer m start verdict)) s ≡ [] = drop_all (length (answer m start verdict)) s (omega (arith, said.next (omega arith), flat)) in
      let first : Climbs (spent_in start.row) (leaf_if_signed start verdict) (spent_in now.row) = leaf_climbs (is_signed start verdict) (spent_in start.row) (spent_in now.row)
      (kept_grows start (verdict ∷ verdicts) now s 0 k)
      (λ signed. spent_lt start.row now.row k.spent.size k.spent.others (signed_parts start verdict signed).1 (k.spent.blank (omega arith) signed)) in
      climbs_then (spent_in start.row) (spent_in now.row) (spent_in now.row) (leaf_if_signed start verdict) (leaves_in m (after start verdict) verdicts (drop (length (answer m start verdict)) s)) first
      (subst (λ (l : List ℕ). Climbs (spent_in now.row) (leaves_in m (after start verdict) verdicts l) (spent_in now.row)) (sym none) (no_leaves (after start verdict) verdicts (spent_in now.row)))
    where
      no_leaves : (now : Standing) (verdicts : List Verdict) (q : ℕ) → Climbs q (leaves_in m now verdicts []) q
      no_leaves now [] q = omega arith
      no_leaves now (v ∷ vs) q = omega arith
  leaves_climb start (verdict ∷ verdicts) now (octet ∷ octets) (suc n) k =
      let s : List ℕ = octet ∷ octets in
      let long : length (answer m start verdict) ≤ length s = omega (arith, k.sent.whole, length-append (answer m start verdict) (answers m (after start verdict) (take n verdicts))) in
      climbs_then (spent_in start.row) (spent_in (after start verdict).row) (spent_in now.row) (leaf_if_signed start verdict) (leaves_in m (after start verdict) verdicts (drop (length (answer m start verdict)) s))
      (leaf_climbs (is_signed start verdict) (spent_in start.row) (spent_in (after start verdict).row) (after_grows start verdict) (signed_grows start verdict))
      (leaves_climb (after start verdict) verdicts now (drop (length (answer m start verdict)) s) n (keeps_rest m start verdict verdicts now s n long k))

module _ (one_standing : OneStanding) (m : Module) where
  pub life_climbs : (image : List ℕ) (from : Standing) (rounds : List Round) → Recovers image (module_board m from) → Follow m image rounds
      → (high : ℕ) × Climbs (spent_in from.row) (flat_map (leaves_of m) rounds) high
  life_climbs image from [] found follow = (spent_in from.row, omega arith)
  life_climbs image from (r ∷ rounds) found follow =
      let is : r.from ≡ from = begins one_standing m image from r found follow.0 follow.1 in
      let rest : (high : ℕ) × Climbs (spent_in r.to.row) (flat_map (leaves_of m) rounds) high = life_climbs r.end r.to rounds follow.1.to follow.2 in (
        rest.0,
        climbs_then (spent_in from.row) (spent_in r.to.row) rest.0 (leaves_of m r) (flat_map (leaves_of m) rounds)
            (climbs_lower (spent_in r.from.row) (spent_in from.row) (leaves_of m r) (spent_in r.to.row) (omega (arith, ap (λ (s : Standing). spent_in s.row) is)) (leaves_climb m r.from r.verdicts r.to r.sent r.whole follow.1.keeps))
            rest.1,
      )
