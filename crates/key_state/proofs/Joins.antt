-- Two histories, one after the other.
use Rattle.std.proofs.Common.{◌≡◌, List, [], ◌∷◌, ◌++◌, ℕ, ap, refl, sym, ◌∙◌, subst}
use Rattle.key_state.specs.Row.{spent_in}
use Rattle.key_state.specs.Histories.{Event, IsHistory, Leads, doubt_after, leaves_given, row_after}
use Rattle.key_state.specs.Histories.Event.{gives, fails, cuts}

-- the second goes on where the first ended
both_happen : (events later : List Event) (row doubt : List ℕ) → IsHistory row doubt events
    → IsHistory (row_after row events) (doubt_after row doubt events) later → IsHistory row doubt (events ++ later)
both_happen [] later row doubt first second = second
both_happen (gives leaf next ∷ events) later row doubt first second =
    (first.0, both_happen events later next [] first.1 second)
both_happen (fails next ∷ events) later row doubt first second =
    (first.0, both_happen events later next (doubt ++ spent_in row ∷ []) first.1 second)
both_happen (cuts next ∷ events) later row doubt first second =
    (first.0, both_happen events later next [] first.1 second)

row_then : (events later : List Event) (row : List ℕ)
    → row_after row (events ++ later) ≡ row_after (row_after row events) later
row_then [] later row = refl
row_then (gives leaf next ∷ events) later row = row_then events later next
row_then (fails next ∷ events) later row = row_then events later next
row_then (cuts next ∷ events) later row = row_then events later next

doubt_then : (events later : List Event) (row doubt : List ℕ)
    → doubt_after row doubt (events ++ later) ≡ doubt_after (row_after row events) (doubt_after row doubt events) later
doubt_then [] later row doubt = refl
doubt_then (gives leaf next ∷ events) later row doubt = doubt_then events later next []
doubt_then (fails next ∷ events) later row doubt = doubt_then events later next (doubt ++ spent_in row ∷ [])
doubt_then (cuts next ∷ events) later row doubt = doubt_then events later next []

-- both lead from the first's start to the second's end
pub leads_then : (row doubt : List ℕ) (events : List Event) (middle middle_doubt : List ℕ) (later : List Event)
    (end end_doubt : List ℕ) → Leads row doubt events middle middle_doubt
    → Leads middle middle_doubt later end end_doubt → Leads row doubt (events ++ later) end end_doubt
leads_then row doubt events middle middle_doubt later end end_doubt first second =
    let then : Leads (row_after row events) (doubt_after row doubt events) later end end_doubt =
    subst (λ (d : List ℕ). Leads (row_after row events) d later end end_doubt) first.doubt_at_end
    (subst (λ (r : List ℕ). Leads r middle_doubt later end end_doubt) first.row_at_end second) in
    record {
      history = both_happen events later row doubt first.history then.history;
      row_at_end = then.row_at_end ∙ sym (row_then events later row);
      doubt_at_end = then.doubt_at_end ∙ sym (doubt_then events later row doubt);
    }

-- and give what both give
pub given_then : (events later : List Event) → leaves_given (events ++ later) ≡ leaves_given events ++ leaves_given later
given_then [] later = refl
given_then (gives leaf next ∷ events) later = ap (λ (l : List ℕ). leaf ∷ l) (given_then events later)
given_then (fails next ∷ events) later = given_then events later
given_then (cuts next ∷ events) later = given_then events later
