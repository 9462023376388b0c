-- The entry of a content type, found in another order.
use Rattle.std.proofs.Common.{◌≡◌, ℕ, List, [], ◌∷◌, map, Option, Some, None, Bor, refl, sym, ap, subst, ◌∙◌}
use Rattle.std.specs.Prelude.{Contains, IfSome, IfNone}
use Rattle.std.specs.List.{AllByRecursion}
use Rattle.std.proofs.lemmas.List.Sorted.{Contains-permutation, IsPermutation-sym}
use Rattle.der_core.specs.Reads.{Answers}
use Rattle.cert_fields.specs.Constraints.{ContentConstraint}
use Rattle.cert_fields.specs.ConstraintsView.{entry_view}
use Rattle.cert_fields.specs.declared.entries.CccEntry.{CccEntry}
use Rattle.constraint_meet.specs.Grants.{Members}
use Rattle.constraint_meet.specs.Permits.{any_content, entry_for, or_else, deciding}
use Rattle.constraint_meet.proofs.Members.{own, none_has}
use Rattle.explain_text.specs.Granted.{IsNamed, sources_of}
use Rattle.explain_text.specs.Kept.{AreKept}
use Rattle.explain_text.proofs.Elements.{contains_first, contains_later, contains_map, contains_unmap}

-- ---- an entry

pub found_is : (entries : List ContentConstraint) (ordered : List CccEntry) (content : List ℕ) → AreKept entries ordered
    → (entry : CccEntry) → Contains ordered entry → entry.content ≡ content
    → entry_for content entries ≡ Some (entry_view entry)
found_is entries ordered content kept entry at is =
    subst (λ type. entry_for type entries ≡ Some (entry_view entry)) is
    (own entries (entry_view entry) kept.differ
    (Contains-permutation (map entry_view ordered) entries (entry_view entry)
    (IsPermutation-sym entries (map entry_view ordered) kept.same) (contains_map entry_view ordered entry at)))

pub none_is : (entries : List ContentConstraint) (ordered : List CccEntry) (content : List ℕ) → AreKept entries ordered
    → ((entry : CccEntry) → Contains ordered entry → entry.content ≡ content → ⊥) → entry_for content entries ≡ None
none_is entries ordered content kept none =
    none_has content entries
    (λ other at same.
    let found = contains_unmap entry_view ordered other
    (Contains-permutation entries (map entry_view ordered) other kept.same at) in
    none found.0 found.1 (ap (λ e. e.content) found.2 ∙ same))

pub answers : (entries : List ContentConstraint) (ordered : List CccEntry) (content : List ℕ) → AreKept entries ordered
    → (result : Option (Bor CccEntry))
    → IfSome result (λ entry. Contains ordered entry.now × (entry.now.content ≡ content))
    → IfNone result ((entry : CccEntry) → Contains ordered entry → entry.content ≡ content → ⊥)
    → Answers (λ e. entry_view e.now) result (entry_for content entries)
answers entries ordered content kept None found none = none_is entries ordered content kept none
answers entries ordered content kept (Some entry) found none =
    found_is entries ordered content kept entry.now found.0 found.1

-- ---- types that no member names

either_itself : (o : Option ContentConstraint) → or_else o o ≡ o
either_itself None = refl
either_itself (Some entry) = refl

pub unnamed_decides : (content : List ℕ) (entries : List ContentConstraint)
    → ((entry : ContentConstraint) → Contains entries entry → entry.content ≡ content → ⊥)
    → deciding content entries ≡ deciding any_content entries
unnamed_decides content entries none =
    ap (λ own. or_else own (entry_for any_content entries)) (none_has content entries none)
    ∙ sym (either_itself (entry_for any_content entries))

unnamed_more : (entries : List ContentConstraint) (members : Members) (content : List ℕ)
    → (IsNamed (entries ∷ members) content → ⊥) → IsNamed members content → ⊥
unnamed_more entries members content none named =
    none (record {
      entries = named.entries;
      member = contains_later entries named.entries members named.member;
      entry = named.entry;
      one = named.one;
      is = named.is;
    })

unnamed_first : (entries : List ContentConstraint) (members : Members) (content : List ℕ)
    → (IsNamed (entries ∷ members) content → ⊥)
    → deciding content entries ≡ deciding any_content entries
unnamed_first entries members content none =
    unnamed_decides content entries
    (λ entry at is. none (record {
      entries = entries;
      member = contains_first entries members;
      entry = entry;
      one = at;
      is = is;
    }))

pub all_decide : (members : Members) (content : List ℕ) → (IsNamed members content → ⊥)
    → AllByRecursion (λ entries. deciding content entries ≡ deciding any_content entries) members
all_decide [] content none = tt
all_decide (entries ∷ members) content none = (
  unnamed_first entries members content none,
  all_decide members content (unnamed_more entries members content none),
)

pub same_sources : (members : Members) (content : List ℕ) → (IsNamed members content → ⊥)
    → sources_of content members ≡ sources_of any_content members
same_sources [] content none = refl
same_sources (entries ∷ members) content none =
    rw (unnamed_first entries members content none, same_sources members content (unnamed_more entries members content none))
    refl
