-- What is kept while the lines are made: entries and attributes, in order. Nothing here has to be believed: no public
-- clause names it.
use Rattle.std.specs.Prelude.{◌≡◌, ◌↔◌, ℕ, List, ◌++◌, Contains, IsPermutation, bytes_eq, map}
use Rattle.std.specs.List.{IsDistinct, flat_map}
use Rattle.std.specs.List.Sorted.{IsSortedBy}
use Rattle.std.specs.Cmp.Lexicographic.{slice_cmp}
use Rattle.std.specs.Ordering.{nat_cmp, is_lt}
use Rattle.der_core.specs.Attribute.{Attribute}
use Rattle.der_core.specs.declared.attribute.Attr.{Attr}
use Rattle.cert_fields.specs.Constraints.{ContentConstraint}
use Rattle.cert_fields.specs.ConstraintsView.{entry_view}
use Rattle.cert_fields.specs.declared.entries.CccEntry.{CccEntry}
use Rattle.constraint_meet.specs.Permits.{any_content, values_in, IsCovered}
use Rattle.explain_text.specs.GrantText.{value_text}
use Rattle.explain_text.specs.Ordered.{AreExactly}

-- the content types don't descend
abbrev pub AscendByContent : List CccEntry → Type 0
AscendByContent entries = IsSortedBy (λ x y. is_lt (slice_cmp nat_cmp x.content y.content)) entries

-- the types of attributes don't descend
abbrev pub AscendByKind : List Attr → Type 0
AscendByKind attributes = IsSortedBy (λ x y. is_lt (slice_cmp nat_cmp x.kind y.kind)) attributes

-- entries are kept in another order; no content type stands twice
pub record AreKept (entries : List ContentConstraint) (ordered : List CccEntry) : Type 0 where
  pub differ : IsDistinct bytes_eq (map (λ e. e.content) entries)
  pub same : IsPermutation entries (map entry_view ordered)
  pub ascend : AscendByContent ordered

-- one of the entries is of this content type, and it isn't anyContentType
abbrev pub HasOwnType : List ContentConstraint → List ℕ → Type 0
HasOwnType entries content =
    ((entry : ContentConstraint) × Contains entries entry × (entry.content ≡ content)) × (content ≡ any_content → ⊥)

-- those of the attributes that are of this type
abbrev pub IsGroup : List Attribute → List ℕ → List Attribute → Type 0
IsGroup all kind group = (a : Attribute) → Contains group a ↔ (Contains all a × (a.kind ≡ kind))

-- a value is listed by one of these attributes, and each of them covers it
pub record IsOfEach (attributes : List Attribute) (value : List ℕ) : Type 0 where
  pub attribute : Attribute
  pub one : Contains attributes attribute
  pub listed : Contains (values_in attribute.values) value
  pub covered : (other : Attribute) → Contains attributes other → IsCovered other value

-- behind these octets come the values that all of these attributes allow
abbrev pub AddsValues : List Attribute → List ℕ → List ℕ → Type 0
AddsValues attributes before after =
    (values : List (List ℕ)) × AreExactly (IsOfEach attributes) values × (after ≡ before ++ flat_map value_text values)
