-- A lane as a list of indices.
use Rattle.std.proofs.Common.{ℕ, ◌<◌, ◌↔◌, List, Contains, ◌∙◌}
use Rattle.std.proofs.lemmas.List.{get_or_default}
use Rattle.sparse_pattern.specs.Raw.{Raw, lane_of, IsValid, IsEntry}
use Rattle.sparse_pattern.proofs.SameEntries.{Has, has_from_entry, entry_from_has}

pub has_from_contains : (xs : List ℕ) (x : ℕ) → Contains xs x → Has xs x
has_from_contains xs x h = record {
  at = h.0;
  within = h.1;
  is = get_or_default xs h.0 0 x h.1
      ∙ h.2;
}

pub contains_from_has : (xs : List ℕ) (x : ℕ) → Has xs x → Contains xs x
contains_from_has xs x h = (h.at, h.within, get_or_default xs h.at x 0 h.within ∙ h.is)

-- the elements of the lane i are the indices j of its entries (i, j)
pub lane_has : (d : Raw) → IsValid d → (i j : ℕ) → i < d.major_dim
    → Contains (lane_of d i) j ↔ IsEntry d i j
lane_has d valid i j lt = (
  λ h. entry_from_has d i j lt (valid.lanes i lt) (has_from_contains (lane_of d i) j h),
  λ place. contains_from_has (lane_of d i) j (has_from_entry d i j (valid.lanes i lt) place),
)
