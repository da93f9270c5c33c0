-- Equivalences between alternatives, for the elements of a list before and after one is added.
use Rattle.std.proofs.Common.{◌⊎◌, ◌↔◌, rules}

pub both_ways : {A B C : Type 0} → A ↔ B → B ↔ C → A ↔ C
both_ways a b = search rules

pub other_way : {A B : Type 0} → A ↔ B → B ↔ A
other_way a = (a.1, a.0)

-- the second alternative is replaced by an equivalent one
pub in_second : {A B C D : Type 0} → A ↔ (B ⊎ C) → C ↔ D → A ↔ (B ⊎ D)
in_second a c = search rules

-- ---- M is B or E, which is new

-- nothing is new
pub none_grown : {A B E M : Type 0} → A ↔ B → M ↔ (B ⊎ E) → (E → ⊥) → A ↔ M
none_grown same part none = search rules

-- what is new does not have the property P, so A is the same
pub part_unchanged : {A B E M P : Type 0} → A ↔ (B × P) → M ↔ (B ⊎ E) → (E → P → ⊥) → A ↔ (M × P)
part_unchanged before part fails = search rules

-- what is new has the property P, and W is A or what is new
pub part_added : {W A B E M P : Type 0} → W ↔ (A ⊎ E) → A ↔ (B × P) → M ↔ (B ⊎ E) → (E → P)
    → W ↔ (M × P)
part_added whole before part holds = search rules

-- W is A or what is new, and A has the alternatives B and C: the first grows
pub first_grown : {W A B C E M : Type 0} → W ↔ (A ⊎ E) → A ↔ (B ⊎ C) → M ↔ (B ⊎ E) → W ↔ (M ⊎ C)
first_grown whole before part = search rules

pub second_grown : {W A B C E M : Type 0} → W ↔ (A ⊎ E) → A ↔ (B ⊎ C) → M ↔ (C ⊎ E) → W ↔ (B ⊎ M)
second_grown whole before part = search rules

-- the first alternative grows by what is in the second too
pub first_shared : {W B C E M : Type 0} → W ↔ (B ⊎ C) → M ↔ (B ⊎ E) → (E → C) → W ↔ (M ⊎ C)
first_shared whole part share = search rules
