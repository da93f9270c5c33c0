-- The laws of the trait `Call`, which its impls cite: lemmas `.._listed` take the contract of a call over the type of
-- residues modulo m to the contract of a call with the modulus m; lemmas `.._unlisted` say that a call which returns
-- UnknownChoice and changes no array meets this contract if m is not listed. These lemmas are in specs/ since the law
-- of an impl may cite nothing from the proofs/ of its own crate.
use Rattle.std.specs.Prelude.{◌≡◌, ◌≤◌, ℕ, ℤ, pos, List, refl}
use Rattle.std.proofs.Common.{inl, inr, arith}
use Rattle.sparse_algebra.specs.ModNumbers.{mod_value}
use Rattle.sparse_algebra.specs.Moduli.{mod_ring}
use Rattle.sparse_algebra.specs.Plain.{Plain}
use Rattle.sparse_c.specs.Dense.{WritesNumbers}
use Rattle.sparse_c.specs.Factors.{FactorisesIn}
use Rattle.sparse_c.specs.Moduli.{moduli, IsFaultModulo, IsNoneOf}
use Rattle.sparse_c.specs.Pivots.{FindsPivot}
use Rattle.sparse_c.specs.Rooms.{held_in, AnswersIn, AreSameArrays, Shows, WritesIn}
use Rattle.sparse_c.specs.Scalars.{modulo, residues_of}
use Rattle.sparse_c.specs.Solved.{Divides, DividesIn, IsFaultOfQuotient}
use Rattle.sparse_c.specs.declared.arguments.FactorOutputArrays.{FactorOutputArrays}
use Rattle.sparse_c.specs.declared.arguments.Numbers.{Numbers}
use Rattle.sparse_c.specs.declared.arguments.Quotient.{Quotient}
use Rattle.sparse_c.specs.declared.arguments.OutputArrays as borrowed
use Rattle.sparse_c.specs.declared.arguments.Factored.{Factored}
use Rattle.c_arrays.proofs.ValidStatuses.{other}
use Rattle.c_arrays.specs.Arrays.{OutputArrays}
use Rattle.c_arrays.specs.Refused.{IsRefusedFor}
use Rattle.c_arrays.specs.Statuses.{number_of, FindsNoFault}
use Rattle.c_arrays.specs.Written.{WritesRows}
use Rattle.c_arrays.specs.declared.refusal.Refusal.{Refusal}
use Rattle.c_arrays.specs.declared.refusal.Refusal.TheVariants.{UnknownChoice}

-- the status of UnknownChoice is not among those of calls whose operands have no fault
never : {X : Type 0} → FindsNoFault (number_of UnknownChoice) → X
never told = absurd (other 7 (omega arith) (omega arith) (omega arith) told)

not_done : {X : Type 0} → number_of UnknownChoice ≡ pos 0 → X
not_done done = never (inl done)

unlisted_refused : {Fault : Refusal → Type 0} {Small : Type 0} (m : ℕ) → IsNoneOf moduli m
    → IsRefusedFor (IsFaultModulo m Fault) Small (number_of UnknownChoice)
unlisted_refused m none = (UnknownChoice, refl, inl (inr (inl (refl, none))))

-- an error of a call over a ring is an error of a call with a modulus
refused_modulo : {Fault : Refusal → Type 0} {Small : Type 0} (m : ℕ) {status : ℤ}
    → IsRefusedFor Fault Small status → IsRefusedFor (IsFaultModulo m Fault) Small status
refused_modulo m refused = (
  refused.0,
  refused.1,
  elim refused.2 [
    | inl memory_or ↦ inl (elim memory_or [
      | inl memory ↦ inl memory
      | inr fault ↦ inr (inr fault)
    ])
    | inr small ↦ inr small
  ],
)

shown_modulo : (m : ℕ) {n : ℕ} {numbers : List ℤ} {status : ℤ} → m ≤ 9223372036854775808
    → Shows (residues_of m).IsShown n numbers status → Shows (modulo m).IsShown n numbers status
shown_modulo m short ensured = record { each = λ h k lt. ensured.each h k lt short }

same_arrays : (r : borrowed.OutputArrays) → AreSameArrays r r
same_arrays r = record { offsets = refl; indices = refl; values = refl; places = refl }

-- ---- any contract on the arrays of a CSR matrix

answers_listed : {Answer Wide : OutputArrays → OutputArrays → ℤ → Type 0} (m : ℕ) {before after : borrowed.OutputArrays}
    {status : ℤ} → m ≤ 9223372036854775808
    → (Answer (held_in before) (held_in after) status
    → Wide (held_in before) (held_in after) status)
    → AnswersIn (residues_of m) Answer before after status
    → AnswersIn (modulo m) Wide before after status
answers_listed m short wide ensured = record {
  answer = wide ensured.answer;
  shown = shown_modulo m short ensured.shown;
  arrays = ensured.arrays;
}

answers_unlisted : {Answer : OutputArrays → OutputArrays → ℤ → Type 0} (m : ℕ) (r : borrowed.OutputArrays)
    → Answer (held_in r) (held_in r) (number_of UnknownChoice)
    → AnswersIn (modulo m) Answer r r (number_of UnknownChoice)
answers_unlisted m r answer = record {
  answer = answer;
  shown = record { each = not_done };
  arrays = same_arrays r;
}

-- ---- calls that write a CSR matrix

module _ {Sound : Type 0} {Fault : Refusal → Type 0} where
  pub rows_listed : (m : ℕ) (a : Plain (mod_ring m)) (before after : borrowed.OutputArrays) (status : ℤ)
      → m ≤ 9223372036854775808 → WritesIn (residues_of m) Sound Fault a before after status
      → WritesIn (modulo m) Sound Fault a before after status
  rows_listed m a before after status short = answers_listed m short
      (λ (ensured : WritesRows Sound Fault a (held_in before) (held_in after) status). record {
        written = ensured.written;
        rest = ensured.rest;
        sound = ensured.sound;
        untouched = ensured.untouched;
        needed = ensured.needed;
        refused = λ h. refused_modulo m (ensured.refused h);
      })

  pub rows_unlisted : (m : ℕ) (a : Plain (mod_ring m)) (r : borrowed.OutputArrays) → IsNoneOf moduli m
      → WritesIn (modulo m) Sound Fault a r r (number_of UnknownChoice)
  rows_unlisted m a r none = answers_unlisted m r (record {
    written = not_done;
    rest = not_done;
    sound = never;
    untouched = λ _. (refl, λ _. refl);
    needed = λ small. never (inr (inl small));
    refused = λ _. unlisted_refused m none;
  })

-- ---- division

pub quotient_listed : (m : ℕ) (q : Quotient) (before after : borrowed.OutputArrays) (status : ℤ)
    → m ≤ 9223372036854775808 → DividesIn (residues_of m) q before after status
    → DividesIn (modulo m) q before after status
quotient_listed m q before after status short =
    answers_listed m short (λ (ensured : Divides (mod_ring m)
    (IsFaultOfQuotient (mod_ring m) (mod_value {m = m}) q.a q.divisor) q.a q.divisor
    (held_in before) (held_in after) status). record {
      written = ensured.written;
      rest = ensured.rest;
      sound = ensured.sound;
      untouched = ensured.untouched;
      needed = ensured.needed;
      refused = λ h. refused_modulo m (ensured.refused h);
    })

pub quotient_unlisted : (m : ℕ) (q : Quotient) (r : borrowed.OutputArrays) → IsNoneOf moduli m
    → DividesIn (modulo m) q r r (number_of UnknownChoice)
quotient_unlisted m q r none = answers_unlisted m r (record {
  written = not_done;
  rest = not_done;
  sound = never;
  untouched = λ _. (refl, λ _. refl);
  needed = λ small. never (inr (inl small));
  refused = λ _. unlisted_refused m none;
})

-- ---- factorisation

pub factors_listed : (m : ℕ) (s : Factored) (before after : FactorOutputArrays) (status : ℤ)
    → m ≤ 9223372036854775808 → FactorisesIn (residues_of m) s before after status
    → FactorisesIn (modulo m) s before after status
factors_listed m s before after status short ensured = record {
  answer = record {
    written = ensured.answer.written;
    rest = ensured.answer.rest;
    rest_diagonal = ensured.answer.rest_diagonal;
    sound = ensured.answer.sound;
    untouched = ensured.answer.untouched;
    untouched_diagonal = ensured.answer.untouched_diagonal;
    needed = ensured.answer.needed;
    refused = λ h. refused_modulo m (ensured.answer.refused h);
  };
  shown = shown_modulo m short ensured.shown;
  shown_diagonal = shown_modulo m short ensured.shown_diagonal;
  offsets = ensured.offsets;
  indices = ensured.indices;
  values = ensured.values;
  diagonal = ensured.diagonal;
  places = ensured.places;
}

pub factors_unlisted : (m : ℕ) (s : Factored) (r : FactorOutputArrays) → IsNoneOf moduli m
    → FactorisesIn (modulo m) s r r (number_of UnknownChoice)
factors_unlisted m s r none = record {
  answer = record {
    written = not_done;
    rest = not_done;
    rest_diagonal = not_done;
    sound = never;
    untouched = λ _. (refl, λ _. refl);
    untouched_diagonal = λ _. refl;
    needed = λ small. never (inr (inl small));
    refused = λ _. unlisted_refused m none;
  };
  shown = record { each = not_done };
  shown_diagonal = record { each = not_done };
  offsets = refl;
  indices = refl;
  values = refl;
  diagonal = refl;
  places = refl;
}

-- ---- the column at which a factorisation stops

pub pivot_listed : (m : ℕ) (s : Factored) (before after : ℕ) (status : ℤ)
    → m ≤ 9223372036854775808 → FindsPivot (residues_of m) s before after status
    → FindsPivot (modulo m) s before after status
pivot_listed m s before after status short ensured = record {
  found = ensured.found;
  sound = ensured.sound;
  untouched = ensured.untouched;
  refused = λ h. refused_modulo m (ensured.refused h);
}

pub pivot_unlisted : (m : ℕ) (s : Factored) (before : ℕ) → IsNoneOf moduli m
    → FindsPivot (modulo m) s before before (number_of UnknownChoice)
pivot_unlisted m s before none = record {
  found = not_done;
  sound = not_done;
  untouched = λ _. refl;
  refused = λ _. unlisted_refused m none;
}

-- ---- calls that write a dense matrix

module _ {Sound : Type 0} {Fault : Refusal → Type 0} {Holds Small : List ℤ → Type 0} {n : ℕ}
    (m : ℕ) where
  pub numbers_listed : (before after : Numbers) (status : ℤ) → m ≤ 9223372036854775808
      → WritesNumbers (residues_of m) Sound Fault Holds Small n before after status
      → WritesNumbers (modulo m) Sound Fault Holds Small n before after status
  numbers_listed before after status short ensured = record {
    answer = record {
      written = ensured.answer.written;
      rest = ensured.answer.rest;
      sound = ensured.answer.sound;
      untouched = ensured.answer.untouched;
      refused = λ h. refused_modulo m (ensured.answer.refused h);
    };
    shown = shown_modulo m short ensured.shown;
    array = ensured.array;
  }

  pub numbers_unlisted : (r : Numbers) → IsNoneOf moduli m
      → WritesNumbers (modulo m) Sound Fault Holds Small n r r (number_of UnknownChoice)
  numbers_unlisted r none = record {
    answer = record {
      written = not_done;
      rest = not_done;
      sound = never;
      untouched = λ _. refl;
      refused = λ _. unlisted_refused m none;
    };
    shown = record { each = not_done };
    array = refl;
  }
