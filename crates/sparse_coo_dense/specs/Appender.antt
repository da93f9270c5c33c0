-- The value of a `CooAppender` in contracts.
use Rattle.std.specs.Prelude.{ℕ, refl}
use Rattle.std.specs.Coded.{Coded, code_by, coded×, coded_ℕ}
use Rattle.sparse_coo_dense.specs.Coo.{Coo, coo_code}

-- the matrix, and the number of triplets that can still be appended
pub record Appender (T : Type 0) : Type 0 where
  pub matrix : Coo T
  pub room : ℕ

abbrev pub appender_code : {T : Type 0} → Coded T → Coded (Appender T)
appender_code {T} code = code_by (Coo T × ℕ) (coded× (coo_code code) coded_ℕ)
    (λ a. (a.matrix, a.room)) (λ p. record { matrix = p.0; room = p.1 }) (λ _. refl)

abbrev pub appender_of : {T : Type 0} → Coo T → ℕ → Appender T
appender_of matrix room = record { matrix = matrix; room = room }
