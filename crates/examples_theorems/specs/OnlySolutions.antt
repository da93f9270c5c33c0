-- Systems of equations with one solution.
use Rattle.nalgebra_sparse.specs.Algebra.{CommRing}
use Rattle.nalgebra_sparse.specs.Plain.{Plain, plain_product}
use Rattle.nalgebra_sparse.specs.Solutions.{HasSameValues}

module _ (R : CommRing) where
  -- the product of s and x has the values of b
  abbrev pub Solves : Plain R → Plain R → Plain R → Type 0
  Solves s x b = HasSameValues R s.rows b.cols (plain_product R s x) b

  -- x is a solution, and every solution has its values
  pub record IsOnlySolution (s x b : Plain R) : Type 0 where
    pub solution : Solves s x b
    pub only : (y : Plain R) → Solves s y b → HasSameValues R s.cols b.cols y x
