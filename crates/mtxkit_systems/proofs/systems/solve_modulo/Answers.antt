use Rattle.std.proofs.Common.{◌≡◌, ℕ, ℤ, true, Option, Some, None, Result, refl, rules, sym, subst}
use Rattle.sparse_coo_dense.specs.Coo.{Coo}
use Rattle.mtxkit_matrices.specs.declared.orders.EliminationOrder.{EliminationOrder}
use Rattle.mtxkit_texts.specs.declared.failure.Failure.{Failure}
use Rattle.mtxkit_eval.specs.Rings.{ring_of, reduced_by, ring_value}
use Rattle.mtxkit_systems.specs.Systems.{IsSolved, IsSolvedBy}
use Rattle.mtxkit_systems.proofs.Solving.{is_listed, solved_by}
use Rattle.mtxkit_systems.proofs.systems.solve_modulo.Goals as goal

-- the same answer, by the modulus under another name
by_modulus : (m n : Option ℕ) (order : EliminationOrder) (a b : Coo ℤ)
    (solved : Result (Coo ℤ) Failure) → m ≡ n → is_listed n ≡ true
    → IsSolved (ring_of n) (ring_value n) (reduced_by n) m order a b solved
    → IsSolvedBy m order a b solved
by_modulus m n order a b solved e l is =
    subst (λ k. IsSolvedBy k order a b solved) (sym e)
    (solved_by n order a b solved l
    (subst (λ k. IsSolved (ring_of n) (ring_value n) (reduced_by n) k order a b solved) e is))

pub returns-in-None : goal.returns-in-None
returns-in-None c =
    by_modulus c.args.modulus None c.args.order c.args.a.now c.args.b.now c.solve_in.result c.in-None.is refl
    c.solve_in.ensures

pub returns-in-Some-eq2 : goal.returns-in-Some-eq2
returns-in-Some-eq2 c =
    let is : c.args.modulus ≡ Some 2 = search rules in
    by_modulus c.args.modulus (Some 2) c.args.order c.args.a.now c.args.b.now c.solve_in-in-Some-eq2.result is refl
    c.solve_in-in-Some-eq2.ensures

pub returns-in-Some-eq3 : goal.returns-in-Some-eq3
returns-in-Some-eq3 c =
    let is : c.args.modulus ≡ Some 3 = search rules in
    by_modulus c.args.modulus (Some 3) c.args.order c.args.a.now c.args.b.now c.solve_in-in-Some-eq3.result is refl
    c.solve_in-in-Some-eq3.ensures

pub returns-in-Some-eq5 : goal.returns-in-Some-eq5
returns-in-Some-eq5 c =
    let is : c.args.modulus ≡ Some 5 = search rules in
    by_modulus c.args.modulus (Some 5) c.args.order c.args.a.now c.args.b.now c.solve_in-in-Some-eq5.result is refl
    c.solve_in-in-Some-eq5.ensures

pub returns-in-Some-eq7 : goal.returns-in-Some-eq7
returns-in-Some-eq7 c =
    let is : c.args.modulus ≡ Some 7 = search rules in
    by_modulus c.args.modulus (Some 7) c.args.order c.args.a.now c.args.b.now c.solve_in-in-Some-eq7.result is refl
    c.solve_in-in-Some-eq7.ensures

pub returns-in-Some-eq11 : goal.returns-in-Some-eq11
returns-in-Some-eq11 c =
    let is : c.args.modulus ≡ Some 11 = search rules in
    by_modulus c.args.modulus (Some 11) c.args.order c.args.a.now c.args.b.now c.solve_in-in-Some-eq11.result is refl
    c.solve_in-in-Some-eq11.ensures

pub returns-in-Some-eq13 : goal.returns-in-Some-eq13
returns-in-Some-eq13 c =
    let is : c.args.modulus ≡ Some 13 = search rules in
    by_modulus c.args.modulus (Some 13) c.args.order c.args.a.now c.args.b.now c.solve_in-in-Some-eq13.result is refl
    c.solve_in-in-Some-eq13.ensures

pub returns-in-Some-eq101 : goal.returns-in-Some-eq101
returns-in-Some-eq101 c =
    let is : c.args.modulus ≡ Some 101 = search rules in
    by_modulus c.args.modulus (Some 101) c.args.order c.args.a.now c.args.b.now c.solve_in-in-Some-eq101.result is refl
    c.solve_in-in-Some-eq101.ensures

pub returns-in-Some-eq65537 : goal.returns-in-Some-eq65537
returns-in-Some-eq65537 c =
    let is : c.args.modulus ≡ Some 65537 = search rules in
    by_modulus c.args.modulus (Some 65537) c.args.order c.args.a.now c.args.b.now c.solve_in-in-Some-eq65537.result is refl
    c.solve_in-in-Some-eq65537.ensures

pub returns-in-Some-eq998244353 : goal.returns-in-Some-eq998244353
returns-in-Some-eq998244353 c =
    let is : c.args.modulus ≡ Some 998244353 = search rules in
    by_modulus c.args.modulus (Some 998244353) c.args.order c.args.a.now c.args.b.now c.solve_in-in-Some-eq998244353.result is refl
    c.solve_in-in-Some-eq998244353.ensures

pub returns-in-Some-eq1000000007 : goal.returns-in-Some-eq1000000007
returns-in-Some-eq1000000007 c =
    let is : c.args.modulus ≡ Some 1000000007 = search rules in
    by_modulus c.args.modulus (Some 1000000007) c.args.order c.args.a.now c.args.b.now c.solve_in-in-Some-eq1000000007.result is refl
    c.solve_in-in-Some-eq1000000007.ensures

pub returns-in-Some-eq2305843009213693951 : goal.returns-in-Some-eq2305843009213693951
returns-in-Some-eq2305843009213693951 c =
    let is : c.args.modulus ≡ Some 2305843009213693951 = search rules in
    by_modulus c.args.modulus (Some 2305843009213693951) c.args.order c.args.a.now c.args.b.now
    c.solve_in-in-Some-eq2305843009213693951.result is refl
    c.solve_in-in-Some-eq2305843009213693951.ensures
