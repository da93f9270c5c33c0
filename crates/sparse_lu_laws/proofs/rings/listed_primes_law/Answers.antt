use Rattle.sparse_lu_laws.proofs.ListedPrimes.{prime_2, prime_3, prime_5, prime_7, prime_11}
use Rattle.sparse_lu_laws.proofs.ListedPrimes.{prime_13, prime_101, prime_65537, prime_998244353}
use Rattle.sparse_lu_laws.proofs.ListedPrimes.{prime_1000000007, prime_2305843009213693951}
use Rattle.sparse_lu_laws.proofs.rings.listed_primes_law.Goals as goal

pub returns-clause-p2 : goal.returns-clause-p2
returns-clause-p2 c = prime_2

pub returns-clause-p3 : goal.returns-clause-p3
returns-clause-p3 c = prime_3

pub returns-clause-p5 : goal.returns-clause-p5
returns-clause-p5 c = prime_5

pub returns-clause-p7 : goal.returns-clause-p7
returns-clause-p7 c = prime_7

pub returns-clause-p11 : goal.returns-clause-p11
returns-clause-p11 c = prime_11

pub returns-clause-p13 : goal.returns-clause-p13
returns-clause-p13 c = prime_13

pub returns-clause-p101 : goal.returns-clause-p101
returns-clause-p101 c = prime_101

pub returns-clause-p65537 : goal.returns-clause-p65537
returns-clause-p65537 c = prime_65537

pub returns-clause-p998244353 : goal.returns-clause-p998244353
returns-clause-p998244353 c = prime_998244353

pub returns-clause-p1000000007 : goal.returns-clause-p1000000007
returns-clause-p1000000007 c = prime_1000000007

pub returns-clause-p2305843009213693951 : goal.returns-clause-p2305843009213693951
returns-clause-p2305843009213693951 c = prime_2305843009213693951
