-- The definitions that the contracts of the library cite, and those that an implementation of
-- `Ring` needs.
-- A crate above names them by `Rattle.nalgebra_sparse.specs.Plain.{Plain}` and the like.

-- rings, sums, plain matrices and their algebra
pub use Rattle.sparse_algebra.specs.Algebra
pub use Rattle.sparse_algebra.proofs.RingLemmas
pub use Rattle.sparse_algebra.proofs.SumLemmas
pub use Rattle.sparse_algebra.specs.Classes
pub use Rattle.sparse_algebra.specs.Numbers
pub use Rattle.sparse_algebra.specs.Plain
pub use Rattle.sparse_algebra.specs.Residues
pub use Rattle.sparse_algebra.specs.RingMaps
pub use Rattle.sparse_algebra.specs.Sums
pub use Rattle.sparse_algebra.specs.Whole
pub use Rattle.sparse_algebra.specs.Wrapping
-- inverses, residues, wide wrapping integers
pub use Rattle.sparse_algebra.specs.Inverses
pub use Rattle.sparse_algebra.specs.ModNumbers
pub use Rattle.sparse_algebra.specs.Moduli
pub use Rattle.sparse_algebra.specs.WrappingValues
-- dual numbers, Gaussian numbers and pairs
pub use Rattle.sparse_rings.specs.ChineseRemainders
pub use Rattle.sparse_rings.specs.Closed
pub use Rattle.sparse_rings.specs.DualMatrices
pub use Rattle.sparse_rings.specs.DualRing
pub use Rattle.sparse_rings.specs.GaussianRing
pub use Rattle.sparse_rings.specs.PairRing
pub use Rattle.sparse_rings.specs.RingValues
-- operands and the errors of operations
pub use Rattle.sparse_algebra.specs.Operands
pub use Rattle.sparse_algebra.specs.Prealloc
-- counting by keys
pub use Rattle.sparse_pattern.specs.Counting
-- patterns, format errors and entries
pub use Rattle.sparse_pattern.specs.FirstFault
pub use Rattle.sparse_pattern.specs.PatternData
pub use Rattle.sparse_pattern.specs.PatternFaults
pub use Rattle.sparse_pattern.specs.Raw
pub use Rattle.sparse_pattern.specs.Refill
pub use Rattle.sparse_pattern.specs.Rest
pub use Rattle.sparse_pattern.specs.SparseEntries
pub use Rattle.sparse_pattern.specs.TransposedPattern
-- coordinate lists and dense matrices
pub use Rattle.sparse_coo_dense.specs.Blocks
pub use Rattle.sparse_coo_dense.specs.Coo
pub use Rattle.sparse_coo_dense.specs.CooData
pub use Rattle.sparse_coo_dense.specs.CooEquality
pub use Rattle.sparse_coo_dense.specs.CooLending
pub use Rattle.sparse_coo_dense.specs.CooPlain
pub use Rattle.sparse_coo_dense.specs.Dense
pub use Rattle.sparse_coo_dense.specs.DenseEquality
pub use Rattle.sparse_coo_dense.specs.DenseLending
pub use Rattle.sparse_coo_dense.specs.DensePlain
pub use Rattle.sparse_coo_dense.specs.TripletFaults
-- the core of CSR and CSC
pub use Rattle.sparse_compressed.specs.ChangedValues
pub use Rattle.sparse_compressed.specs.ColumnOrder
pub use Rattle.sparse_compressed.specs.Compressed
pub use Rattle.sparse_compressed.specs.Filter
pub use Rattle.sparse_compressed.specs.LaneEquality
pub use Rattle.sparse_compressed.specs.Lanes
pub use Rattle.sparse_compressed.specs.Laws
pub use Rattle.sparse_compressed.specs.MutIterators
pub use Rattle.sparse_compressed.specs.PlainOfLanes
pub use Rattle.sparse_compressed.specs.SortedFaults
pub use Rattle.sparse_compressed.specs.ArraysDeterminePlain
pub use Rattle.sparse_compressed.specs.StoredEntries
pub use Rattle.sparse_compressed.specs.TransposedMatrix
pub use Rattle.sparse_compressed.specs.UnsortedFaults
pub use Rattle.sparse_compressed.specs.Writing
-- rows, columns and their iterators
pub use Rattle.sparse_rows_cols.specs.ColWriting
pub use Rattle.sparse_rows_cols.specs.RowWriting
-- CSR and CSC
pub use Rattle.sparse_csr_csc.specs.CscData
pub use Rattle.sparse_csr_csc.specs.CscWriting
pub use Rattle.sparse_csr_csc.specs.CsrData
pub use Rattle.sparse_csr_csc.specs.CsrWriting
-- sparse vectors and dense ones
pub use Rattle.sparse_dense_ops.specs.SparseVectors
-- conversions
pub use Rattle.sparse_convert.specs.FromDense
pub use Rattle.sparse_convert.specs.OneMatrix
pub use Rattle.sparse_convert.proofs.MatrixLists
pub use Rattle.sparse_convert.specs.ToDense
-- sums and differences
pub use Rattle.sparse_sums.specs.PatternSums
-- products
pub use Rattle.sparse_products.specs.Products
pub use Rattle.sparse_products.specs.ScalarProducts
-- products with dense matrices
pub use Rattle.sparse_dense_ops.specs.DenseOperands
-- triangular systems and division
pub use Rattle.sparse_dense_ops.specs.Quotients
pub use Rattle.sparse_dense_ops.specs.Solutions
-- the symbolic factor
pub use Rattle.sparse_factor.specs.Fill
pub use Rattle.sparse_factor.specs.Symbolic
pub use Rattle.sparse_factor.specs.FillPaths
-- exact factorisations
pub use Rattle.sparse_factor.specs.Factorisations
pub use Rattle.sparse_factor.specs.Factors
-- Matrix Market texts: grammar and meaning
pub use Rattle.sparse_parser.specs.ArrayPlaces
pub use Rattle.sparse_parser.specs.Bytes
pub use Rattle.sparse_parser.specs.ErrorTexts
pub use Rattle.sparse_parser.specs.Errors
pub use Rattle.sparse_parser.specs.Grammar
pub use Rattle.sparse_parser.specs.Header
pub use Rattle.sparse_parser.specs.Meaning
pub use Rattle.sparse_parser.specs.Reads
pub use Rattle.sparse_parser.specs.Scalars
pub use Rattle.sparse_parser.specs.Words
-- the causes of errors in texts, and their kinds
pub use Rattle.sparse_parser.specs.declared.error.Cause
pub use Rattle.sparse_parser.specs.declared.error.MatrixMarketErrorKind
-- scalar types of texts
pub use Rattle.sparse_market_scalar.specs.IntegerTexts
pub use Rattle.sparse_market_scalar.specs.ScalarTypes
-- permutations
pub use Rattle.sparse_permutation.specs.PermutationFaults
pub use Rattle.sparse_permutation.specs.Permutations
pub use Rattle.sparse_permutation.specs.PermutedPatterns
pub use Rattle.sparse_permutation.specs.PermutedPlain
pub use Rattle.sparse_permutation.specs.declared.error.PermutationError
pub use Rattle.sparse_permutation.specs.declared.error.PermuteError
-- reading and writing
pub use Rattle.sparse_io.specs.Banners
pub use Rattle.sparse_io.specs.declared.banner.Banner
pub use Rattle.sparse_io.specs.Export
pub use Rattle.sparse_io.specs.Files
pub use Rattle.sparse_io.specs.Out
pub use Rattle.sparse_io.specs.Sink
pub use Rattle.sparse_io.specs.Written
-- expressions
pub use Rattle.sparse_expr.specs.OneTree
pub use Rattle.sparse_expr.specs.PostfixWords
pub use Rattle.sparse_expr.specs.Run
pub use Rattle.sparse_expr.specs.Value
