-- The raw data in the data struct of a pattern.
use Rattle.sparse_pattern.specs.Raw.{Raw, raw_of}
use Rattle.sparse_serde_pattern.specs.declared.PatternData.{PatternData}

-- the raw data in the struct
abbrev pub pattern_in : PatternData → Raw
pattern_in d = raw_of d.major_dim d.minor_dim d.major_offsets.items d.minor_indices.items
