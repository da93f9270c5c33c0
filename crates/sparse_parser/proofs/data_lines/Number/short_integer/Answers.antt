use Rattle.sparse_parser.proofs.IntegerLaws.{signed_integer}
use Rattle.sparse_parser.proofs.data_lines.Number.short_integer.Goals as goal

pub returns : goal.returns
returns c = signed_integer c.args.self.now.word.now c.args.self.now.digits c.args.self.now.kind
    c.in_ok-digits.digits _ _ c.requires c.in_ok-digits.was c.starts_with_minus.ensures c.with_sign.ensures
