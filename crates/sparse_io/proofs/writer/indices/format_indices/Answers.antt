use Rattle.std.proofs.Common.{◌≡◌, ℕ, ◌-◌, ◌<◌, ◌^◌, List, [], ◌∷◌, ◌++◌, length, take, drop, sym}
use Rattle.std.proofs.Common.{◌∙◌, subst, arith, take_all, length-drop}
use Rattle.std.specs.Fmt.{decimal}
use Rattle.std.specs.Str.{IsAscii, IsUtf8}
use Rattle.std.proofs.lemmas.Fmt.{IsAscii-decimal}
use Rattle.std.proofs.lemmas.List.{drop_all}
use Rattle.std.proofs.lemmas.Str.{IsAscii-append, IsUtf8-from_ascii}
use Rattle.std.proofs.lemmas.Str.Ascii.{IsAscii-cons, IsAscii-nil}
use Rattle.sparse_io.proofs.writer.indices.format_indices.Goals as goal

abbrev field : ℕ → List ℕ → List ℕ
field number after = decimal number ++ 32 ∷ after

-- both fields, from the offset at which the first one starts
fields : (old mid new : List ℕ) (row col end start : ℕ) → length old ≡ 42 → length new ≡ 42
    → drop end mid ≡ field col (drop 42 old)
    → drop start new ≡ field row (drop end mid) → take (42 - start) (drop start new) ≡ field row
    (field col [])
fields old mid new row col end start l l' p q =
    rw (
      take_all (42 - start) (drop start new) (omega (arith, length-drop start new)),
      q,
      p,
      drop_all 42 old (omega arith),
    )

field-IsAscii : (number : ℕ) (after : List ℕ) → number < 2 ^ 64 → IsAscii after
    → IsAscii (field number after)
field-IsAscii number after small h = IsAscii-append (decimal number) (32 ∷ after)
    (IsAscii-decimal number small) (IsAscii-cons 32 after (omega arith) h)

pub from_utf8_unchecked-requires : goal.from_utf8_unchecked-requires
from_utf8_unchecked-requires c =
    let ascii = field-IsAscii c.args.row (field c.args.col []) (omega arith)
    (field-IsAscii c.args.col [] (omega arith) IsAscii-nil) in
    let same = fields c.args.bytes.now c.write_field-end.new.bytes c.write_field-start.new.bytes
    c.args.row c.args.col c.write_field-end.result c.write_field-start.result
    c.told-bytes (omega arith) c.write_field-end.ensures.written
    c.write_field-start.ensures.written in
    subst IsUtf8 (sym same) (IsUtf8-from_ascii _ ascii)

pub returns : goal.returns
returns c =
    c.from_utf8_unchecked.ensures
    ∙ fields c.args.bytes.now c.write_field-end.new.bytes c.write_field-start.new.bytes c.args.row
    c.args.col c.write_field-end.result c.write_field-start.result
    c.told-bytes (omega arith) c.write_field-end.ensures.written c.write_field-start.ensures.written
