use Rattle.mtxkit_texts.proofs.UnsupportedTexts.{not_carried}
use Rattle.mtxkit_texts.proofs.any_field.load_unsupported.Goals as goal

pub load_ones-requires : goal.load_ones-requires
load_ones-requires c =
    not_carried c.args.text.now c.args.number _ (rw c.in-NotSupported.is at c.requires)
