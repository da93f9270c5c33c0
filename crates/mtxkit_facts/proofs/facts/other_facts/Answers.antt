use Rattle.mtxkit_texts.proofs.UnsupportedTexts.{not_whole}
use Rattle.mtxkit_facts.proofs.facts.other_facts.Goals as goal

pub place_facts-requires : goal.place_facts-requires
place_facts-requires c =
    not_whole c.args.text.now 1 _ (rw c.in-NotSupported.is at c.requires)
