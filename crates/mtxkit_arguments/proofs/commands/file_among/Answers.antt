use Rattle.std.proofs.Common.{◌≡◌, ◌-◌, ap, sym, ◌∙◌}
use Rattle.std.specs.Prelude.{slice_get}
use Rattle.std.specs.Option.{option_map}
use Rattle.mtxkit_arguments.proofs.Paths.{copied-at, path-at}
use Rattle.mtxkit_arguments.proofs.commands.file_among.Goals as goal

pub returns : goal.returns
returns c =
    let is : c.copied.result ≡ slice_get c.args.files.now (c.args.number - 1) =
    c.copied.ensures ∙ copied-at c.args.files.now (c.args.number - 1) c.get.result
    c.get.ensures.lookup.1 c.get.ensures.lookup.3 in
    ap (option_map (λ path. path.now)) is
    ∙ sym (path-at c.args.files.now c.args.number c.if-number-eq0.false)
