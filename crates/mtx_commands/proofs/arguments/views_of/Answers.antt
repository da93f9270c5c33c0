use Rattle.std.proofs.Common.{rules, string_bytes}
use Rattle.std.proofs.lemmas.Iterator.{YieldsList-from_map_by, YieldsList-from_slice}
use Rattle.std.proofs.lemmas.Iterator.Consumers.{map_from_collect}
use Rattle.mtx_commands.proofs.arguments.views_of.Goals as goal

pub returns-clause-same : goal.returns-clause-same
returns-clause-same c = map_from_collect _ c.collect.ensures.ran
    (YieldsList-from_map_by _ (λ view. view.now) string_bytes
    (YieldsList-from_slice c.args.strings.now (cc)) (cc) (λ x r q k. search rules))
