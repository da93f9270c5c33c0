use Rattle.std.proofs.Common.{◌≡◌, ℕ, ℤ, sym, subst, rules, to_z, of_z}
use Rattle.std.specs.Int.{w32}
use Rattle.sparse_c.specs.Scalars.{modulo}
use Rattle.sparse_c.proofs.moduli.run_modulo.Goals as goal

pub returns : goal.returns
returns g c =
    let status = c.run.result in
    let same : to_z w32 (of_z w32 status) ≡ status = search rules in
    let old = c.args.out.now in
    let new = c.run.new.out in
    subst (λ (s : ℕ × ℤ). g.C.Call.does (modulo s.0) c.args.call old new s.1)
    (λ k. (sym c.requires.is k, sym same k))
    (g.met.C.Call.listed g.row.M c.args.call old new status c.requires.short c.run.ensures)
