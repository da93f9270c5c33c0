use Rattle.std.proofs.Common.{◌≡◌, ◌<◌, ◌*◌, length, sym, subst, ◌∙◌, rules, refl, to_z, of_z}
use Rattle.std.specs.Int.{w32}
use Rattle.sparse_algebra.specs.Plain.{Plain}
use Rattle.c_arrays.specs.Arrays.{HoldsDense}
use Rattle.c_arrays.specs.Reduced.{FirstAre}
use Rattle.c_arrays.specs.Rests.{KeepsBehind}
use Rattle.c_arrays.proofs.ValidStatuses.{FindsNoFault-sound, system_finds_fault}
use Rattle.c_arrays.proofs.Joining.{found, refused}
use Rattle.sparse_c.proofs.operations.dense.DenseOperandsCallNumbers.run.Goals as goal

pub returns : goal.returns
returns g c =
    let status = c.finish_dense.result in
    let same : to_z w32 (of_z w32 status) ≡ status = search rules in
    let R = g.T.Ring.ring in
    let f = c.args.self in
    let answer = c.dense_product.result in
    let ensured = c.dense_product.ensures in
    let ended = c.finish_dense.ensures in
    let old = c.args.out.now.values.now in
    let new = c.finish_dense.new.values in
    record {
      answer = record {
        written = λ h.
            let p = found answer ensured.plain (ended.written (sym same ∙ h)) in
            subst (λ (x : Plain R). HoldsDense x new) p.1.0 p.1.1;
        rest = λ h.
            let p = found answer ensured.plain (ended.rest (sym same ∙ h)) in
            subst (λ (x : Plain R). KeepsBehind (x.rows * x.cols) old new) p.1.0 p.1.1;
        sound = FindsNoFault-sound _ _ answer status _ same ensured.sound ensured.fault
            (λ e fault told. absurd (system_finds_fault f.a f.inner f.cols f.b.now e fault told))
            ended.written ended.refused;
        untouched = λ h. ended.untouched (λ e. h (same ∙ e));
        refused = λ h. refused answer ensured.plain status _ same ensured.fault (λ e given. given)
            (λ d p small. subst (λ (x : Plain R). length old < x.rows * x.cols) p small)
            (ended.refused (λ e. h (same ∙ e)));
      };
      shown = record {
        each = λ h.
            let p = found answer ensured.plain (ended.shown (sym same ∙ h)) in
            subst (λ (x : Plain R). FirstAre g.T.Number.is_shown (x.rows * x.cols) new) p.1.0 p.1.1;
      };
      array = refl;
    }
